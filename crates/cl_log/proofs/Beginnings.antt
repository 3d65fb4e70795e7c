-- A lawful log without its last records settles as it did, where of members of the history nothing is lost but Ends.
use Rattle.std.proofs.Common.{◌≡◌, ◌||◌, ℕ, ◌+◌, true, false, List, [], ◌∷◌, ◌++◌, length, refl, sym, ap, ◌∙◌, subst, arith}
use Rattle.std.proofs.lemmas.Bool.{false_from_ne_true, both_ways, eq-eqb, and_parts, and_from, not_from_false, or_right}
use Rattle.std.proofs.lemmas.List.{append_assoc, append-nil}
use Rattle.cl_types.specs.declared.operations.TxnId.{TxnId}
use Rattle.cl_types.specs.Places.{Place}
use Rattle.cl_types.proofs.Transactions.{same_txn-true}
use Rattle.cl_log.specs.declared.records.LogRec.{LogRec}
use Rattle.cl_log.specs.declared.records.LogRec.TheVariants.{Touch, Set, Add, Comp, Prepared, End, Decide}
use Rattle.cl_log.specs.LogEntry.{LogEntry, IsNumberedFrom, EachAfter}
use Rattle.cl_log.specs.Kind.{txn_of, is_end, is_mark, can_be_undone, undoes, number_before}
use Rattle.cl_log.specs.Lawful.{IsLawful, IsLawfulLog, UndoesFirst, LosesEndsOfMembers, is_decide}
use Rattle.cl_log.specs.Locks.{HasNoConflict}
use Rattle.cl_log.specs.Open.{has_begun, has_ended, is_open, is_among}
use Rattle.cl_log.specs.Rest.{rest_to_undo}
use Rattle.cl_log.specs.Settled.{settled}
use Rattle.cl_log.proofs.Conflicts.{HasNoConflict-lawful, is_undone-next, undoes_in_order-after}
use Rattle.cl_log.proofs.Entries.{EachAfter-append, EachAfter_push, IsNumberedFrom-append}
use Rattle.cl_log.proofs.KindFacts.{can_be_undone-opens}
use Rattle.cl_log.proofs.Rest.{first_of_rest_is}
use Rattle.cl_log.proofs.Settled.{has_begun-at, settled_after_mark, settled_after_write, settled_after_end, settled_after_undo}

-- what a record is, as far as the settled map goes
data IsSome (content : LogRec) : Type 0 where
  mark : is_mark content ≡ true → IsSome content
  write : can_be_undone content ≡ true → (is_mark content || is_end content) ≡ false → is_decide content ≡ false → IsSome content
  undo : (number : ℕ) → undoes number content ≡ true → (is_mark content || is_end content) ≡ false → is_decide content ≡ false → IsSome content
  end : is_end content ≡ true → IsSome content

kind_of : (content : LogRec) → IsSome content
kind_of (Touch txn table key mode) = mark refl
kind_of (Set txn table key before old new) = write refl refl refl
kind_of (Add txn table key before amount) = write refl refl refl
kind_of (Comp txn table key before undone form) = undo undone (eq-eqb undone undone refl) refl refl
kind_of (Prepared txn) = mark refl
kind_of (End txn commit) = end refl
kind_of (Decide txn) = mark refl

-- a transaction with a rest is open, where it has not ended
pub is_open-rest : (seen : List LogEntry) (txn : TxnId) (first : LogEntry) (others : List LogEntry) → rest_to_undo seen txn ≡ first ∷ others → has_ended seen txn ≡ false → is_open seen txn ≡ true
is_open-rest seen txn first others rest running =
    let is = first_of_rest_is seen txn first others rest in
    let parts = and_parts _ _ is.left in
    and_from _ _
    (ap (λ es. has_begun es txn) is.whole
    ∙ ap (has_begun (is.before ++ first ∷ is.after)) (sym (same_txn-true (txn_of first.content) txn parts.0))
    ∙ has_begun-at is.before first is.after (can_be_undone-opens first.content (and_parts _ _ parts.1).0))
    (not_from_false _ running)

-- one more lawful record, which is a mark or an End where its transaction is a member
pub settled_after_lawful : (history : List TxnId) (seen : List LogEntry) (entry : LogEntry) (n : ℕ) (place : Place) → IsNumberedFrom n (seen ++ entry ∷ []) → IsLawfulLog history seen →
    IsLawful history seen entry → (is_among (txn_of entry.content) history ≡ true → (is_mark entry.content || is_end entry.content) ≡ true) → settled (seen ++ entry ∷ []) history place ≡ settled seen history place
settled_after_lawful history seen entry n place numbers before lawful members =
    elim (kind_of entry.content) [
      | mark marks ↦ settled_after_mark seen entry history place marks
      | write undoable busy no_decide ↦
          settled_after_write seen entry history place undoable (lawful.unended no_decide)
          (outside busy)
          (is_undone-next n seen entry.number parts.0 (undoes_in_order-after history [] seen before) (omega (arith, parts.1.0)))
          (lawful.reversible undoable)
      | undo number names busy no_decide ↦ undoing (lawful.in_order number names) (outside busy) (lawful.unended no_decide)
      | end ends ↦ settled_after_end seen entry history place ends (lawful.settles ends)
    ]
  where
    parts : IsNumberedFrom n seen × IsNumberedFrom (n + length seen) (entry ∷ [])
    parts = IsNumberedFrom-append n seen (entry ∷ []) numbers

    outside : (is_mark entry.content || is_end entry.content) ≡ false → is_among (txn_of entry.content) history ≡ false
    outside f = false_from_ne_true _ (λ member. both_ways _ f (members member))

    undoing : UndoesFirst seen entry.content → is_among (txn_of entry.content) history ≡ false → has_ended seen (txn_of entry.content) ≡ false →
        settled (seen ++ entry ∷ []) history place ≡ settled seen history place
    undoing first out running =
        settled_after_undo seen n parts.0 (txn_of entry.content) first.first first.others first.is_first entry (number_before entry.content) first.is_undo
        history (is_open-rest seen (txn_of entry.content) first.first first.others first.is_first running) out (HasNoConflict-lawful history seen before) place

-- more lawful records, of which those of members are Ends
settled_after_lost : (history : List TxnId) (seen lost : List LogEntry) (n : ℕ) (place : Place) (any : List LogEntry) → IsNumberedFrom n (seen ++ lost) → IsLawfulLog history seen →
    EachAfter (IsLawful history) seen lost → EachAfter (λ _ entry. is_among (txn_of entry.content) history ≡ true → is_end entry.content ≡ true) any lost →
    settled (seen ++ lost) history place ≡ settled seen history place
settled_after_lost history seen [] n place any numbers before lawful members = ap (λ es. settled es history place) (append-nil seen)
settled_after_lost history seen (x ∷ xs) n place any numbers before lawful members =
    let again = append_assoc seen (x ∷ []) xs in
    let numbers' = subst (IsNumberedFrom n) (sym again) numbers in
    ap (λ es. settled es history place) (sym again)
    ∙ settled_after_lost history (seen ++ x ∷ []) xs n place (any ++ x ∷ []) numbers' (EachAfter_push (IsLawful history) [] seen x before lawful.0) lawful.1 members.1
    ∙ settled_after_lawful history seen x n place (IsNumberedFrom-append n (seen ++ x ∷ []) xs numbers').0 before lawful.0 (λ member. or_right _ _ (members.0 member))

-- a beginning of a lawful log that has all records of members but their Ends settles as the log does
pub settled-beginning : (history : List TxnId) (entries front lost : List LogEntry) (n : ℕ) → IsNumberedFrom n entries → IsLawfulLog history entries →
    entries ≡ front ++ lost → LosesEndsOfMembers history lost → (place : Place) → settled front history place ≡ settled entries history place
settled-beginning history entries front lost n numbers lawful parts members place =
    let both = EachAfter-append (IsLawful history) [] front lost (subst (IsLawfulLog history) parts lawful) in
    sym (settled_after_lost history front lost n place [] (subst (IsNumberedFrom n) parts numbers) both.0 both.1 members)
    ∙ ap (λ es. settled es history place) (sym parts)

-- a lawful log has no conflict at any beginning
pub HasNoConflict-beginning : (history : List TxnId) (front rest : List LogEntry) → IsLawfulLog history (front ++ rest) → HasNoConflict front
HasNoConflict-beginning history front rest lawful = HasNoConflict-lawful history front (EachAfter-append (IsLawful history) [] front rest lawful).0
