-- Locks that are granted only where they are free never conflict.
use Rattle.std.proofs.Common.{◌≡◌, ℕ, ◌+◌, ◌<◌, ◌≤◌, Bool, true, false, cond, ◌⊎◌, List, [], ◌∷◌, ◌++◌, length, Option, Some, None, refl, sym, ap, ◌∙◌, subst, inl, inr, arith, inl, inr}
use Rattle.std.proofs.lemmas.Bool.{cases_Bool, cond-true, cond-false, false≢true, false_from_ne_true, eqb-true, or_from}
use Rattle.std.proofs.lemmas.List.{append_assoc, append-nil, length-append}
use Rattle.cl_types.specs.declared.operations.Mode.{Mode}
use Rattle.cl_types.specs.declared.operations.Mode.TheVariants.{Shared, Exclusive}
use Rattle.cl_types.specs.declared.operations.TxnId.{TxnId}
use Rattle.cl_types.specs.Modes.{stronger, is_conflict}
use Rattle.cl_types.specs.Places.{Place}
use Rattle.cl_types.proofs.Modes.{is_conflict-symmetric}
use Rattle.cl_types.proofs.Transactions.{same_txn-true, same_txn-itself}
use Rattle.cl_log.specs.declared.records.LogRec.{LogRec}
use Rattle.cl_log.specs.declared.records.LogRec.TheVariants.{Decide, End}
use Rattle.cl_log.specs.LogEntry.{LogEntry, IsNumberedFrom, EachAfter}
use Rattle.cl_log.specs.Kind.{txn_of, is_of, is_end, undoes, number_before}
use Rattle.cl_log.specs.Lawful.{IsLawful, IsLawfulLog, UndoesFirst, UndoesInOrder, is_decide}
use Rattle.cl_log.specs.Locks.{mode_at, locks_of_log, locks_after, takes_lock, HasNoConflict}
use Rattle.cl_log.specs.Open.{has_ended}
use Rattle.cl_log.specs.Rest.{is_undone}
use Rattle.cl_log.proofs.Entries.{IsNumberedFrom-append, append-IsNumberedFrom}
use Rattle.cl_log.proofs.Locks.{mode_at-none, locks_of_log_push, locks_of_log-nil}
use Rattle.cl_log.proofs.Rest.{HeadsRest-from, first_of_rest_is, undoes-undo_of, is_undone_push}

abbrev UndoesAsNext : List LogEntry → LogEntry → Type 0
UndoesAsNext seen entry = (number : ℕ) → undoes number entry.content ≡ true → UndoesFirst seen entry.content

-- what conflicts with the stronger of two modes conflicts with one of them
pub conflict_of_stronger : (a b other : Option Mode) → is_conflict (stronger a b) other ≡ true → (is_conflict a other ≡ true) ⊎ (is_conflict b other ≡ true)
conflict_of_stronger None b other h = inr h
conflict_of_stronger (Some Exclusive) b other h = inl h
conflict_of_stronger (Some Shared) None other h = inl h
conflict_of_stronger (Some Shared) (Some b) other h = inr h

-- what takes a lock is no Decide
takes_lock-decide : (content : LogRec) → takes_lock content ≡ true → is_decide content ≡ false
takes_lock-decide (Decide txn) h = absurd (false≢true h)
takes_lock-decide content h = refl

-- an End takes none
pub end_takes_none : (content : LogRec) → is_end content ≡ true → takes_lock content ≡ false
end_takes_none (End txn commit) h = refl
end_takes_none content h = absurd (false≢true h)

-- the locks after one more lawful record
pub locks_after_lawful : (history : List TxnId) (seen : List LogEntry) (entry : LogEntry) (txn : TxnId) (place : Place) → IsLawful history seen entry →
    locks_of_log (seen ++ entry ∷ []) txn place ≡ locks_after (locks_of_log seen) entry txn place
locks_after_lawful history seen entry txn place lawful =
    locks_of_log_push seen entry txn place (λ takes. lawful.unended (takes_lock-decide entry.content takes))

-- one more lawful record of a log without conflict
no_conflict_push : (history : List TxnId) (seen : List LogEntry) (entry : LogEntry) → HasNoConflict seen → IsLawful history seen entry → HasNoConflict (seen ++ entry ∷ [])
no_conflict_push history seen entry apart lawful a b place h =
    by_owners (is_of a entry.content) refl (is_of b entry.content) refl
  where
    both : is_conflict (locks_after (locks_of_log seen) entry a place) (locks_after (locks_of_log seen) entry b place) ≡ true
    both =
        sym (ap (λ m. is_conflict m (locks_of_log (seen ++ entry ∷ []) b place)) (locks_after_lawful history seen entry a place lawful)
        ∙ ap (is_conflict (locks_after (locks_of_log seen) entry a place)) (locks_after_lawful history seen entry b place lawful))
        ∙ h

    -- the owner's lock against another's
    against : (own other : TxnId) → is_of own entry.content ≡ true →
        is_conflict (cond (is_end entry.content) None (stronger (locks_of_log seen own place) (mode_at place entry.content))) (locks_of_log seen other place) ≡ true → other ≡ own
    against own other is_own c = by_end (is_end entry.content) refl
      where
        by_end : (ends : Bool) → is_end entry.content ≡ ends → other ≡ own
        by_end true t =
            absurd (false≢true (sym (ap (λ m. is_conflict m (locks_of_log seen other place)) (cond-true _ None (stronger (locks_of_log seen own place) (mode_at place entry.content)) t)) ∙ c))
        by_end false f =
            elim (conflict_of_stronger (locks_of_log seen own place) (mode_at place entry.content) (locks_of_log seen other place)
            (sym (ap (λ m. is_conflict m (locks_of_log seen other place)) (cond-false _ None (stronger (locks_of_log seen own place) (mode_at place entry.content)) f)) ∙ c)) [
              | inl held ↦ sym (apart own other place held)
              | inr asked ↦ lawful.free other place asked ∙ same_txn-true (txn_of entry.content) own is_own
            ]

    by_owners : (own_a : Bool) → is_of a entry.content ≡ own_a → (own_b : Bool) → is_of b entry.content ≡ own_b → a ≡ b
    by_owners true ta true tb = sym (same_txn-true (txn_of entry.content) a ta) ∙ same_txn-true (txn_of entry.content) b tb
    by_owners true ta false fb =
        sym (against a b ta
        (sym (ap (λ m. is_conflict m (locks_after (locks_of_log seen) entry b place)) (cond-true _ _ _ ta)
        ∙ ap (is_conflict _) (cond-false _ _ _ fb)) ∙ both))
    by_owners false fa true tb =
        against b a tb
        (is_conflict-symmetric _ _
        ∙ sym (ap (λ m. is_conflict m (locks_after (locks_of_log seen) entry b place)) (cond-false _ _ _ fa)
        ∙ ap (is_conflict _) (cond-true _ _ _ tb)) ∙ both)
    by_owners false fa false fb =
        apart a b place
        (sym (ap (λ m. is_conflict m (locks_after (locks_of_log seen) entry b place)) (cond-false _ _ _ fa)
        ∙ ap (is_conflict _) (cond-false _ _ _ fb)) ∙ both)

no_conflict_after : (history : List TxnId) (seen entries : List LogEntry) → HasNoConflict seen → EachAfter (IsLawful history) seen entries → HasNoConflict (seen ++ entries)
no_conflict_after history seen [] apart lawful = subst HasNoConflict (sym (append-nil seen)) apart
no_conflict_after history seen (x ∷ xs) apart lawful =
    subst HasNoConflict (append_assoc seen (x ∷ []) xs)
    (no_conflict_after history (seen ++ x ∷ []) xs (no_conflict_push history seen x apart lawful.0) lawful.1)

-- a lawful log has no conflict
pub HasNoConflict-lawful : (history : List TxnId) (entries : List LogEntry) → IsLawfulLog history entries → HasNoConflict entries
HasNoConflict-lawful history entries lawful =
    no_conflict_after history [] entries
    (λ a b place h. absurd (false≢true (sym (ap (λ m. is_conflict m (locks_of_log [] b place)) (locks_of_log-nil a place)) ∙ h))) lawful

-- a compensation names a lesser number than its own
names_below : (n : ℕ) (seen : List LogEntry) (content : LogRec) (number : ℕ) → IsNumberedFrom n seen → undoes number content ≡ true → UndoesFirst seen content → number < n + length seen
names_below n seen content number numbers names first =
    let is = first_of_rest_is seen (txn_of content) first.first first.others first.is_first in
    let at = (IsNumberedFrom-append n is.before (first.first ∷ is.after) (subst (IsNumberedFrom n) is.whole numbers)).1.0 in
    let long = ap length is.whole ∙ length-append is.before (first.first ∷ is.after) in
    let heads = HeadsRest-from n seen (txn_of content) first.first first.others numbers first.is_first in
    let same : first.first.number ≡ number =
    eqb-true first.first.number number
    (sym (undoes-undo_of first.first.content first.first.number (number_before content) number heads.undoable) ∙ ap (undoes number) (sym first.is_undo) ∙ names) in
    omega (arith, at, long, same)

not_undone_after : (n : ℕ) (seen entries : List LogEntry) (number : ℕ) → IsNumberedFrom n seen → IsNumberedFrom (n + length seen) entries → n + length seen + length entries ≤ number →
    is_undone seen number ≡ false → EachAfter UndoesAsNext seen entries → is_undone (seen ++ entries) number ≡ false
not_undone_after n seen [] number numbers more beyond none undoes_first = ap (λ es. is_undone es number) (append-nil seen) ∙ none
not_undone_after n seen (x ∷ xs) number numbers more beyond none undoes_first =
    ap (λ es. is_undone es number) (sym (append_assoc seen (x ∷ []) xs))
    ∙ not_undone_after n (seen ++ x ∷ []) xs number
    (append-IsNumberedFrom n seen (x ∷ []) numbers (more.0, tt))
    (subst (λ k. IsNumberedFrom k xs) (let long = length-append seen (x ∷ []) in omega (arith, long)) more.1)
    (let long = length-append seen (x ∷ []) in omega (arith, long, beyond))
    (is_undone_push number seen x ∙ or_from _ _ none (false_from_ne_true _ (λ names. let below = names_below n seen x.content number numbers names (undoes_first.0 number names) in absurd (omega (arith, below, beyond)))))
    undoes_first.1

-- no compensation names a number that is still to come
pub is_undone-next : (n : ℕ) (entries : List LogEntry) (number : ℕ) → IsNumberedFrom n entries → UndoesInOrder entries → n + length entries ≤ number → is_undone entries number ≡ false
unfolding is_undone
is_undone-next n entries number numbers in_order beyond =
    not_undone_after n [] entries number tt (subst (λ k. IsNumberedFrom k entries) (let e : n ≡ n + 0 = omega arith in e) numbers) (omega (arith, beyond)) refl in_order

-- what is lawful undoes in order
pub undoes_in_order-after : (history : List TxnId) (seen entries : List LogEntry) → EachAfter (IsLawful history) seen entries → EachAfter UndoesAsNext seen entries
undoes_in_order-after history seen [] lawful = tt
undoes_in_order-after history seen (x ∷ xs) lawful = (lawful.0.in_order, undoes_in_order-after history (seen ++ x ∷ []) xs lawful.1)

-- what conflicts with one of two modes conflicts with the stronger
pub conflict_of_asked : (a b other : Option Mode) → is_conflict b other ≡ true → is_conflict (stronger a b) other ≡ true
conflict_of_asked None b other h = h
conflict_of_asked (Some Exclusive) None other h = absurd (false≢true h)
conflict_of_asked (Some Exclusive) (Some Shared) None h = absurd (false≢true h)
conflict_of_asked (Some Exclusive) (Some Exclusive) None h = absurd (false≢true h)
conflict_of_asked (Some Exclusive) (Some b) (Some other) h = refl
conflict_of_asked (Some Shared) None other h = absurd (false≢true h)
conflict_of_asked (Some Shared) (Some b) other h = h

-- a record after which no locks conflict found its lock free
pub found_free : (entries : List LogEntry) (entry : LogEntry) → HasNoConflict (entries ++ entry ∷ []) → (takes_lock entry.content ≡ true → has_ended entries (txn_of entry.content) ≡ false) →
    (other : TxnId) (place : Place) → is_conflict (mode_at place entry.content) (locks_of_log entries other place) ≡ true → other ≡ txn_of entry.content
found_free entries entry apart running other place conflict =
    elim (cases_Bool (is_of other entry.content)) [
      | inl own ↦ sym (same_txn-true (txn_of entry.content) other own)
      | inr off ↦ sym (apart (txn_of entry.content) other place
          (ap (λ m. is_conflict m (locks_of_log (entries ++ entry ∷ []) other place)) own_lock
          ∙ ap (is_conflict (stronger (locks_of_log entries (txn_of entry.content) place) (mode_at place entry.content)))
          (locks_of_log_push entries entry other place running ∙ cond-false _ _ _ off)
          ∙ conflict_of_asked (locks_of_log entries (txn_of entry.content) place) (mode_at place entry.content) (locks_of_log entries other place) conflict))
    ]
  where
    -- an End locks nothing
    no_end : (b : Bool) → is_end entry.content ≡ b → is_end entry.content ≡ false
    no_end false f = f
    no_end true t =
        absurd (false≢true (sym (ap (λ m. is_conflict m (locks_of_log entries other place)) (mode_at-none place entry.content (end_takes_none entry.content t))) ∙ conflict))

    own_lock : locks_of_log (entries ++ entry ∷ []) (txn_of entry.content) place ≡ stronger (locks_of_log entries (txn_of entry.content) place) (mode_at place entry.content)
    own_lock =
        locks_of_log_push entries entry (txn_of entry.content) place running
        ∙ cond-true _ _ _ (same_txn-itself (txn_of entry.content)) ∙ cond-false _ _ _ (no_end (is_end entry.content) refl)
