-- A transaction that is whole at one place, step by step.
use Rattle.std.proofs.Common.{◌≡◌, ◌≢◌, ℕ, ◌⊎◌, Bool, true, false, cond, List, [], ◌∷◌, ◌++◌, Option, Some, None, refl, sym, ap, ◌∙◌, subst, inl, inr}
use Rattle.std.specs.List.{All}
use Rattle.std.proofs.lemmas.Bool.{cond-true, cond-false, both_ways, false≢true, and_parts, eq-eqb, false_from_ne_true}
use Rattle.std.proofs.lemmas.List.{append_assoc, append-nil}
use Rattle.std.proofs.lemmas.List.Elements.{All-weaker, All-push}
use Rattle.cl_types.specs.declared.operations.Mode.{Mode}
use Rattle.cl_types.specs.declared.operations.Mode.TheVariants.{Shared, Exclusive}
use Rattle.cl_types.specs.declared.operations.Op.{Op}
use Rattle.cl_types.specs.declared.operations.TxnId.{TxnId}
use Rattle.cl_types.specs.declared.answers.Outcome.TheVariants.{Done}
use Rattle.cl_types.specs.Modes.{stronger, is_conflict}
use Rattle.cl_types.specs.Places.{Place, Stored, same_place}
use Rattle.cl_types.specs.Transactions.{same_txn}
use Rattle.cl_types.specs.Plain.{plain_reply, plain_value}
use Rattle.cl_types.proofs.Modes.{stronger-none}
use Rattle.cl_types.proofs.Places.{same_place-true, same_place-itself}
use Rattle.cl_types.proofs.Transactions.{same_txn-itself}
use Rattle.cl_log.specs.declared.records.LogRec.{LogRec}
use Rattle.cl_log.specs.declared.records.LogRec.TheVariants.{Touch, Set, Add, Comp, Prepared, End, Decide}
use Rattle.cl_log.specs.LogEntry.{LogEntry, EachAfter}
use Rattle.cl_log.specs.Kind.{txn_of, is_of, is_end, can_be_undone, undoes, writes, number_before}
use Rattle.cl_log.specs.Lawful.{IsLawful, IsLawfulLog, UndoesFirst, is_decide}
use Rattle.cl_log.specs.Locks.{mode_at, locks_of_log, locks_after, takes_lock}
use Rattle.cl_log.specs.Open.{has_ended, is_open}
use Rattle.cl_log.specs.Settled.{settled}
use Rattle.cl_log.specs.Store.{value_after, store_of_log}
use Rattle.cl_log.proofs.Beginnings.{is_open-rest}
use Rattle.cl_log.proofs.Conflicts.{HasNoConflict-lawful, locks_after_lawful}
use Rattle.cl_log.proofs.Entries.{EachAfter_push}
use Rattle.cl_log.proofs.KindFacts.{writes-undo_of}
use Rattle.cl_log.proofs.Locks.{mode_at-write, locks_of_log_push, locks_of_log_push-other, locks_of_log-write, one_writer}
use Rattle.cl_log.proofs.Rest.{first_of_rest_is}
use Rattle.cl_log.proofs.Settled.{settled_at-free}
use Rattle.cl_log.proofs.Store.{store_of_log_other, store_of_log_push}
use Rattle.cl_serial.specs.PlainMap.{Operation}
use Rattle.cl_order.specs.Operations.{mode_of, is_held}
use Rattle.cl_order.proofs.Held.{is_held-stronger, is_held-asked, held_none, conflict_with_exclusive, read_under}
use Rattle.cl_order.proofs.Records.{Fits, FitsNothing}
use Rattle.cl_order.proofs.Replays.{value_through, AgreeAt, value_through-push, AgreeAt-push, ReadsAt, value_through-reads, AgreeAt-none}

-- what an operation at the place needs of the log
abbrev pub HoldsAt : List LogEntry → TxnId → Place → Operation → Type 0
HoldsAt log txn place operation = operation.place ≡ place → is_held (locks_of_log log txn place) (mode_of operation.op) ≡ true

-- these operations of the transaction, done on the value at the place, are what the log has there
pub record IsWholeAt (log : List LogEntry) (txn : TxnId) (place : Place) (value : Option (List ℕ)) (list : List Operation) : Type 0 where
  pub locked : All (HoldsAt log txn place) list
  pub agree : AgreeAt place value list
  pub written : locks_of_log log txn place ≡ Some Exclusive → (store_of_log log place).1 ≡ value_through place value list

-- ---- what it says at a place without an exclusive lock

pub whole_reads : (log : List LogEntry) (txn : TxnId) (place : Place) (value : Option (List ℕ)) (list : List Operation) → IsWholeAt log txn place value list → locks_of_log log txn place ≢ Some Exclusive →
    value_through place value list ≡ value
whole_reads log txn place value list whole weak =
    value_through-reads place value list
    (All-weaker (HoldsAt log txn place) (ReadsAt place) (λ operation has here. read_under (locks_of_log log txn place) operation.op weak (has here)) list whole.locked)

pub whole_elsewhere : (log : List LogEntry) (txn : TxnId) (place : Place) (value other : Option (List ℕ)) (list : List Operation) → IsWholeAt log txn place value list → locks_of_log log txn place ≡ None →
    IsWholeAt log txn place other list
whole_elsewhere log txn place value other list whole none = record {
  locked = whole.locked;
  agree = AgreeAt-none place other list
      (All-weaker (HoldsAt log txn place) (λ (o : Operation). o.place ≢ place)
      (λ operation has here. held_none (mode_of operation.op) (sym (ap (λ m. is_held m (mode_of operation.op)) none) ∙ has here)) list whole.locked);
  written = λ exclusive. absurd (let e : ◌≡◌ {A = Option Mode} None (Some Exclusive) = sym none ∙ exclusive in cc);
}

-- ---- logs that keep the lock of a transaction, and what it has written

pub record Keeps (log more : List LogEntry) (txn : TxnId) (place : Place) : Type 0 where
  pub lock : locks_of_log more txn place ≡ locks_of_log log txn place
  pub value : locks_of_log log txn place ≡ Some Exclusive → (store_of_log more place).1 ≡ (store_of_log log place).1

pub whole_kept : (log more : List LogEntry) (txn : TxnId) (place : Place) (value : Option (List ℕ)) (list : List Operation) → Keeps log more txn place → IsWholeAt log txn place value list → IsWholeAt more txn place value list
whole_kept log more txn place value list keeps whole = record {
  locked = All-weaker (HoldsAt log txn place) (HoldsAt more txn place)
      (λ operation has here. ap (λ m. is_held m (mode_of operation.op)) keeps.lock ∙ has here) list whole.locked;
  agree = whole.agree;
  written = λ exclusive. (let was = sym keeps.lock ∙ exclusive in keeps.value was ∙ whole.written was);
}

pub Keeps-back : (log more : List LogEntry) (txn : TxnId) (place : Place) → Keeps log more txn place → Keeps more log txn place
Keeps-back log more txn place keeps = record { lock = sym keeps.lock; value = λ exclusive. sym (keeps.value (sym keeps.lock ∙ exclusive)) }

pub Keeps-itself : (log : List LogEntry) (txn : TxnId) (place : Place) → Keeps log log txn place
Keeps-itself log txn place = record { lock = refl; value = λ _. refl }

-- a write is a Set, an Add or a compensation
writer_kind : (place : Place) (content : LogRec) → writes place content ≡ true → (can_be_undone content ≡ true) ⊎ ((number : ℕ) × (undoes number content ≡ true) × (is_decide content ≡ false))
writer_kind place (Set txn table key before old new) h = inl refl
writer_kind place (Add txn table key before amount) h = inl refl
writer_kind place (Comp txn table key before undone form) h = inr (undone, eq-eqb undone undone refl, refl)
writer_kind place (Touch txn table key mode) h = absurd (false≢true h)
writer_kind place (Prepared txn) h = absurd (false≢true h)
writer_kind place (End txn commit) h = absurd (false≢true h)
writer_kind place (Decide txn) h = absurd (false≢true h)

-- nobody writes where another has an exclusive lock
pub writer_is_holder : (history : List TxnId) (seen : List LogEntry) (entry : LogEntry) (txn : TxnId) (place : Place) → IsLawfulLog history seen → IsLawful history seen entry →
    writes place entry.content ≡ true → locks_of_log seen txn place ≡ Some Exclusive → txn ≡ txn_of entry.content
writer_is_holder history seen entry txn place before lawful here exclusive =
    elim (writer_kind place entry.content here) [
      | inl undoable ↦ lawful.free txn place
          (ap (λ m. is_conflict m (locks_of_log seen txn place)) (mode_at-write place entry.content undoable here) ∙ ap (is_conflict (Some Exclusive)) exclusive)
      | inr (number, names, no_decide) ↦ undoing (lawful.in_order number names) (lawful.unended no_decide)
    ]
  where
    undoing : UndoesFirst seen entry.content → has_ended seen (txn_of entry.content) ≡ false → txn ≡ txn_of entry.content
    undoing first running =
        let is = first_of_rest_is seen (txn_of entry.content) first.first first.others first.is_first in
        let parts = and_parts _ _ is.left in
        let there : writes place first.first.content ≡ true =
        sym (writes-undo_of first.first.content first.first.number (number_before entry.content) place) ∙ ap (writes place) (sym first.is_undo) ∙ here in
        let theirs : locks_of_log seen (txn_of entry.content) place ≡ Some Exclusive =
        ap (λ es. locks_of_log es (txn_of entry.content) place) is.whole
        ∙ locks_of_log-write is.before first.first is.after (txn_of entry.content) place
        (ap (λ es. is_open es (txn_of entry.content)) (sym is.whole) ∙ is_open-rest seen (txn_of entry.content) first.first first.others first.is_first running)
        parts.0 (and_parts _ _ parts.1).0 there in
        one_writer seen txn (txn_of entry.content) place (HasNoConflict-lawful history seen before) exclusive theirs

-- a lawful record of another transaction
pub keeps_push : (history : List TxnId) (log : List LogEntry) (entry : LogEntry) (txn : TxnId) (place : Place) → IsLawfulLog history log → IsLawful history log entry →
    is_of txn entry.content ≡ false → Keeps log (log ++ entry ∷ []) txn place
keeps_push history log entry txn place before lawful other = record {
  lock = locks_of_log_push-other log entry txn place other;
  value = λ exclusive. ap (λ (q : Stored). q.1) (store_of_log_other log entry place
      (false_from_ne_true _ (λ here.
      both_ways _ other (ap (λ t. same_txn t txn) (sym (writer_is_holder history log entry txn place before lawful here exclusive)) ∙ same_txn-itself txn))));
}

-- many of them
pub keeps_append : (history : List TxnId) (log more : List LogEntry) (any : List LogEntry) (txn : TxnId) (place : Place) → IsLawfulLog history log → EachAfter (IsLawful history) log more →
    EachAfter (λ _ entry. is_of txn entry.content ≡ false) any more → Keeps log (log ++ more) txn place
keeps_append history log [] any txn place before lawful others = subst (λ es. Keeps log es txn place) (sym (append-nil log)) (Keeps-itself log txn place)
keeps_append history log (x ∷ xs) any txn place before lawful others =
    let one = keeps_push history log x txn place before lawful.0 others.0 in
    let rest = keeps_append history (log ++ x ∷ []) xs (any ++ x ∷ []) txn place (EachAfter_push (IsLawful history) [] log x before lawful.0) lawful.1 others.1 in
    subst (λ es. Keeps log es txn place) (append_assoc log (x ∷ []) xs)
    record { lock = rest.lock ∙ one.lock; value = λ exclusive. rest.value (one.lock ∙ exclusive) ∙ one.value exclusive }

-- a record that does nothing to the place
pub keeps_idle : (log : List LogEntry) (entry : LogEntry) (txn : TxnId) (place : Place) → (takes_lock entry.content ≡ true → has_ended log (txn_of entry.content) ≡ false) →
    is_end entry.content ≡ false → mode_at place entry.content ≡ None → writes place entry.content ≡ false → Keeps log (log ++ entry ∷ []) txn place
keeps_idle log entry txn place running no_end free away = record {
  lock = locks_of_log_push log entry txn place running ∙ by_owner (is_of txn entry.content) refl;
  value = λ _. ap (λ (q : Stored). q.1) (store_of_log_other log entry place away);
}
  where
    by_owner : (b : Bool) → is_of txn entry.content ≡ b → locks_after (locks_of_log log) entry txn place ≡ locks_of_log log txn place
    by_owner true t =
        cond-true _ _ _ t ∙ cond-false _ _ _ no_end ∙ ap (stronger (locks_of_log log txn place)) free ∙ stronger-none (locks_of_log log txn place)
    by_owner false f = cond-false _ _ _ f

-- ---- an operation is carried out

-- the operation, with its reply
abbrev pub replied : List LogEntry → Place → Op → Operation
replied log place op = record { place = place; op = op; outcome = Some (Done (plain_reply op (store_of_log log place).1)) }

-- one at another place
pub whole_push-elsewhere : (log : List LogEntry) (txn : TxnId) (place : Place) (value : Option (List ℕ)) (list : List Operation) (operation : Operation) → operation.place ≢ place →
    IsWholeAt log txn place value list → IsWholeAt log txn place value (list ++ operation ∷ [])
whole_push-elsewhere log txn place value list operation apart whole =
    let off : same_place operation.place place ≡ false = false_from_ne_true _ (λ same. apart (same_place-true operation.place place same)) in
    record {
      locked = All-push (HoldsAt log txn place) list operation whole.locked (λ here. absurd (apart here));
      agree = AgreeAt-push place value list operation whole.agree (λ here. absurd (both_ways _ off here));
      written = λ exclusive. whole.written exclusive ∙ sym (value_through-push place value list operation ∙ cond-false _ _ _ off);
    }

module _ (history : List TxnId) (log : List LogEntry) (txn : TxnId) (place : Place) (value : Option (List ℕ)) (list : List Operation) (op : Op)
    (lawful : IsLawfulLog history log) (settles : settled log history place ≡ value) (whole : IsWholeAt log txn place value list)
    (free : is_held (locks_of_log log txn place) (mode_of op) ≡ false → (other : TxnId) → is_conflict (Some (mode_of op)) (locks_of_log log other place) ≡ true → other ≡ txn) where
  -- no other transaction has an exclusive lock there
  sole_holder : (other : TxnId) → locks_of_log log other place ≡ Some Exclusive → other ≡ txn
  sole_holder other exclusive = by_held (is_held (locks_of_log log txn place) (mode_of op)) refl
    where
      by_held : (b : Bool) → is_held (locks_of_log log txn place) (mode_of op) ≡ b → other ≡ txn
      by_held true t =
          sym (HasNoConflict-lawful history log lawful txn other place (ap (is_conflict (locks_of_log log txn place)) exclusive ∙ conflict_with_exclusive (locks_of_log log txn place) (mode_of op) t))
      by_held false f = free f other (ap (is_conflict (Some (mode_of op))) exclusive ∙ asked_conflicts (mode_of op))
        where
          asked_conflicts : (mode : Mode) → is_conflict (Some mode) (Some Exclusive) ≡ true
          asked_conflicts Shared = refl
          asked_conflicts Exclusive = refl

  -- the store has what the replay of its operations leaves
  store_is_replay : (store_of_log log place).1 ≡ value_through place value list
  store_is_replay = by_lock (locks_of_log log txn place) refl
    where
      weaker : locks_of_log log txn place ≢ Some Exclusive → (store_of_log log place).1 ≡ value_through place value list
      weaker weak =
          sym (settled_at-free log history place (λ other exclusive. absurd (weak (ap (λ t. locks_of_log log t place) (sym (sole_holder other exclusive)) ∙ exclusive))))
          ∙ settles ∙ sym (whole_reads log txn place value list whole weak)

      by_lock : (m : Option Mode) → locks_of_log log txn place ≡ m → (store_of_log log place).1 ≡ value_through place value list
      by_lock (Some Exclusive) e = whole.written e
      by_lock (Some Shared) e = weaker (λ exclusive. let q : ◌≡◌ {A = Option Mode} (Some Shared) (Some Exclusive) = sym e ∙ exclusive in cc)
      by_lock None e = weaker (λ exclusive. let q : ◌≡◌ {A = Option Mode} None (Some Exclusive) = sym e ∙ exclusive in cc)

  carried_out : (more : List LogEntry) → ((mode : Mode) → is_held (locks_of_log log txn place) mode ≡ true → is_held (locks_of_log more txn place) mode ≡ true) →
      is_held (locks_of_log more txn place) (mode_of op) ≡ true → (store_of_log more place).1 ≡ plain_value op (store_of_log log place).1 →
      IsWholeAt more txn place value (list ++ replied log place op ∷ [])
  carried_out more grows holds leaves = record {
    locked = All-push (HoldsAt more txn place) list (replied log place op)
        (All-weaker (HoldsAt log txn place) (HoldsAt more txn place) (λ operation has here. grows (mode_of operation.op) (has here)) list whole.locked) (λ here. holds);
    agree = AgreeAt-push place value list (replied log place op) whole.agree (λ here. ap (λ v. Some (Done (plain_reply op v))) store_is_replay);
    written = λ exclusive. leaves ∙ ap (plain_value op) store_is_replay ∙ sym (value_through-push place value list (replied log place op) ∙ cond-true _ _ _ (same_place-itself place));
  }

  -- without a record
  pub whole_with_nothing : FitsNothing (locks_of_log log txn place) op (store_of_log log place).1 → IsWholeAt log txn place value (list ++ replied log place op ∷ [])
  whole_with_nothing fits = carried_out log (λ mode h. h) fits.holds (sym fits.same)

  -- with its record
  pub whole_with_record : (number : ℕ) (content : LogRec) → IsLawful history log (record { number = number; content = content }) → Fits txn place op (store_of_log log place).0 (store_of_log log place).1 content →
      IsWholeAt (log ++ record { number = number; content = content } ∷ []) txn place value (list ++ replied log place op ∷ [])
  whole_with_record number content one fits =
      let lock = locks_after_lawful history log entry txn place one
      ∙ cond-true _ _ _ (ap (λ t. same_txn t txn) fits.own ∙ same_txn-itself txn) ∙ cond-false _ _ _ fits.no_end
      ∙ ap (stronger (locks_of_log log txn place)) fits.locks in
      carried_out (log ++ entry ∷ [])
      (λ mode h. ap (λ m. is_held m mode) lock ∙ is_held-stronger (locks_of_log log txn place) (Some (mode_of op)) mode h)
      (ap (λ m. is_held m (mode_of op)) lock ∙ is_held-asked (locks_of_log log txn place) (mode_of op))
      (ap (λ (q : Stored). q.1) (store_of_log_push log entry place) ∙ second (writes place content) ∙ fits.leaves)
    where
      entry : LogEntry
      entry = record { number = number; content = content }

      second : (b : Bool) → (let after : Stored = cond b (number, value_after content (store_of_log log place).1) (store_of_log log place) in after.1) ≡ cond b (value_after content (store_of_log log place).1) (store_of_log log place).1
      second true = refl
      second false = refl
