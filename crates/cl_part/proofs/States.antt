-- What a call did, and the state that it leaves.
use Rattle.std.proofs.Common.{◌≡◌, ◌+◌, ◌≤◌, true, cond, eqb, ◌&&◌, List, [], ◌∷◌, ◌++◌, sym, ap, ◌∙◌, inl, inr, arith, Result, Ok, Err, OnOk, OnErr, refl}
use Rattle.std.proofs.lemmas.Bool.{cond-true, cond-false, cases_Bool, eq-eqb, and_from}
use Rattle.cl_types.specs.declared.operations.Mode.TheVariants.{Exclusive}
use Rattle.cl_types.specs.Places.{Place, Stored}
use Rattle.cl_log.specs.declared.records.LogRec.{LogRec}
use Rattle.cl_log.specs.declared.records.LogRec.TheVariants.{Touch, Set, Add, End}
use Rattle.cl_log.specs.LogEntry.{LogEntry}
use Rattle.cl_log.specs.Kind.{writes, number_before}
use Rattle.cl_log.specs.Log.{entries, next_number}
use Rattle.cl_log.specs.Store.{written, stored_after, redo_by_guard}
use Rattle.cl_locks.specs.Grants.{Grant}
use Rattle.cl_locks.specs.Table.{grants_at, IsTableOf}
use Rattle.cl_locks.proofs.TableLaws.{IsTableOf-all_grants, IsTableOf-granted, IsTableOf-released, IsTableOf-kept}
use Rattle.cl_redo.specs.Condition.{MeetsWrite}
use Rattle.cl_redo.specs.Redo.{grants_after}
use Rattle.cl_store.specs.Store.{stored as stored_in}
use Rattle.cl_part.specs.declared.part.Part.{Part}
use Rattle.cl_part.specs.Recorded.{IsSame, HasRecorded, next_entry}
use Rattle.cl_part.specs.State.{EveryPartHasState, State, IsStateOf, IsBelowNext, grants_with, after_record}

-- ---- the state

pub IsStateOf-same : (old new : Part) (state : State) → IsSame old new → IsStateOf old state → IsStateOf new state
IsStateOf-same old new state same is = record {
  store = λ place. same.store place ∙ is.store place;
  log = same.log ∙ is.log;
  next = same.next ∙ is.next;
  locks = IsTableOf-kept old.locks new.locks state.grants is.locks same.locks;
}

-- what a record does to the grants at each place, it does to their list
table_after : (old new : Part) (grants : List Grant) (content : LogRec) → IsTableOf old.locks grants →
    ((place : Place) → grants_at new.locks place ≡ grants_after content place (grants_at old.locks place)) → IsTableOf new.locks (grants_with content grants)
table_after old new grants (Touch txn table key mode) is gives = IsTableOf-granted old.locks new.locks grants (record { txn = txn; place = (table, key); mode = mode }) is gives
table_after old new grants (Set txn table key before image after) is gives = IsTableOf-granted old.locks new.locks grants (record { txn = txn; place = (table, key); mode = Exclusive }) is gives
table_after old new grants (Add txn table key before amount) is gives = IsTableOf-granted old.locks new.locks grants (record { txn = txn; place = (table, key); mode = Exclusive }) is gives
table_after old new grants (End txn commit) is gives = IsTableOf-released old.locks new.locks grants txn is gives
table_after old new grants content is gives = IsTableOf-kept old.locks new.locks grants is gives

pub IsStateOf-recorded : (old new : Part) (state : State) (content : LogRec) → HasRecorded old new content → IsStateOf old state → IsStateOf new (after_record state content)
unfolding after_record
IsStateOf-recorded old new state content recorded is = record {
  store = λ place. recorded.store place
      ∙ ap (λ n. stored_after place (stored_in old.store place) (record { number = n; content = content })) is.next
      ∙ ap (λ (s : Stored). stored_after place s (record { number = state.next; content = content })) (is.store place);
  log = recorded.log
      ∙ ap (λ (es : List LogEntry). es ++ next_entry old content ∷ []) is.log
      ∙ ap (λ n. state.log ++ record { number = n; content = content } ∷ []) is.next;
  next = recorded.next ∙ ap (λ n. n + 1) is.next;
  locks = table_after old new state.grants content is.locks recorded.locks;
}

-- ---- numbers below the next

pub IsBelowNext-same : (old new : Part) → IsSame old new → IsBelowNext old → IsBelowNext new
IsBelowNext-same old new same below place =
    let here = below place in
    let stays : (stored_in new.store place).0 ≡ (stored_in old.store place).0 = ap (λ (s : Stored). s.0) (same.store place) in
    let next = same.next in
    omega (arith, here, stays, next)

pub IsBelowNext-recorded : (old new : Part) (content : LogRec) → HasRecorded old new content → IsBelowNext old → IsBelowNext new
IsBelowNext-recorded old new content recorded below place =
    let here = below place in
    let next = recorded.next in
    elim (cases_Bool (writes place content)) [
      | inl t ↦
          (let own : (stored_in new.store place).0 ≡ next_number old.log = ap (λ (s : Stored). s.0) (recorded.store place ∙ cond-true _ _ _ t) in
          omega (arith, own, next))
      | inr f ↦
          (let stays : (stored_in new.store place).0 ≡ (stored_in old.store place).0 = ap (λ (s : Stored). s.0) (recorded.store place ∙ cond-false _ _ _ f) in
          omega (arith, here, stays, next))
    ]

-- ---- by guard

-- a write that carries the number that stands there meets it
pub MeetsWrite-next : (part : Part) (content : LogRec) → IsBelowNext part → ((place : Place) → writes place content ≡ true → (stored_in part.store place).0 ≡ number_before content) →
    MeetsWrite (stored_in part.store) (next_entry part content)
MeetsWrite-next part content below carries = record {
  before = λ place write. (let here = below place in let before = carries place write in omega (arith, here, before));
  guard = λ place write. inl (carries place write);
}

-- and is applied by guard
pub redo_by_guard-carried : (place : Place) (stored : Stored) (entry : LogEntry) → (writes place entry.content ≡ true → stored.0 ≡ number_before entry.content) →
    redo_by_guard place stored entry ≡ stored_after place stored entry
redo_by_guard-carried place stored entry carries =
    elim (cases_Bool (writes place entry.content)) [
      | inl t ↦ cond-true _ _ _ (and_from _ _ t (eq-eqb _ _ (carries t))) ∙ sym (cond-true _ _ _ t)
      | inr f ↦ ap (λ b. cond (b && eqb stored.0 (number_before entry.content)) (written entry stored) stored) f ∙ sym (cond-false _ _ _ f)
    ]

-- ---- answers

pub OnOk-map : {T E : Type 0} (r : Result T E) (P Q : Type 0) → (P → Q) → OnOk r P → OnOk r Q
OnOk-map (Ok x) P Q f p = f p
OnOk-map (Err e) P Q f p = tt

pub OnErr-map : {T E : Type 0} (r : Result T E) (P Q : Type 0) → (P → Q) → OnErr r P → OnErr r Q
OnErr-map (Ok x) P Q f p = tt
OnErr-map (Err e) P Q f p = f p

-- what holds whether it was recorded or not
pub either-way : {T E : Type 0} (r : Result T E) (P Q R : Type 0) → (P → R) → (Q → R) → OnOk r P → OnErr r Q → R
either-way (Ok x) P Q R f g p q = f p
either-way (Err e) P Q R f g p q = g q

pub next-recorded : (old new : Part) (content : LogRec) → HasRecorded old new content → next_number new.log ≤ next_number old.log + 1
next-recorded old new content recorded = let next = recorded.next in omega (arith, next)

pub next-same : (old new : Part) → IsSame old new → next_number new.log ≤ next_number old.log + 1
next-same old new same = let next = same.next in omega (arith, next)

-- ---- each participant has a state

pub every_part_has_state : EveryPartHasState
every_part_has_state part =
    let table = IsTableOf-all_grants part.locks in
    (record { stored = stored_in part.store; log = entries part.log; next = next_number part.log; grants = table.0 }, record { store = λ place. refl; log = refl; next = refl; locks = table.1 })
