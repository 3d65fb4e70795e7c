-- A rollback to its end, step by step. It needs no sound participant: the numbers of a log count up by one in any case.
use Rattle.std.proofs.Common.{◌≡◌, ℕ, ◌+◌, Bool, true, false, List, [], ◌∷◌, length, refl, sym, ◌∙◌, ap, subst, arith}
use Rattle.std.proofs.lemmas.Bool.{false≢true}
use Rattle.cl_types.specs.declared.operations.TxnId.{TxnId}
use Rattle.cl_log.specs.LogEntry.{LogEntry, IsNumberedFrom}
use Rattle.cl_log.specs.Log.{entries, next_number, first_kept}
use Rattle.cl_log.specs.Rest.{rest_to_undo}
use Rattle.cl_log.proofs.LogWords.{IsNumberedFrom-entries}
use Rattle.cl_log.proofs.Rest.{rest_after_undo}
use Rattle.cl_part.specs.declared.part.Part.{Part}
use Rattle.cl_part.specs.Calls.{after_undo, undo_each, after_rollback, has_rest, is_any, undo_now, place_of}
use Rattle.cl_part.specs.State.{State, IsStateOf, next_entry, after_record}
use Rattle.cl_part.proofs.Rollback.{undone_log}
use Rattle.cl_part.proofs.States.{every_part_has_state}
use Rattle.cl_part.proofs.Undoing.{after_undo-first, after_undo-none}

-- the number that the End of the transaction will have
abbrev pub end_number : Part → TxnId → ℕ
end_number part txn = next_number part.log + length (rest_to_undo (entries part.log) txn)

-- part of the rollback was done: what is left of it leads where the whole did
pub record IsRollingBack (now : Part) (before : State) (txn : TxnId) : Type 0 where
  pub state : State
  pub is_state : IsStateOf now state
  pub same : undo_each state txn (rest_to_undo state.log txn) ≡ undo_each before txn (rest_to_undo before.log txn)
  pub numbers : state.next + length (rest_to_undo state.log txn) ≡ before.next + length (rest_to_undo before.log txn)

pub rolling_none : (part : Part) (before : State) (txn : TxnId) → IsStateOf part before → IsRollingBack part before txn
rolling_none part before txn is = record { state = before; is_state = is; same = refl; numbers = refl }

-- an undo step takes the first of what is left
first_taken : (old : Part) (state : State) (txn : TxnId) (first : LogEntry) (others : List LogEntry) → IsStateOf old state → rest_to_undo state.log txn ≡ first ∷ others →
    rest_to_undo (after_undo state txn).log txn ≡ others
first_taken old state txn first others is rest =
    ap (λ (log : List LogEntry). rest_to_undo log txn) (undone_log state txn first others rest)
    ∙ rest_after_undo state.log (first_kept old.log) (subst (IsNumberedFrom (first_kept old.log)) is.log (IsNumberedFrom-entries old.log)) txn first others rest
    (next_entry state (undo_now state first)) (state.stored (place_of first.content)).0 refl

next_recorded : (state : State) (txn : TxnId) (first : LogEntry) (others : List LogEntry) → rest_to_undo state.log txn ≡ first ∷ others → (after_undo state txn).next ≡ state.next + 1
unfolding after_record
next_recorded state txn first others rest = ap (λ (s : State). s.next) (after_undo-first state txn first others rest)

-- one step of the rollback
module _ (old new : Part) (before : State) (txn : TxnId) (h : IsRollingBack old before txn) (step : (s : State) → IsStateOf old s → IsStateOf new (after_undo s txn)) where
  -- whether something was left
  rest_told : has_rest (entries old.log) txn ≡ is_any (rest_to_undo h.state.log txn)
  unfolding has_rest
  rest_told = ap (λ (log : List LogEntry). is_any (rest_to_undo log txn)) h.is_state.log

  one_more : (rest : List LogEntry) → rest_to_undo h.state.log txn ≡ rest → is_any rest ≡ true → IsRollingBack new before txn × (next_number new.log ≡ next_number old.log + 1)
  one_more [] is any = absurd (false≢true any)
  one_more (first ∷ others) is any =
      let next : rest_to_undo (after_undo h.state txn).log txn ≡ others = first_taken old h.state txn first others h.is_state is in
      let number : (after_undo h.state txn).next ≡ h.state.next + 1 = next_recorded h.state txn first others is in
      let now : IsStateOf new (after_undo h.state txn) = step h.state h.is_state in
      let numbers_old : next_number old.log ≡ h.state.next = h.is_state.next in
      let numbers_new : next_number new.log ≡ (after_undo h.state txn).next = now.next in (
        record {
          state = after_undo h.state txn;
          is_state = now;
          same = ap (undo_each (after_undo h.state txn) txn) next ∙ sym (ap (undo_each h.state txn) is) ∙ h.same;
          numbers = (let n = h.numbers in let a : length (rest_to_undo h.state.log txn) ≡ length others + 1 = ap length is ∙ omega arith in
              let b : length (rest_to_undo (after_undo h.state txn).log txn) ≡ length others = ap length next in omega (arith, n, number, a, b));
        },
        omega (arith, number, numbers_old, numbers_new),
      )

  pub rolling_more : (undone : Bool) → undone ≡ has_rest (entries old.log) txn → undone ≡ true → IsRollingBack new before txn × (next_number new.log ≡ next_number old.log + 1)
  rolling_more undone told is = one_more (rest_to_undo h.state.log txn) refl (sym rest_told ∙ sym told ∙ is)

  nothing_left : (rest : List LogEntry) → rest_to_undo h.state.log txn ≡ rest → is_any rest ≡ false → rest_to_undo h.state.log txn ≡ []
  nothing_left [] is none = is
  nothing_left (first ∷ others) is none = absurd (false≢true (sym none))

  none_left : (undone : Bool) → undone ≡ has_rest (entries old.log) txn → undone ≡ false → rest_to_undo h.state.log txn ≡ []
  none_left undone told is = nothing_left (rest_to_undo h.state.log txn) refl (sym rest_told ∙ sym told ∙ is)

  -- where nothing was left, the rollback is done
  pub rolled_back : (undone : Bool) → undone ≡ has_rest (entries old.log) txn → undone ≡ false → IsStateOf new (after_rollback before txn)
  unfolding after_rollback
  rolled_back undone told is =
      let none : rest_to_undo h.state.log txn ≡ [] = none_left undone told is in
      let same : after_undo h.state txn ≡ undo_each before txn (rest_to_undo before.log txn) = after_undo-none h.state txn none ∙ sym (ap (undo_each h.state txn) none) ∙ h.same in
      subst (IsStateOf new) same (step h.state h.is_state)

-- the number of the End stays, step by step
pub end_number_kept : (first now : Part) (txn : TxnId) → ((before : State) → IsStateOf first before → IsRollingBack now before txn) → end_number now txn ≡ end_number first txn
end_number_kept first now txn rolling =
    let had = every_part_has_state first in
    let before : State = had.0 in
    let is : IsStateOf first before = had.1 in
    let h : IsRollingBack now before txn = rolling before is in
    let numbers = h.numbers in
    let next_now : next_number now.log ≡ h.state.next = h.is_state.next in
    let next_first : next_number first.log ≡ before.next = is.next in
    let rest_now : length (rest_to_undo (entries now.log) txn) ≡ length (rest_to_undo h.state.log txn) = ap (λ (log : List LogEntry). length (rest_to_undo log txn)) h.is_state.log in
    let rest_first : length (rest_to_undo (entries first.log) txn) ≡ length (rest_to_undo before.log txn) = ap (λ (log : List LogEntry). length (rest_to_undo log txn)) is.log in
    omega (arith, numbers, next_now, next_first, rest_now, rest_first)

-- nothing was left: the next number, which stays, is that of the End
pub record IsAllUndone (first old new : Part) (txn : TxnId) : Type 0 where
  pub rest : rest_to_undo (entries new.log) txn ≡ []
  pub stays : next_number new.log ≡ next_number old.log
  pub next : next_number new.log ≡ end_number first txn

-- one step of the rollback of a participant that was the first
module _ (first old new : Part) (txn : TxnId) (rolling : (before : State) → IsStateOf first before → IsRollingBack old before txn) (step : (s : State) → IsStateOf old s → IsStateOf new (after_undo s txn)) where
  had : (before : State) × IsStateOf first before
  had = every_part_has_state first

  pub undone_one : (undone : Bool) → undone ≡ has_rest (entries old.log) txn → undone ≡ true → next_number new.log ≡ next_number old.log + 1
  undone_one undone told is = (rolling_more old new had.0 txn (rolling had.0 had.1) step undone told is).1

  pub undone_all : (undone : Bool) → undone ≡ has_rest (entries old.log) txn → undone ≡ false → IsAllUndone first old new txn
  undone_all undone told is =
      let h : IsRollingBack old had.0 txn = rolling had.0 had.1 in
      let none : rest_to_undo h.state.log txn ≡ [] = none_left old new had.0 txn h step undone told is in
      let now : IsStateOf new h.state = subst (IsStateOf new) (after_undo-none h.state txn none) (step h.state h.is_state) in
      let rest_old : length (rest_to_undo (entries old.log) txn) ≡ 0 = ap (λ (log : List LogEntry). length (rest_to_undo log txn)) h.is_state.log ∙ ap length none in
      let next_old : next_number old.log ≡ h.state.next = h.is_state.next in
      let next_new : next_number new.log ≡ h.state.next = now.next in
      let kept : end_number old txn ≡ end_number first txn = end_number_kept first old txn rolling in
      record {
        rest = ap (λ (log : List LogEntry). rest_to_undo log txn) now.log ∙ none;
        stays = omega (arith, next_old, next_new);
        next = omega (arith, rest_old, next_old, next_new, kept);
      }
