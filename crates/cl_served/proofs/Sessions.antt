-- The commands of a transaction, as far as they were answered, and what one answer more makes of them.
use Rattle.std.proofs.Common.{◌≡◌, ◌≢◌, ℕ, zero, suc, List, [], ◌∷◌, ◌++◌, length, Option, Some, None, refl, sym, ap, ◌∙◌, subst}
use Rattle.std.specs.List.{slice_get}
use Rattle.std.specs.Option.{unwrap_or}
use Rattle.std.proofs.lemmas.List.{append-nil}
use Rattle.cl_front.specs.declared.current.Current.{Current}
use Rattle.cl_front.specs.Session.{SessionState}
use Rattle.cl_serial.specs.Exchanges.{Exchange, answered}
use Rattle.cl_serial.specs.Transactions.{Session, Transaction, session_step, with_command, numbered, commands_in}
use Rattle.cl_serial.proofs.Growth.{all_of}
use Rattle.cl_serial.proofs.Places.{StandsAt-push_last}
use Rattle.cl_told.specs.Told.{IsToldOutstanding, IsOutcomeOf}
use Rattle.cl_told.proofs.Turning.{same_session}
use Rattle.cl_types.specs.declared.answers.AbortCause.TheVariants.{Conflict, Client, Memory}
use Rattle.cl_types.specs.declared.answers.Outcome.{Outcome}
use Rattle.cl_types.specs.declared.answers.Outcome.TheVariants.{Done, Begun, Committed, Aborted}
use Rattle.cl_types.specs.declared.operations.Command.{Command}
use Rattle.cl_types.specs.declared.operations.Command.TheVariants.{Begin, Work, Commit, Abort}

-- the transaction of this number, counted from 1
abbrev pub told_transaction : Session → ℕ → Option Transaction
told_transaction told number = numbered (all_of told) number

-- its commands
abbrev pub told_commands : Session → ℕ → List Exchange
told_commands told number = commands_in (told_transaction told number)

-- the number of the transaction that comes after those that have ended
abbrev pub next_number : Session → ℕ
next_number told = suc (length told.ended)

-- ---- lists with another last element

replaced-other : (xs : List Transaction) (x y : Transaction) (k : ℕ) → k ≢ length xs → slice_get (xs ++ y ∷ []) k ≡ slice_get (xs ++ x ∷ []) k
replaced-other [] x y zero apart = absurd (apart refl)
replaced-other [] x y (suc k) apart = refl
replaced-other (z ∷ xs) x y zero apart = refl
replaced-other (z ∷ xs) x y (suc k) apart = replaced-other xs x y k (λ same. apart (ap suc same))

more-other : (xs : List Transaction) (y : Transaction) (k : ℕ) → k ≢ length xs → slice_get (xs ++ y ∷ []) k ≡ slice_get xs k
more-other [] y zero apart = absurd (apart refl)
more-other [] y (suc k) apart = refl
more-other (z ∷ xs) y zero apart = refl
more-other (z ∷ xs) y (suc k) apart = more-other xs y k (λ same. apart (ap suc same))

none-behind : (xs : List Transaction) → slice_get xs (length xs) ≡ None
none-behind [] = refl
none-behind (x ∷ xs) = none-behind xs

-- ---- one answer more

-- where a transaction was, is one that begins there
abbrev pub KeepsBegin : Option Transaction → Option Transaction → Type 0
KeepsBegin old new = (transaction : Transaction) → old ≡ Some transaction → (after : Transaction) × (new ≡ Some after) × (after.begin ≡ transaction.begin)

-- the transaction that comes after the ended ones has these commands more, and all others have what they had
pub record IsStep (told now : Session) (added : List Exchange) : Type 0 where
  pub here : told_commands now (next_number told) ≡ told_commands told (next_number told) ++ added
  pub there : (number : ℕ) → number ≢ next_number told → told_transaction now number ≡ told_transaction told number
  pub begins_as : KeepsBegin (told_transaction told (next_number told)) (told_transaction now (next_number told))

-- the same over lists
record IsListStep (k : ℕ) (before after : List Transaction) (added : List Exchange) : Type 0 where
  here : commands_in (slice_get after k) ≡ commands_in (slice_get before k) ++ added
  there : (j : ℕ) → j ≢ k → slice_get after j ≡ slice_get before j
  begins_as : KeepsBegin (slice_get before k) (slice_get after k)

step_of_lists : (told now : Session) (added : List Exchange) → IsListStep (length told.ended) (all_of told) (all_of now) added → IsStep told now added
step_of_lists told now added is = record { here = is.here; there = there; begins_as = is.begins_as }
  where
    there : (number : ℕ) → number ≢ next_number told → told_transaction now number ≡ told_transaction told number
    there zero apart = refl
    there (suc k) apart = is.there k (λ same. apart (ap suc same))

module _ (ended : List Transaction) where
  goes_on_lists : (current : Transaction) (one : Exchange) →
      IsListStep (length ended) (ended ++ current ∷ []) (ended ++ with_command current one ∷ []) (one ∷ [])
  goes_on_lists current one = record {
    here = ap commands_in (StandsAt-push_last ended (with_command current one))
        ∙ ap (λ list. list ++ one ∷ []) (sym (ap commands_in (StandsAt-push_last ended current)));
    there = λ j apart. replaced-other ended current (with_command current one) j apart;
    begins_as = λ transaction is. (
      with_command current one,
      StandsAt-push_last ended (with_command current one),
      ap (λ found. (unwrap_or found current).begin) (sym (StandsAt-push_last ended current) ∙ is),
    );
  }

  -- the transaction goes on
  pub goes_on : (current : Transaction) (one : Exchange) →
      IsStep (record { ended = ended; current = Some current }) (record { ended = ended; current = Some (with_command current one) }) (one ∷ [])
  goes_on current one = step_of_lists _ _ _ (goes_on_lists current one)

  -- it ends
  pub ends : (current : Transaction) (one : Exchange) →
      IsStep (record { ended = ended; current = Some current }) (record { ended = ended ++ with_command current one ∷ []; current = None }) (one ∷ [])
  ends current one =
      step_of_lists _ _ _ (subst (λ list. IsListStep (length ended) (ended ++ current ∷ []) list (one ∷ []))
      (sym (append-nil (ended ++ with_command current one ∷ []))) (goes_on_lists current one))

  -- one begins
  pub begins : (line : ℕ) → IsStep (record { ended = ended; current = None })
      (record { ended = ended; current = Some (record { begin = line; commands = [] }) }) []
  begins line =
      let new : Transaction = record { begin = line; commands = [] } in
      step_of_lists _ _ _ (subst (λ list. IsListStep (length ended) list (ended ++ new ∷ []) []) (sym (append-nil ended)) (record {
        here = ap commands_in (StandsAt-push_last ended new) ∙ ap (λ found. commands_in found ++ []) (sym (none-behind ended));
        there = λ j apart. more-other ended new j apart;
        begins_as = λ transaction is. absurd (let no : ◌≡◌ {A = Option Transaction} None (Some transaction) = sym (none-behind ended) ∙ is in cc);
      }))

-- what an exchange adds to the commands: BEGIN is none of them
abbrev pub added_by : Exchange → Command → List Exchange
added_by one Begin = []
added_by one what = one ∷ []

-- the first command without an answer gets its outcome
module _ (told : Session) (session : SessionState) (current : Current) (line at : ℕ) where
  abbrev Steps : Command → Outcome → Session → Type 0
  Steps what outcome now = IsStep now (session_step now (answered (what, line) (outcome, at))) (added_by (answered (what, line) (outcome, at)) what)

  in_transaction : (transaction : Transaction) (what : Command) (outcome : Outcome) → told.current ≡ Some transaction →
      Steps what outcome (record { ended = told.ended; current = Some transaction }) → Steps what outcome told
  in_transaction transaction what outcome is step = subst (Steps what outcome) (same_session told (Some transaction) is) step

  pub answered_step : (what : Command) (outcome : Outcome) → IsOutcomeOf what outcome → IsToldOutstanding told session current what → Steps what outcome told
  unfolding session_step
  answered_step Begin Begun fits is = subst (Steps Begin Begun) (same_session told None is.0.current) (begins told.ended line)
  answered_step (Work table key op) (Done reply) fits is = in_transaction is.0 (Work table key op) (Done reply) is.3.current
      (goes_on told.ended is.0 (answered (Work table key op, line) (Done reply, at)))
  answered_step (Work table key op) (Aborted (Conflict holder)) fits is =
      in_transaction is.0 (Work table key op) (Aborted (Conflict holder)) is.3.current
      (ends told.ended is.0 (answered (Work table key op, line) (Aborted (Conflict holder), at)))
  answered_step (Work table key op) (Aborted Memory) fits is = in_transaction is.0 (Work table key op) (Aborted Memory) is.3.current
      (ends told.ended is.0 (answered (Work table key op, line) (Aborted Memory, at)))
  answered_step Commit Committed fits is = in_transaction is.0 Commit Committed is.1.current (ends told.ended is.0 (answered (Commit, line) (Committed, at)))
  answered_step Abort (Aborted Client) fits is = in_transaction is.0 Abort (Aborted Client) is.1.current
      (ends told.ended is.0 (answered (Abort, line) (Aborted Client, at)))
  answered_step what outcome fits is = absurd fits
