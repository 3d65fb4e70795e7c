-- The acts of calls.
use Rattle.std.proofs.Common.{◌≡◌, ℕ, Bool, true, false, cond, ◌&&◌, List, [], ◌∷◌, flat_map, All, Contains, Option, Some, None, option_map, nat_le, refl, ap}
use Rattle.std.specs.Option.{option_map_or}
use Rattle.std.proofs.lemmas.Bool.{cond-false, cond_both, leb-true, and_left}
use Rattle.std.proofs.lemmas.List.Elements.{All-nil, All-cons, All-append, All-map, All-contains, All-filter, All-contains_itself, filter_passes, All-head, All-tail}
use Rattle.cl_types.specs.declared.answers.AbortCause.{AbortCause}
use Rattle.cl_types.specs.declared.answers.Answer.{Answer}
use Rattle.cl_types.specs.declared.answers.Answer.TheVariants as reply
use Rattle.cl_types.specs.declared.answers.Outcome.TheVariants.{Committed, Aborted}
use Rattle.cl_types.specs.declared.operations.Command.{Command}
use Rattle.cl_types.specs.declared.operations.Command.TheVariants.{Begin, Work, Commit, Abort}
use Rattle.cl_types.specs.declared.operations.TxnId.{TxnId}
use Rattle.cl_control.specs.declared.acts.Act.{Act}
use Rattle.cl_control.specs.declared.acts.Act.TheVariants.{Prepare, Finish, Decide, Say}
use Rattle.cl_control.specs.declared.entry.Phase.{Phase}
use Rattle.cl_control.specs.declared.entry.Phase.TheVariants.{Idle, Asked, Preparing, Decided, Logged}
use Rattle.cl_control.specs.State.{ControlState, ascending, phase_of, participants_of}
use Rattle.cl_control.specs.Calls.{finishes, prepares, abort_acts, commit_acts, command_acts, answered_acts, answer_acts, after_answer, counts_answer, is_asked, vote_acts, after_vote, counts_vote, is_last_vote, awaits_vote, committed_acts, acts_of_told, up_to, safe_acts}
use Rattle.cl_control.specs.Laws.{command, answer, vote, decided_at, safe_up_to, IsSafe, CommittedWhenSafe, StrangersChangeNothing}
use Rattle.cl_control.proofs.Entries.{not_open-found}

-- ---- what holds of each act

pub All-if : {X : Type 0} (P : X → Type 0) (b : Bool) (xs : List X) → (b ≡ true → All P xs) → All P (cond b xs [])
All-if P b xs h = cond_both b xs [] (All P) h (λ _. All-nil P)

pub All-one : {X : Type 0} (P : X → Type 0) (x : X) → P x → All P (x ∷ [])
All-one P x h = All-cons P x [] h (All-nil P)

module _ (P : Act → Type 0) (state : ControlState) where
  pub All-prepares : (txn : TxnId) → ((v : ℕ) → P (Prepare v txn)) → All P (prepares state txn)
  All-prepares txn h = All-map P (λ v. Prepare v txn) (ascending state.nodes (participants_of state txn)) (λ k d _. h _)

  pub All-finishes : (txn : TxnId) (commit : Bool) → ((v : ℕ) → P (Finish v txn commit)) → All P (finishes state txn commit)
  All-finishes txn commit h = All-map P (λ v. Finish v txn commit) (ascending state.nodes (participants_of state txn)) (λ k d _. h _)

  pub All-abort_acts : (txn : TxnId) (number : ℕ) (cause : AbortCause) → ((v : ℕ) → P (Finish v txn false)) → P (Say txn number (Aborted cause)) → All P (abort_acts state txn number cause)
  All-abort_acts txn number cause h one = All-append P (finishes state txn false) (Say txn number (Aborted cause) ∷ []) (All-finishes txn false h) (All-one P _ one)

  pub All-commit_acts : (txn : TxnId) (vs : List ℕ) → (vs ≡ [] → P (Decide txn)) → ((v : ℕ) → P (Prepare v txn)) → All P (commit_acts state txn vs)
  All-commit_acts txn [] one h = All-one P (Decide txn) (one refl)
  All-commit_acts txn (v ∷ vs) one h = All-prepares txn h

  pub All-flat_map : {X : Type 0} (f : X → List Act) (xs : List X) → All (λ x. All P (f x)) xs → All P (flat_map f xs)
  All-flat_map f [] h = All-nil P
  All-flat_map {X} f (x ∷ xs) h =
      let each : X → Type 0 = λ y. All P (f y) in
      All-append P (f x) (flat_map f xs) (All-head each x xs h) (All-flat_map f xs (All-tail each x xs h))

  pub All-committed_acts : (txn : TxnId) (phase : Option Phase) → ((v : ℕ) → P (Finish v txn true)) → ((number : ℕ) → P (Say txn number Committed)) → All P (committed_acts state txn phase)
  All-committed_acts txn (Some (Logged number)) h one = All-append P (finishes state txn true) (Say txn number Committed ∷ []) (All-finishes txn true h) (All-one P _ (one number))
  All-committed_acts txn (Some Idle) h one = All-nil P
  All-committed_acts txn (Some (Asked number v)) h one = All-nil P
  All-committed_acts txn (Some (Preparing number)) h one = All-nil P
  All-committed_acts txn (Some (Decided number)) h one = All-nil P
  All-committed_acts txn None h one = All-nil P

-- ---- COMMITTED

module _ (txn : TxnId) (number : ℕ) where
  -- the act is not COMMITTED of the transaction
  abbrev IsOther : Act → Type 0
  IsOther act = act ≡ Say txn number Committed → ⊥

  others_of_command : (state : ControlState) (of : TxnId) (n : ℕ) (what : Command) → All IsOther (command_acts state of n what)
  unfolding command_acts
  others_of_command state of n Begin = All-one IsOther _ (λ e. cc)
  others_of_command state of n (Work table key op) = All-one IsOther _ (λ e. cc)
  others_of_command state of n Commit = All-commit_acts IsOther state of (participants_of state of) (λ _ e. cc) (λ v e. cc)
  others_of_command state of n Abort = All-abort_acts IsOther state of n _ (λ v e. cc) (λ e. cc)

  others_of_answered : (state : ControlState) (of : TxnId) (n : ℕ) (a : Answer) → All IsOther (answered_acts state of n a)
  others_of_answered state of n (reply.Done r) = All-one IsOther _ (λ e. cc)
  others_of_answered state of n (reply.Refused holder) = All-abort_acts IsOther state of n _ (λ v e. cc) (λ e. cc)
  others_of_answered state of n reply.NoMemory = All-abort_acts IsOther state of n _ (λ v e. cc) (λ e. cc)

  others_of_answer : (state : ControlState) (v : ℕ) (of : TxnId) (n : ℕ) (a : Answer) → All IsOther (answer_acts state v of n a)
  unfolding answer_acts
  others_of_answer state v of n a = All-if IsOther (counts_answer state v of n) (answered_acts state of n a) (λ _. others_of_answered state of n a)

  others_of_vote : (state : ControlState) (v : ℕ) (of : TxnId) → All IsOther (vote_acts state v of)
  unfolding vote_acts
  others_of_vote state v of = All-if IsOther (counts_vote state v of && is_last_vote state v of) (Decide of ∷ []) (λ _. All-one IsOther (Decide of) (λ e. cc))

  -- what is said once the log is safe is of a Decide that is safe
  abbrev IsOfSafe : ControlState → ℕ → Act → Type 0
  IsOfSafe state safe act = act ≡ Say txn number Committed → IsSafe state txn safe

  safe_ones : (state : ControlState) (safe : ℕ) → All (IsOfSafe state safe) (safe_acts state safe)
  unfolding safe_acts
  safe_ones state safe =
      let first = up_to safe state.waiting in
      let waits : All (Contains state.waiting) first = All-filter (λ told. nat_le told.number safe) (Contains state.waiting) state.waiting (All-contains_itself state.waiting) in
      let within : All (λ told. nat_le told.number safe ≡ true) first = filter_passes (λ told. nat_le told.number safe) state.waiting in
      All-flat_map (IsOfSafe state safe) state (acts_of_told state) first
      (λ k d h. All-committed_acts (IsOfSafe state safe) state _ (phase_of state _) (λ v e. absurd (cc))
      (λ n e. record { told = _; waits = waits k d h; of = cc; within = leb-true _ _ (within k d h) }))

pub committed_when_safe : CommittedWhenSafe
committed_when_safe state (command of n what) txn number h = absurd (All-contains (IsOther txn number) _ _ (others_of_command txn number state of n what) h refl)
committed_when_safe state (answer v of n a) txn number h = absurd (All-contains (IsOther txn number) _ _ (others_of_answer txn number state v of n a) h refl)
committed_when_safe state (vote v of) txn number h = absurd (All-contains (IsOther txn number) _ _ (others_of_vote txn number state v of) h refl)
committed_when_safe state (decided_at of n) txn number h = absurd (All-contains (IsOther txn number) [] _ (All-nil (IsOther txn number)) h refl)
committed_when_safe state (safe_up_to safe) txn number h = (safe, refl, All-contains (IsOfSafe txn number state safe) _ _ (safe_ones txn number state safe) h refl)

-- ---- strangers

pub strangers_change_nothing : StrangersChangeNothing
unfolding answer_acts after_answer vote_acts after_vote
strangers_change_nothing state v txn closed =
    let none = not_open-found txn state.transactions closed in
    let no_answer : (n : ℕ) → counts_answer state v txn n ≡ false = λ n. ap (λ o. option_map_or (is_asked n v) (option_map (λ entry. entry.phase) o) false) none in
    let no_vote : counts_vote state v txn ≡ false = ap (λ o. option_map_or (awaits_vote v) o false) none in
    ((λ n a. (cond-false _ _ _ (no_answer n), cond-false _ _ _ (no_answer n))), (cond-false _ _ _ (and_left _ _ no_vote), cond-false _ _ _ no_vote))
