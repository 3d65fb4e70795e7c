-- A controller as it is once all that waits to be safe was told: it takes each call as it would before.
use Rattle.std.proofs.Common.{◌≡◌, ℕ, Bool, true, false, cond, ◌&&◌, not, List, [], ◌∷◌, ◌++◌, map, Option, Some, None, is_some, option_map, refl, sym, ap, ◌∙◌, inl, inr}
use Rattle.std.specs.Option.{option_map_or}
use Rattle.std.proofs.lemmas.Bool.{true≢false, false≢true, cases_Bool, cond-false, false_from_ne_true, and_left, and_from, not_from_true}
use Rattle.std.proofs.lemmas.List.Elements.{filter-append}
use Rattle.cl_types.specs.declared.answers.AbortCause.{AbortCause}
use Rattle.cl_types.specs.declared.answers.AbortCause.TheVariants.{Conflict, Client, Memory}
use Rattle.cl_types.specs.declared.answers.Answer.{Answer}
use Rattle.cl_types.specs.declared.answers.Answer.TheVariants as reply
use Rattle.cl_types.specs.declared.answers.Outcome.TheVariants.{Aborted}
use Rattle.cl_types.specs.declared.operations.Command.{Command}
use Rattle.cl_types.specs.declared.operations.Command.TheVariants.{Begin, Work, Commit, Abort}
use Rattle.cl_types.specs.declared.operations.TxnId.{TxnId}
use Rattle.cl_types.specs.Placement.{virtual_node_of}
use Rattle.cl_types.specs.Transactions.{same_txn}
use Rattle.cl_control.specs.declared.acts.Act.{Act}
use Rattle.cl_control.specs.declared.acts.Act.TheVariants as acts
use Rattle.cl_control.specs.declared.entry.Phase.{Phase}
use Rattle.cl_control.specs.declared.entry.Phase.TheVariants.{Idle, Asked, Preparing, Decided, Logged}
use Rattle.cl_control.specs.Calls.{asked, committing, finishes, abort_acts, commit_acts, command_acts, after_command, is_asked, counts_answer, answered_acts, after_answered, answer_acts, after_answer, awaits_vote, is_preparing, counts_vote, is_last_vote, voted, after_vote, is_logged, is_told, without_told}
use Rattle.cl_control.specs.Sound.{IsSoundControl, is_logged_here}
use Rattle.cl_control.specs.State.{Entry, ControlState, ascending, new_entry, entry_of, phase_of, participants_of, is_open_here, is_unanimous, with_phase, with_vote, with_changed, without_entry}
use Rattle.cl_control.proofs.Entries.{found-name, is_some-entry_named}
use Rattle.cl_control.proofs.Kept.{voted-name}
use Rattle.cl_control.proofs.Soundness.{logged-found}
use Rattle.cl_paired.proofs.Filters.{filter-filter, found-kept, found-gone, changed-kept, stays, stays-apart, told-holds}

-- all that waits was told
abbrev pub calm : ControlState → ControlState
calm control = record control { transactions = without_told control.waiting control.transactions; waiting = [] }

-- ---- what was told

-- of a transaction that is named among the Decides that wait, the log number was told
pub waits-logged : (control : ControlState) → IsSoundControl control → (txn : TxnId) → is_told txn control.waiting ≡ true → is_logged_here control txn ≡ true
waits-logged control sound txn told = told-holds (λ t. is_logged_here control t ≡ true) txn control.waiting sound.logged told

-- so one of which it was not told is none of them
pub not_logged-apart : (control : ControlState) → IsSoundControl control → (txn : TxnId) → is_logged_here control txn ≡ false →
    is_told txn control.waiting ≡ false
not_logged-apart control sound txn not_logged = false_from_ne_true _ (λ told. true≢false (sym (waits-logged control sound txn told) ∙ not_logged))

-- ---- a transaction of which no Decide waits

module _ (control : ControlState) (txn : TxnId) (apart : is_told txn control.waiting ≡ false) where
  -- it is found as before
  pub found-calm : entry_of (calm control) txn ≡ entry_of control txn
  found-calm = found-kept txn (stays control.waiting) control.transactions (stays-apart txn control.waiting apart)

  -- in the same phase
  pub phase-calm : phase_of (calm control) txn ≡ phase_of control txn
  phase-calm = ap (option_map (λ (entry : Entry). entry.phase)) found-calm

  -- and is open as before
  pub open-calm : is_open_here (calm control) txn ≡ is_open_here control txn
  open-calm =
      sym (is_some-entry_named txn (without_told control.waiting control.transactions)) ∙ ap (λ (o : Option Entry). is_some o) found-calm
      ∙ is_some-entry_named txn control.transactions

  -- with the same participants
  participants-calm : participants_of (calm control) txn ≡ participants_of control txn
  participants-calm = ap (λ (o : Option Entry). option_map_or (λ (entry : Entry). entry.participants) o []) found-calm

  -- its participants are told the same
  pub finishes-calm : (commit : Bool) → finishes (calm control) txn commit ≡ finishes control txn commit
  finishes-calm commit = ap (λ (vs : List ℕ). map (λ (v : ℕ). acts.Finish v txn commit) (ascending control.nodes vs)) participants-calm

  -- it changes alike
  changed-calm : (change : Entry → Entry) → ((entry : Entry) → (change entry).txn ≡ entry.txn) →
      calm (with_changed control txn change) ≡ with_changed (calm control) txn change
  changed-calm change keeps =
      ap (λ (entries : List Entry). record control { transactions = entries; waiting = [] })
      (changed-kept txn (stays control.waiting) change keeps control.transactions (stays-apart txn control.waiting apart))

  -- of an abort too
  abort_acts-calm : (number : ℕ) (cause : AbortCause) → abort_acts (calm control) txn number cause ≡ abort_acts control txn number cause
  abort_acts-calm number cause = ap (λ (list : List Act). list ++ acts.Say txn number (Aborted cause) ∷ []) (finishes-calm false)

  -- ---- a command

  -- COMMIT has the same acts
  commit_acts-calm : (vs : List ℕ) → commit_acts (calm control) txn vs ≡ commit_acts control txn vs
  commit_acts-calm [] = refl
  commit_acts-calm (v ∷ vs) = ap (λ (ws : List ℕ). map (λ (w : ℕ). acts.Prepare w txn) (ascending control.nodes ws)) participants-calm

  -- and so has each command
  pub command_acts-calm : (number : ℕ) (what : Command) → command_acts (calm control) txn number what ≡ command_acts control txn number what
  unfolding command_acts
  command_acts-calm number Begin = refl
  command_acts-calm number (Work table key op) = refl
  command_acts-calm number Commit = commit_acts-calm (participants_of (calm control) txn) ∙ ap (commit_acts control txn) participants-calm
  command_acts-calm number Abort = abort_acts-calm number Client

-- a transaction that is no longer open
without-calm : (control : ControlState) (txn : TxnId) → calm (without_entry control txn) ≡ without_entry (calm control) txn
without-calm control txn =
    ap (λ (entries : List Entry). record control { transactions = entries; waiting = [] })
    (filter-filter (stays control.waiting) (λ entry. not (same_txn txn entry.txn)) control.transactions)

-- a command leaves the same controller
pub after_command-calm : (control : ControlState) (txn : TxnId) → is_told txn control.waiting ≡ false → (number : ℕ) (what : Command) →
    calm (after_command control txn number what) ≡ after_command (calm control) txn number what
unfolding after_command
after_command-calm control txn apart number Begin =
    ap (λ (entries : List Entry). record control { transactions = entries; waiting = [] })
    (filter-append (stays control.waiting) control.transactions (new_entry txn ∷ []))
after_command-calm control txn apart number (Work table key op) =
    changed-calm control txn apart (asked number (virtual_node_of key control.nodes)) (λ entry. refl)
after_command-calm control txn apart number Commit = changed-calm control txn apart (committing number) (λ entry. refl)
after_command-calm control txn apart number Abort = without-calm control txn

-- ---- a transaction of which a Decide waits

module _ (control : ControlState) (sound : IsSoundControl control) (txn : TxnId) (told : is_told txn control.waiting ≡ true) where
  -- it is open, and its log number was told
  here : (entry : Entry) × (entry_of control txn ≡ Some entry) × (is_logged entry.phase ≡ true)
  here = logged-found control.transactions txn (waits-logged control sound txn told)

  -- it is not found any more
  gone-calm : entry_of (calm control) txn ≡ None
  gone-calm =
      let name : is_told here.0.txn control.waiting ≡ true =
      ap (λ t. is_told t control.waiting) (sym (found-name txn control.transactions here.0 here.1)) ∙ told in
      found-gone txn (stays control.waiting) control.transactions here.0 sound.names here.1 (not_from_true _ (and_from _ _ here.2 name))

  -- so it waits for no answer
  not_asked : (number v : ℕ) (phase : Phase) → is_logged phase ≡ true → is_asked number v phase ≡ false
  not_asked number v (Logged command) is = refl
  not_asked number v Idle is = absurd (false≢true is)
  not_asked number v (Asked command w) is = absurd (false≢true is)
  not_asked number v (Preparing command) is = absurd (false≢true is)
  not_asked number v (Decided command) is = absurd (false≢true is)

  -- and for no vote
  not_preparing : (phase : Phase) → is_logged phase ≡ true → is_preparing phase ≡ false
  not_preparing (Logged command) is = refl
  not_preparing Idle is = absurd (false≢true is)
  not_preparing (Asked command w) is = absurd (false≢true is)
  not_preparing (Preparing command) is = absurd (false≢true is)
  not_preparing (Decided command) is = absurd (false≢true is)

  -- no answer counts for it, before and after
  no_answer : (v number : ℕ) → counts_answer control v txn number ≡ false
  no_answer v number = ap (λ (o : Option Entry). option_map_or (is_asked number v) (option_map (λ (entry : Entry). entry.phase) o) false) here.1
      ∙ not_asked number v here.0.phase here.2

  -- as it is gone
  no_answer-calm : (v number : ℕ) → counts_answer (calm control) v txn number ≡ false
  no_answer-calm v number = ap (λ (o : Option Entry). option_map_or (is_asked number v) (option_map (λ (entry : Entry). entry.phase) o) false) gone-calm

  -- nor a vote
  no_vote : (v : ℕ) → counts_vote control v txn ≡ false
  no_vote v =
      ap (λ (o : Option Entry). option_map_or (awaits_vote v) o false) here.1
      ∙ and_left _ _ (and_left _ _ (not_preparing here.0.phase here.2))

  -- as it is gone
  no_vote-calm : (v : ℕ) → counts_vote (calm control) v txn ≡ false
  no_vote-calm v = ap (λ (o : Option Entry). option_map_or (awaits_vote v) o false) gone-calm

-- ---- an answer

module _ (control : ControlState) (sound : IsSoundControl control) (v : ℕ) (txn : TxnId) where
  -- an answer counts before and after
  counts_answer-calm : (number : ℕ) → counts_answer (calm control) v txn number ≡ counts_answer control v txn number
  counts_answer-calm number = elim (cases_Bool (is_told txn control.waiting)) [
    | inl told ↦ no_answer-calm control sound txn told v number ∙ sym (no_answer control sound txn told v number)
    | inr apart ↦ ap (λ (o : Option Phase). option_map_or (is_asked number v) o false) (phase-calm control txn apart)
  ]

  -- and so does a vote
  counts_vote-calm : counts_vote (calm control) v txn ≡ counts_vote control v txn
  counts_vote-calm = elim (cases_Bool (is_told txn control.waiting)) [
    | inl told ↦ no_vote-calm control sound txn told v ∙ sym (no_vote control sound txn told v)
    | inr apart ↦ ap (λ (o : Option Entry). option_map_or (awaits_vote v) o false) (found-calm control txn apart)
  ]

module _ (control : ControlState) (txn : TxnId) (apart : is_told txn control.waiting ≡ false) where
  -- an answer that counts has the same acts
  answered_acts-calm : (number : ℕ) (answer : Answer) → answered_acts (calm control) txn number answer ≡ answered_acts control txn number answer
  answered_acts-calm number (reply.Done r) = refl
  answered_acts-calm number (reply.Refused holder) = abort_acts-calm control txn apart number (Conflict holder)
  answered_acts-calm number reply.NoMemory = abort_acts-calm control txn apart number Memory

  -- and leaves the same controller
  after_answered-calm : (answer : Answer) → calm (after_answered control txn answer) ≡ after_answered (calm control) txn answer
  after_answered-calm (reply.Done r) = changed-calm control txn apart (with_phase Idle) (λ entry. refl)
  after_answered-calm (reply.Refused holder) = without-calm control txn
  after_answered-calm reply.NoMemory = without-calm control txn

-- an answer has the same acts, and leaves the same controller
pub answer_acts-calm : (control : ControlState) → IsSoundControl control → (v : ℕ) (txn : TxnId) (number : ℕ) (answer : Answer) →
    answer_acts (calm control) v txn number answer ≡ answer_acts control v txn number answer
unfolding answer_acts
answer_acts-calm control sound v txn number answer = elim (cases_Bool (is_told txn control.waiting)) [
  | inl told ↦ cond-false _ _ _ (no_answer-calm control sound txn told v number) ∙ sym (cond-false _ _ _ (no_answer control sound txn told v number))
  | inr apart ↦
      ap (λ (b : Bool). cond b (answered_acts (calm control) txn number answer) []) (counts_answer-calm control sound v txn number)
      ∙ ap (λ (list : List Act). cond (counts_answer control v txn number) list []) (answered_acts-calm control txn apart number answer)
]

-- the controller after any answer
pub after_answer-calm : (control : ControlState) → IsSoundControl control → (v : ℕ) (txn : TxnId) (number : ℕ) (answer : Answer) →
    calm (after_answer control v txn number answer) ≡ after_answer (calm control) v txn number answer
unfolding after_answer
after_answer-calm control sound v txn number answer = elim (cases_Bool (is_told txn control.waiting)) [
  | inl told ↦ ap calm (cond-false _ _ _ (no_answer control sound txn told v number)) ∙ sym (cond-false _ _ _ (no_answer-calm control sound txn told v number))
  | inr apart ↦
      by (counts_answer control v txn number) (after_answered-calm control txn apart answer)
      ∙ ap (λ (b : Bool). cond b (after_answered (calm control) txn answer) (calm control)) (sym (counts_answer-calm control sound v txn number))
]
  where
    by : (b : Bool) → calm (after_answered control txn answer) ≡ after_answered (calm control) txn answer →
        calm (cond b (after_answered control txn answer) control) ≡ cond b (after_answered (calm control) txn answer) (calm control)
    by true h = h
    by false h = refl

-- ---- a vote

-- a vote of a transaction that does not wait is the last one before and after
is_last_vote-calm : (control : ControlState) (v : ℕ) (txn : TxnId) → is_told txn control.waiting ≡ false →
    is_last_vote (calm control) v txn ≡ is_last_vote control v txn
is_last_vote-calm control v txn apart =
    ap (λ (o : Option Entry). option_map_or (λ (entry : Entry). is_unanimous (with_vote v entry)) o false) (found-calm control txn apart)

-- a vote is the last one before and after
pub decides-calm : (control : ControlState) → IsSoundControl control → (v : ℕ) (txn : TxnId) →
    (counts_vote (calm control) v txn && is_last_vote (calm control) v txn) ≡ (counts_vote control v txn && is_last_vote control v txn)
decides-calm control sound v txn = elim (cases_Bool (is_told txn control.waiting)) [
  | inl told ↦ and_left _ _ (no_vote-calm control sound txn told v) ∙ sym (and_left _ _ (no_vote control sound txn told v))
  | inr apart ↦
      ap (λ (b : Bool). b && is_last_vote (calm control) v txn) (counts_vote-calm control sound v txn)
      ∙ ap (λ (b : Bool). counts_vote control v txn && b) (is_last_vote-calm control v txn apart)
]

-- a vote leaves the same controller
pub after_vote-calm : (control : ControlState) → IsSoundControl control → (v : ℕ) (txn : TxnId) →
    calm (after_vote control v txn) ≡ after_vote (calm control) v txn
unfolding after_vote
after_vote-calm control sound v txn = elim (cases_Bool (is_told txn control.waiting)) [
  | inl told ↦ ap calm (cond-false _ _ _ (no_vote control sound txn told v)) ∙ sym (cond-false _ _ _ (no_vote-calm control sound txn told v))
  | inr apart ↦
      by (counts_vote control v txn) (changed-calm control txn apart (voted v) (voted-name v))
      ∙ ap (λ (b : Bool). cond b (with_changed (calm control) txn (voted v)) (calm control)) (sym (counts_vote-calm control sound v txn))
]
  where
    by : (b : Bool) → calm (with_changed control txn (voted v)) ≡ with_changed (calm control) txn (voted v) →
        calm (cond b (with_changed control txn (voted v)) control) ≡ cond b (with_changed (calm control) txn (voted v)) (calm control)
    by true h = h
    by false h = refl
