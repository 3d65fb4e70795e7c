-- What the calls of a controller send, and of which transactions it is afterwards.
use Rattle.std.proofs.Common.{◌≡◌, ℕ, ◌<◌, Bool, false, if◌then◌else◌, not, List, [], ◌∷◌, ◌++◌, map, All, refl, sym, subst, arith}
use Rattle.std.specs.List.{flat_map, range_with_len}
use Rattle.std.proofs.lemmas.Bool.{cond_both}
use Rattle.std.proofs.lemmas.List.Elements.{All-nil, All-cons, All-head, All-tail, All-append, All-push, All-map, All-filter, All-weaker, All-from_get_or}
use Rattle.std.proofs.lemmas.List.FromFn.{length-range_with_len, get_or-range_with_len}
use Rattle.cl_types.specs.declared.answers.AbortCause.TheVariants.{Conflict, Client, Memory}
use Rattle.cl_types.specs.declared.answers.Answer.{Answer}
use Rattle.cl_types.specs.declared.answers.Answer.TheVariants as answers
use Rattle.cl_types.specs.declared.answers.Outcome.{Outcome}
use Rattle.cl_types.specs.declared.answers.Outcome.TheVariants.{Done, Begun, Aborted}
use Rattle.cl_types.specs.declared.operations.Command.{Command}
use Rattle.cl_types.specs.declared.operations.Command.TheVariants.{Begin, Work, Commit, Abort}
use Rattle.cl_types.specs.declared.operations.Op.{Op}
use Rattle.cl_types.specs.declared.operations.TxnId.{TxnId}
use Rattle.cl_types.specs.Placement.{IsNodeCount, virtual_node_of}
use Rattle.cl_types.specs.Transactions.{same_txn}
use Rattle.cl_types.proofs.PlacementLaws.{virtual_node_of-below}
use Rattle.cl_control.specs.declared.acts.Act.{Act}
use Rattle.cl_control.specs.declared.acts.Act.TheVariants.{Ask, Prepare, Finish, Decide, Say}
use Rattle.cl_control.specs.declared.entry.Phase.TheVariants.{Idle}
use Rattle.cl_control.specs.Calls.{finishes, commit_acts, command_acts, asked, committing, after_command, counts_answer, answered_acts, after_answered, answer_acts, after_answer, counts_vote, voted, decided, after_vote}
use Rattle.cl_control.specs.State.{Entry, ControlState, is_among, ascending, with_phase, with_vote, is_unanimous, participants_of, new_entry, changed, without, with_changed}
use Rattle.cl_lone.specs.Lone.{message_of, messages_of}
use Rattle.cl_node.specs.Addressing.{home_in}
use Rattle.cl_system.specs.Replicas.{own_primary}
use Rattle.cl_system.specs.Roles.{IsOfSession}
use Rattle.cl_system.proofs.Sends.{IsSent, AreSent}

-- the message of an act, if it has one, goes from this giver to an actor that its kind names
abbrev pub IsActSent : ℕ → ℕ → Act → Type 0
IsActSent nodes from act = AreSent nodes from (message_of own_primary act)

-- so do the messages of acts
pub messages_sent : (nodes from : ℕ) (acts : List Act) → All (IsActSent nodes from) acts → AreSent nodes from (messages_of own_primary acts)
messages_sent nodes from [] are = All-nil (IsSent nodes from)
messages_sent nodes from (act ∷ acts) are =
    All-append (IsSent nodes from) (message_of own_primary act) (flat_map (message_of own_primary) acts)
    (All-head (IsActSent nodes from) act acts are) (messages_sent nodes from acts (All-tail (IsActSent nodes from) act acts are))

-- virtual nodes of an ascending list are those that there are
ascending_below : (nodes : ℕ) (vs : List ℕ) → All (λ v. v < nodes) (ascending nodes vs)
ascending_below nodes vs =
    All-filter (λ v. is_among v vs) (λ v. v < nodes) (range_with_len 0 nodes)
    (All-from_get_or (λ v. v < nodes) (range_with_len 0 nodes) 0
    (λ i within. let few : i < nodes = omega (arith, length-range_with_len 0 nodes, within) in omega (arith, get_or-range_with_len 0 nodes i 0 few, few)))

-- what a controller sends of a transaction of its own
module _ (state : ControlState) (home : ℕ) (txn : TxnId) (there : IsOfSession txn) (mine : home ≡ home_in state.nodes txn) (counted : IsNodeCount state.nodes) where
  say_sent : (number : ℕ) (outcome : Outcome) → IsActSent state.nodes home (Say txn number outcome)
  say_sent number outcome = All-cons (IsSent state.nodes home) _ [] (record { session = there; giver = mine; receiver = refl }) (All-nil (IsSent state.nodes home))

  prepare_sent : (v : ℕ) → v < state.nodes → IsActSent state.nodes home (Prepare v txn)
  prepare_sent v below = All-cons (IsSent state.nodes home) _ [] (record { session = there; giver = mine; receiver = refl; node = below }) (All-nil (IsSent state.nodes home))

  finish_sent : (commit : Bool) (v : ℕ) → v < state.nodes → IsActSent state.nodes home (Finish v txn commit)
  finish_sent commit v below = All-cons (IsSent state.nodes home) _ [] (record { session = there; giver = mine; receiver = refl; node = below }) (All-nil (IsSent state.nodes home))

  ask_sent : (number : ℕ) (table key : List ℕ) (op : Op) → IsActSent state.nodes home (Ask (virtual_node_of key state.nodes) txn number table key op)
  ask_sent number table key op =
      All-cons (IsSent state.nodes home) _ [] (record { session = there; giver = mine; receiver = refl; node = virtual_node_of-below key state.nodes counted }, refl)
      (All-nil (IsSent state.nodes home))

  decide_sent : IsActSent state.nodes home (Decide txn)
  decide_sent = All-nil (IsSent state.nodes home)

  -- one act
  one_sent : (act : Act) → IsActSent state.nodes home act → All (IsActSent state.nodes home) (act ∷ [])
  one_sent act is = All-cons (IsActSent state.nodes home) act [] is (All-nil (IsActSent state.nodes home))

  -- one for each participant
  each_sent : (act : ℕ → Act) → ((v : ℕ) → v < state.nodes → IsActSent state.nodes home (act v)) → All (IsActSent state.nodes home) (map act (ascending state.nodes (participants_of state txn)))
  each_sent act each =
      All-map (IsActSent state.nodes home) act (ascending state.nodes (participants_of state txn))
      (All-weaker (λ v. v < state.nodes) (λ v. IsActSent state.nodes home (act v)) each (ascending state.nodes (participants_of state txn))
      (ascending_below state.nodes (participants_of state txn)))

  pub end_sent : (commit : Bool) (number : ℕ) (outcome : Outcome) → All (IsActSent state.nodes home) (finishes state txn commit ++ Say txn number outcome ∷ [])
  end_sent commit number outcome =
      All-append (IsActSent state.nodes home) (finishes state txn commit) (Say txn number outcome ∷ []) (each_sent (λ v. Finish v txn commit) (finish_sent commit))
      (one_sent (Say txn number outcome) (say_sent number outcome))

  commit_sent : (participants : List ℕ) → All (IsActSent state.nodes home) (commit_acts state txn participants)
  commit_sent [] = one_sent (Decide txn) decide_sent
  commit_sent (v ∷ vs) = each_sent (λ v. Prepare v txn) prepare_sent

  pub command_sent : (number : ℕ) (what : Command) → All (IsActSent state.nodes home) (command_acts state txn number what)
  unfolding command_acts
  command_sent number Begin = one_sent _ (say_sent number Begun)
  command_sent number (Work table key op) = one_sent _ (ask_sent number table key op)
  command_sent number Commit = commit_sent (participants_of state txn)
  command_sent number Abort = end_sent false number (Aborted Client)

  answered_sent : (number : ℕ) (answer : Answer) → All (IsActSent state.nodes home) (answered_acts state txn number answer)
  answered_sent number (answers.Done reply) = one_sent _ (say_sent number (Done reply))
  answered_sent number (answers.Refused holder) = end_sent false number (Aborted (Conflict holder))
  answered_sent number answers.NoMemory = end_sent false number (Aborted Memory)

  pub answer_sent : (v number : ℕ) (answer : Answer) → All (IsActSent state.nodes home) (answer_acts state v txn number answer)
  unfolding answer_acts
  answer_sent v number answer =
      cond_both (counts_answer state v txn number) (answered_acts state txn number answer) [] (All (IsActSent state.nodes home))
      (λ counts. answered_sent number answer) (λ none. All-nil (IsActSent state.nodes home))

-- ---- of which transactions a controller is

-- each open transaction has this property
abbrev pub EachNamed : (TxnId → Type 0) → List Entry → Type 0
EachNamed P entries = All (λ entry. P entry.txn) entries

module _ (P : TxnId → Type 0) where
  -- a change leaves names
  changed_named : (txn : TxnId) (change : Entry → Entry) (entries : List Entry) → ((entry : Entry) → (change entry).txn ≡ entry.txn) → EachNamed P entries → EachNamed P (changed txn change entries)
  changed_named txn change entries keeps each =
      All-map (λ (entry : Entry). P entry.txn) (λ entry. if same_txn txn entry.txn then change entry else entry) entries
      (All-weaker (λ (entry : Entry). P entry.txn) (λ entry. P (if same_txn txn entry.txn then change entry else entry).txn)
      (λ entry is. cond_both (same_txn txn entry.txn) (change entry) entry (λ one. P one.txn) (λ here. subst P (sym (keeps entry)) is) (λ elsewhere. is)) entries each)

  pub without_named : (txn : TxnId) (entries : List Entry) → EachNamed P entries → EachNamed P (without txn entries)
  without_named txn entries each = All-filter (λ entry. not (same_txn txn entry.txn)) (λ (entry : Entry). P entry.txn) entries each

  pub command_named : (state : ControlState) (txn : TxnId) (number : ℕ) (what : Command) → P txn → EachNamed P state.transactions → EachNamed P (after_command state txn number what).transactions
  unfolding after_command
  command_named state txn number Begin is each = All-push (λ (entry : Entry). P entry.txn) state.transactions (new_entry txn) each is
  command_named state txn number (Work table key op) is each =
      changed_named txn (asked number (virtual_node_of key state.nodes)) state.transactions (λ entry. refl) each
  command_named state txn number Commit is each = changed_named txn (committing number) state.transactions (λ entry. refl) each
  command_named state txn number Abort is each = without_named txn state.transactions each

  answered_named : (state : ControlState) (txn : TxnId) (answer : Answer) → EachNamed P state.transactions → EachNamed P (after_answered state txn answer).transactions
  answered_named state txn (answers.Done reply) each = changed_named txn (with_phase Idle) state.transactions (λ entry. refl) each
  answered_named state txn (answers.Refused holder) each = without_named txn state.transactions each
  answered_named state txn answers.NoMemory each = without_named txn state.transactions each

  pub answer_named : (state : ControlState) (v : ℕ) (txn : TxnId) (number : ℕ) (answer : Answer) → EachNamed P state.transactions → EachNamed P (after_answer state v txn number answer).transactions
  unfolding after_answer
  answer_named state v txn number answer each =
      cond_both (counts_answer state v txn number) (after_answered state txn answer) state (λ (control : ControlState). EachNamed P control.transactions)
      (λ counts. answered_named state txn answer each) (λ none. each)

  -- a vote leaves the name
  voted_name : (v : ℕ) (entry : Entry) → (voted v entry).txn ≡ entry.txn
  voted_name v entry =
      cond_both (is_unanimous (with_vote v entry)) (with_phase (decided entry.phase) (with_vote v entry)) (with_vote v entry) (λ one. one.txn ≡ entry.txn) (λ last. refl) (λ more. refl)

  pub vote_named : (state : ControlState) (v : ℕ) (txn : TxnId) → EachNamed P state.transactions → EachNamed P (after_vote state v txn).transactions
  unfolding after_vote
  vote_named state v txn each =
      cond_both (counts_vote state v txn) (with_changed state txn (voted v)) state (λ (control : ControlState). EachNamed P control.transactions)
      (λ counts. changed_named txn (voted v) state.transactions (voted_name v) each) (λ none. each)
