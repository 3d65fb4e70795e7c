-- What a controller sends is in range, and so are its open transactions.
use Rattle.std.proofs.Common.{ℕ, ◌<◌, Bool, false, if◌then◌else◌, not, List, [], ◌∷◌, ◌++◌, map, All, find, Some, option_map, arith}
use Rattle.std.specs.List.{flat_map, range_with_len}
use Rattle.std.specs.Option.{option_map_or}
use Rattle.std.proofs.lemmas.Bool.{cond_both}
use Rattle.std.proofs.lemmas.List.Elements.{All-nil, All-cons, All-head, All-tail, All-append, All-push, All-map, All-filter, All-weaker, All-from_get_or}
use Rattle.std.proofs.lemmas.List.FromFn.{length-range_with_len, get_or-range_with_len}
use Rattle.cl_control.specs.declared.acts.Act.{Act}
use Rattle.cl_control.specs.declared.acts.Act.TheVariants.{Prepare, Finish, Decide, Say}
use Rattle.cl_control.specs.declared.entry.Phase.{Phase}
use Rattle.cl_control.specs.declared.entry.Phase.TheVariants.{Idle, Asked, Preparing, Decided, Logged}
use Rattle.cl_control.specs.Calls.{finishes, commit_phase, commit_acts, command_acts, asked, committing, after_command, counts_answer, answered_acts, after_answered, answer_acts, after_answer, counts_vote, voted, decided, after_vote}
use Rattle.cl_control.specs.State.{Entry, ControlState, is_among, ascending, with_phase, with_vote, is_unanimous, participants_of, new_entry, changed, without, with_changed}
use Rattle.cl_fields.specs.Range.{IsCommandNumber, IsTxn, IsVirtualNode, IsCommand, IsAnswer, IsOutcome}
use Rattle.cl_lone.specs.Lone.{message_of, messages_of, command_in, command_of}
use Rattle.cl_ranges.specs.Ranges.{IsEntryInRange}
use Rattle.cl_steps.specs.declared.steps.Outgoing.{Outgoing}
use Rattle.cl_system.specs.Replicas.{own_primary}
use Rattle.cl_types.proofs.PlacementLaws.{node_count-bounds, virtual_node_of-below}
use Rattle.cl_types.specs.declared.answers.AbortCause.TheVariants.{Conflict, Client, Memory}
use Rattle.cl_types.specs.declared.answers.Answer.{Answer}
use Rattle.cl_types.specs.declared.answers.Answer.TheVariants as answers
use Rattle.cl_types.specs.declared.answers.Outcome.{Outcome}
use Rattle.cl_types.specs.declared.answers.Outcome.TheVariants.{Done, Begun, Aborted}
use Rattle.cl_types.specs.declared.operations.Command.{Command}
use Rattle.cl_types.specs.declared.operations.Command.TheVariants.{Begin, Work, Commit, Abort}
use Rattle.cl_types.specs.declared.operations.TxnId.{TxnId}
use Rattle.cl_types.specs.Placement.{IsNodeCount, virtual_node_of}
use Rattle.cl_types.specs.Transactions.{same_txn}
use Rattle.cl_wire.specs.Range.{IsContent}

-- what is sent is in range
abbrev pub IsSentInRange : Outgoing → Type 0
IsSentInRange send = IsContent send.payload

abbrev pub AreSentInRange : List Outgoing → Type 0
AreSentInRange sends = All IsSentInRange sends

-- the message of an act, if it has one, is in range
abbrev pub IsActInRange : Act → Type 0
IsActInRange act = AreSentInRange (message_of own_primary act)

pub messages_range : (acts : List Act) → All IsActInRange acts → AreSentInRange (messages_of own_primary acts)
messages_range [] are = All-nil IsSentInRange
messages_range (act ∷ acts) are =
    All-append IsSentInRange (message_of own_primary act) (flat_map (message_of own_primary) acts)
    (All-head IsActInRange act acts are) (messages_range acts (All-tail IsActInRange act acts are))

-- ---- acts

-- virtual nodes of an ascending list are those that there are
ascending_range : (nodes : ℕ) (vs : List ℕ) → IsNodeCount nodes → All IsVirtualNode (ascending nodes vs)
ascending_range nodes vs counted =
    All-filter (λ v. is_among v vs) IsVirtualNode (range_with_len 0 nodes)
    (All-from_get_or IsVirtualNode (range_with_len 0 nodes) 0
    (λ i within.
    let few : i < nodes = omega (arith, length-range_with_len 0 nodes, within) in
    let bounds = node_count-bounds nodes counted in
    omega (arith, get_or-range_with_len 0 nodes i 0 few, few, bounds.1)))

module _ (state : ControlState) (txn : TxnId) (named : IsTxn txn) (counted : IsNodeCount state.nodes) where
  one_range : (act : Act) → IsActInRange act → All IsActInRange (act ∷ [])
  one_range act is = All-cons IsActInRange act [] is (All-nil IsActInRange)

  say_range : (number : ℕ) (outcome : Outcome) → IsCommandNumber number → IsOutcome outcome → IsActInRange (Say txn number outcome)
  say_range number outcome numbered is = All-cons IsSentInRange _ [] (named, numbered, is) (All-nil IsSentInRange)

  each_range : (act : ℕ → Act) → ((v : ℕ) → IsVirtualNode v → IsActInRange (act v)) → All IsActInRange (map act (ascending state.nodes (participants_of state txn)))
  each_range act each =
      All-map IsActInRange act (ascending state.nodes (participants_of state txn))
      (All-weaker IsVirtualNode (λ v. IsActInRange (act v)) each (ascending state.nodes (participants_of state txn))
      (ascending_range state.nodes (participants_of state txn) counted))

  pub end_range : (commit : Bool) (number : ℕ) (outcome : Outcome) → IsCommandNumber number → IsOutcome outcome → All IsActInRange (finishes state txn commit ++ Say txn number outcome ∷ [])
  end_range commit number outcome numbered is =
      All-append IsActInRange (finishes state txn commit) (Say txn number outcome ∷ [])
      (each_range (λ v. Finish v txn commit) (λ v within. All-cons IsSentInRange _ [] (within, named) (All-nil IsSentInRange)))
      (one_range (Say txn number outcome) (say_range number outcome numbered is))

  commit_range : (participants : List ℕ) → All IsActInRange (commit_acts state txn participants)
  commit_range [] = one_range (Decide txn) (All-nil IsSentInRange)
  commit_range (v ∷ vs) = each_range (λ v. Prepare v txn) (λ v within. All-cons IsSentInRange _ [] (within, named) (All-nil IsSentInRange))

  placed_range : (key : List ℕ) → IsVirtualNode (virtual_node_of key state.nodes)
  placed_range key = let bounds = node_count-bounds state.nodes counted in omega (arith, virtual_node_of-below key state.nodes counted, bounds.1)

  pub command_acts_range : (number : ℕ) (what : Command) → IsCommandNumber number → IsCommand what → All IsActInRange (command_acts state txn number what)
  unfolding command_acts
  command_acts_range number Begin numbered is = one_range _ (say_range number Begun numbered tt)
  command_acts_range number (Work table key op) numbered is =
      one_range _ (All-cons IsSentInRange _ [] (placed_range key, named, numbered, is.0, is.1, is.2) (All-nil IsSentInRange))
  command_acts_range number Commit numbered is = commit_range (participants_of state txn)
  command_acts_range number Abort numbered is = end_range false number (Aborted Client) numbered tt

  answered_range : (number : ℕ) (answer : Answer) → IsCommandNumber number → IsAnswer answer → All IsActInRange (answered_acts state txn number answer)
  answered_range number (answers.Done reply) numbered is = one_range _ (say_range number (Done reply) numbered is)
  answered_range number (answers.Refused holder) numbered is = end_range false number (Aborted (Conflict holder)) numbered is
  answered_range number answers.NoMemory numbered is = end_range false number (Aborted Memory) numbered tt

  pub answer_acts_range : (v number : ℕ) (answer : Answer) → IsCommandNumber number → IsAnswer answer → All IsActInRange (answer_acts state v txn number answer)
  unfolding answer_acts
  answer_acts_range v number answer numbered is =
      cond_both (counts_answer state v txn number) (answered_acts state txn number answer) [] (All IsActInRange)
      (λ counts. answered_range number answer numbered is) (λ none. All-nil IsActInRange)

-- ---- open transactions

abbrev pub AreEntriesInRange : List Entry → Type 0
AreEntriesInRange entries = All IsEntryInRange entries

changed_range : (txn : TxnId) (change : Entry → Entry) (entries : List Entry) → ((entry : Entry) → IsEntryInRange entry → IsEntryInRange (change entry)) → AreEntriesInRange entries →
    AreEntriesInRange (changed txn change entries)
changed_range txn change entries keeps each =
    All-map IsEntryInRange (λ entry. if same_txn txn entry.txn then change entry else entry) entries
    (All-weaker IsEntryInRange (λ entry. IsEntryInRange (if same_txn txn entry.txn then change entry else entry))
    (λ entry is. cond_both (same_txn txn entry.txn) (change entry) entry IsEntryInRange (λ here. keeps entry is) (λ elsewhere. is)) entries each)

pub without_range : (txn : TxnId) (entries : List Entry) → AreEntriesInRange entries → AreEntriesInRange (without txn entries)
without_range txn entries each = All-filter (λ entry. not (same_txn txn entry.txn)) IsEntryInRange entries each

committing_range : (number : ℕ) (entry : Entry) → IsCommandNumber number → IsEntryInRange entry → IsEntryInRange (committing number entry)
committing_range number entry numbered is = record { txn = is.txn; number = by entry.participants }
  where
    by : (participants : List ℕ) → IsCommandNumber (command_in (commit_phase number participants))
    by [] = numbered
    by (v ∷ vs) = numbered

pub after_command_range : (state : ControlState) (txn : TxnId) (number : ℕ) (what : Command) → IsTxn txn → IsCommandNumber number → AreEntriesInRange state.transactions →
    AreEntriesInRange (after_command state txn number what).transactions
unfolding after_command
after_command_range state txn number Begin named numbered each = All-push IsEntryInRange state.transactions (new_entry txn) each (record { txn = named; number = omega arith })
after_command_range state txn number (Work table key op) named numbered each =
    changed_range txn (asked number (virtual_node_of key state.nodes)) state.transactions (λ entry is. record { txn = is.txn; number = numbered }) each
after_command_range state txn number Commit named numbered each = changed_range txn (committing number) state.transactions (λ entry is. committing_range number entry numbered is) each
after_command_range state txn number Abort named numbered each = without_range txn state.transactions each

answered_entries_range : (state : ControlState) (txn : TxnId) (answer : Answer) → AreEntriesInRange state.transactions → AreEntriesInRange (after_answered state txn answer).transactions
answered_entries_range state txn (answers.Done reply) each = changed_range txn (with_phase Idle) state.transactions (λ entry is. record { txn = is.txn; number = omega arith }) each
answered_entries_range state txn (answers.Refused holder) each = without_range txn state.transactions each
answered_entries_range state txn answers.NoMemory each = without_range txn state.transactions each

pub after_answer_range : (state : ControlState) (v : ℕ) (txn : TxnId) (number : ℕ) (answer : Answer) → AreEntriesInRange state.transactions → AreEntriesInRange (after_answer state v txn number answer).transactions
unfolding after_answer
after_answer_range state v txn number answer each =
    cond_both (counts_answer state v txn number) (after_answered state txn answer) state (λ (control : ControlState). AreEntriesInRange control.transactions)
    (λ counts. answered_entries_range state txn answer each) (λ none. each)

decided_range : (phase : Phase) → IsCommandNumber (command_in phase) → IsCommandNumber (command_in (decided phase))
decided_range (Preparing command) is = is
decided_range Idle is = is
decided_range (Asked command v) is = is
decided_range (Decided command) is = is
decided_range (Logged command) is = is

voted_range : (v : ℕ) (entry : Entry) → IsEntryInRange entry → IsEntryInRange (voted v entry)
voted_range v entry is =
    cond_both (is_unanimous (with_vote v entry)) (with_phase (decided entry.phase) (with_vote v entry)) (with_vote v entry) IsEntryInRange
    (λ last. record { txn = is.txn; number = decided_range entry.phase is.number }) (λ more. record { txn = is.txn; number = is.number })

pub after_vote_range : (state : ControlState) (v : ℕ) (txn : TxnId) → AreEntriesInRange state.transactions → AreEntriesInRange (after_vote state v txn).transactions
unfolding after_vote
after_vote_range state v txn each =
    cond_both (counts_vote state v txn) (with_changed state txn (voted v)) state (λ (control : ControlState). AreEntriesInRange control.transactions)
    (λ counts. changed_range txn (voted v) state.transactions (voted_range v) each) (λ none. each)

-- the number of the command that is under way
named_range : (p : Entry → Bool) (entries : List Entry) → AreEntriesInRange entries → IsCommandNumber (option_map_or command_in (option_map (λ (entry : Entry). entry.phase) (find p entries)) 0)
named_range p [] each = omega arith
named_range p (entry ∷ entries) each =
    cond_both (p entry) (Some entry) (find p entries) (λ found. IsCommandNumber (option_map_or command_in (option_map (λ (one : Entry). one.phase) found) 0))
    (λ here. (All-head IsEntryInRange entry entries each).number) (λ elsewhere. named_range p entries (All-tail IsEntryInRange entry entries each))

pub command_of_range : (state : ControlState) (txn : TxnId) → AreEntriesInRange state.transactions → IsCommandNumber (command_of state txn)
command_of_range state txn each = named_range _ state.transactions each
