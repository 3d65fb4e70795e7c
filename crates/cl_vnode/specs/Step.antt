-- What an input makes of a replica that is primary, and what the step gives.
use Rattle.std.specs.Prelude.{ℕ, ◌%◌, nat_lt, nat_le, Bool, true, false, ◌&&◌, if◌then◌else◌, List, [], ◌∷◌, ◌++◌, map, filter, fold}
use Rattle.cl_types.specs.declared.answers.Answer.{Answer as OpAnswer}
use Rattle.cl_types.specs.declared.answers.Answer.TheVariants.{NoMemory}
use Rattle.cl_types.specs.declared.operations.Command.{Command as ClientCommand}
use Rattle.cl_types.specs.declared.operations.Op.{Op}
use Rattle.cl_types.specs.declared.operations.TxnId.{TxnId}
use Rattle.cl_types.specs.Places.{Place}
use Rattle.cl_log.specs.declared.records.LogRec.{LogRec}
use Rattle.cl_log.specs.declared.records.LogRec.TheVariants as records
use Rattle.cl_log.specs.LogEntry.{LogEntry}
use Rattle.cl_log.specs.Open.{is_open}
use Rattle.cl_control.specs.declared.acts.Act.{Act}
use Rattle.cl_control.specs.declared.acts.Act.TheVariants as acts
use Rattle.cl_control.specs.Calls.{command_acts, after_command, answer_acts, after_answer, vote_acts, after_vote, after_decided_at, safe_acts, after_safe}
use Rattle.cl_control.specs.State.{ControlState}
use Rattle.cl_part.specs.Calls.{answer_to, after_op, after_prepare, after_decide, after_end, after_abort}
use Rattle.cl_part.specs.State.{State}
use Rattle.cl_roster.specs.declared.entry.RosterEntry.{RosterEntry}
use Rattle.cl_roster.specs.Roles.{roles_after}
use Rattle.cl_backup.specs.Decisions.{with_decision}
use Rattle.cl_repair.specs.declared.mode.Mode.{Mode}
use Rattle.cl_repair.specs.declared.mode.Mode.TheVariants.{Lone, Pair}
use Rattle.cl_repair.specs.Modes.{ModesState, after_acked}
use Rattle.cl_steps.specs.declared.actors.TheConstants.{FRONT}
use Rattle.cl_steps.specs.declared.steps.Outgoing.{Outgoing}
use Rattle.cl_steps.specs.Steps.{Step, sent, nothing_done}
use Rattle.cl_wire.specs.Message.{Content, Command, Outcome, Ask, Answer, Prepare, Vote, Finish, Decision, Log, LogAck}
use Rattle.cl_vnode.specs.Replica.{ReplicaState, safe_number}

-- the primary of each virtual node, by how many nodes there are and the entries of the roster
abbrev pub primary_in : ℕ → List RosterEntry → ℕ → ℕ
primary_in nodes entries v = (roles_after nodes entries v).primary

-- a replica, and what its step has given so far
pub record Stepped : Type 0 where
  pub state : ReplicaState
  pub step : Step

-- before the step
abbrev pub started : ReplicaState → Stepped
started state = record { state = state; step = nothing_done }

-- one message more is sent
abbrev pub with_message : Stepped → ℕ → Content → Stepped
with_message done to content = record done { step = record done.step { sends = done.step.sends ++ sent to content ∷ [] } }

-- the participant has changed
abbrev pub with_part : Stepped → State → Stepped
with_part done part = record done { state = record done.state { part = part } }

-- the controller has changed
abbrev pub with_control : Stepped → ControlState → Stepped
with_control done control = record done { state = record done.state { control = control } }

-- what was acknowledged has changed
abbrev pub with_modes : Stepped → ModesState → Stepped
with_modes done modes = record done { state = record done.state { modes = modes } }

-- ---- what a controller asks for

-- the transactions that are firm once a Decide is in the log: without a standby, it is safe at once
abbrev pub firm_at_once : Mode → TxnId → List TxnId
firm_at_once Lone txn = txn ∷ []
firm_at_once (Pair standby) txn = []

-- a Decide is appended, the controller is told its number, and the decision is kept
unfoldable pub decided : Stepped → TxnId → Stepped
decided done txn = record {
  state = record done.state {
    part = after_decide done.state.part txn;
    control = after_decided_at done.state.control txn done.state.part.next;
    decisions = with_decision done.state.decisions txn;
  };
  step = record done.step { firm = done.step.firm ++ firm_at_once done.state.modes.mode txn };
}

-- an act is performed: it is sent to the primary of its virtual node or to the front, or a Decide is appended
unfoldable pub performed : (ℕ → ℕ) → Stepped → Act → Stepped
performed primary done (acts.Ask v txn number table key op) = with_message done (primary v) (Ask v txn number table key op)
performed primary done (acts.Prepare v txn) = with_message done (primary v) (Prepare v txn)
performed primary done (acts.Finish v txn commit) = with_message done (primary v) (Finish v txn commit)
performed primary done (acts.Decide txn) = decided done txn
performed primary done (acts.Say txn number outcome) = with_message done FRONT (Outcome txn number outcome)

-- acts are performed in order
abbrev pub all_performed : (ℕ → ℕ) → Stepped → List Act → Stepped
all_performed primary done acts = fold (performed primary) done acts

-- ---- each kind of input

-- a client's command
unfoldable pub commanded : (ℕ → ℕ) → Stepped → TxnId → ℕ → ClientCommand → Stepped
commanded primary done txn number what =
    all_performed primary (with_control done (after_command done.state.control txn number what)) (command_acts done.state.control txn number what)

-- a participant's answer to an operation
unfoldable pub answered : (ℕ → ℕ) → Stepped → ℕ → TxnId → ℕ → OpAnswer → Stepped
answered primary done v txn number answer =
    all_performed primary (with_control done (after_answer done.state.control v txn number answer)) (answer_acts done.state.control v txn number answer)

-- a participant's vote
unfoldable pub voted : (ℕ → ℕ) → Stepped → ℕ → TxnId → Stepped
voted primary done v txn =
    all_performed primary (with_control done (after_vote done.state.control v txn)) (vote_acts done.state.control v txn)

-- an operation, which is carried out and answered; with the mark (the last argument) the answer is want of memory, and nothing has changed
unfoldable pub asked : Stepped → ℕ → ℕ → TxnId → ℕ → Place → Op → Bool → Stepped
asked done from v txn number place op true = record done {
  step = record done.step { sends = done.step.sends ++ sent from (Answer v txn number NoMemory) ∷ []; short = true };
}
asked done from v txn number place op false = record {
  state = record done.state { part = after_op done.state.part txn place op };
  step = record done.step { sends = done.step.sends ++ sent from (Answer v txn number (answer_to done.state.part txn place op)) ∷ []; short = false };
}

-- the participant is to prepare: it votes yes by a Prepared
unfoldable pub prepared : Stepped → TxnId → Stepped
prepared done txn = with_part done (after_prepare done.state.part txn)

-- an open transaction ends with commit, or is rolled back and ends
abbrev pub after_finish : State → TxnId → Bool → State
after_finish part txn true = after_end part txn true
after_finish part txn false = after_abort part txn

-- the end of a transaction, which counts where it is open
unfoldable pub finished : Stepped → TxnId → Bool → Stepped
finished done txn commit = if is_open done.state.part.log txn then with_part done (after_finish done.state.part txn commit) else done

-- an input of any kind; those that do not come to a primary leave all as it is
abbrev pub taken : (ℕ → ℕ) → Stepped → ℕ → Content → Bool → Stepped
taken primary done from (Command v txn number what) short = commanded primary done txn number what
taken primary done from (Answer v txn number answer) short = answered primary done v txn number answer
taken primary done from (Vote v txn) short = voted primary done v txn
taken primary done from (Ask v txn number table key op) short = asked done from v txn number (table, key) op short
taken primary done from (Prepare v txn) short = prepared done txn
taken primary done from (Finish v txn commit) short = finished done txn commit
taken primary done from (Decision v txn commit) short = finished done txn commit
taken primary done from (LogAck v number) short = with_modes done (after_acked done.state.modes number)
taken primary done from content short = done

-- ---- what became safe

-- the virtual node of a transaction's session, whose primary is the controller
abbrev pub home_of : ControlState → TxnId → ℕ
home_of control txn = txn.session % control.nodes

-- a record is safe: a Prepared is a vote for the session's controller, and a Decide is one that the own controller waits for
unfoldable pub told : (ℕ → ℕ) → Stepped → ℕ → LogRec → Stepped
told primary done number (records.Prepared txn) = with_message done (primary (home_of done.state.control txn)) (Vote done.state.v txn)
told primary done number (records.Decide txn) =
    all_performed primary (with_control done (after_safe done.state.control number)) (safe_acts done.state.control number)
told primary done number content = done

-- the same, by the log's entry
abbrev pub entry_told : (ℕ → ℕ) → Stepped → LogEntry → Stepped
entry_told primary done entry = told primary done entry.number entry.content

-- the entries with a number above the first and at most the second
abbrev pub entries_between : ℕ → ℕ → List LogEntry → List LogEntry
entries_between old new log = filter (λ entry. nat_lt old entry.number && nat_le entry.number new) log

-- what became safe since the log was safe up to this number is told, in order of the log
unfoldable pub all_told : (ℕ → ℕ) → ℕ → Stepped → Stepped
all_told primary old done = fold (entry_told primary) done (entries_between old (safe_number done.state) done.state.part.log)

-- ---- what is shipped to a standby

-- an entry of the log, for the standby
abbrev pub log_message : ℕ → ℕ → LogEntry → Outgoing
log_message standby v entry = sent standby (Log v entry.number entry.content)

-- the entries as they are shipped: without a standby, none is
abbrev pub log_messages : Mode → ℕ → List LogEntry → List Outgoing
log_messages Lone v entries = []
log_messages (Pair standby) v entries = map (log_message standby v) entries

-- the entries from a number on
abbrev pub entries_from : ℕ → List LogEntry → List LogEntry
entries_from next log = filter (λ entry. nat_le next entry.number) log

-- what was appended from this number on is shipped, before what else is sent
abbrev pub shipped : ℕ → Stepped → Stepped
shipped next done = record done {
  step = record done.step { sends = log_messages done.state.modes.mode done.state.v (entries_from next done.state.part.log) ++ done.step.sends };
}

-- ---- a step

-- a step: the input is taken, what became safe is told, and what was appended is shipped
abbrev pub stepped : (ℕ → ℕ) → ReplicaState → ℕ → Content → Bool → Stepped
stepped primary state from content short = shipped state.part.next (all_told primary (safe_number state) (taken primary (started state) from content short))
