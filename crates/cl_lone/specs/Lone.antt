-- What a message makes of a primary without a standby, in one step, and what the step gives.
use Rattle.std.specs.Prelude.{ℕ, Bool, true, ◌&&◌, if◌then◌else◌, List, [], ◌∷◌, ◌++◌, flat_map}
use Rattle.std.specs.Option.{option_map_or}
use Rattle.cl_types.specs.declared.answers.Outcome.TheVariants.{Committed}
use Rattle.cl_types.specs.declared.operations.TxnId.{TxnId}
use Rattle.cl_backup.specs.Decisions.{with_decision}
use Rattle.cl_control.specs.declared.acts.Act.{Act}
use Rattle.cl_control.specs.declared.acts.Act.TheVariants as acts
use Rattle.cl_control.specs.declared.entry.Phase.{Phase}
use Rattle.cl_control.specs.declared.entry.Phase.TheVariants.{Idle, Asked, Preparing, Decided, Logged}
use Rattle.cl_control.specs.Calls.{finishes, command_acts, after_command, answer_acts, after_answer, counts_vote, is_last_vote, after_vote}
use Rattle.cl_control.specs.State.{ControlState, phase_of, without_entry}
use Rattle.cl_part.specs.Calls.{after_decide}
use Rattle.cl_steps.specs.declared.actors.TheConstants.{FRONT}
use Rattle.cl_steps.specs.declared.steps.Outgoing.{Outgoing}
use Rattle.cl_steps.specs.Steps.{sent, nothing_done}
use Rattle.cl_wire.specs.Message.{Content, Command, Outcome, Ask, Answer, Prepare, Vote, Finish, Decision}
use Rattle.cl_vnode.specs.Inputs.{has_decide}
use Rattle.cl_vnode.specs.Replica.{ReplicaState}
use Rattle.cl_vnode.specs.Step.{Stepped, started, with_message, asked, prepared, finished, home_of}

-- the message of an act, if it has one: a Decide has none
abbrev pub message_of : (ℕ → ℕ) → Act → List Outgoing
message_of primary (acts.Ask v txn number table key op) = sent (primary v) (Ask v txn number table key op) ∷ []
message_of primary (acts.Prepare v txn) = sent (primary v) (Prepare v txn) ∷ []
message_of primary (acts.Finish v txn commit) = sent (primary v) (Finish v txn commit) ∷ []
message_of primary (acts.Decide txn) = []
message_of primary (acts.Say txn number outcome) = sent FRONT (Outcome txn number outcome) ∷ []

-- the messages of acts, in order
abbrev pub messages_of : (ℕ → ℕ) → List Act → List Outgoing
messages_of primary list = flat_map (message_of primary) list

-- the controller has changed, and gives these acts
abbrev pub controlled : (ℕ → ℕ) → ReplicaState → ControlState → List Act → Stepped
controlled primary state control list =
    record { state = record state { control = control }; step = record nothing_done { sends = messages_of primary list } }

-- COMMIT, the command of this number, is decided: the Decide is in the log, the transaction is firm, and each participant and the session are told
abbrev pub committed : (ℕ → ℕ) → ReplicaState → TxnId → ℕ → Stepped
committed primary state txn number = record {
  state = record state { part = after_decide state.part txn; control = without_entry state.control txn; decisions = with_decision state.decisions txn };
  step = record nothing_done {
    sends = messages_of primary (finishes state.control txn true ++ acts.Say txn number Committed ∷ []);
    firm = txn ∷ [];
  };
}

-- the number of the command that is under way in a phase
abbrev pub command_in : Phase → ℕ
command_in Idle = 0
command_in (Asked number v) = number
command_in (Preparing number) = number
command_in (Decided number) = number
command_in (Logged number) = number

-- the number of the command of a transaction that is under way
abbrev pub command_of : ControlState → TxnId → ℕ
command_of control txn = option_map_or command_in (phase_of control txn) 0

-- a primary without a standby after a message, and what its step gives
unfoldable pub lone_step : (ℕ → ℕ) → ReplicaState → ℕ → Content → Bool → Stepped
lone_step primary state from (Command v txn number what) mark =
    if has_decide (command_acts state.control txn number what) then committed primary state txn number
    else controlled primary state (after_command state.control txn number what) (command_acts state.control txn number what)
lone_step primary state from (Answer v txn number answer) mark =
    controlled primary state (after_answer state.control v txn number answer) (answer_acts state.control v txn number answer)
lone_step primary state from (Vote v txn) mark =
    if counts_vote state.control v txn && is_last_vote state.control v txn then committed primary state txn (command_of state.control txn)
    else controlled primary state (after_vote state.control v txn) []
lone_step primary state from (Ask v txn number table key op) mark = asked (started state) from v txn number (table, key) op mark
lone_step primary state from (Prepare v txn) mark =
    with_message (prepared (started state) txn) (primary (home_of state.control txn)) (Vote state.v txn)
lone_step primary state from (Finish v txn commit) mark = finished (started state) txn commit
lone_step primary state from (Decision v txn commit) mark = finished (started state) txn commit
lone_step primary state from content mark = started state
