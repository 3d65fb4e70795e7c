-- What no step changes.
use Rattle.std.proofs.Common.{◌≡◌, ℕ, Bool, true, false, List, [], ◌∷◌, fold, cond, refl, ◌∙◌}
use Rattle.cl_types.specs.declared.operations.Op.{Op}
use Rattle.cl_types.specs.declared.operations.TxnId.{TxnId}
use Rattle.cl_types.specs.Places.{Place}
use Rattle.cl_log.specs.declared.records.LogRec.{LogRec}
use Rattle.cl_log.specs.declared.records.LogRec.TheVariants as records
use Rattle.cl_log.specs.LogEntry.{LogEntry}
use Rattle.cl_log.specs.Open.{is_open}
use Rattle.cl_control.specs.declared.acts.Act.{Act}
use Rattle.cl_control.specs.declared.acts.Act.TheVariants.{Decide}
use Rattle.cl_control.specs.Calls.{command_acts, after_command, answer_acts, after_answer, vote_acts, after_vote, safe_acts, after_safe}
use Rattle.cl_control.specs.State.{ControlState}
use Rattle.cl_part.specs.State.{State}
use Rattle.cl_wire.specs.Message.{Content, Command, Answer, Vote, Ask, Prepare, Finish, Decision, Log, LogAck}
use Rattle.cl_vnode.specs.Laws.{IsSameReplica, StepsKeepReplica, StandbyStepsKeepReplica}
use Rattle.cl_vnode.specs.Replica.{ReplicaState, safe_number}
use Rattle.cl_vnode.specs.Step.{Stepped, started, with_part, with_control, after_finish, performed, decided, all_performed, commanded, answered, voted, asked, prepared, finished, taken, told, entry_told, entries_between, all_told}
use Rattle.cl_vnode.proofs.Controller.{nodes-after_command, nodes-after_answer, nodes-after_vote, nodes-after_decided_at, nodes-after_safe}

same : (state : ReplicaState) → IsSameReplica state state
same state = record { v = refl; nodes = refl; mode = refl }

same_on : (a b c : ReplicaState) → IsSameReplica a b → IsSameReplica b c → IsSameReplica a c
same_on a b c ab bc = record { v = bc.v ∙ ab.v; nodes = bc.nodes ∙ ab.nodes; mode = bc.mode ∙ ab.mode }

performed_same : (primary : ℕ → ℕ) (done : Stepped) (act : Act) → IsSameReplica done.state (performed primary done act).state
unfolding performed decided
performed_same primary done (Decide txn) = record { v = refl; nodes = nodes-after_decided_at done.state.control txn done.state.part.next; mode = refl }
performed_same primary done act = same done.state

pub all_performed_same : (primary : ℕ → ℕ) (done : Stepped) (acts : List Act) → IsSameReplica done.state (all_performed primary done acts).state
all_performed_same primary done [] = same done.state
all_performed_same primary done (act ∷ acts) =
    same_on done.state (performed primary done act).state (all_performed primary done (act ∷ acts)).state (performed_same primary done act) (all_performed_same primary (performed primary done act) acts)

controlled_same : (primary : ℕ → ℕ) (done : Stepped) (control : ControlState) (acts : List Act) → control.nodes ≡ done.state.control.nodes →
    IsSameReplica done.state (all_performed primary (with_control done control) acts).state
controlled_same primary done control acts nodes =
    same_on done.state (with_control done control).state _ (record { v = refl; nodes = nodes; mode = refl }) (all_performed_same primary (with_control done control) acts)

-- ---- what became safe

pub told_same : (primary : ℕ → ℕ) (done : Stepped) (number : ℕ) (content : LogRec) → IsSameReplica done.state (told primary done number content).state
unfolding told
told_same primary done number (records.Prepared txn) = same done.state
told_same primary done number (records.Decide txn) =
    controlled_same primary done (after_safe done.state.control number) (safe_acts done.state.control number) (nodes-after_safe done.state.control number)
told_same primary done number content = same done.state

entries_same : (primary : ℕ → ℕ) (done : Stepped) (entries : List LogEntry) → IsSameReplica done.state (fold (entry_told primary) done entries).state
entries_same primary done [] = same done.state
entries_same primary done (entry ∷ entries) =
    same_on done.state (entry_told primary done entry).state (fold (entry_told primary) done (entry ∷ entries)).state (told_same primary done entry.number entry.content)
    (entries_same primary (entry_told primary done entry) entries)

all_told_same : (primary : ℕ → ℕ) (old : ℕ) (done : Stepped) → IsSameReplica done.state (all_told primary old done).state
unfolding all_told
all_told_same primary old done = entries_same primary done (entries_between old (safe_number done.state) done.state.part.log)

-- ---- the kinds of input

asked_same : (done : Stepped) (from v : ℕ) (short : Bool) (txn : TxnId) (number : ℕ) (place : Place) (op : Op) → IsSameReplica done.state (asked done from v txn number place op short).state
unfolding asked
asked_same done from v true txn number place op = same done.state
asked_same done from v false txn number place op = record { v = refl; nodes = refl; mode = refl }

either_same : (b : Bool) (done : Stepped) (part : State) → IsSameReplica done.state (cond b (with_part done part) done).state
either_same true done part = record { v = refl; nodes = refl; mode = refl }
either_same false done part = same done.state

pub taken_same : (primary : ℕ → ℕ) (done : Stepped) (from : ℕ) (content : Content) (short : Bool) → IsSameReplica done.state (taken primary done from content short).state
unfolding commanded answered voted prepared finished
taken_same primary done from (Command v txn number what) short =
    controlled_same primary done (after_command done.state.control txn number what) (command_acts done.state.control txn number what) (nodes-after_command done.state.control txn number what)
taken_same primary done from (Answer v txn number answer) short =
    controlled_same primary done (after_answer done.state.control v txn number answer) (answer_acts done.state.control v txn number answer) (nodes-after_answer done.state.control v txn number answer)
taken_same primary done from (Vote v txn) short =
    controlled_same primary done (after_vote done.state.control v txn) (vote_acts done.state.control v txn) (nodes-after_vote done.state.control v txn)
taken_same primary done from (Ask v txn number table key op) short = asked_same done from v short txn number (table, key) op
taken_same primary done from (Prepare v txn) short = record { v = refl; nodes = refl; mode = refl }
taken_same primary done from (Finish v txn commit) short = either_same (is_open done.state.part.log txn) done (after_finish done.state.part txn commit)
taken_same primary done from (Decision v txn commit) short = either_same (is_open done.state.part.log txn) done (after_finish done.state.part txn commit)
taken_same primary done from (LogAck v number) short = record { v = refl; nodes = refl; mode = refl }
taken_same primary done from content short = same done.state

-- before it is shipped, what a step makes
pub made_same : (primary : ℕ → ℕ) (state : ReplicaState) (from : ℕ) (content : Content) (short : Bool) →
    IsSameReplica state (all_told primary (safe_number state) (taken primary (started state) from content short)).state
made_same primary state from content short =
    same_on state (taken primary (started state) from content short).state _ (taken_same primary (started state) from content short)
    (all_told_same primary (safe_number state) (taken primary (started state) from content short))

pub steps_keep_replica : StepsKeepReplica
steps_keep_replica primary state from content short = made_same primary state from content short

-- ---- a standby

pub standby_steps_keep_replica : StandbyStepsKeepReplica
standby_steps_keep_replica state from (Log v number content) = record { v = refl; nodes = refl; mode = refl }
standby_steps_keep_replica state from content = same state
