-- Which inputs come to a replica that is primary or standby, and which of them need a log number that is not left.
use Rattle.std.specs.Prelude.{◌≡◌, ℕ, ◌+◌, ◌<◌, nat_lt, Bool, true, false, ◌&&◌, List, length}
use Rattle.std.specs.List.{list_any}
use Rattle.cl_types.specs.declared.operations.TxnId.{TxnId}
use Rattle.cl_types.specs.Places.{Place}
use Rattle.cl_locks.specs.Grants.{mode_held}
use Rattle.cl_log.specs.declared.records.LogRec.{LogRec}
use Rattle.cl_log.specs.declared.log.TheConstants.{LOG_NUMBER_MAX}
use Rattle.cl_log.specs.Kind.{writes, number_before}
use Rattle.cl_log.specs.Open.{is_open}
use Rattle.cl_log.specs.Rest.{rest_to_undo}
use Rattle.cl_control.specs.declared.acts.Act.{Act}
use Rattle.cl_control.specs.declared.acts.Act.TheVariants as acts
use Rattle.cl_control.specs.Calls.{MayCommand, command_acts, vote_acts}
use Rattle.cl_part.specs.State.{State}
use Rattle.cl_redo.specs.Condition.{IsFree, IsUnended}
use Rattle.cl_repair.specs.declared.mode.Mode.{Mode}
use Rattle.cl_repair.specs.declared.mode.Mode.TheVariants.{Lone, Pair}
use Rattle.cl_steps.specs.declared.actors.TheConstants.{FRONT}
use Rattle.cl_wire.specs.Message.{Content, Command, Answer, Vote, Ask, Prepare, Finish, Decision, Log, LogAck}
pub use Rattle.cl_steps.specs.Steps.{IsSpentWhere}
use Rattle.cl_vnode.specs.Replica.{ReplicaState}

-- ---- which inputs come

-- a command comes where its controller may take it, an acknowledgement where its number is in the log, and what other nodes send always;
-- the other kinds do not come to a primary
abbrev pub MayCome : ReplicaState → Content → Type 0
MayCome state (Command v txn number what) = MayCommand state.control txn what
MayCome state (Answer v txn number answer) = Unit {0}
MayCome state (Vote v txn) = Unit {0}
MayCome state (Ask v txn number table key op) = Unit {0}
MayCome state (Prepare v txn) = Unit {0}
MayCome state (Finish v txn commit) = Unit {0}
MayCome state (Decision v txn commit) = Unit {0}
MayCome state (LogAck v number) = number < state.part.next
MayCome state content = ⊥

-- the standby, where there is one, is a node
abbrev pub IsStandbyBelow : Mode → Type 0
IsStandbyBelow Lone = Unit {0}
IsStandbyBelow (Pair standby) = standby < FRONT

-- the input may come to the replica, in a system of so many nodes
pub record Fits (nodes : ℕ) (state : ReplicaState) (content : Content) : Type 0 where
  pub same_nodes : nodes ≡ state.control.nodes
  pub comes : MayCome state content
  pub standby : IsStandbyBelow state.modes.mode

-- a standby may take the record of this number: it is the next one, a write carries the number that stands at its place, no other
-- transaction's lock conflicts, and its transaction has not ended
pub record TakesRecord (part : State) (number : ℕ) (content : LogRec) : Type 0 where
  pub next : number ≡ part.next
  pub carries : (place : Place) → writes place content ≡ true → (part.stored place).0 ≡ number_before content
  pub free : IsFree (mode_held part.grants) content
  pub unended : IsUnended part.log content

-- to a standby comes the next record of its primary's log, and nothing else
abbrev pub MayComeToStandby : ReplicaState → Content → Type 0
MayComeToStandby state (Log v number content) = TakesRecord state.part number content
MayComeToStandby state content = ⊥

-- the input may come to the replica as a standby, in a system of so many nodes
pub record StandbyFits (nodes : ℕ) (state : ReplicaState) (content : Content) : Type 0 where
  pub same_nodes : nodes ≡ state.control.nodes
  pub comes : MayComeToStandby state content

-- ---- log numbers

-- no log number is left, where the next would be this one
abbrev pub is_full : ℕ → Bool
is_full next = nat_lt LOG_NUMBER_MAX next

-- the act is a Decide
abbrev pub is_decide : Act → Bool
is_decide (acts.Decide txn) = true
is_decide act = false

-- a Decide is among the acts
abbrev pub has_decide : List Act → Bool
has_decide acts = list_any is_decide acts

-- the rollback of a transaction and its End need more numbers than are left; an End with commit needs one
abbrev pub is_end_spent : State → TxnId → Bool → Bool
is_end_spent part txn true = is_full part.next
is_end_spent part txn false = is_full (part.next + length (rest_to_undo part.log txn))

-- a step of a standby is spent: the number of the record is above the limit
abbrev pub is_standby_spent : Content → Bool
is_standby_spent (Log v number content) = is_full number
is_standby_spent content = false

-- a step is spent: it would append a record, or be an operation, and no log number is left for it
abbrev pub is_spent : ReplicaState → Content → Bool
is_spent state (Command v txn number what) = has_decide (command_acts state.control txn number what) && is_full state.part.next
is_spent state (Vote v txn) = has_decide (vote_acts state.control v txn) && is_full state.part.next
is_spent state (Ask v txn number table key op) = is_full state.part.next
is_spent state (Prepare v txn) = is_full state.part.next
is_spent state (Finish v txn commit) = is_open state.part.log txn && is_end_spent state.part txn commit
is_spent state (Decision v txn commit) = is_open state.part.log txn && is_end_spent state.part txn commit
is_spent state content = false
