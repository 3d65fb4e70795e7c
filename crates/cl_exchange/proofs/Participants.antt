-- What a participant takes leaves the controller of its node, and tells the front nothing.
use Rattle.std.proofs.Common.{◌≡◌, ℕ, ◌<◌, Bool, true, false, cond, List, [], refl}
use Rattle.cl_exchange.proofs.Told.{told_elsewhere}
use Rattle.cl_log.specs.Open.{is_open}
use Rattle.cl_lone.specs.Lone.{lone_step}
use Rattle.cl_part.specs.Calls.{answer_to}
use Rattle.cl_runs.specs.Queues.{sent_to}
use Rattle.cl_steps.specs.declared.actors.TheConstants.{FRONT}
use Rattle.cl_system.specs.Replicas.{own_primary}
use Rattle.cl_types.specs.declared.answers.Answer.TheVariants.{NoMemory}
use Rattle.cl_types.specs.declared.operations.Op.{Op}
use Rattle.cl_types.specs.declared.operations.TxnId.{TxnId}
use Rattle.cl_vnode.specs.Replica.{ReplicaState}
use Rattle.cl_vnode.specs.Step.{Stepped, started, with_part, after_finish, asked, prepared, finished, home_of}
use Rattle.cl_wire.specs.Message.{Ask, Answer, Prepare, Vote, Finish}

-- the controller stays, and nothing goes to the front
pub record LeavesControl (state : ReplicaState) (stepped : Stepped) : Type 0 where
  pub entries : stepped.state.control.transactions ≡ state.control.transactions
  pub told : sent_to FRONT stepped.step.sends ≡ []

module _ (state : ReplicaState) (txn : TxnId) where
  pub ask_leaves : (from v number : ℕ) (table key : List ℕ) (op : Op) (mark : Bool) → from < FRONT → LeavesControl state (lone_step own_primary state from (Ask v txn number table key op) mark)
  unfolding lone_step asked
  ask_leaves from v number table key op true below = record { entries = refl; told = told_elsewhere from (Answer v txn number NoMemory) below }
  ask_leaves from v number table key op false below = record { entries = refl; told = told_elsewhere from (Answer v txn number (answer_to state.part txn (table, key) op)) below }

  pub prepare_leaves : (from v : ℕ) (mark : Bool) → home_of state.control txn < FRONT → LeavesControl state (lone_step own_primary state from (Prepare v txn) mark)
  unfolding lone_step prepared
  prepare_leaves from v mark below = record { entries = refl; told = told_elsewhere (home_of state.control txn) (Vote state.v txn) below }

  either_leaves : (commit is : Bool) → LeavesControl state (cond is (with_part (started state) (after_finish state.part txn commit)) (started state))
  either_leaves commit true = record { entries = refl; told = refl }
  either_leaves commit false = record { entries = refl; told = refl }

  pub finish_leaves : (from v : ℕ) (commit mark : Bool) → LeavesControl state (lone_step own_primary state from (Finish v txn commit) mark)
  unfolding lone_step finished
  finish_leaves from v commit mark = either_leaves commit (is_open state.part.log txn)
