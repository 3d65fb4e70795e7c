-- What the parts of a step do. No public clause cites this module.
use Rattle.std.specs.Prelude.{◌≡◌, ℕ, ◌<◌, Bool, true, false, ◌⊎◌, List, [], ◌∷◌, Option, Some, None}
use Rattle.cl_types.specs.declared.answers.Answer.{Answer}
use Rattle.cl_types.specs.declared.answers.Answer.TheVariants.{NoMemory}
use Rattle.cl_types.specs.declared.operations.TxnId.{TxnId}
use Rattle.cl_log.specs.declared.records.LogRec.{LogRec}
use Rattle.cl_log.specs.LogEntry.{LogEntry}
use Rattle.cl_control.specs.declared.acts.Act.{Act}
use Rattle.cl_control.specs.declared.acts.Act.TheVariants.{Ask, Prepare, Finish, Decide, Say}
use Rattle.cl_control.specs.Calls.{counts_number}
use Rattle.cl_control.specs.State.{ControlState}
use Rattle.cl_roster.specs.View.{RosterView}
use Rattle.cl_steps.specs.declared.steps.Outgoing.{Outgoing}
use Rattle.cl_steps.specs.declared.actors.TheConstants.{FRONT}
use Rattle.cl_steps.specs.declared.steps.Steps.{Steps}
use Rattle.cl_steps.specs.Steps.{step_of, sent}
use Rattle.cl_wire.specs.Message as message
use Rattle.cl_vnode.specs.declared.vnode.Vnode.{Vnode}
use Rattle.cl_vnode.specs.Replica.{IsReplicaStateOf}
use Rattle.cl_vnode.specs.Step.{Stepped, primary_in, told}

-- the primary of each virtual node, by this roster
abbrev pub primary_of : RosterView → ℕ → ℕ
primary_of roster v = primary_in roster.nodes roster.entries v

-- the replica and what its step has given are as they are here
pub record HasStepped (vnode : Vnode) (steps : Steps) (done : Stepped) : Type 0 where
  pub state : IsReplicaStateOf vnode done.state
  pub step : step_of steps ≡ done.step

-- an act that is a message, to one of so many virtual nodes
abbrev pub IsSend : ℕ → Act → Type 0
IsSend nodes (Ask v txn number table key op) = v < nodes
IsSend nodes (Prepare v txn) = v < nodes
IsSend nodes (Finish v txn commit) = v < nodes
IsSend nodes (Decide txn) = ⊥
IsSend nodes (Say txn number outcome) = Unit {0}

-- all of them are
abbrev pub AreSends : ℕ → List Act → Type 0
AreSends nodes [] = Unit {0}
AreSends nodes (act ∷ acts) = IsSend nodes act × AreSends nodes acts

-- the message that an act is
abbrev pub message_of_act : (ℕ → ℕ) → Act → Outgoing
message_of_act primary (Ask v txn number table key op) = sent (primary v) (message.Ask v txn number table key op)
message_of_act primary (Prepare v txn) = sent (primary v) (message.Prepare v txn)
message_of_act primary (Finish v txn commit) = sent (primary v) (message.Finish v txn commit)
message_of_act primary (Decide txn) = sent FRONT message.Bare
message_of_act primary (Say txn number outcome) = sent FRONT (message.Outcome txn number outcome)

-- whether an answer is want of memory
abbrev pub is_no_memory : Answer → Bool
is_no_memory NoMemory = true
is_no_memory answer = false

-- the transaction of a lone Decide
abbrev pub decide_in : List Act → Option TxnId
decide_in (Decide txn ∷ []) = Some txn
decide_in acts = None

-- acts that a controller gives at once: messages, or one Decide of a transaction that waits for its number
abbrev pub AreActs : ℕ → ControlState → List Act → Type 0
AreActs nodes control acts = AreSends nodes acts ⊎ ((txn : TxnId) × (acts ≡ Decide txn ∷ []) × (counts_number control txn ≡ true))

-- the entry of this number, where there is a record
abbrev pub found_at : ℕ → Option LogRec → List LogEntry
found_at number None = []
found_at number (Some content) = record { number = number; content = content } ∷ []

-- the record of this number is told, where there is one
abbrev pub told_at : (ℕ → ℕ) → Stepped → ℕ → Option LogRec → Stepped
told_at primary done number None = done
told_at primary done number (Some content) = told primary done number content
