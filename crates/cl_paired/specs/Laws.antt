-- The laws of a primary with a standby.
use Rattle.std.specs.Prelude.{◌≡◌, ℕ, ◌<◌, Bool, false, List, [], ◌++◌, Some}
use Rattle.cl_control.specs.Calls.{is_told}
use Rattle.cl_lone.specs.Lone.{lone_step}
use Rattle.cl_steps.specs.declared.steps.Outgoing.{Outgoing}
use Rattle.cl_types.specs.Placement.{IsNodeCount}
use Rattle.cl_vnode.specs.Inputs.{Fits, IsStandbyBelow}
use Rattle.cl_vnode.specs.Replica.{ReplicaState, first_replica, new_replica}
use Rattle.cl_vnode.specs.Step.{Stepped, stepped, log_messages, entries_from}
use Rattle.cl_wire.specs.Message.{Content, Command, LogAck}
use Rattle.cl_paired.specs.Paired.{IsPaired, at_once, untold}

-- at the start nothing waits, and the primary is one without a standby
pub record StartsAlone (v nodes standby : ℕ) : Type 0 where
  pub paired : IsPaired (new_replica v nodes (Some standby))
  pub alone : (primary : ℕ → ℕ) → at_once primary (new_replica v nodes (Some standby)) ≡ first_replica v nodes
  pub told : (primary : ℕ → ℕ) → untold primary (new_replica v nodes (Some standby)) ≡ []

-- so it is of each virtual node
abbrev pub FirstIsPaired : Type 0
FirstIsPaired = (v nodes standby : ℕ) → IsNodeCount nodes → StartsAlone v nodes standby

-- no Decide of the transaction that is named as a command's waits to be safe
abbrev pub IsUnawaited : ReplicaState → Content → Type 0
IsUnawaited state (Command v txn number what) = is_told txn state.control.waiting ≡ false
IsUnawaited state content = Unit {0}

-- what fits the primary without a standby fits the one with it, whose standby is a node
abbrev pub FitsBoth : Type 0
FitsBoth = (primary : ℕ → ℕ) (nodes : ℕ) (state : ReplicaState) (content : Content) → IsPaired state → IsUnawaited state content →
    IsStandbyBelow state.modes.mode → Fits nodes (at_once primary state) content → Fits nodes state content

-- a step is that of the primary without a standby: of what that one sends, the first part is sent after the log records, and the rest is still to be told
pub record IsSeenAlone (primary : ℕ → ℕ) (before : ReplicaState) (after alone : Stepped) : Type 0 where
  pub paired : IsPaired after.state
  pub state : at_once primary after.state ≡ alone.state
  pub sent : List Outgoing
  pub later : List Outgoing
  pub sends : after.step.sends ≡ log_messages before.modes.mode before.v (entries_from before.part.next after.state.part.log) ++ sent
  pub untold : untold primary after.state ≡ untold primary before ++ later
  pub alone_sends : alone.step.sends ≡ sent ++ later
  pub firm : after.step.firm ≡ []
  pub short : after.step.short ≡ alone.step.short
  pub mode : after.state.modes ≡ before.modes

-- a message that is no acknowledgement
abbrev pub IsNoAck : Content → Type 0
IsNoAck (LogAck v number) = ⊥
IsNoAck content = Unit {0}

-- so is each step on another message that fits
abbrev pub StepsAreSeenAlone : Type 0
StepsAreSeenAlone = (primary : ℕ → ℕ) (nodes : ℕ) (state : ReplicaState) (from : ℕ) (content : Content) (mark : Bool) → IsPaired state →
    Fits nodes state content → IsNoAck content → IsUnawaited state content →
    IsSeenAlone primary state (stepped primary state from content mark) (lone_step primary (at_once primary state) from content mark)

-- an acknowledgement tells the first part of what is still to be told, and changes nothing of the primary as it is seen without a standby
pub record Tells (primary : ℕ → ℕ) (before : ReplicaState) (after : Stepped) : Type 0 where
  pub paired : IsPaired after.state
  pub state : at_once primary after.state ≡ at_once primary before
  pub sends : after.step.sends ++ untold primary after.state ≡ untold primary before
  pub firm : after.step.firm ≡ []
  pub part : after.state.part ≡ before.part

-- so does each acknowledgement of a number in the log
abbrev pub AcksTell : Type 0
AcksTell = (primary : ℕ → ℕ) (state : ReplicaState) (from v number : ℕ) (mark : Bool) → IsPaired state → number < state.part.next →
    Tells primary state (stepped primary state from (LogAck v number) mark)
