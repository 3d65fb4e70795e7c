-- The system of pairs and the firm system beside it, between two events.
use Rattle.std.specs.Prelude.{◌≡◌, ℕ, ◌<◌, true, List, All, fold}
use Rattle.cl_log.specs.declared.records.LogRec.{LogRec}
use Rattle.cl_log.specs.declared.records.LogRec.TheVariants.{Decide}
use Rattle.cl_log.specs.Open.{is_among}
use Rattle.cl_paired.specs.Paired.{at_once, IsPaired}
use Rattle.cl_part.specs.Sound.{IsSound}
use Rattle.cl_runs.specs.Queues.{QueueEvent}
use Rattle.cl_runs.specs.World.{Shape, EachMayHappen}
use Rattle.cl_system.specs.Firm.{FirmWorld, TellsFirm, MayFirm, after_firm_event}
use Rattle.cl_system.specs.Replicas.{own_primary}
use Rattle.cl_types.specs.declared.answers.Outcome.TheVariants.{Committed}
use Rattle.cl_types.specs.declared.operations.TxnId.{TxnId}
use Rattle.cl_wire.specs.Message.{Content, Outcome, Finish, Log, LogAck}
use Rattle.cl_pairs.specs.Pairs.{PairWorld, after_pair_event}
use Rattle.cl_seen.specs.Seen.{seen_mail, seen_event}

-- the system of pairs is seen as this firm system
pub record Sees (shape : Shape) (pairs : PairWorld) (firm : FirmWorld) : Type 0 where
  pub front : pairs.front ≡ firm.world.front
  pub history : pairs.history ≡ firm.firm
  pub lines : pairs.lines ≡ firm.world.lines
  pub replicas : (v : ℕ) → v < shape.nodes → at_once own_primary (pairs.primaries v) ≡ firm.world.replicas v
  pub paired : (v : ℕ) → v < shape.nodes → IsPaired (pairs.primaries v)
  pub mail : (from to : ℕ) → firm.world.mail from to ≡ seen_mail shape.nodes pairs from to

-- so it is after one event more, whose events of the firm system may happen
pub record SeesEvent (shape : Shape) (pairs : PairWorld) (firm : FirmWorld) (event : QueueEvent) : Type 0 where
  pub may : EachMayHappen MayFirm (after_firm_event shape) (seen_event shape pairs event) firm
  pub after : Sees shape (after_pair_event shape pairs event) (fold (after_firm_event shape) firm (seen_event shape pairs event))

-- a Decide is of one of these transactions
abbrev pub IsDecided : List TxnId → LogRec → Type 0
IsDecided txns (Decide txn) = is_among txn txns ≡ true
IsDecided txns content = Unit {0}

-- a message between a primary and its standby is of a virtual node of the system
abbrev pub IsInternalBelow : ℕ → Content → Type 0
IsInternalBelow nodes (Log v number entry) = v < nodes
IsInternalBelow nodes (LogAck v number) = v < nodes
IsInternalBelow nodes content = Unit {0}

-- the message tells of no commit
abbrev pub TellsNone : Content → Type 0
TellsNone (Outcome txn number Committed) = ⊥
TellsNone (Finish v txn true) = ⊥
TellsNone content = Unit {0}

-- what else holds of the system of pairs: what stands in a standby's log is firm, and so is what a message tells of
pub record IsSafe (shape : Shape) (pairs : PairWorld) : Type 0 where
  pub below : (from to : ℕ) → All (IsInternalBelow shape.nodes) (pairs.mail from to)
  pub same_nodes : (v : ℕ) → (pairs.standbys v).control.nodes ≡ shape.nodes
  pub sound : (v : ℕ) → v < shape.nodes → IsSound (pairs.standbys v).part
  pub firm : (v : ℕ) → v < shape.nodes → All (λ entry. IsDecided pairs.history entry.content) (pairs.standbys v).part.log
  pub tells : (from to : ℕ) → All (TellsFirm pairs.history) (pairs.mail from to)
