-- What reaches an actor, and what its step gives, as plain data.
use Rattle.std.specs.Prelude.{◌≡◌, ℕ, Bool, true, false, List, [], map, Option, None, Result, Ok, Err, IfOk}
use Rattle.cl_lines.specs.declared.out.Out.{Out}
use Rattle.cl_roster.specs.declared.entry.RosterEntry.{RosterEntry}
use Rattle.cl_types.specs.declared.answers.Refused.{Refused}
use Rattle.cl_types.specs.declared.answers.Refused.TheVariants.{Spent}
use Rattle.cl_types.specs.declared.operations.TxnId.{TxnId}
use Rattle.cl_types.specs.GrowingList.{items}
use Rattle.cl_wire.specs.Message.{Message, message_of}
pub use Rattle.cl_steps.specs.Steps.{IsSpentWhere}
use Rattle.cl_post.specs.declared.outs.Outs.{Outs}

-- what an event gives its actor
pub data Input : Type 0 where
  -- a packet
  handle : Message → Input
  -- a tick
  tick : Input
  -- the line of this number, its text, and what an operator's line is to write
  feed : ℕ → List ℕ → List Out → Input
  -- a quiet moment
  quiet : Input

-- what a step gives: packets in the order of their emission, the transactions that became firm, the entry that is offered, and the mark
pub record OutsData : Type 0 where
  pub packets : List Message
  pub firm : List TxnId
  pub entry : Option RosterEntry
  -- whether an operation was given up for want of memory; no clause says when
  pub short : Bool

-- what a step gives, without the room of its lists
abbrev pub outs_of : Outs → OutsData
outs_of outs = record { packets = map message_of outs.packets.items; firm = items outs.firm; entry = outs.entry; short = outs.short }

-- nothing is given
abbrev pub no_outs : OutsData
no_outs = record { packets = []; firm = []; entry = None; short = false }

-- where the step was made, the actor has the state after it, and it gave what the step gives, each with the mark that was given
abbrev pub IsStep : {S : Type 0} → (S → Type 0) → (Bool → S) → (Bool → OutsData) → Result Outs Refused → Type 0
IsStep IsNow after outs (Ok given) = IsNow (after given.short) × (outs_of given ≡ outs given.short)
IsStep IsNow after outs (Err refused) = Unit {0}

-- a step was made only where it is not spent with the mark that was given, and refused as spent only where it is spent with no mark
pub record IsSpentByMark (spent : Bool → Bool) (result : Result Outs Refused) : Type 0 where
  pub unspent : IfOk result (λ given. spent given.short ≡ false)
  pub cause : result ≡ Err Spent → spent false ≡ true
