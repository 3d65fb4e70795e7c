-- When two transactions are in conflict: what the one was fed before, where the other operates.
use Rattle.std.specs.Prelude.{◌≡◌, ℕ, ◌<◌, List}
use Rattle.cl_types.specs.declared.operations.Command.TheVariants.{Work}
use Rattle.cl_types.specs.declared.operations.Op.{Op}
use Rattle.cl_types.specs.declared.operations.Op.TheVariants.{Get}
use Rattle.cl_types.specs.declared.operations.TxnId.{TxnId}
use Rattle.cl_serial.specs.Transcript.{TranscriptEntry}
use Rattle.cl_serial.specs.Exchanges.{Exchange}
use Rattle.cl_serial.specs.Transactions.{commands_of}
use Rattle.cl_serial.specs.Serial.{IsIn}

-- two operations conflict where at least one of them is no GET
abbrev pub Conflicts : Op → Op → Type 0
Conflicts op other = (op ≡ Get) × (other ≡ Get) → ⊥

-- before this position the transaction was fed an operation on this table and key that conflicts with this one
pub record AsksConflicting (transcript : List TranscriptEntry) (name : TxnId) (table key : List ℕ) (op : Op) (position : ℕ) : Type 0 where
  -- the exchange of that operation
  pub exchange : Exchange
  pub other : Op
  pub is_in : IsIn (commands_of transcript name) exchange
  pub asks : exchange.command ≡ Work table key other
  pub conflicts : Conflicts op other
  pub earlier : exchange.line < position
