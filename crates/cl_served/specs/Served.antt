-- What the ledger of a run and its transcript have to do with each other.
use Rattle.std.specs.Prelude.{◌≡◌, List, ◌++◌}
use Rattle.cl_order.specs.Ledger.{Ledger}
use Rattle.cl_order.specs.Laws.{IsToldBy}
use Rattle.cl_serial.specs.Exchanges.{Exchange}
use Rattle.cl_serial.specs.PlainMap.{Operation}
use Rattle.cl_serial.specs.Serial.{IsIn}
use Rattle.cl_serial.specs.Transactions.{commands_of}
use Rattle.cl_serial.specs.Transcript.{TranscriptEntry}
use Rattle.cl_shown.specs.Done.{done_of}
use Rattle.cl_system.specs.Roles.{IsOfSession}
use Rattle.cl_types.specs.declared.operations.Command.TheVariants.{Work}
use Rattle.cl_types.specs.declared.operations.TxnId.{TxnId}

-- a line of the transaction asks for this operation
pub record IsAsked (transcript : List TranscriptEntry) (txn : TxnId) (operation : Operation) : Type 0 where
  pub exchange : Exchange
  pub is_in : IsIn (commands_of transcript txn) exchange
  pub asks : exchange.command ≡ Work operation.place.0 operation.place.1 operation.op

-- the transcript shows what the ledger has done
pub record IsLedgerShown (transcript : List TranscriptEntry) (ledger : Ledger) : Type 0 where
  -- what was answered is the first of what was done
  pub shown : (txn : TxnId) → IsOfSession txn → (rest : List Operation) × (ledger.done txn ≡ done_of transcript txn ++ rest)
  -- each operation that was done was asked for
  pub asked : (txn : TxnId) (operation : Operation) → IsOfSession txn → IsIn (ledger.done txn) operation → IsAsked transcript txn operation
  -- of a member all of its operations were done, with the replies that were written
  pub members : IsToldBy ledger transcript
