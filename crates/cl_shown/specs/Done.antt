-- The operations of a transaction that were done.
use Rattle.std.specs.Prelude.{Bool, true, false, List, filter, Option, Some}
use Rattle.cl_serial.specs.PlainMap.{Operation, operations}
use Rattle.cl_serial.specs.Transactions.{commands_of}
use Rattle.cl_serial.specs.Transcript.{TranscriptEntry}
use Rattle.cl_types.specs.declared.answers.Outcome.{Outcome}
use Rattle.cl_types.specs.declared.answers.Outcome.TheVariants.{Done}
use Rattle.cl_types.specs.declared.operations.TxnId.{TxnId}

-- whether the outcome is the reply of an operation that was done
abbrev pub is_done_outcome : Option Outcome → Bool
is_done_outcome (Some (Done reply)) = true
is_done_outcome other = false

-- the operations of a transaction that were answered with a reply, in order
abbrev pub done_of : List TranscriptEntry → TxnId → List Operation
done_of transcript txn = filter (λ operation. is_done_outcome operation.outcome) (operations (commands_of transcript txn))
