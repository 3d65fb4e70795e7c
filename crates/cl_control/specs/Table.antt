-- What contracts see of an open transaction of the table.
use Rattle.cl_types.specs.declared.operations.TxnId.{TxnId}
use Rattle.cl_control.specs.declared.entry.OpenTransaction.{OpenTransaction}
use Rattle.cl_control.specs.State.{Entry}

-- a transaction with its name
abbrev pub named : TxnId → OpenTransaction → Entry
named txn transaction = record {
  txn = txn;
  participants = transaction.participants.items;
  votes = transaction.votes.items;
  phase = transaction.phase;
}

-- a transaction beside its name
abbrev pub entry_of_pair : TxnId × OpenTransaction → Entry
entry_of_pair entry = named entry.0 entry.1
