-- Transactions that are the same.
use Rattle.std.specs.Prelude.{Bool, ◌&&◌, ◌==◌}
use Rattle.cl_types.specs.declared.operations.TxnId.{TxnId}

-- whether two names are of one transaction
abbrev pub same_txn : TxnId → TxnId → Bool
same_txn a b = (a.session == b.session) && (a.number == b.number)
