-- What the fields of decisions keep.
use Rattle.std.specs.Prelude.{◌≡◌, List, is_some}
use Rattle.std.specs.HashMap.{get}
use Rattle.cl_backup.specs.declared.decisions.Decisions.TheInside.{Inside}
use Rattle.cl_log.specs.Open.{is_among}
use Rattle.cl_types.specs.AppendOnlyList.{entries}
use Rattle.cl_types.specs.Transactions.{same_txn}
use Rattle.cl_types.specs.declared.operations.TxnId.{TxnId}

-- what contracts see of the fields: the list
abbrev pub view_of : Inside → List TxnId
view_of decisions = entries decisions.list

-- exactly the names in the list are known
pub record IsKept (decisions : Inside) : Type 0 where
  pub knows : (txn : TxnId) → is_some (get same_txn decisions.names txn) ≡ is_among txn (entries decisions.list)
