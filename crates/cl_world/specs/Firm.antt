-- The history, and the names in it.
use Rattle.std.specs.Prelude.{◌≡◌, Bool, is_some}
use Rattle.std.specs.HashMap.{HashMap, get}
use Rattle.cl_log.specs.Open.{is_among}
use Rattle.cl_types.specs.AppendOnlyList.{entries}
use Rattle.cl_types.specs.Transactions.{same_txn}
use Rattle.cl_types.specs.declared.append_only_list.AppendOnlyList.{AppendOnlyList}
use Rattle.cl_types.specs.declared.operations.TxnId.{TxnId}

module _ {S : Type 0} where
  -- a name is known
  abbrev pub is_known : HashMap TxnId (Unit {0}) S → TxnId → Bool
  is_known names txn = is_some (get same_txn names txn)

  -- exactly the names in the history are known
  abbrev pub KnowsNames : HashMap TxnId (Unit {0}) S → AppendOnlyList TxnId → Type 0
  KnowsNames names history = (txn : TxnId) → is_known names txn ≡ is_among txn (entries history)
