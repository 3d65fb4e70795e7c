-- Logs that are turned into transactions, one session after another.
use Rattle.std.proofs.Common.{List, Option, None, Some}
use Rattle.cl_types.specs.declared.growing_list.GrowingList.{GrowingList}
use Rattle.cl_serial.specs.Transactions.{Transaction}
use Rattle.cl_serial.specs.Gathering.{SessionLog, transactions_in, listed}

-- the transactions of a session: those of its log, where that is still there, and else those of the list
abbrev pub settled : Option SessionLog → Option (GrowingList Transaction) → List Transaction
settled None list = listed list
settled (Some log) list = transactions_in log
