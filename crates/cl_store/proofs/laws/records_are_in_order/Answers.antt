use Rattle.cl_store.proofs.InOrder.{IsInScanOrder-records, IsWritten-records}
use Rattle.cl_store.proofs.laws.records_are_in_order.Goals as goal

pub returns : goal.returns
returns c = record { order = IsInScanOrder-records c.args.store.now; written = IsWritten-records c.args.store.now }
