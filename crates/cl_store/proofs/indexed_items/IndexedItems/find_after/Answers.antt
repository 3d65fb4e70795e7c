use Rattle.std.proofs.Common.{sym, ap, ◌∙◌}
use Rattle.cl_store.specs.IndexedItems.{in_scan_order}
use Rattle.cl_store.specs.Items.{records_after, place_read}
use Rattle.cl_store.proofs.Found.{records_after-found, records_after-absent}
use Rattle.cl_store.proofs.InOrder.{IsInScanOrder-indexed}
use Rattle.cl_store.proofs.indexed_items.IndexedItems.find_after.Goals as goal

pub returns-in-Ok-clause-rest : goal.returns-in-Ok-clause-rest
returns-in-Ok-clause-rest c =
    let items = in_scan_order c.args.self.now in
    records_after-found items (c.in-Some.table.now, c.in-Some.key.now) c.in-Ok.at (IsInScanOrder-indexed c.args.self.now) c.in-Ok.ensures.found
    ∙ ap (λ after. records_after items (place_read after)) (sym c.in-Some.is)

pub returns-in-Err-clause-rest : goal.returns-in-Err-clause-rest
returns-in-Err-clause-rest c =
    let items = in_scan_order c.args.self.now in
    records_after-absent items (c.in-Some.table.now, c.in-Some.key.now) c.in-Err.at c.in-Err.ensures.absent
    ∙ ap (λ after. records_after items (place_read after)) (sym c.in-Some.is)
