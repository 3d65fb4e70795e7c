use Rattle.std.proofs.Common.{sym, ap, ◌∙◌}
use Rattle.cl_types.specs.Places.{Place, Stored}
use Rattle.cl_store.specs.IndexedItems.{in_scan_order}
use Rattle.cl_store.specs.Store.{records}
use Rattle.cl_store.proofs.Found.{stored_at-absent}
use Rattle.cl_store.proofs.InOrder.{IsInScanOrder-indexed}
use Rattle.cl_store.proofs.Splits.{said}
use Rattle.cl_store.proofs.Writes.{stored_at-read}
use Rattle.cl_store.proofs.store.Store.get.Goals as goal

pub returns-in-Ok : goal.returns-in-Ok
unfolding records
returns-in-Ok c =
    let indexed = c.args.self.now.items in
    let place : Place = (c.args.table.now, c.args.key.now) in
    let found = c.in-Ok.ensures.found in
    let stands =
    ap said c.at-item.ensures
    ∙ sym (stored_at-read (in_scan_order indexed) c.in-Ok.at found.in_range (IsInScanOrder-indexed indexed) place found) in
    record { number = ap (λ (s : Stored). s.0) stands; value = c.as_ref.ensures.value ∙ ap (λ (s : Stored). s.1) stands }

pub returns-in-Err : goal.returns-in-Err
unfolding records
returns-in-Err c =
    let place : Place = (c.args.table.now, c.args.key.now) in
    let stands = sym (stored_at-absent (in_scan_order c.args.self.now.items) place c.in-Err.field-0 c.in-Err.ensures.absent) in
    record { number = ap (λ (s : Stored). s.0) stands; value = ap (λ (s : Stored). s.1) stands }
