use Rattle.std.proofs.Common.{◌≡◌, ◌∙◌, ap, sym, subst, cond, ⊎_elim, arith}
use Rattle.cl_types.specs.Places.{Place, Stored, same_place}
use Rattle.cl_store.specs.declared.item.Item.{Item}
use Rattle.cl_store.specs.IndexedItems.{in_scan_order}
use Rattle.cl_store.specs.Items.{place_of, stored_at}
use Rattle.cl_store.specs.Search.{BelongsAt}
use Rattle.cl_store.specs.Store.{records, room}
use Rattle.cl_store.proofs.Found.{stored_at-absent}
use Rattle.cl_store.proofs.InOrder.{IsInScanOrder-indexed}
use Rattle.cl_store.proofs.Splits.{said}
use Rattle.cl_store.proofs.Writes.{stored_at-overwritten, stored_at-inserted}
use Rattle.cl_store.proofs.store.Store.write.Goals as goal

pub returns-in-Ok-clause-stored : goal.returns-in-Ok-clause-stored
unfolding records
returns-in-Ok-clause-stored c other =
    let indexed = c.args.self.now.items in
    let place : Place = (c.args.table.now, c.args.key.now) in
    let found = c.in-Ok.ensures.found in
    ap (λ items. stored_at items other) c.overwrite.ensures.records
    ∙ stored_at-overwritten (in_scan_order indexed) c.in-Ok.at found.in_range (IsInScanOrder-indexed indexed) place found c.args.number c.args.value other

pub insert-requires-clause-room : goal.insert-requires-clause-room
unfolding records room
insert-requires-clause-room c =
    let place : Place = (c.args.table.now, c.args.key.now) in
    let never = ap (λ (s : Stored). s.0) (stored_at-absent (in_scan_order c.args.self.now.items) place c.in-Err.at c.in-Err.ensures.absent) in
    ⊎_elim (λ some. omega (arith, never)) (λ room. room) c.requires.room

pub returns-in-Err-clause-stored : goal.returns-in-Err-clause-stored
unfolding records
returns-in-Err-clause-stored c other =
    let items = in_scan_order c.args.self.now.items in
    let place : Place = (c.args.table.now, c.args.key.now) in
    let item : Item = record { table = c.copy.result; key = c.copy-in-Err.result; number = c.args.number; value = c.args.value } in
    let at_place : place_of item ≡ place = λ i. (c.copy.ensures i, c.copy-in-Err.ensures i) in
    let belongs = subst (λ p. BelongsAt items p c.in-Err.at) (sym at_place) c.in-Err.ensures.absent in
    ap (λ xs. stored_at xs other) c.insert.ensures.records
    ∙ stored_at-inserted items c.in-Err.at item belongs other
    ∙ ap (λ p. cond (same_place p other) (said item) (stored_at items other)) at_place

pub returns-in-Err-clause-keeps_room : goal.returns-in-Err-clause-keeps_room
unfolding records
returns-in-Err-clause-keeps_room c some =
    let place : Place = (c.args.table.now, c.args.key.now) in
    let never = ap (λ (s : Stored). s.0) (stored_at-absent (in_scan_order c.args.self.now.items) place c.in-Err.at c.in-Err.ensures.absent) in
    absurd (omega (arith, never))
