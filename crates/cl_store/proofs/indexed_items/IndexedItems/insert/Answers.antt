use Rattle.std.proofs.Common.{◌≡◌, ◌≤◌, length, ap, arith}
use Rattle.std.proofs.lemmas.List.Elements.{All-push}
use Rattle.cl_store.specs.declared.item.Item.{Item}
use Rattle.cl_store.specs.declared.index_entry.IndexEntry.{IndexEntry}
use Rattle.cl_store.specs.Index.{indexed}
use Rattle.cl_store.specs.IndexedItems.{in_scan_order}
use Rattle.cl_store.proofs.Indexed.{entries-inserted, indexed-inserted}
use Rattle.cl_store.proofs.Writes.{IsInScanOrder-inserted}
use Rattle.cl_store.proofs.indexed_items.IndexedItems.insert.Goals as goal

pub invariant_of-self : goal.invariant_of-self
unfolding in_scan_order
invariant_of-self c =
    let kept = c.args.self.now.items.items in
    let index = c.args.self.now.index.items in
    let entries = c.args.self.now.entries in
    let item = c.args.item in
    let at = c.args.at in
    let entry = c.new-entry.result in
    let slot = ap (λ (e : IndexEntry). e.slot) c.new-entry.ensures in
    let hashed = ap (λ (e : IndexEntry). e.hash) c.new-entry.ensures in
    let last : entry.slot ≡ length kept = omega (arith, slot, c.len.ensures) in
    record {
      entries = rw (c.in-Ok.ensures.items, c.push_reserved.ensures.items) (entries-inserted kept index entries item at entry last hashed);
      as_many = omega (arith, c.args.self.now.as_many, c.in-Ok.ensures.len, c.push_reserved.ensures.len);
      written = rw c.push_reserved.ensures.items (All-push (λ (i : Item). 1 ≤ i.number) kept item c.args.self.now.written c.requires.written);
      in_order = rw (c.in-Ok.ensures.items, c.push_reserved.ensures.items, indexed-inserted kept index entries item at entry last)
          (IsInScanOrder-inserted (indexed kept index) at item c.requires.belongs c.args.self.now.in_order);
    }

pub returns-clause-records : goal.returns-clause-records
unfolding in_scan_order
returns-clause-records c =
    let kept = c.args.self.now.items.items in
    let entry = c.new-entry.result in
    let slot = ap (λ (e : IndexEntry). e.slot) c.new-entry.ensures in
    let last : entry.slot ≡ length kept = omega (arith, slot, c.len.ensures) in
    rw (c.in-Ok.ensures.items, c.push_reserved.ensures.items)
    (indexed-inserted kept c.args.self.now.index.items c.args.self.now.entries c.args.item c.args.at entry last)
