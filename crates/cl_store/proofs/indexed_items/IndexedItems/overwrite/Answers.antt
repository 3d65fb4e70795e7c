use Rattle.std.proofs.Common.{◌≤◌, ◌<◌, length, arith}
use Rattle.std.proofs.lemmas.List.{length-map}
use Rattle.std.proofs.lemmas.List.Elements.{All-set}
use Rattle.cl_store.specs.declared.item.Item.{Item}
use Rattle.cl_store.specs.Index.{item_of}
use Rattle.cl_store.specs.IndexedItems.{in_scan_order}
use Rattle.cl_store.proofs.Indexed.{entries-rewritten, records-rewritten, IsInScanOrder-rewritten}
use Rattle.cl_store.proofs.Writes.{rewritten}
use Rattle.cl_store.proofs.indexed_items.IndexedItems.overwrite.Goals as goal

pub invariant_of-self : goal.invariant_of-self
unfolding in_scan_order
invariant_of-self c =
    let self = c.args.self.now in
    let entry = c.index.result.now in
    let item = c.index_mut-item.result.now in
    let below : c.args.at < length self.index.items = omega (arith, c.requires.inside, length-map self.index.items (item_of self.items.items)) in
    record {
      entries = entries-rewritten self.items.items self.index.items self.entries self.in_order c.args.at entry below c.index.ensures
          item c.index_mut-item.ensures.value c.args.number c.args.value;
      as_many = self.as_many;
      written = All-set (λ (item : Item). 1 ≤ item.number) self.items.items entry.slot (rewritten item c.args.number c.args.value)
          c.requires.written self.written;
      in_order = IsInScanOrder-rewritten self.items.items self.index.items self.entries self.in_order c.args.at entry below c.index.ensures
          item c.index_mut-item.ensures.value c.args.number c.args.value;
    }

pub returns-clause-records : goal.returns-clause-records
unfolding in_scan_order
returns-clause-records c =
    let self = c.args.self.now in
    let below : c.args.at < length self.index.items = omega (arith, c.requires.inside, length-map self.index.items (item_of self.items.items)) in
    records-rewritten self.items.items self.index.items self.entries self.in_order c.args.at c.index.result.now below c.index.ensures
    c.index_mut-item.result.now c.index_mut-item.ensures.value c.args.number c.args.value
