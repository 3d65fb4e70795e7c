use Rattle.std.proofs.Common.{◌≤◌, arith}
use Rattle.std.proofs.lemmas.List.Elements.{All-nil}
use Rattle.cl_store.specs.declared.item.Item.{Item}
use Rattle.cl_store.specs.Index.{IsEntryOf}
use Rattle.cl_store.proofs.Writes.{IsInScanOrder-none}
use Rattle.cl_store.proofs.indexed_items.IndexedItems.new.Goals as goal

pub invariant_of-result : goal.invariant_of-result
invariant_of-result c = record {
  entries = rw c.new.ensures.items (All-nil (IsEntryOf c.new-2.result.items));
  as_many = omega arith;
  written = rw c.new-2.ensures.items (All-nil (λ (item : Item). 1 ≤ item.number));
  in_order = rw c.new.ensures.items IsInScanOrder-none;
}
