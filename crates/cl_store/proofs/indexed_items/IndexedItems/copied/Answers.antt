use Rattle.std.proofs.Common.{◌≡◌, take, drop, ap, ◌∙◌}
use Rattle.std.proofs.lemmas.Result.{IfOk-weaker}
use Rattle.cl_types.specs.GrowingList.{items}
use Rattle.cl_store.specs.Index.{indexed}
use Rattle.cl_store.specs.IndexedItems.{in_scan_order}
use Rattle.cl_store.proofs.Indexed.{indexed-part}
use Rattle.cl_store.proofs.indexed_items.IndexedItems.copied.Goals as goal

pub returns-clause-ok : goal.returns-clause-ok
unfolding in_scan_order
returns-clause-ok c =
    let self = c.args.self.now in
    let from = c.args.from in
    let max = c.args.max in
    let part =
    indexed-part self.items.items c.deref.result.now from c.min.result max c.min.ensures
    ∙ ap (λ index. take max (drop from (indexed self.items.items index))) c.deref.ensures.value in
    IfOk-weaker c.copied_items.result _ (λ list. items list ≡ take max (drop from (in_scan_order self)))
    (λ list copied. (rw c.as_slice.ensures.value at copied) ∙ part) c.copied_items.ensures.ok
