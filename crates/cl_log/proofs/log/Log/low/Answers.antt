use Rattle.std.proofs.Common.{List, length, sym, ap, ◌+◌, ◌∙◌, arith}
use Rattle.cl_log.specs.declared.slots.Slot.{Slot}
use Rattle.cl_log.specs.Kind.{txn_of}
use Rattle.cl_log.specs.Log.{entries, next_number}
use Rattle.cl_log.specs.Open.{is_open}
use Rattle.cl_log.specs.Slots.{contents}
use Rattle.cl_log.specs.SlotList.{entries_in, next_in}
use Rattle.cl_log.proofs.Low.{find_next, low_here, low_none}
use Rattle.cl_log.proofs.SlotFacts.{content_here, length-contents}
use Rattle.cl_log.proofs.log.Log.low.Goals as goal

pub loop-index-preserved : goal.loop-index-preserved
unfolding entries
loop-index-preserved c =
    let list = c.args.self.now.records in
    let slot = c.slot-item.result in
    let here = content_here list.slots.items c.as_slice-slot-items.result.now c.loop-index.index slot c.as_slice-slot-items.ensures.slots c.loop-index-test.true c.slot-item.is in
    c.loop-index.invariant
    ∙ find_next list.first c.loop-index.index (contents list.slots.items) slot.content here.within here.is (λ entry. is_open (entries_in list) (txn_of entry.content))
    (ap (is_open (entries_in list)) (sym c.txn.ensures) ∙ sym c.is_open.ensures ∙ c.if-is_open.false)

pub returns-then-is_open : goal.returns-then-is_open
unfolding entries next_number
returns-then-is_open c =
    let list = c.args.self.now.records in
    let slot = c.slot-item.result in
    let here = content_here list.slots.items c.as_slice-slot-items.result.now c.loop-index.index slot c.as_slice-slot-items.ensures.slots c.loop-index-test.true c.slot-item.is in
    ap (λ first. first + c.loop-index.index) c.first.ensures
    ∙ sym (low_here list.first c.loop-index.index (contents list.slots.items) slot.content here.within here.is (next_in list) c.loop-index.invariant
    (ap (is_open (entries_in list)) (sym c.txn.ensures) ∙ sym c.is_open.ensures ∙ c.if-is_open.true))

pub returns : goal.returns
unfolding entries next_number
returns c =
    let list = c.args.self.now.records in
    let count = length-contents list.slots.items in
    let as_many = ap (λ (xs : List Slot). length xs) c.as_slice-slot-items.ensures.slots in
    c.next.ensures
    ∙ sym (low_none list.first c.loop-index.index (next_in list) (contents list.slots.items) c.loop-index.invariant (omega (arith, count, as_many, c.loop-index-test.false)))
