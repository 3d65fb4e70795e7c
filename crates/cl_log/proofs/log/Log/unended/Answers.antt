use Rattle.std.proofs.Common.{◌≡◌, List, [], ◌∷◌, ◌++◌, not, ◌&&◌, length, sym, ap, ◌∙◌, arith}
use Rattle.std.specs.List.{filter}
use Rattle.std.proofs.lemmas.Bool.{and_left, and_right, not_from_true}
use Rattle.std.proofs.lemmas.List.{take_all}
use Rattle.cl_types.specs.GrowingList.{items}
use Rattle.cl_log.specs.declared.slots.Slot.{Slot}
use Rattle.cl_log.specs.Kind.{txn_of}
use Rattle.cl_log.specs.Log.{entries}
use Rattle.cl_log.specs.LogEntry.{numbered}
use Rattle.cl_log.specs.Open.{is_open, is_among, txns_of, unended_of}
use Rattle.cl_log.specs.Slots.{contents}
use Rattle.cl_log.specs.SlotList.{entries_in}
use Rattle.cl_log.proofs.Open.{open_pushed, open_kept}
use Rattle.cl_log.proofs.SlotFacts.{content_here, length-contents}
use Rattle.cl_log.proofs.log.Log.unended.Goals as goal
use Rattle.cl_log.proofs.log.Log.unended.Goals.{then-is_open+then-not-is_among+in_ok-push, else-is_open, else-is_open-via-then-is_open+else-not-is_among, else-is_open-via-else-is_open}

pub loop-slot-init : goal.loop-slot-init
unfolding txns_of
loop-slot-init c = c.new-txns.ensures

pub loop-slot-preserved : goal.loop-slot-preserved
unfolding entries
loop-slot-preserved c =
    let list = c.args.self.now.records in
    let slot = c.slot-item.result in
    let here = content_here list.slots.items c.as_slice-slot-items.result.now c.loop-slot.slot-index slot c.as_slice-slot-items.ensures.slots c.loop-slot-test.true c.slot-item.is in
    let p = is_open (entries_in list) in
    let old = items c.loop-slot.txns in
    let txn = c.txn-txn.result in
    let of : txn ≡ txn_of slot.content = c.txn-txn.ensures in
    elim c.if-is_open.branch [
      | then-is_open+then-not-is_among+in_ok-push w ↦
          ap items w.txns-is ∙ w.in_ok-push.ensures.ok
          ∙ ap (λ t. old ++ t ∷ []) of
          ∙ open_pushed p list.first c.loop-slot.slot-index (contents list.slots.items) slot.content old here.within here.is c.loop-slot.invariant
          (ap p (sym of) ∙ sym c.is_open.ensures ∙ w.if-is_open.true)
          (ap (λ t. is_among t old) (sym of) ∙ sym (w.is_among.ensures ∙ ap (is_among txn) w.as_slice.ensures) ∙ w.if-not-is_among.true)
      | else-is_open w ↦
          ap items w.txns-is
          ∙ open_kept p list.first c.loop-slot.slot-index (contents list.slots.items) slot.content old here.within here.is c.loop-slot.invariant
          (ap (λ t. p t && not (is_among t old)) (sym of)
          ∙ (elim w.else-is_open.branch [
            | else-is_open-via-then-is_open+else-not-is_among w' ↦
                and_right (p txn) (not (is_among txn old)) (not_from_true _ (sym (w'.is_among.ensures ∙ ap (is_among txn) w'.as_slice.ensures) ∙ w'.if-not-is_among.false))
            | else-is_open-via-else-is_open w' ↦ and_left (p txn) (not (is_among txn old)) (sym c.is_open.ensures ∙ w'.if-is_open.false)
          ]))
    ]

pub returns : goal.returns
unfolding unended_of entries
returns c =
    let list = c.args.self.now.records in
    let count = length-contents list.slots.items in
    let as_many = ap (λ (xs : List Slot). length xs) c.as_slice-slot-items.ensures.slots in
    c.loop-slot.invariant
    ∙ ap (λ xs. filter (is_open (entries_in list)) (txns_of (numbered list.first xs))) (take_all _ _ (omega (arith, count, as_many, c.loop-slot-test.false)))
