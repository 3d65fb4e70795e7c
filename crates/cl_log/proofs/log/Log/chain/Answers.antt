use Rattle.std.proofs.Common.{ℕ, suc, ◌<◌, Option, sym, ◌∙◌, ap, arith, subst}
use Rattle.std.specs.Option.{option_map_or}
use Rattle.cl_types.specs.GrowingList.{items}
use Rattle.cl_log.specs.declared.known.Known.{Known}
use Rattle.cl_log.specs.Log.{entries}
use Rattle.cl_log.specs.Slots.{contents}
use Rattle.cl_log.specs.SlotList.{entries_in}
use Rattle.cl_log.proofs.Numbered.{IsNumberedFrom-numbered}
use Rattle.cl_log.proofs.SlotFacts.{length-listed}
use Rattle.cl_log.proofs.SlotWalks.{HasGathered, gathering_begins, gathering_within, gathering_goes_on, gathering_falls, gathering_ends}
use Rattle.cl_log.proofs.log.Log.chain.Goals as goal

pub loop-cursor-init : goal.loop-cursor-init
loop-cursor-init c =
    let log = c.args.self.now in
    gathering_begins (entries_in log.records) c.args.txn (items c.new-backward.result) c.known_of-cursor.result.last c.new-backward.ensures
    (ap (λ (known : Known). known.last) (c.known_of-cursor.ensures ∙ log.is_indexed c.args.txn))

pub slot-requires : goal.slot-requires
slot-requires c =
    let list = c.args.self.now.records in
    let count = length-listed list.first list.slots.items in
    let so_far = subst (HasGathered (entries_in list) c.args.txn (items c.loop-cursor.backward)) c.in-Some.is c.loop-cursor.invariant in
    let within = gathering_within list.first (entries_in list) c.args.txn (items c.loop-cursor.backward) c.in-Some.number (IsNumberedFrom-numbered list.first (contents list.slots.items)) so_far in
    record { kept = (within.0, omega (arith, within.1, count)) }

pub loop-cursor-preserved : goal.loop-cursor-preserved
loop-cursor-preserved c =
    let list = c.args.self.now.records in
    let so_far = subst (HasGathered (entries_in list) c.args.txn (items c.loop-cursor.backward)) c.in-Some.is c.loop-cursor.invariant in
    gathering_goes_on list.first (entries_in list) c.args.txn (items c.loop-cursor.backward) c.in-Some.number (IsNumberedFrom-numbered list.first (contents list.slots.items)) so_far
    c.slot.result.now c.slot.ensures (items c.push.new.self) c.in_ok-push.ensures.ok

pub loop-cursor-smaller : goal.loop-cursor-smaller
loop-cursor-smaller c =
    let list = c.args.self.now.records in
    let so_far = subst (HasGathered (entries_in list) c.args.txn (items c.loop-cursor.backward)) c.in-Some.is c.loop-cursor.invariant in
    subst (λ (o : Option ℕ). option_map_or suc c.slot.result.now.previous 0 < option_map_or suc o 0) (sym c.in-Some.is)
    (gathering_falls list.first (entries_in list) c.args.txn (items c.loop-cursor.backward) c.in-Some.number (IsNumberedFrom-numbered list.first (contents list.slots.items)) so_far
    c.slot.result.now c.slot.ensures)

pub returns : goal.returns
unfolding entries
returns c =
    let list = c.args.self.now.records in
    let so_far = subst (HasGathered (entries_in list) c.args.txn (items c.loop-cursor.backward)) c.in_default.is c.loop-cursor.invariant in
    rw (gathering_ends (entries_in list) c.args.txn (items c.loop-cursor.backward) so_far) at c.reversed.ensures
