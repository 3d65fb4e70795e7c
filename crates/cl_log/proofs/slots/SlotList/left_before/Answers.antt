use Rattle.std.proofs.Common.{ℕ, suc, ◌<◌, Option, sym, ◌∙◌, arith, subst}
use Rattle.std.specs.Option.{option_map_or}
use Rattle.cl_log.specs.Slots.{contents}
use Rattle.cl_log.specs.SlotList.{entries_in}
use Rattle.cl_log.proofs.Numbered.{IsNumberedFrom-numbered}
use Rattle.cl_log.proofs.SlotFacts.{length-listed}
use Rattle.cl_log.proofs.SlotWalks.{IsWalking, walk_begins, walk_within, walk_goes_on, walk_finds, walk_falls, walk_ends}
use Rattle.cl_log.proofs.slots.SlotList.left_before.Goals as goal

pub loop-cursor-init : goal.loop-cursor-init
loop-cursor-init c = walk_begins (entries_in c.args.self.now) c.args.number c.slot.result.now c.slot.ensures

pub slot-slot-requires : goal.slot-slot-requires
slot-slot-requires c =
    let list = c.args.self.now in
    let count = length-listed list.first list.slots.items in
    let walking = subst (IsWalking (entries_in list) c.args.number) c.in-Some.is c.loop-cursor.invariant in
    let within = walk_within list.first (entries_in list) c.args.number c.in-Some.earlier (IsNumberedFrom-numbered list.first (contents list.slots.items)) walking
    c.requires.kept.0 (omega (arith, c.requires.kept.1, count)) in
    record { kept = (within.0, omega (arith, within.1, count)) }

pub loop-cursor-preserved : goal.loop-cursor-preserved
loop-cursor-preserved c =
    let list = c.args.self.now in
    walk_goes_on list.first (entries_in list) c.args.number c.in-Some.earlier (IsNumberedFrom-numbered list.first (contents list.slots.items))
    (subst (IsWalking (entries_in list) c.args.number) c.in-Some.is c.loop-cursor.invariant)
    c.slot-slot.result.now c.slot-slot.ensures (sym c.is_left.ensures ∙ c.if-is_left.false)

pub loop-cursor-smaller : goal.loop-cursor-smaller
loop-cursor-smaller c =
    let list = c.args.self.now in
    let count = length-listed list.first list.slots.items in
    subst (λ (o : Option ℕ). option_map_or suc c.slot-slot.result.now.previous 0 < option_map_or suc o 0) (sym c.in-Some.is)
    (walk_falls list.first (entries_in list) c.args.number c.in-Some.earlier (IsNumberedFrom-numbered list.first (contents list.slots.items))
    (subst (IsWalking (entries_in list) c.args.number) c.in-Some.is c.loop-cursor.invariant)
    c.slot-slot.result.now c.slot-slot.ensures c.requires.kept.0 (omega (arith, c.requires.kept.1, count)))

pub returns-then-is_left : goal.returns-then-is_left
returns-then-is_left c =
    let list = c.args.self.now in
    walk_finds list.first (entries_in list) c.args.number c.in-Some.earlier (IsNumberedFrom-numbered list.first (contents list.slots.items))
    (subst (IsWalking (entries_in list) c.args.number) c.in-Some.is c.loop-cursor.invariant)
    c.slot-slot.result.now c.slot-slot.ensures (sym c.is_left.ensures ∙ c.if-is_left.true)

pub returns : goal.returns
returns c =
    walk_ends (entries_in c.args.self.now) c.args.number (subst (IsWalking (entries_in c.args.self.now) c.args.number) c.in_default.is c.loop-cursor.invariant)
