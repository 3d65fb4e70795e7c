use Rattle.std.proofs.Common.{◌≡◌, ◌+◌, ◌-◌, arith, subst}
use Rattle.cl_log.specs.Slots.{IsSlotOf}
use Rattle.cl_log.specs.SlotList.{entries_in}
use Rattle.cl_log.proofs.SlotFacts.{slot_at}
use Rattle.cl_log.proofs.slots.SlotList.slot.Goals as goal

pub returns : goal.returns
returns c =
    let list = c.args.self.now in
    let same : list.first + (c.args.number - list.first) ≡ c.args.number = omega (arith, c.requires.kept.0) in
    subst (λ n. IsSlotOf (entries_in list) n c.index.result.now) same
    (slot_at list.first (c.args.number - list.first) list.slots.items c.index.result.now (omega (arith, c.requires.kept.0, c.requires.kept.1)) c.index.ensures list.knows_previous list.knows_undone)
