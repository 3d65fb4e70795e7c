use Rattle.std.proofs.Common.{refl, ap, ◌∙◌, arith}
use Rattle.std.proofs.Math.Nat.{le-max_left, le-max_right}
use Rattle.cl_lists.specs.Arena.{free_slots}
use Rattle.cl_lists.specs.Entries.{free_count}
use Rattle.cl_lists.proofs.ArenaChanges.{IsUnchanged-same, free_slots-is}
use Rattle.cl_lists.proofs.arena.Arena.reserve.Goals as goal

pub returns-in_err-reserve-clause-same : goal.returns-in_err-reserve-clause-same
returns-in_err-reserve-clause-same g c = IsUnchanged-same c.args.self.now _ c.in_err-reserve.ensures.items refl refl

pub returns-in_err-reserve-clause-roomy : goal.returns-in_err-reserve-clause-roomy
returns-in_err-reserve-clause-roomy g c = λ enough.
    absurd (omega (arith, enough, free_slots-is c.args.self.now, c.in_err-reserve.ensures.full, c.saturating_sub.ensures, c.args.self.now.slots.ok.1))

pub returns-in_err-reserve-clause-keeps_room : goal.returns-in_err-reserve-clause-keeps_room
unfolding free_slots
returns-in_err-reserve-clause-keeps_room g c = omega (arith, ap free_count c.in_err-reserve.ensures.items)

pub returns-in_err-reserve-clause-most : goal.returns-in_err-reserve-clause-most
unfolding free_slots
returns-in_err-reserve-clause-most g c = omega (arith, ap free_count c.in_err-reserve.ensures.items, le-max_right c.args.count (free_count c.args.self.now.slots.items))

pub loop-self-init : goal.loop-self-init
unfolding free_slots
loop-self-init g c =
    let kept = ap free_count c.in_ok-reserve.ensures.items in
    (IsUnchanged-same c.args.self.now _ c.in_ok-reserve.ensures.items refl refl, omega (arith, kept), omega (arith, kept, le-max_right c.args.count (free_count c.args.self.now.slots.items)))

pub loop-self-smaller : goal.loop-self-smaller
loop-self-smaller g c =
    omega (arith, free_slots-is c.loop-self.self, free_slots-is c.add_slot.new.self, c.in_ok-add_slot.ensures.ok, c.loop-self-test.true)

pub loop-self-preserved : goal.loop-self-preserved
loop-self-preserved g c =
    let before = c.loop-self.invariant in
    let added = c.in_ok-add_slot.ensures.same in (
      record { lists = λ side. added.lists side ∙ before.0.lists side; items = λ slot. added.items slot ∙ before.0.items slot },
      omega (arith, before.1, c.in_ok-add_slot.ensures.ok),
      omega (arith, c.in_ok-add_slot.ensures.ok, free_slots-is c.loop-self.self, c.loop-self-test.true, le-max_left c.args.count (free_slots c.args.self.now)),
    )

pub returns-in_err-add_slot-clause-roomy : goal.returns-in_err-add_slot-clause-roomy
returns-in_err-add_slot-clause-roomy g c = λ enough.
    absurd (omega (arith, enough, c.loop-self.invariant.1, free_slots-is c.loop-self.self, c.loop-self-test.true))

pub returns-clause-ok : goal.returns-clause-ok
returns-clause-ok g c = omega (arith, free_slots-is c.loop-self.self, c.loop-self-test.false)
