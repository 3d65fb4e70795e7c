use Rattle.std.proofs.Common.{◌-◌, ◌+◌, ◌≡◌, length, refl, sym, ◌∙◌, arith}
use Rattle.cl_steps.specs.declared.packets.TheConstants.{PACKETS_MAX}
use Rattle.cl_endpoint.proofs.Emissions.{HasEmitted-one, HasEmitted-all, HasEmitted-full}
use Rattle.cl_endpoint.proofs.endpoint.Endpoint.emit_due_to.Goals as goal

pub returns-then-not-has_due-clause-packets : goal.returns-then-not-has_due-clause-packets
returns-then-not-has_due-clause-packets c =
    (HasEmitted-all _ _ _ _ _ _ _ c.loop.invariant.0 (sym c.has_due.ensures.due ∙ c.if-not-has_due.true) (omega arith)).0

pub returns-then-not-has_due-clause-after : goal.returns-then-not-has_due-clause-after
returns-then-not-has_due-clause-after c =
    (HasEmitted-all _ _ _ _ _ _ _ c.loop.invariant.0 (sym c.has_due.ensures.due ∙ c.if-not-has_due.true) (omega arith)).1

pub loop-preserved : goal.loop-preserved
loop-preserved c =
    let before = length c.args.packets.now.items in
    let index : c.loop.counter + 1 - before ≡ c.loop.counter - before + 1 = omega (arith, c.loop.auto.counter, c.len-counter.ensures) in (
      rw (index, c.in_ok-emit_to.ensures.packets) (HasEmitted-one _ _ _ _ _ _ _ _ c.loop.invariant.0 (omega (arith, c.requires, c.has_due.ensures.links))
          (sym c.has_due.ensures.due ∙ c.if-not-has_due.false) refl c.in_ok-emit_to.ensures.after),
      omega (arith, c.in_ok-emit_to.ensures.count, c.loop.invariant.1),
      omega arith,
    )

pub returns-clause-packets : goal.returns-clause-packets
returns-clause-packets c =
    let room : PACKETS_MAX - length c.args.packets.now.items ≡ c.loop.counter - length c.args.packets.now.items = omega arith in
    rw room (HasEmitted-full _ _ _ _ _ _ c.loop.invariant.0).0

pub returns-clause-after : goal.returns-clause-after
returns-clause-after c =
    let room : PACKETS_MAX - length c.args.packets.now.items ≡ c.loop.counter - length c.args.packets.now.items = omega arith in
    rw room (HasEmitted-full _ _ _ _ _ _ c.loop.invariant.0).1
