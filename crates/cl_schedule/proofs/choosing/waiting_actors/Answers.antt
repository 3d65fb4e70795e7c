use Rattle.std.proofs.Common.{◌≡◌, List, inl, inr, refl, ap, ◌∙◌, ◌<◌, ◌^◌, arith}
use Rattle.cl_endpoint.specs.Endpoint.{is_waiting}
use Rattle.cl_roster.specs.declared.entry.RosterEntry.{RosterEntry}
use Rattle.cl_roster.specs.Roster.{has_stopped}
use Rattle.cl_world.specs.World.{moment_after}
use Rattle.cl_schedule.proofs.Waits.{all_wait, front_waits, node_fits, waits_more}
use Rattle.cl_schedule.proofs.choosing.waiting_actors.Goals as goal

pub loop-index-init : goal.loop-index-init
loop-index-init c = λ shape run sound.
    front_waits (λ actor. is_waiting ((moment_after shape run).actors actor).endpoint) c.new-actors.result.items c.add_where.new.actors.items c.waiting.result c.new-actors.ensures.items c.in_ok-add_where.ensures
    (c.waiting.ensures.made shape run sound.is sound.whole (inl refl))

pub loop-index-preserved : goal.loop-index-preserved
loop-index-preserved c = λ shape run sound.
    waits_more (λ actor. is_waiting ((moment_after shape run).actors actor).endpoint) c.loop-index.actors.items c.add_where-in-loop-index.new.actors.items c.loop-index.index c.waiting-in-loop-index.result
    (c.loop-index.invariant shape run sound) c.in_ok-add_where-2.ensures
    (c.waiting-in-loop-index.ensures.made shape run sound.is sound.whole (inr (
      let counted = c.members-index-end.ensures shape run sound.is in let within = c.loop-index-test.true in omega arith,
      ap (λ (roster : List RosterEntry). has_stopped roster c.loop-index.index) sound.is.now.unstopped,
    )))

pub overflow_cast-actor : goal.overflow_cast-actor
overflow_cast-actor c =
    let bound : c.loop-index.index < 2 ^ 32
    = node_fits c.requires.0 c.args.world.now c.requires.1 c.members-index-end.result c.loop-index.index c.requires.2 (c.members-index-end.ensures c.requires.0 c.requires.1 c.requires.2.is) c.loop-index-test.true in omega arith

pub returns : goal.returns
returns c = λ shape run sound.
    let ended : c.loop-index.index ≡ c.members-index-end.result = let bound = c.loop-index.auto.index-end in let past = c.loop-index-test.false in omega arith in
    all_wait shape c.args.world.now run c.loop-index.index c.loop-index.actors.items (ended ∙ c.members-index-end.ensures shape run sound.is) (c.loop-index.invariant shape run sound)
