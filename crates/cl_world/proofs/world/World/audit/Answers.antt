use Rattle.std.proofs.Common.{◌≡◌, ◌+◌, ◌<◌, ◌∙◌, arith}
use Rattle.cl_world.specs.World.{moment_after}
use Rattle.cl_world.proofs.Audits.{audited, counted_more, has_primary}
use Rattle.cl_world.proofs.world.World.audit.Goals as goal

pub loop-v-preserved : goal.loop-v-preserved
loop-v-preserved c = record {
  few = omega (arith, c.loop-v.invariant.few, c.live_at-live.ensures.few);
  counted = λ shape run made whole.
      let v = c.loop-v.v in
      let within : v < shape.nodes = omega (arith, c.loop-v-test.true, c.nodes-nodes.ensures.nodes, made.now.roster.nodes) in
      let lives : v < shape.nodes + shape.spares = omega (arith, within) in
      counted_more (moment_after shape run) v c.loop-v.live c.live_at-live.result (c.loop-v.invariant.counted shape run made whole)
      (c.live_at-live.ensures.live ((moment_after shape run).actors v) (made.now.actors.members v lives)
      (whole.members v lives) (has_primary shape run made.now.size made.is_run v within));
}

pub returns : goal.returns
returns c = λ shape run made whole.
    let nodes : c.nodes-nodes.result ≡ shape.nodes = c.nodes-nodes.ensures.nodes ∙ made.now.roster.nodes in
    let last : c.loop-v.v ≡ shape.nodes = omega (arith, c.loop-v-test.false, c.loop-v.auto, nodes) in
    audited shape run c.loop-v.v c.loop-v.live c.nodes-nodes.result made.now.size made.is_run (c.loop-v.invariant.counted shape run made whole) last nodes
