use Rattle.cl_world.specs.Actors.{member_at}
use Rattle.cl_world.proofs.Audits.{node_live}
use Rattle.cl_world.proofs.actors.Actors.live_at.Goals as goal

pub returns-in-Some-store-clause-live : goal.returns-in-Some-store-clause-live
returns-in-Some-store-clause-live c = λ actor here there primary.
    node_live (member_at c.args.self.now c.args.v) c.in-Some.node.now c.in-Some-store.store.now actor c.args.v c.live_count.result
    c.in-Some.ensures here c.in-Some-store.ensures c.live_count.ensures.count
