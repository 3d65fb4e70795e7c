use Rattle.cl_world.specs.Actors.{AreFirstMembers}
use Rattle.cl_world.proofs.actors.first_members.Given as goal

abbrev pub invariant-loop-actor : goal.invariant-loop-actor
invariant-loop-actor l = AreFirstMembers l.nodes l.spares l.actor l.members.items
