-- What fits an actor of the cluster.
use Rattle.std.specs.Prelude.{◌≡◌, ℕ, List, Some}
use Rattle.cl_actor.specs.Acting.{HandlingFits, FeedingFits}
use Rattle.cl_actor.specs.Core.{Noted}
use Rattle.cl_front.specs.Front as at_front
use Rattle.cl_lines.specs.declared.out.Out.{Out}
use Rattle.cl_node.specs.Node as at_node
use Rattle.cl_runs.specs.World.{World, Happening, handle, feed, packet_at}
use Rattle.cl_steps.specs.declared.actors.TheConstants.{FRONT}
use Rattle.cl_system.specs.System.{Core, front, node, delivered_core, fed_core}
use Rattle.cl_wire.specs.Message.{Content, Message}

-- a message fits the core of an actor
abbrev pub CoreDeliveryFits : Noted → Core → ℕ → Content → Type 0
CoreDeliveryFits noted (front state) from content = at_front.DeliveryFits noted state from content
CoreDeliveryFits noted (node state) from content = at_node.DeliveryFits noted state from content

-- a line fits the core of an actor
abbrev pub CoreLineFits : Noted → Core → ℕ → List ℕ → List Out → Type 0
CoreLineFits noted (front state) number text said = at_front.LineFits noted state number text said
CoreLineFits noted (node state) number text said = at_node.AnyLineFits noted state number text said

-- what an event brings to its actor fits the actor
abbrev pub HappeningFits : World Core → Happening → Type 0
HappeningFits world (handle actor id) = (m : Message) → packet_at world id ≡ Some m → HandlingFits (delivered_core actor) CoreDeliveryFits (world.actors actor) m
HappeningFits world (feed number text said) = FeedingFits (fed_core FRONT) CoreLineFits (world.actors FRONT) number text said
HappeningFits world other = Unit {0}
