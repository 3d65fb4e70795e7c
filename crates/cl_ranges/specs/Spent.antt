-- Which steps of the program's cores need a number above its limit: the code refuses them.
use Rattle.std.specs.Prelude.{◌≡◌, ℕ, Bool, false, List, Option, Some, None}
use Rattle.cl_actor.specs.Acting.{is_handling_spent, is_feeding_spent}
use Rattle.cl_actor.specs.Core.{Noted}
use Rattle.cl_front.specs.Front as at_front
use Rattle.cl_lines.specs.declared.out.Out.{Out}
use Rattle.cl_node.specs.Node as at_node
use Rattle.cl_runs.specs.World.{Shape, World, Happening, handle, feed, packet_at, Run, first_world, after_event, EachMayHappen}
use Rattle.cl_steps.specs.declared.actors.TheConstants.{FRONT}
use Rattle.cl_system.specs.System.{Core, front, node, delivered_core, fed_core, system}
use Rattle.cl_wire.specs.Message.{Content, Message}

-- whether a core needs a number above its limit for a message
abbrev pub is_core_delivery_spent : Noted → Core → ℕ → Content → Bool
is_core_delivery_spent noted (front state) from content = at_front.is_delivery_spent noted state from content
is_core_delivery_spent noted (node state) from content = at_node.is_delivery_spent noted state from content

-- or for a line
abbrev pub is_core_line_spent : Noted → Core → ℕ → List ℕ → List Out → Bool
is_core_line_spent noted (front state) number text said = at_front.is_line_spent noted state number text said
is_core_line_spent noted (node state) number text said = at_node.is_line_spent noted state number text said

-- whether an actor needs a number above its limit for a packet, if there is one, in a step with this mark
abbrev pub is_packet_spent : World Core → ℕ → Option Message → Bool → Bool
is_packet_spent world actor None mark = false
is_packet_spent world actor (Some m) mark = is_handling_spent (delivered_core actor) is_core_delivery_spent (world.actors actor) m mark

-- whether the step of an event with this mark needs a number above its limit
unfoldable pub is_spent : World Core → Happening → Bool → Bool
is_spent world (handle actor id) mark = is_packet_spent world actor (packet_at world id) mark
is_spent world (feed number text said) mark = is_feeding_spent (fed_core FRONT) is_core_line_spent (world.actors FRONT) number text said
is_spent world other mark = false

-- no step of the run is spent in its turn, with the mark that it has
unfoldable pub IsUnspentRun : Shape → Run → Type 0
IsUnspentRun shape run =
    EachMayHappen (λ world event. is_spent world event.0 event.1 ≡ false) (after_event (system shape.nodes)) run (first_world (system shape.nodes) shape)
