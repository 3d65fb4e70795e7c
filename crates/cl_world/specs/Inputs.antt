-- What an event gives an actor of the system, and what the actor makes of it.
use Rattle.std.specs.Prelude.{ℕ, Bool}
use Rattle.cl_actor.specs.Acting.{ActingState, ActingFits, acted, is_acting_spent}
use Rattle.cl_cluster.specs.Fitting.{CoreDeliveryFits, CoreLineFits}
use Rattle.cl_post.specs.Steps.{Input, handle, tick, feed, OutsData}
use Rattle.cl_ranges.specs.Spent.{is_core_delivery_spent, is_core_line_spent}
use Rattle.cl_system.specs.System.{Core, delivered_core, fed_core}
use Rattle.cl_types.specs.GrowingList.{items}
use Rattle.cl_wire.specs.Message.{message_of}
use Rattle.cl_world.specs.declared.given.Given.{Given}
use Rattle.cl_world.specs.declared.given.Given.TheVariants.{Packet, Tick, Line}

-- what is given to an actor
abbrev pub input_of : Given → Input
input_of (Packet packet) = handle (message_of packet.now)
input_of Tick = tick
input_of (Line number text said) = feed number text.now (items said.now)

-- the actor after a step, and what the step gives
abbrev pub acted_core : ℕ → ActingState Core → Input → Bool → ActingState Core × OutsData
acted_core actor before input mark = acted (delivered_core actor) (fed_core actor) before input mark

-- the input fits the actor
abbrev pub InputFits : ℕ → ActingState Core → Input → Type 0
InputFits actor before input = ActingFits (delivered_core actor) (fed_core actor) CoreDeliveryFits CoreLineFits before input

-- the step with this mark needs a number above its limit
abbrev pub is_input_spent : ℕ → ActingState Core → Input → Bool → Bool
is_input_spent actor before input mark =
    is_acting_spent (delivered_core actor) (fed_core actor) is_core_delivery_spent is_core_line_spent before input mark
