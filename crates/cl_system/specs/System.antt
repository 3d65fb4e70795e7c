-- The system that the program runs: what its front and its nodes decide.
use Rattle.std.specs.Prelude.{ℕ, ◌==◌, Bool, true, false, not, if◌then◌else◌, List, [], Result, Ok, Err}
use Rattle.cl_actor.specs.Acting.{unmoved}
use Rattle.cl_actor.specs.Core.{Noted, CoreStep}
use Rattle.cl_front.specs.Front.{FrontState, new_front, delivered_front, fed_front, quiet_front, is_answered}
use Rattle.cl_lines.specs.Line.{line_of}
use Rattle.cl_lines.specs.declared.line.Line.{Line}
use Rattle.cl_lines.specs.declared.line.Line.TheVariants.{Client, Operator}
use Rattle.cl_lines.specs.declared.line.LineFault.{LineFault}
use Rattle.cl_lines.specs.declared.out.Out.{Out}
use Rattle.cl_node.specs.Node.{NodeState, first_node, delivered_node, fed_node, is_any_busy}
use Rattle.cl_serial.specs.Transcript.{TranscriptEntry}
use Rattle.cl_steps.specs.declared.actors.TheConstants.{FRONT}
use Rattle.cl_wire.specs.Message.{Content}
use Rattle.cl_runs.specs.World.{Cores}

-- what an actor decides with: the front has sessions, a node has replicas
pub data Core : Type 0 where
  front : FrontState → Core
  node : NodeState → Core

-- a step of the front
abbrev pub front_step : CoreStep FrontState → CoreStep Core
front_step stepped = record { state = front stepped.state; step = stepped.step }

-- a step of a node
abbrev pub node_step : CoreStep NodeState → CoreStep Core
node_step stepped = record { state = node stepped.state; step = stepped.step }

-- the actor at the start
abbrev pub first_core : ℕ → ℕ → Core
first_core nodes actor = if actor == FRONT then front new_front else node (first_node nodes actor)

-- a message is accepted
abbrev pub delivered_core : ℕ → Noted → Core → ℕ → Content → Bool → CoreStep Core
delivered_core actor noted (front state) from content mark = front_step (delivered_front noted state from content mark)
delivered_core actor noted (node state) from content mark = node_step (delivered_node noted state from content mark)

-- a line is taken
abbrev pub fed_core : ℕ → Noted → Core → ℕ → List ℕ → List Out → CoreStep Core
fed_core actor noted (front state) number text said = front_step (fed_front noted state number text said)
fed_core actor noted (node state) number text said = node_step (fed_node noted state number text said)

-- a quiet moment is noted: it comes to the transcript of the front
abbrev pub quieted_core : ℕ → Core → Core
quieted_core actor (front state) = front (quiet_front state)
quieted_core actor (node state) = node state

-- each command that was fed is answered, and no replica is busy
abbrev pub is_core_at_rest : ℕ → Core → Bool
is_core_at_rest actor (front state) = is_answered state
is_core_at_rest actor (node state) = not (is_any_busy state)

-- the transcript of an actor; that of a node is empty
abbrev pub transcript_in : Core → List TranscriptEntry
transcript_in (front state) = state.transcript
transcript_in (node state) = []

-- the line waits for a quiet moment: QUIET, so far
abbrev pub is_operators : Result Line LineFault → Bool
is_operators (Ok (Client s command)) = false
is_operators (Ok (Operator order)) = true
is_operators (Err fault) = false

-- what the actors of the program decide, in a cluster of so many nodes
abbrev pub system : ℕ → Cores Core
system nodes = record {
  first = first_core nodes;
  delivered = delivered_core;
  fed = fed_core;
  -- no stop is admitted yet, so no entry is ever offered or noted
  noted = λ actor known state entry. unmoved state;
  stopped = λ known state n. unmoved state;
  stopped_lawfully = λ known state n. tt;
  quieted = quieted_core;
  at_rest = is_core_at_rest;
  waits_for_quiet = λ text. is_operators (line_of text);
}
