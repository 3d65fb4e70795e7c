-- A run that is made turn by turn: what may come next, and in which order it is looked at.
use Rattle.std.specs.Prelude.{ℕ, suc, ◌+◌, nat_le, Bool, true, false, ◌&&◌, ◌||◌, not, if◌then◌else◌, List, [], ◌∷◌, ◌++◌, map, filter, Option, Some, None}
use Rattle.std.specs.List.{list_all, range_with_len}
use Rattle.cl_actor.specs.Acting.{ActingState}
use Rattle.cl_endpoint.specs.Endpoint.{is_waiting, set_number}
use Rattle.cl_lines.specs.Line.{line_of}
use Rattle.cl_runs.specs.World.{Shape, Run}
use Rattle.cl_steps.specs.declared.actors.TheConstants.{FRONT}
use Rattle.cl_system.specs.System.{Core, is_core_at_rest, is_operators}
use Rattle.cl_wire.specs.Message.{Message}
use Rattle.cl_world.specs.World.{Moment, moment_after}
use Rattle.cl_schedule.specs.declared.setting.Setting.{Setting}

-- how far a run is
pub record Course : Type 0 where
  -- what has happened
  pub run : Run
  -- the packets on their way: that of number k, where it is on its way, at index k - 1
  pub slots : List (Option Message)
  -- how often the fate of each packet was asked
  pub asked : ℕ → ℕ
  -- the lines that are not fed yet
  pub left : List (List ℕ)
  -- how many turns were made
  pub turns : ℕ

-- what a turn may take
pub data Candidate : Type 0 where
  -- the packet of this number, which goes to this actor
  packet : (id to : ℕ) → Candidate
  -- the next line
  line : (text : List ℕ) → Candidate
  -- that time passes for this actor
  time : (actor : ℕ) → Candidate

-- the actors that live: the front first, then the nodes and spares
abbrev pub living : Shape → List ℕ
living shape = FRONT ∷ range_with_len 0 (shape.nodes + shape.spares)

-- the actor is at rest, and each of its messages was acknowledged
abbrev pub is_resting : ActingState Core → Bool
is_resting state = is_core_at_rest FRONT state.core && not (is_waiting state.endpoint)

-- the moment is quiet
abbrev pub is_quiet : Shape → Moment → Bool
is_quiet shape moment = list_all (λ actor. is_resting (moment.actors actor)) (living shape)

-- the packets that may be handled, by number, where the first slot is that of this number: those whose receivers have noted as much of the roster as their senders had
unfoldable pub packets_from : Moment → ℕ → List (Option Message) → List Candidate
packets_from moment number [] = []
packets_from moment number (None ∷ slots) = packets_from moment (suc number) slots
packets_from moment number (Some m ∷ slots) =
    if nat_le m.set (set_number (moment.actors m.to).endpoint) then packet number m.to ∷ packets_from moment (suc number) slots else packets_from moment (suc number) slots

-- a line waits for a quiet moment: an operator's, or each where the run goes step by step
abbrev pub must_wait : Bool → List ℕ → Bool
must_wait step text = step || is_operators (line_of text)

-- the next line, where it may be fed
abbrev pub next_line : Bool → Bool → List (List ℕ) → List Candidate
next_line step quiet_now [] = []
next_line step quiet_now (text ∷ left) = if must_wait step text && not quiet_now then [] else line text ∷ []

-- the actors with a message that is unsent or unacknowledged
abbrev pub waiting_actors : Shape → Moment → List Candidate
waiting_actors shape moment = map time (filter (λ actor. is_waiting (moment.actors actor).endpoint) (living shape))

-- these candidates, or the others where there is none of these and the moment is not quiet
abbrev pub or_else : List Candidate → Bool → List Candidate → List Candidate
or_else [] true others = []
or_else [] false others = others
or_else (first ∷ more) quiet_now others = first ∷ more

-- what may be taken at a moment, in order: packets, the next line, and where there is neither and the moment is not quiet, that time passes
abbrev pub candidates_at : Shape → Bool → Moment → List (Option Message) → List (List ℕ) → List Candidate
candidates_at shape step moment slots left =
    or_else (packets_from moment 1 slots ++ next_line step (is_quiet shape moment) left) (is_quiet shape moment) (waiting_actors shape moment)

-- what may be taken next
abbrev pub candidates : Shape → Setting → Course → List Candidate
candidates shape setting course = candidates_at shape setting.step (moment_after shape course.run) course.slots course.left
