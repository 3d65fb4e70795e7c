-- The laws of what the transcript of a firm run shows.
use Rattle.std.specs.Prelude.{◌≡◌, ℕ, ◌≤◌, true, List, [], ◌∷◌, length}
use Rattle.std.specs.List.{flat_map}
use Rattle.cl_front.specs.Front.{is_answered}
use Rattle.cl_runs.specs.Queues.{take_line}
use Rattle.cl_runs.specs.World.{Shape}
use Rattle.cl_serial.specs.Serial.{EveryLineAnswered}
use Rattle.cl_serial.specs.Transactions.{session_state}
use Rattle.cl_serial.specs.Transcript.{TranscriptEntry, fed_lines, questions, answers}
use Rattle.cl_system.specs.Firm.{FirmEvent, happens, firm_world_after, OfFirmRuns}
use Rattle.cl_shown.specs.Shown.{IsWellShown, with_outstanding}

-- a session has, beside what was answered, its first command without an answer
abbrev pub SessionHasOutstanding : Type 0
SessionHasOutstanding = (session : ℕ) (transcript : List TranscriptEntry) → length (answers session transcript) ≤ length (questions session transcript) →
    session_state session transcript ≡ with_outstanding session transcript

-- the transcript of the front in a firm run
abbrev pub transcript_of_firm : Shape → List FirmEvent → List TranscriptEntry
transcript_of_firm shape events = (firm_world_after shape events).world.front.transcript

-- the transcript of every firm run is well shown
abbrev pub FirmRunsAreWellShown : Type 0
FirmRunsAreWellShown = OfFirmRuns (λ shape events. IsWellShown (transcript_of_firm shape events))

-- the line that an event feeds, with its number
abbrev pub lines_of_firm : FirmEvent → List (ℕ × List ℕ)
lines_of_firm (happens (take_line number text said)) = (number, text) ∷ []
lines_of_firm other = []

-- the lines of a transcript are those that its run was fed
abbrev pub FirmLinesAreFed : Type 0
FirmLinesAreFed = OfFirmRuns (λ shape events. fed_lines (transcript_of_firm shape events) ≡ flat_map lines_of_firm events)

-- a front at rest has answered every line
abbrev pub FirmRestAnswersAll : Type 0
FirmRestAnswersAll = OfFirmRuns (λ shape events. is_answered (firm_world_after shape events).world.front ≡ true → EveryLineAnswered (transcript_of_firm shape events))
