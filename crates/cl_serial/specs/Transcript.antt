-- The transcript: what was fed and what was written, in order. A position in it is counted from 0.
use Rattle.std.specs.Prelude.{ℕ, suc, List, [], ◌∷◌, ◌++◌, map, nat_eq, if◌then◌else◌, Option, Some, None}
use Rattle.std.specs.List.{flat_map}
use Rattle.cl_types.specs.GrowingList.{items}
use Rattle.cl_types.specs.AppendOnlyList.{entries}
use Rattle.cl_types.specs.declared.append_only_list.AppendOnlyList.{AppendOnlyList}
use Rattle.cl_types.specs.declared.operations.Command.{Command}
use Rattle.cl_types.specs.declared.answers.Outcome.{Outcome}
use Rattle.cl_lines.specs.declared.line.LineFault.{LineFault}
use Rattle.cl_lines.specs.declared.out.Out.{Out}
use Rattle.cl_lines.specs.declared.out.Out.TheVariants.{Answer, BadLine}
use Rattle.cl_lines.specs.Line.{client_of, fault_of}
use Rattle.cl_lines.specs.Out.{text_of}
use Rattle.cl_serial.specs.declared.transcript.Said.{Said}
use Rattle.cl_serial.specs.declared.transcript.Said.TheVariants as said

-- what stands at one position of a transcript
pub data TranscriptEntry : Type 0 where
  -- the line of this number, counted from 1, and its text
  fed : ℕ → List ℕ → TranscriptEntry
  -- a printed line
  written : Out → TranscriptEntry
  -- a quiet moment
  quiet : TranscriptEntry

-- an entry as pure data
abbrev pub transcript_entry : Said → TranscriptEntry
transcript_entry (said.In number text) = fed number (items text)
transcript_entry (said.Out out) = written out
transcript_entry said.Quiet = quiet

-- a transcript as pure data
abbrev pub transcript_of : AppendOnlyList Said → List TranscriptEntry
transcript_of transcript = map transcript_entry (entries transcript)

-- what the picks of the entries give, in order; the first entry stands at this position
unfoldable pub gather : {A : Type 0} → (ℕ → TranscriptEntry → List A) → ℕ → List TranscriptEntry → List A
gather pick position [] = []
gather pick position (entry ∷ rest) = pick position entry ++ gather pick (suc position) rest

-- the line that an entry feeds, with its number
abbrev pub fed_line : ℕ → TranscriptEntry → List (ℕ × List ℕ)
fed_line position (fed number text) = (number, text) ∷ []
fed_line position (written out) = []
fed_line position quiet = []

-- the lines that were fed
abbrev pub fed_lines : List TranscriptEntry → List (ℕ × List ℕ)
fed_lines transcript = gather fed_line 0 transcript

-- what an entry writes
abbrev pub entry_text : TranscriptEntry → List ℕ
entry_text (fed number text) = []
entry_text (written out) = text_of out
entry_text quiet = []

-- the full text of a transcript: all that its entries write, in order
abbrev pub full_text : List TranscriptEntry → List ℕ
full_text transcript = flat_map entry_text transcript

-- the command, where the session is this one, with the position of its line
abbrev pub command_in : ℕ → ℕ → Option (ℕ × Command) → List (Command × ℕ)
command_in session position None = []
command_in session position (Some line) = if nat_eq line.0 session then (line.1, position) ∷ [] else []

-- the command that an entry asks in a session
abbrev pub asked_in : ℕ → ℕ → TranscriptEntry → List (Command × ℕ)
asked_in session position (fed number text) = command_in session position (client_of text)
asked_in session position (written out) = []
asked_in session position quiet = []

-- the outcome that a printed line answers to a session
abbrev pub outcome_in : ℕ → ℕ → Out → List (Outcome × ℕ)
outcome_in session position (Answer other outcome) = if nat_eq other session then (outcome, position) ∷ [] else []
outcome_in session position (BadLine line fault) = []

-- the outcome that an entry answers to a session
abbrev pub answered_in : ℕ → ℕ → TranscriptEntry → List (Outcome × ℕ)
answered_in session position (fed number text) = []
answered_in session position (written out) = outcome_in session position out
answered_in session position quiet = []

-- the commands of a session's well-formed lines, each with the position of its line
abbrev pub questions : ℕ → List TranscriptEntry → List (Command × ℕ)
questions session transcript = gather (asked_in session) 0 transcript

-- the outcomes that a session was answered, each with its position
abbrev pub answers : ℕ → List TranscriptEntry → List (Outcome × ℕ)
answers session transcript = gather (answered_in session) 0 transcript

-- the fault, where there is one, with the number of its line
abbrev pub numbered_fault : ℕ → Option LineFault → List (ℕ × LineFault)
numbered_fault number None = []
numbered_fault number (Some fault) = (number, fault) ∷ []

-- the fault of the line that an entry feeds
abbrev pub faulty_in : ℕ → TranscriptEntry → List (ℕ × LineFault)
faulty_in position (fed number text) = numbered_fault number (fault_of text)
faulty_in position (written out) = []
faulty_in position quiet = []

-- the refusal that a printed line is
abbrev pub refusal_in : Out → List (ℕ × LineFault)
refusal_in (Answer session outcome) = []
refusal_in (BadLine line fault) = (line, fault) ∷ []

-- the refusal that an entry writes
abbrev pub refused_in : ℕ → TranscriptEntry → List (ℕ × LineFault)
refused_in position (fed number text) = []
refused_in position (written out) = refusal_in out
refused_in position quiet = []

-- the fed lines that have a fault, each by its number with its fault
abbrev pub faulty_lines : List TranscriptEntry → List (ℕ × LineFault)
faulty_lines transcript = gather faulty_in 0 transcript

-- the refusals that were written, each by the number of its line with the fault
abbrev pub refusals : List TranscriptEntry → List (ℕ × LineFault)
refusals transcript = gather refused_in 0 transcript
