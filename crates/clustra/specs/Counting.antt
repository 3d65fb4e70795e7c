-- How lines, answers and turns are counted. No public clause cites this module.
use Rattle.std.specs.Prelude.{ℕ, ◌==◌, nat_lt, Bool, false, if◌then◌else◌, List, length, filter, count_by, Option, Some, None}
use Rattle.std.specs.List.{flat_map, range_with_len}
use Rattle.std.specs.Option.{option_map, option_to_list}
use Rattle.cl_lines.specs.Line.{client_of}
use Rattle.cl_lines.specs.declared.out.Out.{Out}
use Rattle.cl_lines.specs.declared.out.Out.TheVariants.{Answer, BadLine}
use Rattle.cl_serial.specs.Transcript.{TranscriptEntry, fed, written, quiet, answers}
use Rattle.cl_types.specs.Names.{is_between}
use Rattle.clustra.specs.Pending.{is_line_of, pending_line}
use Rattle.clustra.specs.declared.limits.TheConstants.{TURNS_MAX}

-- the session of a well-formed line of a client
abbrev pub session_in : List ℕ → Option ℕ
session_in text = option_map (λ line. line.0) (client_of text)

-- the sessions of the well-formed lines, in order
abbrev pub sessions_in : List (List ℕ) → List ℕ
sessions_in lines = flat_map (λ text. option_to_list (session_in text)) lines

-- the printed line answers the session
abbrev pub is_out_to : ℕ → Out → Bool
is_out_to session (Answer other outcome) = other == session
is_out_to session (BadLine line fault) = false

-- the entry answers the session
abbrev pub is_answer_to : ℕ → TranscriptEntry → Bool
is_answer_to session (fed number text) = false
is_answer_to session (written out) = is_out_to session out
is_answer_to session quiet = false

-- the printed lines of the sessions that wait, of so many sessions
abbrev pub pending_until : List (List ℕ) → List TranscriptEntry → ℕ → List ℕ
pending_until lines transcript count =
    flat_map pending_line (filter (λ session. nat_lt (length (answers session transcript)) (count_by (is_line_of session) lines)) (range_with_len 1 count))

-- the number of turns that a word gives: from 1 to the most of a run
abbrev pub turns_in : Option ℕ → Option ℕ
turns_in None = None
turns_in (Some turns) = if is_between 1 TURNS_MAX turns then Some turns else None
