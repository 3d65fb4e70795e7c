-- The sessions that wait for an answer when the turns have run out.
use Rattle.std.specs.Prelude.{ℕ, ◌==◌, nat_lt, Bool, false, List, [], ◌∷◌, ◌++◌, length, filter, count_by, codes}
use Rattle.std.specs.Fmt.{decimal}
use Rattle.std.specs.List.{flat_map, range_with_len}
use Rattle.std.specs.Option.{option_map_or}
use Rattle.cl_lines.specs.Line.{client_of}
use Rattle.cl_serial.specs.Transcript.{TranscriptEntry, answers}
use Rattle.cl_types.specs.declared.limits.TheConstants.{SESSIONS_MAX}

-- the line is a well-formed one of this session
abbrev pub is_line_of : ℕ → List ℕ → Bool
is_line_of session text = option_map_or (λ line. line.0 == session) (client_of text) false

-- the sessions with fewer answers than lines, ascending
abbrev pub pending_sessions : List (List ℕ) → List TranscriptEntry → List ℕ
pending_sessions lines transcript =
    filter (λ session. nat_lt (length (answers session transcript)) (count_by (is_line_of session) lines)) (range_with_len 1 SESSIONS_MAX)

-- the printed line of such a session
abbrev pub pending_line : ℕ → List ℕ
pending_line session = codes "* PENDING " ++ decimal session ++ 10 ∷ []

-- the printed lines of all of them
abbrev pub pending_text : List (List ℕ) → List TranscriptEntry → List ℕ
pending_text lines transcript = flat_map pending_line (pending_sessions lines transcript)
