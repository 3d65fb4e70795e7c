-- The front as plain data, and what each of its steps leaves and gives.
use Rattle.std.specs.Prelude.{ℕ, Bool, false, if◌then◌else◌, List, [], ◌∷◌, ◌++◌, map, replicate, Result, Ok, Err}
use Rattle.cl_actor.specs.Core.{Noted, CoreStep}
use Rattle.cl_front.specs.Session.{SessionState, no_session, with_waiting, Turned, taken, heard, HasNextNumber}
use Rattle.cl_front.specs.Sessions.{session_in, with_session, is_awaited, are_answered}
use Rattle.cl_lines.specs.Line.{line_of}
use Rattle.cl_lines.specs.declared.line.Line.{Line}
use Rattle.cl_lines.specs.declared.line.Line.TheVariants.{Client, Operator}
use Rattle.cl_lines.specs.declared.line.LineFault.{LineFault}
use Rattle.cl_lines.specs.declared.out.Out.{Out}
use Rattle.cl_lines.specs.declared.out.Out.TheVariants.{BadLine}
use Rattle.cl_serial.specs.Transcript.{TranscriptEntry, fed, written, quiet}
use Rattle.cl_steps.specs.Steps.{nothing_done}
use Rattle.cl_types.specs.declared.limits.TheConstants.{SESSIONS_MAX}
use Rattle.cl_types.specs.declared.operations.Command.{Command}
use Rattle.cl_wire.specs.Message.{Content, Outcome}

-- the sessions, of which session 1 stands first, and the transcript
pub record FrontState : Type 0 where
  pub sessions : List SessionState
  pub transcript : List TranscriptEntry

-- no session has begun anything, and nothing was fed
abbrev pub new_front : FrontState
new_front = record { sessions = replicate SESSIONS_MAX no_session; transcript = [] }

-- these entries come to the transcript
abbrev pub with_entries : FrontState → List TranscriptEntry → FrontState
with_entries state entries = record state { transcript = state.transcript ++ entries }

-- session s had these turns: what they printed is written, and what they sent is given
abbrev pub stepped : FrontState → ℕ → Turned → CoreStep FrontState
stepped state s turned = record {
  state = record { sessions = with_session state.sessions s turned.session; transcript = state.transcript ++ map written turned.outs };
  step = record nothing_done { sends = turned.sends };
}

-- the turns of session s with one more command
abbrev pub turns_with : Noted → FrontState → ℕ → Command → Turned
turns_with noted state s command = taken noted s (with_waiting (session_in state.sessions s) command)

-- the step of a line that is in the transcript, by what it is read as: an operator's line asks nothing of a session, and nothing is printed for it
abbrev pub fed_as : Noted → FrontState → ℕ → Result Line LineFault → CoreStep FrontState
fed_as noted state line (Ok (Client s command)) = stepped state s (turns_with noted state s command)
fed_as noted state line (Ok (Operator order)) = record { state = state; step = nothing_done }
fed_as noted state line (Err fault) = record { state = with_entries state (written (BadLine line fault) ∷ []); step = nothing_done }

-- the step of a line: it is put into the transcript, and what it asks is taken up
unfoldable pub fed_front : Noted → FrontState → ℕ → List ℕ → List Out → CoreStep FrontState
fed_front noted state line text said = fed_as noted (with_entries state (fed line text ∷ [])) line (line_of text)

-- the step of a message: an outcome that is awaited is printed, and any other message changes nothing
abbrev pub delivered_content : Noted → FrontState → Content → CoreStep FrontState
delivered_content noted state (Outcome txn number outcome) =
    if is_awaited state.sessions txn number then stepped state txn.session (heard noted txn.session (session_in state.sessions txn.session) outcome)
    else record { state = state; step = nothing_done }
delivered_content noted state other = record { state = state; step = nothing_done }

-- the step of a message, whoever sent it and whatever the mark
abbrev pub delivered_front : Noted → FrontState → ℕ → Content → Bool → CoreStep FrontState
delivered_front noted state from content mark = delivered_content noted state content

-- the step of a quiet moment
abbrev pub quiet_front : FrontState → FrontState
quiet_front state = with_entries state (quiet ∷ [])

-- whether the turns after a line need a transaction number above the limit
abbrev pub is_spent_as : Noted → FrontState → Result Line LineFault → Bool
is_spent_as noted state (Ok (Client s command)) = (turns_with noted state s command).spent
is_spent_as noted state (Ok (Operator order)) = false
is_spent_as noted state (Err fault) = false

-- whether the step of a line needs a transaction number above the limit
unfoldable pub is_line_spent : Noted → FrontState → ℕ → List ℕ → List Out → Bool
is_line_spent noted state line text said = is_spent_as noted state (line_of text)

-- whether the step of a message needs a transaction number above the limit
unfoldable pub is_delivery_spent : Noted → FrontState → ℕ → Content → Bool
is_delivery_spent noted state from (Outcome txn number outcome) =
    if is_awaited state.sessions txn number then (heard noted txn.session (session_in state.sessions txn.session) outcome).spent else false
is_delivery_spent noted state from other = false

-- the session of the line can number its next command
abbrev pub FitsAs : FrontState → Result Line LineFault → Type 0
FitsAs state (Ok (Client s command)) = HasNextNumber (session_in state.sessions s).current
FitsAs state (Ok (Operator order)) = Unit {0}
FitsAs state (Err fault) = Unit {0}

-- a line fits where its session can number its next command
abbrev pub LineFits : Noted → FrontState → ℕ → List ℕ → List Out → Type 0
LineFits noted state line text said = FitsAs state (line_of text)

-- a message fits that is an outcome, where its session can number its next command
abbrev pub DeliveryFits : Noted → FrontState → ℕ → Content → Type 0
DeliveryFits noted state from (Outcome txn number outcome) = HasNextNumber (session_in state.sessions txn.session).current
DeliveryFits noted state from other = ⊥

-- whether each command that was fed was answered: no session waits, and none has a command outstanding
abbrev pub is_answered : FrontState → Bool
is_answered state = are_answered state.sessions
