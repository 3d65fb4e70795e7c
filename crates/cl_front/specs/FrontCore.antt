-- Which state a front's core has.
use Rattle.std.specs.Prelude.{◌≡◌, ℕ, List, [], ◌++◌}
use Rattle.cl_front.specs.Front.{FrontState}
use Rattle.cl_front.specs.Session.{HasNextNumber}
use Rattle.cl_front.specs.Sessions.{session_in}
use Rattle.cl_front.specs.declared.front_core.FrontCore.{FrontCore}
use Rattle.cl_serial.specs.Transcript.{TranscriptEntry}

-- the core has this state, and nothing is kept aside
pub record IsFront (core : FrontCore) (state : FrontState) : Type 0 where
  pub sessions : core.sessions ≡ state.sessions
  pub transcript : core.recorder.transcript ≡ state.transcript
  pub settled : core.recorder.aside ≡ []

-- the core has this state once what is kept aside is in the transcript
pub record WillBeFront (core : FrontCore) (state : FrontState) : Type 0 where
  pub sessions : core.sessions ≡ state.sessions
  pub transcript : core.recorder.transcript ++ core.recorder.aside ≡ state.transcript

-- the transcript that the core has
abbrev pub transcript_in : FrontCore → List TranscriptEntry
transcript_in core = core.recorder.transcript

-- the next command of each session can have a number
abbrev pub HasNextNumbers : FrontState → Type 0
HasNextNumbers state = (s : ℕ) → HasNextNumber (session_in state.sessions s).current
