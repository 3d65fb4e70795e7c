-- What the transcript of a run shows by itself.
use Rattle.std.specs.Prelude.{◌≡◌, ℕ, ◌≤◌, List, length, map, take, drop, fold}
use Rattle.cl_serial.specs.Exchanges.{unanswered}
use Rattle.cl_serial.specs.Serial.{AnswersFollow, AnswersFitTurns, RefusalsTrue}
use Rattle.cl_serial.specs.Transactions.{Session, session_step}
use Rattle.cl_serial.specs.Transcript.{TranscriptEntry, questions, answers, faulty_lines, refusals}
use Rattle.cl_told.specs.Told.{told_session}
use Rattle.cl_shown.specs.Sessions.{AreLawful}

-- what holds of a transcript, whatever its history
pub record IsWellShown (transcript : List TranscriptEntry) : Type 0 where
  -- each answer has its command
  pub few : (session : ℕ) → length (answers session transcript) ≤ length (questions session transcript)
  -- the transactions of each session are lawful
  pub lawful : (session : ℕ) → AreLawful (told_session session transcript) (length transcript)
  -- each answer follows its line
  pub follow : AnswersFollow transcript
  -- each answer fits its session's turn
  pub fit_turns : AnswersFitTurns transcript
  -- each refusal is of a line with that fault
  pub refused : RefusalsTrue transcript
  -- each line with a fault is refused at once
  pub refused_once : faulty_lines transcript ≡ refusals transcript

-- the session with its first command that has no answer, if there is one
abbrev pub with_outstanding : ℕ → List TranscriptEntry → Session
with_outstanding session transcript =
    fold session_step (told_session session transcript) (map unanswered (take 1 (drop (length (answers session transcript)) (questions session transcript))))
