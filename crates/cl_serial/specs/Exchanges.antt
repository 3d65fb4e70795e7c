-- The exchanges of a session: its lines and their answers.
use Rattle.std.specs.Prelude.{ℕ, List, [], ◌∷◌, Option, Some, None}
use Rattle.cl_types.specs.declared.operations.Command.{Command}
use Rattle.cl_types.specs.declared.answers.Outcome.{Outcome}
use Rattle.cl_serial.specs.Transcript.{TranscriptEntry, questions, answers}

-- a command, the position of its line, and its answer with the position of that, where there is one
pub record Exchange : Type 0 where
  pub command : Command
  pub line : ℕ
  pub answer : Option (Outcome × ℕ)

-- an exchange without an answer: the command, and the position of its line
abbrev pub unanswered : Command × ℕ → Exchange
unanswered asked = record { command = asked.0; line = asked.1; answer = None }

-- an exchange with its answer
abbrev pub answered : Command × ℕ → Outcome × ℕ → Exchange
answered asked answer = record { command = asked.0; line = asked.1; answer = Some answer }

-- the k-th command is answered by the k-th answer
unfoldable pub pair_up : List (Command × ℕ) → List (Outcome × ℕ) → List Exchange
pair_up [] given = []
pair_up (asked ∷ rest) [] = unanswered asked ∷ pair_up rest []
pair_up (asked ∷ rest) (answer ∷ given) = answered asked answer ∷ pair_up rest given

-- the exchanges of a session, in the order of its lines
abbrev pub exchanges : ℕ → List TranscriptEntry → List Exchange
exchanges session transcript = pair_up (questions session transcript) (answers session transcript)

-- the outcome of an exchange, where it was answered
abbrev pub outcome_of : Exchange → Option Outcome
outcome_of exchange = elim exchange.answer [ None ↦ None | Some answer ↦ Some answer.0 ]

-- what follows an exchange in turn: nothing where it was not answered
abbrev pub after_answer : Option (Outcome × ℕ) → List Exchange → List Exchange
after_answer None rest = []
after_answer (Some answer) rest = rest

-- the exchanges whose turn has come: up to the first without an answer, that one included
unfoldable pub in_turn : List Exchange → List Exchange
in_turn [] = []
in_turn (exchange ∷ rest) = exchange ∷ after_answer exchange.answer (in_turn rest)
