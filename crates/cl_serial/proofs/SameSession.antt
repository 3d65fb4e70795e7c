-- A session of which one transcript says what another does: what was promised of it there holds here.
use Rattle.std.proofs.Common.{◌≡◌, ℕ, ◌<◌, List, take, Some, IsSome, sym, ◌∙◌, ap, subst}
use Rattle.cl_types.specs.declared.operations.Command.{Command}
use Rattle.cl_types.specs.declared.answers.Outcome.{Outcome}
use Rattle.cl_serial.specs.Transcript.{TranscriptEntry, questions, answers}
use Rattle.cl_serial.specs.Exchanges.{Exchange, exchanges, outcome_of, pair_up, in_turn}
use Rattle.cl_serial.specs.Transactions.{Session, session_state, session_after, commands_in, numbered}
use Rattle.cl_serial.specs.Serial.{StandsAt, IsIn, AnswersFollow, AnswersFitTurns, FitsTurn, EveryLineAnswered}
use Rattle.cl_serial.proofs.Growth.{all_of}

module _ (here there : List TranscriptEntry) (session : ℕ) (asked : questions session here ≡ questions session there) (answered : answers session here ≡ answers session there) where
  pub exchanges-same : exchanges session here ≡ exchanges session there
  exchanges-same = ap (λ list. pair_up list (answers session here)) asked ∙ ap (pair_up (questions session there)) answered

  pub session_state-same : session_state session here ≡ session_state session there
  session_state-same = ap (λ list. session_after (in_turn list)) exchanges-same

  -- a transaction keeps its commands
  pub commands-same : (n : ℕ) (exchange : Exchange) → IsIn (commands_in (numbered (all_of (session_state session there)) n)) exchange →
      IsIn (commands_in (numbered (all_of (session_state session here)) n)) exchange
  commands-same n exchange h =
      let P : Session → Type 0 = λ state. IsIn (commands_in (numbered (all_of state) n)) exchange in
      subst P (sym session_state-same) h

  -- each answer follows its line
  pub follow-same : AnswersFollow there → (k : ℕ) (given : Outcome) (position : ℕ) → StandsAt (answers session here) k (given, position) →
      (command : Command) × (line : ℕ) × StandsAt (questions session here) k (command, line) × (line < position)
  follow-same follow k given position h =
      let P : List (Outcome × ℕ) → Type 0 = λ list. StandsAt list k (given, position) in
      let Q : List (Command × ℕ) → Type 0 = λ list. (command : Command) × (line : ℕ) × StandsAt list k (command, line) × (line < position) in
      subst Q (sym asked) (follow session k given position (subst P answered h))

  -- each outcome fits its turn
  pub fit-same : AnswersFitTurns there → (k : ℕ) (exchange : Exchange) (given : Outcome) → StandsAt (exchanges session here) k exchange → outcome_of exchange ≡ Some given →
      FitsTurn (session_after (take k (exchanges session here))) exchange.command given
  fit-same fit k exchange given h is =
      let P : List Exchange → Type 0 = λ list. StandsAt list k exchange → FitsTurn (session_after (take k list)) exchange.command given in
      subst P (sym exchanges-same) (λ at. fit session k exchange given at is) h

  -- every line has its answer
  pub answered-same : EveryLineAnswered there → (k : ℕ) (exchange : Exchange) → StandsAt (exchanges session here) k exchange → IsSome (outcome_of exchange)
  answered-same every k exchange h =
      let P : List Exchange → Type 0 = λ list. StandsAt list k exchange in
      every.answered session k exchange (subst P exchanges-same h)
