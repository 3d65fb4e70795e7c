-- Where the commands and the answers of a session stand in a transcript.
use Rattle.std.proofs.Common.{◌≡◌, ℕ, suc, ◌+◌, ◌<◌, ◌≤◌, Bool, true, false, if◌then◌else◌, nat_eq, List, [], ◌∷◌, ◌++◌, length, Option, Some, None, refl, ◌∙◌, ap, subst, arith}
use Rattle.std.proofs.lemmas.Bool.{eqb-true}
use Rattle.cl_lines.specs.Line.{client_of}
use Rattle.cl_lines.specs.declared.out.Out.{Out}
use Rattle.cl_lines.specs.declared.out.Out.TheVariants.{Answer, BadLine}
use Rattle.cl_lines.proofs.Readings.{client_of-session}
use Rattle.cl_serial.specs.Transcript.{TranscriptEntry, fed, written, quiet, gather, asked_in, answered_in, command_in, outcome_in, questions}
use Rattle.cl_shown.proofs.Answered.{AreRising, AreBelow}
use Rattle.cl_types.specs.declared.limits.TheConstants.{SESSIONS_MAX}
use Rattle.cl_types.specs.declared.answers.Outcome.{Outcome}
use Rattle.cl_types.specs.declared.operations.Command.{Command}

-- ---- rising

rising_down : (list : List (Command × ℕ)) (floor higher : ℕ) → floor ≤ higher → AreRising higher list → AreRising floor list
rising_down [] floor higher le h = tt
rising_down (one ∷ list) floor higher le h = (omega (arith, le, h.0), h.1)

rising_one : (position : ℕ) (command : Command) (rest : List (Command × ℕ)) (own : Bool) → AreRising (suc position) rest →
    AreRising position ((if own then (command, position) ∷ [] else []) ++ rest)
rising_one position command rest true h = (omega arith, h)
rising_one position command rest false h = rising_down rest position (suc position) (omega arith) h

rising_asked : (s position : ℕ) (line : Option (ℕ × Command)) (rest : List (Command × ℕ)) → AreRising (suc position) rest →
    AreRising position (command_in s position line ++ rest)
rising_asked s position None rest h = rising_down rest position (suc position) (omega arith) h
rising_asked s position (Some line) rest h = rising_one position line.1 rest (nat_eq line.0 s) h

-- the commands stand in rising order
pub questions_rise : (s position : ℕ) (transcript : List TranscriptEntry) → AreRising position (gather (asked_in s) position transcript)
unfolding gather
questions_rise s position [] = tt
questions_rise s position (fed number text ∷ rest) =
    rising_asked s position (client_of text) (gather (asked_in s) (suc position) rest) (questions_rise s (suc position) rest)
questions_rise s position (written out ∷ rest) =
    rising_down (gather (asked_in s) (suc position) rest) position (suc position) (omega arith) (questions_rise s (suc position) rest)
questions_rise s position (quiet ∷ rest) =
    rising_down (gather (asked_in s) (suc position) rest) position (suc position) (omega arith) (questions_rise s (suc position) rest)

-- ---- within the transcript

below_one : {A : Type 0} (size position : ℕ) (item : A) (rest : List (A × ℕ)) (own : Bool) → position < size → AreBelow size rest →
    AreBelow size ((if own then (item, position) ∷ [] else []) ++ rest)
below_one size position item rest true within h = (within, h)
below_one size position item rest false within h = h

below_asked : (s size position : ℕ) (line : Option (ℕ × Command)) (rest : List (Command × ℕ)) → position < size → AreBelow size rest →
    AreBelow size (command_in s position line ++ rest)
below_asked s size position None rest within h = h
below_asked s size position (Some line) rest within h = below_one size position line.1 rest (nat_eq line.0 s) within h

-- the commands stand within the transcript
pub questions_within : (s size position : ℕ) (transcript : List TranscriptEntry) → position + length transcript ≤ size →
    AreBelow size (gather (asked_in s) position transcript)
unfolding gather
questions_within s size position [] few = tt
questions_within s size position (fed number text ∷ rest) few =
    below_asked s size position (client_of text) (gather (asked_in s) (suc position) rest) (omega (arith, few))
    (questions_within s size (suc position) rest (omega (arith, few)))
questions_within s size position (written out ∷ rest) few = questions_within s size (suc position) rest (omega (arith, few))
questions_within s size position (quiet ∷ rest) few = questions_within s size (suc position) rest (omega (arith, few))

below_answered : (s size position : ℕ) (out : Out) (rest : List (Outcome × ℕ)) → position < size → AreBelow size rest →
    AreBelow size (outcome_in s position out ++ rest)
below_answered s size position (Answer other outcome) rest within h = below_one size position outcome rest (nat_eq other s) within h
below_answered s size position (BadLine line fault) rest within h = h

-- so do the answers
pub answers_within : (s size position : ℕ) (transcript : List TranscriptEntry) → position + length transcript ≤ size →
    AreBelow size (gather (answered_in s) position transcript)
unfolding gather
answers_within s size position [] few = tt
answers_within s size position (fed number text ∷ rest) few = answers_within s size (suc position) rest (omega (arith, few))
answers_within s size position (written out ∷ rest) few =
    below_answered s size position out (gather (answered_in s) (suc position) rest) (omega (arith, few))
    (answers_within s size (suc position) rest (omega (arith, few)))
answers_within s size position (quiet ∷ rest) few = answers_within s size (suc position) rest (omega (arith, few))

-- ---- no session but 1 to SESSIONS_MAX asks anything

module _ (s : ℕ) (none : (1 ≤ s) × (s ≤ SESSIONS_MAX) → ⊥) where
  -- the command where it is the session's
  abbrev asked_if : ℕ → Command → Bool → List (Command × ℕ)
  asked_if position command own = if own then (command, position) ∷ [] else []

  not_asked_by : (text : List ℕ) (position n : ℕ) (command : Command) → client_of text ≡ Some (n, command) → (own : Bool) → nat_eq n s ≡ own →
      asked_if position command own ≡ []
  not_asked_by text position n command reads true own =
      absurd (none (subst (λ k. (1 ≤ k) × (k ≤ SESSIONS_MAX)) (eqb-true n s own) (client_of-session text n command reads)))
  not_asked_by text position n command reads false own = refl

  not_asked : (text : List ℕ) (position : ℕ) (line : Option (ℕ × Command)) → client_of text ≡ line → command_in s position line ≡ []
  not_asked text position None reads = refl
  not_asked text position (Some line) reads = not_asked_by text position line.0 line.1 reads (nat_eq line.0 s) refl

  none_gathered : (position : ℕ) (transcript : List TranscriptEntry) → gather (asked_in s) position transcript ≡ []
  unfolding gather
  none_gathered position [] = refl
  none_gathered position (fed number text ∷ rest) =
      ap (λ list. list ++ gather (asked_in s) (suc position) rest) (not_asked text position (client_of text) refl) ∙ none_gathered (suc position) rest
  none_gathered position (written out ∷ rest) = none_gathered (suc position) rest
  none_gathered position (quiet ∷ rest) = none_gathered (suc position) rest

  pub no_questions : (transcript : List TranscriptEntry) → questions s transcript ≡ []
  no_questions transcript = none_gathered 0 transcript
