-- Questions, answers and exchanges of a transcript with one more entry.
use Rattle.std.proofs.Common.{◌≡◌, ℕ, suc, ◌+◌, ◌≤◌, List, [], ◌∷◌, ◌++◌, length, refl, sym, ◌∙◌, ap, arith, append_assoc}
use Rattle.std.proofs.lemmas.List.{append-nil}
use Rattle.cl_types.specs.declared.operations.Command.{Command}
use Rattle.cl_types.specs.declared.answers.Outcome.{Outcome}
use Rattle.cl_serial.specs.Transcript.{TranscriptEntry, fed, written, gather, fed_line, fed_lines}
use Rattle.cl_lines.specs.declared.out.Out.{Out}
use Rattle.cl_serial.specs.Laws.{with_first_answered}
use Rattle.cl_serial.specs.Exchanges.{unanswered, answered, pair_up, in_turn}

-- what is gathered of two lists of entries, one behind the other
pub gather-append : {A : Type 0} (pick : ℕ → TranscriptEntry → List A) (position : ℕ) (xs ys : List TranscriptEntry) → gather pick position (xs ++ ys) ≡ gather pick position xs ++ gather pick (position + length xs) ys
unfolding gather
gather-append pick position [] ys = ap (λ n. gather pick n ys) (omega arith)
gather-append pick position (x ∷ xs) ys =
    ap (λ more. pick position x ++ more) (gather-append pick (suc position) xs ys ∙ ap (λ n. gather pick (suc position) xs ++ gather pick n ys) (omega arith))
    ∙ sym (append_assoc (pick position x) (gather pick (suc position) xs) (gather pick (position + length (x ∷ xs)) ys))

-- one more entry
pub gather-push : {A : Type 0} (pick : ℕ → TranscriptEntry → List A) (xs : List TranscriptEntry) (y : TranscriptEntry) → gather pick 0 (xs ++ y ∷ []) ≡ gather pick 0 xs ++ pick (length xs) y
unfolding gather
gather-push pick xs y = gather-append pick 0 xs (y ∷ []) ∙ ap (λ more. gather pick 0 xs ++ more) (append-nil (pick (0 + length xs) y) ∙ ap (λ n. pick n y) (omega arith))

-- a line adds an exchange without an answer
pub pair_up-asked : (asked : List (Command × ℕ)) (given : List (Outcome × ℕ)) (one : Command × ℕ) → length given ≤ length asked → pair_up (asked ++ one ∷ []) given ≡ pair_up asked given ++ unanswered one ∷ []
unfolding pair_up
pair_up-asked [] [] one h = refl
pair_up-asked [] (a ∷ given) one h = absurd (omega arith)
pair_up-asked (q ∷ asked) [] one h = ap (λ more. unanswered q ∷ more) (pair_up-asked asked [] one (omega arith))
pair_up-asked (q ∷ asked) (a ∷ given) one h = ap (λ more. answered q a ∷ more) (pair_up-asked asked given one (omega arith))

-- an answer fills the first exchange that lacks one
pub pair_up-answered : (asked : List (Command × ℕ)) (given : List (Outcome × ℕ)) (one : Outcome × ℕ) → pair_up asked (given ++ one ∷ []) ≡ with_first_answered one (pair_up asked given)
unfolding pair_up
pair_up-answered [] given one = refl
pair_up-answered (q ∷ asked) [] one = refl
pair_up-answered (q ∷ asked) (a ∷ given) one = ap (λ more. answered q a ∷ more) (pair_up-answered asked given one)

-- a line and its answer, where every line before has its answer
pub pair_up-both : (asked : List (Command × ℕ)) (given : List (Outcome × ℕ)) (q : Command × ℕ) (a : Outcome × ℕ) → length asked ≡ length given → pair_up (asked ++ q ∷ []) (given ++ a ∷ []) ≡ pair_up asked given ++ answered q a ∷ []
unfolding pair_up
pair_up-both [] [] q a h = refl
pair_up-both [] (b ∷ given) q a h = absurd (omega arith)
pair_up-both (p ∷ asked) [] q a h = absurd (omega arith)
pair_up-both (p ∷ asked) (b ∷ given) q a h = ap (λ more. answered p b ∷ more) (pair_up-both asked given q a (omega arith))

pub length-pair_up : (asked : List (Command × ℕ)) (given : List (Outcome × ℕ)) → length (pair_up asked given) ≡ length asked
unfolding pair_up
length-pair_up [] given = refl
length-pair_up (q ∷ asked) [] = ap suc (length-pair_up asked [])
length-pair_up (q ∷ asked) (a ∷ given) = ap suc (length-pair_up asked given)

-- where each line has its answer, the turn of each has come
pub in_turn-pair_up : (asked : List (Command × ℕ)) (given : List (Outcome × ℕ)) → length asked ≡ length given → in_turn (pair_up asked given) ≡ pair_up asked given
unfolding pair_up in_turn
in_turn-pair_up [] given h = refl
in_turn-pair_up (q ∷ asked) [] h = absurd (omega arith)
in_turn-pair_up (q ∷ asked) (a ∷ given) h = ap (λ more. answered q a ∷ more) (in_turn-pair_up asked given (omega arith))

-- the lines that were fed, with one more
pub fed_lines-fed : (transcript : List TranscriptEntry) (number : ℕ) (text : List ℕ) → fed_lines (transcript ++ fed number text ∷ []) ≡ fed_lines transcript ++ (number, text) ∷ []
fed_lines-fed transcript number text = gather-push fed_line transcript (fed number text)

-- what is written feeds no line
pub fed_lines-written : (transcript : List TranscriptEntry) (out : Out) → fed_lines (transcript ++ written out ∷ []) ≡ fed_lines transcript
fed_lines-written transcript out = gather-push fed_line transcript (written out) ∙ append-nil (fed_lines transcript)
