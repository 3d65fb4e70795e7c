-- Which sessions wait for an answer.
use Rattle.std.proofs.Common.{◌≡◌, ℕ, suc, ◌+◌, ◌==◌, nat_lt, cond, Bool, true, false, List, [], ◌∷◌, ◌++◌, length, map, count_by, Option, Some, None, refl, sym, ap, ◌∙◌, arith}
use Rattle.std.specs.List.{filter, flat_map, range_with_len}
use Rattle.std.specs.Option.{option_map, option_map_or, option_to_list}
use Rattle.std.proofs.lemmas.Bool.{eqb-true}
use Rattle.std.proofs.lemmas.Grind.{flat_map-append}
use Rattle.std.proofs.lemmas.List.{append-nil, append_assoc, length-append, map-id}
use Rattle.std.proofs.lemmas.List.Elements.{filter-append}
use Rattle.std.proofs.lemmas.List.FromFn.{map-range_with_len_more}
use Rattle.std.proofs.lemmas.List.Sums.{sum_by-append, sum_by-cons}
use Rattle.cl_lines.specs.Line.{client_of}
use Rattle.cl_lines.specs.declared.out.Out.{Out}
use Rattle.cl_lines.specs.declared.out.Out.TheVariants.{Answer, BadLine}
use Rattle.cl_serial.specs.Bytes.{kept_line, whole_lines}
use Rattle.cl_serial.specs.Transcript.{TranscriptEntry, answered_in, answers, fed, full_text, gather, outcome_in, quiet, transcript_entry, transcript_of, written}
use Rattle.cl_serial.specs.declared.transcript.Said.{Said}
use Rattle.cl_types.specs.AppendOnlyList.{entries}
use Rattle.cl_types.specs.declared.append_only_list.AppendOnlyList.{AppendOnlyList}
use Rattle.cl_types.specs.declared.operations.Command.{Command}
use Rattle.cl_types.specs.declared.limits.TheConstants.{SESSIONS_MAX}
use Rattle.clustra.specs.Counting.{is_answer_to, is_out_to, pending_until, session_in, sessions_in}
use Rattle.clustra.specs.Pending.{is_line_of, pending_line, pending_text}
use Rattle.clustra.specs.Run.{full_text_with}

count-cons : {X : Type 0} (p : X → Bool) (x : X) (xs : List X) → count_by p (x ∷ xs) ≡ cond (p x) 1 0 + count_by p xs
count-cons p x xs = sum_by-cons (λ y. cond (p y) 1 0) x xs

count-append : {X : Type 0} (p : X → Bool) (xs ys : List X) → count_by p (xs ++ ys) ≡ count_by p xs + count_by p ys
count-append p xs ys = sum_by-append (λ y. cond (p y) 1 0) xs ys

count-map : {X Y : Type 0} (p : Y → Bool) (f : X → Y) (xs : List X) → count_by (λ x. p (f x)) xs ≡ count_by p (map f xs)
count-map p f [] = refl
count-map p f (x ∷ xs) = count-cons (λ y. p (f y)) x xs ∙ ap (λ n. cond (p (f x)) 1 0 + n) (count-map p f xs) ∙ sym (count-cons p (f x) (map f xs))

-- answers

one_answer : {X : Type 0} (b : Bool) (x : X) → length (cond b (x ∷ []) []) ≡ cond b 1 0
one_answer true x = refl
one_answer false x = refl

out_answers : (session position : ℕ) (out : Out) → length (outcome_in session position out) ≡ cond (is_out_to session out) 1 0
out_answers session position (Answer other outcome) = one_answer (other == session) (outcome, position)
out_answers session position (BadLine line fault) = refl

entry_answers : (session position : ℕ) (entry : TranscriptEntry) → length (answered_in session position entry) ≡ cond (is_answer_to session entry) 1 0
entry_answers session position (fed number text) = refl
entry_answers session position (written out) = out_answers session position out
entry_answers session position quiet = refl

answers_from : (session position : ℕ) (list : List TranscriptEntry) → length (gather (answered_in session) position list) ≡ count_by (is_answer_to session) list
unfolding gather
answers_from session position [] = refl
answers_from session position (entry ∷ rest) =
    length-append (answered_in session position entry) (gather (answered_in session) (suc position) rest)
    ∙ ap (λ n. n + length (gather (answered_in session) (suc position) rest)) (entry_answers session position entry)
    ∙ ap (λ n. cond (is_answer_to session entry) 1 0 + n) (answers_from session (suc position) rest)
    ∙ sym (count-cons (is_answer_to session) entry rest)

-- the answers of a session are counted
answers_counted : (session : ℕ) (transcript : AppendOnlyList Said) → count_by (λ said. is_answer_to session (transcript_entry said))
    (entries transcript) ≡ length (answers session (transcript_of transcript))
answers_counted session transcript = count-map (is_answer_to session) transcript_entry (entries transcript) ∙ sym (answers_from session 0 (transcript_of transcript))

-- lines

one_line : (session : ℕ) (line : Option (ℕ × Command)) → count_by (λ other. other == session)
    (option_to_list (option_map (λ (l : ℕ × Command). l.0) line)) ≡ cond (option_map_or (λ (l : ℕ × Command). l.0 == session) line false) 1 0
one_line session None = refl
one_line session (Some line) = count-cons (λ other. other == session) line.0 [] ∙ omega arith

-- the lines of a session are counted
lines_counted : (session : ℕ) (lines : List (List ℕ)) → count_by (λ other. other == session) (sessions_in lines) ≡ count_by (is_line_of session) lines
lines_counted session [] = refl
lines_counted session (text ∷ lines) =
    count-append (λ other. other == session) (option_to_list (session_in text)) (sessions_in lines)
    ∙ ap (λ n. n + count_by (λ other. other == session) (sessions_in lines)) (one_line session (client_of text))
    ∙ ap (λ n. cond (is_line_of session text) 1 0 + n) (lines_counted session lines)
    ∙ sym (count-cons (is_line_of session) text lines)

-- one session more

abbrev pub is_waiting : List (List ℕ) → List TranscriptEntry → ℕ → Bool
is_waiting lines transcript session = nat_lt (length (answers session transcript)) (count_by (is_line_of session) lines)

range_more : (n : ℕ) → range_with_len 1 (n + 1) ≡ range_with_len 1 n ++ (n + 1) ∷ []
range_more n =
    let number : 1 + n ≡ n + 1 = omega arith in
    sym (map-id (range_with_len 1 (n + 1))) ∙ map-range_with_len_more (λ x. x) 1 n (n + 1) number ∙ ap (λ front. front ++ (n + 1) ∷ []) (map-id (range_with_len 1 n))

one_pending : (b : Bool) (session : ℕ) → flat_map pending_line (cond b (session ∷ []) []) ≡ cond b (pending_line session) []
one_pending true session = append-nil (pending_line session)
one_pending false session = refl

pending_more : (lines : List (List ℕ)) (transcript : List TranscriptEntry) (n : ℕ) →
    pending_until lines transcript (n + 1) ≡ pending_until lines transcript n ++ cond (is_waiting lines transcript (n + 1)) (pending_line (n + 1)) []
pending_more lines transcript n =
    let waits : ℕ → Bool = is_waiting lines transcript in
    ap (λ list. flat_map pending_line (filter waits list)) (range_more n)
    ∙ ap (flat_map pending_line) (filter-append waits (range_with_len 1 n) ((n + 1) ∷ []))
    ∙ flat_map-append pending_line (filter waits (range_with_len 1 n)) (filter waits ((n + 1) ∷ []))
    ∙ ap (λ last. pending_until lines transcript n ++ last) (one_pending (waits (n + 1)) (n + 1))

module _ (lines : List (List ℕ)) (transcript : AppendOnlyList Said) (sessions start text text' : List ℕ) (index : ℕ) (b : Bool)
    (all : sessions ≡ sessions_in lines) (so_far : text ≡ start ++ pending_until lines (transcript_of transcript) index)
    (waits : b ≡ nat_lt (count_by (λ said. is_answer_to (index + 1) (transcript_entry said)) (entries transcript))
    (count_by (λ other. other == index + 1) sessions)) where
  test : b ≡ is_waiting lines (transcript_of transcript) (index + 1)
  test =
      waits
      ∙ ap (λ n. nat_lt n (count_by (λ other. other == index + 1) sessions)) (answers_counted (index + 1) transcript)
      ∙ ap (λ (s : List ℕ). nat_lt (length (answers (index + 1) (transcript_of transcript))) (count_by (λ other. other == index + 1) s)) all
      ∙ ap (λ n. nat_lt (length (answers (index + 1) (transcript_of transcript))) n) (lines_counted (index + 1) lines)

  next : text' ≡ text ++ cond b (pending_line (index + 1)) [] → text' ≡ start ++ pending_until lines (transcript_of transcript) (index + 1)
  next grown =
      grown
      ∙ ap (λ front. front ++ cond b (pending_line (index + 1)) []) so_far
      ∙ append_assoc start (pending_until lines (transcript_of transcript) index) (cond b (pending_line (index + 1)) [])
      ∙ ap (λ rest. start ++ rest) (ap (λ t. pending_until lines (transcript_of transcript) index ++ cond t (pending_line (index + 1)) []) test
      ∙ sym (pending_more lines (transcript_of transcript) index))

  -- it waits, and its line was written
  pub next_waits : b ≡ true → text' ≡ text ++ pending_line (index + 1) → text' ≡ start ++ pending_until lines (transcript_of transcript) (index + 1)
  next_waits is grown = next (grown ∙ ap (λ t. text ++ cond t (pending_line (index + 1)) []) (sym is))

  -- it does not wait
  pub next_answered : b ≡ false → text' ≡ text → text' ≡ start ++ pending_until lines (transcript_of transcript) (index + 1)
  next_answered is grown = next (grown ∙ sym (append-nil text) ∙ ap (λ t. text ++ cond t (pending_line (index + 1)) []) (sym is))

-- the sessions of one line more
pub sessions_more : (lines : List (List ℕ)) (line : List ℕ) → sessions_in (lines ++ line ∷ []) ≡ sessions_in lines ++ option_to_list (session_in line)
sessions_more lines line =
    flat_map-append (λ text. option_to_list (session_in text)) lines (line ∷ [])
    ∙ ap (λ last. sessions_in lines ++ last) (append-nil (option_to_list (session_in line)))

-- the lines of all sessions
pub pending_end : (lines : List (List ℕ)) (transcript : List TranscriptEntry) (start text : List ℕ) (n : ℕ) → n ≡ SESSIONS_MAX →
    text ≡ start ++ pending_until lines transcript n → text ≡ start ++ pending_text lines transcript
pending_end lines transcript start text n all so_far = so_far ∙ ap (λ k. start ++ pending_until lines transcript k) all

-- the full text of a run

pub text_waiting : (lines : List (List ℕ)) (transcript : List TranscriptEntry) (unfinished : Bool) (first text : List ℕ) → first ≡ full_text transcript →
    unfinished ≡ true → text ≡ first ++ pending_text lines transcript → text ≡ full_text_with lines transcript unfinished
text_waiting lines transcript unfinished first text is waits grown =
    grown ∙ ap (λ front. front ++ pending_text lines transcript) is ∙ ap (full_text_with lines transcript) (sym waits)

pub text_answered : (lines : List (List ℕ)) (transcript : List TranscriptEntry) (unfinished : Bool) (first text : List ℕ) → first ≡ full_text transcript →
    unfinished ≡ false → text ≡ first → text ≡ full_text_with lines transcript unfinished
text_answered lines transcript unfinished first text is waits same =
    same ∙ is ∙ sym (append-nil (full_text transcript)) ∙ ap (full_text_with lines transcript) (sym waits)

-- no bytes are left to split
pub lines_end : (front all : List (List ℕ)) (rest : List ℕ) → true ≡ (length rest == 0) → front ++ map kept_line (whole_lines rest) ≡ all → front ≡ all
unfolding whole_lines
lines_end front all [] none so_far = sym (append-nil front) ∙ so_far
lines_end front all (byte ∷ rest) none so_far = let no' = eqb-true (length (byte ∷ rest)) 0 (sym none) in absurd (omega (arith, no'))
