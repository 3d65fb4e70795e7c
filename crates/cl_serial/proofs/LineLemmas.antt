-- The first line of some bytes, and how many lines there are.
use Rattle.std.proofs.Common.{◌≡◌, ◌≢◌, ℕ, zero, suc, ◌+◌, ◌-◌, ◌<◌, inl, inr, Bool, true, false, not, ◌==◌, List, [], ◌∷◌, ◌++◌, length, take, drop, get_or, refl, ◌∙◌, ap, arith, nat_eq, if◌then◌else◌}
use Rattle.std.proofs.lemmas.Bool.{eq-eqb}
use Rattle.std.proofs.lemmas.Bool.Decides.{eqb_tells}
use Rattle.std.specs.List.{count_by}
use Rattle.std.proofs.lemmas.List.Sums.{sum_by-cons}
use Rattle.std.specs.List.{onto_first}
use Rattle.cl_serial.specs.Bytes.{whole_lines}

unequal : (a b : ℕ) → a ≢ b → nat_eq a b ≡ false
unequal a b differ = elim (eqb_tells a b) [ inl same ↦ absurd (differ same.1) | inr apart ↦ apart.0 ]

whole_lines-newline : (byte : ℕ) (bytes : List ℕ) → byte ≡ 10 → whole_lines (byte ∷ bytes) ≡ [] ∷ whole_lines bytes
unfolding whole_lines
whole_lines-newline byte bytes is = ap (λ b. if b then [] ∷ whole_lines bytes else onto_first byte (whole_lines bytes)) (eq-eqb byte 10 is)

whole_lines-other : (byte : ℕ) (bytes : List ℕ) → byte ≢ 10 → whole_lines (byte ∷ bytes) ≡ onto_first byte (whole_lines bytes)
unfolding whole_lines
whole_lines-other byte bytes other = ap (λ b. if b then [] ∷ whole_lines bytes else onto_first byte (whole_lines bytes)) (unequal byte 10 other)

-- the first line ends at the first newline
pub whole_lines-first : (bytes : List ℕ) (i : ℕ) → i < length bytes → ((k : ℕ) → k < i → get_or bytes k 0 ≢ 10) → get_or bytes i 0 ≡ 10 → whole_lines bytes ≡ take i bytes ∷ whole_lines (drop (suc i) bytes)
whole_lines-first [] i below before here = absurd (omega arith)
whole_lines-first (byte ∷ bytes) zero below before here = whole_lines-newline byte bytes here
whole_lines-first (byte ∷ bytes) (suc i) below before here =
    whole_lines-other byte bytes (before 0 (omega arith))
    ∙ ap (onto_first byte) (whole_lines-first bytes i (omega arith) (λ k h. before (suc k) (omega arith)) here)

-- bytes without a newline are one line
pub whole_lines-last : (bytes : List ℕ) → 0 < length bytes → ((k : ℕ) → k < length bytes → get_or bytes k 0 ≢ 10) → whole_lines bytes ≡ bytes ∷ []
unfolding whole_lines
whole_lines-last [] some none = absurd (omega arith)
whole_lines-last (byte ∷ []) some none = whole_lines-other byte [] (none 0 (omega arith))
whole_lines-last (byte ∷ c ∷ bytes) some none =
    whole_lines-other byte (c ∷ bytes) (none 0 (omega arith))
    ∙ ap (onto_first byte) (whole_lines-last (c ∷ bytes) (omega arith) (λ k h. none (suc k) (omega arith)))

-- whether the bytes end within a line
abbrev pub ends_within : List ℕ → Bool
ends_within [] = false
ends_within (byte ∷ []) = not (byte == 10)
ends_within (byte ∷ c ∷ bytes) = ends_within (c ∷ bytes)

-- how many newlines
abbrev pub newlines : List ℕ → ℕ
newlines bytes = count_by (λ byte. byte == 10) bytes

abbrev pub one_if : Bool → ℕ
one_if test = if test then 1 else 0

newlines-cons : (byte : ℕ) (bytes : List ℕ) → newlines (byte ∷ bytes) ≡ one_if (byte == 10) + newlines bytes
newlines-cons byte bytes = sum_by-cons (λ b. one_if (b == 10)) byte bytes

length-onto_first : (byte : ℕ) (lines : List (List ℕ)) → 0 < length lines → length (onto_first byte lines) ≡ length lines
length-onto_first byte [] h = absurd (omega arith)
length-onto_first byte (line ∷ lines) h = refl

-- there is a line where there is a byte
some_lines : (byte : ℕ) (bytes : List ℕ) → 0 < length (whole_lines (byte ∷ bytes))
unfolding whole_lines
some_lines byte bytes = by_test (byte == 10) (whole_lines bytes)
  where
    by_test : (newline : Bool) (lines : List (List ℕ)) → 0 < length (if newline then [] ∷ lines else onto_first byte lines)
    by_test true lines = omega arith
    by_test false [] = omega arith
    by_test false (line ∷ lines) = omega arith

one_more_line : (newline : Bool) (byte : ℕ) (lines : List (List ℕ)) → 0 < length lines → length (if newline then [] ∷ lines else onto_first byte lines) ≡ one_if newline + length lines
one_more_line true byte lines some = omega arith
one_more_line false byte lines some = omega (arith, length-onto_first byte lines some)

one_byte : (newline : Bool) (byte : ℕ) → length (if newline then [] ∷ [] else onto_first byte []) ≡ one_if newline + 0 + one_if (not newline)
one_byte true byte = refl
one_byte false byte = refl

-- how many lines there are: one for each newline, and one more where the bytes end within a line
pub length-whole_lines : (bytes : List ℕ) → length (whole_lines bytes) ≡ newlines bytes + one_if (ends_within bytes)
unfolding whole_lines
length-whole_lines [] = refl
length-whole_lines (byte ∷ []) = omega (arith, one_byte (byte == 10) byte, newlines-cons byte [])
length-whole_lines (byte ∷ c ∷ bytes) =
    omega (arith, one_more_line (byte == 10) byte (whole_lines (c ∷ bytes)) (some_lines c bytes), length-whole_lines (c ∷ bytes), newlines-cons byte (c ∷ bytes))

-- the newlines of two pieces
pub newlines-append : (xs ys : List ℕ) → newlines (xs ++ ys) ≡ newlines xs + newlines ys
newlines-append [] ys = omega arith
newlines-append (x ∷ xs) ys = omega (arith, newlines-append xs ys, newlines-cons x (xs ++ ys), newlines-cons x xs)

-- how the bytes end is how their last piece ends
pub ends_within-append : (xs : List ℕ) (y : ℕ) (ys : List ℕ) → ends_within (xs ++ y ∷ ys) ≡ ends_within (y ∷ ys)
ends_within-append [] y ys = refl
ends_within-append (x ∷ []) y ys = refl
ends_within-append (x ∷ z ∷ xs) y ys = ends_within-append (z ∷ xs) y ys

-- how a piece ends is its last byte
pub ends_within-last : (xs : List ℕ) (y : ℕ) → ends_within (xs ++ y ∷ []) ≡ not (y == 10)
ends_within-last xs y = ends_within-append xs y []

ends_within-at : (xs : List ℕ) → 0 < length xs → ends_within xs ≡ not (get_or xs (length xs - 1) 0 == 10)
ends_within-at [] some = absurd (omega arith)
ends_within-at (x ∷ []) some = refl
ends_within-at (x ∷ y ∷ xs) some = ends_within-at (y ∷ xs) (omega arith) ∙ ap (λ k. not (get_or (x ∷ y ∷ xs) k 0 == 10)) (index (length xs))
  where
    index : (n : ℕ) → suc (suc n - 1) ≡ suc (suc n) - 1
    index n = omega arith

-- how many lines there are, where a piece with a byte is the last
pub length-whole_lines_append : (xs ys : List ℕ) → 0 < length ys → length (whole_lines (xs ++ ys)) ≡ newlines xs + newlines ys + one_if (not (get_or ys (length ys - 1) 0 == 10))
length-whole_lines_append xs [] some = absurd (omega arith)
length-whole_lines_append xs (y ∷ ys) some =
    length-whole_lines (xs ++ y ∷ ys)
    ∙ ap (λ n. n + one_if (ends_within (xs ++ y ∷ ys))) (newlines-append xs (y ∷ ys))
    ∙ ap (λ test. newlines xs + newlines (y ∷ ys) + one_if test) (ends_within-append xs y ys ∙ ends_within-at (y ∷ ys) some)
