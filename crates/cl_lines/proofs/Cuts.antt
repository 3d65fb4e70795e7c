-- Cutting off the first word of a line.
use Rattle.std.proofs.Common.{◌≡◌, ℕ, ◌+◌, ◌≤◌, Bool, true, false, cond, ◌==◌, ltb, List, [], ◌∷◌, length, take, drop, position, Some, None, refl, subst, arith}
use Rattle.std.specs.List.{position_or_len}
use Rattle.std.proofs.lemmas.Bool.{ltb-true, ltb-false}
use Rattle.std.proofs.lemmas.Option.{cond_some}
use Rattle.std.proofs.lemmas.List.Elements.{All-from_get_or}
use Rattle.std.proofs.lemmas.List.Splits.{slice_split_first, slice_split_none}
use Rattle.std.proofs.lemmas.List.Sums.{fails_before_first}
use Rattle.cl_lines.specs.Words.{words}

abbrev pub is_blank : ℕ → Bool
is_blank byte = byte == 32

-- the first word ends at the first blank
pub words_at : (line : List ℕ) (blank : ℕ) → position is_blank line ≡ Some blank → words line ≡ take blank line ∷ words (drop (blank + 1) line)
unfolding words
words_at line blank at =
    let place = position_or_len is_blank line in
    let found = cond_some (ltb place (length line)) place blank at in
    let P : ℕ → Type 0 = λ n. words line ≡ take n line ∷ words (drop (n + 1) line) in
    subst P found.1 (slice_split_first is_blank line 0 (ltb-true _ _ found.0))

cond_none : (b : Bool) (x : ℕ) → cond b (Some x) None ≡ None → b ≡ false
cond_none true x e = absurd cc
cond_none false x e = refl

-- without a blank the line is one word
pub words_without_blank : (line : List ℕ) → position is_blank line ≡ None → words line ≡ line ∷ []
unfolding words
words_without_blank line none =
    let place = position_or_len is_blank line in
    let past : length line ≤ place = ltb-false _ _ (cond_none (ltb place (length line)) place none) in
    slice_split_none is_blank line (All-from_get_or (λ byte. is_blank byte ≡ false) line 0 (λ i within. fails_before_first is_blank line i 0 (omega arith)))
