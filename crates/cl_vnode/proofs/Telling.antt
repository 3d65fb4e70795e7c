-- What became safe, number by number.
use Rattle.std.proofs.Common.{◌≡◌, ◌≢◌, ℕ, ◌+◌, ◌<◌, ◌≤◌, max, nat_lt, nat_le, Bool, true, false, ◌&&◌, cond, List, [], ◌∷◌, ◌++◌, length, fold, Option, Some, None, option_map, refl, sym, ◌∙◌, ap, arith, inl, inr}
use Rattle.std.proofs.lemmas.Bool.{lt-ltb, le-ltb, le-leb, lt-leb, eq-eqb, ne_eqb, cond-true, cond-false, and_left, and_right, and_from, cases_lt, cases_order}
use Rattle.std.proofs.lemmas.List.Sums.{fold-append}
use Rattle.cl_log.specs.declared.records.LogRec.{LogRec}
use Rattle.cl_log.specs.LogEntry.{LogEntry, IsNumberedFrom, content_at}
use Rattle.cl_vnode.specs.Sending.{found_at, told_at}
use Rattle.cl_vnode.specs.Step.{Stepped, entry_told, entries_between, entries_from}

-- ---- the entries between two numbers

-- an entry is between them
abbrev is_between : ℕ → ℕ → LogEntry → Bool
is_between old new entry = nat_lt old entry.number && nat_le entry.number new

between_keeps : (old new : ℕ) (entry : LogEntry) (rest : List LogEntry) → is_between old new entry ≡ true → entries_between old new (entry ∷ rest) ≡ entry ∷ entries_between old new rest
between_keeps old new entry rest is = cond-true _ _ _ is

between_drops : (old new : ℕ) (entry : LogEntry) (rest : List LogEntry) → is_between old new entry ≡ false → entries_between old new (entry ∷ rest) ≡ entries_between old new rest
between_drops old new entry rest is = cond-false _ _ _ is

pub none_between : (old new : ℕ) (log : List LogEntry) → new ≤ old → entries_between old new log ≡ []
none_between old new [] empty = refl
none_between old new (entry ∷ rest) empty =
    between_drops old new entry rest (elim (cases_lt old entry.number) [
      | inl later ↦ and_right _ _ (lt-leb entry.number new (omega (arith, later, empty)))
      | inr before ↦ and_left _ _ (le-ltb old entry.number before)
    ])
    ∙ none_between old new rest empty

none_after : (old new n : ℕ) (log : List LogEntry) → IsNumberedFrom n log → new < n → entries_between old new log ≡ []
none_after old new n [] numbered after = refl
none_after old new n (entry ∷ rest) numbered after =
    let first = numbered.0 in
    between_drops old new entry rest (and_right _ _ (lt-leb entry.number new (omega (arith, first, after))))
    ∙ none_after old new (n + 1) rest numbered.1 (omega (arith, after))

-- ---- the record of a number

content_here : (entry : LogEntry) (rest : List LogEntry) (number : ℕ) → entry.number ≡ number → content_at (entry ∷ rest) number ≡ Some entry.content
unfolding content_at
content_here entry rest number is = ap (option_map (λ (e : LogEntry). e.content)) (cond-true _ _ _ (eq-eqb entry.number number is))

content_further : (entry : LogEntry) (rest : List LogEntry) (number : ℕ) → entry.number ≢ number → content_at (entry ∷ rest) number ≡ content_at rest number
unfolding content_at
content_further entry rest number other = ap (option_map (λ (e : LogEntry). e.content)) (cond-false _ _ _ (ne_eqb entry.number number other))

no_content : (number n : ℕ) (log : List LogEntry) → IsNumberedFrom n log → number < n → content_at log number ≡ None
unfolding content_at
no_content number n [] numbered below = refl
no_content number n (entry ∷ rest) numbered below =
    let first = numbered.0 in
    content_further entry rest number (λ same. omega (arith, first, same, below)) ∙ no_content number (n + 1) rest numbered.1 (omega (arith, below))

-- ---- one number more

-- one number more between them is the entry of that number, where there is one
pub more_between : (old k : ℕ) → old ≤ k → (n : ℕ) (log : List LogEntry) → IsNumberedFrom n log →
    entries_between old (k + 1) log ≡ entries_between old k log ++ found_at (k + 1) (content_at log (k + 1))
more_between old k reached n [] numbered = ap (found_at (k + 1)) (sym (no_content (k + 1) (k + 1 + 1) [] tt (omega arith)))
more_between old k reached n (entry ∷ rest) numbered = elim (cases_order n (k + 1)) [
  | inl same ↦
      (let first : entry.number ≡ k + 1 = numbered.0 ∙ same in
      between_keeps old (k + 1) entry rest
      (and_from _ _ (lt-ltb old entry.number (omega (arith, first, reached))) (le-leb entry.number (k + 1) (omega (arith, first))))
      ∙ ap (λ (es : List LogEntry). entry ∷ es) (none_after old (k + 1) (n + 1) rest numbered.1 (omega (arith, same)))
      ∙ ap (λ m. record { number = m; content = entry.content } ∷ []) first
      ∙ ap (λ (found : Option LogRec). found_at (k + 1) found) (sym (content_here entry rest (k + 1) first))
      ∙ ap (λ (es : List LogEntry). es ++ found_at (k + 1) (content_at (entry ∷ rest) (k + 1)))
      (sym (none_after old k n (entry ∷ rest) numbered (omega (arith, same)))))
  | inr (inl before) ↦
      (let first = numbered.0 in
      let again = more_between old k reached (n + 1) rest numbered.1 in
      let further : content_at (entry ∷ rest) (k + 1) ≡ content_at rest (k + 1) =
      content_further entry rest (k + 1) (λ same. omega (arith, first, same, before)) in
      ap (λ b. cond b (entry ∷ entries_between old (k + 1) rest) (entries_between old (k + 1) rest)) (same_test old k entry (omega (arith, first, before)))
      ∙ ap (λ (es : List LogEntry). cond (is_between old k entry) (entry ∷ es) es)
      (again ∙ ap (λ (found : Option LogRec). entries_between old k rest ++ found_at (k + 1) found) (sym further))
      ∙ either_first (is_between old k entry) entry (entries_between old k rest) (found_at (k + 1) (content_at (entry ∷ rest) (k + 1))))
  | inr (inr after) ↦
      none_after old (k + 1) n (entry ∷ rest) numbered after
      ∙ ap (λ (found : Option LogRec). found_at (k + 1) found) (sym (no_content (k + 1) n (entry ∷ rest) numbered after))
      ∙ ap (λ (es : List LogEntry). es ++ found_at (k + 1) (content_at (entry ∷ rest) (k + 1)))
      (sym (none_after old k n (entry ∷ rest) numbered (omega (arith, after))))
]
  where
    same_test : (old k : ℕ) (entry : LogEntry) → entry.number ≤ k → is_between old (k + 1) entry ≡ is_between old k entry
    same_test old k entry within =
        ap (λ b. nat_lt old entry.number && b) (le-leb entry.number (k + 1) (omega (arith, within)) ∙ sym (le-leb entry.number k within))

    either_first : (b : Bool) (entry : LogEntry) (es fs : List LogEntry) → cond b (entry ∷ es ++ fs) (es ++ fs) ≡ cond b (entry ∷ es) es ++ fs
    either_first true entry es fs = refl
    either_first false entry es fs = refl

-- what is told of the entry of a number
told_found : (primary : ℕ → ℕ) (done : Stepped) (number : ℕ) (found : Option LogRec) →
    fold (entry_told primary) done (found_at number found) ≡ told_at primary done number found
told_found primary done number None = refl
told_found primary done number (Some content) = refl

pub told_more : (primary : ℕ → ℕ) (old k : ℕ) → old ≤ k → (n : ℕ) (log : List LogEntry) (done : Stepped) → IsNumberedFrom n log →
    fold (entry_told primary) done (entries_between old (k + 1) log) ≡ told_at primary (fold (entry_told primary) done (entries_between old k log)) (k + 1) (content_at log (k + 1))
told_more primary old k reached n log done numbered =
    ap (fold (entry_told primary) done) (more_between old k reached n log numbered)
    ∙ fold-append (entry_told primary) done (entries_between old k log) (found_at (k + 1) (content_at log (k + 1)))
    ∙ told_found primary (fold (entry_told primary) done (entries_between old k log)) (k + 1) (content_at log (k + 1))

-- where the numbers are counted to their end, all is told
pub between_all : (old new reached : ℕ) (log : List LogEntry) → old ≤ reached → reached ≤ max old new → new ≤ reached → entries_between old reached log ≡ entries_between old new log
between_all old new reached log from within to = elim (cases_lt old new) [
  | inl above ↦ (let same : reached ≡ new = omega (arith, above, from, within, to) in ap (λ m. entries_between old m log) same)
  | inr below ↦ none_between old reached log (omega (arith, below, within)) ∙ sym (none_between old new log below)
]

-- ---- the entries from a number on

-- the log ends before it
pub none_from : (next n : ℕ) (log : List LogEntry) → IsNumberedFrom n log → n + length log ≤ next → entries_from next log ≡ []
none_from next n [] numbered ends = refl
none_from next n (entry ∷ rest) numbered ends =
    let first = numbered.0 in
    let count : length (entry ∷ rest) ≡ length rest + 1 = omega arith in
    cond-false _ _ _ (lt-leb next entry.number (omega (arith, first, ends, count)))
    ∙ none_from next (n + 1) rest numbered.1 (omega (arith, ends, count))

-- up to the end of the log they are those above the number before
pub between_is_from : (old new n : ℕ) (log : List LogEntry) → IsNumberedFrom n log → n + length log ≤ new + 1 →
    entries_between old new log ≡ entries_from (old + 1) log
between_is_from old new n [] numbered ends = refl
between_is_from old new n (entry ∷ rest) numbered ends =
    let first = numbered.0 in
    let count : length (entry ∷ rest) ≡ length rest + 1 = omega arith in
    ap (λ b. cond b (entry ∷ entries_between old new rest) (entries_between old new rest)) (same_test old new entry (omega (arith, first, ends, count)))
    ∙ ap (λ (es : List LogEntry). cond (nat_le (old + 1) entry.number) (entry ∷ es) es)
    (between_is_from old new (n + 1) rest numbered.1 (omega (arith, ends, count)))
  where
    same_test : (old new : ℕ) (entry : LogEntry) → entry.number ≤ new → is_between old new entry ≡ nat_le (old + 1) entry.number
    same_test old new entry within = elim (cases_lt old entry.number) [
      | inl above ↦ and_from _ _ (lt-ltb old entry.number above) (le-leb entry.number new within) ∙ sym (le-leb (old + 1) entry.number (omega (arith, above)))
      | inr below ↦ and_left _ _ (le-ltb old entry.number below) ∙ sym (lt-leb (old + 1) entry.number (omega (arith, below)))
    ]
