-- The entries of a log by their numbers.
use Rattle.std.proofs.Common.{◌≡◌, ℕ, ◌+◌, ◌<◌, ◌≤◌, Bool, true, false, cond, ◌&&◌, List, [], ◌∷◌, ◌++◌, length, get_or, filter, All, nat_le, nat_lt, refl, sym, ap, ◌∙◌, subst, inl, inr, arith}
use Rattle.std.proofs.lemmas.Bool.{cond-false, cases_Bool, and_left, and_right, ltb-true, ltb-false, lt-ltb, le-leb, lt-leb}
use Rattle.std.proofs.lemmas.List.Elements.{All-nil, All-cons, All-head, All-tail, All-weaker, All-append}
use Rattle.cl_log.specs.declared.records.LogRec.{LogRec}
use Rattle.cl_log.specs.declared.records.LogRec.TheVariants.{Decide}
use Rattle.cl_log.specs.LogEntry.{LogEntry, IsNumberedFrom}
use Rattle.cl_control.specs.declared.entry.Told.{Told}
use Rattle.cl_control.proofs.Waiters.{filter-each, filter-none}
use Rattle.cl_vnode.specs.Step.{entries_between, entries_from}
use Rattle.cl_paired.specs.Paired.{told_of, tolds_of}

-- ---- filters

-- filters that agree on each keep the same
filter-alike : {X : Type 0} (p q : X → Bool) (xs : List X) → All (λ x. p x ≡ q x) xs → filter p xs ≡ filter q xs
filter-alike p q [] h = refl
filter-alike {X} p q (x ∷ xs) h =
    let alike : X → Type 0 = λ y. p y ≡ q y in
    ap (λ b. cond b (x ∷ filter p xs) (filter p xs)) (All-head alike x xs h) ∙ ap (λ ys. cond (q x) (x ∷ ys) ys) (filter-alike p q xs (All-tail alike x xs h))

-- with what is so, a conjunction is its other part
and-yes : (a b : Bool) → b ≡ true → (a && b) ≡ a
and-yes true b h = h
and-yes false b h = refl

-- ---- a log that is numbered

-- the numbers of a log lie from its first one on
abbrev pub IsWithin : ℕ → ℕ → LogEntry → Type 0
IsWithin first count entry = (first ≤ entry.number) × (entry.number < first + count)

-- each entry lies so
pub numbers-within : (first : ℕ) (log : List LogEntry) → IsNumberedFrom first log → All (IsWithin first (length log)) log
numbers-within first [] numbered = All-nil (IsWithin first 0)
numbers-within first (entry ∷ log) numbered =
    All-cons (IsWithin first (length (entry ∷ log))) entry log (omega (arith, numbered.0), omega (arith, numbered.0))
    (All-weaker (IsWithin (first + 1) (length log)) (IsWithin first (length (entry ∷ log))) (λ e h. (omega (arith, h.0), omega (arith, h.1))) log
    (numbers-within (first + 1) log numbered.1))

-- two logs one after the other
pub numbered-append : (first next : ℕ) (front back : List LogEntry) → next ≡ first + length front → IsNumberedFrom first front → IsNumberedFrom next back →
    IsNumberedFrom first (front ++ back)
numbered-append first next [] back at numbered more =
    let same : next ≡ first = omega (arith, at) in
    subst (λ n. IsNumberedFrom n back) same more
numbered-append first next (entry ∷ front) back at numbered more =
    (numbered.0, numbered-append (first + 1) next front back (omega (arith, at)) numbered.1 more)

-- those with a number above this one
abbrev pub later : ℕ → List LogEntry → List LogEntry
later old log = filter (λ entry. nat_lt old entry.number) log

-- all of a log that begins behind the number
pub later-all : (old first : ℕ) (log : List LogEntry) → old < first → IsNumberedFrom first log → later old log ≡ log
later-all old first log below numbered =
    filter-each (λ entry. nat_lt old entry.number) log
    (All-weaker (IsWithin first (length log)) (λ entry. nat_lt old entry.number ≡ true) (λ entry h. lt-ltb old entry.number (omega (arith, below, h.0))) log
    (numbers-within first log numbered))

-- they are numbered from the next one on
pub numbered-later : (old first : ℕ) (log : List LogEntry) → first ≤ old + 1 → IsNumberedFrom first log → IsNumberedFrom (old + 1) (later old log)
numbered-later old first [] within numbered = tt
numbered-later old first (entry ∷ log) within numbered =
    elim (cases_Bool (nat_lt old entry.number)) [
      | inl above ↦ (
          let up : old < entry.number = ltb-true old entry.number above in
          let same : first ≡ old + 1 = omega (arith, up, numbered.0, within) in
          subst (IsNumberedFrom (old + 1)) (sym (later-all old first (entry ∷ log) (omega (arith, same)) numbered))
          (subst (λ n. IsNumberedFrom n (entry ∷ log)) same numbered))
      | inr not_above ↦ (
          let down : entry.number ≤ old = ltb-false old entry.number not_above in
          subst (IsNumberedFrom (old + 1)) (sym (cond-false _ _ _ not_above)) (numbered-later old (first + 1) log (omega (arith, down, numbered.0)) numbered.1))
    ]

-- ---- what lies between two numbers

-- nothing lies between a number and itself
pub none_between : (number : ℕ) (log : List LogEntry) → entries_between number number log ≡ []
none_between number log = filter-none (λ entry. nat_lt number entry.number && nat_le entry.number number) log (λ k d h. none (get_or log k d).number)
  where
    none : (n : ℕ) → (nat_lt number n && nat_le n number) ≡ false
    none n = elim (cases_Bool (nat_lt number n)) [
      | inl up ↦ (let less : number < n = ltb-true number n up in and_right _ _ (lt-leb n number less))
      | inr down ↦ and_left _ _ down
    ]

-- up to the last number lie all that are later
pub all_between : (old last first : ℕ) (log : List LogEntry) → first + length log ≤ last + 1 → IsNumberedFrom first log →
    entries_between old last log ≡ later old log
all_between old last first log within numbered =
    filter-alike (λ entry. nat_lt old entry.number && nat_le entry.number last) (λ entry. nat_lt old entry.number) log
    (All-weaker (IsWithin first (length log)) (λ entry. (nat_lt old entry.number && nat_le entry.number last) ≡ nat_lt old entry.number)
    (λ entry h. and-yes (nat_lt old entry.number) (nat_le entry.number last) (le-leb entry.number last (omega (arith, within, h.1)))) log
    (numbers-within first log numbered))

-- those up to a number stand before those above it
pub parted : (old middle first : ℕ) (log : List LogEntry) → old ≤ middle → IsNumberedFrom first log →
    entries_between old middle log ++ later middle log ≡ later old log
parted old middle first [] within numbered = refl
parted old middle first (entry ∷ log) within numbered =
    elim (cases_Bool (nat_lt middle entry.number)) [
      | inl above ↦ (
          let up : middle < entry.number = ltb-true middle entry.number above in
          let from : middle < first = omega (arith, up, numbered.0) in
          ap (λ es. es ++ later middle (entry ∷ log))
          (filter-none (λ e. nat_lt old e.number && nat_le e.number middle) (entry ∷ log)
          (All-weaker (IsWithin first (length (entry ∷ log))) (λ e. (nat_lt old e.number && nat_le e.number middle) ≡ false)
          (λ e h. and_right _ _ (lt-leb e.number middle (omega (arith, from, h.0)))) (entry ∷ log) (numbers-within first (entry ∷ log) numbered)))
          ∙ later-all middle first (entry ∷ log) from numbered
          ∙ sym (later-all old first (entry ∷ log) (omega (arith, from, within)) numbered))
      | inr not_above ↦ (
          let down : entry.number ≤ middle = ltb-false middle entry.number not_above in
          ap (λ b. cond b (entry ∷ entries_between old middle log) (entries_between old middle log) ++ later middle (entry ∷ log))
          (and-yes (nat_lt old entry.number) (nat_le entry.number middle) (le-leb entry.number middle down))
          ∙ ap (λ es. cond (nat_lt old entry.number) (entry ∷ entries_between old middle log) (entries_between old middle log) ++ es)
          (cond-false _ _ _ not_above)
          ∙ with_head (parted old middle (first + 1) log within numbered.1) (nat_lt old entry.number))
    ]
  where
    with_head : entries_between old middle log ++ later middle log ≡ later old log → (b : Bool) →
        cond b (entry ∷ entries_between old middle log) (entries_between old middle log) ++ later middle log ≡ cond b (entry ∷ later old log) (later old log)
    with_head rest true = ap (λ es. entry ∷ es) rest
    with_head rest false = rest

-- from the next number on there is nothing
pub none_from : (next first : ℕ) (log : List LogEntry) → first + length log ≤ next → IsNumberedFrom first log → entries_from next log ≡ []
none_from next first log within numbered =
    filter-none (λ entry. nat_le next entry.number) log
    (All-weaker (IsWithin first (length log)) (λ entry. nat_le next entry.number ≡ false) (λ entry h. lt-leb next entry.number (omega (arith, within, h.1))) log
    (numbers-within first log numbered))

-- ---- the Decides among entries

-- of one entry
told_one : (P : ℕ → Type 0) (number : ℕ) (content : LogRec) → P number → All (λ (told : Told). P told.number) (told_of number content)
told_one P number (Decide txn) h =
    All-cons (λ (told : Told). P told.number) (record { number = number; txn = txn }) [] h (All-nil (λ (told : Told). P told.number))
told_one P number content h = All-nil (λ (told : Told). P told.number)

-- what holds of the numbers of entries holds of the Decides among them
pub tolds_each : (P : ℕ → Type 0) (entries : List LogEntry) → All (λ entry. P entry.number) entries → All (λ told. P told.number) (tolds_of entries)
tolds_each P [] h = All-nil (λ told. P told.number)
tolds_each P (entry ∷ entries) h =
    All-append (λ told. P told.number) (told_of entry.number entry.content) (tolds_of entries)
    (told_one P entry.number entry.content (All-head (λ e. P e.number) entry entries h)) (tolds_each P entries (All-tail (λ e. P e.number) entry entries h))

-- so they are numbered like the entries
pub tolds-within : (first : ℕ) (entries : List LogEntry) → IsNumberedFrom first entries →
    All (λ told. (first ≤ told.number) × (told.number < first + length entries)) (tolds_of entries)
tolds-within first entries numbered = tolds_each (λ n. (first ≤ n) × (n < first + length entries)) entries (numbers-within first entries numbered)

-- ---- parts of a numbered log

-- the first part is numbered from the first number
pub numbered-front : (first : ℕ) (front back : List LogEntry) → IsNumberedFrom first (front ++ back) → IsNumberedFrom first front
numbered-front first [] back numbered = tt
numbered-front first (entry ∷ front) back numbered = (numbered.0, numbered-front (first + 1) front back numbered.1)

-- and the second from where the first ends
pub numbered-back : (first next : ℕ) (front back : List LogEntry) → next ≡ first + length front → IsNumberedFrom first (front ++ back) →
    IsNumberedFrom next back
numbered-back first next [] back at numbered =
    let same : first ≡ next = omega (arith, at) in
    subst (λ n. IsNumberedFrom n back) same numbered
numbered-back first next (entry ∷ front) back at numbered = numbered-back (first + 1) next front back (omega (arith, at)) numbered.1
