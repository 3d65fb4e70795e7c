-- The Decides that wait, by log number.
use Rattle.std.proofs.Common.{◌≡◌, ℕ, ◌+◌, ◌-◌, ◌<◌, ◌≤◌, suc, Bool, true, false, not, List, [], ◌∷◌, ◌++◌, length, get_or, take, drop, filter, All, nat_le, nat_lt, refl, sym, ap, ◌∙◌, subst, inl, inr, arith}
use Rattle.std.specs.List.Sorted.{IsNonDecreasingBy, IsPermutation, IsPartitionPoint}
use Rattle.std.proofs.lemmas.Bool.{cond-true, cond-false, cases_Bool, leb-true, leb-false, lt-ltb, le-ltb, lt-leb, ltb-true, not_from_true, not_from_false}
use Rattle.std.proofs.lemmas.List.{length-append, take-append-drop, get_or-take, get_or-drop, get_or_append_left, get_or-append_right, take_at, drop_at, append-nil, length-drop, length-take-le}
use Rattle.std.proofs.lemmas.List.Elements.{All-head, All-tail, All-weaker, filter-append, filter_passes}
use Rattle.std.proofs.lemmas.List.Sorted.{IsNonDecreasingBy-drop, IsNonDecreasingBy-insert, IsPermutation-filter_both, IsPermutation-cons, IsPermutation-middle, IsPermutation-trans, IsPermutation-sym}
use Rattle.cl_control.specs.declared.entry.Told.{Told}
use Rattle.cl_control.specs.Calls.{up_to, above, with_told}

module _ {X : Type 0} (p : X → Bool) where
  -- where each passes, a filter keeps all; where none does, it keeps none
  pub filter-each : (xs : List X) → All (λ x. p x ≡ true) xs → filter p xs ≡ xs
  filter-each [] h = refl
  filter-each (x ∷ xs) h =
      let passes : X → Type 0 = λ y. p y ≡ true in
      cond-true _ _ _ (All-head passes x xs h) ∙ ap (λ ys. x ∷ ys) (filter-each xs (All-tail passes x xs h))

  pub filter-none : (xs : List X) → All (λ x. p x ≡ false) xs → filter p xs ≡ []
  filter-none [] h = refl
  filter-none (x ∷ xs) h =
      let fails : X → Type 0 = λ y. p y ≡ false in
      cond-false _ _ _ (All-head fails x xs h) ∙ filter-none xs (All-tail fails x xs h)

-- above a number, and not at most it
leb-ltb : (m n : ℕ) → nat_lt n m ≡ not (nat_le m n)
leb-ltb m n = elim (cases_Bool (nat_le m n)) [
  | inl t ↦ le-ltb n m (leb-true m n t) ∙ sym (not_from_true _ t)
  | inr f ↦ lt-ltb n m (leb-false m n f) ∙ sym (not_from_false _ f)
]

module _ (number : ℕ) (tolds : List Told) (i : ℕ) (within : i ≤ length tolds)
    (point : IsPartitionPoint (λ told. nat_le told.number number ≡ true) (λ told. nat_le told.number number ≡ false) tolds i) where
  first_pass : All (λ told. nat_le told.number number ≡ true) (take i tolds)
  first_pass k d h =
      let short : length (take i tolds) ≡ i = length-take-le i tolds within in
      let below : k < i = omega arith in
      subst (λ told. nat_le told.number number ≡ true) (sym (get_or-take i tolds k d below)) (point.0 k d (omega arith) below)

  rest_fail : All (λ told. nat_le told.number number ≡ false) (drop i tolds)
  rest_fail k d h =
      let rest : length (drop i tolds) ≡ length tolds - i = length-drop i tolds in
      subst (λ told. nat_le told.number number ≡ false) (sym (get_or-drop i tolds k d)) (point.1 (i + k) d (omega arith) (omega arith))

  -- a partition point parts those with a number at most this one from those above it
  pub take-up_to : take i tolds ≡ up_to number tolds
  take-up_to =
      sym (append-nil (take i tolds))
      ∙ ap (λ ts. ts ++ []) (sym (filter-each (λ told. nat_le told.number number) (take i tolds) first_pass))
      ∙ ap (λ ts. up_to number (take i tolds) ++ ts) (sym (filter-none (λ told. nat_le told.number number) (drop i tolds) rest_fail))
      ∙ sym (filter-append (λ told. nat_le told.number number) (take i tolds) (drop i tolds))
      ∙ ap (up_to number) (take-append-drop i tolds)

  pub drop-above : drop i tolds ≡ above number tolds
  drop-above =
      ap (λ ts. [] ++ ts) (sym (filter-each (λ told. nat_lt number told.number) (drop i tolds)
      (All-weaker (λ told. nat_le told.number number ≡ false) (λ told. nat_lt number told.number ≡ true) (λ told f. leb-ltb told.number number ∙ not_from_false _ f) _ rest_fail)))
      ∙ ap (λ ts. ts ++ above number (drop i tolds)) (sym (filter-none (λ told. nat_lt number told.number) (take i tolds)
      (All-weaker (λ told. nat_le told.number number ≡ true) (λ told. nat_lt number told.number ≡ false) (λ told t. leb-ltb told.number number ∙ not_from_true _ t) _ first_pass)))
      ∙ sym (filter-append (λ told. nat_lt number told.number) (take i tolds) (drop i tolds))
      ∙ ap (above number) (take-append-drop i tolds)

-- those up to a number stand before those above it
pub parted : (number : ℕ) (tolds : List Told) → IsNonDecreasingBy (λ told. told.number) tolds → up_to number tolds ++ above number tolds ≡ tolds
parted number [] ascending = refl
parted number (x ∷ xs) ascending = by (parted number xs (IsNonDecreasingBy-drop (λ told. told.number) 1 (x ∷ xs) ascending)) (nat_le x.number number) refl
  where
    none : nat_le x.number number ≡ false → All (λ told. nat_le told.number number ≡ false) xs
    none f k d h =
        let below = leb-false x.number number f in
        let later : x.number ≤ (get_or xs k d).number = ascending 0 (suc k) d (omega arith) (omega arith) in
        lt-leb _ _ (omega arith)

    by : up_to number xs ++ above number xs ≡ xs → (b : Bool) → nat_le x.number number ≡ b → up_to number (x ∷ xs) ++ above number (x ∷ xs) ≡ x ∷ xs
    by rest true t =
        ap (λ ts. ts ++ above number (x ∷ xs)) (cond-true _ _ _ t) ∙ ap (λ ts. x ∷ (up_to number xs ++ ts)) (cond-false _ _ _ (leb-ltb x.number number ∙ not_from_true _ t)) ∙ ap (λ ts. x ∷ ts) rest
    by rest false f =
        ap (λ ts. ts ++ above number (x ∷ xs)) (cond-false _ _ _ f ∙ filter-none (λ told. nat_le told.number number) xs (none f))
        ∙ cond-true _ _ _ (leb-ltb x.number number ∙ not_from_false _ f)
        ∙ ap (λ ts. x ∷ ts) (filter-each (λ told. nat_lt number told.number) xs
        (All-weaker (λ told. nat_le told.number number ≡ false) (λ told. nat_lt number told.number ≡ true) (λ told g. leb-ltb told.number number ∙ not_from_false _ g) _ (none f)))

-- one more is one more
pub with_told-permutation : (told : Told) (tolds : List Told) → IsPermutation (told ∷ tolds) (with_told told tolds)
with_told-permutation told tolds =
    IsPermutation-trans _ _ _
    (IsPermutation-cons told _ _ (IsPermutation-filter_both (λ t. nat_le t.number told.number) (λ t. nat_lt told.number t.number) (λ t. leb-ltb t.number told.number) tolds))
    (IsPermutation-sym _ _ (IsPermutation-middle (up_to told.number tolds) told (above told.number tolds)))

-- at its place by log number
pub with_told-ascending : (told : Told) (tolds : List Told) → IsNonDecreasingBy (λ t. t.number) tolds → IsNonDecreasingBy (λ t. t.number) (with_told told tolds)
with_told-ascending told tolds ascending =
    let front = up_to told.number tolds in
    let back = above told.number tolds in
    let whole : front ++ back ≡ tolds = parted told.number tolds ascending in
    let sorted : IsNonDecreasingBy (λ t. t.number) (front ++ back) = subst (IsNonDecreasingBy (λ t. t.number)) (sym whole) ascending in
    let low : All (λ t. nat_le t.number told.number ≡ true) front = filter_passes (λ t. nat_le t.number told.number) tolds in
    let high : All (λ t. nat_lt told.number t.number ≡ true) back = filter_passes (λ t. nat_lt told.number t.number) tolds in
    subst (IsNonDecreasingBy (λ t. t.number))
    (ap (λ ts. ts ++ told ∷ drop (length front) (front ++ back)) (take_at front back (length front) refl) ∙ ap (λ ts. front ++ told ∷ ts) (drop_at front back (length front) refl))
    (IsNonDecreasingBy-insert (λ t. t.number) (front ++ back) (length front) told sorted
    (omega (arith, length-append front back))
    (λ k d below. let at = low k d below in
    subst (λ t. t.number ≤ told.number) (sym (get_or_append_left front back d k below)) (leb-true _ _ at))
    (λ k d from within. let at = high (k - length front) d (omega (arith, length-append front back)) in
    let up = ltb-true _ _ at in
    subst (λ t. told.number ≤ t.number) (sym (get_or-append_right front back (length front) k d refl from)) (omega arith)))
