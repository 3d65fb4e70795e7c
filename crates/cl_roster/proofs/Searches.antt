-- The first number of a range that passes a test.
use Rattle.std.proofs.Common.{◌≡◌, ℕ, zero, suc, ◌+◌, ◌<◌, ◌≤◌, Bool, true, false, cond, Option, Some, None, ◌⊎◌, inl, inr, refl, ap, ◌∙◌, subst, arith}
use Rattle.std.specs.List.{find, range_with_len}
use Rattle.std.proofs.lemmas.Bool.{cases_eq, cases_order, both_ways}

-- no number of the range passes
pub record NonePass (test : ℕ → Bool) (start count : ℕ) : Type 0 where
  pub fails : (k : ℕ) → start ≤ k → k < start + count → test k ≡ false

-- number k is the first of the range that passes
pub record PassesFirst (test : ℕ → Bool) (start count k : ℕ) : Type 0 where
  pub from_start : start ≤ k
  pub in_range : k < start + count
  pub passes : test k ≡ true
  pub first : (j : ℕ) → start ≤ j → j < k → test j ≡ false

found_none : (b : Bool) (x : ℕ) (rest : Option ℕ) → cond b (Some x) rest ≡ None → (b ≡ false) × (rest ≡ None)
found_none true x rest e = cc
found_none false x rest e = (refl, e)

pub find-none : (test : ℕ → Bool) (start count : ℕ) → find test (range_with_len start count) ≡ None → NonePass test start count
find-none test start zero e = record { fails = λ k low high. absurd (omega arith) }
find-none test start (suc count) e =
    let head = found_none (test start) start (find test (range_with_len (start + 1) count)) e in
    let rest = find-none test (start + 1) count head.1 in
    record {
      fails = λ k low high. elim (cases_eq start k) [
        | inl same ↦ subst (λ (j : ℕ). test j ≡ false) same head.0
        | inr other ↦ rest.fails k (omega arith) (omega arith)
      ];
    }

found_some : (b : Bool) (x : ℕ) (rest : Option ℕ) (k : ℕ) → cond b (Some x) rest ≡ Some k →
    ((b ≡ true) × (x ≡ k)) ⊎ ((b ≡ false) × (rest ≡ Some k))
found_some true x rest k e = inl (refl, cc)
found_some false x rest k e = inr (refl, e)

pub find-some : (test : ℕ → Bool) (start count k : ℕ) → find test (range_with_len start count) ≡ Some k → PassesFirst test start count k
find-some test start zero k e = cc
find-some test start (suc count) k e =
    elim (found_some (test start) start (find test (range_with_len (start + 1) count)) k e) [
      | inl here ↦ record {
        from_start = omega arith;
        in_range = omega arith;
        passes = subst (λ (j : ℕ). test j ≡ true) here.1 here.0;
        first = λ j low high. absurd (omega arith);
      }
      | inr later ↦
          (let rest = find-some test (start + 1) count k later.1 in
          record {
            from_start = omega arith;
            in_range = omega arith;
            passes = rest.passes;
            first = λ j low high. elim (cases_eq start j) [
              | inl same ↦ subst (λ (i : ℕ). test i ≡ false) same later.0
              | inr other ↦ rest.first j (omega arith) high
            ];
          })
    ]

-- where the least passing number is known, the search finds it
pub find-at : (test : ℕ → Bool) (start count k : ℕ) → PassesFirst test start count k → find test (range_with_len start count) ≡ Some k
find-at test start count k first = found_by (find test (range_with_len start count)) refl where
  found_by : (o : Option ℕ) → find test (range_with_len start count) ≡ o → find test (range_with_len start count) ≡ Some k
  found_by None e = absurd (both_ways (test k) ((find-none test start count e).fails k first.from_start first.in_range) first.passes)
  found_by (Some j) e =
      let found = find-some test start count j e in
      elim (cases_order j k) [
        | inl same ↦ e ∙ ap Some same
        | inr apart ↦ elim apart [
          | inl below ↦ absurd (both_ways (test j) (first.first j found.from_start below) found.passes)
          | inr above ↦ absurd (both_ways (test k) (found.first k first.from_start above) first.passes)
        ]
      ]

-- where no number passes, the search finds none
pub find-nowhere : (test : ℕ → Bool) (start count : ℕ) → NonePass test start count → find test (range_with_len start count) ≡ None
find-nowhere test start count none = found_by (find test (range_with_len start count)) refl where
  found_by : (o : Option ℕ) → find test (range_with_len start count) ≡ o → find test (range_with_len start count) ≡ None
  found_by None e = e
  found_by (Some j) e =
      let found = find-some test start count j e in
      absurd (both_ways (test j) (none.fails j found.from_start found.in_range) found.passes)
