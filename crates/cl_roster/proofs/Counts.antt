-- How many numbers of a range pass a test.
use Rattle.std.proofs.Common.{◌≡◌, ◌≢◌, ℕ, zero, suc, ◌+◌, ◌<◌, ◌≤◌, Bool, true, false, cond, inl, inr, refl, sym, ap, ◌∙◌, subst, arith}
use Rattle.std.proofs.lemmas.Bool.{cases_eq}

-- how many of the numbers from `start` on, `count` of them, pass the test
abbrev pub passing : (ℕ → Bool) → ℕ → ℕ → ℕ
passing test start zero = 0
passing test start (suc count) = cond (test start) 1 0 + passing test (start + 1) count

cond_le_one : (b : Bool) → cond b 1 0 ≤ 1
cond_le_one true = omega arith
cond_le_one false = omega arith

pub passing-le : (test : ℕ → Bool) (start count : ℕ) → passing test start count ≤ count
passing-le test start zero = omega arith
passing-le test start (suc count) = omega (arith, cond_le_one (test start), passing-le test (start + 1) count)

-- where no number passes
pub passing-none : (test : ℕ → Bool) (start count : ℕ) → ((k : ℕ) → test k ≡ false) → passing test start count ≡ 0
passing-none test start zero none = refl
passing-none test start (suc count) none =
    ap (λ b. cond b 1 0 + passing test (start + 1) count) (none start) ∙ omega (arith, passing-none test (start + 1) count none)

-- two tests that agree in a range pass as many numbers
pub passing-same : (p q : ℕ → Bool) (start count : ℕ) → ((k : ℕ) → start ≤ k → k < start + count → q k ≡ p k) →
    passing q start count ≡ passing p start count
passing-same p q start zero same = refl
passing-same p q start (suc count) same =
    let here = same start (omega arith) (omega arith) in
    let rest = passing-same p q (start + 1) count (λ k low high. same k (omega arith) (omega arith)) in
    ap (λ b. cond b 1 0 + passing q (start + 1) count) here ∙ ap (λ m. cond (p start) 1 0 + m) rest

less_here : (b c : Bool) (m k : ℕ) → c ≡ true → b ≡ false → m ≡ k → cond b 1 0 + m + 1 ≡ cond c 1 0 + k
less_here b c m k was is rest = grind arith

less_later : (b c : Bool) (m k : ℕ) → b ≡ c → m + 1 ≡ k → cond b 1 0 + m + 1 ≡ cond c 1 0 + k
less_later b c m k same rest = grind arith

-- where one number fails that passed, and the others are as before, one less passes
pub passing-one_less : (p q : ℕ → Bool) (start count n : ℕ) → start ≤ n → n < start + count → p n ≡ true → q n ≡ false →
    ((k : ℕ) → k ≢ n → q k ≡ p k) → passing q start count + 1 ≡ passing p start count
passing-one_less p q start zero n low high passed fails others = absurd (omega arith)
passing-one_less p q start (suc count) n low high passed fails others = elim (cases_eq start n) [
  | inl same ↦
      (let was : p start ≡ true = subst (λ (k : ℕ). p k ≡ true) (sym same) passed in
      let is : q start ≡ false = subst (λ (k : ℕ). q k ≡ false) (sym same) fails in
      let rest = passing-same p q (start + 1) count (λ k above below. others k (λ e. omega arith)) in
      less_here (q start) (p start) (passing q (start + 1) count) (passing p (start + 1) count) was is rest)
  | inr apart ↦
      (let rest = passing-one_less p q (start + 1) count n (omega arith) (omega arith) passed fails others in
      less_later (q start) (p start) (passing q (start + 1) count) (passing p (start + 1) count) (others start apart) rest)
]
