-- The number that digits write, digit by digit, and numbers within 64 bits.
use Rattle.std.proofs.Common.{◌≡◌, ℕ, ◌+◌, ◌-◌, ◌*◌, ◌^◌, ◌<◌, ◌≤◌, true, false, List, [], ◌∷◌, ◌++◌, length, take, drop, get_or, fold, Option, Some, None, option_and_then, FitsSigned, w64, ℤ, pos, negsuc, neg_ℤ, ◌+ℤ◌, ◌-ℤ◌, zero, suc, refl, sym, ap, ◌∙◌, arith}
use Rattle.std.specs.Option.{SomeIff, option_map}
use Rattle.std.proofs.lemmas.List.{take-append-drop}
use Rattle.std.proofs.lemmas.List.Sums.{fold_more, fold-append}
use Rattle.std.proofs.lemmas.Int.{ints}
use Rattle.std.proofs.lemmas.Bool.{lt-ltb, le-ltb, ltb-true, ne_eqb, cond-true, cond-false, false_from_ne_true}
use Rattle.cl_types.specs.Decimal.{value_of_digits, in_unsigned_64, in_signed_64, is_signed_64, is_positive, is_canonical, positive, natural, natural_64, integer, number}

-- a number with one more digit at its end
abbrev pub with_digit : ℕ → ℕ → ℕ
with_digit number digit = 10 * number + (digit - 48)

-- digits added at the end make no number smaller
pub le-fold : (n : ℕ) (digits : List ℕ) → n ≤ fold with_digit n digits
le-fold n [] = omega arith
le-fold n (digit ∷ digits) = omega (arith, le-fold (with_digit n digit) digits)

pub in_unsigned_64-below : (n : ℕ) → n < 2 ^ 64 → in_unsigned_64 n ≡ Some n
unfolding in_unsigned_64
in_unsigned_64-below n h = cond-true _ _ _ (lt-ltb n (2 ^ 64) h)

pub in_unsigned_64-above : (n : ℕ) → 2 ^ 64 ≤ n → in_unsigned_64 n ≡ None
unfolding in_unsigned_64
in_unsigned_64-above n h = cond-false _ _ _ (le-ltb n (2 ^ 64) h)

pub in_signed_64-within : (z : ℤ) → is_signed_64 z ≡ true → in_signed_64 z ≡ Some z
unfolding in_signed_64
in_signed_64-within z h = cond-true _ _ _ h

pub in_signed_64-outside : (z : ℤ) → is_signed_64 z ≡ false → in_signed_64 z ≡ None
unfolding in_signed_64
in_signed_64-outside z h = cond-false _ _ _ h

pub is_signed_64-fits : (z : ℤ) → FitsSigned w64 z → is_signed_64 z ≡ true
is_signed_64-fits (pos n) h = lt-ltb n (2 ^ 63) h.sfits
is_signed_64-fits (negsuc n) h = lt-ltb n (2 ^ 63) h.sfits

pub fits-is_signed_64 : (z : ℤ) → is_signed_64 z ≡ true → FitsSigned w64 z
fits-is_signed_64 (pos n) h = record { sfits = ltb-true n (2 ^ 63) h }
fits-is_signed_64 (negsuc n) h = record { sfits = ltb-true n (2 ^ 63) h }

-- what a checked operation at 64 bits answers
pub in_unsigned_64-checked : (r : Option ℕ) (n : ℕ) → SomeIff r (n < 2 ^ 64) n → r ≡ in_unsigned_64 n
in_unsigned_64-checked None n h = let above : 2 ^ 64 ≤ n = omega (arith, h) in sym (in_unsigned_64-above n above)
in_unsigned_64-checked (Some x) n h = ap Some h.1 ∙ sym (in_unsigned_64-below n h.0)

pub in_signed_64-checked : (r : Option ℤ) (z : ℤ) → SomeIff r (FitsSigned w64 z) z → r ≡ in_signed_64 z
in_signed_64-checked None z h = sym (in_signed_64-outside z (false_from_ne_true _ (λ within. h (fits-is_signed_64 z within))))
in_signed_64-checked (Some x) z h = ap Some h.1 ∙ sym (in_signed_64-within z (is_signed_64-fits z h.0))

-- the number of the first digits and one more
pub value-take-more : (digits : List ℕ) (i : ℕ) → i < length digits → value_of_digits (take (i + 1) digits) ≡ with_digit (value_of_digits (take i digits)) (get_or digits i 0)
value-take-more digits i within = fold_more with_digit 0 digits i 0 within

-- the first digits write no larger number than all of them
pub value-take-le : (digits : List ℕ) (i : ℕ) → value_of_digits (take i digits) ≤ value_of_digits digits
value-take-le digits i =
    let parts : take i digits ++ drop i digits ≡ digits = take-append-drop i digits in
    omega (arith, le-fold (value_of_digits (take i digits)) (drop i digits), fold-append with_digit 0 (take i digits) (drop i digits), ap value_of_digits parts)

-- where the number of the first digits and one more is too large, so is the whole number
pub too_large : (digits : List ℕ) (i : ℕ) → i < length digits → ¬ (with_digit (value_of_digits (take i digits)) (get_or digits i 0) < 2 ^ 64) → ¬ (value_of_digits digits < 2 ^ 64)
too_large digits i within large small = large (omega (arith, value-take-more digits i within, value-take-le digits (i + 1)))

-- what the readers answer, by the tests that they make

pub natural_64-canonical : (bytes : List ℕ) → is_canonical bytes ≡ true → natural_64 bytes ≡ in_unsigned_64 (value_of_digits bytes)
unfolding natural_64 natural
natural_64-canonical bytes h = ap (option_and_then in_unsigned_64) (cond-true _ _ _ h)

pub natural_64-other : (bytes : List ℕ) → is_canonical bytes ≡ false → natural_64 bytes ≡ None
unfolding natural_64 natural
natural_64-other bytes h = ap (option_and_then in_unsigned_64) (cond-false _ _ _ h)

-- the number of digits after a `-`
abbrev pub negative_64 : List ℕ → Option ℤ
negative_64 bytes = option_and_then (λ n. in_signed_64 (neg_ℤ (pos n))) (positive bytes)

-- the number of digits without a `-`
abbrev pub nonnegative_64 : List ℕ → Option ℤ
nonnegative_64 bytes = option_and_then (λ n. in_signed_64 (pos n)) (natural bytes)

pub negative_64-positive : (bytes : List ℕ) → is_positive bytes ≡ true → negative_64 bytes ≡ in_signed_64 (neg_ℤ (pos (value_of_digits bytes)))
unfolding positive
negative_64-positive bytes h = ap (option_and_then (λ n. in_signed_64 (neg_ℤ (pos n)))) (cond-true _ _ _ h)

pub negative_64-other : (bytes : List ℕ) → is_positive bytes ≡ false → negative_64 bytes ≡ None
unfolding positive
negative_64-other bytes h = ap (option_and_then (λ n. in_signed_64 (neg_ℤ (pos n)))) (cond-false _ _ _ h)

pub nonnegative_64-canonical : (bytes : List ℕ) → is_canonical bytes ≡ true → nonnegative_64 bytes ≡ in_signed_64 (pos (value_of_digits bytes))
unfolding natural
nonnegative_64-canonical bytes h = ap (option_and_then (λ n. in_signed_64 (pos n))) (cond-true _ _ _ h)

pub nonnegative_64-other : (bytes : List ℕ) → is_canonical bytes ≡ false → nonnegative_64 bytes ≡ None
unfolding natural
nonnegative_64-other bytes h = ap (option_and_then (λ n. in_signed_64 (pos n))) (cond-false _ _ _ h)

pub in_signed_64-large : (n : ℕ) → ¬ (n < 2 ^ 64) → in_signed_64 (pos n) ≡ None
in_signed_64-large n large = in_signed_64-outside (pos n) (le-ltb n (2 ^ 63) (omega (arith, large)))

pub in_signed_64-large_negative : (n : ℕ) → ¬ (n < 2 ^ 64) → in_signed_64 (neg_ℤ (pos n)) ≡ None
in_signed_64-large_negative zero large = absurd (large (omega arith))
in_signed_64-large_negative (suc n) large = in_signed_64-outside (negsuc n) (le-ltb n (2 ^ 63) (omega (arith, large)))

pub number-minus : (bytes : List ℕ) → number (45 ∷ bytes) ≡ negative_64 bytes
unfolding number integer
number-minus bytes = elim (positive bytes) as (λ o. option_and_then in_signed_64 (option_map (λ n. neg_ℤ (pos n)) o) ≡ option_and_then (λ n. in_signed_64 (neg_ℤ (pos n))) o) [ None ↦ refl | Some n ↦ refl ]

pub number-plain : (b : ℕ) (bytes : List ℕ) → (b ≡ 45 → ⊥) → number (b ∷ bytes) ≡ nonnegative_64 (b ∷ bytes)
unfolding number integer
number-plain b bytes other =
    ap (option_and_then in_signed_64) (cond-false _ _ _ (ne_eqb b 45 other))
    ∙ (elim (natural (b ∷ bytes)) as (λ o. option_and_then in_signed_64 (option_map pos o) ≡ option_and_then (λ n. in_signed_64 (pos n)) o) [ None ↦ refl | Some n ↦ refl ])

-- the number of a text that is empty, that begins with `-`, and that begins otherwise

pub number-none : (bytes : List ℕ) → length bytes ≡ 0 → number bytes ≡ None
unfolding number integer
number-none [] none = refl
number-none (b ∷ bytes) none = absurd (omega arith)

pub number-negative : (bytes : List ℕ) (b : ℕ) (rest : List ℕ) → bytes ≡ b ∷ rest → b ≡ 45 → number bytes ≡ negative_64 rest
number-negative bytes b rest parts minus = ap number parts ∙ ap (λ c. number (c ∷ rest)) minus ∙ number-minus rest

pub number-nonnegative : (bytes : List ℕ) (b : ℕ) (rest : List ℕ) → bytes ≡ b ∷ rest → (b ≡ 45 → ⊥) → number bytes ≡ nonnegative_64 bytes
number-nonnegative bytes b rest parts other = ap number parts ∙ number-plain b rest other ∙ ap nonnegative_64 (sym parts)

-- what a checked operation begins with
pub zero_minus : (m n : ℕ) → m ≡ n → (pos 0 -ℤ pos m) ≡ neg_ℤ (pos n)
zero_minus m n same = omega (arith, ints)

pub zero_plus : (m n : ℕ) → m ≡ n → (pos 0 +ℤ pos m) ≡ pos n
zero_plus m n same = omega (arith, ints)
