-- A number and its printed text determine each other.
use Rattle.std.proofs.Common.{◌≡◌, ℕ, zero, suc, ◌+◌, ◌-◌, ◌*◌, ◌^◌, ◌<◌, ◌≤◌, true, false, ◌&&◌, ◌==◌, nat_le, codes, List, [], ◌∷◌, length, get_or, fold, Some, ℤ, pos, negsuc, neg_ℤ, refl, sym, ap, ◌∙◌, ⊎_elim, arith, rules}
use Rattle.std.specs.List.{list_all}
use Rattle.std.specs.Char.{is_ascii_digit, is_ascii_graphic}
use Rattle.std.specs.Str.{bytes_eq}
use Rattle.std.specs.Fmt.{decimal, signed_decimal}
use Rattle.std.proofs.lemmas.Bool.{and_parts, and_from, or_cases, or_right, le-leb, leb-true, ltb-true, eqb-true, cases_Bool, cases_eq, cases_lt, false≢true}
use Rattle.std.proofs.lemmas.Fmt.{decimal_digit, first_decimal, digits_decimal, digits_value-decimal, decimal-digits_value, length-decimal-le, decimal_nonempty}
use Rattle.std.proofs.lemmas.Str.Parse.{IsNumeralModel, FoldsDigits, numerals_by_fold}
use Rattle.std.proofs.lemmas.Option.{same_Some, none-some}
use Rattle.cl_types.specs.Names.{is_value, is_between}
use Rattle.cl_types.specs.Decimal.{value_of_digits, in_unsigned_64, in_signed_64, is_signed_64, is_positive, is_canonical, natural_64, number}
use Rattle.cl_types.proofs.Digits.{with_digit, le-fold, in_unsigned_64-below, in_unsigned_64-above, in_signed_64-within, in_signed_64-outside, natural_64-canonical, natural_64-other, negative_64, negative_64-positive, negative_64-other, nonnegative_64, nonnegative_64-canonical, nonnegative_64-other, number-none, number-minus, number-plain}

folds : FoldsDigits (λ n digits. fold with_digit n digits)
folds = search rules

-- digits and their number as std's text of a number has them
own : IsNumeralModel (λ digits. list_all is_ascii_digit digits ≡ true) value_of_digits
own = numerals_by_fold _ (search rules) (λ n digits. fold with_digit n digits) folds

-- printed texts are canonical

is_positive-from_digits : (digits : List ℕ) → list_all is_ascii_digit digits ≡ true → 48 < get_or digits 0 0 → is_positive digits ≡ true
is_positive-from_digits [] all first = absurd (omega arith)
is_positive-from_digits (b ∷ bytes) all first =
    let parts = and_parts (is_ascii_digit b) (list_all is_ascii_digit bytes) all in
    let most = and_parts (nat_le 48 b) (nat_le b 57) parts.0 in
    and_from _ _ (and_from _ _ (le-leb 49 b (omega arith)) most.1) parts.1

pub is_positive-decimal : (n : ℕ) → 0 < n → n < 2 ^ 64 → is_positive (decimal n) ≡ true
is_positive-decimal n some small = is_positive-from_digits (decimal n) (digits_decimal own n small) (first_decimal n some small)

pub is_canonical-decimal : (n : ℕ) → n < 2 ^ 64 → is_canonical (decimal n) ≡ true
is_canonical-decimal zero small = ap is_canonical (decimal_digit 0 (omega arith))
is_canonical-decimal (suc n) small = or_right _ _ (is_positive-decimal (suc n) (omega arith) small)

pub value-decimal : (n : ℕ) → n < 2 ^ 64 → value_of_digits (decimal n) ≡ n
value-decimal n small = digits_value-decimal own n small

-- canonical texts are printed

-- digits with no idle zero in front
record IsNumeral (text : List ℕ) : Type 0 where
  digits : list_all is_ascii_digit text ≡ true
  some : 0 < length text
  lead : get_or text 0 0 ≡ 48 → length text ≡ 1

is_zero-numeral : (text : List ℕ) → bytes_eq text (codes "0") ≡ true → IsNumeral text
is_zero-numeral [] same = absurd (false≢true same)
is_zero-numeral (b ∷ []) same = let is : b ≡ 48 = eqb-true b 48 (and_parts (b == 48) true same).0 in record { digits = ap (λ c. is_ascii_digit c && true) is; some = omega arith; lead = λ _. refl }
is_zero-numeral (b ∷ c ∷ text) same = absurd (false≢true (and_parts (b == 48) false same).1)

is_positive-numeral : (text : List ℕ) → is_positive text ≡ true → IsNumeral text
is_positive-numeral [] positive = absurd (false≢true positive)
is_positive-numeral (b ∷ text) positive =
    let parts = and_parts (is_between 49 57 b) (list_all is_ascii_digit text) positive in
    let range = and_parts (nat_le 49 b) (nat_le b 57) parts.0 in
    let low : 49 ≤ b = leb-true 49 b range.0 in
    record { digits = and_from _ _ (and_from _ _ (le-leb 48 b (omega arith)) range.1) parts.1; some = omega arith; lead = λ e. absurd (omega arith) }

is_canonical-numeral : (text : List ℕ) → is_canonical text ≡ true → IsNumeral text
is_canonical-numeral text canonical = ⊎_elim (is_zero-numeral text) (is_positive-numeral text) (or_cases _ _ canonical)

decimal-value : (text : List ℕ) → IsNumeral text → value_of_digits text < 2 ^ 64 → decimal (value_of_digits text) ≡ text
decimal-value text numeral small = decimal-digits_value own text numeral.digits numeral.some numeral.lead small

-- a positive number is not 0
some-value : (text : List ℕ) → is_positive text ≡ true → 0 < value_of_digits text
some-value [] positive = absurd (false≢true positive)
some-value (b ∷ text) positive =
    let low : 49 ≤ b = leb-true 49 b (and_parts (nat_le 49 b) (nat_le b 57) (and_parts (is_between 49 57 b) (list_all is_ascii_digit text) positive).0).0 in
    omega (arith, le-fold (10 * 0 + (b - 48)) text)

-- the laws of numbers below 2^64

pub natural_64-decimal : (n : ℕ) → n < 2 ^ 64 → natural_64 (decimal n) ≡ Some n
natural_64-decimal n small =
    natural_64-canonical _ (is_canonical-decimal n small) ∙ ap in_unsigned_64 (value-decimal n small) ∙ in_unsigned_64-below n small

in_unsigned_64-Some : (m n : ℕ) → in_unsigned_64 m ≡ Some n → (m ≡ n) × (m < 2 ^ 64)
in_unsigned_64-Some m n e = ⊎_elim
    (λ below. (same_Some m n (sym (in_unsigned_64-below m below) ∙ e), below))
    (λ above. absurd (none-some n (sym (in_unsigned_64-above m above) ∙ e)))
    (cases_lt m (2 ^ 64))

pub natural_64-text : (text : List ℕ) (n : ℕ) → natural_64 text ≡ Some n → (text ≡ decimal n) × (n < 2 ^ 64)
natural_64-text text n e = ⊎_elim
    (λ yes. let v = in_unsigned_64-Some (value_of_digits text) n (sym (natural_64-canonical text yes) ∙ e) in
    (sym (decimal-value text (is_canonical-numeral text yes) v.1) ∙ ap decimal v.0, omega (arith, v)))
    (λ no. absurd (none-some n (sym (natural_64-other text no) ∙ e)))
    (cases_Bool (is_canonical text))

-- the laws of numbers within signed 64 bits

in_signed_64-Some : (y z : ℤ) → in_signed_64 y ≡ Some z → (y ≡ z) × (is_signed_64 y ≡ true)
in_signed_64-Some y z e = ⊎_elim
    (λ yes. (same_Some y z (sym (in_signed_64-within y yes) ∙ e), yes))
    (λ no. absurd (none-some z (sym (in_signed_64-outside y no) ∙ e)))
    (cases_Bool (is_signed_64 y))

number-digits : (text : List ℕ) → is_canonical text ≡ true → number text ≡ in_signed_64 (pos (value_of_digits text))
number-digits [] canonical = absurd (false≢true canonical)
number-digits (b ∷ text) canonical =
    let all = (is_canonical-numeral (b ∷ text) canonical).digits in
    let low : 48 ≤ b = leb-true 48 b (and_parts (nat_le 48 b) (nat_le b 57) (and_parts (is_ascii_digit b) (list_all is_ascii_digit text) all).0).0 in
    number-plain b text (λ e. omega arith) ∙ nonnegative_64-canonical _ canonical

pub number-signed_decimal : (z : ℤ) → is_signed_64 z ≡ true → number (signed_decimal z) ≡ Some z
number-signed_decimal (pos n) within =
    let small : n < 2 ^ 64 = omega (arith, ltb-true n (2 ^ 63) within) in
    number-digits _ (is_canonical-decimal n small) ∙ ap (λ m. in_signed_64 (pos m)) (value-decimal n small) ∙ in_signed_64-within (pos n) within
number-signed_decimal (negsuc n) within =
    let small : suc n < 2 ^ 64 = omega (arith, ltb-true n (2 ^ 63) within) in
    number-minus (decimal (suc n))
    ∙ negative_64-positive _ (is_positive-decimal (suc n) (omega arith) small)
    ∙ ap (λ m. in_signed_64 (neg_ℤ (pos m))) (value-decimal (suc n) small)
    ∙ in_signed_64-within (negsuc n) within

nonnegative-text : (text : List ℕ) (z : ℤ) → nonnegative_64 text ≡ Some z → (text ≡ signed_decimal z) × (is_signed_64 z ≡ true)
nonnegative-text text z e = ⊎_elim
    (λ yes. let v = in_signed_64-Some (pos (value_of_digits text)) z (sym (nonnegative_64-canonical text yes) ∙ e) in
    let small : value_of_digits text < 2 ^ 64 = omega (arith, ltb-true (value_of_digits text) (2 ^ 63) v.1) in
    (sym (decimal-value text (is_canonical-numeral text yes) small) ∙ ap signed_decimal v.0, sym (ap is_signed_64 v.0) ∙ v.1))
    (λ no. absurd (none-some z (sym (nonnegative_64-other text no) ∙ e)))
    (cases_Bool (is_canonical text))

signed_decimal-negative : (n : ℕ) → 0 < n → signed_decimal (neg_ℤ (pos n)) ≡ 45 ∷ decimal n
signed_decimal-negative zero some = absurd (omega arith)
signed_decimal-negative (suc n) some = refl

small-negative : (n : ℕ) → is_signed_64 (neg_ℤ (pos n)) ≡ true → n < 2 ^ 64
small-negative zero within = omega arith
small-negative (suc n) within = omega (arith, ltb-true n (2 ^ 63) within)

negative-text : (text : List ℕ) (z : ℤ) → negative_64 text ≡ Some z → ((45 ∷ text) ≡ signed_decimal z) × (is_signed_64 z ≡ true)
negative-text text z e = ⊎_elim
    (λ yes. let v = in_signed_64-Some (neg_ℤ (pos (value_of_digits text))) z (sym (negative_64-positive text yes) ∙ e) in
    let small = small-negative (value_of_digits text) v.1 in (
      ap (λ t. 45 ∷ t) (sym (decimal-value text (is_positive-numeral text yes) small))
          ∙ sym (signed_decimal-negative (value_of_digits text) (some-value text yes))
          ∙ ap signed_decimal v.0,
      sym (ap is_signed_64 v.0) ∙ v.1,
    ))
    (λ no. absurd (none-some z (sym (negative_64-other text no) ∙ e)))
    (cases_Bool (is_positive text))

pub number-text : (text : List ℕ) (z : ℤ) → number text ≡ Some z → (text ≡ signed_decimal z) × (is_signed_64 z ≡ true)
number-text [] z e = absurd (none-some z (sym (number-none [] (omega arith)) ∙ e))
number-text (b ∷ text) z e = ⊎_elim
    (λ minus. let was : number (45 ∷ text) ≡ Some z = ap (λ c. number (c ∷ text)) (sym minus) ∙ e in
    let p = negative-text text z (sym (number-minus text) ∙ was) in
    (ap (λ c. c ∷ text) minus ∙ p.0, p.1))
    (λ other. nonnegative-text (b ∷ text) z (sym (number-plain b text other) ∙ e))
    (cases_eq b 45)

-- printed numbers may stand as values

digit-graphic : (b : ℕ) → is_ascii_digit b ≡ true → is_ascii_graphic b ≡ true
digit-graphic b digit =
    let range = and_parts (nat_le 48 b) (nat_le b 57) digit in
    and_from _ _ (le-leb 33 b (omega (arith, leb-true 48 b range.0))) (le-leb b 126 (omega (arith, leb-true b 57 range.1)))

digits-graphic : (digits : List ℕ) → list_all is_ascii_digit digits ≡ true → list_all is_ascii_graphic digits ≡ true
digits-graphic [] all = refl
digits-graphic (b ∷ digits) all = let parts = and_parts (is_ascii_digit b) (list_all is_ascii_digit digits) all in and_from _ _ (digit-graphic b parts.0) (digits-graphic digits parts.1)

is_value-from : (text : List ℕ) → 0 < length text → length text ≤ 128 → list_all is_ascii_graphic text ≡ true → is_value text ≡ true
is_value-from text some short all = and_from _ _ (and_from _ _ (le-leb 1 (length text) (omega arith)) (le-leb (length text) 128 short)) all

pub is_value-signed_decimal : (z : ℤ) → is_signed_64 z ≡ true → is_value (signed_decimal z) ≡ true
is_value-signed_decimal (pos n) within =
    let small : n < 2 ^ 64 = omega (arith, ltb-true n (2 ^ 63) within) in
    is_value-from (decimal n) (decimal_nonempty n small) (omega (arith, length-decimal-le 20 n (omega arith) (omega arith) small)) (digits-graphic (decimal n) (digits_decimal own n small))
is_value-signed_decimal (negsuc n) within =
    let small : suc n < 2 ^ 64 = omega (arith, ltb-true n (2 ^ 63) within) in
    is_value-from (45 ∷ decimal (suc n)) (omega arith) (omega (arith, length-decimal-le 20 (suc n) (omega arith) (omega arith) small)) (digits-graphic (decimal (suc n)) (digits_decimal own (suc n) small))
