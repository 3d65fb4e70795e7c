-- Canonical decimal: `0`, or an optional `-`, a digit 1 to 9, and digits.
use Rattle.std.specs.Prelude.{◌≡◌, ℕ, ◌+◌, ◌-◌, ◌*◌, ◌^◌, ◌<◌, Bool, true, false, ◌&&◌, ◌||◌, ◌==◌, nat_lt, if◌then◌else◌, List, [], ◌∷◌, fold, Option, Some, None, option_and_then, codes, ℤ, pos, negsuc, neg_ℤ}
use Rattle.std.specs.List.{list_all}
use Rattle.std.specs.Option.{option_map}
use Rattle.std.specs.Char.{is_ascii_digit}
use Rattle.std.specs.Str.{bytes_eq}
use Rattle.std.specs.Fmt.{decimal, signed_decimal}
use Rattle.cl_types.specs.Names.{is_between, is_value}

-- the number that digits write
abbrev pub value_of_digits : List ℕ → ℕ
value_of_digits digits = fold (λ number digit. 10 * number + (digit - 48)) 0 digits

-- whether a text is a digit 1 to 9, and digits
abbrev pub is_positive : List ℕ → Bool
is_positive [] = false
is_positive (b ∷ bytes) = is_between 49 57 b && list_all is_ascii_digit bytes

-- whether a text is `0`, or a digit 1 to 9, and digits
abbrev pub is_canonical : List ℕ → Bool
is_canonical bytes = bytes_eq bytes (codes "0") || is_positive bytes

-- the number that a text writes as a digit 1 to 9, and digits
unfoldable pub positive : List ℕ → Option ℕ
positive bytes = if is_positive bytes then Some (value_of_digits bytes) else None

-- the number that a text writes as `0`, or a digit 1 to 9, and digits
unfoldable pub natural : List ℕ → Option ℕ
natural bytes = if is_canonical bytes then Some (value_of_digits bytes) else None

-- the number that a text writes as `0`, or an optional `-` (45), a digit 1 to 9, and digits
unfoldable pub integer : List ℕ → Option ℤ
integer [] = None
integer (b ∷ bytes) = if b == 45 then option_map (λ n. neg_ℤ (pos n)) (positive bytes) else option_map pos (natural (b ∷ bytes))

-- a number that is below 2^64
unfoldable pub in_unsigned_64 : ℕ → Option ℕ
in_unsigned_64 n = if nat_lt n (2 ^ 64) then Some n else None

-- whether a number is within signed 64 bits
abbrev pub is_signed_64 : ℤ → Bool
is_signed_64 (pos n) = nat_lt n (2 ^ 63)
is_signed_64 (negsuc n) = nat_lt n (2 ^ 63)

-- a number that is within signed 64 bits
unfoldable pub in_signed_64 : ℤ → Option ℤ
in_signed_64 z = if is_signed_64 z then Some z else None

-- the number below 2^64 that a text writes in canonical decimal
unfoldable pub natural_64 : List ℕ → Option ℕ
natural_64 bytes = option_and_then in_unsigned_64 (natural bytes)

-- the number within signed 64 bits that a text writes in canonical decimal
unfoldable pub number : List ℕ → Option ℤ
number bytes = option_and_then in_signed_64 (integer bytes)

-- the printed text of a number is read as that number
abbrev pub PrintedIsRead : Type 0
PrintedIsRead = (z : ℤ) → is_signed_64 z ≡ true → number (signed_decimal z) ≡ Some z

-- a text that is read as a number is the printed text of that number, which is within signed 64 bits
abbrev pub ReadIsPrinted : Type 0
ReadIsPrinted = (text : List ℕ) (z : ℤ) → number text ≡ Some z → (text ≡ signed_decimal z) × (is_signed_64 z ≡ true)

-- the printed text of a number may stand as a value
abbrev pub PrintedIsValue : Type 0
PrintedIsValue = (z : ℤ) → is_signed_64 z ≡ true → is_value (signed_decimal z) ≡ true

-- the same of numbers below 2^64
abbrev pub NaturalPrintedIsRead : Type 0
NaturalPrintedIsRead = (n : ℕ) → n < 2 ^ 64 → natural_64 (decimal n) ≡ Some n

-- a text that is read as a number below 2^64 is its printed text
abbrev pub NaturalReadIsPrinted : Type 0
NaturalReadIsPrinted = (text : List ℕ) (n : ℕ) → natural_64 text ≡ Some n → (text ≡ decimal n) × (n < 2 ^ 64)
