-- Names and values are short.
use Rattle.std.proofs.Common.{◌≡◌, ℕ, ◌≤◌, Bool, true, ◌&&◌, nat_le, List, length}
use Rattle.std.proofs.lemmas.Bool.{and_parts, leb-true}
use Rattle.cl_types.specs.Names.{is_between}
use Rattle.cl_fields.specs.Range.{IsTable, IsKey, IsValue}

-- a number in its range is no more than the highest
pub between_high : (low high n : ℕ) → is_between low high n ≡ true → n ≤ high
between_high low high n passes = leb-true n high (and_parts (nat_le low n) (nat_le n high) passes).1

pub between_low : (low high n : ℕ) → is_between low high n ≡ true → low ≤ n
between_low low high n passes = leb-true low n (and_parts (nat_le low n) (nat_le n high) passes).0

-- what passes two tests has a length in the range of the first
within : (low high : ℕ) (text : List ℕ) (other : Bool) → (is_between low high (length text) && other) ≡ true → length text ≤ high
within low high text other passes = between_high low high (length text) (and_parts (is_between low high (length text)) other passes).0

pub length-table : (name : List ℕ) → IsTable name → length name ≤ 8
length-table name passes = within 1 8 name _ passes

pub length-key : (name : List ℕ) → IsKey name → length name ≤ 32
length-key name passes = within 1 32 name _ passes

pub length-value : (value : List ℕ) → IsValue value → length value ≤ 128
length-value value passes = within 1 128 value _ passes

pub value_is_between : (value : List ℕ) → IsValue value → is_between 1 128 (length value) ≡ true
value_is_between value passes = (and_parts (is_between 1 128 (length value)) _ passes).0
