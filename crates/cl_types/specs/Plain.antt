-- The plain operation: what an operation replies on the value at its place, and the value that it leaves there.
use Rattle.std.specs.Prelude.{ℕ, List, if◌then◌else◌, Option, Some, None, ℤ, pos, ◌+ℤ◌}
use Rattle.std.specs.Fmt.{signed_decimal}
use Rattle.cl_types.specs.declared.operations.Op.{Op}
use Rattle.cl_types.specs.declared.operations.Op.TheVariants.{Get, Put, Del, Add}
use Rattle.cl_types.specs.declared.answers.Reply.{Reply}
use Rattle.cl_types.specs.declared.answers.Reply.TheVariants.{Stored, Found, Absent, Sum, NotNumber, OutOfRange}
use Rattle.cl_types.specs.Decimal.{number, is_signed_64}

-- the number that an addition begins with: 0 where there is no value, and none where the value is no number
abbrev pub augend : Option (List ℕ) → Option ℤ
augend None = Some (pos 0)
augend (Some x) = number x

-- the reply to an addition that makes this sum
abbrev pub sum_reply : ℤ → Reply
sum_reply sum = if is_signed_64 sum then Sum sum else OutOfRange

-- the value after an addition that makes this sum
abbrev pub sum_value : Option (List ℕ) → ℤ → Option (List ℕ)
sum_value old sum = if is_signed_64 sum then Some (signed_decimal sum) else old

-- the reply to an addition: no number there, a sum outside signed 64 bits, or the sum
abbrev pub add_reply : Option ℤ → ℤ → Reply
add_reply None amount = NotNumber
add_reply (Some number) amount = sum_reply (number +ℤ amount)

-- the value after an addition: the sum's canonical text, or the old value where there is no such sum
abbrev pub add_value : Option (List ℕ) → Option ℤ → ℤ → Option (List ℕ)
add_value old None amount = old
add_value old (Some number) amount = sum_value old (number +ℤ amount)

-- the reply of an operation, by the value at its place
abbrev pub plain_reply : Op → Option (List ℕ) → Reply
plain_reply Get (Some x) = Found x
plain_reply Get None = Absent
plain_reply (Put y) old = Stored
plain_reply Del (Some x) = Stored
plain_reply Del None = Absent
plain_reply (Add amount) old = add_reply (augend old) amount

-- the value that an operation leaves at its place
abbrev pub plain_value : Op → Option (List ℕ) → Option (List ℕ)
plain_value Get old = old
plain_value (Put y) old = Some y
plain_value Del old = None
plain_value (Add amount) old = add_value old (augend old) amount
