-- What an operation asks of the locks, and the log record that it leaves.
use Rattle.std.specs.Prelude.{ℕ, Bool, true, false, if◌then◌else◌, List, Option, Some, None, ℤ}
use Rattle.std.specs.Fmt.{signed_decimal}
use Rattle.cl_types.specs.declared.operations.Mode.{Mode}
use Rattle.cl_types.specs.declared.operations.Mode.TheVariants.{Shared, Exclusive}
use Rattle.cl_types.specs.declared.operations.Op.{Op}
use Rattle.cl_types.specs.declared.operations.Op.TheVariants.{Get, Put, Del, Add as PlainAdd}
use Rattle.cl_types.specs.declared.operations.TxnId.{TxnId}
use Rattle.cl_types.specs.declared.answers.Reply.{Reply}
use Rattle.cl_types.specs.declared.answers.Reply.TheVariants.{Sum}
use Rattle.cl_types.specs.Places.{Place, Stored}
use Rattle.cl_types.specs.Plain.{plain_reply}
use Rattle.cl_log.specs.declared.records.LogRec.{LogRec}
use Rattle.cl_log.specs.declared.records.LogRec.TheVariants.{Touch, Set, Add}

-- the mode in which an operation locks its place
abbrev pub mode_of : Op → Mode
mode_of Get = Shared
mode_of op = Exclusive

-- whether a lock is as strong as a mode
abbrev pub is_held : Option Mode → Mode → Bool
is_held None mode = false
is_held (Some Exclusive) mode = true
is_held (Some Shared) Shared = true
is_held (Some Shared) Exclusive = false

-- a Touch, where the transaction does not hold the lock yet
abbrev pub touch_of : TxnId → Place → Option Mode → Mode → Option LogRec
touch_of txn place held mode = if is_held held mode then None else Some (Touch txn place.0 place.1 mode)

-- the record of a removal: a Set without a value where there is one, a Touch where there is none
abbrev pub removal_of : TxnId → Place → ℕ → Option (List ℕ) → Option Mode → Option LogRec
removal_of txn place before None held = touch_of txn place held Exclusive
removal_of txn place before (Some x) held = Some (Set txn place.0 place.1 before (Some x) None)

-- the record of a sum: a Set where there was no value, an Add where there was one
abbrev pub sum_of : TxnId → Place → ℕ → Option (List ℕ) → ℤ → ℤ → LogRec
sum_of txn place before None amount sum = Set txn place.0 place.1 before None (Some (signed_decimal sum))
sum_of txn place before (Some x) amount sum = Add txn place.0 place.1 before amount

-- the record of an addition, by its reply: that of a sum, and a Touch where there is none
abbrev pub addition_of : TxnId → Place → Stored → ℤ → Reply → Option Mode → Option LogRec
addition_of txn place stored amount (Sum sum) held = Some (sum_of txn place stored.0 stored.1 amount sum)
addition_of txn place stored amount reply held = touch_of txn place held Exclusive

-- the record that an operation leaves in the log, if any, by what stands at its place and the lock that its transaction holds there
abbrev pub record_of : TxnId → Place → Op → Stored → Option Mode → Option LogRec
record_of txn place Get stored held = touch_of txn place held Shared
record_of txn place (Put y) stored held = Some (Set txn place.0 place.1 stored.0 stored.1 (Some y))
record_of txn place Del stored held = removal_of txn place stored.0 stored.1 held
record_of txn place (PlainAdd amount) stored held = addition_of txn place stored amount (plain_reply (PlainAdd amount) stored.1) held
