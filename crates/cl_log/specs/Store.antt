-- The store of a log, and redo by guard.
use Rattle.std.specs.Prelude.{◌≡◌, ℕ, true, ◌&&◌, ◌==◌, nat_lt, if◌then◌else◌, List, [], ◌++◌, Option, None, ℤ, neg_ℤ, fold}
use Rattle.cl_types.specs.Plain.{plain_value}
use Rattle.cl_types.specs.declared.operations.Op.TheVariants.{Add as PlainAdd}
use Rattle.cl_types.specs.Places.{Place, Stored}
use Rattle.cl_log.specs.declared.records.Form.{Form}
use Rattle.cl_log.specs.declared.records.Form.TheVariants.{Image, Amount}
use Rattle.cl_log.specs.declared.records.LogRec.{LogRec}
use Rattle.cl_log.specs.declared.records.LogRec.TheVariants.{Set, Add, Comp}
use Rattle.cl_log.specs.LogEntry.{LogEntry, EachAfter, BeginsWith}
use Rattle.cl_log.specs.Kind.{writes, number_before}

-- a value less an amount: an absent value counts as 0, and what is no number, or would be out of range, stays
abbrev pub less : ℤ → Option (List ℕ) → Option (List ℕ)
less amount value = plain_value (PlainAdd (neg_ℤ amount)) value

-- what a compensation makes of a value
abbrev pub form_value : Form → Option (List ℕ) → Option (List ℕ)
form_value (Image image) value = image
form_value (Amount amount) value = less amount value

-- what a write makes of the value: a Set its new image, an Add the sum, a Comp its image or the value less its amount
abbrev pub value_after : LogRec → Option (List ℕ) → Option (List ℕ)
value_after (Set txn table key before old new) value = new
value_after (Add txn table key before amount) value = plain_value (PlainAdd amount) value
value_after (Comp txn table key before undone form) value = form_value form value
value_after content value = value

-- what stands at a place after a write there
abbrev pub written : LogEntry → Stored → Stored
written entry stored = (entry.number, value_after entry.content stored.1)

-- what stands at a place after one more record
abbrev pub stored_after : Place → Stored → LogEntry → Stored
stored_after place stored entry = if writes place entry.content then written entry stored else stored

-- the store of a log: at each place what its writes left there
unfoldable pub store_of_log : List LogEntry → Place → Stored
store_of_log entries place = fold (stored_after place) (0, None) entries

-- redo by guard: a write is applied exactly where the stored number is the one that its record had before it
abbrev pub redo_by_guard : Place → Stored → LogEntry → Stored
redo_by_guard place stored entry =
    if writes place entry.content && (stored.0 == number_before entry.content) then written entry stored else stored

-- what stands at a place after redoing records by guard
unfoldable pub redone : List LogEntry → Place → Stored → Stored
redone entries place stored = fold (redo_by_guard place) stored entries

-- of two states of a record the one with the greater number
abbrev pub later : Stored → Stored → Stored
later a b = if nat_lt a.0 b.0 then b else a

-- at each place what the log left there at some moment after its first entries
abbrev pub IsCopyAfter : List LogEntry → List LogEntry → (Place → Stored) → Type 0
IsCopyAfter log front copy =
    (place : Place) → (more : List LogEntry) × BeginsWith log (front ++ more) × (copy place ≡ store_of_log (front ++ more) place)

-- a write carries the state number that its record had before it
abbrev pub CarriesNumberBefore : List LogEntry → LogEntry → Type 0
CarriesNumberBefore seen entry =
    (place : Place) → writes place entry.content ≡ true → (store_of_log seen place).0 ≡ number_before entry.content

-- each write of the log does
abbrev pub IsConsistentLog : List LogEntry → Type 0
IsConsistentLog entries = EachAfter CarriesNumberBefore [] entries
