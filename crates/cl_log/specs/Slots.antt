-- What a log keeps beside its records, so that it finds those of a transaction. No public clause cites this module.
use Rattle.std.specs.Prelude.{◌≡◌, ℕ, Bool, List, [], ◌∷◌, ◌++◌, map, reverse, filter, Option}
use Rattle.cl_types.specs.declared.operations.TxnId.{TxnId}
use Rattle.cl_log.specs.declared.records.LogRec.{LogRec}
use Rattle.cl_log.specs.declared.slots.Slot.{Slot}
use Rattle.cl_log.specs.LogEntry.{LogEntry, numbered}
use Rattle.cl_log.specs.Kind.{txn_of, is_of}
use Rattle.cl_log.specs.Rest.{is_undone, first_number}

-- the records of slots
abbrev pub contents : List Slot → List LogRec
contents slots = map (λ slot. slot.content) slots

-- the records of slots, numbered from a first number on
abbrev pub listed : ℕ → List Slot → List LogEntry
listed first slots = numbered first (contents slots)

-- the number of the last of these entries that passes
abbrev pub last_that : (LogEntry → Bool) → List LogEntry → Option ℕ
last_that test entries = first_number (reverse (filter test entries))

-- the number of the last record of a transaction
abbrev pub last_of : List LogEntry → TxnId → Option ℕ
last_of entries txn = last_that (λ entry. is_of txn entry.content) entries

-- of each entry, after those seen, the number of the last record before it of its transaction
abbrev pub previous_after : List LogEntry → List LogEntry → List (Option ℕ)
previous_after seen [] = []
previous_after seen (entry ∷ entries) = last_of seen (txn_of entry.content) ∷ previous_after (seen ++ entry ∷ []) entries

-- the slots name, of each record, the last one before it of its transaction
abbrev pub KnowPrevious : List Slot → List LogEntry → Type 0
KnowPrevious slots entries = map (λ slot. slot.previous) slots ≡ previous_after [] entries

-- the slots know which numbers are undone
abbrev pub KnowUndone : List Slot → List LogEntry → Type 0
KnowUndone slots entries = map (λ slot. slot.is_undone) slots ≡ map (λ entry. is_undone entries entry.number) entries

-- a slot is that of a number
pub record IsSlotOf (entries : List LogEntry) (number : ℕ) (slot : Slot) : Type 0 where
  pub content : (before : List LogEntry) (entry : LogEntry) (after : List LogEntry) → entries ≡ before ++ entry ∷ after → entry.number ≡ number → slot.content ≡ entry.content
  pub previous : (before : List LogEntry) (entry : LogEntry) (after : List LogEntry) → entries ≡ before ++ entry ∷ after → entry.number ≡ number → slot.previous ≡ last_of before (txn_of entry.content)
  pub undone : slot.is_undone ≡ is_undone entries number
