-- Which write of a transaction a compensation undoes, and what is lawful of a record after those before it.
use Rattle.std.specs.Prelude.{◌≡◌, ℕ, Bool, true, false, ◌⊎◌, List, [], ◌∷◌}
use Rattle.cl_types.specs.declared.operations.TxnId.{TxnId}
use Rattle.cl_types.specs.Modes.{is_conflict}
use Rattle.cl_types.specs.Places.{Place}
use Rattle.cl_log.specs.declared.records.LogRec.{LogRec}
use Rattle.cl_log.specs.declared.records.LogRec.TheVariants.{Decide}
use Rattle.cl_log.specs.LogEntry.{LogEntry, EachAfter}
use Rattle.cl_log.specs.Kind.{txn_of, number_before, undoes, is_end, can_be_undone}
use Rattle.cl_log.specs.Locks.{mode_at, locks_of_log}
use Rattle.cl_log.specs.Open.{has_ended, is_among}
use Rattle.cl_log.specs.Rest.{rest_to_undo, undo_of}
use Rattle.cl_log.specs.Settled.{IsReversible}
use Rattle.cl_log.specs.Store.{CarriesNumberBefore}

-- a record undoes the first of the rest of its transaction
pub record UndoesFirst (seen : List LogEntry) (content : LogRec) : Type 0 where
  pub first : LogEntry
  pub others : List LogEntry
  pub is_first : rest_to_undo seen (txn_of content) ≡ first ∷ others
  pub is_undo : content ≡ undo_of first.content first.number (number_before content)

-- each compensation of the log undoes the first of the rest of its transaction
abbrev pub UndoesInOrder : List LogEntry → Type 0
UndoesInOrder entries = EachAfter (λ seen entry. (number : ℕ) → undoes number entry.content ≡ true → UndoesFirst seen entry.content) [] entries

-- it is a Decide
abbrev pub is_decide : LogRec → Bool
is_decide (Decide txn) = true
is_decide content = false

-- a record is lawful after those seen, under a history
pub record IsLawful (history : List TxnId) (seen : List LogEntry) (entry : LogEntry) : Type 0 where
  -- its transaction has not ended, unless it is a Decide
  pub unended : is_decide entry.content ≡ false → has_ended seen (txn_of entry.content) ≡ false
  -- a write carries the state number that its record had before it
  pub carries : CarriesNumberBefore seen entry
  -- its lock conflicts with no lock of another transaction
  pub free : (other : TxnId) (place : Place) → is_conflict (mode_at place entry.content) (locks_of_log seen other place) ≡ true → other ≡ txn_of entry.content
  -- undoing a Set or Add gives back what stood before it
  pub reversible : can_be_undone entry.content ≡ true → IsReversible seen entry.content
  -- a compensation undoes the first of the rest of its transaction
  pub in_order : (number : ℕ) → undoes number entry.content ≡ true → UndoesFirst seen entry.content
  -- an End is of a member of the history, or of a transaction with nothing left to undo
  pub settles : is_end entry.content ≡ true → (is_among (txn_of entry.content) history ≡ true) ⊎ (rest_to_undo seen (txn_of entry.content) ≡ [])

-- each record of the log is lawful after those before it
abbrev pub IsLawfulLog : List TxnId → List LogEntry → Type 0
IsLawfulLog history entries = EachAfter (IsLawful history) [] entries

-- of a member of the history nothing is lost but its Ends
abbrev pub LosesEndsOfMembers : List TxnId → List LogEntry → Type 0
LosesEndsOfMembers history lost = EachAfter (λ _ entry. is_among (txn_of entry.content) history ≡ true → is_end entry.content ≡ true) [] lost
