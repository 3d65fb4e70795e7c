-- What a call did, told from its participant before and after. No public clause cites this module.
use Rattle.std.specs.Prelude.{◌≡◌, ℕ, ◌+◌, if◌then◌else◌, List, [], ◌∷◌, ◌++◌, Option, Some, None}
use Rattle.cl_types.specs.Places.{Place, same_place}
use Rattle.cl_log.specs.declared.records.LogRec.{LogRec}
use Rattle.cl_log.specs.LogEntry.{LogEntry}
use Rattle.cl_log.specs.Log.{entries, next_number}
use Rattle.cl_log.specs.Store.{stored_after}
use Rattle.cl_locks.specs.declared.answers.Granted.{Granted}
use Rattle.cl_locks.specs.declared.answers.Granted.TheVariants.{New, Stronger, Already}
use Rattle.cl_locks.specs.Table.{grants_at}
use Rattle.cl_redo.specs.Redo.{grants_after}
use Rattle.cl_store.specs.Store.{stored}
use Rattle.cl_part.specs.declared.part.Part.{Part}

-- nothing has changed
pub record IsSame (old new : Part) : Type 0 where
  pub store : (place : Place) → stored new.store place ≡ stored old.store place
  pub log : entries new.log ≡ entries old.log
  pub next : next_number new.log ≡ next_number old.log
  pub locks : (place : Place) → grants_at new.locks place ≡ grants_at old.locks place

-- a record under the participant's next number
abbrev pub next_entry : Part → LogRec → LogEntry
next_entry part content = record { number = next_number part.log; content = content }

-- one record more was taken
pub record HasRecorded (old new : Part) (content : LogRec) : Type 0 where
  pub store : (place : Place) → stored new.store place ≡ stored_after place (stored old.store place) (next_entry old content)
  pub log : entries new.log ≡ entries old.log ++ next_entry old content ∷ []
  pub next : next_number new.log ≡ next_number old.log + 1
  pub locks : (place : Place) → grants_at new.locks place ≡ grants_after content place (grants_at old.locks place)

-- one record more, or none
abbrev pub HasRecordedOptional : Part → Part → Option LogRec → Type 0
HasRecordedOptional old new None = IsSame old new
HasRecordedOptional old new (Some content) = HasRecorded old new content

-- a record was appended, and nothing else has changed
pub record HasAppended (old new : Part) (content : LogRec) : Type 0 where
  pub store : (place : Place) → stored new.store place ≡ stored old.store place
  pub log : entries new.log ≡ entries old.log ++ next_entry old content ∷ []
  pub next : next_number new.log ≡ next_number old.log + 1
  pub locks : (place : Place) → grants_at new.locks place ≡ grants_at old.locks place

-- a record was appended, or none
abbrev pub HasAppendedOptional : Part → Part → Option LogRec → Type 0
HasAppendedOptional old new None = IsSame old new
HasAppendedOptional old new (Some content) = HasAppended old new content

-- a record was appended, and a value written under its number
pub record HasWritten (old new : Part) (own : Place) (content : LogRec) (value : Option (List ℕ)) : Type 0 where
  pub store : (place : Place) → stored new.store place ≡ (if same_place own place then (next_number old.log, value) else stored old.store place)
  pub log : entries new.log ≡ entries old.log ++ next_entry old content ∷ []
  pub next : next_number new.log ≡ next_number old.log + 1
  pub locks : (place : Place) → grants_at new.locks place ≡ grants_at old.locks place

-- what is logged of a lock that was granted: nothing where it was held already
abbrev pub touched : Granted → LogRec → Option LogRec
touched New content = Some content
touched Stronger content = Some content
touched Already content = None
