-- A log in definitions: its records in order, each with its number.
use Rattle.std.specs.Prelude.{◌≡◌, ℕ, ◌+◌, ◌==◌, List, [], ◌∷◌, ◌++◌, Option}
use Rattle.std.specs.Option.{option_map}
use Rattle.std.specs.List.{find}
use Rattle.cl_log.specs.declared.records.LogRec.{LogRec}

-- a record with its log number
pub record LogEntry : Type 0 where
  pub number : ℕ
  pub content : LogRec

-- the records, numbered from a first number on
abbrev pub numbered : ℕ → List LogRec → List LogEntry
numbered first [] = []
numbered first (content ∷ contents) = record { number = first; content = content } ∷ numbered (first + 1) contents

-- the numbers count up by one from the first number
abbrev pub IsNumberedFrom : ℕ → List LogEntry → Type 0
IsNumberedFrom first [] = Unit {0}
IsNumberedFrom first (entry ∷ entries) = (entry.number ≡ first) × IsNumberedFrom (first + 1) entries

-- the record of a number
unfoldable pub content_at : List LogEntry → ℕ → Option LogRec
content_at entries number = option_map (λ entry. entry.content) (find (λ entry. entry.number == number) entries)

-- what holds of each entry and of those before it, after those seen
abbrev pub EachAfter : (List LogEntry → LogEntry → Type 0) → List LogEntry → List LogEntry → Type 0
EachAfter P seen [] = Unit {0}
EachAfter P seen (entry ∷ entries) = P seen entry × EachAfter P (seen ++ entry ∷ []) entries

-- the log begins with these entries
abbrev pub BeginsWith : List LogEntry → List LogEntry → Type 0
BeginsWith log front = (rest : List LogEntry) × (log ≡ front ++ rest)
