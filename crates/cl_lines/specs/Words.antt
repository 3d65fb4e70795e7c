-- The words of a line.
use Rattle.std.specs.Prelude.{ℕ, Bool, List, [], length, ◌==◌, Option, Some, None}
use Rattle.std.specs.List.{slice_split}

-- a line cut at each blank: two blanks in a row have an empty word between them, and an empty line is one empty word
unfoldable pub words : List ℕ → List (List ℕ)
words line = slice_split (λ byte. byte == 32) line

-- whether a word is empty
abbrev pub is_empty : List ℕ → Bool
is_empty word = length word == 0

-- the words of what stands after a blank, where there is one
abbrev pub words_after : Option (List ℕ) → List (List ℕ)
words_after None = []
words_after (Some line) = words line
