-- The lines of the bytes that are read.
use Rattle.std.specs.Prelude.{◌≡◌, ℕ, ◌+◌, ◌++◌, List, [], ◌∷◌, ◌==◌, if◌then◌else◌, take, map}
use Rattle.std.specs.List.{enumerate_from, onto_first}
use Rattle.cl_lines.specs.declared.line.TheConstants.{LINE_MAX}
use Rattle.cl_serial.specs.Transcript.{TranscriptEntry, fed_lines}

-- of a line that is too long one byte more than a line may have is kept
abbrev pub kept_line : List ℕ → List ℕ
kept_line line = take (LINE_MAX + 1) line

-- each line ends at a newline byte, or at the end where it is not empty
unfoldable pub whole_lines : List ℕ → List (List ℕ)
whole_lines [] = []
whole_lines (byte ∷ bytes) = if byte == 10 then [] ∷ whole_lines bytes else onto_first byte (whole_lines bytes)

-- the lines of the bytes, as they are fed: numbered from 1
abbrev pub lines_of : List ℕ → List (ℕ × List ℕ)
lines_of bytes = enumerate_from 1 (map kept_line (whole_lines bytes))

-- the lines that were fed are the first lines of the bytes
abbrev pub FeedsFirstLines : List TranscriptEntry → List ℕ → Type 0
FeedsFirstLines transcript bytes = (rest : List (ℕ × List ℕ)) × (lines_of bytes ≡ fed_lines transcript ++ rest)
