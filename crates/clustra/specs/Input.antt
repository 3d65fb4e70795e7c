-- The limits of the input.
use Rattle.std.specs.Prelude.{◌≡◌, ℕ, ◌+◌, ◌<◌, ◌≤◌, ◌⊎◌, List, length, take, Option}
use Rattle.std.specs.Io.KnownBytes.{prepend_known}
use Rattle.cl_serial.specs.Bytes.{whole_lines}
use Rattle.clustra.specs.declared.limits.TheConstants.{LINES_MAX, BYTES_MAX, PIECE_MAX}

-- there is a line or a byte too many
abbrev pub IsTooMuch : List ℕ → Type 0
IsTooMuch bytes = (LINES_MAX < length (whole_lines bytes)) ⊎ (BYTES_MAX < length bytes)

-- the last piece made it too much
pub record LastPieceIsTooMuch (bytes : List ℕ) : Type 0 where
  -- how many bytes stand before it
  pub before : ℕ
  pub some : before < length bytes
  pub at_most : length bytes ≤ before + PIECE_MAX
  pub within_limits : IsTooMuch (take before bytes) → ⊥

-- these bytes were read; where the source tells its bytes, they are those that it gave
pub record ReadsBytes (before after : Option (List ℕ)) (read : List ℕ) : Type 0 where
  pub taken : before ≡ prepend_known read after
  -- no further than one byte past the limit
  pub within : length read ≤ BYTES_MAX + 1
  -- and no further than the piece that makes it too much
  pub stops : IsTooMuch read → LastPieceIsTooMuch read
