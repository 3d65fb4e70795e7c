-- A first part of a piece that a sink was given, where it tells its bytes; `None` tells nothing.
use Rattle.std.specs.Prelude.{◌≡◌, ℕ, ◌<◌, Option, List, length, take}
use Rattle.std.specs.Io.KnownBytes.{append_known}

-- some of these bytes were appended, from the first on, and not all of them
pub record AppendsPart (before after : Option (List ℕ)) (piece : List ℕ) : Type 0 where
  pub count : ℕ
  pub part : count < length piece
  pub appended : after ≡ append_known before (take count piece)
