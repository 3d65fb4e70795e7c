-- Where a record is, and what stands there.
use Rattle.std.specs.Prelude.{ℕ, Bool, ◌&&◌, List, Option}
use Rattle.std.specs.Str.{bytes_eq}

-- a place is a table and a key
abbrev pub Place : Type 0
Place = List ℕ × List ℕ

-- whether two places are one
abbrev pub same_place : Place → Place → Bool
same_place a b = bytes_eq a.0 b.0 && bytes_eq a.1 b.1

-- what stands at a place: the state number, which is 0 where it was never written, and the value
abbrev pub Stored : Type 0
Stored = ℕ × Option (List ℕ)
