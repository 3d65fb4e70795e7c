-- What contracts see of the map that the code keeps: a finite map from places to values.
use Rattle.std.specs.Prelude.{ℕ, List}
use Rattle.std.specs.declared.cmp.Ordering.{Ordering}
use Rattle.std.specs.Ordering.{nat_cmp, ordering_then}
use Rattle.std.specs.Cmp.Lexicographic.{slice_cmp}
use Rattle.std.specs.Coded.{Coded, coded×, coded_ℕ, coded_list}
use Rattle.std.specs.FinMap.{FinMap, get}
use Rattle.cl_types.specs.Places.{Place}
use Rattle.cl_serial.specs.PlainMap.{Values}

-- the place of this key in this table
abbrev pub place_of : List ℕ → List ℕ → Place
place_of table key = (table, key)

-- by table, and then by key, each byte by byte
abbrev pub place_cmp : Place → Place → Ordering
place_cmp a b = ordering_then (slice_cmp nat_cmp a.0 b.0) (slice_cmp nat_cmp a.1 b.1)

-- how a place is coded
abbrev pub place_code : Coded Place
place_code = coded× (coded_list coded_ℕ) (coded_list coded_ℕ)

-- what the finite map has at a place
abbrev pub value_at : FinMap place_cmp (List ℕ) → Values
value_at map place = get map place
