-- The order in which a scan gives records.
use Rattle.std.specs.declared.cmp.Ordering.{Ordering}
use Rattle.std.specs.Ordering.{nat_cmp, ordering_then}
use Rattle.std.specs.Cmp.Lexicographic.{slice_cmp}
use Rattle.cl_types.specs.Places.{Place}
use Rattle.cl_types.specs.Placement.{hash_of}

-- places are compared by the hash of the key, then by table, then by key, the last two byte by byte
unfoldable pub scan_order : Place → Place → Ordering
scan_order a b = ordering_then (nat_cmp (hash_of a.1) (hash_of b.1)) (ordering_then (slice_cmp nat_cmp a.0 b.0) (slice_cmp nat_cmp a.1 b.1))
