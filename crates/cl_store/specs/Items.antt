-- What records say.
use Rattle.std.specs.Prelude.{ℕ, ◌≤◌, Bool, if◌then◌else◌, List, [], ◌∷◌, map, take, Option, Some, None, is_some}
use Rattle.std.specs.List.{All, filter, count_by}
use Rattle.std.specs.List.Sorted.{IsStrictlySortedBy}
use Rattle.std.specs.Option.{option_map}
use Rattle.std.specs.Ordering.{is_lt}
use Rattle.std.specs.Borrow.{Bor}
use Rattle.cl_types.specs.Places.{Place, Stored, same_place}
use Rattle.cl_store.specs.declared.item.Item.{Item}
use Rattle.cl_store.specs.ScanOrder.{scan_order}

-- the place of a record
abbrev pub place_of : Item → Place
place_of item = (item.table, item.key)

-- what stands at a place, by the first record with that place: number 0 and no value where there is none
unfoldable pub stored_at : List Item → Place → Stored
stored_at [] place = (0, None)
stored_at (item ∷ items) place = if same_place (place_of item) place then (item.number, item.value) else stored_at items place

-- each record comes in scan order before those that follow it
abbrev pub IsInScanOrder : List Item → Type 0
IsInScanOrder items = IsStrictlySortedBy scan_order (map place_of items)

-- each record was written
abbrev pub IsWritten : List Item → Type 0
IsWritten items = All (λ item. 1 ≤ item.number) items

-- the record comes after the place in scan order
abbrev pub comes_after : Place → Item → Bool
comes_after place item = is_lt (scan_order place (place_of item))

-- the records after a place, or all of them where there is no place
abbrev pub records_after : List Item → Option Place → List Item
records_after items None = items
records_after items (Some place) = filter (comes_after place) items

-- a place whose table and key are pointed to
abbrev pub place_read : Option (Bor (List ℕ) × Bor (List ℕ)) → Option Place
place_read after = option_map (λ place. (place.0.now, place.1.now)) after

-- the first of the records after a place, at most so many
abbrev pub scanned : List Item → Option Place → ℕ → List Item
scanned items after max = take max (records_after items after)

-- how many records have a value
abbrev pub live : List Item → ℕ
live items = count_by (λ item. is_some item.value) items
