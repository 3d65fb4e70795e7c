-- Where a place is among records in scan order. No public clause cites this module.
use Rattle.std.specs.Prelude.{◌≡◌, ℕ, ◌<◌, ◌≤◌, List, length, take, drop}
use Rattle.std.specs.List.{All, HoldsAt}
use Rattle.std.specs.declared.cmp.Ordering.TheVariants.{Less}
use Rattle.cl_types.specs.Places.{Place}
use Rattle.cl_store.specs.declared.item.Item.{Item}
use Rattle.cl_store.specs.ScanOrder.{scan_order}
use Rattle.cl_store.specs.Items.{place_of}

-- the record at an index has the place
pub record IsFoundAt (items : List Item) (place : Place) (at : ℕ) : Type 0 where
  pub in_range : at < length items
  pub has_place : HoldsAt (λ item. place_of item ≡ place) items at

-- the place belongs at an index: the records before it come before the place, and the others after it
pub record BelongsAt (items : List Item) (place : Place) (at : ℕ) : Type 0 where
  pub in_range : at ≤ length items
  pub before : All (λ item. scan_order (place_of item) place ≡ Less) (take at items)
  pub after : All (λ item. scan_order place (place_of item) ≡ Less) (drop at items)
