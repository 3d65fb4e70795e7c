-- What contracts see of an arena.
use Rattle.std.specs.Prelude.{◌≡◌, ◌≢◌, ℕ, ◌<◌, List, length, Option, Some, None, IsSome, IsTrue, slice_index_or}
use Rattle.std.specs.List.{filter_map}
use Rattle.cl_lists.specs.declared.arena.Arena.{Arena}
use Rattle.cl_lists.specs.declared.slots.Side.{Side}
use Rattle.cl_lists.specs.declared.slots.Side.TheVariants.{X, Y}
use Rattle.cl_lists.specs.Sides.{on_side}
use Rattle.cl_lists.specs.SlotList.{IsOn, is_distinct}
use Rattle.cl_lists.specs.Lists.{list_at, appended, removed}
use Rattle.cl_lists.specs.Entries.{lists_on_side, items, free_count}

module _ {T : Type 0} where
  -- the lists of a side, by their numbers: each has its slots, first to last
  unfoldable pub lists_on : Arena T → Side → List (List ℕ)
  lists_on arena X = lists_on_side X arena.slots.items arena.x_ends.items
  lists_on arena Y = lists_on_side Y arena.slots.items arena.y_ends.items

  -- the list of a number, which is empty where there is no such list
  abbrev pub list_of : Arena T → Side → ℕ → List ℕ
  list_of arena side list = list_at (lists_on arena side) list

  -- how many lists a side has
  abbrev pub list_count : Arena T → Side → ℕ
  list_count arena side = length (lists_on arena side)

  -- the item that a slot has
  unfoldable pub item_at : Arena T → ℕ → Option T
  item_at arena slot = slice_index_or (items arena.slots.items) slot None

  -- a slot is in use while it has an item
  abbrev pub IsInUse : Arena T → ℕ → Type 0
  IsInUse arena slot = IsSome (item_at arena slot)

  -- the items on a list, first to last
  abbrev pub items_on : Arena T → Side → ℕ → List T
  items_on arena side list = filter_map (item_at arena) (list_of arena side list)

  -- how many more items there is room for
  unfoldable pub free_slots : Arena T → ℕ
  free_slots arena = free_count arena.slots.items

  -- each slot in use is on one list of the side, once, and no other slot is on any
  pub record IsPlaced (arena : Arena T) (side : Side) : Type 0 where
    pub once : (list : ℕ) → IsTrue (is_distinct (list_of arena side list))
    pub in_use : (list slot : ℕ) → IsOn (list_of arena side list) slot → IsInUse arena slot
    pub on_one : (list other slot : ℕ) → IsOn (list_of arena side list) slot → IsOn (list_of arena side other) slot → list ≡ other
    pub on_some : (slot : ℕ) → IsInUse arena slot → (list : ℕ) × (list < list_count arena side) × IsOn (list_of arena side list) slot

  -- the slot has this, and every other slot has what it had
  pub record Updates (old new : Arena T) (slot : ℕ) (content : Option T) : Type 0 where
    pub changed : item_at new slot ≡ content
    pub others : (other : ℕ) → other ≢ slot → item_at new other ≡ item_at old other

  -- a slot that was not in use has the item, and is last on list x of side X and on list y of side Y
  pub record Pushes (old new : Arena T) (x y slot : ℕ) (item : T) : Type 0 where
    pub fresh : item_at old slot ≡ None
    pub updates : Updates old new slot (Some item)
    pub lists : (side : Side) → lists_on new side ≡ appended (lists_on old side) (on_side side x y) slot

  -- the slot had the item, and has left its lists
  pub record Unlinks (old new : Arena T) (slot : ℕ) (item : T) : Type 0 where
    pub had : item_at old slot ≡ Some item
    pub updates : Updates old new slot None
    pub lists : (side : Side) → lists_on new side ≡ removed (lists_on old side) slot

  -- each list has the slots that it had, and each slot the item that it had
  pub record IsUnchanged (old new : Arena T) : Type 0 where
    pub lists : (side : Side) → lists_on new side ≡ lists_on old side
    pub items : (slot : ℕ) → item_at new slot ≡ item_at old slot
