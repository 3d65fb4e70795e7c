-- What the slots of an arena have. Contracts see this only through `Arena.antt`.
use Rattle.std.specs.Prelude.{◌≡◌, ℕ, Bool, true, false, not, count_by, List, map, Option, Some, None}
use Rattle.cl_lists.specs.declared.slots.Link.{Link}
use Rattle.cl_lists.specs.declared.slots.Ends.{Ends}
use Rattle.cl_lists.specs.declared.slots.Side.{Side}
use Rattle.cl_lists.specs.declared.slots.Side.TheVariants.{X, Y}
use Rattle.cl_lists.specs.declared.slots.LinkedSlot.{LinkedSlot}
use Rattle.cl_lists.specs.declared.slots.Content.{Content}
use Rattle.cl_lists.specs.declared.slots.Content.TheVariants.{Item, Free}
use Rattle.cl_lists.specs.Sides.{opposite}
use Rattle.cl_lists.specs.Links.{IsLinked, lists_of}

module _ {T : Type 0} where
  -- the links of a slot on one side
  abbrev pub link_of : Side → LinkedSlot T → Link
  link_of X entry = entry.x
  link_of Y entry = entry.y

  -- the slot with other links on one side
  abbrev pub with_link : Side → LinkedSlot T → Link → LinkedSlot T
  with_link X entry link = record entry { x = link }
  with_link Y entry link = record entry { y = link }

  -- the links of all slots on one side
  abbrev pub links_on : Side → List (LinkedSlot T) → List Link
  links_on side slots = map (link_of side) slots

  -- the contents of all slots
  abbrev pub contents : List (LinkedSlot T) → List (Content T)
  contents slots = map (λ entry. entry.content) slots

  -- the item that a slot has
  abbrev pub item_of : Content T → Option T
  item_of (Item item) = Some item
  item_of (Free next) = None

  -- the item of each slot, or none where it is free
  abbrev pub items : List (LinkedSlot T) → List (Option T)
  items slots = map item_of (contents slots)

  -- whether it has one
  abbrev pub is_item : Content T → Bool
  is_item (Item item) = true
  is_item (Free next) = false

  -- whether each slot has an item
  abbrev pub used : List (LinkedSlot T) → List Bool
  used slots = map is_item (contents slots)

  -- the next free slot that a slot names, if it is free
  abbrev pub next_free : Content T → Option (Option ℕ)
  next_free (Item item) = None
  next_free (Free next) = Some next

  -- of each slot that is free, the next free one
  abbrev pub frees : List (LinkedSlot T) → List (Option (Option ℕ))
  frees slots = map next_free (contents slots)

  -- how many slots are free
  abbrev pub free_count : List (LinkedSlot T) → ℕ
  free_count slots = count_by not (used slots)

  -- the slots have the same links
  abbrev pub SameLinks : List (LinkedSlot T) → List (LinkedSlot T) → Type 0
  SameLinks old new = (side : Side) → links_on side new ≡ links_on side old

  -- the slots differ in their links on one side alone
  pub record DifferOn (side : Side) (old new : List (LinkedSlot T)) : Type 0 where
    pub links : links_on (opposite side) new ≡ links_on (opposite side) old
    pub contents : contents new ≡ contents old

  -- the lists of one side
  abbrev pub lists_on_side : Side → List (LinkedSlot T) → List Ends → List (List ℕ)
  lists_on_side side slots ends = lists_of (links_on side slots) ends

  -- the links of one side agree with its lists
  abbrev pub AreLinked : Side → List (LinkedSlot T) → List Ends → Type 0
  AreLinked side slots ends = IsLinked (links_on side slots) ends (used slots) (lists_on_side side slots ends)
