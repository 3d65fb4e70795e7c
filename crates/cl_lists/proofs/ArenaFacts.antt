-- What holds of every arena.
use Rattle.std.proofs.Common.{◌≡◌, ℕ, zero, suc, ◌+◌, ◌<◌, true, false, List, [], ◌∷◌, map, length, get_or, Option, Some, None, is_some, refl, sym, subst, ◌∙◌, arith}
use Rattle.std.proofs.Math.Logic.{∥∥₁_elim}
use Rattle.cl_lists.specs.declared.slots.Ends.{Ends}
use Rattle.cl_lists.specs.declared.slots.Side.{Side}
use Rattle.cl_lists.specs.declared.slots.Side.TheVariants.{X, Y}
use Rattle.cl_lists.specs.declared.slots.Content.{Content}
use Rattle.cl_lists.specs.declared.slots.Content.TheVariants.{Item, Free}
use Rattle.cl_lists.specs.declared.arena.Arena.{Arena}
use Rattle.cl_lists.specs.SlotList.{has, first_of, last_of, after_in, before_in}
use Rattle.cl_lists.specs.Links.{IsLinked, ends_at, link_at}
use Rattle.cl_lists.specs.Entries.{links_on, contents, item_of, is_item, next_free, used, frees, lists_on_side, AreLinked}
use Rattle.cl_lists.specs.Arena.{lists_on, list_of, list_count, item_at, IsInUse}
use Rattle.cl_lists.proofs.EntryWrites.{inside-used}
use Rattle.cl_lists.proofs.IsLinkedProp.{AreLinked-prop}

module _ {T : Type 0} where
  -- the ends of the lists of a side
  abbrev pub ends_on : Arena T → Side → List Ends
  ends_on arena X = arena.x_ends.items
  ends_on arena Y = arena.y_ends.items

  pub lists_on-is : (arena : Arena T) (side : Side) → lists_on arena side ≡ lists_on_side side arena.slots.items (ends_on arena side)
  unfolding lists_on
  lists_on-is arena X = refl
  lists_on-is arena Y = refl

  pub are_linked : (arena : Arena T) (side : Side) → AreLinked side arena.slots.items (ends_on arena side)
  are_linked arena X = ∥∥₁_elim arena.x_linked (AreLinked-prop X arena.slots.items arena.x_ends.items) (λ linked. linked)
  are_linked arena Y = ∥∥₁_elim arena.y_linked (AreLinked-prop Y arena.slots.items arena.y_ends.items) (λ linked. linked)

  -- the links of a side agree with its lists
  pub is_linked : (arena : Arena T) (side : Side) → IsLinked (links_on side arena.slots.items) (ends_on arena side) (used arena.slots.items) (lists_on arena side)
  is_linked arena side = rw (lists_on-is arena side) (are_linked arena side)

  pub list_count-is : (arena : Arena T) (side : Side) → list_count arena side ≡ length (ends_on arena side)
  list_count-is arena side = (is_linked arena side).as_many

  -- the numbers of the lists that come stay below 2^32
  pub more_fit : (arena : Arena T) (side given : Side) → given ≡ side → (count : ℕ) → list_count arena given + count < 4294967296 → length (ends_on arena side) + count < 4294967296
  more_fit arena side given is count room =
      let fits : list_count arena side + count < 4294967296 = subst (λ s. list_count arena s + count < 4294967296) is room in
      omega (arith, list_count-is arena side, fits)

  is_some-item_of : (all : List (Content T)) (slot : ℕ) → is_some (get_or (map item_of all) slot None) ≡ get_or (map is_item all) slot false
  is_some-item_of [] slot = refl
  is_some-item_of (Item item ∷ all) zero = refl
  is_some-item_of (Free next ∷ all) zero = refl
  is_some-item_of (content ∷ all) (suc slot) = is_some-item_of all slot

  -- a slot is in use just where it has an item
  pub is_some-item_at : (arena : Arena T) (slot : ℕ) → is_some (item_at arena slot) ≡ get_or (used arena.slots.items) slot false
  unfolding item_at
  is_some-item_at arena slot = is_some-item_of (contents arena.slots.items) slot

  pub used-in_use : (arena : Arena T) (slot : ℕ) → IsInUse arena slot → get_or (used arena.slots.items) slot false ≡ true
  used-in_use arena slot in_use = sym (is_some-item_at arena slot) ∙ grind (arith, in_use)

  no_item : (item : Option T) → is_some item ≡ false → item ≡ None
  no_item None none = refl
  no_item (Some item) none = absurd (grind (arith, none))

  pub unused-item_at : (arena : Arena T) (slot : ℕ) → get_or (used arena.slots.items) slot false ≡ false → item_at arena slot ≡ None
  unused-item_at arena slot unused = no_item (item_at arena slot) (is_some-item_at arena slot ∙ unused)

  -- a slot in use is not free
  frees_by_contents : (all : List (Content T)) (slot : ℕ) → get_or (map is_item all) slot false ≡ true → get_or (map next_free all) slot None ≡ None
  frees_by_contents [] slot in_use = refl
  frees_by_contents (Item item ∷ all) zero in_use = refl
  frees_by_contents (Free next ∷ all) zero in_use = absurd (grind (arith, in_use))
  frees_by_contents (content ∷ all) (suc slot) in_use = frees_by_contents all slot in_use

  pub frees-in_use : (arena : Arena T) (slot : ℕ) → IsInUse arena slot → get_or (frees arena.slots.items) slot None ≡ None
  frees-in_use arena slot in_use = frees_by_contents (contents arena.slots.items) slot (used-in_use arena slot in_use)

  pub inside-in_use : (arena : Arena T) (slot : ℕ) → IsInUse arena slot → slot < length arena.slots.items
  inside-in_use arena slot in_use = inside-used arena.slots.items slot (used-in_use arena slot in_use)

  -- the links of a slot in use
  pub next-in_use : (arena : Arena T) (side : Side) (slot list : ℕ) → has (list_of arena side list) slot ≡ true → (link_at (links_on side arena.slots.items) slot).next ≡ after_in (list_of arena side list) slot
  next-in_use arena side slot list on = (is_linked arena side).next list (Some slot) on

  pub prev-in_use : (arena : Arena T) (side : Side) (slot list : ℕ) → has (list_of arena side list) slot ≡ true → (link_at (links_on side arena.slots.items) slot).prev ≡ before_in (list_of arena side list) slot
  prev-in_use arena side slot list on = (is_linked arena side).prev list (Some slot) on

  -- the ends of a list
  pub first-ends : (arena : Arena T) (side : Side) (list : ℕ) → (ends_at (ends_on arena side) list).first ≡ first_of (list_of arena side list)
  first-ends arena side list = (is_linked arena side).next list None tt

  pub last-ends : (arena : Arena T) (side : Side) (list : ℕ) → (ends_at (ends_on arena side) list).last ≡ last_of (list_of arena side list)
  last-ends arena side list = (is_linked arena side).prev list None tt
