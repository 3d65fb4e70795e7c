-- An arena after an item came or went, or room came.
use Rattle.std.proofs.Common.{◌≡◌, ℕ, zero, suc, ◌+◌, ◌-◌, ◌<◌, true, false, List, [], ◌∷◌, ◌++◌, length, get_or, set, Option, Some, None, IsSome, IfSome, is_some, refl, sym, ap, subst, ◌∙◌, arith, ◌⊎◌, inl, inr, Result, Ok, Err, OnOk, OnErr, get_or-set_same, get_or-set_other}
use Rattle.std.proofs.lemmas.List.{length-map, get_or_push, with_items_is}
use Rattle.std.proofs.lemmas.Option.{same_Some}
use Rattle.std.proofs.Math.Numerals.{add-one}
use Rattle.std.specs.Vec.{with_items}
use Rattle.cl_lists.specs.declared.slots.Side.{Side}
use Rattle.cl_lists.specs.declared.slots.Side.TheVariants.{X, Y}
use Rattle.cl_lists.specs.declared.slots.LinkedSlot.{LinkedSlot}
use Rattle.cl_lists.specs.declared.slots.Content.{Content}
use Rattle.cl_lists.specs.declared.slots.Content.TheVariants.{Item, Free}
use Rattle.cl_lists.specs.declared.arena.Arena.{Arena}
use Rattle.cl_lists.specs.Links.{no_link}
use Rattle.cl_lists.specs.Entries.{links_on, contents, items, item_of, used, frees, free_count, lists_on_side}
use Rattle.cl_lists.specs.FreeList.{is_free_list}
use Rattle.cl_lists.specs.Arena.{lists_on, item_at, IsInUse, free_slots, Updates, IsUnchanged}
use Rattle.cl_lists.proofs.ArenaFacts.{ends_on, lists_on-is, are_linked, used-in_use, inside-in_use, frees-in_use}
use Rattle.cl_lists.proofs.ContentFacts.{items-written, frees-written, free_count-filled, free_count-freed, items-added, frees-added, free_count-added}
use Rattle.cl_lists.proofs.EntryWrites.{inside-frees}
use Rattle.cl_lists.proofs.FreeListLemmas.{Head, head_of, is_free_list-cons, is_free_list-none, is_free_list-some, is_free_list-set_taken, is_free_list-set_first, is_free_list-append}
use Rattle.cl_lists.proofs.SideFacts.{IsSide, unused-free, IsSide-more_slots}
use Rattle.cl_lists.proofs.LinkGrow.{get_or-append_default}

module _ {T : Type 0} where
  -- ---- the first free slot

  pub record FirstFree (arena : Arena T) (slot : ℕ) : Type 0 where
    pub less : ℕ
    pub count : arena.free_count ≡ suc less
    pub head : Head (frees arena.slots.items) less slot

  first_free_of : (arena : Arena T) (slot : ℕ) → arena.first_free ≡ Some slot → (less : ℕ) × (arena.free_count ≡ suc less) → FirstFree arena slot
  first_free_of arena slot first counted =
      let linked = subst (λ count. is_free_list (frees arena.slots.items) count arena.first_free ≡ true) counted.1 arena.free_linked in
      record { less = counted.0; count = counted.1; head = head_of (frees arena.slots.items) counted.0 slot (subst (λ p. is_free_list (frees arena.slots.items) (suc counted.0) p ≡ true) first linked) }

  pub first_free-some : (arena : Arena T) (slot : ℕ) → arena.first_free ≡ Some slot → FirstFree arena slot
  first_free-some arena slot first =
      first_free_of arena slot first
      (is_free_list-some (frees arena.slots.items) arena.free_count slot (subst (λ p. is_free_list (frees arena.slots.items) arena.free_count p ≡ true) first arena.free_linked))

  pub first_free-none : (arena : Arena T) → arena.first_free ≡ None → arena.free_count ≡ zero
  first_free-none arena none =
      is_free_list-none (frees arena.slots.items) arena.free_count (subst (λ p. is_free_list (frees arena.slots.items) arena.free_count p ≡ true) none arena.free_linked)

  pub free_slots-is : (arena : Arena T) → free_slots arena ≡ arena.free_count
  unfolding free_slots
  free_slots-is arena = sym arena.free_counted

  module _ (arena : Arena T) (slot : ℕ) (first : arena.first_free ≡ Some slot) where
    pub is_free-first : IsSome (get_or (frees arena.slots.items) slot None)
    is_free-first = ap is_some (first_free-some arena slot first).head.read

    pub inside-first : slot < length arena.slots.items
    inside-first = inside-frees arena.slots.items slot is_free-first

    pub unused-first : get_or (used arena.slots.items) slot false ≡ false
    unused-first = unused-free arena.slots.items slot is_free-first

  -- ---- the first free slot is filled, behind the vector's slice

  module _ (arena : Arena T) (slot : ℕ) (first : arena.first_free ≡ Some slot) (seen new : List (LinkedSlot T)) (item : T) (is_seen : seen ≡ arena.slots.items) (fits : length new ≡ arena.slots.len) (written : contents new ≡ set (contents seen) slot (Item item)) where
    pub contents-filled : contents (with_items arena.slots new).items ≡ set (contents arena.slots.items) slot (Item item)
    contents-filled = ap contents (with_items_is arena.slots new fits) ∙ written ∙ ap (λ all. set (contents all) slot (Item item)) is_seen

    -- the rest of the free slots
    pub is_free_list-filled : (next : Option ℕ) → get_or (frees seen) slot None ≡ Some next → is_free_list (frees (with_items arena.slots new).items) (arena.free_count - 1) next ≡ true
    is_free_list-filled next read =
        let found = first_free-some arena slot first in
        let all : is_free_list (frees arena.slots.items) (suc found.less) (Some slot) ≡ true =
        is_free_list-cons (frees arena.slots.items) found.less slot found.head in
        let same : found.head.next ≡ next = same_Some found.head.next next (sym found.head.read ∙ ap (λ all. get_or (frees all) slot None) (sym is_seen) ∙ read) in
        let count : arena.free_count - 1 ≡ found.less = omega (arith, found.count) in
        let rest = is_free_list-set_first (frees arena.slots.items) slot None (suc found.less) all found.less found.head.next (omega arith) found.head.rest in
        rw (frees-written arena.slots.items (with_items arena.slots new).items slot (Item item) contents-filled, count) (subst (λ p. is_free_list (set (frees arena.slots.items) slot None) found.less p ≡ true) same rest)

    pub free_count-after_filled : free_count (with_items arena.slots new).items + 1 ≡ free_count arena.slots.items
    free_count-after_filled = free_count-filled arena.slots.items (with_items arena.slots new).items slot item contents-filled (inside-first arena slot first) (unused-first arena slot first)

    pub free_counted-filled : arena.free_count - 1 ≡ free_count (with_items arena.slots new).items
    free_counted-filled = omega (arith, free_count-after_filled, arena.free_counted)

  -- ---- a slot in use is freed, behind the vector's slice

  module _ (arena : Arena T) (slot : ℕ) (in_use : IsInUse arena slot) (seen new : List (LinkedSlot T)) (is_seen : seen ≡ arena.slots.items) (fits : length new ≡ arena.slots.len) (written : contents new ≡ set (contents seen) slot (Free arena.first_free)) where
    pub contents-freed : contents (with_items arena.slots new).items ≡ set (contents arena.slots.items) slot (Free arena.first_free)
    contents-freed = ap contents (with_items_is arena.slots new fits) ∙ written ∙ ap (λ all. set (contents all) slot (Free arena.first_free)) is_seen

    pub is_free_list-freed : is_free_list (frees (with_items arena.slots new).items) (arena.free_count + 1) (Some slot) ≡ true
    is_free_list-freed =
        let inside : slot < length (frees arena.slots.items) = rw (length-map, length-map) (inside-in_use arena slot in_use) in
        let rest = is_free_list-set_taken (frees arena.slots.items) slot (Some arena.first_free) arena.free_count arena.first_free (frees-in_use arena slot in_use) arena.free_linked in
        rw (frees-written arena.slots.items (with_items arena.slots new).items slot (Free arena.first_free) contents-freed, add-one)
        (is_free_list-cons (set (frees arena.slots.items) slot (Some arena.first_free)) arena.free_count slot
        (record { next = arena.first_free; read = get_or-set_same (frees arena.slots.items) slot (Some arena.first_free) None inside; rest = rest }))

    pub free_count-after_freed : free_count (with_items arena.slots new).items ≡ free_count arena.slots.items + 1
    free_count-after_freed = free_count-freed arena.slots.items (with_items arena.slots new).items slot arena.first_free contents-freed (inside-in_use arena slot in_use) (used-in_use arena slot in_use)

    pub free_counted-freed : arena.free_count + 1 ≡ free_count (with_items arena.slots new).items
    free_counted-freed = omega (arith, free_count-after_freed, arena.free_counted)

  -- ---- arenas before and after

  pub Updates-written : (old new : Arena T) (slot : ℕ) (content : Content T) → slot < length old.slots.items → contents new.slots.items ≡ set (contents old.slots.items) slot content → Updates old new slot (item_of content)
  unfolding item_at
  Updates-written old new slot content inside written =
      let all = items-written old.slots.items new.slots.items slot content written in
      record {
        changed = ap (λ xs. get_or xs slot None) all ∙ get_or-set_same (items old.slots.items) slot (item_of content) None (rw (length-map, length-map) inside);
        others = λ other apart. ap (λ xs. get_or xs other None) all ∙ get_or-set_other (items old.slots.items) slot other (item_of content) None apart;
      }

  pub IsUnchanged-same : (old new : Arena T) → new.slots.items ≡ old.slots.items → new.x_ends.items ≡ old.x_ends.items → new.y_ends.items ≡ old.y_ends.items → IsUnchanged old new
  unfolding item_at lists_on
  IsUnchanged-same old new same_slots same_x same_y = record {
    lists = elim [
      | X ↦ ap (λ slots. lists_on_side X slots new.x_ends.items) same_slots ∙ ap (λ ends. lists_on_side X old.slots.items ends) same_x
      | Y ↦ ap (λ slots. lists_on_side Y slots new.y_ends.items) same_slots ∙ ap (λ ends. lists_on_side Y old.slots.items ends) same_y
    ];
    items = λ slot. ap (λ slots. get_or (items slots) slot None) same_slots;
  }

  -- ---- a free slot is added

  module _ (arena : Arena T) (new : List (LinkedSlot T)) (links : (side : Side) → links_on side new ≡ links_on side arena.slots.items ++ no_link ∷ []) (added : contents new ≡ contents arena.slots.items ++ Free arena.first_free ∷ []) where
    pub IsSide-added : (side : Side) → IsSide side new (ends_on arena side) (lists_on arena side)
    IsSide-added side = rw (lists_on-is arena side) (IsSide-more_slots side arena.slots.items new (ends_on arena side) arena.first_free (are_linked arena side) (links side) added)

    pub is_free_list-added : (slot : ℕ) → slot ≡ length arena.slots.items → is_free_list (frees new) (arena.free_count + 1) (Some slot) ≡ true
    is_free_list-added slot last =
        let all : length (frees arena.slots.items) ≡ slot = rw (length-map, length-map) (sym last) in
        rw (frees-added arena.slots.items new arena.first_free added, add-one)
        (is_free_list-cons (frees arena.slots.items ++ Some arena.first_free ∷ []) arena.free_count slot (record {
          next = arena.first_free;
          read = get_or_push (frees arena.slots.items) (Some arena.first_free) None slot all;
          rest = is_free_list-append (frees arena.slots.items) (Some arena.first_free) arena.free_count arena.first_free arena.free_linked;
        }))

    pub free_count-after_added : free_count new ≡ free_count arena.slots.items + 1
    free_count-after_added = free_count-added arena.slots.items new arena.first_free added

    pub free_counted-added : arena.free_count + 1 ≡ free_count new
    free_counted-added = omega (arith, free_count-after_added, arena.free_counted)

    pub items_kept-added : (slot : ℕ) → get_or (items new) slot None ≡ get_or (items arena.slots.items) slot None
    items_kept-added slot = ap (λ all. get_or all slot None) (items-added arena.slots.items new arena.first_free added) ∙ get_or-append_default (items arena.slots.items) 1 slot None

  pub IsUnchanged-added : (old new : Arena T) → ((side : Side) → lists_on_side side new.slots.items (ends_on new side) ≡ lists_on old side) → ((slot : ℕ) → get_or (items new.slots.items) slot None ≡ get_or (items old.slots.items) slot None) → IsUnchanged old new
  unfolding item_at
  IsUnchanged-added old new same_lists same_items = record {
    lists = λ side. lists_on-is new side ∙ same_lists side;
    items = same_items;
  }

-- a fact that holds of either answer
pub OnErr-always : {A E : Type 0} (answer : Result A E) {P : Type 0} → P → OnErr answer P
OnErr-always (Ok value) holds = tt
OnErr-always (Err error) holds = holds

-- what holds of one answer or of the other
pub either-answer : {A E P Q : Type 0} (answer : Result A E) → OnOk answer P → OnErr answer Q → P ⊎ Q
either-answer (Ok value) ok err = inl ok
either-answer (Err error) ok err = inr err

-- what holds of the value, if there is one
pub if_some : {A : Type 0} {P : A → Type 0} (found : Option A) → ((value : A) → found ≡ Some value → P value) → IfSome found P
if_some None holds = tt
if_some (Some value) holds = holds value refl
