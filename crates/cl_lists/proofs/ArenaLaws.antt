-- What crates above need of an arena, and of an arena after an item came or went.
use Rattle.std.proofs.Common.{◌≡◌, ◌≢◌, ℕ, ◌<◌, Bool, true, false, List, [], ◌∷◌, ◌++◌, length, replicate, Option, Some, None, is_some, refl, sym, ap, subst, ◌∙◌, arith}
use Rattle.std.specs.List.{filter_map, cons_option}
use Rattle.std.proofs.lemmas.List.Elements.{filter_map-append}
use Rattle.cl_lists.specs.declared.slots.Side.{Side}
use Rattle.cl_lists.specs.declared.arena.Arena.{Arena}
use Rattle.cl_lists.specs.SlotList.{has, is_distinct, first_of, last_of, after_in, before_in, without}
use Rattle.cl_lists.specs.Lists.{list_at}
use Rattle.cl_lists.specs.Sides.{on_side}
use Rattle.cl_lists.specs.Arena.{lists_on, list_of, list_count, item_at, IsInUse, items_on, IsPlaced, Updates, Pushes, Unlinks, IsUnchanged}
use Rattle.cl_lists.proofs.ArenaFacts.{is_linked, is_some-item_at, used-in_use}
use Rattle.cl_lists.proofs.ListsLaws.{list_at-appended_same, list_at-appended_other, length-appended, list_at-removed, length-removed, list_at-more}
use Rattle.cl_lists.proofs.SlotListLemmas.{has-first, has-last, has-after_in, has-before_in, has-head, has-tail, without-absent, absent-front, absent-back, without-split}
use Rattle.cl_lists.proofs.Linked.{exists-linked}

filter_map-cons : {A : Type 0} (f : ℕ → Option A) (slot : ℕ) (rest : List ℕ) (item : A) → f slot ≡ Some item → filter_map f (slot ∷ rest) ≡ item ∷ filter_map f rest
filter_map-cons f slot rest item is = ap (λ found. cons_option found (filter_map f rest)) is

-- two functions that agree along a list
filter_map-agree : {A : Type 0} (f g : ℕ → Option A) (list : List ℕ) → ((slot : ℕ) → has list slot ≡ true → f slot ≡ g slot) → filter_map f list ≡ filter_map g list
filter_map-agree f g [] agree = refl
filter_map-agree f g (slot ∷ list) agree =
    ap (λ found. cons_option found (filter_map f list)) (agree slot (has-head slot list))
    ∙ ap (cons_option (g slot)) (filter_map-agree f g list (λ other on. agree other (has-tail slot list other on)))

module _ {T : Type 0} where
  -- each slot in use is on one list of each side, once, and no other slot is on any
  pub is_placed : (arena : Arena T) (side : Side) → IsPlaced arena side
  is_placed arena side =
      let linked = is_linked arena side in
      record {
        once = linked.distinct;
        in_use = λ list slot on. is_some-item_at arena slot ∙ linked.in_use list slot on;
        on_one = λ list other slot on on_other. sym (linked.numbered list slot on) ∙ linked.numbered other slot on_other;
        on_some = λ slot in_use.
            let on = linked.listed slot (used-in_use arena slot in_use) in
            (_, exists-linked _ _ _ _ linked _ slot on, on);
      }

  -- the first item of a list, and the others
  pub items_on-first : (arena : Arena T) (side : Side) (list slot : ℕ) (rest : List ℕ) (item : T) → list_of arena side list ≡ slot ∷ rest → item_at arena slot ≡ Some item → items_on arena side list ≡ item ∷ filter_map (item_at arena) rest
  items_on-first arena side list slot rest item is has_item = ap (filter_map (item_at arena)) is ∙ filter_map-cons (item_at arena) slot rest item has_item

  -- the first slot of a list, and the last
  pub in_use-first : (arena : Arena T) (side : Side) (list slot : ℕ) → first_of (list_of arena side list) ≡ Some slot → IsInUse arena slot
  in_use-first arena side list slot first = (is_placed arena side).in_use list slot (has-first (list_of arena side list) slot first)

  pub in_use-last : (arena : Arena T) (side : Side) (list slot : ℕ) → last_of (list_of arena side list) ≡ Some slot → IsInUse arena slot
  in_use-last arena side list slot last = (is_placed arena side).in_use list slot (has-last (list_of arena side list) slot last)

  -- a slot's neighbours
  pub in_use-after : (arena : Arena T) (side : Side) (list slot other : ℕ) → after_in (list_of arena side list) slot ≡ Some other → IsInUse arena other
  in_use-after arena side list slot other next = (is_placed arena side).in_use list other (has-after_in (list_of arena side list) slot other next)

  pub in_use-before : (arena : Arena T) (side : Side) (list slot other : ℕ) → before_in (list_of arena side list) slot ≡ Some other → IsInUse arena other
  in_use-before arena side list slot other prev = (is_placed arena side).in_use list other (has-before_in (list_of arena side list) slot other prev)

  -- where a slot is not on the list, what it has does not matter
  filter_map-others : (old new : Arena T) (slot : ℕ) (content : Option T) (list : List ℕ) → Updates old new slot content → has list slot ≡ false → filter_map (item_at new) list ≡ filter_map (item_at old) list
  filter_map-others old new slot content list updates absent =
      filter_map-agree (item_at new) (item_at old) list (λ other on. updates.others other (λ same. grind (arith, absent, on, same)))

  -- ---- after an item came

  module _ (old new : Arena T) (x y slot : ℕ) (item : T) (pushes : Pushes old new x y slot item) where
    -- the slot was on no list
    pub absent-pushed : (side : Side) (list : ℕ) → has (list_of old side list) slot ≡ false
    absent-pushed side list = off (has (list_of old side list) slot) refl where
      off : (b : Bool) → has (list_of old side list) slot ≡ b → b ≡ false
      off true on = absurd (grind (arith, ap is_some pushes.fresh, (is_placed old side).in_use list slot on))
      off false on = refl

    pub list_count-pushed : (side : Side) → list_count new side ≡ list_count old side
    list_count-pushed side = ap length (pushes.lists side) ∙ length-appended (lists_on old side) (on_side side x y) slot

    pub list_of-pushed_same : (side : Side) → on_side side x y < list_count old side → list_of new side (on_side side x y) ≡ list_of old side (on_side side x y) ++ slot ∷ []
    list_of-pushed_same side exists = ap (λ lists. list_at lists (on_side side x y)) (pushes.lists side) ∙ list_at-appended_same (lists_on old side) (on_side side x y) slot exists

    pub list_of-pushed_other : (side : Side) (list : ℕ) → list ≢ on_side side x y → list_of new side list ≡ list_of old side list
    list_of-pushed_other side list other = ap (λ lists. list_at lists list) (pushes.lists side) ∙ list_at-appended_other (lists_on old side) (on_side side x y) slot list other

    pub items_on-pushed_same : (side : Side) → on_side side x y < list_count old side → items_on new side (on_side side x y) ≡ items_on old side (on_side side x y) ++ item ∷ []
    items_on-pushed_same side exists =
        ap (filter_map (item_at new)) (list_of-pushed_same side exists)
        ∙ filter_map-append (item_at new) (list_of old side (on_side side x y)) (slot ∷ [])
        ∙ ap (λ before. before ++ filter_map (item_at new) (slot ∷ [])) (filter_map-others old new slot (Some item) (list_of old side (on_side side x y)) pushes.updates (absent-pushed side (on_side side x y)))
        ∙ ap (λ last. items_on old side (on_side side x y) ++ last) (filter_map-cons (item_at new) slot [] item pushes.updates.changed)

    pub items_on-pushed_other : (side : Side) (list : ℕ) → list ≢ on_side side x y → items_on new side list ≡ items_on old side list
    items_on-pushed_other side list other =
        ap (filter_map (item_at new)) (list_of-pushed_other side list other)
        ∙ filter_map-others old new slot (Some item) (list_of old side list) pushes.updates (absent-pushed side list)

  -- ---- after an item went

  module _ (old new : Arena T) (slot : ℕ) (item : T) (unlinks : Unlinks old new slot item) where
    pub list_count-unlinked : (side : Side) → list_count new side ≡ list_count old side
    list_count-unlinked side = ap length (unlinks.lists side) ∙ length-removed (lists_on old side) slot

    pub list_of-unlinked : (side : Side) (list : ℕ) → list_of new side list ≡ without slot (list_of old side list)
    list_of-unlinked side list = ap (λ lists. list_at lists list) (unlinks.lists side) ∙ list_at-removed (lists_on old side) slot list

    -- the list that had the slot
    pub list_of-unlinked_same : (side : Side) (list : ℕ) (front back : List ℕ) → list_of old side list ≡ front ++ slot ∷ back → list_of new side list ≡ front ++ back
    list_of-unlinked_same side list front back is =
        list_of-unlinked side list ∙ ap (without slot) is
        ∙ without-split front slot back (subst (λ xs. is_distinct xs ≡ true) is ((is_placed old side).once list))

    -- any other list
    pub list_of-unlinked_other : (side : Side) (list : ℕ) → has (list_of old side list) slot ≡ false → list_of new side list ≡ list_of old side list
    list_of-unlinked_other side list absent = list_of-unlinked side list ∙ without-absent slot (list_of old side list) absent

    pub items_on-unlinked_same : (side : Side) (list : ℕ) (front back : List ℕ) → list_of old side list ≡ front ++ slot ∷ back → items_on new side list ≡ filter_map (item_at old) front ++ filter_map (item_at old) back
    items_on-unlinked_same side list front back is =
        let distinct = subst (λ xs. is_distinct xs ≡ true) is ((is_placed old side).once list) in
        ap (filter_map (item_at new)) (list_of-unlinked_same side list front back is)
        ∙ filter_map-append (item_at new) front back
        ∙ ap (λ xs. xs ++ filter_map (item_at new) back) (filter_map-others old new slot None front unlinks.updates (absent-front front slot back distinct))
        ∙ ap (λ xs. filter_map (item_at old) front ++ xs) (filter_map-others old new slot None back unlinks.updates (absent-back front slot back distinct))

    -- what the list had
    pub items_on-had : (side : Side) (list : ℕ) (front back : List ℕ) → list_of old side list ≡ front ++ slot ∷ back → items_on old side list ≡ filter_map (item_at old) front ++ item ∷ filter_map (item_at old) back
    items_on-had side list front back is =
        ap (filter_map (item_at old)) is
        ∙ filter_map-append (item_at old) front (slot ∷ back)
        ∙ ap (λ xs. filter_map (item_at old) front ++ xs) (filter_map-cons (item_at old) slot back item unlinks.had)

    pub items_on-unlinked_other : (side : Side) (list : ℕ) → has (list_of old side list) slot ≡ false → items_on new side list ≡ items_on old side list
    items_on-unlinked_other side list absent =
        ap (filter_map (item_at new)) (list_of-unlinked_other side list absent)
        ∙ filter_map-others old new slot None (list_of old side list) unlinks.updates absent

  -- ---- where nothing came or went

  pub items_on-unchanged : (old new : Arena T) (side : Side) (list : ℕ) → IsUnchanged old new → items_on new side list ≡ items_on old side list
  items_on-unchanged old new side list same =
      ap (λ lists. filter_map (item_at new) (list_at lists list)) (same.lists side)
      ∙ filter_map-agree (item_at new) (item_at old) (list_of old side list) (λ slot on. same.items slot)

  -- empty lists that came change no list
  pub list_of-more : (old new : Arena T) (side : Side) (count list : ℕ) → lists_on new side ≡ lists_on old side ++ replicate count [] → list_of new side list ≡ list_of old side list
  list_of-more old new side count list more = ap (λ lists. list_at lists list) more ∙ list_at-more (lists_on old side) count list
