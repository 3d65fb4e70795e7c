-- What the slots have after one is written or added.
use Rattle.std.proofs.Common.{◌≡◌, ℕ, ◌+◌, ◌<◌, ◌≤◌, true, false, not, cond, List, [], ◌∷◌, ◌++◌, map, length, get_or, set, Option, Some, None, count_by, ap, ◌∙◌, arith, length-set}
use Rattle.std.proofs.lemmas.List.{map-set, map_push, length-map}
use Rattle.std.proofs.lemmas.List.Sums.{sum_by-set, sum_by_push, count_by-le-length}
use Rattle.cl_lists.specs.declared.slots.LinkedSlot.{LinkedSlot}
use Rattle.cl_lists.specs.declared.slots.Content.{Content}
use Rattle.cl_lists.specs.declared.slots.Content.TheVariants.{Item, Free}
use Rattle.cl_lists.specs.Entries.{contents, items, item_of, is_item, used, next_free, frees, free_count}

module _ {T : Type 0} where
  -- ---- one is written

  module _ (old new : List (LinkedSlot T)) (slot : ℕ) (content : Content T) (written : contents new ≡ set (contents old) slot content) where
    pub items-written : items new ≡ set (items old) slot (item_of content)
    items-written = ap (map item_of) written ∙ map-set item_of (contents old) slot content

    pub used-written : used new ≡ set (used old) slot (is_item content)
    used-written = ap (map is_item) written ∙ map-set is_item (contents old) slot content

    pub frees-written : frees new ≡ set (frees old) slot (next_free content)
    frees-written = ap (map next_free) written ∙ map-set next_free (contents old) slot content

  pub free_count-filled : (old new : List (LinkedSlot T)) (slot : ℕ) (item : T) → contents new ≡ set (contents old) slot (Item item) → slot < length old → get_or (used old) slot false ≡ false → free_count new + 1 ≡ free_count old
  free_count-filled old new slot item written inside unused =
      let one = sum_by-set (λ b. cond (not b) 1 0) (used old) slot true false (rw (length-map, length-map) inside) in
      grind (arith, one, unused, used-written old new slot (Item item) written)

  pub free_count-freed : (old new : List (LinkedSlot T)) (slot : ℕ) (next : Option ℕ) → contents new ≡ set (contents old) slot (Free next) → slot < length old → get_or (used old) slot false ≡ true → free_count new ≡ free_count old + 1
  free_count-freed old new slot next written inside in_use =
      let one = sum_by-set (λ b. cond (not b) 1 0) (used old) slot false false (rw (length-map, length-map) inside) in
      grind (arith, one, in_use, used-written old new slot (Free next) written)

  -- ---- one is added

  module _ (old new : List (LinkedSlot T)) (next : Option ℕ) (added : contents new ≡ contents old ++ Free next ∷ []) where
    pub items-added : items new ≡ items old ++ None ∷ []
    items-added = ap (map item_of) added ∙ map_push item_of (contents old) (Free next)

    pub used-added : used new ≡ used old ++ false ∷ []
    used-added = ap (map is_item) added ∙ map_push is_item (contents old) (Free next)

    pub frees-added : frees new ≡ frees old ++ Some next ∷ []
    frees-added = ap (map next_free) added ∙ map_push next_free (contents old) (Free next)

    pub free_count-added : free_count new ≡ free_count old + 1
    free_count-added = ap (count_by not) used-added ∙ sum_by_push (λ b. cond (not b) 1 0) (used old) false

  -- there are no more free slots than slots
  pub free_count-le : (slots : List (LinkedSlot T)) → free_count slots ≤ length slots
  free_count-le slots =
      let few = count_by-le-length not (used slots) in
      let all : length (used slots) ≡ length slots = length-map (contents slots) _ ∙ length-map slots _ in
      omega (arith, few, all)

  -- while one is in use there are fewer
  pub free_count-lt : (slots : List (LinkedSlot T)) (slot : ℕ) → slot < length slots → get_or (used slots) slot false ≡ true → free_count slots < length slots
  free_count-lt slots slot inside in_use =
      let one = sum_by-set (λ b. cond (not b) 1 0) (used slots) slot false false (rw (length-map, length-map) inside) in
      let few = count_by-le-length not (set (used slots) slot false) in
      let all : length (used slots) ≡ length slots = length-map (contents slots) _ ∙ length-map slots _ in
      let same = length-set (used slots) slot false in
      grind (arith, one, in_use, few, all, same)
