-- What a tree stands for.
use Rattle.std.specs.Prelude.{◌≡◌, Bool, true, ◌&&◌, ◌==◌, List, [], ◌∷◌, ◌++◌, length, replicate, Option, Some, None}
use Rattle.cl_ranked.specs.declared.tree.Tree.{Tree}
use Rattle.cl_ranked.specs.declared.tree.Tree.TheVariants.{Empty, Leaf, Fork'}
use Rattle.cl_ranked.specs.Slots.{kept}

module _ {T : Type 0} where
  -- the slots of a tree, by index
  unfoldable pub slots_in : Tree T → List (Option T)
  slots_in (Empty width) = replicate width None
  slots_in (Leaf item) = Some item.value ∷ []
  slots_in (Fork' p left width count right) = slots_in left ++ slots_in right

  -- each fork has the number of its slots, and of the items in them
  unfoldable pub is_counted : Tree T → Bool
  is_counted (Empty width) = true
  is_counted (Leaf item) = true
  is_counted (Fork' p left width count right) =
      let slots = slots_in left ++ slots_in right in
      width == length slots && count == length (kept slots) && is_counted left && is_counted right

  -- the same, as a fact
  abbrev pub IsCounted : Tree T → Type 0
  IsCounted tree = is_counted tree ≡ true

  -- a tree of one slot, with its item
  abbrev pub IsLeaf : Tree T → Type 0
  IsLeaf (Empty width) = ⊥
  IsLeaf (Leaf item) = Unit {0}
  IsLeaf (Fork' p left width count right) = ⊥
