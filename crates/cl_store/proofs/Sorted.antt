-- A sorted list that is split at an element, and one more element between the two parts of a sorted list.
use Rattle.std.proofs.Common.{◌≡◌, List, [], ◌∷◌, ◌++◌, Ordering, Less}
use Rattle.std.specs.List.{All, AllByRecursion}
use Rattle.std.specs.List.Sorted.{IsStrictlySortedBy}
use Rattle.std.proofs.lemmas.List.Elements.{All-from_recursion, recursion_from_All, All-nil, All-cons, All-head, All-tail}
use Rattle.std.proofs.lemmas.Map.Keys.{sorted_head, sorted_tail}

-- an element and the two parts round it
between : {X : Type 0} (P : X → Type 0) (front : List X) (x : X) (back : List X) → AllByRecursion P (front ++ back) → P x → AllByRecursion P (front ++ x ∷ back)
between P [] x back all here = (here, all)
between P (y ∷ front) x back all here = (all.0, between P front x back all.1 here)

at_split : {X : Type 0} (P : X → Type 0) (front : List X) (x : X) (back : List X) → AllByRecursion P (front ++ x ∷ back) → P x
at_split P [] x back all = all.0
at_split P (y ∷ front) x back all = at_split P front x back all.1

module _ {X : Type 0} (R : X → X → Ordering) where
  -- what stands before an element comes before it
  pub sorted_front : (front : List X) (x : X) (back : List X) → IsStrictlySortedBy R (front ++ x ∷ back) → All (λ y. R y x ≡ Less) front
  sorted_front [] x back sorted = All-nil (λ y. R y x ≡ Less)
  sorted_front (y ∷ front) x back sorted =
      All-cons (λ z. R z x ≡ Less) y front
      (at_split (λ z. R y z ≡ Less) front x back (sorted_head R y (front ++ x ∷ back) sorted))
      (sorted_front front x back (sorted_tail R y (front ++ x ∷ back) sorted))

  -- what stands behind an element comes after it
  pub sorted_back : (front : List X) (x : X) (back : List X) → IsStrictlySortedBy R (front ++ x ∷ back) → All (λ y. R x y ≡ Less) back
  sorted_back [] x back sorted = All-from_recursion (λ y. R x y ≡ Less) back (sorted_head R x back sorted)
  sorted_back (y ∷ front) x back sorted = sorted_back front x back (sorted_tail R y (front ++ x ∷ back) sorted)

  -- one more element, after the first part and before the second
  pub sorted_between : (front : List X) (x : X) (back : List X) → IsStrictlySortedBy R (front ++ back) →
      All (λ y. R y x ≡ Less) front → All (λ y. R x y ≡ Less) back → IsStrictlySortedBy R (front ++ x ∷ back)
  unfolding IsStrictlySortedBy
  sorted_between [] x back sorted before after = (recursion_from_All (λ y. R x y ≡ Less) back after, sorted)
  sorted_between (y ∷ front) x back sorted before after = (
    between (λ z. R y z ≡ Less) front x back sorted.0 (All-head (λ z. R z x ≡ Less) y front before),
    sorted_between front x back sorted.1 (All-tail (λ z. R z x ≡ Less) y front before) after,
  )
