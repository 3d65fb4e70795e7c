-- What the links and the ends say after a write.
use Rattle.std.proofs.Common.{◌≡◌, ◌≢◌, ℕ, zero, suc, List, [], ◌∷◌, Option, Some, None, length, get_or, set, refl, sym, ap, length-set, get_or-set_same, get_or-set_other}
use Rattle.cl_lists.specs.declared.slots.Direction.{Direction}
use Rattle.cl_lists.specs.declared.slots.Direction.TheVariants.{Forward, Backward}
use Rattle.cl_lists.specs.declared.slots.Link.{Link}
use Rattle.cl_lists.specs.declared.slots.Ends.{Ends}
use Rattle.cl_lists.specs.Links.{IsInside, link_at, neighbour_at, links_with, ends_with}

abbrev pub reverse : Direction → Direction
reverse Forward = Backward
reverse Backward = Forward

pub length-links_with : (direction : Direction) (links : List Link) (at value : Option ℕ) → length (links_with direction links at value) ≡ length links
length-links_with Forward links None value = refl
length-links_with Backward links None value = refl
length-links_with Forward links (Some slot) value = length-set _ _ _
length-links_with Backward links (Some slot) value = length-set _ _ _

pub length-ends_with : (direction : Direction) (ends : List Ends) (number : ℕ) (at value : Option ℕ) → length (ends_with direction ends number at value) ≡ length ends
length-ends_with Forward ends number None value = length-set _ _ _
length-ends_with Backward ends number None value = length-set _ _ _
length-ends_with Forward ends number (Some slot) value = refl
length-ends_with Backward ends number (Some slot) value = refl

-- one field of a list's element after a write to the element
pub same_read : {A B : Type 0} (f : A → B) (xs : List A) (i j : ℕ) (x d : A) → (i ≡ j → f x ≡ f (get_or xs i d)) → f (get_or (set xs i x) j d) ≡ f (get_or xs j d)
same_read f [] i j x d kept = refl
same_read f (y ∷ xs) zero zero x d kept = kept refl
same_read f (y ∷ xs) zero (suc j) x d kept = refl
same_read f (y ∷ xs) (suc i) zero x d kept = refl
same_read f (y ∷ xs) (suc i) (suc j) x d kept = same_read f xs i j x d (λ e. kept (ap suc e))

-- the position that is written
pub neighbour_at-with : (direction : Direction) (links : List Link) (ends : List Ends) (number : ℕ) (at value : Option ℕ) → IsInside links ends number at → neighbour_at direction (links_with direction links at value) (ends_with direction ends number at value) number at ≡ value
neighbour_at-with Forward links ends number None value inside = ap (λ e. e.first) (get_or-set_same ends number _ _ inside)
neighbour_at-with Backward links ends number None value inside = ap (λ e. e.last) (get_or-set_same ends number _ _ inside)
neighbour_at-with Forward links ends number (Some slot) value inside = ap (λ l. l.next) (get_or-set_same links slot _ _ inside)
neighbour_at-with Backward links ends number (Some slot) value inside = ap (λ l. l.prev) (get_or-set_same links slot _ _ inside)

-- another position
pub neighbour_at-with_other : (direction : Direction) (links : List Link) (ends : List Ends) (number : ℕ) (at value : Option ℕ) (list : ℕ) (position : Option ℕ) → position ≢ at → neighbour_at direction (links_with direction links at value) (ends_with direction ends number at value) list position ≡ neighbour_at direction links ends list position
neighbour_at-with_other direction links ends number None value list None other = absurd (other refl)
neighbour_at-with_other Forward links ends number None value list (Some slot) other = refl
neighbour_at-with_other Backward links ends number None value list (Some slot) other = refl
neighbour_at-with_other Forward links ends number (Some at) value list None other = refl
neighbour_at-with_other Backward links ends number (Some at) value list None other = refl
neighbour_at-with_other Forward links ends number (Some at) value list (Some slot) other = ap (λ l. l.next) (get_or-set_other links at slot _ _ (λ e. other (ap Some e)))
neighbour_at-with_other Backward links ends number (Some at) value list (Some slot) other = ap (λ l. l.prev) (get_or-set_other links at slot _ _ (λ e. other (ap Some e)))

-- the ends of another list
pub neighbour_at-with_list : (direction : Direction) (links : List Link) (ends : List Ends) (number : ℕ) (at value : Option ℕ) (list : ℕ) → list ≢ number → neighbour_at direction (links_with direction links at value) (ends_with direction ends number at value) list None ≡ neighbour_at direction links ends list None
neighbour_at-with_list Forward links ends number None value list other = ap (λ e. e.first) (get_or-set_other ends number list _ _ other)
neighbour_at-with_list Backward links ends number None value list other = ap (λ e. e.last) (get_or-set_other ends number list _ _ other)
neighbour_at-with_list Forward links ends number (Some at) value list other = refl
neighbour_at-with_list Backward links ends number (Some at) value list other = refl

-- the other neighbour
pub neighbour_at-with_reverse : (direction : Direction) (links : List Link) (ends : List Ends) (number : ℕ) (at value : Option ℕ) (list : ℕ) (position : Option ℕ) → neighbour_at (reverse direction) (links_with direction links at value) (ends_with direction ends number at value) list position ≡ neighbour_at (reverse direction) links ends list position
neighbour_at-with_reverse Forward links ends number None value list None = same_read (λ e. e.last) ends number list _ _ (λ _. refl)
neighbour_at-with_reverse Backward links ends number None value list None = same_read (λ e. e.first) ends number list _ _ (λ _. refl)
neighbour_at-with_reverse Forward links ends number None value list (Some slot) = refl
neighbour_at-with_reverse Backward links ends number None value list (Some slot) = refl
neighbour_at-with_reverse Forward links ends number (Some at) value list None = refl
neighbour_at-with_reverse Backward links ends number (Some at) value list None = refl
neighbour_at-with_reverse Forward links ends number (Some at) value list (Some slot) = same_read (λ l. l.prev) links at slot _ _ (λ _. refl)
neighbour_at-with_reverse Backward links ends number (Some at) value list (Some slot) = same_read (λ l. l.next) links at slot _ _ (λ _. refl)

pub list-with : (direction : Direction) (links : List Link) (at value : Option ℕ) (slot : ℕ) → (link_at (links_with direction links at value) slot).list ≡ (link_at links slot).list
list-with Forward links None value slot = refl
list-with Backward links None value slot = refl
list-with Forward links (Some at) value slot = same_read (λ l. l.list) links at slot _ _ (λ _. refl)
list-with Backward links (Some at) value slot = same_read (λ l. l.list) links at slot _ _ (λ _. refl)

-- a write at a position of one list changes nothing at a position of another
pub neighbour_at-with_elsewhere : (direction : Direction) (links : List Link) (ends : List Ends) (number : ℕ) (at value : Option ℕ) (list : ℕ) (position : Option ℕ) → list ≢ number → ((slot : ℕ) → position ≡ Some slot → at ≡ Some slot → ⊥) → neighbour_at direction (links_with direction links at value) (ends_with direction ends number at value) list position ≡ neighbour_at direction links ends list position
neighbour_at-with_elsewhere direction links ends number at value list None other apart = neighbour_at-with_list direction links ends number at value list other
neighbour_at-with_elsewhere direction links ends number at value list (Some slot) other apart =
    neighbour_at-with_other direction links ends number at value list (Some slot) (λ e. apart slot refl (sym e))
