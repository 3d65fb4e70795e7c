-- How one side links the slots of its lists. Contracts see this only through `Arena.antt`.
use Rattle.std.specs.Prelude.{◌≡◌, ◌<◌, ℕ, zero, suc, Bool, true, false, List, [], ◌∷◌, map, length, Option, Some, None, slice_index_or, slice_set}
use Rattle.cl_lists.specs.SlotList.{has, is_distinct, first_of, last_of, after_in, before_in}
use Rattle.cl_lists.specs.Lists.{list_at}
use Rattle.cl_lists.specs.declared.slots.Direction.{Direction}
use Rattle.cl_lists.specs.declared.slots.Direction.TheVariants.{Forward, Backward}
use Rattle.cl_lists.specs.declared.slots.Link.{Link}
use Rattle.cl_lists.specs.declared.slots.Ends.{Ends}

-- a position of a list is a slot on it, or `None`, which stands before the first slot and after the last one
abbrev pub IsPosition : List ℕ → Option ℕ → Type 0
IsPosition list None = Unit {0}
IsPosition list (Some slot) = has list slot ≡ true

-- the position after a position, and the one before it
abbrev pub after : List ℕ → Option ℕ → Option ℕ
after list None = first_of list
after list (Some slot) = after_in list slot

-- the slot before, or none at the front
abbrev pub before : List ℕ → Option ℕ → Option ℕ
before list None = last_of list
before list (Some slot) = before_in list slot

-- the links of a slot that is on no list, and the ends of an empty list
abbrev pub no_link : Link
no_link = record { prev = None; next = None; list = 0 }

-- an empty list has no first and no last slot
abbrev pub no_ends : Ends
no_ends = record { first = None; last = None }

-- the links of a slot, and the ends of a list
abbrev pub link_at : List Link → ℕ → Link
link_at links slot = slice_index_or links slot no_link

-- the first and last slot of the list of a number
abbrev pub ends_at : List Ends → ℕ → Ends
ends_at ends number = slice_index_or ends number no_ends

-- what the links say is the neighbour of a position of a list
abbrev pub neighbour_at : Direction → List Link → List Ends → ℕ → Option ℕ → Option ℕ
neighbour_at Forward links ends number None = (ends_at ends number).first
neighbour_at Forward links ends number (Some slot) = (link_at links slot).next
neighbour_at Backward links ends number None = (ends_at ends number).last
neighbour_at Backward links ends number (Some slot) = (link_at links slot).prev

-- the links agree with the lists, and each slot in use is on just one of these
pub record IsLinked (links : List Link) (ends : List Ends) (used : List Bool) (lists : List (List ℕ)) : Type 0 where
  pub as_many : length lists ≡ length ends
  pub as_long : length used ≡ length links
  pub distinct : (number : ℕ) → is_distinct (list_at lists number) ≡ true
  pub in_use : (number slot : ℕ) → has (list_at lists number) slot ≡ true → slice_index_or used slot false ≡ true
  pub listed : (slot : ℕ) → slice_index_or used slot false ≡ true → has (list_at lists (link_at links slot).list) slot ≡ true
  pub numbered : (number slot : ℕ) → has (list_at lists number) slot ≡ true → (link_at links slot).list ≡ number
  pub next : (number : ℕ) (position : Option ℕ) → IsPosition (list_at lists number) position → neighbour_at Forward links ends number position ≡ after (list_at lists number) position
  pub prev : (number : ℕ) (position : Option ℕ) → IsPosition (list_at lists number) position → neighbour_at Backward links ends number position ≡ before (list_at lists number) position

-- the position is one that there is a link or an end for
abbrev pub IsInside : List Link → List Ends → ℕ → Option ℕ → Type 0
IsInside links ends number None = number < length ends
IsInside links ends number (Some slot) = slot < length links

-- the links and the ends after a write of the neighbour of a position
abbrev pub links_with : Direction → List Link → Option ℕ → Option ℕ → List Link
links_with direction links None neighbour = links
links_with Forward links (Some slot) neighbour = slice_set links slot (record (link_at links slot) { next = neighbour })
links_with Backward links (Some slot) neighbour = slice_set links slot (record (link_at links slot) { prev = neighbour })

-- the ends of the lists after that write
abbrev pub ends_with : Direction → List Ends → ℕ → Option ℕ → Option ℕ → List Ends
ends_with direction ends number (Some slot) neighbour = ends
ends_with Forward ends number None neighbour = slice_set ends number (record (ends_at ends number) { first = neighbour })
ends_with Backward ends number None neighbour = slice_set ends number (record (ends_at ends number) { last = neighbour })

-- the slots that the links lead to from a position on, so many at most
unfoldable pub walk : List Link → ℕ → Option ℕ → List ℕ
walk links zero position = []
walk links (suc most) None = []
walk links (suc most) (Some slot) = slot ∷ walk links most (link_at links slot).next

-- the lists that the ends and the links say
unfoldable pub lists_of : List Link → List Ends → List (List ℕ)
lists_of links ends = map (λ both. walk links (length links) both.first) ends
