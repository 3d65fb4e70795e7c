-- The links still agree with the lists after a slot leaves its list.
use Rattle.std.proofs.Common.{◌≡◌, ◌≢◌, ℕ, ◌<◌, Bool, true, false, not, ◌&&◌, eqb, List, Option, Some, None, length, get_or, set, refl, sym, subst, ◌∙◌, arith, inl, inr, length-set, get_or-set_same, get_or-set_other}
use Rattle.std.proofs.lemmas.Bool.Decides.{nat_tests}
use Rattle.std.proofs.lemmas.Bool.{cases_eq}
use Rattle.cl_lists.specs.declared.slots.Direction.TheVariants.{Forward, Backward}
use Rattle.cl_lists.specs.declared.slots.Link.{Link}
use Rattle.cl_lists.specs.declared.slots.Ends.{Ends}
use Rattle.cl_lists.specs.SlotList.{has, is_distinct, after_in, before_in, without}
use Rattle.cl_lists.specs.Lists.{list_at, removed}
use Rattle.cl_lists.specs.Links.{IsInside, IsPosition, after, before, link_at, IsLinked, neighbour_at, links_with, ends_with}
use Rattle.cl_lists.proofs.Linked.{cases_position, inside-linked, exists-linked, IsInside-linked, apart-linked, read_at_each}
use Rattle.cl_lists.proofs.ListsLaws.{list_at-removed, length-removed}
use Rattle.cl_lists.proofs.LinkWrites.{length-links_with, length-ends_with, neighbour_at-with, neighbour_at-with_other, neighbour_at-with_elsewhere, neighbour_at-with_reverse, list-with}
use Rattle.cl_lists.proofs.Positions.{after-without_before, after-without_other, before-without_after, before-without_other, IsPosition-without, IsPosition-without_other, IsPosition-before_in, IsPosition-after_in}
use Rattle.cl_lists.proofs.SlotListLemmas.{has-without, is_distinct-without, without-absent}

IsInside-of : (links : List Link) (ends : List Ends) (links' : List Link) (ends' : List Ends) (number : ℕ) (position : Option ℕ) → length links ≡ length links' → length ends ≡ length ends' → IsInside links' ends' number position → IsInside links ends number position
IsInside-of links ends links' ends' number None links_same ends_same inside = subst (λ n. number < n) (sym ends_same) inside
IsInside-of links ends links' ends' number (Some slot) links_same ends_same inside = subst (λ n. slot < n) (sym links_same) inside

module _ (links : List Link) (ends : List Ends) (used : List Bool) (lists : List (List ℕ)) (slot : ℕ) (linked : IsLinked links ends used lists) (taken : get_or used slot false ≡ true) where
  abbrev number : ℕ
  number = (link_at links slot).list

  abbrev list : List ℕ
  list = list_at lists number

  there : has list slot ≡ true
  there = linked.listed slot taken

  distinct : is_distinct list ≡ true
  distinct = linked.distinct number

  exists : number < length ends
  exists = subst (λ n. number < n) linked.as_many (exists-linked links ends used lists linked number slot there)

  abbrev prev : Option ℕ
  prev = before_in list slot

  abbrev next : Option ℕ
  next = after_in list slot

  abbrev links1 : List Link
  links1 = links_with Forward links prev next

  abbrev ends1 : List Ends
  ends1 = ends_with Forward ends number prev next

  abbrev links2 : List Link
  links2 = links_with Backward links1 next prev

  abbrev ends2 : List Ends
  ends2 = ends_with Backward ends1 number next prev

  abbrev lists' : List (List ℕ)
  lists' = removed lists slot

  is_position_prev : IsPosition list prev
  is_position_prev = IsPosition-without slot list prev (IsPosition-before_in list slot distinct there)

  is_position_next : IsPosition list next
  is_position_next = IsPosition-without slot list next (IsPosition-after_in list slot distinct there)

  next_here : (position : Option ℕ) → IsPosition (without slot list) position → neighbour_at Forward links1 ends1 number position ≡ after (without slot list) position
  next_here position stays = elim (cases_position position prev) [
    | inl e ↦ subst (λ p. neighbour_at Forward links1 ends1 number p ≡ after (without slot list) p) (sym e)
        (neighbour_at-with Forward links ends number prev next (IsInside-linked links ends used lists linked number prev exists is_position_prev)
        ∙ sym (after-without_before list slot distinct there))
    | inr outer ↦ neighbour_at-with_other Forward links ends number prev next number position outer
        ∙ linked.next number position (IsPosition-without slot list position stays)
        ∙ sym (after-without_other list slot distinct there position (IsPosition-without_other slot list position stays) outer)
  ]

  next_elsewhere : (other : ℕ) → other ≢ number → (position : Option ℕ) → IsPosition (list_at lists other) position → neighbour_at Forward links1 ends1 other position ≡ after (list_at lists other) position
  next_elsewhere other differ position stays =
      neighbour_at-with_elsewhere Forward links ends number prev next other position differ
      (apart-linked links ends used lists linked number other prev position differ is_position_prev stays)
      ∙ linked.next other position stays

  inside_links1 : IsInside links1 ends1 number next
  inside_links1 = IsInside-of links1 ends1 links ends number next (length-links_with Forward links prev next) (length-ends_with Forward ends number prev next)
      (IsInside-linked links ends used lists linked number next exists is_position_next)

  prev_here : (position : Option ℕ) → IsPosition (without slot list) position → neighbour_at Backward links2 ends2 number position ≡ before (without slot list) position
  prev_here position stays = elim (cases_position position next) [
    | inl e ↦ subst (λ p. neighbour_at Backward links2 ends2 number p ≡ before (without slot list) p) (sym e)
        (neighbour_at-with Backward links1 ends1 number next prev inside_links1 ∙ sym (before-without_after list slot distinct there))
    | inr inner ↦ neighbour_at-with_other Backward links1 ends1 number next prev number position inner
        ∙ neighbour_at-with_reverse Forward links ends number prev next number position
        ∙ linked.prev number position (IsPosition-without slot list position stays)
        ∙ sym (before-without_other list slot distinct there position (IsPosition-without_other slot list position stays) inner)
  ]

  prev_elsewhere : (other : ℕ) → other ≢ number → (position : Option ℕ) → IsPosition (list_at lists other) position → neighbour_at Backward links2 ends2 other position ≡ before (list_at lists other) position
  prev_elsewhere other differ position stays =
      neighbour_at-with_elsewhere Backward links1 ends1 number next prev other position differ
      (apart-linked links ends used lists linked number other next position differ is_position_next stays)
      ∙ neighbour_at-with_reverse Forward links ends number prev next other position
      ∙ linked.prev other position stays

  -- what is used after
  abbrev left : List Bool
  left = set used slot false

  -- another list never had the slot
  kept : (other : ℕ) → other ≢ number → list_at lists' other ≡ list_at lists other
  kept other differ = list_at-removed lists slot other ∙ without-absent slot (list_at lists other) (absent_elsewhere (has (list_at lists other) slot) refl) where
    absent_elsewhere : (b : Bool) → has (list_at lists other) slot ≡ b → b ≡ false
    absent_elsewhere true on = absurd (differ (sym (linked.numbered other slot on)))
    absent_elsewhere false off = refl

  stays_of : (n other : ℕ) → has (list_at lists' n) other ≡ true → (other ≢ slot) × (has (list_at lists n) other ≡ true)
  stays_of n other stays =
      let both : (not (eqb other slot) && has (list_at lists n) other) ≡ true = sym (has-without slot (list_at lists n) other) ∙ subst (λ xs. has xs other ≡ true) (list_at-removed lists slot n) stays in
      ((λ e. grind (arith, nat_tests, both, e)), grind (arith, both))

  list_kept : (other : ℕ) → (link_at links2 other).list ≡ (link_at links other).list
  list_kept other = list-with Backward links1 next prev other ∙ list-with Forward links prev next other

  left_before : (other : ℕ) → other ≢ slot → get_or left other false ≡ get_or used other false
  left_before other apart = get_or-set_other used slot other false false apart

  in_use' : (n other : ℕ) → has (list_at lists' n) other ≡ true → get_or left other false ≡ true
  in_use' n other stays = let was = stays_of n other stays in left_before other was.0 ∙ linked.in_use n other was.1

  numbered' : (n other : ℕ) → has (list_at lists' n) other ≡ true → (link_at links2 other).list ≡ n
  numbered' n other stays = list_kept other ∙ linked.numbered n other (stays_of n other stays).1

  left_slot : get_or left slot false ≡ false
  left_slot = get_or-set_same used slot false false (subst (λ n. slot < n) (sym linked.as_long) (inside-linked links ends used lists linked number slot there))

  listed' : (other : ℕ) → get_or left other false ≡ true → has (list_at lists' (link_at links2 other).list) other ≡ true
  listed' other stays = rw (list_kept other, list_at-removed lists slot (link_at links other).list, has-without slot (list_at lists (link_at links other).list) other) (elim (cases_eq other slot) [
    | inl e ↦ absurd (grind (arith, stays, e, left_slot))
    | inr apart ↦ grind (arith, nat_tests, apart, linked.listed other (sym (left_before other apart) ∙ stays))
  ])

  next' : (n : ℕ) (position : Option ℕ) → IsPosition (list_at lists' n) position → neighbour_at Forward links2 ends2 n position ≡ after (list_at lists' n) position
  next' n position stays = neighbour_at-with_reverse Backward links1 ends1 number next prev n position ∙ read_at_each lists lists' number _ (list_at-removed lists slot number) kept (neighbour_at Forward links1 ends1) after next_here next_elsewhere n position stays

  prev' : (n : ℕ) (position : Option ℕ) → IsPosition (list_at lists' n) position → neighbour_at Backward links2 ends2 n position ≡ before (list_at lists' n) position
  prev' n position stays = read_at_each lists lists' number _ (list_at-removed lists slot number) kept (neighbour_at Backward links2 ends2) before prev_here prev_elsewhere n position stays

  linked2 : IsLinked links2 ends2 left lists'
  linked2 = record {
    as_many = length-removed lists slot ∙ linked.as_many ∙ sym (length-ends_with Backward ends1 number next prev ∙ length-ends_with Forward ends number prev next);
    as_long = length-set used slot false ∙ linked.as_long ∙ sym (length-links_with Backward links1 next prev ∙ length-links_with Forward links prev next);
    distinct = λ n. rw (list_at-removed lists slot n) (is_distinct-without slot (list_at lists n) (linked.distinct n));
    in_use = in_use';
    listed = listed';
    numbered = numbered';
    next = next';
    prev = prev';
  }

  -- the links of the slot say where it stands
  pub link_at-linked : link_at links slot ≡ record { prev = prev; next = next; list = number }
  link_at-linked = λ i. record { prev = linked.prev number (Some slot) there i; next = linked.next number (Some slot) there i; list = number }

  module _ (link : Link) (read : link ≡ link_at links slot) where
    link_is : link ≡ record { prev = prev; next = next; list = number }
    link_is = read ∙ link_at-linked

    pub IsInside-remove_prev : IsInside links ends link.list link.prev
    IsInside-remove_prev = subst (λ l. IsInside links ends l.list l.prev) (sym link_is) (IsInside-linked links ends used lists linked number prev exists is_position_prev)

    pub IsInside-remove_next : (la : List Link) (ea : List Ends) → la ≡ links_with Forward links link.prev link.next → ea ≡ ends_with Forward ends link.list link.prev link.next → IsInside la ea link.list link.next
    IsInside-remove_next la ea links_next ends_next = rw (links_next, ends_next)
        (subst (λ l. IsInside (links_with Forward links l.prev l.next) (ends_with Forward ends l.list l.prev l.next) l.list l.next) (sym link_is) inside_links1)

    pub IsLinked-remove : (la lb : List Link) (ea eb : List Ends) → la ≡ links_with Forward links link.prev link.next → lb ≡ links_with Backward la link.next link.prev → ea ≡ ends_with Forward ends link.list link.prev link.next → eb ≡ ends_with Backward ea link.list link.next link.prev → IsLinked lb eb (set used slot false) (removed lists slot)
    IsLinked-remove la lb ea eb links_next links_prev ends_next ends_prev = rw (links_prev, ends_prev, links_next, ends_next)
        (subst (λ l. IsLinked (links_with Backward (links_with Forward links l.prev l.next) l.next l.prev) (ends_with Backward (ends_with Forward ends l.list l.prev l.next) l.list l.next l.prev) left lists') (sym link_is) linked2)
