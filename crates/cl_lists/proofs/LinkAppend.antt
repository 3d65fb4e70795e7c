-- The links still agree with the lists after a slot comes last on one of them.
use Rattle.std.proofs.Common.{◌≡◌, ◌≢◌, ◌⊎◌, ℕ, ◌<◌, Bool, true, false, List, [], ◌∷◌, ◌++◌, Option, Some, None, length, get_or, set, sym, ap, subst, ◌∙◌, arith, inl, inr, length-set, get_or-set_same, get_or-set_other}
use Rattle.std.proofs.lemmas.List.{get_or_default}
use Rattle.std.proofs.lemmas.Bool.Decides.{nat_tests}
use Rattle.std.proofs.lemmas.Bool.{cases_eq}
use Rattle.cl_lists.specs.declared.slots.Direction.TheVariants.{Forward, Backward}
use Rattle.cl_lists.specs.declared.slots.Link.{Link}
use Rattle.cl_lists.specs.declared.slots.Ends.{Ends}
use Rattle.cl_lists.specs.SlotList.{has, is_distinct, last_of}
use Rattle.cl_lists.specs.Lists.{list_at, appended}
use Rattle.cl_lists.specs.Links.{IsInside, IsPosition, after, before, link_at, ends_at, IsLinked, neighbour_at, links_with, ends_with}
use Rattle.cl_lists.proofs.Linked.{cases_position, IsInside-linked, absent-linked, apart-linked, read_at_each}
use Rattle.cl_lists.proofs.ListsLaws.{list_at-appended_same, list_at-appended_other, length-appended}
use Rattle.cl_lists.proofs.LinkWrites.{length-links_with, length-ends_with, neighbour_at-with, neighbour_at-with_other, neighbour_at-with_elsewhere, neighbour_at-with_reverse, list-with}
use Rattle.cl_lists.proofs.Positions.{after-push_last, after-push_self, after-push_other, before-push_end, before-push_self, before-push_other, IsPosition-last, IsPosition-push}
use Rattle.cl_lists.proofs.SlotListLemmas.{has-append, is_distinct-push}

link_at-set_free : (links : List Link) (used : List Bool) (slot : ℕ) (link : Link) (other : ℕ) → get_or used slot false ≡ false → get_or used other false ≡ true → link_at (set links slot link) other ≡ link_at links other
link_at-set_free links used slot link other free taken = get_or-set_other links slot other link _ (λ e. grind (arith, free, taken, e))

-- a slot that is on no list may have any links
pub IsLinked-set_free : (links : List Link) (ends : List Ends) (used : List Bool) (lists : List (List ℕ)) (slot : ℕ) (link : Link) → IsLinked links ends used lists → get_or used slot false ≡ false → IsLinked (set links slot link) ends used lists
IsLinked-set_free links ends used lists slot link linked free = record {
  as_many = linked.as_many;
  as_long = linked.as_long ∙ sym (length-set links slot link);
  distinct = linked.distinct;
  in_use = linked.in_use;
  listed = λ other there. rw (link_at-set_free links used slot link other free there) (linked.listed other there);
  numbered = λ number other there. ap (λ l. l.list) (link_at-set_free links used slot link other free (linked.in_use number other there)) ∙ linked.numbered number other there;
  next = next_kept;
  prev = prev_kept;
} where
  next_kept : (number : ℕ) (position : Option ℕ) → IsPosition (list_at lists number) position → neighbour_at Forward (set links slot link) ends number position ≡ after (list_at lists number) position
  next_kept number None there = linked.next number None there
  next_kept number (Some other) there =
      ap (λ l. l.next) (link_at-set_free links used slot link other free (linked.in_use number other there)) ∙ linked.next number (Some other) there

  prev_kept : (number : ℕ) (position : Option ℕ) → IsPosition (list_at lists number) position → neighbour_at Backward (set links slot link) ends number position ≡ before (list_at lists number) position
  prev_kept number None there = linked.prev number None there
  prev_kept number (Some other) there =
      ap (λ l. l.prev) (link_at-set_free links used slot link other free (linked.in_use number other there)) ∙ linked.prev number (Some other) there

-- a slot of the new lists is the one that came, or a slot of the old ones
pub record IsOld (lists : List (List ℕ)) (number slot other : ℕ) : Type 0 where
  pub apart : other ≢ slot
  pub there : has (list_at lists number) other ≡ true

has-appended_cases : (lists : List (List ℕ)) (number slot : ℕ) → number < length lists → ((n : ℕ) → has (list_at lists n) slot ≡ false) → (n other : ℕ) → has (list_at (appended lists number slot) n) other ≡ true → ((n ≡ number) × (other ≡ slot)) ⊎ IsOld lists n slot other
has-appended_cases lists number slot exists absent n other there =
    elim (cases_eq n number) [
      | inl same ↦ elim (cases_eq other slot) [
        | inl e ↦ inl (same, e)
        | inr apart ↦ inr (record { apart = apart; there = grind (arith, nat_tests, same, list_at-appended_same lists number slot exists, has-append (list_at lists number) (slot ∷ []) other, there) })
      ]
      | inr differ ↦
          let old = subst (λ xs. has xs other ≡ true) (list_at-appended_other lists number slot n differ) there in
          inr (record { apart = (λ e. grind (arith, absent n, old, e)); there = old })
    ]

has-appended_new : (lists : List (List ℕ)) (number slot : ℕ) → number < length lists → has (list_at (appended lists number slot) number) slot ≡ true
has-appended_new lists number slot exists = grind (arith, nat_tests, list_at-appended_same lists number slot exists, has-append (list_at lists number) (slot ∷ []) slot)

has-appended_old : (lists : List (List ℕ)) (number slot : ℕ) → number < length lists → (n other : ℕ) → has (list_at lists n) other ≡ true → has (list_at (appended lists number slot) n) other ≡ true
has-appended_old lists number slot exists n other there =
    elim (cases_eq n number) [
      | inl same ↦ grind (arith, nat_tests, same, list_at-appended_same lists number slot exists, has-append (list_at lists number) (slot ∷ []) other, there)
      | inr differ ↦ subst (λ xs. has xs other ≡ true) (sym (list_at-appended_other lists number slot n differ)) there
    ]

-- the links and the ends after a slot, which was on no list, comes last on a list
abbrev links_appended : List Link → List Ends → ℕ → ℕ → List Link
links_appended links ends number slot =
    let last = (ends_at ends number).last in
    links_with Forward (set links slot (record { prev = last; next = None; list = number })) last (Some slot)

abbrev ends_appended : List Ends → ℕ → ℕ → List Ends
ends_appended ends number slot =
    ends_with Backward (ends_with Forward ends number (ends_at ends number).last (Some slot)) number None (Some slot)

module _ (links : List Link) (ends : List Ends) (used : List Bool) (lists : List (List ℕ)) (number slot : ℕ) (linked : IsLinked links ends used lists) (exists : number < length ends) (inside : slot < length links) (free : get_or used slot false ≡ false) where
  abbrev list : List ℕ
  list = list_at lists number

  abbrev last : Option ℕ
  last = last_of list

  distinct : is_distinct list ≡ true
  distinct = linked.distinct number

  absent : (other : ℕ) → has (list_at lists other) slot ≡ false
  absent other = absent-linked links ends used lists linked other slot free

  -- what is used after
  abbrev taken : List Bool
  taken = set used slot true

  abbrev lists' : List (List ℕ)
  lists' = appended lists number slot

  here : list_at lists' number ≡ list ++ slot ∷ []
  here = list_at-appended_same lists number slot (subst (λ n. number < n) (sym linked.as_many) exists)

  -- the links after the write of the slot's own
  abbrev links1 : List Link
  links1 = set links slot (record { prev = last; next = None; list = number })

  linked1 : IsLinked links1 ends used lists
  linked1 = IsLinked-set_free links ends used lists slot _ linked free

  own : link_at links1 slot ≡ record { prev = last; next = None; list = number }
  own = get_or-set_same links slot _ _ inside

  abbrev links2 : List Link
  links2 = links_with Forward links1 last (Some slot)

  abbrev ends2 : List Ends
  ends2 = ends_with Forward ends number last (Some slot)

  abbrev ends3 : List Ends
  ends3 = ends_with Backward ends2 number None (Some slot)

  inside_last : IsInside links1 ends number last
  inside_last = IsInside-linked links1 ends used lists linked1 number last exists (IsPosition-last list)

  next_here : (position : Option ℕ) → IsPosition (list ++ slot ∷ []) position → neighbour_at Forward links2 ends2 number position ≡ after (list ++ slot ∷ []) position
  next_here position there = elim (cases_position position last) [
    | inl e ↦ subst (λ p. neighbour_at Forward links2 ends2 number p ≡ after (list ++ slot ∷ []) p) (sym e)
        (neighbour_at-with Forward links1 ends number last (Some slot) inside_last ∙ sym (after-push_last list slot distinct (absent number)))
    | inr outer ↦ neighbour_at-with_other Forward links1 ends number last (Some slot) number position outer
        ∙ elim (cases_position position (Some slot)) [
          | inl e ↦ subst (λ p. neighbour_at Forward links1 ends number p ≡ after (list ++ slot ∷ []) p) (sym e)
              (ap (λ l. l.next) own ∙ sym (after-push_self list slot distinct (absent number)))
          | inr apart ↦ linked1.next number position (IsPosition-push list slot position apart there)
              ∙ sym (after-push_other list slot distinct (absent number) position apart outer)
        ]
  ]

  next_elsewhere : (other : ℕ) → other ≢ number → (position : Option ℕ) → IsPosition (list_at lists other) position → neighbour_at Forward links2 ends2 other position ≡ after (list_at lists other) position
  next_elsewhere other differ position there =
      neighbour_at-with_elsewhere Forward links1 ends number last (Some slot) other position differ
      (apart-linked links1 ends used lists linked1 number other last position differ (IsPosition-last list) there)
      ∙ linked1.next other position there

  prev_here : (position : Option ℕ) → IsPosition (list ++ slot ∷ []) position → neighbour_at Backward links2 ends3 number position ≡ before (list ++ slot ∷ []) position
  prev_here position there = elim (cases_position position None) [
    | inl e ↦ subst (λ p. neighbour_at Backward links2 ends3 number p ≡ before (list ++ slot ∷ []) p) (sym e)
        (neighbour_at-with Backward links2 ends2 number None (Some slot) (subst (λ n. number < n) (sym (length-ends_with Forward ends number last (Some slot))) exists)
        ∙ sym (before-push_end list slot distinct (absent number)))
    | inr inner ↦ neighbour_at-with_other Backward links2 ends2 number None (Some slot) number position inner
        ∙ neighbour_at-with_reverse Forward links1 ends number last (Some slot) number position
        ∙ elim (cases_position position (Some slot)) [
          | inl e ↦ subst (λ p. neighbour_at Backward links1 ends number p ≡ before (list ++ slot ∷ []) p) (sym e)
              (ap (λ l. l.prev) own ∙ sym (before-push_self list slot distinct (absent number)))
          | inr apart ↦ linked1.prev number position (IsPosition-push list slot position apart there)
              ∙ sym (before-push_other list slot distinct (absent number) position apart inner)
        ]
  ]

  prev_elsewhere : (other : ℕ) → other ≢ number → (position : Option ℕ) → IsPosition (list_at lists other) position → neighbour_at Backward links2 ends3 other position ≡ before (list_at lists other) position
  prev_elsewhere other differ position there =
      neighbour_at-with_elsewhere Backward links2 ends2 number None (Some slot) other position differ (λ s here none. grind (arith, none))
      ∙ neighbour_at-with_reverse Forward links1 ends number last (Some slot) other position
      ∙ linked1.prev other position there

  exists' : number < length lists
  exists' = subst (λ n. number < n) (sym linked.as_many) exists

  list_kept : (other : ℕ) → (link_at links2 other).list ≡ (link_at links1 other).list
  list_kept other = list-with Forward links1 last (Some slot) other

  taken_before : (other : ℕ) → other ≢ slot → get_or taken other false ≡ get_or used other false
  taken_before other apart = get_or-set_other used slot other true false apart

  in_use' : (n other : ℕ) → has (list_at lists' n) other ≡ true → get_or taken other false ≡ true
  in_use' n other there = elim (has-appended_cases lists number slot exists' absent n other there) [
    | inl e ↦ subst (λ s. get_or taken s false ≡ true) (sym e.1) (get_or-set_same used slot true false (subst (λ n. slot < n) (sym linked.as_long) inside))
    | inr old ↦ taken_before other old.apart ∙ linked.in_use n other old.there
  ]

  numbered' : (n other : ℕ) → has (list_at lists' n) other ≡ true → (link_at links2 other).list ≡ n
  numbered' n other there = list_kept other ∙ elim (has-appended_cases lists number slot exists' absent n other there) [
    | inl e ↦ ap (λ s. (link_at links1 s).list) e.1 ∙ ap (λ l. l.list) own ∙ sym e.0
    | inr old ↦ linked1.numbered n other old.there
  ]

  listed' : (other : ℕ) → get_or taken other false ≡ true → has (list_at lists' (link_at links2 other).list) other ≡ true
  listed' other there = rw (list_kept other) (elim (cases_eq other slot) [
    | inl e ↦ subst (λ s. has (list_at lists' (link_at links1 s).list) s ≡ true) (sym e) (subst (λ n. has (list_at lists' n) slot ≡ true) (sym (ap (λ l. l.list) own)) (has-appended_new lists number slot exists'))
    | inr apart ↦ has-appended_old lists number slot exists' _ other (linked1.listed other (sym (taken_before other apart) ∙ there))
  ])

  distinct' : (n : ℕ) → is_distinct (list_at lists' n) ≡ true
  distinct' n = elim (cases_eq n number) [
    | inl same ↦ subst (λ n. is_distinct (list_at lists' n) ≡ true) (sym same) (subst (λ xs. is_distinct xs ≡ true) (sym here) (is_distinct-push list slot distinct (absent number)))
    | inr differ ↦ subst (λ xs. is_distinct xs ≡ true) (sym (list_at-appended_other lists number slot n differ)) (linked.distinct n)
  ]

  next' : (n : ℕ) (position : Option ℕ) → IsPosition (list_at lists' n) position → neighbour_at Forward links2 ends3 n position ≡ after (list_at lists' n) position
  next' n position there = neighbour_at-with_reverse Backward links2 ends2 number None (Some slot) n position ∙ read_at_each lists lists' number _ here (list_at-appended_other lists number slot) (neighbour_at Forward links2 ends2) after next_here next_elsewhere n position there

  prev' : (n : ℕ) (position : Option ℕ) → IsPosition (list_at lists' n) position → neighbour_at Backward links2 ends3 n position ≡ before (list_at lists' n) position
  prev' n position there = read_at_each lists lists' number _ here (list_at-appended_other lists number slot) (neighbour_at Backward links2 ends3) before prev_here prev_elsewhere n position there

  linked2 : IsLinked links2 ends3 taken lists'
  linked2 = record {
    as_many = length-appended lists number slot ∙ linked.as_many ∙ sym (length-ends_with Backward ends2 number None (Some slot) ∙ length-ends_with Forward ends number last (Some slot));
    as_long = length-set used slot true ∙ linked.as_long ∙ sym (length-links_with Forward links1 last (Some slot) ∙ length-set links slot _);
    distinct = distinct';
    in_use = in_use';
    listed = listed';
    numbered = numbered';
    next = next';
    prev = prev';
  }

  pub IsLinked-appended : IsLinked (links_appended links ends number slot) (ends_appended ends number slot) taken lists'
  IsLinked-appended =
      let read : (ends_at ends number).last ≡ last = linked.prev number None tt in
      subst (λ p. IsLinked (links_with Forward (set links slot (record { prev = p; next = None; list = number })) p (Some slot)) (ends_with Backward (ends_with Forward ends number p (Some slot)) number None (Some slot)) taken lists') (sym read) linked2

-- ---- as the writes leave the links and the ends, one after another

module _ (links : List Link) (ends : List Ends) (used : List Bool) (lists : List (List ℕ)) (number slot : ℕ) (linked : IsLinked links ends used lists) (exists : number < length ends) (free : get_or used slot false ≡ false) (both : Ends) where
  -- the last slot of the list, as it is read
  abbrev last_read : Option ℕ
  last_read = (get_or ends number both).last

  last_is : last_read ≡ (ends_at ends number).last
  last_is = ap (λ e. e.last) (get_or_default ends number both _ exists)

  pub IsInside-append : (written : List Link) (link : Link) → written ≡ set links slot link → IsInside written ends number last_read
  IsInside-append written link is_written =
      let linked1 = IsLinked-set_free links ends used lists slot link linked free in
      let position : IsPosition (list_at lists number) last_read =
      subst (IsPosition (list_at lists number)) (sym (last_is ∙ linked.prev number None tt)) (IsPosition-last (list_at lists number)) in
      subst (λ ls. IsInside ls ends number last_read) (sym is_written)
      (IsInside-linked (set links slot link) ends used lists linked1 number last_read exists position)

  pub IsLinked-append : slot < length links → (la lb lc : List Link) (ea eb : List Ends) → la ≡ set links slot (record { prev = last_read; next = None; list = number }) → lb ≡ links_with Forward la last_read (Some slot) → lc ≡ lb → ea ≡ ends_with Forward ends number last_read (Some slot) → eb ≡ ends_with Backward ea number None (Some slot) → IsLinked lc eb (set used slot true) (appended lists number slot)
  IsLinked-append inside la lb lc ea eb own next same ends_next ends_prev =
      let links_are : lc ≡ links_appended links ends number slot =
      same ∙ next ∙ ap (λ ls. links_with Forward ls last_read (Some slot)) own
      ∙ ap (λ p. links_with Forward (set links slot (record { prev = p; next = None; list = number })) p (Some slot)) last_is in
      let ends_are : eb ≡ ends_appended ends number slot =
      ends_prev ∙ ap (λ es. ends_with Backward es number None (Some slot)) (ends_next ∙ ap (λ p. ends_with Forward ends number p (Some slot)) last_is) in
      rw (links_are, ends_are) (IsLinked-appended links ends used lists number slot linked exists inside free)
