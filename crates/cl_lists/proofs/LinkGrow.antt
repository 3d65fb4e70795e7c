-- The links still agree with the lists where empty lists and free slots come.
use Rattle.std.proofs.Common.{◌≡◌, ℕ, zero, suc, ◌+◌, Bool, true, false, List, [], ◌∷◌, ◌++◌, Option, Some, None, length, get_or, replicate, refl, sym, ap, subst, ◌∙◌, arith, length-append}
use Rattle.std.proofs.lemmas.List.{length_push, length-replicate}
use Rattle.cl_lists.specs.declared.slots.Direction.{Direction}
use Rattle.cl_lists.specs.declared.slots.Direction.TheVariants.{Forward, Backward}
use Rattle.cl_lists.specs.declared.slots.Link.{Link}
use Rattle.cl_lists.specs.declared.slots.Ends.{Ends}
use Rattle.cl_lists.specs.SlotList.{has, is_distinct}
use Rattle.cl_lists.specs.Lists.{list_at}
use Rattle.cl_lists.specs.Links.{IsPosition, after, before, no_link, no_ends, link_at, ends_at, IsLinked, neighbour_at}

pub IsLinked-none : IsLinked [] [] [] []
unfolding is_distinct
IsLinked-none = record {
  as_many = refl;
  as_long = refl;
  distinct = λ number. refl;
  in_use = λ number slot there. absurd (grind (arith, there));
  listed = λ slot there. absurd (grind (arith, there));
  numbered = λ number slot there. absurd (grind (arith, there));
  next = next_none;
  prev = prev_none;
} where
  next_none : (number : ℕ) (position : Option ℕ) → IsPosition (list_at [] number) position → neighbour_at Forward [] [] number position ≡ after (list_at [] number) position
  next_none number None there = refl
  next_none number (Some slot) there = absurd (grind (arith, there))

  prev_none : (number : ℕ) (position : Option ℕ) → IsPosition (list_at [] number) position → neighbour_at Backward [] [] number position ≡ before (list_at [] number) position
  prev_none number None there = refl
  prev_none number (Some slot) there = absurd (grind (arith, there))

-- the default at the end of a list changes no read
pub get_or-append_default : {A : Type 0} (xs : List A) (n i : ℕ) (d : A) → get_or (xs ++ replicate n d) i d ≡ get_or xs i d
get_or-append_default [] zero i d = refl
get_or-append_default [] (suc n) zero d = refl
get_or-append_default [] (suc n) (suc i) d = get_or-append_default [] n i d
get_or-append_default (x ∷ xs) n zero d = refl
get_or-append_default (x ∷ xs) n (suc i) d = get_or-append_default xs n i d

-- the same reads, and as many links as there are slots
IsLinked-same_reads : (links la : List Link) (ends ea : List Ends) (used ua : List Bool) (lists ls : List (List ℕ)) → IsLinked links ends used lists → length ls ≡ length ea → length ua ≡ length la → ((slot : ℕ) → link_at la slot ≡ link_at links slot) → ((number : ℕ) → ends_at ea number ≡ ends_at ends number) → ((slot : ℕ) → get_or ua slot false ≡ get_or used slot false) → ((number : ℕ) → list_at ls number ≡ list_at lists number) → IsLinked la ea ua ls
IsLinked-same_reads links la ends ea used ua lists ls linked as_many as_long same_link same_ends same_used same_list = record {
  as_many = as_many;
  as_long = as_long;
  distinct = λ number. rw (same_list number) (linked.distinct number);
  in_use = λ number slot there. same_used slot ∙ linked.in_use number slot (subst (λ xs. has xs slot ≡ true) (same_list number) there);
  listed = λ slot there. rw (same_link slot, same_list (link_at links slot).list) (linked.listed slot (sym (same_used slot) ∙ there));
  numbered = λ number slot there. ap (λ l. l.list) (same_link slot) ∙ linked.numbered number slot (subst (λ xs. has xs slot ≡ true) (same_list number) there);
  next = λ number position there. rw (same_list number) (same_neighbour Forward number position ∙ linked.next number position (subst (λ xs. IsPosition xs position) (same_list number) there));
  prev = λ number position there. rw (same_list number) (same_neighbour Backward number position ∙ linked.prev number position (subst (λ xs. IsPosition xs position) (same_list number) there));
} where
  same_neighbour : (direction : Direction) (number : ℕ) (position : Option ℕ) → neighbour_at direction la ea number position ≡ neighbour_at direction links ends number position
  same_neighbour Forward number None = ap (λ e. e.first) (same_ends number)
  same_neighbour Forward number (Some slot) = ap (λ l. l.next) (same_link slot)
  same_neighbour Backward number None = ap (λ e. e.last) (same_ends number)
  same_neighbour Backward number (Some slot) = ap (λ l. l.prev) (same_link slot)

length-more : {A : Type 0} (xs : List A) (n : ℕ) (d : A) → length (xs ++ replicate n d) ≡ length xs + n
length-more xs n d = length-append xs (replicate n d) ∙ ap (λ m. length xs + m) (length-replicate n d)

-- empty lists come
pub IsLinked-more_lists : (links : List Link) (ends : List Ends) (used : List Bool) (lists : List (List ℕ)) (n : ℕ) → IsLinked links ends used lists → IsLinked links (ends ++ replicate n no_ends) used (lists ++ replicate n [])
IsLinked-more_lists links ends used lists n linked =
    IsLinked-same_reads links links ends (ends ++ replicate n no_ends) used used lists (lists ++ replicate n []) linked
    (length-more lists n [] ∙ ap (λ m. m + n) linked.as_many ∙ sym (length-more ends n no_ends))
    linked.as_long
    (λ slot. refl)
    (λ number. get_or-append_default ends n number no_ends)
    (λ slot. refl)
    (λ number. get_or-append_default lists n number [])

-- a slot comes that is on no list
pub IsLinked-more_slots : (links : List Link) (ends : List Ends) (used : List Bool) (lists : List (List ℕ)) → IsLinked links ends used lists → IsLinked (links ++ no_link ∷ []) ends (used ++ false ∷ []) lists
IsLinked-more_slots links ends used lists linked =
    IsLinked-same_reads links (links ++ no_link ∷ []) ends ends used (used ++ false ∷ []) lists lists linked
    linked.as_many
    (length_push used false ∙ ap (λ n. n + 1) linked.as_long ∙ sym (length_push links no_link))
    (λ slot. get_or-append_default links 1 slot no_link)
    (λ number. refl)
    (λ slot. get_or-append_default used 1 slot false)
    (λ number. refl)
