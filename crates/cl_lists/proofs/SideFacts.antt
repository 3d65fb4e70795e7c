-- A side after the slots changed.
use Rattle.std.proofs.Common.{Vec, Global, ◌≡◌, ◌⊎◌, ℕ, zero, suc, ◌+◌, ◌<◌, ◌≤◌, Bool, false, List, [], ◌∷◌, ◌++◌, replicate, map, length, get_or, set, Option, None, IsSome, refl, sym, ap, subst, ◌∙◌, arith, inl, inr}
use Rattle.std.proofs.lemmas.List.{length-append, length-replicate, with_items_is}
use Rattle.std.specs.Vec.{with_items}
use Rattle.cl_lists.specs.declared.slots.Link.{Link}
use Rattle.cl_lists.specs.declared.slots.Ends.{Ends}
use Rattle.cl_lists.specs.declared.slots.Side.{Side}
use Rattle.cl_lists.specs.declared.slots.Side.TheVariants.{X, Y}
use Rattle.cl_lists.specs.declared.slots.LinkedSlot.{LinkedSlot}
use Rattle.cl_lists.specs.declared.slots.Content.{Content}
use Rattle.cl_lists.specs.declared.slots.Content.TheVariants.{Item, Free}
use Rattle.cl_lists.specs.Links.{no_link, no_ends, IsLinked, lists_of}
use Rattle.cl_lists.specs.Sides.{opposite}
use Rattle.cl_lists.specs.Entries.{links_on, contents, used, frees, is_item, next_free, DifferOn, SameLinks, lists_on_side, AreLinked}
use Rattle.cl_lists.proofs.ContentFacts.{used-written, used-added}
use Rattle.cl_lists.proofs.LinkGrow.{IsLinked-none, IsLinked-more_lists, IsLinked-more_slots}
use Rattle.cl_lists.proofs.Walk.{lists_of-linked}

module _ {T : Type 0} where
  -- the lists are those that the links agree with
  pub record IsSide (side : Side) (slots : List (LinkedSlot T)) (ends : List Ends) (lists : List (List ℕ)) : Type 0 where
    pub linked : AreLinked side slots ends
    pub lists_are : lists_on_side side slots ends ≡ lists

  pub IsSide-from : (side : Side) (slots : List (LinkedSlot T)) (ends : List Ends) (links : List Link) (uses : List Bool) (lists : List (List ℕ)) → IsLinked links ends uses lists → links_on side slots ≡ links → used slots ≡ uses → IsSide side slots ends lists
  IsSide-from side slots ends links uses lists linked same_links same_uses =
      let here : IsLinked (links_on side slots) ends (used slots) lists = rw (same_links, same_uses) linked in
      let are : lists_on_side side slots ends ≡ lists = lists_of-linked (links_on side slots) ends (used slots) lists here in
      record { linked = subst (IsLinked (links_on side slots) ends (used slots)) (sym are) here; lists_are = are }

  -- what a slot has tells whether it is in use, and whether it is free
  unused_by_contents : (all : List (Content T)) (slot : ℕ) → IsSome (get_or (map next_free all) slot None) → get_or (map is_item all) slot false ≡ false
  unused_by_contents [] slot free = refl
  unused_by_contents (Free next ∷ all) zero free = refl
  unused_by_contents (Item item ∷ all) zero free = absurd (grind (arith, free))
  unused_by_contents (content ∷ all) (suc slot) free = unused_by_contents all slot free

  pub unused-free : (slots : List (LinkedSlot T)) (slot : ℕ) → IsSome (get_or (frees slots) slot None) → get_or (used slots) slot false ≡ false
  unused-free slots slot free = unused_by_contents (contents slots) slot free

  pub used-differ : (side : Side) (slots new : List (LinkedSlot T)) → DifferOn side slots new → used new ≡ used slots
  used-differ side slots new differ = ap (map is_item) differ.contents

  -- a change of one side's links leaves the other side as it was
  pub lists_on_side-differ : (side : Side) (slots new : List (LinkedSlot T)) (ends : List Ends) → DifferOn side slots new → lists_on_side (opposite side) new ends ≡ lists_on_side (opposite side) slots ends
  lists_on_side-differ side slots new ends differ = ap (λ links. lists_of links ends) differ.links

  -- Side X changed first, then side Y, then what the slot has: first is what the slots were then.
  module _ (first second third last : List (LinkedSlot T)) (x_changed : DifferOn X first second) (y_changed : DifferOn Y second third) (same : SameLinks third last) where
    pub links_x : links_on X last ≡ links_on X second
    links_x = same X ∙ y_changed.links

    pub links_y : links_on Y last ≡ links_on Y third
    links_y = same Y

    pub contents_third : contents third ≡ contents first
    contents_third = y_changed.contents ∙ x_changed.contents

    module _ (slot : ℕ) (content : Content T) (ends : List Ends) (lists : List (List ℕ)) (written : contents last ≡ set (contents third) slot content) where
      pub IsSide-written_x : IsLinked (links_on X second) ends (set (used first) slot (is_item content)) lists → IsSide X last ends lists
      IsSide-written_x linked =
          IsSide-from X last ends (links_on X second) (set (used first) slot (is_item content)) lists linked links_x
          (used-written first last slot content (written ∙ ap (λ all. set all slot content) contents_third))

      pub IsSide-written_y : IsLinked (links_on Y third) ends (set (used second) slot (is_item content)) lists → IsSide Y last ends lists
      IsSide-written_y linked =
          IsSide-from Y last ends (links_on Y third) (set (used second) slot (is_item content)) lists linked links_y
          (used-written second last slot content (written ∙ ap (λ all. set all slot content) y_changed.contents))

  -- ---- no slots and no lists

  pub lists_on_side-none : (side : Side) (slots : List (LinkedSlot T)) (ends : List Ends) → ends ≡ [] → lists_on_side side slots ends ≡ []
  unfolding lists_of
  lists_on_side-none side slots ends none = ap (λ es. lists_on_side side slots es) none

  pub AreLinked-none : (side : Side) (slots : List (LinkedSlot T)) (ends : List Ends) → slots ≡ [] → ends ≡ [] → AreLinked side slots ends
  AreLinked-none side slots ends no_slots no_ends =
      let links_none : links_on side slots ≡ [] = ap (links_on side) no_slots in
      let used_none : used slots ≡ [] = ap used no_slots in
      rw (lists_on_side-none side slots ends no_ends, links_none, used_none, no_ends) IsLinked-none

  -- ---- the slots and the ends behind two vectors that were written to as slices

  module _ (side : Side) (slots : Vec (LinkedSlot T) Global) (ends : Vec Ends Global) (new : List (LinkedSlot T)) (new_ends : List Ends) (fits : length new ≡ slots.len) (fits_ends : length new_ends ≡ ends.len) where
    pub AreLinked-with_items : AreLinked side new new_ends → AreLinked side (with_items slots new).items (with_items ends new_ends).items
    AreLinked-with_items linked =
        subst (λ s. AreLinked side s (with_items ends new_ends).items) (sym (with_items_is slots new fits))
        (subst (λ e. AreLinked side new e) (sym (with_items_is ends new_ends fits_ends)) linked)

    pub lists_on_side-with_items : lists_on_side side (with_items slots new).items (with_items ends new_ends).items ≡ lists_on_side side new new_ends
    lists_on_side-with_items =
        ap (λ s. lists_on_side side s (with_items ends new_ends).items) (with_items_is slots new fits)
        ∙ ap (λ e. lists_on_side side new e) (with_items_is ends new_ends fits_ends)

  -- ---- lists and slots come

  pub IsSide-more_lists : (side : Side) (slots : List (LinkedSlot T)) (ends new : List Ends) (n : ℕ) → AreLinked side slots ends → new ≡ ends ++ replicate n no_ends → IsSide side slots new (lists_on_side side slots ends ++ replicate n [])
  IsSide-more_lists side slots ends new n linked more =
      IsSide-from side slots new (links_on side slots) (used slots) (lists_on_side side slots ends ++ replicate n [])
      (rw more (IsLinked-more_lists (links_on side slots) ends (used slots) (lists_on_side side slots ends) n linked)) refl refl

  pub IsSide-more_slots : (side : Side) (slots new : List (LinkedSlot T)) (ends : List Ends) (next : Option ℕ) → AreLinked side slots ends → links_on side new ≡ links_on side slots ++ no_link ∷ [] → contents new ≡ contents slots ++ Free next ∷ [] → IsSide side new ends (lists_on_side side slots ends)
  IsSide-more_slots side slots new ends next linked links_more contents_more =
      IsSide-from side new ends (links_on side slots ++ no_link ∷ []) (used slots ++ false ∷ []) (lists_on_side side slots ends)
      (IsLinked-more_slots (links_on side slots) ends (used slots) (lists_on_side side slots ends) linked)
      links_more (used-added slots new next contents_more)

  -- lists came or not
  pub AreLinked-grown : (side : Side) (slots : List (LinkedSlot T)) (ends new : List Ends) (n : ℕ) → AreLinked side slots ends → (new ≡ ends ++ replicate n no_ends) ⊎ (new ≡ ends) → AreLinked side slots new
  AreLinked-grown side slots ends new n linked grown = elim grown [
    | inl more ↦ (IsSide-more_lists side slots ends new n linked more).linked
    | inr same ↦ subst (AreLinked side slots) (sym same) linked
  ]

pub few-with_items : (ends : Vec Ends Global) (new : List Ends) → length new ≡ ends.len → length ends.items < 4294967296 → length (with_items ends new).items < 4294967296
few-with_items ends new fits few = subst (λ es. length es < 4294967296) (sym (with_items_is ends new fits)) (omega (arith, fits, ends.ok.0, few))

pub length-grown : (ends new : List Ends) (n : ℕ) → (new ≡ ends ++ replicate n no_ends) ⊎ (new ≡ ends) → length new ≤ length ends + n
length-grown ends new n grown = elim grown [
  | inl more ↦ omega (arith, ap length more, length-append ends (replicate n no_ends), length-replicate n no_ends)
  | inr same ↦ omega (arith, ap length same)
]
