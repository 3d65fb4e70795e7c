-- What a write to one slot changes.
use Rattle.std.proofs.Common.{◌≡◌, ℕ, zero, suc, ◌<◌, true, false, List, [], ◌∷◌, map, length, get_or, set, Some, None, IsSome, refl, sym, ap, ◌∙◌, arith, inl, inr}
use Rattle.std.proofs.lemmas.List.{map-set, get_or-map, get_or_past, length-map}
use Rattle.std.specs.Prelude.{slice_get}
use Rattle.std.proofs.lemmas.Option.{slice_get-get_or, slice_get-map, get_or_from_slice_get}
use Rattle.std.proofs.lemmas.Bool.{cases_lt}
use Rattle.cl_lists.specs.declared.slots.Link.{Link}
use Rattle.cl_lists.specs.declared.slots.Side.{Side}
use Rattle.cl_lists.specs.declared.slots.Side.TheVariants.{X, Y}
use Rattle.cl_lists.specs.declared.slots.LinkedSlot.{LinkedSlot}
use Rattle.cl_lists.specs.declared.slots.Content.{Content}
use Rattle.cl_lists.specs.Sides.{opposite}
use Rattle.cl_lists.specs.Entries.{link_of, with_link, links_on, contents, used, frees, DifferOn, SameLinks}

-- a write to an element that keeps what f says of it
pub map-set_kept : {A B : Type 0} (f : A → B) (xs : List A) (i : ℕ) (d new : A) → f new ≡ f (get_or xs i d) → map f (set xs i new) ≡ map f xs
map-set_kept f [] i d new kept = refl
map-set_kept f (x ∷ xs) zero d new kept = ap (λ y. y ∷ map f xs) kept
map-set_kept f (x ∷ xs) (suc i) d new kept = ap (λ ys. f x ∷ ys) (map-set_kept f xs i d new kept)

-- what f says of an element, as it is read
pub read_as : {A B : Type 0} (f : A → B) (xs : List A) (i : ℕ) (x : A) (past : B) → slice_get xs i ≡ Some x → get_or (map f xs) i past ≡ f x
read_as f xs i x past h = get_or_from_slice_get (map f xs) i (f x) past (slice_get-map f xs i ∙ rw h refl)

module _ {T : Type 0} where
  link_of-with_link : (side : Side) (entry : LinkedSlot T) (link : Link) → link_of side (with_link side entry link) ≡ link
  link_of-with_link X entry link = refl
  link_of-with_link Y entry link = refl

  link_of-with_link_other : (side : Side) (entry : LinkedSlot T) (link : Link) → link_of (opposite side) (with_link side entry link) ≡ link_of (opposite side) entry
  link_of-with_link_other X entry link = refl
  link_of-with_link_other Y entry link = refl

  content-with_link : (side : Side) (entry : LinkedSlot T) (link : Link) → (with_link side entry link).content ≡ entry.content
  content-with_link X entry link = refl
  content-with_link Y entry link = refl

  module _ (side : Side) (slots : List (LinkedSlot T)) (index slot : ℕ) (d new : LinkedSlot T) (link : Link) (same : index ≡ slot) (written : new ≡ with_link side (get_or slots index d) link) where
    abbrev entry : LinkedSlot T
    entry = get_or slots index d

    pub links_on-set_link : links_on side (set slots index new) ≡ set (links_on side slots) slot link
    links_on-set_link =
        map-set (link_of side) slots index new
        ∙ ap (λ e. set (links_on side slots) index (link_of side e)) written
        ∙ ap (set (links_on side slots) index) (link_of-with_link side entry link)
        ∙ ap (λ i. set (links_on side slots) i link) same

    pub DifferOn-set_link : DifferOn side slots (set slots index new)
    DifferOn-set_link = record {
      links = map-set_kept (link_of (opposite side)) slots index d new (ap (link_of (opposite side)) written ∙ link_of-with_link_other side entry link);
      contents = map-set_kept (λ e. e.content) slots index d new (ap (λ e. e.content) written ∙ content-with_link side entry link);
    }

  -- ---- a write to what a slot has

  module _ (slots : List (LinkedSlot T)) (index slot : ℕ) (d : LinkedSlot T) (new content : Content T) (same : index ≡ slot) (after : new ≡ content) where
    abbrev filled : LinkedSlot T
    filled = record { x = (get_or slots index d).x; y = (get_or slots index d).y; content = new }

    pub contents-set_content : contents (set slots index filled) ≡ set (contents slots) slot content
    contents-set_content =
        map-set (λ e. e.content) slots index filled ∙ ap (set (contents slots) index) after ∙ ap (λ i. set (contents slots) i content) same

    links_on-set_content : (side : Side) → link_of side filled ≡ link_of side (get_or slots index d)
    links_on-set_content X = refl
    links_on-set_content Y = refl

    pub SameLinks-set_content : SameLinks slots (set slots index filled)
    SameLinks-set_content = λ side. map-set_kept (link_of side) slots index d filled (links_on-set_content side)

  -- ---- what a slot has, as it is read

  pub content_read : (slots : List (LinkedSlot T)) (index slot : ℕ) (d : LinkedSlot T) → index ≡ slot → slot < length slots → slice_get (contents slots) slot ≡ Some (get_or slots index d).content
  content_read slots index slot d same inside =
      slice_get-get_or (contents slots) slot d.content (rw length-map inside)
      ∙ ap Some (get_or-map (λ e. e.content) slots slot d d.content inside)
      ∙ ap (λ i. Some (get_or slots i d).content) (sym same)

  pub inside-used : (slots : List (LinkedSlot T)) (slot : ℕ) → get_or (used slots) slot false ≡ true → slot < length slots
  inside-used slots slot in_use = elim (cases_lt slot (length slots)) [
    | inl inside ↦ inside
    | inr past ↦ absurd (grind (arith, in_use, get_or_past (used slots) slot false (rw (length-map, length-map) past)))
  ]

  pub inside-frees : (slots : List (LinkedSlot T)) (slot : ℕ) → IsSome (get_or (frees slots) slot None) → slot < length slots
  inside-frees slots slot free = elim (cases_lt slot (length slots)) [
    | inl inside ↦ inside
    | inr past ↦ absurd (grind (arith, free, get_or_past (frees slots) slot None (rw (length-map, length-map) past)))
  ]
