-- Reads and writes of records in scan order, by where their places are.
use Rattle.std.proofs.Common.{◌≡◌, ℕ, ◌+◌, ◌<◌, ◌≤◌, cond, List, [], ◌∷◌, ◌++◌, length, take, drop, get_or, set, Option, refl, sym, ap, ◌∙◌, subst, arith}
use Rattle.std.specs.Prelude.{is_some}
use Rattle.std.specs.List.{insert}
use Rattle.std.specs.List.Sorted.{IsStrictlySortedBy}
use Rattle.std.proofs.lemmas.List.{take-append-drop, get_or_default}
use Rattle.cl_types.specs.Places.{Place, same_place}
use Rattle.cl_store.specs.declared.item.Item.{Item}
use Rattle.cl_store.specs.Index.{no_item, item_at}
use Rattle.cl_store.specs.Items.{place_of, stored_at, live, IsInScanOrder}
use Rattle.cl_store.specs.Search.{IsFoundAt, BelongsAt}
use Rattle.cl_store.proofs.Found.{has_place, stored_at-found}
use Rattle.cl_store.proofs.Live.{one_if, live-split}
use Rattle.cl_store.proofs.Parts.{split_at, set_at}
use Rattle.cl_store.proofs.Splits.{said, IsInScanOrder-replaced, IsInScanOrder-between, stored_at-replaced, stored_at-between}

pub IsInScanOrder-none : IsInScanOrder []
unfolding IsStrictlySortedBy
IsInScanOrder-none = tt

-- a record with another number and value
abbrev pub rewritten : Item → ℕ → Option (List ℕ) → Item
rewritten item number value = record item { number = number; value = value }

-- the record at an index is one part of the whole
module _ (items : List Item) (at : ℕ) (inside : at < length items) where
  read : item_at items at ≡ get_or items at (item_at items at)
  read = get_or_default items at no_item (item_at items at) inside

  split : items ≡ take at items ++ item_at items at ∷ drop (at + 1) items
  split = split_at items at (item_at items at) inside read

  -- its value is counted
  pub one-le-live : one_if (is_some (item_at items at).value) ≤ live items
  one-le-live =
      let whole = ap live split ∙ live-split (take at items) (item_at items at) (drop (at + 1) items) in
      omega (arith, whole)

  pub live-overwritten : (number : ℕ) (value : Option (List ℕ)) →
      live (set items at (rewritten (item_at items at) number value)) + one_if (is_some (item_at items at).value) ≡ live items + one_if (is_some value)
  live-overwritten number value =
      let new = rewritten (item_at items at) number value in
      let after = ap live (set_at items at new inside) ∙ live-split (take at items) new (drop (at + 1) items) in
      let before = ap live split ∙ live-split (take at items) (item_at items at) (drop (at + 1) items) in
      omega (arith, after, before)

  module _ (sorted : IsInScanOrder items) where
    -- another record of the same place keeps the order
    pub IsInScanOrder-overwritten : (number : ℕ) (value : Option (List ℕ)) → IsInScanOrder (set items at (rewritten (item_at items at) number value))
    IsInScanOrder-overwritten number value =
        let new = rewritten (item_at items at) number value in
        subst IsInScanOrder (sym (set_at items at new inside))
        (IsInScanOrder-replaced (take at items) (item_at items at) new (drop (at + 1) items) refl (subst IsInScanOrder split sorted))

    module _ (place : Place) (found : IsFoundAt items place at) where
      pub stored_at-read : stored_at items place ≡ said (item_at items at)
      stored_at-read = stored_at-found items place at sorted found (item_at items at) read

      pub stored_at-overwritten : (number : ℕ) (value : Option (List ℕ)) (other : Place) →
          stored_at (set items at (rewritten (item_at items at) number value)) other ≡ cond (same_place place other) (number, value) (stored_at items other)
      stored_at-overwritten number value other =
          let new = rewritten (item_at items at) number value in
          ap (λ xs. stored_at xs other) (set_at items at new inside)
          ∙ stored_at-replaced (take at items) (item_at items at) new (drop (at + 1) items) other refl (subst IsInScanOrder split sorted)
          ∙ ap (λ xs. cond (same_place (place_of new) other) (said new) (stored_at xs other)) (sym split)
          ∙ ap (λ p. cond (same_place p other) (said new) (stored_at items other)) (has_place items place at sorted found (item_at items at) read)

-- one record more, where its place belongs
module _ (items : List Item) (at : ℕ) (new : Item) (belongs : BelongsAt items (place_of new) at) where
  whole : take at items ++ drop at items ≡ items
  whole = take-append-drop at items

  pub IsInScanOrder-inserted : IsInScanOrder items → IsInScanOrder (insert items at new)
  IsInScanOrder-inserted sorted =
      IsInScanOrder-between (take at items) new (drop at items) (subst IsInScanOrder (sym whole) sorted) belongs.before belongs.after

  pub live-inserted : live (insert items at new) ≡ live items + one_if (is_some new.value)
  live-inserted =
      live-split (take at items) new (drop at items)
      ∙ ap (λ xs. live xs + one_if (is_some new.value)) whole

  pub stored_at-inserted : (other : Place) → stored_at (insert items at new) other ≡ cond (same_place (place_of new) other) (said new) (stored_at items other)
  stored_at-inserted other =
      stored_at-between (take at items) new (drop at items) other belongs.before
      ∙ ap (λ xs. cond (same_place (place_of new) other) (said new) (stored_at xs other)) whole
