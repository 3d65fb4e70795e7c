-- What follows from where a place is among records in scan order.
use Rattle.std.proofs.Common.{◌≡◌, ℕ, ◌+◌, true, false, List, [], ◌∷◌, ◌++◌, take, drop, get_or, None, Less, sym, ap, ◌∙◌, subst, arith}
use Rattle.std.specs.List.{filter}
use Rattle.std.specs.Ordering.{is_lt}
use Rattle.std.proofs.lemmas.Bool.{cond-true, cond-false}
use Rattle.std.proofs.lemmas.List.{get_or_default, take-append-drop}
use Rattle.std.proofs.lemmas.List.Elements.{All-weaker, All-append, filter-append}
use Rattle.cl_types.specs.Places.{Place, same_place}
use Rattle.cl_types.proofs.Places.{same_place-itself}
use Rattle.cl_store.specs.declared.item.Item.{Item}
use Rattle.cl_store.specs.ScanOrder.{scan_order}
use Rattle.cl_store.specs.Items.{place_of, stored_at, comes_after, IsInScanOrder}
use Rattle.cl_store.specs.Search.{IsFoundAt, BelongsAt}
use Rattle.cl_store.proofs.Places.{scan_order-flip, scan_order-itself, same_place-before, same_place-after}
use Rattle.cl_store.proofs.Parts.{split_at, filter-none, filter-all}
use Rattle.cl_store.proofs.Splits.{said, stored_at-elsewhere, stored_at-split, elsewhere_front, places_back, places_front}

module _ (items : List Item) (place : Place) (at : ℕ) (sorted : IsInScanOrder items) (found : IsFoundAt items place at) (item : Item) (read : item ≡ get_or items at item) where
  split : items ≡ take at items ++ item ∷ drop (at + 1) items
  split = split_at items at item found.in_range read

  pub has_place : place_of item ≡ place
  has_place = ap place_of read ∙ found.has_place item

  -- the record at the index says what stands at the place
  pub stored_at-found : stored_at items place ≡ said item
  stored_at-found =
      ap (λ xs. stored_at xs place) split
      ∙ stored_at-split (take at items) item (drop (at + 1) items) place (elsewhere_front (take at items) item (drop (at + 1) items) (subst IsInScanOrder split sorted))
      ∙ cond-true (same_place (place_of item) place) _ _ (ap (λ p. same_place p place) has_place ∙ same_place-itself place)

  -- the records after the place follow it
  records_after-read : drop (at + 1) items ≡ filter (comes_after place) items
  records_after-read =
      let order = subst IsInScanOrder split sorted in
      let front : filter (comes_after place) (take at items) ≡ [] =
      filter-none (comes_after place) (take at items) (All-weaker (λ i. scan_order (place_of i) (place_of item) ≡ Less) (λ i. comes_after place i ≡ false)
      (λ i before. ap is_lt (scan_order-flip _ _ (rw has_place at before))) (take at items) (places_front (take at items) item (drop (at + 1) items) order)) in
      let back : filter (comes_after place) (item ∷ drop (at + 1) items) ≡ drop (at + 1) items =
      cond-false (comes_after place item) _ _ (ap (λ p. is_lt (scan_order place p)) has_place ∙ ap is_lt (scan_order-itself place))
      ∙ filter-all (comes_after place) (drop (at + 1) items) (All-weaker (λ i. scan_order (place_of item) (place_of i) ≡ Less) (λ i. comes_after place i ≡ true)
      (λ i after. ap is_lt (rw has_place at after)) (drop (at + 1) items) (places_back (take at items) item (drop (at + 1) items) order)) in
      sym (ap (filter (comes_after place)) split
      ∙ filter-append (comes_after place) (take at items) (item ∷ drop (at + 1) items)
      ∙ ap (λ xs. xs ++ filter (comes_after place) (item ∷ drop (at + 1) items)) front
      ∙ back)

pub records_after-found : (items : List Item) (place : Place) (at : ℕ) → IsInScanOrder items → IsFoundAt items place at → drop (at + 1) items ≡ filter (comes_after place) items
records_after-found [] place at sorted found = absurd (omega (arith, found.in_range))
records_after-found (item ∷ items) place at sorted found =
    let xs = item ∷ items in
    records_after-read xs place at sorted found (get_or xs at item) (get_or_default xs at item (get_or xs at item) found.in_range)

module _ (items : List Item) (place : Place) (at : ℕ) (belongs : BelongsAt items place at) where
  -- nothing stands at the place
  pub stored_at-absent : stored_at items place ≡ (0, None)
  stored_at-absent =
      ap (λ xs. stored_at xs place) (sym (take-append-drop at items))
      ∙ stored_at-elsewhere (take at items ++ drop at items) place
      (All-append (λ i. same_place (place_of i) place ≡ false) (take at items) (drop at items)
      (All-weaker (λ i. scan_order (place_of i) place ≡ Less) (λ i. same_place (place_of i) place ≡ false) (λ i. same_place-before (place_of i) place) (take at items) belongs.before)
      (All-weaker (λ i. scan_order place (place_of i) ≡ Less) (λ i. same_place (place_of i) place ≡ false) (λ i. same_place-after (place_of i) place) (drop at items) belongs.after))

  pub records_after-absent : drop at items ≡ filter (comes_after place) items
  records_after-absent = sym (
      ap (filter (comes_after place)) (sym (take-append-drop at items))
      ∙ filter-append (comes_after place) (take at items) (drop at items)
      ∙ ap (λ xs. xs ++ filter (comes_after place) (drop at items))
      (filter-none (comes_after place) (take at items) (All-weaker (λ i. scan_order (place_of i) place ≡ Less) (λ i. comes_after place i ≡ false) (λ i before. ap is_lt (scan_order-flip _ _ before)) (take at items) belongs.before))
      ∙ filter-all (comes_after place) (drop at items) (All-weaker (λ i. scan_order place (place_of i) ≡ Less) (λ i. comes_after place i ≡ true) (λ i after. ap is_lt after) (drop at items) belongs.after))
