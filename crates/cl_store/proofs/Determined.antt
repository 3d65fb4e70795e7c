-- Records in scan order are found by their places, and what stands at each place determines them.
use Rattle.std.proofs.Common.{◌≡◌, ◌≤◌, List, [], ◌∷◌, get_or, None, Less, Equal, Greater, Ordering, false, refl, sym, ap, ◌∙◌, inl, inr, arith}
use Rattle.std.specs.List.{All}
use Rattle.std.specs.Ordering.{ordering_reverse}
use Rattle.std.proofs.lemmas.Bool.{cases_Bool, cond-true, cond-false}
use Rattle.std.proofs.lemmas.List.{get_or_default}
use Rattle.std.proofs.lemmas.List.Elements.{All-nil, All-cons, All-head, All-tail, All-weaker}
use Rattle.cl_types.specs.Places.{Place, Stored, same_place}
use Rattle.cl_types.proofs.Places.{same_place-true, same_place-itself}
use Rattle.cl_store.specs.declared.item.Item.{Item}
use Rattle.cl_store.specs.ScanOrder.{scan_order}
use Rattle.cl_store.specs.Items.{place_of, stored_at, IsInScanOrder, IsWritten}
use Rattle.cl_store.proofs.Found.{stored_at-found}
use Rattle.cl_store.proofs.Places.{scan_order-total, scan_order-Equal, same_place-after}
use Rattle.cl_store.proofs.Splits.{said, stored_at-elsewhere, places_back, order_rest}

-- a record is found by its place
pub stored_at-record : (items : List Item) → IsInScanOrder items → All (λ item. stored_at items (place_of item) ≡ said item) items
stored_at-record items sorted = λ k d inside.
    stored_at-found items (place_of (get_or items k d)) k sorted
    (record { in_range = inside; has_place = λ e. ap place_of (get_or_default items k e d inside) })
    (get_or items k d) (get_or_default items k d (get_or items k d) inside)

-- the first record says what stands at its place
stored_at-first : (item : Item) (items : List Item) → stored_at (item ∷ items) (place_of item) ≡ said item
unfolding stored_at
stored_at-first item items = cond-true _ _ _ (same_place-itself (place_of item))

-- elsewhere the others say what stands there
stored_at-others : (item : Item) (items : List Item) (place : Place) → same_place (place_of item) place ≡ false → stored_at (item ∷ items) place ≡ stored_at items place
unfolding stored_at
stored_at-others item items place other = cond-false _ _ _ other

-- where a place comes before the first record, nothing stands at it
stored_at-before : (place : Place) (item : Item) (items : List Item) → IsInScanOrder (item ∷ items) → scan_order place (place_of item) ≡ Less → stored_at (item ∷ items) place ≡ (0, None)
stored_at-before place item items sorted before =
    stored_at-elsewhere (item ∷ items) place
    (All-cons (λ i. same_place (place_of i) place ≡ false) item items (same_place-after (place_of item) place before)
    (All-weaker (λ i. scan_order (place_of item) (place_of i) ≡ Less) (λ i. same_place (place_of i) place ≡ false)
    (λ i after. same_place-after (place_of i) place (scan_order-total.trans place (place_of item) (place_of i) before after)) items (places_back [] item items sorted)))

-- nothing else stands at the place of the first record
pub stored_at-rest : (item : Item) (items : List Item) → IsInScanOrder (item ∷ items) → stored_at items (place_of item) ≡ (0, None)
stored_at-rest item items sorted =
    stored_at-elsewhere items (place_of item)
    (All-weaker (λ i. scan_order (place_of item) (place_of i) ≡ Less) (λ i. same_place (place_of i) (place_of item) ≡ false)
    (λ i after. same_place-after (place_of i) (place_of item) after) items (places_back [] item items sorted))

-- a record that was written is not nothing
never_nothing : (item : Item) (items : List Item) → IsWritten (item ∷ items) → said item ≡ (0, None) → ⊥
never_nothing item items written e =
    let number = ap (λ (s : Stored). s.0) e in
    omega (arith, All-head (λ i. 1 ≤ i.number) item items written)

-- records with the same place that say the same are the same
same_record : (a b : Item) → place_of a ≡ place_of b → said a ≡ said b → a ≡ b
same_record a b place said_same = λ i. record { table = (place i).0; key = (place i).1; number = (said_same i).0; value = (said_same i).1 }

-- records that say the same at each place have the same first record, if the others are the same where they say the same
module _ (x : Item) (a : List Item) (y : Item) (b : List Item) (order_a : IsInScanOrder (x ∷ a)) (written_a : IsWritten (x ∷ a)) (order_b : IsInScanOrder (y ∷ b)) (written_b : IsWritten (y ∷ b))
    (same : (place : Place) → stored_at (x ∷ a) place ≡ stored_at (y ∷ b) place) (others : ((place : Place) → stored_at a place ≡ stored_at b place) → a ≡ b) where
  by_order : (o : Ordering) → scan_order (place_of x) (place_of y) ≡ o → x ∷ a ≡ y ∷ b
  by_order Less e = absurd (never_nothing x a written_a (sym (stored_at-first x a) ∙ same (place_of x) ∙ stored_at-before (place_of x) y b order_b e))
  by_order Greater e =
      absurd (never_nothing y b written_b (sym (stored_at-first y b) ∙ sym (same (place_of y))
      ∙ stored_at-before (place_of y) x a order_a (scan_order-total.antisymm (place_of y) (place_of x) ∙ ap ordering_reverse e)))
  by_order Equal e =
      let at_one : place_of x ≡ place_of y = scan_order-Equal (place_of x) (place_of y) e in
      let first : x ≡ y =
      same_record x y at_one
      (sym (stored_at-first x a) ∙ same (place_of x) ∙ ap (stored_at (y ∷ b)) at_one ∙ stored_at-first y b) in
      let rest : (place : Place) → stored_at a place ≡ stored_at b place =
      λ place. elim (cases_Bool (same_place (place_of x) place)) [
        | inl here ↦
            (let at_x = same_place-true (place_of x) place here in
            ap (stored_at a) (sym at_x) ∙ stored_at-rest x a order_a ∙ sym (stored_at-rest y b order_b) ∙ ap (stored_at b) (sym at_one ∙ at_x))
        | inr other ↦
            sym (stored_at-others x a place other) ∙ same place
            ∙ stored_at-others y b place (ap (λ p. same_place p place) (sym at_one) ∙ other)
      ] in
      ap (λ i. i ∷ a) first ∙ ap (λ items. y ∷ items) (others rest)

  same_records : x ∷ a ≡ y ∷ b
  same_records = by_order (scan_order (place_of x) (place_of y)) refl

pub records-determined : (a b : List Item) → IsInScanOrder a → IsWritten a → IsInScanOrder b → IsWritten b →
    ((place : Place) → stored_at a place ≡ stored_at b place) → a ≡ b
records-determined [] [] order_a written_a order_b written_b same = refl
records-determined [] (y ∷ b) order_a written_a order_b written_b same =
    absurd (never_nothing y b written_b (sym (stored_at-first y b) ∙ sym (same (place_of y)) ∙ stored_at-elsewhere [] (place_of y) (All-nil (λ i. same_place (place_of i) (place_of y) ≡ false))))
records-determined (x ∷ a) [] order_a written_a order_b written_b same =
    absurd (never_nothing x a written_a (sym (stored_at-first x a) ∙ same (place_of x) ∙ stored_at-elsewhere [] (place_of x) (All-nil (λ i. same_place (place_of i) (place_of x) ≡ false))))
records-determined (x ∷ a) (y ∷ b) order_a written_a order_b written_b same =
    same_records x a y b order_a written_a order_b written_b same
    (records-determined a b (order_rest x a order_a) (All-tail (λ i. 1 ≤ i.number) x a written_a) (order_rest y b order_b) (All-tail (λ i. 1 ≤ i.number) y b written_b))
