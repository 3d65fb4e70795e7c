-- What stands at a place in a list of records that is split at a record.
use Rattle.std.proofs.Common.{◌≡◌, Bool, true, false, cond, List, [], ◌∷◌, ◌++◌, map, None, Less, refl, sym, ap, ◌∙◌, subst}
use Rattle.std.specs.List.{All}
use Rattle.std.specs.List.Sorted.{IsStrictlySortedBy}
use Rattle.std.proofs.lemmas.Bool.{cond-false, both_ways}
use Rattle.std.proofs.lemmas.List.{map-append}
use Rattle.std.proofs.lemmas.List.Elements.{All-head, All-tail, All-map, All-weaker}
use Rattle.std.proofs.lemmas.Map.Keys.{sorted_tail}
use Rattle.cl_types.specs.Places.{Place, Stored, same_place}
use Rattle.cl_types.proofs.Places.{same_place-true, same_place-symmetric}
use Rattle.cl_store.specs.declared.item.Item.{Item}
use Rattle.cl_store.specs.ScanOrder.{scan_order}
use Rattle.cl_store.specs.Items.{place_of, stored_at, IsInScanOrder}
use Rattle.cl_store.proofs.Places.{same_place-before}
use Rattle.cl_store.proofs.Parts.{All-unmap}
use Rattle.cl_store.proofs.Sorted.{sorted_front, sorted_back, sorted_between}

-- what a record says
abbrev pub said : Item → Stored
said item = (item.number, item.value)

-- the records are at other places
abbrev pub AllElsewhere : Place → List Item → Type 0
AllElsewhere place items = All (λ item. same_place (place_of item) place ≡ false) items

-- two tests that do not both hold may be made in either order
tests_commute : (a b : Bool) (x y z : Stored) → (a ≡ true → b ≡ false) → cond a x (cond b y z) ≡ cond b y (cond a x z)
tests_commute true true x y z apart = absurd (both_ways true (apart refl) refl)
tests_commute true false x y z apart = refl
tests_commute false b x y z apart = refl

pub stored_at-elsewhere : (items : List Item) (place : Place) → AllElsewhere place items → stored_at items place ≡ (0, None)
unfolding stored_at
stored_at-elsewhere [] place elsewhere = refl
stored_at-elsewhere (item ∷ items) place elsewhere =
    cond-false _ _ _ (All-head (λ i. same_place (place_of i) place ≡ false) item items elsewhere)
    ∙ stored_at-elsewhere items place (All-tail (λ i. same_place (place_of i) place ≡ false) item items elsewhere)

-- a record says what stands at its place, and the others what stands elsewhere, where none before it is at its place
pub stored_at-split : (front : List Item) (item : Item) (back : List Item) (place : Place) → AllElsewhere (place_of item) front →
    stored_at (front ++ item ∷ back) place ≡ cond (same_place (place_of item) place) (said item) (stored_at (front ++ back) place)
unfolding stored_at
stored_at-split [] item back place elsewhere = refl
stored_at-split (other ∷ front) item back place elsewhere =
    let apart = All-head (λ i. same_place (place_of i) (place_of item) ≡ false) other front elsewhere in
    ap (cond (same_place (place_of other) place) (said other))
    (stored_at-split front item back place (All-tail (λ i. same_place (place_of i) (place_of item) ≡ false) other front elsewhere))
    ∙ tests_commute (same_place (place_of other) place) (same_place (place_of item) place) (said other) (said item) (stored_at (front ++ back) place)
    (λ here.
    (let e = same_place-true (place_of other) place here in
    rw (← e) (same_place-symmetric (place_of item) (place_of other) ∙ apart)))

-- the places of a list that is split at a record
places_split : (front : List Item) (item : Item) (back : List Item) → map place_of (front ++ item ∷ back) ≡ map place_of front ++ place_of item ∷ map place_of back
places_split front item back = map-append place_of front (item ∷ back)

module _ (front : List Item) (item : Item) (back : List Item) (sorted : IsInScanOrder (front ++ item ∷ back)) where
  sorted_places : IsStrictlySortedBy scan_order (map place_of front ++ place_of item ∷ map place_of back)
  sorted_places = subst (IsStrictlySortedBy scan_order) (places_split front item back) sorted

  -- in scan order the records before a record come before it, and those behind it after
  pub places_front : All (λ i. scan_order (place_of i) (place_of item) ≡ Less) front
  places_front = All-unmap (λ p. scan_order p (place_of item) ≡ Less) place_of front (sorted_front scan_order (map place_of front) (place_of item) (map place_of back) sorted_places)

  pub places_back : All (λ i. scan_order (place_of item) (place_of i) ≡ Less) back
  places_back = All-unmap (λ p. scan_order (place_of item) p ≡ Less) place_of back (sorted_back scan_order (map place_of front) (place_of item) (map place_of back) sorted_places)

  pub elsewhere_front : AllElsewhere (place_of item) front
  elsewhere_front = All-weaker (λ i. scan_order (place_of i) (place_of item) ≡ Less) (λ i. same_place (place_of i) (place_of item) ≡ false) (λ i. same_place-before (place_of i) (place_of item)) front places_front

-- the records behind the first are in scan order
pub order_rest : (item : Item) (items : List Item) → IsInScanOrder (item ∷ items) → IsInScanOrder items
order_rest item items sorted = sorted_tail scan_order (place_of item) (map place_of items) sorted

-- a record in the place of one of the same place, and a new record where its place belongs, keep the order
pub IsInScanOrder-replaced : (front : List Item) (old new : Item) (back : List Item) → place_of new ≡ place_of old →
    IsInScanOrder (front ++ old ∷ back) → IsInScanOrder (front ++ new ∷ back)
IsInScanOrder-replaced front old new back same sorted =
    rw (places_split front new back, same) (sorted_places front old back sorted)

pub IsInScanOrder-between : (front : List Item) (new : Item) (back : List Item) → IsInScanOrder (front ++ back) →
    All (λ i. scan_order (place_of i) (place_of new) ≡ Less) front → All (λ i. scan_order (place_of new) (place_of i) ≡ Less) back →
    IsInScanOrder (front ++ new ∷ back)
IsInScanOrder-between front new back sorted before after =
    rw (places_split front new back)
    (sorted_between scan_order (map place_of front) (place_of new) (map place_of back) (subst (IsStrictlySortedBy scan_order) (map-append place_of front back) sorted)
    (All-map (λ p. scan_order p (place_of new) ≡ Less) place_of front before)
    (All-map (λ p. scan_order (place_of new) p ≡ Less) place_of back after))

-- the later of two tests of one condition is idle
test_once : (b : Bool) (x y z : Stored) → cond b x z ≡ cond b x (cond b y z)
test_once true x y z = refl
test_once false x y z = refl

-- a record in the place of one of the same place says what stands there, and what stands elsewhere stays
pub stored_at-replaced : (front : List Item) (old new : Item) (back : List Item) (place : Place) → place_of new ≡ place_of old →
    IsInScanOrder (front ++ old ∷ back) →
    stored_at (front ++ new ∷ back) place ≡ cond (same_place (place_of new) place) (said new) (stored_at (front ++ old ∷ back) place)
stored_at-replaced front old new back place same sorted =
    let elsewhere = elsewhere_front front old back sorted in
    let before = stored_at-split front old back place elsewhere in
    stored_at-split front new back place (subst (λ p. AllElsewhere p front) (sym same) elsewhere)
    ∙ test_once (same_place (place_of new) place) (said new) (said old) (stored_at (front ++ back) place)
    ∙ ap (cond (same_place (place_of new) place) (said new))
    (ap (λ p. cond (same_place p place) (said old) (stored_at (front ++ back) place)) same ∙ sym before)

-- a new record where its place belongs says what stands there, and what stands elsewhere stays
pub stored_at-between : (front : List Item) (new : Item) (back : List Item) (place : Place) →
    All (λ i. scan_order (place_of i) (place_of new) ≡ Less) front →
    stored_at (front ++ new ∷ back) place ≡ cond (same_place (place_of new) place) (said new) (stored_at (front ++ back) place)
stored_at-between front new back place before =
    stored_at-split front new back place
    (All-weaker (λ i. scan_order (place_of i) (place_of new) ≡ Less) (λ i. same_place (place_of i) (place_of new) ≡ false) (λ i. same_place-before (place_of i) (place_of new)) front before)
