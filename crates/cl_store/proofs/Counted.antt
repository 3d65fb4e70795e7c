-- As many places have a value as records do.
use Rattle.std.proofs.Common.{◌≡◌, ℕ, ◌+◌, ◌||◌, Bool, true, false, cond, List, [], ◌∷◌, length, Option, Some, None, refl, ap, ◌∙◌, subst, arith}
use Rattle.std.specs.Prelude.{is_some}
use Rattle.std.proofs.lemmas.List.Sums.{sum_by-cons}
use Rattle.cl_types.specs.Places.{Place, Stored, same_place}
use Rattle.cl_types.proofs.Places.{same_place-true, same_place-symmetric}
use Rattle.cl_store.specs.declared.item.Item.{Item}
use Rattle.cl_store.specs.Items.{live, place_of, stored_at, IsInScanOrder}
use Rattle.cl_store.specs.Laws.{LiveRecordsAreCounted}
use Rattle.cl_store.specs.Live.{is_one_of, AreDistinct}
use Rattle.cl_store.proofs.Determined.{stored_at-rest}
use Rattle.cl_store.proofs.Live.{one_if}
use Rattle.cl_store.proofs.Splits.{order_rest}

-- the places of the records that have a value
abbrev live_places : List Item → List Place
live_places [] = []
live_places (item ∷ items) = cond (is_some item.value) (place_of item ∷ live_places items) (live_places items)

-- one record more, by whether it stands at the place
found_more : (place own : Place) (number : ℕ) (value : Option (List ℕ)) (places : List Place) (rest : Stored) (here : Bool) → same_place place own ≡ here → is_one_of places place ≡ is_some rest.1 →
    (here ≡ true → is_some rest.1 ≡ false) → is_one_of (cond (is_some value) (own ∷ places) places) place ≡ is_some (cond here (number, value) rest).1
found_more place own number (Some bytes) places rest true e among none = ap (λ b. b || is_one_of places place) e
found_more place own number (Some bytes) places rest false e among none = ap (λ b. b || is_one_of places place) e ∙ among
found_more place own number None places rest true e among none = among ∙ none refl
found_more place own number None places rest false e among none = among

-- a place is among them where it has a value
live_places-found : (items : List Item) → IsInScanOrder items → (place : Place) → is_one_of (live_places items) place ≡ is_some (stored_at items place).1
unfolding stored_at
live_places-found [] sorted place = refl
live_places-found (item ∷ items) sorted place =
    found_more place (place_of item) item.number item.value (live_places items) (stored_at items place) (same_place (place_of item) place)
    (same_place-symmetric place (place_of item)) (live_places-found items (order_rest item items sorted) place)
    (λ here. ap (λ (s : Stored). is_some s.1) (subst (λ p. stored_at items p ≡ (0, None)) (same_place-true (place_of item) place here) (stored_at-rest item items sorted)))

distinct_more : (b : Bool) (place : Place) (places : List Place) → is_one_of places place ≡ false → AreDistinct places → AreDistinct (cond b (place ∷ places) places)
distinct_more true place places apart distinct = (apart, distinct)
distinct_more false place places apart distinct = distinct

live_places-distinct : (items : List Item) → IsInScanOrder items → AreDistinct (live_places items)
live_places-distinct [] sorted = tt
live_places-distinct (item ∷ items) sorted =
    let rest : IsInScanOrder items = order_rest item items sorted in
    distinct_more (is_some item.value) (place_of item) (live_places items)
    (live_places-found items rest (place_of item) ∙ ap (λ (s : Stored). is_some s.1) (stored_at-rest item items sorted)) (live_places-distinct items rest)

length_more : (b : Bool) (place : Place) (places : List Place) → length (cond b (place ∷ places) places) ≡ one_if b + length places
length_more true place places = omega arith
length_more false place places = omega arith

length-live_places : (items : List Item) → length (live_places items) ≡ live items
length-live_places [] = refl
length-live_places (item ∷ items) =
    let one : Item → ℕ = λ i. one_if (is_some i.value) in
    let more = length_more (is_some item.value) (place_of item) (live_places items) in
    omega (arith, more, length-live_places items, sum_by-cons one item items)

pub live_records_are_counted : LiveRecordsAreCounted
live_records_are_counted items sorted = record {
  places = live_places items;
  distinct = live_places-distinct items sorted;
  exactly = live_places-found items sorted;
  counted = length-live_places items;
}
