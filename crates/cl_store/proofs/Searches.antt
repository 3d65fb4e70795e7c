-- What a binary search finds in an index in scan order.
use Rattle.std.proofs.Common.{◌≡◌, ℕ, ◌+◌, ◌<◌, List, map, length, take, drop, get_or, Result, Ok, Err, IfOk, IfErr, Ordering, Less, sym, ap, ◌∙◌, arith}
use Rattle.std.specs.List.{All, slice_get}
use Rattle.std.specs.List.Sorted.{IsSearchInRange, IsBinarySearchResult, IsNonDecreasingBy}
use Rattle.std.specs.Ordering.{nat_cmp, ordering_then, is_lt, ordering_index, ordering_reverse}
use Rattle.std.proofs.lemmas.List.{take-map, drop-map, length-map, get_or-map}
use Rattle.std.proofs.lemmas.List.Elements.{All-map}
use Rattle.std.proofs.lemmas.List.Sorted.{searchable_from_sorted}
use Rattle.std.proofs.lemmas.Map.Keys.{Less-from_sorted}
use Rattle.std.proofs.lemmas.Option.{slice_get-get_or}
use Rattle.cl_types.specs.Places.{Place}
use Rattle.cl_types.specs.Placement.{hash_of}
use Rattle.cl_store.specs.declared.item.Item.{Item}
use Rattle.cl_store.specs.declared.index_entry.IndexEntry.{IndexEntry}
use Rattle.cl_store.specs.ScanOrder.{scan_order}
use Rattle.cl_store.specs.Index.{no_item, item_of, indexed, names_order, entry_order, IsEntryOf}
use Rattle.cl_store.specs.Items.{place_of, IsInScanOrder}
use Rattle.cl_store.specs.Search.{IsFoundAt, BelongsAt}
use Rattle.cl_store.proofs.Places.{scan_order-total, scan_order-flip, scan_order-Equal}
use Rattle.cl_store.proofs.Parts.{HoldsAt-map, All-take_within, All-drop_within}

-- a search by one order is one by another that agrees with it on the list
agreeing : {X : Type 0} (a b : X → Ordering) (xs : List X) (r : Result ℕ ℕ) → IsSearchInRange r (length xs) → All (λ x. a x ≡ b x) xs →
    IsBinarySearchResult a xs r → IsBinarySearchResult b xs r
agreeing a b xs (Ok at) inside same ties = λ d. sym (same at d inside) ∙ ties d
agreeing a b xs (Err at) inside same parted = λ rise.
    let parts = parted (λ i j d low high. rw (same i d (omega arith), same j d high) (rise i j d low high)) in
    (λ k d low high. sym (same k d (omega arith)) ∙ parts.0 k d low high, λ k d low high. sym (same k d high) ∙ parts.1 k d low high)

module _ (items : List Item) (index : List IndexEntry) (place : Place) (sorted : IsInScanOrder (indexed items index)) where
  abbrev place_at : IndexEntry → Place
  place_at entry = place_of (item_of items entry)

  -- an entry is compared to the place as its record is
  entry_order-record : (entry : IndexEntry) → IsEntryOf items entry → entry_order items place entry ≡ scan_order (place_at entry) place
  unfolding scan_order
  entry_order-record entry points =
      ap (λ hash. ordering_then (nat_cmp hash (hash_of place.1)) (names_order (slice_get items entry.slot) place)) points.hashed
      ∙ ap (λ item. ordering_then (nat_cmp (hash_of (place_at entry).1) (hash_of place.1)) (names_order item place))
      (slice_get-get_or items entry.slot no_item points.in_range)

  -- the orders to the place rise along the entries, as a binary search asks
  orders_rise : IsNonDecreasingBy (λ entry. ordering_index (scan_order (place_at entry) place)) index
  orders_rise =
      searchable_from_sorted scan_order-total place_at index place (λ k d low inside.
      (let at : (i : ℕ) → i < length index → get_or (map place_of (indexed items index)) i (place_at d) ≡ place_at (get_or index i d) =
      λ i below. get_or-map place_of (indexed items index) i (item_of items d) (place_at d) (rw (length-map index (item_of items)) below)
      ∙ ap place_of (get_or-map (item_of items) index i d (item_of items d) below) in
      let less = Less-from_sorted scan_order (map place_of (indexed items index)) k (k + 1) (place_at d) sorted (omega arith)
      (omega (arith, inside, length-map (indexed items index) place_of, length-map index (item_of items))) in
      ap is_lt (scan_order-flip _ _ (rw (at k (omega arith), at (k + 1) (omega arith)) at less))))

  -- a binary search by the records ends at the place, or where the place belongs
  by_records : (r : Result ℕ ℕ) → IsSearchInRange r (length index) → IsBinarySearchResult (λ entry. scan_order (place_at entry) place) index r →
      record { found : IfOk r (IsFoundAt (indexed items index) place); absent : IfErr r (BelongsAt (indexed items index) place) }
  by_records (Ok at) inside ties = record {
    found = record {
      in_range = omega (arith, length-map index (item_of items));
      has_place = HoldsAt-map (λ item. place_of item ≡ place) (item_of items) index at inside (λ d. scan_order-Equal _ _ (ties d));
    };
    absent = tt;
  }
  by_records (Err at) inside parted = record {
    found = tt;
    absent = record {
      in_range = omega (arith, length-map index (item_of items));
      before = rw (take-map (item_of items) at index)
          (All-map (λ item. scan_order (place_of item) place ≡ Less) (item_of items) (take at index)
          (All-take_within (λ entry. scan_order (place_at entry) place ≡ Less) index at inside (parted orders_rise).0));
      after = rw (drop-map (item_of items) at index)
          (All-map (λ item. scan_order place (place_of item) ≡ Less) (item_of items) (drop at index)
          (All-drop_within (λ entry. scan_order place (place_at entry) ≡ Less) index at inside
          (λ k d low high. scan_order-total.antisymm place _ ∙ ap ordering_reverse ((parted orders_rise).1 k d low high))));
    };
  }

  -- so does one by the entries
  pub searched : (r : Result ℕ ℕ) → All (IsEntryOf items) index → IsSearchInRange r (length index) → IsBinarySearchResult (entry_order items place) index r →
      record { found : IfOk r (IsFoundAt (indexed items index) place); absent : IfErr r (BelongsAt (indexed items index) place) }
  searched r entries inside by_entries =
      by_records r inside
      (agreeing (entry_order items place) (λ entry. scan_order (place_at entry) place) index r inside
      (λ k d below. entry_order-record (get_or index k d) (entries k d below)) by_entries)
