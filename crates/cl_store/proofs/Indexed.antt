-- What becomes of the records of an index as one of them, or the index, changes.
use Rattle.std.proofs.Common.{◌≡◌, ◌≢◌, ℕ, ◌+◌, ◌-◌, ◌<◌, min, List, [], ◌∷◌, ◌++◌, length, take, drop, get_or, set, Option, Less, ◌⊎◌, inl, inr}
use Rattle.std.proofs.Common.{sym, ap, ◌∙◌, subst, arith}
use Rattle.std.specs.List.{All, insert}
use Rattle.std.proofs.lemmas.Bool.{cases_eq}
use Rattle.std.proofs.lemmas.List.{get_or_append_left, get_or_push, get_or-set_same, get_or-set_other, get_or-map, get_or_default, map-append}
use Rattle.std.proofs.lemmas.List.{take-map, drop-map, take_rest, take_min, length-map, length_push, length-set}
use Rattle.std.proofs.lemmas.List.Elements.{All-weaker, All-append, All-cons, All-take, All-drop}
use Rattle.cl_types.specs.Placement.{hash_of}
use Rattle.cl_store.specs.declared.item.Item.{Item}
use Rattle.cl_store.specs.declared.index_entry.IndexEntry.{IndexEntry}
use Rattle.cl_store.specs.ScanOrder.{scan_order}
use Rattle.cl_store.specs.Index.{no_item, item_at, item_of, indexed, IsEntryOf}
use Rattle.cl_store.specs.Items.{place_of, IsInScanOrder}
use Rattle.cl_store.proofs.Parts.{split_at, set_at, map-same, All-unmap}
use Rattle.cl_store.proofs.Places.{scan_order-itself}
use Rattle.cl_store.proofs.Splits.{places_front, places_back}
use Rattle.cl_store.proofs.Writes.{rewritten, IsInScanOrder-overwritten}

-- the first of two records comes before the second
abbrev IsBefore : Item → Item → Type 0
IsBefore first second = scan_order (place_of first) (place_of second) ≡ Less

never_before : (item : Item) → IsBefore item item → ⊥
never_before item before =
    let ties = scan_order-itself (place_of item) in
    cc

-- another record in the slot of an entry
module _ (items : List Item) (entry : IndexEntry) (new : Item) where
  abbrev after : List Item
  after = set items entry.slot new

  abbrev IsElsewhere : IndexEntry → Type 0
  IsElsewhere other = item_of after other ≡ item_of items other

  elsewhere : (other : IndexEntry) → other.slot ≢ entry.slot → IsElsewhere other
  elsewhere other apart = get_or-set_other items entry.slot other.slot new no_item apart

  -- the entries that come before it or after it in scan order have other slots
  earlier : (other : IndexEntry) → IsBefore (item_of items other) (item_of items entry) → IsElsewhere other
  earlier other before = elsewhere other (λ same. never_before (item_of items entry)
      (subst (λ slot. IsBefore (item_at items slot) (item_of items entry)) same before))

  later : (other : IndexEntry) → IsBefore (item_of items entry) (item_of items other) → IsElsewhere other
  later other before = elsewhere other (λ same. never_before (item_of items entry)
      (subst (λ slot. IsBefore (item_of items entry) (item_at items slot)) same before))

  -- it changes one record of those that the index has
  overwritten_split : (front back : List IndexEntry) → entry.slot < length items →
      IsInScanOrder (indexed items front ++ item_of items entry ∷ indexed items back) →
      indexed after (front ++ entry ∷ back) ≡ indexed items front ++ new ∷ indexed items back
  overwritten_split front back inside sorted =
      let before = All-unmap (λ item. IsBefore item (item_of items entry)) (item_of items) front
      (places_front (indexed items front) (item_of items entry) (indexed items back) sorted) in
      let behind = All-unmap (λ item. IsBefore (item_of items entry) item) (item_of items) back
      (places_back (indexed items front) (item_of items entry) (indexed items back) sorted) in
      map-append (item_of after) front (entry ∷ back)
      ∙ ap (λ xs. xs ++ item_of after entry ∷ indexed after back)
      (map-same (item_of after) (item_of items) front
      (All-weaker (λ other. IsBefore (item_of items other) (item_of items entry)) IsElsewhere earlier front before))
      ∙ ap (λ item. indexed items front ++ item ∷ indexed after back) (get_or-set_same items entry.slot new no_item inside)
      ∙ ap (λ xs. indexed items front ++ new ∷ xs)
      (map-same (item_of after) (item_of items) back
      (All-weaker (λ other. IsBefore (item_of items entry) (item_of items other)) IsElsewhere later back behind))

  pub indexed-overwritten : (index : List IndexEntry) (at : ℕ) → at < length index → entry ≡ get_or index at entry → entry.slot < length items →
      IsInScanOrder (indexed items index) → indexed after index ≡ set (indexed items index) at new
  indexed-overwritten index at below read inside sorted =
      let split = split_at index at entry below read in
      let parts = ap (indexed items) split ∙ map-append (item_of items) (take at index) (entry ∷ drop (at + 1) index) in
      ap (indexed after) split
      ∙ overwritten_split (take at index) (drop (at + 1) index) inside (subst IsInScanOrder parts sorted)
      ∙ ap (λ xs. xs ++ new ∷ indexed items (drop (at + 1) index)) (sym (take-map (item_of items) at index))
      ∙ ap (λ xs. take at (indexed items index) ++ new ∷ xs) (sym (drop-map (item_of items) (at + 1) index))
      ∙ sym (set_at (indexed items index) at new (rw (length-map index (item_of items)) below))

  -- the entries still have the hashes of their records' keys where the new record has the key of the old
  module _ (same : new.key ≡ (item_of items entry).key) where
    key_kept : (slot : ℕ) → slot < length items → (slot ≡ entry.slot) ⊎ (slot ≢ entry.slot) → (item_at items slot).key ≡ (item_at after slot).key
    key_kept slot inside (inl here) =
        ap (λ s. (item_at items s).key) here
        ∙ sym same
        ∙ ap (λ (item : Item). item.key) (sym (get_or-set_same items entry.slot new no_item (subst (λ s. s < length items) here inside)))
        ∙ ap (λ s. (item_at after s).key) (sym here)
    key_kept slot inside (inr apart) = ap (λ (item : Item). item.key) (sym (get_or-set_other items entry.slot slot new no_item apart))

    entry_kept : (other : IndexEntry) → IsEntryOf items other → IsEntryOf after other
    entry_kept other points = record {
      in_range = rw (length-set items entry.slot new) points.in_range;
      hashed = points.hashed ∙ ap hash_of (key_kept other.slot points.in_range (cases_eq other.slot entry.slot));
    }

    pub entries-overwritten : (index : List IndexEntry) → All (IsEntryOf items) index → All (IsEntryOf after) index
    entries-overwritten index entries = All-weaker (IsEntryOf items) (IsEntryOf after) entry_kept index entries

-- the record of the entry at an index, with another number and value
module _ (items : List Item) (index : List IndexEntry) (entries : All (IsEntryOf items) index) (sorted : IsInScanOrder (indexed items index))
    (at : ℕ) (entry : IndexEntry) (below : at < length index) (read : entry ≡ get_or index at entry)
    (item : Item) (kept : item ≡ get_or items entry.slot item) (number : ℕ) (value : Option (List ℕ)) where
  inside : entry.slot < length items
  inside = (subst (IsEntryOf items) (sym read) (entries at entry below)).in_range

  in_slot : item ≡ item_of items entry
  in_slot = kept ∙ get_or_default items entry.slot item no_item inside

  in_order : item_at (indexed items index) at ≡ item
  in_order = get_or-map (item_of items) index at entry no_item below ∙ ap (item_of items) (sym read) ∙ sym in_slot

  pub entries-rewritten : All (IsEntryOf (set items entry.slot (rewritten item number value))) index
  entries-rewritten = entries-overwritten items entry (rewritten item number value) (ap (λ (i : Item). i.key) in_slot) index entries

  pub records-rewritten : indexed (set items entry.slot (rewritten item number value)) index
      ≡ set (indexed items index) at (rewritten (item_at (indexed items index) at) number value)
  records-rewritten =
      indexed-overwritten items entry (rewritten item number value) index at below read inside sorted
      ∙ ap (λ i. set (indexed items index) at (rewritten i number value)) (sym in_order)

  pub IsInScanOrder-rewritten : IsInScanOrder (indexed (set items entry.slot (rewritten item number value)) index)
  IsInScanOrder-rewritten =
      subst IsInScanOrder (sym records-rewritten)
      (IsInScanOrder-overwritten (indexed items index) at (rw (length-map index (item_of items)) below) sorted number value)

-- one record more, in a slot behind the last, and an entry for it
module _ (items : List Item) (index : List IndexEntry) (entries : All (IsEntryOf items) index) (new : Item)
    (at : ℕ) (entry : IndexEntry) (last : entry.slot ≡ length items) where
  abbrev more : List Item
  more = items ++ new ∷ []

  old_kept : (other : IndexEntry) → IsEntryOf items other → item_of more other ≡ item_of items other
  old_kept other points = get_or_append_left items (new ∷ []) no_item other.slot points.in_range

  newest : item_of more entry ≡ new
  newest = get_or_push items new no_item entry.slot (sym last)

  -- the records of the index as it was are those that it had
  pushed : indexed more index ≡ indexed items index
  pushed =
      map-same (item_of more) (item_of items) index
      (All-weaker (IsEntryOf items) (λ other. item_of more other ≡ item_of items other) old_kept index entries)

  pub indexed-inserted : indexed more (insert index at entry) ≡ insert (indexed items index) at new
  indexed-inserted =
      map-append (item_of more) (take at index) (entry ∷ drop at index)
      ∙ ap (λ xs. xs ++ item_of more entry ∷ indexed more (drop at index)) (sym (take-map (item_of more) at index))
      ∙ ap (λ xs. take at (indexed more index) ++ item_of more entry ∷ xs) (sym (drop-map (item_of more) at index))
      ∙ ap (insert (indexed more index) at) newest
      ∙ ap (λ xs. insert xs at new) pushed

  -- the entries still have the hashes of their records' keys
  still : (other : IndexEntry) → IsEntryOf items other → IsEntryOf more other
  still other points = record {
    in_range = omega (arith, points.in_range, length_push items new);
    hashed = points.hashed ∙ ap (λ (item : Item). hash_of item.key) (sym (old_kept other points));
  }

  pub entries-inserted : entry.hash ≡ hash_of new.key → All (IsEntryOf more) (insert index at entry)
  entries-inserted hashed =
      let kept = All-weaker (IsEntryOf items) (IsEntryOf more) still index entries in
      let own : IsEntryOf more entry = record {
        in_range = omega (arith, length_push items new);
        hashed = hashed ∙ ap (λ (item : Item). hash_of item.key) (sym newest);
      } in
      All-append (IsEntryOf more) (take at index) (entry ∷ drop at index)
      (All-take (IsEntryOf more) at index kept)
      (All-cons (IsEntryOf more) entry (drop at index) own (All-drop (IsEntryOf more) at index kept))

-- the first of the records from one on
pub indexed-part : (items : List Item) (index : List IndexEntry) (start count max : ℕ) →
    count ≡ min max (length (take (length index - start) (drop start index))) →
    indexed items (take count (take (length index - start) (drop start index))) ≡ take max (drop start (indexed items index))
indexed-part items index start count max least =
    let rest = drop start index in
    let whole : take (length index - start) rest ≡ rest = take_rest index start in
    ap (λ xs. indexed items (take count xs)) whole
    ∙ ap (λ n. indexed items (take n rest)) (least ∙ ap (λ (xs : List IndexEntry). min max (length xs)) whole)
    ∙ ap (indexed items) (take_min max rest)
    ∙ sym (take-map (item_of items) max rest)
    ∙ ap (take max) (sym (drop-map (item_of items) start index))
