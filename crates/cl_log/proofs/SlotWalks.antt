-- Walks back over the records of a transaction, from each to the one before it.
use Rattle.std.proofs.Common.{◌≡◌, ℕ, suc, ◌+◌, ◌<◌, ◌≤◌, Bool, true, false, not, ◌&&◌, List, [], ◌∷◌, ◌++◌, length, map, reverse, Option, Some, None, refl, sym, ap, ◌∙◌, subst, inl, inr, arith, append_assoc}
use Rattle.std.specs.List.{filter}
use Rattle.std.specs.Option.{option_map_or}
use Rattle.std.proofs.lemmas.Bool.{cond-true, cond-false, cases_lt}
use Rattle.std.proofs.lemmas.List.{append-nil, length-append, reverse-reverse, reverse-append, map-append}
use Rattle.std.proofs.lemmas.List.Elements.{filter-append}
use Rattle.std.proofs.lemmas.Option.{same_Some, none-some}
use Rattle.cl_types.specs.declared.operations.TxnId.{TxnId}
use Rattle.cl_types.specs.Transactions.{same_txn}
use Rattle.cl_types.proofs.Transactions.{same_txn-true, same_txn-itself}
use Rattle.cl_log.specs.declared.slots.Slot.{Slot}
use Rattle.cl_log.specs.LogEntry.{LogEntry, IsNumberedFrom}
use Rattle.cl_log.specs.Kind.{txn_of, is_of, can_be_undone}
use Rattle.cl_log.specs.Open.{chain_of}
use Rattle.cl_log.specs.Rest.{is_undone, is_left, is_left_of, first_number}
use Rattle.cl_log.specs.Slots.{last_that, last_of, IsSlotOf}
use Rattle.cl_log.proofs.Entries.{number_at, IsNumberedFrom-append}
use Rattle.cl_log.proofs.Rest.{split_at_last, filter_both, first-reverse-filter}

-- the last entry that passes
pub last_that-none : (p : LogEntry → Bool) (xs : List LogEntry) → last_that p xs ≡ None → filter p xs ≡ []
last_that-none p xs h = sym (reverse-reverse (filter p xs)) ∙ ap reverse (by_rest (reverse (filter p xs)) h)
  where
    by_rest : (ys : List LogEntry) → first_number ys ≡ None → ys ≡ []
    by_rest [] h = refl
    by_rest (y ∷ ys) h = absurd (none-some y.number (sym h))

-- the last entry that passes, with its number
pub record IsLastThat (p : LogEntry → Bool) (xs : List LogEntry) (n : ℕ) : Type 0 where
  pub before : List LogEntry
  pub entry : LogEntry
  pub after : List LogEntry
  pub whole : xs ≡ before ++ entry ∷ after
  pub number : entry.number ≡ n
  pub passes : p entry ≡ true
  pub none_after : filter p after ≡ []

pub last_that-some : (p : LogEntry → Bool) (xs : List LogEntry) (n : ℕ) → last_that p xs ≡ Some n → IsLastThat p xs n
last_that-some p xs n h = by_rest (reverse (filter p xs)) refl h
  where
    by_rest : (ys : List LogEntry) → reverse (filter p xs) ≡ ys → first_number ys ≡ Some n → IsLastThat p xs n
    by_rest [] e h = absurd (none-some n h)
    by_rest (y ∷ ys) e h =
        let split = split_at_last p xs y ys e in
        record { before = split.before; entry = y; after = split.after; whole = split.whole; number = same_Some y.number n h; passes = split.passes; none_after = split.none_after }

-- a walk back over a list: what is left of it, and what was passed, none of which passes the test
pub record HasPassed (test : LogEntry → Bool) (txn : TxnId) (whole : List LogEntry) (cursor : Option ℕ) : Type 0 where
  pub front : List LogEntry
  pub back : List LogEntry
  pub parts : whole ≡ front ++ back
  pub at : cursor ≡ last_of front txn
  pub none : filter test back ≡ []

-- where a walk stands, which goes over the records before an entry of a log
abbrev pub IsWalking : List LogEntry → ℕ → Option ℕ → Type 0
IsWalking entries number cursor =
    (before : List LogEntry) (entry : LogEntry) (after : List LogEntry) → entries ≡ before ++ entry ∷ after → entry.number ≡ number →
    HasPassed (is_left_of entries (txn_of entry.content)) (txn_of entry.content) before cursor

-- the entry of a number
pub record IsEntryOf (entries : List LogEntry) (number : ℕ) : Type 0 where
  pub before : List LogEntry
  pub entry : LogEntry
  pub after : List LogEntry
  pub whole : entries ≡ before ++ entry ∷ after
  pub is_its : entry.number ≡ number

pub entry_of : (first number : ℕ) (entries : List LogEntry) → IsNumberedFrom first entries → first ≤ number → number < first + length entries → IsEntryOf entries number
entry_of first number [] numbers low high = absurd (omega arith)
entry_of first number (x ∷ xs) numbers low high =
    elim (cases_lt first number) [
      | inl l ↦
          (let further = entry_of (first + 1) number xs numbers.1 (omega (arith, l)) (omega (arith, high)) in
          record { before = x ∷ further.before; entry = further.entry; after = further.after; whole = ap (λ es. x ∷ es) further.whole; is_its = further.is_its })
      | inr e ↦ record { before = []; entry = x; after = xs; whole = refl; is_its = omega (arith, numbers.0, e, low) }
    ]

-- where a walk back stands: at the last record of the transaction among those that are left
pub record IsReached (entries : List LogEntry) (txn : TxnId) (n : ℕ) (whole rest : List LogEntry) (test : LogEntry → Bool) : Type 0 where
  pub before : List LogEntry
  pub entry : LogEntry
  pub between : List LogEntry
  pub in_whole : whole ≡ before ++ entry ∷ between
  pub in_entries : entries ≡ before ++ entry ∷ (between ++ rest)
  pub number : entry.number ≡ n
  pub is_own : txn_of entry.content ≡ txn
  pub none : filter test between ≡ []

pub reached : (entries : List LogEntry) (txn : TxnId) (n : ℕ) (whole rest : List LogEntry) → entries ≡ whole ++ rest →
    HasPassed (is_left_of entries txn) txn whole (Some n) → IsReached entries txn n whole rest (is_left_of entries txn)
reached entries txn n whole rest parts passed =
    let last = last_that-some (λ e. is_of txn e.content) passed.front n (sym passed.at) in
    let in_whole : whole ≡ last.before ++ last.entry ∷ (last.after ++ passed.back) =
    passed.parts ∙ ap (λ es. es ++ passed.back) last.whole ∙ append_assoc last.before (last.entry ∷ last.after) passed.back in
    record {
      before = last.before;
      entry = last.entry;
      between = last.after ++ passed.back;
      in_whole = in_whole;
      in_entries = parts ∙ ap (λ es. es ++ rest) in_whole ∙ append_assoc last.before (last.entry ∷ (last.after ++ passed.back)) rest;
      number = last.number;
      is_own = same_txn-true (txn_of last.entry.content) txn last.passes;
      none =
          filter-append (is_left_of entries txn) last.after passed.back
          ∙ ap (λ es. es ++ filter (is_left_of entries txn) passed.back)
          (filter_both (λ e. is_of txn e.content) (is_left entries) last.after ∙ ap (filter (is_left entries)) last.none_after)
          ∙ passed.none;
    }

-- whether the record there is left to undo
left_there : (entries : List LogEntry) (txn : TxnId) (n : ℕ) (whole rest : List LogEntry) (slot : Slot) (r : IsReached entries txn n whole rest (is_left_of entries txn)) → IsSlotOf entries n slot →
    is_left_of entries txn r.entry ≡ (can_be_undone slot.content && not slot.is_undone)
left_there entries txn n whole rest slot r is =
    ap (λ b. b && (can_be_undone r.entry.content && not (is_undone entries r.entry.number))) (ap (λ t. same_txn t txn) r.is_own ∙ same_txn-itself txn)
    ∙ ap (λ k. can_be_undone r.entry.content && not (is_undone entries k)) r.number
    ∙ ap (λ b. can_be_undone r.entry.content && not b) (sym is.undone)
    ∙ ap (λ content. can_be_undone content && not slot.is_undone) (sym (is.content r.before r.entry (r.between ++ rest) r.in_entries r.number))

-- the last entry that passes has a number below the next
pub last_that-below : (p : LogEntry → Bool) (first : ℕ) (xs : List LogEntry) → IsNumberedFrom first xs → (o : Option ℕ) → last_that p xs ≡ o → option_map_or suc o 0 ≤ first + length xs
last_that-below p first xs numbers None h = omega arith
last_that-below p first xs numbers (Some n) h =
    let last = last_that-some p xs n h in
    let here = number_at first last.before last.entry last.after (subst (IsNumberedFrom first) last.whole numbers) in
    let count = ap (λ (es : List LogEntry). length es) last.whole ∙ length-append last.before (last.entry ∷ last.after) in
    omega (arith, here, last.number, count)

-- a walk back over the records before an entry of a log
module _ (first : ℕ) (entries : List LogEntry) (number n : ℕ) (numbers : IsNumberedFrom first entries) (walking : IsWalking entries number (Some n)) where
  pub walk_within : first ≤ number → number < first + length entries → (first ≤ n) × (n < first + length entries)
  walk_within low high =
      let its = entry_of first number entries numbers low high in
      let r = reached entries (txn_of its.entry.content) n its.before (its.entry ∷ its.after) its.whole (walking its.before its.entry its.after its.whole its.is_its) in
      let here = number_at first r.before r.entry (r.between ++ its.entry ∷ its.after) (subst (IsNumberedFrom first) r.in_entries numbers) in
      let count = ap (λ (es : List LogEntry). length es) r.in_entries ∙ length-append r.before (r.entry ∷ (r.between ++ its.entry ∷ its.after)) in
      (omega (arith, here, r.number), omega (arith, here, r.number, count))

  module _ (slot : Slot) (is : IsSlotOf entries n slot) where
    pub walk_goes_on : (can_be_undone slot.content && not slot.is_undone) ≡ false → IsWalking entries number slot.previous
    walk_goes_on f before entry after parts its =
        let txn = txn_of entry.content in
        let r = reached entries txn n before (entry ∷ after) parts (walking before entry after parts its) in
        record {
          front = r.before;
          back = r.entry ∷ r.between;
          parts = r.in_whole;
          at = is.previous r.before r.entry (r.between ++ entry ∷ after) r.in_entries r.number ∙ ap (last_of r.before) r.is_own;
          none = cond-false (is_left_of entries txn r.entry) _ _ (left_there entries txn n before (entry ∷ after) slot r is ∙ f) ∙ r.none;
        }

    pub walk_finds : (can_be_undone slot.content && not slot.is_undone) ≡ true → (before : List LogEntry) (entry : LogEntry) (after : List LogEntry) → entries ≡ before ++ entry ∷ after → entry.number ≡ number →
        Some n ≡ last_that (is_left_of entries (txn_of entry.content)) before
    walk_finds t before entry after parts its =
        let txn = txn_of entry.content in
        let r = reached entries txn n before (entry ∷ after) parts (walking before entry after parts its) in
        sym (ap (last_that (is_left_of entries txn)) r.in_whole
        ∙ first-reverse-filter (is_left_of entries txn) r.before r.entry r.between (left_there entries txn n before (entry ∷ after) slot r is ∙ t) r.none
        ∙ ap (λ k. Some k) r.number)

    -- the numbers go down
    pub walk_falls : first ≤ number → number < first + length entries → option_map_or suc slot.previous 0 < suc n
    walk_falls low high =
        let its = entry_of first number entries numbers low high in
        let r = reached entries (txn_of its.entry.content) n its.before (its.entry ∷ its.after) its.whole (walking its.before its.entry its.after its.whole its.is_its) in
        let parts = subst (IsNumberedFrom first) r.in_entries numbers in
        let here = number_at first r.before r.entry (r.between ++ its.entry ∷ its.after) parts in
        let bound = last_that-below (λ e. is_of (txn_of r.entry.content) e.content) first r.before (IsNumberedFrom-append first r.before _ parts).0 slot.previous
        (sym (is.previous r.before r.entry (r.between ++ its.entry ∷ its.after) r.in_entries r.number)) in
        omega (arith, here, r.number, bound)

-- the end of the walk
pub walk_ends : (entries : List LogEntry) (number : ℕ) → IsWalking entries number None → (before : List LogEntry) (entry : LogEntry) (after : List LogEntry) → entries ≡ before ++ entry ∷ after → entry.number ≡ number →
    None ≡ last_that (is_left_of entries (txn_of entry.content)) before
walk_ends entries number walking before entry after parts its =
    let txn = txn_of entry.content in
    let passed = walking before entry after parts its in
    let none : filter (is_left_of entries txn) before ≡ [] =
    ap (filter (is_left_of entries txn)) passed.parts
    ∙ filter-append (is_left_of entries txn) passed.front passed.back
    ∙ ap (λ es. es ++ filter (is_left_of entries txn) passed.back)
    (filter_both (λ e. is_of txn e.content) (is_left entries) passed.front
    ∙ ap (filter (is_left entries)) (last_that-none (λ e. is_of txn e.content) passed.front (sym passed.at)))
    ∙ passed.none in
    sym (ap (λ es. first_number (reverse es)) none)

pub walk_begins : (entries : List LogEntry) (number : ℕ) (slot : Slot) → IsSlotOf entries number slot → IsWalking entries number slot.previous
walk_begins entries number slot is before entry after parts its =
    record { front = before; back = []; parts = sym (append-nil before); at = is.previous before entry after parts its; none = refl }

-- the numbers of a transaction's records, from the last of them
chain_of-last : (txn : TxnId) (before : List LogEntry) (x : LogEntry) (after : List LogEntry) → is_of txn x.content ≡ true → filter (λ e. is_of txn e.content) after ≡ [] →
    chain_of (before ++ x ∷ after) txn ≡ chain_of before txn ++ x.number ∷ []
unfolding chain_of
chain_of-last txn before x after own none =
    ap (map (λ (e : LogEntry). e.number))
    (filter-append (λ e. is_of txn e.content) before (x ∷ after)
    ∙ ap (λ es. filter (λ e. is_of txn e.content) before ++ es) (cond-true _ _ _ own ∙ ap (λ es. x ∷ es) none))
    ∙ map-append (λ (e : LogEntry). e.number) (filter (λ e. is_of txn e.content) before) (x ∷ [])

chain_of-none : (txn : TxnId) (xs : List LogEntry) → filter (λ e. is_of txn e.content) xs ≡ [] → chain_of xs txn ≡ []
unfolding chain_of
chain_of-none txn xs none = ap (map (λ (e : LogEntry). e.number)) none

-- a walk back that gathers the numbers of a transaction's records
pub record HasGathered (entries : List LogEntry) (txn : TxnId) (numbers : List ℕ) (cursor : Option ℕ) : Type 0 where
  pub front : List LogEntry
  pub back : List LogEntry
  pub parts : entries ≡ front ++ back
  pub at : cursor ≡ last_of front txn
  pub gathered : chain_of entries txn ≡ chain_of front txn ++ reverse numbers

pub gathering_begins : (entries : List LogEntry) (txn : TxnId) (numbers : List ℕ) (last : Option ℕ) → numbers ≡ [] → last ≡ last_of entries txn → HasGathered entries txn numbers last
gathering_begins entries txn numbers last none is = record {
  front = entries;
  back = [];
  parts = sym (append-nil entries);
  at = is;
  gathered = sym (ap (λ ns. chain_of entries txn ++ reverse ns) none ∙ append-nil (chain_of entries txn));
}

pub gathering_ends : (entries : List LogEntry) (txn : TxnId) (numbers : List ℕ) → HasGathered entries txn numbers None → reverse numbers ≡ chain_of entries txn
gathering_ends entries txn numbers so_far =
    sym (so_far.gathered ∙ ap (λ ns. ns ++ reverse numbers) (chain_of-none txn so_far.front (last_that-none (λ e. is_of txn e.content) so_far.front (sym so_far.at))))

module _ (first : ℕ) (entries : List LogEntry) (txn : TxnId) (given : List ℕ) (n : ℕ) (is_numbered : IsNumberedFrom first entries) (so_far : HasGathered entries txn given (Some n)) where
  abbrev last : IsLastThat (λ e. is_of txn e.content) so_far.front n
  last = last_that-some (λ e. is_of txn e.content) so_far.front n (sym so_far.at)

  whole : entries ≡ last.before ++ last.entry ∷ (last.after ++ so_far.back)
  whole = so_far.parts ∙ ap (λ es. es ++ so_far.back) last.whole ∙ append_assoc last.before (last.entry ∷ last.after) so_far.back

  here : last.entry.number ≡ first + length last.before
  here = number_at first last.before last.entry (last.after ++ so_far.back) (subst (IsNumberedFrom first) whole is_numbered)

  pub gathering_within : (first ≤ n) × (n < first + length entries)
  gathering_within =
      let count = ap (λ (es : List LogEntry). length es) whole ∙ length-append last.before (last.entry ∷ (last.after ++ so_far.back)) in
      (omega (arith, here, last.number), omega (arith, here, last.number, count))

  module _ (slot : Slot) (is : IsSlotOf entries n slot) where
    previous : slot.previous ≡ last_of last.before txn
    previous =
        is.previous last.before last.entry (last.after ++ so_far.back) whole last.number
        ∙ ap (last_of last.before) (same_txn-true (txn_of last.entry.content) txn last.passes)

    pub gathering_goes_on : (numbers : List ℕ) → numbers ≡ given ++ n ∷ [] → HasGathered entries txn numbers slot.previous
    gathering_goes_on numbers more = record {
      front = last.before;
      back = last.entry ∷ (last.after ++ so_far.back);
      parts = whole;
      at = previous;
      gathered =
          so_far.gathered
          ∙ ap (λ es. chain_of es txn ++ reverse given) last.whole
          ∙ ap (λ ns. ns ++ reverse given) (chain_of-last txn last.before last.entry last.after last.passes last.none_after)
          ∙ append_assoc (chain_of last.before txn) (last.entry.number ∷ []) (reverse given)
          ∙ ap (λ k. chain_of last.before txn ++ k ∷ reverse given) last.number
          ∙ ap (λ ns. chain_of last.before txn ++ ns) (sym (ap reverse more ∙ reverse-append given (n ∷ [])));
    }

    pub gathering_falls : option_map_or suc slot.previous 0 < suc n
    gathering_falls =
        let bound = last_that-below (λ e. is_of txn e.content) first last.before (IsNumberedFrom-append first last.before _ (subst (IsNumberedFrom first) whole is_numbered)).0 slot.previous (sym previous) in
        omega (arith, here, last.number, bound)
