-- Where the first open transaction begins, and which transactions are open.
use Rattle.std.proofs.Common.{◌≡◌, ℕ, ◌+◌, ◌≤◌, ◌⊎◌, Bool, true, false, cond, List, [], ◌∷◌, ◌++◌, length, drop, get_or, Some, refl, sym, ap, ◌∙◌, ◌<◌, subst, inl, inr, arith}
use Rattle.std.specs.List.{find}
use Rattle.std.specs.Option.{option_map_or}
use Rattle.std.proofs.lemmas.Bool.{cond-true, cond-false, both_ways}
use Rattle.std.proofs.lemmas.List.{drop_all}
use Rattle.cl_log.specs.declared.records.LogRec.{LogRec}
use Rattle.cl_log.specs.LogEntry.{LogEntry, numbered, IsNumberedFrom}
use Rattle.cl_log.specs.Kind.{txn_of}
use Rattle.cl_log.specs.Laws.{IsLeastOpen}
use Rattle.cl_log.specs.Open.{is_open, low_of}
use Rattle.cl_log.proofs.Entries.{number_at}
use Rattle.cl_log.proofs.Numbered.{drop-numbered, length-numbered}

-- the number of the first entry that passes, or the next number
record IsLeast (p : LogEntry → Bool) (xs : List LogEntry) (next low : ℕ) : Type 0 where
  at_most_next : low ≤ next
  least : (before : List LogEntry) (x : LogEntry) (after : List LogEntry) → xs ≡ before ++ x ∷ after → p x ≡ true → low ≤ x.number
  found : (low ≡ next) ⊎ ((before : List LogEntry) × (x : LogEntry) × (after : List LogEntry) × (xs ≡ before ++ x ∷ after) × (p x ≡ true) × (low ≡ x.number))

least_found : (p : LogEntry → Bool) (n : ℕ) (xs : List LogEntry) (next : ℕ) → IsNumberedFrom n xs → n + length xs ≡ next → IsLeast p xs next (option_map_or (λ (e : LogEntry). e.number) (find p xs) next)
least_found p n [] next h l = record {
  at_most_next = omega arith;
  least = λ before x after e t. absurd (no_entry before x after e);
  found = inl refl;
}
  where
    no_entry : (before : List LogEntry) (x : LogEntry) (after : List LogEntry) → ◌≡◌ {A = List LogEntry} [] (before ++ x ∷ after) → ⊥
    no_entry [] x after e = cc
    no_entry (y ∷ before) x after e = cc
least_found p n (y ∷ ys) next h l = by_test (least_found p (n + 1) ys next h.1 (omega (arith, l))) (p y) refl
  where
    low : Bool → ℕ
    low b = option_map_or (λ (e : LogEntry). e.number) (cond b (Some y) (find p ys)) next

    by_test : IsLeast p ys next (option_map_or (λ (e : LogEntry). e.number) (find p ys) next) → (b : Bool) → p y ≡ b →
        IsLeast p (y ∷ ys) next (option_map_or (λ (e : LogEntry). e.number) (cond (p y) (Some y) (find p ys)) next)
    by_test again true t = subst (λ o. IsLeast p (y ∷ ys) next (option_map_or (λ (e : LogEntry). e.number) o next)) (sym (cond-true (p y) (Some y) (find p ys) t)) (record {
      at_most_next = omega (arith, h.0, l);
      least = λ before x after e k. (let number = number_at n before x after (subst (IsNumberedFrom n) e h) in omega (arith, number, h.0));
      found = inr ([], y, ys, refl, t, refl);
    })
    by_test again false f = subst (λ o. IsLeast p (y ∷ ys) next (option_map_or (λ (e : LogEntry). e.number) o next)) (sym (cond-false (p y) (Some y) (find p ys) f)) (record {
      at_most_next = again.at_most_next;
      least = λ before x after e k. in_rest again before x after e k f;
      found = elim again.found [ inl e ↦ inl e | inr (before, x, after, e, k, q) ↦ inr (y ∷ before, x, after, ap (λ es. y ∷ es) e, k, q) ];
    })
      where
        in_rest : IsLeast p ys next (option_map_or (λ (e : LogEntry). e.number) (find p ys) next) → (before : List LogEntry) (x : LogEntry) (after : List LogEntry) → y ∷ ys ≡ before ++ x ∷ after → p x ≡ true → p y ≡ false →
            option_map_or (λ (e : LogEntry). e.number) (find p ys) next ≤ x.number
        in_rest again [] x after e k f = absurd (let head : y ≡ x = cc in both_ways _ f (subst (λ z. p z ≡ true) (sym head) k))
        in_rest again (z ∷ before) x after e k f = again.least before x after (cc) k

pub low_is_least_open : (entries : List LogEntry) (n : ℕ) → IsNumberedFrom n entries → IsLeastOpen entries (n + length entries) (low_of entries (n + length entries))
unfolding low_of
low_is_least_open entries n h =
    let is = least_found (λ entry. is_open entries (txn_of entry.content)) n entries (n + length entries) h refl in
    record { at_most_next = is.at_most_next; least = is.least; found = is.found }

-- a walk over the records, up to the first of an open transaction
module _ (first index : ℕ) (xs : List LogRec) (x : LogRec) (within : index < length xs) (at : x ≡ get_or xs index x) where
  abbrev kept : List LogEntry
  kept = numbered first xs

  pub find_next : (p : LogEntry → Bool) → p (record { number = first + index; content = x }) ≡ false → find p (drop index kept) ≡ find p (drop (index + 1) kept)
  find_next p f = ap (find p) (drop-numbered first index xs x within at) ∙ cond-false _ _ _ f

  pub low_here : (next : ℕ) → let p = λ (entry : LogEntry). is_open kept (txn_of entry.content) in
      find p kept ≡ find p (drop index kept) → is_open kept (txn_of x) ≡ true → low_of kept next ≡ first + index
  unfolding low_of
  low_here next so_far t =
      let p = λ (entry : LogEntry). is_open kept (txn_of entry.content) in
      ap (λ o. option_map_or (λ (e : LogEntry). e.number) o next) (so_far ∙ ap (find p) (drop-numbered first index xs x within at) ∙ cond-true _ _ _ t)

pub low_none : (first index next : ℕ) (xs : List LogRec) → let kept = numbered first xs in let p = λ (entry : LogEntry). is_open kept (txn_of entry.content) in
    find p kept ≡ find p (drop index kept) → length xs ≤ index → low_of kept next ≡ next
unfolding low_of
low_none first index next xs so_far end =
    let kept = numbered first xs in
    let p = λ (entry : LogEntry). is_open kept (txn_of entry.content) in
    ap (λ o. option_map_or (λ (e : LogEntry). e.number) o next)
    (so_far ∙ ap (find p) (drop_all index kept (let count = length-numbered first xs in omega (arith, end, count))))
