-- The store of a log with one more record, and redo by guard.
use Rattle.std.proofs.Common.{◌≡◌, ◌≢◌, ℕ, ◌+◌, ◌<◌, ◌≤◌, ◌⊎◌, true, false, List, [], ◌∷◌, ◌++◌, length, None, refl, sym, ap, ◌∙◌, subst, inl, inr, arith}
use Rattle.std.specs.List.{fold}
use Rattle.std.proofs.lemmas.Bool.{cond-true, cond-false, cases_Bool, ne_eqb, eq-eqb, and_from, and_left, and_right, lt-ltb, le-ltb}
use Rattle.std.proofs.lemmas.List.{append_assoc, append-nil}
use Rattle.std.proofs.lemmas.List.Sums.{fold_push, fold-append}
use Rattle.cl_types.specs.Places.{Place, Stored}
use Rattle.cl_log.specs.LogEntry.{LogEntry, IsNumberedFrom, EachAfter, BeginsWith}
use Rattle.cl_log.specs.Kind.{writes, number_before}
use Rattle.cl_log.specs.Store.{written, stored_after, store_of_log, redo_by_guard, redone, later, CarriesNumberBefore, IsConsistentLog, IsCopyAfter}
use Rattle.cl_log.proofs.Entries.{IsNumberedFrom-append, EachAfter-append, EachAfter-at, fronts, append_cancel}

-- nothing was written by an empty log
pub store_of_log-nil : (place : Place) → store_of_log [] place ≡ (0, None)
unfolding store_of_log
store_of_log-nil place = refl

-- one more record
pub store_of_log_push : (entries : List LogEntry) (entry : LogEntry) (place : Place) → store_of_log (entries ++ entry ∷ []) place ≡ stored_after place (store_of_log entries place) entry
unfolding store_of_log
store_of_log_push entries entry place = fold_push (stored_after place) (0, None) entries entry

pub store_of_log-append : (xs ys : List LogEntry) (place : Place) → store_of_log (xs ++ ys) place ≡ fold (stored_after place) (store_of_log xs place) ys
unfolding store_of_log
store_of_log-append xs ys place = fold-append (stored_after place) (0, None) xs ys

-- a record that writes nothing there leaves what stands there
pub store_of_log_other : (entries : List LogEntry) (entry : LogEntry) (place : Place) → writes place entry.content ≡ false → store_of_log (entries ++ entry ∷ []) place ≡ store_of_log entries place
store_of_log_other entries entry place h = store_of_log_push entries entry place ∙ cond-false _ _ _ h

-- a write there leaves its number and what it makes of the value
pub store_of_log_written : (entries : List LogEntry) (entry : LogEntry) (place : Place) → writes place entry.content ≡ true → store_of_log (entries ++ entry ∷ []) place ≡ written entry (store_of_log entries place)
store_of_log_written entries entry place h = store_of_log_push entries entry place ∙ cond-true _ _ _ h

pub redone_push : (entries : List LogEntry) (entry : LogEntry) (place : Place) (stored : Stored) → redone (entries ++ entry ∷ []) place stored ≡ redo_by_guard place (redone entries place stored) entry
unfolding redone
redone_push entries entry place stored = fold_push (redo_by_guard place) stored entries entry

pub redone-append : (xs ys : List LogEntry) (place : Place) (stored : Stored) → redone (xs ++ ys) place stored ≡ redone ys place (redone xs place stored)
unfolding redone
redone-append xs ys place stored = fold-append (redo_by_guard place) stored xs ys

redone-cons : (x : LogEntry) (xs : List LogEntry) (place : Place) (stored : Stored) → redone (x ∷ xs) place stored ≡ redone xs place (redo_by_guard place stored x)
unfolding redone
redone-cons x xs place stored = refl

redone-nil : (place : Place) (stored : Stored) → redone [] place stored ≡ stored
unfolding redone
redone-nil place stored = refl

-- the numbers in a store are below those that come
stored_below : (n : ℕ) (xs : List LogEntry) (place : Place) (stored : Stored) → IsNumberedFrom n xs → stored.0 < n → (fold (stored_after place) stored xs).0 < n + length xs
stored_below n [] place stored h l = omega arith
stored_below n (x ∷ xs) place stored h l =
    let below : (stored_after place stored x).0 < n + 1 =
    elim (cases_Bool (writes place x.content)) [
      | inl t ↦ (let e = cond-true _ (written x stored) stored t in rw e (omega (arith, h.0)))
      | inr f ↦ (let e = cond-false _ (written x stored) stored f in rw e (omega arith))
    ] in
    let r = stored_below (n + 1) xs place (stored_after place stored x) h.1 below in
    omega (arith, r)

pub number-store_of_log-lt : (n : ℕ) (xs : List LogEntry) (place : Place) → 1 ≤ n → IsNumberedFrom n xs → (store_of_log xs place).0 < n + length xs
unfolding store_of_log
number-store_of_log-lt n xs place one h = stored_below n xs place (0, None) h (omega arith)

-- numbers never fall, and where the number stays the record stays
later_from : (n : ℕ) (xs : List LogEntry) (place : Place) (stored : Stored) → IsNumberedFrom n xs → stored.0 < n →
    (stored.0 < (fold (stored_after place) stored xs).0) ⊎ (fold (stored_after place) stored xs ≡ stored)
later_from n [] place stored h l = inr refl
later_from n (x ∷ xs) place stored h l =
    elim (cases_Bool (writes place x.content)) [
      | inl t ↦
          let e = cond-true _ (written x stored) stored t in
          let below : (stored_after place stored x).0 < n + 1 = rw e (omega (arith, h.0)) in
          let above : stored.0 < (stored_after place stored x).0 = rw e (omega (arith, h.0)) in
          elim (later_from (n + 1) xs place (stored_after place stored x) h.1 below) [
            | inl m ↦ inl (omega (arith, m, above))
            | inr s ↦ inl (let r = ap (λ (q : Stored). q.0) s in omega (arith, r, above))
          ]
      | inr f ↦
          let e = cond-false _ (written x stored) stored f in
          elim (later_from (n + 1) xs place (stored_after place stored x) h.1 (rw e (omega arith))) [
            | inl m ↦ inl (let r = ap (λ (q : Stored). q.0) e in omega (arith, m, r))
            | inr s ↦ inr (s ∙ e)
          ]
    ]

-- a longer log leaves the same, or a greater number
pub store_of_log-grows : (xs ys : List LogEntry) (place : Place) → IsNumberedFrom 1 (xs ++ ys) →
    ((store_of_log xs place).0 < (store_of_log (xs ++ ys) place).0) ⊎ (store_of_log (xs ++ ys) place ≡ store_of_log xs place)
store_of_log-grows xs ys place h =
    let parts = IsNumberedFrom-append 1 xs ys h in
    let e = store_of_log-append xs ys place in
    elim (later_from (1 + length xs) ys place (store_of_log xs place) parts.1 (number-store_of_log-lt 1 xs place (omega arith) parts.0)) [
      | inl m ↦ inl (let r = ap (λ (q : Stored). q.0) e in omega (arith, m, r))
      | inr s ↦ inr (e ∙ s)
    ]

-- the later of what two fronts of a log leave is what the longer leaves
pub later_of_longer : (xs ys : List LogEntry) (place : Place) → IsNumberedFrom 1 (xs ++ ys) → later (store_of_log xs place) (store_of_log (xs ++ ys) place) ≡ store_of_log (xs ++ ys) place
later_of_longer xs ys place h =
    elim (store_of_log-grows xs ys place h) [
      | inl m ↦ cond-true _ _ _ (lt-ltb _ _ m)
      | inr s ↦ cond-false _ _ _ (le-ltb (store_of_log xs place).0 (store_of_log (xs ++ ys) place).0 (let r = ap (λ (q : Stored). q.0) s in omega (arith, r))) ∙ sym s
    ]

pub later_of_shorter : (xs ys : List LogEntry) (place : Place) → IsNumberedFrom 1 (xs ++ ys) → later (store_of_log (xs ++ ys) place) (store_of_log xs place) ≡ store_of_log (xs ++ ys) place
later_of_shorter xs ys place h =
    cond-false _ _ _ (le-ltb (store_of_log (xs ++ ys) place).0 (store_of_log xs place).0 (
    elim (store_of_log-grows xs ys place h) [
      | inl m ↦ omega (arith, m)
      | inr s ↦ (let r = ap (λ (q : Stored). q.0) s in omega (arith, r))
    ]))

-- an applied write
redo_applied : (place : Place) (stored : Stored) (entry : LogEntry) → (writes place entry.content ≡ true → stored.0 ≡ number_before entry.content) → redo_by_guard place stored entry ≡ stored_after place stored entry
redo_applied place stored entry h =
    elim (cases_Bool (writes place entry.content)) [
      | inl t ↦ cond-true _ _ _ (and_from _ _ t (eq-eqb stored.0 (number_before entry.content) (h t))) ∙ sym (cond-true _ _ _ t)
      | inr f ↦ cond-false _ _ _ (and_left _ _ f) ∙ sym (cond-false _ _ _ f)
    ]

-- a skipped write
redo_skipped : (place : Place) (stored : Stored) (entry : LogEntry) → (writes place entry.content ≡ true → stored.0 ≢ number_before entry.content) → redo_by_guard place stored entry ≡ stored
redo_skipped place stored entry h =
    elim (cases_Bool (writes place entry.content)) [
      | inl t ↦ cond-false _ _ _ (and_right (writes place entry.content) _ (ne_eqb stored.0 (number_before entry.content) (h t)))
      | inr f ↦ cond-false _ _ _ (and_left _ _ f)
    ]

-- redo on the store of the records before them
redone_next : (xs ys : List LogEntry) (place : Place) → EachAfter CarriesNumberBefore xs ys → redone ys place (store_of_log xs place) ≡ store_of_log (xs ++ ys) place
redone_next xs [] place c = redone-nil place (store_of_log xs place) ∙ ap (λ es. store_of_log es place) (sym (append-nil xs))
redone_next xs (y ∷ ys) place c =
    redone-cons y ys place (store_of_log xs place)
    ∙ ap (redone ys place) (redo_applied place (store_of_log xs place) y (c.0 place) ∙ sym (store_of_log_push xs y place))
    ∙ redone_next (xs ++ y ∷ []) ys place c.1
    ∙ ap (λ es. store_of_log es place) (append_assoc xs (y ∷ []) ys)

-- redo on a store that is ahead of them
redone_ahead : (xs ys zs : List LogEntry) (place : Place) → EachAfter CarriesNumberBefore xs ys → IsNumberedFrom 1 (xs ++ (ys ++ zs)) →
    redone ys place (store_of_log (xs ++ (ys ++ zs)) place) ≡ store_of_log (xs ++ (ys ++ zs)) place
redone_ahead xs [] zs place c h = redone-nil place _
redone_ahead xs (y ∷ ys) zs place c h =
    let whole = xs ++ (y ∷ ys ++ zs) in
    let again : whole ≡ (xs ++ y ∷ []) ++ (ys ++ zs) = sym (append_assoc xs (y ∷ []) (ys ++ zs)) in
    let numbers = IsNumberedFrom-append 1 xs (y ∷ ys ++ zs) h in
    redone-cons y ys place (store_of_log whole place)
    ∙ ap (redone ys place) (redo_skipped place (store_of_log whole place) y (λ t e.
    let own = ap (λ (q : Stored). q.0) (store_of_log_written xs y place t) in
    let below = number-store_of_log-lt 1 xs place (omega arith) numbers.0 in
    let carried = c.0 place t in
    elim (store_of_log-grows (xs ++ y ∷ []) (ys ++ zs) place (subst (IsNumberedFrom 1) again h)) [
      | inl m ↦ (let r = ap (λ es. (store_of_log es place).0) again in omega (arith, m, own, r, numbers.1.0, below, carried, e))
      | inr s ↦ (let q = ap (λ (q : Stored). q.0) s in let r = ap (λ es. (store_of_log es place).0) again in omega (arith, q, own, r, numbers.1.0, below, carried, e))
    ]))
    ∙ ap (λ es. redone ys place (store_of_log es place)) again
    ∙ redone_ahead (xs ++ y ∷ []) ys zs place c.1 (subst (IsNumberedFrom 1) again h)
    ∙ ap (λ es. store_of_log es place) (sym again)

-- records that stand before a moment, redone on what it left
redone_before : (front records more : List LogEntry) (place : Place) → IsNumberedFrom 1 (front ++ (records ++ more)) → EachAfter CarriesNumberBefore front records →
    redone records place (store_of_log (front ++ (records ++ more)) place) ≡ later (store_of_log (front ++ (records ++ more)) place) (store_of_log (front ++ records) place)
redone_before front records more place h c =
    let again = append_assoc front records more in
    redone_ahead front records more place c h
    ∙ ap (λ es. store_of_log es place) (sym again)
    ∙ sym (later_of_shorter (front ++ records) more place (subst (IsNumberedFrom 1) (sym again) h))
    ∙ ap (λ es. later (store_of_log es place) (store_of_log (front ++ records) place)) again

-- records that go on from a moment, redone on what it left
redone_after : (front more records : List LogEntry) (place : Place) → IsNumberedFrom 1 (front ++ (more ++ records)) → EachAfter CarriesNumberBefore front (more ++ records) →
    redone (more ++ records) place (store_of_log (front ++ more) place) ≡ later (store_of_log (front ++ more) place) (store_of_log (front ++ (more ++ records)) place)
redone_after front more records place h c =
    let again = append_assoc front more records in
    let whole = ap (λ es. front ++ es) (append-nil more) in
    let parts = EachAfter-append CarriesNumberBefore front more records c in
    let numbers = IsNumberedFrom-append 1 (front ++ more) records (subst (IsNumberedFrom 1) (sym again) h) in
    redone-append more records place (store_of_log (front ++ more) place)
    ∙ ap (redone records place)
    (ap (λ es. redone more place (store_of_log es place)) (sym whole)
    ∙ redone_ahead front more [] place parts.0 (subst (IsNumberedFrom 1) (sym whole) numbers.0)
    ∙ ap (λ es. store_of_log es place) whole)
    ∙ redone_next (front ++ more) records place parts.1
    ∙ sym (later_of_longer (front ++ more) records place (subst (IsNumberedFrom 1) (sym again) h))
    ∙ ap (λ es. later (store_of_log (front ++ more) place) (store_of_log es place)) again

-- redo by guard on what some moment after the first entries left
pub redone_on_copy : (log front records more : List LogEntry) (place : Place) → IsNumberedFrom 1 log → IsConsistentLog log →
    BeginsWith log (front ++ records) → BeginsWith log (front ++ more) →
    redone records place (store_of_log (front ++ more) place) ≡ later (store_of_log (front ++ more) place) (store_of_log (front ++ records) place)
redone_on_copy log front records more place h c (us, eu) (vs, ev) =
    let both : records ++ us ≡ more ++ vs = append_cancel front _ _ (sym (append_assoc front records us) ∙ sym eu ∙ ev ∙ append_assoc front more vs) in
    let numbers_more = (IsNumberedFrom-append 1 (front ++ more) vs (subst (IsNumberedFrom 1) ev h)).0 in
    let numbers_records = (IsNumberedFrom-append 1 (front ++ records) us (subst (IsNumberedFrom 1) eu h)).0 in
    let carried = (EachAfter-append CarriesNumberBefore [] front records (EachAfter-append CarriesNumberBefore [] (front ++ records) us (subst (EachAfter CarriesNumberBefore []) eu c)).0).1 in
    elim (fronts records us more vs both) [
      | inl (ws, e) ↦
          ap (λ es. redone records place (store_of_log (front ++ es) place)) e
          ∙ redone_before front records ws place (subst (λ es. IsNumberedFrom 1 (front ++ es)) e numbers_more) carried
          ∙ ap (λ es. later (store_of_log (front ++ es) place) (store_of_log (front ++ records) place)) (sym e)
      | inr (ws, e) ↦
          ap (λ es. redone es place (store_of_log (front ++ more) place)) e
          ∙ redone_after front more ws place (subst (λ es. IsNumberedFrom 1 (front ++ es)) e numbers_records) (subst (EachAfter CarriesNumberBefore front) e carried)
          ∙ ap (λ es. later (store_of_log (front ++ more) place) (store_of_log (front ++ es) place)) (sym e)
    ]

-- redo by guard on a copy leaves the later of what the copy has and what the log left
pub redone_leaves_later : (log front records : List LogEntry) (copy : Place → Stored) → IsNumberedFrom 1 log → IsConsistentLog log →
    BeginsWith log (front ++ records) → IsCopyAfter log front copy → (place : Place) →
    redone records place (copy place) ≡ later (copy place) (store_of_log (front ++ records) place)
redone_leaves_later log front records copy h c begins is_copy place =
    let (more, begins_more, e) = is_copy place in
    ap (redone records place) e
    ∙ redone_on_copy log front records more place h c begins begins_more
    ∙ ap (λ stored. later stored (store_of_log (front ++ records) place)) (sym e)

-- what stands after the entry has at least its number
number-from_entry : (xs : List LogEntry) (entry : LogEntry) (ys : List LogEntry) (place : Place) → IsNumberedFrom 1 (xs ++ entry ∷ ys) → writes place entry.content ≡ true →
    entry.number ≤ (store_of_log (xs ++ entry ∷ ys) place).0
number-from_entry xs entry ys place h t =
    let again = append_assoc xs (entry ∷ []) ys in
    let own = ap (λ (q : Stored). q.0) (store_of_log_written xs entry place t) in
    let same = ap (λ es. (store_of_log es place).0) again in
    elim (store_of_log-grows (xs ++ entry ∷ []) ys place (subst (IsNumberedFrom 1) (sym again) h)) [
      | inl m ↦ omega (arith, m, own, same)
      | inr s ↦ (let q = ap (λ (q : Stored). q.0) s in omega (arith, q, own, same))
    ]

-- what a moment left, where the records before the entry are redone on it
meets_guard : (front records : List LogEntry) (entry : LogEntry) (rest more vs : List LogEntry) (place : Place) → IsNumberedFrom 1 (front ++ more) → IsNumberedFrom 1 (front ++ records) →
    records ++ entry ∷ rest ≡ more ++ vs → writes place entry.content ≡ true →
    (later (store_of_log (front ++ more) place) (store_of_log (front ++ records) place) ≡ store_of_log (front ++ records) place)
    ⊎ (entry.number ≤ (later (store_of_log (front ++ more) place) (store_of_log (front ++ records) place)).0)
meets_guard front records entry rest more vs place h k both t =
    elim (fronts records (entry ∷ rest) more vs both) [
      | inl (ws, e) ↦ by_rest ws e (append_cancel records (entry ∷ rest) (ws ++ vs) (both ∙ ap (λ es. es ++ vs) e ∙ append_assoc records ws vs))
      | inr (ws, e) ↦ inl (
          let same : front ++ records ≡ (front ++ more) ++ ws = ap (λ es. front ++ es) e ∙ sym (append_assoc front more ws) in
          ap (λ es. later (store_of_log (front ++ more) place) (store_of_log es place)) same
          ∙ later_of_longer (front ++ more) ws place (subst (IsNumberedFrom 1) same k)
          ∙ ap (λ es. store_of_log es place) (sym same))
    ]
  where
    by_rest : (ws : List LogEntry) → more ≡ records ++ ws → entry ∷ rest ≡ ws ++ vs →
        (later (store_of_log (front ++ more) place) (store_of_log (front ++ records) place) ≡ store_of_log (front ++ records) place)
        ⊎ (entry.number ≤ (later (store_of_log (front ++ more) place) (store_of_log (front ++ records) place)).0)
    by_rest [] e q = inl (
        ap (λ es. later (store_of_log (front ++ es) place) (store_of_log (front ++ records) place)) (e ∙ append-nil records)
        ∙ cond-false _ _ _ (le-ltb (store_of_log (front ++ records) place).0 (store_of_log (front ++ records) place).0 (omega arith)))
    by_rest (w ∷ ws) e q = inr (
        let head : w ≡ entry = cc in
        let same : front ++ more ≡ (front ++ records) ++ entry ∷ ws =
        ap (λ es. front ++ es) e ∙ sym (append_assoc front records (w ∷ ws)) ∙ ap (λ x. (front ++ records) ++ x ∷ ws) head in
        let numbers = subst (IsNumberedFrom 1) same h in
        let longer = ap (λ es. later (store_of_log es place) (store_of_log (front ++ records) place)) same ∙ later_of_shorter (front ++ records) (entry ∷ ws) place numbers in
        let least = number-from_entry (front ++ records) entry ws place numbers t in
        let number = ap (λ (q : Stored). q.0) longer in
        omega (arith, number, least))

-- no third case of the guard comes: each write finds its number before, or at least its own number
pub redone_meets_guard : (log front records : List LogEntry) (entry : LogEntry) (rest : List LogEntry) (copy : Place → Stored) → IsNumberedFrom 1 log → IsConsistentLog log →
    log ≡ front ++ records ++ entry ∷ rest → IsCopyAfter log front copy → (place : Place) → writes place entry.content ≡ true →
    (number_before entry.content < entry.number)
    × (((redone records place (copy place)).0 ≡ number_before entry.content) ⊎ (entry.number ≤ (redone records place (copy place)).0))
redone_meets_guard log front records entry rest copy h c whole is_copy place t =
    let left = redone_leaves_later log front records copy h c (entry ∷ rest, whole) is_copy place in
    let carried = EachAfter-at CarriesNumberBefore (front ++ records) entry rest (subst (EachAfter CarriesNumberBefore []) whole c) place t in
    let (more, (vs, ev), e) = is_copy place in
    let found = ap (λ stored. later stored (store_of_log (front ++ records) place)) e in
    let both : records ++ entry ∷ rest ≡ more ++ vs = append_cancel front _ _ (sym (append_assoc front records (entry ∷ rest)) ∙ sym whole ∙ ev ∙ append_assoc front more vs) in
    let numbers = (IsNumberedFrom-append 1 (front ++ more) vs (subst (IsNumberedFrom 1) ev h)).0 in
    let parts = IsNumberedFrom-append 1 (front ++ records) (entry ∷ rest) (subst (IsNumberedFrom 1) whole h) in
    let below = number-store_of_log-lt 1 (front ++ records) place (omega arith) parts.0 in (
      omega (arith, below, parts.1.0, carried),
      elim (meets_guard front records entry rest more vs place numbers parts.0 both t) [
        | inl q ↦ inl (ap (λ (q : Stored). q.0) (left ∙ found ∙ q) ∙ carried)
        | inr m ↦ inr (let q = ap (λ (q : Stored). q.0) (left ∙ found) in omega (arith, q, m))
      ],
    )
