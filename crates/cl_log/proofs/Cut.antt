-- The locks of a log of which the records below some number are cut off.
use Rattle.std.proofs.Common.{◌≡◌, ℕ, ◌+◌, ◌≤◌, Bool, true, false, not, cond, ◌&&◌, ◌||◌, List, [], ◌∷◌, ◌++◌, length, None, refl, sym, ap, ◌∙◌, subst, inl, inr, arith}
use Rattle.std.specs.List.{list_any, fold}
use Rattle.std.proofs.lemmas.Bool.{cond-true, cond-false, cases_Bool, and_left, or_left, or_parts, both_ways, false_from_ne_true}
use Rattle.std.proofs.lemmas.List.{append_assoc}
use Rattle.std.proofs.lemmas.List.Folds.{list_any-append}
use Rattle.std.proofs.lemmas.List.Sums.{fold-append}
use Rattle.cl_types.specs.declared.operations.TxnId.{TxnId}
use Rattle.cl_types.specs.Modes.{stronger}
use Rattle.cl_types.proofs.Modes.{stronger-none}
use Rattle.cl_types.proofs.Transactions.{same_txn-true}
use Rattle.cl_types.specs.Places.{Place}
use Rattle.cl_log.specs.declared.records.LogRec.{LogRec}
use Rattle.cl_log.specs.LogEntry.{LogEntry, IsNumberedFrom, EachAfter}
use Rattle.cl_log.specs.Kind.{txn_of, is_of, opens, is_end}
use Rattle.cl_log.specs.Locks.{mode_after, strongest_mode, locks_of_log, takes_lock}
use Rattle.cl_log.specs.Open.{has_record, has_begun, has_ended, is_open, low_of}
use Rattle.cl_log.proofs.Entries.{EachAfter-append, IsNumberedFrom-append}
use Rattle.cl_log.proofs.Locks.{mode_at-none, strongest_mode-unbegun, locks_of_log-closed}
use Rattle.cl_log.proofs.Low.{low_is_least_open}
use Rattle.cl_log.proofs.Open.{cong_and, has_ended_push}

-- what takes a lock is of a transaction without End before it
abbrev LocksUnended : List LogEntry → LogEntry → Type 0
LocksUnended seen entry = takes_lock entry.content ≡ true → has_ended seen (txn_of entry.content) ≡ false

-- the transaction has no record here
abbrev is_absent : TxnId → List LogEntry → Type 0
is_absent txn entries = list_any (λ (entry : LogEntry). is_of txn entry.content) entries ≡ false

-- whose records are at least the number has none below it
absent_below : (txn : TxnId) (n low : ℕ) (xs : List LogEntry) → IsNumberedFrom n xs → n + length xs ≤ low →
    ((before : List LogEntry) (x : LogEntry) (after : List LogEntry) → xs ≡ before ++ x ∷ after → is_of txn x.content ≡ true → low ≤ x.number) → is_absent txn xs
absent_below txn n low [] h l least = refl
absent_below txn n low (x ∷ xs) h l least =
    ap (λ b. b || list_any (λ (entry : LogEntry). is_of txn entry.content) xs)
    (false_from_ne_true _ (λ own. (let from = least [] x xs refl own in absurd (omega (arith, from, h.0, l)))))
    ∙ absent_below txn (n + 1) low xs h.1 (omega (arith, l)) (λ before y after e. least (x ∷ before) y after (ap (λ ys. x ∷ ys) e))

-- it has none of any kind
absent-has_record : (test : LogRec → Bool) (txn : TxnId) (xs : List LogEntry) → is_absent txn xs → has_record test txn xs ≡ false
absent-has_record test txn [] h = refl
absent-has_record test txn (x ∷ xs) h =
    let parts = or_parts (is_of txn x.content) _ h in
    ap (λ b. b || has_record test txn xs) (and_left _ _ parts.0) ∙ absent-has_record test txn xs parts.1

has_record-absent : (test : LogRec → Bool) (txn : TxnId) (below kept : List LogEntry) → is_absent txn below → has_record test txn (below ++ kept) ≡ has_record test txn kept
has_record-absent test txn below kept h =
    list_any-append (λ (entry : LogEntry). is_of txn entry.content && test entry.content) below kept
    ∙ ap (λ b. b || has_record test txn kept) (absent-has_record test txn below h)

is_open-absent : (txn : TxnId) (below kept : List LogEntry) → is_absent txn below → is_open (below ++ kept) txn ≡ is_open kept txn
unfolding has_begun has_ended
is_open-absent txn below kept h = cong_and (has_record-absent opens txn below kept h) (ap not (has_record-absent is_end txn below kept h))

unbegun_where_absent : (txn : TxnId) (xs : List LogEntry) → is_absent txn xs → has_begun xs txn ≡ false
unfolding has_begun
unbegun_where_absent txn xs h = absent-has_record opens txn xs h

pub strongest_mode-append : (below kept : List LogEntry) (txn : TxnId) (place : Place) → strongest_mode (below ++ kept) txn place ≡ fold (mode_after txn place) (strongest_mode below txn place) kept
unfolding strongest_mode
strongest_mode-append below kept txn place = fold-append (mode_after txn place) None below kept

strongest_mode-from_none : (kept : List LogEntry) (txn : TxnId) (place : Place) → fold (mode_after txn place) None kept ≡ strongest_mode kept txn place
unfolding strongest_mode
strongest_mode-from_none kept txn place = refl

-- the locks of a transaction without records before these
locks_where_absent : (below kept : List LogEntry) (txn : TxnId) (place : Place) → is_absent txn below → locks_of_log kept txn place ≡ locks_of_log (below ++ kept) txn place
unfolding locks_of_log
locks_where_absent below kept txn place h =
    sym (ap (λ b. cond b (strongest_mode (below ++ kept) txn place) None) (is_open-absent txn below kept h)
    ∙ ap (λ m. cond (is_open kept txn) m None)
    (strongest_mode-append below kept txn place
    ∙ ap (λ m. fold (mode_after txn place) m kept) (strongest_mode-unbegun below txn place (unbegun_where_absent txn below h))
    ∙ strongest_mode-from_none kept txn place))

-- after its End a transaction takes no lock
no_lock_after_end : (seen kept : List LogEntry) (txn : TxnId) (place : Place) → has_ended seen txn ≡ true → EachAfter LocksUnended seen kept → fold (mode_after txn place) None kept ≡ None
no_lock_after_end seen [] txn place ended h = refl
no_lock_after_end seen (x ∷ xs) txn place ended h =
    ap (λ m. fold (mode_after txn place) m xs) unlocked
    ∙ no_lock_after_end (seen ++ x ∷ []) xs txn place (has_ended_push txn seen x ∙ or_left _ _ ended) h.1
  where
    unlocked : mode_after txn place None x ≡ None
    unlocked =
        elim (cases_Bool (is_of txn x.content)) [
          | inl own ↦ cond-true _ _ _ own
              ∙ ap (stronger None) (mode_at-none place x.content (false_from_ne_true _ (λ takes. both_ways _ (h.0 takes) (ap (has_ended seen) (same_txn-true (txn_of x.content) txn own) ∙ ended))))
              ∙ stronger-none None
          | inr other ↦ cond-false _ _ _ other
        ]

has_begun-append : (txn : TxnId) (below kept : List LogEntry) → has_begun (below ++ kept) txn ≡ (has_begun below txn || has_begun kept txn)
unfolding has_begun
has_begun-append txn below kept = list_any-append (λ (entry : LogEntry). is_of txn entry.content && opens entry.content) below kept

has_ended-append : (txn : TxnId) (below kept : List LogEntry) → has_ended (below ++ kept) txn ≡ (has_ended below txn || has_ended kept txn)
unfolding has_ended
has_ended-append txn below kept = list_any-append (λ (entry : LogEntry). is_of txn entry.content && is_end entry.content) below kept

-- what is open after the cut, and was not before, has ended below it
ended_below : (txn : TxnId) (below kept : List LogEntry) → is_open (below ++ kept) txn ≡ false → is_open kept txn ≡ true → has_ended below txn ≡ true
ended_below txn below kept closed opened =
    by_parts (has_begun below txn) (has_begun kept txn) (has_ended below txn) (has_ended kept txn)
    (sym (cong_and (has_begun-append txn below kept) (ap not (has_ended-append txn below kept))) ∙ closed) opened
  where
    by_parts : (b c d e : Bool) → ((b || c) && not (d || e)) ≡ false → (c && not e) ≡ true → d ≡ true
    by_parts b c true e f t = refl
    by_parts b false false e f t = t
    by_parts true true false true f t = t
    by_parts false true false true f t = t
    by_parts true true false false f t = sym f
    by_parts false true false false f t = sym f

-- the locks of a transaction that has no lock in the whole log
locks_where_closed : (below kept : List LogEntry) (txn : TxnId) (place : Place) → EachAfter LocksUnended [] (below ++ kept) → is_open (below ++ kept) txn ≡ false →
    locks_of_log kept txn place ≡ None
unfolding locks_of_log strongest_mode
locks_where_closed below kept txn place h closed =
    elim (cases_Bool (is_open kept txn)) [
      | inl t ↦ cond-true _ _ _ t ∙ no_lock_after_end below kept txn place (ended_below txn below kept closed t) (EachAfter-append LocksUnended [] below kept h).1
      | inr f ↦ cond-false _ _ _ f
    ]

cut_of : (below kept : List LogEntry) (n : ℕ) (txn : TxnId) (place : Place) → IsNumberedFrom n (below ++ kept) → EachAfter LocksUnended [] (below ++ kept) →
    n + length below ≤ low_of (below ++ kept) (n + length (below ++ kept)) → locks_of_log kept txn place ≡ locks_of_log (below ++ kept) txn place
cut_of below kept n txn place numbers unended low =
    elim (cases_Bool (is_open (below ++ kept) txn)) [
      | inl t ↦ locks_where_absent below kept txn place
          (absent_below txn n (low_of (below ++ kept) (n + length (below ++ kept))) below (IsNumberedFrom-append n below kept numbers).0 low
          (λ before x after e own. (low_is_least_open (below ++ kept) n numbers).least before x (after ++ kept)
          (ap (λ ys. ys ++ kept) e ∙ append_assoc before (x ∷ after) kept)
          (ap (is_open (below ++ kept)) (same_txn-true (txn_of x.content) txn own) ∙ t)))
      | inr f ↦ locks_where_closed below kept txn place unended f ∙ sym (locks_of_log-closed (below ++ kept) txn place f)
    ]

pub locks_of_cut : (entries below kept : List LogEntry) (n : ℕ) (txn : TxnId) (place : Place) → IsNumberedFrom n entries → EachAfter LocksUnended [] entries →
    entries ≡ below ++ kept → n + length below ≤ low_of entries (n + length entries) → locks_of_log kept txn place ≡ locks_of_log entries txn place
locks_of_cut entries below kept n txn place numbers unended parts low =
    cut_of below kept n txn place (subst (IsNumberedFrom n) parts numbers) (subst (EachAfter LocksUnended []) parts unended)
    (subst (λ es. n + length below ≤ low_of es (n + length es)) parts low)
    ∙ ap (λ es. locks_of_log es txn place) (sym parts)
