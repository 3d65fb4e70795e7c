-- The settled map of a log with one more record.
use Rattle.std.proofs.Common.{◌≡◌, ◌≢◌, ℕ, ◌+◌, ◌⊎◌, Bool, true, false, not, cond, eqb, ◌&&◌, ◌||◌, List, [], ◌∷◌, ◌++◌, length, reverse, Option, Some, None, refl, sym, ap, ◌∙◌, subst, inl, inr, arith}
use Rattle.std.specs.List.{filter, fold}
use Rattle.std.proofs.lemmas.Bool.{and_left, and_right, and_parts, and_from, cond-true, cond-false, cases_Bool, not-true, not_from_true, not_from_false, ne_eqb, eq-eqb, or_left, or_right, both_ways, false_from_ne_true}
use Rattle.std.proofs.lemmas.List.{append_assoc, length-append, reverse-append, reverse-reverse}
use Rattle.std.proofs.lemmas.List.Folds.{list_any-append}
use Rattle.std.proofs.lemmas.List.Sums.{fold-append}
use Rattle.cl_types.specs.declared.operations.Mode.TheVariants.{Exclusive}
use Rattle.cl_types.specs.declared.operations.TxnId.{TxnId}
use Rattle.cl_types.proofs.Places.{same_place-true}
use Rattle.cl_types.proofs.Transactions.{same_txn-true, same_txn-itself}
use Rattle.cl_types.specs.Places.{Place, Stored}
use Rattle.cl_types.specs.Transactions.{same_txn}
use Rattle.cl_log.specs.declared.records.LogRec.TheVariants.{Set}
use Rattle.cl_log.specs.LogEntry.{LogEntry, IsNumberedFrom}
use Rattle.cl_log.specs.Kind.{txn_of, is_of, opens, is_end, is_mark, can_be_undone, undoes, writes}
use Rattle.cl_log.specs.Locks.{locks_of_log, HasNoConflict}
use Rattle.cl_log.specs.Open.{has_begun, has_ended, is_open, is_among}
use Rattle.cl_log.specs.Rest.{is_undone, is_left, is_left_of, rest_to_undo, undo_of}
use Rattle.cl_log.specs.Settled.{value_undone, undone_at, is_unsettled, unsettled, settled, IsReversible}
use Rattle.cl_log.specs.Store.{value_after, store_of_log}
use Rattle.cl_log.proofs.Entries.{IsNumberedFrom-append, number_at}
use Rattle.cl_log.proofs.KindFacts.{can_be_undone-opens, mark_idle, mark_end, write_end, write_undoes, end_idle, writes-undo_of, value_after-undo_of, opens-undo_of, is_end-undo_of}
use Rattle.cl_log.proofs.Locks.{locks_of_log-write, one_writer}
use Rattle.cl_log.proofs.Open.{is_open_push-other, is_open_push-idle, is_open_push-begun, is_open_push-end, is_open_push-opens, or_false}
use Rattle.cl_log.proofs.Rest.{IsFirstOfRest, is_undone_push, first_of_rest_is, names_first, can_be_undone-undo_of}
use Rattle.cl_log.proofs.Store.{store_of_log_other, store_of_log_written}

Value : Type 0
Value = Option (List ℕ)

-- the value at a place after undoing those entries that pass, last first
abbrev undone : (LogEntry → Bool) → Place → Option (List ℕ) → List LogEntry → Option (List ℕ)
undone p place value [] = value
undone p place value (x ∷ xs) = cond (p x) (undone_at place (undone p place value xs) x) (undone p place value xs)

undone-is : (p : LogEntry → Bool) (place : Place) (value : Option (List ℕ)) (xs : List LogEntry) → fold (undone_at place) value (reverse (filter p xs)) ≡ undone p place value xs
undone-is p place value [] = refl
undone-is p place value (x ∷ xs) =
    elim (p x) as (λ b. fold (undone_at place) value (reverse (cond b (x ∷ filter p xs) (filter p xs))) ≡ cond b (undone_at place (undone p place value xs) x) (undone p place value xs)) [
      | true ↦
          ap (fold (undone_at place) value) (reverse-append (x ∷ []) (filter p xs))
          ∙ fold-append (undone_at place) value (reverse (filter p xs)) (x ∷ [])
          ∙ ap (λ v. undone_at place v x) (undone-is p place value xs)
      | false ↦ undone-is p place value xs
    ]

undone-append : (p : LogEntry → Bool) (place : Place) (value : Option (List ℕ)) (xs ys : List LogEntry) → undone p place value (xs ++ ys) ≡ undone p place (undone p place value ys) xs
undone-append p place value [] ys = refl
undone-append p place value (x ∷ xs) ys = ap (λ v. cond (p x) (undone_at place v x) v) (undone-append p place value xs ys)

-- what is written elsewhere leaves the value
undone_at-other : (place : Place) (value : Option (List ℕ)) (x : LogEntry) → writes place x.content ≡ false → undone_at place value x ≡ value
undone_at-other place value x h = cond-false _ _ _ h

cond_same : (b : Bool) (value : Option (List ℕ)) → cond b value value ≡ value
cond_same true value = refl
cond_same false value = refl

-- two tests that agree at the entries that write there
undone-agree : (p q : LogEntry → Bool) (place : Place) (value : Option (List ℕ)) (xs : List LogEntry) →
    ((before : List LogEntry) (x : LogEntry) (after : List LogEntry) → xs ≡ before ++ x ∷ after → writes place x.content ≡ true → p x ≡ q x) →
    undone p place value xs ≡ undone q place value xs
undone-agree p q place value [] h = refl
undone-agree p q place value (x ∷ xs) h =
    ap (λ v. cond (p x) (undone_at place v x) v) (undone-agree p q place value xs (λ before y after e w. h (x ∷ before) y after (ap (λ es. x ∷ es) e) w))
    ∙ (elim (cases_Bool (writes place x.content)) [
      | inl t ↦ ap (λ b. cond b (undone_at place (undone q place value xs) x) (undone q place value xs)) (h [] x xs refl t)
      | inr f ↦
          ap (λ v. cond (p x) v (undone q place value xs)) (undone_at-other place _ x f)
          ∙ cond_same (p x) _ ∙ sym (cond_same (q x) _)
          ∙ ap (λ v. cond (q x) v (undone q place value xs)) (sym (undone_at-other place _ x f))
    ])

-- where none that writes there passes, the value stays
undone-none : (p : LogEntry → Bool) (place : Place) (value : Option (List ℕ)) (xs : List LogEntry) →
    ((before : List LogEntry) (x : LogEntry) (after : List LogEntry) → xs ≡ before ++ x ∷ after → writes place x.content ≡ true → p x ≡ false) →
    undone p place value xs ≡ value
undone-none p place value xs h = undone-agree p (λ _. false) place value xs h ∙ all_fail xs
  where
    all_fail : (xs : List LogEntry) → undone (λ _. false) place value xs ≡ value
    all_fail [] = refl
    all_fail (x ∷ xs) = all_fail xs

and_true : (b : Bool) → (b && true) ≡ b
and_true true = refl
and_true false = refl

-- the settled map, by what is undone
pub settled-undone : (entries : List LogEntry) (history : List TxnId) (place : Place) →
    settled entries history place ≡ undone (is_unsettled entries history) place (store_of_log entries place).1 entries
unfolding settled unsettled
settled-undone entries history place = undone-is (is_unsettled entries history) place (store_of_log entries place).1 entries

-- where nothing passes, no entry does
pub none_at : (p : LogEntry → Bool) (before : List LogEntry) (x : LogEntry) (after : List LogEntry) → filter p (before ++ x ∷ after) ≡ [] → p x ≡ false
none_at p [] x after h =
    false_from_ne_true (p x) (λ t. let e : ◌≡◌ {A = List LogEntry} (x ∷ filter p after) [] = sym (cond-true _ _ _ t) ∙ h in absurd_cons e)
  where
    absurd_cons : ◌≡◌ {A = List LogEntry} (x ∷ filter p after) [] → ⊥
    absurd_cons e = cc
none_at p (y ∷ before) x after h = none_at p before x after (tail_nil (p y) refl)
  where
    tail_nil : (b : Bool) → p y ≡ b → filter p (before ++ x ∷ after) ≡ []
    tail_nil true t = absurd (let e : ◌≡◌ {A = List LogEntry} (y ∷ filter p (before ++ x ∷ after)) [] = sym (cond-true _ _ _ t) ∙ h in cc)
    tail_nil false f = sym (cond-false _ _ _ f) ∙ h

pub has_begun-at : (before : List LogEntry) (x : LogEntry) (after : List LogEntry) → opens x.content ≡ true → has_begun (before ++ x ∷ after) (txn_of x.content) ≡ true
unfolding has_begun
has_begun-at before x after h =
    list_any-append (λ (e : LogEntry). is_of (txn_of x.content) e.content && opens e.content) before (x ∷ after)
    ∙ or_right _ _ (or_left _ _ (and_from _ _ (same_txn-itself (txn_of x.content)) h))

-- an entry is as unsettled as it was, where as much is undone and its transaction is as open
unsettled-same : (old new : List LogEntry) (history : List TxnId) (x : LogEntry) → is_undone new x.number ≡ is_undone old x.number →
    (can_be_undone x.content ≡ true → is_open new (txn_of x.content) ≡ is_open old (txn_of x.content)) → is_unsettled new history x ≡ is_unsettled old history x
unsettled-same old new history x undone open_as = by_kind (can_be_undone x.content) refl
  where
    settles : Bool
    settles = not (is_among (txn_of x.content) history)

    by_kind : (b : Bool) → can_be_undone x.content ≡ b → is_unsettled new history x ≡ is_unsettled old history x
    by_kind true t =
        ap (λ b. (can_be_undone x.content && not b) && (is_open new (txn_of x.content) && not (is_among (txn_of x.content) history))) undone
        ∙ ap (λ b. is_left old x && (b && not (is_among (txn_of x.content) history))) (open_as t)
    by_kind false f = and_left _ _ (and_left _ _ f) ∙ sym (and_left _ _ (and_left _ _ f))

-- with a record that ends nothing and names nothing as undone, each entry before it is as unsettled as it was
unsettled-kept : (entries : List LogEntry) (entry : LogEntry) (history : List TxnId) → is_end entry.content ≡ false → ((number : ℕ) → undoes number entry.content ≡ false) →
    (before : List LogEntry) (x : LogEntry) (after : List LogEntry) → entries ≡ before ++ x ∷ after →
    is_unsettled (entries ++ entry ∷ []) history x ≡ is_unsettled entries history x
unsettled-kept entries entry history on plain before x after e =
    unsettled-same entries (entries ++ entry ∷ []) history x
    (is_undone_push x.number entries entry ∙ ap (λ b. is_undone entries x.number || b) (plain x.number) ∙ or_false _)
    (λ h. is_open_push-begun (txn_of x.content) entries entry
    (ap (λ es. has_begun es (txn_of x.content)) e ∙ has_begun-at before x after (can_be_undone-opens x.content h)) on)

-- the settled map with one more record
settled_push : (entries : List LogEntry) (entry : LogEntry) (history : List TxnId) (place : Place) →
    let passes = is_unsettled (entries ++ entry ∷ []) history in
    let value = (store_of_log (entries ++ entry ∷ []) place).1 in
    settled (entries ++ entry ∷ []) history place ≡ undone passes place (cond (passes entry) (undone_at place value entry) value) entries
settled_push entries entry history place =
    settled-undone (entries ++ entry ∷ []) history place
    ∙ undone-append (is_unsettled (entries ++ entry ∷ []) history) place (store_of_log (entries ++ entry ∷ []) place).1 entries (entry ∷ [])

-- one that cannot be undone itself
settled_push-fixed : (entries : List LogEntry) (entry : LogEntry) (history : List TxnId) (place : Place) → can_be_undone entry.content ≡ false →
    settled (entries ++ entry ∷ []) history place ≡ undone (is_unsettled (entries ++ entry ∷ []) history) place (store_of_log (entries ++ entry ∷ []) place).1 entries
settled_push-fixed entries entry history place h =
    settled_push entries entry history place
    ∙ ap (λ v. undone (is_unsettled (entries ++ entry ∷ []) history) place v entries) (cond-false _ _ _ (and_left _ _ (and_left _ _ h)))

value_of_other : (entries : List LogEntry) (entry : LogEntry) (place : Place) → writes place entry.content ≡ false → (store_of_log (entries ++ entry ∷ []) place).1 ≡ (store_of_log entries place).1
value_of_other entries entry place h = ap (λ (q : Stored). q.1) (store_of_log_other entries entry place h)

-- a Touch, Prepared or Decide leaves the settled map
pub settled_after_mark : (entries : List LogEntry) (entry : LogEntry) (history : List TxnId) (place : Place) → is_mark entry.content ≡ true →
    settled (entries ++ entry ∷ []) history place ≡ settled entries history place
settled_after_mark entries entry history place h =
    settled_push-fixed entries entry history place (mark_idle entry.content h).undone_not
    ∙ ap (λ v. undone (is_unsettled (entries ++ entry ∷ []) history) place v entries) (value_of_other entries entry place ((mark_idle entry.content h).writes_not place))
    ∙ undone-agree _ (is_unsettled entries history) place _ entries
    (λ before x after e w. unsettled-kept entries entry history (mark_end entry.content h) (mark_idle entry.content h).undoes_not before x after e)
    ∙ sym (settled-undone entries history place)

-- a write of a running transaction that is not in the history leaves the settled map
pub settled_after_write : (entries : List LogEntry) (entry : LogEntry) (history : List TxnId) (place : Place) → can_be_undone entry.content ≡ true →
    has_ended entries (txn_of entry.content) ≡ false → is_among (txn_of entry.content) history ≡ false → is_undone entries entry.number ≡ false → IsReversible entries entry.content →
    settled (entries ++ entry ∷ []) history place ≡ settled entries history place
settled_after_write entries entry history place h running out fresh reversible =
    let own = same_txn-itself (txn_of entry.content) in
    let opened = is_open_push-opens (txn_of entry.content) entries entry own (can_be_undone-opens entry.content h) (write_end entry.content h) running in
    let left : is_undone (entries ++ entry ∷ []) entry.number ≡ false =
    is_undone_push entry.number entries entry ∙ ap (λ b. is_undone entries entry.number || b) (write_undoes entry.content entry.number h) ∙ or_false _ ∙ fresh in
    let passes : is_unsettled (entries ++ entry ∷ []) history entry ≡ true =
    and_from _ _ (and_from _ _ h (not_from_false _ left)) (and_from _ _ opened (not_from_false _ out)) in
    settled_push entries entry history place
    ∙ ap (λ v. undone (is_unsettled (entries ++ entry ∷ []) history) place v entries) (cond-true _ _ _ passes ∙ back (writes place entry.content) refl)
    ∙ undone-agree _ (is_unsettled entries history) place _ entries
    (λ before x after e w. unsettled-kept entries entry history (write_end entry.content h) (λ n. write_undoes entry.content n h) before x after e)
    ∙ sym (settled-undone entries history place)
  where
    back : (b : Bool) → writes place entry.content ≡ b → undone_at place (store_of_log (entries ++ entry ∷ []) place).1 entry ≡ (store_of_log entries place).1
    back true t =
        cond-true _ _ _ t ∙ ap (λ (q : Stored). value_undone entry.content q.1) (store_of_log_written entries entry place t) ∙ reversible place t
    back false f = cond-false _ _ _ f ∙ value_of_other entries entry place f

-- nothing is left of a transaction with no rest
none_left : (entries : List LogEntry) (txn : TxnId) → rest_to_undo entries txn ≡ [] → (before : List LogEntry) (x : LogEntry) (after : List LogEntry) → entries ≡ before ++ x ∷ after → is_left_of entries txn x ≡ false
unfolding rest_to_undo
none_left entries txn none before x after e =
    let empty : filter (is_left_of entries txn) entries ≡ [] = sym (reverse-reverse (filter (is_left_of entries txn) entries)) ∙ ap reverse none in
    none_at (is_left_of entries txn) before x after (sym (ap (filter (is_left_of entries txn)) e) ∙ empty)

-- an End of a transaction of the history, or of one with nothing left to undo, leaves the settled map
pub settled_after_end : (entries : List LogEntry) (entry : LogEntry) (history : List TxnId) (place : Place) → is_end entry.content ≡ true →
    (is_among (txn_of entry.content) history ≡ true) ⊎ (rest_to_undo entries (txn_of entry.content) ≡ []) →
    settled (entries ++ entry ∷ []) history place ≡ settled entries history place
settled_after_end entries entry history place h settles =
    settled_push-fixed entries entry history place (end_idle entry.content h).undone_not
    ∙ ap (λ v. undone (is_unsettled (entries ++ entry ∷ []) history) place v entries) (value_of_other entries entry place ((end_idle entry.content h).writes_not place))
    ∙ undone-agree _ (is_unsettled entries history) place _ entries (λ before x after e w. same before x after e (is_of (txn_of x.content) entry.content) refl)
    ∙ sym (settled-undone entries history place)
  where
    not_left : (before : List LogEntry) (x : LogEntry) (after : List LogEntry) → entries ≡ before ++ x ∷ after → txn_of entry.content ≡ txn_of x.content → is_unsettled entries history x ≡ false
    not_left before x after e own =
        elim settles [
          | inl member ↦ and_right _ _ (and_right _ _ (not_from_true _ (ap (λ t. is_among t history) (sym own) ∙ member)))
          | inr none ↦ and_left _ _ (
              sym (ap (λ b. b && is_left entries x) (ap (λ t. same_txn (txn_of x.content) t) own ∙ same_txn-itself (txn_of x.content)))
              ∙ none_left entries (txn_of entry.content) none before x after e)
        ]

    same : (before : List LogEntry) (x : LogEntry) (after : List LogEntry) → entries ≡ before ++ x ∷ after → (b : Bool) → is_of (txn_of x.content) entry.content ≡ b →
        is_unsettled (entries ++ entry ∷ []) history x ≡ is_unsettled entries history x
    same before x after e true t =
        and_right _ _ (and_left _ _ (is_open_push-end (txn_of x.content) entries entry t h))
        ∙ sym (not_left before x after e (same_txn-true (txn_of entry.content) (txn_of x.content) t))
    same before x after e false f =
        unsettled-same entries (entries ++ entry ∷ []) history x
        (is_undone_push x.number entries entry ∙ ap (λ b. is_undone entries x.number || b) ((end_idle entry.content h).undoes_not x.number) ∙ or_false _)
        (λ k. is_open_push-other (txn_of x.content) entries entry f)

-- an unsettled entry is of an open transaction, which locks its place exclusively
unsettled-locks : (entries : List LogEntry) (history : List TxnId) (place : Place) (before : List LogEntry) (x : LogEntry) (after : List LogEntry) → entries ≡ before ++ x ∷ after →
    is_unsettled entries history x ≡ true → writes place x.content ≡ true → locks_of_log entries (txn_of x.content) place ≡ Some Exclusive
unsettled-locks entries history place before x after e passes here =
    let parts = and_parts _ _ passes in
    let opened = (and_parts _ _ parts.1).0 in
    ap (λ es. locks_of_log es (txn_of x.content) place) e
    ∙ locks_of_log-write before x after (txn_of x.content) place (sym (ap (λ es. is_open es (txn_of x.content)) e) ∙ opened) (same_txn-itself (txn_of x.content)) (and_parts _ _ parts.0).0 here

-- an undo step: the compensation of the first of the rest of an open transaction that is not in the history is appended
module _ (entries : List LogEntry) (n : ℕ) (numbers : IsNumberedFrom n entries) (txn : TxnId) (first : LogEntry) (others : List LogEntry)
    (rest : rest_to_undo entries txn ≡ first ∷ others) (entry : LogEntry) (now : ℕ) (is_undo : entry.content ≡ undo_of first.content first.number now)
    (history : List TxnId) (opened : is_open entries txn ≡ true) (out : is_among txn history ≡ false) (apart : HasNoConflict entries) (place : Place) where
  left_is : IsFirstOfRest entries txn first others
  left_is = first_of_rest_is entries txn first others rest

  own : is_of txn first.content ≡ true
  own = (and_parts _ _ left_is.left).0

  undoable : can_be_undone first.content ≡ true
  undoable = (and_parts _ _ (and_parts _ _ left_is.left).1).0

  -- all stays as unsettled as it was but the first of the rest
  unsettled_then : (x : LogEntry) → is_unsettled (entries ++ entry ∷ []) history x ≡ (is_unsettled entries history x && not (eqb first.number x.number))
  unsettled_then x =
      ap (λ b. (can_be_undone x.content && not b) && (is_open (entries ++ entry ∷ []) (txn_of x.content) && not (is_among (txn_of x.content) history)))
      (is_undone_push x.number entries entry ∙ ap (λ b. is_undone entries x.number || b) (names_first entries n numbers txn first others rest entry now is_undo x.number))
      ∙ ap (λ b. (can_be_undone x.content && not (is_undone entries x.number || eqb first.number x.number)) && (b && not (is_among (txn_of x.content) history)))
      (is_open_push-idle (txn_of x.content) entries entry (ap opens is_undo ∙ opens-undo_of first.content first.number now undoable) (ap is_end is_undo ∙ is_end-undo_of first.content first.number now undoable))
      ∙ regroup (can_be_undone x.content) (is_undone entries x.number) (eqb first.number x.number) (is_open entries (txn_of x.content) && not (is_among (txn_of x.content) history))
    where
      regroup : (a b c d : Bool) → ((a && not (b || c)) && d) ≡ (((a && not b) && d) && not c)
      regroup false b c d = refl
      regroup true true c d = refl
      regroup true false true true = refl
      regroup true false true false = refl
      regroup true false false true = refl
      regroup true false false false = refl

  parts : IsNumberedFrom n left_is.before × IsNumberedFrom (n + length left_is.before) (first ∷ left_is.after)
  parts = IsNumberedFrom-append n left_is.before (first ∷ left_is.after) (subst (IsNumberedFrom n) left_is.whole numbers)

  before_same : (b : List LogEntry) (x : LogEntry) (a : List LogEntry) → left_is.before ≡ b ++ x ∷ a → is_unsettled (entries ++ entry ∷ []) history x ≡ is_unsettled entries history x
  before_same b x a e =
      let number = number_at n b x a (subst (IsNumberedFrom n) e parts.0) in
      let long = ap length e ∙ length-append b (x ∷ a) in
      unsettled_then x
      ∙ ap (λ t. is_unsettled entries history x && not t) (ne_eqb first.number x.number (λ q. omega (arith, number, long, parts.1.0, q)))
      ∙ and_true (is_unsettled entries history x)

  after_same : (b : List LogEntry) (x : LogEntry) (a : List LogEntry) → left_is.after ≡ b ++ x ∷ a → is_unsettled (entries ++ entry ∷ []) history x ≡ is_unsettled entries history x
  after_same b x a e =
      let number = number_at (n + length left_is.before + 1) b x a (subst (IsNumberedFrom (n + length left_is.before + 1)) e parts.1.1) in
      unsettled_then x
      ∙ ap (λ t. is_unsettled entries history x && not t) (ne_eqb first.number x.number (λ q. omega (arith, number, parts.1.0, q)))
      ∙ and_true (is_unsettled entries history x)

  first_settled : is_unsettled (entries ++ entry ∷ []) history first ≡ false
  first_settled = unsettled_then first ∙ and_right _ _ (not_from_true _ (eq-eqb first.number first.number refl))

  first_unsettled : is_unsettled entries history first ≡ true
  first_unsettled =
      let same = same_txn-true (txn_of first.content) txn own in
      and_from _ _ (and_parts _ _ left_is.left).1
      (and_from _ _ (ap (is_open entries) same ∙ opened) (not_from_false _ (ap (λ t. is_among t history) same ∙ out)))

  -- where the first of the rest writes, nothing after it is unsettled
  none_after : writes place first.content ≡ true → (b : List LogEntry) (x : LogEntry) (a : List LogEntry) → left_is.after ≡ b ++ x ∷ a → writes place x.content ≡ true → is_unsettled entries history x ≡ false
  none_after here b x a e there =
      false_from_ne_true _ (λ passes.
      let whole : entries ≡ (left_is.before ++ first ∷ b) ++ x ∷ a =
      left_is.whole ∙ ap (λ es. left_is.before ++ first ∷ es) e ∙ sym (append_assoc left_is.before (first ∷ b) (x ∷ a)) in
      let theirs = unsettled-locks entries history place (left_is.before ++ first ∷ b) x a whole passes there in
      let ours = unsettled-locks entries history place left_is.before first left_is.after left_is.whole first_unsettled here in
      let same : txn_of x.content ≡ txn = one_writer entries (txn_of x.content) (txn_of first.content) place apart theirs ours ∙ same_txn-true (txn_of first.content) txn own in
      let left : is_left_of entries txn x ≡ true = and_from _ _ (ap (λ t. same_txn t txn) same ∙ same_txn-itself txn) (and_parts _ _ passes).0 in
      both_ways _ (none_at (is_left_of entries txn) b x a (sym (ap (filter (is_left_of entries txn)) e) ∙ left_is.none_after)) left)

  value : Option (List ℕ)
  value = (store_of_log entries place).1

  value_then : Option (List ℕ)
  value_then = (store_of_log (entries ++ entry ∷ []) place).1

  -- up to the first of the rest
  meets : (b : Bool) → writes place first.content ≡ b →
      undone (is_unsettled entries history) place (store_of_log (entries ++ entry ∷ []) place).1 left_is.after
      ≡ undone_at place (undone (is_unsettled entries history) place (store_of_log entries place).1 left_is.after) first
  meets true t =
      undone-none (is_unsettled entries history) place (store_of_log (entries ++ entry ∷ []) place).1 left_is.after (none_after t)
      ∙ ap (λ (q : Stored). q.1) (store_of_log_written entries entry place (ap (writes place) is_undo ∙ writes-undo_of first.content first.number now place ∙ t))
      ∙ ap (λ c. value_after c (store_of_log entries place).1) is_undo ∙ value_after-undo_of first.content first.number now (store_of_log entries place).1 undoable
      ∙ sym (cond-true _ _ _ t)
      ∙ ap (λ v. undone_at place v first) (sym (undone-none (is_unsettled entries history) place (store_of_log entries place).1 left_is.after (none_after t)))
  meets false f =
      ap (λ v. undone (is_unsettled entries history) place v left_is.after)
      (value_of_other entries entry place (ap (writes place) is_undo ∙ writes-undo_of first.content first.number now place ∙ f))
      ∙ sym (undone_at-other place _ first f)

  pub settled_after_undo : settled (entries ++ entry ∷ []) history place ≡ settled entries history place
  settled_after_undo =
      let new = is_unsettled (entries ++ entry ∷ []) history in
      let old = is_unsettled entries history in
      settled_push-fixed entries entry history place (ap can_be_undone is_undo ∙ can_be_undone-undo_of first.content first.number now undoable)
      ∙ ap (undone new place (store_of_log (entries ++ entry ∷ []) place).1) left_is.whole
      ∙ undone-append new place (store_of_log (entries ++ entry ∷ []) place).1 left_is.before (first ∷ left_is.after)
      ∙ ap (λ v. undone new place v left_is.before)
      (cond-false _ _ _ first_settled
      ∙ undone-agree new old place (store_of_log (entries ++ entry ∷ []) place).1 left_is.after (λ b x a e w. after_same b x a e)
      ∙ meets (writes place first.content) refl
      ∙ sym (cond-true _ _ _ first_unsettled))
      ∙ undone-agree new old place _ left_is.before (λ b x a e w. before_same b x a e)
      ∙ sym (undone-append old place (store_of_log entries place).1 left_is.before (first ∷ left_is.after))
      ∙ sym (ap (undone old place (store_of_log entries place).1) left_is.whole)
      ∙ sym (settled-undone entries history place)

-- a place that no member of the history has locked is settled without it as with it
pub settled_with-elsewhere : (entries : List LogEntry) (history : List TxnId) (txn : TxnId) (place : Place) → locks_of_log entries txn place ≢ Some Exclusive →
    settled entries (history ++ txn ∷ []) place ≡ settled entries history place
settled_with-elsewhere entries history txn place free =
    settled-undone entries (history ++ txn ∷ []) place
    ∙ undone-agree _ (is_unsettled entries history) place _ entries (λ before x after e here. same before x after e here (same_txn (txn_of x.content) txn) refl (is_unsettled entries history x) refl)
    ∙ sym (settled-undone entries history place)
  where
    among : (x : LogEntry) → is_among (txn_of x.content) (history ++ txn ∷ []) ≡ (is_among (txn_of x.content) history || same_txn (txn_of x.content) txn)
    among x = list_any-append (same_txn (txn_of x.content)) history (txn ∷ []) ∙ ap (λ b. is_among (txn_of x.content) history || b) (or_false _)

    with_member : (x : LogEntry) (b : Bool) → same_txn (txn_of x.content) txn ≡ b →
        is_unsettled entries (history ++ txn ∷ []) x ≡ (is_left entries x && (is_open entries (txn_of x.content) && not (is_among (txn_of x.content) history || b)))
    with_member x b e = ap (λ t. is_left entries x && (is_open entries (txn_of x.content) && not t)) (among x ∙ ap (λ t. is_among (txn_of x.content) history || t) e)

    same : (before : List LogEntry) (x : LogEntry) (after : List LogEntry) → entries ≡ before ++ x ∷ after → writes place x.content ≡ true → (b : Bool) → same_txn (txn_of x.content) txn ≡ b →
        (u : Bool) → is_unsettled entries history x ≡ u → is_unsettled entries (history ++ txn ∷ []) x ≡ is_unsettled entries history x
    same before x after e here false f u q = with_member x false f ∙ ap (λ t. is_left entries x && (is_open entries (txn_of x.content) && not t)) (or_false _)
    same before x after e here true t true q =
        absurd (free (ap (λ y. locks_of_log entries y place) (sym (same_txn-true (txn_of x.content) txn t)) ∙ unsettled-locks entries history place before x after e q here))
    same before x after e here true t false q =
        with_member x true t
        ∙ ap (λ b. is_left entries x && b) (and_right _ _ (not_from_true _ (or_right _ _ refl))) ∙ and_right _ _ refl
        ∙ sym q

-- a place that a member of the history has locked is settled as the store has it
pub settled_at-member : (entries : List LogEntry) (history : List TxnId) (txn : TxnId) (place : Place) → HasNoConflict entries → is_among txn history ≡ true →
    locks_of_log entries txn place ≡ Some Exclusive → settled entries history place ≡ (store_of_log entries place).1
settled_at-member entries history txn place apart member locked =
    settled-undone entries history place
    ∙ undone-none (is_unsettled entries history) place (store_of_log entries place).1 entries
    (λ before x after e here. false_from_ne_true _ (λ passes.
    let same = one_writer entries (txn_of x.content) txn place apart (unsettled-locks entries history place before x after e passes here) locked in
    both_ways _ (not-true _ (and_parts _ _ (and_parts _ _ passes).1).1) (ap (λ t. is_among t history) same ∙ member)))

-- the settled map of an empty log has nothing
pub settled-nil : (history : List TxnId) (place : Place) → settled [] history place ≡ None
unfolding settled unsettled store_of_log
settled-nil history place = refl

-- a Set that has the value before it as its old image can be reversed
pub IsReversible-set : (seen : List LogEntry) (txn : TxnId) (table key : List ℕ) (before : ℕ) (old new : Option (List ℕ)) → (store_of_log seen (table, key)).1 ≡ old →
    IsReversible seen (Set txn table key before old new)
IsReversible-set seen txn table key before old new h =
    λ place here. sym (ap (λ (p : Place). (store_of_log seen p).1) (sym (same_place-true (table, key) place here)) ∙ h)

-- a place that no transaction outside the history has locked exclusively is settled as the store has it
pub settled_at-free : (entries : List LogEntry) (history : List TxnId) (place : Place) →
    ((txn : TxnId) → locks_of_log entries txn place ≡ Some Exclusive → is_among txn history ≡ true) → settled entries history place ≡ (store_of_log entries place).1
settled_at-free entries history place members =
    settled-undone entries history place
    ∙ undone-none (is_unsettled entries history) place (store_of_log entries place).1 entries
    (λ before x after e here. false_from_ne_true _ (λ passes.
    both_ways _ (not-true _ (and_parts _ _ (and_parts _ _ passes).1).1)
    (members (txn_of x.content) (unsettled-locks entries history place before x after e passes here))))
