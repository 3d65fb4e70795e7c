-- How the rest of a transaction grows and shrinks with its log.
use Rattle.std.proofs.Common.{◌≡◌, ◌≢◌, ℕ, ◌+◌, ◌<◌, ◌≤◌, Bool, true, false, not, cond, eqb, ◌&&◌, ◌||◌, List, [], ◌∷◌, ◌++◌, length, reverse, Option, Some, None, refl, sym, ap, ◌∙◌, subst, arith}
use Rattle.std.specs.List.{filter}
use Rattle.std.proofs.lemmas.List.{append-nil, reverse-append, reverse-reverse}
use Rattle.std.proofs.lemmas.List.Elements.{filter-append, filter_agree}
use Rattle.std.proofs.lemmas.Bool.{and_left, and_right, and_parts, cond-true, cond-false, not-true, not_from_true, not_from_false, ne_eqb, eq-eqb, false≢true}
use Rattle.cl_types.specs.declared.operations.TxnId.{TxnId}
use Rattle.cl_types.proofs.Transactions.{same_txn-true, same_txn-false}
use Rattle.cl_log.specs.declared.records.LogRec.{LogRec}
use Rattle.cl_log.specs.declared.records.LogRec.TheVariants.{Set, Add}
use Rattle.cl_log.proofs.Entries.{IsNumberedFrom-append}
use Rattle.cl_log.specs.LogEntry.{LogEntry, IsNumberedFrom, content_at}
use Rattle.cl_log.specs.Kind.{txn_of, is_of, can_be_undone, undoes}
use Rattle.cl_log.specs.Rest.{is_undone, is_left_of, rest_to_undo, first_number, undo_of}
use Rattle.cl_log.proofs.Numbered.{content_at-entry}
use Rattle.cl_log.proofs.Open.{list_any_push, or_false}

-- the rest from the last entry that passes
pub first-reverse-filter : (p : LogEntry → Bool) (xs : List LogEntry) (x : LogEntry) (ys : List LogEntry) → p x ≡ true → filter p ys ≡ [] → first_number (reverse (filter p (xs ++ x ∷ ys))) ≡ Some x.number
first-reverse-filter p xs x ys h none =
    ap (λ es. first_number (reverse es))
    (filter-append p xs (x ∷ ys) ∙ ap (λ es. filter p xs ++ es) (ap (λ b. cond b (x ∷ filter p ys) (filter p ys)) h ∙ ap (λ es. x ∷ es) none))
    ∙ ap first_number (reverse-append (filter p xs) (x ∷ []))

pub is_undone_push : (number : ℕ) (entries : List LogEntry) (entry : LogEntry) → is_undone (entries ++ entry ∷ []) number ≡ (is_undone entries number || undoes number entry.content)
unfolding is_undone
is_undone_push number entries entry = list_any_push (λ e. undoes number e.content) entries entry

-- a filter of a filter, and of a list from its end
pub filter_both : (p q : LogEntry → Bool) (xs : List LogEntry) → filter (λ x. p x && q x) xs ≡ filter q (filter p xs)
filter_both p q [] = refl
filter_both p q (x ∷ xs) =
    elim (p x) as (λ b. cond (b && q x) (x ∷ filter (λ x. p x && q x) xs) (filter (λ x. p x && q x) xs) ≡ filter q (cond b (x ∷ filter p xs) (filter p xs)))
    [ true ↦ ap (λ es. cond (q x) (x ∷ es) es) (filter_both p q xs) | false ↦ filter_both p q xs ]

filter-reverse : (q : LogEntry → Bool) (xs : List LogEntry) → filter q (reverse xs) ≡ reverse (filter q xs)
filter-reverse q [] = refl
filter-reverse q (x ∷ xs) =
    ap (filter q) (reverse-append (x ∷ []) xs)
    ∙ filter-append q (reverse xs) (x ∷ [])
    ∙ ap (λ es. es ++ filter q (x ∷ [])) (filter-reverse q xs)
    ∙ (elim (q x) as (λ b. reverse (filter q xs) ++ cond b (x ∷ []) [] ≡ reverse (cond b (x ∷ filter q xs) (filter q xs)))
    [ true ↦ sym (reverse-append (x ∷ []) (filter q xs)) | false ↦ append-nil (reverse (filter q xs)) ])

-- with a record that is no compensation
pub rest_to_undo_push-plain : (entries : List LogEntry) (entry : LogEntry) (txn : TxnId) → ((number : ℕ) → undoes number entry.content ≡ false) →
    rest_to_undo (entries ++ entry ∷ []) txn ≡ cond (is_left_of entries txn entry) (entry ∷ rest_to_undo entries txn) (rest_to_undo entries txn)
unfolding rest_to_undo
rest_to_undo_push-plain entries entry txn plain =
    ap reverse (
    filter_agree (is_left_of (entries ++ entry ∷ []) txn) (is_left_of entries txn)
    (λ x. ap (λ b. is_of txn x.content && (can_be_undone x.content && not b))
    (is_undone_push x.number entries entry ∙ ap (λ b. is_undone entries x.number || b) (plain x.number) ∙ or_false (is_undone entries x.number)))
    (entries ++ entry ∷ [])
    ∙ filter-append (is_left_of entries txn) entries (entry ∷ []))
    ∙ reverse-append (filter (is_left_of entries txn) entries) (filter (is_left_of entries txn) (entry ∷ []))
    ∙ (elim (is_left_of entries txn entry) as (λ b. reverse (cond b (entry ∷ []) []) ++ reverse (filter (is_left_of entries txn) entries)
    ≡ cond b (entry ∷ reverse (filter (is_left_of entries txn) entries)) (reverse (filter (is_left_of entries txn) entries)))
    [ true ↦ refl | false ↦ refl ])

-- an empty log has nothing to undo
pub rest_to_undo-nil : (txn : TxnId) → rest_to_undo [] txn ≡ []
unfolding rest_to_undo
rest_to_undo-nil txn = refl

-- with a write of the transaction that no compensation names
pub rest_to_undo_push-write : (entries : List LogEntry) (entry : LogEntry) (txn : TxnId) → ((number : ℕ) → undoes number entry.content ≡ false) → is_left_of entries txn entry ≡ true →
    rest_to_undo (entries ++ entry ∷ []) txn ≡ entry ∷ rest_to_undo entries txn
rest_to_undo_push-write entries entry txn plain left = rest_to_undo_push-plain entries entry txn plain ∙ cond-true _ _ _ left

-- with a record of another, or one that is no write
pub rest_to_undo_push-other : (entries : List LogEntry) (entry : LogEntry) (txn : TxnId) → ((number : ℕ) → undoes number entry.content ≡ false) → is_left_of entries txn entry ≡ false →
    rest_to_undo (entries ++ entry ∷ []) txn ≡ rest_to_undo entries txn
rest_to_undo_push-other entries entry txn plain other = rest_to_undo_push-plain entries entry txn plain ∙ cond-false _ _ _ other

-- with a compensation of a number
pub rest_to_undo_push-undo : (entries : List LogEntry) (entry : LogEntry) (txn : TxnId) (undone : ℕ) → ((number : ℕ) → undoes number entry.content ≡ eqb undone number) → can_be_undone entry.content ≡ false →
    rest_to_undo (entries ++ entry ∷ []) txn ≡ filter (λ x. not (eqb undone x.number)) (rest_to_undo entries txn)
unfolding rest_to_undo
rest_to_undo_push-undo entries entry txn undone names own =
    ap reverse (
    filter_agree (is_left_of (entries ++ entry ∷ []) txn) (λ x. is_left_of entries txn x && not (eqb undone x.number))
    (λ x. ap (λ b. is_of txn x.content && (can_be_undone x.content && not b))
    (is_undone_push x.number entries entry ∙ ap (λ b. is_undone entries x.number || b) (names x.number))
    ∙ regroup (is_of txn x.content) (can_be_undone x.content) (is_undone entries x.number) (eqb undone x.number))
    (entries ++ entry ∷ [])
    ∙ filter_both (is_left_of entries txn) (λ x. not (eqb undone x.number)) (entries ++ entry ∷ [])
    ∙ ap (filter (λ x. not (eqb undone x.number)))
    (filter-append (is_left_of entries txn) entries (entry ∷ [])
    ∙ ap (λ b. filter (is_left_of entries txn) entries ++ cond b (entry ∷ []) []) (and_right (is_of txn entry.content) _ (and_left _ _ own))
    ∙ append-nil (filter (is_left_of entries txn) entries)))
    ∙ sym (filter-reverse (λ x. not (eqb undone x.number)) (filter (is_left_of entries txn) entries))
  where
    regroup : (a b c d : Bool) → (a && (b && not (c || d))) ≡ ((a && (b && not c)) && not d)
    regroup false b c d = refl
    regroup true false c d = refl
    regroup true true true d = refl
    regroup true true false d = refl

-- the first of a rest in its log
pub record IsFirstOfRest (entries : List LogEntry) (txn : TxnId) (first : LogEntry) (others : List LogEntry) : Type 0 where
  pub before : List LogEntry
  pub after : List LogEntry
  pub whole : entries ≡ before ++ first ∷ after
  pub left : is_left_of entries txn first ≡ true
  pub none_after : filter (is_left_of entries txn) after ≡ []
  pub are_others : others ≡ reverse (filter (is_left_of entries txn) before)

pub record SplitsAtLast (p : LogEntry → Bool) (xs : List LogEntry) (x : LogEntry) (r : List LogEntry) : Type 0 where
  pub before : List LogEntry
  pub after : List LogEntry
  pub whole : xs ≡ before ++ x ∷ after
  pub passes : p x ≡ true
  pub none_after : filter p after ≡ []
  pub others : r ≡ reverse (filter p before)

-- one more element in front, which fails or passes
split_past : (p : LogEntry → Bool) (y : LogEntry) (ys : List LogEntry) (x : LogEntry) (r : List LogEntry) → p y ≡ false → SplitsAtLast p ys x r → SplitsAtLast p (y ∷ ys) x r
split_past p y ys x r f inner = record {
  before = y ∷ inner.before;
  after = inner.after;
  whole = ap (λ es. y ∷ es) inner.whole;
  passes = inner.passes;
  none_after = inner.none_after;
  others = inner.others ∙ ap reverse (sym (cond-false _ (y ∷ filter p inner.before) (filter p inner.before) f));
}

split_longer : (p : LogEntry → Bool) (y : LogEntry) (ys : List LogEntry) (x : LogEntry) (r : List LogEntry) → p y ≡ true → SplitsAtLast p ys x r → SplitsAtLast p (y ∷ ys) x (r ++ y ∷ [])
split_longer p y ys x r t inner = record {
  before = y ∷ inner.before;
  after = inner.after;
  whole = ap (λ es. y ∷ es) inner.whole;
  passes = inner.passes;
  none_after = inner.none_after;
  others =
      ap (λ es. es ++ y ∷ []) inner.others ∙ sym (reverse-append (y ∷ []) (filter p inner.before))
      ∙ ap reverse (sym (cond-true _ (y ∷ filter p inner.before) (filter p inner.before) t));
}

pub split_at_last : (p : LogEntry → Bool) (xs : List LogEntry) (x : LogEntry) (r : List LogEntry) → reverse (filter p xs) ≡ x ∷ r → SplitsAtLast p xs x r
split_at_last p [] x r h = absurd (let e : ◌≡◌ {A = List LogEntry} [] (x ∷ r) = h in cc)
split_at_last p (y ∷ ys) x r h = by_head (split_at_last p ys) (p y) refl (reverse (filter p ys)) refl
  where
    reversed : p y ≡ true → (zs : List LogEntry) → reverse (filter p ys) ≡ zs → zs ++ y ∷ [] ≡ x ∷ r
    reversed t zs e =
        ap (λ es. es ++ y ∷ []) (sym e) ∙ sym (reverse-append (y ∷ []) (filter p ys)) ∙ ap reverse (sym (cond-true _ (y ∷ filter p ys) (filter p ys) t)) ∙ h

    by_head : ((x : LogEntry) (r : List LogEntry) → reverse (filter p ys) ≡ x ∷ r → SplitsAtLast p ys x r) → (b : Bool) → p y ≡ b → (zs : List LogEntry) → reverse (filter p ys) ≡ zs → SplitsAtLast p (y ∷ ys) x r
    by_head again false f zs e = split_past p y ys x r f (again x r (sym (ap reverse (cond-false _ (y ∷ filter p ys) (filter p ys) f)) ∙ h))
    by_head again true t [] e =
        let joined : ◌≡◌ {A = List LogEntry} (y ∷ []) (x ∷ r) = reversed t [] e in
        let head : y ≡ x = cc in
        let none : r ≡ [] = cc in
        record {
          before = [];
          after = ys;
          whole = ap (λ z. z ∷ ys) head;
          passes = subst (λ z. p z ≡ true) head t;
          none_after = sym (reverse-reverse (filter p ys)) ∙ ap reverse e;
          others = none;
        }
    by_head again true t (z ∷ zs) e =
        let joined : ◌≡◌ {A = List LogEntry} (z ∷ (zs ++ y ∷ [])) (x ∷ r) = reversed t (z ∷ zs) e in
        let head : z ≡ x = cc in
        let tail : zs ++ y ∷ [] ≡ r = cc in
        subst (SplitsAtLast p (y ∷ ys) x) tail (split_longer p y ys x zs t (again x zs (e ∙ ap (λ w. w ∷ zs) head)))

pub first_of_rest_is : (entries : List LogEntry) (txn : TxnId) (first : LogEntry) (others : List LogEntry) → rest_to_undo entries txn ≡ first ∷ others → IsFirstOfRest entries txn first others
unfolding rest_to_undo
first_of_rest_is entries txn first others h =
    let s = split_at_last (is_left_of entries txn) entries first others h in
    record { before = s.before; after = s.after; whole = s.whole; left = s.passes; none_after = s.none_after; are_others = s.others }

-- what a transaction's rest begins with
pub record HeadsRest (entries : List LogEntry) (txn : TxnId) (first : LogEntry) (others : List LogEntry) : Type 0 where
  pub rest : rest_to_undo entries txn ≡ first ∷ others
  pub own : is_of txn first.content ≡ true
  pub undoable : can_be_undone first.content ≡ true
  pub not_undone : is_undone entries first.number ≡ false
  pub content : content_at entries first.number ≡ Some first.content

pub HeadsRest-from : (n : ℕ) (entries : List LogEntry) (txn : TxnId) (first : LogEntry) (others : List LogEntry) → IsNumberedFrom n entries → rest_to_undo entries txn ≡ first ∷ others → HeadsRest entries txn first others
HeadsRest-from n entries txn first others numbers rest =
    let is = first_of_rest_is entries txn first others rest in
    let parts = and_parts _ _ is.left in
    let left = and_parts _ _ parts.1 in
    record {
      rest = rest;
      own = parts.0;
      undoable = left.0;
      not_undone = not-true _ left.1;
      content = ap (λ es. content_at es first.number) is.whole ∙ content_at-entry n is.before first is.after (subst (IsNumberedFrom n) is.whole numbers);
    }

-- the entry of a number that `first_number` gives
pub heads_of_number : (n : ℕ) (entries : List LogEntry) (txn : TxnId) (number : ℕ) → IsNumberedFrom n entries → first_number (rest_to_undo entries txn) ≡ Some number →
    (first : LogEntry) × (others : List LogEntry) × (first.number ≡ number) × HeadsRest entries txn first others
heads_of_number n entries txn number numbers h = by_list (rest_to_undo entries txn) refl
  where
    by_list : (es : List LogEntry) → rest_to_undo entries txn ≡ es → (first : LogEntry) × (others : List LogEntry) × (first.number ≡ number) × HeadsRest entries txn first others
    by_list [] e = absurd (let q : ◌≡◌ {A = Option ℕ} None (Some number) = sym (ap first_number e) ∙ h in cc)
    by_list (first ∷ others) e =
        let q : ◌≡◌ {A = Option ℕ} (Some first.number) (Some number) = sym (ap first_number e) ∙ h in
        (first, others, cc, HeadsRest-from n entries txn first others numbers e)

-- nothing is left where there is no first number
pub nil_of_no_number : (entries : List LogEntry) (txn : TxnId) → first_number (rest_to_undo entries txn) ≡ None → rest_to_undo entries txn ≡ []
nil_of_no_number entries txn h = by_list (rest_to_undo entries txn) refl
  where
    by_list : (es : List LogEntry) → rest_to_undo entries txn ≡ es → rest_to_undo entries txn ≡ []
    by_list [] e = e
    by_list (first ∷ others) e = absurd (let q : ◌≡◌ {A = Option ℕ} (Some first.number) None = sym (ap first_number e) ∙ h in cc)

-- a filter that keeps all numbers below, or above
kept_below : (p q : LogEntry → Bool) (n bound : ℕ) (xs : List LogEntry) → IsNumberedFrom n xs → n + length xs ≤ bound → ((x : LogEntry) → x.number < bound → q x ≡ true) → filter q (filter p xs) ≡ filter p xs
kept_below p q n bound [] h l k = refl
kept_below p q n bound (x ∷ xs) h l k =
    elim (p x) as (λ b. filter q (cond b (x ∷ filter p xs) (filter p xs)) ≡ cond b (x ∷ filter p xs) (filter p xs)) [
      | true ↦ cond-true _ _ _ (k x (omega (arith, h.0))) ∙ ap (λ es. x ∷ es) (kept_below p q (n + 1) bound xs h.1 (omega arith) k)
      | false ↦ kept_below p q (n + 1) bound xs h.1 (omega arith) k
    ]

kept_above : (p q : LogEntry → Bool) (n bound : ℕ) (xs : List LogEntry) → IsNumberedFrom n xs → bound < n → ((x : LogEntry) → bound < x.number → q x ≡ true) → filter q (filter p xs) ≡ filter p xs
kept_above p q n bound [] h l k = refl
kept_above p q n bound (x ∷ xs) h l k =
    elim (p x) as (λ b. filter q (cond b (x ∷ filter p xs) (filter p xs)) ≡ cond b (x ∷ filter p xs) (filter p xs)) [
      | true ↦ cond-true _ _ _ (k x (omega (arith, h.0))) ∙ ap (λ es. x ∷ es) (kept_above p q (n + 1) bound xs h.1 (omega arith) k)
      | false ↦ kept_above p q (n + 1) bound xs h.1 (omega arith) k
    ]

-- the undoing of a write names its number
pub undoes-undo_of : (content : LogRec) (number now k : ℕ) → can_be_undone content ≡ true → undoes k (undo_of content number now) ≡ eqb number k
undoes-undo_of (Set txn table key before old new) number now k h = refl
undoes-undo_of (Add txn table key before amount) number now k h = refl
undoes-undo_of content number now k h = absurd (false≢true h)

pub can_be_undone-undo_of : (content : LogRec) (number now : ℕ) → can_be_undone content ≡ true → can_be_undone (undo_of content number now) ≡ false
can_be_undone-undo_of (Set txn table key before old new) number now h = refl
can_be_undone-undo_of (Add txn table key before amount) number now h = refl
can_be_undone-undo_of content number now h = absurd (false≢true h)

-- a rest without the number of an entry that is not in it
pub rest-without : (entries : List LogEntry) (txn : TxnId) (n : ℕ) → IsNumberedFrom n entries → (entry : LogEntry) (before after : List LogEntry) → entries ≡ before ++ entry ∷ after → is_left_of entries txn entry ≡ false →
    filter (λ x. not (eqb entry.number x.number)) (rest_to_undo entries txn) ≡ rest_to_undo entries txn
unfolding rest_to_undo
rest-without entries txn n numbers entry before after whole skips =
    let parts = IsNumberedFrom-append n before (entry ∷ after) (subst (IsNumberedFrom n) whole numbers) in
    let q = λ (x : LogEntry). not (eqb entry.number x.number) in
    let p = is_left_of entries txn in
    let all : filter p entries ≡ filter p before ++ filter p after =
    ap (filter p) whole ∙ filter-append p before (entry ∷ after) ∙ ap (λ es. filter p before ++ es) (cond-false _ _ _ skips) in
    filter-reverse q (filter p entries)
    ∙ ap reverse (
    ap (filter q) all
    ∙ filter-append q (filter p before) (filter p after)
    ∙ ap (λ es. es ++ filter q (filter p after))
    (kept_below p q n entry.number before parts.0 (omega (arith, parts.1.0)) (λ x l. not_from_false _ (ne_eqb entry.number x.number (λ e. omega arith))))
    ∙ ap (λ es. filter p before ++ es)
    (kept_above p q (n + length before + 1) entry.number after parts.1.1 (omega (arith, parts.1.0)) (λ x l. not_from_false _ (ne_eqb entry.number x.number (λ e. omega arith))))
    ∙ sym all)

-- a rest without the number of its first
pub rest-without_first : (entries : List LogEntry) (txn : TxnId) (n : ℕ) → IsNumberedFrom n entries → (first : LogEntry) (others : List LogEntry) → rest_to_undo entries txn ≡ first ∷ others →
    filter (λ x. not (eqb first.number x.number)) (rest_to_undo entries txn) ≡ others
rest-without_first entries txn n numbers first others rest =
    let is = first_of_rest_is entries txn first others rest in
    let parts = IsNumberedFrom-append n is.before (first ∷ is.after) (subst (IsNumberedFrom n) is.whole numbers) in
    let q = λ (x : LogEntry). not (eqb first.number x.number) in
    ap (filter q) rest
    ∙ cond-false _ _ _ (not_from_true _ (eq-eqb first.number first.number refl))
    ∙ ap (filter q) is.are_others
    ∙ filter-reverse q (filter (is_left_of entries txn) is.before)
    ∙ ap reverse (kept_below (is_left_of entries txn) q n first.number is.before parts.0 (omega (arith, parts.1.0))
    (λ x l. not_from_false _ (ne_eqb first.number x.number (λ e. omega arith))))
    ∙ sym is.are_others

-- an undo step: the compensation of the first of the rest is appended
module _ (entries : List LogEntry) (n : ℕ) (numbers : IsNumberedFrom n entries) (txn : TxnId) (first : LogEntry) (others : List LogEntry)
    (rest : rest_to_undo entries txn ≡ first ∷ others) (entry : LogEntry) (now : ℕ) (is_undo : entry.content ≡ undo_of first.content first.number now) where
  undoable : can_be_undone first.content ≡ true
  undoable = (and_parts _ _ (and_parts _ _ (first_of_rest_is entries txn first others rest).left).1).0

  pub names_first : (k : ℕ) → undoes k entry.content ≡ eqb first.number k
  names_first k = ap (undoes k) is_undo ∙ undoes-undo_of first.content first.number now k undoable

  own : can_be_undone entry.content ≡ false
  own = ap can_be_undone is_undo ∙ can_be_undone-undo_of first.content first.number now undoable

  pub rest_after_undo : rest_to_undo (entries ++ entry ∷ []) txn ≡ others
  rest_after_undo = rest_to_undo_push-undo entries entry txn first.number names_first own ∙ rest-without_first entries txn n numbers first others rest

  -- the rest of another transaction stays
  pub rest_after_undo-other : (other : TxnId) → other ≢ txn → rest_to_undo (entries ++ entry ∷ []) other ≡ rest_to_undo entries other
  rest_after_undo-other other apart =
      let is = first_of_rest_is entries txn first others rest in
      let skips : is_left_of entries other first ≡ false =
      and_left _ _ (same_txn-false (txn_of first.content) other (λ e. apart (sym e ∙ same_txn-true (txn_of first.content) txn (and_parts _ _ is.left).0))) in
      rest_to_undo_push-undo entries entry other first.number names_first own
      ∙ rest-without entries other n numbers first is.before is.after is.whole skips
