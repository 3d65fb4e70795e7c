-- The open transactions of a log are those that are listed, each once.
use Rattle.std.proofs.Common.{◌≡◌, Bool, true, false, cond, ◌&&◌, ◌||◌, List, [], ◌∷◌, refl, sym, ap, ◌∙◌, subst, inl, inr}
use Rattle.std.specs.Cmp.{IsEquivalence}
use Rattle.std.specs.List.{IsDistinct, AllByRecursion, list_any, filter, fold}
use Rattle.std.proofs.lemmas.Bool.{cond-true, cond-false, cases_Bool, and_parts, or_left, or_right, both_ways, false_from_ne_true}
use Rattle.std.proofs.lemmas.Map.Keys.{IsDistinct-push}
use Rattle.cl_types.specs.declared.operations.TxnId.{TxnId}
use Rattle.cl_types.proofs.Transactions.{same_txn-true, same_txn-itself, same_txn-symmetric}
use Rattle.cl_types.specs.Transactions.{same_txn}
use Rattle.cl_log.specs.LogEntry.{LogEntry}
use Rattle.cl_log.specs.Kind.{txn_of, is_of, opens}
use Rattle.cl_log.specs.Open.{is_among, has_begun, is_open, with_txn, txns_of, unended_of}
use Rattle.cl_log.proofs.Open.{or_false}
use Rattle.cl_log.proofs.Txn.{is_among-filter}
use Rattle.std.proofs.lemmas.List.Folds.{list_any-append}

-- the names of transactions compare as numbers do
pub same_txn_equivalence : IsEquivalence same_txn
same_txn_equivalence = record {
  refl = same_txn-itself;
  symm = same_txn-symmetric;
  congr = λ x y z t. subst (λ w. same_txn x z ≡ same_txn w z) (same_txn-true x y t) refl;
}

-- with one more transaction, where it is new
is_among-with_txn : (txn : TxnId) (txns : List TxnId) (entry : LogEntry) → is_among txn (with_txn txns entry) ≡ (is_among txn txns || is_of txn entry.content)
is_among-with_txn txn txns entry = by_new (is_among (txn_of entry.content) txns) refl
  where
    by_new : (b : Bool) → is_among (txn_of entry.content) txns ≡ b → is_among txn (with_txn txns entry) ≡ (is_among txn txns || is_of txn entry.content)
    by_new true t =
        ap (is_among txn) (cond-true _ _ _ t)
        ∙ (elim (cases_Bool (is_of txn entry.content)) [
          | inl same ↦ (let there : is_among txn txns ≡ true = ap (λ x. is_among x txns) (sym (same_txn-true (txn_of entry.content) txn same)) ∙ t in there ∙ sym (or_left _ _ there))
          | inr other ↦ sym (ap (λ b. is_among txn txns || b) other ∙ or_false _)
        ])
    by_new false f =
        ap (is_among txn) (cond-false _ _ _ f)
        ∙ list_any-append (same_txn txn) txns (txn_of entry.content ∷ [])
        ∙ ap (λ b. is_among txn txns || b) (or_false _ ∙ same_txn-symmetric txn (txn_of entry.content))

is_among-fold : (txn : TxnId) (txns : List TxnId) (entries : List LogEntry) → is_among txn (fold with_txn txns entries) ≡ (is_among txn txns || list_any (λ entry. is_of txn entry.content) entries)
is_among-fold txn txns [] = sym (or_false _)
is_among-fold txn txns (x ∷ xs) =
    is_among-fold txn (with_txn txns x) xs
    ∙ ap (λ b. b || list_any (λ entry. is_of txn entry.content) xs) (is_among-with_txn txn txns x)
    ∙ regroup (is_among txn txns) (is_of txn x.content) (list_any (λ entry. is_of txn entry.content) xs)
  where
    regroup : (a b c : Bool) → ((a || b) || c) ≡ (a || (b || c))
    regroup true b c = refl
    regroup false b c = refl

pub is_among-txns_of : (entries : List LogEntry) (txn : TxnId) → is_among txn (txns_of entries) ≡ list_any (λ entry. is_of txn entry.content) entries
unfolding txns_of
is_among-txns_of entries txn = is_among-fold txn [] entries

-- a transaction that has begun has records
begun_has_records : (entries : List LogEntry) (txn : TxnId) → has_begun entries txn ≡ true → list_any (λ entry. is_of txn entry.content) entries ≡ true
unfolding has_begun
begun_has_records [] txn h = h
begun_has_records (x ∷ xs) txn h =
    elim (cases_Bool (is_of txn x.content)) [
      | inl t ↦ or_left _ _ t
      | inr f ↦ or_right _ _ (begun_has_records xs txn (sym (ap (λ b. (b && opens x.content) || list_any (λ entry. is_of txn entry.content && opens entry.content) xs) f) ∙ h))
    ]

-- one that fails is not among those that pass
is_among-filter_out : (p : TxnId → Bool) (txn : TxnId) (txns : List TxnId) → p txn ≡ false → is_among txn (filter p txns) ≡ false
is_among-filter_out p txn [] h = refl
is_among-filter_out p txn (x ∷ xs) h =
    elim (cases_Bool (p x)) [
      | inl t ↦ ap (is_among txn) (cond-true _ (x ∷ filter p xs) (filter p xs) t)
          ∙ ap (λ b. b || is_among txn (filter p xs)) (false_from_ne_true _ (λ same. both_ways _ h (ap p (same_txn-true txn x same) ∙ t)))
          ∙ is_among-filter_out p txn xs h
      | inr f ↦ ap (is_among txn) (cond-false _ (x ∷ filter p xs) (filter p xs) f) ∙ is_among-filter_out p txn xs h
    ]

-- a transaction is listed exactly where it is open
pub is_among-unended_of : (entries : List LogEntry) (txn : TxnId) → is_among txn (unended_of entries) ≡ is_open entries txn
unfolding unended_of
is_among-unended_of entries txn =
    elim (cases_Bool (is_open entries txn)) [
      | inl t ↦ is_among-filter (is_open entries) txn (txns_of entries) t ∙ is_among-txns_of entries txn ∙ begun_has_records entries txn (and_parts _ _ t).0 ∙ sym t
      | inr f ↦ is_among-filter_out (is_open entries) txn (txns_of entries) f ∙ sym f
    ]

-- each transaction is listed once
distinct_fold : (txns : List TxnId) (entries : List LogEntry) → IsDistinct same_txn txns → IsDistinct same_txn (fold with_txn txns entries)
distinct_fold txns [] h = h
distinct_fold txns (x ∷ xs) h = distinct_fold (with_txn txns x) xs (by_new (is_among (txn_of x.content) txns) refl)
  where
    by_new : (b : Bool) → is_among (txn_of x.content) txns ≡ b → IsDistinct same_txn (with_txn txns x)
    by_new true t = subst (IsDistinct same_txn) (sym (cond-true _ _ _ t)) h
    by_new false f = subst (IsDistinct same_txn) (sym (cond-false _ _ _ f)) (IsDistinct-push same_txn_equivalence txns (txn_of x.content) h f)

kept_apart : (p : TxnId → Bool) (x : TxnId) (xs : List TxnId) → AllByRecursion (λ y. same_txn x y ≡ false) xs → AllByRecursion (λ y. same_txn x y ≡ false) (filter p xs)
kept_apart p x [] h = h
kept_apart p x (y ∷ ys) h =
    elim (p y) as (λ b. AllByRecursion (λ z. same_txn x z ≡ false) (cond b (y ∷ filter p ys) (filter p ys)))
    [ true ↦ (h.0, kept_apart p x ys h.1) | false ↦ kept_apart p x ys h.1 ]

distinct_filter : (p : TxnId → Bool) (xs : List TxnId) → IsDistinct same_txn xs → IsDistinct same_txn (filter p xs)
unfolding IsDistinct
distinct_filter p [] h = h
distinct_filter p (x ∷ xs) h =
    elim (p x) as (λ b. IsDistinct same_txn (cond b (x ∷ filter p xs) (filter p xs)))
    [ true ↦ (kept_apart p x xs h.0, distinct_filter p xs h.1) | false ↦ distinct_filter p xs h.1 ]

distinct_none : IsDistinct same_txn []
unfolding IsDistinct
distinct_none = tt

pub IsDistinct-unended_of : (entries : List LogEntry) → IsDistinct same_txn (unended_of entries)
unfolding unended_of txns_of
IsDistinct-unended_of entries = distinct_filter (is_open entries) (fold with_txn [] entries) (distinct_fold [] entries distinct_none)
