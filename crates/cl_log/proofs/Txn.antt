-- Transactions among others.
use Rattle.std.proofs.Common.{◌≡◌, Bool, true, false, not, ◌&&◌, ◌||◌, cond, List, [], ◌∷◌, ◌++◌, refl, sym, ap, ◌∙◌, subst, inl, inr}
use Rattle.std.specs.List.{filter}
use Rattle.std.proofs.lemmas.List.{append-nil}
use Rattle.std.proofs.lemmas.List.Elements.{filter-append}
use Rattle.std.proofs.lemmas.Bool.{cases_Bool, both_ways}
use Rattle.cl_types.specs.declared.operations.TxnId.{TxnId}
use Rattle.cl_types.specs.Transactions.{same_txn}
use Rattle.cl_types.proofs.Transactions.{same_txn-false}
use Rattle.cl_log.specs.Open.{is_among}

-- a transaction that passes a test is among those that pass where it is among all
pub is_among-filter : (p : TxnId → Bool) (txn : TxnId) (txns : List TxnId) → p txn ≡ true → is_among txn (filter p txns) ≡ is_among txn txns
is_among-filter p txn [] h = refl
is_among-filter p txn (x ∷ xs) h =
    elim (cases_Bool (p x)) [
      | inl t ↦ ap (λ b. is_among txn (cond b (x ∷ filter p xs) (filter p xs))) t ∙ ap (λ b. same_txn txn x || b) (is_among-filter p txn xs h)
      | inr f ↦ ap (λ b. is_among txn (cond b (x ∷ filter p xs) (filter p xs))) f ∙ is_among-filter p txn xs h
          ∙ ap (λ b. b || is_among txn xs) (sym (same_txn-false txn x (λ e. both_ways _ f (subst (λ y. p y ≡ true) e h))))
    ]

-- those that pass a test, with one more transaction where it is new
pub filter_with_txn : (p : TxnId → Bool) (txns : List TxnId) (txn : TxnId) →
    filter p (cond (is_among txn txns) txns (txns ++ txn ∷ [])) ≡ cond (p txn && not (is_among txn (filter p txns))) (filter p txns ++ txn ∷ []) (filter p txns)
filter_with_txn p txns txn =
    elim (cases_Bool (p txn)) [
      | inl t ↦ by_old p txns txn t (is_among txn txns) (is_among-filter p txn txns t)
          ∙ ap (λ b. cond (b && not (is_among txn (filter p txns))) (filter p txns ++ txn ∷ []) (filter p txns)) (sym t)
      | inr f ↦ by_closed p txns txn f (is_among txn txns)
          ∙ ap (λ b. cond (b && not (is_among txn (filter p txns))) (filter p txns ++ txn ∷ []) (filter p txns)) (sym f)
    ]
  where
    by_old : (p : TxnId → Bool) (txns : List TxnId) (txn : TxnId) → p txn ≡ true → (b : Bool) → is_among txn (filter p txns) ≡ b →
        filter p (cond b txns (txns ++ txn ∷ [])) ≡ cond (not (is_among txn (filter p txns))) (filter p txns ++ txn ∷ []) (filter p txns)
    by_old p txns txn t true e = ap (λ b. cond (not b) (filter p txns ++ txn ∷ []) (filter p txns)) (sym e)
    by_old p txns txn t false e =
        filter-append p txns (txn ∷ []) ∙ ap (λ b. filter p txns ++ cond b (txn ∷ []) []) t
        ∙ ap (λ b. cond (not b) (filter p txns ++ txn ∷ []) (filter p txns)) (sym e)

    by_closed : (p : TxnId → Bool) (txns : List TxnId) (txn : TxnId) → p txn ≡ false → (b : Bool) → filter p (cond b txns (txns ++ txn ∷ [])) ≡ filter p txns
    by_closed p txns txn f true = refl
    by_closed p txns txn f false = filter-append p txns (txn ∷ []) ∙ ap (λ b. filter p txns ++ cond b (txn ∷ []) []) f ∙ append-nil (filter p txns)
