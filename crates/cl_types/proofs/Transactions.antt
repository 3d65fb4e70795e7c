-- Names of transactions that are the same.
use Rattle.std.proofs.Common.{◌≡◌, ◌≢◌, ℕ, true, false, refl, sym, ap, ◌∙◌, subst, inl, inr}
use Rattle.std.proofs.lemmas.Bool.{and_parts, and_from, eqb-true, eq-eqb, false_from_ne_true, cases_Bool, both_ways}
use Rattle.cl_types.specs.declared.operations.TxnId.{TxnId}
use Rattle.cl_types.specs.Transactions.{same_txn}

pub same_txn-true : (a b : TxnId) → same_txn a b ≡ true → a ≡ b
same_txn-true a b h =
    let p = and_parts _ _ h in
    let of : ℕ → ℕ → TxnId = λ session number. record { session = session; number = number } in
    ap (λ session. of session a.number) (eqb-true a.session b.session p.0)
    ∙ ap (λ number. of b.session number) (eqb-true a.number b.number p.1)

pub same_txn-itself : (a : TxnId) → same_txn a a ≡ true
same_txn-itself a = and_from _ _ (eq-eqb a.session a.session refl) (eq-eqb a.number a.number refl)

pub same_txn-false : (a b : TxnId) → a ≢ b → same_txn a b ≡ false
same_txn-false a b h = false_from_ne_true _ (λ t. h (same_txn-true a b t))

pub same_txn-symmetric : (a b : TxnId) → same_txn a b ≡ same_txn b a
same_txn-symmetric a b =
    elim (cases_Bool (same_txn a b)) [
      | inl t ↦ (let e = same_txn-true a b t in subst (λ x. same_txn a x ≡ same_txn x a) e refl)
      | inr f ↦ f ∙ sym (false_from_ne_true _ (λ t. both_ways _ f (let e = same_txn-true b a t in subst (λ x. same_txn x b ≡ true) e (same_txn-itself b))))
    ]
