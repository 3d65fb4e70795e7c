-- Lists of things that are named after transactions.
use Rattle.std.proofs.Common.{◌≡◌, Bool, true, false, cond, List, [], ◌∷◌, map, filter, All, ap}
use Rattle.std.specs.Cmp.{IsEquivalence}
use Rattle.std.specs.List.{IsDistinct, AllByRecursion}
use Rattle.std.proofs.lemmas.Map.Keys.{IsDistinct-head, IsDistinct-tail, IsDistinct-cons}
use Rattle.std.proofs.lemmas.List.Elements.{All-head, All-tail}
use Rattle.cl_types.specs.declared.operations.TxnId.{TxnId}
use Rattle.cl_types.specs.Transactions.{same_txn}
use Rattle.cl_types.proofs.Transactions.{same_txn-true, same_txn-itself, same_txn-symmetric}

-- names are the same as they are equal
pub same_txn-equivalence : IsEquivalence same_txn
same_txn-equivalence = record {
  refl = same_txn-itself;
  symm = same_txn-symmetric;
  congr = λ x y z e. ap (λ t. same_txn t z) (same_txn-true x y e);
}

-- no name is this one
abbrev pub IsNone : TxnId → List TxnId → Type 0
IsNone txn txns = AllByRecursion (λ name. same_txn txn name ≡ false) txns

module _ {X : Type 0} (name : X → TxnId) where
  -- a name that none has stays so in a filter
  none-filter : (txn : TxnId) (p : X → Bool) (xs : List X) → IsNone txn (map name xs) → IsNone txn (map name (filter p xs))
  none-filter txn p [] h = h
  none-filter txn p (x ∷ xs) h = by (none-filter txn p xs h.1) (p x)
    where
      by : IsNone txn (map name (filter p xs)) → (b : Bool) → IsNone txn (map name (cond b (x ∷ filter p xs) (filter p xs)))
      by rest true = (h.0, rest)
      by rest false = rest

  -- names that differ stay so in a filter
  pub IsDistinct-filter : (p : X → Bool) (xs : List X) → IsDistinct same_txn (map name xs) → IsDistinct same_txn (map name (filter p xs))
  IsDistinct-filter p [] h = h
  IsDistinct-filter p (x ∷ xs) h = by (IsDistinct-filter p xs (IsDistinct-tail _ _ _ h)) (p x)
    where
      by : IsDistinct same_txn (map name (filter p xs)) → (b : Bool) → IsDistinct same_txn (map name (cond b (x ∷ filter p xs) (filter p xs)))
      by rest true = IsDistinct-cons _ _ _ (none-filter (name x) p xs (IsDistinct-head _ _ _ h)) rest
      by rest false = rest

  -- where each is apart from the name, none has it
  pub none-from_all : (txn : TxnId) (xs : List X) → All (λ x. same_txn txn (name x) ≡ false) xs → IsNone txn (map name xs)
  none-from_all txn [] h = tt
  none-from_all txn (x ∷ xs) h =
      let apart : X → Type 0 = λ y. same_txn txn (name y) ≡ false in
      (All-head apart x xs h, none-from_all txn xs (All-tail apart x xs h))
