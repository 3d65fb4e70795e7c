-- The open transactions of a log are listed by their first log numbers.
use Rattle.std.proofs.Common.{◌≡◌, ℕ, ◌+◌, ◌<◌, ◌≤◌, Bool, true, false, cond, ◌||◌, List, [], ◌∷◌, ◌++◌, map, refl, sym, ap, ◌∙◌, subst, inl, inr, arith}
use Rattle.std.specs.List.{filter, fold}
use Rattle.std.proofs.lemmas.Bool.{cond-true, cond-false, cases_Bool, or_left, or_right, both_ways, false_from_ne_true}
use Rattle.std.proofs.lemmas.List.{append_assoc, append-nil}
use Rattle.std.proofs.lemmas.List.Folds.{list_any-append}
use Rattle.cl_types.specs.declared.operations.TxnId.{TxnId}
use Rattle.cl_types.specs.Transactions.{same_txn}
use Rattle.cl_types.proofs.Transactions.{same_txn-true, same_txn-itself}
use Rattle.cl_log.specs.LogEntry.{LogEntry, IsNumberedFrom}
use Rattle.cl_log.specs.Kind.{txn_of, is_of}
use Rattle.cl_log.specs.Open.{is_among, is_open, chain_of, with_txn, txns_of, unended_of}

-- the transactions that these entries add to those seen
abbrev added : List TxnId → List LogEntry → List TxnId
added seen [] = []
added seen (x ∷ xs) = cond (is_among (txn_of x.content) seen) (added seen xs) (txn_of x.content ∷ added (seen ++ txn_of x.content ∷ []) xs)

fold_added : (seen : List TxnId) (xs : List LogEntry) → fold with_txn seen xs ≡ seen ++ added seen xs
fold_added seen [] = sym (append-nil seen)
fold_added seen (x ∷ xs) =
    let txn = txn_of x.content in
    elim (cases_Bool (is_among txn seen)) [
      | inl t ↦ ap (λ ts. fold with_txn ts xs) (cond-true _ _ _ t) ∙ fold_added seen xs ∙ ap (λ ts. seen ++ ts) (sym (cond-true _ _ _ t))
      | inr f ↦ ap (λ ts. fold with_txn ts xs) (cond-false _ _ _ f) ∙ fold_added (seen ++ txn ∷ []) xs
          ∙ append_assoc seen (txn ∷ []) (added (seen ++ txn ∷ []) xs) ∙ ap (λ ts. seen ++ ts) (sym (cond-false _ _ _ f))
    ]

-- none that was seen is added
added-new : (txn : TxnId) (seen : List TxnId) (xs : List LogEntry) → is_among txn seen ≡ true → is_among txn (added seen xs) ≡ false
added-new txn seen [] h = refl
added-new txn seen (x ∷ xs) h =
    elim (cases_Bool (is_among (txn_of x.content) seen)) [
      | inl t ↦ ap (is_among txn) (cond-true _ _ _ t) ∙ added-new txn seen xs h
      | inr f ↦ ap (is_among txn) (cond-false _ _ _ f)
          ∙ ap (λ b. b || is_among txn (added (seen ++ txn_of x.content ∷ []) xs))
          (false_from_ne_true _ (λ same. both_ways _ f (ap (λ t. is_among t seen) (sym (same_txn-true txn (txn_of x.content) same)) ∙ h)))
          ∙ added-new txn (seen ++ txn_of x.content ∷ []) xs (list_any-append (same_txn txn) seen (txn_of x.content ∷ []) ∙ or_left _ _ h)
    ]

-- one that stands in a list is among it
among_here : (front : List TxnId) (a : TxnId) (back : List TxnId) → is_among a (front ++ a ∷ back) ≡ true
among_here front a back = list_any-append (same_txn a) front (a ∷ back) ∙ or_right _ _ (or_left _ _ (same_txn-itself a))

among_later : (front middle : List TxnId) (a b : TxnId) (back : List TxnId) → is_among b (front ++ a ∷ (middle ++ b ∷ back)) ≡ true
among_later front middle a b back = list_any-append (same_txn b) front (a ∷ (middle ++ b ∷ back)) ∙ or_right _ _ (or_right _ _ (among_here middle b back))

-- the numbers of a transaction's records, by the first entry
chain-own : (txn : TxnId) (x : LogEntry) (xs : List LogEntry) → is_of txn x.content ≡ true → chain_of (x ∷ xs) txn ≡ x.number ∷ chain_of xs txn
unfolding chain_of
chain-own txn x xs t = ap (map (λ (e : LogEntry). e.number)) (cond-true _ _ _ t)

chain-other : (txn : TxnId) (x : LogEntry) (xs : List LogEntry) → is_of txn x.content ≡ false → chain_of (x ∷ xs) txn ≡ chain_of xs txn
unfolding chain_of
chain-other txn x xs f = ap (map (λ (e : LogEntry). e.number)) (cond-false _ _ _ f)

chain-nil : (txn : TxnId) → chain_of [] txn ≡ []
unfolding chain_of
chain-nil txn = refl

-- none of them is below the first number
chain_from : (n : ℕ) (xs : List LogEntry) (txn : TxnId) (i : ℕ) (is : List ℕ) → IsNumberedFrom n xs → chain_of xs txn ≡ i ∷ is → n ≤ i
chain_from n [] txn i is h e = absurd (no_number (sym (chain-nil txn) ∙ e))
  where
    no_number : ◌≡◌ {A = List ℕ} [] (i ∷ is) → ⊥
    no_number e = cc
chain_from n (x ∷ xs) txn i is h e =
    elim (cases_Bool (is_of txn x.content)) [
      | inl t ↦ (let heads : x.number ∷ chain_of xs txn ≡ i ∷ is = sym (chain-own txn x xs t) ∙ e in
          let head : x.number ≡ i = cc in omega (arith, head, h.0))
      | inr f ↦ (let rest = chain_from (n + 1) xs txn i is h.1 (sym (chain-other txn x xs f) ∙ e) in omega (arith, rest))
    ]

-- of two that are added, the one that comes first has the lesser first number
added_by_first : (seen : List TxnId) (n : ℕ) (xs : List LogEntry) (front middle back : List TxnId) (a b : TxnId) (i j : ℕ) (is js : List ℕ) → IsNumberedFrom n xs →
    added seen xs ≡ front ++ a ∷ (middle ++ b ∷ back) → chain_of xs a ≡ i ∷ is → chain_of xs b ≡ j ∷ js → i < j
added_by_first seen n [] front middle back a b i j is js h e ca cb = absurd (both_ways _ refl (ap (is_among a) e ∙ among_here front a (middle ++ b ∷ back)))
added_by_first seen n (x ∷ xs) front middle back a b i j is js h e ca cb =
    elim (cases_Bool (is_among txn seen)) [
      | inl t ↦
          let same : added seen xs ≡ front ++ a ∷ (middle ++ b ∷ back) = sym (cond-true _ _ _ t) ∙ e in
          added_by_first seen (n + 1) xs front middle back a b i j is js h.1 same
          (sym (chain-other a x xs (apart seen t a (ap (is_among a) same ∙ among_here front a (middle ++ b ∷ back)))) ∙ ca)
          (sym (chain-other b x xs (apart seen t b (ap (is_among b) same ∙ among_later front middle a b back))) ∙ cb)
      | inr f ↦ new (λ ys. added_by_first (seen ++ txn ∷ []) (n + 1) xs ys middle back a b i j is js h.1) front (sym (cond-false _ _ _ f) ∙ e)
    ]
  where
    txn : TxnId
    txn = txn_of x.content

    -- a transaction that comes later is another than one seen
    apart : (seen : List TxnId) → is_among txn seen ≡ true → (other : TxnId) → is_among other (added seen xs) ≡ true → is_of other x.content ≡ false
    apart seen t other later = false_from_ne_true _ (λ same. both_ways _ (added-new other seen xs (ap (λ u. is_among u seen) (sym (same_txn-true txn other same)) ∙ t)) later)

    seen_now : is_among txn (seen ++ txn ∷ []) ≡ true
    seen_now = among_here seen txn []

    new : ((ys : List TxnId) → added (seen ++ txn ∷ []) xs ≡ ys ++ a ∷ (middle ++ b ∷ back) → chain_of xs a ≡ i ∷ is → chain_of xs b ≡ j ∷ js → i < j) →
        (front : List TxnId) → txn ∷ added (seen ++ txn ∷ []) xs ≡ front ++ a ∷ (middle ++ b ∷ back) → i < j
    new again [] e =
        let head : txn ≡ a = cc in
        let rest : added (seen ++ txn ∷ []) xs ≡ middle ++ b ∷ back = cc in
        let own : is_of a x.content ≡ true = subst (λ u. same_txn txn u ≡ true) head (same_txn-itself txn) in
        let firsts : x.number ∷ chain_of xs a ≡ i ∷ is = sym (chain-own a x xs own) ∙ ca in
        let first : x.number ≡ i = cc in
        let later = chain_from (n + 1) xs b j js h.1 (sym (chain-other b x xs (apart (seen ++ txn ∷ []) seen_now b (ap (is_among b) rest ∙ among_here middle b back))) ∙ cb) in
        omega (arith, first, later, h.0)
    new again (y ∷ ys) e =
        let rest : added (seen ++ txn ∷ []) xs ≡ ys ++ a ∷ (middle ++ b ∷ back) = cc in
        again ys rest
        (sym (chain-other a x xs (apart (seen ++ txn ∷ []) seen_now a (ap (is_among a) rest ∙ among_here ys a (middle ++ b ∷ back)))) ∙ ca)
        (sym (chain-other b x xs (apart (seen ++ txn ∷ []) seen_now b (ap (is_among b) rest ∙ among_later ys middle a b back))) ∙ cb)

-- what stands among those that pass a test stands among all
filter_at : (p : TxnId → Bool) (xs front : List TxnId) (a : TxnId) (back : List TxnId) → filter p xs ≡ front ++ a ∷ back →
    (front_all : List TxnId) × (back_all : List TxnId) × (xs ≡ front_all ++ a ∷ back_all) × (filter p back_all ≡ back)
filter_at p [] front a back e = absurd (both_ways _ refl (ap (is_among a) e ∙ among_here front a back))
filter_at p (x ∷ xs) front a back e =
    elim (cases_Bool (p x)) [
      | inl t ↦ kept (λ ys. filter_at p xs ys a back) front (sym (cond-true _ _ _ t) ∙ e)
      | inr f ↦ more (filter_at p xs front a back (sym (cond-false _ _ _ f) ∙ e))
    ]
  where
    more : (front_all : List TxnId) × (back_all : List TxnId) × (xs ≡ front_all ++ a ∷ back_all) × (filter p back_all ≡ back) →
        (front_all : List TxnId) × (back_all : List TxnId) × (x ∷ xs ≡ front_all ++ a ∷ back_all) × (filter p back_all ≡ back)
    more (front_all, back_all, whole, rest) = (x ∷ front_all, back_all, ap (λ ys. x ∷ ys) whole, rest)

    kept : ((ys : List TxnId) → filter p xs ≡ ys ++ a ∷ back → (front_all : List TxnId) × (back_all : List TxnId) × (xs ≡ front_all ++ a ∷ back_all) × (filter p back_all ≡ back)) →
        (front : List TxnId) → x ∷ filter p xs ≡ front ++ a ∷ back →
        (front_all : List TxnId) × (back_all : List TxnId) × (x ∷ xs ≡ front_all ++ a ∷ back_all) × (filter p back_all ≡ back)
    kept again [] e = ([], xs, (let head : x ≡ a = cc in ap (λ y. y ∷ xs) head), cc)
    kept again (y ∷ ys) e = more (again ys cc)

pub unended_by_first_number : (entries : List LogEntry) (n : ℕ) (front middle back : List TxnId) (a b : TxnId) (i j : ℕ) (is js : List ℕ) → IsNumberedFrom n entries →
    unended_of entries ≡ front ++ a ∷ (middle ++ b ∷ back) → chain_of entries a ≡ i ∷ is → chain_of entries b ≡ j ∷ js → i < j
unfolding unended_of txns_of
unended_by_first_number entries n front middle back a b i j is js h e ca cb =
    let (front_all, back_all, whole, rest) = filter_at (is_open entries) (fold with_txn [] entries) front a (middle ++ b ∷ back) e in
    let (middle_all, last, more, _) = filter_at (is_open entries) back_all middle b back rest in
    added_by_first [] n entries front_all middle_all last a b i j is js h
    (sym (fold_added [] entries) ∙ whole ∙ ap (λ ts. front_all ++ a ∷ ts) more) ca cb
