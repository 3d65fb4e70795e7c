-- The first unfit member of a history, sought from its end.
use Rattle.std.proofs.Common.{◌≡◌, ℕ, ◌+◌, ◌<◌, ◌≤◌, inl, inr, Bool, true, false, cond, List, length, Option, Some, None, MatchOption, refl, sym, ap, ◌∙◌, subst, arith}
use Rattle.std.specs.declared.cmp.Ordering.{Ordering}
use Rattle.std.specs.declared.cmp.Ordering.TheVariants.{Less, Equal, Greater}
use Rattle.std.specs.Ordering.{nat_cmp, ordering_then, is_eq}
use Rattle.std.specs.BTreeMap.{is_at}
use Rattle.std.specs.BTreeSet.{BTreeSet, contains}
use Rattle.std.proofs.lemmas.Bool.{cases_eq, cases_lt}
use Rattle.std.proofs.lemmas.Map.Lookups.{CmpEqualImpliesEq, exact_pairs, exact_unsigned}
use Rattle.cl_types.specs.declared.operations.TxnId.{TxnId}
use Rattle.cl_serial.specs.Serial.{StandsAt}
use Rattle.cl_serial.specs.Verdict.{Commands, HasCommit, StandsAgain, IsUnfit, FirstUnfit, AreFit}

-- the order of transactions: by session, and then by number
abbrev pub txn_cmp : TxnId → TxnId → Ordering
txn_cmp a b = ordering_then (nat_cmp a.session b.session) (nat_cmp a.number b.number)

-- the member at this index does not stand again, and has COMMIT
pub record FitAt (commands : Commands) (list : List TxnId) (index : ℕ) (name : TxnId) : Type 0 where
  pub alone : StandsAgain list index name → ⊥
  pub commits : HasCommit (commands name)

-- each member from this index on is fit
abbrev pub FitFrom : Commands → List TxnId → ℕ → Type 0
FitFrom commands list from = (i : ℕ) (name : TxnId) → from ≤ i → StandsAt list i name → FitAt commands list i name

-- the first unfit member from this index on
pub record UnfitFrom (commands : Commands) (list : List TxnId) (from : ℕ) (name : TxnId) : Type 0 where
  pub index : ℕ
  pub within : from ≤ index
  pub stands : StandsAt list index name
  pub unfit : IsUnfit commands list index name
  pub before : (i : ℕ) (other : TxnId) → from ≤ i → i < index → StandsAt list i other → FitAt commands list i other

-- what was found from this index on
abbrev pub FoundFrom : Commands → List TxnId → ℕ → Option TxnId → Type 0
FoundFrom commands list from None = FitFrom commands list from
FoundFrom commands list from (Some name) = UnfitFrom commands list from name

-- the set has the members from this index on
pub record Met (list : List TxnId) (from : ℕ) (set : BTreeSet TxnId) : Type 0 where
  pub stand : (name : TxnId) → contains txn_cmp set name ≡ true → (later : ℕ) × (from ≤ later) × StandsAt list later name
  pub are_met : (name : TxnId) (i : ℕ) → from ≤ i → StandsAt list i name → contains txn_cmp set name ≡ true

-- what the search keeps
pub record Keeps (commands : Commands) (list : List TxnId) (from : ℕ) (set : BTreeSet TxnId) (found : Option TxnId) : Type 0 where
  pub within : from ≤ length list
  pub met : Met list from set
  pub first : FoundFrom commands list from found

-- a fit member is not unfit
fit-not-unfit : (commands : Commands) (list : List TxnId) (i : ℕ) (name : TxnId) → FitAt commands list i name → IsUnfit commands list i name → ⊥
fit-not-unfit commands list i name fit (inl again) = fit.alone again
fit-not-unfit commands list i name fit (inr lacks) = lacks fit.commits

-- an unfit member is the first from its index on
pub unfit_here : (commands : Commands) (list : List TxnId) (k : ℕ) (name : TxnId) → StandsAt list k name → IsUnfit commands list k name → UnfitFrom commands list k name
unfit_here commands list k name stands unfit = record {
  index = k;
  within = omega arith;
  stands = stands;
  unfit = unfit;
  before = λ i other from below. absurd (omega arith);
}

one_member : (list : List TxnId) (k : ℕ) (x y : TxnId) → StandsAt list k x → StandsAt list k y → x ≡ y
one_member list k x y h g = cc

at_or_behind : (commands : Commands) (list : List TxnId) (k i : ℕ) (x y : TxnId) → StandsAt list k x → FitAt commands list k x → (k + 1 ≤ i → FitAt commands list i y) → k ≤ i → StandsAt list i y → FitAt commands list i y
at_or_behind commands list k i x y stands fit behind from at_i =
    elim (cases_eq k i) [
      | inl same ↦
          let P : ℕ → Type 0 = λ j. FitAt commands list j y in
          let at_k : StandsAt list k y = subst (λ (j : ℕ). StandsAt list j y) (sym same) at_i in
          subst P same (subst (λ (z : TxnId). FitAt commands list k z) (one_member list k x y stands at_k) fit)
      | inr apart ↦ behind (omega arith)
    ]

-- a fit member changes nothing of what was found behind it
pub fit_here : (commands : Commands) (list : List TxnId) (k from : ℕ) (name : TxnId) (found : Option TxnId) → from ≡ k + 1 → StandsAt list k name → FitAt commands list k name → FoundFrom commands list from found → FoundFrom commands list k found
fit_here commands list k from name None is stands fit behind = λ i other at_least at_i. at_or_behind commands list k i name other stands fit (λ h. behind i other (omega arith) at_i) at_least at_i
fit_here commands list k from name (Some unfit) is stands fit behind = record {
  index = behind.index;
  within = let h : from ≤ behind.index = behind.within in omega arith;
  stands = behind.stands;
  unfit = behind.unfit;
  before = λ i other at_least below at_i. at_or_behind commands list k i name other stands fit (λ h. behind.before i other (omega arith) below at_i) at_least at_i;
}

distinct_from : (commands : Commands) (list : List TxnId) → FitFrom commands list 0 → (i j : ℕ) (name : TxnId) → StandsAt list i name → StandsAt list j name → i ≡ j
distinct_from commands list fit i j name at_i at_j =
    elim (cases_eq i j) [
      | inl same ↦ same
      | inr apart ↦ elim (cases_lt i j) [
        | inl less ↦ absurd ((fit i name (omega arith) at_i).alone (j, less, at_j))
        | inr more ↦ absurd ((fit j name (omega arith) at_j).alone (i, omega arith, at_i))
      ]
    ]

-- what was found from the first member on
pub found_first : (commands : Commands) (list : List TxnId) (found : Option TxnId) → FoundFrom commands list 0 found → MatchOption found (AreFit commands list) (λ name. FirstUnfit commands list name)
found_first commands list None fit = record {
  distinct = distinct_from commands list fit;
  committing = λ name is_in. (fit is_in.0 name (omega arith) is_in.1).commits;
}
found_first commands list (Some name) first = record {
  index = first.index;
  stands = first.stands;
  unfit = first.unfit;
  before = λ i other below at_i. fit-not-unfit commands list i other (first.before i other (omega arith) below at_i);
}

-- transactions that compare equal are one
txn_cmp_exact : CmpEqualImpliesEq txn_cmp
txn_cmp_exact a b tie =
    ap (λ (p : ℕ × ℕ). let name : TxnId = record { session = p.0; number = p.1 } in name)
    (exact_pairs nat_cmp nat_cmp exact_unsigned exact_unsigned (a.session, a.number) (b.session, b.number) tie)

equal_from : (order : Ordering) → is_eq order ≡ true → order ≡ Equal
equal_from Less h = absurd (cc)
equal_from Equal h = refl
equal_from Greater h = absurd (cc)

-- one more member, at the index before
met_stand : (list : List TxnId) (k from : ℕ) (name q : TxnId) (old new : BTreeSet TxnId) → from ≡ k + 1 → StandsAt list k name → Met list from old
    → (test : Bool) → is_at (txn_cmp name) q ≡ test → contains txn_cmp new q ≡ cond test true (contains txn_cmp old q) → contains txn_cmp new q ≡ true → (later : ℕ) × (k ≤ later) × StandsAt list later q
met_stand list k from name q old new is stands met true at_name step has =
    (k, omega arith, subst (λ (x : TxnId). StandsAt list k x) (txn_cmp_exact name q (equal_from (txn_cmp name q) at_name)) stands)
met_stand list k from name q old new is stands met false apart step has =
    let before : (later : ℕ) × (from ≤ later) × StandsAt list later q = met.stand q (sym step ∙ has) in
    (before.0, omega arith, before.2)

kept_true : (test found : Bool) → found ≡ true → cond test true found ≡ true
kept_true true found h = refl
kept_true false found h = h

pub met_step : (list : List TxnId) (k from : ℕ) (name : TxnId) (old new : BTreeSet TxnId) → from ≡ k + 1 → StandsAt list k name → Met list from old
    → ((q : TxnId) → contains txn_cmp new q ≡ cond (is_at (txn_cmp name) q) true (contains txn_cmp old q)) → contains txn_cmp new name ≡ true → Met list k new
met_step list k from name old new is stands met step here = record {
  stand = λ q has. met_stand list k from name q old new is stands met (is_at (txn_cmp name) q) refl (step q) has;
  are_met = λ q i at_least at_i. elim (cases_eq k i) [
    | inl same ↦
        let at_k : StandsAt list k q = subst (λ (j : ℕ). StandsAt list j q) (sym same) at_i in
        subst (λ (x : TxnId). contains txn_cmp new x ≡ true) (one_member list k name q stands at_k) here
    | inr apart ↦ step q ∙ kept_true (is_at (txn_cmp name) q) (contains txn_cmp old q) (met.are_met q i (omega arith) at_i)
  ];
}

-- a member that was met stands again, and another stands alone
pub again_where_met : (list : List TxnId) (k from : ℕ) (name : TxnId) (set : BTreeSet TxnId) → from ≡ k + 1 → Met list from set → contains txn_cmp set name ≡ true → StandsAgain list k name
again_where_met list k from name set is met has =
    let later : (later : ℕ) × (from ≤ later) × StandsAt list later name = met.stand name has in
    (later.0, omega arith, later.2)

pub alone_where_new : (list : List TxnId) (k from : ℕ) (name : TxnId) (set : BTreeSet TxnId) → from ≡ k + 1 → Met list from set → contains txn_cmp set name ≡ false → StandsAgain list k name → ⊥
alone_where_new list k from name set is met lacks again =
    let has : contains txn_cmp set name ≡ true = met.are_met name again.0 (omega arith) again.2 in cc

-- the member before the index is unfit, and so the first one
pub keeps_unfit : (commands : Commands) (list : List TxnId) (k from : ℕ) (name : TxnId) (old new : BTreeSet TxnId) (found : Option TxnId) → from ≡ k + 1 → StandsAt list k name → Keeps commands list from old found
    → ((q : TxnId) → contains txn_cmp new q ≡ cond (is_at (txn_cmp name) q) true (contains txn_cmp old q)) → contains txn_cmp new name ≡ true → IsUnfit commands list k name → Keeps commands list k new (Some name)
keeps_unfit commands list k from name old new found is stands keeps step here unfit = record {
  within = let h : from ≤ length list = keeps.within in omega arith;
  met = met_step list k from name old new is stands keeps.met step here;
  first = unfit_here commands list k name stands unfit;
}

-- the member before the index is fit, and changes nothing of what was found
pub keeps_fit : (commands : Commands) (list : List TxnId) (k from : ℕ) (name : TxnId) (old new : BTreeSet TxnId) (found : Option TxnId) → from ≡ k + 1 → StandsAt list k name → Keeps commands list from old found
    → ((q : TxnId) → contains txn_cmp new q ≡ cond (is_at (txn_cmp name) q) true (contains txn_cmp old q)) → contains txn_cmp new name ≡ true → FitAt commands list k name → Keeps commands list k new found
keeps_fit commands list k from name old new found is stands keeps step here fit = record {
  within = let h : from ≤ length list = keeps.within in omega arith;
  met = met_step list k from name old new is stands keeps.met step here;
  first = fit_here commands list k from name found is stands fit keeps.first;
}
