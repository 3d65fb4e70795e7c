-- Lists of open transactions, of which some are taken out.
use Rattle.std.proofs.Common.{◌≡◌, Bool, true, false, cond, ◌&&◌, ◌||◌, not, if◌then◌else◌, List, [], ◌∷◌, ◌++◌, map, filter, All, Some, None, refl, sym, ap, ◌∙◌, subst, inl, inr}
use Rattle.std.specs.List.{IsDistinct, AllByRecursion}
use Rattle.std.proofs.lemmas.Bool.{true≢false, false≢true, cond-true, cond-false, or_cases, or_from, and_right, not_from_false}
use Rattle.std.proofs.lemmas.List.Elements.{All-nil, All-cons, All-head, All-tail}
use Rattle.std.proofs.lemmas.List.Folds.{list_any-append}
use Rattle.std.proofs.lemmas.Map.Keys.{IsDistinct-head, IsDistinct-tail}
use Rattle.cl_types.specs.declared.operations.TxnId.{TxnId}
use Rattle.cl_types.specs.Transactions.{same_txn}
use Rattle.cl_types.proofs.Transactions.{same_txn-true, same_txn-itself, same_txn-symmetric}
use Rattle.cl_control.specs.declared.entry.Told.{Told}
use Rattle.cl_control.specs.Calls.{is_logged, is_told, without_told}
use Rattle.cl_control.specs.State.{Entry, entry_named, changed}
use Rattle.cl_control.proofs.Entries.{names}

-- ---- filters

-- two filters one after the other, in either order
pub filter-filter : {X : Type 0} (p q : X → Bool) (xs : List X) → filter p (filter q xs) ≡ filter q (filter p xs)
filter-filter p q [] = refl
filter-filter {X} p q (x ∷ xs) = by (filter-filter p q xs) (p x) refl (q x) refl
  where
    by : filter p (filter q xs) ≡ filter q (filter p xs) → (b : Bool) → p x ≡ b → (c : Bool) → q x ≡ c →
        filter p (cond c (x ∷ filter q xs) (filter q xs)) ≡ filter q (cond b (x ∷ filter p xs) (filter p xs))
    by rest true e true f = cond-true _ _ _ e ∙ ap (λ ys. x ∷ ys) rest ∙ sym (cond-true _ _ _ f)
    by rest true e false f = rest ∙ sym (cond-false _ _ _ f)
    by rest false e true f = cond-false _ _ _ e ∙ rest
    by rest false e false f = rest

-- two filters as one
filter-both : {X : Type 0} (p q r : X → Bool) → ((x : X) → r x ≡ (p x && q x)) → (xs : List X) → filter r xs ≡ filter q (filter p xs)
filter-both p q r h [] = refl
filter-both {X} p q r h (x ∷ xs) = ap (λ b. cond b (x ∷ filter r xs) (filter r xs)) (h x) ∙ by (filter-both p q r h xs) (p x)
  where
    by : filter r xs ≡ filter q (filter p xs) → (b : Bool) → cond (b && q x) (x ∷ filter r xs) (filter r xs) ≡ filter q (cond b (x ∷ filter p xs) (filter p xs))
    by rest true = ap (λ ys. cond (q x) (x ∷ ys) ys) rest
    by rest false = rest

-- ---- the transaction of a name

module _ (txn : TxnId) (p : Entry → Bool) where
  -- where all of the name pass, it is found as before
  pub found-kept : (entries : List Entry) → ((entry : Entry) → same_txn txn entry.txn ≡ true → p entry ≡ true) →
      entry_named txn (filter p entries) ≡ entry_named txn entries
  found-kept [] passes = refl
  found-kept (x ∷ xs) passes = by (found-kept xs passes) (same_txn txn x.txn) refl (p x) refl
    where
      by : entry_named txn (filter p xs) ≡ entry_named txn xs → (b : Bool) → same_txn txn x.txn ≡ b → (c : Bool) → p x ≡ c →
          entry_named txn (cond c (x ∷ filter p xs) (filter p xs)) ≡ cond b (Some x) (entry_named txn xs)
      by rest true same true pass = cond-true _ _ _ same
      by rest true same false stop = absurd (true≢false (sym (passes x same) ∙ stop))
      by rest false other true pass = cond-false _ _ _ other ∙ rest
      by rest false other false stop = rest

  -- a name that none has is not found
  none-found : (entries : List Entry) → AllByRecursion (λ name. same_txn txn name ≡ false) (names entries) → entry_named txn (filter p entries) ≡ None
  none-found [] h = refl
  none-found (x ∷ xs) h = by (none-found xs h.1) (p x)
    where
      by : entry_named txn (filter p xs) ≡ None → (c : Bool) → entry_named txn (cond c (x ∷ filter p xs) (filter p xs)) ≡ None
      by rest true = cond-false _ _ _ h.0 ∙ rest
      by rest false = rest

  -- where the one that is found does not pass, none is found
  pub found-gone : (entries : List Entry) (entry : Entry) → IsDistinct same_txn (names entries) → entry_named txn entries ≡ Some entry → p entry ≡ false →
      entry_named txn (filter p entries) ≡ None
  found-gone [] entry distinct found stop = refl
  found-gone (x ∷ xs) entry distinct found stop =
      by (λ k. found-gone xs entry (IsDistinct-tail _ _ _ distinct) k stop) (same_txn txn x.txn) refl found (p x) refl
    where
      by : (entry_named txn xs ≡ Some entry → entry_named txn (filter p xs) ≡ None) → (b : Bool) → same_txn txn x.txn ≡ b →
          cond b (Some x) (entry_named txn xs) ≡ Some entry →
          (c : Bool) → p x ≡ c → entry_named txn (cond c (x ∷ filter p xs) (filter p xs)) ≡ None
      by rest true same here true pass = let is : x ≡ entry = cc in absurd (true≢false (sym pass ∙ ap p is ∙ stop))
      by rest true same here false q =
          none-found xs (subst (λ t. AllByRecursion (λ name. same_txn t name ≡ false) (names xs)) (sym (same_txn-true txn x.txn same))
          (IsDistinct-head _ _ _ distinct))
      by rest false other here true pass = cond-false _ _ _ other ∙ rest here
      by rest false other here false stops = rest here

  -- where all of the name pass, also changed, a change may come before or after
  pub changed-kept : (change : Entry → Entry) → ((entry : Entry) → (change entry).txn ≡ entry.txn) → (entries : List Entry) →
      ((entry : Entry) → same_txn txn entry.txn ≡ true → p entry ≡ true) → filter p (changed txn change entries) ≡ changed txn change (filter p entries)
  changed-kept change keeps [] passes = refl
  changed-kept change keeps (x ∷ xs) passes = by (changed-kept change keeps xs passes) (same_txn txn x.txn) refl (p x) refl
    where
      by : filter p (changed txn change xs) ≡ changed txn change (filter p xs) → (b : Bool) → same_txn txn x.txn ≡ b → (c : Bool) → p x ≡ c →
          cond (p (if b then change x else x)) ((if b then change x else x) ∷ filter p (changed txn change xs)) (filter p (changed txn change xs))
          ≡ changed txn change (cond c (x ∷ filter p xs) (filter p xs))
      by rest true same true pass =
          cond-true _ _ _ (passes (change x) (ap (same_txn txn) (keeps x) ∙ same)) ∙ ap (λ es. change x ∷ es) rest
          ∙ ap (λ b. (if b then change x else x) ∷ changed txn change (filter p xs)) (sym same)
      by rest true same false stop = absurd (true≢false (sym (passes x same) ∙ stop))
      by rest false other true pass =
          cond-true _ _ _ pass ∙ ap (λ es. x ∷ es) rest ∙ ap (λ b. (if b then change x else x) ∷ changed txn change (filter p xs)) (sym other)
      by rest false other false stop = cond-false _ _ _ stop ∙ rest

-- where names differ, each is the one that is found under its name
pub each-found : (entries : List Entry) → IsDistinct same_txn (names entries) → All (λ entry. entry_named entry.txn entries ≡ Some entry) entries
each-found [] distinct = All-nil (λ entry. entry_named entry.txn [] ≡ Some entry)
each-found (x ∷ xs) distinct =
    All-cons (λ entry. entry_named entry.txn (x ∷ xs) ≡ Some entry) x xs (cond-true _ _ _ (same_txn-itself x.txn))
    (behind xs (λ k d h. (each-found xs (IsDistinct-tail _ _ _ distinct) k d h)) (IsDistinct-head _ _ _ distinct))
  where
    behind : (ys : List Entry) → All (λ entry. entry_named entry.txn xs ≡ Some entry) ys → AllByRecursion (λ name. same_txn x.txn name ≡ false) (names ys) →
        All (λ entry. entry_named entry.txn (x ∷ xs) ≡ Some entry) ys
    behind [] found apart = All-nil (λ entry. entry_named entry.txn (x ∷ xs) ≡ Some entry)
    behind (y ∷ ys) found apart =
        All-cons (λ entry. entry_named entry.txn (x ∷ xs) ≡ Some entry) y ys
        (cond-false _ _ _ (same_txn-symmetric y.txn x.txn ∙ apart.0) ∙ All-head (λ entry. entry_named entry.txn xs ≡ Some entry) y ys found)
        (behind ys (All-tail (λ entry. entry_named entry.txn xs ≡ Some entry) y ys found) apart.1)

-- ---- transactions of which a Decide was told

-- a transaction stays where its Decide is not among those told
abbrev pub stays : List Told → Entry → Bool
stays tolds entry = not (is_logged entry.phase && is_told entry.txn tolds)

-- one that is not among them stays, in whatever phase
pub stays-apart : (txn : TxnId) (tolds : List Told) → is_told txn tolds ≡ false → (entry : Entry) → same_txn txn entry.txn ≡ true → stays tolds entry ≡ true
stays-apart txn tolds apart entry same =
    not_from_false _ (and_right _ _ (ap (λ t. is_told t tolds) (sym (same_txn-true txn entry.txn same)) ∙ apart))

-- to stay is to stay for both
stays-both : (l a b : Bool) → not (l && (a || b)) ≡ (not (l && a) && not (l && b))
stays-both false a b = refl
stays-both true true b = refl
stays-both true false b = refl

-- some and others are taken out one after the other
pub without_told-append : (tolds others : List Told) (entries : List Entry) →
    without_told (tolds ++ others) entries ≡ without_told others (without_told tolds entries)
without_told-append tolds others entries =
    filter-both (stays tolds) (stays others) (stays (tolds ++ others))
    (λ entry. ap (λ b. not (is_logged entry.phase && b)) (list_any-append (λ told. same_txn told.txn entry.txn) tolds others)
    ∙ stays-both (is_logged entry.phase) (is_told entry.txn tolds) (is_told entry.txn others)) entries

-- what holds of each Decide that was told holds of the transaction of one
pub told-holds : (P : TxnId → Type 0) (txn : TxnId) (tolds : List Told) → All (λ told. P told.txn) tolds → is_told txn tolds ≡ true → P txn
told-holds P txn [] all told = absurd (false≢true told)
told-holds P txn (x ∷ xs) all told =
    elim (or_cases (same_txn x.txn txn) _ told) [
      | inl same ↦ subst P (same_txn-true x.txn txn same) (All-head (λ t. P t.txn) x xs all)
      | inr rest ↦ told-holds P txn xs (All-tail (λ t. P t.txn) x xs all) rest
    ]

-- ---- Decides of transactions that differ

-- the names of Decides
abbrev pub named : List Told → List TxnId
named tolds = map (λ told. told.txn) tolds

-- the names of the second part differ
pub distinct-right : (tolds others : List Told) → IsDistinct same_txn (named (tolds ++ others)) → IsDistinct same_txn (named others)
distinct-right [] others distinct = distinct
distinct-right (x ∷ xs) others distinct = distinct-right xs others (IsDistinct-tail _ _ _ distinct)

-- the first differs from all others
apart-from : (x : Told) (tolds others : List Told) → AllByRecursion (λ name. same_txn x.txn name ≡ false) (named (tolds ++ others)) →
    All (λ told. same_txn x.txn told.txn ≡ false) others
apart-from x [] [] apart = All-nil (λ told. same_txn x.txn told.txn ≡ false)
apart-from x [] (y ∷ ys) apart = All-cons (λ told. same_txn x.txn told.txn ≡ false) y ys apart.0 (apart-from x [] ys apart.1)
apart-from x (y ∷ ys) others apart = apart-from x ys others apart.1

-- the others are of none of the first
pub distinct-apart : (tolds others : List Told) → IsDistinct same_txn (named (tolds ++ others)) → All (λ told. is_told told.txn tolds ≡ false) others
distinct-apart [] others distinct = λ k d h. refl
distinct-apart (x ∷ xs) others distinct =
    let first : All (λ told. same_txn x.txn told.txn ≡ false) others = apart-from x xs others (IsDistinct-head _ _ _ distinct) in
    let rest : All (λ told. is_told told.txn xs ≡ false) others = distinct-apart xs others (IsDistinct-tail _ _ _ distinct) in
    λ k d h. or_from _ _ (first k d h) (rest k d h)
