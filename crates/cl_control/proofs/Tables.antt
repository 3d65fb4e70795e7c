-- The table of open transactions as the list of them.
use Rattle.std.proofs.Common.{◌≡◌, Bool, true, false, cond, ◌||◌, if◌then◌else◌, not, List, [], ◌∷◌, ◌++◌, map, Some, None, option_map, refl, sym, ap, ◌∙◌, subst, true≢false}
use Rattle.std.specs.List.{list_any, IsDistinct, AllByRecursion}
use Rattle.std.specs.Map.{keys_of, lookup, set_value, remove_entry}
use Rattle.std.proofs.lemmas.Map.Keys.{IsDistinct-head, IsDistinct-tail}
use Rattle.indexmap.specs.IndexMap.{insert_entry}
use Rattle.cl_types.specs.declared.operations.TxnId.{TxnId}
use Rattle.cl_types.specs.Transactions.{same_txn}
use Rattle.cl_types.proofs.Transactions.{same_txn-true}
use Rattle.cl_control.specs.declared.entry.OpenTransaction.{OpenTransaction}
use Rattle.cl_control.specs.State.{Entry, entry_named, changed, without}
use Rattle.cl_control.specs.Table.{named, entry_of_pair}

abbrev Pairs : Type 0
Pairs = List (TxnId × OpenTransaction)

-- no pair has the name
abbrev IsNoneNamed : TxnId → Pairs → Type 0
IsNoneNamed txn pairs = AllByRecursion (λ key. same_txn txn key ≡ false) (keys_of pairs)

module _ (txn : TxnId) where
  -- a look-up by name
  pub entry_named-pairs : (pairs : Pairs) → option_map (named txn) (lookup (same_txn txn) pairs) ≡ entry_named txn (map entry_of_pair pairs)
  entry_named-pairs [] = refl
  entry_named-pairs (p ∷ ps) = by (entry_named-pairs ps) (same_txn txn p.0) refl
    where
      by : option_map (named txn) (lookup (same_txn txn) ps) ≡ entry_named txn (map entry_of_pair ps) → (b : Bool) → same_txn txn p.0 ≡ b →
          option_map (named txn) (cond b (Some p.1) (lookup (same_txn txn) ps)) ≡ cond b (Some (entry_of_pair p)) (entry_named txn (map entry_of_pair ps))
      by rest true e = ap (λ t. Some (named t p.1)) (same_txn-true txn p.0 e)
      by rest false e = rest

  -- a new name goes last
  pub insert_entry-pairs : (pairs : Pairs) (kept : OpenTransaction) → list_any (λ entry. same_txn txn entry.txn) (map entry_of_pair pairs) ≡ false →
      map entry_of_pair (insert_entry same_txn pairs txn kept) ≡ map entry_of_pair pairs ++ named txn kept ∷ []
  insert_entry-pairs [] kept h = refl
  insert_entry-pairs (p ∷ ps) kept h = by (insert_entry-pairs ps kept) (same_txn txn p.0) h
    where
      by : (list_any (λ entry. same_txn txn entry.txn) (map entry_of_pair ps) ≡ false →
          map entry_of_pair (insert_entry same_txn ps txn kept) ≡ map entry_of_pair ps ++ named txn kept ∷ []) →
          (b : Bool) → (b || list_any (λ entry. same_txn txn entry.txn) (map entry_of_pair ps)) ≡ false →
          map entry_of_pair (if b then (p.0, kept) ∷ ps else p ∷ insert_entry same_txn ps txn kept) ≡ entry_of_pair p ∷ (map entry_of_pair ps ++ named txn kept ∷ [])
      by rest true none = absurd (true≢false none)
      by rest false none = ap (λ es. entry_of_pair p ∷ es) (rest none)

  module _ (change : Entry → Entry) where
    -- where no pair has the name, nothing changes
    pub changed-none_named : (pairs : Pairs) → IsNoneNamed txn pairs → changed txn change (map entry_of_pair pairs) ≡ map entry_of_pair pairs
    changed-none_named [] h = refl
    changed-none_named (p ∷ ps) h =
        ap (λ b. (if b then change (entry_of_pair p) else entry_of_pair p) ∷ changed txn change (map entry_of_pair ps)) h.0
        ∙ ap (λ es. entry_of_pair p ∷ es) (changed-none_named ps h.1)

    -- a look-up finds nothing where no pair has the name
    pub changed-not_found : (pairs : Pairs) → lookup (same_txn txn) pairs ≡ None → changed txn change (map entry_of_pair pairs) ≡ map entry_of_pair pairs
    changed-not_found [] h = refl
    changed-not_found (p ∷ ps) h = by (changed-not_found ps) (same_txn txn p.0) h
      where
        by : (lookup (same_txn txn) ps ≡ None → changed txn change (map entry_of_pair ps) ≡ map entry_of_pair ps) → (b : Bool) → cond b (Some p.1) (lookup (same_txn txn) ps) ≡ None →
            (if b then change (entry_of_pair p) else entry_of_pair p) ∷ changed txn change (map entry_of_pair ps) ≡ entry_of_pair p ∷ map entry_of_pair ps
        by rest true none = absurd (cc)
        by rest false none = ap (λ es. entry_of_pair p ∷ es) (rest none)

    -- what is written through a look-up is the change
    pub changed-written : (pairs : Pairs) (old new : OpenTransaction) → IsDistinct same_txn (keys_of pairs) → lookup (same_txn txn) pairs ≡ Some old →
        ((key : TxnId) → change (named key old) ≡ named key new) → map entry_of_pair (set_value (same_txn txn) pairs new) ≡ changed txn change (map entry_of_pair pairs)
    changed-written [] old new distinct found h = absurd (cc)
    changed-written (p ∷ ps) old new distinct found h =
        by (changed-written ps old new (IsDistinct-tail _ _ _ distinct)) (same_txn txn p.0) refl found
      where
        by : (lookup (same_txn txn) ps ≡ Some old →
            ((key : TxnId) → change (named key old) ≡ named key new) → map entry_of_pair (set_value (same_txn txn) ps new) ≡ changed txn change (map entry_of_pair ps)) →
            (b : Bool) → same_txn txn p.0 ≡ b → cond b (Some p.1) (lookup (same_txn txn) ps) ≡ Some old →
            map entry_of_pair (cond b ((p.0, new) ∷ ps) (p ∷ set_value (same_txn txn) ps new)) ≡ (if b then change (entry_of_pair p) else entry_of_pair p) ∷ changed txn change (map entry_of_pair ps)
        by rest true e here =
            let old_is : p.1 ≡ old = cc in
            let none : IsNoneNamed txn ps = subst (λ t. IsNoneNamed t ps) (sym (same_txn-true txn p.0 e)) (IsDistinct-head _ _ _ distinct) in
            ap (λ x. x ∷ map entry_of_pair ps) (sym (ap (λ kept. change (named p.0 kept)) old_is ∙ h p.0)) ∙ ap (λ es. change (entry_of_pair p) ∷ es) (sym (changed-none_named ps none))
        by rest false e here = ap (λ es. entry_of_pair p ∷ es) (rest here h)

  -- where no pair has the name, nothing is removed
  pub without-none_named : (pairs : Pairs) → IsNoneNamed txn pairs → without txn (map entry_of_pair pairs) ≡ map entry_of_pair pairs
  without-none_named [] h = refl
  without-none_named (p ∷ ps) h =
      ap (λ b. cond (not b) (entry_of_pair p ∷ without txn (map entry_of_pair ps)) (without txn (map entry_of_pair ps))) h.0
      ∙ ap (λ es. entry_of_pair p ∷ es) (without-none_named ps h.1)

  -- the first pair of the name is removed
  pub without-pairs : (pairs : Pairs) → IsDistinct same_txn (keys_of pairs) → map entry_of_pair (remove_entry (same_txn txn) pairs) ≡ without txn (map entry_of_pair pairs)
  without-pairs [] distinct = refl
  without-pairs (p ∷ ps) distinct = by (without-pairs ps (IsDistinct-tail _ _ _ distinct)) (same_txn txn p.0) refl
    where
      by : map entry_of_pair (remove_entry (same_txn txn) ps) ≡ without txn (map entry_of_pair ps) → (b : Bool) → same_txn txn p.0 ≡ b →
          map entry_of_pair (cond b ps (p ∷ remove_entry (same_txn txn) ps)) ≡ cond (not b) (entry_of_pair p ∷ without txn (map entry_of_pair ps)) (without txn (map entry_of_pair ps))
      by rest true e = sym (without-none_named ps (subst (λ t. IsNoneNamed t ps) (sym (same_txn-true txn p.0 e)) (IsDistinct-head _ _ _ distinct)))
      by rest false e = ap (λ es. entry_of_pair p ∷ es) rest

-- what is written through a look-up into the pairs of a table is the change of the table
pub changed-through : (txn : TxnId) (change : Entry → Entry) (pairs after : Pairs) (entries : List Entry) (old new : OpenTransaction) →
    map entry_of_pair pairs ≡ entries → IsDistinct same_txn (keys_of pairs) → Some old ≡ lookup (same_txn txn) pairs →
    ((key : TxnId) → change (named key old) ≡ named key new) → after ≡ set_value (same_txn txn) pairs new → map entry_of_pair after ≡ changed txn change entries
changed-through txn change pairs after entries old new view distinct found h e =
    ap (map entry_of_pair) e ∙ changed-written txn change pairs old new distinct (sym found) h ∙ ap (changed txn change) view

-- where nothing is found, nothing is written
pub changed-nothing : (txn : TxnId) (change : Entry → Entry) (pairs : Pairs) (entries : List Entry) →
    map entry_of_pair pairs ≡ entries → None ≡ lookup (same_txn txn) pairs → map entry_of_pair pairs ≡ changed txn change entries
changed-nothing txn change pairs entries view none = sym (changed-not_found txn change pairs (sym none)) ∙ ap (changed txn change) view

-- what is found is the transaction of the name
pub found_named : (txn : TxnId) (pairs : Pairs) (entries : List Entry) (old : OpenTransaction) →
    map entry_of_pair pairs ≡ entries → Some old ≡ lookup (same_txn txn) pairs → entry_named txn entries ≡ Some (named txn old)
found_named txn pairs entries old view found = ap (entry_named txn) (sym view) ∙ sym (entry_named-pairs txn pairs) ∙ ap (option_map (named txn)) (sym found)

names-pairs : (pairs : Pairs) → map (λ entry. entry.txn) (map entry_of_pair pairs) ≡ keys_of pairs
names-pairs [] = refl
names-pairs (p ∷ ps) = ap (λ names. p.0 ∷ names) (names-pairs ps)

-- the names of a table differ
pub names-differ : (pairs : Pairs) (entries : List Entry) → map entry_of_pair pairs ≡ entries → IsDistinct same_txn (keys_of pairs) → IsDistinct same_txn (map (λ entry. entry.txn) entries)
names-differ pairs entries view distinct = subst (λ es. IsDistinct same_txn (map (λ entry. entry.txn) es)) view (subst (IsDistinct same_txn) (sym (names-pairs pairs)) distinct)

-- what is not found is not open
pub not_found_named : (txn : TxnId) (pairs : Pairs) (entries : List Entry) → map entry_of_pair pairs ≡ entries → None ≡ lookup (same_txn txn) pairs → entry_named txn entries ≡ None
not_found_named txn pairs entries view none = ap (entry_named txn) (sym view) ∙ sym (entry_named-pairs txn pairs) ∙ ap (option_map (named txn)) (sym none)
