-- The open transactions of a controller once one of them changes.
use Rattle.std.proofs.Common.{◌≡◌, ℕ, Bool, true, false, cond, not, List, [], ◌∷◌, ◌++◌, map, Option, Some, None, option_map, refl, sym, ap, ◌∙◌}
use Rattle.std.specs.Option.{option_or}
use Rattle.std.proofs.lemmas.Bool.{cond-true, cond-false}
use Rattle.std.proofs.lemmas.List.Folds.{find-append}
use Rattle.cl_types.specs.declared.operations.TxnId.{TxnId}
use Rattle.cl_types.specs.Transactions.{same_txn}
use Rattle.cl_types.proofs.Transactions.{same_txn-true, same_txn-itself, same_txn-symmetric}
use Rattle.cl_control.specs.declared.acts.Act.{Act}
use Rattle.cl_control.specs.State.{Entry, ControlState, entry_named, entry_of, new_entry, with_new, with_changed, without, without_entry}
use Rattle.cl_control.proofs.Entries.{entry_named-changed, entry_named-changed_other}
use Rattle.cl_vnode.specs.Inputs.{has_decide}
use Rattle.cl_commit.proofs.Told.{Notice, to_prepare, to_finish, act_of}

module _ (control : ControlState) (txn : TxnId) where
  pub entry-new : entry_of control txn ≡ None → entry_of (with_new control txn) txn ≡ Some (new_entry txn)
  entry-new none =
      find-append (λ entry. same_txn txn entry.txn) control.transactions (new_entry txn ∷ [])
      ∙ ap (λ o. option_or o (entry_named txn (new_entry txn ∷ []))) none ∙ cond-true _ _ _ (same_txn-itself txn)

  pub entry-new_other : (other : TxnId) → same_txn txn other ≡ false → entry_of (with_new control txn) other ≡ entry_of control other
  entry-new_other other differ =
      find-append (λ entry. same_txn other entry.txn) control.transactions (new_entry txn ∷ [])
      ∙ ap (option_or (entry_of control other)) (cond-false _ _ _ (same_txn-symmetric other txn ∙ differ)) ∙ alone (entry_of control other)
    where
      alone : (o : Option Entry) → option_or o None ≡ o
      alone None = refl
      alone (Some entry) = refl

  module _ (change : Entry → Entry) (keeps : (entry : Entry) → (change entry).txn ≡ entry.txn) where
    pub entry-changed : (entry : Entry) → entry_of control txn ≡ Some entry → entry_of (with_changed control txn change) txn ≡ Some (change entry)
    entry-changed entry is = entry_named-changed txn change keeps control.transactions ∙ ap (option_map change) is

    pub entry-changed_other : (other : TxnId) → same_txn txn other ≡ false → entry_of (with_changed control txn change) other ≡ entry_of control other
    entry-changed_other other differ = entry_named-changed_other txn change keeps other control.transactions differ

-- one that is no longer open is not found
named-without : (txn : TxnId) (entries : List Entry) → entry_named txn (without txn entries) ≡ None
named-without txn [] = refl
named-without txn (x ∷ xs) = by (named-without txn xs) (same_txn txn x.txn) refl
  where
    by : entry_named txn (without txn xs) ≡ None → (b : Bool) → same_txn txn x.txn ≡ b → entry_named txn (cond (not b) (x ∷ without txn xs) (without txn xs)) ≡ None
    by rest true same = rest
    by rest false differ = cond-false _ _ _ differ ∙ rest

-- and another one is as before
named-without_other : (txn other : TxnId) (entries : List Entry) → same_txn txn other ≡ false → entry_named other (without txn entries) ≡ entry_named other entries
named-without_other txn other [] differ = refl
named-without_other txn other (x ∷ xs) differ = by (named-without_other txn other xs differ) (same_txn txn x.txn) refl
  where
    by : entry_named other (without txn xs) ≡ entry_named other xs → (b : Bool) → same_txn txn x.txn ≡ b →
        entry_named other (cond (not b) (x ∷ without txn xs) (without txn xs)) ≡ cond (same_txn other x.txn) (Some x) (entry_named other xs)
    by rest true same = rest ∙ sym (cond-false _ _ _ (same_txn-symmetric other x.txn ∙ ap (λ t. same_txn t other) (sym (same_txn-true txn x.txn same)) ∙ differ))
    by rest false apart = ap (cond (same_txn other x.txn) (Some x)) rest

pub entry-without : (control : ControlState) (txn : TxnId) → entry_of (without_entry control txn) txn ≡ None
entry-without control txn = named-without txn control.transactions

pub entry-without_other : (control : ControlState) (txn other : TxnId) → same_txn txn other ≡ false → entry_of (without_entry control txn) other ≡ entry_of control other
entry-without_other control txn other differ = named-without_other txn other control.transactions differ

-- who is told something has no Decide among the acts
pub no-decide : (what : Notice) (txn : TxnId) (us : List ℕ) (more : List Act) → has_decide (map (act_of what txn) us ++ more) ≡ has_decide more
no-decide what txn [] more = refl
no-decide to_prepare txn (u ∷ us) more = no-decide to_prepare txn us more
no-decide (to_finish commit) txn (u ∷ us) more = no-decide (to_finish commit) txn us more
