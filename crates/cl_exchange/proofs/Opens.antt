-- The open transactions of one session.
use Rattle.std.proofs.Common.{◌≡◌, ◌≢◌, ℕ, Bool, true, false, cond, ◌||◌, not, nat_eq, List, [], ◌∷◌, ◌++◌, filter, Some, refl, sym, ap, ◌∙◌}
use Rattle.std.specs.List.{list_any}
use Rattle.std.proofs.lemmas.Bool.{cond-true, cond-false, and_left, not_from_false, not_from_true, eq-eqb, ne_eqb, eqb-true, true≢false}
use Rattle.std.proofs.lemmas.List.{append-nil}
use Rattle.std.proofs.lemmas.List.Elements.{filter-append}
use Rattle.cl_types.specs.declared.operations.TxnId.{TxnId}
use Rattle.cl_types.specs.Transactions.{same_txn}
use Rattle.cl_control.specs.State.{Entry, new_entry, entry_named, changed, without}

-- the open transactions of a session
abbrev pub of_session : ℕ → List Entry → List Entry
of_session s entries = filter (λ entry. nat_eq s entry.txn.session) entries

-- ---- of another session nothing changes

module _ (s : ℕ) (txn : TxnId) (other : s ≢ txn.session) where
  -- what is of the session is not the transaction
  not_named : (entry : Entry) → nat_eq s entry.txn.session ≡ true → same_txn txn entry.txn ≡ false
  not_named entry mine = and_left _ _ (ne_eqb txn.session entry.txn.session (λ e. other (eqb-true s entry.txn.session mine ∙ sym e)))

  pub new-others : (entries : List Entry) → of_session s (entries ++ new_entry txn ∷ []) ≡ of_session s entries
  new-others entries =
      filter-append (λ entry. nat_eq s entry.txn.session) entries (new_entry txn ∷ [])
      ∙ ap (λ more. of_session s entries ++ more) (cond-false _ _ _ (ne_eqb s txn.session other)) ∙ append-nil (of_session s entries)

  pub changed-others : (change : Entry → Entry) → ((entry : Entry) → (change entry).txn ≡ entry.txn) → (entries : List Entry) → of_session s (changed txn change entries) ≡ of_session s entries
  changed-others change keeps [] = refl
  changed-others change keeps (x ∷ xs) = by (changed-others change keeps xs) (nat_eq s x.txn.session) refl (same_txn txn x.txn) refl
    where
      by : of_session s (changed txn change xs) ≡ of_session s xs → (mine : Bool) → nat_eq s x.txn.session ≡ mine → (named : Bool) → same_txn txn x.txn ≡ named →
          cond (nat_eq s (cond named (change x) x).txn.session) (cond named (change x) x ∷ of_session s (changed txn change xs)) (of_session s (changed txn change xs))
          ≡ cond mine (x ∷ of_session s xs) (of_session s xs)
      by rest true e true named = absurd (true≢false (sym named ∙ not_named x e))
      by rest true e false named = cond-true _ _ _ e ∙ ap (λ es. x ∷ es) rest
      by rest false e true named = cond-false _ _ _ (ap (λ t. nat_eq s t.session) (keeps x) ∙ e) ∙ rest
      by rest false e false named = cond-false _ _ _ e ∙ rest

  pub without-others : (entries : List Entry) → of_session s (without txn entries) ≡ of_session s entries
  without-others [] = refl
  without-others (x ∷ xs) = by (without-others xs) (nat_eq s x.txn.session) refl (same_txn txn x.txn) refl
    where
      by : of_session s (without txn xs) ≡ of_session s xs → (mine : Bool) → nat_eq s x.txn.session ≡ mine → (named : Bool) → same_txn txn x.txn ≡ named →
          of_session s (cond (not named) (x ∷ without txn xs) (without txn xs)) ≡ cond mine (x ∷ of_session s xs) (of_session s xs)
      by rest true e true named = absurd (true≢false (sym named ∙ not_named x e))
      by rest true e false named = cond-true _ _ _ e ∙ ap (λ es. x ∷ es) rest
      by rest false e true named = rest
      by rest false e false named = cond-false _ _ _ e ∙ rest

-- ---- of the own session the transactions change as all do

module _ (txn : TxnId) where
  pub new-own : (entries : List Entry) → of_session txn.session (entries ++ new_entry txn ∷ []) ≡ of_session txn.session entries ++ new_entry txn ∷ []
  new-own entries =
      filter-append (λ entry. nat_eq txn.session entry.txn.session) entries (new_entry txn ∷ [])
      ∙ ap (λ more. of_session txn.session entries ++ more) (cond-true _ _ _ (eq-eqb txn.session txn.session refl))

  pub changed-own : (s : ℕ) (change : Entry → Entry) → ((entry : Entry) → (change entry).txn ≡ entry.txn) → (entries : List Entry) → of_session s (changed txn change entries) ≡ changed txn change (of_session s entries)
  changed-own s change keeps [] = refl
  changed-own s change keeps (x ∷ xs) = by (changed-own s change keeps xs) (same_txn txn x.txn) refl (nat_eq s x.txn.session) refl
    where
      by : of_session s (changed txn change xs) ≡ changed txn change (of_session s xs) → (named : Bool) → same_txn txn x.txn ≡ named → (mine : Bool) → nat_eq s x.txn.session ≡ mine →
          cond (nat_eq s (cond named (change x) x).txn.session) (cond named (change x) x ∷ of_session s (changed txn change xs)) (of_session s (changed txn change xs))
          ≡ changed txn change (cond mine (x ∷ of_session s xs) (of_session s xs))
      by rest true named true e = cond-true _ _ _ (ap (λ t. nat_eq s t.session) (keeps x) ∙ e) ∙ ap (λ es. change x ∷ es) rest ∙ ap (λ y. y ∷ changed txn change (of_session s xs)) (sym (cond-true _ _ _ named))
      by rest true named false e = cond-false _ _ _ (ap (λ t. nat_eq s t.session) (keeps x) ∙ e) ∙ rest
      by rest false named true e = cond-true _ _ _ e ∙ ap (λ es. x ∷ es) rest ∙ ap (λ y. y ∷ changed txn change (of_session s xs)) (sym (cond-false _ _ _ named))
      by rest false named false e = cond-false _ _ _ e ∙ rest

  pub without-own : (s : ℕ) (entries : List Entry) → of_session s (without txn entries) ≡ without txn (of_session s entries)
  without-own s [] = refl
  without-own s (x ∷ xs) = by (without-own s xs) (same_txn txn x.txn) refl (nat_eq s x.txn.session) refl
    where
      by : of_session s (without txn xs) ≡ without txn (of_session s xs) → (named : Bool) → same_txn txn x.txn ≡ named → (mine : Bool) → nat_eq s x.txn.session ≡ mine →
          of_session s (cond (not named) (x ∷ without txn xs) (without txn xs)) ≡ without txn (cond mine (x ∷ of_session s xs) (of_session s xs))
      by rest true named true e = rest ∙ sym (cond-false _ _ _ (not_from_true _ named))
      by rest true named false e = rest
      by rest false named true e = cond-true _ _ _ e ∙ ap (λ es. x ∷ es) rest ∙ sym (cond-true _ _ _ (not_from_false _ named))
      by rest false named false e = cond-false _ _ _ e ∙ rest

  -- a transaction is found among those of its session, or nowhere
  pub named-own : (entries : List Entry) → entry_named txn (of_session txn.session entries) ≡ entry_named txn entries
  named-own [] = refl
  named-own (x ∷ xs) = by (named-own xs) (nat_eq txn.session x.txn.session) refl
    where
      by : entry_named txn (of_session txn.session xs) ≡ entry_named txn xs → (mine : Bool) → nat_eq txn.session x.txn.session ≡ mine →
          entry_named txn (cond mine (x ∷ of_session txn.session xs) (of_session txn.session xs)) ≡ cond (same_txn txn x.txn) (Some x) (entry_named txn xs)
      by rest true e = ap (cond (same_txn txn x.txn) (Some x)) rest
      by rest false e = rest ∙ sym (cond-false _ _ _ (and_left _ _ e))

  pub open-own : (entries : List Entry) → list_any (λ entry. same_txn txn entry.txn) (of_session txn.session entries) ≡ list_any (λ entry. same_txn txn entry.txn) entries
  open-own [] = refl
  open-own (x ∷ xs) = by (open-own xs) (nat_eq txn.session x.txn.session) refl
    where
      by : list_any (λ entry. same_txn txn entry.txn) (of_session txn.session xs) ≡ list_any (λ entry. same_txn txn entry.txn) xs → (mine : Bool) → nat_eq txn.session x.txn.session ≡ mine →
          list_any (λ entry. same_txn txn entry.txn) (cond mine (x ∷ of_session txn.session xs) (of_session txn.session xs)) ≡ (same_txn txn x.txn || list_any (λ entry. same_txn txn entry.txn) xs)
      by rest true e = ap (λ b. same_txn txn x.txn || b) rest
      by rest false e = rest ∙ ap (λ b. b || list_any (λ entry. same_txn txn entry.txn) xs) (sym (and_left _ _ e))
