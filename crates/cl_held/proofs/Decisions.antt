-- The decisions of a log.
use Rattle.std.proofs.Common.{◌≡◌, ℕ, true, false, ◌⊎◌, inl, inr, List, [], ◌∷◌, ◌++◌, All, sym, ◌∙◌, subst}
use Rattle.std.proofs.lemmas.Bool.{cond_both, or_left, or_right, or_cases}
use Rattle.std.proofs.lemmas.List.Elements.{All-head, All-tail}
use Rattle.std.proofs.lemmas.List.Folds.{list_any-append}
use Rattle.cl_backup.specs.Decisions.{with_decision, decisions_after, decisions_from}
use Rattle.cl_log.specs.declared.records.LogRec.{LogRec}
use Rattle.cl_log.specs.declared.records.LogRec.TheVariants as records
use Rattle.cl_log.specs.LogEntry.{LogEntry}
use Rattle.cl_log.specs.Open.{is_among}
use Rattle.cl_node.specs.Addressing.{home_in}
use Rattle.cl_system.specs.Roles.{IsOfSession}
use Rattle.cl_types.proofs.Transactions.{same_txn-true, same_txn-itself}
use Rattle.cl_types.specs.declared.operations.TxnId.{TxnId}
use Rattle.cl_types.specs.Transactions.{same_txn}
use Rattle.cl_held.proofs.Tidy.{DecidesAt}

-- who was decided stays so
decision_stays : (decided : List TxnId) (txn other : TxnId) → is_among txn decided ≡ true → is_among txn (with_decision decided other) ≡ true
decision_stays decided txn other is =
    cond_both (is_among other decided) decided (decided ++ other ∷ []) (λ list. is_among txn list ≡ true) (λ _. is)
    (λ _. list_any-append (same_txn txn) decided (other ∷ []) ∙ or_left (is_among txn decided) (is_among txn (other ∷ [])) is)

-- who is decided now is one
pub decision_new : (decided : List TxnId) (txn : TxnId) → is_among txn (with_decision decided txn) ≡ true
decision_new decided txn =
    cond_both (is_among txn decided) decided (decided ++ txn ∷ []) (λ list. is_among txn list ≡ true) (λ is. is)
    (λ _. list_any-append (same_txn txn) decided (txn ∷ [])
    ∙ or_right (is_among txn decided) (is_among txn (txn ∷ [])) (or_left (same_txn txn txn) false (same_txn-itself txn)))

-- whoever is one was one, or is the one decided now
pub decision_parts : (decided : List TxnId) (txn other : TxnId) → is_among txn (with_decision decided other) ≡ true → (is_among txn decided ≡ true) ⊎ (txn ≡ other)
decision_parts decided txn other =
    cond_both (is_among other decided) decided (decided ++ other ∷ []) (λ list. is_among txn list ≡ true → (is_among txn decided ≡ true) ⊎ (txn ≡ other)) (λ _ is. inl is)
    (λ _ is. elim (or_cases (is_among txn decided) (is_among txn (other ∷ [])) (sym (list_any-append (same_txn txn) decided (other ∷ [])) ∙ is)) [
      | inl old ↦ inl old
      | inr new ↦ elim (or_cases (same_txn txn other) false new) [
        | inl same ↦ inr (same_txn-true txn other same)
        | inr none ↦ absurd (let e : false ≡ true = none in cc)
      ]
    ])

-- after a record who was decided is decided still
pub decided_after : (decided : List TxnId) (txn : TxnId) (content : LogRec) → is_among txn decided ≡ true → is_among txn (decisions_after decided content) ≡ true
decided_after decided txn (records.Decide other) is = decision_stays decided txn other is
decided_after decided txn content is = is

-- after records
decided_from : (decided : List TxnId) (txn : TxnId) (log : List LogEntry) → is_among txn decided ≡ true → is_among txn (decisions_from decided log) ≡ true
decided_from decided txn [] is = is
decided_from decided txn (entry ∷ log) is = decided_from (decisions_after decided entry.content) txn log (decided_after decided txn entry.content is)

-- who is decided in a log is decided in each longer one
pub decided_longer : (decided : List TxnId) (txn : TxnId) (log more : List LogEntry) → is_among txn (decisions_from decided log) ≡ true →
    is_among txn (decisions_from decided (log ++ more)) ≡ true
decided_longer decided txn [] more is = decided_from decided txn more is
decided_longer decided txn (entry ∷ log) more is = decided_longer (decisions_after decided entry.content) txn log more is

-- ---- where decisions are made

module _ (nodes v : ℕ) where
  -- a transaction of a session whose home is here
  abbrev pub IsOwn : TxnId → Type 0
  IsOwn txn = (home_in nodes txn ≡ v) × IsOfSession txn

  -- after a record that decides at home
  own_after : (decided : List TxnId) (content : LogRec) → ((txn : TxnId) → is_among txn decided ≡ true → IsOwn txn) → DecidesAt nodes v content →
      (txn : TxnId) → is_among txn (decisions_after decided content) ≡ true → IsOwn txn
  own_after decided (records.Decide other) own decides txn is = elim (decision_parts decided txn other is) [
    | inl old ↦ own txn old
    | inr same ↦ subst IsOwn (sym same) decides
  ]
  own_after decided content own decides txn is = own txn is

  -- after such records
  pub own_from : (decided : List TxnId) (log : List LogEntry) → ((txn : TxnId) → is_among txn decided ≡ true → IsOwn txn) →
      All (λ entry. DecidesAt nodes v entry.content) log → (txn : TxnId) → is_among txn (decisions_from decided log) ≡ true → IsOwn txn
  own_from decided [] own decide txn is = own txn is
  own_from decided (entry ∷ log) own decide txn is =
      own_from (decisions_after decided entry.content) log
      (own_after decided entry.content own (All-head (λ (e : LogEntry). DecidesAt nodes v e.content) entry log decide))
      (All-tail (λ (e : LogEntry). DecidesAt nodes v e.content) entry log decide) txn is
