-- No transaction stands twice among decisions.
use Rattle.std.proofs.Common.{◌≡◌, Bool, true, false, List, [], ◌∷◌, refl, sym, subst}
use Rattle.std.specs.List.{IsDistinct}
use Rattle.std.proofs.lemmas.Bool.{cond-true, cond-false}
use Rattle.std.proofs.lemmas.Map.Keys.{IsDistinct-push}
use Rattle.cl_types.specs.declared.operations.TxnId.{TxnId}
use Rattle.cl_types.specs.Transactions.{same_txn}
use Rattle.cl_log.specs.declared.records.LogRec.{LogRec}
use Rattle.cl_log.specs.declared.records.LogRec.TheVariants.{Decide}
use Rattle.cl_log.specs.LogEntry.{LogEntry}
use Rattle.cl_log.specs.Open.{is_among}
use Rattle.cl_log.proofs.Unended.{same_txn_equivalence}
use Rattle.cl_backup.specs.Decisions.{with_decision, decisions_after, decisions_from}
use Rattle.cl_backup.specs.Laws.{DecisionsAreDistinct}

-- one decision more keeps it
distinct_with : (decided : List TxnId) (txn : TxnId) → IsDistinct same_txn decided → IsDistinct same_txn (with_decision decided txn)
distinct_with decided txn distinct = by_new (is_among txn decided) refl
  where
    by_new : (b : Bool) → is_among txn decided ≡ b → IsDistinct same_txn (with_decision decided txn)
    by_new true is = subst (IsDistinct same_txn) (sym (cond-true _ _ _ is)) distinct
    by_new false is = subst (IsDistinct same_txn) (sym (cond-false _ _ _ is)) (IsDistinct-push same_txn_equivalence decided txn distinct is)

-- one record more keeps it
distinct_after : (decided : List TxnId) (content : LogRec) → IsDistinct same_txn decided → IsDistinct same_txn (decisions_after decided content)
distinct_after decided (Decide txn) distinct = distinct_with decided txn distinct
distinct_after decided content distinct = distinct

-- the records of a log keep it
distinct_from : (decided : List TxnId) (log : List LogEntry) → IsDistinct same_txn decided → IsDistinct same_txn (decisions_from decided log)
distinct_from decided [] distinct = distinct
distinct_from decided (entry ∷ log) distinct = distinct_from (decisions_after decided entry.content) log (distinct_after decided entry.content distinct)

-- none stands twice where there is none
distinct_none : IsDistinct same_txn []
unfolding IsDistinct
distinct_none = tt

-- none stands twice among the decisions of a log
pub decisions_are_distinct : DecisionsAreDistinct
decisions_are_distinct log = distinct_from [] log distinct_none
