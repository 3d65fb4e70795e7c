use Rattle.std.proofs.Common.{List, ap, sym, ◌∙◌}
use Rattle.std.specs.Map.{lookup}
use Rattle.std.specs.Option.{unwrap_or}
use Rattle.cl_types.specs.declared.operations.TxnId.{TxnId}
use Rattle.cl_types.specs.Transactions.{same_txn}
use Rattle.cl_log.specs.declared.known.Known.{Known}
use Rattle.cl_log.specs.LogEntry.{LogEntry}
use Rattle.cl_log.specs.Known.{nothing, known_from}
use Rattle.cl_log.proofs.KnownFacts.{known_from-nil}
use Rattle.cl_log.proofs.log.Log.new.Goals as goal

pub invariant_of-result : goal.invariant_of-result
invariant_of-result c = record {
  is_indexed = λ txn.
      ap (λ (es : List (TxnId × Known)). unwrap_or (lookup (same_txn txn) es) nothing) c.new-2.ensures.empty
      ∙ sym (ap (λ (es : List LogEntry). known_from es txn) c.new.ensures.entries ∙ known_from-nil txn);
}
