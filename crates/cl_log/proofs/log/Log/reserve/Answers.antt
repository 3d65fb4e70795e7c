use Rattle.std.proofs.Common.{List, ap, sym, ◌∙◌}
use Rattle.std.specs.Option.{unwrap_or}
use Rattle.cl_log.specs.LogEntry.{LogEntry}
use Rattle.cl_log.specs.Known.{nothing, known_from}
use Rattle.cl_log.proofs.log.Log.reserve.Goals as goal

pub invariant_of-self-2 : goal.invariant_of-self-2
invariant_of-self-2 c = record {
  is_indexed = λ txn.
      ap (λ found. unwrap_or found nothing) (c.reserve-2.ensures.entries.2 txn)
      ∙ c.args.self.now.is_indexed txn
      ∙ ap (λ (es : List LogEntry). known_from es txn) (sym c.reserve.ensures.entries);
}
