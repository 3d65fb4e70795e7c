use Rattle.std.proofs.Common.{List, ap, sym, ◌∙◌, is_some}
use Rattle.cl_log.specs.Open.{is_among}
use Rattle.cl_types.specs.declared.operations.TxnId.{TxnId}
use Rattle.cl_world.proofs.firm.Firm.reserve.Goals as goal

pub invariant_of-self-2 : goal.invariant_of-self-2
invariant_of-self-2 c = record {
  knows = λ txn.
      ap is_some (c.reserve-2.ensures.entries.2 txn)
      ∙ c.args.self.now.knows txn
      ∙ ap (λ (es : List TxnId). is_among txn es) (sym c.reserve.ensures.entries);
}
