use Rattle.std.proofs.Common.{true, get_or, ap}
use Rattle.std.proofs.lemmas.List.Edits.{map_over_more}
use Rattle.cl_link.specs.Kept.{with_due}
use Rattle.cl_link.proofs.kept.mark_each_due.Goals as goal

pub loop-message-preserved : goal.loop-message-preserved
loop-message-preserved g c =
    map_over_more (with_due true) c.args.messages.now c.loop-message.messages c.loop-message.message-index _
    c.loop-message-test.true c.loop-message.invariant
    (ap (λ m. get_or c.loop-message.messages c.loop-message.message-index m) c.message-item.is)
