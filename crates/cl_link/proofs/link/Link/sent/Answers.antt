use Rattle.std.proofs.Common.{ap, arith}
use Rattle.cl_link.specs.LinkState.{last_number}
use Rattle.cl_link.proofs.KeptLemmas.{due_index-sent_at, length-sent_at}
use Rattle.cl_link.proofs.LinkLemmas.{after_sent_released, after_sent_past}
use Rattle.cl_link.proofs.link.Link.sent.Goals as goal
use Rattle.cl_link.proofs.link.Link.sent.Goals.{then-seq-self-via-then-seq-self, then-seq-self-via-else-seq-self+then-last_number-seq}

pub returns-then-seq-self : goal.returns-then-seq-self
returns-then-seq-self g c =
    rw (← c.self.view_is)
    (elim c.then-seq-self.branch [
      | then-seq-self-via-then-seq-self w ↦ after_sent_released _ _ w.if-seq-self.true
      | then-seq-self-via-else-seq-self+then-last_number-seq w ↦ after_sent_past _ _ (omega arith) (omega (arith, ap last_number c.self.view_is))
    ])

pub index_of_due-self-inside-requires : goal.index_of_due-self-inside-requires
index_of_due-self-inside-requires g c =
    rw (c.mark_sent.ensures, c.self.invariant.1) (due_index-sent_at _ _)

pub invariant_of-self : goal.invariant_of-self
invariant_of-self g c =
    (rw (c.mark_sent.ensures, length-sent_at) c.self.invariant.0, c.index_of_due-self-inside.ensures)
