use Rattle.std.proofs.Common.{sym}
use Rattle.cl_link.proofs.KeptLemmas.{length-all_due, due_index-all_due}
use Rattle.cl_link.proofs.link.Link.again.Goals as goal

pub invariant_of-self : goal.invariant_of-self
invariant_of-self g c = rw (c.mark_all_due.ensures, length-all_due) (c.self.invariant.0, sym (due_index-all_due _))
