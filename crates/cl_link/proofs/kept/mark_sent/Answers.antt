use Rattle.cl_link.proofs.KeptLemmas.{sent_at-set}
use Rattle.cl_link.proofs.kept.mark_sent.Goals as goal

pub returns : goal.returns
returns g c = sent_at-set _ _ _ c.requires c.index_mut.ensures.value
