use Rattle.cl_link.proofs.KeptLemmas.{due_index-drop}
use Rattle.cl_link.proofs.link.Link.heard.Goals as goal

pub index_of_due-self-inside-requires : goal.index_of_due-self-inside-requires
index_of_due-self-inside-requires g c =
    rw (c.drop_front.ensures, c.saturating_sub-2.ensures, c.self.invariant.1) (due_index-drop _ _)
