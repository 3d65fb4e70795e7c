use Rattle.std.proofs.Common.{sym, ◌∙◌, ap, nat_lt}
use Rattle.std.specs.List.{list_any}
use Rattle.cl_front.specs.Session.{is_busy}
use Rattle.cl_front.proofs.Busy.{list_any-count_by}
use Rattle.cl_front.proofs.sessions.Sessions.is_busy.Goals as goal

pub returns : goal.returns
returns c = ap (λ n. nat_lt 0 n) c.self.invariant.1 ∙ sym (list_any-count_by is_busy c.self.inside.sessions.items) ∙ ap (list_any is_busy) c.self.view_is
