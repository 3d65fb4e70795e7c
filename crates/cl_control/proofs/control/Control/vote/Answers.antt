use Rattle.std.proofs.Common.{sym, ap, ◌∙◌}
use Rattle.cl_control.specs.Calls.{counts_vote}
use Rattle.cl_control.proofs.Kept.{kept-voted, room-vote}
use Rattle.cl_control.proofs.control.Control.vote.Goals as goal

pub add_vote-requires : goal.add_vote-requires
add_vote-requires c =
    room-vote _ c.self.invariant.0 c.args.v c.args.txn
    (ap (λ state. counts_vote state c.args.v c.args.txn) c.self.view_is ∙ sym c.counts_vote.ensures ∙ c.if-not-counts_vote.false)

pub invariant_of-self : goal.invariant_of-self
invariant_of-self c =
    kept-voted _ c.self.invariant.0 c.args.txn _ _ c.self.invariant.1 c.args.v
    (ap (λ state. counts_vote state c.args.v c.args.txn) c.self.view_is ∙ sym c.counts_vote.ensures ∙ c.if-not-counts_vote.false) c.add_vote.ensures
