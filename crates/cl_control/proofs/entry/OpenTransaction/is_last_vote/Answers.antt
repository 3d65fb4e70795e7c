use Rattle.std.proofs.Common.{◌||◌, nat_eq, ap, ◌∙◌}
use Rattle.std.specs.List.{list_all}
use Rattle.cl_control.specs.State.{is_among}
use Rattle.cl_control.proofs.VirtualNodes.{list_all-push}
use Rattle.cl_control.proofs.entry.OpenTransaction.is_last_vote.Goals as goal

pub returns : goal.returns
returns c txn =
    c.are_among_or.ensures
    ∙ ap (list_all (λ u. is_among u c.as_slice-2.result.now || nat_eq u c.args.v)) c.as_slice.ensures.value
    ∙ ap (λ vs. list_all (λ u. is_among u vs || nat_eq u c.args.v) c.args.self.now.participants.items) c.as_slice-2.ensures.value
    ∙ list_all-push c.args.self.now.participants.items c.args.self.now.votes.items c.args.v
