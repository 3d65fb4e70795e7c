use Rattle.std.proofs.Common.{false, sym, ap, ◌∙◌, option_map}
use Rattle.std.specs.Option.{option_copied, option_map_or}
use Rattle.cl_control.specs.Calls.{awaits_vote, counts_vote}
use Rattle.cl_control.specs.Table.{named}
use Rattle.cl_control.proofs.control.Control.counts_vote.Goals as goal

pub returns-in-Some : goal.returns-in-Some
returns-in-Some c =
    c.awaits_vote.ensures c.args.txn
    ∙ ap (λ o. option_map_or (awaits_vote c.args.v) o false) (sym (ap (λ o. option_map (named c.args.txn) (option_copied o)) c.in-Some.is) ∙ c.get.ensures)
    ∙ ap (λ state. counts_vote state c.args.v c.args.txn) c.self.view_is
