-- No member is unfit, and the replay starts from the empty map.
use Rattle.std.proofs.Common.{Option, MatchOption, subst, ap, ◌∙◌}
use Rattle.cl_types.specs.AppendOnlyList.{entries}
use Rattle.cl_types.specs.declared.operations.TxnId.{TxnId}
use Rattle.cl_serial.specs.Gathering.{commands_at}
use Rattle.cl_serial.specs.PlainMapModel.{value_at}
use Rattle.cl_serial.specs.Verdict.{AreFit, FirstUnfit}
use Rattle.cl_serial.proofs.PlainMapLemmas.{value_at-empty}
use Rattle.cl_serial.proofs.FirstDifferences.{all_agree, first_differs}
use Rattle.cl_serial.proofs.replaying.judge.Goals as goal

pub returns-in-None : goal.returns-in-None
returns-in-None c =
    let P : Option TxnId → Type 0 = λ found. MatchOption found (AreFit (commands_at c.args.sessions.now) (entries c.args.history.now)) (λ name. FirstUnfit (commands_at c.args.sessions.now) (entries c.args.history.now) name) in
    (subst P c.in_default.is c.in_ok-name.ensures, all_agree _ _ _ _ (ap value_at c.new-plain.ensures ∙ value_at-empty) c.in-None.is c.in_ok-replay_members.ensures)

pub returns : goal.returns
returns c =
    let P : Option TxnId → Type 0 = λ found. MatchOption found (AreFit (commands_at c.args.sessions.now) (entries c.args.history.now)) (λ name. FirstUnfit (commands_at c.args.sessions.now) (entries c.args.history.now) name) in
    (subst P c.in_default.is c.in_ok-name.ensures, first_differs _ _ _ _ _ (ap value_at c.new-plain.ensures ∙ value_at-empty) c.in-Some-2.is c.in_ok-replay_members.ensures)
