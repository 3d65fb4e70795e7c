use Rattle.std.proofs.Common.{◌∙◌}
use Rattle.std.proofs.lemmas.Result.{err_from_is_err_and}
use Rattle.cl_front.proofs.Turns.{HasTurned-turn, HasTurned-none, HasTurned-spent}
use Rattle.cl_front.proofs.session.Session.take_turns.Goals as goal

pub loop-command-preserved : goal.loop-command-preserved
loop-command-preserved c =
    HasTurned-turn c.next_turn.new.self _ _ _ c.in-Some.command c.loop-command.invariant c.in-Some.ensures.0 c.in-Some.ensures.1
    c.in_ok-turn.ensures.session c.in_ok-turn.ensures.printed c.in_ok-turn.ensures.sent c.in_ok-turn.ensures.spent

pub returns-in_err-turn-clause-spent : goal.returns-in_err-turn-clause-spent
returns-in_err-turn-clause-spent c =
    let refused = err_from_is_err_and c.from_residual.result c.from_residual.ensures.1 in
    rw (refused.1, refused.2)
    (HasTurned-spent c.next_turn.new.self c.in-Some.command c.in_err-turn.field-0.0 c.loop-command.invariant c.in-Some.ensures.0 c.in-Some.ensures.1
    c.in_err-turn.ensures.spent)

pub returns-clause-session : goal.returns-clause-session
returns-clause-session c = c.in_default.ensures.0 ∙ (HasTurned-none c.loop-command.invariant c.in_default.ensures.1).session

pub returns-clause-printed : goal.returns-clause-printed
returns-clause-printed c = (HasTurned-none c.loop-command.invariant c.in_default.ensures.1).printed

pub returns-clause-sent : goal.returns-clause-sent
returns-clause-sent c = (HasTurned-none c.loop-command.invariant c.in_default.ensures.1).sent

pub returns-clause-spent : goal.returns-clause-spent
returns-clause-spent c = (HasTurned-none c.loop-command.invariant c.in_default.ensures.1).spent
