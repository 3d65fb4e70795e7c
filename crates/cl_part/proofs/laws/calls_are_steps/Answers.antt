use Rattle.cl_part.proofs.Following.{answers_are_noted, calls_are_steps, calls_keep_order, events_make_order}
use Rattle.cl_part.proofs.laws.calls_are_steps.Goals as goal

pub returns-clause-steps : goal.returns-clause-steps
returns-clause-steps c = calls_are_steps

pub returns-clause-order : goal.returns-clause-order
returns-clause-order c = calls_keep_order

pub returns-clause-events : goal.returns-clause-events
returns-clause-events c = events_make_order

pub returns-clause-answers : goal.returns-clause-answers
returns-clause-answers c = answers_are_noted
