-- Each way in which the schedule ends.
use Rattle.std.proofs.Common.{[], inr, refl}
use Rattle.clustra.specs.Run.{cluster}
use Rattle.clustra.proofs.Served.{answer_of_refusal, answer_of_write, answered_finish, answered_for, answered_none, answered_refusal}
use Rattle.clustra.proofs.serving.answer_input.Goals as goal

pub schedule-requires : goal.schedule-requires
schedule-requires g c = (cluster, [], c.requires.made, c.requires.whole)

pub returns-in_default-clause-answered : goal.returns-in_default-clause-answered
returns-in_default-clause-answered g c = answered_none _ _ _ _ _ _ _ _ c.requires.made c.requires.whole (inr (inr refl))

pub returns-in-Ok-schedule-clause-answered : goal.returns-in-Ok-schedule-clause-answered
returns-in-Ok-schedule-clause-answered g c =
    answered_for _ _ _ _ _ _ _ _ _ _ c.in-Ok.ensures
    (answered_finish _ _ _ _ _ _ _ _ _ _ _ c.in-Ok-schedule.finish c.is_unfinished.result c.requires.made
    (c.in-Ok-schedule.ensures cluster [] c.requires.made c.requires.whole) c.is_unfinished.ensures.turns c.is_unfinished.ensures.quiet
    (c.transcript.ensures cluster) c.write_text.ensures.sink c.write_text.ensures.status)

pub returns-in-Ok-schedule-clause-status : goal.returns-in-Ok-schedule-clause-status
returns-in-Ok-schedule-clause-status g c = answer_of_write _ _ c.write_text.ensures.status

pub returns-clause-answered : goal.returns-clause-answered
returns-clause-answered g c =
    answered_for _ _ _ _ _ _ _ _ _ _ c.in-Ok.ensures
    (answered_refusal _ _ _ _ _ _ _ _ _ c.in-Err.refused c.requires.made
    (c.in-Err.ensures cluster [] c.requires.made c.requires.whole) c.status_of_refusal.ensures.spent.0 c.status_of_refusal.ensures.status)

pub returns-clause-status : goal.returns-clause-status
returns-clause-status g c = answer_of_refusal _ c.status_of_refusal.ensures.status
