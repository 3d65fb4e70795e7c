use Rattle.std.proofs.Common.{sym, ap, ◌∙◌}
use Rattle.std.proofs.lemmas.Bool.{and_left, and_right, not_from_true}
use Rattle.cl_world.specs.World.{moment_after}
use Rattle.cl_schedule.specs.Course.{is_quiet, next_line}
use Rattle.cl_schedule.specs.Making.{texts_of}
use Rattle.cl_schedule.proofs.Chosen.{is_fed, none_left, not_fed}
use Rattle.cl_schedule.proofs.choosing.next_line.Goals as goal

pub returns-in_default : goal.returns-in_default
returns-in_default c = λ shape run sound.
    sym (ap (λ left. next_line c.args.step (is_quiet shape (moment_after shape run)) left) (none_left (texts_of c.args.lines.now) c.args.fed (sym c.in_default.ensures)))

pub returns-then-not-must_wait : goal.returns-then-not-must_wait
returns-then-not-must_wait c = λ shape run sound.
    is_fed c.args.step (is_quiet shape (moment_after shape run)) c.must_wait.result (texts_of c.args.lines.now) c.args.fed c.in-Some.text.now (sym c.in-Some.ensures) c.must_wait.ensures
    (and_left _ _ c.if-not-must_wait.true)

pub returns-then-rests : goal.returns-then-rests
returns-then-rests c = λ shape run sound.
    is_fed c.args.step (is_quiet shape (moment_after shape run)) c.must_wait.result (texts_of c.args.lines.now) c.args.fed c.in-Some.text.now (sym c.in-Some.ensures) c.must_wait.ensures
    (and_right _ _ (not_from_true _ (sym (c.rests.ensures shape run sound) ∙ c.if-rests.true)))

pub returns-else-rests : goal.returns-else-rests
returns-else-rests c = λ shape run sound.
    not_fed c.args.step (is_quiet shape (moment_after shape run)) c.must_wait.result (texts_of c.args.lines.now) c.args.fed c.in-Some.text.now (sym c.in-Some.ensures) c.must_wait.ensures
    c.if-not-must_wait.false (sym (c.rests.ensures shape run sound) ∙ c.if-rests.false)
