use Rattle.std.proofs.lemmas.Result.{err_from_is_err_and}
use Rattle.cl_schedule.proofs.Turned.{sound_of, time_may, time_refused, time_turned}
use Rattle.cl_schedule.proofs.turning.take_time.Goals as goal

pub pass-requires : goal.pass-requires
pass-requires c =
    let may = c.requires.course.4 in
    let course = c.requires.course.3 in (
      c.requires.course.0,
      course.run,
      sound_of c.requires.course.0 c.args.world.now c.args.progress.now c.requires.course.2 course may.at_course,
      time_may c.requires.course.0 c.requires.course.1 c.args.world.now c.args.progress.now c.requires.course.2 course c.args.actor may,
    )

pub returns-in_err-pass : goal.returns-in_err-pass
returns-in_err-pass c = λ shape setting fates lines course may.
    let exit = err_from_is_err_and c.from_residual.result c.from_residual.ensures.1 in
    let refused = time_refused shape setting c.args.world.now c.args.progress.now lines course c.args.actor may fates c.pass.new.world c.in_err-pass.field-0.0
    (c.in_err-pass.ensures shape course.run (sound_of shape c.args.world.now c.args.progress.now lines course may.at_course) (time_may shape setting c.args.world.now c.args.progress.now lines course c.args.actor may)) in
    rw (exit.1, exit.2) refused

pub returns : goal.returns
returns c = λ shape setting fates lines course may.
    time_turned shape setting c.args.world.now c.args.progress.now lines course c.args.actor may fates c.pass.new.world
    (c.in_ok-pass.ensures shape course.run (sound_of shape c.args.world.now c.args.progress.now lines course may.at_course) (time_may shape setting c.args.world.now c.args.progress.now lines course c.args.actor may))
