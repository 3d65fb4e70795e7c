use Rattle.std.proofs.lemmas.Result.{err_from_is_err_and}
use Rattle.cl_schedule.specs.Making.{texts_of}
use Rattle.cl_schedule.proofs.Turned.{line_may, line_refused, line_turned}
use Rattle.cl_schedule.proofs.turning.take_line.Goals as goal

pub tell-requires : goal.tell-requires
tell-requires c = (
  c.requires.0,
  c.requires.1.run,
  line_may c.requires.0 c.args.setting.now c.args.world.now c.args.progress.now (texts_of c.args.lines.now) c.requires.1 c.args.text c.requires.2,
)

pub returns-in_err-tell : goal.returns-in_err-tell
returns-in_err-tell c = λ shape fates course may.
    let exit = err_from_is_err_and c.from_residual.result c.from_residual.ensures.1 in
    let refused = line_refused shape c.args.setting.now c.args.world.now c.args.progress.now (texts_of c.args.lines.now) course c.args.text may fates c.tell.new.world c.in_err-tell.field-0.0
    (c.in_err-tell.ensures shape course.run (line_may shape c.args.setting.now c.args.world.now c.args.progress.now (texts_of c.args.lines.now) course c.args.text may)) in
    rw (exit.1, exit.2) refused

pub returns : goal.returns
returns c = λ shape fates course may.
    line_turned shape c.args.setting.now c.args.world.now c.args.progress.now (texts_of c.args.lines.now) course c.args.text may fates c.tell.new.world
    (c.in_ok-tell.ensures shape course.run (line_may shape c.args.setting.now c.args.world.now c.args.progress.now (texts_of c.args.lines.now) course c.args.text may))
