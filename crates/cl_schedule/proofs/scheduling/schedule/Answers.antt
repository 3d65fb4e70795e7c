use Rattle.std.proofs.Common.{sym, ◌∙◌}
use Rattle.std.proofs.lemmas.Result.{err_from_is_err_and}
use Rattle.cl_schedule.specs.Making.{texts_of}
use Rattle.cl_schedule.proofs.Scheduled.{begins, breaks_off, breaks_quiet, ends_quiet, goes_on, may_turn, quiet_over}
use Rattle.cl_schedule.proofs.scheduling.schedule.Goals as goal

pub turns-init : goal.turns-init
turns-init g c = λ shape run is whole.
    begins shape c.args.setting.now (g.F.Fates.fates c.args.fates.now) c.args.world.now c.new.result (texts_of c.args.lines.now) run is whole c.new.ensures

pub run_events-requires : goal.run_events-requires
run_events-requires g c =
    let r = c.requires in
    let so_far = c.turns.invariant r.0 r.1 r.2 r.3 in
    let over = sym (c.is_over.ensures r.0 so_far.course so_far.at_course) ∙ c.if-is_over.true in
    (r.0, so_far.course.run, quiet_over r.0 c.args.setting.now (g.F.Fates.fates c.args.fates.now) c.args.world.now c.turns.world c.turns.progress (texts_of c.args.lines.now) r.1 so_far over)

pub returns-in_err-run_events : goal.returns-in_err-run_events
returns-in_err-run_events g c = λ shape run is whole.
    let so_far = c.turns.invariant shape run is whole in
    let over = sym (c.is_over.ensures shape so_far.course so_far.at_course) ∙ c.if-is_over.true in
    let exit = err_from_is_err_and c.from_residual.result c.from_residual.ensures.1 in
    let broken = breaks_quiet shape c.args.setting.now (g.F.Fates.fates c.args.fates.now) c.args.world.now c.turns.world c.turns.progress (texts_of c.args.lines.now) run so_far c.run_events.new.self
    c.in_err-run_events.field-0.0 over
    (c.in_err-run_events.ensures shape so_far.course.run
    (quiet_over shape c.args.setting.now (g.F.Fates.fates c.args.fates.now) c.args.world.now c.turns.world c.turns.progress (texts_of c.args.lines.now) run so_far over)) in
    rw (exit.1, exit.2) broken

pub returns-then-is_over : goal.returns-then-is_over
returns-then-is_over g c = λ shape run is whole.
    let so_far = c.turns.invariant shape run is whole in
    let over = sym (c.is_over.ensures shape so_far.course so_far.at_course) ∙ c.if-is_over.true in
    ends_quiet shape c.args.setting.now (g.F.Fates.fates c.args.fates.now) c.args.world.now c.turns.world c.turns.progress (texts_of c.args.lines.now) run so_far c.run_events.new.self over
    (c.in_ok-run_events.ensures shape so_far.course.run
    (quiet_over shape c.args.setting.now (g.F.Fates.fates c.args.fates.now) c.args.world.now c.turns.world c.turns.progress (texts_of c.args.lines.now) run so_far over))

pub turns-preserved : goal.turns-preserved
turns-preserved g c = λ shape run is whole.
    let so_far = c.turns.invariant shape run is whole in
    let on = sym (c.is_over.ensures shape so_far.course so_far.at_course) ∙ c.if-is_over.false in
    goes_on shape c.args.setting.now (g.F.Fates.fates c.args.fates.now) c.args.world.now c.turns.world c.turns.progress (texts_of c.args.lines.now) run so_far c.turn.new.world c.turn.new.progress on
    c.if-progress-setting.false
    (c.in_ok-turn.ensures shape so_far.course so_far.at_course
    (may_turn shape c.args.setting.now (g.F.Fates.fates c.args.fates.now) c.args.world.now c.turns.world c.turns.progress (texts_of c.args.lines.now) run so_far on c.if-progress-setting.false))

pub returns-in_err-turn : goal.returns-in_err-turn
returns-in_err-turn g c = λ shape run is whole.
    let so_far = c.turns.invariant shape run is whole in
    let on = sym (c.is_over.ensures shape so_far.course so_far.at_course) ∙ c.if-is_over.false in
    let exit = err_from_is_err_and c.from_residual-in_err-turn.result c.from_residual-in_err-turn.ensures.1 in
    let broken = breaks_off shape c.args.setting.now (g.F.Fates.fates c.args.fates.now) c.args.world.now c.turns.world c.turns.progress (texts_of c.args.lines.now) run so_far c.turn.new.world
    c.in_err-turn.field-0.0 on c.if-progress-setting.false
    (c.in_err-turn.ensures shape so_far.course so_far.at_course
    (may_turn shape c.args.setting.now (g.F.Fates.fates c.args.fates.now) c.args.world.now c.turns.world c.turns.progress (texts_of c.args.lines.now) run so_far on c.if-progress-setting.false)) in
    rw (exit.1, exit.2) broken
