use Rattle.std.proofs.Common.{◌≡◌, ◌+◌, ◌++◌, ap, subst, sym, ◌∙◌}
use Rattle.std.proofs.lemmas.Result.{err_from_is_err_and}
use Rattle.cl_world.specs.Mail.{messages_in}
use Rattle.cl_schedule.specs.Making.{HasMade, HasRefused, MayTell, quiet_where}
use Rattle.cl_schedule.specs.Turns.{lines_in}
use Rattle.cl_schedule.proofs.Happens.{nothing_refused, refused_before}
use Rattle.cl_schedule.proofs.Mays.{tell_made, tell_may}
use Rattle.cl_schedule.proofs.meeting.tell.Goals as goal

pub run_events-requires : goal.run_events-requires
run_events-requires c =
    let shape = c.requires.0 in
    let run = c.requires.1 in
    let may = c.requires.2 in
    let has = subst (λ w. HasMade shape c.quieten_where.new.world run (quiet_where w) (messages_in c.args.world.now.mail)) c.must_wait.ensures
    (c.in_ok-quieten_where.ensures shape run (subst (λ w. MayTell shape c.args.world.now run w) (sym c.must_wait.ensures) may)) in
    let numbered : c.in-Some.number ≡ lines_in shape run + 1 = c.in-Some.ensures.1 ∙ ap (λ n. n + 1) (c.fed.ensures shape run may.sound.is) in (
      shape,
      run ++ has.more,
      tell_may shape c.quieten_where.new.world run (messages_in c.args.world.now.mail) c.args.step c.args.text.now c.in-Some.number c.in-Ok.copy c.new.result has numbered c.in-Ok.ensures c.new.ensures,
    )

pub returns-in_default : goal.returns-in_default
returns-in_default c = λ shape run may. nothing_refused shape c.args.world.now run _ may.sound

pub returns-in_default-copy_of : goal.returns-in_default-copy_of
returns-in_default-copy_of c = λ shape run may. nothing_refused shape c.args.world.now run _ may.sound

pub returns-in_err-quieten_where : goal.returns-in_err-quieten_where
returns-in_err-quieten_where c = λ shape run may.
    let exit = err_from_is_err_and c.from_residual.result c.from_residual.ensures.1 in
    let refused = subst (λ w. HasRefused shape c.quieten_where.new.world run (quiet_where w) c.in_err-quieten_where.field-0.0) c.must_wait.ensures
    (c.in_err-quieten_where.ensures shape run (subst (λ w. MayTell shape c.args.world.now run w) (sym c.must_wait.ensures) may)) in
    rw (exit.1, exit.2) (refused_before shape c.quieten_where.new.world run _ _ c.in_err-quieten_where.field-0.0 refused)

pub returns : goal.returns
returns c = λ shape run may.
    let has = subst (λ w. HasMade shape c.quieten_where.new.world run (quiet_where w) (messages_in c.args.world.now.mail)) c.must_wait.ensures
    (c.in_ok-quieten_where.ensures shape run (subst (λ w. MayTell shape c.args.world.now run w) (sym c.must_wait.ensures) may)) in
    let numbered : c.in-Some.number ≡ lines_in shape run + 1 = c.in-Some.ensures.1 ∙ ap (λ n. n + 1) (c.fed.ensures shape run may.sound.is) in
    tell_made shape c.quieten_where.new.world c.run_events.new.self run (messages_in c.args.world.now.mail) c.args.step c.args.text.now c.in-Some.number c.in-Ok.copy c.new.result c.run_events.result has numbered
    c.in-Ok.ensures c.new.ensures
    (c.run_events.ensures shape (run ++ has.more)
    (tell_may shape c.quieten_where.new.world run (messages_in c.args.world.now.mail) c.args.step c.args.text.now c.in-Some.number c.in-Ok.copy c.new.result has numbered c.in-Ok.ensures c.new.ensures))
