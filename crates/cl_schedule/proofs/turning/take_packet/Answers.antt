use Rattle.std.proofs.Common.{◌≡◌, ◌∙◌}
use Rattle.std.proofs.lemmas.Result.{err_from_is_err_and}
use Rattle.cl_schedule.specs.Turns.{is_gone}
use Rattle.cl_schedule.proofs.Turned.{asked_same, fate_asked, met_as, no_memory, packet_may, packet_refused, packet_turned}
use Rattle.cl_schedule.proofs.turning.take_packet.Goals as goal

pub returns-in_default : goal.returns-in_default
returns-in_default g c = λ shape setting lines course may. no_memory shape setting c.args.world.now c.args.progress.now lines course (g.F.Fates.fates c.args.fates.now) may.at_course

pub meet-requires-2 : goal.meet-requires-2
meet-requires-2 g c =
    let r = c.requires.course in
    (r.0, r.3.run, packet_may r.0 r.1 c.args.world.now c.args.progress.now r.2 r.3 c.args.id c.args.to r.4)

pub returns-in_err-meet : goal.returns-in_err-meet
returns-in_err-meet g c = λ shape setting lines course may.
    let before = c.args.world.now in
    let progress = c.args.progress.now in
    let exit = err_from_is_err_and c.from_residual.result c.from_residual.ensures.1 in
    let same = asked_same shape setting before progress lines course c.args.id c.args.to may in
    let is : c.fate-fate.result ≡ g.F.Fates.fates c.args.fates.now c.args.id (course.asked c.args.id) = fate_asked (g.F.Fates.fates c.args.fates.now) c.args.id _ _ _ c.fate-fate.ensures (c.times.ensures ∙ same) in
    let refused = packet_refused shape setting before progress lines course c.args.id c.args.to may (g.F.Fates.fates c.args.fates.now) c.fate-fate.result is c.meet-2.new.world c.in_err-meet.field-0.0
    (c.in_err-meet.ensures shape course.run (packet_may shape setting before progress lines course c.args.id c.args.to may)) in
    rw (exit.1, exit.2) refused

pub returns : goal.returns
returns g c = λ shape setting lines course may.
    let before = c.args.world.now in
    let progress = c.args.progress.now in
    let same = asked_same shape setting before progress lines course c.args.id c.args.to may in
    let is : c.fate-fate.result ≡ g.F.Fates.fates c.args.fates.now c.args.id (course.asked c.args.id) = fate_asked (g.F.Fates.fates c.args.fates.now) c.args.id _ _ _ c.fate-fate.ensures (c.times.ensures ∙ same) in
    packet_turned shape setting before progress lines course c.args.id c.args.to may (g.F.Fates.fates c.args.fates.now) c.fate-fate.result is c.meet-2.new.world c.meet.new.self
    (met_as (is_gone c.fate-fate.result) c.is_gone.result progress.asked c.meet.new.self c.args.id c.is_gone.ensures c.in-Ok.ensures)
    (c.in_ok-meet.ensures shape course.run (packet_may shape setting before progress lines course c.args.id c.args.to may))
