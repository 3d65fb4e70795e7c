-- What the core sends on a line goes to actors.
use Rattle.std.proofs.Common.{◌≡◌, ap, ◌∙◌}
use Rattle.cl_actor.specs.Acting.{noted_in}
use Rattle.cl_actor.specs.Core.{noted_of}
use Rattle.cl_actor.proofs.Handling.{noted_alike, line_sends_to_actors}
use Rattle.cl_actor.proofs.acting.ActingMachine.feed.Goals as goal

pub finish-requires-clause-sends : goal.finish-requires-clause-sends
finish-requires-clause-sends g c =
    let fit = c.requires.fits in
    let tells : noted_of c.roster.result.now ≡ noted_in fit.0.endpoint =
    noted_alike c.roster.result.now c.args.self.now.endpoint c.roster.ensures.nodes c.roster.ensures.spares c.roster.ensures.entries ∙ ap (λ one. noted_in one) fit.1.1 in
    line_sends_to_actors g.C.Core.fed fit.0 _ _ _ _ c.in_ok-steps.steps tells (c.in_ok-steps.ensures.step fit.0.core fit.1.0).1 fit.2.sends
