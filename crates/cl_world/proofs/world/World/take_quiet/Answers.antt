use Rattle.std.proofs.Common.{false, List, [], ◌∷◌, ◌++◌, Bool, refl, ap, ◌∙◌}
use Rattle.std.proofs.lemmas.List.{map-append}
use Rattle.cl_post.specs.declared.event.Event.{Event}
use Rattle.cl_post.specs.declared.event.Event.TheVariants as events
use Rattle.cl_steps.specs.declared.actors.TheConstants.{FRONT}
use Rattle.cl_types.specs.AppendOnlyList.{entries}
use Rattle.cl_world.specs.Happenings.{marked_of, run_of}
use Rattle.cl_world.proofs.Takes.{quiet_taken}
use Rattle.cl_world.proofs.world.World.take_quiet.Goals as goal

pub returns : goal.returns
returns c = λ shape moment at may.
    let before = entries c.args.self.now.trace in
    let noted : List (Event × Bool) = (events.Quiet, false) ∷ [] in
    let trace = ap run_of (c.push_reserved.ensures.entries ∙ ap (λ es. es ++ noted) c.reserve.ensures.entries) ∙ map-append marked_of before noted in
    quiet_taken shape c.args.self.now _ moment at may refl refl refl refl refl refl refl refl trace
    (c.in_ok-quiet.ensures.ok (moment.actors FRONT) at.actors.front) c.in_ok-quiet.ensures.here
