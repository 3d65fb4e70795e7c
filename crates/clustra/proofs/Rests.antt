-- A run whose last event is the quiet moment is at rest.
use Rattle.std.proofs.Common.{◌≡◌, ◌+◌, Bool, true, List, [], ◌∷◌, ◌++◌, refl, sym, ap, subst, ◌∙◌}
use Rattle.std.specs.List.{list_all, range_with_len}
use Rattle.std.proofs.lemmas.Bool.{and_parts}
use Rattle.std.proofs.lemmas.List.Sums.{fold-append}
use Rattle.cl_runs.specs.World.{EachMayHappen, Happening, IsEnabled, IsRun, Run, Shape, after, after_event, first_world, quiet, world_after}
use Rattle.cl_schedule.specs.Course.{is_quiet, is_resting}
use Rattle.cl_steps.specs.declared.actors.TheConstants.{FRONT}
use Rattle.cl_system.specs.System.{Core, front, node, is_core_at_rest, quieted_core, system}
use Rattle.cl_world.specs.Running.{happened}
use Rattle.cl_world.specs.World.{Moment, moment_after}

-- the first part of a run is a run

first_may : {W E : Type 0} (May : W → E → Type 0) (next : W → E → W) (first back : List E) (state : W) → EachMayHappen May next (first ++ back) state →
    EachMayHappen May next first state
first_may May next [] back state may = tt
first_may May next (event ∷ first) back state may = (may.0, first_may May next first back (next state event) may.1)

pub first_run : (shape : Shape) (first back : Run) → IsRun (system shape.nodes) shape (first ++ back) → IsRun (system shape.nodes) shape first
unfolding IsRun
first_run shape first back is = first_may (λ world event. IsEnabled (system shape.nodes) shape world event.0) (after_event (system shape.nodes)) first back
    (first_world (system shape.nodes) shape) is

-- the front is at rest after the quiet moment

quieted_rests : (core : Core) → is_core_at_rest FRONT (quieted_core FRONT core) ≡ is_core_at_rest FRONT core
quieted_rests (front state) = refl
quieted_rests (node state) = refl

quiet_rests : (shape : Shape) (moment : Moment) → is_quiet shape moment ≡ true → is_core_at_rest FRONT (moment.actors FRONT).core ≡ true
quiet_rests shape moment is =
    (and_parts (is_core_at_rest FRONT (moment.actors FRONT).core) _
    (and_parts (is_resting (moment.actors FRONT)) (list_all (λ actor. is_resting (moment.actors actor)) (range_with_len 0 (shape.nodes + shape.spares))) is).0).0

quiet_after : (shape : Shape) (moment : Moment) (mark : Bool) → is_quiet shape moment ≡ true →
    is_core_at_rest FRONT ((after (system shape.nodes) moment quiet mark).actors FRONT).core ≡ true
unfolding after
quiet_after shape moment mark is = quieted_rests (moment.actors FRONT).core ∙ quiet_rests shape moment is

-- what happened is the quiet moment alone
pub one_quiet : (more : Run) → happened more ≡ quiet ∷ [] → (mark : Bool) × (more ≡ (quiet, mark) ∷ [])
one_quiet [] happens = absurd (cc)
one_quiet (event ∷ []) happens =
    let first : event.0 ≡ quiet = cc in
    (event.1, ap (λ (h : Happening). (h, event.1) ∷ []) first)
one_quiet (event ∷ next ∷ more) happens = absurd (cc)

pub rests_after : (shape : Shape) (run more : Run) → is_quiet shape (moment_after shape run) ≡ true → happened more ≡ quiet ∷ [] →
    is_core_at_rest FRONT ((moment_after shape (run ++ more)).actors FRONT).core ≡ true
unfolding world_after
rests_after shape run more is happens =
    let one = one_quiet more happens in
    let Rests : Moment → Type 0 = λ moment. is_core_at_rest FRONT (moment.actors FRONT).core ≡ true in
    let same : moment_after shape (run ++ more) ≡ after (system shape.nodes) (moment_after shape run) quiet one.0 =
    ap (λ (all : Run). moment_after shape (run ++ all)) one.1 ∙ fold-append (after_event (system shape.nodes)) (first_world (system shape.nodes) shape) run
    ((quiet, one.0) ∷ []) in
    subst Rests (sym same) (quiet_after shape (moment_after shape run) one.0 is)
