-- Where no stop is ever offered, nobody stops, and nobody notes anything.
use Rattle.std.proofs.Common.{◌≡◌, ℕ, Bool, List, [], ◌∷◌, ◌++◌, Option, Some, None, refl, ap, ◌∙◌, subst}
use Rattle.std.specs.List.{fold, slice_get}
use Rattle.cl_link.specs.Network.{IsPrefixOf}
use Rattle.cl_roster.specs.declared.entry.RosterEntry.{RosterEntry}
use Rattle.cl_roster.specs.Roster.{IsClusterSize}
use Rattle.cl_steps.specs.declared.actors.TheConstants.{FRONT}
use Rattle.cl_wire.specs.Message.{Message}
use Rattle.cl_endpoint.specs.Endpoint.{set_number}
use Rattle.cl_actor.specs.Acting.{noted_in}
use Rattle.cl_runs.specs.World.{Cores, Shape, World, Happening, handle, note, stop, Run, first_world, packet_at, after_handling, after_noting}
use Rattle.cl_runs.specs.World.{with_offered, after, after_event, world_after, IsWideRun}
use Rattle.cl_runs.specs.Laws.{IsNotedBy, NeverStops, IsWithoutStops}
use Rattle.cl_runs.proofs.Runs.{rosters_are_noted}

module _ {S : Type 0} (cores : Cores S) (never : NeverStops cores) where
  handling_leaves : (world : World S) (actor : ℕ) (mark : Bool) (packet : Option Message) → (after_handling cores world actor mark packet).roster ≡ world.roster
  handling_leaves world actor mark None = refl
  handling_leaves world actor mark (Some m) = refl

  noting_leaves : (world : World S) (actor : ℕ) (next : Option RosterEntry) → (after_noting cores world actor next).roster ≡ world.roster
  noting_leaves world actor None = refl
  noting_leaves world actor (Some entry) = refl

  -- no event changes the roster
  event_leaves : (world : World S) (happening : Happening) (mark : Bool) → (after cores world happening mark).roster ≡ world.roster
  unfolding after
  event_leaves world (handle actor id) mark = handling_leaves world actor mark (packet_at world id)
  event_leaves world (note actor) mark = noting_leaves world actor (slice_get world.roster (set_number (world.actors actor).endpoint))
  event_leaves world (stop n) mark = ap (with_offered world.roster) (never (noted_in (world.actors FRONT).endpoint) (world.actors FRONT).core n)
  event_leaves world other mark = refl

  run_leaves : (run : Run) (world : World S) → (fold (after_event cores) world run).roster ≡ world.roster
  run_leaves [] world = refl
  run_leaves (event ∷ run) world = run_leaves run (after_event cores world event) ∙ event_leaves world event.0 event.1

nothing_before : {X : Type 0} (xs : List X) → IsPrefixOf xs [] → xs ≡ []
nothing_before [] begins = refl
nothing_before (x ∷ xs) begins = absurd (let is : x ∷ (xs ++ begins.0) ≡ [] = begins.1 in cc)

pub nobody_stops : {S : Type 0} (cores : Cores S) (shape : Shape) (run : Run) → IsClusterSize shape.nodes shape.spares → IsWideRun cores shape run →
    NeverStops cores →
    IsWithoutStops (world_after cores shape run)
unfolding world_after
nobody_stops cores shape run size wide never =
    let empty : (world_after cores shape run).roster ≡ [] = run_leaves cores never run (first_world cores shape) in
    let noted : IsNotedBy shape (world_after cores shape run) = rosters_are_noted cores shape run size wide in record {
      roster = empty;
      noted = λ actor. nothing_before _ (subst (IsPrefixOf ((world_after cores shape run).actors actor).endpoint.noted) empty (noted.noted actor));
    }
