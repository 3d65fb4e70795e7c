-- Where an actor keeps nothing, its living peers have accepted all that it gave.
use Rattle.std.proofs.Common.{◌≡◌, ◌⊎◌, ℕ, zero, suc, false, not, eqb, List, [], ◌∷◌, length, drop, get_or, refl, ap, ◌∙◌, inl, inr, arith}
use Rattle.std.specs.List.{list_any}
use Rattle.std.proofs.Math.Seq.{drop-nil}
use Rattle.std.proofs.lemmas.Bool.{eqb-true, not-false, or_parts, cond_both}
use Rattle.std.proofs.lemmas.List.{drop_all, length-map}
use Rattle.cl_link.specs.LinkState.{LinkState, no_message}
use Rattle.cl_roster.specs.Roster.{IsClusterSize, has_stopped}
use Rattle.cl_wire.specs.Message.{Content}
use Rattle.cl_endpoint.specs.Endpoint.{EndpointState, link_to, is_waiting}
use Rattle.cl_runs.specs.World.{Cores, Shape, World, endpoints_of, IsLiving, IsQuiet}
use Rattle.cl_runs.specs.Queues.{Tagged, Queues, queue_unless}
use Rattle.cl_runs.specs.Laws.{IsLinked}
use Rattle.cl_runs.proofs.Noting.{living_unstopped, unnoted}
use Rattle.cl_runs.proofs.Events.{IsOfCluster, IsSound, noted_all}

keeps_nothing : (links : List (LinkState Content)) (peer : ℕ) → list_any (λ link. not (eqb (length link.kept) 0)) links ≡ false → length (get_or links peer no_message).kept ≡ 0
keeps_nothing [] peer none = refl
keeps_nothing (link ∷ links) zero none = eqb-true (length link.kept) 0 (not-false _ (or_parts _ _ none).0)
keeps_nothing (link ∷ links) (suc peer) none = keeps_nothing links peer (or_parts _ _ none).1

pub waits_for_nothing : (e : EndpointState) (peer : ℕ) → is_waiting e ≡ false → length (link_to e peer).kept ≡ 0
unfolding is_waiting
waits_for_nothing e peer none = keeps_nothing e.links peer none

pub nothing_waits : (ends : ℕ → EndpointState) (given : Queues) (from to : ℕ) → IsLinked ends given from to → has_stopped (ends from).noted to ≡ false →
    is_waiting (ends from) ≡ false →
    drop (link_to (ends to) from).accepted (given from to) ≡ []
nothing_waits ends given from to linked lives none =
    drop_all (link_to (ends to) from).accepted (given from to)
    (omega (
      arith,
      linked.order.numbered,
      (linked.acks lives).released,
      waits_for_nothing (ends from) to none,
      length-map (given from to) (λ (t : Tagged). t.content),
    ))

module _ {S : Type 0} (cores : Cores S) (shape : Shape) (size : IsClusterSize shape.nodes shape.spares) (world : World S) (given : Queues)
    (sound : IsSound shape (record { world = world; given = given }))
    (quiet : IsQuiet cores shape world) (from to : ℕ) (lives : IsLiving shape world.roster to) where
  -- of a giver that lives all was accepted
  living_gives_nothing : IsLiving shape world.roster from → drop (link_to (world.actors to).endpoint from).accepted (given from to) ≡ []
  living_gives_nothing giver =
      nothing_waits (endpoints_of world) given from to (sound.linked.linked from to)
      (unnoted (world.actors from).endpoint.noted world.roster to (sound.noted.noted from)
      (living_unstopped shape world.roster to size sound.noted.lawful lives)) (quiet.acknowledged from giver)

  nothing_of : (known : IsOfCluster shape from ⊎ (given from to ≡ [])) → has_stopped world.roster from ≡ false →
      drop (link_to (world.actors to).endpoint from).accepted (given from to) ≡ []
  nothing_of (inl (inl front)) unstopped = living_gives_nothing (inl front)
  nothing_of (inl (inr node)) unstopped = living_gives_nothing (inr (node, unstopped))
  nothing_of (inr none) unstopped = ap (drop (link_to (world.actors to).endpoint from).accepted) none ∙ drop-nil _

  -- at a quiet moment nothing is on its way to a living actor: it has noted the stop of who does not live
  pub quiet_empties : queue_unless (has_stopped (world.actors to).endpoint.noted from)
      (drop (link_to (world.actors to).endpoint from).accepted (given from to)) ≡ []
  quiet_empties =
      let waiting : List Tagged = drop (link_to (world.actors to).endpoint from).accepted (given from to) in
      ap (λ entries. queue_unless (has_stopped entries from) waiting) (noted_all shape world given sound to (quiet.noted to lives))
      ∙ cond_both (has_stopped world.roster from) [] waiting (λ all. all ≡ []) (λ stopped. refl) (nothing_of (sound.known from to))
