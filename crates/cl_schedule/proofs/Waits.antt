-- The actors that wait, one after another.
use Rattle.std.proofs.Common.{◌≡◌, ℕ, ◌+◌, ◌<◌, ◌^◌, Bool, cond, List, [], ◌∷◌, ◌++◌, map, sym, ap, ◌∙◌, arith}
use Rattle.std.specs.List.{filter, range_with_len}
use Rattle.std.proofs.lemmas.List.{map-id}
use Rattle.std.proofs.lemmas.List.Elements.{filter-append}
use Rattle.std.proofs.lemmas.List.FromFn.{map-range_with_len_more}
use Rattle.cl_endpoint.specs.Endpoint.{is_waiting}
use Rattle.cl_runs.specs.World.{Shape, Run}
use Rattle.cl_steps.specs.declared.actors.TheConstants.{FRONT}
use Rattle.cl_world.proofs.Moves.{below_front}
use Rattle.cl_schedule.specs.Course.{time, waiting_actors}
use Rattle.cl_schedule.specs.Making.{IsSound}
use Rattle.cl_world.specs.World.{moment_after}
use Rattle.cl_world.specs.declared.world.World.{World}

range_more : (count : ℕ) → range_with_len 0 (count + 1) ≡ range_with_len 0 count ++ count ∷ []
range_more count =
    sym (map-id (range_with_len 0 (count + 1))) ∙ map-range_with_len_more (λ (x : ℕ). x) 0 count count (omega arith) ∙ ap (λ (xs : List ℕ). xs ++ count ∷ []) (map-id (range_with_len 0 count))

-- one node or spare more
pub waits_more : (waits : ℕ → Bool) (before after : List ℕ) (count : ℕ) (result : Bool) → before ≡ filter waits (FRONT ∷ range_with_len 0 count) →
    after ≡ before ++ cond result (count ∷ []) [] → result ≡ waits count →
    after ≡ filter waits (FRONT ∷ range_with_len 0 (count + 1))
waits_more waits before after count result so_far is told =
    is ∙ ap (λ (xs : List ℕ). xs ++ cond result (count ∷ []) []) so_far ∙ ap (λ (b : Bool). filter waits (FRONT ∷ range_with_len 0 count) ++ cond b (count ∷ []) []) told
    ∙ sym (filter-append waits (FRONT ∷ range_with_len 0 count) (count ∷ [])) ∙ ap (λ (xs : List ℕ). filter waits (FRONT ∷ xs)) (sym (range_more count))

-- a node or a spare has a number of 32 bits
pub node_fits : (shape : Shape) (made : World) (run : Run) (members index : ℕ) → IsSound shape made run → members ≡ shape.nodes + shape.spares →
    index < members → index < 2 ^ 32
node_fits shape made run members index sound counted within = omega (arith, below_front shape index sound.is.now.size (omega arith))

-- the front alone
pub front_waits : (waits : ℕ → Bool) (before after : List ℕ) (result : Bool) → before ≡ [] → after ≡ before ++ cond result (FRONT ∷ []) [] →
    result ≡ waits FRONT → after ≡ filter waits (FRONT ∷ range_with_len 0 0)
front_waits waits before after result none is told = is ∙ ap (λ (xs : List ℕ). xs ++ cond result (FRONT ∷ []) []) none ∙ ap (λ (b : Bool). cond b (FRONT ∷ []) []) told

-- all of them
pub all_wait : (shape : Shape) (made : World) (run : Run) (count : ℕ) (actors : List ℕ) → count ≡ shape.nodes + shape.spares →
    actors ≡ filter (λ actor. is_waiting ((moment_after shape run).actors actor).endpoint) (FRONT ∷ range_with_len 0 count) →
    map time actors ≡ waiting_actors shape (moment_after shape run)
all_wait shape made run count actors counted are =
    ap (λ (xs : List ℕ). map time xs) are ∙ ap (λ (n : ℕ). map time (filter (λ actor. is_waiting ((moment_after shape run).actors actor).endpoint) (FRONT ∷ range_with_len 0 n))) counted
