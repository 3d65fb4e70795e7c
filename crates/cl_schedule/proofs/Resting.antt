-- Which actors live, and when all of them rest.
use Rattle.std.proofs.Common.{◌≡◌, ◌↔◌, ℕ, suc, ◌+◌, ◌<◌, Bool, true, false, List, [], length, get_or, IsTrue, inl, inr, refl, ap, sym, subst, ◌∙◌, arith}
use Rattle.std.specs.List.{All, range_with_len}
use Rattle.std.proofs.lemmas.Bool.{and_from, and_parts, false_from_ne_true, not_from_false, not-true}
use Rattle.std.proofs.lemmas.List.Elements.{All-cons}
use Rattle.std.proofs.lemmas.List.FromFn.{length-range_with_len, get_or-range_with_len}
use Rattle.std.proofs.lemmas.List.Sums.{AllPass-from_list_all, list_all-from_AllPass}
use Rattle.cl_roster.specs.declared.entry.RosterEntry.{RosterEntry}
use Rattle.cl_runs.specs.Laws.{IsWithoutStops}
use Rattle.cl_runs.specs.World.{Shape, IsLiving, IsQuiet}
use Rattle.cl_steps.specs.declared.actors.TheConstants.{FRONT}
use Rattle.cl_system.specs.System.{system}
use Rattle.cl_world.specs.World.{Moment}
use Rattle.cl_schedule.specs.Course.{is_quiet, is_resting, living}

-- each of the actors that live does
pub living_live : (shape : Shape) → All (IsLiving shape []) (living shape)
living_live shape =
    let count : ℕ = shape.nodes + shape.spares in
    All-cons (IsLiving shape []) FRONT (range_with_len 0 count) (inl refl)
    (λ k d within.
    let inside : k < count = omega (arith, length-range_with_len 0 count) in
    let below : 0 + k < count = omega arith in
    subst (λ a. IsLiving shape [] a) (sym (get_or-range_with_len 0 count k d inside)) (inr (below, refl)))

-- what holds of the actors that live, by the list of them
pub at_living : (shape : Shape) (roster : List RosterEntry) (P : ℕ → Type 0) → All P (living shape) → (actor : ℕ) → IsLiving shape roster actor → P actor
at_living shape roster P all actor lives =
    let count : ℕ = shape.nodes + shape.spares in
    elim lives [
      | inl here ↦ let first : P FRONT = all 0 FRONT (omega arith) in subst P (sym here) first
      | inr within ↦
          let inside : suc actor < length (living shape) = omega (arith, length-range_with_len 0 count, within.0) in
          let at : get_or (range_with_len 0 count) actor 0 ≡ actor = get_or-range_with_len 0 count actor 0 within.0 ∙ omega arith in
          let found : P (get_or (range_with_len 0 count) actor 0) = all (suc actor) 0 inside in
          subst P at found
    ]

-- where the test passes, the moment is quiet: nobody has stopped
pub quiet_from_test : (shape : Shape) (moment : Moment) → IsWithoutStops moment → is_quiet shape moment ≡ true → IsQuiet (system shape.nodes) shape moment
quiet_from_test shape moment none is =
    let all = AllPass-from_list_all (λ actor. is_resting (moment.actors actor)) (living shape) is in
    record {
      at_rest = λ actor lives. (and_parts _ _ (at_living shape moment.roster (λ a. is_resting (moment.actors a) ≡ true) all actor lives)).0;
      noted = λ actor lives. ap length (none.noted actor ∙ sym none.roster);
      acknowledged = λ actor lives. not-true _ (and_parts _ _ (at_living shape moment.roster (λ a. is_resting (moment.actors a) ≡ true) all actor lives)).1;
    }

-- where it is quiet, the test passes
test_from_quiet : (shape : Shape) (moment : Moment) → IsWithoutStops moment → IsQuiet (system shape.nodes) shape moment → is_quiet shape moment ≡ true
test_from_quiet shape moment none quiet =
    list_all-from_AllPass (λ actor. is_resting (moment.actors actor)) (living shape)
    (λ k d within.
    let lives : IsLiving shape moment.roster (get_or (living shape) k d)
    = subst (λ roster. IsLiving shape roster (get_or (living shape) k d)) (sym none.roster) (living_live shape k d within) in
    and_from _ _ (quiet.at_rest (get_or (living shape) k d) lives) (not_from_false _ (quiet.acknowledged (get_or (living shape) k d) lives)))

-- whether the moment is quiet, by the test
pub quiet_is : (shape : Shape) (moment : Moment) → IsWithoutStops moment → (result : Bool) → IsTrue result ↔ IsQuiet (system shape.nodes) shape moment →
    result ≡ is_quiet shape moment
quiet_is shape moment none true decides = sym (test_from_quiet shape moment none (decides.0 refl))
quiet_is shape moment none false decides = sym (false_from_ne_true (is_quiet shape moment)
    (λ is. let no : false ≡ true = decides.1 (quiet_from_test shape moment none is) in absurd cc))
