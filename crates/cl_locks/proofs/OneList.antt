-- The grants of all places as one list: those of each list of side X, list by list.
use Rattle.std.proofs.Common.{◌≡◌, ◌≢◌, ℕ, zero, suc, true, false, List, [], ◌∷◌, ◌++◌, Option, Some, None, refl, sym, ap, ◌∙◌, subst, arith}
use Rattle.std.specs.List.{filter_map, cons_option, flat_map}
use Rattle.std.proofs.lemmas.Bool.{false_from_ne_true}
use Rattle.std.proofs.lemmas.List.{append-nil}
use Rattle.cl_lists.specs.declared.arena.Arena.{Arena}
use Rattle.cl_lists.specs.declared.slots.Side.TheVariants.{X}
use Rattle.cl_lists.specs.Arena.{lists_on, list_of, item_at}
use Rattle.cl_lists.specs.Lists.{list_at}
use Rattle.cl_lists.specs.SlotList.{has}
use Rattle.cl_lists.proofs.ArenaLaws.{is_placed}
use Rattle.cl_lists.proofs.SlotListLemmas.{has-head, has-tail}
use Rattle.cl_types.specs.Places.{Place, same_place}
use Rattle.cl_types.proofs.Places.{same_place-true}
use Rattle.cl_locks.specs.Grants.{Grant, at_place}
use Rattle.cl_locks.specs.Listed.{place_list, IsListed, grants_on}
use Rattle.cl_locks.proofs.GrantLists.{at_place-append, at_place-none, at_place-another}

-- where no slot of a list has a grant at the place
at_place-away : (place : Place) (item : ℕ → Option Grant) (list : List ℕ) → ((slot : ℕ) (grant : Grant) → has list slot ≡ true → item slot ≡ Some grant → same_place place grant.place ≡ false) → at_place place (filter_map item list) ≡ []
at_place-away place item [] away = at_place-none place
at_place-away place item (slot ∷ list) away = first (item slot) refl (at_place-away place item list (λ other grant on. away other grant (has-tail slot list other on))) where
  first : (found : Option Grant) → item slot ≡ found → at_place place (filter_map item list) ≡ [] → at_place place (cons_option found (filter_map item list)) ≡ []
  first None is rest = rest
  first (Some grant) is rest =
      at_place-append place (grant ∷ []) (filter_map item list)
      ∙ ap (λ gs. gs ++ at_place place (filter_map item list)) (at_place-another place grant (away slot grant (has-head slot list) is))
      ∙ rest

module _ (place : Place) (item : ℕ → Option Grant) where
  -- where no list has a grant at the place
  joined-none : (lists : List (List ℕ)) → ((m : ℕ) → at_place place (filter_map item (list_at lists m)) ≡ []) → at_place place (flat_map (filter_map item) lists) ≡ []
  joined-none [] none = at_place-none place
  joined-none (list ∷ lists) none =
      at_place-append place (filter_map item list) (flat_map (filter_map item) lists)
      ∙ ap (λ gs. gs ++ at_place place (flat_map (filter_map item) lists)) (none zero)
      ∙ joined-none lists (λ m. none (suc m))

  -- where one list alone may have some
  joined-one : (lists : List (List ℕ)) (number : ℕ) → ((m : ℕ) → m ≢ number → at_place place (filter_map item (list_at lists m)) ≡ []) → at_place place (flat_map (filter_map item) lists) ≡ at_place place (filter_map item (list_at lists number))
  joined-one [] number others = refl
  joined-one (list ∷ lists) zero others =
      at_place-append place (filter_map item list) (flat_map (filter_map item) lists)
      ∙ ap (λ gs. at_place place (filter_map item list) ++ gs) (joined-none lists (λ m. others (suc m) (λ e. absurd cc)))
      ∙ append-nil (at_place place (filter_map item list))
  joined-one (list ∷ lists) (suc number) others =
      at_place-append place (filter_map item list) (flat_map (filter_map item) lists)
      ∙ ap (λ gs. gs ++ at_place place (flat_map (filter_map item) lists)) (others zero (λ e. absurd cc))
      ∙ joined-one lists number (λ m apart. others (suc m) (λ e. apart (omega (arith, e))))

-- the grants of all places
pub all_grants : Arena Grant → List Grant
all_grants granted = flat_map (filter_map (item_at granted)) (lists_on granted X)

pub at_place-all_grants : (granted : Arena Grant) → IsListed granted → (place : Place) → grants_on granted place ≡ at_place place (all_grants granted)
unfolding grants_on all_grants
at_place-all_grants granted listed place = sym (joined-one place (item_at granted) (lists_on granted X) (place_list place.1) (λ m apart.
    at_place-away place (item_at granted) (list_of granted X m) (λ slot grant on is. false_from_ne_true _ (λ same.
    let home = subst (λ p. has (list_of granted X (place_list p.1)) slot ≡ true) (sym (same_place-true place grant.place same)) (listed.by_place slot grant is) in
    apart ((is_placed granted X).on_one m (place_list place.1) slot on home)))))
