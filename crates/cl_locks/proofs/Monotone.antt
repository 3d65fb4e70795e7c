-- Fewer grants, and weaker modes.
use Rattle.std.proofs.Common.{◌≡◌, ◌≤◌, Bool, true, List, [], ◌∷◌, ◌++◌, Some, None, find, option_map, refl, ap, ◌∙◌, arith}
use Rattle.std.specs.List.{list_all}
use Rattle.std.proofs.lemmas.Bool.{and_parts, and_from}
use Rattle.cl_types.specs.declared.operations.Mode.{Mode}
use Rattle.cl_types.specs.declared.operations.TxnId.{TxnId}
use Rattle.cl_types.specs.Modes.{strength}
use Rattle.cl_types.specs.Places.{Place}
use Rattle.cl_types.proofs.Modes.{is_conflict-symmetric}
use Rattle.cl_types.proofs.Strength.{is_conflict-monotone}
use Rattle.cl_locks.specs.Grants.{Grant, is_in_conflict, first_conflict, is_compatible, are_compatible}
use Rattle.cl_locks.proofs.GrantLists.{mapped_none}

list_all-beginning : {A : Type 0} (p : A → Bool) (xs ys : List A) → list_all p (xs ++ ys) ≡ true → list_all p xs ≡ true
list_all-beginning p [] ys all = refl
list_all-beginning p (x ∷ xs) ys all = and_from _ _ (and_parts _ _ all).0 (list_all-beginning p xs ys (and_parts _ _ all).1)

pub are_compatible-beginning : (before after : List Grant) → are_compatible (before ++ after) ≡ true → are_compatible before ≡ true
unfolding are_compatible
are_compatible-beginning [] after all = refl
are_compatible-beginning (grant ∷ before) after all =
    and_from _ _ (list_all-beginning (is_compatible grant) before after (and_parts _ _ all).0) (are_compatible-beginning before after (and_parts _ _ all).1)

is_in_conflict-stronger : (txn : TxnId) (place : Place) (weak strong : Mode) (grant : Grant) → strength (Some weak) ≤ strength (Some strong) → is_in_conflict txn place weak grant ≡ true → is_in_conflict txn place strong grant ≡ true
is_in_conflict-stronger txn place weak strong grant most conflict =
    let here = and_parts _ _ conflict in
    let other = and_parts _ _ here.1 in
    let met = is_conflict-symmetric (Some weak) (Some grant.mode) ∙ other.1 in
    and_from _ _ here.0 (and_from _ _ other.0 (is_conflict-symmetric (Some grant.mode) (Some strong) ∙ is_conflict-monotone (Some weak) (Some strong) (Some grant.mode) most met))

find-none_implied : {A : Type 0} (p q : A → Bool) → ((x : A) → p x ≡ true → q x ≡ true) → (xs : List A) → find q xs ≡ None → find p xs ≡ None
find-none_implied p q implies [] none = refl
find-none_implied p q implies (x ∷ xs) none = grind (arith, implies x, find-none_implied p q implies xs)

pub first_conflict-weaker : (grants : List Grant) (txn : TxnId) (place : Place) (weak strong : Mode) → strength (Some weak) ≤ strength (Some strong) → first_conflict grants txn place strong ≡ None → first_conflict grants txn place weak ≡ None
unfolding first_conflict
first_conflict-weaker grants txn place weak strong most none =
    let found = mapped_none (λ (g : Grant). g.txn) _ none in
    ap (option_map (λ (g : Grant). g.txn)) (find-none_implied (is_in_conflict txn place weak) (is_in_conflict txn place strong) (λ grant. is_in_conflict-stronger txn place weak strong grant most) grants found)
