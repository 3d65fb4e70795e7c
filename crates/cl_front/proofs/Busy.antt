-- How many sessions are busy.
use Rattle.std.proofs.Common.{◌≡◌, ℕ, ◌+◌, nat_lt, Bool, true, false, ◌||◌, cond, List, [], ◌∷◌, arith, refl, ◌∙◌, ap}
use Rattle.std.specs.List.{list_any, count_by}
use Rattle.std.proofs.lemmas.Bool.Decides.{nat_tests}
use Rattle.std.proofs.lemmas.List.Sums.{sum_by-cons}

one_more : (found any : Bool) (count whole : ℕ) → whole ≡ cond found 1 0 + count → any ≡ nat_lt 0 count → (found || any) ≡ nat_lt 0 whole
one_more true any count whole e same = grind (arith, nat_tests)
one_more false any count whole e same = same ∙ ap (λ n. nat_lt 0 n) (let k : count ≡ whole = omega arith in k)

-- none passes exactly where the count is 0
pub list_any-count_by : {X : Type 0} (p : X → Bool) (xs : List X) → list_any p xs ≡ nat_lt 0 (count_by p xs)
list_any-count_by p [] = refl
list_any-count_by p (x ∷ xs) = one_more (p x) (list_any p xs) (count_by p xs) (count_by p (x ∷ xs)) (sum_by-cons (λ y. cond (p y) 1 0) x xs) (list_any-count_by p xs)
