-- What holds of the parts of a list, of its image and of what a filter keeps.
use Rattle.std.proofs.Common.{◌≡◌, ℕ, zero, suc, ◌+◌, ◌<◌, ◌≤◌, Bool, true, false, List, [], ◌∷◌, ◌++◌, map, length, take, drop, get_or, set}
use Rattle.std.proofs.Common.{refl, sym, ap, ◌∙◌, subst, arith}
use Rattle.std.specs.List.{All, AllWithin, HoldsAt, filter}
use Rattle.std.proofs.lemmas.Bool.{cond-true, cond-false}
use Rattle.std.proofs.lemmas.List.{take-append-drop, set_split, drop_more, get_or-take, get_or-drop, length-take-le, length-drop, length-map, get_or-map}
use Rattle.std.proofs.lemmas.List.Elements.{All-head, All-tail}

-- a list is what stands before an element, the element, and what stands behind it
pub split_at : {X : Type 0} (xs : List X) (at : ℕ) (x : X) → at < length xs → x ≡ get_or xs at x → xs ≡ take at xs ++ x ∷ drop (at + 1) xs
split_at xs at x inside read =
    sym (take-append-drop at xs)
    ∙ ap (λ rest. take at xs ++ rest) (drop_more xs at x inside)
    ∙ ap (λ y. take at xs ++ y ∷ drop (at + 1) xs) (sym read)

-- a list with another element at an index
pub set_at : {X : Type 0} (xs : List X) (at : ℕ) (x : X) → at < length xs → set xs at x ≡ take at xs ++ x ∷ drop (at + 1) xs
set_at xs at x inside = set_split xs at x inside ∙ ap (λ n. take at xs ++ x ∷ drop n xs) (let same : suc at ≡ at + 1 = omega arith in same)

-- functions that agree on a list have the same image of it
pub map-same : {X Y : Type 0} (f g : X → Y) (xs : List X) → All (λ x. f x ≡ g x) xs → map f xs ≡ map g xs
map-same f g [] same = refl
map-same f g (x ∷ xs) same =
    ap (λ y. y ∷ map f xs) (All-head (λ y. f y ≡ g y) x xs same)
    ∙ ap (λ ys. g x ∷ ys) (map-same f g xs (All-tail (λ y. f y ≡ g y) x xs same))

pub HoldsAt-map : {X Y : Type 0} (P : Y → Type 0) (f : X → Y) (xs : List X) (at : ℕ) → at < length xs → HoldsAt (λ x. P (f x)) xs at → HoldsAt P (map f xs) at
HoldsAt-map P f [] at inside holds = absurd (omega arith)
HoldsAt-map P f (x ∷ xs) zero inside holds = λ d. holds x
HoldsAt-map P f (x ∷ xs) (suc at) inside holds = HoldsAt-map P f xs at (omega arith) holds

pub All-unmap : {X Y : Type 0} (P : Y → Type 0) (f : X → Y) (xs : List X) → All P (map f xs) → All (λ x. P (f x)) xs
All-unmap P f xs all = λ k d inside. subst P (get_or-map f xs k d (f d) inside) (all k (f d) (rw (length-map xs f) inside))

-- what holds up to an index, and what holds from it on
pub All-take_within : {X : Type 0} (P : X → Type 0) (xs : List X) (at : ℕ) → at ≤ length xs → AllWithin P xs 0 at → All P (take at xs)
All-take_within P xs at inside within = λ k d below.
    let low : k < at = omega (arith, length-take-le at xs inside) in
    subst P (sym (get_or-take at xs k d low)) (within k d (omega arith) low)

pub All-drop_within : {X : Type 0} (P : X → Type 0) (xs : List X) (at : ℕ) → at ≤ length xs → AllWithin P xs at (length xs) → All P (drop at xs)
All-drop_within P xs at inside within = λ k d below.
    subst P (sym (get_or-drop at xs k d)) (within (at + k) d (omega arith) (omega (arith, length-drop at xs)))

pub filter-none : {X : Type 0} (p : X → Bool) (xs : List X) → All (λ x. p x ≡ false) xs → filter p xs ≡ []
filter-none p [] fail = refl
filter-none p (x ∷ xs) fail = cond-false _ _ _ (All-head (λ y. p y ≡ false) x xs fail) ∙ filter-none p xs (All-tail (λ y. p y ≡ false) x xs fail)

pub filter-all : {X : Type 0} (p : X → Bool) (xs : List X) → All (λ x. p x ≡ true) xs → filter p xs ≡ xs
filter-all p [] pass = refl
filter-all p (x ∷ xs) pass =
    cond-true _ _ _ (All-head (λ y. p y ≡ true) x xs pass)
    ∙ ap (λ rest. x ∷ rest) (filter-all p xs (All-tail (λ y. p y ≡ true) x xs pass))
