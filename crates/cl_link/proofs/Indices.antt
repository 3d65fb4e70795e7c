-- What stands at an index of a list, and what holds of each of its elements.
use Rattle.std.proofs.Common.{inl, inr, ◌≡◌, ℕ, zero, suc, ◌+◌, ◌<◌, List, [], ◌∷◌, ◌++◌, length, drop, Some, refl, ap, sym, ◌∙◌, subst, arith, zero-add}
use Rattle.std.specs.List.{slice_get, All, Contains, remove}
use Rattle.std.proofs.lemmas.List.{get_or_append_left, length-append}
use Rattle.std.proofs.lemmas.List.Elements.{All-append, All-take, All-drop, All-get_or, All-contains, Contains-get_or, Contains-push_cases, All-contains_itself}
use Rattle.std.proofs.lemmas.Option.{slice_get_within, slice_get-get_or, get_or_from_slice_get}

-- what stands at an index still stands there once more was added at the end
pub slice_get_kept : {X : Type 0} (xs ys : List X) (i : ℕ) (x : X) → slice_get xs i ≡ Some x → slice_get (xs ++ ys) i ≡ Some x
slice_get_kept xs ys i x at =
    let within : i < length xs = slice_get_within xs i x at in
    let longer : i < length (xs ++ ys) = omega (arith, length-append xs ys) in
    slice_get-get_or (xs ++ ys) i x longer ∙ ap Some (get_or_append_left xs ys x i within ∙ get_or_from_slice_get xs i x x at)

pub slice_get-drop : {X : Type 0} (n : ℕ) (xs : List X) (i : ℕ) → slice_get (drop n xs) i ≡ slice_get xs (n + i)
slice_get-drop zero xs i = ap (slice_get xs) (sym (zero-add i))
slice_get-drop (suc n) [] i = refl
slice_get-drop (suc n) (x ∷ xs) i =
    let next : suc n + i ≡ suc (n + i) = omega arith in
    rw next (slice_get-drop n xs i)

pub All-slice_get : {X : Type 0} (P : X → Type 0) (xs : List X) (i : ℕ) (x : X) → All P xs → slice_get xs i ≡ Some x → P x
All-slice_get P xs i x all at =
    subst P (get_or_from_slice_get xs i x x at) (All-get_or P xs i x (slice_get_within xs i x at) all)

pub All-remove : {X : Type 0} (P : X → Type 0) (xs : List X) (i : ℕ) → All P xs → All P (remove xs i)
All-remove P xs i all = All-append P _ _ (All-take P i xs all) (All-drop P (suc i) xs all)

-- what holds of each element holds of each of those that are among them
pub All-among : {X : Type 0} (P : X → Type 0) (xs ys : List X) → ((x : X) → Contains ys x → Contains xs x) → All P xs → All P ys
All-among P xs ys among all = λ k d within. All-contains P xs _ all (among _ (Contains-get_or ys k d within))

-- what is left after one was taken out was there before
pub Contains-remove : {X : Type 0} (xs : List X) (i : ℕ) (x : X) → Contains (remove xs i) x → Contains xs x
Contains-remove xs i x left = All-contains (Contains xs) _ x (All-remove (Contains xs) xs i (All-contains_itself xs)) left

-- what is there once an element was put there again was there before
pub Contains-again : {X : Type 0} (xs : List X) (y : X) → Contains xs y → (x : X) → Contains (xs ++ y ∷ []) x → Contains xs x
Contains-again xs y was x more = elim (Contains-push_cases xs y x more) [ inl there ↦ there | inr same ↦ subst (Contains xs) same was ]
