-- Lists and their filtered parts.
use Rattle.std.proofs.Common.{◌≡◌, Bool, true, false, cond, List, [], ◌∷◌, All, filter, refl, sym, ◌∙◌, subst}
use Rattle.std.proofs.lemmas.List.Elements.{All-nil, All-cons, All-head, All-tail}

-- what holds of each that passes holds of each, where it passes
pub All-passing : {X : Type 0} (P : X → Type 0) (p : X → Bool) (xs : List X) → All P (filter p xs) → All (λ x. p x ≡ true → P x) xs
All-passing P p [] all = All-nil _
All-passing P p (x ∷ xs) all = by (All-passing P p xs) (p x) refl all
  where
    by : (All P (filter p xs) → All (λ y. p y ≡ true → P y) xs) → (b : Bool) → p x ≡ b → All P (cond b (x ∷ filter p xs) (filter p xs)) →
        All (λ y. p y ≡ true → P y) (x ∷ xs)
    by more true passes here = All-cons (λ y. p y ≡ true → P y) x xs (λ it. All-head P x (filter p xs) here) (more (All-tail P x (filter p xs) here))
    by more false fails here = All-cons (λ y. p y ≡ true → P y) x xs (λ it. absurd (let no : false ≡ true = sym fails ∙ it in cc)) (more here)

-- where none passes, nothing passes
pub none-passing : {X : Type 0} (p : X → Bool) (xs : List X) → filter p xs ≡ [] → All (λ x. p x ≡ true → ⊥) xs
none-passing p xs none = All-passing (λ _. ⊥) p xs (subst (All (λ _. ⊥)) (sym none) (All-nil (λ _. ⊥)))
