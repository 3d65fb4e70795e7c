-- Positions in a list, and in one that has grown.
use Rattle.std.proofs.Common.{◌≡◌, ℕ, zero, suc, ◌<◌, ◌⊎◌, inl, inr, List, [], ◌∷◌, ◌++◌, length, Some, None, refl, ap, arith}
use Rattle.cl_serial.specs.Serial.{StandsAt, IsIn}

-- what stands in a list stands in a longer one
pub StandsAt-append_left : {X : Type 0} (xs ys : List X) (i : ℕ) (x : X) → StandsAt xs i x → StandsAt (xs ++ ys) i x
StandsAt-append_left [] ys i x h = absurd (cc)
StandsAt-append_left (y ∷ xs) ys zero x h = h
StandsAt-append_left (y ∷ xs) ys (suc i) x h = StandsAt-append_left xs ys i x h

-- what is added stands behind
pub StandsAt-push_last : {X : Type 0} (xs : List X) (y : X) → StandsAt (xs ++ y ∷ []) (length xs) y
StandsAt-push_last [] y = refl
StandsAt-push_last (x ∷ xs) y = StandsAt-push_last xs y

-- each item of a list with one more is an old one, or the new one
pub StandsAt-push : {X : Type 0} (xs : List X) (y : X) (i : ℕ) (x : X) → StandsAt (xs ++ y ∷ []) i x → StandsAt xs i x ⊎ ((i ≡ length xs) × (x ≡ y))
StandsAt-push [] y zero x h = inr (refl, cc)
StandsAt-push [] y (suc i) x h = absurd (cc)
StandsAt-push (z ∷ xs) y zero x h = inl h
StandsAt-push (z ∷ xs) y (suc i) x h = elim (StandsAt-push xs y i x h) [ inl old ↦ inl old | inr new ↦ inr (ap suc new.0, new.1) ]

-- a position is below the length
pub StandsAt-within : {X : Type 0} (xs : List X) (i : ℕ) (x : X) → StandsAt xs i x → i < length xs
StandsAt-within [] i x h = absurd (cc)
StandsAt-within (y ∷ xs) zero x h = omega arith
StandsAt-within (y ∷ xs) (suc i) x h = omega (arith, StandsAt-within xs i x h)

-- one item stands at a position
pub StandsAt-one : {X : Type 0} (xs : List X) (i : ℕ) (x y : X) → StandsAt xs i x → StandsAt xs i y → x ≡ y
StandsAt-one xs i x y h k = cc

pub IsIn-append_left : {X : Type 0} (xs ys : List X) (x : X) → IsIn xs x → IsIn (xs ++ ys) x
IsIn-append_left xs ys x h = (h.0, StandsAt-append_left xs ys h.0 x h.1)

pub IsIn-push_last : {X : Type 0} (xs : List X) (y : X) → IsIn (xs ++ y ∷ []) y
IsIn-push_last xs y = (length xs, StandsAt-push_last xs y)

pub IsIn-push : {X : Type 0} (xs : List X) (y x : X) → IsIn (xs ++ y ∷ []) x → IsIn xs x ⊎ (x ≡ y)
IsIn-push xs y x h = elim (StandsAt-push xs y h.0 x h.1) [ inl old ↦ inl (h.0, old) | inr new ↦ inr new.1 ]

pub IsIn-nil : {X : Type 0} (x : X) → IsIn [] x → ⊥
IsIn-nil x h = let none : None ≡ Some x = h.1 in cc
