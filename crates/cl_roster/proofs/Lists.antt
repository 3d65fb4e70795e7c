-- Lists that grow at their end.
use Rattle.std.proofs.Common.{◌≡◌, List, [], ◌∷◌, ◌++◌, ◌⊎◌, inl, inr, refl, sym, ap, ◌∙◌, subst}
use Rattle.std.proofs.lemmas.List.{append_assoc, append-nil, same_from_push}

-- a list that is `front` and one element more
pub record HasLast {X : Type 0} (xs : List X) : Type 0 where
  pub front : List X
  pub last : X
  pub is : xs ≡ front ++ last ∷ []

pub last_of : {X : Type 0} (x : X) (xs : List X) → HasLast (x ∷ xs)
last_of x [] = record { front = []; last = x; is = refl }
last_of x (y ∷ ys) =
    let rest = last_of y ys in
    record { front = x ∷ rest.front; last = rest.last; is = ap (λ zs. x ∷ zs) rest.is }

-- where a list with one element more is split at an element, it is split at the last one, or the list itself is split there
pub record SplitsBefore {X : Type 0} (xs before : List X) (y : X) : Type 0 where
  pub after : List X
  pub is : xs ≡ before ++ y ∷ after

pub split-push : {X : Type 0} (xs : List X) (x : X) (before : List X) (y : X) (after : List X) →
    xs ++ x ∷ [] ≡ before ++ y ∷ after → ((xs ≡ before) × (x ≡ y)) ⊎ SplitsBefore xs before y
split-push xs x before y [] e = inl (same_from_push xs before x y e)
split-push xs x before y (z ∷ zs) e =
    let rest = last_of z zs in
    let whole : before ++ y ∷ (z ∷ zs) ≡ (before ++ y ∷ rest.front) ++ rest.last ∷ [] =
    ap (λ ws. before ++ y ∷ ws) rest.is ∙ sym (append_assoc before (y ∷ rest.front) (rest.last ∷ [])) in
    let same = same_from_push xs (before ++ y ∷ rest.front) x rest.last (e ∙ whole) in
    inr (record { after = rest.front; is = same.0 })

-- what each element more keeps holds of each longer list
pub kept_along : {X : Type 0} (P : List X → Type 0) → ((xs : List X) (x : X) → P xs → P (xs ++ x ∷ [])) →
    (xs more : List X) → P xs → P (xs ++ more)
kept_along P step xs [] holds = subst P (sym (append-nil xs)) holds
kept_along P step xs (x ∷ more) holds =
    subst P (append_assoc xs (x ∷ []) more) (kept_along P step (xs ++ x ∷ []) more (step xs x holds))
