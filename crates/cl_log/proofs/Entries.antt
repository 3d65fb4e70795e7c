-- Lists of entries: their parts, their numbers, and what holds of each.
use Rattle.std.proofs.Common.{◌≡◌, ℕ, suc, ◌+◌, ◌⊎◌, List, [], ◌∷◌, ◌++◌, length, refl, sym, ap, ◌∙◌, subst, inl, inr, arith}
use Rattle.std.proofs.lemmas.List.{append_assoc, append-nil}
use Rattle.cl_log.specs.LogEntry.{LogEntry, IsNumberedFrom, EachAfter}

-- the numbers of two lists one after another
pub IsNumberedFrom-append : (n : ℕ) (xs ys : List LogEntry) → IsNumberedFrom n (xs ++ ys) → IsNumberedFrom n xs × IsNumberedFrom (n + length xs) ys
IsNumberedFrom-append n [] ys h = (tt, (let e : n ≡ n + 0 = omega arith in subst (λ k. IsNumberedFrom k ys) e h))
IsNumberedFrom-append n (x ∷ xs) ys h =
    let r = IsNumberedFrom-append (n + 1) xs ys h.1 in
    let e : n + 1 + length xs ≡ n + suc (length xs) = omega arith in
    ((h.0, r.0), subst (λ k. IsNumberedFrom k ys) e r.1)

pub append-IsNumberedFrom : (n : ℕ) (xs ys : List LogEntry) → IsNumberedFrom n xs → IsNumberedFrom (n + length xs) ys → IsNumberedFrom n (xs ++ ys)
append-IsNumberedFrom n [] ys h k = (let e : n + 0 ≡ n = omega arith in subst (λ j. IsNumberedFrom j ys) e k)
append-IsNumberedFrom n (x ∷ xs) ys h k =
    let e : n + suc (length xs) ≡ n + 1 + length xs = omega arith in
    (h.0, append-IsNumberedFrom (n + 1) xs ys h.1 (subst (λ j. IsNumberedFrom j ys) e k))

-- the number of an entry, by how many stand before it
pub number_at : (n : ℕ) (xs : List LogEntry) (x : LogEntry) (ys : List LogEntry) → IsNumberedFrom n (xs ++ x ∷ ys) → x.number ≡ n + length xs
number_at n xs x ys h = (IsNumberedFrom-append n xs (x ∷ ys) h).1.0

-- what holds of each entry of two lists one after another
pub EachAfter-append : (P : List LogEntry → LogEntry → Type 0) (seen xs ys : List LogEntry) → EachAfter P seen (xs ++ ys) → EachAfter P seen xs × EachAfter P (seen ++ xs) ys
EachAfter-append P seen [] ys h = (tt, subst (λ es. EachAfter P es ys) (sym (append-nil seen)) h)
EachAfter-append P seen (x ∷ xs) ys h =
    let r = EachAfter-append P (seen ++ x ∷ []) xs ys h.1 in
    ((h.0, r.0), subst (λ es. EachAfter P es ys) (append_assoc seen (x ∷ []) xs) r.1)

pub append-EachAfter : (P : List LogEntry → LogEntry → Type 0) (seen xs ys : List LogEntry) → EachAfter P seen xs → EachAfter P (seen ++ xs) ys → EachAfter P seen (xs ++ ys)
append-EachAfter P seen [] ys h k = subst (λ es. EachAfter P es ys) (append-nil seen) k
append-EachAfter P seen (x ∷ xs) ys h k =
    (h.0, append-EachAfter P (seen ++ x ∷ []) xs ys h.1 (subst (λ es. EachAfter P es ys) (sym (append_assoc seen (x ∷ []) xs)) k))

-- one more entry
pub EachAfter_push : (P : List LogEntry → LogEntry → Type 0) (seen xs : List LogEntry) (x : LogEntry) → EachAfter P seen xs → P (seen ++ xs) x → EachAfter P seen (xs ++ x ∷ [])
EachAfter_push P seen xs x h k = append-EachAfter P seen xs (x ∷ []) h (k, tt)

-- what holds of an entry and of those before it
pub EachAfter-at : (P : List LogEntry → LogEntry → Type 0) (xs : List LogEntry) (x : LogEntry) (ys : List LogEntry) → EachAfter P [] (xs ++ x ∷ ys) → P xs x
EachAfter-at P xs x ys h = (EachAfter-append P [] xs (x ∷ ys) h).1.0

-- of two fronts of one list one is a front of the other
pub fronts : (xs us ys vs : List LogEntry) → xs ++ us ≡ ys ++ vs → ((ws : List LogEntry) × (ys ≡ xs ++ ws)) ⊎ ((ws : List LogEntry) × (xs ≡ ys ++ ws))
fronts [] us ys vs e = inl (ys, refl)
fronts (x ∷ xs) us [] vs e = inr (x ∷ xs, refl)
fronts (x ∷ xs) us (y ∷ ys) vs e =
    let same : x ≡ y = cc in
    let rest : xs ++ us ≡ ys ++ vs = cc in
    elim (fronts xs us ys vs rest) [
      | inl (ws, h) ↦ inl (ws, ap (λ es. y ∷ es) h ∙ ap (λ z. z ∷ (xs ++ ws)) (sym same))
      | inr (ws, h) ↦ inr (ws, ap (λ es. x ∷ es) h ∙ ap (λ z. z ∷ (ys ++ ws)) same)
    ]

pub append_cancel : (xs us vs : List LogEntry) → xs ++ us ≡ xs ++ vs → us ≡ vs
append_cancel [] us vs e = e
append_cancel (x ∷ xs) us vs e = append_cancel xs us vs cc

-- what follows from it holds of each entry too
pub EachAfter-weaker : (P Q : List LogEntry → LogEntry → Type 0) → ((seen : List LogEntry) (x : LogEntry) → P seen x → Q seen x) → (seen xs : List LogEntry) → EachAfter P seen xs → EachAfter Q seen xs
EachAfter-weaker P Q weaker seen [] h = tt
EachAfter-weaker P Q weaker seen (x ∷ xs) h = (weaker seen x h.0, EachAfter-weaker P Q weaker (seen ++ x ∷ []) xs h.1)
