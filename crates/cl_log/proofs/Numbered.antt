-- Records with their numbers.
use Rattle.std.proofs.Common.{◌≡◌, ℕ, zero, suc, ◌+◌, ◌-◌, ◌<◌, ◌≤◌, Bool, eqb, ◌||◌, List, [], ◌∷◌, ◌++◌, length, take, drop, get_or, Some, None, refl, sym, ap, ◌∙◌, arith}
use Rattle.std.specs.Prelude.{slice_get}
use Rattle.std.specs.Option.{option_map}
use Rattle.std.specs.List.{list_any, find}
use Rattle.std.proofs.lemmas.List.{take_more, length-take-le}
use Rattle.std.proofs.lemmas.Bool.{ne_eqb, eq-eqb, cond-false, cond-true}
use Rattle.cl_log.proofs.Entries.{number_at}
use Rattle.cl_log.specs.declared.records.LogRec.{LogRec}
use Rattle.cl_log.specs.LogEntry.{LogEntry, numbered, IsNumberedFrom, content_at}

-- the records of two lists one after another
pub numbered-append : (n : ℕ) (xs ys : List LogRec) → numbered n (xs ++ ys) ≡ numbered n xs ++ numbered (n + length xs) ys
numbered-append n [] ys = ap (λ k. numbered k ys) (omega arith)
numbered-append n (x ∷ xs) ys =
    ap (λ es. record { number = n; content = x } ∷ es)
    (numbered-append (n + 1) xs ys ∙ ap (λ k. numbered (n + 1) xs ++ numbered k ys) (omega arith))

-- one more record
pub numbered_push : (n : ℕ) (xs : List LogRec) (x : LogRec) → numbered n (xs ++ x ∷ []) ≡ numbered n xs ++ record { number = n + length xs; content = x } ∷ []
numbered_push n xs x = numbered-append n xs (x ∷ [])

pub length-numbered : (n : ℕ) (xs : List LogRec) → length (numbered n xs) ≡ length xs
length-numbered n [] = refl
length-numbered n (x ∷ xs) = ap suc (length-numbered (n + 1) xs)

pub IsNumberedFrom-numbered : (n : ℕ) (xs : List LogRec) → IsNumberedFrom n (numbered n xs)
IsNumberedFrom-numbered n [] = tt
IsNumberedFrom-numbered n (x ∷ xs) = (refl, IsNumberedFrom-numbered (n + 1) xs)

-- a test of the records alone
pub list_any-numbered : (p : LogRec → Bool) (n : ℕ) (xs : List LogRec) → list_any (λ entry. p entry.content) (numbered n xs) ≡ list_any p xs
list_any-numbered p n [] = refl
list_any-numbered p n (x ∷ xs) = ap (λ b. p x || b) (list_any-numbered p (n + 1) xs)

-- no record has a number below the first
find-below : (n k : ℕ) (xs : List LogRec) → k < n → find (λ (entry : LogEntry). eqb entry.number k) (numbered n xs) ≡ None
find-below n k [] h = refl
find-below n k (x ∷ xs) h =
    cond-false _ _ _ (ne_eqb n k (λ e. omega arith)) ∙ find-below (n + 1) k xs (omega arith)

find-from : (n k : ℕ) (xs : List LogRec) → option_map (λ (entry : LogEntry). entry.content) (find (λ (entry : LogEntry). eqb entry.number (n + k)) (numbered n xs)) ≡ slice_get xs k
find-from n k [] = refl
find-from n zero (x ∷ xs) = ap (option_map (λ (entry : LogEntry). entry.content)) (cond-true _ _ _ (eq-eqb n (n + 0) (omega arith)))
find-from n (suc k) (x ∷ xs) =
    ap (option_map (λ (entry : LogEntry). entry.content)) (cond-false _ _ _ (ne_eqb n (n + suc k) (λ e. omega arith)))
    ∙ ap (λ m. option_map (λ (entry : LogEntry). entry.content) (find (λ (entry : LogEntry). eqb entry.number m) (numbered (n + 1) xs))) (omega arith)
    ∙ find-from (n + 1) k xs

pub content_at-below : (n k : ℕ) (xs : List LogRec) → k < n → content_at (numbered n xs) k ≡ None
unfolding content_at
content_at-below n k xs h = ap (option_map (λ (entry : LogEntry). entry.content)) (find-below n k xs h)

pub content_at-numbered : (n k : ℕ) (xs : List LogRec) → n ≤ k → content_at (numbered n xs) k ≡ slice_get xs (k - n)
unfolding content_at
content_at-numbered n k xs h =
    ap (λ m. option_map (λ (entry : LogEntry). entry.content) (find (λ (entry : LogEntry). eqb entry.number m) (numbered n xs))) (let e : k ≡ n + (k - n) = omega arith in e)
    ∙ find-from n (k - n) xs

-- the first records, with their numbers
pub take-numbered : (n i : ℕ) (xs : List LogRec) → take i (numbered n xs) ≡ numbered n (take i xs)
take-numbered n zero xs = refl
take-numbered n (suc i) [] = refl
take-numbered n (suc i) (x ∷ xs) = ap (λ es. record { number = n; content = x } ∷ es) (take-numbered (n + 1) i xs)

-- one more of the first records
pub numbered_more : (n i : ℕ) (xs : List LogRec) (x : LogRec) → i < length xs → x ≡ get_or xs i x → numbered n (take (i + 1) xs) ≡ numbered n (take i xs) ++ record { number = n + i; content = x } ∷ []
numbered_more n i xs x h e =
    ap (numbered n) (take_more xs i x h ∙ ap (λ y. take i xs ++ y ∷ []) (sym e))
    ∙ numbered_push n (take i xs) x
    ∙ ap (λ k. numbered n (take i xs) ++ (let entry : LogEntry = record { number = n + k; content = x } in entry) ∷ []) (length-take-le i xs (omega arith))

-- the record at an index, and those after it
pub drop-numbered : (n i : ℕ) (xs : List LogRec) (x : LogRec) → i < length xs → x ≡ get_or xs i x → drop i (numbered n xs) ≡ record { number = n + i; content = x } ∷ drop (i + 1) (numbered n xs)
drop-numbered n i [] x h e = absurd (omega arith)
drop-numbered n zero (y ∷ xs) x h e =
    ap (λ z. (let entry : LogEntry = record { number = n; content = z } in entry) ∷ numbered (n + 1) xs) (sym e)
    ∙ ap (λ k. (let entry : LogEntry = record { number = k; content = x } in entry) ∷ numbered (n + 1) xs) (omega arith)
drop-numbered n (suc i) (y ∷ xs) x h e =
    drop-numbered (n + 1) i xs x (omega arith) e
    ∙ ap (λ k. (let entry : LogEntry = record { number = k; content = x } in entry) ∷ drop (i + 1) (numbered (n + 1) xs)) (omega arith)
    ∙ ap (λ k. (let entry : LogEntry = record { number = n + suc i; content = x } in entry) ∷ drop k (numbered n (y ∷ xs))) (let e' : suc (i + 1) ≡ suc i + 1 = omega arith in e')

-- the record of an entry's number
pub content_at-entry : (n : ℕ) (xs : List LogEntry) (x : LogEntry) (ys : List LogEntry) → IsNumberedFrom n (xs ++ x ∷ ys) → content_at (xs ++ x ∷ ys) x.number ≡ Some x.content
unfolding content_at
content_at-entry n [] x ys h = ap (option_map (λ (entry : LogEntry). entry.content)) (cond-true _ _ _ (eq-eqb x.number x.number refl))
content_at-entry n (y ∷ xs) x ys h =
    let number = number_at (n + 1) xs x ys h.1 in
    ap (option_map (λ (entry : LogEntry). entry.content)) (cond-false _ _ _ (ne_eqb y.number x.number (λ e. omega (arith, h.0, number, e))))
    ∙ content_at-entry (n + 1) xs x ys h.1
