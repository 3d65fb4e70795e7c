-- The first due message, and what marking and dropping make of it.
use Rattle.std.proofs.Common.{◌≡◌, ℕ, zero, suc, ◌+◌, ◌-◌, ◌<◌, ◌≤◌, true, false, cond, List, [], ◌∷◌, ◌++◌, length, get_or, set, drop, refl, ap, sym, ◌∙◌, arith}
use Rattle.std.proofs.lemmas.List.{length-map}
use Rattle.cl_link.specs.declared.kept.Kept.{Kept}
use Rattle.cl_link.specs.Kept.{due_index, with_due, sent_at, all_due}

pub due_index-le : {B : Type 0} (ms : List (Kept B)) → due_index ms ≤ length ms
due_index-le [] = omega arith
due_index-le (m ∷ ms) =
    let rest : due_index ms ≤ length ms = due_index-le ms in
    elim (m.due) as (λ due. cond due 0 (suc (due_index ms)) ≤ suc (length ms)) [ true ↦ omega arith | false ↦ omega arith ]

-- a due message before which none is due is the first one
pub due_index-due : {B : Type 0} (ms : List (Kept B)) (i : ℕ) (m : Kept B) → i ≤ due_index ms → i < length ms → m ≡ get_or ms i m → m.due ≡ true → i ≡ due_index ms
due_index-due [] i m below within at due = absurd (omega arith)
due_index-due (x ∷ ms) zero m below within at due = sym (ap (λ d. cond d 0 (suc (due_index ms))) (sym (ap (λ k. k.due) at) ∙ due))
due_index-due (x ∷ ms) (suc i) m below within at due =
    elim (x.due) as (λ d. suc i ≤ cond d 0 (suc (due_index ms)) → suc i ≡ cond d 0 (suc (due_index ms))) [
      | true ↦ λ h. absurd (omega arith)
      | false ↦ λ h. ap suc (due_index-due ms i m (omega arith) (omega arith) at due)
    ] below

-- a message that is not due, and before which none is due, is before the first one
pub due_index-sent : {B : Type 0} (ms : List (Kept B)) (i : ℕ) (m : Kept B) → i ≤ due_index ms → i < length ms → m ≡ get_or ms i m → m.due ≡ false → i + 1 ≤ due_index ms
due_index-sent [] i m below within at sent = absurd (omega arith)
due_index-sent (x ∷ ms) zero m below within at sent =
    rw (sym (ap (λ k. k.due) at) ∙ sent) (omega arith)
due_index-sent (x ∷ ms) (suc i) m below within at sent =
    elim (x.due) as (λ d. suc i ≤ cond d 0 (suc (due_index ms)) → suc i + 1 ≤ cond d 0 (suc (due_index ms))) [
      | true ↦ λ h. absurd (omega arith)
      | false ↦ λ h. let more : i + 1 ≤ due_index ms = due_index-sent ms i m (omega arith) (omega arith) at sent in omega arith
    ] below

-- the message at an index is written back as sent
pub sent_at-set : {B : Type 0} (ms : List (Kept B)) (i : ℕ) (m : Kept B) → i < length ms → m ≡ get_or ms i m → set ms i (with_due false m) ≡ sent_at ms i
sent_at-set [] i m within at = absurd (omega arith)
sent_at-set (x ∷ ms) zero m within at = ap (λ k. with_due false k ∷ ms) at
sent_at-set (x ∷ ms) (suc i) m within at = ap (λ rest. x ∷ rest) (sent_at-set ms i m (omega arith) at)

-- with no due message before an index, the first due one of the rest is so much nearer
pub due_index-drop : {B : Type 0} (n : ℕ) (ms : List (Kept B)) → due_index ms - n ≤ due_index (drop n ms)
due_index-drop zero ms = omega arith
due_index-drop (suc n) [] = omega arith
due_index-drop (suc n) (m ∷ ms) =
    let rest : due_index ms - n ≤ due_index (drop n ms) = due_index-drop n ms in
    elim (m.due) as (λ d. cond d 0 (suc (due_index ms)) - suc n ≤ due_index (drop n ms)) [ true ↦ omega arith | false ↦ omega arith ]

pub due_index-push : {B : Type 0} (ms : List (Kept B)) (b : B) → due_index (ms ++ record { body = b; due = true } ∷ []) ≡ due_index ms
due_index-push [] b = refl
due_index-push (m ∷ ms) b = ap (λ n. cond (m.due) 0 (suc n)) (due_index-push ms b)

pub due_index-all_due : {B : Type 0} (ms : List (Kept B)) → due_index (all_due ms) ≡ 0
due_index-all_due [] = refl
due_index-all_due (m ∷ ms) = refl

-- one message more is sent: the first due one does not come nearer
pub due_index-sent_at : {B : Type 0} (ms : List (Kept B)) (i : ℕ) → due_index ms ≤ due_index (sent_at ms i)
due_index-sent_at [] i = omega arith
due_index-sent_at (m ∷ ms) zero =
    elim (m.due) as (λ d. cond d 0 (suc (due_index ms)) ≤ suc (due_index ms)) [ true ↦ omega arith | false ↦ omega arith ]
due_index-sent_at (m ∷ ms) (suc i) =
    let rest : due_index ms ≤ due_index (sent_at ms i) = due_index-sent_at ms i in
    elim (m.due) as (λ d. cond d 0 (suc (due_index ms)) ≤ cond d 0 (suc (due_index (sent_at ms i)))) [ true ↦ omega arith | false ↦ omega arith ]

pub length-sent_at : {B : Type 0} (ms : List (Kept B)) (i : ℕ) → length (sent_at ms i) ≡ length ms
length-sent_at [] i = refl
length-sent_at (m ∷ ms) zero = refl
length-sent_at (m ∷ ms) (suc i) = ap suc (length-sent_at ms i)

-- past the last message nothing is marked
pub sent_at_past : {B : Type 0} (ms : List (Kept B)) (i : ℕ) → length ms ≤ i → sent_at ms i ≡ ms
sent_at_past [] i past = refl
sent_at_past (m ∷ ms) zero past = absurd (omega arith)
sent_at_past (m ∷ ms) (suc i) past = ap (λ rest. m ∷ rest) (sent_at_past ms i (omega arith))

pub length-all_due : {B : Type 0} (ms : List (Kept B)) → length (all_due ms) ≡ length ms
length-all_due ms = length-map ms (with_due true)
