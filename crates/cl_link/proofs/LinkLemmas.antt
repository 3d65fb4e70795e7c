-- What a link answers and becomes, by the index of its first due message.
use Rattle.std.proofs.Common.{◌≡◌, ℕ, suc, ◌+◌, ◌-◌, add-zero, ◌<◌, ◌≤◌, Bool, true, false, cond, List, [], ◌∷◌, ◌++◌, length, get_or, Some, None, nat_lt, refl, ap, arith, rules}
use Rattle.std.proofs.lemmas.List.{length_push}
use Rattle.cl_link.specs.declared.kept.Kept.{Kept}
use Rattle.cl_link.specs.Kept.{due_index, sent_at}
use Rattle.cl_link.specs.LinkState.{LinkState, first_due, due_of, after_sent}
use Rattle.cl_link.proofs.KeptLemmas.{sent_at_past, due_index-push}

-- the message at the index of the first due one is the first due one
pub first_due-at : {B : Type 0} (ms : List (Kept B)) (number : ℕ) (m : Kept B) → due_index ms < length ms → m ≡ get_or ms (due_index ms) m → Some (number + due_index ms, m.body) ≡ first_due number ms
unfolding first_due
first_due-at [] number m within at = absurd (omega arith)
first_due-at {B} (x ∷ ms) number m within at =
    let next : (due_index ms < length ms) → (m ≡ get_or ms (due_index ms) m) → Some (number + 1 + due_index ms, m.body) ≡ first_due (number + 1) ms = first_due-at ms (number + 1) m in
    elim (x.due) as (λ d. cond d 0 (suc (due_index ms)) < suc (length ms) → m ≡ get_or (x ∷ ms) (cond d 0 (suc (due_index ms))) m → Some (number + cond d 0 (suc (due_index ms)), m.body) ≡ cond d (Some (number, x.body)) (first_due (number + 1) ms)) [
      | true ↦ λ w e. (rw add-zero (ap (λ (k : Kept B). Some (number, k.body)) e))
      | false ↦ λ w e. (let same : number + suc (due_index ms) ≡ number + 1 + due_index ms = omega arith in rw same (next (omega arith) e))
    ] within at

-- where the index is past the last message, none is due
pub first_due-none : {B : Type 0} (ms : List (Kept B)) (number : ℕ) → length ms ≤ due_index ms → None ≡ first_due number ms
unfolding first_due
first_due-none [] number past = refl
first_due-none (x ∷ ms) number past =
    let next : (length ms ≤ due_index ms) → None ≡ first_due (number + 1) ms = first_due-none ms (number + 1) in
    elim (x.due) as (λ d. suc (length ms) ≤ cond d 0 (suc (due_index ms)) → None ≡ cond d (Some (number, x.body)) (first_due (number + 1) ms))
    [ true ↦ λ p. absurd (omega arith) | false ↦ λ p. next (omega arith) ] past

-- marking a number that is no longer kept, or not given yet, changes nothing
pub after_sent_released : {B : Type 0} (s : LinkState B) (number : ℕ) → number ≤ s.released → s ≡ after_sent s number
unfolding after_sent
after_sent_released s number low =
    let no : nat_lt s.released number ≡ false = search rules in rw no

pub after_sent_past : {B : Type 0} (s : LinkState B) (number : ℕ) → s.released < number → length s.kept ≤ number - s.released - 1 → s ≡ after_sent s number
unfolding after_sent
after_sent_past s number high past =
    let yes : nat_lt s.released number ≡ true = search rules in
    let same : sent_at s.kept (number - s.released - 1) ≡ s.kept = sent_at_past _ _ past in
    rw (yes, same)

-- the link answers the message at the index of its first due one
pub due_of-at : {B : Type 0} (s t : LinkState B) (index : ℕ) (m : Kept B) → s ≡ t → index ≡ due_index s.kept → index < length s.kept → m ≡ get_or s.kept index m → Some (s.released + 1 + index, m.body) ≡ due_of t
unfolding due_of
due_of-at {B} s t index m same is within at =
    let here : due_index s.kept < length s.kept = omega arith in
    let read : m ≡ get_or s.kept (due_index s.kept) m = rw (← is) at in
    let found : Some (s.released + 1 + due_index s.kept, m.body) ≡ due_of s = first_due-at s.kept (s.released + 1) m here read in
    rw (← same, is) found

pub due_of-none : {B : Type 0} (s t : LinkState B) (index : ℕ) → s ≡ t → index ≡ due_index s.kept → length s.kept ≤ index → None ≡ due_of t
unfolding due_of
due_of-none s t index same is past =
    rw (← same) (first_due-none s.kept (s.released + 1) (omega arith))

-- one message more keeps the numbers within their limit, and the first due one where it is
pub pushed_within : {B : Type 0} (ok : Bool) (ms new : List (Kept B)) (body : B) (released index limit : ℕ) → new ≡ cond ok (ms ++ record { body = body; due = true } ∷ []) ms → (released + length ms ≡ limit → ⊥) → released + length ms ≤ limit → index ≡ due_index ms → (released + length new ≤ limit) × (index ≡ due_index new)
pushed_within true ms new body released index limit is below within at =
    rw (is, length_push, due_index-push) ((omega arith, at))
pushed_within false ms new body released index limit is below within at = rw is ((within, at))
