-- Which message is the least due one, after each call.
use Rattle.std.proofs.Common.{add-zero, ◌≡◌, ℕ, suc, ◌+◌, ◌-◌, ◌<◌, ◌≤◌, true, false, cond, nat_lt, List, [], ◌∷◌, ◌++◌, length, Some, None, refl, ap, arith, rules}
use Rattle.std.specs.Option.{option_or}
use Rattle.std.proofs.lemmas.Option.{slice_get_within}
use Rattle.cl_link.specs.declared.kept.Kept.{Kept}
use Rattle.cl_link.specs.Kept.{sent_at, all_due}
use Rattle.cl_link.specs.LinkState.{LinkState, last_number, unacknowledged, first_due, due_of, after_send, after_sent, after_again, after_drop_all}
use Rattle.cl_link.proofs.LinkStates.{first_due_kept, due_of-kept, last_number-unacknowledged}

-- where nothing is kept, nothing is due
pub due_of-nothing_kept : {B : Type 0} (s : LinkState B) → s.kept ≡ [] → due_of s ≡ None
unfolding due_of first_due
due_of-nothing_kept s none = ap (first_due (s.released + 1)) none

pub due_of-after_drop_all : {B : Type 0} (s : LinkState B) → due_of (after_drop_all s) ≡ None
unfolding due_of first_due after_drop_all
due_of-after_drop_all s = refl

-- the number of a due message is that of one that is kept
pub due_of-released : {B : Type 0} (s : LinkState B) (m : ℕ × B) → due_of s ≡ Some m → s.released < m.0
due_of-released s m due = omega (arith, (due_of-kept s m due).0)

pub due_of-last_number : {B : Type 0} (s : LinkState B) (m : ℕ × B) → due_of s ≡ Some m → m.0 ≤ last_number s
due_of-last_number s m due =
    let within : m.0 - s.released - 1 < length (unacknowledged s) = slice_get_within _ _ _ (due_of-kept s m due).1 in
    omega (arith, due_of-released s m due, last_number-unacknowledged s)

-- after a tick the first message that is kept is due
pub due_of-after_again : {B : Type 0} (s : LinkState B) (m : Kept B) (ms : List (Kept B)) → s.kept ≡ m ∷ ms → due_of (after_again s) ≡ Some (s.released + 1, m.body)
unfolding due_of first_due after_again
due_of-after_again s m ms kept = ap (λ ks. first_due (s.released + 1) (all_due ks)) kept

first_due-push : {B : Type 0} (ms : List (Kept B)) (number : ℕ) (body : B) → first_due number (ms ++ record { body = body; due = true } ∷ []) ≡ option_or (first_due number ms) (Some (number + length ms, body))
unfolding first_due
first_due-push [] number body = rw add-zero
first_due-push {B} (x ∷ ms) number body =
    let rest : first_due (number + 1) (ms ++ record { body = body; due = true } ∷ []) ≡ option_or (first_due (number + 1) ms) (Some (number + 1 + length ms, body)) = first_due-push ms (number + 1) body in
    let index : number + suc (length ms) ≡ number + 1 + length ms = omega arith in
    elim (x.due) as (λ due. cond due (Some (number, x.body)) (first_due (number + 1) (ms ++ record { body = body; due = true } ∷ [])) ≡ option_or (cond due (Some (number, x.body)) (first_due (number + 1) ms)) (Some (number + suc (length ms), body)))
    [ true ↦ refl | false ↦ rw index rest ]

-- a message that is given is due once those before it are sent
pub due_of-after_send : {B : Type 0} (s : LinkState B) (body : B) → due_of (after_send s body) ≡ option_or (due_of s) (Some (last_number s + 1, body))
unfolding due_of after_send
due_of-after_send s body =
    let index : s.released + length s.kept + 1 ≡ s.released + 1 + length s.kept = omega arith in
    rw index (first_due-push s.kept (s.released + 1) body)

-- the least due one is sent: the next one stands behind it
sent_here : {B : Type 0} (x : Kept B) (ms : List (Kept B)) (number : ℕ) (m next : ℕ × B) → Some (number, x.body) ≡ Some m → first_due number (sent_at (x ∷ ms) (m.0 - number)) ≡ Some next → m.0 < next.0
unfolding first_due
sent_here {B} x ms number m next e later =
    let same : (number, x.body) ≡ m = cc in
    let zero_index : m.0 - number ≡ 0 = omega (arith, ap (λ (k : ℕ × B). k.0) same) in
    let rest : first_due (number + 1) ms ≡ Some next = rw zero_index at later in
    omega (arith, (first_due_kept ms (number + 1) next rest).0, ap (λ (k : ℕ × B). k.0) same)

first_due-sent_at : {B : Type 0} (ms : List (Kept B)) (number : ℕ) (m next : ℕ × B) → first_due number ms ≡ Some m → first_due number (sent_at ms (m.0 - number)) ≡ Some next → m.0 < next.0
unfolding first_due
first_due-sent_at [] number m next due more = cc
first_due-sent_at {B} (x ∷ ms) number m next due more =
    elim (x.due) as (λ d. cond d (Some (number, x.body)) (first_due (number + 1) ms) ≡ Some m → first_due number (sent_at (record x { due = d } ∷ ms) (m.0 - number)) ≡ Some next → m.0 < next.0) [
      | true ↦ λ e later. sent_here (record x { due = true }) ms number m next e later
      | false ↦ λ e later.
          (let behind : number + 1 ≤ m.0 = (first_due_kept ms (number + 1) m e).0 in
          let index : m.0 - number ≡ suc (m.0 - (number + 1)) = omega arith in
          let rest : first_due (number + 1) (sent_at ms (m.0 - (number + 1))) ≡ Some next = rw index at later in
          first_due-sent_at ms (number + 1) m next e rest)
    ] due more

-- once the least due message is sent, another one, if any, is due: one with a higher number
pub due_of-after_sent : {B : Type 0} (s : LinkState B) (m next : ℕ × B) → due_of s ≡ Some m → due_of (after_sent s m.0) ≡ Some next → m.0 < next.0
unfolding due_of after_sent
due_of-after_sent s m next due more =
    let above : s.released < m.0 = omega (arith, (first_due_kept s.kept (s.released + 1) m due).0) in
    let yes : nat_lt s.released m.0 ≡ true = search rules in
    let index : m.0 - s.released - 1 ≡ m.0 - (s.released + 1) = omega arith in
    let rest : first_due (s.released + 1) (sent_at s.kept (m.0 - (s.released + 1))) ≡ Some next = rw (yes, index) at more in
    first_due-sent_at s.kept (s.released + 1) m next due rest
