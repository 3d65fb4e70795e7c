-- The due messages of a link, once the least of them is sent.
use Rattle.std.proofs.Common.{◌≡◌, ℕ, suc, ◌+◌, ◌-◌, ◌<◌, ◌≤◌, true, false, cond, nat_lt, List, [], ◌∷◌, Some, None, refl, ap, arith, rules}
use Rattle.cl_link.specs.declared.kept.Kept.{Kept}
use Rattle.cl_link.specs.Kept.{sent_at}
use Rattle.cl_link.specs.LinkState.{LinkState, first_due, due_of, after_sent}
use Rattle.cl_link.proofs.LinkStates.{first_due_kept}
use Rattle.cl_wire.specs.Message.{Content}
use Rattle.cl_endpoint.specs.Emission.{due_from, due_in}

due_from-none : (ms : List (Kept Content)) (number : ℕ) → first_due number ms ≡ None → due_from number ms ≡ []
unfolding first_due
due_from-none [] number none = refl
due_from-none (x ∷ ms) number none =
    elim (x.due) as (λ d. cond d (Some (number, x.body)) (first_due (number + 1) ms) ≡ None → cond d ((number, x.body) ∷ due_from (number + 1) ms) (due_from (number + 1) ms) ≡ [])
    [ true ↦ λ e. cc | false ↦ λ e. due_from-none ms (number + 1) e ] none

sent_here : (x : Kept Content) (ms : List (Kept Content)) (number : ℕ) (m : ℕ × Content) → Some (number, x.body) ≡ Some m → (number, x.body) ∷ due_from (number + 1) ms ≡ m ∷ due_from number (sent_at (x ∷ ms) (m.0 - number))
sent_here x ms number m e =
    let same : (number, x.body) ≡ m = cc in
    let zero_index : m.0 - number ≡ 0 = omega (arith, ap (λ (k : ℕ × Content). k.0) same) in
    rw zero_index (ap (λ k. k ∷ due_from (number + 1) ms) same)

due_from-some : (ms : List (Kept Content)) (number : ℕ) (m : ℕ × Content) → first_due number ms ≡ Some m → due_from number ms ≡ m ∷ due_from number (sent_at ms (m.0 - number))
unfolding first_due
due_from-some [] number m due = cc
due_from-some (x ∷ ms) number m due =
    elim (x.due) as (λ d. cond d (Some (number, x.body)) (first_due (number + 1) ms) ≡ Some m → cond d ((number, x.body) ∷ due_from (number + 1) ms) (due_from (number + 1) ms) ≡ m ∷ due_from number (sent_at (record x { due = d } ∷ ms) (m.0 - number))) [
      | true ↦ λ e. sent_here (record x { due = true }) ms number m e
      | false ↦ λ e.
          (let behind : number + 1 ≤ m.0 = (first_due_kept ms (number + 1) m e).0 in
          let index : m.0 - number ≡ suc (m.0 - (number + 1)) = omega arith in
          rw index (due_from-some ms (number + 1) m e))
    ] due

-- nothing is due
pub due_in-none : (link : LinkState Content) → due_of link ≡ None → due_in link ≡ []
unfolding due_of due_in
due_in-none link none = due_from-none link.kept (link.released + 1) none

-- the least due message is the first one, and the others are due once it is sent
pub due_in-some : (link : LinkState Content) (m : ℕ × Content) → due_of link ≡ Some m → due_in link ≡ m ∷ due_in (after_sent link m.0)
unfolding due_of due_in after_sent
due_in-some link m due =
    let above : link.released < m.0 = omega (arith, (first_due_kept link.kept (link.released + 1) m due).0) in
    let yes : nat_lt link.released m.0 ≡ true = search rules in
    let index : m.0 - link.released - 1 ≡ m.0 - (link.released + 1) = omega arith in
    rw (yes, index) (due_from-some link.kept (link.released + 1) m due)
