-- Which packets are accepted.
use Rattle.std.proofs.Common.{◌≡◌, ℕ, ◌+◌, true, false, cond, eqb, refl, rules}
use Rattle.cl_link.specs.LinkState.{taken_of}
use Rattle.cl_link.specs.declared.link.Taken.{Taken}
use Rattle.cl_link.specs.declared.link.Taken.TheVariants as takes
use Rattle.cl_link.proofs.LinkStates.{number_of_taken, taken_of-next}
use Rattle.cl_roster.specs.Roster.{has_stopped}
use Rattle.cl_endpoint.specs.declared.received.Received.TheVariants.{Dropped, Bare, Now}
use Rattle.cl_endpoint.specs.Endpoint.{EndpointState, link_to, received, received_as}
use Rattle.cl_endpoint.specs.Laws.{AcceptedIsNext}

received_as-now : (taken : Taken) → received_as taken ≡ Now → taken ≡ takes.Now
received_as-now takes.Now e = refl
received_as-now takes.Old e = cc
received_as-now takes.Gap e = cc

accepted-next : (state : EndpointState) (from seq : ℕ) → received state from seq ≡ Now → (has_stopped state.noted from ≡ false) × (seq ≡ (link_to state from).accepted + 1)
unfolding received
accepted-next state from seq now =
    elim (has_stopped state.noted from) as (λ stopped. cond stopped Dropped (cond (eqb seq 0) Bare (received_as (taken_of (link_to state from) seq))) ≡ Now →
    (stopped ≡ false) × (seq ≡ (link_to state from).accepted + 1)) [
      | true ↦ λ e. cc
      | false ↦ λ e. elim (eqb seq 0) as (λ bare. cond bare Bare (received_as (taken_of (link_to state from) seq)) ≡ Now → (false ≡ false) × (seq ≡ (link_to state from).accepted + 1)) [
        | true ↦ λ h. cc
        | false ↦ λ h. (refl, number_of_taken _ _ (received_as-now _ h))
      ] e
    ] now

next-accepted : (state : EndpointState) (from seq : ℕ) → has_stopped state.noted from ≡ false → seq ≡ (link_to state from).accepted + 1 → received state from seq ≡ Now
unfolding received
next-accepted state from seq lives next =
    let numbered : eqb seq 0 ≡ false = search rules in
    rw (lives, numbered, taken_of-next (link_to state from) seq next) refl

pub accepted_is_next : AcceptedIsNext
accepted_is_next state from seq = (accepted-next state from seq, λ h. next-accepted state from seq h.0 h.1)
