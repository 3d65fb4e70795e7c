-- How many messages a link has accepted once a packet came: one more exactly where it is accepted now.
use Rattle.std.proofs.Common.{◌≡◌, ℕ, ◌+◌, true, false, cond, eqb, refl, ap, ◌∙◌}
use Rattle.cl_link.specs.declared.link.Taken.{Taken}
use Rattle.cl_link.specs.declared.link.Taken.TheVariants as takes
use Rattle.cl_link.specs.LinkState.{LinkState, taken_of, count_after}
use Rattle.cl_link.proofs.LinkStates.{accepted-after_heard, accepted-after_accept}
use Rattle.cl_roster.specs.Roster.{has_stopped}
use Rattle.cl_wire.specs.Message.{Content}
use Rattle.cl_endpoint.specs.declared.received.Received.{Received}
use Rattle.cl_endpoint.specs.declared.received.Received.TheVariants.{Dropped, Bare, Now, Old, Gap}
use Rattle.cl_endpoint.specs.Endpoint.{EndpointState, link_to, received, received_as, link_after}

-- what was accepted, and what comes
abbrev pub count_received : Received → ℕ → ℕ
count_received Now count = count + 1
count_received Dropped count = count
count_received Bare count = count
count_received Old count = count
count_received Gap count = count

accepted-taken : (s : LinkState Content) (seq ack : ℕ) (taken : Taken) → taken_of s seq ≡ taken → (link_after (received_as taken) s seq ack).accepted ≡ count_received (received_as taken) s.accepted
accepted-taken s seq ack takes.Now is = accepted-after_accept s seq ack ∙ ap (λ taken. count_after taken s.accepted) is
accepted-taken s seq ack takes.Old is = accepted-after_accept s seq ack ∙ ap (λ taken. count_after taken s.accepted) is
accepted-taken s seq ack takes.Gap is = accepted-after_accept s seq ack ∙ ap (λ taken. count_after taken s.accepted) is

pub accepted-received : (e : EndpointState) (from seq ack : ℕ) → (link_after (received e from seq) (link_to e from) seq ack).accepted ≡ count_received (received e from seq) (link_to e from).accepted
unfolding received
accepted-received e from seq ack =
    let s : LinkState Content = link_to e from in
    elim (has_stopped e.noted from) as (λ stopped. (link_after (cond stopped Dropped (cond (eqb seq 0) Bare (received_as (taken_of s seq)))) s seq ack).accepted
    ≡ count_received (cond stopped Dropped (cond (eqb seq 0) Bare (received_as (taken_of s seq)))) s.accepted) [
      | true ↦ refl
      | false ↦ elim (eqb seq 0) as (λ bare. (link_after (cond bare Bare (received_as (taken_of s seq))) s seq ack).accepted ≡ count_received (cond bare Bare (received_as (taken_of s seq))) s.accepted)
          [ true ↦ accepted-after_heard s ack | false ↦ accepted-taken s seq ack (taken_of s seq) refl ]
    ]
