-- What may happen, by what the world has.
use Rattle.std.proofs.Common.{◌≡◌, ◌↔◌, ℕ, ◌-◌, ◌≤◌, Bool, List, Option, Some, IsTrue, IsSome, unwrap_or, refl, sym, ap, subst, ◌∙◌}
use Rattle.cl_endpoint.specs.Endpoint.{set_number}
use Rattle.cl_ranked.specs.Slots.{slot_at}
use Rattle.cl_runs.specs.World.{Shape, IsLiving, MayHandle, packet_at}
use Rattle.cl_wire.specs.declared.packet.Packet.{Packet}
use Rattle.cl_wire.specs.Message.{Message, message_of}
use Rattle.cl_world.specs.Mail.{AreKept, messages_in}
use Rattle.cl_world.specs.World.{Moment}
use Rattle.cl_world.proofs.Packets.{kept_at}

-- the packet of a slot may be handled exactly where the actor admits it
pub may_handle_where : (shape : Shape) (moment : Moment) (slots : List (Option Packet)) (actor id index : ℕ) (packet : Packet) (result : Bool) → AreKept (messages_in slots) moment.packets →
    1 ≤ id → id - 1 ≡ index → Some packet ≡ slot_at slots index →
    IsTrue result ↔ (IsLiving shape moment.roster actor × (packet.to ≡ actor) × (packet.set ≤ set_number (moment.actors actor).endpoint)) →
    IsTrue result ↔ (MayHandle shape moment actor id × IsSome (slot_at slots (id - 1)))
may_handle_where shape moment slots actor id index packet result kept numbered at is admits =
    let there : slot_at slots (id - 1) ≡ Some packet = subst (λ i. slot_at slots i ≡ Some packet) (sym at) (sym is) in
    let emitted : packet_at moment id ≡ Some (message_of packet) = kept_at slots moment.packets (id - 1) packet kept there in (
      λ yes. let facts = admits.0 yes in
          (record { lives = facts.0; numbered = numbered; packet = message_of packet; emitted = emitted; addressed = facts.1; noted = facts.2 }, subst (λ s. IsSome s) (sym there) refl),
      λ may. let m : Message = may.0.packet in
          let same : m ≡ message_of packet = ap (λ found. unwrap_or found m) (sym may.0.emitted ∙ emitted) in
          admits.1 (may.0.lives, sym (ap (λ one. one.to) same) ∙ may.0.addressed, subst (λ one. one.set ≤ set_number (moment.actors actor).endpoint) same may.0.noted),
    )
