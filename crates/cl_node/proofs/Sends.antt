-- What a node sends goes to actors.
use Rattle.std.proofs.Common.{◌≡◌, ℕ, ◌<◌, Bool, All, Option, Some, None, inl, inr, sym, subst, arith}
use Rattle.std.proofs.lemmas.List.Elements.{All-nil, All-weaker}
use Rattle.cl_steps.specs.Steps.{receivers}
use Rattle.cl_actor.specs.Acting.{SendsToActors}
use Rattle.cl_actor.specs.Core.{Noted}
use Rattle.cl_actor.specs.Laws.{IsLawfullyNoted}
use Rattle.cl_actor.proofs.Primaries.{primary_is_actor}
use Rattle.cl_endpoint.specs.declared.limits.TheConstants.{ACTORS}
use Rattle.cl_node.specs.Addressing.{addressed}
use Rattle.cl_node.specs.Laws.{NodesSendToActors}
use Rattle.cl_node.specs.Node.{NodeState, replica_at, replica_for, replica_step, slot_step, delivered_to, delivered_for, ReplicaFits}
use Rattle.cl_repair.specs.declared.mode.Mode.{Mode}
use Rattle.cl_repair.specs.declared.mode.Mode.TheVariants.{Lone, Pair}
use Rattle.cl_vnode.specs.Inputs.{Fits, IsStandbyBelow}
use Rattle.cl_vnode.specs.Laws.{IsReceiver, IsStandbyIn}
use Rattle.cl_vnode.specs.Replica.{ReplicaState}
use Rattle.cl_vnode.specs.Standby.{standby_stepped}
use Rattle.cl_vnode.specs.Step as replica
use Rattle.cl_vnode.proofs.Receivers.{standby_steps_send_back, steps_send_to_receivers}
use Rattle.cl_wire.specs.Message.{Content, Log}

-- a standby is an actor
standby_is_actor : (mode : Mode) (to : ℕ) → IsStandbyBelow mode → IsStandbyIn mode to → to < ACTORS
standby_is_actor Lone to below is = absurd is
standby_is_actor (Pair standby) to below is = omega (arith, below, is)

-- to whom a replica sends is an actor
receiver_is_actor : (noted : Noted) (mode : Mode) (from to : ℕ) → IsLawfullyNoted noted → from < ACTORS → IsStandbyBelow mode →
    IsReceiver noted.nodes (replica.primary_in noted.nodes noted.entries) mode from to → to < ACTORS
receiver_is_actor noted mode from to is sender below (inl same) = subst (λ n. n < ACTORS) (sym same) sender
receiver_is_actor noted mode from to is sender below (inr (inl same)) = omega (arith, same)
receiver_is_actor noted mode from to is sender below (inr (inr (inl (v, within, same)))) =
    subst (λ n. n < ACTORS) (sym same) (primary_is_actor noted v is within)
receiver_is_actor noted mode from to is sender below (inr (inr (inr standby))) = standby_is_actor mode to below standby

-- to whom a replica sends as the primary is an actor
primary_sends : (noted : Noted) (here : ReplicaState) (from : ℕ) (content : Content) (mark : Bool) → IsLawfullyNoted noted → from < ACTORS →
    Fits noted.nodes here content →
    All (λ to. to < ACTORS) (receivers (replica.stepped (replica.primary_in noted.nodes noted.entries) here from content mark).step)
primary_sends noted here from content mark is sender fits =
    All-weaker (IsReceiver noted.nodes (replica.primary_in noted.nodes noted.entries) here.modes.mode from) (λ to. to < ACTORS)
    (λ to receiver. receiver_is_actor noted here.modes.mode from to is sender fits.standby receiver) _
    (steps_send_to_receivers noted.nodes (replica.primary_in noted.nodes noted.entries) here from content mark is.size.counted fits)

-- and to whom it sends in either role
replica_sends : (noted : Noted) (here : ReplicaState) (from : ℕ) (content : Content) (mark : Bool) → IsLawfullyNoted noted → from < ACTORS →
    ReplicaFits noted.nodes here content →
    All (λ to. to < ACTORS) (receivers (replica_step (replica.primary_in noted.nodes noted.entries) here from content mark).step)
replica_sends noted here from (Log v number entry) mark is sender fits =
    All-weaker (λ to. to ≡ from) (λ to. to < ACTORS) (λ to same. subst (λ n. n < ACTORS) (sym same) sender)
    (receivers (standby_stepped here from (Log v number entry)).step) (standby_steps_send_back here from (Log v number entry))
replica_sends noted here from content mark is sender fits = primary_sends noted here from content mark is sender fits

-- to whom the replica that a message is for sends is an actor
slot_sends : (noted : Noted) (state : NodeState) (from : ℕ) (content : Content) (mark : Bool) (v : ℕ) (slot : Option ReplicaState) (there : ReplicaState) →
    IsLawfullyNoted noted → from < ACTORS → slot ≡ Some there → ReplicaFits noted.nodes there content →
    SendsToActors (delivered_to state v (slot_step noted slot from content mark))
slot_sends noted state from content mark v None there is sender same fits = let none : ◌≡◌ {A = Option ReplicaState} None (Some there) = same in absurd cc
slot_sends noted state from content mark v (Some here) there is sender same fits =
    let both : here ≡ there = cc in
    replica_sends noted here from content mark is sender (subst (λ one. ReplicaFits noted.nodes one content) (sym both) fits)

-- so is it for the virtual node that it is for
for_sends : (noted : Noted) (state : NodeState) (from : ℕ) (content : Content) (mark : Bool) (to : Option ℕ) (there : ReplicaState) →
    IsLawfullyNoted noted → from < ACTORS → replica_for state to ≡ Some there → ReplicaFits noted.nodes there content →
    SendsToActors (delivered_for noted state from content mark to)
for_sends noted state from content mark None there is sender same fits = All-nil _
for_sends noted state from content mark (Some v) there is sender same fits = slot_sends noted state from content mark v (replica_at state v) there is sender same fits

-- and for each message
pub node_sends : NodesSendToActors
node_sends noted state from content mark is sender fit = for_sends noted state from content mark (addressed noted.nodes content) fit.replica is sender fit.here fit.fits
