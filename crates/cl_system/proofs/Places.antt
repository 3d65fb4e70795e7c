-- Each message is between the actors that its kind names, and each replica is in its place.
use Rattle.std.proofs.Common.{◌≡◌, ◌≢◌, ℕ, ◌<◌, eqb, cond, Bool, true, false, List, [], ◌∷◌, All, refl, sym, ◌∙◌, subst, arith}
use Rattle.std.proofs.lemmas.Bool.{eqb-true, eqb-false, cond_both}
use Rattle.std.proofs.lemmas.List.Elements.{All-nil, All-head, All-tail}
use Rattle.cl_types.proofs.PlacementLaws.{node_count-some}
use Rattle.cl_types.specs.Placement.{IsNodeCount}
use Rattle.cl_control.specs.State.{Entry}
use Rattle.cl_front.specs.Front.{FrontState, delivered_front}
use Rattle.cl_lone.specs.Laws.{FirstIsCalm, StepsStayCalm}
use Rattle.cl_lone.specs.Lone.{lone_step}
use Rattle.cl_node.specs.Addressing.{home_in}
use Rattle.cl_roster.specs.Roster.{IsClusterSize}
use Rattle.cl_runs.specs.Queues.{deliver, take_line, quieten}
use Rattle.cl_runs.specs.World.{Shape}
use Rattle.cl_steps.specs.declared.actors.TheConstants.{FRONT}
use Rattle.cl_vnode.specs.Inputs.{Fits}
use Rattle.cl_vnode.specs.Step.{Stepped}
use Rattle.cl_wire.specs.Message.{Content, Bare, Command, Outcome, Ask, Answer, Prepare, Vote, Finish, Inquire, Decision, Log, LogAck, Repair, Records, Names, CopyAck}
use Rattle.cl_system.specs.Laws.{InPlaceAtFirst, EventsKeepPlaces}
use Rattle.cl_system.specs.Replicas.{ReplicaWorld, Mail, own_primary, nothing_noted, with_way, front_acts, replica_acts, after_message, after_first, after_replica_event, MessageFits}
use Rattle.cl_system.specs.Roles.{IsOfSession, IsAddressed, IsInPlace, AreInPlace}
use Rattle.cl_system.proofs.Sends.{IsMailAddressed, with_mail_addressed, with_way_addressed, line_sends, message_sends}
use Rattle.cl_system.proofs.ReplicaSends.{IsStepInPlace, step_in_place}

-- at the start: no message is on its way, and no transaction is open
pub in_place_at_first : FirstIsCalm → InPlaceAtFirst
in_place_at_first calm shape size = record {
  replicas = λ v below. record {
    own = refl;
    same_nodes = refl;
    calm = calm v shape.nodes size.counted;
    sessions = All-nil (λ (entry : Entry). IsOfSession entry.txn);
    home = All-nil (λ (entry : Entry). home_in shape.nodes entry.txn ≡ v);
  };
  messages = λ from to. All-nil (IsAddressed shape.nodes from to);
}

-- a message that is for a node comes to a replica that there is
pub receiver_below : (nodes from to : ℕ) (content : Content) → IsNodeCount nodes → to ≢ FRONT → IsAddressed nodes from to content → to < nodes
receiver_below nodes from to (Command v txn number what) counted node is =
    let some = node_count-some nodes counted in let here : to ≡ home_in nodes txn = is.receiver ∙ is.node in omega (arith, some, here)
receiver_below nodes from to (Answer v txn number answer) counted node is = let some = node_count-some nodes counted in let here : to ≡ home_in nodes txn = is.receiver in omega (arith, some, here)
receiver_below nodes from to (Vote v txn) counted node is = let some = node_count-some nodes counted in let here : to ≡ home_in nodes txn = is.receiver in omega (arith, some, here)
receiver_below nodes from to (Ask v txn number table key op) counted node is = subst (λ n. n < nodes) (sym is.0.receiver) is.0.node
receiver_below nodes from to (Prepare v txn) counted node is = subst (λ n. n < nodes) (sym is.receiver) is.node
receiver_below nodes from to (Finish v txn commit) counted node is = subst (λ n. n < nodes) (sym is.receiver) is.node
receiver_below nodes from to (Outcome txn number outcome) counted node is = absurd (node is.receiver)
receiver_below nodes from to Bare counted node is = absurd is
receiver_below nodes from to (Inquire v txn) counted node is = absurd is
receiver_below nodes from to (Decision v txn commit) counted node is = absurd is
receiver_below nodes from to (Log v number entry) counted node is = absurd is
receiver_below nodes from to (LogAck v number) counted node is = absurd is
receiver_below nodes from to (Repair v other) counted node is = absurd is
receiver_below nodes from to (Records v index records) counted node is = absurd is
receiver_below nodes from to (Names v index last low txns) counted node is = absurd is
receiver_below nodes from to (CopyAck v index) counted node is = absurd is

-- what fits an actor other than the front fits its replica
pub fits_replica : (shape : Shape) (world : ReplicaWorld) (from to : ℕ) (content : Content) → eqb to FRONT ≡ false → MessageFits shape world from to content →
    Fits shape.nodes (world.replicas to) content
fits_replica shape world from to content elsewhere fits = rw elsewhere at fits

module _ (shape : Shape) (size : IsClusterSize shape.nodes shape.spares) where
  -- the front has taken a step
  front_acts_in_place : (world : ReplicaWorld) (front : FrontState) (lines : ℕ) (mail : Mail) → AreInPlace shape world → IsMailAddressed shape.nodes mail →
      AreInPlace shape (record world { front = front; mail = mail; lines = lines })
  front_acts_in_place world front lines mail are new = record { replicas = are.replicas; messages = new }

  -- a replica has taken a step
  replica_acts_in_place : StepsStayCalm → (world : ReplicaWorld) (from to : ℕ) (content : Content) (mark : Bool) → to ≢ FRONT → AreInPlace shape world →
      IsAddressed shape.nodes from to content → Fits shape.nodes (world.replicas to) content →
      AreInPlace shape (replica_acts world to (lone_step own_primary (world.replicas to) from content mark))
  replica_acts_in_place stay world from to content mark node are is fits =
      let below : to < shape.nodes = receiver_below shape.nodes from to content size.counted node is in
      let place : IsInPlace shape.nodes to (world.replicas to) = are.replicas to below in
      let next : Stepped = lone_step own_primary (world.replicas to) from content mark in
      let step : IsStepInPlace shape.nodes to next = step_in_place shape.nodes (world.replicas to) to from content mark size.counted below node place is in
      let after : IsInPlace shape.nodes to next.state = record {
        own = step.own;
        same_nodes = step.same_nodes;
        calm = stay own_primary shape.nodes (world.replicas to) from content mark place.calm fits;
        sessions = step.sessions;
        home = step.home;
      } in
      record {
        replicas = λ v within. cond_both (eqb v to) next.state (world.replicas v) (IsInPlace shape.nodes v)
            (λ here. subst (λ n. IsInPlace shape.nodes n next.state) (sym (eqb-true v to here)) after) (λ elsewhere. are.replicas v within);
        messages = with_mail_addressed shape.nodes world.mail to next.step.sends are.messages step.sends;
      }

  -- a message comes to the front, or to a replica
  after_message_in_place : StepsStayCalm → (world : ReplicaWorld) (from to : ℕ) (content : Content) (mark : Bool) → AreInPlace shape world →
      IsAddressed shape.nodes from to content → MessageFits shape world from to content → AreInPlace shape (after_message shape world from to content mark)
  after_message_in_place stay world from to content mark are is fits =
      elim (eqb to FRONT) as (λ b. (eqb to FRONT ≡ b) → AreInPlace shape (cond b (front_acts world (delivered_front (nothing_noted shape) world.front from content mark))
      (replica_acts world to (lone_step own_primary (world.replicas to) from content mark)))) [
        | true ↦ λ here. front_acts_in_place world _ world.lines _ are (with_mail_addressed shape.nodes world.mail FRONT _ are.messages (message_sends shape world.front from content mark))
        | false ↦ λ elsewhere. replica_acts_in_place stay world from to content mark (eqb-false to FRONT elsewhere) are is (fits_replica shape world from to content elsewhere fits)
      ]
      refl

  -- an event
  after_first_in_place : StepsStayCalm → (world : ReplicaWorld) (from to : ℕ) (mark : Bool) (contents : List Content) → world.mail from to ≡ contents → AreInPlace shape world →
      ((content : Content) (rest : List Content) → world.mail from to ≡ content ∷ rest → MessageFits shape world from to content) →
      AreInPlace shape (after_first shape world from to mark contents)
  after_first_in_place stay world from to mark [] is are fits = are
  after_first_in_place stay world from to mark (content ∷ rest) is are fits =
      let all : All (IsAddressed shape.nodes from to) (content ∷ rest) = subst (All (IsAddressed shape.nodes from to)) is (are.messages from to) in
      let popped : ReplicaWorld = record world { mail = with_way world.mail from to rest } in
      let places : AreInPlace shape popped =
      record { replicas = are.replicas; messages = with_way_addressed shape.nodes world.mail from to rest are.messages (All-tail (IsAddressed shape.nodes from to) content rest all) } in
      after_message_in_place stay popped from to content mark places (All-head (IsAddressed shape.nodes from to) content rest all) (fits content rest is)

-- an event that may happen and fits leaves all in its place
pub events_keep_places : StepsStayCalm → EventsKeepPlaces
unfolding after_replica_event
events_keep_places stay shape world (deliver from to mark) size are may fits = after_first_in_place shape size stay world from to mark (world.mail from to) refl are fits
events_keep_places stay shape world (take_line number text said) size are may fits =
    front_acts_in_place shape size world _ _ _ are (with_mail_addressed shape.nodes world.mail FRONT _ are.messages (line_sends shape world.front number text said))
events_keep_places stay shape world quieten size are may fits = front_acts_in_place shape size world _ world.lines world.mail are are.messages
events_keep_places stay shape world other size are may fits = are
