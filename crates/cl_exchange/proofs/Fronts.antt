-- The view of a session after a step of the front.
use Rattle.std.proofs.Common.{◌≡◌, ◌≢◌, ℕ, ◌-◌, ◌%◌, ◌<◌, ◌≤◌, Bool, true, false, cond, nat_lt, eqb, inl, inr, List, [], ◌∷◌, ◌++◌, length, map, filter, Option, refl, ap, ◌∙◌, arith}
use Rattle.std.proofs.lemmas.Bool.{cond-true, cond-false, ne_eqb, eq-eqb, lt-ltb}
use Rattle.std.proofs.lemmas.List.{get_or-set_same, get_or-set_other}
use Rattle.std.proofs.lemmas.List.Elements.{filter-append}
use Rattle.cl_actor.specs.Core.{CoreStep}
use Rattle.cl_endpoint.specs.declared.limits.TheConstants.{ACTORS}
use Rattle.cl_exchange.specs.Stage.{view_of, is_of_session}
use Rattle.cl_exchange.proofs.Opens.{of_session}
use Rattle.cl_exchange.proofs.Turns.{SendsOneAtMost}
use Rattle.cl_exchange.proofs.Views.{same_parts}
use Rattle.cl_front.specs.Front.{FrontState}
use Rattle.cl_front.specs.declared.current.Current.{Current}
use Rattle.cl_front.specs.Session.{SessionState, no_session, Turned, command_sent}
use Rattle.cl_front.specs.Sessions.{session_in, with_session}
use Rattle.cl_runs.specs.Queues.{sent_to}
use Rattle.cl_runs.specs.World.{Shape}
use Rattle.cl_steps.specs.declared.actors.TheConstants.{FRONT}
use Rattle.cl_steps.specs.declared.steps.Outgoing.{Outgoing}
use Rattle.cl_system.specs.Replicas.{ReplicaWorld, front_acts, nothing_noted}
use Rattle.cl_types.specs.declared.limits.TheConstants.{SESSIONS_MAX}
use Rattle.cl_types.specs.declared.operations.Command.{Command as ClientCommand}
use Rattle.cl_types.specs.declared.operations.TxnId.{TxnId}
use Rattle.cl_wire.specs.Message.{Content, Command}

-- the parts that the step leaves, and those that it changes
pub front_view : (nodes : ℕ) (world : ReplicaWorld) (s : ℕ) (stepped : CoreStep FrontState) → eqb (s % nodes) FRONT ≡ false →
    view_of nodes (front_acts world stepped) s ≡ record {
      session = session_in stepped.state.sessions s;
      commands = filter (is_of_session s) (world.mail FRONT (s % nodes)) ++ filter (is_of_session s) (sent_to (s % nodes) stepped.step.sends);
      entries = of_session s (world.replicas (s % nodes)).control.transactions;
      outcomes = filter (is_of_session s) (world.mail (s % nodes) FRONT);
    }
front_view nodes world s stepped apart =
    same_parts _ _ refl (filter-append (is_of_session s) (world.mail FRONT (s % nodes)) (sent_to (s % nodes) stepped.step.sends)) refl
    (ap (λ b. filter (is_of_session s) (cond b (world.mail (s % nodes) FRONT ++ sent_to FRONT stepped.step.sends) (world.mail (s % nodes) FRONT))) apart)

-- a session that is changed, and another one
pub session_here : (sessions : List SessionState) (s : ℕ) (session : SessionState) → length sessions ≡ SESSIONS_MAX → 1 ≤ s → s ≤ SESSIONS_MAX → session_in (with_session sessions s session) s ≡ session
session_here sessions s session many from to = get_or-set_same sessions (s - 1) session no_session (omega arith)

pub session_elsewhere : (sessions : List SessionState) (t s : ℕ) (session : SessionState) → 1 ≤ t → 1 ≤ s → t ≢ s → session_in (with_session sessions t session) s ≡ session_in sessions s
session_elsewhere sessions t s session from to other = get_or-set_other sessions (t - 1) (s - 1) session no_session (λ e. other (omega arith))

-- what the turns of a session send to a node is of that session
module _ (shape : Shape) (t begun : ℕ) (current : Option Current) (turns : Turned) where
  one_to : (k n : ℕ) (txn : TxnId) (command : ClientCommand) (s : ℕ) → s ≢ txn.session → filter (is_of_session s) (sent_to k (command_sent (nothing_noted shape) txn n command ∷ [])) ≡ []
  one_to k n txn command s other = by (nat_lt k ACTORS) (eqb (txn.session % shape.nodes) k)
    where
      by : (actor here : Bool) → filter (is_of_session s) (cond actor (map (λ (send : Outgoing). send.payload) (cond here (command_sent (nothing_noted shape) txn n command ∷ []) [])) []) ≡ []
      by true true = cond-false _ _ _ (ne_eqb s txn.session other)
      by true false = refl
      by false here = refl

  pub turns_others : (k s : ℕ) → s ≢ t → SendsOneAtMost (nothing_noted shape) t begun current turns → filter (is_of_session s) (sent_to k turns.sends) ≡ []
  turns_others k s other (inl none) = ap (λ sends. filter (is_of_session s) (sent_to k sends)) none.sends ∙ nothing_to (nat_lt k ACTORS)
    where
      nothing_to : (actor : Bool) → filter (is_of_session s) (cond actor [] []) ≡ []
      nothing_to true = refl
      nothing_to false = refl
  turns_others k s other (inr one) = ap (λ sends. filter (is_of_session s) (sent_to k sends)) one.sends ∙ one_to k one.next.commands _ one.command s other

-- a command that is sent is the only one on its way to the home of its session
pub one_here : (shape : Shape) (txn : TxnId) (n : ℕ) (command : ClientCommand) → txn.session % shape.nodes < ACTORS →
    filter (is_of_session txn.session) (sent_to (txn.session % shape.nodes) (command_sent (nothing_noted shape) txn n command ∷ [])) ≡ Command (txn.session % shape.nodes) txn n command ∷ []
one_here shape txn n command below =
    let k : ℕ = txn.session % shape.nodes in
    let message : Content = Command k txn n command in
    ap (λ b. filter (is_of_session txn.session) (cond b (map (λ (send : Outgoing). send.payload) (cond (eqb k k) (command_sent (nothing_noted shape) txn n command ∷ []) [])) [])) (lt-ltb k ACTORS below)
    ∙ (ap (λ b. filter (is_of_session txn.session) (map (λ (send : Outgoing). send.payload) (cond b (command_sent (nothing_noted shape) txn n command ∷ []) []))) (eq-eqb k k refl)
    ∙ cond-true _ (message ∷ []) [] (eq-eqb txn.session txn.session refl))
