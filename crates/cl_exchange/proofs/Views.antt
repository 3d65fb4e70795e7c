-- The view of a session after a step of a replica.
use Rattle.std.proofs.Common.{◌≡◌, ℕ, ◌%◌, true, false, ◌&&◌, eqb, if◌then◌else◌, List, [], ◌∷◌, ◌++◌, filter, refl, sym, ap, ◌∙◌}
use Rattle.std.proofs.lemmas.Bool.{cond-false, cond_both, eqb-true, eq-eqb, and_parts}
use Rattle.std.proofs.lemmas.List.{append-nil}
use Rattle.std.proofs.lemmas.List.Elements.{filter-append}
use Rattle.cl_exchange.specs.Stage.{SessionView, view_of, is_of_session}
use Rattle.cl_exchange.proofs.Opens.{of_session}
use Rattle.cl_front.specs.Sessions.{session_in}
use Rattle.cl_runs.specs.Queues.{sent_to}
use Rattle.cl_steps.specs.declared.actors.TheConstants.{FRONT}
use Rattle.cl_system.specs.Replicas.{ReplicaWorld, with_way, replica_acts}
use Rattle.cl_vnode.specs.Step.{Stepped}
use Rattle.cl_wire.specs.Message.{Content}

-- views whose parts are the same
pub same_parts : (a b : SessionView) → a.session ≡ b.session → a.commands ≡ b.commands → a.entries ≡ b.entries → a.outcomes ≡ b.outcomes → a ≡ b
same_parts a b session commands entries outcomes = λ i. record { session = session i; commands = commands i; entries = entries i; outcomes = outcomes i }

module _ (nodes : ℕ) (world : ReplicaWorld) (from r s : ℕ) (rest : List Content) (stepped : Stepped) (apart : eqb FRONT r ≡ false) where
  -- the world after the step, whose message was taken off
  abbrev after : ReplicaWorld
  after = replica_acts (record world { mail = with_way world.mail from r rest }) r stepped

  replica_view : view_of nodes after s ≡ record {
    session = session_in world.front.sessions s;
    commands = filter (is_of_session s) (if eqb (s % nodes) r && eqb FRONT from then rest else world.mail FRONT (s % nodes));
    entries = of_session s (if eqb (s % nodes) r then stepped.state else world.replicas (s % nodes)).control.transactions;
    outcomes = filter (is_of_session s) (if eqb (s % nodes) r then world.mail (s % nodes) FRONT ++ sent_to FRONT stepped.step.sends else world.mail (s % nodes) FRONT);
  }
  replica_view = rw apart refl

  -- the step leaves the session as it was
  pub same_view : (content : Content) → world.mail from r ≡ content ∷ rest → (FRONT ≡ from → is_of_session s content ≡ false) →
      of_session s stepped.state.control.transactions ≡ of_session s (world.replicas r).control.transactions →
      filter (is_of_session s) (sent_to FRONT stepped.step.sends) ≡ [] → view_of nodes after s ≡ view_of nodes world s
  same_view content waits others kept untold =
      let k : ℕ = s % nodes in
      replica_view ∙ same_parts _ (view_of nodes world s) refl
      (cond_both (eqb k r && eqb FRONT from) rest (world.mail FRONT k) (λ list. filter (is_of_session s) list ≡ filter (is_of_session s) (world.mail FRONT k))
      (λ e. let parts : (eqb k r ≡ true) × (eqb FRONT from ≡ true) = and_parts (eqb k r) (eqb FRONT from) e in
      let here : k ≡ r = eqb-true k r parts.0 in
      let giver : FRONT ≡ from = eqb-true FRONT from parts.1 in
      sym (ap (filter (is_of_session s)) (ap (λ n. world.mail FRONT n) here ∙ (ap (λ n. world.mail n r) giver ∙ waits)) ∙ cond-false _ _ _ (others giver))) (λ e. refl))
      (cond_both (eqb k r) stepped.state (world.replicas k) (λ state. of_session s state.control.transactions ≡ of_session s (world.replicas k).control.transactions)
      (λ e. kept ∙ ap (λ n. of_session s (world.replicas n).control.transactions) (sym (eqb-true k r e))) (λ e. refl))
      (cond_both (eqb k r) (world.mail k FRONT ++ sent_to FRONT stepped.step.sends) (world.mail k FRONT) (λ list. filter (is_of_session s) list ≡ filter (is_of_session s) (world.mail k FRONT))
      (λ e. filter-append (is_of_session s) (world.mail k FRONT) (sent_to FRONT stepped.step.sends)
      ∙ (ap (λ more. filter (is_of_session s) (world.mail k FRONT) ++ more) untold ∙ append-nil (filter (is_of_session s) (world.mail k FRONT)))) (λ e. refl))

-- the step is of the session's controller
pub own_view : (nodes : ℕ) (world : ReplicaWorld) (from s : ℕ) (rest : List Content) (stepped : Stepped) → eqb FRONT (s % nodes) ≡ false →
    view_of nodes (replica_acts (record world { mail = with_way world.mail from (s % nodes) rest }) (s % nodes) stepped) s ≡ record {
      session = session_in world.front.sessions s;
      commands = filter (is_of_session s) (if eqb FRONT from then rest else world.mail FRONT (s % nodes));
      entries = of_session s stepped.state.control.transactions;
      outcomes = filter (is_of_session s) (world.mail (s % nodes) FRONT) ++ filter (is_of_session s) (sent_to FRONT stepped.step.sends);
    }
own_view nodes world from s rest stepped apart =
    let k : ℕ = s % nodes in
    let here : eqb k k ≡ true = eq-eqb k k refl in
    replica_view nodes world from k s rest stepped apart ∙ same_parts _ _ refl
    (ap (λ b. filter (is_of_session s) (if b && eqb FRONT from then rest else world.mail FRONT k)) here)
    (ap (λ b. of_session s (if b then stepped.state else world.replicas k).control.transactions) here)
    (ap (λ b. filter (is_of_session s) (if b then world.mail k FRONT ++ sent_to FRONT stepped.step.sends else world.mail k FRONT)) here
    ∙ filter-append (is_of_session s) (world.mail k FRONT) (sent_to FRONT stepped.step.sends))
