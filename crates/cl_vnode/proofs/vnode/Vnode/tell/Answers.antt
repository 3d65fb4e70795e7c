-- A Prepared is a vote, a Decide is safe, and of the other records nothing is told.
use Rattle.std.proofs.Common.{◌≡◌, ℕ, ◌%◌, [], ◌∷◌, ◌++◌, OnOk, sym, ap, ◌∙◌, subst, refl}
use Rattle.cl_types.specs.GrowingList.{items}
use Rattle.cl_log.specs.Log.{entries}
use Rattle.cl_log.specs.LogEntry.{content_at}
use Rattle.cl_control.specs.Calls.{safe_acts, after_safe}
use Rattle.cl_control.specs.State.{ControlState}
use Rattle.cl_part.proofs.States.{OnOk-map}
use Rattle.cl_steps.specs.Steps.{Step, sent}
use Rattle.cl_wire.specs.Message.{Vote}
use Rattle.cl_vnode.specs.Sending.{AreSends, HasStepped, primary_of}
use Rattle.cl_vnode.specs.Step.{Stepped}
use Rattle.cl_vnode.proofs.Controller.{nodes-after_safe, safe_acts_are_sends}
use Rattle.cl_vnode.proofs.Performing.{controlled_sent, told_news, told_at_by_news}
use Rattle.cl_vnode.proofs.vnode.Vnode.tell.Goals as goal

pub returns-in-Vote-clause-step : goal.returns-in-Vote-clause-step
returns-in-Vote-clause-step c before has =
    let primary : ℕ → ℕ = primary_of c.args.roster.now in
    let session : ℕ = c.in-Vote.txn.session in
    let home : session % c.nodes.result ≡ session % before.state.control.nodes =
    ap (λ n. session % n) (c.nodes.ensures.nodes ∙ c.requires ∙ ap (λ (s : ControlState). s.nodes) has.state.control) in
    subst (λ (done : Stepped). OnOk c.send_to_primary.result (HasStepped c.args.self.now c.send_to_primary.new.steps done))
    (sym (told_at_by_news primary before c.args.number (content_at (entries c.args.self.now.part.log) c.args.number)
    ∙ ap (told_news primary before c.args.number) (sym c.news_at.ensures ∙ c.in-Vote.is)))
    (OnOk-map c.send_to_primary.result _ _ (λ gave. record {
      state = has.state;
      step = gave ∙ ap (λ (s : Step). record s { sends = s.sends ++ sent (primary (session % c.nodes.result)) (Vote c.args.self.now.v c.in-Vote.txn) ∷ [] }) has.step
          ∙ ap (λ n. record before.step { sends = before.step.sends ++ sent (primary n) (Vote c.args.self.now.v c.in-Vote.txn) ∷ [] }) home
          ∙ ap (λ v. record before.step { sends = before.step.sends ++ sent (primary (session % before.state.control.nodes)) (Vote v c.in-Vote.txn) ∷ [] }) has.state.v;
    }) c.send_to_primary.ensures)

-- ---- a Decide

pub send_all-requires : goal.send_all-requires
send_all-requires c =
    subst (AreSends c.args.roster.now.nodes) (sym c.in_ok-acts-in-Decision.ensures.acts)
    (subst (λ n. AreSends n (safe_acts c.args.self.now.control c.args.number)) (sym c.requires) (safe_acts_are_sends c.args.self.now.control c.args.number))

pub returns-in_ok-acts-in-Decision-clause-step : goal.returns-in_ok-acts-in-Decision-clause-step
returns-in_ok-acts-in-Decision-clause-step c before has =
    let primary : ℕ → ℕ = primary_of c.args.roster.now in
    let sends : AreSends c.args.roster.now.nodes (items c.in_ok-acts-in-Decision.acts) =
    subst (AreSends c.args.roster.now.nodes) (sym c.in_ok-acts-in-Decision.ensures.acts)
    (subst (λ n. AreSends n (safe_acts c.args.self.now.control c.args.number)) (sym c.requires) (safe_acts_are_sends c.args.self.now.control c.args.number)) in
    rw (told_at_by_news primary before c.args.number (content_at (entries c.args.self.now.part.log) c.args.number))
    (rw (sym c.news_at.ensures ∙ c.in-Decision.is)
    (OnOk-map c.send_all.result _ _ (λ gave.
    controlled_sent c.args.self.now _ c.args.steps.now c.send_all.new.steps primary c.args.roster.now.nodes before (items c.in_ok-acts-in-Decision.acts)
    (λ s. after_safe s c.args.number)
    (λ s. safe_acts s c.args.number) has refl refl refl refl
    c.in_ok-acts-in-Decision.ensures.state c.in_ok-acts-in-Decision.ensures.acts sends gave) c.send_all.ensures))

pub returns-in_ok-acts-in-Decision-clause-nodes : goal.returns-in_ok-acts-in-Decision-clause-nodes
returns-in_ok-acts-in-Decision-clause-nodes c =
    OnOk-map c.send_all.result _ _ (λ gave. ap (λ (s : ControlState). s.nodes) c.in_ok-acts-in-Decision.ensures.state ∙ nodes-after_safe c.args.self.now.control c.args.number) c.send_all.ensures

-- ---- a Touch, Set, Add, Comp or End

pub returns-in-Nothing-clause-step : goal.returns-in-Nothing-clause-step
returns-in-Nothing-clause-step c before has =
    let primary : ℕ → ℕ = primary_of c.args.roster.now in
    subst (HasStepped c.args.self.now c.args.steps.now)
    (sym (told_at_by_news primary before c.args.number (content_at (entries c.args.self.now.part.log) c.args.number)
    ∙ ap (told_news primary before c.args.number) (sym c.news_at.ensures ∙ c.in-Nothing.is))) has
