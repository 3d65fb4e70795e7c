-- The acts of a vote are a Decide or none.
use Rattle.std.proofs.Common.{List, OnOk, sym, ap, ◌∙◌, subst, refl}
use Rattle.cl_control.specs.declared.acts.Act.{Act}
use Rattle.cl_control.specs.Calls.{vote_acts, after_vote}
use Rattle.cl_control.specs.State.{ControlState}
use Rattle.cl_vnode.specs.Sending.{AreActs, HasStepped, primary_of}
use Rattle.cl_part.proofs.States.{OnOk-map}
use Rattle.cl_vnode.specs.Step.{Stepped, voted, with_control, all_performed}
use Rattle.cl_vnode.proofs.Controller.{nodes-after_vote, vote_acts_are_acts}
use Rattle.cl_vnode.proofs.Performing.{controlled}
use Rattle.cl_vnode.proofs.vnode.Vnode.vote.Goals as goal

pub perform-requires : goal.perform-requires
perform-requires c =
    subst (AreActs c.args.roster.now.nodes c.vote.new.self) (sym c.in_ok-acts.ensures.acts)
    (subst (λ (s : ControlState). AreActs c.args.roster.now.nodes s (vote_acts c.args.self.now.control c.args.v c.args.txn)) (sym c.in_ok-acts.ensures.state)
    (vote_acts_are_acts c.args.roster.now.nodes c.args.self.now.control c.args.v c.args.txn))

pub returns-clause-step : goal.returns-clause-step
unfolding voted
returns-clause-step c before has =
    let after : Stepped = with_control before (after_vote before.state.control c.args.v c.args.txn) in
    subst (λ (acts : List Act). OnOk c.perform.result (HasStepped c.perform.new.self c.perform.new.steps (all_performed (primary_of c.args.roster.now) after acts)))
    (c.in_ok-acts.ensures.acts ∙ ap (λ (s : ControlState). vote_acts s c.args.v c.args.txn) has.state.control)
    (c.perform.ensures.step after
    (controlled c.args.self.now _ c.args.steps.now before (λ s. after_vote s c.args.v c.args.txn) has refl refl refl refl c.in_ok-acts.ensures.state))

pub returns-clause-nodes : goal.returns-clause-nodes
returns-clause-nodes c =
    OnOk-map c.perform.result _ _
    (λ same. same ∙ ap (λ (s : ControlState). s.nodes) c.in_ok-acts.ensures.state ∙ nodes-after_vote c.args.self.now.control c.args.v c.args.txn)
    c.perform.ensures.nodes
