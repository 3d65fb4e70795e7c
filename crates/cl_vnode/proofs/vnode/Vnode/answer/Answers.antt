-- The acts of an answer are messages.
use Rattle.std.proofs.Common.{◌≡◌, ℕ, List, sym, ap, ◌∙◌, subst, refl}
use Rattle.cl_types.specs.declared.answers.Answer.{Answer}
use Rattle.cl_types.specs.declared.operations.TxnId.{TxnId}
use Rattle.cl_control.specs.declared.acts.Act.{Act}
use Rattle.cl_control.specs.Calls.{answer_acts, after_answer}
use Rattle.cl_control.specs.State.{ControlState}
use Rattle.cl_types.specs.GrowingList.{items}
use Rattle.cl_vnode.specs.Sending.{AreSends, primary_of}
use Rattle.cl_vnode.specs.Step.{answered}
use Rattle.cl_vnode.proofs.Controller.{nodes-after_answer, answer_acts_are_sends}
use Rattle.cl_vnode.proofs.Performing.{controlled_sent}
use Rattle.cl_vnode.proofs.vnode.Vnode.answer.Goals as goal

-- whatever the nodes and the acts are called
sends_given : (nodes : ℕ) (control : ControlState) (v : ℕ) (txn : TxnId) (number : ℕ) (answer : Answer) (given : List Act) → nodes ≡ control.nodes → given ≡ answer_acts control v txn number answer → AreSends nodes given
sends_given nodes control v txn number answer given same is =
    subst (AreSends nodes) (sym is) (subst (λ n. AreSends n (answer_acts control v txn number answer)) (sym same) (answer_acts_are_sends control v txn number answer))

pub send_all-requires : goal.send_all-requires
send_all-requires c =
    sends_given c.args.roster.now.nodes c.args.self.now.control c.args.v c.args.txn c.args.number c.in_ok-answer.answer (items c.in_ok-acts.acts) c.requires c.in_ok-acts.ensures.acts

pub returns-clause-step : goal.returns-clause-step
unfolding answered
returns-clause-step c before has =
    controlled_sent c.args.self.now _ c.args.steps.now c.send_all.new.steps (primary_of c.args.roster.now) c.args.roster.now.nodes before (items c.in_ok-acts.acts)
    (λ s. after_answer s c.args.v c.args.txn c.args.number c.args.answer.now)
    (λ s. answer_acts s c.args.v c.args.txn c.args.number c.args.answer.now) has refl refl refl refl
    (c.in_ok-acts.ensures.state ∙ ap (after_answer c.args.self.now.control c.args.v c.args.txn c.args.number) c.in_ok-answer.ensures)
    (c.in_ok-acts.ensures.acts ∙ ap (answer_acts c.args.self.now.control c.args.v c.args.txn c.args.number) c.in_ok-answer.ensures)
    (sends_given c.args.roster.now.nodes c.args.self.now.control c.args.v c.args.txn c.args.number c.in_ok-answer.answer (items c.in_ok-acts.acts) c.requires c.in_ok-acts.ensures.acts)
    c.in_ok-send_all.ensures

pub returns-clause-nodes : goal.returns-clause-nodes
returns-clause-nodes c =
    ap (λ (s : ControlState). s.nodes) c.in_ok-acts.ensures.state ∙ nodes-after_answer c.args.self.now.control c.args.v c.args.txn c.args.number c.in_ok-answer.answer
