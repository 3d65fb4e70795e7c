-- Each kind of input is taken as it says.
use Rattle.std.proofs.Common.{◌≡◌, ℕ, Bool, true, false, ◌&&◌, cond, ◌⊎◌, OnOk, refl, sym, ap, subst, inl, inr}
use Rattle.cl_types.specs.declared.operations.TxnId.{TxnId}
use Rattle.cl_types.specs.Places.{Place}
use Rattle.cl_log.specs.Open.{is_open}
use Rattle.cl_part.specs.State.{State}
use Rattle.cl_part.proofs.States.{OnOk-map}
use Rattle.cl_wire.specs.declared.packet.Body.{Body}
use Rattle.cl_wire.specs.declared.packet.Body.TheVariants as bodies
use Rattle.cl_wire.specs.Message.{Content, content_of}
use Rattle.cl_vnode.specs.Inputs.{is_end_spent, is_spent}
use Rattle.cl_vnode.specs.Replica.{ReplicaState}
use Rattle.cl_vnode.specs.Sending.{HasStepped, primary_of}
use Rattle.cl_vnode.specs.Step.{Stepped, with_part, after_finish, prepared, finished, taken}
use Rattle.cl_vnode.proofs.Asking.{has_asked}
use Rattle.cl_vnode.proofs.vnode.Vnode.take.Goals as goal

pub returns-in-Command-clause-step : goal.returns-in-Command-clause-step
returns-in-Command-clause-step c before has =
    subst (λ (content : Content). OnOk c.command.result (HasStepped c.command.new.self c.command.new.steps (taken (primary_of c.args.roster.now) before c.args.from content c.command.new.steps.short)))
    (sym (ap content_of c.in-Command.is)) (c.command.ensures.step before has)

pub returns-in-Answer-clause-step : goal.returns-in-Answer-clause-step
returns-in-Answer-clause-step c before has =
    subst (λ (content : Content). OnOk c.answer.result (HasStepped c.answer.new.self c.answer.new.steps (taken (primary_of c.args.roster.now) before c.args.from content c.answer.new.steps.short)))
    (sym (ap content_of c.in-Answer.is)) (c.answer.ensures.step before has)

pub returns-in-Vote-clause-step : goal.returns-in-Vote-clause-step
returns-in-Vote-clause-step c before has =
    subst (λ (content : Content). OnOk c.vote.result (HasStepped c.vote.new.self c.vote.new.steps (taken (primary_of c.args.roster.now) before c.args.from content c.vote.new.steps.short)))
    (sym (ap content_of c.in-Vote.is)) (c.vote.ensures.step before has)

pub returns-in_ok-reply-in-Ask-clause-step : goal.returns-in_ok-reply-in-Ask-clause-step
returns-in_ok-reply-in-Ask-clause-step c before has =
    let place : Place = (c.in-Ask.table, c.in-Ask.key) in
    rw c.in-Ask.is
    (has_asked c.args.self.now _ c.args.steps.now c.reply.new.steps before c.args.from c.in-Ask.v c.in-Ask.txn c.in-Ask.number place c.in-Ask.op
    has refl refl refl refl c.in_ok-answer-in-Ask.answer
    (c.in_ok-answer-in-Ask.ensures.answer before.state.part has.state.part) (c.in_ok-answer-in-Ask.ensures.state before.state.part has.state.part)
    (c.in_ok-answer-in-Ask.ensures.no_memory before.state.part has.state.part) c.in_ok-reply-in-Ask.ensures)

pub returns-in-Prepare-clause-step : goal.returns-in-Prepare-clause-step
unfolding prepared
returns-in-Prepare-clause-step c before has =
    rw c.in-Prepare.is
    (OnOk-map c.prepare.result _ _
    (λ now. record {
      state =
          record { v = has.state.v; part = now; control = has.state.control; modes = has.state.modes; decisions = has.state.decisions };
      step = has.step;
    })
    (c.prepare.ensures.state before.state.part has.state.part))

-- ---- a Finish or a Decision

-- the body is one of the two
abbrev IsFinish : Body → TxnId → Bool → Type 0
IsFinish body txn commit = ((v : ℕ) × (body ≡ bodies.Finish v txn commit)) ⊎ ((v : ℕ) × (body ≡ bodies.Decision v txn commit))

finish_taken : (primary : ℕ → ℕ) (before : Stepped) (from : ℕ) (short : Bool) (body : Body) (txn : TxnId) (commit : Bool) → IsFinish body txn commit →
    taken primary before from (content_of body) short ≡ finished before txn commit
finish_taken primary before from short body txn commit (inl (v, is)) = ap (λ (b : Body). taken primary before from (content_of b) short) is
finish_taken primary before from short body txn commit (inr (v, is)) = ap (λ (b : Body). taken primary before from (content_of b) short) is

finish_spent : (before : ReplicaState) (body : Body) (txn : TxnId) (commit : Bool) → IsFinish body txn commit →
    is_spent before (content_of body) ≡ (is_open before.part.log txn && is_end_spent before.part txn commit)
finish_spent before body txn commit (inl (v, is)) = ap (λ (b : Body). is_spent before (content_of b)) is
finish_spent before body txn commit (inr (v, is)) = ap (λ (b : Body). is_spent before (content_of b)) is

either_part : (b : Bool) (done : Stepped) (part : State) → with_part done (cond b part done.state.part) ≡ cond b (with_part done part) done
either_part true done part = refl
either_part false done part = refl

pub returns-in-Finish-clause-step : goal.returns-in-Finish-clause-step
unfolding finished
returns-in-Finish-clause-step c before has =
    let txn : TxnId = c.in-Finish.txn in
    let open_here : Bool = is_open before.state.part.log txn in
    rw (finish_taken (primary_of c.args.roster.now) before c.args.from c.args.steps.now.short c.args.body.now txn c.in-Finish.commit c.in-Finish.is)
    (rw (sym (either_part open_here before (after_finish before.state.part txn c.in-Finish.commit)))
    (OnOk-map c.finish.result _ _
    (λ now. record {
      state =
          record { v = has.state.v; part = now; control = has.state.control; modes = has.state.modes; decisions = has.state.decisions };
      step = has.step;
    })
    (c.finish.ensures.state before.state.part has.state.part)))

pub returns-in-Finish-clause-spent : goal.returns-in-Finish-clause-spent
returns-in-Finish-clause-spent c before is =
    rw (finish_spent before c.args.body.now c.in-Finish.txn c.in-Finish.commit c.in-Finish.is) (c.finish.ensures.spent before.part is.part)
