-- An operation, answered with what it gave or with want of memory.
use Rattle.std.proofs.Common.{◌≡◌, ◌≢◌, ℕ, false, [], ◌∷◌, ◌++◌, refl, sym, ◌∙◌, ap, subst}
use Rattle.cl_types.specs.declared.answers.Answer.{Answer as OpAnswer}
use Rattle.cl_types.specs.declared.answers.Answer.TheVariants.{Done, Refused, NoMemory}
use Rattle.cl_types.specs.declared.operations.Op.{Op}
use Rattle.cl_types.specs.declared.operations.TxnId.{TxnId}
use Rattle.cl_types.specs.Places.{Place}
use Rattle.cl_part.specs.Calls.{answer_to, after_op}
use Rattle.cl_part.specs.State.{IsStateOf}
use Rattle.cl_steps.specs.declared.steps.Steps.{Steps}
use Rattle.cl_steps.specs.Steps.{Step, sent, step_of}
use Rattle.cl_wire.specs.Message.{Answer}
use Rattle.cl_vnode.specs.declared.vnode.Vnode.{Vnode}
use Rattle.cl_vnode.specs.Sending.{HasStepped, is_no_memory}
use Rattle.cl_vnode.specs.Step.{Stepped, asked}

module _ (old new : Vnode) (steps after : Steps) (before : Stepped) (from v : ℕ) (txn : TxnId) (number : ℕ) (place : Place) (op : Op)
    (has : HasStepped old steps before) (same_v : new.v ≡ old.v) (same_control : new.control ≡ old.control) (same_modes : new.modes ≡ old.modes)
    (same_decisions : new.decisions ≡ old.decisions) where
  -- the answer, with the mark
  abbrev answered_with : Step → OpAnswer → Step
  answered_with step answer = record step { sends = step.sends ++ sent from (Answer v txn number answer) ∷ []; short = is_no_memory answer }

  -- an answer that says what the operation gave
  given : (answer : OpAnswer) → is_no_memory answer ≡ false → answer ≡ answer_to before.state.part txn place op → IsStateOf new.part (after_op before.state.part txn place op) →
      step_of after ≡ answered_with (step_of steps) answer → HasStepped new after (asked before from v txn number place op (is_no_memory answer))
  unfolding asked
  given answer found is_answer now gave =
      subst (λ b. HasStepped new after (asked before from v txn number place op b)) (sym found) (record {
        state = record {
          v = same_v ∙ has.state.v;
          part = now;
          control = same_control ∙ has.state.control;
          modes = same_modes ∙ has.state.modes;
          decisions =
              same_decisions ∙ has.state.decisions;
        };
        step = gave ∙ ap (λ (s : Step). answered_with s answer) has.step
            ∙ ap (λ b. record before.step { sends = before.step.sends ++ sent from (Answer v txn number answer) ∷ []; short = b }) found
            ∙ ap (λ (a : OpAnswer). record before.step { sends = before.step.sends ++ sent from (Answer v txn number a) ∷ []; short = false }) is_answer;
      })

  by_answer : (answer : OpAnswer) → (answer ≢ NoMemory → answer ≡ answer_to before.state.part txn place op) →
      (answer ≢ NoMemory → IsStateOf new.part (after_op before.state.part txn place op)) → (answer ≡ NoMemory → IsStateOf new.part before.state.part) →
      step_of after ≡ answered_with (step_of steps) answer → HasStepped new after (asked before from v txn number place op (is_no_memory answer))
  unfolding asked
  by_answer (Done reply) is_answer now stays gave = given (Done reply) refl (is_answer (λ e. cc)) (now (λ e. cc)) gave
  by_answer (Refused holder) is_answer now stays gave = given (Refused holder) refl (is_answer (λ e. cc)) (now (λ e. cc)) gave
  by_answer NoMemory is_answer now stays gave = record {
    state = record {
      v = same_v ∙ has.state.v;
      part = stays refl;
      control = same_control ∙ has.state.control;
      modes = same_modes ∙ has.state.modes;
      decisions = same_decisions ∙ has.state.decisions;
    };
    step = gave ∙ ap (λ (s : Step). answered_with s NoMemory) has.step;
  }

  -- the mark stands in what the step gives
  pub has_asked : (answer : OpAnswer) → (answer ≢ NoMemory → answer ≡ answer_to before.state.part txn place op) →
      (answer ≢ NoMemory → IsStateOf new.part (after_op before.state.part txn place op)) → (answer ≡ NoMemory → IsStateOf new.part before.state.part) →
      step_of after ≡ answered_with (step_of steps) answer → HasStepped new after (asked before from v txn number place op after.short)
  has_asked answer is_answer now stays gave =
      let mark : after.short ≡ is_no_memory answer = ap (λ (s : Step). s.short) gave in
      subst (λ b. HasStepped new after (asked before from v txn number place op b)) (sym mark) (by_answer answer is_answer now stays gave)
