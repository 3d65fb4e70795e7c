-- The input is taken, what became safe is told, and what was appended is shipped.
use Rattle.std.proofs.Common.{◌≡◌, ℕ, ◌+◌, Bool, Err, sym, ap, ◌∙◌, subst, arith}
use Rattle.std.proofs.lemmas.Result.{err_from_is_err_and}
use Rattle.cl_types.specs.declared.answers.Refused.{Refused}
use Rattle.cl_types.specs.declared.answers.Refused.TheVariants.{NoMemory, Spent}
use Rattle.cl_log.proofs.LogWords.{one-le-next_number}
use Rattle.cl_roster.specs.View.{RosterView}
use Rattle.cl_steps.specs.declared.steps.Steps.{Steps}
use Rattle.cl_steps.specs.Steps.{Step}
use Rattle.cl_wire.specs.Message.{Content, content_of}
use Rattle.cl_vnode.specs.Inputs.{IsSpentWhere, is_spent}
use Rattle.cl_vnode.specs.Replica.{safe_number}
use Rattle.cl_vnode.specs.Sending.{HasStepped, primary_of}
use Rattle.cl_vnode.specs.Step.{Stepped, started, taken, all_told, shipped, stepped}
use Rattle.cl_vnode.proofs.vnode.Vnode.primary_step.Goals as goal

-- a refusal says the same of the whole step
spent_alike : (spent : Bool) (refused : Refused) → IsSpentWhere {A = Unit {0}} spent (Err refused) → IsSpentWhere {A = Steps} spent (Err refused)
spent_alike spent Spent is = is
spent_alike spent NoMemory is = tt

pub returns-in_err-take-clause-spent : goal.returns-in_err-take-clause-spent
returns-in_err-take-clause-spent c before is =
    let passed = err_from_is_err_and c.from_residual.result c.from_residual.ensures.1 in
    rw (passed.1, passed.2) (spent_alike (is_spent before (content_of c.args.body.now)) c.in_err-take.field-0.0 (c.in_err-take.ensures.spent before is))

pub returns-clause-step : goal.returns-clause-step
returns-clause-step c before is =
    let primary : ℕ → ℕ = primary_of c.so_far-roster.result in
    let content : Content = content_of c.args.body.now in
    let input : Stepped = taken primary (started before) c.args.from content c.take.new.steps.short in
    let told : Stepped = all_told primary (safe_number before) input in
    let took : HasStepped c.take.new.self c.take.new.steps input = c.in_ok-take.ensures.step (started before) (record { state = is; step = c.new-steps.ensures }) in
    let tells : HasStepped c.tell_safe.new.self c.tell_safe.new.steps told =
    subst (λ n. HasStepped c.tell_safe.new.self c.tell_safe.new.steps (all_told primary n input)) (c.safe_number-safe.ensures before is)
    (c.in_ok-tell_safe.ensures.step input took) in
    let one = one-le-next_number c.args.self.now.part.log in
    let last = c.last-last.ensures in
    let next_is = is.part.next in
    let next : c.last-last.result + 1 ≡ before.part.next = omega (arith, one, last, next_is) in
    let ships : HasStepped c.tell_safe.new.self c.in_ok-ship.field-0 (shipped before.part.next told) =
    subst (λ n. HasStepped c.tell_safe.new.self c.in_ok-ship.field-0 (shipped n told)) next (c.in_ok-ship.ensures told tells) in
    let mark : c.in_ok-ship.field-0.short ≡ c.take.new.steps.short =
    ap (λ (s : Step). s.short) ships.step ∙ sym (ap (λ (s : Step). s.short) tells.step) ∙ c.in_ok-tell_safe.ensures.short in
    let marked : HasStepped c.tell_safe.new.self c.in_ok-ship.field-0
    (shipped before.part.next (all_told primary (safe_number before) (taken primary (started before) c.args.from content c.in_ok-ship.field-0.short))) =
    subst (λ (b : Bool). HasStepped c.tell_safe.new.self c.in_ok-ship.field-0
    (shipped before.part.next (all_told primary (safe_number before) (taken primary (started before) c.args.from content b)))) (sym mark) ships in
    let done : RosterView → Stepped = λ roster. stepped (primary_of roster) before c.args.from content c.in_ok-ship.field-0.short in
    let here : HasStepped c.tell_safe.new.self c.in_ok-ship.field-0 (done c.args.roster.now) =
    subst (λ (roster : RosterView). HasStepped c.tell_safe.new.self c.in_ok-ship.field-0 (done roster)) c.so_far-roster.ensures marked in
    (here.state, here.step)
