-- One number more is looked at.
use Rattle.std.proofs.Common.{◌≡◌, ℕ, ◌+◌, List, [], ◌++◌, sym, ap, ◌∙◌, append_assoc, arith}
use Rattle.std.proofs.lemmas.Grind.{flat_map-append}
use Rattle.std.proofs.lemmas.List.{append-nil}
use Rattle.cl_types.specs.declared.operations.TxnId.{TxnId}
use Rattle.cl_log.specs.Log.{entries, first_kept}
use Rattle.cl_log.specs.LogEntry.{LogEntry, content_at}
use Rattle.cl_log.proofs.LogWords.{IsNumberedFrom-entries}
use Rattle.cl_steps.specs.Steps.{Step, step_of}
use Rattle.cl_vnode.specs.Noting.{decides_in}
use Rattle.cl_vnode.specs.Sending.{found_at}
use Rattle.cl_vnode.specs.Standby.{firm_of}
use Rattle.cl_vnode.specs.Step.{entries_between}
use Rattle.cl_vnode.proofs.Telling.{more_between, none_between, between_all}
use Rattle.cl_vnode.proofs.noting.tell_firm_after.Goals as goal

-- these transactions more are firm
abbrev with_firm : Step → List TxnId → Step
with_firm step txns = record step { firm = step.firm ++ txns }

none_more : (step : Step) → step ≡ with_firm step []
none_more step = ap (λ (txns : List TxnId). record step { firm = txns }) (sym (append-nil step.firm))

some_more : (old so_far new : Step) (txns more : List TxnId) → so_far ≡ with_firm old txns → new ≡ with_firm so_far more → new ≡ with_firm old (txns ++ more)
some_more old so_far new txns more was is =
    is ∙ ap (λ (s : Step). with_firm s more) was ∙ ap (λ (all : List TxnId). record old { firm = all }) (append_assoc old.firm txns more)

pub loop-number-init : goal.loop-number-init
loop-number-init c = record {
  firm = none_more (step_of c.args.steps.now)
      ∙ ap (λ (es : List LogEntry). with_firm (step_of c.args.steps.now) (decides_in es))
      (sym (none_between c.args.old c.args.old (entries c.args.log.now) (omega arith)));
  within = omega arith;
}

pub loop-number-preserved : goal.loop-number-preserved
loop-number-preserved c =
    let log : List LogEntry = entries c.args.log.now in
    let number : ℕ = c.loop-number.number in
    let so_far : List LogEntry = entries_between c.args.old number log in
    let found : List LogEntry = found_at (number + 1) (content_at log (number + 1)) in
    record {
      firm = some_more (step_of c.args.steps.now) (step_of c.loop-number.steps) (step_of c.tell_firm_at.new.steps) (decides_in so_far) (decides_in found)
          c.loop-number.invariant.firm c.in_ok-tell_firm_at.ensures
          ∙ ap (with_firm (step_of c.args.steps.now)) (sym (flat_map-append (λ (entry : LogEntry). firm_of entry.content) so_far found))
          ∙ ap (λ (es : List LogEntry). with_firm (step_of c.args.steps.now) (decides_in es)) (sym
          (more_between c.args.old number c.loop-number.auto.number (first_kept c.args.log.now) log (IsNumberedFrom-entries c.args.log.now)));
      within = omega (arith, c.loop-number-test.true);
    }

pub returns : goal.returns
returns c =
    let log : List LogEntry = entries c.args.log.now in
    c.loop-number.invariant.firm
    ∙ ap (λ (es : List LogEntry). with_firm (step_of c.args.steps.now) (decides_in es))
    (between_all c.args.old c.last-number-end.result c.loop-number.number log c.loop-number.auto.number c.loop-number.invariant.within c.loop-number-test.false
    ∙ ap (λ n. entries_between c.args.old n log) c.last-number-end.ensures)
