-- One number more is told of.
use Rattle.std.proofs.Common.{◌≡◌, ℕ, ◌+◌, List, fold, refl, sym, ap, ◌∙◌, subst, arith}
use Rattle.cl_log.specs.Log.{entries, first_kept}
use Rattle.cl_log.specs.LogEntry.{LogEntry, IsNumberedFrom, content_at}
use Rattle.cl_log.proofs.LogWords.{IsNumberedFrom-entries}
use Rattle.cl_vnode.specs.Replica.{safe_number}
use Rattle.cl_vnode.specs.Sending.{HasStepped, primary_of, told_at}
use Rattle.cl_vnode.specs.Step.{Stepped, entry_told, entries_between, all_told}
use Rattle.cl_vnode.proofs.Telling.{told_more, none_between, between_all}
use Rattle.cl_vnode.proofs.vnode.Vnode.tell_safe.Goals as goal

pub loop-number-init : goal.loop-number-init
loop-number-init c = record {
  told = λ before has.
      subst (λ (es : List LogEntry). HasStepped c.args.self.now c.args.steps.now (fold (entry_told (primary_of c.args.roster.now)) before es))
      (sym (none_between c.args.old c.args.old before.state.part.log (omega arith))) has;
  log = refl;
  nodes = c.requires;
  short = refl;
  within = omega arith;
}

pub loop-number-preserved : goal.loop-number-preserved
loop-number-preserved c = record {
  told = λ before has.
      (let primary : ℕ → ℕ = primary_of c.args.roster.now in
      let log : entries c.loop-number.self.part.log ≡ before.state.part.log = c.loop-number.invariant.log ∙ has.state.part.log in
      let numbered : IsNumberedFrom (first_kept c.args.self.now.part.log) before.state.part.log = subst (IsNumberedFrom (first_kept c.args.self.now.part.log)) has.state.part.log (IsNumberedFrom-entries c.args.self.now.part.log) in
      let so_far : Stepped = fold (entry_told primary) before (entries_between c.args.old c.loop-number.number before.state.part.log) in
      subst (HasStepped c.tell.new.self c.tell.new.steps)
      (ap (λ (es : List LogEntry). told_at primary so_far (c.loop-number.number + 1) (content_at es (c.loop-number.number + 1))) log
      ∙ sym (told_more primary c.args.old c.loop-number.number c.loop-number.auto.number (first_kept c.args.self.now.part.log) before.state.part.log before numbered))
      (c.in_ok-tell.ensures.step so_far (c.loop-number.invariant.told before has)));
  log = c.in_ok-tell.ensures.log ∙ c.loop-number.invariant.log;
  nodes = c.loop-number.invariant.nodes ∙ sym c.in_ok-tell.ensures.nodes;
  short = c.in_ok-tell.ensures.short ∙ c.loop-number.invariant.short;
  within = omega (arith, c.loop-number-test.true);
}

pub returns-clause-step : goal.returns-clause-step
unfolding all_told
returns-clause-step c before has =
    let reached : entries_between c.args.old c.loop-number.number before.state.part.log ≡ entries_between c.args.old (safe_number before.state) before.state.part.log =
    between_all c.args.old c.safe_number-number-end.result c.loop-number.number before.state.part.log c.loop-number.auto.number c.loop-number.invariant.within c.loop-number-test.false
    ∙ ap (λ n. entries_between c.args.old n before.state.part.log) (c.safe_number-number-end.ensures before.state has.state) in
    subst (λ (es : List LogEntry). HasStepped c.loop-number.self c.loop-number.steps (fold (entry_told (primary_of c.args.roster.now)) before es)) reached (c.loop-number.invariant.told before has)
