-- One number more is shipped.
use Rattle.std.proofs.Common.{ℕ, ◌+◌, ◌++◌, List, map, Option, sym, ap, ◌∙◌, arith}
use Rattle.std.specs.Option.{option_copied}
use Rattle.std.proofs.lemmas.List.{map-append}
use Rattle.cl_log.specs.declared.records.LogRec.{LogRec}
use Rattle.cl_log.specs.Log.{entries, first_kept}
use Rattle.cl_log.specs.LogEntry.{LogEntry, content_at}
use Rattle.cl_log.proofs.LogWords.{IsNumberedFrom-entries, first_kept-length, one-le-next_number}
use Rattle.cl_steps.specs.declared.steps.Outgoing.{Outgoing}
use Rattle.cl_vnode.specs.Sending.{found_at}
use Rattle.cl_vnode.specs.Step.{entries_between, log_message}
use Rattle.cl_vnode.proofs.Telling.{more_between, none_between, between_all, between_is_from}
use Rattle.cl_vnode.proofs.shipping.records_after.Goals as goal

pub loop-number-init : goal.loop-number-init
loop-number-init c = record {
  shipped = c.new-sends.ensures
      ∙ ap (map (log_message c.args.standby c.args.v)) (sym (none_between c.args.last c.args.last (entries c.args.log.now) (omega arith)));
  within = omega arith;
}

pub loop-number-preserved : goal.loop-number-preserved
loop-number-preserved c =
    let ships : LogEntry → Outgoing = log_message c.args.standby c.args.v in
    let log : List LogEntry = entries c.args.log.now in
    let number : ℕ = c.loop-number.number in
    let so_far : List LogEntry = entries_between c.args.last number log in
    record {
      shipped = c.in_ok-ship_record.ensures
          ∙ ap (λ (ms : List Outgoing). ms ++ map ships (found_at (number + 1) (option_copied c.at.result))) c.loop-number.invariant.shipped
          ∙ ap (λ (found : Option LogRec). map ships so_far ++ map ships (found_at (number + 1) found)) c.at.ensures
          ∙ sym (map-append ships so_far (found_at (number + 1) (content_at log (number + 1))))
          ∙ ap (map ships) (sym
          (more_between c.args.last number c.loop-number.auto.number (first_kept c.args.log.now) log (IsNumberedFrom-entries c.args.log.now)));
      within = omega (arith, c.loop-number-test.true);
    }

pub returns : goal.returns
returns c =
    let log : List LogEntry = entries c.args.log.now in
    let length_is = first_kept-length c.args.log.now in
    let one = one-le-next_number c.args.log.now in
    c.loop-number.invariant.shipped
    ∙ ap (map (log_message c.args.standby c.args.v))
    (between_all c.args.last c.last-number-end.result c.loop-number.number log c.loop-number.auto.number c.loop-number.invariant.within c.loop-number-test.false
    ∙ between_is_from c.args.last c.last-number-end.result (first_kept c.args.log.now) log (IsNumberedFrom-entries c.args.log.now)
    (omega (arith, length_is, one, c.last-number-end.ensures)))
