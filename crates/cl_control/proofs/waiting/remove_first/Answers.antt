use Rattle.std.proofs.Common.{◌<◌, length, drop, get_or, refl, sym, ap, ◌∙◌, arith}
use Rattle.std.proofs.lemmas.Bool.{false≢true}
use Rattle.std.proofs.lemmas.List.{length-drop, drop-drop}
use Rattle.cl_control.proofs.Entries.{without_told-nil, without_told-next}
use Rattle.cl_control.proofs.waiting.remove_first.Goals as goal
use Rattle.cl_control.proofs.waiting.remove_first.Goals.{in-Some, in_default}

pub loop-init : goal.loop-init
loop-init c = record {
  waiting = refl;
  transactions = sym (without_told-nil c.args.transactions.now);
  capacity = refl;
}

pub loop-preserved : goal.loop-preserved
loop-preserved c =
    let within : c.loop.counter < length c.args.waiting.now.items = omega arith in
    record {
      waiting = c.pop_front.ensures.rest ∙ ap (drop 1) c.loop.invariant.waiting ∙ drop-drop 1 c.loop.counter c.args.waiting.now.items;
      transactions =
          elim c.match-pop_front.branch [
            | in-Some w ↦
                without_told-next c.args.waiting.now.items c.loop.counter w.in-Some.told c.args.transactions.now c.loop.transactions c.match-pop_front.transactions within
                (w.in-Some.ensures.lookup ∙ ap (λ items. get_or items 0 w.in-Some.told) c.loop.invariant.waiting) c.loop.invariant.transactions
                (w.transactions-is ∙ w.remove_logged.ensures w.in-Some.told.number)
            | in_default w ↦
                absurd (false≢true (w.in_default.ensures.variant.1
                (omega (arith, c.loop.waiting.ok, ap length c.loop.invariant.waiting, length-drop c.loop.counter c.args.waiting.now.items))))
          ];
      capacity = c.pop_front.ensures.capacity ∙ c.loop.invariant.capacity;
    }
