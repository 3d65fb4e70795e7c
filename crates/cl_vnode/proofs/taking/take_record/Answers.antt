-- The record is the next one.
use Rattle.std.proofs.Common.{◌≡◌, ◌+◌, [], ◌∷◌, ◌++◌, sym, ap, ◌∙◌, subst}
use Rattle.cl_log.specs.Log.{entries, next_number}
use Rattle.cl_log.specs.Store.{redo_by_guard}
use Rattle.cl_part.specs.Recorded.{HasRecorded, next_entry}
use Rattle.cl_part.proofs.States.{IsStateOf-recorded, MeetsWrite-next, redo_by_guard-carried}
use Rattle.cl_redo.specs.Condition.{MeetsWrite}
use Rattle.cl_store.specs.Store.{stored}
use Rattle.cl_vnode.proofs.taking.take_record.Goals as goal

pub take-requires-clause-meets : goal.take-requires-clause-meets
take-requires-clause-meets c =
    subst (λ n. MeetsWrite (stored c.args.part.now.store) (record { number = n; content = c.args.content })) (sym c.requires.takes.next)
    (MeetsWrite-next c.args.part.now c.args.content c.requires.below c.requires.takes.carries)

pub returns-clause-state : goal.returns-clause-state
returns-clause-state c before is =
    let next : c.args.number ≡ next_number c.args.part.now.log = c.requires.takes.next in
    let recorded : HasRecorded c.args.part.now _ c.args.content = record {
      store = λ place. c.in_ok-take.ensures.store place
          ∙ ap (λ n. redo_by_guard place (stored c.args.part.now.store place) (record { number = n; content = c.args.content })) next
          ∙ redo_by_guard-carried place (stored c.args.part.now.store place) (next_entry c.args.part.now c.args.content) (c.requires.takes.carries place);
      log = c.in_ok-take.ensures.log ∙ ap (λ n. entries c.args.part.now.log ++ record { number = n; content = c.args.content } ∷ []) next;
      next = c.in_ok-take.ensures.next ∙ ap (λ n. n + 1) next;
      locks = c.in_ok-take.ensures.grants;
    } in
    IsStateOf-recorded c.args.part.now _ before c.args.content recorded is
