use Rattle.std.proofs.Common.{◌≡◌, ◌+◌, [], ◌∷◌, ◌++◌, ap, ◌∙◌, arith}
use Rattle.cl_log.specs.Log.{entries, next_number}
use Rattle.cl_log.specs.Store.{redo_by_guard}
use Rattle.cl_log.proofs.LogWords.{one-le-next_number}
use Rattle.cl_store.specs.Store.{stored}
use Rattle.cl_part.proofs.States.{redo_by_guard-carried}
use Rattle.cl_part.proofs.part.Part.record.Goals as goal

pub take-requires-clause-number : goal.take-requires-clause-number
take-requires-clause-number c = let one = one-le-next_number c.args.self.now.log in omega arith

pub returns-clause-number : goal.returns-clause-number
returns-clause-number c = let one = one-le-next_number c.args.self.now.log in omega arith

pub returns-clause-recorded : goal.returns-clause-recorded
returns-clause-recorded c =
    let one = one-le-next_number c.args.self.now.log in
    let number : c.last-number.result + 1 ≡ next_number c.args.self.now.log = omega arith in
    record {
      store = λ place. c.in_ok-take.ensures.store place
          ∙ ap (λ n. redo_by_guard place (stored c.args.self.now.store place) (record { number = n; content = c.args.content })) number
          ∙ redo_by_guard-carried place (stored c.args.self.now.store place) (record { number = next_number c.args.self.now.log; content = c.args.content }) (c.requires.meets place);
      log = c.in_ok-take.ensures.log ∙ ap (λ n. entries c.args.self.now.log ++ record { number = n; content = c.args.content } ∷ []) number;
      next = c.in_ok-take.ensures.next ∙ ap (λ n. n + 1) number;
      locks = c.in_ok-take.ensures.grants;
    }
