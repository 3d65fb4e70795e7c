use Rattle.cl_actor.specs.Core.{noted_of}
use Rattle.cl_wire.specs.Message.{Outcome}
use Rattle.cl_tests_nodes.proofs.front.Run.hear.Goals as goal

pub returns : goal.returns
returns g c =
    let step = c.in_ok-steps.ensures.step c.requires.state c.requires.is_front in
    record {
      state = _;
      is_front = c.settle.ensures _ step.0;
      numbered = c.numbers_grow_by_one.ensures.after_message (noted_of c.args.self.now.roster) c.requires.state 1
          (Outcome c.txn.result c.args.number c.outcome.result) c.in_ok-steps.steps.short c.args.self.now.steps c.requires.numbered;
    }
