use Rattle.cl_tests_nodes.proofs.front.Run.feed.Goals as goal

pub returns : goal.returns
returns g c =
    let step = c.in_ok-steps.ensures.step c.requires.state c.requires.is_front in
    record {
      state = _;
      is_front = c.settle.ensures _ step.0;
      numbered = c.numbers_grow_by_one.ensures.after_line _ _ _ _ _ _ c.requires.numbered;
    }
