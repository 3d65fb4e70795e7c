use Rattle.std.proofs.Common.{rules}
use Rattle.cl_world.proofs.Follows.{may_run_one}
use Rattle.cl_tests_world.proofs.Goes.{still_ready}
use Rattle.cl_tests_world.proofs.running.makes.Goals as goal

pub run_events-requires : goal.run_events-requires
run_events-requires g c =
    let both = (c.enabled.ensures c.requires.shape c.requires.run c.requires.is c.requires.whole).0 (search rules) in
    (c.requires.shape, c.requires.run, may_run_one _ _ _ _ c.requires.is c.requires.whole both.0 both.1)

pub returns : goal.returns
returns g c =
    let both = (c.enabled.ensures c.requires.shape c.requires.run c.requires.is c.requires.whole).0 (search rules) in
    still_ready _ _ _ _ _ _ (c.run_events.ensures c.requires.shape c.requires.run (may_run_one _ _ _ _ c.requires.is c.requires.whole both.0 both.1))
