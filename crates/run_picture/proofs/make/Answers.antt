use Rattle.run_picture.proofs.Makes.{may_make, made_ready}
use Rattle.run_picture.proofs.make.Goals as goal

pub run_events-requires : goal.run_events-requires
run_events-requires c = may_make _ _ _ c.requires c.enabled.ensures c.if-enabled.true

pub returns-in_ok-run_events : goal.returns-in_ok-run_events
returns-in_ok-run_events c = made_ready _ _ _ (may_make _ _ _ c.requires c.enabled.ensures c.if-enabled.true) c.in_ok-run_events.ensures
