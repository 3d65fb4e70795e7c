-- The words ask for one run at most.
use Rattle.std.proofs.Common.{refl}
use Rattle.clustra.specs.Words.{AreReplay}
use Rattle.clustra.proofs.Asked.{asked_if, ran_asked, replay_only, usage_of}
use Rattle.clustra.proofs.call.clustra_replay.Goals as goal

pub returns-clause-usage : goal.returns-clause-usage
returns-clause-usage g c = usage_of (AreReplay _) c.replay_setting.result _ c.replay_setting.ensures c.serve_words.ensures.usage

pub returns-clause-asked : goal.returns-clause-asked
returns-clause-asked g c = asked_if _ (AreReplay _) c.replay_setting.result c.replay_setting.ensures c.serve_words.ensures.asked

pub returns-clause-ran : goal.returns-clause-ran
returns-clause-ran g c = ran_asked (AreReplay _) _ c.replay_setting.result (replay_only _) c.replay_setting.ensures c.serve_words.ensures.ran

pub returns-clause-constants : goal.returns-clause-constants
returns-clause-constants g c = record { transactions = refl; messages = refl; records = refl }
