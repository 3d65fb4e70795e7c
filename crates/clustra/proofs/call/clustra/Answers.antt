-- The words ask for one run at most.
use Rattle.std.proofs.Common.{refl}
use Rattle.clustra.specs.Words.{AreServe}
use Rattle.clustra.proofs.Asked.{asked_if, ran_asked, serve_only, usage_of}
use Rattle.clustra.proofs.call.clustra.Goals as goal

pub returns-clause-usage : goal.returns-clause-usage
returns-clause-usage g c = usage_of (AreServe _) c.serve_setting.result _ c.serve_setting.ensures c.serve_words.ensures.usage

pub returns-clause-asked : goal.returns-clause-asked
returns-clause-asked g c = asked_if _ (AreServe _) c.serve_setting.result c.serve_setting.ensures c.serve_words.ensures.asked

pub returns-clause-ran : goal.returns-clause-ran
returns-clause-ran g c = ran_asked (AreServe _) _ c.serve_setting.result (serve_only _) c.serve_setting.ensures c.serve_words.ensures.ran

pub returns-clause-constants : goal.returns-clause-constants
returns-clause-constants g c = record { transactions = refl; messages = refl; records = refl }
