-- What is kept is of a run that the words ask for, and words that ask for none are refused.
use Rattle.std.proofs.Common.{ap, inl, inr, sym, ◌∙◌}
use Rattle.std.specs.Option.{option_copied}
use Rattle.clustra.proofs.Asked.{none_is_no_replay, other_is_no_replay, other_text, ran_some, replay_is_no_serve, same_text, usage_of_replay, usage_of_serve}
use Rattle.clustra.proofs.run_words.Goals as goal
use Rattle.clustra.proofs.run_words.Goals.{in_default-via-in-Some+else-eq, in_default-via-in_default}

pub returns-in-Some-clause-usage : goal.returns-in-Some-clause-usage
returns-in-Some-clause-usage g c =
    usage_of_replay _ _
    (λ setting. replay_is_no_serve _ _ c.in-Some.first.now setting (sym c.first.ensures.value ∙ ap option_copied c.in-Some.is)
    (sym c.as_str.ensures.value ∙ same_text c.as_str.result.now _ (sym c.eq.ensures ∙ c.if-eq.true)))
    c.clustra_replay.ensures.usage

pub returns-in_default-clause-usage : goal.returns-in_default-clause-usage
returns-in_default-clause-usage g c =
    usage_of_serve _ _
    (λ setting. elim c.in_default.branch [
      | in_default-via-in-Some+else-eq w ↦
          other_is_no_replay _ _ w.in-Some.first.now setting (sym c.first.ensures.value ∙ ap option_copied w.in-Some.is)
          (λ is. other_text w.as_str.result.now _ (sym w.eq.ensures ∙ w.if-eq.false) (w.as_str.ensures.value ∙ is))
      | in_default-via-in_default w ↦ none_is_no_replay _ _ setting (sym c.first.ensures.value ∙ ap option_copied w.in_default.is)
    ])
    c.clustra.ensures.usage

pub returns-in-Some-clause-ran : goal.returns-in-Some-clause-ran
returns-in-Some-clause-ran g c = ran_some _ _ _ _ (λ setting is. inr is) c.clustra_replay.ensures.asked c.clustra_replay.ensures.ran

pub returns-in_default-clause-ran : goal.returns-in_default-clause-ran
returns-in_default-clause-ran g c = ran_some _ _ _ _ (λ setting is. inl is) c.clustra.ensures.asked c.clustra.ensures.ran
