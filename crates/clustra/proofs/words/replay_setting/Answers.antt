-- The words were compared one by one.
use Rattle.std.proofs.Common.{◌∙◌, sym}
use Rattle.std.proofs.lemmas.List.{take_rest}
use Rattle.clustra.proofs.Asked.{no_turns, replay_asks, same_text}
use Rattle.clustra.proofs.words.replay_setting.Goals as goal

pub returns-in_err-turns_of-in-len3-up : goal.returns-in_err-turns_of-in-len3-up
returns-in_err-turns_of-in-len3-up c =
    no_turns _ _ c.first-item.result c.option-item.result c.number-item.result _ c.in-len3-up.len_at_least c.first-item.is c.option-item.is c.number-item.is
    c.in_err-turns_of-in-len3-up.ensures c.from_residual.ensures

pub returns-in_ok-step_of-in-len3-up : goal.returns-in_ok-step_of-in-len3-up
returns-in_ok-step_of-in-len3-up c =
    let steps = (c.step_of.ensures c.in_ok-step_of-in-len3-up.field-0).0 c.in_ok-step_of-in-len3-up.was in
    replay_asks _ _ _ c.first-item.result c.option-item.result c.number-item.result c.in_ok-turns_of-in-len3-up.field-0 c.in_ok-step_of-in-len3-up.field-0 _
    c.in-len3-up.len_at_least c.first-item.is c.option-item.is c.number-item.is
    (sym c.as_str.ensures.value ∙ same_text c.as_str.result.now _ (sym c.eq.ensures ∙ c.if-eq.true))
    (sym c.as_str-then-eq.ensures.value ∙ same_text c.as_str-then-eq.result.now _ (sym c.eq-then-eq.ensures ∙ c.if-eq-2.true))
    (sym c.turns_of.ensures ∙ c.in_ok-turns_of-in-len3-up.was) (take_rest _ 3) steps c.new_setting.ensures
