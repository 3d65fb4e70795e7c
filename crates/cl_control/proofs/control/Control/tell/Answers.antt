use Rattle.std.proofs.Common.{[], ◌++◌, OnOk, ◌≡◌, map, option_map, sym, ap, subst, ◌∙◌}
use Rattle.std.specs.Option.{option_copied, option_map_or}
use Rattle.cl_types.specs.GrowingList.{items}
use Rattle.cl_control.specs.Calls.{act_of}
use Rattle.cl_control.specs.State.{ascending, participants_of}
use Rattle.cl_control.specs.Table.{named}
use Rattle.cl_control.proofs.control.Control.tell.Goals as goal

pub returns-in-Some : goal.returns-in-Some
returns-in-Some c =
    let nodes = ap (λ state. state.nodes) c.self.view_is in
    let found = sym (ap (λ o. option_map (named c.args.txn) (option_copied o)) c.in-Some.is) ∙ c.get.ensures in
    let participants = c.as_slice.ensures.value ∙ ap (λ o. option_map_or (λ entry. entry.participants) o []) found ∙ ap (λ state. participants_of state c.args.txn) c.self.view_is in
    subst (λ acts. OnOk c.tell.result (items c.tell.new.acts ≡ items c.args.acts.now ++ map (act_of c.args.notice c.args.txn) acts))
    (ap (λ n. ascending n c.as_slice.result.now) nodes ∙ ap (ascending c.args.self.now.nodes) participants)
    c.tell.ensures
