use Rattle.std.proofs.Common.{false, sym, ap, ◌∙◌}
use Rattle.std.specs.Option.{option_copied, option_map_or}
use Rattle.cl_control.specs.Calls.{is_logged}
use Rattle.cl_control.proofs.Tables.{found_named, names-differ, not_found_named}
use Rattle.cl_control.proofs.open_table.OpenTable.is_logged.Goals as goal

pub returns-in-Some-clause-logged : goal.returns-in-Some-clause-logged
returns-in-Some-clause-logged c =
    c.is_logged.ensures
    ∙ ap (λ o. option_map_or (λ entry. is_logged entry.phase) o false)
    (sym (found_named c.args.txn c.self.inside.entries.entries c.args.self.now c.in-Some.transaction.now c.self.view_is (sym (ap option_copied c.in-Some.is) ∙ c.get.ensures.value)))

pub returns-in-Some-clause-names : goal.returns-in-Some-clause-names
returns-in-Some-clause-names c = names-differ _ _ c.self.view_is c.self.invariant

pub returns-in-None-clause-logged : goal.returns-in-None-clause-logged
returns-in-None-clause-logged c =
    ap (λ o. option_map_or (λ entry. is_logged entry.phase) o false)
    (sym (not_found_named c.args.txn c.self.inside.entries.entries c.args.self.now c.self.view_is (sym (ap option_copied c.in-None.is) ∙ c.get.ensures.value)))

pub returns-in-None-clause-names : goal.returns-in-None-clause-names
returns-in-None-clause-names c = names-differ _ _ c.self.view_is c.self.invariant
