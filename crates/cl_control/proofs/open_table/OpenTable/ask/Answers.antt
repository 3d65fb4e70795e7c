use Rattle.std.proofs.Common.{sym, ap, ◌∙◌, map, IfSome, subst, length, ◌≤◌}
use Rattle.std.specs.Option.{option_copied_mut}
use Rattle.cl_control.specs.Calls.{asked}
use Rattle.cl_control.specs.declared.entry.TheConstants.{VIRTUAL_NODES_MAX}
use Rattle.cl_control.specs.declared.entry.Phase.TheVariants.{Asked}
use Rattle.cl_control.specs.State.{joined, with_phase}
use Rattle.cl_control.specs.Table.{entry_of_pair}
use Rattle.cl_control.proofs.Tables.{changed-through, changed-nothing, found_named}
use Rattle.cl_control.proofs.open_table.OpenTable.ask.Goals as goal
use Rattle.cl_control.proofs.open_table.OpenTable.ask.Goals.{in-Some, in_default}

pub join-requires : goal.join-requires
join-requires c =
    subst (λ entry. IfSome entry (λ x. length (joined c.args.v x.participants) ≤ VIRTUAL_NODES_MAX))
    (found_named c.args.txn _ _ _ c.self.view_is (sym (ap option_copied_mut c.in-Some.is) ∙ c.get_mut.ensures.value))
    c.requires

pub returns : goal.returns
returns c =
    elim c.match-get_mut.branch [
      | in-Some w ↦
          ap (λ inside. map entry_of_pair inside.entries.entries) w.self-inside-is
          ∙ changed-through c.args.txn (asked c.args.number c.args.v) c.self.inside.entries.entries _ _ w.in-Some.transaction.now _
          c.self.view_is c.self.invariant (sym (ap option_copied_mut w.in-Some.is) ∙ c.get_mut.ensures.value)
          (λ key. ap (with_phase (Asked c.args.number c.args.v)) (sym (w.join.ensures key))) (c.get_mut.follows.holds _).0
      | in_default w ↦
          ap (λ inside. map entry_of_pair inside.entries.entries) w.self-inside-is
          ∙ ap (map entry_of_pair) (ap (λ m. m.entries) c.get_mut.follows.holds-at-none)
          ∙ changed-nothing c.args.txn (asked c.args.number c.args.v) c.self.inside.entries.entries _ c.self.view_is (sym (ap option_copied_mut w.in_default.is) ∙ c.get_mut.ensures.value)
    ]
