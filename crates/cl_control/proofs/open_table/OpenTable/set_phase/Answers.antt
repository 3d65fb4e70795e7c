use Rattle.std.proofs.Common.{refl, sym, ap, ◌∙◌, map}
use Rattle.std.specs.Option.{option_copied_mut}
use Rattle.cl_control.specs.State.{with_phase}
use Rattle.cl_control.specs.Table.{entry_of_pair}
use Rattle.cl_control.proofs.Tables.{changed-through, changed-nothing}
use Rattle.cl_control.proofs.open_table.OpenTable.set_phase.Goals as goal
use Rattle.cl_control.proofs.open_table.OpenTable.set_phase.Goals.{in-Some, in_default}

pub returns : goal.returns
returns c =
    elim c.match-get_mut.branch [
      | in-Some w ↦
          ap (λ inside. map entry_of_pair inside.entries.entries) w.self-inside-is
          ∙ changed-through c.args.txn (with_phase c.args.phase) c.self.inside.entries.entries _ _ w.in-Some.transaction.now _
          c.self.view_is c.self.invariant (sym (ap option_copied_mut w.in-Some.is) ∙ c.get_mut.ensures.value) (λ key. refl) (c.get_mut.follows.holds _).0
      | in_default w ↦
          ap (λ inside. map entry_of_pair inside.entries.entries) w.self-inside-is
          ∙ ap (map entry_of_pair) (ap (λ m. m.entries) c.get_mut.follows.holds-at-none)
          ∙ changed-nothing c.args.txn (with_phase c.args.phase) c.self.inside.entries.entries _ c.self.view_is (sym (ap option_copied_mut w.in_default.is) ∙ c.get_mut.ensures.value)
    ]
