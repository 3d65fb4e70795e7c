use Rattle.std.proofs.Common.{sym, ap, ◌∙◌}
use Rattle.cl_types.specs.Places.{Place}
use Rattle.cl_log.specs.Log.{entries}
use Rattle.cl_log.proofs.Rest.{nil_of_no_number}
use Rattle.cl_store.specs.Store.{stored}
use Rattle.cl_part.proofs.Undoing.{IsFirstLeft, IsFirstLeft-at, left-is-kept, has_rest-first, has_rest-none, IsStateOf-nothing_left, IsStateOf-undone}
use Rattle.cl_part.proofs.part.Part.undo_one.Goals as goal

pub returns-in_default-clause-undone : goal.returns-in_default-clause-undone
returns-in_default-clause-undone c =
    sym (has_rest-none (entries c.args.self.now.log) c.args.txn (nil_of_no_number (entries c.args.self.now.log) c.args.txn (sym c.rest_to_undo.ensures ∙ c.in_default.is)))

pub returns-in_default-clause-state : goal.returns-in_default-clause-state
returns-in_default-clause-state c before is =
    IsStateOf-nothing_left c.args.self.now before c.args.txn is (nil_of_no_number (entries c.args.self.now.log) c.args.txn (sym c.rest_to_undo.ensures ∙ c.in_default.is))

pub unreachable-requires : goal.unreachable-requires
unreachable-requires c = left-is-kept c.args.self.now.log c.args.txn c.in-Some.number (sym c.rest_to_undo.ensures ∙ c.in-Some.is) (sym c.at.ensures ∙ rw c.in_default-at.is)

pub place_of-table-requires : goal.place_of-table-requires
place_of-table-requires c =
    let first : IsFirstLeft (entries c.args.self.now.log) c.args.txn c.in-Some.number c.in-Some-at.content.now =
    IsFirstLeft-at c.args.self.now.log c.args.txn c.in-Some.number c.in-Some-at.content.now (sym c.rest_to_undo.ensures ∙ c.in-Some.is) (sym c.at.ensures ∙ rw c.in-Some-at.is) in
    first.undoable

pub returns-clause-undone : goal.returns-clause-undone
returns-clause-undone c =
    let first : IsFirstLeft (entries c.args.self.now.log) c.args.txn c.in-Some.number c.in-Some-at.content.now =
    IsFirstLeft-at c.args.self.now.log c.args.txn c.in-Some.number c.in-Some-at.content.now (sym c.rest_to_undo.ensures ∙ c.in-Some.is) (sym c.at.ensures ∙ rw c.in-Some-at.is) in
    sym (has_rest-first (entries c.args.self.now.log) c.args.txn c.in-Some.number c.in-Some-at.content.now first)

pub returns-clause-state : goal.returns-clause-state
returns-clause-state c before is =
    let first : IsFirstLeft (entries c.args.self.now.log) c.args.txn c.in-Some.number c.in-Some-at.content.now =
    IsFirstLeft-at c.args.self.now.log c.args.txn c.in-Some.number c.in-Some-at.content.now (sym c.rest_to_undo.ensures ∙ c.in-Some.is) (sym c.at.ensures ∙ rw c.in-Some-at.is) in
    IsStateOf-undone c.args.self.now c.record.new.self before c.args.txn c.in-Some.number c.get-before.result.0 c.in-Some-at.content.now c.in_ok-undo.undo first
    (c.get-before.ensures.number ∙ ap (λ (p : Place). (stored c.args.self.now.store p).0) c.place_of-table.ensures)
    c.in_ok-undo.ensures c.in_ok-record.ensures.recorded is
