use Rattle.std.proofs.Common.{◌≡◌, Some, None, Err, sym, ap, ◌∙◌, subst}
use Rattle.std.specs.Option.{option_copied}
use Rattle.cl_types.specs.declared.operations.Mode.TheVariants.{Exclusive}
use Rattle.cl_types.specs.Places.{Place, Stored}
use Rattle.cl_types.specs.Plain.{plain_value}
use Rattle.cl_log.specs.declared.records.LogRec.TheVariants.{Touch}
use Rattle.cl_locks.specs.declared.answers.LockRefused.TheVariants.{Held}
use Rattle.cl_locks.specs.Grants.{granted_as, first_conflict}
use Rattle.cl_locks.specs.Table.{grants_at, held}
use Rattle.cl_order.specs.Operations.{mode_of, record_of}
use Rattle.cl_store.specs.Store.{stored}
use Rattle.cl_part.specs.declared.part.Part.{Part}
use Rattle.cl_part.specs.Recorded.{HasAppendedOptional, touched}
use Rattle.cl_part.proofs.Operating.{HasAsked, HasLocked, record_of-read, wrote, wrote_nothing}
use Rattle.cl_part.proofs.part.Part.carry_out.Goals as goal

pub returns-in_err-granted-clause-held : goal.returns-in_err-granted-clause-held
returns-in_err-granted-clause-held c holder is =
    let gives = rw is at (c.from_residual-in_err-granted.ensures.1) in
    let refused : c.in_err-granted.field-0.0 ≡ Held holder = sym gives in
    let place : Place = (c.args.table.now, c.args.key.now) in
    ap (first_conflict (grants_at c.args.self.now.locks place) c.args.txn place) (sym c.mode_of.ensures)
    ∙ (c.ask.ensures.held holder).0 (c.in_err-granted.was ∙ ap Err refused)

pub returns-in-Some-clause-recorded : goal.returns-in-Some-clause-recorded
returns-in-Some-clause-recorded c =
    let place : Place = (c.args.table.now, c.args.key.now) in
    let between : Part = record { store = c.reserve.new.store; log = c.reserve.new.log; locks = c.ask.new.self; alloc = c.args.self.now.alloc } in
    let stands : Stored = stored c.args.self.now.store place in
    let asked : HasAsked c.args.self.now between c.args.txn place (mode_of c.args.op.now) = record {
      store = c.reserve.ensures.store;
      log = c.reserve.ensures.entries;
      next = c.reserve.ensures.next;
      locks = subst (HasLocked c.args.self.now between c.args.txn place) c.mode_of.ensures c.in_ok-granted.ensures.grants;
    } in
    let is : record_of c.args.txn place c.args.op.now stands (Some Exclusive) ≡ Some c.in-Some.content =
    record_of-read c.args.txn c.args.table.now c.args.key.now c.copy.result c.copy-2.result c.args.op.now stands c.get-before.result.0 (option_copied c.get-before.result.1)
    c.in_ok-write.write (Some c.in-Some.content) c.in_ok-write.ensures c.copy.ensures c.copy-2.ensures c.get-before.ensures.number c.get-before.ensures.value c.in-Some.is in
    let leaves : c.in_ok-reply.value ≡ plain_value c.args.op.now stands.1 = c.in_ok-reply.ensures.value ∙ ap (plain_value c.args.op.now) c.get-before.ensures.value in
    wrote c.args.self.now between c.write-in-Some.new.self c.args.txn place c.args.op.now c.in-Some.content c.in_ok-reply.value is leaves asked c.write-in-Some.ensures

pub returns-in-None-clause-recorded : goal.returns-in-None-clause-recorded
returns-in-None-clause-recorded c =
    let place : Place = (c.args.table.now, c.args.key.now) in
    let between : Part = record { store = c.reserve.new.store; log = c.reserve.new.log; locks = c.ask.new.self; alloc = c.args.self.now.alloc } in
    let stands : Stored = stored c.args.self.now.store place in
    let asked : HasAsked c.args.self.now between c.args.txn place (mode_of c.args.op.now) = record {
      store = c.reserve.ensures.store;
      log = c.reserve.ensures.entries;
      next = c.reserve.ensures.next;
      locks = subst (HasLocked c.args.self.now between c.args.txn place) c.mode_of.ensures c.in_ok-granted.ensures.grants;
    } in
    let is : record_of c.args.txn place c.args.op.now stands (Some Exclusive) ≡ None =
    record_of-read c.args.txn c.args.table.now c.args.key.now c.copy.result c.copy-2.result c.args.op.now stands c.get-before.result.0 (option_copied c.get-before.result.1)
    c.in_ok-write.write None c.in_ok-write.ensures c.copy.ensures c.copy-2.ensures c.get-before.ensures.number c.get-before.ensures.value c.in-None.is in
    let granted_so : c.in_ok-granted.granted ≡ granted_as (held c.args.self.now.locks c.args.txn place) (mode_of c.args.op.now) =
    c.in_ok-granted.ensures.granted ∙ ap (granted_as (held c.args.self.now.locks c.args.txn place)) c.mode_of.ensures in
    wrote_nothing c.args.self.now between c.touch.new.self c.args.txn place c.args.op.now c.in_ok-granted.granted is granted_so asked
    (subst (λ m. HasAppendedOptional between c.touch.new.self (touched c.in_ok-granted.granted (Touch c.args.txn c.args.table.now c.args.key.now m))) c.mode_of-in-None.ensures c.touch.ensures)
