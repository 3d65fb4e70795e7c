use Rattle.std.proofs.Common.{◌≡◌, ◌≢◌, true, false, Err, ap, sym, ◌∙◌, subst}
use Rattle.std.proofs.lemmas.Bool.{false≢true}
use Rattle.cl_types.specs.declared.operations.TxnId.{TxnId}
use Rattle.cl_types.specs.Places.{Place}
use Rattle.cl_types.specs.Transactions.{same_txn}
use Rattle.cl_types.proofs.Transactions.{same_txn-itself}
use Rattle.cl_locks.proofs.TableLaws.{first_conflict-held}
use Rattle.cl_redo.proofs.taking.lock.Goals as goal

apart : (txn other : TxnId) → same_txn txn other ≡ false → other ≢ txn
apart txn other differ same = false≢true (sym differ ∙ subst (λ t. same_txn txn t ≡ true) (sym same) (same_txn-itself txn))

pub unreachable-requires : goal.unreachable-requires
unreachable-requires c =
    let holder : TxnId = c.in-Err-Held.field-0-0 in
    let place : Place = (c.args.table.now, c.args.key.now) in
    let conflict = first_conflict-held c.args.locks.now c.args.txn holder place c.args.mode ((c.ask.ensures.held holder).0 (c.in-Err-Held.is ∙ ap Err c.in-Err-Held.field-0-is)) in
    false≢true (sym (c.requires holder (apart c.args.txn holder conflict.0)) ∙ conflict.1)
