-- No grant is in conflict.
use Rattle.std.proofs.Common.{◌≡◌, Bool, true, false, not, Option, Some, None, is_some, refl, sym, ap, ◌∙◌}
use Rattle.std.proofs.lemmas.Bool.{true≢false}
use Rattle.cl_types.specs.declared.operations.TxnId.{TxnId}
use Rattle.cl_types.specs.Places.{Place}
use Rattle.cl_vnode.proofs.Free.{lock_free, free_lock}
use Rattle.cl_vnode.proofs.admitting.is_lock_free.Goals as goal

none_found : (found : Option TxnId) (none : Bool) → is_some found ≡ not none → none ≡ true → found ≡ None
none_found None none opposite is = refl
none_found (Some txn) none opposite is = absurd (true≢false (opposite ∙ ap not is))

found_none : (found : Option TxnId) (none : Bool) → is_some found ≡ not none → found ≡ None → none ≡ true
found_none found true opposite is = refl
found_none found false opposite is = absurd (true≢false (sym opposite ∙ ap is_some is))

pub returns : goal.returns
returns c =
    let own : Place = (c.args.table.now, c.args.key.now) in (
      λ is. lock_free c.args.locks.now c.args.txn own c.args.mode
          (sym c.first_conflict.ensures ∙ none_found c.first_conflict.result c.is_none.result c.is_none.ensures is),
      λ free. found_none c.first_conflict.result c.is_none.result c.is_none.ensures
          (c.first_conflict.ensures ∙ free_lock c.args.locks.now c.args.txn own c.args.mode free),
    )
