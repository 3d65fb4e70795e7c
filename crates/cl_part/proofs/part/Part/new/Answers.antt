use Rattle.std.proofs.Common.{◌≡◌, List, ap, arith}
use Rattle.cl_locks.proofs.TableLaws.{IsTableOf-empty}
use Rattle.cl_store.specs.declared.item.Item.{Item}
use Rattle.cl_store.specs.Items.{stored_at}
use Rattle.cl_store.specs.Store.{stored}
use Rattle.cl_part.proofs.part.Part.new.Goals as goal

pub returns-clause-state : goal.returns-clause-state
unfolding stored_at
returns-clause-state c = record {
  store = λ place. ap (λ (items : List Item). stored_at items place) c.new.ensures.records;
  log = c.new-2.ensures.entries;
  next = c.new-2.ensures.next;
  locks = IsTableOf-empty c.new-3.result c.new-3.ensures;
}

pub returns-clause-below : goal.returns-clause-below
unfolding stored_at
returns-clause-below c place =
    let none : (stored c.new.result place).0 ≡ 0 = ap (λ (items : List Item). (stored_at items place).0) c.new.ensures.records in
    omega (arith, none)
