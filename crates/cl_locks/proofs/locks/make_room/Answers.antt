use Rattle.std.proofs.Common.{◌≤◌, arith, Result, Ok, Err, OnOk}
use Rattle.cl_lists.specs.declared.slots.Side.TheVariants.{X, Y}
use Rattle.cl_lists.specs.Arena.{list_count}
use Rattle.cl_locks.specs.declared.lock.TheConstants.{PLACE_LISTS, TXN_LISTS}
use Rattle.cl_locks.proofs.Listed.{HasRoomFor-all}
use Rattle.cl_locks.proofs.locks.make_room.Goals as goal

on_ok : {A E P Q : Type 0} (result : Result A E) → OnOk result P → (P → Q) → OnOk result Q
on_ok (Ok x) holds gives = gives holds
on_ok (Err e) holds gives = holds

pub returns-clause-ok : goal.returns-clause-ok
returns-clause-ok c =
    let first = c.add_missing_lists.new.granted in
    let second = c.add_missing_lists-2.new.granted in
    let last = c.reserve.new.self in
    let places : PLACE_LISTS ≤ list_count last X = rw (c.reserve.ensures.same.lists X) (omega (arith, c.in_ok-add_missing_lists.ensures.ok, c.in_ok-add_missing_lists-2.ensures.other)) in
    let txns : TXN_LISTS ≤ list_count last Y = rw (c.reserve.ensures.same.lists Y) (omega (arith, c.in_ok-add_missing_lists-2.ensures.ok)) in
    on_ok c.reserve.result c.reserve.ensures.ok (λ slot grant. HasRoomFor-all last grant places txns slot)
