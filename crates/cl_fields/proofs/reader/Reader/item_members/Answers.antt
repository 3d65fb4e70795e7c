use Rattle.std.proofs.lemmas.Result.{err_from_is_err_and}
use Rattle.cl_types.specs.GrowingList.{items}
use Rattle.cl_fields.specs.Reading.{read_members, read_item}
use Rattle.cl_fields.proofs.Members.{goes_on, fails, is_done}
use Rattle.cl_fields.proofs.reader.Reader.item_members.Goals as goal

pub returns-in_err-item : goal.returns-in_err-item
returns-in_err-item c =
    let p = err_from_is_err_and c.from_residual-in_err-item.result c.from_residual-in_err-item.ensures.1 in
    rw (p.1, p.2) (fails items c.in_err-item.field-0.0 read_item (items c.loop.list) c.args.count c.loop.counter c.loop.self c.item.new.self c.item.new.self (read_members read_item c.args.count c.args.self.now) c.loop-test.true c.in_err-item.ensures c.loop.invariant)

pub loop-preserved : goal.loop-preserved
loop-preserved c =
    rw c.in_ok-push.ensures.ok (goes_on read_item (items c.loop.list) c.args.count c.loop.counter c.loop.self c.in_ok-item.field-0 c.item.new.self (read_members read_item c.args.count c.args.self.now) c.loop-test.true c.in_ok-item.ensures c.loop.invariant)

pub returns : goal.returns
returns c = is_done read_item (items c.loop.list) c.args.count c.loop.counter c.loop.self (read_members read_item c.args.count c.args.self.now) c.loop-test.false c.loop.invariant
