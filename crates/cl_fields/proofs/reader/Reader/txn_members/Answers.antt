use Rattle.std.proofs.lemmas.Result.{err_from_is_err_and}
use Rattle.cl_types.specs.GrowingList.{items}
use Rattle.cl_fields.specs.Reading.{read_members, read_txn}
use Rattle.cl_fields.proofs.Members.{goes_on, fails, is_done}
use Rattle.cl_fields.proofs.reader.Reader.txn_members.Goals as goal

pub returns-in_err-txn : goal.returns-in_err-txn
returns-in_err-txn c =
    let p = err_from_is_err_and c.from_residual-in_err-txn.result c.from_residual-in_err-txn.ensures.1 in
    rw (p.1, p.2) (fails items c.in_err-txn.field-0.0 read_txn (items c.loop.list) c.args.count c.loop.counter c.loop.self c.txn.new.self c.txn.new.self (read_members read_txn c.args.count c.args.self.now) c.loop-test.true c.in_err-txn.ensures c.loop.invariant)

pub loop-preserved : goal.loop-preserved
loop-preserved c =
    rw c.in_ok-push.ensures.ok (goes_on read_txn (items c.loop.list) c.args.count c.loop.counter c.loop.self c.in_ok-txn.field-0 c.txn.new.self (read_members read_txn c.args.count c.args.self.now) c.loop-test.true c.in_ok-txn.ensures c.loop.invariant)

pub returns : goal.returns
returns c = is_done read_txn (items c.loop.list) c.args.count c.loop.counter c.loop.self (read_members read_txn c.args.count c.args.self.now) c.loop-test.false c.loop.invariant
