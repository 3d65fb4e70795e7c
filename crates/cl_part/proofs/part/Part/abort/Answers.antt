-- Each turn of the loop is an undo step, and the End comes where nothing is left.
use Rattle.std.proofs.Common.{◌≡◌, ◌+◌, ◌∙◌, arith}
use Rattle.cl_log.specs.Log.{next_number}
use Rattle.cl_part.specs.Calls.{after_abort, after_rollback}
use Rattle.cl_part.proofs.Aborting.{IsAllUndone, end_number_kept, rolling_none, rolling_more, rolled_back, undone_one, undone_all}
use Rattle.cl_part.proofs.part.Part.abort.Goals as goal

pub loop-txn-init : goal.loop-txn-init
loop-txn-init c = record { rolling = λ before is. rolling_none c.args.self.now before c.args.txn is; below = c.requires }

pub loop-txn-preserved : goal.loop-txn-preserved
loop-txn-preserved c = record {
  rolling = λ before is.
      (rolling_more c.loop-txn.self c.undo_one.new.self before c.args.txn (c.loop-txn.invariant.rolling before is) c.in_ok-undo_one.ensures.state c.in_ok-undo_one.field-0
      c.in_ok-undo_one.ensures.undone c.if-not-branch.false).0;
  below = c.in_ok-undo_one.ensures.below;
}

pub loop-txn-smaller : goal.loop-txn-smaller
loop-txn-smaller c =
    let one : next_number c.undo_one.new.self.log ≡ next_number c.loop-txn.self.log + 1 =
    undone_one c.args.self.now c.loop-txn.self c.undo_one.new.self c.args.txn c.loop-txn.invariant.rolling c.in_ok-undo_one.ensures.state c.in_ok-undo_one.field-0
    c.in_ok-undo_one.ensures.undone c.if-not-branch.false in
    omega (arith, one, c.loop-txn-test.true)

pub returns-in_err-undo_one-clause-next : goal.returns-in_err-undo_one-clause-next
returns-in_err-undo_one-clause-next c =
    let kept = end_number_kept c.args.self.now c.loop-txn.self c.args.txn c.loop-txn.invariant.rolling in
    omega (arith, kept, c.in_err-undo_one.ensures.next)

-- ---- the End

pub end-requires-clause-numbers : goal.end-requires-clause-numbers
end-requires-clause-numbers c =
    let all : IsAllUndone c.args.self.now c.loop-txn.self c.undo_one.new.self c.args.txn =
    undone_all c.args.self.now c.loop-txn.self c.undo_one.new.self c.args.txn c.loop-txn.invariant.rolling c.in_ok-undo_one.ensures.state c.in_ok-undo_one.field-0
    c.in_ok-undo_one.ensures.undone c.if-not-branch.true in
    omega (arith, all.stays, c.loop-txn-test.true)

pub end-requires-clause-undone : goal.end-requires-clause-undone
end-requires-clause-undone c _ =
    let all : IsAllUndone c.args.self.now c.loop-txn.self c.undo_one.new.self c.args.txn =
    undone_all c.args.self.now c.loop-txn.self c.undo_one.new.self c.args.txn c.loop-txn.invariant.rolling c.in_ok-undo_one.ensures.state c.in_ok-undo_one.field-0
    c.in_ok-undo_one.ensures.undone c.if-not-branch.true in
    all.rest

pub returns-in_err-end-clause-next : goal.returns-in_err-end-clause-next
returns-in_err-end-clause-next c =
    let all : IsAllUndone c.args.self.now c.loop-txn.self c.undo_one.new.self c.args.txn =
    undone_all c.args.self.now c.loop-txn.self c.undo_one.new.self c.args.txn c.loop-txn.invariant.rolling c.in_ok-undo_one.ensures.state c.in_ok-undo_one.field-0
    c.in_ok-undo_one.ensures.undone c.if-not-branch.true in
    omega (arith, all.next, c.in_err-end.ensures.next)

pub returns-then-not-branch-clause-number : goal.returns-then-not-branch-clause-number
returns-then-not-branch-clause-number c =
    let all : IsAllUndone c.args.self.now c.loop-txn.self c.undo_one.new.self c.args.txn =
    undone_all c.args.self.now c.loop-txn.self c.undo_one.new.self c.args.txn c.loop-txn.invariant.rolling c.in_ok-undo_one.ensures.state c.in_ok-undo_one.field-0
    c.in_ok-undo_one.ensures.undone c.if-not-branch.true in
    c.in_ok-end.ensures.number ∙ all.next

pub returns-then-not-branch-clause-state : goal.returns-then-not-branch-clause-state
unfolding after_abort
returns-then-not-branch-clause-state c before is =
    c.in_ok-end.ensures.state (after_rollback before c.args.txn)
    (rolled_back c.loop-txn.self c.undo_one.new.self before c.args.txn (c.loop-txn.invariant.rolling before is) c.in_ok-undo_one.ensures.state c.in_ok-undo_one.field-0
    c.in_ok-undo_one.ensures.undone c.if-not-branch.true)

pub returns-then-not-branch-clause-fits : goal.returns-then-not-branch-clause-fits
returns-then-not-branch-clause-fits c =
    let all : IsAllUndone c.args.self.now c.loop-txn.self c.undo_one.new.self c.args.txn =
    undone_all c.args.self.now c.loop-txn.self c.undo_one.new.self c.args.txn c.loop-txn.invariant.rolling c.in_ok-undo_one.ensures.state c.in_ok-undo_one.field-0
    c.in_ok-undo_one.ensures.undone c.if-not-branch.true in
    omega (arith, all.next, all.stays, c.loop-txn-test.true)

pub returns-then-not-branch-clause-next : goal.returns-then-not-branch-clause-next
returns-then-not-branch-clause-next c =
    let all : IsAllUndone c.args.self.now c.loop-txn.self c.undo_one.new.self c.args.txn =
    undone_all c.args.self.now c.loop-txn.self c.undo_one.new.self c.args.txn c.loop-txn.invariant.rolling c.in_ok-undo_one.ensures.state c.in_ok-undo_one.field-0
    c.in_ok-undo_one.ensures.undone c.if-not-branch.true in
    omega (arith, all.next, c.in_ok-end.ensures.next)

-- ---- no number is left

pub returns-clause-spent : goal.returns-clause-spent
returns-clause-spent c _ =
    let kept = end_number_kept c.args.self.now c.loop-txn.self c.args.txn c.loop-txn.invariant.rolling in
    omega (arith, kept, c.loop-txn-test.false)

pub returns-clause-next : goal.returns-clause-next
returns-clause-next c =
    let kept = end_number_kept c.args.self.now c.loop-txn.self c.args.txn c.loop-txn.invariant.rolling in
    omega (arith, kept)
