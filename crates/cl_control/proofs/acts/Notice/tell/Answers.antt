use Rattle.std.proofs.Common.{◌++◌, [], ◌∷◌, sym, ap, ◌∙◌}
use Rattle.cl_types.specs.GrowingList.{items}
use Rattle.cl_control.specs.Calls.{act_of}
use Rattle.cl_control.proofs.VirtualNodes.{told_more, told_no_more}
use Rattle.cl_control.proofs.acts.Notice.tell.Goals as goal
use Rattle.cl_control.proofs.acts.Notice.tell.Goals.{then-is_among+in_ok-push, else-is_among}

pub loop-v-preserved : goal.loop-v-preserved
loop-v-preserved c =
    elim c.if-is_among.branch [
      | then-is_among+in_ok-push w ↦
          ap items w.acts-is ∙ w.in_ok-push.ensures.ok ∙ ap (λ act. items c.loop-v.acts ++ act ∷ []) w.act.ensures
          ∙ told_more (act_of c.args.self c.args.txn) c.loop-v.v c.args.participants.now (items c.args.acts.now) (items c.loop-v.acts) c.loop-v.invariant (sym c.is_among.ensures ∙ w.if-is_among.true)
      | else-is_among w ↦
          ap items w.acts-is
          ∙ told_no_more (act_of c.args.self c.args.txn) c.loop-v.v c.args.participants.now (items c.args.acts.now) (items c.loop-v.acts) c.loop-v.invariant (sym c.is_among.ensures ∙ w.if-is_among.false)
    ]
