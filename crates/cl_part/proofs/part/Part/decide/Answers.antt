use Rattle.cl_log.specs.declared.records.LogRec.TheVariants.{Decide}
use Rattle.cl_part.specs.Calls.{after_decide}
use Rattle.cl_part.proofs.States.{IsStateOf-same, IsStateOf-recorded, IsBelowNext-same, IsBelowNext-recorded, OnOk-map, OnErr-map, either-way, next-recorded, next-same}
use Rattle.cl_part.proofs.part.Part.decide.Goals as goal

pub returns-clause-state : goal.returns-clause-state
unfolding after_decide
returns-clause-state c before is =
    OnOk-map c.record.result _ _ (λ recorded. IsStateOf-recorded c.args.self.now c.record.new.self before (Decide c.args.txn) recorded is) c.record.ensures.recorded

pub returns-clause-err : goal.returns-clause-err
returns-clause-err c before is =
    OnErr-map c.record.result _ _ (λ same. IsStateOf-same c.args.self.now c.record.new.self before same is) c.record.ensures.err

pub returns-clause-below : goal.returns-clause-below
returns-clause-below c =
    either-way c.record.result _ _ _
    (λ recorded. IsBelowNext-recorded c.args.self.now c.record.new.self (Decide c.args.txn) recorded c.requires.below)
    (λ same. IsBelowNext-same c.args.self.now c.record.new.self same c.requires.below) c.record.ensures.recorded c.record.ensures.err

pub returns-clause-next : goal.returns-clause-next
returns-clause-next c =
    either-way c.record.result _ _ _
    (λ recorded. next-recorded c.args.self.now c.record.new.self (Decide c.args.txn) recorded)
    (λ same. next-same c.args.self.now c.record.new.self same) c.record.ensures.recorded c.record.ensures.err
