-- A transaction at one virtual node: what is on its way about it, and how far the participant is.
use Rattle.std.specs.Prelude.{◌≡◌, ℕ, nat_eq, Bool, true, false, ◌&&◌, ◌⊎◌, List, [], ◌∷◌, filter}
use Rattle.cl_log.specs.declared.stage.Stage.{Stage}
use Rattle.cl_log.specs.declared.stage.Stage.TheVariants.{Unknown, Running, Prepared, Ended}
use Rattle.cl_log.specs.Open.{stage_of}
use Rattle.cl_node.specs.Addressing.{home_in}
use Rattle.cl_system.specs.Replicas.{ReplicaWorld}
use Rattle.cl_types.specs.declared.answers.Answer.{Answer as OpAnswer}
use Rattle.cl_types.specs.declared.answers.Answer.TheVariants as answer
use Rattle.cl_types.specs.declared.operations.Op.{Op}
use Rattle.cl_types.specs.declared.operations.TxnId.{TxnId}
use Rattle.cl_types.specs.Transactions.{same_txn}
use Rattle.cl_wire.specs.Message.{Content, Ask, Answer, Prepare, Vote, Finish}

-- the message asks something of this virtual node for the transaction
abbrev pub is_order : ℕ → TxnId → Content → Bool
is_order v txn (Ask w other number table key op) = nat_eq v w && same_txn txn other
is_order v txn (Prepare w other) = nat_eq v w && same_txn txn other
is_order v txn (Finish w other commit) = nat_eq v w && same_txn txn other
is_order v txn content = false

-- the message tells the controller something of it
abbrev pub is_report : ℕ → TxnId → Content → Bool
is_report v txn (Answer w other number answer) = nat_eq v w && same_txn txn other
is_report v txn (Vote w other) = nat_eq v w && same_txn txn other
is_report v txn content = false

-- what is on its way to the virtual node and back, first to last, and how far the transaction is in its log
pub record PartView : Type 0 where
  pub orders : List Content
  pub reports : List Content
  pub stage : Stage

-- the view of a transaction at a virtual node
abbrev pub part_view : ℕ → ReplicaWorld → TxnId → ℕ → PartView
part_view nodes world txn v = record {
  orders = filter (is_order v txn) (world.mail (home_in nodes txn) v);
  reports = filter (is_report v txn) (world.mail v (home_in nodes txn));
  stage = stage_of (world.replicas v).part.log txn;
}

-- where a transaction stands at a virtual node
pub data Standing : Type 0 where
  -- it has done nothing there
  absent : Standing
  -- it has locks there, and nothing is on its way
  running : Standing
  -- an operation, the command of this number, is on its way
  asked : ℕ → Standing
  -- its answer is on its way back
  answered : ℕ → OpAnswer → Standing
  -- it is asked for its vote
  preparing : Standing
  -- its vote is on its way
  voting : Standing
  -- its vote was counted
  voted : Standing
  -- its end is on its way, with commit or without
  ending : Bool → Standing
  -- it has ended there
  over : Standing

-- it has begun there, or is about to
abbrev pub IsUnprepared : Stage → Type 0
IsUnprepared stage = (stage ≡ Running) ⊎ (stage ≡ Unknown)

-- an operation that was done has a record; one that was not may be the first
abbrev pub IsAnswered : OpAnswer → Stage → Type 0
IsAnswered (answer.Done reply) stage = stage ≡ Running
IsAnswered (answer.Refused holder) stage = IsUnprepared stage
IsAnswered answer.NoMemory stage = IsUnprepared stage

-- with commit it is prepared, and without it is not
abbrev pub IsBeforeEnd : Bool → Stage → Type 0
IsBeforeEnd true stage = stage ≡ Prepared
IsBeforeEnd false stage = IsUnprepared stage

-- nothing is on its way, and the transaction is so far in the log
pub record IsStill (view : PartView) (stage : Stage) : Type 0 where
  pub orders : view.orders ≡ []
  pub reports : view.reports ≡ []
  pub at : view.stage ≡ stage

-- one order is on its way
pub record HasOrder (view : PartView) (order : Content) : Type 0 where
  pub orders : view.orders ≡ order ∷ []
  pub reports : view.reports ≡ []

-- one report is on its way
pub record HasReport (view : PartView) (report : Content) : Type 0 where
  pub orders : view.orders ≡ []
  pub reports : view.reports ≡ report ∷ []

-- an operation is on its way
pub record HasAsk (view : PartView) (v : ℕ) (txn : TxnId) (number : ℕ) : Type 0 where
  pub table : List ℕ
  pub key : List ℕ
  pub op : Op
  pub order : HasOrder view (Ask v txn number table key op)

-- the transaction stands so at the virtual node
abbrev pub StandsSo : ℕ → TxnId → PartView → Standing → Type 0
StandsSo v txn view absent = IsStill view Unknown
StandsSo v txn view running = IsStill view Running
StandsSo v txn view (asked number) = HasAsk view v txn number × IsUnprepared view.stage
StandsSo v txn view (answered number answer) = HasReport view (Answer v txn number answer) × IsAnswered answer view.stage
StandsSo v txn view preparing = HasOrder view (Prepare v txn) × (view.stage ≡ Running)
StandsSo v txn view voting = HasReport view (Vote v txn) × (view.stage ≡ Prepared)
StandsSo v txn view voted = IsStill view Prepared
StandsSo v txn view (ending commit) = HasOrder view (Finish v txn commit) × IsBeforeEnd commit view.stage
StandsSo v txn view over = (view.orders ≡ []) × (view.reports ≡ []) × ((view.stage ≡ Ended) ⊎ (view.stage ≡ Unknown))
