-- A report comes to the controller: what is left of the views once it is taken.
use Rattle.std.proofs.Common.{◌≡◌, ℕ, ◌<◌, ◌≤◌, Bool, true, false, List, [], ◌∷◌, filter, refl, sym, ◌∙◌}
use Rattle.std.proofs.lemmas.Bool.{eq-eqb, ne_eqb, and_from, and_left}
use Rattle.std.proofs.lemmas.List.{append-nil}
use Rattle.cl_types.specs.declared.answers.Answer.{Answer as OpAnswer}
use Rattle.cl_types.specs.declared.operations.TxnId.{TxnId}
use Rattle.cl_types.proofs.Transactions.{same_txn-itself}
use Rattle.cl_log.specs.declared.stage.Stage.{Stage}
use Rattle.cl_log.specs.declared.stage.Stage.TheVariants.{Unknown, Running}
use Rattle.cl_node.specs.Addressing.{home_in}
use Rattle.cl_runs.specs.World.{Shape}
use Rattle.cl_system.specs.Replicas.{ReplicaWorld}
use Rattle.cl_system.specs.Roles.{IsInPlace}
use Rattle.cl_wire.specs.Message.{Content, Answer, Vote}
use Rattle.cl_commit.specs.Standing.{PartView, part_view, is_order, is_report}
use Rattle.cl_commit.specs.Life.{is_begin_of, Lives, IsWholePart}
use Rattle.cl_commit.proofs.Frames.{way-other, way-head}
use Rattle.cl_commit.proofs.Controllers.{IsToldView, popped, view-popped}
use Rattle.cl_commit.proofs.Participants.{tail-nil}
use Rattle.cl_commit.proofs.Worlds.{same_view}

-- what is known of the event
pub record IsReported (shape : Shape) (world : ReplicaWorld) (txn : TxnId) (w : ℕ) (content : Content) (rest : List Content) : Type 0 where
  pub waits : world.mail w (home_in shape.nodes txn) ≡ content ∷ rest
  pub lives : Lives shape world txn
  pub whole : IsWholePart (world.replicas (home_in shape.nodes txn)).part
  pub place : IsInPlace shape.nodes (home_in shape.nodes txn) (world.replicas (home_in shape.nodes txn))
  pub below : w < shape.nodes
  pub few : shape.nodes ≤ 8

-- the message is a report of the transaction from the virtual node, and nothing else
pub record IsReportOnly (w : ℕ) (txn : TxnId) (content : Content) : Type 0 where
  pub own : is_report w txn content ≡ true
  pub elsewhere : (u : ℕ) → (u ≡ w → ⊥) → is_report u txn content ≡ false
  pub no_order : (u : ℕ) → is_order u txn content ≡ false
  pub no_begin : is_begin_of txn content ≡ false

pub answer-only : (w : ℕ) (txn : TxnId) (number : ℕ) (answer : OpAnswer) → IsReportOnly w txn (Answer w txn number answer)
answer-only w txn number answer = record { own = and_from _ _ (eq-eqb w w refl) (same_txn-itself txn); elsewhere = λ u apart. and_left _ _ (ne_eqb u w apart); no_order = λ u. refl; no_begin = refl }

pub vote-only : (w : ℕ) (txn : TxnId) → IsReportOnly w txn (Vote w txn)
vote-only w txn = record { own = and_from _ _ (eq-eqb w w refl) (same_txn-itself txn); elsewhere = λ u apart. and_left _ _ (ne_eqb u w apart); no_order = λ u. refl; no_begin = refl }

-- with no new order a view is the same
pub told-nothing : (before after : PartView) → IsToldView before after [] → after ≡ before
told-nothing before after told = same_view after before (told.orders ∙ append-nil before.orders) told.reports told.stage

module _ (shape : Shape) (world : ReplicaWorld) (txn : TxnId) (w : ℕ) (content : Content) (rest : List Content) (h : world.mail w (home_in shape.nodes txn) ≡ content ∷ rest) (only : IsReportOnly w txn content) where
  abbrev left : ReplicaWorld
  left = popped shape world txn w content rest h

  pub report-head : (part_view shape.nodes world txn w).reports ≡ content ∷ filter (is_report w txn) (left.mail w (home_in shape.nodes txn))
  report-head = way-head world.mail w (home_in shape.nodes txn) content rest h (is_report w txn) only.own

  -- elsewhere nothing has changed
  pub view-there : (v : ℕ) → (v ≡ w → ⊥) → part_view shape.nodes left txn v ≡ part_view shape.nodes world txn v
  view-there v apart = view-popped shape world txn w content rest h v (only.no_order v) (only.elsewhere v apart)

  -- the only report is gone
  pub reports-gone : (was : Content) → (part_view shape.nodes world txn w).reports ≡ was ∷ [] → (part_view shape.nodes left txn w).reports ≡ []
  reports-gone was one = tail-nil content was _ (sym report-head ∙ one)

  pub orders-left : (part_view shape.nodes left txn w).orders ≡ (part_view shape.nodes world txn w).orders
  orders-left = way-other world.mail w (home_in shape.nodes txn) content rest h (is_order w txn) (only.no_order w) (home_in shape.nodes txn) w

-- the stage of a participant that runs, and of who is none
abbrev pub run_stage : Bool → Stage
run_stage true = Running
run_stage false = Unknown
