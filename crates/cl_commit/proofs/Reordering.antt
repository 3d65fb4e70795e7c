-- Another order of what is on its way leaves commits whole, and so does every firm run.
use Rattle.std.proofs.Common.{◌≡◌, ℕ, ◌<◌, ◌≤◌, List, [], ◌∷◌, length, refl, sym, subst, arith}
use Rattle.std.proofs.lemmas.List.Elements.{All-weaker}
use Rattle.cl_exchange.proofs.Firm.{firm_runs_keep}
use Rattle.cl_exchange.specs.Laws.{IsSoundWorld}
use Rattle.cl_node.specs.Addressing.{home_in}
use Rattle.cl_roster.specs.Roster.{IsClusterSize}
use Rattle.cl_runs.specs.World.{Shape}
use Rattle.cl_steps.specs.declared.actors.TheConstants.{FRONT}
use Rattle.cl_system.proofs.Reordering.{reordered_filter, reordered_any, reordered_all}
use Rattle.cl_system.specs.Firm.{FirmWorld, FirmEvent, happens, reorder, join, AreReordered, MayFirm, with_order, after_firm_event}
use Rattle.cl_system.specs.Replicas.{Mail, ReplicaWorld}
use Rattle.cl_types.specs.declared.operations.TxnId.{TxnId}
use Rattle.cl_wire.specs.Message.{Content}
use Rattle.cl_commit.specs.Laws.{ReorderKeepsWhole, FirmRunsAreWhole}
use Rattle.cl_commit.specs.Life.{committed, aborted, is_begin_of, Lives, IsTrueOutcome, CommitsWhole}
use Rattle.cl_commit.specs.Standing.{Standing, absent, running, asked, answered, preparing, voting, voted, ending, over}
use Rattle.cl_commit.specs.Standing.{PartView, part_view, is_order, is_report, StandsSo}
use Rattle.cl_commit.proofs.Events.{whole_at_first, events_keep_whole}
use Rattle.cl_commit.proofs.Whole.{KeepsSettled, outcome-stays}
use Rattle.cl_commit.proofs.Worlds.{SameStatus, so_far-same, lives-left, same_view}

-- ---- few messages

-- no message is one at most
none_few : (list : List Content) → list ≡ [] → length list ≤ 1
none_few list is = subst (λ list. length list ≤ 1) (sym is) (omega arith)

-- so is one
one_few : (list : List Content) (content : Content) → list ≡ content ∷ [] → length list ≤ 1
one_few list content is = subst (λ list. length list ≤ 1) (sym is) (omega arith)

-- what is on its way to and from a virtual node about a transaction is one message at most
record AreFew (view : PartView) : Type 0 where
  orders : length view.orders ≤ 1
  reports : length view.reports ≤ 1

module _ (v : ℕ) (txn : TxnId) (view : PartView) where
  -- so it is wherever the transaction stands
  stands_few : (standing : Standing) → StandsSo v txn view standing → AreFew view
  stands_few absent is = record { orders = none_few _ is.orders; reports = none_few _ is.reports }
  stands_few running is = record { orders = none_few _ is.orders; reports = none_few _ is.reports }
  stands_few (asked number) is = record { orders = one_few _ _ is.0.order.orders; reports = none_few _ is.0.order.reports }
  stands_few (answered number answer) is = record { orders = none_few _ is.0.orders; reports = one_few _ _ is.0.reports }
  stands_few preparing is = record { orders = one_few _ _ is.0.orders; reports = none_few _ is.0.reports }
  stands_few voting is = record { orders = none_few _ is.0.orders; reports = one_few _ _ is.0.reports }
  stands_few voted is = record { orders = none_few _ is.orders; reports = none_few _ is.reports }
  stands_few (ending commit) is = record { orders = one_few _ _ is.0.orders; reports = none_few _ is.0.reports }
  stands_few over is = record { orders = none_few _ is.0; reports = none_few _ is.1 }

-- ---- another order

module _ (shape : Shape) (world : ReplicaWorld) (mail : Mail) (are : AreReordered world.mail mail) where
  -- how far a transaction is stays
  reordered_status : (txn : TxnId) → SameStatus shape.nodes world (with_order world mail) txn
  reordered_status txn = record {
    begun = refl;
    beginning = reordered_any world.mail mail are (is_begin_of txn) FRONT (home_in shape.nodes txn);
    entry = refl;
    member = refl;
  }

  -- so does each transaction
  reordered_lives : (txn : TxnId) → Lives shape world txn → Lives shape (with_order world mail) txn
  reordered_lives txn lives = lives-left shape world (with_order world mail) txn (record { status = reordered_status txn; view = views }) lives
    where
      -- at each virtual node
      few : (v : ℕ) → v < shape.nodes → AreFew (part_view shape.nodes world txn v)
      few v below = let stands = lives.stands v below in stands_few v txn (part_view shape.nodes world txn v) stands.0 stands.1

      -- so each view is the same
      views : (v : ℕ) → v < shape.nodes → part_view shape.nodes (with_order world mail) txn v ≡ part_view shape.nodes world txn v
      views v below =
          same_view (part_view shape.nodes (with_order world mail) txn v) (part_view shape.nodes world txn v)
          (reordered_filter world.mail mail are (is_order v txn) (home_in shape.nodes txn) v (few v below).orders)
          (reordered_filter world.mail mail are (is_report v txn) v (home_in shape.nodes txn) (few v below).reports) refl

  -- and what is settled
  reordered_settled : (txn : TxnId) → KeepsSettled shape.nodes world (with_order world mail) txn
  reordered_settled txn = record {
    committed_stays = so_far-same shape.nodes world (with_order world mail) txn (reordered_status txn) committed;
    aborted_stays = so_far-same shape.nodes world (with_order world mail) txn (reordered_status txn) aborted;
  }

  -- so commits stay whole
  reordered_whole : CommitsWhole shape world → CommitsWhole shape (with_order world mail)
  reordered_whole whole = record {
    lives = λ txn session. reordered_lives txn (whole.lives txn session);
    outcomes = λ v below. reordered_all world.mail mail are (IsTrueOutcome shape (with_order world mail)) v FRONT
        (All-weaker (IsTrueOutcome shape world) (IsTrueOutcome shape (with_order world mail))
        (outcome-stays shape world (with_order world mail) reordered_settled) (world.mail v FRONT) (whole.outcomes v below));
    parts = whole.parts;
  }

-- the law of another order
pub reorder_keeps_whole : ReorderKeepsWhole
reorder_keeps_whole shape world mail size whole are = reordered_whole shape world mail are whole

-- ---- every firm run

-- an event that may happen keeps commits whole
event_whole : (shape : Shape) → IsClusterSize shape.nodes shape.spares → (state : FirmWorld) (event : FirmEvent) → IsSoundWorld shape state.world →
    CommitsWhole shape state.world → MayFirm state event → CommitsWhole shape (after_firm_event shape state event).world
unfolding after_firm_event
event_whole shape size state (happens event) sound whole may = events_keep_whole shape state.world event size sound whole may.0
event_whole shape size state (reorder mail) sound whole may = reorder_keeps_whole shape state.world mail size whole may
event_whole shape size state (join txn) sound whole may = whole

-- the law of every firm run
pub firm_runs_are_whole : FirmRunsAreWhole
firm_runs_are_whole shape events size run =
    (firm_runs_keep shape size (λ state. CommitsWhole shape state.world) (event_whole shape size) (whole_at_first shape size) events run).1
