-- The laws: they hold of every firm run, where those of its transcript do.
use Rattle.std.proofs.Common.{◌≡◌, List, sym, subst}
use Rattle.cl_commit.proofs.Reordering.{reorder_keeps_whole}
use Rattle.cl_exchange.proofs.Reordering.{reorder_keeps_sound}
use Rattle.cl_ledger.proofs.Runs.{firm_runs_keep_one_order}
use Rattle.cl_ledger.specs.Ledgers.{Ledgered, both_after}
use Rattle.cl_roster.specs.Roster.{IsClusterSize}
use Rattle.cl_runs.specs.World.{Shape}
use Rattle.cl_serial.specs.Serial.{Serializable}
use Rattle.cl_shown.specs.Laws.{SessionHasOutstanding, FirmRunsAreWellShown}
use Rattle.cl_shown.specs.Shown.{IsWellShown}
use Rattle.cl_system.specs.Firm.{FirmWorld, FirmEvent, firm_world_after, IsFirmRun}
use Rattle.cl_served.specs.Laws.{LedgersAreShown, FirmRunsAreSerializable}
use Rattle.cl_served.specs.Served.{IsLedgerShown}
use Rattle.cl_served.proofs.Ledgers.{ledger_shown}
use Rattle.cl_served.proofs.Runs.{runs_are_served}
use Rattle.cl_served.proofs.Serial.{serializable}

module _ (shape : Shape) (events : List FirmEvent) (size : IsClusterSize shape.nodes shape.spares) (may : IsFirmRun shape events) where
  abbrev both : Ledgered
  both = both_after shape events

  -- the ledger grows beside the system
  beside : both.state ≡ firm_world_after shape events
  beside = (firm_runs_keep_one_order reorder_keeps_sound reorder_keeps_whole shape events size may).beside

  -- its transcript is that of the run
  shown_so : FirmRunsAreWellShown → IsWellShown both.state.world.front.transcript
  shown_so well = subst (λ (state : FirmWorld). IsWellShown state.world.front.transcript) (sym beside) (well shape events size may)

-- the transcript of every firm run shows what its ledger has done
pub ledgers_are_shown : SessionHasOutstanding → FirmRunsAreWellShown → LedgersAreShown
ledgers_are_shown law well shape events size may =
    subst (λ (state : FirmWorld). IsLedgerShown state.world.front.transcript (both_after shape events).ledger) (beside shape events size may)
    (ledger_shown shape size (both_after shape events) (runs_are_served shape events size may) law (shown_so shape events size may well))

-- what is firm explains the transcript of every firm run
pub firm_runs_are_serializable : SessionHasOutstanding → FirmRunsAreWellShown → FirmRunsAreSerializable
firm_runs_are_serializable law well shape events size may =
    subst (λ (state : FirmWorld). Serializable state.world.front.transcript state.firm) (beside shape events size may)
    (serializable shape size (both_after shape events) (runs_are_served shape events size may) law (shown_so shape events size may well))
