-- The laws of what every run serves.
use Rattle.cl_ledger.specs.Ledgers.{both_after}
use Rattle.cl_serial.specs.Serial.{Serializable}
use Rattle.cl_shown.specs.Laws.{transcript_of_firm}
use Rattle.cl_system.specs.Firm.{firm_world_after, OfFirmRuns}
use Rattle.cl_served.specs.Served.{IsLedgerShown}

-- the transcript of every firm run shows what its ledger has done
abbrev pub LedgersAreShown : Type 0
LedgersAreShown = OfFirmRuns (λ shape events. IsLedgerShown (transcript_of_firm shape events) (both_after shape events).ledger)

-- what is firm explains the transcript of every firm run
abbrev pub FirmRunsAreSerializable : Type 0
FirmRunsAreSerializable = OfFirmRuns (λ shape events. Serializable (transcript_of_firm shape events) (firm_world_after shape events).firm)
