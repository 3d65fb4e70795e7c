-- The law of causes.
use Rattle.std.specs.Prelude.{List}
use Rattle.cl_roster.specs.Roster.{IsClusterSize}
use Rattle.cl_runs.specs.World.{Shape}
use Rattle.cl_system.specs.Firm.{FirmEvent, IsFirmRun, AreQuiet}
use Rattle.cl_shown.specs.Laws.{transcript_of_firm}
use Rattle.cl_causes.specs.Causes.{TrueCauses}
use Rattle.cl_causes.specs.Held.{WasHeld}
use Rattle.cl_causes.specs.Short.{WasShort}

-- every firm run whose quiet moments are quiet names true causes
abbrev pub FirmRunsNameTrueCauses : Type 0
FirmRunsNameTrueCauses = (shape : Shape) (events : List FirmEvent) → IsClusterSize shape.nodes shape.spares → IsFirmRun shape events → AreQuiet shape events →
    TrueCauses (transcript_of_firm shape events) (WasShort shape events) (WasHeld shape events)
