use Rattle.std.specs.Prelude.{◌≡◌, List, [], ◌∷◌, ◌++◌}
use Rattle.cl_types.specs.declared.operations.TxnId.{TxnId}
use Rattle.cl_types.specs.Places.{Place}
use Rattle.cl_log.specs.LogEntry.{LogEntry}
use Rattle.cl_log.specs.Laws.{IsSettling, mark, write, end}
use Rattle.cl_log.specs.Settled.{settled}
use Rattle.cl_log.proofs.Settled.{settled_after_mark, settled_after_write, settled_after_end}
use Rattle.cl_log.proofs.laws.records_keep_settled.Goals as goal

kept : (entries : List LogEntry) (history : List TxnId) (entry : LogEntry) → IsSettling entries history entry → (place : Place) → settled (entries ++ entry ∷ []) history place ≡ settled entries history place
kept entries history entry (mark is) place = settled_after_mark entries entry history place is
kept entries history entry (write is running out fresh reversible) place = settled_after_write entries entry history place is running out fresh reversible
kept entries history entry (end is settles) place = settled_after_end entries entry history place is settles

pub returns : goal.returns
returns c = kept
