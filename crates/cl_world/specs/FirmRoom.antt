-- For how many more transactions a history has room.
use Rattle.std.specs.Prelude.{ℕ, min, List}
use Rattle.std.specs.HashMap.{spare}
use Rattle.cl_types.specs.AppendOnlyList.{entries, room}
use Rattle.cl_types.specs.declared.operations.TxnId.{TxnId}
use Rattle.cl_world.specs.declared.firm.Firm.{Firm}

-- for how many more transactions there is room
abbrev pub firm_room : Firm → ℕ
firm_room firm = min (room firm.history) (spare firm.names)

-- the firm transactions, in order
abbrev pub firm_in : Firm → List TxnId
firm_in firm = entries firm.history
