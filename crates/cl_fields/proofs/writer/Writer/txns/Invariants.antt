use Rattle.std.proofs.Common.{◌≡◌, ◌++◌, length, take}
use Rattle.std.specs.List.{flat_map}
use Rattle.cl_types.specs.GrowingList.{items}
use Rattle.cl_fields.specs.Spelling.{byte, txn_bytes}
use Rattle.cl_fields.proofs.writer.Writer.txns.Given as goal

abbrev pub invariant-loop-txn : goal.invariant-loop-txn
invariant-loop-txn l = l.self ≡ l.fn.self ++ (byte (length (items l.list)) ++ flat_map txn_bytes (take l.txn-index (items l.list)))
