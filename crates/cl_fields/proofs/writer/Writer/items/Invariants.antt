use Rattle.std.proofs.Common.{◌≡◌, ◌++◌, length, take}
use Rattle.std.specs.List.{flat_map}
use Rattle.cl_types.specs.GrowingList.{items}
use Rattle.cl_fields.specs.Spelling.{byte, item_bytes}
use Rattle.cl_fields.proofs.writer.Writer.items.Given as goal

abbrev pub invariant-loop-item : goal.invariant-loop-item
invariant-loop-item l = l.self ≡ l.fn.self ++ (byte (length (items l.list)) ++ flat_map item_bytes (take l.item-index (items l.list)))
