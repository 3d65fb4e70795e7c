use Rattle.std.proofs.Common.{◌≡◌, ◌-◌}
use Rattle.cl_types.specs.GrowingList.{items}
use Rattle.cl_fields.specs.Reading.{read_members, read_item}
use Rattle.cl_fields.proofs.Members.{with_front}
use Rattle.cl_fields.proofs.reader.Reader.item_members.Given as goal

abbrev pub invariant-loop : goal.invariant-loop
invariant-loop l = with_front (items l.list) (read_members read_item (l.count - l.counter) l.self) ≡ read_members read_item l.count l.fn.self
