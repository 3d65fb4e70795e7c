-- Room grows until there is enough, and no further, and all else stays.
use Rattle.std.proofs.Common.{◌-◌, ◌≤◌, max}
use Rattle.cl_lists.specs.Arena.{IsUnchanged, free_slots}
use Rattle.cl_lists.proofs.arena.Arena.reserve.Given as goal

abbrev pub invariant-loop-self : goal.invariant-loop-self
invariant-loop-self g l = IsUnchanged l.fn.self l.self × (free_slots l.fn.self ≤ free_slots l.self) × (free_slots l.self ≤ max l.count (free_slots l.fn.self))

abbrev pub decreases-loop-self : goal.decreases-loop-self
decreases-loop-self g l = l.count - l.self.free_count
