use Rattle.std.proofs.Common.{◌≡◌, map, take}
use Rattle.cl_types.specs.GrowingList.{items}
use Rattle.clustra.specs.Counting.{sessions_in}
use Rattle.clustra.proofs.pending.sessions_of.Given as goal

-- the sessions of the lines so far
abbrev pub invariant-loop-text : goal.invariant-loop-text
invariant-loop-text l = l.sessions.items ≡ sessions_in (map items (take l.text-index l.text-items))
