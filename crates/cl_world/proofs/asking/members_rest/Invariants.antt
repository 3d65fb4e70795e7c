use Rattle.std.proofs.Common.{ℕ, ◌<◌, length, slice_index_or, None, IsSome}
use Rattle.cl_world.specs.Actors.{States, IsNodeIn, IsResting}
use Rattle.cl_world.proofs.asking.members_rest.Given as goal

abbrev pub invariant-loop-k : goal.invariant-loop-k
invariant-loop-k l = (states : States) → ((k : ℕ) → k < length l.members → IsSome (slice_index_or l.members k None)) → ((k : ℕ) → k < length l.members → IsNodeIn (slice_index_or l.members k None) (states k)) → (k : ℕ) → k < l.k → IsResting (states k)
