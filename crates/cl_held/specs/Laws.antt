-- The law of what members hold.
use Rattle.cl_pairs.specs.Laws.{OfPairRuns}
use Rattle.cl_pairs.specs.Pairs.{pair_world_after}
use Rattle.cl_held.specs.Held.{HeldByEveryMember}

-- after every run of pairs each firm transaction is held by every member
abbrev pub PairsHold : Type 0
PairsHold = OfPairRuns (λ shape events. HeldByEveryMember shape (pair_world_after shape events))
