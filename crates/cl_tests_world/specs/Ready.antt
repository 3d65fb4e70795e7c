-- When a world can go on.
use Rattle.cl_runs.specs.World.{Shape, Run}
use Rattle.cl_world.specs.World.{IsWorldOf, IsWhole}
use Rattle.cl_world.specs.declared.world.World.{World}

-- the world has made a run, and no actor is missing
pub record IsReady (made : World) : Type 0 where
  pub shape : Shape
  pub run : Run
  pub is : IsWorldOf shape made run
  pub whole : IsWhole shape made
