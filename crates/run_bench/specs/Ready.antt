-- When events may be made of a world.
use Rattle.cl_runs.specs.World.{Shape, Run}
use Rattle.cl_world.specs.World.{IsWorldOf, IsWhole}
use Rattle.cl_world.specs.declared.world.World.{World}

-- the world has made a run, and no actor is missing
abbrev pub IsReady : World → Type 0
IsReady made = (shape : Shape) × (run : Run) × IsWorldOf shape made run × IsWhole shape made
