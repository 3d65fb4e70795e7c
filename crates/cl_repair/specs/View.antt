-- What contracts see of modes.
use Rattle.cl_repair.specs.declared.modes.Modes.TheInside.{Inside}
use Rattle.cl_repair.specs.Modes.{ModesState}

-- the virtual node, the mode, and what was acknowledged
abbrev pub view_of : Inside → ModesState
view_of modes = record { v = modes.v; mode = modes.mode; acked = modes.acked }
