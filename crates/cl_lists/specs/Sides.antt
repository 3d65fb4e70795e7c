-- The two sides.
use Rattle.cl_lists.specs.declared.slots.Side.{Side}
use Rattle.cl_lists.specs.declared.slots.Side.TheVariants.{X, Y}

-- the other side
abbrev pub opposite : Side → Side
opposite X = Y
opposite Y = X

-- what is given for a side, first for X and then for Y
abbrev pub on_side : {A : Type 0} → Side → A → A → A
on_side X for_x for_y = for_x
on_side Y for_x for_y = for_y
