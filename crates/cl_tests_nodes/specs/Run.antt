-- What a test keeps of a front.
use Rattle.std.specs.Prelude.{ℕ}
use Rattle.cl_front.specs.Front.{FrontState}
use Rattle.cl_front.specs.FrontCore.{IsFront}
use Rattle.cl_front.specs.Laws.{AreNumberedUpTo}
use Rattle.cl_front.specs.declared.front_core.FrontCore.{FrontCore}

-- the front had so many steps
pub record HasStepped (core : FrontCore) (steps : ℕ) : Type 0 where
  pub state : FrontState
  pub is_front : IsFront core state
  pub numbered : AreNumberedUpTo steps state
