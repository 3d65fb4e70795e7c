-- The links agree with the lists in one way at most.
use Rattle.std.proofs.Props.{props}
use Rattle.std.proofs.Common.{ℕ, Bool, List}
use Rattle.cl_lists.specs.declared.slots.Link.{Link}
use Rattle.cl_lists.specs.declared.slots.Ends.{Ends}
use Rattle.cl_lists.specs.declared.slots.Side.{Side}
use Rattle.cl_lists.specs.declared.slots.LinkedSlot.{LinkedSlot}
use Rattle.cl_lists.specs.Entries.{links_on, used, lists_on_side, AreLinked}
use Rattle.cl_lists.specs.Links.{IsLinked}

pub IsLinked-prop : (links : List Link) (ends : List Ends) (used : List Bool) (lists : List (List ℕ)) → IsProp (IsLinked links ends used lists)
IsLinked-prop links ends used lists = Prim.hlevel props

pub AreLinked-prop : {T : Type 0} (side : Side) (slots : List (LinkedSlot T)) (ends : List Ends) → IsProp (AreLinked side slots ends)
AreLinked-prop side slots ends = IsLinked-prop (links_on side slots) ends (used slots) (lists_on_side side slots ends)
