-- Runs, by induction over their events, one more at the end.
use Rattle.std.proofs.Common.{List, [], ◌∷◌, ◌++◌, append_assoc, sym, subst}
use Rattle.std.proofs.lemmas.List.{append-nil}
use Rattle.std.specs.List.{fold}
use Rattle.cl_runs.specs.World.{EachMayHappen}

-- the first ones of events that may happen may happen, and the others after them
pub each_parts : {W E : Type 0} (May : W → E → Type 0) (next : W → E → W) (events more : List E) (state : W) → EachMayHappen May next (events ++ more) state →
    EachMayHappen May next events state × EachMayHappen May next more (fold next state events)
each_parts May next [] more state may = (tt, may)
each_parts May next (event ∷ events) more state may =
    let rest = each_parts May next events more (next state event) may.1 in
    ((may.0, rest.0), rest.1)

module _ {W E : Type 0} (May : W → E → Type 0) (next : W → E → W) (first : W) (Holds : List E → Type 0)
    (keeps : (events : List E) (event : E) → EachMayHappen May next (events ++ event ∷ []) first → Holds events → Holds (events ++ event ∷ [])) where
  -- what holds of some events holds of these and more
  holds_on : (more events : List E) → Holds events → EachMayHappen May next (events ++ more) first → Holds (events ++ more)
  holds_on [] events holds may = subst Holds (sym (append-nil events)) holds
  holds_on (event ∷ more) events holds may =
      let longer : EachMayHappen May next ((events ++ event ∷ []) ++ more) first
      = subst (λ list. EachMayHappen May next list first) (sym (append_assoc events (event ∷ []) more)) may in
      subst Holds (append_assoc events (event ∷ []) more)
      (holds_on more (events ++ event ∷ []) (keeps events event (each_parts May next (events ++ event ∷ []) more first longer).0 holds) longer)

  -- what holds at the start, and of one event more, holds of all that may happen
  pub holds_of_all : Holds [] → (events : List E) → EachMayHappen May next events first → Holds events
  holds_of_all start events may = holds_on events [] start may
