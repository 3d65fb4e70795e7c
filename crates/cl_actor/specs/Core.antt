-- What a core knows of the roster, and what its step gives.
use Rattle.std.specs.Prelude.{◌≡◌, ℕ, Bool, List, Result, Ok, Err}
use Rattle.cl_roster.specs.declared.entry.RosterEntry.{RosterEntry}
use Rattle.cl_roster.specs.Roles.{roles_after}
use Rattle.cl_roster.specs.View.{RosterView}
use Rattle.cl_types.specs.declared.answers.Refused.{Refused}
use Rattle.cl_steps.specs.declared.steps.Steps.{Steps}
use Rattle.cl_steps.specs.Steps.{Step, step_of}

-- how many nodes and spares there are, and the entries of the roster that the actor has noted
pub record Noted : Type 0 where
  pub nodes : ℕ
  pub spares : ℕ
  pub entries : List RosterEntry

-- what a roster says, without its room
abbrev pub noted_of : RosterView → Noted
noted_of view = record { nodes = view.nodes; spares = view.spares; entries = view.entries }

-- the primary of a virtual node, by what was noted
abbrev pub primary_in : Noted → ℕ → ℕ
primary_in noted v = (roles_after noted.nodes noted.entries v).primary

-- a core after a step, and what the step gave
pub record CoreStep (S : Type 0) : Type 0 where
  pub state : S
  pub step : Step

-- where the step was made, the core will have the state after it, and it gave what the step gives, each with the mark that was given
abbrev pub IsCoreStep : {S : Type 0} → (S → Type 0) → (Bool → CoreStep S) → Result Steps Refused → Type 0
IsCoreStep WillBe stepped (Ok steps) = WillBe (stepped steps.short).state × (step_of steps ≡ (stepped steps.short).step)
IsCoreStep WillBe stepped (Err refused) = Unit {0}
