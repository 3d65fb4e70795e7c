-- Which run of the system a world has made.
use Rattle.std.specs.Prelude.{◌≡◌, ℕ, ◌+◌, []}
use Rattle.cl_ranges.specs.Spent.{IsUnspentRun}
use Rattle.cl_roster.specs.Roster.{IsClusterSize}
use Rattle.cl_roster.specs.View.{RosterView}
use Rattle.cl_runs.specs.World as runs
use Rattle.cl_runs.specs.World.{Shape, Run, world_after, IsRun, IsEnabled}
use Rattle.cl_system.specs.System.{Core, system}
use Rattle.cl_types.specs.AppendOnlyList.{entries}
use Rattle.cl_world.specs.Actors.{AreActors, AreAllThere}
use Rattle.cl_world.specs.FirmRoom.{firm_in}
use Rattle.cl_world.specs.Happenings.{run_of}
use Rattle.cl_world.specs.Mail.{messages_in, AreKept, AreToLiving}
use Rattle.cl_world.specs.declared.world.World.{World}

-- the system at one moment, by its definition
abbrev pub Moment : Type 0
Moment = runs.World Core

-- the system after a run
abbrev pub moment_after : Shape → Run → Moment
moment_after shape run = world_after (system shape.nodes) shape run

-- the number of nodes and spares
abbrev pub living_in : Shape → ℕ
living_in shape = shape.nodes + shape.spares

-- the roster of the cluster, in which nothing has happened
pub record IsFirstRoster (shape : Shape) (roster : RosterView) : Type 0 where
  pub nodes : roster.nodes ≡ shape.nodes
  pub spares : roster.spares ≡ shape.spares
  pub entries : roster.entries ≡ []

-- the world is at this moment
pub record IsAt (shape : Shape) (made : World) (moment : Moment) : Type 0 where
  pub size : IsClusterSize shape.nodes shape.spares
  pub nodes : made.nodes ≡ shape.nodes
  pub spares : made.spares ≡ shape.spares
  pub roster : IsFirstRoster shape made.roster
  pub actors : AreActors shape made.actors moment.actors
  pub mail : AreKept (messages_in made.mail) moment.packets
  pub living : AreToLiving (living_in shape) (messages_in made.mail)
  pub history : firm_in made.firm ≡ moment.history
  pub lines : made.lines ≡ moment.lines
  pub quiet : made.quiet_now ≡ moment.is_quiet_now
  -- nobody has stopped
  pub unstopped : moment.roster ≡ []

-- the world has made this run, of which no step needed a number above its limit
pub record IsWorldOf (shape : Shape) (made : World) (run : Run) : Type 0 where
  pub is_run : IsRun (system shape.nodes) shape run
  pub unspent : IsUnspentRun shape run
  pub trace : run_of (entries made.trace) ≡ run
  pub now : IsAt shape made (moment_after shape run)

-- no actor is missing
abbrev pub IsWhole : Shape → World → Type 0
IsWhole shape made = AreAllThere shape made.actors
