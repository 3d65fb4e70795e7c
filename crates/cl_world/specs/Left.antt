-- What is taken out of a world.
use Rattle.std.specs.Prelude.{◌≡◌, ℕ, ◌<◌, None, length, slice_index_or}
use Rattle.cl_runs.specs.World.{Shape, Run}
use Rattle.cl_serial.specs.Transcript.{transcript_of}
use Rattle.cl_steps.specs.declared.actors.TheConstants.{FRONT}
use Rattle.cl_system.specs.System.{transcript_in}
use Rattle.cl_types.specs.AppendOnlyList.{entries}
use Rattle.cl_world.specs.Actors.{IsBareFront, IsNodeIn}
use Rattle.cl_world.specs.Happenings.{run_of}
use Rattle.cl_world.specs.World.{IsFirstRoster, living_in, moment_after}
use Rattle.cl_world.specs.declared.kept.Kept.{Kept}

-- what was taken out of a world that has made this run
pub record IsKeptOf (shape : Shape) (kept : Kept) (run : Run) : Type 0 where
  pub transcript : transcript_of kept.transcript ≡ transcript_in ((moment_after shape run).actors FRONT).core
  pub history : entries kept.history ≡ (moment_after shape run).history
  pub trace : run_of (entries kept.trace) ≡ run
  pub roster : IsFirstRoster shape kept.roster
  pub front : IsBareFront kept.front ((moment_after shape run).actors FRONT)
  pub counted : length kept.nodes.items ≡ living_in shape
  pub nodes : (actor : ℕ) → actor < living_in shape → IsNodeIn (slice_index_or kept.nodes.items actor None) ((moment_after shape run).actors actor)
