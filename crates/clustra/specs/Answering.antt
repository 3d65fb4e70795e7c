-- How a run is served, step by step. No public clause cites this module.
use Rattle.std.specs.Prelude.{◌≡◌, ◌⊎◌, ◌↔◌, ℕ, Bool, if◌then◌else◌, List, [], Option}
use Rattle.cl_runs.specs.World.{Run}
use Rattle.cl_schedule.specs.Schedule.{AreOthersIn}
use Rattle.cl_schedule.specs.declared.setting.Setting.{Setting}
use Rattle.cl_members.specs.Members.{transcript_after}
use Rattle.cl_world.specs.Running.{IsLeftOf}
use Rattle.cl_world.specs.World.{IsWorldOf, IsWhole}
use Rattle.cl_world.specs.declared.world.World.{World}
use Rattle.clustra.specs.Input.{IsTooMuch, ReadsBytes}
use Rattle.clustra.specs.Run.{IsMade, cluster, texts_in, full_text_with}
use Rattle.clustra.specs.RunEnds.{EndsSource, EndsSink}
use Rattle.clustra.specs.declared.ended.TheConstants.{DONE, READ_FAULT, WRITE_FAULT, TOO_MUCH_INPUT, NO_MEMORY, UNFINISHED, SPENT}

-- the status of a text that was to be written
abbrev pub IsWriteStatus : Bool → ℕ → Type 0
IsWriteStatus unfinished status = (status ≡ NO_MEMORY) ⊎ ((status ≡ WRITE_FAULT) ⊎ (status ≡ (if unfinished then UNFINISHED else DONE)))

-- the status of a run whose input was read to its end
abbrev pub IsAnswerStatus : ℕ → Type 0
IsAnswerStatus status = (status ≡ DONE) ⊎ ((status ≡ WRITE_FAULT) ⊎ ((status ≡ NO_MEMORY) ⊎ ((status ≡ UNFINISHED) ⊎ (status ≡ SPENT))))

-- the status of a run whose input was not read to its end
abbrev pub IsFaultStatus : ℕ → Type 0
IsFaultStatus status = (status ≡ READ_FAULT) ⊎ ((status ≡ TOO_MUCH_INPUT) ⊎ (status ≡ NO_MEMORY))

-- the world has made this run, or this is left of it
abbrev pub HasMade : World → Run → Type 0
HasMade world run = IsWorldOf cluster world run ⊎ IsLeftOf cluster world run

-- lines were answered in a run that the world has made, and its text was written
pub record Answered {K : Type 0} (written_of flushed_of : K → Option (List ℕ)) (faults_of : K → ℕ)
    (setting : Setting) (status : ℕ) (lines : List (List ℕ)) (world : World) (before after : K) : Type 0 where
  pub run : Run
  pub unfinished : Bool
  pub has_made : HasMade world run
  pub whole : (status ≡ NO_MEMORY → ⊥) → (status ≡ SPENT → ⊥) → IsWhole cluster world
  pub made : IsMade setting status lines run unfinished
  pub others : AreOthersIn cluster world made.rest
  pub sink_ends : EndsSink written_of flushed_of faults_of before after status (full_text_with lines (transcript_after cluster run) unfinished)

-- a source was read, and its lines were answered
pub record Served {S K : Type 0} (left_of : S → Option (List ℕ)) (source_faults : S → ℕ) (written_of flushed_of : K → Option (List ℕ)) (sink_faults : K → ℕ)
    (source_before source_after : S) (sink_before sink_after : K) (setting : Setting) (status : ℕ) (world : World) : Type 0 where
  pub read : List ℕ
  pub bytes : ReadsBytes (left_of source_before) (left_of source_after) read
  pub too_much : (status ≡ TOO_MUCH_INPUT) ↔ IsTooMuch read
  pub answered : Answered written_of flushed_of sink_faults setting status (texts_in read) world sink_before sink_after
  pub nothing_fed : (status ≡ READ_FAULT) ⊎ (status ≡ TOO_MUCH_INPUT) → answered.run ≡ []
  pub source_ends : EndsSource left_of source_faults source_before source_after status
