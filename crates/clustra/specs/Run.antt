-- What a run of the server is: what it read, what happened, what it wrote, and how it ended.
use Rattle.std.specs.Prelude.{◌≡◌, ℕ, ◌⊎◌, ◌↔◌, Bool, true, false, List, [], ◌++◌, if◌then◌else◌, map, take, Option}
use Rattle.std.specs.Io.KnownBytes.{append_known}
use Rattle.cl_io.specs.declared.fates.Fate.TheVariants.{Deliver}
use Rattle.cl_runs.specs.World.{Shape, Run, Happening}
use Rattle.cl_schedule.specs.Course.{Course}
use Rattle.cl_schedule.specs.Schedule.{to_happen, IsFirstSpent}
use Rattle.cl_schedule.specs.Turns.{FatesOf, AreTurns, first_course, is_over}
use Rattle.cl_schedule.specs.declared.setting.Setting.{Setting}
use Rattle.cl_serial.specs.Transcript.{TranscriptEntry, fed_lines, full_text}
use Rattle.cl_serial.specs.Bytes.{kept_line, lines_of, whole_lines, FeedsFirstLines}
use Rattle.cl_world.specs.Running.{happened}
use Rattle.clustra.specs.Input.{IsTooMuch, ReadsBytes}
use Rattle.clustra.specs.Pending.{pending_text}
use Rattle.clustra.specs.declared.ended.TheConstants.{DONE, USAGE, READ_FAULT, WRITE_FAULT, TOO_MUCH_INPUT, NO_MEMORY, UNFINISHED, SPENT}
use Rattle.clustra.specs.declared.limits.TheConstants.{NODES, SPARES}

-- the cluster of the program
abbrev pub cluster : Shape
cluster = record { nodes = NODES; spares = SPARES }

-- each packet is delivered, once
abbrev pub always : FatesOf
always packet times = Deliver

-- the texts of the lines of the bytes
abbrev pub texts_in : List ℕ → List (List ℕ)
texts_in bytes = map kept_line (whole_lines bytes)

-- a read failed, there was too much input, or the run gave up for want of memory; no clause says when
abbrev pub IsCutShort : ℕ → Type 0
IsCutShort status = (status ≡ READ_FAULT) ⊎ ((status ≡ TOO_MUCH_INPUT) ⊎ (status ≡ NO_MEMORY))

-- the run is made by the rule, turn by turn, and ended with this status
pub record IsMade (setting : Setting) (status : ℕ) (lines : List (List ℕ)) (run : Run) (unfinished : Bool) : Type 0 where
  -- how far the turns came
  pub count : ℕ
  pub last : Course
  pub turns : AreTurns cluster setting always count (first_course [] [] lines) last
  -- what happened after them, of what was to happen next
  pub more : Run
  pub rest : List Happening
  pub run_is : run ≡ last.run ++ more
  pub happens : happened more ++ rest ≡ to_happen cluster setting always last (is_over cluster last)
  -- done: each line is fed, and the last event is the quiet moment
  pub done : status ≡ DONE → (is_over cluster last ≡ true) × (rest ≡ [])
  -- a write that failed came after the run was over, or after all of its turns
  pub write_fault : status ≡ WRITE_FAULT → ((is_over cluster last ≡ true) × (rest ≡ [])) ⊎ (unfinished ≡ true)
  -- unfinished: all turns are made, and the run is not over
  pub unfinished_is : unfinished ≡ true → (is_over cluster last ≡ false) × ((last.turns ≡ setting.turns) × (more ≡ []))
  pub unfinished_status : status ≡ UNFINISHED → unfinished ≡ true
  pub exactly : is_over cluster last ≡ false → last.turns ≡ setting.turns → (status ≡ UNFINISHED) ⊎ ((status ≡ WRITE_FAULT) ⊎ IsCutShort status)
  -- spent: the next event needs a number above its limit
  pub spent : status ≡ SPENT → IsFirstSpent cluster run rest

-- what was read, and the run that was made of its lines
pub record ReadsInput (setting : Setting) (status : ℕ) (before after : Option (List ℕ)) (read : List ℕ) (run : Run) (transcript : List TranscriptEntry) (unfinished : Bool) : Type 0 where
  pub bytes : ReadsBytes before after read
  -- the run is stopped for its input exactly where it is too much
  pub too_much : (status ≡ TOO_MUCH_INPUT) ↔ IsTooMuch read
  -- the run is made of the lines of these bytes
  pub made : IsMade setting status (texts_in read) run unfinished
  -- the lines that were fed are the first of them
  pub first_lines : FeedsFirstLines transcript read
  -- and all of them where the run is done
  pub all_lines : status ≡ DONE → fed_lines transcript ≡ lines_of read

-- the full text of a run of these lines: what the transcript writes, and where the run is unfinished, the sessions that wait for an answer
abbrev pub full_text_with : List (List ℕ) → List TranscriptEntry → Bool → List ℕ
full_text_with lines transcript unfinished = full_text transcript ++ (if unfinished then pending_text lines transcript else [])

-- what was written is a first part of the full text, perhaps none or all
pub record WritesText (before after : Option (List ℕ)) (text : List ℕ) : Type 0 where
  pub count : ℕ
  pub appended : after ≡ append_known before (take count text)

-- all of the full text was written
abbrev pub WritesAll : Option (List ℕ) → Option (List ℕ) → List ℕ → Type 0
WritesAll before after text = after ≡ append_known before text

-- the status of a run that began: done, a read that failed, a write that failed, too much input, want of memory, turns that ran out, a number above its limit
abbrev pub IsEndStatus : ℕ → Type 0
IsEndStatus status =
    (status ≡ DONE) ⊎ ((status ≡ READ_FAULT) ⊎ ((status ≡ WRITE_FAULT) ⊎ ((status ≡ TOO_MUCH_INPUT) ⊎ ((status ≡ NO_MEMORY) ⊎ ((status ≡ UNFINISHED) ⊎ (status ≡ SPENT))))))

-- a status of the program
abbrev pub IsStatus : ℕ → Type 0
IsStatus status = (status ≡ USAGE) ⊎ IsEndStatus status
