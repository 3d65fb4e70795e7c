-- How often the fates of packets were asked, as it is kept. No public clause cites this module.
use Rattle.std.specs.Prelude.{◌≡◌, ℕ, ◌+◌, ◌-◌, ◌<◌, ◌^◌, Bool, true, false, List, Option, None, length, min, nat_eq, slice_index_or, unwrap_or, IsSome}
use Rattle.std.specs.HashMap.{get}
use Rattle.cl_runs.specs.World.{with_at}
use Rattle.cl_schedule.specs.declared.asked.Asked.{Asked}
use Rattle.cl_wire.specs.Message.{Message}

-- how often the fate of the packet of a number was asked, as it is noted
abbrev pub times_in : Asked → ℕ → ℕ
times_in asked id = unwrap_or (get nat_eq asked.times id) 0

-- how often it was asked, once more
abbrev pub one_more : ℕ → ℕ
one_more times = min (times + 1) (2 ^ 32 - 1)

-- what is noted after the fate of a packet was asked: nothing of one that is gone
abbrev pub times_met : Bool → (ℕ → ℕ) → ℕ → ℕ → ℕ
times_met true times id = with_at times id 0
times_met false times id = with_at times id (one_more (times id))

-- it is noted of each packet that is on its way, or still to come
abbrev pub NotesAsked : List (Option Message) → (ℕ → ℕ) → Asked → Type 0
NotesAsked slots times asked = (index : ℕ) → (index < length slots → IsSome (slice_index_or slots index None)) → times_in asked (index + 1) ≡ times (index + 1)
