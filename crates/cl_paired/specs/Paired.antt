-- A primary with a standby, seen as one without: as if all that waits to be safe were told at once.
use Rattle.std.specs.Prelude.{◌≡◌, ℕ, ◌+◌, ◌-◌, ◌<◌, true, List, [], ◌∷◌, length, None, All, fold}
use Rattle.std.specs.List.{flat_map}
use Rattle.cl_control.specs.declared.entry.Told.{Told}
use Rattle.cl_control.specs.Calls.{is_told}
use Rattle.cl_control.specs.Sound.{IsSoundControl, has_decide}
use Rattle.cl_log.specs.declared.records.LogRec.TheVariants.{Decide}
use Rattle.cl_log.specs.LogEntry.{LogEntry, IsNumberedFrom}
use Rattle.cl_log.specs.declared.records.LogRec.{LogRec}
use Rattle.cl_repair.specs.declared.mode.Mode.TheVariants.{Pair}
use Rattle.cl_repair.specs.Modes.{new_modes}
use Rattle.cl_steps.specs.declared.steps.Outgoing.{Outgoing}
use Rattle.cl_vnode.specs.Replica.{ReplicaState}
use Rattle.cl_vnode.specs.Step.{Stepped, started, entry_told, entries_between}

-- what is not safe yet of the log
abbrev pub unsafe_entries : ReplicaState → List LogEntry
unsafe_entries state = entries_between state.modes.acked (state.part.next - 1) state.part.log

-- all of it is told
unfoldable pub told_at_once : (ℕ → ℕ) → ReplicaState → Stepped
told_at_once primary state = fold (entry_told primary) (started state) (unsafe_entries state)

-- the primary, once it has told all of it, without a standby
abbrev pub at_once : (ℕ → ℕ) → ReplicaState → ReplicaState
at_once primary state = record (told_at_once primary state).state { modes = new_modes state.v None }

-- what it has still to tell, in order of the log
abbrev pub untold : (ℕ → ℕ) → ReplicaState → List Outgoing
untold primary state = (told_at_once primary state).step.sends

-- a Decide as one that waits to be safe
abbrev pub told_of : ℕ → LogRec → List Told
told_of number (Decide txn) = record { number = number; txn = txn } ∷ []
told_of number content = []

-- the Decides among entries, each with its number
abbrev pub tolds_of : List LogEntry → List Told
tolds_of entries = flat_map (λ entry. told_of entry.number entry.content) entries

-- what holds of a primary with a standby between two steps
pub record IsPaired (state : ReplicaState) : Type 0 where
  -- it has a standby
  pub standby : ℕ
  pub mode : state.modes.mode ≡ Pair standby
  pub own : state.modes.v ≡ state.v
  -- what holds of each controller
  pub sound : IsSoundControl state.control
  -- the log is numbered from 1, and no more of it is acknowledged than there is
  pub numbered : IsNumberedFrom 1 state.part.log
  pub next : state.part.next ≡ length state.part.log + 1
  pub acked : state.modes.acked < state.part.next
  -- exactly the Decides that are not safe yet wait, and exactly their transactions are decided
  pub waiting : state.control.waiting ≡ tolds_of (unsafe_entries state)
  pub decided : All (λ entry. has_decide entry.phase ≡ true → is_told entry.txn state.control.waiting ≡ true) state.control.transactions
