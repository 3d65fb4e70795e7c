-- What an entry of the roster makes of a replica that notes it, and what the step gives.
use Rattle.std.specs.Prelude.{◌≡◌, ℕ, ◌-◌, ◌<◌, ◌==◌, if◌then◌else◌, List, [], ◌∷◌, ◌++◌}
use Rattle.std.specs.List.{flat_map}
use Rattle.cl_types.specs.declared.operations.TxnId.{TxnId}
use Rattle.cl_log.specs.LogEntry.{LogEntry}
use Rattle.cl_roster.specs.declared.entry.RosterEntry.{RosterEntry}
use Rattle.cl_roster.specs.declared.entry.RosterEntry.TheVariants.{Stopped, Repaired}
use Rattle.cl_roster.specs.declared.roles.Roles.{Roles}
use Rattle.cl_roster.specs.Roles.{is_standby}
use Rattle.cl_roster.specs.View.{RosterView}
use Rattle.cl_repair.specs.Modes.{after_alone}
use Rattle.cl_steps.specs.Steps.{nothing_done}
use Rattle.cl_vnode.specs.Replica.{ReplicaState, safe_number}
use Rattle.cl_vnode.specs.Standby.{firm_of}
use Rattle.cl_vnode.specs.Step.{Stepped, started, primary_in, entries_between, all_told}

-- the primary of each virtual node once one entry more is noted
abbrev pub primary_after : RosterView → RosterEntry → ℕ → ℕ
primary_after before entry v = primary_in before.nodes (before.entries ++ entry ∷ []) v

-- the transactions whose Decide stands among the entries, in order of the log
abbrev pub decides_in : List LogEntry → List TxnId
decides_in entries = flat_map (λ entry. firm_of entry.content) entries

-- the replica makes its log safe by itself from now on
abbrev pub alone : ReplicaState → ReplicaState
alone state = record state { modes = after_alone state.modes }

-- the standby of a primary has stopped: what waited is safe. Its Decides are firm, and it is told, by log number
abbrev pub left_alone : (ℕ → ℕ) → ReplicaState → Stepped
left_alone primary state = all_told primary (safe_number state) (record {
  state = alone state;
  step = record nothing_done { firm = decides_in (entries_between (safe_number state) (state.part.next - 1) state.part.log) };
})

-- the primary has stopped: its standby is primary now
abbrev pub taken_over : ReplicaState → Stepped
taken_over state = started (alone state)

-- an entry is noted, by the roles before it
abbrev pub noted_replica : (ℕ → ℕ) → Roles → ReplicaState → RosterEntry → Stepped
noted_replica primary roles state (Stopped n) =
    if roles.primary == n then taken_over state else (if is_standby roles.standby n then left_alone primary state else started state)
noted_replica primary roles state (Repaired v n) = started state

-- the replica may note an entry after this roster
pub record NoteFits (before : RosterView) (state : ReplicaState) : Type 0 where
  pub same_nodes : before.nodes ≡ state.control.nodes
  pub known : state.v < before.nodes
