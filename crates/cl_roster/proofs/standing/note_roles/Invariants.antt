use Rattle.std.proofs.Common.{◌≡◌, ◌<◌, ◌≤◌, ℕ, length}
use Rattle.std.specs.List.{slice_index_or}
use Rattle.cl_roster.specs.declared.roles.Roles.{Roles}
use Rattle.cl_roster.specs.Roles.{after_entry}
use Rattle.cl_roster.proofs.standing.note_roles.Given as goal

-- the roles below the index are one step on, and the others are as they were
abbrev pub invariant-loop-virtual_node : goal.invariant-loop-virtual_node
invariant-loop-virtual_node l = record {
  eight : length l.roles ≡ 8;
  done : (v : ℕ) (d : Roles) → v < l.virtual_node → slice_index_or l.roles v d ≡ after_entry v (slice_index_or l.initial.roles v d) l.entry;
  rest : (v : ℕ) (d : Roles) → l.virtual_node ≤ v → slice_index_or l.roles v d ≡ slice_index_or l.initial.roles v d;
}
