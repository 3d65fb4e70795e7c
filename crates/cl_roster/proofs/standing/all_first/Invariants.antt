use Rattle.std.proofs.Common.{◌≡◌, ◌<◌, ℕ, length}
use Rattle.std.specs.List.{slice_index_or}
use Rattle.cl_roster.specs.declared.roles.Roles.{Roles}
use Rattle.cl_roster.specs.Roles.{first_roles}
use Rattle.cl_roster.proofs.standing.all_first.Given as goal

-- the roles below the index are those at the start
abbrev pub invariant-loop-virtual_node : goal.invariant-loop-virtual_node
invariant-loop-virtual_node l = record {
  eight : length l.roles ≡ 8;
  done : (v : ℕ) (d : Roles) → v < l.virtual_node → slice_index_or l.roles v d ≡ first_roles l.nodes v;
}
