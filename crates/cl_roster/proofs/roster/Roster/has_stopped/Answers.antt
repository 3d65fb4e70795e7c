use Rattle.std.proofs.Common.{sym, ◌∙◌, arith}
use Rattle.std.proofs.lemmas.Bool.{le-ltb, false_from_ne_true}
use Rattle.cl_types.proofs.PlacementLaws.{node_count-bounds}
use Rattle.cl_types.specs.AppendOnlyList.{entries}
use Rattle.cl_roster.specs.Roster.{has_stopped}
use Rattle.cl_roster.proofs.Stays.{has_stopped-known}
use Rattle.cl_roster.proofs.roster.Roster.has_stopped.Goals as goal

-- a node past the flags is none of the cluster, so it never stops
pub returns-else-node-lt-NODES_MAX : goal.returns-else-node-lt-NODES_MAX
returns-else-node-lt-NODES_MAX c =
    let roster = c.self.inside in
    let kept = c.self.invariant in
    let lives = false_from_ne_true (has_stopped (entries roster.entries) c.args.node)
    (λ stopped.
    (let known = has_stopped-known roster.nodes roster.spares (entries roster.entries) c.args.node kept.lawful stopped in
    let size = kept.size in
    let bounds = node_count-bounds roster.nodes size.counted in
    omega arith)) in
    le-ltb c.args.node 16 c.if-node-lt-NODES_MAX.false ∙ sym (rw (← c.self.view_is) lives)
