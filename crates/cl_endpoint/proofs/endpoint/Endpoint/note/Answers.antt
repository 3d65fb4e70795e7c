use Rattle.std.proofs.Common.{subst, arith}
use Rattle.cl_roster.specs.Roster.{IsClusterSize, IsLawfulEntry}
use Rattle.cl_endpoint.specs.Endpoint.{EndpointState}
use Rattle.cl_endpoint.proofs.Noting.{stopped_is_actor}
use Rattle.cl_endpoint.proofs.endpoint.Endpoint.note.Goals as goal

pub index_mut-requires : goal.index_mut-requires
index_mut-requires c =
    let state : EndpointState = c.args.self.now in
    let size : IsClusterSize state.nodes state.spares
    = subst (λ (s : EndpointState). IsClusterSize s.nodes s.spares) c.self.view_is c.rosters_are_lawful.ensures.size in
    let lawful = subst (IsLawfulEntry state.nodes state.spares state.noted) c.in-Stopped.is c.requires in
    omega (arith, c.self.invariant.1, stopped_is_actor state.nodes state.spares state.noted c.in-Stopped.node size lawful)
