-- The primaries of virtual nodes.
use Rattle.std.proofs.Common.{◌||◌, refl, arith, ap}
use Rattle.std.proofs.lemmas.Bool.{eq-eqb}
use Rattle.cl_actor.specs.Laws.{PrimariesAreActors}
use Rattle.cl_roster.specs.Roles.{roles_after, is_standby}
use Rattle.cl_roster.proofs.Members.{AreSoundMembers-lawful}
use Rattle.cl_types.proofs.PlacementLaws.{node_count-bounds}

pub primary_is_actor : PrimariesAreActors
primary_is_actor noted v is within =
    let roles = roles_after noted.nodes noted.entries v in
    let sound = AreSoundMembers-lawful noted.nodes noted.spares noted.entries v is.size within is.lawful in
    let known = sound.known roles.primary (ap (λ b. b || is_standby roles.standby roles.primary) (eq-eqb roles.primary roles.primary refl)) in
    let few = node_count-bounds noted.nodes is.size.counted in
    let spares = is.size.few_spares in
    omega (arith, known, few.1, spares)
