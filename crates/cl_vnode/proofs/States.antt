-- A replica has a state, since its participant has one.
use Rattle.std.proofs.Common.{refl}
use Rattle.cl_part.proofs.States.{every_part_has_state}
use Rattle.cl_vnode.specs.Laws.{EveryReplicaHasState}

pub every_replica_has_state : EveryReplicaHasState
every_replica_has_state vnode =
    let part = every_part_has_state vnode.part in (
      record { v = vnode.v; part = part.0; control = vnode.control; modes = vnode.modes; decisions = vnode.decisions },
      record
          { v = refl; part = part.1; control = refl; modes = refl; decisions = refl },
    )
