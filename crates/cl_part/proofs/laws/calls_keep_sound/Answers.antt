use Rattle.cl_part.proofs.Ends.{cut_keeps_replica}
use Rattle.cl_part.proofs.Soundness.{IsReplicaOf-record, new_is_sound, replica_is_below, calls_keep_replica, calls_keep_sound}
use Rattle.cl_part.proofs.laws.calls_keep_sound.Goals as goal

pub returns-clause-new : goal.returns-clause-new
returns-clause-new c = new_is_sound

pub returns-clause-below : goal.returns-clause-below
returns-clause-below c = replica_is_below

pub returns-clause-replica : goal.returns-clause-replica
returns-clause-replica c = calls_keep_replica

pub returns-clause-sound : goal.returns-clause-sound
returns-clause-sound c = calls_keep_sound

pub returns-clause-records : goal.returns-clause-records
returns-clause-records c = IsReplicaOf-record

pub returns-clause-cut : goal.returns-clause-cut
returns-clause-cut c = cut_keeps_replica
