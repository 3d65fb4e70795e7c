-- The replica of a virtual node, where a node has one, and in which role it takes a message.
use Rattle.std.specs.Prelude.{Bool, true, false, Option, Some, None}
use Rattle.cl_vnode.specs.declared.vnode.Vnode.{Vnode}
use Rattle.cl_vnode.specs.Replica.{ReplicaState, IsReplicaStateOf, is_lasting}
use Rattle.cl_wire.specs.Message.{Content, Log}

-- a replica has this state, or there is none on both sides
abbrev pub IsReplicaAt : Option Vnode → Option ReplicaState → Type 0
IsReplicaAt None None = Unit {0}
IsReplicaAt None (Some state) = ⊥
IsReplicaAt (Some vnode) None = ⊥
IsReplicaAt (Some vnode) (Some state) = IsReplicaStateOf vnode state

-- something outlasts a step at a replica, where there is one
abbrev pub is_under_way : Option Vnode → Bool
is_under_way None = false
is_under_way (Some vnode) = is_lasting vnode.modes.mode

-- the message is a record of a log, which a replica takes as the standby
abbrev pub is_record : Content → Bool
is_record (Log v number entry) = true
is_record content = false
