-- What is in the ranges of the wire format between two events: stored values, names of transactions, commands, messages.
use Rattle.std.specs.Prelude.{ℕ, ◌+◌, ◌^◌, ◌<◌, ◌≤◌, All, Option, Some, None}
use Rattle.cl_control.specs.State.{Entry}
use Rattle.cl_fields.specs.Range.{IsCommandNumber, IsNumber, IsTxn, IsImage, IsCommand, IsEntry}
use Rattle.cl_front.specs.declared.current.Current.{Current}
use Rattle.cl_front.specs.declared.limits.TheConstants.{TXN_NUMBER_MAX}
use Rattle.cl_front.specs.Session.{SessionState}
use Rattle.cl_log.specs.declared.log.TheConstants.{LOG_NUMBER_MAX}
use Rattle.cl_lone.specs.Lone.{command_in}
use Rattle.cl_part.specs.State.{State}
use Rattle.cl_system.specs.Replicas.{ReplicaWorld}
use Rattle.cl_types.specs.Places.{Place}
use Rattle.cl_vnode.specs.Replica.{ReplicaState}
use Rattle.cl_wire.specs.Range.{IsContent}

-- what a participant has is in range
pub record IsPartInRange (part : State) : Type 0 where
  pub stored : (place : Place) → IsImage (part.stored place).1
  pub numbers : (place : Place) → (part.stored place).0 < 2 ^ 64
  pub log : All (λ entry. IsNumber entry.number × IsEntry entry.content) part.log
  pub first : 1 ≤ part.next
  pub next : part.next ≤ LOG_NUMBER_MAX + 1
  pub grants : All (λ grant. IsTxn grant.txn) part.grants

-- so is an open transaction
pub record IsEntryInRange (entry : Entry) : Type 0 where
  pub txn : IsTxn entry.txn
  pub number : IsCommandNumber (command_in entry.phase)

-- so is what a replica has
pub record IsReplicaInRange (state : ReplicaState) : Type 0 where
  pub part : IsPartInRange state.part
  pub entries : All IsEntryInRange state.control.transactions

-- a session that is in a transaction has begun one
abbrev pub HasBegun : Option Current → ℕ → Type 0
HasBegun None begun = Unit {0}
HasBegun (Some current) begun = 1 ≤ begun

-- what a session of the front has is in range
pub record IsSessionInRange (session : SessionState) : Type 0 where
  pub waiting : All IsCommand session.waiting
  pub begun : session.begun ≤ TXN_NUMBER_MAX
  pub inside : HasBegun session.current session.begun

-- what the front, the replicas and the messages on their way have is in range
pub record IsWorldInRange (world : ReplicaWorld) : Type 0 where
  pub sessions : All IsSessionInRange world.front.sessions
  pub replicas : (v : ℕ) → IsReplicaInRange (world.replicas v)
  pub mail : (from to : ℕ) → All IsContent (world.mail from to)
