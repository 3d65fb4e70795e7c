-- The core of a node has a primary and a standby, and takes the step of the one that a message is for.
use Rattle.std.proofs.Common.{◌≡◌, ◌≢◌, ℕ, ◌<◌, ◌≤◌, cond, Bool, List, length, Option, Some, None, slice_set, refl, sym, ◌∙◌, ap, subst, arith}
use Rattle.std.proofs.lemmas.Bool.{lt-ltb, le-ltb}
use Rattle.std.proofs.lemmas.List.{get_or-set_same, get_or-set_other, set-set, set_comm, length-set, length-replicate}
use Rattle.cl_actor.specs.Core.{CoreStep}
use Rattle.cl_log.specs.declared.records.LogRec.{LogRec}
use Rattle.cl_node.specs.Addressing.{addressed}
use Rattle.cl_node.specs.Members.{standby_node, backed_up}
use Rattle.cl_node.specs.Node.{NodeState, no_replicas, two_replicas, replica_at, replica_step, slot_step, delivered_to, delivered_for, delivered_node}
use Rattle.cl_pairs.specs.Pairs.{PairWorld, logged_at}
use Rattle.cl_runs.specs.Queues.{QueueWorld}
use Rattle.cl_runs.specs.World.{Shape}
use Rattle.cl_seen.specs.Ways.{IsPairAddressed}
use Rattle.cl_steps.specs.declared.actors.TheConstants.{FRONT}
use Rattle.cl_system.proofs.Places.{receiver_below}
use Rattle.cl_system.specs.Replicas.{nothing_noted, own_primary}
use Rattle.cl_system.specs.Roles.{IsAddressed}
use Rattle.cl_system.specs.System.{Core, node, node_step, delivered_core}
use Rattle.cl_types.proofs.PlacementLaws.{node_count-bounds}
use Rattle.cl_types.specs.Placement.{IsNodeCount}
use Rattle.cl_vnode.specs.Replica.{ReplicaState}
use Rattle.cl_vnode.specs.Standby.{standby_stepped}
use Rattle.cl_vnode.specs.Step.{Stepped, stepped}
use Rattle.cl_wire.specs.Message.{Content, Command, Outcome, Ask, Answer, Prepare, Vote, Finish, Log, LogAck}
use Rattle.cl_cluster.proofs.Members.{backed_up-standby, backed_up-apart, backed_up-below, standby-below}
use Rattle.cl_cluster.specs.Alike.{core_of_node, AreAlike}

-- a message that is between the front and replicas is for the virtual node of its receiver's number
pub addressed_to : (nodes from to : ℕ) (content : Content) → to ≢ FRONT → IsAddressed nodes from to content → addressed nodes content ≡ Some to
addressed_to nodes from to (Command v txn number what) apart is = ap (λ n. Some n) (sym is.receiver)
addressed_to nodes from to (Ask v txn number table key op) apart is = ap (λ n. Some n) (sym is.0.receiver)
addressed_to nodes from to (Answer v txn number answer) apart is = ap (λ n. Some n) (sym is.receiver)
addressed_to nodes from to (Prepare v txn) apart is = ap (λ n. Some n) (sym is.receiver)
addressed_to nodes from to (Vote v txn) apart is = ap (λ n. Some n) (sym is.receiver)
addressed_to nodes from to (Finish v txn commit) apart is = ap (λ n. Some n) (sym is.receiver)
addressed_to nodes from to (Outcome txn number outcome) apart is = absurd (apart is.receiver)
addressed_to nodes from to content apart is = absurd is

-- a message that is for a node comes to one that has replicas
pub pair_receiver_below : (nodes from to : ℕ) (content : Content) → IsNodeCount nodes → to ≢ FRONT → IsPairAddressed nodes from to content → to < nodes
pair_receiver_below nodes from to (Log v number entry) counted apart is = subst (λ n. n < nodes) (sym is.receiver) (standby-below nodes v counted)
pair_receiver_below nodes from to (LogAck v number) counted apart is = subst (λ n. n < nodes) (sym is.receiver) is.node
pair_receiver_below nodes from to content counted apart is = receiver_below nodes from to content counted apart is

-- a node with a primary and a standby
unfoldable pub node_with : ℕ → ℕ → ReplicaState → ReplicaState → NodeState
node_with nodes me primary standby = record { replicas = two_replicas nodes me primary standby }

-- the core of a node has both
core_of_node-there : (nodes me : ℕ) (primary standby : ReplicaState) → me < nodes →
    core_of_node nodes me primary standby ≡ node (node_with nodes me primary standby)
unfolding node_with
core_of_node-there nodes me primary standby below =
    ap (λ b. node (record { replicas = cond b (two_replicas nodes me primary standby) no_replicas })) (lt-ltb me nodes below)

-- the core of a spare has none, whichever they are
pub core_of_node-spare : (nodes me : ℕ) (primary standby primary' standby' : ReplicaState) → nodes ≤ me →
    core_of_node nodes me primary standby ≡ core_of_node nodes me primary' standby'
core_of_node-spare nodes me primary standby primary' standby' past =
    ap (λ b. node (record { replicas = cond b (two_replicas nodes me primary standby) no_replicas })) (le-ltb me nodes past)
    ∙ sym (ap (λ b. node (record { replicas = cond b (two_replicas nodes me primary' standby') no_replicas })) (le-ltb me nodes past))

-- so many slots has a node
slots : length no_replicas ≡ 8
slots = length-replicate {A = Option ReplicaState} 8 None

module _ (nodes me : ℕ) (primary standby : ReplicaState) (counted : IsNodeCount nodes) (below : me < nodes) where
  -- the node is one of few
  few : me < 8
  few = let bounds = node_count-bounds nodes counted in omega (arith, bounds.1, below)

  -- its primary is in the slot of its number
  pub primary_in_slot : replica_at (node_with nodes me primary standby) me ≡ Some primary
  unfolding node_with
  primary_in_slot =
      get_or-set_other (slice_set no_replicas me (Some primary)) (backed_up nodes me) me (Some standby) None (backed_up-apart nodes me counted below)
      ∙ get_or-set_same no_replicas me (Some primary) None (let many = slots in let small = few in omega (arith, many, small))

  -- its standby is in the slot of the node before it
  pub standby_in_slot : replica_at (node_with nodes me primary standby) (backed_up nodes me) ≡ Some standby
  unfolding node_with
  standby_in_slot =
      get_or-set_same (slice_set no_replicas me (Some primary)) (backed_up nodes me) (Some standby) None
      (let many = length-set no_replicas me (Some primary) ∙ slots in let back = backed_up-below nodes me counted in
      let bounds = node_count-bounds nodes counted in omega (arith, many, back, bounds.1))

  -- the primary is another one
  with_primary : (primary' : ReplicaState) →
      slice_set (two_replicas nodes me primary standby) me (Some primary') ≡ two_replicas nodes me primary' standby
  with_primary primary' =
      set_comm (slice_set no_replicas me (Some primary)) (backed_up nodes me) me (Some standby) (Some primary')
      (λ same. backed_up-apart nodes me counted below (sym same))
      ∙ ap (λ (list : List (Option ReplicaState)). slice_set list (backed_up nodes me) (Some standby)) (set-set no_replicas me (Some primary) (Some primary'))

  -- the standby is another one
  with_standby : (standby' : ReplicaState) →
      slice_set (two_replicas nodes me primary standby) (backed_up nodes me) (Some standby') ≡ two_replicas nodes me primary standby'
  with_standby standby' = set-set (slice_set no_replicas me (Some primary)) (backed_up nodes me) (Some standby) (Some standby')

-- what a step leaves and gives, where the primary takes it
abbrev pub primary_moved : ℕ → ℕ → ReplicaState → Stepped → CoreStep Core
primary_moved nodes me standby after = record { state = core_of_node nodes me after.state standby; step = after.step }

-- and where the standby takes it
abbrev pub standby_moved : ℕ → ℕ → ReplicaState → Stepped → CoreStep Core
standby_moved nodes me primary after = record { state = core_of_node nodes me primary after.state; step = after.step }

-- what is no log record is a step of a primary
replica_step-primary : (primary : ℕ → ℕ) (replica : ReplicaState) (from : ℕ) (content : Content) (mark : Bool) → logged_at content ≡ None →
    replica_step primary replica from content mark ≡ stepped primary replica from content mark
replica_step-primary primary replica from (Log v number entry) mark none = absurd cc
replica_step-primary primary replica from content mark none = refl

module _ (me from : ℕ) (primary standby : ReplicaState) (mark : Bool) (shape : Shape) (counted : IsNodeCount shape.nodes) (below : me < shape.nodes) where
  -- a message for a slot
  delivered_at : (content : Content) (v : ℕ) (replica : ReplicaState) → addressed shape.nodes content ≡ Some v →
      replica_at (node_with shape.nodes me primary standby) v ≡ Some replica →
      delivered_node (nothing_noted shape) (node_with shape.nodes me primary standby) from content mark
      ≡ delivered_to (node_with shape.nodes me primary standby) v
      (Some (replica_step own_primary replica from content mark).state, (replica_step own_primary replica from content mark).step)
  delivered_at content v replica for here =
      ap (delivered_for (nothing_noted shape) (node_with shape.nodes me primary standby) from content mark) for
      ∙ ap (λ (slot : Option ReplicaState). delivered_to (node_with shape.nodes me primary standby) v
      (slot_step (nothing_noted shape) slot from content mark)) here

  -- the primary's step of a message for the node's own virtual node
  delivered_to_primary : (content : Content) → logged_at content ≡ None → addressed shape.nodes content ≡ Some me →
      delivered_core me (nothing_noted shape) (core_of_node shape.nodes me primary standby) from content mark
      ≡ primary_moved shape.nodes me standby (stepped own_primary primary from content mark)
  unfolding node_with
  delivered_to_primary content none for =
      let after : Stepped = stepped own_primary primary from content mark in
      ap (λ (core : Core). delivered_core me (nothing_noted shape) core from content mark) (core_of_node-there shape.nodes me primary standby below)
      ∙ ap node_step (delivered_at content me primary for (primary_in_slot shape.nodes me primary standby counted below))
      ∙ ap (λ (done : Stepped). node_step (delivered_to (node_with shape.nodes me primary standby) me (Some done.state, done.step)))
      (replica_step-primary own_primary primary from content mark none)
      ∙ ap (λ (list : List (Option ReplicaState)). let moved : CoreStep Core = record { state = node (record { replicas = list }); step = after.step } in moved)
      (with_primary shape.nodes me primary standby counted below after.state)
      ∙ ap (λ (core : Core). let moved : CoreStep Core = record { state = core; step = after.step } in moved)
      (sym (core_of_node-there shape.nodes me after.state standby below))

  -- the standby's step of a record for the virtual node that the node backs up
  delivered_to_standby : (v number : ℕ) (entry : LogRec) → v ≡ backed_up shape.nodes me →
      delivered_core me (nothing_noted shape) (core_of_node shape.nodes me primary standby) from (Log v number entry) mark
      ≡ standby_moved shape.nodes me primary (standby_stepped standby from (Log v number entry))
  unfolding node_with
  delivered_to_standby v number entry back =
      let after : Stepped = standby_stepped standby from (Log v number entry) in
      let back_here = standby_in_slot shape.nodes me primary standby counted below in
      ap (λ (core : Core). delivered_core me (nothing_noted shape) core from (Log v number entry) mark)
      (core_of_node-there shape.nodes me primary standby below)
      ∙ ap node_step (delivered_at (Log v number entry) (backed_up shape.nodes me) standby (ap (λ n. Some n) back) back_here)
      ∙ ap (λ (list : List (Option ReplicaState)). let moved : CoreStep Core = record { state = node (record { replicas = list }); step = after.step } in moved)
      (with_standby shape.nodes me primary standby counted below after.state)
      ∙ ap (λ (core : Core). let moved : CoreStep Core = record { state = core; step = after.step } in moved)
      (sym (core_of_node-there shape.nodes me primary after.state below))

-- what a step of a node leaves and gives, by the virtual node of a log record, if the message is one
abbrev pub pair_moved : ℕ → PairWorld → ℕ → ℕ → Content → Bool → Option ℕ → CoreStep Core
pair_moved nodes pairs from to content mark (Some v) = standby_moved nodes to (pairs.primaries to) (standby_stepped (pairs.standbys v) from content)
pair_moved nodes pairs from to content mark None =
    primary_moved nodes to (pairs.standbys (backed_up nodes to)) (stepped own_primary (pairs.primaries to) from content mark)

module _ (shape : Shape) (counted : IsNodeCount shape.nodes) (pairs : PairWorld) (from to : ℕ) (mark : Bool) (apart : to ≢ FRONT) where
  -- the core of the node that a message is for
  abbrev core_there : Core
  core_there = core_of_node shape.nodes to (pairs.primaries to) (pairs.standbys (backed_up shape.nodes to))

  -- the core of a node takes the step of the pairs
  pub delivered_core_of_node : (content : Content) → IsPairAddressed shape.nodes from to content →
      delivered_core to (nothing_noted shape) core_there from content mark ≡ pair_moved shape.nodes pairs from to content mark (logged_at content)
  delivered_core_of_node (Log v number entry) is =
      let back : backed_up shape.nodes to ≡ v = ap (backed_up shape.nodes) is.receiver ∙ backed_up-standby shape.nodes v counted is.node in
      delivered_to_standby to from (pairs.primaries to) (pairs.standbys (backed_up shape.nodes to)) mark shape counted
      (pair_receiver_below shape.nodes from to (Log v number entry) counted apart is) v number entry (sym back)
      ∙ ap (λ n. standby_moved shape.nodes to (pairs.primaries to) (standby_stepped (pairs.standbys n) from (Log v number entry))) back
  delivered_core_of_node (LogAck v number) is =
      delivered_to_primary to from (pairs.primaries to) (pairs.standbys (backed_up shape.nodes to)) mark shape counted
      (pair_receiver_below shape.nodes from to (LogAck v number) counted apart is) (LogAck v number) refl (ap (λ n. Some n) (sym is.receiver))
  delivered_core_of_node content is =
      delivered_to_primary to from (pairs.primaries to) (pairs.standbys (backed_up shape.nodes to)) mark shape counted
      (pair_receiver_below shape.nodes from to content counted apart is) content refl (addressed_to shape.nodes from to content apart is)

-- a node is not the front
pub node_apart : (nodes me : ℕ) → IsNodeCount nodes → me < nodes → me ≢ FRONT
node_apart nodes me counted below same = let bounds = node_count-bounds nodes counted in omega (arith, bounds.1, below, same)

module _ (shape : Shape) (counted : IsNodeCount shape.nodes) (cores : QueueWorld Core) (pairs : PairWorld) (alike : AreAlike shape cores pairs) where
  -- a node has the primary of its number and the standby of the one before
  pub node_here : (me : ℕ) → me < shape.nodes → cores.cores me
      ≡ node (node_with shape.nodes me (pairs.primaries me) (pairs.standbys (backed_up shape.nodes me)))
  node_here me below =
      alike.nodes me (node_apart shape.nodes me counted below)
      ∙ core_of_node-there shape.nodes me (pairs.primaries me) (pairs.standbys (backed_up shape.nodes me)) below

  module _ (slot : Core → ℕ → Option ReplicaState) (reads : (state : NodeState) (v : ℕ) → slot (node state) v ≡ replica_at state v) where
    -- whatever reads the slots of a node finds the primary of each virtual node at the node of its number
    pub primary_here : (v : ℕ) → v < shape.nodes → slot (cores.cores v) v ≡ Some (pairs.primaries v)
    primary_here v below =
        ap (λ (core : Core). slot core v) (node_here v below)
        ∙ reads (node_with shape.nodes v (pairs.primaries v) (pairs.standbys (backed_up shape.nodes v))) v
        ∙ primary_in_slot shape.nodes v (pairs.primaries v) (pairs.standbys (backed_up shape.nodes v)) counted below

    -- and its standby at the node behind
    pub standby_here : (v : ℕ) → v < shape.nodes → slot (cores.cores (standby_node shape.nodes v)) v ≡ Some (pairs.standbys v)
    standby_here v below =
        let me : ℕ = standby_node shape.nodes v in
        let there : me < shape.nodes = standby-below shape.nodes v counted in
        let state : NodeState = node_with shape.nodes me (pairs.primaries me) (pairs.standbys (backed_up shape.nodes me)) in
        ap (λ (core : Core). slot core v) (node_here me there) ∙ reads state v
        ∙ subst (λ n. replica_at state n ≡ Some (pairs.standbys n)) (backed_up-standby shape.nodes v counted below)
        (standby_in_slot shape.nodes me (pairs.primaries me) (pairs.standbys (backed_up shape.nodes me)) counted there)
