-- The live records of each virtual node, counted one after another.
use Rattle.std.proofs.Common.{◌≡◌, ℕ, ◌+◌, ◌<◌, List, [], ◌∷◌, ◌++◌, length, get_or, Option, Some, None, IsSome, inl, inr, refl, sym, ap, subst, ◌∙◌, arith}
use Rattle.std.specs.Prelude.{is_some, sum}
use Rattle.std.proofs.lemmas.Bool.{cases_eq}
use Rattle.std.proofs.lemmas.List.{get_or_append_left, length-append}
use Rattle.std.proofs.lemmas.List.Sums.{sum_by-append}
use Rattle.std.proofs.Math.Seq.{get_or-append_seam}
use Rattle.cl_actor.specs.Acting.{ActingState}
use Rattle.cl_cluster.proofs.EveryRun.{runs_are_pair_runs}
use Rattle.cl_cluster.proofs.Nodes.{primary_here, standby_here}
use Rattle.cl_cluster.specs.Alike.{AreAlike, pairs_after}
use Rattle.cl_node.specs.declared.machine.Node.{Node}
use Rattle.cl_node.specs.Machine.{NodeMachineState, IsNodeMachine, AreStored}
use Rattle.cl_node.specs.Members.{standby_node}
use Rattle.cl_node.specs.Node.{NodeState, replica_at}
use Rattle.cl_roster.specs.Roster.{IsClusterSize}
use Rattle.cl_runs.proofs.Runs.{runs_are_wide, watching_leaves_world}
use Rattle.cl_runs.specs.Queues.{QueueWorld, queue_world_of, watched_after}
use Rattle.cl_runs.specs.World.{Shape, Run, IsRun}
use Rattle.cl_store.proofs.Counted.{live_records_are_counted}
use Rattle.cl_store.proofs.InOrder.{IsInScanOrder-records}
use Rattle.cl_store.specs.declared.store.Store.{Store}
use Rattle.cl_store.specs.Items.{live}
use Rattle.cl_store.specs.Store.{records}
use Rattle.cl_system.specs.System.{Core, node, system}
use Rattle.cl_types.specs.Places.{Stored}
use Rattle.cl_vnode.specs.Replica.{ReplicaState}
use Rattle.cl_world.specs.Actors.{IsNodeIn, HasNodeState}
use Rattle.cl_world.specs.Audit.{IsAudited, IsLiveAt, replica_of}
use Rattle.cl_world.specs.World.{Moment, moment_after}
use Rattle.cl_world.proofs.Seats.{node_of}

-- ---- one virtual node

-- the store has the records of the replica
stored_live : (store : Store) (core : NodeState) (v count : ℕ) (slot : Option ReplicaState) → replica_at core v ≡ slot →
    AreStored (Some store) slot → count ≡ live (records store) → IsLiveAt (node core) v count
stored_live store core v count None is stores counted = absurd stores
stored_live store core v count (Some replica) is stores counted =
    let has = live_records_are_counted (records store) (IsInScanOrder-records store) in
    record {
      primary = replica;
      here = is;
      live = record {
        places = has.places;
        distinct = has.distinct;
        exactly = λ place. has.exactly place ∙ ap (λ (s : Stored). is_some s.1) (stores place);
        counted = has.counted ∙ sym counted;
      };
    }

-- the node of a slot has that store
pub node_live : (slot : Option Node) (machine : Node) (store : Store) (actor : ActingState Core) (v count : ℕ) → Some machine ≡ slot → IsNodeIn slot actor →
    ((state : NodeMachineState) → IsNodeMachine machine state → AreStored (Some store) (replica_at state.core v)) →
    count ≡ live (records store) → IsLiveAt actor.core v count
node_live slot machine store actor v count is here stores counted =
    let h : HasNodeState machine actor = node_of slot machine actor (sym is) here in
    subst (λ (a : ActingState Core). IsLiveAt a.core v count) (sym h.same)
    (stored_live store h.state.core v count (replica_at h.state.core v) refl (stores h.state h.here) counted)

-- ---- each has a primary and a standby

module _ (shape : Shape) (run : Run) (size : IsClusterSize shape.nodes shape.spares) (is : IsRun (system shape.nodes) shape run) where
  -- cores and queues after the run
  abbrev queues_after : QueueWorld Core
  queues_after = queue_world_of (watched_after (system shape.nodes) shape run)

  -- they are the front, and a primary and a standby of each virtual node
  are_alike : AreAlike shape queues_after (pairs_after shape run)
  are_alike = (runs_are_pair_runs shape run size (runs_are_wide (system shape.nodes) shape run is)).alike

  -- what a core has of a virtual node, the actor has
  some_after : (me v : ℕ) (replica : ReplicaState) → replica_of (queues_after.cores me) v ≡ Some replica →
      IsSome (replica_of ((moment_after shape run).actors me).core v)
  some_after me v replica has =
      subst (λ (moment : Moment). IsSome (replica_of (moment.actors me).core v)) (watching_leaves_world (system shape.nodes) shape run)
      (subst (λ slot. IsSome slot) (sym has) refl)

  -- so the node of its number has the primary of a virtual node
  pub has_primary : (v : ℕ) → v < shape.nodes → IsSome (replica_of ((moment_after shape run).actors v).core v)
  has_primary v within =
      some_after v v _ (primary_here shape size.counted queues_after (pairs_after shape run) are_alike replica_of (λ state n. refl) v within)

  -- and the node behind has its standby
  pub has_standby : (v : ℕ) → v < shape.nodes → IsSome (replica_of ((moment_after shape run).actors (standby_node shape.nodes v)).core v)
  has_standby v within =
      some_after (standby_node shape.nodes v) v _
      (standby_here shape size.counted queues_after (pairs_after shape run) are_alike replica_of (λ state n. refl) v within)

-- ---- one after another

-- the first virtual nodes are counted
pub record AreCounted (moment : Moment) (v total : ℕ) : Type 0 where
  pub counts : List ℕ
  pub counted : length counts ≡ v
  pub each : (k : ℕ) → k < v → IsLiveAt (moment.actors k).core k (get_or counts k 0)
  pub total_is : total ≡ sum counts

-- one more is counted
pub counted_more : (moment : Moment) (v total own : ℕ) → AreCounted moment v total → IsLiveAt (moment.actors v).core v own → AreCounted moment (v + 1) (total + own)
counted_more moment v total own so_far is =
    let last : get_or (so_far.counts ++ own ∷ []) v 0 ≡ own
    = subst (λ n. get_or (so_far.counts ++ own ∷ []) n 0 ≡ own) so_far.counted (get_or-append_seam so_far.counts own [] 0) in
    record {
      counts = so_far.counts ++ own ∷ [];
      counted = length-append so_far.counts (own ∷ []) ∙ ap (λ n. n + 1) so_far.counted;
      each = λ k within. elim (cases_eq k v) [
        | inl same ↦ subst (λ n. IsLiveAt (moment.actors n).core n (get_or (so_far.counts ++ own ∷ []) n 0)) (sym same)
            (subst (λ n. IsLiveAt (moment.actors v).core v n) (sym last) is)
        | inr ne ↦ let lt : k < v = omega arith in
            let inside : k < length so_far.counts = omega (arith, lt, so_far.counted) in
            subst (λ n. IsLiveAt (moment.actors k).core k n) (sym (get_or_append_left so_far.counts (own ∷ []) 0 k inside)) (so_far.each k lt)
      ];
      total_is = omega (arith, so_far.total_is, sum_by-append (λ (x : ℕ). x) so_far.counts (own ∷ []));
    }

-- all are counted: with the replica that the node behind has, that is an audit
pub audited : (shape : Shape) (run : Run) (v total nodes : ℕ) → IsClusterSize shape.nodes shape.spares → IsRun (system shape.nodes) shape run →
    AreCounted (moment_after shape run) v total → v ≡ shape.nodes → nodes ≡ shape.nodes → IsAudited shape (moment_after shape run) (total, nodes, nodes)
audited shape run v total nodes size is all last same = record {
  counts = all.counts;
  counted = all.counted ∙ last;
  each = λ u within. all.each u (omega (arith, within, last));
  live = all.total_is;
  paired = has_standby shape run size is;
  standbys = same;
  nodes = same;
}
