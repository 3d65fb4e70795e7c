-- What both members of each virtual node have after a run, by the run of pairs that it is.
use Rattle.std.proofs.Common.{◌≡◌, ℕ, true, List, ◌++◌, Option, Some, sym, ap, ◌∙◌, subst}
use Rattle.std.specs.Option.{unwrap_or}
use Rattle.cl_cluster.specs.Alike.{pair_events_of, pairs_after}
use Rattle.cl_guarantee.specs.Laws.{EachHasMembers, MembersHold, QuietMembersAreEqual, StandbysFollow}
use Rattle.cl_held.specs.Laws.{PairsHold}
use Rattle.cl_log.specs.Open.{is_among}
use Rattle.cl_members.specs.Laws.{IsOfPairs, MembersAreOfPairs, QuietEmptiesMail}
use Rattle.cl_members.specs.Members.{IsReplicaAfter, IsStandbyAfter}
use Rattle.cl_node.specs.Members.{standby_node}
use Rattle.cl_pairs.specs.Laws.{PairsAgree, PairsAreOneLog}
use Rattle.cl_pairs.specs.Pairs.{PairWorld}
use Rattle.cl_runs.proofs.Runs.{runs_are_wide}
use Rattle.cl_runs.specs.World.{Shape, Run}
use Rattle.cl_serial.specs.Serial.{IsIn}
use Rattle.cl_system.specs.System.{system}
use Rattle.cl_types.specs.declared.operations.TxnId.{TxnId}
use Rattle.cl_vnode.specs.Replica.{ReplicaState}

-- what is found in a place is one replica
same_replica : (slot : Option ReplicaState) (one other : ReplicaState) → slot ≡ Some one → slot ≡ Some other → one ≡ other
same_replica slot one other is also = ap (λ (found : Option ReplicaState). unwrap_or found one) (sym is ∙ also)

module _ (members : MembersAreOfPairs) where
  pub each_has_members : EachHasMembers
  each_has_members shape run size wide v below =
      let is = members shape run size wide in
      record {
        primary = (pairs_after shape run).primaries v;
        at_primary = is.primaries v below;
        standby = (pairs_after shape run).standbys v;
        at_standby = is.standbys v below;
      }

  module _ (shape : Shape) (run : Run) (is : IsOfPairs shape run) where
    -- the primary is that of the pairs
    primary_is : (v : ℕ) (replica : ReplicaState) → IsReplicaAfter shape run v replica → (pairs_after shape run).primaries v ≡ replica
    primary_is v replica after = same_replica _ ((pairs_after shape run).primaries v) replica (is.primaries v after.below).has after.has

    -- so is the standby
    standby_is : (v : ℕ) (replica : ReplicaState) → IsStandbyAfter shape run v replica → (pairs_after shape run).standbys v ≡ replica
    standby_is v replica after = same_replica _ ((pairs_after shape run).standbys v) replica (is.standbys v after.below).has after.has

  pub members_hold : PairsHold → MembersHold
  members_hold hold shape run size wide txn firm =
      let is = members shape run size wide in
      let pairs : PairWorld = pairs_after shape run in
      let held = hold shape (pair_events_of shape run) size is.is txn (subst (λ (history : List TxnId). is_among txn history ≡ true) is.history firm) in
      record {
        at_primary = λ primary after. subst (λ (replica : ReplicaState). is_among txn replica.decisions ≡ true) (primary_is shape run is _ primary after) held.at_primary;
        at_standby = λ standby after. subst (λ (replica : ReplicaState). is_among txn replica.decisions ≡ true) (standby_is shape run is _ standby after) held.at_standby;
        work = λ v primary standby entry after behind works stands.
            subst (λ (replica : ReplicaState). IsIn replica.part.log entry) (standby_is shape run is v standby behind)
            (held.work v entry after.below
            (subst (λ (replica : ReplicaState). IsIn replica.part.log entry) (sym (primary_is shape run is v primary after)) stands) works);
      }

  pub standbys_follow : PairsAreOneLog → StandbysFollow
  standbys_follow one_log shape run size wide v primary standby after behind =
      let is = members shape run size wide in
      let log = one_log shape (pair_events_of shape run) size is.is v after.below in (
        log.way,
        sym (ap (λ (replica : ReplicaState). replica.part.log) (primary_is shape run is v primary after)) ∙ log.logs
            ∙ ap (λ (replica : ReplicaState). replica.part.log ++ log.way) (standby_is shape run is v standby behind),
      )

  pub quiet_members_are_equal : QuietEmptiesMail → PairsAreOneLog → PairsAgree → QuietMembersAreEqual
  quiet_members_are_equal empties one_log agree shape run size is_run quiets v primary standby after behind =
      let is = members shape run size (runs_are_wide (system shape.nodes) shape run is_run) in
      let pairs : PairWorld = pairs_after shape run in
      let equal = agree shape pairs v (one_log shape (pair_events_of shape run) size is.is v after.below)
      (empties shape run size is_run quiets v (standby_node shape.nodes v)) in
      let one : pairs.primaries v ≡ primary = primary_is shape run is v primary after in
      let other : pairs.standbys v ≡ standby = standby_is shape run is v standby behind in
      record {
        part = sym (ap (λ (replica : ReplicaState). replica.part) one) ∙ equal.part ∙ ap (λ (replica : ReplicaState). replica.part) other;
        decisions = sym (ap (λ (replica : ReplicaState). replica.decisions) one) ∙ equal.decisions
            ∙ ap (λ (replica : ReplicaState). replica.decisions) other;
      }
