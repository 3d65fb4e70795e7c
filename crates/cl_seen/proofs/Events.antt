-- One event of pairs is events of the firm system, by each kind of event.
use Rattle.std.proofs.Common.{◌≡◌, ℕ, ◌+◌, ◌<◌, nat_lt, eqb, Bool, true, false, cond, List, [], ◌∷◌, ◌++◌, map, All, None, IsPermutation, refl, sym, ◌∙◌, ap}
use Rattle.std.proofs.Common.{subst}
use Rattle.std.proofs.Math.Path.{subst₂}
use Rattle.std.proofs.lemmas.Bool.{true≢false, cond-true, cond-false, cond_both, eq-eqb, eqb-true}
use Rattle.std.proofs.lemmas.List.{append-nil}
use Rattle.std.proofs.lemmas.List.Sorted.{IsPermutation-refl}
use Rattle.std.specs.List.{fold}
use Rattle.cl_node.specs.Members.{standby_node}
use Rattle.cl_actor.specs.Core.{CoreStep}
use Rattle.cl_endpoint.specs.Laws.{contents_to}
use Rattle.cl_endpoint.specs.declared.limits.TheConstants.{ACTORS}
use Rattle.cl_exchange.specs.Laws.{IsSoundWorld, EventsKeepSound}
use Rattle.cl_front.specs.Front.{FrontState, delivered_front, fed_front, quiet_front}
use Rattle.cl_lines.specs.declared.out.Out.{Out}
use Rattle.cl_log.specs.declared.records.LogRec.{LogRec}
use Rattle.cl_log.specs.declared.records.LogRec.TheVariants.{Decide}
use Rattle.cl_log.specs.Open.{is_among}
use Rattle.cl_lone.specs.Lone.{lone_step}
use Rattle.cl_paired.specs.Laws.{IsUnawaited, IsSeenAlone, IsNoAck, StepsAreSeenAlone, Tells, AcksTell}
use Rattle.cl_paired.specs.Paired.{at_once, IsPaired}
use Rattle.cl_roster.specs.Roster.{IsClusterSize}
use Rattle.cl_runs.specs.Queues.{sent_to, QueueEvent, deliver, take_line, quieten}
use Rattle.cl_runs.specs.World.{Shape, EachMayHappen, with_firm}
use Rattle.cl_steps.specs.declared.actors.TheConstants.{FRONT}
use Rattle.cl_steps.specs.declared.steps.Outgoing.{Outgoing}
use Rattle.cl_steps.specs.Steps.{sent}
use Rattle.cl_system.specs.Firm.{FirmWorld, happens, reorder, join, TellsFirm, TellsOnceFirm, AreReordered, MayFirm, with_order, after_firm_event}
use Rattle.cl_system.specs.Replicas.{ReplicaWorld, nothing_noted, own_primary, with_way, front_acts, replica_acts, after_first, after_replica_event}
use Rattle.cl_system.specs.Replicas.{MayReplicas}
use Rattle.cl_system.specs.Roles.{IsAddressed}
use Rattle.cl_types.specs.declared.operations.TxnId.{TxnId}
use Rattle.cl_vnode.specs.Inputs.{Fits}
use Rattle.cl_vnode.specs.Replica.{ReplicaState}
use Rattle.cl_vnode.specs.Standby.{firm_of, standby_stepped}
use Rattle.cl_vnode.specs.Step.{Stepped, stepped, log_messages, entries_from}
use Rattle.cl_wire.specs.Message.{Content, Log, LogAck}
use Rattle.cl_seen.proofs.Lists.{outward-append, outward_one, shipped_inward}
use Rattle.cl_seen.proofs.Mail.{off_mail, inward_off, front_mail, primary_mail, told_mail}
use Rattle.cl_seen.proofs.Beside.{Sees, SeesEvent, IsDecided}
use Rattle.cl_pairs.specs.Pairs as pair
use Rattle.cl_seen.specs.Seen.{is_internal, outward, to_tell, seen_mail, joins_of, seen_delivery, seen_event}

-- ---- messages

-- an outward message is no acknowledgement
pub outward_no_ack : (content : Content) → is_internal content ≡ false → IsNoAck content
outward_no_ack (LogAck v number) is = absurd (true≢false is)
outward_no_ack content is = tt

-- and no log record
pub outward_no_log : (content : Content) → is_internal content ≡ false → pair.logged_at content ≡ None
outward_no_log (Log v number entry) is = absurd (true≢false is)
outward_no_log content is = refl

-- its coming happens in the firm system
outward_happens : (shape : Shape) (before after : pair.PairWorld) (event : QueueEvent) (content : Content) (rest : List Content) → is_internal content ≡ false →
    seen_delivery shape before after event (content ∷ rest) ≡ happens event ∷ reorder (seen_mail shape.nodes after) ∷ []
outward_happens shape before after event (Log v number entry) rest is = absurd (true≢false is)
outward_happens shape before after event (LogAck v number) rest is = absurd (true≢false is)
outward_happens shape before after event content rest is = refl

-- the same at either of two replicas
same_either : (c : Bool) (one other own others : ReplicaState) → at_once own_primary one ≡ own → at_once own_primary other ≡ others →
    at_once own_primary (cond c one other) ≡ cond c own others
same_either true one other own others same elsewhere = same
same_either false one other own others same elsewhere = elsewhere

-- the same messages, in the same order
same_order : (one other : List Content) → one ≡ other → IsPermutation one other
same_order one other same = subst (IsPermutation one) same (IsPermutation-refl one)

module _ (shape : Shape) (size : IsClusterSize shape.nodes shape.spares) (keep : EventsKeepSound) (pairs : pair.PairWorld) (firm : FirmWorld)
    (sees : Sees shape pairs firm)
    (sound : IsSoundWorld shape firm.world) where
  -- ---- how an event that happens is put together

  -- the event happens, and what is told later goes behind it
  happened : (after : pair.PairWorld) (world : ReplicaWorld) (event : QueueEvent) → pair.after_pair_event shape pairs event ≡ after →
      after_replica_event shape firm.world event ≡ world →
      seen_event shape pairs event ≡ happens event ∷ reorder (seen_mail shape.nodes (pair.after_pair_event shape pairs event)) ∷ [] →
      MayReplicas firm.world event → TellsOnceFirm firm event → AreReordered world.mail (seen_mail shape.nodes after) →
      Sees shape after (record firm { world = with_order world (seen_mail shape.nodes after) }) → SeesEvent shape pairs firm event
  unfolding after_firm_event
  happened after world event pairs_are world_is is may tells reordered seen =
      let both : AreReordered (after_replica_event shape firm.world event).mail (seen_mail shape.nodes (pair.after_pair_event shape pairs event))
      × Sees shape (pair.after_pair_event shape pairs event)
      (record firm { world = with_order (after_replica_event shape firm.world event) (seen_mail shape.nodes (pair.after_pair_event shape pairs event)) })
      = subst₂ (λ (p : pair.PairWorld) (w : ReplicaWorld). AreReordered w.mail (seen_mail shape.nodes p) × Sees shape p
      (record firm { world = with_order w (seen_mail shape.nodes p) }))
      (sym pairs_are) (sym world_is) (reordered, seen) in
      record {
        may = subst (λ events. EachMayHappen MayFirm (after_firm_event shape) events firm) (sym is) ((may, tells), (both.0, tt));
        after = subst (λ events. Sees shape (pair.after_pair_event shape pairs event) (fold (after_firm_event shape) firm events)) (sym is) both.1;
      }

  -- what is on its way after an event goes between the actors that its kind names
  addressed_after : (event : QueueEvent) (world : ReplicaWorld) → MayReplicas firm.world event → after_replica_event shape firm.world event ≡ world →
      (a b : ℕ) → All (IsAddressed shape.nodes a b) (world.mail a b)
  addressed_after event world may is =
      subst (λ (w : ReplicaWorld). (a b : ℕ) → All (IsAddressed shape.nodes a b) (w.mail a b)) is (keep shape firm.world event size sound may).places.messages

  -- ---- a line, a quiet moment

  -- the front takes a line
  pub line_seen : (number : ℕ) (text : List ℕ) (said : List Out) → pair.MayPairs pairs (take_line number text said) →
      SeesEvent shape pairs firm (take_line number text said)
  unfolding after_firm_event after_replica_event pair.after_pair_event seen_event
  line_seen number text said may =
      let event : QueueEvent = take_line number text said in
      let happens_now : MayReplicas firm.world event = (may.0 ∙ ap (λ n. n + 1) sees.lines, may.1) in
      let step : CoreStep FrontState = fed_front (nothing_noted shape) pairs.front number text said in
      let world : ReplicaWorld = front_acts (record firm.world { lines = firm.world.lines + 1 }) step in
      let is : after_replica_event shape firm.world event ≡ world
      = ap (λ (front : FrontState). front_acts (record firm.world { lines = firm.world.lines + 1 }) (fed_front (nothing_noted shape) front number text said))
      (sym sees.front) in
      record {
        may = ((happens_now, tt), tt);
        after = subst (λ (w : ReplicaWorld). Sees shape (pair.after_pair_event shape pairs event) (record firm { world = w })) (sym is) (record {
          front = refl;
          history = sees.history;
          lines = ap (λ n. n + 1) sees.lines;
          replicas = sees.replicas;
          paired = sees.paired;
          mail = front_mail shape.nodes size.counted pairs firm.world.mail sees.mail step.step.sends (addressed_after event world happens_now is);
        });
      }

  -- a quiet moment is noted
  pub quiet_seen : SeesEvent shape pairs firm quieten
  unfolding after_firm_event after_replica_event pair.after_pair_event seen_event
  quiet_seen = record {
    may = ((tt, tt), tt);
    after = record {
      front = ap quiet_front sees.front;
      history = sees.history;
      lines = sees.lines;
      replicas = sees.replicas;
      paired = sees.paired;
      mail = sees.mail;
    };
  }

  -- an event that leaves all as it is
  pub nothing_seen : (event : QueueEvent) → pair.after_pair_event shape pairs event ≡ pairs → seen_event shape pairs event ≡ [] →
      SeesEvent shape pairs firm event
  nothing_seen event stays none = record {
    may = subst (λ list. EachMayHappen MayFirm (after_firm_event shape) list firm) (sym none) tt;
    after = subst₂ (λ p list. Sees shape p (fold (after_firm_event shape) firm list)) (sym stays) (sym none) sees;
  }

  -- ---- a message

  module _ (from to : ℕ) (mark : Bool) (content : Content) (rest : List Content) (waits : pairs.mail from to ≡ content ∷ rest) where
    -- its coming
    abbrev event : QueueEvent
    event = deliver from to mark

    -- the system once it is taken off
    abbrev off : pair.PairWorld
    off = record pairs { mail = with_way pairs.mail from to rest }

    module _ (out : is_internal content ≡ false) where
      -- what is behind it in the firm system
      abbrev behind : List Content
      behind = outward rest ++ to_tell shape.nodes pairs from to

      -- the firm system once it is taken off
      abbrev world_off : ReplicaWorld
      world_off = record firm.world { mail = with_way firm.world.mail from to behind }

      -- it is the head there
      pub head_is : firm.world.mail from to ≡ content ∷ behind
      head_is = sees.mail from to ∙ ap (λ list. outward list ++ to_tell shape.nodes pairs from to) waits
          ∙ ap (λ list. list ++ to_tell shape.nodes pairs from to) (outward_one content rest out)

      -- so it may come there
      may_come : MayReplicas firm.world event
      may_come = (content, behind, head_is)

      -- it tells of what is firm alone
      tells_firm : TellsFirm firm.firm content → TellsOnceFirm firm event
      tells_firm tells first others is = subst (TellsFirm firm.firm) (let e : content ∷ behind ≡ first ∷ others = sym head_is ∙ is in cc) tells

      -- what is on its way once it is taken off
      mails_off : (a b : ℕ) → world_off.mail a b ≡ outward (off.mail a b) ++ to_tell shape.nodes off a b
      mails_off = off_mail shape.nodes size.counted pairs firm.world.mail sees.mail from to rest

      -- its coming happens there
      event_is : seen_event shape pairs event ≡ happens event ∷ reorder (seen_mail shape.nodes (pair.after_pair_event shape pairs event)) ∷ []
      unfolding seen_event
      event_is = ap (seen_delivery shape pairs (pair.after_pair_event shape pairs event) event) waits
          ∙ outward_happens shape pairs (pair.after_pair_event shape pairs event) event content rest out

      -- it comes to the front
      pub front_seen : to ≡ FRONT → TellsFirm firm.firm content → SeesEvent shape pairs firm event
      unfolding after_replica_event pair.after_pair_event
      front_seen here tells =
          let step : CoreStep FrontState = delivered_front (nothing_noted shape) pairs.front from content mark in
          let world : ReplicaWorld = front_acts world_off step in
          let after : pair.PairWorld = pair.front_acts off step in
          let world_is : after_replica_event shape firm.world event ≡ world
          = ap (after_first shape firm.world from to mark) head_is ∙ cond-true _ _ _ (eq-eqb to FRONT here)
          ∙ ap (λ (front : FrontState). front_acts world_off (delivered_front (nothing_noted shape) front from content mark)) (sym sees.front) in
          let pairs_are : pair.after_pair_event shape pairs event ≡ after
          = ap (pair.after_first shape pairs from to mark) waits ∙ cond-true _ _ _ (eq-eqb to FRONT here) in
          let mails : (a b : ℕ) → world.mail a b ≡ seen_mail shape.nodes after a b
          = front_mail shape.nodes size.counted off world_off.mail mails_off step.step.sends (addressed_after event world may_come world_is) in
          happened after world event pairs_are world_is event_is may_come (tells_firm tells) (λ a b. same_order _ _ (mails a b)) (record {
            front = refl;
            history = sees.history;
            lines = sees.lines;
            replicas = sees.replicas;
            paired = sees.paired;
            mail = λ a b. refl;
          })

      -- it comes to a primary
      pub primary_seen : StepsAreSeenAlone → to < shape.nodes → eqb to FRONT ≡ false → TellsFirm firm.firm content →
          Fits shape.nodes (pairs.primaries to) content →
          IsUnawaited (pairs.primaries to) content → SeesEvent shape pairs firm event
      unfolding after_replica_event pair.after_pair_event
      primary_seen steps below away tells fits unawaited =
          let before : ReplicaState = pairs.primaries to in
          let step : Stepped = stepped own_primary before from content mark in
          let lone : Stepped = lone_step own_primary (at_once own_primary before) from content mark in
          let alone : IsSeenAlone own_primary before step lone
          = steps own_primary shape.nodes before from content mark (sees.paired to below) fits (outward_no_ack content out) unawaited in
          let world : ReplicaWorld = replica_acts world_off to lone in
          let after : pair.PairWorld = pair.primary_acts off to step in
          let world_is : after_replica_event shape firm.world event ≡ world
          = ap (after_first shape firm.world from to mark) head_is ∙ cond-false _ _ _ away
          ∙ ap (λ (replica : ReplicaState). replica_acts world_off to (lone_step own_primary replica from content mark)) (sym (sees.replicas to below)) in
          let pairs_are : pair.after_pair_event shape pairs event ≡ after
          = ap (pair.after_first shape pairs from to mark) waits ∙ cond-false _ _ _ away
          ∙ ap (pair.replica_acts shape off from to content mark) (outward_no_log content out) in
          let logs : List Outgoing = log_messages before.modes.mode before.v (entries_from before.part.next step.state.part.log) in
          happened after world event pairs_are world_is event_is may_come (tells_firm tells)
          (primary_mail shape.nodes size.counted off world_off.mail mails_off to below step.state step.step.sends lone.step.sends logs alone.sent alone.later
          alone.sends alone.alone_sends (λ b. shipped_inward before.modes.mode before.v b (entries_from before.part.next step.state.part.log)) alone.untold
          (addressed_after event world may_come world_is)) (record {
            front = sees.front;
            history = ap (with_firm pairs.history) alone.firm ∙ sees.history;
            lines = sees.lines;
            replicas = λ v there. same_either (eqb v to) _ _ _ _ alone.state (sees.replicas v there);
            paired = λ v there. cond_both (eqb v to) step.state (pairs.primaries v) IsPaired (λ _. alone.paired) (λ _. sees.paired v there);
            mail = λ a b. refl;
          })

    -- an acknowledgement comes to a primary
    pub ack_seen : AcksTell → (v number : ℕ) → content ≡ LogAck v number → to < shape.nodes → eqb to FRONT ≡ false → number < (pairs.primaries to).part.next →
        SeesEvent shape pairs firm event
    unfolding after_firm_event pair.after_pair_event seen_event
    ack_seen acks v number is below away number_below =
        let before : ReplicaState = pairs.primaries to in
        let step : Stepped = stepped own_primary before from (LogAck v number) mark in
        let tells : Tells own_primary before step = acks own_primary before from v number mark (sees.paired to below) number_below in
        let waits_so : pairs.mail from to ≡ LogAck v number ∷ rest = waits ∙ ap (λ c. c ∷ rest) is in
        let after : pair.PairWorld = pair.primary_acts off to step in
        let pairs_are : pair.after_pair_event shape pairs event ≡ after
        = ap (pair.after_first shape pairs from to mark) waits_so ∙ cond-false _ _ _ away in
        let event_none : seen_event shape pairs event ≡ []
        = ap (seen_delivery shape pairs (pair.after_pair_event shape pairs event) event) waits_so in
        let mails : (a b : ℕ) → firm.world.mail a b ≡ outward (off.mail a b) ++ to_tell shape.nodes off a b
        = λ a b. sees.mail a b ∙ ap (λ list. list ++ to_tell shape.nodes pairs a b)
        (sym (inward_off shape.nodes size.counted pairs from to (LogAck v number) rest waits_so refl a b)) in
        let seen : Sees shape after firm = record {
          front = sees.front;
          history = ap (with_firm pairs.history) tells.firm ∙ sees.history;
          lines = sees.lines;
          replicas = λ u there. cond_both (eqb u to) step.state (pairs.primaries u) (λ (one : ReplicaState). at_once own_primary one ≡ firm.world.replicas u)
              (λ here. tells.state ∙ (subst (λ n. at_once own_primary (pairs.primaries n) ≡ firm.world.replicas u) (eqb-true u to here)
              (sees.replicas u there))) (λ _. sees.replicas u there);
          paired = λ u there. cond_both (eqb u to) step.state (pairs.primaries u) IsPaired (λ _. tells.paired) (λ _. sees.paired u there);
          mail = told_mail shape.nodes size.counted off firm.world.mail mails to below step.state step.step.sends tells.sends sound.places.messages;
        } in
        record {
          may = subst (λ events. EachMayHappen MayFirm (after_firm_event shape) events firm) (sym event_none) tt;
          after = subst₂ (λ (p : pair.PairWorld) events. Sees shape p (fold (after_firm_event shape) firm events)) (sym pairs_are) (sym event_none) seen;
        }

    -- ---- a log record comes to a standby

    -- an acknowledgement is not outward
    ack_inward : (v number b : ℕ) → outward (sent_to b (sent from (LogAck v number) ∷ [])) ≡ []
    ack_inward v number b =
        elim (nat_lt b ACTORS) as (λ c. outward (cond c (contents_to b (sent from (LogAck v number) ∷ [])) []) ≡ []) [
          | true ↦ elim (eqb from b) as
              (λ c. outward (map (λ (send : Outgoing). send.payload) (cond c (sent from (LogAck v number) ∷ []) [])) ≡ []) [ true ↦ refl | false ↦ refl ]
          | false ↦ refl
        ]

    -- its transaction joins the history where it is not there
    join_by : (txn : TxnId) → is_among txn firm.world.history ≡ true → (b : Bool) → is_among txn pairs.history ≡ b →
        EachMayHappen MayFirm (after_firm_event shape) (cond b [] (join txn ∷ [])) firm
        × (fold (after_firm_event shape) firm (cond b [] (join txn ∷ [])) ≡ record firm { firm = cond b pairs.history (pairs.history ++ txn ∷ []) })
    unfolding after_firm_event
    join_by txn decided true is = (tt, ap (λ history. record firm { firm = history }) (sym sees.history))
    join_by txn decided false is = (
      ((decided, ap (is_among txn) (sym sees.history) ∙ is), tt),
      ap (λ history. record firm { firm = history ++ txn ∷ [] }) (sym sees.history),
    )

    -- the same, by the record
    joined : (entry : LogRec) → IsDecided firm.world.history entry → EachMayHappen MayFirm (after_firm_event shape) (joins_of pairs.history entry) firm
        × (fold (after_firm_event shape) firm (joins_of pairs.history entry) ≡ record firm { firm = with_firm pairs.history (firm_of entry) })
    joined (Decide txn) decided = join_by txn decided (is_among txn pairs.history) refl
    joined entry decided = (tt, ap (λ history. record firm { firm = history }) (sym sees.history))

    -- a log record comes to a standby
    pub log_seen : (v number : ℕ) (entry : LogRec) → content ≡ Log v number entry → eqb to FRONT ≡ false → IsDecided firm.world.history entry →
        SeesEvent shape pairs firm event
    unfolding pair.after_pair_event seen_event
    log_seen v number entry is away decided =
        let step : Stepped = standby_stepped (pairs.standbys v) from (Log v number entry) in
        let waits_so : pairs.mail from to ≡ Log v number entry ∷ rest = waits ∙ ap (λ c. c ∷ rest) is in
        let after : pair.PairWorld = pair.standby_acts shape.nodes off v step in
        let pairs_are : pair.after_pair_event shape pairs event ≡ after
        = ap (pair.after_first shape pairs from to mark) waits_so ∙ cond-false _ _ _ away in
        let events_are : seen_event shape pairs event ≡ joins_of pairs.history entry
        = ap (seen_delivery shape pairs (pair.after_pair_event shape pairs event) event) waits_so in
        let join_now = joined entry decided in
        let seen : Sees shape after (record firm { firm = with_firm pairs.history (firm_of entry) }) = record {
          front = sees.front;
          history = refl;
          lines = sees.lines;
          replicas = sees.replicas;
          paired = sees.paired;
          mail = λ a b. sees.mail a b ∙ ap (λ list. list ++ to_tell shape.nodes pairs a b)
              (sym (inward_off shape.nodes size.counted pairs from to (Log v number entry) rest waits_so refl a b)
              ∙ sym (given v number (eqb a (standby_node shape.nodes v)) (off.mail a b) b));
        } in
        record {
          may = subst (λ events. EachMayHappen MayFirm (after_firm_event shape) events firm) (sym events_are) join_now.0;
          after = subst₂ (λ (p : pair.PairWorld) (f : FirmWorld). Sees shape p f) (sym pairs_are)
              (sym (ap (λ events. fold (after_firm_event shape) firm events) events_are ∙ join_now.1)) seen;
        }
      where
        -- what is acknowledged is not outward
        given : (v number : ℕ) (c : Bool) (list : List Content) (b : ℕ) →
            outward (cond c (list ++ sent_to b (sent from (LogAck v number) ∷ [])) list) ≡ outward list
        given v number true list b = outward-append list (sent_to b (sent from (LogAck v number) ∷ []))
            ∙ ap (λ more. outward list ++ more) (ack_inward v number b) ∙ append-nil (outward list)
        given v number false list b = refl
