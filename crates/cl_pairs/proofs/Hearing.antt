-- Each event keeps that what a standby took last is acknowledged at its primary, or its acknowledgement is on its way.
use Rattle.std.proofs.Common.{◌≡◌, ℕ, zero, suc, ◌+◌, ◌-◌, ◌<◌, max, eqb, ltb, cond, ◌&&◌, true, false, Bool, ◌⊎◌, inl, inr, ⊎_elim, List, [], ◌∷◌, ◌++◌, map, Contains, refl, sym, ◌∙◌, ap, subst, arith}
use Rattle.std.proofs.Common.{le_of_suc-le-suc}
use Rattle.std.proofs.lemmas.Bool.{eqb-true, eqb-false, eq-eqb, cond-true, cond_both}
use Rattle.std.proofs.lemmas.List.Elements.{Contains-append_left, Contains-push}
use Rattle.cl_endpoint.specs.declared.limits.TheConstants.{ACTORS}
use Rattle.cl_log.specs.declared.records.LogRec.{LogRec}
use Rattle.cl_node.specs.Members.{standby_node}
use Rattle.cl_pairs.proofs.Keeping.{IsBelow, AreStreams, modes_with-mode, head_next}
use Rattle.cl_pairs.proofs.Mail.{on_way}
use Rattle.cl_pairs.proofs.Shipping.{modes_with, shipped-step}
use Rattle.cl_pairs.specs.Streams.{IsHeard}
use Rattle.cl_part.specs.State.{after_record}
use Rattle.cl_repair.specs.declared.mode.Mode.{Mode}
use Rattle.cl_repair.specs.declared.mode.Mode.TheVariants.{Pair}
use Rattle.cl_repair.specs.Modes.{ModesState, acked_in}
use Rattle.cl_runs.specs.Queues.{sent_to}
use Rattle.cl_runs.specs.World.{with_at}
use Rattle.cl_steps.specs.declared.steps.Outgoing.{Outgoing}
use Rattle.cl_steps.specs.Steps.{sent}
use Rattle.cl_system.specs.Replicas.{Mail, own_primary, with_mail, with_way}
use Rattle.cl_vnode.specs.Replica.{ReplicaState}
use Rattle.cl_vnode.specs.Standby.{with_record}
use Rattle.cl_vnode.specs.Step.{Stepped, stepped}
use Rattle.cl_wire.specs.Message.{Content, Log, LogAck}

-- ---- what is on its way

-- an element of a list is its head or among the rest
contains_rest : (first : Content) (rest : List Content) (content : Content) → Contains (first ∷ rest) content → (first ≡ content) ⊎ Contains rest content
contains_rest first rest content (zero, within, at) = inl at
contains_rest first rest content (suc k, within, at) = inr (k, le_of_suc-le-suc within, at)

module _ (mail : Mail) (content : Content) where
  -- what is on its way is so once more was sent
  contains_mailed : (giver : ℕ) (sends : List Outgoing) (from to : ℕ) → Contains (mail from to) content →
      Contains (with_mail mail giver sends from to) content
  contains_mailed giver sends from to waits =
      cond_both (eqb from giver) (mail from to ++ sent_to to sends) (mail from to) (λ (contents : List Content). Contains contents content)
      (λ here. Contains-append_left (mail from to) (sent_to to sends) content waits)
      (λ elsewhere. waits)

  -- or it was the head that was taken off
  contains_popped : (from to : ℕ) (first : Content) (rest : List Content) (giver receiver : ℕ) → mail from to ≡ first ∷ rest →
      Contains (mail giver receiver) content → (first ≡ content) ⊎ Contains (with_way mail from to rest giver receiver) content
  contains_popped from to first rest giver receiver is waits =
      cond_both (eqb receiver to && eqb giver from) rest (mail giver receiver) (λ (contents : List Content). (first ≡ content) ⊎ Contains contents content)
      (λ here. contains_rest first rest content
      (subst (λ (contents : List Content). Contains contents content) (on_way mail from to (first ∷ rest) giver receiver is here) waits))
      (λ elsewhere. inr waits)

-- ---- one virtual node

-- an acknowledgement comes, of which it is the last one or not
heard_own : (modes : ModesState) (content : Content) (v standby next : ℕ) (acks : List Content) → modes.mode ≡ Pair standby → modes.acked < next →
    IsBelow next content → (content ≡ LogAck v (next - 1)) ⊎ IsHeard v modes.acked next acks → IsHeard v (modes_with modes content).acked next acks
heard_own modes (LogAck u number) v standby next acks paired acked below (inl last) =
    let same : number ≡ next - 1 = cc in
    inl (subst (λ (mode : Mode). acked_in mode modes.acked number + 1 ≡ next) (sym paired)
    (let all : max modes.acked number + 1 ≡ next = omega (arith, acked, same) in all))
heard_own modes (LogAck u number) v standby next acks paired acked below (inr (inl all)) =
    inl (subst (λ (mode : Mode). acked_in mode modes.acked number + 1 ≡ next) (sym paired)
    (let still : max modes.acked number + 1 ≡ next = omega (arith, below, all) in still))
heard_own modes (LogAck u number) v standby next acks paired acked below (inr (inr waits)) = inr waits
heard_own modes content v standby next acks paired acked below (inl last) = absurd (cc)
heard_own modes content v standby next acks paired acked below (inr heard) = heard

-- the standby's last record is heard of
abbrev pub IsHeardAt : ℕ → (ℕ → ReplicaState) → (ℕ → ReplicaState) → Mail → ℕ → Type 0
IsHeardAt nodes primaries standbys mail v = IsHeard v (primaries v).modes.acked (standbys v).part.next (mail (standby_node nodes v) v)

module _ (nodes : ℕ) (primaries standbys : ℕ → ReplicaState) (mail : Mail) (v : ℕ) where
  -- the number of the last record that the standby has
  abbrev last : ℕ
  last = (standbys v).part.next - 1

  -- messages were sent
  pub heard_mailed : (giver : ℕ) (sends : List Outgoing) → IsHeardAt nodes primaries standbys mail v →
      IsHeardAt nodes primaries standbys (with_mail mail giver sends) v
  heard_mailed giver sends (inl all) = inl all
  heard_mailed giver sends (inr waits) = inr (contains_mailed mail (LogAck v last) giver sends (standby_node nodes v) v waits)

  module _ (from to : ℕ) (content : Content) (rest : List Content) (is : mail from to ≡ content ∷ rest) where
    -- a message came, which was the last acknowledgement or not
    passed : (giver : ℕ) (sends : List Outgoing) → IsHeardAt nodes primaries standbys mail v →
        (content ≡ LogAck v last) ⊎ IsHeardAt nodes primaries standbys (with_mail (with_way mail from to rest) giver sends) v
    passed giver sends (inl all) = inr (inl all)
    passed giver sends (inr waits) =
        ⊎_elim inl (λ left. inr (inr (contains_mailed (with_way mail from to rest) (LogAck v last) giver sends (standby_node nodes v) v left)))
        (contains_popped mail (LogAck v last) from to content rest (standby_node nodes v) v is waits)

    -- it was not
    pub heard_passed : (giver : ℕ) (sends : List Outgoing) → (content ≡ LogAck v last → ⊥) → IsHeardAt nodes primaries standbys mail v →
        IsHeardAt nodes primaries standbys (with_mail (with_way mail from to rest) giver sends) v
    heard_passed giver sends other heard =
        ⊎_elim (λ same. absurd (other same)) (λ left. left) (passed giver sends heard)

    -- it came to a primary
    pub primary_heard : AreStreams nodes primaries standbys mail → (mark : Bool) → IsBelow (standbys to).part.next content →
        (content ≡ LogAck v last → to ≡ v) → IsHeardAt nodes primaries standbys mail v →
        IsHeardAt nodes (with_at primaries to (stepped own_primary (primaries to) from content mark).state) standbys
        (with_mail (with_way mail from to rest) to (stepped own_primary (primaries to) from content mark).step.sends) v
    primary_heard are mark below own heard =
        elim (eqb v to) as (λ b. (eqb v to ≡ b) → IsHeard v (cond b after.state (primaries v)).modes.acked (standbys v).part.next
        (left (standby_node nodes v) v)) [
          | true ↦ λ here. own_heard (eqb-true v to here)
          | false ↦ λ elsewhere. ⊎_elim (λ same. absurd (eqb-false v to elsewhere (sym (own same)))) (λ still. still) result
        ]
        refl
      where
        -- its step
        after : Stepped
        after = stepped own_primary (primaries to) from content mark

        -- what is on its way then
        left : Mail
        left = with_mail (with_way mail from to rest) to after.step.sends

        -- the last acknowledgement came, or it is still heard of
        result : (content ≡ LogAck v last) ⊎ IsHeardAt nodes primaries standbys left v
        result = passed to after.step.sends heard

        -- the mode that it has, once the message came
        mode : (modes_with (primaries to).modes content).mode ≡ Pair (standby_node nodes to)
        mode = modes_with-mode (primaries to).modes content ∙ (are.streams to).mode

        -- it is the primary of the virtual node
        own_heard : v ≡ to → IsHeard v after.state.modes.acked (standbys v).part.next (left (standby_node nodes v) v)
        own_heard here =
            subst (λ (modes : ModesState). IsHeard v modes.acked (standbys v).part.next (left (standby_node nodes v) v))
            (ap (λ n. modes_with (primaries n).modes content) here
            ∙ sym (shipped-step own_primary (standby_node nodes to) (primaries to) from content mark (are.streams to).primary_said mode).kept)
            (heard_own (primaries v).modes content v (standby_node nodes v) (standbys v).part.next _ (are.streams v).mode (are.streams v).acked
            (subst (λ n. IsBelow (standbys n).part.next content) (sym here) below) result)

  module _ (u number : ℕ) (content : LogRec) (rest : List Content) (is : mail u (standby_node nodes u) ≡ Log u number content ∷ rest) where
    -- what is on its way, once the standby has answered
    abbrev answered : Mail
    answered = with_mail (with_way mail u (standby_node nodes u) rest) (standby_node nodes u) (sent u (LogAck u number) ∷ [])

    -- the answer is on its way
    answer_waits : ltb u ACTORS ≡ true → Contains (answered (standby_node nodes u) u) (LogAck u number)
    answer_waits actor =
        subst (λ (contents : List Content). Contains contents (LogAck u number))
        (sym (cond-true (eqb (standby_node nodes u) (standby_node nodes u)) _ _ (eq-eqb (standby_node nodes u) (standby_node nodes u) refl)
        ∙ ap (λ (contents : List Content). with_way mail u (standby_node nodes u) rest (standby_node nodes u) u ++ contents)
        (cond-true (ltb u ACTORS) _ _ actor
        ∙ ap (map (λ (send : Outgoing). send.payload)) (cond-true (eqb u u) (sent u (LogAck u number) ∷ []) [] (eq-eqb u u refl)))))
        (Contains-push (with_way mail u (standby_node nodes u) rest (standby_node nodes u) u) (LogAck u number))

    -- a standby has taken a log record of its primary
    pub standby_heard : AreStreams nodes primaries standbys mail → ltb v ACTORS ≡ true → IsHeardAt nodes primaries standbys mail v →
        IsHeardAt nodes primaries (with_at standbys u (with_record (standbys u) content)) answered v
    unfolding after_record
    standby_heard are actor heard =
        elim (eqb v u) as (λ b. (eqb v u ≡ b) → IsHeard v (primaries v).modes.acked (cond b (with_record (standbys u) content) (standbys v)).part.next
        (answered (standby_node nodes v) v)) [
          | true ↦ λ here. own_heard (eqb-true v u here)
          | false ↦ λ elsewhere.
              heard_passed u (standby_node nodes u) (Log u number content) rest is (standby_node nodes u) (sent u (LogAck u number) ∷ [])
              (λ same. absurd (cc)) heard
        ]
        refl
      where
        -- it is the standby of the virtual node
        own_heard : v ≡ u → IsHeard v (primaries v).modes.acked (with_record (standbys u) content).part.next (answered (standby_node nodes v) v)
        own_heard here =
            subst (λ n. IsHeard n (primaries n).modes.acked ((standbys u).part.next + 1) (answered (standby_node nodes n) n)) (sym here)
            (inr (subst (λ n. Contains (answered (standby_node nodes u) u) (LogAck u n))
            (let next : number ≡ (standbys u).part.next = head_next nodes primaries standbys mail are u number content rest is in
            let same : number ≡ ((standbys u).part.next + 1) - 1 = omega (arith, next) in same)
            (answer_waits (subst (λ n. ltb n ACTORS ≡ true) here actor))))
