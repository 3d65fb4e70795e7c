-- What is on its way after a step of the front or of a primary, as the firm system has it.
use Rattle.std.proofs.Common.{◌≡◌, ℕ, ◌<◌, nat_lt, eqb, Bool, true, false, cond, ◌&&◌, List, [], ◌∷◌, ◌++◌, append_assoc, All, IsPermutation, refl, sym, ◌∙◌}
use Rattle.std.proofs.Common.{ap, subst, arith}
use Rattle.std.proofs.lemmas.Bool.{and_parts, cond-true, cond-false, eqb-true, lt-ltb, le-ltb}
use Rattle.std.proofs.lemmas.List.{append-nil}
use Rattle.std.proofs.lemmas.List.Sorted.{IsPermutation-refl}
use Rattle.cl_paired.specs.Paired.{untold}
use Rattle.cl_runs.specs.Queues.{sent_to}
use Rattle.cl_runs.specs.World.{with_at}
use Rattle.cl_steps.specs.declared.actors.TheConstants.{FRONT}
use Rattle.cl_steps.specs.declared.steps.Outgoing.{Outgoing}
use Rattle.cl_system.specs.Replicas.{Mail, own_primary, with_mail, with_way}
use Rattle.cl_system.specs.Roles.{IsAddressed}
use Rattle.cl_types.proofs.PlacementLaws.{node_count-bounds}
use Rattle.cl_types.specs.Placement.{IsNodeCount}
use Rattle.cl_vnode.specs.Replica.{ReplicaState}
use Rattle.cl_wire.specs.Message.{Content}
use Rattle.cl_seen.proofs.Lists.{sent_to-append, outward-append, outward_none, all_outward, All-second, All-first, sent_before}
use Rattle.cl_pairs.specs.Pairs.{PairWorld}
use Rattle.cl_seen.specs.Seen.{is_internal, outward, to_tell}

-- the front is no virtual node
front_above : (nodes : ℕ) → IsNodeCount nodes → nat_lt FRONT nodes ≡ false
front_above nodes counted = let few = (node_count-bounds nodes counted).1 in le-ltb FRONT nodes (omega (arith, few))

module _ (nodes : ℕ) (counted : IsNodeCount nodes) (pairs : PairWorld) where
  -- the front has nothing to tell later
  front_tells : (from to : ℕ) → from ≡ FRONT → to_tell nodes pairs from to ≡ []
  front_tells from to is = ap (λ n. to_tell nodes pairs n to) is ∙ cond-false _ _ _ (front_above nodes counted)

  -- a primary tells what waits
  primary_tells : (from to : ℕ) → from < nodes → to_tell nodes pairs from to ≡ sent_to to (untold own_primary (pairs.primaries from))
  primary_tells from to below = cond-true _ _ _ (lt-ltb from nodes below)

  -- the head of a queue is taken off
  module _ (mail : Mail) (mails : (a b : ℕ) → mail a b ≡ outward (pairs.mail a b) ++ to_tell nodes pairs a b) (from to : ℕ) (rest : List Content) where
    -- what is on its way then
    pub off_mail : (a b : ℕ) →
        with_way mail from to (outward rest ++ to_tell nodes pairs from to) a b ≡ outward (with_way pairs.mail from to rest a b) ++ to_tell nodes pairs a b
    off_mail a b = by (eqb b to && eqb a from) refl
      where
        by : (c : Bool) → (eqb b to && eqb a from) ≡ c →
            cond c (outward rest ++ to_tell nodes pairs from to) (mail a b) ≡ outward (cond c rest (pairs.mail a b)) ++ to_tell nodes pairs a b
        by true is = let parts = and_parts _ _ is in
            ap (λ n. outward rest ++ to_tell nodes pairs n to) (sym (eqb-true a from parts.1))
            ∙ ap (λ n. outward rest ++ to_tell nodes pairs a n) (sym (eqb-true b to parts.0))
        by false is = mails a b

  -- an internal message that is taken off was not outward
  pub inward_off : (from to : ℕ) (content : Content) (rest : List Content) → pairs.mail from to ≡ content ∷ rest → is_internal content ≡ true →
      (a b : ℕ) → outward (with_way pairs.mail from to rest a b) ≡ outward (pairs.mail a b)
  inward_off from to content rest waits inward a b = by (eqb b to && eqb a from) refl
    where
      by : (c : Bool) → (eqb b to && eqb a from) ≡ c → outward (cond c rest (pairs.mail a b)) ≡ outward (pairs.mail a b)
      by true is = let parts = and_parts _ _ is in
          sym (outward_none content rest inward) ∙ ap outward (sym waits)
          ∙ (ap (λ n. outward (pairs.mail n to)) (sym (eqb-true a from parts.1)) ∙ ap (λ n. outward (pairs.mail a n)) (sym (eqb-true b to parts.0)))
      by false is = refl

  module _ (mail : Mail) (mails : (a b : ℕ) → mail a b ≡ outward (pairs.mail a b) ++ to_tell nodes pairs a b) where
    -- the front has sent messages
    pub front_mail : (sends : List Outgoing) → ((a b : ℕ) → All (IsAddressed nodes a b) (with_mail mail FRONT sends a b)) → (a b : ℕ) →
        with_mail mail FRONT sends a b ≡ outward (with_mail pairs.mail FRONT sends a b) ++ to_tell nodes pairs a b
    front_mail sends addressed a b = by (eqb a FRONT) refl
      where
        by : (c : Bool) → eqb a FRONT ≡ c →
            cond c (mail a b ++ sent_to b sends) (mail a b) ≡ outward (cond c (pairs.mail a b ++ sent_to b sends) (pairs.mail a b)) ++ to_tell nodes pairs a b
        by false is = mails a b
        by true is =
            let none : to_tell nodes pairs a b ≡ [] = front_tells a b (eqb-true a FRONT is) in
            let now : outward (sent_to b sends) ≡ sent_to b sends
            = all_outward nodes a b (sent_to b sends) (All-second (IsAddressed nodes a b) (mail a b) (sent_to b sends)
            (subst (λ c. All (IsAddressed nodes a b) (cond c (mail a b ++ sent_to b sends) (mail a b))) is (addressed a b))) in
            ap (λ list. list ++ sent_to b sends) (mails a b ∙ ap (λ list. outward (pairs.mail a b) ++ list) none ∙ append-nil (outward (pairs.mail a b)))
            ∙ sym (ap (λ list. outward (pairs.mail a b ++ sent_to b sends) ++ list) none ∙ append-nil (outward (pairs.mail a b ++ sent_to b sends))
            ∙ outward-append (pairs.mail a b) (sent_to b sends) ∙ ap (λ list. outward (pairs.mail a b) ++ list) now)

    -- a primary has sent messages: log records, what it sends now, and what it tells later
    module _ (to : ℕ) (below : to < nodes) (state : ReplicaState) (sends alone logs now later : List Outgoing)
        (all : sends ≡ logs ++ now) (split : alone ≡ now ++ later) (inward : (b : ℕ) → outward (sent_to b logs) ≡ [])
        (waits : untold own_primary state ≡ untold own_primary (pairs.primaries to) ++ later)
        (addressed : (a b : ℕ) → All (IsAddressed nodes a b) (with_mail mail to alone a b)) where
      -- what it has to tell and what it sent, and what it tells later
      abbrev after : PairWorld
      after = record pairs { primaries = with_at pairs.primaries to state; mail = with_mail pairs.mail to sends }

      -- what it sends now is outward
      now_outward : (b : ℕ) → outward (sent_to b now) ≡ sent_to b now
      now_outward b =
          let here : All (IsAddressed nodes to b) (mail to b ++ sent_to b alone)
          = subst (λ c. All (IsAddressed nodes to b) (cond c (mail to b ++ sent_to b alone) (mail to b))) (eq-itself to) (addressed to b) in
          let both : All (IsAddressed nodes to b) (sent_to b now ++ sent_to b later)
          = subst (All (IsAddressed nodes to b)) (ap (sent_to b) split ∙ sent_to-append b now later)
          (All-second (IsAddressed nodes to b) (mail to b) (sent_to b alone) here) in
          all_outward nodes to b (sent_to b now) (All-first (IsAddressed nodes to b) (sent_to b now) (sent_to b later) both)
        where
          eq-itself : (n : ℕ) → eqb n n ≡ true
          eq-itself n = grind arith

      -- at the primary
      primary_here : (b : ℕ) → IsPermutation (mail to b ++ sent_to b alone)
          (outward (pairs.mail to b ++ sent_to b sends) ++ cond (nat_lt to nodes) (sent_to b (untold own_primary state)) [])
      primary_here b =
          let way : List Content = outward (pairs.mail to b) in
          let old : List Content = sent_to b (untold own_primary (pairs.primaries to)) in
          let left : mail to b ++ sent_to b alone ≡ (way ++ old) ++ (sent_to b now ++ sent_to b later)
          = ap (λ list. list ++ sent_to b alone) (mails to b ∙ ap (λ list. way ++ list) (primary_tells to b below))
          ∙ ap (λ list. (way ++ old) ++ list) (ap (sent_to b) split ∙ sent_to-append b now later) in
          let shipped : outward (sent_to b sends) ≡ sent_to b now
          = ap (λ list. outward (sent_to b list)) all ∙ ap outward (sent_to-append b logs now) ∙ outward-append (sent_to b logs) (sent_to b now)
          ∙ ap (λ list. list ++ outward (sent_to b now)) (inward b) ∙ now_outward b in
          let right : outward (pairs.mail to b ++ sent_to b sends) ++ cond (nat_lt to nodes) (sent_to b (untold own_primary state)) [] ≡
          (way ++ sent_to b now) ++ (old ++ sent_to b later)
          = ap (λ list. outward (pairs.mail to b ++ sent_to b sends) ++ list)
          (cond-true _ _ _ (lt-ltb to nodes below) ∙ ap (sent_to b) waits ∙ sent_to-append b (untold own_primary (pairs.primaries to)) later)
          ∙ ap (λ list. list ++ (old ++ sent_to b later)) (outward-append (pairs.mail to b) (sent_to b sends) ∙ ap (λ list. way ++ list) shipped) in
          subst (λ list. IsPermutation list (outward (pairs.mail to b ++ sent_to b sends) ++ cond (nat_lt to nodes) (sent_to b (untold own_primary state)) []))
          (sym left)
          (subst (λ list. IsPermutation ((way ++ old) ++ (sent_to b now ++ sent_to b later)) list) (sym right)
          (sent_before way old (sent_to b now) (sent_to b later)))

      -- so it is between any two actors
      pub primary_mail : (a b : ℕ) → IsPermutation (with_mail mail to alone a b) (outward (after.mail a b) ++ to_tell nodes after a b)
      primary_mail a b = by (eqb a to) refl
        where
          by : (c : Bool) → eqb a to ≡ c → IsPermutation (cond c (mail a b ++ sent_to b alone) (mail a b))
              (outward (cond c (pairs.mail a b ++ sent_to b sends) (pairs.mail a b)) ++ cond (nat_lt a nodes)
              (sent_to b (untold own_primary (cond c state (pairs.primaries a)))) [])
          by true is = subst (λ n. IsPermutation (mail n b ++ sent_to b alone)
              (outward (pairs.mail n b ++ sent_to b sends) ++ cond (nat_lt n nodes) (sent_to b (untold own_primary state)) [])) (sym (eqb-true a to is))
              (primary_here b)
          by false is = subst (λ list. IsPermutation list (outward (pairs.mail a b) ++ to_tell nodes pairs a b)) (sym (mails a b))
              (IsPermutation-refl (outward (pairs.mail a b) ++ to_tell nodes pairs a b))

    -- a primary tells the first part of what it has to tell
    module _ (to : ℕ) (below : to < nodes) (state : ReplicaState) (sends : List Outgoing)
        (waits : sends ++ untold own_primary state ≡ untold own_primary (pairs.primaries to))
        (addressed : (a b : ℕ) → All (IsAddressed nodes a b) (mail a b)) where
      -- the system after it
      abbrev told : PairWorld
      told = record pairs { primaries = with_at pairs.primaries to state; mail = with_mail pairs.mail to sends }

      -- at the primary nothing changes
      told_here : (b : ℕ) → mail to b ≡ outward (pairs.mail to b ++ sent_to b sends) ++ cond (nat_lt to nodes) (sent_to b (untold own_primary state)) []
      told_here b =
          let way : List Content = outward (pairs.mail to b) in
          let left : mail to b ≡ way ++ (sent_to b sends ++ sent_to b (untold own_primary state))
          = mails to b ∙ ap (λ list. way ++ list) (primary_tells to b below ∙ ap (sent_to b) (sym waits) ∙ sent_to-append b sends (untold own_primary state)) in
          let both : All (IsAddressed nodes to b) (sent_to b sends ++ sent_to b (untold own_primary state))
          = All-second (IsAddressed nodes to b) way (sent_to b sends ++ sent_to b (untold own_primary state))
          (subst (All (IsAddressed nodes to b)) left (addressed to b)) in
          let now : outward (sent_to b sends) ≡ sent_to b sends
          = all_outward nodes to b (sent_to b sends) (All-first (IsAddressed nodes to b) (sent_to b sends) (sent_to b (untold own_primary state)) both) in
          left ∙ sym (append_assoc way (sent_to b sends) (sent_to b (untold own_primary state)))
          ∙ sym (ap (λ list. outward (pairs.mail to b ++ sent_to b sends) ++ list) (cond-true _ _ _ (lt-ltb to nodes below))
          ∙ ap (λ list. list ++ sent_to b (untold own_primary state)) (outward-append (pairs.mail to b) (sent_to b sends) ∙ ap (λ list. way ++ list) now))

      -- nor does it between any two actors
      pub told_mail : (a b : ℕ) → mail a b ≡ outward (told.mail a b) ++ to_tell nodes told a b
      told_mail a b = by (eqb a to) refl
        where
          by : (c : Bool) → eqb a to ≡ c → mail a b ≡
              outward (cond c (pairs.mail a b ++ sent_to b sends) (pairs.mail a b)) ++ cond (nat_lt a nodes)
              (sent_to b (untold own_primary (cond c state (pairs.primaries a)))) []
          by true is = subst (λ n. mail n b ≡ outward (pairs.mail n b ++ sent_to b sends) ++ cond (nat_lt n nodes) (sent_to b (untold own_primary state)) [])
              (sym (eqb-true a to is)) (told_here b)
          by false is = mails a b
