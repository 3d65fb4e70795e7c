-- Where no step of a run of pairs is spent, none of the firm system is.
use Rattle.std.proofs.Common.{◌≡◌, ℕ, ◌<◌, ◌==◌, ◌&&◌, Bool, true, false, cond, eqb, List, [], ◌∷◌, ◌++◌, All, Option, refl, ap, ◌∙◌, subst}
use Rattle.std.specs.Option.{option_map_or}
use Rattle.std.proofs.lemmas.Bool.{true≢false, eqb-false}
use Rattle.std.proofs.lemmas.List.Elements.{All-head}
use Rattle.cl_control.specs.Calls.{MayCommand, command_acts, vote_acts, is_logged}
use Rattle.cl_control.specs.declared.acts.Act.{Act}
use Rattle.cl_control.specs.declared.acts.Act.TheVariants as acts
use Rattle.cl_control.specs.declared.entry.Phase.{Phase}
use Rattle.cl_control.specs.Sound.{IsSoundControl}
use Rattle.cl_control.specs.State.{ControlState}
use Rattle.cl_front.specs.Front as at_front
use Rattle.cl_front.specs.Front.{FrontState}
use Rattle.cl_log.specs.declared.records.LogRec.{LogRec}
use Rattle.cl_log.specs.declared.records.LogRec.TheVariants.{Decide}
use Rattle.cl_log.specs.Open.{is_among}
use Rattle.cl_paired.proofs.Calming.{calm, not_logged-apart, command_acts-calm, decides-calm}
use Rattle.cl_paired.proofs.Seeing.{seen, at_once_seen}
use Rattle.cl_paired.specs.Paired.{at_once, IsPaired}
use Rattle.cl_pairs.specs.Pairs.{PairWorld, FitsReplica, after_pair_event, pair_world_after, IsPairRun, PairMessageFits}
use Rattle.cl_ranges.specs.Laws.{IsUnspentMessage, IsUnspentEvent}
use Rattle.cl_roster.specs.Roster.{IsClusterSize}
use Rattle.cl_runs.specs.Queues.{QueueEvent, deliver, take_line, quieten}
use Rattle.cl_runs.specs.World.{Shape, EachMayHappen}
use Rattle.cl_seen.proofs.EveryRun.{pair_runs_are_seen, pair_inputs_fit, pair_messages_are_addressed}
use Rattle.cl_seen.proofs.Events.{outward_no_log}
use Rattle.cl_seen.proofs.Lists.{outward_one}
use Rattle.cl_seen.specs.Laws.{IsSeen}
use Rattle.cl_seen.specs.Seen.{is_internal, outward, to_tell, joins_of, seen_delivery, seen_event, seen_events}
use Rattle.cl_seen.specs.Ways.{IsPairAddressed}
use Rattle.cl_steps.specs.declared.actors.TheConstants.{FRONT}
use Rattle.cl_system.proofs.Places.{receiver_below}
use Rattle.cl_system.specs.Firm.{FirmWorld, join, after_firm_event, firm_world_after}
use Rattle.cl_system.specs.Replicas.{nothing_noted, own_primary}
use Rattle.cl_system.specs.Roles.{IsAddressed}
use Rattle.cl_types.specs.declared.operations.Command.{Command as ClientCommand}
use Rattle.cl_types.specs.declared.operations.Command.TheVariants.{Begin, Work, Commit, Abort}
use Rattle.cl_types.specs.declared.operations.TxnId.{TxnId}
use Rattle.cl_vnode.specs.Inputs.{Fits, MayCome, is_full, has_decide, is_spent}
use Rattle.cl_vnode.specs.Replica.{ReplicaState}
use Rattle.cl_wire.specs.Message.{Content, Command, Vote, Log, LogAck}

-- ---- the steps of a primary, as it is seen without a standby

-- a command that may come has the same acts
same_acts : (control : ControlState) → IsSoundControl control → (txn : TxnId) (number : ℕ) (what : ClientCommand) → MayCommand control txn what →
    command_acts (calm control) txn number what ≡ command_acts control txn number what
unfolding command_acts
same_acts control sound txn number Begin may = refl
same_acts control sound txn number (Work table key op) may = refl
same_acts control sound txn number Commit may =
    command_acts-calm control txn (not_logged-apart control sound txn (ap (λ (phase : Option Phase). option_map_or is_logged phase false) may)) number Commit
same_acts control sound txn number Abort may =
    command_acts-calm control txn (not_logged-apart control sound txn (ap (λ (phase : Option Phase). option_map_or is_logged phase false) may)) number Abort

-- a vote has the same acts
same_vote : (control : ControlState) → IsSoundControl control → (v : ℕ) (txn : TxnId) → vote_acts (calm control) v txn ≡ vote_acts control v txn
unfolding vote_acts
same_vote control sound v txn = ap (λ (b : Bool). cond b (acts.Decide txn ∷ []) []) (decides-calm control sound v txn)

-- a step needs as many numbers
same_spent : (state : ReplicaState) → IsSoundControl state.control → (content : Content) → MayCome state content →
    is_spent (seen state) content ≡ is_spent state content
same_spent state sound (Command v txn number what) may =
    ap (λ (list : List Act). has_decide list && is_full state.part.next) (same_acts state.control sound txn number what may)
same_spent state sound (Vote v txn) may = ap (λ (list : List Act). has_decide list && is_full state.part.next) (same_vote state.control sound v txn)
same_spent state sound content may = refl

-- so it is not spent, where that of the primary is not
unspent_at_once : (nodes : ℕ) (state : ReplicaState) (content : Content) → IsPaired state → Fits nodes state content → is_spent state content ≡ false →
    is_spent (at_once own_primary state) content ≡ false
unspent_at_once nodes state content is fits unspent =
    ap (λ (replica : ReplicaState). is_spent replica content) (at_once_seen own_primary state is) ∙ same_spent state is.sound content fits.comes ∙ unspent

-- ---- events

-- an outward message goes as without standbys
pub outward_addressed : (nodes from to : ℕ) (content : Content) → is_internal content ≡ false → IsPairAddressed nodes from to content →
    IsAddressed nodes from to content
outward_addressed nodes from to (Log v number entry) out is = absurd (true≢false out)
outward_addressed nodes from to (LogAck v number) out is = absurd (true≢false out)
outward_addressed nodes from to content out is = is

-- a message comes to a step that needs no number above its limit, of the front or of a primary
abbrev pub IsUnspentAmongPairs : Shape → PairWorld → ℕ → ℕ → Content → Type 0
IsUnspentAmongPairs shape pairs from to content = IsUnspentAt (to == FRONT) where
  IsUnspentAt : Bool → Type 0
  IsUnspentAt true = at_front.is_delivery_spent (nothing_noted shape) pairs.front from content ≡ false
  IsUnspentAt false = is_spent (pairs.primaries to) content ≡ false

-- so is the step of an event, where it is none between primary and standby
abbrev pub IsUnspentPairEvent : Shape → PairWorld → QueueEvent → Type 0
IsUnspentPairEvent shape pairs (deliver from to mark) =
    (content : Content) (rest : List Content) → pairs.mail from to ≡ content ∷ rest → is_internal content ≡ false →
    IsUnspentAmongPairs shape pairs from to content
IsUnspentPairEvent shape pairs (take_line number text said) = at_front.is_line_spent (nothing_noted shape) pairs.front number text said ≡ false
IsUnspentPairEvent shape pairs other = Unit {0}

-- what becomes firm needs no number
joins_unspent : (shape : Shape) (firm : FirmWorld) (history : List TxnId) (entry : LogRec) →
    EachMayHappen (IsUnspentEvent shape) (after_firm_event shape) (joins_of history entry) firm
joins_unspent shape firm history (Decide txn) =
    elim (is_among txn history) as (λ b. EachMayHappen (IsUnspentEvent shape) (after_firm_event shape) (cond b [] (join txn ∷ [])) firm) [
      | true ↦ tt
      | false ↦
          (tt, tt)
    ]
joins_unspent shape firm history entry = tt

module _ (shape : Shape) (size : IsClusterSize shape.nodes shape.spares) (events : List QueueEvent) (run : IsPairRun shape events) where
  -- the pairs after the run
  abbrev pairs : PairWorld
  pairs = pair_world_after shape events

  -- the firm system beside them
  abbrev firm : FirmWorld
  firm = firm_world_after shape (seen_events shape events)

  -- as which they are seen
  is_seen : IsSeen shape events
  is_seen = pair_runs_are_seen shape events size run

  -- what fits a node fits its primary, where it is outward
  fits_primary : (from to : ℕ) (content : Content) → eqb to FRONT ≡ false → is_internal content ≡ false → PairMessageFits shape pairs from to content →
      Fits shape.nodes (pairs.primaries to) content
  fits_primary from to content away out fits =
      subst (FitsReplica shape pairs to content) (outward_no_log content out) (rw away at fits)

  -- a message that comes to the front
  front_unspent : (from to : ℕ) (content : Content) → eqb to FRONT ≡ true → IsUnspentAmongPairs shape pairs from to content →
      IsUnspentMessage shape firm.world from to content
  front_unspent from to content here unspent =
      let before : at_front.is_delivery_spent (nothing_noted shape) pairs.front from content ≡ false = rw here at unspent in
      let after : at_front.is_delivery_spent (nothing_noted shape) firm.world.front from content ≡ false
      = subst (λ (front : FrontState). at_front.is_delivery_spent (nothing_noted shape) front from content ≡ false) is_seen.front before in
      rw here after

  -- a message that comes to a node
  node_unspent : (from to : ℕ) (content : Content) (rest : List Content) (mark : Bool) → pairs.mail from to ≡ content ∷ rest → is_internal content ≡ false →
      eqb to FRONT ≡ false →
      IsUnspentAmongPairs shape pairs from to content → IsUnspentMessage shape firm.world from to content
  node_unspent from to content rest mark waits out away unspent =
      let way : IsPairAddressed shape.nodes from to content
      = All-head (IsPairAddressed shape.nodes from to) content rest
      (subst (All (IsPairAddressed shape.nodes from to)) waits (pair_messages_are_addressed shape events size run from to)) in
      let below : to < shape.nodes
      = receiver_below shape.nodes from to content size.counted (eqb-false to FRONT away) (outward_addressed shape.nodes from to content out way) in
      let fits : Fits shape.nodes (pairs.primaries to) content
      = fits_primary from to content away out (pair_inputs_fit shape events (deliver from to mark) size run (content, rest, waits) content rest waits) in
      let before : is_spent (pairs.primaries to) content ≡ false = rw away at unspent in
      let after : is_spent (firm.world.replicas to) content ≡ false
      = subst (λ (replica : ReplicaState). is_spent replica content ≡ false) (is_seen.replicas to below)
      (unspent_at_once shape.nodes (pairs.primaries to) content (is_seen.paired to below) fits before) in
      rw away after

  -- a message that comes to anybody
  message_unspent : (from to : ℕ) (content : Content) (rest : List Content) (mark : Bool) → pairs.mail from to ≡ content ∷ rest → is_internal content ≡ false →
      IsUnspentAmongPairs shape pairs from to content → IsUnspentMessage shape firm.world from to content
  message_unspent from to content rest mark waits out unspent = by (eqb to FRONT) refl
    where
      by : (b : Bool) → eqb to FRONT ≡ b → IsUnspentMessage shape firm.world from to content
      by true here = front_unspent from to content here unspent
      by false away = node_unspent from to content rest mark waits out away unspent

  -- it is the first on its way in the firm system
  head_seen : (from to : ℕ) (content : Content) (rest : List Content) → pairs.mail from to ≡ content ∷ rest → is_internal content ≡ false →
      firm.world.mail from to ≡ content ∷ (outward rest ++ to_tell shape.nodes pairs from to)
  head_seen from to content rest waits out =
      is_seen.mail from to ∙ ap (λ list. outward list ++ to_tell shape.nodes pairs from to) waits
      ∙ ap (λ list. list ++ to_tell shape.nodes pairs from to) (outward_one content rest out)

  -- so what happens there is not spent
  happens_unspent : (from to : ℕ) (content : Content) (rest : List Content) (mark : Bool) → pairs.mail from to ≡ content ∷ rest → is_internal content ≡ false →
      IsUnspentAmongPairs shape pairs from to content →
      (other : Content) (others : List Content) → firm.world.mail from to ≡ other ∷ others → IsUnspentMessage shape firm.world from to other
  happens_unspent from to content rest mark waits out unspent other others is =
      let first : firm.world.mail from to ≡ content ∷ (outward rest ++ to_tell shape.nodes pairs from to) = head_seen from to content rest waits out in
      let same : content ≡ other = cc in
      subst (IsUnspentMessage shape firm.world from to) same (message_unspent from to content rest mark waits out unspent)

  -- the coming of a message
  delivery_unspent : (from to : ℕ) (mark : Bool) (after : PairWorld) (contents : List Content) → pairs.mail from to ≡ contents →
      IsUnspentPairEvent shape pairs (deliver from to mark) →
      EachMayHappen (IsUnspentEvent shape) (after_firm_event shape) (seen_delivery shape pairs after (deliver from to mark) contents) firm
  delivery_unspent from to mark after [] waits unspent = tt
  delivery_unspent from to mark after (Log v number entry ∷ rest) waits unspent = joins_unspent shape firm pairs.history entry
  delivery_unspent from to mark after (LogAck v number ∷ rest) waits unspent = tt
  delivery_unspent from to mark after (content ∷ rest) waits unspent =
      (happens_unspent from to content rest mark waits refl (unspent content rest waits refl), (tt, tt))

  -- any event
  pub event_unspent : (event : QueueEvent) → IsUnspentPairEvent shape pairs event →
      EachMayHappen (IsUnspentEvent shape) (after_firm_event shape) (seen_event shape pairs event) firm
  unfolding seen_event
  event_unspent (deliver from to mark) unspent =
      delivery_unspent from to mark (after_pair_event shape pairs (deliver from to mark)) (pairs.mail from to) refl unspent
  event_unspent (take_line number text said) unspent =
      (subst (λ (front : FrontState). at_front.is_line_spent (nothing_noted shape) front number text said ≡ false) is_seen.front unspent, tt)
  event_unspent quieten unspent = (tt, tt)
  event_unspent other unspent = tt
