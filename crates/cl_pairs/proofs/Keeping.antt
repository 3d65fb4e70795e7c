-- Each event keeps that a virtual node is one log.
use Rattle.std.proofs.Common.{◌≡◌, ℕ, ◌+◌, ◌<◌, ◌≤◌, max, eqb, ltb, cond, true, false, Bool, List, [], ◌∷◌, ◌++◌, map, filter, length, All, refl, sym, ◌∙◌, ap, subst, arith}
use Rattle.std.proofs.lemmas.Bool.{eqb-true, eqb-false, eq-eqb, cond-true}
use Rattle.std.proofs.lemmas.List.{append_assoc, map-append}
use Rattle.std.proofs.lemmas.List.Elements.{All-nil, All-cons, All-append, All-map, All-weaker, filter-append}
use Rattle.cl_endpoint.specs.declared.limits.TheConstants.{ACTORS}
use Rattle.cl_log.proofs.Entries.{number_at}
use Rattle.cl_log.specs.declared.records.LogRec.{LogRec}
use Rattle.cl_log.specs.LogEntry.{LogEntry, IsNumberedFrom}
use Rattle.cl_part.specs.State.{next_entry, after_record}
use Rattle.cl_repair.specs.declared.mode.Mode.{Mode}
use Rattle.cl_repair.specs.declared.mode.Mode.TheVariants.{Pair}
use Rattle.cl_repair.specs.Modes.{ModesState, acked_in}
use Rattle.cl_runs.specs.Queues.{sent_to}
use Rattle.cl_runs.specs.World.{with_at}
use Rattle.cl_steps.specs.declared.steps.Outgoing.{Outgoing}
use Rattle.cl_steps.specs.Steps.{sent}
use Rattle.cl_system.specs.Replicas.{Mail, own_primary, with_mail, with_way}
use Rattle.cl_system.specs.Roles.{IsAddressed}
use Rattle.cl_vnode.specs.Replica.{ReplicaState}
use Rattle.cl_vnode.specs.Standby.{with_record}
use Rattle.cl_vnode.specs.Step.{Stepped, stepped, log_message}
use Rattle.cl_wire.specs.Message.{Content, Log, LogAck}
use Rattle.cl_node.specs.Members.{standby_node}
use Rattle.cl_pairs.specs.Streams.{is_log_of, log_of, IsAckBelow}
use Rattle.cl_pairs.proofs.Logs.{IsSaid, said-record, counted-said}
use Rattle.cl_pairs.proofs.Mail.{mailed_all, popped_all, mailed_none, popped_none, popped_rest, shipped_logs}
use Rattle.cl_pairs.proofs.Shipping.{IsOutward, AreOutward, modes_with, HasShipped, shipped-step}

-- ---- one virtual node

-- primary and standby of a virtual node, with what is on its way from the one to the other and back
pub record IsStream (nodes v : ℕ) (primary standby : ReplicaState) (ships acks : List Content) : Type 0 where
  pub own : primary.v ≡ v
  pub mode : primary.modes.mode ≡ Pair (standby_node nodes v)
  pub way : List LogEntry
  pub logs : primary.part.log ≡ standby.part.log ++ way
  pub shipped : filter (is_log_of v) ships ≡ map (log_of v) way
  pub primary_said : IsSaid primary.part primary.decisions
  pub standby_said : IsSaid standby.part standby.decisions
  pub acknowledged : All (IsAckBelow v standby.part.next) acks
  pub acked : primary.modes.acked < standby.part.next

-- the number of an acknowledgement is below the next one
abbrev pub IsBelow : ℕ → Content → Type 0
IsBelow next (LogAck v number) = number < next
IsBelow next content = Unit {0}

-- a message leaves the mode
pub modes_with-mode : (modes : ModesState) (content : Content) → (modes_with modes content).mode ≡ modes.mode
modes_with-mode modes (LogAck v number) = refl
modes_with-mode modes content = refl

-- what is acknowledged stays below
modes_with-acked : (modes : ModesState) (content : Content) (standby next : ℕ) → modes.mode ≡ Pair standby → modes.acked < next → IsBelow next content →
    (modes_with modes content).acked < next
modes_with-acked modes (LogAck v number) standby next paired acked below =
    subst (λ (mode : Mode). acked_in mode modes.acked number < next) (sym paired)
    (let most : max modes.acked number < next = omega (arith, acked, below) in most)
modes_with-acked modes content standby next paired acked below = acked

-- the same log records and lawful acknowledgements are on their way
stream-mail : (nodes v : ℕ) (primary standby : ReplicaState) (ships acks others answers : List Content) → IsStream nodes v primary standby ships acks →
    filter (is_log_of v) others ≡ filter (is_log_of v) ships → All (IsAckBelow v standby.part.next) answers → IsStream nodes v primary standby others answers
stream-mail nodes v primary standby ships acks others answers is same below = record {
  own = is.own;
  mode = is.mode;
  way = is.way;
  logs = is.logs;
  shipped = same ∙ is.shipped;
  primary_said = is.primary_said;
  standby_said = is.standby_said;
  acknowledged = below;
  acked = is.acked;
}

-- a single message
one_sent : (P : Outgoing → Type 0) (send : Outgoing) → P send → All P (send ∷ [])
one_sent P send is = All-cons P send [] is (All-nil P)

-- a message that is not between primary and standby is no log record
no_log : (v : ℕ) (content : Content) → IsOutward content → is_log_of v content ≡ false
no_log v (Log u number entry) outward = absurd outward
no_log v (LogAck u number) outward = refl
no_log v content outward = refl

-- nor is any of these
no_logs : (v : ℕ) (sends : List Outgoing) → AreOutward sends → All (λ send. is_log_of v send.payload ≡ false) sends
no_logs v sends outward =
    All-weaker (λ (send : Outgoing). IsOutward send.payload) (λ (send : Outgoing). is_log_of v send.payload ≡ false)
    (λ send is. no_log v send.payload is) sends outward

-- the primary has taken a step
stream-primary : (nodes v : ℕ) (primary standby : ReplicaState) (ships acks answers : List Content) (content : Content) (after : Stepped) →
    IsStream nodes v primary standby ships acks →
    ltb (standby_node nodes v) ACTORS ≡ true → IsBelow standby.part.next content →
    HasShipped (standby_node nodes v) primary (modes_with primary.modes content) after →
    All (IsAckBelow v standby.part.next) answers → IsStream nodes v after.state standby (ships ++ sent_to (standby_node nodes v) after.step.sends) answers
stream-primary nodes v primary standby ships acks answers content after is actor below has answered = record {
  own = has.own ∙ is.own;
  mode = ap (λ (modes : ModesState). modes.mode) has.kept ∙ modes_with-mode primary.modes content ∙ is.mode;
  way = is.way ++ has.news;
  logs = has.log ∙ ap (λ (log : List LogEntry). log ++ has.news) is.logs ∙ append_assoc standby.part.log is.way has.news;
  shipped =
      filter-append (is_log_of v) ships (sent_to (standby_node nodes v) after.step.sends)
      ∙ ap (λ (contents : List Content). contents ++ filter (is_log_of v) (sent_to (standby_node nodes v) after.step.sends)) is.shipped
      ∙ ap (λ (contents : List Content). map (log_of v) is.way ++ contents)
      (ap (λ (sends : List Outgoing). filter (is_log_of v) (sent_to (standby_node nodes v) sends))
      (has.sends ∙ ap (λ (n : ℕ). map (log_message (standby_node nodes v) n) has.news ++ has.others) is.own)
      ∙ shipped_logs (standby_node nodes v) v has.others (no_logs v has.others has.outward) has.news actor)
      ∙ sym (map-append (log_of v) is.way has.news);
  primary_said = has.said;
  standby_said = is.standby_said;
  acknowledged = answered;
  acked = subst (λ (modes : ModesState). modes.acked < standby.part.next) (sym has.kept)
      (modes_with-acked primary.modes content (standby_node nodes v) standby.part.next is.mode is.acked below);
}

-- a log record is the head of the way: it has the standby's next number, and the rest is left
record IsHead (standby : ReplicaState) (log : List LogEntry) (v number : ℕ) (content : LogRec) (rest : List Content) : Type 0 where
  left : List LogEntry
  next : number ≡ standby.part.next
  logs : log ≡ (standby.part.log ++ next_entry standby.part content ∷ []) ++ left
  shipped : rest ≡ map (log_of v) left

-- each log record that comes is one, where the log is numbered
is_head : (standby : ReplicaState) (log way : List LogEntry) (v number : ℕ) (content : LogRec) (rest : List Content) → IsNumberedFrom 1 log →
    IsSaid standby.part standby.decisions →
    log ≡ standby.part.log ++ way → Log v number content ∷ rest ≡ map (log_of v) way → IsHead standby log v number content rest
is_head standby log [] v number content rest numbered said logs same = absurd (cc)
is_head standby log (entry ∷ way) v number content rest numbered said logs same =
    let first : number ≡ entry.number = cc in
    let second : content ≡ entry.content = cc in
    let third : rest ≡ map (log_of v) way = cc in
    let at : entry.number ≡ 1 + length standby.part.log = number_at 1 standby.part.log entry way (subst (IsNumberedFrom 1) logs numbered) in
    let counted = counted-said standby.part standby.decisions said in
    let next : entry.number ≡ standby.part.next = let next = counted.next in omega (arith, at, next) in
    let here : entry ≡ next_entry standby.part content =
    ap (λ n. (let e : LogEntry = record { number = n; content = entry.content } in e)) next ∙ ap (λ c. next_entry standby.part c) (sym second) in
    record {
      left = way;
      next = first ∙ next;
      logs = logs ∙ ap (λ (e : LogEntry). standby.part.log ++ e ∷ way) here ∙ sym (append_assoc standby.part.log (next_entry standby.part content ∷ []) way);
      shipped = third;
    }

-- the standby has taken the head of the way
stream-standby : (nodes v : ℕ) (primary standby : ReplicaState) (ships acks others answers : List Content) (number : ℕ) (content : LogRec)
    (rest : List Content) →
    IsStream nodes v primary standby ships acks → filter (is_log_of v) ships ≡ Log v number content ∷ rest → filter (is_log_of v) others ≡ rest →
    (number ≡ standby.part.next → All (IsAckBelow v (standby.part.next + 1)) answers) → IsStream nodes v primary (with_record standby content) others answers
unfolding after_record
stream-standby nodes v primary standby ships acks others answers number content rest is head left answered =
    let at : IsHead standby primary.part.log v number content rest =
    is_head standby primary.part.log is.way v number content rest
    (counted-said primary.part primary.decisions is.primary_said).numbered is.standby_said is.logs (sym head ∙ is.shipped) in
    record {
      own = is.own;
      mode = is.mode;
      way = at.left;
      logs = at.logs;
      shipped = left ∙ at.shipped;
      primary_said = is.primary_said;
      standby_said = said-record standby.part standby.decisions content is.standby_said;
      acknowledged = answered at.next;
      acked = let acked = is.acked in omega (arith, acked);
    }

-- ---- all virtual nodes

-- a log record is on its way from its primary to its standby alone, and an acknowledgement back
abbrev pub IsBetween : ℕ → ℕ → ℕ → Content → Type 0
IsBetween nodes from to (Log v number entry) = (from ≡ v) × (to ≡ standby_node nodes v)
IsBetween nodes from to (LogAck v number) = (from ≡ standby_node nodes v) × (to ≡ v)
IsBetween nodes from to content = Unit {0}

-- all of them are one log each, and what is on its way goes where its kind says
pub record AreStreams (nodes : ℕ) (primaries standbys : ℕ → ReplicaState) (mail : Mail) : Type 0 where
  pub streams : (v : ℕ) → IsStream nodes v (primaries v) (standbys v) (mail v (standby_node nodes v)) (mail (standby_node nodes v) v)
  pub ways : (from to : ℕ) → All (IsBetween nodes from to) (mail from to)

-- what a primary may send: log records to its standby, and no acknowledgement
abbrev pub IsGiven : ℕ → ℕ → ℕ → Content → Type 0
IsGiven nodes from to (Log v number entry) = (from ≡ v) × (to ≡ standby_node nodes v)
IsGiven nodes from to (LogAck v number) = ⊥
IsGiven nodes from to content = Unit {0}

-- a primary may send what is not between primary and standby
outward_given : (nodes from to : ℕ) (content : Content) → IsOutward content → IsGiven nodes from to content
outward_given nodes from to (Log v number entry) outward = absurd outward
outward_given nodes from to (LogAck v number) outward = outward
outward_given nodes from to content outward = tt

-- what a primary may send goes where its kind says
given_between : (nodes from to : ℕ) (content : Content) → IsGiven nodes from to content → IsBetween nodes from to content
given_between nodes from to (Log v number entry) given = given
given_between nodes from to (LogAck v number) given = absurd given
given_between nodes from to content given = tt

-- it may send all of these
all_given : (nodes from : ℕ) (sends : List Outgoing) → AreOutward sends → All (λ send. IsGiven nodes from send.to send.payload) sends
all_given nodes from sends outward =
    All-weaker (λ (send : Outgoing). IsOutward send.payload) (λ (send : Outgoing). IsGiven nodes from send.to send.payload)
    (λ send is. outward_given nodes from send.to send.payload is) sends outward

-- what a primary may send acknowledges nothing
given_below : (nodes from to v next : ℕ) (content : Content) → IsGiven nodes from to content → IsAckBelow v next content
given_below nodes from to v next (LogAck u number) given = absurd given
given_below nodes from to v next content given = tt

-- what is below a number is below a later one
later : (v next after : ℕ) (content : Content) → next ≤ after → IsAckBelow v next content → IsAckBelow v after content
later v next after (LogAck u number) more below = λ same. (let here = below same in omega (arith, here, more))
later v next after content more below = tt

-- what is addressed as without standbys is not between primary and standby
pub addressed_outward : (nodes from to : ℕ) (content : Content) → IsAddressed nodes from to content → IsOutward content
addressed_outward nodes from to (Log v number entry) addressed = addressed
addressed_outward nodes from to (LogAck v number) addressed = addressed
addressed_outward nodes from to content addressed = tt

module _ (nodes : ℕ) (primaries standbys : ℕ → ReplicaState) (mail : Mail) (are : AreStreams nodes primaries standbys mail) where
  -- a message was taken off that is no log record
  pub popped : (from to : ℕ) (content : Content) (rest : List Content) → mail from to ≡ content ∷ rest → ((v : ℕ) → is_log_of v content ≡ false) →
      AreStreams nodes primaries standbys (with_way mail from to rest)
  popped from to content rest waits none = record {
    streams = λ v. stream-mail nodes v (primaries v) (standbys v) _ _ _ _ (are.streams v)
        (popped_none (is_log_of v) mail from to content rest v (standby_node nodes v) waits (none v))
        (popped_all (IsAckBelow v (standbys v).part.next) mail from to content rest (standby_node nodes v) v waits (are.streams v).acknowledged);
    ways = λ giver receiver. popped_all (IsBetween nodes giver receiver) mail from to content rest giver receiver waits (are.ways giver receiver);
  }

  module _ (giver : ℕ) (sends : List Outgoing) (given : All (λ send. IsGiven nodes giver send.to send.payload) sends) where
    -- what a primary sends acknowledges nothing
    below_mailed : (v : ℕ) → All (IsAckBelow v (standbys v).part.next) (with_mail mail giver sends (standby_node nodes v) v)
    below_mailed v =
        mailed_all (λ from to content. IsAckBelow v (standbys v).part.next content) giver mail sends (standby_node nodes v) v (are.streams v).acknowledged
        (All-weaker (λ (send : Outgoing). IsGiven nodes giver send.to send.payload) (λ (send : Outgoing). IsAckBelow v (standbys v).part.next send.payload)
        (λ send is. given_below nodes giver send.to v (standbys v).part.next send.payload is) sends given)

    -- and goes where its kind says
    between_mailed : (from to : ℕ) → All (IsBetween nodes from to) (with_mail mail giver sends from to)
    between_mailed from to =
        mailed_all (IsBetween nodes) giver mail sends from to (are.ways from to)
        (All-weaker (λ (send : Outgoing). IsGiven nodes giver send.to send.payload) (λ (send : Outgoing). IsBetween nodes giver send.to send.payload)
        (λ send is. given_between nodes giver send.to send.payload is) sends given)

  -- messages were sent that are not between primary and standby
  pub mailed : (giver : ℕ) (sends : List Outgoing) → AreOutward sends → AreStreams nodes primaries standbys (with_mail mail giver sends)
  mailed giver sends outward =
      let given : All (λ send. IsGiven nodes giver send.to send.payload) sends = all_given nodes giver sends outward in
      record {
        streams = λ v. stream-mail nodes v (primaries v) (standbys v) _ _ _ _ (are.streams v)
            (mailed_none (is_log_of v) mail giver sends v (standby_node nodes v) (no_logs v sends outward))
            (below_mailed giver sends given v);
        ways = between_mailed giver sends given;
      }

  module _ (v from : ℕ) (content : Content) (mark : Bool) (actor : (u : ℕ) → ltb (standby_node nodes u) ACTORS ≡ true)
      (below : IsBelow (standbys v).part.next content) where
    -- the step
    abbrev after : Stepped
    after = stepped own_primary (primaries v) from content mark

    -- its step ships what it appends
    has : HasShipped (standby_node nodes v) (primaries v) (modes_with (primaries v).modes content) after
    has =
        shipped-step own_primary (standby_node nodes v) (primaries v) from content mark (are.streams v).primary_said
        (modes_with-mode (primaries v).modes content ∙ (are.streams v).mode)

    -- it sends what a primary may send
    sends_given : All (λ send. IsGiven nodes v send.to send.payload) after.step.sends
    sends_given =
        let P : Outgoing → Type 0 = λ send. IsGiven nodes v send.to send.payload in
        let all : All P (map (log_message (standby_node nodes v) v) has.news ++ has.others) =
        All-append P _ has.others (All-map P (log_message (standby_node nodes v) v) has.news (λ k d within. (refl, refl)))
        (all_given nodes v has.others has.outward) in
        subst (All P) (sym (has.sends ∙ ap (λ (n : ℕ). map (log_message (standby_node nodes v) n) has.news ++ has.others) (are.streams v).own)) all

    -- the stream of the virtual node whose primary it is
    stepped_stream : IsStream nodes v after.state (standbys v) (mail v (standby_node nodes v) ++ sent_to (standby_node nodes v) after.step.sends)
        (with_mail mail v after.step.sends (standby_node nodes v) v)
    stepped_stream =
        stream-primary nodes v (primaries v) (standbys v) (mail v (standby_node nodes v)) (mail (standby_node nodes v) v) _ content after (are.streams v)
        (actor v) below has
        (below_mailed v after.step.sends sends_given v)

    -- a primary has taken a step
    pub primary_kept : AreStreams nodes (with_at primaries v after.state) standbys (with_mail mail v after.step.sends)
    primary_kept = record {
      streams = λ u.
          elim (eqb u v) as (λ b. (eqb u v ≡ b) → IsStream nodes u (cond b after.state (primaries u)) (standbys u)
          (cond b (mail u (standby_node nodes u) ++ sent_to (standby_node nodes u) after.step.sends) (mail u (standby_node nodes u)))
          (with_mail mail v after.step.sends (standby_node nodes u) u)) [
            | true ↦ λ here.
                subst (λ n. IsStream nodes n after.state (standbys n) (mail n (standby_node nodes n) ++ sent_to (standby_node nodes n) after.step.sends)
                (with_mail mail v after.step.sends (standby_node nodes n) n))
                (sym (eqb-true u v here)) stepped_stream
            | false ↦ λ elsewhere. stream-mail nodes u (primaries u) (standbys u) _ _ _ _ (are.streams u) refl (below_mailed v after.step.sends sends_given u)
          ]
          refl;
      ways = between_mailed v after.step.sends sends_given;
    }

  module _ (v number : ℕ) (content : LogRec) (rest : List Content) (waits : mail v (standby_node nodes v) ≡ Log v number content ∷ rest) where
    -- the standby's node
    abbrev node : ℕ
    node = standby_node nodes v

    -- what is left on their ways
    abbrev left : Mail
    left = with_way mail v node rest

    -- what the standby sends
    abbrev answer : List Outgoing
    answer = sent v (LogAck v number) ∷ []

    -- the standby's answer is no log record
    no_answer : (u : ℕ) → All (λ send. is_log_of u send.payload ≡ false) answer
    no_answer u = one_sent (λ (send : Outgoing). is_log_of u send.payload ≡ false) (sent v (LogAck v number)) refl

    -- the acknowledgements, once more of its log is taken
    answered : (u next after : ℕ) → All (IsAckBelow u next) (mail (standby_node nodes u) u) → next ≤ after → IsAckBelow u after (LogAck v number) →
        All (IsAckBelow u after) (with_mail left node answer (standby_node nodes u) u)
    answered u next after below more own =
        mailed_all (λ from to content. IsAckBelow u after content) node left answer (standby_node nodes u) u
        (All-weaker (IsAckBelow u next) (IsAckBelow u after) (λ content is. later u next after content more is) _
        (popped_all (IsAckBelow u next) mail v node (Log v number content) rest (standby_node nodes u) u waits below))
        (one_sent (λ (send : Outgoing). IsAckBelow u after send.payload) (sent v (LogAck v number)) own)

    -- the log record is the head of those on their way
    head : filter (is_log_of v) (mail v node) ≡ Log v number content ∷ filter (is_log_of v) rest
    head = ap (filter (is_log_of v)) waits ∙ cond-true (eqb v v) _ _ (eq-eqb v v refl)

    -- it has the standby's next number
    pub head_next : number ≡ (standbys v).part.next
    head_next =
        (is_head (standbys v) (primaries v).part.log (are.streams v).way v number content (filter (is_log_of v) rest)
        (counted-said (primaries v).part (primaries v).decisions (are.streams v).primary_said).numbered
        (are.streams v).standby_said (are.streams v).logs (sym head ∙ (are.streams v).shipped)).next

    -- the stream of the virtual node whose standby it is
    taken_stream : IsStream nodes v (primaries v) (with_record (standbys v) content) (with_mail left node answer v node) (with_mail left node answer node v)
    taken_stream =
        stream-standby nodes v (primaries v) (standbys v) (mail v node) (mail node v) _ _ number content (filter (is_log_of v) rest) (are.streams v) head
        (mailed_none (is_log_of v) left node answer v node (no_answer v) ∙ ap (filter (is_log_of v)) (popped_rest mail v node rest))
        (λ next. answered v (standbys v).part.next ((standbys v).part.next + 1) (are.streams v).acknowledged (omega arith) (λ same. omega (arith, next)))

    -- a standby has taken a log record of its primary
    pub standby_kept : AreStreams nodes primaries (with_at standbys v (with_record (standbys v) content)) (with_mail left node answer)
    standby_kept = record {
      streams = λ u.
          elim (eqb u v) as (λ b. (eqb u v ≡ b) → IsStream nodes u (primaries u) (cond b (with_record (standbys v) content) (standbys u))
          (with_mail left node answer u (standby_node nodes u)) (with_mail left node answer (standby_node nodes u) u)) [
            | true ↦ λ here.
                subst (λ n. IsStream nodes n (primaries n) (with_record (standbys v) content) (with_mail left node answer n (standby_node nodes n))
                (with_mail left node answer (standby_node nodes n) n))
                (sym (eqb-true u v here)) taken_stream
            | false ↦ λ elsewhere.
                stream-mail nodes u (primaries u) (standbys u) _ _ _ _ (are.streams u)
                (mailed_none (is_log_of u) left node answer u (standby_node nodes u) (no_answer u)
                ∙ popped_none (is_log_of u) mail v node (Log v number content) rest u (standby_node nodes u) waits elsewhere)
                (answered u (standbys u).part.next (standbys u).part.next (are.streams u).acknowledged (omega arith)
                (λ same. absurd (eqb-false u v elsewhere same)))
          ]
          refl;
      ways = λ from to.
          mailed_all (IsBetween nodes) node left answer from to
          (popped_all (IsBetween nodes from to) mail v node (Log v number content) rest from to waits (are.ways from to))
          (one_sent (λ (send : Outgoing). IsBetween nodes node send.to send.payload) (sent v (LogAck v number)) (refl, refl));
    }
