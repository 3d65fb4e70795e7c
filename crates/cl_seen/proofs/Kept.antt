-- Each kind of event keeps what stands in a standby's log, and what messages tell of, firm.
use Rattle.std.proofs.Common.{◌≡◌, ℕ, ◌+◌, ◌%◌, ◌<◌, eqb, Bool, true, List, [], ◌∷◌, ◌++◌, map, All, refl, sym, ◌∙◌, subst, arith}
use Rattle.std.proofs.lemmas.Bool.{cond_both}
use Rattle.std.proofs.lemmas.List.Elements.{All-nil, All-cons, All-push, All-append, All-weaker}
use Rattle.cl_node.specs.Members.{standby_node}
use Rattle.cl_actor.specs.Core.{CoreStep}
use Rattle.cl_front.specs.Front.{FrontState}
use Rattle.cl_log.specs.declared.records.LogRec.{LogRec}
use Rattle.cl_log.specs.declared.records.LogRec.TheVariants as records
use Rattle.cl_log.specs.LogEntry.{LogEntry}
use Rattle.cl_node.specs.Addressing.{home_in}
use Rattle.cl_paired.specs.Laws.{IsNoAck}
use Rattle.cl_paired.specs.Paired.{IsPaired}
use Rattle.cl_part.specs.Sound.{IsSound, RecordsKeepReplica}
use Rattle.cl_part.specs.State.{after_record}
use Rattle.cl_repair.specs.Modes.{ModesState}
use Rattle.cl_runs.specs.World.{Shape, with_firm}
use Rattle.cl_steps.specs.declared.actors.TheConstants.{FRONT}
use Rattle.cl_steps.specs.declared.steps.Outgoing.{Outgoing}
use Rattle.cl_steps.specs.Steps.{sent}
use Rattle.cl_system.proofs.Sends.{AreSent, IsSent}
use Rattle.cl_system.specs.Firm.{TellsFirm}
use Rattle.cl_system.specs.Replicas.{Mail, own_primary, with_mail, with_way}
use Rattle.cl_system.specs.Roles.{IsAddressed}
use Rattle.cl_types.proofs.PlacementLaws.{node_count-bounds}
use Rattle.cl_types.specs.declared.answers.Outcome.TheVariants.{Committed}
use Rattle.cl_types.specs.declared.operations.TxnId.{TxnId}
use Rattle.cl_types.specs.Placement.{IsNodeCount}
use Rattle.cl_vnode.specs.Replica.{ReplicaState}
use Rattle.cl_vnode.specs.Standby.{firm_of, standby_stepped}
use Rattle.cl_vnode.specs.Step.{Stepped, stepped, log_message}
use Rattle.cl_wire.specs.Message.{Content, Outcome, Finish, Log, LogAck}
use Rattle.cl_seen.proofs.Decided.{AreDecided, log_stays, stays_member, becomes_member}
use Rattle.cl_seen.proofs.Fits.{IsNext, sound_after}
use Rattle.cl_seen.proofs.Telling.{steps_tell_none}
use Rattle.cl_pairs.proofs.Streams.{HasStreams}
use Rattle.cl_pairs.proofs.Mail.{mailed_all, popped_all}
use Rattle.cl_pairs.proofs.Shipping.{IsOutward, AreOutward, modes_with, HasShipped, shipped-step}
use Rattle.cl_seen.proofs.Beside.{IsDecided, IsInternalBelow, TellsNone, IsSafe}
use Rattle.cl_pairs.specs.Pairs as pair

-- ---- messages

-- what tells of no commit tells of firm ones alone
none_firm : (history : List TxnId) (content : Content) → TellsNone content → TellsFirm history content
none_firm history (Outcome txn number Committed) none = absurd none
none_firm history (Finish v txn true) none = absurd none
none_firm history content none = tt

-- what tells of a firm commit still does
tells_stays : (history firm : List TxnId) (content : Content) → TellsFirm history content → TellsFirm (with_firm history firm) content
tells_stays history firm (Outcome txn number Committed) is = stays_member history txn firm is
tells_stays history firm (Finish v txn true) is = stays_member history txn firm is
tells_stays history firm content is = tt

-- an outward message is between no primary and its standby
outward_below : (nodes : ℕ) (content : Content) → IsOutward content → IsInternalBelow nodes content
outward_below nodes (Log v number entry) is = absurd is
outward_below nodes (LogAck v number) is = absurd is
outward_below nodes content is = tt

-- what the message says is so
abbrev IsSafeMessage : ℕ → List TxnId → Content → Type 0
IsSafeMessage nodes history content = IsInternalBelow nodes content × TellsFirm history content

-- the front is the home of no transaction
front_no_home : (nodes : ℕ) (txn : TxnId) → IsNodeCount nodes → FRONT ≡ home_in nodes txn → ⊥
front_no_home nodes txn counted is =
    let bounds = node_count-bounds nodes counted in
    let below : txn.session % nodes < nodes = omega (arith, bounds.0) in
    let same : 16 ≡ txn.session % nodes = is in
    omega (arith, bounds.1, below, same)

-- what the front sends tells of no commit
front_safe : (nodes : ℕ) (history : List TxnId) (to : ℕ) (content : Content) → IsNodeCount nodes → IsAddressed nodes FRONT to content →
    IsSafeMessage nodes history content
front_safe nodes history to (Outcome txn number outcome) counted is = absurd (front_no_home nodes txn counted is.giver)
front_safe nodes history to (Finish v txn commit) counted is = absurd (front_no_home nodes txn counted is.giver)
front_safe nodes history to (Log v number entry) counted is = absurd is
front_safe nodes history to (LogAck v number) counted is = absurd is
front_safe nodes history to content counted is = (tt, tt)

-- of all that it sends
front_sends_safe : (nodes : ℕ) (history : List TxnId) (sends : List Outgoing) → IsNodeCount nodes → AreSent nodes FRONT sends →
    All (λ send. IsSafeMessage nodes history send.payload) sends
front_sends_safe nodes history sends counted are =
    All-weaker (IsSent nodes FRONT) (λ (send : Outgoing). IsSafeMessage nodes history send.payload)
    (λ send is. front_safe nodes history send.to send.payload counted is) sends are

-- ---- what is on its way

-- each message on its way is so
abbrev IsSafeMail : ℕ → List TxnId → Mail → Type 0
IsSafeMail nodes history mail = (from to : ℕ) → All (IsSafeMessage nodes history) (mail from to)

-- more was sent
mail_sent : (nodes : ℕ) (history : List TxnId) (mail : Mail) (giver : ℕ) (sends : List Outgoing) → IsSafeMail nodes history mail →
    All (λ send. IsSafeMessage nodes history send.payload) sends → IsSafeMail nodes history (with_mail mail giver sends)
mail_sent nodes history mail giver sends are new from to = mailed_all (λ a b content. IsSafeMessage nodes history content) giver mail sends from to
    (are from to) new

-- more is firm
mail_stays : (nodes : ℕ) (history firm : List TxnId) (mail : Mail) → IsSafeMail nodes history mail → IsSafeMail nodes (with_firm history firm) mail
mail_stays nodes history firm mail are from to =
    All-weaker (IsSafeMessage nodes history) (IsSafeMessage nodes (with_firm history firm)) (λ content is. (is.0, tells_stays history firm content is.1))
    (mail from to) (are from to)

-- what a primary sends that tells of firm commits alone
primary_sends_safe : (nodes : ℕ) (history : List TxnId) (standby v : ℕ) (entries : List LogEntry) (others sends : List Outgoing) → v < nodes →
    sends ≡ map (log_message standby v) entries ++ others → AreOutward others → All (λ send. TellsFirm history send.payload) sends →
    All (λ send. IsSafeMessage nodes history send.payload) sends
primary_sends_safe nodes history standby v entries others sends below is outward tells =
    let internal : All (λ send. IsInternalBelow nodes send.payload) sends
    = subst (All (λ (send : Outgoing). IsInternalBelow nodes send.payload)) (sym is)
    (All-append (λ (send : Outgoing). IsInternalBelow nodes send.payload) (map (log_message standby v) entries) others (logs_below entries)
    (All-weaker (λ (send : Outgoing). IsOutward send.payload) (λ (send : Outgoing). IsInternalBelow nodes send.payload)
    (λ send one. outward_below nodes send.payload one) others outward)) in
    λ k d h. (internal k d h, tells k d h)
  where
    -- so are log records
    logs_below : (list : List LogEntry) → All (λ send. IsInternalBelow nodes send.payload) (map (log_message standby v) list)
    logs_below [] = All-nil (λ (send : Outgoing). IsInternalBelow nodes send.payload)
    logs_below (entry ∷ list) = All-cons (λ (send : Outgoing). IsInternalBelow nodes send.payload) (log_message standby v entry)
        (map (log_message standby v) list) below (logs_below list)

-- the mode after a message
modes_mode : (modes : ModesState) (content : Content) → (modes_with modes content).mode ≡ modes.mode
modes_mode modes (LogAck v number) = refl
modes_mode modes content = refl

-- a Decide is of a transaction that is firm then
decided_now : (history : List TxnId) (content : LogRec) → IsDecided (with_firm history (firm_of content)) content
decided_now history (records.Decide txn) = becomes_member history txn
decided_now history content = tt

module _ (shape : Shape) (counted : IsNodeCount shape.nodes) (pairs : pair.PairWorld) (safe : IsSafe shape pairs) where
  -- all that is on its way is so
  mail_is : IsSafeMail shape.nodes pairs.history pairs.mail
  mail_is from to k d h = (safe.below from to k d h, safe.tells from to k d h)

  -- so it is once a message was taken off
  mail_off : (from to : ℕ) (content : Content) (rest : List Content) → pairs.mail from to ≡ content ∷ rest →
      IsSafeMail shape.nodes pairs.history (with_way pairs.mail from to rest)
  mail_off from to content rest waits a b = popped_all (IsSafeMessage shape.nodes pairs.history) pairs.mail from to content rest a b waits (mail_is a b)

  -- the front has taken a step
  front_acted : (mail : Mail) (lines : ℕ) (step : CoreStep FrontState) → IsSafeMail shape.nodes pairs.history mail → AreSent shape.nodes FRONT step.step.sends →
      IsSafe shape (pair.front_acts (record pairs { mail = mail; lines = lines }) step)
  front_acted mail lines step are sent_so =
      let now : IsSafeMail shape.nodes pairs.history (with_mail mail FRONT step.step.sends)
      = mail_sent shape.nodes pairs.history mail FRONT step.step.sends are (front_sends_safe shape.nodes pairs.history step.step.sends counted sent_so) in
      record {
        below = λ from to k d h. (now from to k d h).0;
        same_nodes = safe.same_nodes;
        sound = safe.sound;
        firm = safe.firm;
        tells = λ from to k d h. (now from to k d h).1;
      }

  -- a line was taken
  pub line_safe : (step : CoreStep FrontState) → AreSent shape.nodes FRONT step.step.sends →
      IsSafe shape (pair.front_acts (record pairs { lines = pairs.lines + 1 }) step)
  line_safe step sent_so = front_acted pairs.mail (pairs.lines + 1) step mail_is sent_so

  -- a quiet moment was noted
  pub quiet_safe : (front : FrontState) → IsSafe shape (record pairs { front = front })
  quiet_safe front = record { below = safe.below; same_nodes = safe.same_nodes; sound = safe.sound; firm = safe.firm; tells = safe.tells }

  module _ (from to : ℕ) (content : Content) (rest : List Content) (waits : pairs.mail from to ≡ content ∷ rest) where
    -- the system once it was taken off
    abbrev off : pair.PairWorld
    off = record pairs { mail = with_way pairs.mail from to rest }

    -- a message came to the front
    pub heard_safe : (step : CoreStep FrontState) → AreSent shape.nodes FRONT step.step.sends → IsSafe shape (pair.front_acts off step)
    heard_safe step sent_so = front_acted (with_way pairs.mail from to rest) pairs.lines step (mail_off from to content rest waits) sent_so

    -- a message came to a primary
    pub primary_safe : HasStreams shape pairs → (mark : Bool) → to < shape.nodes →
        All (λ send. TellsFirm pairs.history send.payload) (stepped own_primary (pairs.primaries to) from content mark).step.sends →
        IsSafe shape (pair.primary_acts off to (stepped own_primary (pairs.primaries to) from content mark))
    primary_safe streams mark below tells =
        let before : ReplicaState = pairs.primaries to in
        let step : Stepped = stepped own_primary before from content mark in
        let stream = streams.streams to in
        let standby : ℕ = standby_node shape.nodes to in
        let shipped : HasShipped standby before (modes_with before.modes content) step
        = shipped-step own_primary standby before from content mark stream.primary_said (modes_mode before.modes content ∙ stream.mode) in
        let now : IsSafeMail shape.nodes (with_firm pairs.history step.step.firm) (with_mail off.mail to step.step.sends)
        = mail_stays shape.nodes pairs.history step.step.firm (with_mail off.mail to step.step.sends)
        (mail_sent shape.nodes pairs.history off.mail to step.step.sends (mail_off from to content rest waits)
        (primary_sends_safe shape.nodes pairs.history standby before.v shipped.news shipped.others step.step.sends
        (subst (λ n. n < shape.nodes) (sym stream.own) below)
        shipped.sends shipped.outward tells)) in
        record {
          below = λ a b k d h. (now a b k d h).0;
          same_nodes = safe.same_nodes;
          sound = safe.sound;
          firm = λ v under. log_stays pairs.history step.step.firm (pairs.standbys v).part.log (safe.firm v under);
          tells = λ a b k d h. (now a b k d h).1;
        }

    -- a log record came to a standby
    pub standby_safe : RecordsKeepReplica → (v number : ℕ) (entry : LogRec) → v < shape.nodes → IsNext (pairs.standbys v).part number entry →
        IsSafe shape (pair.standby_acts shape.nodes off v (standby_stepped (pairs.standbys v) from (Log v number entry)))
    unfolding after_record
    standby_safe keeps v number entry below is =
        let before : ReplicaState = pairs.standbys v in
        let step : Stepped = standby_stepped before from (Log v number entry) in
        let now : IsSafeMail shape.nodes (with_firm pairs.history (firm_of entry))
        (with_mail off.mail (standby_node shape.nodes v) (sent from (LogAck v number) ∷ []))
        = mail_stays shape.nodes pairs.history (firm_of entry) (with_mail off.mail (standby_node shape.nodes v) (sent from (LogAck v number) ∷ []))
        (mail_sent shape.nodes pairs.history off.mail (standby_node shape.nodes v) (sent from (LogAck v number) ∷ []) (mail_off from to content rest waits)
        (All-cons (λ (send : Outgoing). IsSafeMessage shape.nodes pairs.history send.payload) (sent from (LogAck v number)) [] (below, tt)
        (All-nil (λ (send : Outgoing). IsSafeMessage shape.nodes pairs.history send.payload)))) in
        record {
          below = λ a b k d h. (now a b k d h).0;
          same_nodes = λ u. cond_both (eqb u v) step.state (pairs.standbys u) (λ (one : ReplicaState). one.control.nodes ≡ shape.nodes)
              (λ _. safe.same_nodes v) (λ _. safe.same_nodes u);
          sound = λ u under. cond_both (eqb u v) step.state (pairs.standbys u) (λ (one : ReplicaState). IsSound one.part)
              (λ _. sound_after keeps before.part number entry (safe.sound v below) is) (λ _. safe.sound u under);
          firm = λ u under. cond_both (eqb u v) step.state (pairs.standbys u)
              (λ (one : ReplicaState). AreDecided (with_firm pairs.history (firm_of entry)) one.part.log)
              (λ _. All-push (λ (e : LogEntry). IsDecided (with_firm pairs.history (firm_of entry)) e.content) before.part.log _
              (log_stays pairs.history (firm_of entry) before.part.log (safe.firm v below)) (decided_now pairs.history entry))
              (λ _. log_stays pairs.history (firm_of entry) (pairs.standbys u).part.log (safe.firm u under));
          tells = λ a b k d h. (now a b k d h).1;
        }

-- a message that is no acknowledgement makes a primary tell of no commit
pub step_firm : (history : List TxnId) (state : ReplicaState) (from : ℕ) (content : Content) (mark : Bool) → IsPaired state → IsNoAck content →
    All (λ send. TellsFirm history send.payload) (stepped own_primary state from content mark).step.sends
step_firm history state from content mark is no_ack =
    All-weaker (λ (send : Outgoing). TellsNone send.payload) (λ (send : Outgoing). TellsFirm history send.payload)
    (λ send none. none_firm history send.payload none)
    (stepped own_primary state from content mark).step.sends (steps_tell_none own_primary state from content mark is no_ack)
