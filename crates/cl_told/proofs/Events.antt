-- The laws: at the start and after each event the transcript shows of each session what it has.
use Rattle.std.proofs.Common.{◌≡◌, ℕ, ◌-◌, ◌%◌, ◌<◌, ◌≤◌, Bool, true, false, cond, List, [], ◌∷◌, None, refl, sym, ap, ◌∙◌, subst, subst₂, arith}
use Rattle.std.proofs.lemmas.List.{get_or-replicate}
use Rattle.cl_exchange.specs.Laws.{IsSoundWorld}
use Rattle.cl_exchange.specs.Stage.{SessionView, Stage, outside, ready, asking, working, telling, IsAt, IsInTransaction, view_of}
use Rattle.cl_exchange.proofs.Delivered.{home_apart, home_below}
use Rattle.cl_exchange.proofs.Events.{session_between, nodes_are, stage_of, below_from, few}
use Rattle.cl_exchange.proofs.Participants.{LeavesControl, ask_leaves, prepare_leaves, finish_leaves}
use Rattle.cl_exchange.proofs.Runs.{first_addressed}
use Rattle.cl_front.specs.Front.{delivered_front}
use Rattle.cl_front.specs.Session.{SessionState, no_session}
use Rattle.cl_front.specs.Sessions.{session_in}
use Rattle.cl_front.specs.declared.current.Current.{Current}
use Rattle.cl_lone.specs.Lone.{lone_step}
use Rattle.cl_runs.specs.Queues.{QueueEvent, deliver, take_line, quieten}
use Rattle.cl_runs.specs.World.{Shape}
use Rattle.cl_serial.specs.Transcript.{gather}
use Rattle.cl_steps.specs.declared.actors.TheConstants.{FRONT}
use Rattle.cl_system.specs.Replicas.{ReplicaWorld, own_primary, nothing_noted, with_way, front_acts, replica_acts, after_message, after_first, after_replica_event, first_replica_world, MayReplicas}
use Rattle.cl_system.specs.Roles.{IsOfSession, IsAddressed}
use Rattle.cl_told.specs.Laws.{ToldAtFirst, EventsKeepTold}
use Rattle.cl_told.specs.Told.{IsTold, SessionsAreTold, TellsStage}
use Rattle.cl_told.proofs.Delivered.{command_told, answer_told, vote_told, participant_told}
use Rattle.cl_told.proofs.Feeding.{IsToldIn, line_told, outcome_told, quiet_told}
use Rattle.cl_told.proofs.Fronts.{view_from, told_from}
use Rattle.cl_types.specs.Placement.{IsNodeCount}
use Rattle.cl_types.specs.declared.limits.TheConstants.{SESSIONS_MAX}
use Rattle.cl_types.specs.declared.operations.TxnId.{TxnId}
use Rattle.cl_vnode.specs.Step.{home_of}
use Rattle.cl_wire.specs.Message.{Content, Command, Outcome, Ask, Answer, Prepare, Vote, Finish}

-- ---- at the start

first_session : (s : ℕ) (shape : Shape) → 1 ≤ s → s ≤ SESSIONS_MAX → session_in (first_replica_world shape).front.sessions s ≡ no_session
first_session s shape one most = get_or-replicate SESSIONS_MAX (s - 1) no_session no_session (omega arith)

module _ (shape : Shape) (s : ℕ) (one : 1 ≤ s) (most : s ≤ SESSIONS_MAX) where
  -- a session that has begun nothing
  abbrev first_view : SessionView
  first_view = view_of shape.nodes (first_replica_world shape) s

  not_inside : (current : Current) (outstanding : Bool) → IsInTransaction first_view current outstanding → ⊥
  not_inside current outstanding inside = let first = ap (λ (session : SessionState). session.current) (first_session s shape one most) in let some = inside.inside in absurd cc

  first_tells : (stage : Stage) → IsAt shape.nodes s first_view stage → TellsStage [] (record { ended = []; current = None }) first_view.session stage
  first_tells outside at = (refl, record { current = refl; number = ap (λ (session : SessionState). session.begun) (first_session s shape one most) })
  first_tells (ready current entry) at = absurd (not_inside current false at.inside)
  first_tells (asking current what entries) at = absurd (not_inside current true at.inside)
  first_tells (working current entry) at = absurd (not_inside current true at.inside)
  first_tells (telling current outcome entries) at = absurd (not_inside current true at.inside)

  first_told : IsTold shape (first_replica_world shape) s
  unfolding gather
  first_told = record {
    few = omega arith;
    rests = λ idle. ap (λ (session : SessionState). session.waiting) (first_session s shape one most);
    tells = first_tells;
  }

pub told_at_first : ToldAtFirst
told_at_first shape size s one most = first_told shape s one most

-- ---- a message

module _ (shape : Shape) (counted : IsNodeCount shape.nodes) (world : ReplicaWorld) (sound : IsSoundWorld shape world) (told : SessionsAreTold shape world) where
  told_in : (s : ℕ) → 1 ≤ s → s ≤ SESSIONS_MAX → IsToldIn shape world s
  told_in s one most = view_from shape world s (told s one most)

  told_of : (txn : TxnId) → IsOfSession txn → IsToldIn shape world txn.session
  told_of txn of = let between = session_between txn of in told_in txn.session between.0 between.1

  -- the world once the message was taken off
  abbrev off : ℕ → ℕ → List Content → ReplicaWorld
  off from to rest = record world { mail = with_way world.mail from to rest }

  home_of_txn : (txn : TxnId) → txn.session % shape.nodes < shape.nodes
  home_of_txn txn = home_below shape.nodes txn.session counted

  within_from : (n m : ℕ) → n ≡ m → m < shape.nodes → n < shape.nodes
  within_from n m same below = below_from shape counted world sound n m same below

  to_replica : (from to : ℕ) (content : Content) (rest : List Content) (mark : Bool) (s : ℕ) → to < shape.nodes →
      IsToldIn shape (replica_acts (off from to rest) to (lone_step own_primary (world.replicas to) from content mark)) s → IsToldIn shape (after_message shape (off from to rest) from to content mark) s
  to_replica from to content rest mark s below is =
      subst (λ b. IsToldIn shape (cond b (front_acts (off from to rest) (delivered_front (nothing_noted shape) world.front from content mark))
      (replica_acts (off from to rest) to (lone_step own_primary (world.replicas to) from content mark))) s) (sym (home_apart shape.nodes to counted below).1) is

  participant : (from to : ℕ) (content : Content) (rest : List Content) (mark : Bool) (s : ℕ) → from < shape.nodes → to < shape.nodes → world.mail from to ≡ content ∷ rest → 1 ≤ s → s ≤ SESSIONS_MAX →
      LeavesControl (world.replicas to) (lone_step own_primary (world.replicas to) from content mark) → IsToldIn shape (after_message shape (off from to rest) from to content mark) s
  participant from to content rest mark s below within waits one most leaves =
      to_replica from to content rest mark s within (participant_told shape counted world sound from below to within content rest waits (lone_step own_primary (world.replicas to) from content mark) s leaves (told_in s one most))

  message_told : (from to : ℕ) (content : Content) (rest : List Content) (mark : Bool) → world.mail from to ≡ content ∷ rest → IsAddressed shape.nodes from to content → (s : ℕ) → 1 ≤ s → s ≤ SESSIONS_MAX →
      IsToldIn shape (after_message shape (off from to rest) from to content mark) s
  message_told from to (Command v txn number what) rest mark waits is s one most =
      let h : ℕ = txn.session % shape.nodes in
      let home : to ≡ h = is.receiver ∙ is.node in
      subst₂ (λ giver receiver. world.mail giver receiver ≡ Command v txn number what ∷ rest → IsToldIn shape (after_message shape (off giver receiver rest) giver receiver (Command v txn number what) mark) s)
      (sym is.giver) (sym home)
      (λ here. to_replica FRONT h (Command v txn number what) rest mark s (home_of_txn txn)
      (command_told shape counted world sound s v number txn what rest mark here (sound.stages s one most) (told_in s one most))) waits
  message_told from to (Outcome txn number outcome) rest mark waits is s one most =
      let h : ℕ = txn.session % shape.nodes in
      subst₂ (λ giver receiver. world.mail giver receiver ≡ Outcome txn number outcome ∷ rest → IsToldIn shape (after_message shape (off giver receiver rest) giver receiver (Outcome txn number outcome) mark) s)
      (sym is.giver) (sym is.receiver)
      (λ here. outcome_told shape counted world sound.sessions txn is.session number outcome rest here h mark s one (stage_of shape counted world sound txn is.session) (told_of txn is.session) (told_in s one most)) waits
  message_told from to (Ask v txn number table key op) rest mark waits is s one most =
      let below : from < shape.nodes = within_from from (txn.session % shape.nodes) is.0.giver (home_of_txn txn) in
      participant from to (Ask v txn number table key op) rest mark s below (within_from to v is.0.receiver is.0.node) waits one most
      (ask_leaves (world.replicas to) txn from v number table key op mark (few shape counted world sound from below))
  message_told from to (Prepare v txn) rest mark waits is s one most =
      let within : to < shape.nodes = within_from to v is.receiver is.node in
      let home : home_of (world.replicas to).control txn ≡ txn.session % shape.nodes = ap (λ n. txn.session % n) (nodes_are shape counted world sound to within) in
      participant from to (Prepare v txn) rest mark s (within_from from (txn.session % shape.nodes) is.giver (home_of_txn txn)) within waits one most
      (prepare_leaves (world.replicas to) txn from v mark (few shape counted world sound _ (within_from _ _ home (home_of_txn txn))))
  message_told from to (Finish v txn commit) rest mark waits is s one most =
      participant from to (Finish v txn commit) rest mark s (within_from from (txn.session % shape.nodes) is.giver (home_of_txn txn)) (within_from to v is.receiver is.node) waits one most
      (finish_leaves (world.replicas to) txn from v commit mark)
  message_told from to (Answer v txn number answer) rest mark waits is s one most =
      let h : ℕ = txn.session % shape.nodes in
      subst (λ receiver. world.mail from receiver ≡ Answer v txn number answer ∷ rest → IsToldIn shape (after_message shape (off from receiver rest) from receiver (Answer v txn number answer) mark) s)
      (sym is.receiver)
      (λ here. to_replica from h (Answer v txn number answer) rest mark s (home_of_txn txn)
      (answer_told shape counted world sound s from v number txn answer rest mark (within_from from v is.giver is.node) here
      (stage_of shape counted world sound txn is.session) (told_of txn is.session) (told_in s one most))) waits
  message_told from to (Vote v txn) rest mark waits is s one most =
      let h : ℕ = txn.session % shape.nodes in
      subst (λ receiver. world.mail from receiver ≡ Vote v txn ∷ rest → IsToldIn shape (after_message shape (off from receiver rest) from receiver (Vote v txn) mark) s)
      (sym is.receiver)
      (λ here. to_replica from h (Vote v txn) rest mark s (home_of_txn txn)
      (vote_told shape counted world sound s from v txn rest mark (within_from from v is.giver is.node) here
      (stage_of shape counted world sound txn is.session) (told_of txn is.session) (told_in s one most))) waits
  message_told from to content rest mark waits is s one most = absurd is

  -- an event
  event_told : (event : QueueEvent) → MayReplicas world event → (s : ℕ) → 1 ≤ s → s ≤ SESSIONS_MAX → IsToldIn shape (after_replica_event shape world event) s
  unfolding after_replica_event
  event_told (deliver from to mark) (content, rest, waits) s one most =
      subst (λ list. IsToldIn shape (after_first shape world from to mark list) s) (sym waits)
      (message_told from to content rest mark waits (first_addressed shape world from to content rest sound waits) s one most)
  event_told (take_line number text said) may s one most = line_told shape counted world sound.sessions s one most (sound.stages s one most) (told_in s one most) number text said
  event_told quieten may s one most = quiet_told shape world s (told_in s one most)
  event_told other may s one most = told_in s one most

pub events_keep_told : EventsKeepTold
events_keep_told shape world event size sound told may s one most =
    told_from shape (after_replica_event shape world event) s (event_told shape size.counted world sound told event may s one most)
