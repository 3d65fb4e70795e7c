-- In every firm run each log is tidy.
use Rattle.std.proofs.Common.{◌≡◌, ℕ, ◌<◌, eqb, Bool, true, false, ◌⊎◌, inl, inr, List, [], ◌∷◌, ◌++◌, All, refl, sym, ◌∙◌, ap, subst}
use Rattle.std.proofs.lemmas.Bool.{eqb-true, eqb-false, eq-eqb, and_from, cond_both, cases_Bool}
use Rattle.std.proofs.lemmas.List.Elements.{All-head}
use Rattle.std.proofs.lemmas.List.Sums.{fold-append}
use Rattle.cl_commit.proofs.Stages.{tests-running, unprepared-not_prepared}
use Rattle.cl_commit.specs.Laws.{AbortedStayOut}
use Rattle.cl_commit.specs.Life.{CommitsWhole, aborted, IsSoFar}
use Rattle.cl_commit.specs.Standing.{is_order}
use Rattle.cl_exchange.specs.Laws.{IsSoundWorld}
use Rattle.cl_front.specs.Front.{delivered_front}
use Rattle.cl_ledger.proofs.Standings.{ask_stands, prepare_stands}
use Rattle.cl_ledger.specs.Laws.{IsOrderedRun, FirmRunsKeepOneOrder}
use Rattle.cl_log.specs.Open.{is_among, has_begun, has_prepared, stage_of}
use Rattle.cl_lone.specs.Lone.{lone_step}
use Rattle.cl_node.specs.Addressing.{home_in}
use Rattle.cl_roster.specs.Roster.{IsClusterSize}
use Rattle.cl_runs.specs.Queues.{QueueEvent, deliver, take_line, quieten}
use Rattle.cl_runs.specs.World.{Shape, EachMayHappen, with_firm}
use Rattle.cl_steps.specs.declared.actors.TheConstants.{FRONT}
use Rattle.cl_system.proofs.Places.{receiver_below}
use Rattle.cl_system.specs.Firm.{FirmWorld, FirmEvent, happens, reorder, join, MayFirm, after_firm_event, first_firm_world, firm_world_after, IsFirmRun}
use Rattle.cl_system.specs.Replicas.{ReplicaWorld, nothing_noted, own_primary, with_way, front_acts, replica_acts, after_message, after_first, after_replica_event}
use Rattle.cl_system.specs.Roles.{IsOfSession, IsAddressed}
use Rattle.cl_types.proofs.Transactions.{same_txn-itself}
use Rattle.cl_types.specs.declared.operations.TxnId.{TxnId}
use Rattle.cl_vnode.specs.Replica.{ReplicaState}
use Rattle.cl_vnode.specs.Step.{Stepped}
use Rattle.cl_wire.specs.Message.{Content, Command, Vote, Ask, Prepare}
use Rattle.cl_held.proofs.Lives.{not_over, member_voted}
use Rattle.cl_held.proofs.Runs.{each_parts, holds_of_all}
use Rattle.cl_held.proofs.Steps.{Comes, IsTurn, turn}
use Rattle.cl_held.proofs.Tidy.{IsTidy, tidy_none}

-- each log is tidy
abbrev pub AreTidy : Shape → ReplicaWorld → Type 0
AreTidy shape world = (v : ℕ) → v < shape.nodes → IsTidy shape.nodes v world.history (world.replicas v).part.log

-- after an event each log is tidy, under what was decided before, and where a transaction was decided in it, all stand as before
record IsTurned (shape : Shape) (before after : ReplicaWorld) : Type 0 where
  tidy : (v : ℕ) → v < shape.nodes → IsTidy shape.nodes v before.history (after.replicas v).part.log
  decides : (after.history ≡ before.history) ⊎
      ((v : ℕ) (txn : TxnId) → stage_of (after.replicas v).part.log txn ≡ stage_of (before.replicas v).part.log txn)

-- ---- what comes

module _ (shape : Shape) (world : ReplicaWorld) (whole : CommitsWhole shape world) (from to : ℕ) (rest : List Content) where
  -- an order is one of its virtual node
  own_order : (w : ℕ) (txn : TxnId) → is_order w txn (Prepare w txn) ≡ true
  own_order w txn = and_from (eqb w w) _ (eq-eqb w w refl) (same_txn-itself txn)

  -- it comes from the home of its transaction
  from_home : (w : ℕ) (txn : TxnId) (content : Content) → world.mail from to ≡ content ∷ rest → from ≡ home_in shape.nodes txn → to ≡ w →
      world.mail (home_in shape.nodes txn) w ≡ content ∷ rest
  from_home w txn content here giver receiver = ap (λ n. world.mail n w) (sym giver) ∙ ap (world.mail from) (sym receiver) ∙ here

  -- what comes, comes as a tidy log needs it
  comes : (content : Content) → world.mail from to ≡ content ∷ rest → IsAddressed shape.nodes from to content →
      Comes shape.nodes to world.history (world.replicas to).part content
  comes (Command w txn number what) here is = (sym (is.receiver ∙ is.node), is.session)
  comes (Vote w txn) here is = (sym is.receiver, is.session)
  comes (Ask w txn number table key op) here is =
      let stands = ask_stands shape world txn w is.0.node (whole.lives txn is.0.session) number table key op rest
      (from_home w txn (Ask w txn number table key op) here is.0.giver is.0.receiver) (own_order w txn) in (
        subst (λ n. has_prepared (world.replicas n).part.log txn ≡ false) (sym is.0.receiver) (unprepared-not_prepared (world.replicas w).part.log txn stands.1),
        stands.0.outside,
      )
  comes (Prepare w txn) here is =
      let runs = prepare_stands shape world txn w is.node (whole.lives txn is.session) rest (from_home w txn (Prepare w txn) here is.giver is.receiver) (own_order w txn) in
      subst (λ n. has_prepared (world.replicas n).part.log txn ≡ false) (sym is.receiver) (tests-running (world.replicas w).part.log txn runs).prepared_is
  comes content here is = tt

-- ---- an event

module _ (shape : Shape) (size : IsClusterSize shape.nodes shape.spares) (world : ReplicaWorld) (sound : IsSoundWorld shape world) (whole : CommitsWhole shape world)
    (tidy : AreTidy shape world) where
  -- where logs and decisions stay
  stays_turned : (after : ReplicaWorld) → after.replicas ≡ world.replicas → after.history ≡ world.history → IsTurned shape world after
  stays_turned after replicas history = record {
    tidy = λ v below. subst (λ (rs : ℕ → ReplicaState). IsTidy shape.nodes v world.history (rs v).part.log) (sym replicas) (tidy v below);
    decides = inl history;
  }

  module _ (from to : ℕ) (rest : List Content) where
    -- the system before the step
    abbrev left : ReplicaWorld
    left = record world { mail = with_way world.mail from to rest }

    -- a replica has taken a step
    replica_turned : to < shape.nodes → (next : Stepped) → IsTurn shape.nodes to world.history (world.replicas to).part next → IsTurned shape world (replica_acts left to next)
    replica_turned below next is = record {
      tidy = λ v within.
          cond_both (eqb v to) next.state (world.replicas v) (λ (one : ReplicaState). IsTidy shape.nodes v world.history one.part.log)
          (λ here. subst (λ n. IsTidy shape.nodes n world.history next.state.part.log) (sym (eqb-true v to here)) is.tidy) (λ _. tidy v within);
      decides = by is.decides;
    } where
      by : (next.step.firm ≡ []) ⊎ ((txn : TxnId) → stage_of next.state.part.log txn ≡ stage_of (world.replicas to).part.log txn) →
          ((replica_acts left to next).history ≡ world.history) ⊎
          ((v : ℕ) (txn : TxnId) → stage_of ((replica_acts left to next).replicas v).part.log txn ≡ stage_of (world.replicas v).part.log txn)
      by (inl none) = inl (ap (with_firm world.history) none)
      by (inr same) = inr (λ v txn.
          cond_both (eqb v to) next.state (world.replicas v) (λ (one : ReplicaState). stage_of one.part.log txn ≡ stage_of (world.replicas v).part.log txn)
          (λ here. same txn ∙ ap (λ n. stage_of (world.replicas n).part.log txn) (sym (eqb-true v to here))) (λ _. refl))

    -- a message has come
    message_turned : (content : Content) (mark : Bool) → world.mail from to ≡ content ∷ rest → IsTurned shape world (after_message shape left from to content mark)
    message_turned content mark here =
        let is : IsAddressed shape.nodes from to content =
        All-head (IsAddressed shape.nodes from to) content rest (subst (All (IsAddressed shape.nodes from to)) here (sound.places.messages from to)) in
        cond_both (eqb to FRONT) (front_acts left (delivered_front (nothing_noted shape) left.front from content mark))
        (replica_acts left to (lone_step own_primary (left.replicas to) from content mark)) (IsTurned shape world)
        (λ _. stays_turned _ refl refl)
        (λ node.
        let below : to < shape.nodes = receiver_below shape.nodes from to content size.counted (eqb-false to FRONT node) is in
        replica_turned below (lone_step own_primary (world.replicas to) from content mark)
        (turn shape.nodes to world.history own_primary (world.replicas to) (tidy to below) (whole.parts to below) from content mark
        (comes shape world whole from to rest content here is)))

  -- the first message has
  first_turned : (from to : ℕ) (mark : Bool) (queue : List Content) → world.mail from to ≡ queue → IsTurned shape world (after_first shape world from to mark queue)
  first_turned from to mark [] here = stays_turned world refl refl
  first_turned from to mark (content ∷ rest) here = message_turned from to rest content mark here

  -- any event
  event_turned : (event : QueueEvent) → IsTurned shape world (after_replica_event shape world event)
  unfolding after_replica_event
  event_turned (deliver from to mark) = first_turned from to mark (world.mail from to) refl
  event_turned (take_line number text said) = stays_turned _ refl refl
  event_turned quieten = stays_turned _ refl refl
  event_turned other = stays_turned world refl refl

-- after it each log is tidy, under what is decided now
tidy_after : (shape : Shape) (before after : ReplicaWorld) → CommitsWhole shape before → CommitsWhole shape after →
    ((txn : TxnId) → IsSoFar shape.nodes before txn aborted → IsSoFar shape.nodes after txn aborted) → IsTurned shape before after → AreTidy shape after
tidy_after shape before after whole later stay is v below = record {
  fresh = (is.tidy v below).fresh;
  homes = (is.tidy v below).homes;
  voted = λ txn own member begun. elim (cases_Bool (is_among txn before.history)) [
    | inl was ↦ (is.tidy v below).voted txn own was begun
    | inr outside ↦ now txn own member outside begun is.decides
  ];
} where
  now : (txn : TxnId) → IsOfSession txn → is_among txn after.history ≡ true → is_among txn before.history ≡ false → has_begun (after.replicas v).part.log txn ≡ true →
      (after.history ≡ before.history) ⊎ ((v : ℕ) (txn : TxnId) → stage_of (after.replicas v).part.log txn ≡ stage_of (before.replicas v).part.log txn) →
      has_prepared (after.replicas v).part.log txn ≡ true
  now txn own member outside begun (inl same) = absurd (let e : true ≡ false = sym member ∙ ap (is_among txn) same ∙ outside in cc)
  now txn own member outside begun (inr stays) =
      member_voted shape after txn (later.lives txn own) v below member
      (λ ended. not_over shape before txn (whole.lives txn own) v below outside
      (λ out. let e : true ≡ false = sym member ∙ (stay txn out).2 in cc) (sym (stays v txn) ∙ ended))
      begun

-- ---- firm runs

-- an event of the firm system leaves the logs tidy
event_tidy : AbortedStayOut → (shape : Shape) → IsClusterSize shape.nodes shape.spares → (state : FirmWorld) (event : FirmEvent) → IsSoundWorld shape state.world →
    CommitsWhole shape state.world → CommitsWhole shape (after_firm_event shape state event).world → MayFirm state event → AreTidy shape state.world →
    AreTidy shape (after_firm_event shape state event).world
unfolding after_firm_event
event_tidy out shape size state (happens event) sound whole later may tidy =
    tidy_after shape state.world (after_replica_event shape state.world event) whole later
    (λ txn is. out shape state.world event txn size sound whole may.0 is) (event_turned shape size state.world sound whole tidy event)
event_tidy out shape size state (reorder mail) sound whole later may tidy = tidy
event_tidy out shape size state (join txn) sound whole later may tidy = tidy

module _ (order : FirmRunsKeepOneOrder) (out : AbortedStayOut) (shape : Shape) (size : IsClusterSize shape.nodes shape.spares) where
  -- the system after one event more
  firm_push : (events : List FirmEvent) (event : FirmEvent) → firm_world_after shape (events ++ event ∷ []) ≡ after_firm_event shape (firm_world_after shape events) event
  unfolding firm_world_after
  firm_push events event = fold-append (after_firm_event shape) (first_firm_world shape) events (event ∷ [])

  -- the run with an event more
  tidy_more : (events : List FirmEvent) (event : FirmEvent) → EachMayHappen MayFirm (after_firm_event shape) (events ++ event ∷ []) (first_firm_world shape) →
      AreTidy shape (firm_world_after shape events).world → AreTidy shape (firm_world_after shape (events ++ event ∷ [])).world
  unfolding IsFirmRun firm_world_after
  tidy_more events event longer tidy =
      let parts = each_parts MayFirm (after_firm_event shape) events (event ∷ []) (first_firm_world shape) longer in
      let ordered : IsOrderedRun shape events = order shape events size parts.0 in
      let later : IsOrderedRun shape (events ++ event ∷ []) = order shape (events ++ event ∷ []) size longer in
      subst (λ (state : FirmWorld). AreTidy shape state.world) (sym (firm_push events event))
      (event_tidy out shape size (firm_world_after shape events) event ordered.sound ordered.commits
      (subst (λ (state : FirmWorld). CommitsWhole shape state.world) (firm_push events event) later.commits) parts.1.0 tidy)

  -- after any firm run each log is tidy
  pub firm_tidy : (events : List FirmEvent) → IsFirmRun shape events → AreTidy shape (firm_world_after shape events).world
  unfolding IsFirmRun firm_world_after
  firm_tidy events run =
      holds_of_all MayFirm (after_firm_event shape) (first_firm_world shape) (λ events. AreTidy shape (firm_world_after shape events).world) tidy_more
      (λ v below. tidy_none shape.nodes v []) events run
