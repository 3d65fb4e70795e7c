-- A transaction that had ended at a quiet moment is gone: at every virtual node nothing of it is on its way, and no log has it open.
use Rattle.std.proofs.Common.{◌≡◌, ◌≢◌, ℕ, ◌+◌, ◌%◌, ◌<◌, ◌≤◌, Bool, true, false, eqb, ◌&&◌, ◌⊎◌, inl, inr, List, [], ◌∷◌, length, filter, refl, sym, ap, ◌∙◌, subst, subst₂, arith}
use Rattle.std.specs.List.{list_any}
use Rattle.std.proofs.lemmas.Bool.{true≢false, false≢true, cases_eq, cases_Bool, ne_eqb, cond-true, cond-false, and_parts, and_from, leb-true, eq-eqb}
use Rattle.cl_commit.specs.Life.{Life, to_come, open_as, committed, aborted, IsSoFar, MayStand, IsToCome, CommitsWhole, is_begin_of}
use Rattle.cl_commit.specs.Standing.{PartView, part_view, Standing, absent, ending, over, StandsSo, is_order, is_report}
use Rattle.cl_commit.proofs.Answers.{good-answer}
use Rattle.cl_commit.proofs.Beginning.{good-begin}
use Rattle.cl_commit.proofs.Commanded.{IsCommand}
use Rattle.cl_commit.proofs.Committing.{good-commit, good-abort}
use Rattle.cl_commit.proofs.Frames.{is_about, acted, way-apart}
use Rattle.cl_commit.proofs.Ordered.{IsOrdered, good-ask, good-prepare, good-finish}
use Rattle.cl_commit.proofs.Reports.{IsReported}
use Rattle.cl_commit.proofs.Votes.{good-vote}
use Rattle.cl_commit.proofs.Working.{good-work}
use Rattle.cl_commit.proofs.Worlds.{IsStepAbout, leaves-others, same_view}
use Rattle.cl_exchange.specs.Laws.{IsSoundWorld}
use Rattle.cl_front.specs.Front.{FrontState, delivered_front, fed_front}
use Rattle.cl_log.specs.Open.{is_open, is_under_way}
use Rattle.cl_log.proofs.Open.{is_open-stage}
use Rattle.cl_lone.specs.Lone.{lone_step}
use Rattle.cl_node.specs.Addressing.{home_in}
use Rattle.cl_roster.specs.Roster.{IsClusterSize}
use Rattle.cl_runs.specs.Queues.{QueueEvent, deliver, take_line}
use Rattle.cl_runs.specs.World.{Shape}
use Rattle.cl_steps.specs.declared.actors.TheConstants.{FRONT}
use Rattle.cl_steps.specs.declared.steps.Outgoing.{Outgoing}
use Rattle.cl_system.specs.Firm.{AreReordered, with_order}
use Rattle.cl_system.specs.Replicas.{ReplicaWorld, Mail, own_primary, nothing_noted, with_mail, with_way, front_acts, after_message, after_first, after_replica_event, MayReplicas}
use Rattle.cl_system.specs.Roles.{IsOfSession, IsAddressed}
use Rattle.cl_system.proofs.Reordering.{reordered_filter}
use Rattle.cl_told.specs.Told.{SessionsAreTold}
use Rattle.cl_types.proofs.PlacementLaws.{node_count-bounds, node_count-some}
use Rattle.cl_types.proofs.Transactions.{same_txn-itself, same_txn-true}
use Rattle.cl_types.specs.declared.limits.TheConstants.{SESSIONS_MAX}
use Rattle.cl_types.specs.declared.operations.Command.{Command as ClientCommand}
use Rattle.cl_types.specs.declared.operations.Command.TheVariants.{Begin, Work, Commit, Abort}
use Rattle.cl_types.specs.declared.operations.TxnId.{TxnId}
use Rattle.cl_types.specs.Transactions.{same_txn}
use Rattle.cl_wire.specs.Message.{Content, Command, Outcome, Ask, Answer, Prepare, Vote, Finish}
use Rattle.cl_exchange.proofs.Runs.{first_addressed}
use Rattle.cl_causes.proofs.Past.{IsPast, past_begun, past_closed, past_commanded}

-- nothing of the transaction is on its way to the virtual node or back, and its log has it not open
pub record IsClosed (view : PartView) : Type 0 where
  pub orders : view.orders ≡ []
  pub reports : view.reports ≡ []
  pub closed : is_under_way view.stage ≡ false

-- so it is everywhere
abbrev pub IsGone : Shape → ReplicaWorld → TxnId → Type 0
IsGone shape world txn = (v : ℕ) → v < shape.nodes → IsClosed (part_view shape.nodes world txn v)

-- then no log has it open
pub gone_not_open : (shape : Shape) (world : ReplicaWorld) (txn : TxnId) (v : ℕ) → v < shape.nodes → IsGone shape world txn → is_open (world.replicas v).part.log txn ≡ true → ⊥
gone_not_open shape world txn v below gone opened = true≢false (sym opened ∙ (is_open-stage (world.replicas v).part.log txn ∙ (gone v below).closed))

-- ---- another order

-- of what passes no message of a queue, none passes after
still_none : (before after : Mail) → AreReordered before after → (p : Content → Bool) (from to : ℕ) → filter p (before from to) ≡ [] →
    filter p (after from to) ≡ []
still_none before after order p from to none =
    reordered_filter before after order p from to (subst (λ list. length list ≤ 1) (sym none) (omega arith)) ∙ none

-- another order of what is on its way leaves it gone
pub reorder_gone : (shape : Shape) (world : ReplicaWorld) (mail : Mail) (txn : TxnId) → AreReordered world.mail mail → IsGone shape world txn →
    IsGone shape (with_order world mail) txn
reorder_gone shape world mail txn order gone v below =
    let is = gone v below in
    record {
      orders = still_none world.mail mail order (is_order v txn) (home_in shape.nodes txn) v is.orders;
      reports = still_none world.mail mail order (is_report v txn) v (home_in shape.nodes txn) is.reports;
      closed = is.closed;
    }

-- ---- at a quiet moment

closed_from : (v : ℕ) (txn : TxnId) (view : PartView) (standing : Standing) → view.orders ≡ [] → StandsSo v txn view standing →
    (standing ≡ absent) ⊎ ((b : Bool) × (standing ≡ ending b)) ⊎ (standing ≡ over) → IsClosed view
closed_from v txn view standing empty stands (inl is) =
    let still : StandsSo v txn view absent = subst (StandsSo v txn view) is stands in
    record { orders = still.orders; reports = still.reports; closed = ap is_under_way still.at }
closed_from v txn view standing empty stands (inr (inl is)) =
    let going : StandsSo v txn view (ending is.0) = subst (StandsSo v txn view) is.1 stands in
    let some = going.0.orders in
    absurd cc
closed_from v txn view standing empty stands (inr (inr is)) =
    let done : StandsSo v txn view over = subst (StandsSo v txn view) is stands in
    record { orders = done.0; reports = done.1; closed = elim done.2 [ inl ended ↦ ap is_under_way ended | inr unknown ↦ ap is_under_way unknown ] }

module _ (shape : Shape) (size : IsClusterSize shape.nodes shape.spares) (world : ReplicaWorld) (sound : IsSoundWorld shape world) (whole : CommitsWhole shape world) (told : SessionsAreTold shape world) where
  few : shape.nodes ≤ 8
  few = (node_count-bounds shape.nodes size.counted).1

  some : 0 < shape.nodes
  some = node_count-some shape.nodes size.counted

  home-below : (txn : TxnId) → home_in shape.nodes txn < shape.nodes
  home-below txn = let n = some in omega (arith, n)

  node-apart : (v : ℕ) → v < shape.nodes → eqb FRONT v ≡ false
  node-apart v below = let n = few in ne_eqb FRONT v (λ e. absurd (omega (arith, e, below, n)))

  apart-node : (v : ℕ) → v < shape.nodes → eqb v FRONT ≡ false
  apart-node v below = let n = few in ne_eqb v FRONT (λ e. absurd (omega (arith, e, below, n)))

  module _ (txn : TxnId) (of : IsOfSession txn) (past : IsPast world txn) (empty : (from to : ℕ) → world.mail from to ≡ []) where
    began : IsToCome shape.nodes world txn → ⊥
    began (inl later) = let begun = past_begun shape world sound told txn of past in absurd (omega (arith, later, begun))
    began (inr coming) = false≢true (ap (list_any (is_begin_of txn)) (sym (empty FRONT (home_in shape.nodes txn))) ∙ coming)

    by_life : (life : Life) → life ≡ (whole.lives txn of).life → (v : ℕ) (standing : Standing) → MayStand life v standing →
        (standing ≡ absent) ⊎ ((b : Bool) × (standing ≡ ending b)) ⊎ (standing ≡ over)
    by_life to_come is v standing may = inl may
    by_life (open_as entry) is v standing may =
        let so : IsSoFar shape.nodes world txn (open_as entry) = subst (IsSoFar shape.nodes world txn) (sym is) (whole.lives txn of).so_far in
        absurd (past_closed shape world sound told txn of past entry so.1)
    by_life committed is v standing (inl never) = inl never
    by_life committed is v standing (inr (inl end)) = inr (inl (true, end))
    by_life committed is v standing (inr (inr done)) = inr (inr done)
    by_life aborted is v standing (inl never) = inl never
    by_life aborted is v standing (inr (inl end)) = inr (inl (false, end))
    by_life aborted is v standing (inr (inr done)) = inr (inr done)

    pub gone_when_quiet : IsGone shape world txn
    gone_when_quiet v below =
        let stands = (whole.lives txn of).stands v below in
        closed_from v txn (part_view shape.nodes world txn v) stands.0 (ap (filter (is_order v txn)) (empty (home_in shape.nodes txn) v)) stands.1
        (by_life (whole.lives txn of).life refl v stands.0 stands.2)

  -- ---- a message comes to a replica

  -- the step is about this transaction
  record IsAboutOne (from to : ℕ) (content : Content) (mark : Bool) : Type 0 where
    txn : TxnId
    about : is_about txn content ≡ true
    step : IsStepAbout txn (world.replicas to) (lone_step own_primary (world.replicas to) from content mark)

  -- what is left to be shown of a message of this giver and receiver
  abbrev Steps : List Content → Content → Bool → ℕ → ℕ → Type 0
  Steps rest content mark from to = world.mail from to ≡ content ∷ rest → IsAboutOne from to content mark

  module _ (txn : TxnId) (own : IsOfSession txn) (rest : List Content) (mark : Bool) where
    abbrev home : ℕ
    home = home_in shape.nodes txn

    command-is : (v number : ℕ) (what : ClientCommand) → world.mail FRONT home ≡ Command v txn number what ∷ rest → IsCommand shape world txn v number what rest
    command-is v number what h =
        let range = and_parts _ _ own in
        let at = sound.stages txn.session (leb-true 1 txn.session range.0) (leb-true txn.session SESSIONS_MAX range.1) in
        record {
          waits = h;
          lives = whole.lives txn own;
          whole = whole.parts home (home-below txn);
          place = sound.places.replicas home (home-below txn);
          stage = at.0;
          at = at.1;
          few = few;
          not_front = node-apart home (home-below txn);
        }

    command-step : (v number : ℕ) (what : ClientCommand) → world.mail FRONT home ≡ Command v txn number what ∷ rest →
        IsStepAbout txn (world.replicas home) (lone_step own_primary (world.replicas home) FRONT (Command v txn number what) mark)
    command-step v number Begin h = (good-begin shape world txn v number rest (command-is v number Begin h) mark).about
    command-step v number (Work table key op) h = (good-work shape world txn v number table key op rest (command-is v number (Work table key op) h) mark).about
    command-step v number Commit h = (good-commit shape world txn v number rest (command-is v number Commit h) mark).about
    command-step v number Abort h = (good-abort shape world txn v number rest (command-is v number Abort h) mark).about

    reported : (w : ℕ) (content : Content) → w < shape.nodes → world.mail w home ≡ content ∷ rest → IsReported shape world txn w content rest
    reported w content below h = record { waits = h; lives = whole.lives txn own; whole = whole.parts home (home-below txn); place = sound.places.replicas home (home-below txn); below = below; few = few }

    ordered : (v : ℕ) (content : Content) → v < shape.nodes → world.mail home v ≡ content ∷ rest → IsOrdered shape world txn v content rest
    ordered v content below h = record { waits = h; lives = whole.lives txn own; whole = whole.parts v below; place = sound.places.replicas v below; below = below; home = home-below txn; few = few }

  about_one : (from to : ℕ) (content : Content) (rest : List Content) (mark : Bool) → to ≢ FRONT → IsAddressed shape.nodes from to content → Steps rest content mark from to
  about_one from to (Command v txn number what) rest mark apart is =
      subst₂ (Steps rest (Command v txn number what) mark) (sym is.giver) (sym (is.receiver ∙ is.node))
      (λ h. record { txn = txn; about = same_txn-itself txn; step = command-step txn is.session rest mark v number what h })
  about_one from to (Outcome txn number outcome) rest mark apart is = absurd (apart is.receiver)
  about_one from to (Answer w txn number answer) rest mark apart is =
      subst₂ (Steps rest (Answer w txn number answer) mark) (sym is.giver) (sym is.receiver)
      (λ h. record { txn = txn; about = same_txn-itself txn; step = (good-answer shape world txn w rest number answer mark (reported txn is.session rest mark w (Answer w txn number answer) is.node h)).about })
  about_one from to (Vote w txn) rest mark apart is =
      subst₂ (Steps rest (Vote w txn) mark) (sym is.giver) (sym is.receiver)
      (λ h. record { txn = txn; about = same_txn-itself txn; step = (good-vote shape world txn w rest (reported txn is.session rest mark w (Vote w txn) is.node h) mark).about })
  about_one from to (Ask v txn number table key op) rest mark apart is =
      subst₂ (Steps rest (Ask v txn number table key op) mark) (sym is.0.giver) (sym is.0.receiver)
      (λ h. record {
        txn = txn;
        about = same_txn-itself txn;
        step = (good-ask shape world txn v rest number table key op (ordered txn is.0.session rest mark v (Ask v txn number table key op) is.0.node h) mark).about;
      })
  about_one from to (Prepare v txn) rest mark apart is =
      subst₂ (Steps rest (Prepare v txn) mark) (sym is.giver) (sym is.receiver)
      (λ h. record { txn = txn; about = same_txn-itself txn; step = (good-prepare shape world txn v rest mark (ordered txn is.session rest mark v (Prepare v txn) is.node h)).about })
  about_one from to (Finish v txn commit) rest mark apart is =
      subst₂ (Steps rest (Finish v txn commit) mark) (sym is.giver) (sym is.receiver)
      (λ h. record { txn = txn; about = same_txn-itself txn; step = (good-finish shape world txn v rest commit (ordered txn is.session rest mark v (Finish v txn commit) is.node h) mark).about })
  about_one from to content rest mark apart is = absurd is

  -- ---- a transaction that is gone

  module _ (txn : TxnId) (of : IsOfSession txn) (past : IsPast world txn) (gone : IsGone shape world txn) where
    -- no message on its way is about it
    order_none : (v : ℕ) (content : Content) (rest : List Content) → v < shape.nodes → world.mail (home_in shape.nodes txn) v ≡ content ∷ rest → is_order v txn content ≡ true → ⊥
    order_none v content rest below h is =
        let some = ap (filter (is_order v txn)) h ∙ cond-true _ _ _ is in
        let none = (gone v below).orders in
        absurd cc

    report_none : (v : ℕ) (content : Content) (rest : List Content) → v < shape.nodes → world.mail v (home_in shape.nodes txn) ≡ content ∷ rest → is_report v txn content ≡ true → ⊥
    report_none v content rest below h is =
        let some = ap (filter (is_report v txn)) h ∙ cond-true _ _ _ is in
        let none = (gone v below).reports in
        absurd cc

    -- what is left to be shown of a message of this giver and receiver
    abbrev Foreign : List Content → Content → ℕ → ℕ → Type 0
    Foreign rest content from to = world.mail from to ≡ content ∷ rest → is_about txn content ≡ true → ⊥

    foreign : (from to : ℕ) (content : Content) (rest : List Content) → to ≢ FRONT → IsAddressed shape.nodes from to content → Foreign rest content from to
    foreign from to (Command v other number what) rest apart is =
        subst₂ (Foreign rest (Command v other number what)) (sym is.giver) (sym (is.receiver ∙ is.node))
        (λ h about. let same : txn ≡ other = same_txn-true txn other about in
        past_commanded shape world sound told txn of past v number what rest
        (subst (λ t. world.mail FRONT (t.session % shape.nodes) ≡ Command v t number what ∷ rest) (sym same) h))
    foreign from to (Outcome other number outcome) rest apart is = absurd (apart is.receiver)
    foreign from to (Answer w other number answer) rest apart is =
        subst₂ (Foreign rest (Answer w other number answer)) (sym is.giver) (sym is.receiver)
        (λ h about. let same : txn ≡ other = same_txn-true txn other about in
        report_none w (Answer w other number answer) rest is.node (subst (λ t. world.mail w (home_in shape.nodes t) ≡ Answer w other number answer ∷ rest) (sym same) h) (and_from _ _ (eq-eqb w w refl) about))
    foreign from to (Vote w other) rest apart is =
        subst₂ (Foreign rest (Vote w other)) (sym is.giver) (sym is.receiver)
        (λ h about. let same : txn ≡ other = same_txn-true txn other about in
        report_none w (Vote w other) rest is.node (subst (λ t. world.mail w (home_in shape.nodes t) ≡ Vote w other ∷ rest) (sym same) h) (and_from _ _ (eq-eqb w w refl) about))
    foreign from to (Ask v other number table key op) rest apart is =
        subst₂ (Foreign rest (Ask v other number table key op)) (sym is.0.giver) (sym is.0.receiver)
        (λ h about. let same : txn ≡ other = same_txn-true txn other about in
        order_none v (Ask v other number table key op) rest is.0.node (subst (λ t. world.mail (home_in shape.nodes t) v ≡ Ask v other number table key op ∷ rest) (sym same) h) (and_from _ _ (eq-eqb v v refl) about))
    foreign from to (Prepare v other) rest apart is =
        subst₂ (Foreign rest (Prepare v other)) (sym is.giver) (sym is.receiver)
        (λ h about. let same : txn ≡ other = same_txn-true txn other about in
        order_none v (Prepare v other) rest is.node (subst (λ t. world.mail (home_in shape.nodes t) v ≡ Prepare v other ∷ rest) (sym same) h) (and_from _ _ (eq-eqb v v refl) about))
    foreign from to (Finish v other commit) rest apart is =
        subst₂ (Foreign rest (Finish v other commit)) (sym is.giver) (sym is.receiver)
        (λ h about. let same : txn ≡ other = same_txn-true txn other about in
        order_none v (Finish v other commit) rest is.node (subst (λ t. world.mail (home_in shape.nodes t) v ≡ Finish v other commit ∷ rest) (sym same) h) (and_from _ _ (eq-eqb v v refl) about))
    foreign from to content rest apart is = absurd is

    -- a step of a replica leaves it
    replica_leaves : (from to : ℕ) (content : Content) (rest : List Content) (mark : Bool) → to ≢ FRONT → IsAddressed shape.nodes from to content → world.mail from to ≡ content ∷ rest →
        IsGone shape (acted world from to rest (lone_step own_primary (world.replicas to) from content mark)) txn
    replica_leaves from to content rest mark apart is h v below =
        let one : IsAboutOne from to content mark = about_one from to content rest mark apart is h in
        let differ : same_txn one.txn txn ≡ false = elim (cases_Bool (same_txn one.txn txn)) [
          | inl same ↦ absurd (foreign from to content rest apart is h (subst (λ t. is_about t content ≡ true) (same_txn-true one.txn txn same) one.about))
          | inr other ↦ other
        ] in
        let left = leaves-others shape.nodes world from to content rest h (lone_step own_primary (world.replicas to) from content mark) one.txn one.about one.step txn differ in
        subst IsClosed (sym (left.view v below)) (gone v below)

    -- so does a step of the front
    front_leaves : (mail : Mail) (front : FrontState) (sends : List Outgoing) (lines : ℕ) → ((a b : ℕ) → eqb b FRONT ≡ false → mail a b ≡ world.mail a b) →
        IsGone shape (record world { front = front; mail = with_mail mail FRONT sends; lines = lines }) txn
    front_leaves mail front sends lines kept v below =
        subst IsClosed (sym (same_view (part_view shape.nodes (record world { front = front; mail = with_mail mail FRONT sends; lines = lines }) txn v) (part_view shape.nodes world txn v)
        (ap (filter (is_order v txn)) (cond-false _ _ _ (apart-node (home_in shape.nodes txn) (home-below txn)) ∙ kept (home_in shape.nodes txn) v (apart-node v below)))
        (ap (filter (is_report v txn)) (cond-false _ _ _ (apart-node v below) ∙ kept v (home_in shape.nodes txn) (apart-node (home_in shape.nodes txn) (home-below txn)))) refl)) (gone v below)

    message_leaves : (from to : ℕ) (content : Content) (rest : List Content) (mark : Bool) → IsAddressed shape.nodes from to content → world.mail from to ≡ content ∷ rest →
        IsGone shape (after_message shape (record world { mail = with_way world.mail from to rest }) from to content mark) txn
    message_leaves from to content rest mark is h = by (cases_eq to FRONT)
      where
        by : (to ≡ FRONT) ⊎ (to ≢ FRONT) → IsGone shape (after_message shape (record world { mail = with_way world.mail from to rest }) from to content mark) txn
        by (inl same) =
            subst (λ t. IsGone shape (after_message shape (record world { mail = with_way world.mail from t rest }) from t content mark) txn) (sym same)
            (front_leaves (with_way world.mail from FRONT rest) (delivered_front (nothing_noted shape) world.front from content mark).state (delivered_front (nothing_noted shape) world.front from content mark).step.sends world.lines (λ a b apart. way-apart world.mail from FRONT rest a b (ap (λ c. c && eqb a from) apart)))
        by (inr apart) =
            subst (λ w. IsGone shape w txn) (sym (cond-false (eqb to FRONT) (front_acts (record world { mail = with_way world.mail from to rest }) (delivered_front (nothing_noted shape) world.front from content mark))
            (acted world from to rest (lone_step own_primary (world.replicas to) from content mark)) (ne_eqb to FRONT apart)))
            (replica_leaves from to content rest mark apart is h)

    -- every event leaves it gone
    pub stays_gone : (event : QueueEvent) → MayReplicas world event → IsGone shape (after_replica_event shape world event) txn
    unfolding after_replica_event
    stays_gone (deliver from to mark) may =
        subst (λ list. IsGone shape (after_first shape world from to mark list) txn) (sym may.2)
        (message_leaves from to may.0 may.1 mark (first_addressed shape world from to may.0 may.1 sound may.2) may.2)
    stays_gone (take_line number text said) may = front_leaves world.mail (fed_front (nothing_noted shape) world.front number text said).state (fed_front (nothing_noted shape) world.front number text said).step.sends (world.lines + 1) (λ a b apart. refl)
    stays_gone other may = gone
