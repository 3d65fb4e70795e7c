-- Each event leaves commits whole, and what is settled settled.
use Rattle.std.proofs.Common.{◌≡◌, ℕ, zero, suc, ◌+◌, ◌-◌, ◌<◌, ◌≤◌, Bool, true, false, eqb, ◌&&◌, inl, inr, List, [], ◌∷◌, replicate, All, slice_index_or, Result, Ok, Err, refl, sym, ap, ◌∙◌, subst, subst₂, arith}
use Rattle.std.proofs.lemmas.Bool.{cases_eq, cond_both, cond-false, ne_eqb, and_parts, leb-true, true≢false, false≢true}
use Rattle.std.proofs.lemmas.List.Elements.{All-nil, All-head, All-tail}
use Rattle.cl_actor.specs.Core.{CoreStep}
use Rattle.cl_exchange.specs.Laws.{IsSoundWorld}
use Rattle.cl_front.specs.Front.{FrontState, stepped, turns_with, with_entries, fed_as, fed_front, delivered_content, delivered_front, quiet_front}
use Rattle.cl_front.specs.Session.{SessionState, no_session, with_waiting, heard, is_awaited_in}
use Rattle.cl_front.specs.Sessions.{session_in, is_awaited}
use Rattle.cl_lines.specs.Line.{line_of}
use Rattle.cl_lines.specs.declared.line.Line.{Line}
use Rattle.cl_lines.specs.declared.line.Line.TheVariants.{Client, Operator}
use Rattle.cl_lines.specs.declared.line.LineFault.{LineFault}
use Rattle.cl_lines.specs.declared.out.Out.{Out}
use Rattle.cl_lines.proofs.Spellings.{spells_from_line}
use Rattle.cl_log.specs.Open.{has_begun, stage_of}
use Rattle.cl_log.proofs.Open.{has_ended-nil}
use Rattle.cl_log.specs.declared.stage.Stage.TheVariants.{Unknown}
use Rattle.cl_lone.specs.Lone.{lone_step}
use Rattle.cl_node.specs.Addressing.{home_in}
use Rattle.cl_roster.specs.Roster.{IsClusterSize}
use Rattle.cl_runs.specs.Queues.{QueueEvent, deliver, take_line, quieten}
use Rattle.cl_runs.specs.World.{Shape}
use Rattle.cl_serial.specs.Transcript.{fed}
use Rattle.cl_steps.specs.declared.actors.TheConstants.{FRONT}
use Rattle.cl_system.specs.Replicas.{ReplicaWorld, nothing_noted, own_primary, with_way, after_first, after_message, after_replica_event, first_replica_world, MayReplicas}
use Rattle.cl_system.specs.Roles.{IsOfSession, IsAddressed}
use Rattle.cl_types.specs.declared.limits.TheConstants.{SESSIONS_MAX}
use Rattle.cl_types.specs.declared.operations.Command.{Command as ClientCommand}
use Rattle.cl_types.specs.declared.operations.Command.TheVariants.{Begin, Work, Commit, Abort}
use Rattle.cl_types.specs.declared.operations.TxnId.{TxnId}
use Rattle.cl_types.specs.Names.{is_between}
use Rattle.cl_types.proofs.PlacementLaws.{node_count-some, node_count-bounds}
use Rattle.cl_types.proofs.Transactions.{same_txn-itself}
use Rattle.cl_wire.specs.Message.{Content, Command, Outcome, Ask, Answer, Prepare, Vote, Finish}
use Rattle.cl_commit.specs.Laws.{WholeAtFirst, EventsKeepWhole, AbortedStayOut}
use Rattle.cl_commit.specs.Life.{to_come, aborted, Lives, IsTrueOutcome, IsWholePart, CommitsWhole}
use Rattle.cl_commit.specs.Standing.{absent}
use Rattle.cl_commit.proofs.Answers.{good-answer}
use Rattle.cl_commit.proofs.Beginning.{good-begin}
use Rattle.cl_commit.proofs.Commanded.{IsCommand}
use Rattle.cl_commit.proofs.Committing.{good-abort, good-commit}
use Rattle.cl_commit.proofs.Frames.{is_about, acted, way-apart}
use Rattle.cl_commit.proofs.Fronts.{IsMove, no-move, turned-move, settled-front, whole-front}
use Rattle.cl_commit.proofs.Ordered.{IsOrdered, good-ask, good-prepare, good-finish}
use Rattle.cl_commit.proofs.Reports.{IsReported}
use Rattle.cl_commit.proofs.Turns.{taken-turned, heard-turned}
use Rattle.cl_commit.proofs.Votes.{good-vote}
use Rattle.cl_commit.proofs.Whole.{KeepsSettled, outcome-stays, IsGoodStep, all-settled, whole-acted}
use Rattle.cl_commit.proofs.Working.{good-work}
use Rattle.cl_commit.proofs.Worlds.{lives-left}

-- commits are whole after, and what was settled is so
pub record IsKept (shape : Shape) (before after : ReplicaWorld) : Type 0 where
  pub whole : CommitsWhole shape after
  pub settled : (txn : TxnId) → KeepsSettled shape.nodes before after txn

module _ (shape : Shape) (size : IsClusterSize shape.nodes shape.spares) (world : ReplicaWorld) (sound : IsSoundWorld shape world) (whole : CommitsWhole shape world) where
  few : shape.nodes ≤ 8
  few = (node_count-bounds shape.nodes size.counted).1

  some : 0 < shape.nodes
  some = node_count-some shape.nodes size.counted

  home-below : (txn : TxnId) → home_in shape.nodes txn < shape.nodes
  home-below txn = let n = some in omega (arith, n)

  node-apart : (v : ℕ) → v < shape.nodes → eqb FRONT v ≡ false
  node-apart v below = let n = few in ne_eqb FRONT v (λ e. absurd (omega (arith, e, below, n)))

  -- ---- a message comes to a replica

  kept-acted : (from to : ℕ) (content : Content) (rest : List Content) → world.mail from to ≡ content ∷ rest → (txn : TxnId) (mark : Bool) → is_about txn content ≡ true → to < shape.nodes →
      IsGoodStep shape world from to rest txn (lone_step own_primary (world.replicas to) from content mark) → IsKept shape world (acted world from to rest (lone_step own_primary (world.replicas to) from content mark))
  kept-acted from to content rest h txn mark about below good = record {
    whole = whole-acted shape world from to content rest h txn (lone_step own_primary (world.replicas to) from content mark) about good (node-apart to below) whole;
    settled = all-settled shape world from to content rest h txn (lone_step own_primary (world.replicas to) from content mark) about good;
  }

  module _ (txn : TxnId) (own : IsOfSession txn) (rest : List Content) (mark : Bool) where
    abbrev home : ℕ
    home = home_in shape.nodes txn

    -- a command
    command-is : (v number : ℕ) (what : ClientCommand) → world.mail FRONT home ≡ Command v txn number what ∷ rest → IsCommand shape world txn v number what rest
    command-is v number what h =
        let range = and_parts _ _ own in
        let at = sound.stages txn.session (leb-true 1 txn.session range.0) (leb-true txn.session SESSIONS_MAX range.1) in
        record {
          waits = h;
          lives = whole.lives txn own;
          whole = whole.parts home (home-below txn);
          place = sound.places.replicas home (home-below txn);
          stage = at.0;
          at = at.1;
          few = few;
          not_front = node-apart home (home-below txn);
        }

    good-command : (v number : ℕ) (what : ClientCommand) → world.mail FRONT home ≡ Command v txn number what ∷ rest →
        IsGoodStep shape world FRONT home rest txn (lone_step own_primary (world.replicas home) FRONT (Command v txn number what) mark)
    good-command v number Begin h = good-begin shape world txn v number rest (command-is v number Begin h) mark
    good-command v number (Work table key op) h = good-work shape world txn v number table key op rest (command-is v number (Work table key op) h) mark
    good-command v number Commit h = good-commit shape world txn v number rest (command-is v number Commit h) mark
    good-command v number Abort h = good-abort shape world txn v number rest (command-is v number Abort h) mark

    reported : (w : ℕ) (content : Content) → w < shape.nodes → world.mail w home ≡ content ∷ rest → IsReported shape world txn w content rest
    reported w content below h = record { waits = h; lives = whole.lives txn own; whole = whole.parts home (home-below txn); place = sound.places.replicas home (home-below txn); below = below; few = few }

    ordered : (v : ℕ) (content : Content) → v < shape.nodes → world.mail home v ≡ content ∷ rest → IsOrdered shape world txn v content rest
    ordered v content below h = record { waits = h; lives = whole.lives txn own; whole = whole.parts v below; place = sound.places.replicas v below; below = below; home = home-below txn; few = few }

  -- what is left to be shown of a message of this giver and receiver
  abbrev Keeps : List Content → Content → Bool → ℕ → ℕ → Type 0
  Keeps rest content mark from to = world.mail from to ≡ content ∷ rest → IsKept shape world (acted world from to rest (lone_step own_primary (world.replicas to) from content mark))

  to-replica : (from to : ℕ) (content : Content) (rest : List Content) (mark : Bool) → (to ≡ FRONT → ⊥) → IsAddressed shape.nodes from to content → Keeps rest content mark from to
  to-replica from to (Command v txn number what) rest mark apart is =
      subst₂ (Keeps rest (Command v txn number what) mark) (sym is.giver) (sym (is.receiver ∙ is.node))
      (λ h. kept-acted FRONT (home_in shape.nodes txn) (Command v txn number what) rest h txn mark (same_txn-itself txn) (home-below txn) (good-command txn is.session rest mark v number what h))
  to-replica from to (Outcome txn number outcome) rest mark apart is = absurd (apart is.receiver)
  to-replica from to (Answer w txn number answer) rest mark apart is =
      subst₂ (Keeps rest (Answer w txn number answer) mark) (sym is.giver) (sym is.receiver)
      (λ h. kept-acted w (home_in shape.nodes txn) (Answer w txn number answer) rest h txn mark (same_txn-itself txn) (home-below txn)
      (good-answer shape world txn w rest number answer mark (reported txn is.session rest mark w (Answer w txn number answer) is.node h)))
  to-replica from to (Vote w txn) rest mark apart is =
      subst₂ (Keeps rest (Vote w txn) mark) (sym is.giver) (sym is.receiver)
      (λ h. kept-acted w (home_in shape.nodes txn) (Vote w txn) rest h txn mark (same_txn-itself txn) (home-below txn)
      (good-vote shape world txn w rest (reported txn is.session rest mark w (Vote w txn) is.node h) mark))
  to-replica from to (Ask v txn number table key op) rest mark apart is =
      subst₂ (Keeps rest (Ask v txn number table key op) mark) (sym is.0.giver) (sym is.0.receiver)
      (λ h. kept-acted (home_in shape.nodes txn) v (Ask v txn number table key op) rest h txn mark (same_txn-itself txn) is.0.node
      (good-ask shape world txn v rest number table key op (ordered txn is.0.session rest mark v (Ask v txn number table key op) is.0.node h) mark))
  to-replica from to (Prepare v txn) rest mark apart is =
      subst₂ (Keeps rest (Prepare v txn) mark) (sym is.giver) (sym is.receiver)
      (λ h. kept-acted (home_in shape.nodes txn) v (Prepare v txn) rest h txn mark (same_txn-itself txn) is.node
      (good-prepare shape world txn v rest mark (ordered txn is.session rest mark v (Prepare v txn) is.node h)))
  to-replica from to (Finish v txn commit) rest mark apart is =
      subst₂ (Keeps rest (Finish v txn commit) mark) (sym is.giver) (sym is.receiver)
      (λ h. kept-acted (home_in shape.nodes txn) v (Finish v txn commit) rest h txn mark (same_txn-itself txn) is.node
      (good-finish shape world txn v rest commit (ordered txn is.session rest mark v (Finish v txn commit) is.node h) mark))
  to-replica from to content rest mark apart is = absurd is

  -- ---- something comes to the front

  move-heard : (txn : TxnId) (number : ℕ) (outcome : _) → is_awaited world.front.sessions txn number ≡ true →
      IsMove shape.nodes world.front.sessions (stepped world.front txn.session (heard (nothing_noted shape) txn.session (session_in world.front.sessions txn.session) outcome)).state.sessions
      (stepped world.front txn.session (heard (nothing_noted shape) txn.session (session_in world.front.sessions txn.session) outcome)).step.sends
  move-heard txn number outcome awaited =
      let latest = (and_parts (is_between 1 SESSIONS_MAX txn.session && eqb (session_in world.front.sessions txn.session).begun txn.number) (is_awaited_in (session_in world.front.sessions txn.session).current number) awaited).0 in
      let range = and_parts _ _ (and_parts (is_between 1 SESSIONS_MAX txn.session) (eqb (session_in world.front.sessions txn.session).begun txn.number) latest).0 in
      turned-move shape.nodes world.front.sessions txn.session (heard (nothing_noted shape) txn.session (session_in world.front.sessions txn.session) outcome)
      (leb-true 1 txn.session range.0) (leb-true txn.session SESSIONS_MAX range.1) sound.sessions (heard-turned shape txn.session (session_in world.front.sessions txn.session) outcome)

  move-delivered : (content : Content) → IsMove shape.nodes world.front.sessions (delivered_content (nothing_noted shape) world.front content).state.sessions (delivered_content (nothing_noted shape) world.front content).step.sends
  move-delivered (Outcome txn number outcome) =
      cond_both (is_awaited world.front.sessions txn number) _ _ (λ (done : CoreStep FrontState). IsMove shape.nodes world.front.sessions done.state.sessions done.step.sends)
      (λ awaited. move-heard txn number outcome awaited) (λ strange. no-move shape.nodes world.front.sessions)
  move-delivered content = no-move shape.nodes world.front.sessions

  move-fed_as : (line : ℕ) (text : List ℕ) (reading : Result Line LineFault) → line_of text ≡ reading →
      IsMove shape.nodes world.front.sessions (fed_as (nothing_noted shape) (with_entries world.front (fed line text ∷ [])) line reading).state.sessions
      (fed_as (nothing_noted shape) (with_entries world.front (fed line text ∷ [])) line reading).step.sends
  move-fed_as line text (Ok (Client s command)) read =
      let spells = spells_from_line text s command read in
      turned-move shape.nodes world.front.sessions s (turns_with (nothing_noted shape) (with_entries world.front (fed line text ∷ [])) s command) spells.session_from spells.session_to sound.sessions
      (taken-turned shape s (with_waiting (session_in world.front.sessions s) command))
  move-fed_as line text (Ok (Operator order)) read = no-move shape.nodes world.front.sessions
  move-fed_as line text (Err fault) read = no-move shape.nodes world.front.sessions

  move-fed : (line : ℕ) (text : List ℕ) (said : List Out) → IsMove shape.nodes world.front.sessions (fed_front (nothing_noted shape) world.front line text said).state.sessions (fed_front (nothing_noted shape) world.front line text said).step.sends
  unfolding fed_front
  move-fed line text said = move-fed_as line text (line_of text) refl

  -- a queue to the front lost its head
  All-popped : (from : ℕ) (content : Content) (rest : List Content) → world.mail from FRONT ≡ content ∷ rest → (P : Content → Type 0) (v : ℕ) → v < shape.nodes → All P (world.mail v FRONT) → All P (with_way world.mail from FRONT rest v FRONT)
  All-popped from content rest h P v below all =
      cond_both (eqb FRONT FRONT && eqb v from) rest (world.mail v FRONT) (All P)
      (λ here. elim (cases_eq v from) [
        | inl same ↦ All-tail P content rest (subst (All P) h (subst (λ u. All P (world.mail u FRONT)) same all))
        | inr apart ↦ absurd (true≢false (sym (and_parts (eqb FRONT FRONT) (eqb v from) here).1 ∙ ne_eqb v from apart))
      ])
      (λ there. all)

  to-front : (from : ℕ) (content : Content) (rest : List Content) (mark : Bool) → world.mail from FRONT ≡ content ∷ rest → IsKept shape world (after_message shape (record world { mail = with_way world.mail from FRONT rest }) from FRONT content mark)
  to-front from content rest mark h =
      let done = delivered_front (nothing_noted shape) world.front from content mark in
      let kept : (a b : ℕ) → eqb b FRONT ≡ false → with_way world.mail from FRONT rest a b ≡ world.mail a b = λ a b apart. way-apart world.mail from FRONT rest a b (ap (λ c. c && eqb a from) apart) in
      record {
        whole = whole-front shape few some world (with_way world.mail from FRONT rest) world.lines done.state done.step.sends kept (move-delivered content) (All-popped from content rest h) whole;
        settled = settled-front shape few some world (with_way world.mail from FRONT rest) world.lines done.state done.step.sends kept (move-delivered content);
      }

  -- ---- each event

  kept-delivery : (from to : ℕ) (mark : Bool) (content : Content) (rest : List Content) → world.mail from to ≡ content ∷ rest → IsKept shape world (after_message shape (record world { mail = with_way world.mail from to rest }) from to content mark)
  kept-delivery from to mark content rest h = elim (cases_eq to FRONT) [
    | inl same ↦ subst (λ t. world.mail from t ≡ content ∷ rest → IsKept shape world (after_message shape (record world { mail = with_way world.mail from t rest }) from t content mark)) (sym same) (to-front from content rest mark) h
    | inr apart ↦ subst (IsKept shape world) (sym (cond-false (eqb to FRONT) _ (acted world from to rest (lone_step own_primary (world.replicas to) from content mark)) (ne_eqb to FRONT apart)))
        (to-replica from to content rest mark apart (All-head (IsAddressed shape.nodes from to) content rest (subst (All (IsAddressed shape.nodes from to)) h (sound.places.messages from to))) h)
  ]

  kept-same : IsKept shape world world
  kept-same = record { whole = whole; settled = λ txn. record { committed_stays = λ h. h; aborted_stays = λ h. h } }

  kept-quiet : IsKept shape world (record world { front = quiet_front world.front })
  kept-quiet = record {
    whole = record {
      lives = λ txn own. lives-left shape world (record world { front = quiet_front world.front }) txn
          (record { status = record { begun = refl; beginning = refl; entry = refl; member = refl }; view = λ v below. refl }) (whole.lives txn own);
      outcomes = λ v below. quiet-outcomes v (whole.outcomes v below);
      parts = whole.parts;
    };
    settled = stays;
  }
    where
      stays : (txn : TxnId) → KeepsSettled shape.nodes world (record world { front = quiet_front world.front }) txn
      stays txn = record {
        committed_stays = λ h. (record { begun = h.0.begun; heard = h.0.heard }, h.1, h.2);
        aborted_stays = λ h. (record { begun = h.0.begun; heard = h.0.heard }, h.1, h.2);
      }

      quiet-outcomes : (v : ℕ) → All (IsTrueOutcome shape world) (world.mail v FRONT) → All (IsTrueOutcome shape (record world { front = quiet_front world.front })) (world.mail v FRONT)
      quiet-outcomes v all = λ k d h. outcome-stays shape world (record world { front = quiet_front world.front }) stays _ (all k d h)

  pub event-kept : (event : QueueEvent) → MayReplicas world event → IsKept shape world (after_replica_event shape world event)
  unfolding after_replica_event
  event-kept (deliver from to mark) may =
      subst (λ queue. IsKept shape world (after_first shape world from to mark queue)) (sym may.2) (kept-delivery from to mark may.0 may.1 may.2)
  event-kept (take_line number text said) may =
      let done = fed_front (nothing_noted shape) world.front number text said in
      record {
        whole = whole-front shape few some world world.mail (world.lines + 1) done.state done.step.sends (λ a b apart. refl) (move-fed number text said) (λ P v below all. all) whole;
        settled = settled-front shape few some world world.mail (world.lines + 1) done.state done.step.sends (λ a b apart. refl) (move-fed number text said);
      }
  event-kept quieten may = kept-quiet
  event-kept other may = kept-same

-- ---- the laws

pub events_keep_whole : EventsKeepWhole
events_keep_whole shape world event size sound whole may = (event-kept shape size world sound whole event may).whole

pub aborted_stay_out : AbortedStayOut
aborted_stay_out shape world event txn size sound whole may out = ((event-kept shape size world sound whole event may).settled txn).aborted_stays out

-- ---- at the start

each-none : (n k : ℕ) → slice_index_or (replicate n no_session) k no_session ≡ no_session
each-none zero k = refl
each-none (suc n) zero = refl
each-none (suc n) (suc k) = each-none n k

begun-none : (shape : Shape) (s : ℕ) → (session_in (first_replica_world shape).front.sessions s).begun ≡ 0
begun-none shape s = ap (λ (session : SessionState). session.begun) (each-none SESSIONS_MAX (s - 1))

first-stage : (txn : TxnId) → stage_of [] txn ≡ Unknown
unfolding has_begun
first-stage txn = refl

first-part : (shape : Shape) (v : ℕ) → IsWholePart ((first_replica_world shape).replicas v).part
first-part shape v = record { held = All-nil _; begun = λ txn ended. absurd (false≢true (sym (has_ended-nil txn) ∙ ended)) }

first-lives : (shape : Shape) (txn : TxnId) → Lives shape (first_replica_world shape) txn
first-lives shape txn = elim (cases_eq txn.number 0) [
  | inl same ↦ record {
    life = aborted;
    so_far = (record { begun = (let e = same in omega (arith, e)); heard = refl }, refl, refl);
    stands = λ v below. (absent, record { orders = refl; reports = refl; at = first-stage txn }, inl refl);
  }
  | inr apart ↦ record {
    life = to_come;
    so_far = (inl (let e = begun-none shape txn.session in omega (arith, e, apart)), refl, refl);
    stands = λ v below. (absent, record { orders = refl; reports = refl; at = first-stage txn }, refl);
  }
]

pub whole_at_first : WholeAtFirst
whole_at_first shape size = record {
  lives = λ txn own. first-lives shape txn;
  outcomes = λ v below. All-nil _;
  parts = λ v below. first-part shape v;
}
