-- One event: each message on its way still says what is so, each reply still has its cause, and who had ended quietly is still gone.
use Rattle.std.proofs.Common.{◌≡◌, ◌≢◌, ℕ, zero, suc, ◌+◌, ◌-◌, ◌%◌, ◌<◌, ◌≤◌, Bool, true, false, cond, eqb, ◌⊎◌, inl, inr, List, [], ◌∷◌, ◌++◌, length, take, Some, All, refl, sym, ap, ◌∙◌, subst, subst₂, arith}
use Rattle.std.proofs.lemmas.Bool.{cases_eq, ne_eqb, eq-eqb, cond_both, false≢true}
use Rattle.std.proofs.lemmas.List.{append-nil}
use Rattle.std.proofs.lemmas.List.Elements.{All-nil, All-head, All-weaker}
use Rattle.cl_causes.specs.Causes.{IsAskOf}
use Rattle.cl_commit.specs.Life.{CommitsWhole}
use Rattle.cl_exchange.specs.Laws.{IsSoundWorld}
use Rattle.cl_exchange.proofs.Events.{session_between}
use Rattle.cl_exchange.proofs.Runs.{first_addressed}
use Rattle.cl_front.specs.Front.{delivered_front, fed_front}
use Rattle.cl_ledger.specs.Ledgers.{IsLedgerOf}
use Rattle.cl_locks.specs.Grants.{first_conflict}
use Rattle.cl_lines.specs.declared.out.Out.TheVariants as out
use Rattle.cl_lone.specs.Lone.{lone_step}
use Rattle.cl_order.specs.Ledger.{Ledger}
use Rattle.cl_order.specs.Operations.{mode_of}
use Rattle.cl_part.specs.Calls.{answer_to}
use Rattle.cl_roster.specs.Roster.{IsClusterSize}
use Rattle.cl_runs.specs.Queues.{QueueEvent, deliver, take_line, quieten}
use Rattle.cl_runs.specs.World.{Shape}
use Rattle.cl_serial.specs.Serial.{StandsAt, AnswersFitTurns}
use Rattle.cl_serial.specs.Transcript.{TranscriptEntry, written, quiet, questions, answers}
use Rattle.cl_served.specs.Served.{IsLedgerShown}
use Rattle.cl_shown.specs.Laws.{SessionHasOutstanding}
use Rattle.cl_steps.specs.declared.actors.TheConstants.{FRONT}
use Rattle.cl_system.specs.Firm.{FirmWorld, AreReordered, with_order}
use Rattle.cl_system.specs.Replicas.{Mail, ReplicaWorld, own_primary, nothing_noted, with_way, front_acts, replica_acts, after_message, after_first, after_replica_event, first_replica_world, MayReplicas}
use Rattle.cl_system.specs.Roles.{IsOfSession, IsAddressed}
use Rattle.cl_system.proofs.Reordering.{reordered_all}
use Rattle.cl_system.proofs.Sends.{line_sends, message_sends}
use Rattle.cl_told.specs.Told.{told_session, SessionsAreTold}
use Rattle.cl_types.proofs.PlacementLaws.{node_count-bounds, node_count-some}
use Rattle.cl_types.specs.declared.answers.AbortCause.{AbortCause}
use Rattle.cl_types.specs.declared.answers.Outcome.TheVariants.{Aborted}
use Rattle.cl_types.specs.declared.operations.Command.TheVariants.{Begin, Work, Commit, Abort}
use Rattle.cl_types.specs.declared.operations.Op.{Op}
use Rattle.cl_types.specs.declared.operations.TxnId.{TxnId}
use Rattle.cl_types.specs.Placement.{virtual_node_of}
use Rattle.cl_types.specs.Places.{Place}
use Rattle.cl_vnode.specs.Replica.{ReplicaState}
use Rattle.cl_wire.specs.Message.{Content, Command, Outcome, Ask, Answer}
use Rattle.cl_causes.proofs.Sessions.{begins_itself, ended_grow}
use Rattle.cl_causes.proofs.Transcripts.{new_pairs, told_more}
use Rattle.cl_causes.proofs.Claims.{lines_in, Grows, IsAskedAt, StayHeld, StayHeldAt, Says, IsCaused, AreCaused, longer, says_stay, caused_stays, take-before}
use Rattle.cl_causes.proofs.Commands.{command_asked, outcome_caused}
use Rattle.cl_causes.proofs.Entries.{ArePlain, plain_at, AddsEntries, plain, replied, noted, event_adds}
use Rattle.cl_causes.proofs.Gone.{IsGone, gone_not_open, reorder_gone, gone_when_quiet, stays_gone}
use Rattle.cl_causes.proofs.Grants.{AreOwn, AsksOfSession, own_step}
use Rattle.cl_causes.proofs.Growing.{grows}
use Rattle.cl_causes.proofs.Numbers.{AreFit, fit_first, fit_in, event_fit}
use Rattle.cl_causes.proofs.Past.{IsPast}
use Rattle.cl_causes.proofs.Refusals.{answer_says}
use Rattle.cl_causes.proofs.Sends.{with_mail_all, with_way_all, front_said, IsGiven, replica_said}

-- ---- lists

-- an item of two lists is in the first one, or in the second
StandsAt-either : {X : Type 0} (xs ys : List X) (i : ℕ) (x : X) → StandsAt (xs ++ ys) i x → ((i < length xs) × StandsAt xs i x) ⊎ ((j : ℕ) × (i ≡ length xs + j) × StandsAt ys j x)
StandsAt-either [] ys i x h = inr (i, omega arith, h)
StandsAt-either (y ∷ xs) ys zero x h = inl (omega arith, h)
StandsAt-either (y ∷ xs) ys (suc i) x h = elim (StandsAt-either xs ys i x h) [
  | inl here ↦ (let below = here.0 in inl (omega (arith, below), here.1))
  | inr there ↦ (let far = there.1 in inr (there.0, omega (arith, far), there.2))
]

take-whole : {X : Type 0} (xs : List X) → take (length xs) xs ≡ xs
take-whole [] = refl
take-whole (x ∷ xs) = ap (λ list. x ∷ list) (take-whole xs)

-- what is said of locks at a position
abbrev pub held_at : (TxnId → TxnId → Place → Op → ℕ → ℕ → Type 0) → ℕ → TxnId → TxnId → Place → Op → ℕ → Type 0
held_at Held position name holder place op line = Held name holder place op line position

-- what holds between two events
pub record IsCausedWorld (shape : Shape) (Short : TxnId → ℕ → Type 0) (Held : TxnId → TxnId → Place → Op → ℕ → ℕ → Type 0) (world : ReplicaWorld) : Type 0 where
  -- each reply ABORTED has its cause
  pub replies : AreCaused Short Held world.front.transcript
  -- each message says what is so
  pub says : (from to : ℕ) → All (Says (λ name. Short name (length world.front.transcript)) (held_at Held (length world.front.transcript)) world.front.transcript) (world.mail from to)
  -- at a quiet moment each answer had its command
  pub few : (p : ℕ) → StandsAt world.front.transcript p quiet → (name : TxnId) → IsOfSession name →
      length (answers name.session (take p world.front.transcript)) ≤ length (questions name.session (take p world.front.transcript))
  -- who had ended at a quiet moment is gone
  pub gone : (p : ℕ) → StandsAt world.front.transcript p quiet → (name : TxnId) → IsOfSession name → name.number ≤ length (told_session name.session (take p world.front.transcript)).ended →
      IsPast world name × IsGone shape world name
  pub own : (v : ℕ) → AreOwn (world.replicas v).part.grants
  pub fit : AreFit world.front.sessions

module _ (shape : Shape) (size : IsClusterSize shape.nodes shape.spares) (state : FirmWorld) (event : QueueEvent) (may : MayReplicas state.world event)
    (sound : IsSoundWorld shape state.world) (whole : CommitsWhole shape state.world) (told : SessionsAreTold shape state.world)
    (outstanding : SessionHasOutstanding)
    (ledger : Ledger) (is : IsLedgerOf shape state ledger) (shown : IsLedgerShown state.world.front.transcript ledger)
    (fit_turns : AnswersFitTurns (after_replica_event shape state.world event).front.transcript)
    (all_few : (s : ℕ) → length (answers s (after_replica_event shape state.world event).front.transcript) ≤
    length (questions s (after_replica_event shape state.world event).front.transcript))
    (Short More : TxnId → ℕ → Type 0) (keeps : (name : TxnId) (p q : ℕ) → p ≤ q → Short name p → More name q)
    (shorts : (from to : ℕ) (content : Content) (rest : List Content) (name : TxnId) → event ≡ deliver from to true →
    state.world.mail from to ≡ content ∷ rest → IsAskOf name content → More name (length (after_replica_event shape state.world event).front.transcript))
    (Held Kept : TxnId → TxnId → Place → Op → ℕ → ℕ → Type 0) (kept : (p q : ℕ) → p ≤ q → StayHeld (held_at Held p) (held_at Kept q))
    (refuses : (from to number : ℕ) (txn holder : TxnId) (table key : List ℕ) (op : Op) (line : ℕ) (rest : List Content) → event ≡ deliver from to false →
    state.world.mail from to ≡ Ask to txn number table key op ∷ rest → to ≡ virtual_node_of key shape.nodes → line < length state.world.front.transcript →
    first_conflict (state.world.replicas to).part.grants txn (table, key) (mode_of op) ≡ Some holder →
    Kept txn holder (table, key) op line (length (after_replica_event shape state.world event).front.transcript))
    (empties : event ≡ quieten → (from to : ℕ) → state.world.mail from to ≡ [])
    (so : IsCausedWorld shape Short Held state.world) where
  abbrev world : ReplicaWorld
  world = state.world

  abbrev after : ReplicaWorld
  after = after_replica_event shape world event

  abbrev old : List TranscriptEntry
  old = world.front.transcript

  abbrev new : List TranscriptEntry
  new = after.front.transcript

  nodes_few : shape.nodes ≤ 8
  nodes_few = (node_count-bounds shape.nodes size.counted).1

  some : 0 < shape.nodes
  some = node_count-some shape.nodes size.counted

  adds : AddsEntries world event new
  adds = event_adds shape world event may

  added : AddsEntries world event new → (more : List TranscriptEntry) × (new ≡ old ++ more)
  added (plain more is_more plains) = (more, is_more)
  added (replied from mark txn number outcome rest more delivers waits is_more plains) = (written (out.Answer txn.session outcome) ∷ more, is_more)
  added (noted quietens is_more) = (quiet ∷ [], is_more)

  grows_to : (more : List TranscriptEntry) → new ≡ old ++ more → Grows old (old ++ more)
  grows_to more is_more =
      grows shape world sound.stages told outstanding more (subst AnswersFitTurns is_more fit_turns) (λ s. subst (λ list. length (answers s list) ≤ length (questions s list)) is_more (all_few s))

  grown : Grows old new
  grown = let more = added adds in subst (Grows old) (sym more.1) (grows_to more.0 more.1)

  abbrev Now : TxnId → Type 0
  Now name = Short name (length old)

  abbrev Then : TxnId → Type 0
  Then name = More name (length new)

  abbrev NowHeld : TxnId → TxnId → Place → Op → ℕ → Type 0
  NowHeld = held_at Held (length old)

  abbrev ThenHeld : TxnId → TxnId → Place → Op → ℕ → Type 0
  ThenHeld = held_at Kept (length new)

  short_stays : (name : TxnId) → Now name → Then name
  short_stays name short = keeps name (length old) (length new) (longer old new grown) short

  stay : (content : Content) → Says Now NowHeld old content → Says Then ThenHeld new content
  stay content h = says_stay old new grown Now Then short_stays NowHeld ThenHeld (kept (length old) (length new) (longer old new grown)) content h

  -- ---- replies

  old_reply : (session position : ℕ) (cause : AbortCause) → StandsAt old position (written (out.Answer session (Aborted cause))) → IsCaused More Kept new session position cause
  old_reply session position cause h = caused_stays old new grown Short More (λ name p short. keeps name p p (omega arith) short) Held Kept
      (λ name holder place op line p held. kept p p (omega arith) name holder place op line held) session position cause (so.replies session position cause h)

  new_reply : (from : ℕ) (txn : TxnId) (number : ℕ) (cause : AbortCause) (rest : List Content) (more : List TranscriptEntry) →
      world.mail from FRONT ≡ Outcome txn number (Aborted cause) ∷ rest →
      new ≡ old ++ written (out.Answer txn.session (Aborted cause)) ∷ more → IsCaused More Kept new txn.session (length old) cause
  new_reply from txn number cause rest more waits is_more =
      let addressed : IsAddressed shape.nodes from FRONT (Outcome txn number (Aborted cause)) = first_addressed shape world from FRONT (Outcome txn number (Aborted cause)) rest sound waits in
      let home : world.mail (txn.session % shape.nodes) FRONT ≡ Outcome txn number (Aborted cause) ∷ rest = subst (λ n. world.mail n FRONT ≡ Outcome txn number (Aborted cause) ∷ rest) addressed.giver waits in
      let says : Says Now NowHeld old (Outcome txn number (Aborted cause)) = All-head (Says Now NowHeld old) (Outcome txn number (Aborted cause)) rest (subst (All (Says Now NowHeld old)) waits (so.says from FRONT)) in
      subst (λ list. IsCaused More Kept list txn.session (length old) cause) (sym is_more)
      (outcome_caused shape world sound told outstanding txn addressed.session number cause more (grows_to (written (out.Answer txn.session (Aborted cause)) ∷ more) is_more)
      (subst (λ list. length (answers txn.session list) ≤ length (questions txn.session list)) is_more (all_few txn.session)) Now More (λ short. keeps txn (length old) (length old) (omega arith) short)
      NowHeld Kept (kept (length old) (length old) (omega arith))
      (λ current inside. fit_in world.front.sessions txn.session current so.fit inside) rest home says)

  not_plain : (more : List TranscriptEntry) (j session : ℕ) (cause : AbortCause) → ArePlain more → StandsAt more j (written (out.Answer session (Aborted cause))) → ⊥
  not_plain more j session cause plains h = false≢true (plain_at more j (written (out.Answer session (Aborted cause))) plains h)

  reply_after : AddsEntries world event new → (session position : ℕ) (cause : AbortCause) → StandsAt new position (written (out.Answer session (Aborted cause))) →
      IsCaused More Kept new session position cause
  reply_after (plain more is_more plains) session position cause h =
      elim (StandsAt-either old more position (written (out.Answer session (Aborted cause))) (subst (λ list. StandsAt list position (written (out.Answer session (Aborted cause)))) is_more h)) [
        | inl here ↦ old_reply session position cause here.1
        | inr there ↦ absurd (not_plain more there.0 session cause plains there.2)
      ]
  reply_after (replied from mark txn number outcome rest more delivers waits is_more plains) session position cause h =
      elim (StandsAt-either old (written (out.Answer txn.session outcome) ∷ more) position (written (out.Answer session (Aborted cause))) (subst (λ list. StandsAt list position (written (out.Answer session (Aborted cause)))) is_more h)) [
        | inl here ↦ old_reply session position cause here.1
        | inr there ↦ by there.0 there.1 there.2
      ]
    where
      by : (j : ℕ) → position ≡ length old + j → StandsAt (written (out.Answer txn.session outcome) ∷ more) j (written (out.Answer session (Aborted cause))) →
          IsCaused More Kept new session position cause
      by zero place k =
          let of : txn.session ≡ session = cc in
          let same : outcome ≡ Aborted cause = cc in
          let at : length old ≡ position = omega (arith, place) in
          subst₂ (λ s p. IsCaused More Kept new s p cause) of at
          (new_reply from txn number cause rest more (subst (λ o. world.mail from FRONT ≡ Outcome txn number o ∷ rest) same waits)
          (subst (λ o. new ≡ old ++ written (out.Answer txn.session o) ∷ more) same is_more))
      by (suc j) place k = absurd (not_plain more j session cause plains k)
  reply_after (noted quietens is_more) session position cause h =
      elim (StandsAt-either old (quiet ∷ []) position (written (out.Answer session (Aborted cause))) (subst (λ list. StandsAt list position (written (out.Answer session (Aborted cause)))) is_more h)) [
        | inl here ↦ old_reply session position cause here.1
        | inr there ↦ absurd (by there.0 there.2)
      ]
    where
      by : (j : ℕ) → StandsAt (quiet ∷ []) j (written (out.Answer session (Aborted cause))) → ⊥
      by zero k = absurd cc
      by (suc j) k = absurd cc

  -- ---- quiet moments

  -- a quiet moment is an old one, or the event notes it
  data QuietAt (p : ℕ) : Type 0 where
    was_quiet : p < length old → StandsAt old p quiet → take p new ≡ take p old → QuietAt p
    is_noted : event ≡ quieten → take p new ≡ old → QuietAt p

  old_quiet : (p : ℕ) (more : List TranscriptEntry) → new ≡ old ++ more → p < length old → StandsAt old p quiet → QuietAt p
  old_quiet p more is_more below here = was_quiet below here (ap (take p) is_more ∙ take-before old more p (omega (arith, below)))

  quiet_at : AddsEntries world event new → (p : ℕ) → StandsAt new p quiet → QuietAt p
  quiet_at (plain more is_more plains) p h =
      elim (StandsAt-either old more p quiet (subst (λ list. StandsAt list p quiet) is_more h)) [
        | inl here ↦ old_quiet p more is_more here.0 here.1
        | inr there ↦ absurd (false≢true (plain_at more there.0 quiet plains there.2))
      ]
  quiet_at (replied from mark txn number outcome rest more delivers waits is_more plains) p h =
      elim (StandsAt-either old (written (out.Answer txn.session outcome) ∷ more) p quiet (subst (λ list. StandsAt list p quiet) is_more h)) [
        | inl here ↦ old_quiet p (written (out.Answer txn.session outcome) ∷ more) is_more here.0 here.1
        | inr there ↦ absurd (by there.0 there.2)
      ]
    where
      by : (j : ℕ) → StandsAt (written (out.Answer txn.session outcome) ∷ more) j quiet → ⊥
      by zero k = absurd cc
      by (suc j) k = false≢true (plain_at more j quiet plains k)
  quiet_at (noted quietens is_more) p h =
      elim (StandsAt-either old (quiet ∷ []) p quiet (subst (λ list. StandsAt list p quiet) is_more h)) [
        | inl here ↦ old_quiet p (quiet ∷ []) is_more here.0 here.1
        | inr there ↦ by there.0 there.1 there.2
      ]
    where
      by : (j : ℕ) → p ≡ length old + j → StandsAt (quiet ∷ []) j quiet → QuietAt p
      by zero place k =
          let at : p ≡ length old = omega (arith, place) in
          is_noted quietens (ap (λ n. take n new) at ∙ (ap (take (length old)) is_more ∙ (take-before old (quiet ∷ []) (length old) (omega arith) ∙ take-whole old)))
      by (suc j) place k = absurd cc

  few_now : (name : TxnId) → IsOfSession name → length (answers name.session old) ≤ length (questions name.session old)
  few_now name of = let between = session_between name of in (told name.session between.0 between.1).few

  few_after : (p : ℕ) → QuietAt p → (name : TxnId) → IsOfSession name → length (answers name.session (take p new)) ≤ length (questions name.session (take p new))
  few_after p (was_quiet below here same) name of = subst (λ list. length (answers name.session list) ≤ length (questions name.session list)) (sym same) (so.few p here name of)
  few_after p (is_noted quietens same) name of = subst (λ list. length (answers name.session list) ≤ length (questions name.session list)) (sym same) (few_now name of)

  past_stays : (name : TxnId) → IsOfSession name → IsPast world name → IsPast after name
  past_stays name of past =
      let more = added adds in
      let grow : length (told_session name.session old).ended ≤ length (told_session name.session (old ++ more.0)).ended
      = subst (λ session. length (told_session name.session old).ended ≤ length session.ended) (sym (told_more name.session old more.0 (few_now name of)))
      (ended_grow (new_pairs name.session old more.0 (few_now name of)) (told_session name.session old)) in
      let there : name.number ≤ length (told_session name.session (old ++ more.0)).ended = omega (arith, past, grow) in
      subst (λ list. name.number ≤ length (told_session name.session list).ended) (sym more.1) there

  gone_after : (p : ℕ) → QuietAt p → (name : TxnId) → IsOfSession name → name.number ≤ length (told_session name.session (take p new)).ended → IsPast after name × IsGone shape after name
  gone_after p (was_quiet below here same) name of past =
      let was = so.gone p here name of (subst (λ list. name.number ≤ length (told_session name.session list).ended) same past) in
      (past_stays name of was.0, stays_gone shape size world sound whole told name of was.0 was.1 event may)
  gone_after p (is_noted quietens same) name of past =
      let now : IsPast world name = subst (λ list. name.number ≤ length (told_session name.session list).ended) same past in
      let is_gone = gone_when_quiet shape size world sound whole told name of now (empties quietens) in
      (past_stays name of now, stays_gone shape size world sound whole told name of now is_gone event may)

  -- ---- messages

  old_said : (from to : ℕ) → All (Says Then ThenHeld new) (world.mail from to)
  old_said from to = All-weaker (Says Now NowHeld old) (Says Then ThenHeld new) stay (world.mail from to) (so.says from to)

  -- the first message on its way asks an operation of its index
  asked_here : (from to v : ℕ) (txn : TxnId) (number : ℕ) (table key : List ℕ) (op : Op) (rest : List Content) → world.mail from to ≡ Ask v txn number table key op ∷ rest →
      IsAskedAt old txn (number - 1) table key op
  asked_here from to v txn number table key op rest waits =
      All-head (Says Now NowHeld old) (Ask v txn number table key op) rest (subst (All (Says Now NowHeld old)) waits (so.says from to))

  -- what a replica is given says what is so
  given : (from to : ℕ) (content : Content) (rest : List Content) (mark : Bool) → event ≡ deliver from to mark → IsAddressed shape.nodes from to content →
      world.mail from to ≡ content ∷ rest →
      IsGiven Then ThenHeld new (world.replicas to) content mark
  given from to (Command v txn number (Work table key op)) rest mark delivers addressed waits =
      stay (Ask v txn number table key op)
      (command_asked shape world sound told outstanding txn addressed.session v number table key op rest
      (subst₂ (λ a b. world.mail a b ≡ Command v txn number (Work table key op) ∷ rest) addressed.giver (addressed.receiver ∙ addressed.node) waits))
  given from to (Command v txn number Begin) rest mark delivers addressed waits = tt
  given from to (Command v txn number Commit) rest mark delivers addressed waits = tt
  given from to (Command v txn number Abort) rest mark delivers addressed waits = tt
  given from to (Answer v txn number answer) rest mark delivers addressed waits =
      All-head (Says Then ThenHeld new) (Answer v txn number answer) rest (subst (All (Says Then ThenHeld new)) waits (old_said from to))
  given from to (Ask v txn number table key op) rest true delivers addressed waits = shorts from to (Ask v txn number table key op) rest txn delivers waits refl
  given from to (Ask v txn number table key op) rest false delivers addressed waits =
      subst (λ n. Says Then ThenHeld new (Answer v txn number (answer_to (world.replicas n).part txn (table, key) op))) (sym addressed.0.receiver)
      (says_stay old new grown Now Then short_stays ThenHeld ThenHeld (λ name holder place o line held. held)
      (Answer v txn number (answer_to (world.replicas v).part txn (table, key) op))
      (answer_says shape state ledger is shown v addressed.0.node (whole.parts v addressed.0.node) (so.own v) txn number table key op addressed.1
      (asked_here from to v txn number table key op rest waits)
      (λ holder of ended opened. gone_not_open shape world holder v addressed.0.node (so.gone ended.at ended.is_quiet holder of ended.past).1 opened) Now
      ThenHeld (λ holder conflict. refuses from v number txn holder table key op (asked_here from to v txn number table key op rest waits).line rest
      (delivers ∙ ap (λ n. deliver from n false) addressed.0.receiver) (subst (λ n. world.mail from n ≡ Ask v txn number table key op ∷ rest) addressed.0.receiver waits)
      addressed.1 (asked_here from to v txn number table key op rest waits).below conflict)))
  given from to content rest mark delivers addressed waits = tt

  message_mail : (from to : ℕ) (content : Content) (rest : List Content) (mark : Bool) → event ≡ deliver from to mark → IsAddressed shape.nodes from to content →
      world.mail from to ≡ content ∷ rest → (a b : ℕ) →
      All (Says Then ThenHeld new) ((after_message shape (record world { mail = with_way world.mail from to rest }) from to content mark).mail a b)
  message_mail from to content rest mark delivers addressed waits a b = by (cases_eq to FRONT)
    where
      left : (c d : ℕ) → All (Says Then ThenHeld new) (with_way world.mail from to rest c d)
      left = with_way_all (Says Then ThenHeld new) world.mail from to content rest waits old_said

      by : (to ≡ FRONT) ⊎ (to ≢ FRONT) → All (Says Then ThenHeld new) ((after_message shape (record world { mail = with_way world.mail from to rest }) from to content mark).mail a b)
      by (inl front) =
          subst (λ c. All (Says Then ThenHeld new) ((cond c (front_acts (record world { mail = with_way world.mail from to rest }) (delivered_front (nothing_noted shape) world.front from content mark))
          (replica_acts (record world { mail = with_way world.mail from to rest }) to (lone_step own_primary (world.replicas to) from content mark))).mail a b)) (sym (eq-eqb to FRONT front))
          (with_mail_all (Says Then ThenHeld new) (with_way world.mail from to rest) FRONT (delivered_front (nothing_noted shape) world.front from content mark).step.sends left
          (front_said Then ThenHeld new shape.nodes _ nodes_few some (message_sends shape world.front from content mark)) a b)
      by (inr apart) =
          subst (λ c. All (Says Then ThenHeld new) ((cond c (front_acts (record world { mail = with_way world.mail from to rest }) (delivered_front (nothing_noted shape) world.front from content mark))
          (replica_acts (record world { mail = with_way world.mail from to rest }) to (lone_step own_primary (world.replicas to) from content mark))).mail a b)) (sym (ne_eqb to FRONT apart))
          (with_mail_all (Says Then ThenHeld new) (with_way world.mail from to rest) to (lone_step own_primary (world.replicas to) from content mark).step.sends left
          (replica_said Then ThenHeld new (world.replicas to) from content mark (given from to content rest mark delivers addressed waits)) a b)

  mail_for : (e : QueueEvent) → event ≡ e → (a b : ℕ) → All (Says Then ThenHeld new) ((after_replica_event shape world e).mail a b)
  unfolding after_replica_event
  mail_for (deliver from to mark) delivers a b =
      let here : MayReplicas world (deliver from to mark) = subst (MayReplicas world) delivers may in
      subst (λ list. All (Says Then ThenHeld new) ((after_first shape world from to mark list).mail a b)) (sym here.2)
      (message_mail from to here.0 here.1 mark delivers (first_addressed shape world from to here.0 here.1 sound here.2) here.2 a b)
  mail_for (take_line number text said) takes a b =
      with_mail_all (Says Then ThenHeld new) world.mail FRONT (fed_front (nothing_noted shape) world.front number text said).step.sends old_said
      (front_said Then ThenHeld new shape.nodes _ nodes_few some (line_sends shape world.front number text said)) a b
  mail_for other none a b = old_said a b

  -- ---- locks

  asks_of : (from to : ℕ) (content : Content) → IsAddressed shape.nodes from to content → AsksOfSession content
  asks_of from to (Ask v txn number table key op) addressed = addressed.0.session
  asks_of from to content addressed = tt

  message_own : (from to : ℕ) (content : Content) (rest : List Content) (mark : Bool) → IsAddressed shape.nodes from to content → (v : ℕ) →
      AreOwn ((after_message shape (record world { mail = with_way world.mail from to rest }) from to content mark).replicas v).part.grants
  message_own from to content rest mark addressed v =
      cond_both (eqb to FRONT) (front_acts (record world { mail = with_way world.mail from to rest }) (delivered_front (nothing_noted shape) world.front from content mark))
      (replica_acts (record world { mail = with_way world.mail from to rest }) to (lone_step own_primary (world.replicas to) from content mark))
      (λ (w : ReplicaWorld). AreOwn (w.replicas v).part.grants) (λ front. so.own v)
      (λ replica. cond_both (eqb v to) (lone_step own_primary (world.replicas to) from content mark).state (world.replicas v) (λ (state : ReplicaState). AreOwn state.part.grants)
      (λ here. own_step (world.replicas to) from content mark (asks_of from to content addressed) (so.own to)) (λ elsewhere. so.own v))

  own_for : (e : QueueEvent) → event ≡ e → (v : ℕ) → AreOwn ((after_replica_event shape world e).replicas v).part.grants
  unfolding after_replica_event
  own_for (deliver from to mark) delivers v =
      let here : MayReplicas world (deliver from to mark) = subst (MayReplicas world) delivers may in
      subst (λ list. AreOwn ((after_first shape world from to mark list).replicas v).part.grants) (sym here.2)
      (message_own from to here.0 here.1 mark (first_addressed shape world from to here.0 here.1 sound here.2) v)
  own_for (take_line number text said) takes v = so.own v
  own_for other none v = so.own v

  -- ---- all of it

  pub event_caused : IsCausedWorld shape More Kept after
  event_caused = record {
    replies = reply_after adds;
    says = mail_for event refl;
    few = λ p h name of. few_after p (quiet_at adds p h) name of;
    gone = λ p h name of past. gone_after p (quiet_at adds p h) name of past;
    own = own_for event refl;
    fit = event_fit shape world event so.fit;
  }

-- ---- where the transcript stays

-- a transcript has become no longer
same_grows : (transcript : List TranscriptEntry) → Grows transcript transcript
same_grows transcript = record {
  more = [];
  is = sym (append-nil transcript);
  lines = λ name of. begins_itself (lines_in transcript name);
  kept = λ name of e answered inside has. inside;
}

-- the world stays, and memory that was short stays so
pub caused_longer : (shape : Shape) (world : ReplicaWorld) (Short More : TxnId → ℕ → Type 0) →
    ((name : TxnId) (position : ℕ) → Short name position → More name position) → (Held Kept : TxnId → TxnId → Place → Op → ℕ → ℕ → Type 0) → StayHeldAt Held Kept →
    IsCausedWorld shape Short Held world → IsCausedWorld shape More Kept world
caused_longer shape world Short More keeps Held Kept kept so =
    let old : List TranscriptEntry = world.front.transcript in
    record {
      replies = λ session position cause h. caused_stays old old (same_grows old) Short More keeps Held Kept kept session position cause (so.replies session position cause h);
      says = λ from to.
          All-weaker (Says (λ name. Short name (length old)) (held_at Held (length old)) old) (Says (λ name. More name (length old)) (held_at Kept (length old)) old)
          (says_stay old old (same_grows old) (λ name. Short name (length old)) (λ name. More name (length old)) (λ name short. keeps name (length old) short)
          (held_at Held (length old)) (held_at Kept (length old)) (λ name holder place op line held. kept name holder place op line (length old) held))
          (world.mail from to) (so.says from to);
      few = so.few;
      gone = so.gone;
      own = so.own;
      fit = so.fit;
    }

-- another order of what is on its way
pub reorder_caused : (shape : Shape) (world : ReplicaWorld) (mail : Mail) (Short : TxnId → ℕ → Type 0) (Held : TxnId → TxnId → Place → Op → ℕ → ℕ → Type 0) →
    AreReordered world.mail mail → IsCausedWorld shape Short Held world → IsCausedWorld shape Short Held (with_order world mail)
reorder_caused shape world mail Short Held order so = record {
  replies = so.replies;
  says = λ from to.
      reordered_all world.mail mail order (Says (λ name. Short name (length world.front.transcript)) (held_at Held (length world.front.transcript)) world.front.transcript)
      from to (so.says from to);
  few = so.few;
  gone = λ p h name of past. let was = so.gone p h name of past in (was.0, reorder_gone shape world mail name order was.1);
  own = so.own;
  fit = so.fit;
}

-- ---- at the start

pub caused_first : (shape : Shape) (Short : TxnId → ℕ → Type 0) (Held : TxnId → TxnId → Place → Op → ℕ → ℕ → Type 0) → IsCausedWorld shape Short Held (first_replica_world shape)
caused_first shape Short Held = record {
  replies = λ session position cause h. absurd cc;
  says = λ from to. All-nil (Says (λ name. Short name 0) (held_at Held 0) []);
  few = λ p h name of. absurd cc;
  gone = λ p h name of past. absurd cc;
  own = λ v. tt;
  fit = fit_first;
}
