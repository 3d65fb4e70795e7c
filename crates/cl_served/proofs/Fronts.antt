-- The front takes a line or an outcome: what each session is told, and what is sent.
use Rattle.std.proofs.Common.{◌≡◌, ◌≢◌, ℕ, ◌%◌, Bool, true, false, inl, inr, ◌⊎◌, List, [], ◌∷◌, ◌++◌, length, map, All, Result, Ok, Err, refl, sym, ap, ◌∙◌, subst, append_assoc}
use Rattle.std.proofs.lemmas.Bool.{cond-false, ne_eqb, cases_eq}
use Rattle.std.proofs.lemmas.List.{append-nil}
use Rattle.std.proofs.lemmas.List.Elements.{All-nil}
use Rattle.cl_exchange.specs.Stage.{telling, view_of}
use Rattle.cl_exchange.proofs.Delivered.{IsAtSome}
use Rattle.cl_exchange.proofs.Heard.{any_turns, its_outcome, heard_sends}
use Rattle.cl_front.proofs.Turns.{taken-outstanding}
use Rattle.cl_front.specs.Front.{FrontState, stepped, turns_with, with_entries, fed_as, fed_front, quiet_front}
use Rattle.cl_front.specs.Session.{SessionState, Turned, is_outstanding, with_waiting, taken, heard, session_after, current_after}
use Rattle.cl_front.specs.Sessions.{session_in}
use Rattle.cl_front.specs.declared.current.Current.{Current}
use Rattle.cl_lines.specs.Line.{line_of, client_of}
use Rattle.cl_lines.specs.declared.line.Line.{Line}
use Rattle.cl_lines.specs.declared.line.Line.TheVariants.{Client, Operator}
use Rattle.cl_lines.specs.declared.line.LineFault.{LineFault}
use Rattle.cl_lines.specs.declared.out.Out.{Out}
use Rattle.cl_lines.specs.declared.out.Out.TheVariants.{Answer, BadLine}
use Rattle.cl_lines.proofs.Readings.{client_of-client, client_of-order, client_of-fault}
use Rattle.cl_actor.specs.Core.{CoreStep}
use Rattle.cl_runs.specs.World.{Shape}
use Rattle.cl_serial.specs.Exchanges.{answered}
use Rattle.cl_serial.specs.Transactions.{Session, session_step}
use Rattle.cl_serial.specs.Transcript.{TranscriptEntry, fed, written, quiet, command_in}
use Rattle.cl_steps.specs.declared.actors.TheConstants.{FRONT}
use Rattle.cl_steps.specs.declared.steps.Outgoing.{Outgoing}
use Rattle.cl_system.specs.Replicas.{ReplicaWorld, nothing_noted}
use Rattle.cl_system.specs.Roles.{IsOfSession}
use Rattle.cl_told.specs.Told.{told_session, pending, IsOutcomeOf, IsToldOutstanding}
use Rattle.cl_told.proofs.Feeding.{IsToldIn}
use Rattle.cl_told.proofs.Fronts.{free_view, IsPrinted, printed}
use Rattle.cl_told.proofs.Shown.{Shows, shows-line, shows-other, shows-outcomes, shows-answer}
use Rattle.cl_told.proofs.Turning.{IsFree, free_still, after_free, answered_told}
use Rattle.cl_types.specs.Placement.{IsNodeCount}
use Rattle.cl_types.specs.declared.answers.Outcome.{Outcome as CommandOutcome}
use Rattle.cl_types.specs.declared.limits.TheConstants.{SESSIONS_MAX}
use Rattle.cl_types.specs.declared.operations.Command.{Command as ClientCommand}
use Rattle.cl_types.specs.declared.operations.TxnId.{TxnId}
use Rattle.cl_wire.specs.Message.{Content, Command, Outcome}
use Rattle.cl_served.proofs.Asking.{outstanding_number}
use Rattle.cl_served.proofs.Sessions.{next_number}
use Rattle.cl_served.proofs.Turns.{IsCommandFrom, commands_from, KeptTurns, kept_turns}

-- the first of these commands is the first of those
abbrev pub IsLater : List ClientCommand → List ClientCommand → Type 0
IsLater left more = (command : ClientCommand) (rest : List ClientCommand) → left ≡ command ∷ rest → (later : List ClientCommand) × (more ≡ command ∷ later)

-- a command, which is of this session only where none was outstanding
abbrev pub IsFresh : ℕ → List ClientCommand → Content → Type 0
IsFresh s left (Command v txn number what) = txn.session ≡ s → left ≡ []
IsFresh s left content = ⊥

-- the session is told nothing of its transactions
pub record FrontKeeps (s : ℕ) (before after : List TranscriptEntry) (sends : List Outgoing) : Type 0 where
  pub told_is : told_session s after ≡ told_session s before
  pub later : IsLater (pending s before) (pending s after)
  pub fresh : All (λ send. IsFresh s (pending s before) send.payload) sends

-- its first command without an answer gets this outcome
pub record FrontHears (txn : TxnId) (outcome : CommandOutcome) (before after : List TranscriptEntry) (sends : List Outgoing) : Type 0 where
  pub what : ClientCommand
  pub line : ℕ
  pub session : SessionState
  pub current : Current
  pub fits : IsOutcomeOf what outcome
  pub outstanding : IsToldOutstanding (told_session txn.session before) session current what
  pub rest : List ClientCommand
  pub left : pending txn.session before ≡ what ∷ rest
  pub number_is : txn.number ≡ next_number (told_session txn.session before)
  pub told_is : told_session txn.session after ≡ session_step (told_session txn.session before) (answered (what, line) (outcome, length before))
  pub own : All (λ send. IsCommandFrom txn.session send.payload) sends

-- ---- sessions that are told nothing

later_same : (left more : List ClientCommand) → more ≡ left → IsLater left more
later_same left more same command rest is = (rest, same ∙ is)

later_longer : (left : List ClientCommand) (one : ClientCommand) → IsLater left (left ++ one ∷ [])
later_longer left one command rest is = (rest ++ one ∷ [], ap (λ list. list ++ one ∷ []) is)

later_none : (left more : List ClientCommand) → left ≡ [] → IsLater left more
later_none left more none command rest is = absurd (let no : [] ≡ command ∷ rest = sym none ∙ is in cc)

-- what another session sends
fresh_of : (t s : ℕ) (left : List ClientCommand) → (t ≡ s → left ≡ []) → (content : Content) → IsCommandFrom t content → IsFresh s left content
fresh_of t s left apart (Command v txn number what) is = λ same. apart (sym is ∙ same)
fresh_of t s left apart content is = absurd is

fresh_sends : (t s : ℕ) (left : List ClientCommand) (sends : List Outgoing) → (t ≡ s → left ≡ []) → All (λ send. IsCommandFrom t send.payload) sends →
    All (λ send. IsFresh s left send.payload) sends
fresh_sends t s left sends apart all = λ k d within. fresh_of t s left apart _ (all k d within)

keeps_shown : (s : ℕ) (before after : List TranscriptEntry) (sends : List Outgoing) (left : List ClientCommand) → Shows s after left (told_session s before) →
    IsLater (pending s before) left →
    All (λ send. IsFresh s (pending s before) send.payload) sends → FrontKeeps s before after sends
keeps_shown s before after sends left shows later fresh = record {
  told_is = shows.told_is;
  later = subst (IsLater (pending s before))
      (sym shows.left_is) later;
  fresh = fresh;
}

-- the front does nothing
pub nothing_keeps : (s : ℕ) (before : List TranscriptEntry) → FrontKeeps s before before []
nothing_keeps s before = record {
  told_is = refl;
  later = later_same (pending s before) (pending s before) refl;
  fresh = All-nil
      (λ (send : Outgoing). IsFresh s (pending s before) send.payload);
}

-- ---- a line

module _ (shape : Shape) (world : ReplicaWorld) (s : ℕ) (at : IsAtSome shape.nodes world s) (is : IsToldIn shape world s)
    (shown : Shows s world.front.transcript (pending s world.front.transcript) (told_session s world.front.transcript))
    (left_is : is.left ≡ pending s world.front.transcript) (told_is : is.told ≡ told_session s world.front.transcript) (number : ℕ) (text : List ℕ) where
  abbrev before : List TranscriptEntry
  before = world.front.transcript

  abbrev state : FrontState
  state = with_entries world.front (fed number text ∷ [])

  abbrev session : SessionState
  session = session_in world.front.sessions s

  abbrev Keeps : CoreStep FrontState → Type 0
  Keeps step = FrontKeeps s before step.state.transcript step.step.sends

  own_line : (command : ClientCommand) → line_of text ≡ Ok (Client s command) → Keeps (stepped state s (turns_with (nothing_noted shape) state s command))
  own_line command reads = by (is_outstanding session) refl
    where
      shows : Shows s state.transcript (pending s before ++ command ∷ []) (told_session s before)
      shows = shows-line s before (pending s before) (told_session s before) shown number text command (client_of-client text s command reads)

      by : (busy : Bool) → is_outstanding session ≡ busy → Keeps (stepped state s (turns_with (nothing_noted shape) state s command))
      by true busy =
          subst (λ (turns : Turned). Keeps (stepped state s turns)) (sym (taken-outstanding (nothing_noted shape) s (with_waiting session command) busy))
          (keeps_shown s before (state.transcript ++ []) [] (pending s before ++ command ∷ [])
          (subst (λ list. Shows s list (pending s before ++ command ∷ []) (told_session s before)) (sym (append-nil state.transcript)) shows)
          (later_longer (pending s before) command) (All-nil (λ (send : Outgoing). IsFresh s (pending s before) send.payload)))
      by false free =
          let idle = free_view shape.nodes s (view_of shape.nodes world s) before is at.0 at.1 free in
          let none : pending s before ≡ [] = sym left_is ∙ idle.left_is in
          let turns : Turned = taken (nothing_noted shape) s (with_waiting session command) in
          let kept : KeptTurns (nothing_noted shape) s state.transcript (told_session s before) turns
          = kept_turns (nothing_noted shape) s (session.waiting ++ command ∷ []) session.begun session.current state.transcript (told_session s before) free
          (subst (λ left. Shows s state.transcript (left ++ command ∷ []) (told_session s before)) (none ∙ sym (is.rests free)) shows)
          (free_still (told_session s before) session (with_waiting session command) refl session.current
          (subst (λ told. IsFree told session session.current) told_is idle.is)) in
          keeps_shown s before (state.transcript ++ map written turns.outs) turns.sends kept.left kept.shows (later_none (pending s before) kept.left none)
          (fresh_sends s s (pending s before) turns.sends (λ same. none)
          (commands_from (nothing_noted shape) s _ _ turns (any_turns shape s (with_waiting session command))))

  -- a line that asks nothing of the session
  unasked : command_in s (length before) (client_of text) ≡ [] → Shows s state.transcript (pending s before) (told_session s before)
  unasked none = shows-other s before (pending s before) (told_session s before) shown (fed number text) none refl

  quietly : (after : List TranscriptEntry) → Shows s after (pending s before) (told_session s before) → (sends : List Outgoing) →
      All (λ send. IsFresh s (pending s before) send.payload) sends → FrontKeeps s before after sends
  quietly after shows sends fresh = keeps_shown s before after sends (pending s before) shows (later_same (pending s before) (pending s before) refl) fresh

  other_line : (t : ℕ) (command : ClientCommand) → line_of text ≡ Ok (Client t command) → t ≢ s →
      Keeps (stepped state t (turns_with (nothing_noted shape) state t command))
  other_line t command reads other =
      let next : SessionState = with_waiting (session_in state.sessions t) command in
      let turns : Turned = taken (nothing_noted shape) t next in
      let print : IsPrinted t turns = printed (nothing_noted shape) t next in
      quietly (state.transcript ++ map written turns.outs)
      (subst (λ list. Shows s (state.transcript ++ list) (pending s before) (told_session s before)) (sym print.is)
      (shows-outcomes s t state.transcript (pending s before) (told_session s before) other print.outcomes
      (unasked (ap (command_in s (length before)) (client_of-client text t command reads) ∙ cond-false _ _ _ (ne_eqb t s other))))) turns.sends
      (fresh_sends t s (pending s before) turns.sends (λ same. absurd (other same)) (commands_from (nothing_noted shape) t _ _ turns (any_turns shape t next)))

  line_as : (reading : Result Line LineFault) → line_of text ≡ reading → Keeps (fed_as (nothing_noted shape) state number reading)
  line_as (Ok (Client t command)) reads = by (cases_eq t s)
    where
      by : (t ≡ s) ⊎ (t ≢ s) → Keeps (stepped state t (turns_with (nothing_noted shape) state t command))
      by (inl own) =
          subst (λ n. Keeps (stepped state n (turns_with (nothing_noted shape) state n command))) (sym own)
          (own_line command (reads ∙ ap (λ n. Ok (Client n command)) own))
      by (inr other) = other_line t command reads other
  line_as (Ok (Operator order)) reads =
      quietly state.transcript (unasked (ap (command_in s (length before)) (client_of-order text order reads))) []
      (All-nil (λ (send : Outgoing). IsFresh s (pending s before) send.payload))
  line_as (Err fault) reads =
      quietly (state.transcript ++ written (BadLine number fault) ∷ [])
      (shows-other s state.transcript (pending s before) (told_session s before)
      (unasked (ap (command_in s (length before)) (client_of-fault text fault reads))) (written (BadLine number fault)) refl refl) []
      (All-nil (λ (send : Outgoing). IsFresh s (pending s before) send.payload))

  pub line_keeps : (said : List Out) → Keeps (fed_front (nothing_noted shape) world.front number text said)
  unfolding fed_front
  line_keeps said = line_as (line_of text) refl

-- a quiet moment
pub quiet_keeps : (s : ℕ) (front : FrontState) → Shows s front.transcript (pending s front.transcript) (told_session s front.transcript) →
    FrontKeeps s front.transcript (quiet_front front).transcript []
quiet_keeps s front shown =
    keeps_shown s front.transcript (front.transcript ++ quiet ∷ []) [] (pending s front.transcript)
    (shows-other s front.transcript (pending s front.transcript) (told_session s front.transcript) shown quiet refl refl)
    (later_same (pending s front.transcript) (pending s front.transcript) refl)
    (All-nil (λ (send : Outgoing). IsFresh s (pending s front.transcript) send.payload))

-- ---- an outcome

txn_in_outcome : TxnId → Content → TxnId
txn_in_outcome given (Outcome txn number outcome) = txn
txn_in_outcome given other = given

module _ (shape : Shape) (counted : IsNodeCount shape.nodes) (world : ReplicaWorld) (many : length world.front.sessions ≡ SESSIONS_MAX) (txn : TxnId)
    (of : IsOfSession txn) (number : ℕ) (outcome : CommandOutcome) (rest : List Content)
    (waits : world.mail (txn.session % shape.nodes) FRONT ≡ Outcome txn number outcome ∷ rest) where
  abbrev heard_before : List TranscriptEntry
  heard_before = world.front.transcript

  abbrev its_session : SessionState
  its_session = session_in world.front.sessions txn.session

  abbrev pub turned : Turned
  turned = heard (nothing_noted shape) txn.session its_session outcome

  abbrev pub heard_after : List TranscriptEntry
  heard_after = heard_before ++ map written turned.outs

  sends_from : All (λ send. IsCommandFrom txn.session send.payload) turned.sends
  sends_from =
      commands_from (nothing_noted shape) txn.session _ _ turned
      (heard_sends shape counted world many txn of number outcome rest waits (any_turns shape txn.session (session_after outcome its_session)))

  pub own_hears : IsAtSome shape.nodes world txn.session → (is : IsToldIn shape world txn.session) → is.left ≡ pending txn.session heard_before →
      is.told ≡ told_session txn.session heard_before →
      FrontHears txn outcome heard_before heard_after turned.sends
  unfolding txn_in_outcome
  own_hears at is left_is told_is =
      let s : ℕ = txn.session in
      let it = its_outcome shape counted world many txn of number outcome rest waits at in
      let same = it.same in
      let outcome_is : it.outcome ≡ outcome = cc in
      let tells = is.tells (telling it.current it.outcome it.entries) it.at in
      let told : Session = told_session s heard_before in
      let fits : IsOutcomeOf tells.0 outcome = subst (IsOutcomeOf tells.0) outcome_is tells.3 in
      let outstanding : IsToldOutstanding told its_session it.current tells.0 = subst
      (λ (t : Session). IsToldOutstanding t its_session it.current tells.0) told_is tells.2 in
      let answer = shows-answer s heard_before tells.0 outcome its_session.waiting told
      (subst (λ (t : Session). Shows s heard_before (tells.0 ∷ its_session.waiting) t) told_is
      (subst (λ left. Shows s heard_before left is.told) tells.1 is.shows)) in
      let after : SessionState = session_after outcome its_session in
      let one : TranscriptEntry = written (Answer s outcome) in
      let now : Session = session_step told (answered (tells.0, answer.line) (outcome, length heard_before)) in
      let kept : KeptTurns (nothing_noted shape) s (heard_before ++ one ∷ []) now (taken (nothing_noted shape) s after)
      = kept_turns (nothing_noted shape) s its_session.waiting its_session.begun (current_after outcome its_session.current) (heard_before ++ one ∷ []) now
      (after_free outcome its_session.current) answer.shows
      (subst (λ c. IsFree now after (current_after outcome c)) (sym it.at.inside.inside)
      (answered_told told its_session after it.current refl answer.line (length heard_before) tells.0 outcome fits outstanding)) in
      let number_is : txn.number ≡ its_session.begun = ap (λ c. (txn_in_outcome txn c).number) same in
      record {
        what = tells.0;
        line = answer.line;
        session = its_session;
        current = it.current;
        fits = fits;
        outstanding = outstanding;
        rest = its_session.waiting;
        left = sym left_is ∙ tells.1;
        number_is = number_is ∙ outstanding_number told its_session it.current tells.0 outstanding;
        told_is = (subst (λ list. Shows s list kept.left now)
            (append_assoc heard_before (one ∷ []) (map written (taken (nothing_noted shape) s after).outs)) kept.shows).told_is;
        own = sends_from;
      }

  pub others_keep : (s : ℕ) → txn.session ≢ s → Shows s heard_before (pending s heard_before) (told_session s heard_before) →
      FrontKeeps s heard_before heard_after turned.sends
  others_keep s other shown =
      let after : SessionState = session_after outcome its_session in
      let print : IsPrinted txn.session (taken (nothing_noted shape) txn.session after) = printed (nothing_noted shape) txn.session after in
      keeps_shown s heard_before heard_after turned.sends (pending s heard_before)
      (subst (λ list. Shows s (heard_before ++ written (Answer txn.session outcome) ∷ list) (pending s heard_before) (told_session s heard_before))
      (sym print.is)
      (shows-outcomes s txn.session heard_before (pending s heard_before) (told_session s heard_before) other (outcome ∷ print.outcomes) shown))
      (later_same (pending s heard_before) (pending s heard_before) refl)
      (fresh_sends txn.session s (pending s heard_before) turned.sends (λ same. absurd (other same)) sends_from)
