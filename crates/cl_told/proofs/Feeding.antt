-- The front takes a line or an outcome: the transcript shows of each session what it has after it.
use Rattle.std.proofs.Common.{◌≡◌, ◌≢◌, ℕ, ◌%◌, ◌≤◌, Bool, inl, inr, ◌⊎◌, List, [], ◌∷◌, ◌++◌, length, map, filter, Result, Ok, Err, refl, sym, ap, ◌∙◌, subst}
use Rattle.std.proofs.lemmas.Bool.{cond-false, ne_eqb, cases_eq}
use Rattle.cl_exchange.specs.Stage.{SessionView, telling, view_of, is_of_session}
use Rattle.cl_exchange.proofs.Delivered.{IsAtSome}
use Rattle.cl_exchange.proofs.Heard.{any_turns, home_few, front_same, nothing_of, turns_elsewhere, turns_here, counted_world, from_one, taken_others, taken_own, its_outcome, heard_step, heard_sends}
use Rattle.cl_exchange.proofs.Resting.{turned_view}
use Rattle.cl_front.specs.Front.{FrontState, stepped, turns_with, with_entries, fed_as, fed_front, delivered_front, quiet_front}
use Rattle.cl_front.specs.Session.{SessionState, Turned, with_waiting, taken, heard, session_after}
use Rattle.cl_front.specs.Sessions.{session_in}
use Rattle.cl_lines.specs.Line.{line_of, client_of}
use Rattle.cl_lines.specs.declared.line.Line.{Line}
use Rattle.cl_lines.specs.declared.line.Line.TheVariants.{Client, Operator}
use Rattle.cl_lines.specs.declared.line.LineFault.{LineFault}
use Rattle.cl_lines.specs.declared.out.Out.{Out}
use Rattle.cl_lines.specs.declared.out.Out.TheVariants.{Answer, BadLine}
use Rattle.cl_lines.proofs.Readings.{line_of-session, client_of-client, client_of-order, client_of-fault}
use Rattle.cl_runs.specs.World.{Shape}
use Rattle.cl_serial.specs.Transcript.{fed, written, quiet, command_in}
use Rattle.cl_steps.specs.declared.actors.TheConstants.{FRONT}
use Rattle.cl_system.specs.Replicas.{ReplicaWorld, front_acts, nothing_noted, with_way}
use Rattle.cl_system.specs.Roles.{IsOfSession}
use Rattle.cl_told.specs.Told.{IsOutcomeOf}
use Rattle.cl_told.proofs.Fronts.{IsToldView, still_told, same_told, turned_told, one_turned, IsPrinted, printed}
use Rattle.cl_told.proofs.Shown.{Shows, shows-line, shows-other, shows-outcomes}
use Rattle.cl_told.proofs.Turning.{ShownTurns, heard_told}
use Rattle.cl_types.specs.Placement.{IsNodeCount}
use Rattle.cl_types.specs.declared.answers.Outcome.{Outcome as CommandOutcome}
use Rattle.cl_types.specs.declared.limits.TheConstants.{SESSIONS_MAX}
use Rattle.cl_types.specs.declared.operations.Command.{Command as ClientCommand}
use Rattle.cl_types.specs.declared.operations.TxnId.{TxnId}
use Rattle.cl_wire.specs.Message.{Content, Outcome}

-- the session is told by the transcript of the front
abbrev pub IsToldIn : Shape → ReplicaWorld → ℕ → Type 0
IsToldIn shape world s = IsToldView shape.nodes s (view_of shape.nodes world s) world.front.transcript

-- ---- a line

module _ (shape : Shape) (counted : IsNodeCount shape.nodes) (world : ReplicaWorld) (many : length world.front.sessions ≡ SESSIONS_MAX) (s : ℕ) (from : 1 ≤ s) (to : s ≤ SESSIONS_MAX) (at : IsAtSome shape.nodes world s)
    (is : IsToldIn shape world s) (number : ℕ) (text : List ℕ) where
  -- the world once the line is counted, and the front with the line in its transcript
  abbrev counting : ReplicaWorld
  counting = counted_world shape counted world many s from to at

  abbrev state : FrontState
  state = with_entries world.front (fed number text ∷ [])

  own_line : (command : ClientCommand) → line_of text ≡ Ok (Client s command) → IsToldIn shape (front_acts counting (stepped state s (turns_with (nothing_noted shape) state s command))) s
  own_line command reads =
      let turned : Turned = turns_with (nothing_noted shape) state s command in
      same_told shape.nodes s (state.transcript ++ map written turned.outs) (turns_here shape counted counting state s turned many from to)
      (one_turned shape s (home_few shape counted s) (view_of shape.nodes world s) world.front.transcript is command state.transcript
      (shows-line s world.front.transcript is.left is.told is.shows number text command (client_of-client text s command reads)) at.0 at.1 (nothing_of shape counted s))

  -- a line that asks nothing of the session
  not_asked : command_in s (length world.front.transcript) (client_of text) ≡ [] → Shows s state.transcript is.left is.told
  not_asked none = shows-other s world.front.transcript is.left is.told is.shows (fed number text) none refl

  other_line : (t : ℕ) (command : ClientCommand) → line_of text ≡ Ok (Client t command) → t ≢ s → IsToldIn shape (front_acts counting (stepped state t (turns_with (nothing_noted shape) state t command))) s
  other_line t command reads other =
      let session : SessionState = with_waiting (session_in state.sessions t) command in
      let turned : Turned = taken (nothing_noted shape) t session in
      let print : IsPrinted t turned = printed (nothing_noted shape) t session in
      still_told shape.nodes s (turns_elsewhere shape counted counting state t s session turned refl (line_of-session text t command reads).0 from other (any_turns shape t session)) is
      (subst (λ list. Shows s (state.transcript ++ list) is.left is.told) (sym print.is)
      (shows-outcomes s t state.transcript is.left is.told other print.outcomes
      (not_asked (ap (command_in s (length world.front.transcript)) (client_of-client text t command reads) ∙ cond-false _ _ _ (ne_eqb t s other)))))

  line_as : (reading : Result Line LineFault) → line_of text ≡ reading → IsToldIn shape (front_acts counting (fed_as (nothing_noted shape) state number reading)) s
  line_as (Ok (Client t command)) reads = by (cases_eq t s)
    where
      by : (t ≡ s) ⊎ (t ≢ s) → IsToldIn shape (front_acts counting (stepped state t (turns_with (nothing_noted shape) state t command))) s
      by (inl own) =
          subst (λ n. IsToldIn shape (front_acts counting (stepped state n (turns_with (nothing_noted shape) state n command))) s) (sym own)
          (own_line command (reads ∙ ap (λ n. Ok (Client n command)) own))
      by (inr other) = other_line t command reads other
  line_as (Ok (Operator order)) reads =
      still_told shape.nodes s (front_same shape counted counting s (fed_as (nothing_noted shape) state number (Ok (Operator order))) refl (nothing_of shape counted s)) is
      (not_asked (ap (command_in s (length world.front.transcript)) (client_of-order text order reads)))
  line_as (Err fault) reads =
      still_told shape.nodes s (front_same shape counted counting s (fed_as (nothing_noted shape) state number (Err fault)) refl (nothing_of shape counted s)) is
      (shows-other s state.transcript is.left is.told (not_asked (ap (command_in s (length world.front.transcript)) (client_of-fault text fault reads))) (written (BadLine number fault)) refl refl)

  pub line_told : (said : List Out) → IsToldIn shape (front_acts counting (fed_front (nothing_noted shape) world.front number text said)) s
  unfolding fed_front
  line_told said = line_as (line_of text) refl

-- a quiet moment
pub quiet_told : (shape : Shape) (world : ReplicaWorld) (s : ℕ) → IsToldIn shape world s → IsToldIn shape (record world { front = quiet_front world.front }) s
quiet_told shape world s is = still_told shape.nodes s refl is (shows-other s world.front.transcript is.left is.told is.shows quiet refl refl)

-- ---- an outcome

module _ (shape : Shape) (counted : IsNodeCount shape.nodes) (world : ReplicaWorld) (many : length world.front.sessions ≡ SESSIONS_MAX) (txn : TxnId) (of : IsOfSession txn) (number : ℕ) (outcome : CommandOutcome) (rest : List Content)
    (waits : world.mail (txn.session % shape.nodes) FRONT ≡ Outcome txn number outcome ∷ rest) where
  -- the world once the outcome was taken off
  abbrev off : ReplicaWorld
  off = record world { mail = with_way world.mail (txn.session % shape.nodes) FRONT rest }

  abbrev session : SessionState
  session = session_in world.front.sessions txn.session

  abbrev turned : Turned
  turned = heard (nothing_noted shape) txn.session session outcome

  between : (1 ≤ txn.session) × (txn.session ≤ SESSIONS_MAX)
  between = from_one shape counted world many txn of number outcome rest waits

  own_heard : IsAtSome shape.nodes world txn.session → IsToldIn shape world txn.session → IsToldIn shape (front_acts off (stepped world.front txn.session turned)) txn.session
  own_heard at told =
      let is = its_outcome shape counted world many txn of number outcome rest waits at in
      let same = is.same in
      let outcome_is : is.outcome ≡ outcome = cc in
      let tells = told.tells (telling is.current is.outcome is.entries) is.at in
      let shown : ShownTurns (nothing_noted shape) txn.session world.front.transcript turned
      = heard_told (nothing_noted shape) txn.session session is.current tells.0 outcome world.front.transcript told.told is.at.inside.inside
      (subst (λ left. Shows txn.session world.front.transcript left told.told) tells.1 told.shows) tells.2 (subst (IsOutcomeOf tells.0) outcome_is tells.3) in
      let view : SessionView = record (view_of shape.nodes world txn.session) { outcomes = filter (is_of_session txn.session) rest } in
      same_told shape.nodes txn.session (world.front.transcript ++ map written turned.outs)
      (turns_here shape counted off world.front txn.session turned many between.0 between.1
      ∙ ap (λ (v : SessionView). turned_view shape txn.session (home_few shape counted txn.session) v turned) (taken_own shape counted world many txn of number outcome rest waits))
      (turned_told shape txn.session (home_few shape counted txn.session) view is.at.commands turned world.front.transcript shown)

  other_heard : (s : ℕ) → 1 ≤ s → txn.session ≢ s → IsToldIn shape world s → IsToldIn shape (front_acts off (stepped world.front txn.session turned)) s
  other_heard s one other is =
      let after : SessionState = session_after outcome session in
      let print : IsPrinted txn.session (taken (nothing_noted shape) txn.session after) = printed (nothing_noted shape) txn.session after in
      still_told shape.nodes s
      (turns_elsewhere shape counted off world.front txn.session s after turned refl between.0 one other
      (heard_sends shape counted world many txn of number outcome rest waits (any_turns shape txn.session after))
      ∙ taken_others shape counted world many txn of number outcome rest waits s (λ e. other (sym e))) is
      (subst (λ list. Shows s (world.front.transcript ++ written (Answer txn.session outcome) ∷ list) is.left is.told) (sym print.is)
      (shows-outcomes s txn.session world.front.transcript is.left is.told other (outcome ∷ print.outcomes) is.shows))

  pub outcome_told : (from : ℕ) (mark : Bool) (s : ℕ) → 1 ≤ s → IsAtSome shape.nodes world txn.session → IsToldIn shape world txn.session → IsToldIn shape world s →
      IsToldIn shape (front_acts off (delivered_front (nothing_noted shape) world.front from (Outcome txn number outcome) mark)) s
  outcome_told from mark s one at own is =
      subst (λ step. IsToldIn shape (front_acts off step) s) (sym (heard_step shape counted world many txn of number outcome rest waits from mark at)) (by (cases_eq txn.session s))
    where
      by : (txn.session ≡ s) ⊎ (txn.session ≢ s) → IsToldIn shape (front_acts off (stepped world.front txn.session turned)) s
      by (inl same) = subst (λ n. IsToldIn shape (front_acts off (stepped world.front txn.session turned)) n) same (own_heard at own)
      by (inr other) = other_heard s one other is
