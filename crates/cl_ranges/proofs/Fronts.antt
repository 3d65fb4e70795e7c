-- The step of the front: what its sessions have stays in range, and so are the commands that it sends, but for their numbers.
use Rattle.std.proofs.Common.{◌≡◌, ℕ, ◌-◌, ◌≤◌, Bool, true, false, if◌then◌else◌, inl, inr, List, [], ◌∷◌, length, fold, All, Option, Some, None, Result, Ok, Err, refl, sym, subst, arith}
use Rattle.std.proofs.lemmas.Bool.{cases_lt, leb-true, and_parts, leb-false, or_parts}
use Rattle.std.proofs.lemmas.List.{get_or_past}
use Rattle.std.proofs.lemmas.List.Elements.{All-nil, All-cons, All-head, All-tail, All-append, All-push, All-set, All-get_or}
use Rattle.cl_actor.specs.Core.{CoreStep}
use Rattle.cl_fields.specs.Range.{IsTxn, IsVirtualNode, IsCommand}
use Rattle.cl_front.specs.declared.current.Current.{Current}
use Rattle.cl_front.specs.declared.limits.TheConstants.{TXN_NUMBER_MAX}
use Rattle.cl_front.specs.Front.{FrontState, delivered_front, fed_front, fed_as, with_entries, stepped, turns_with, is_line_spent, is_spent_as, is_delivery_spent}
use Rattle.cl_front.specs.Session.{SessionState, no_session, is_outstanding, with_waiting, Turned, unturned, joined, turned, turned_by, next_current, begun_after, is_spent_by, offered, taken, heard, session_after, current_after}
use Rattle.cl_front.specs.Sessions.{session_in, is_awaited}
use Rattle.cl_lines.proofs.Spellings.{spells_from_line}
use Rattle.cl_lines.specs.Laws.{IsAskable}
use Rattle.cl_lines.specs.Line.{line_of}
use Rattle.cl_lines.specs.declared.line.Line.{Line}
use Rattle.cl_lines.specs.declared.line.Line.TheVariants.{Client, Operator}
use Rattle.cl_lines.specs.declared.line.LineFault.{LineFault}
use Rattle.cl_lines.specs.declared.out.Out.{Out}
use Rattle.cl_ranges.specs.Ranges.{HasBegun, IsSessionInRange}
use Rattle.cl_runs.specs.World.{Shape}
use Rattle.cl_serial.specs.Transcript.{fed}
use Rattle.cl_steps.specs.Steps.{nothing_done}
use Rattle.cl_steps.specs.declared.steps.Outgoing.{Outgoing}
use Rattle.cl_system.specs.Replicas.{nothing_noted}
use Rattle.cl_types.proofs.Digits.{fits-is_signed_64}
use Rattle.cl_types.proofs.PlacementLaws.{node_count-bounds}
use Rattle.cl_types.specs.Placement.{IsNodeCount}
use Rattle.cl_types.specs.declared.answers.Outcome.{Outcome}
use Rattle.cl_types.specs.declared.answers.Outcome.TheVariants.{Done, Begun, Committed, Aborted, NotTxn, InTxn, Full}
use Rattle.cl_types.specs.declared.limits.TheConstants.{SESSIONS_MAX}
use Rattle.cl_types.specs.declared.operations.Command.{Command}
use Rattle.cl_types.specs.declared.operations.Command.TheVariants.{Begin, Work, Commit, Abort}
use Rattle.cl_types.specs.declared.operations.Op.TheVariants.{Get, Put, Del, Add}
use Rattle.cl_wire.specs.Message.{Content}
use Rattle.cl_wire.specs.Message as message

-- a command is in range, but for its number
abbrev pub IsUnnumbered : Content → Type 0
IsUnnumbered (message.Command v txn number asked) = IsVirtualNode v × IsTxn txn × IsCommand asked
IsUnnumbered content = ⊥

abbrev pub IsUnnumberedSent : Outgoing → Type 0
IsUnnumberedSent send = IsUnnumbered send.payload

-- what turns leave and send
record AreTurnsInRange (turns : Turned) : Type 0 where
  session : IsSessionInRange turns.session
  sends : All IsUnnumberedSent turns.sends

-- what a step of the front leaves and sends
pub record IsFrontStepInRange (step : CoreStep FrontState) : Type 0 where
  pub sessions : All IsSessionInRange step.state.sessions
  pub sends : All IsUnnumberedSent step.step.sends

none_sent : All IsUnnumberedSent []
none_sent = All-nil IsUnnumberedSent

-- a command that a line can ask is in range
askable_range : (command : Command) → IsAskable command → IsCommand command
askable_range Begin is = tt
askable_range (Work table key Get) (table_is, key_is) = (table_is, key_is, tt)
askable_range (Work table key (Put value)) (table_is, key_is, value_is) = (table_is, key_is, value_is)
askable_range (Work table key Del) (table_is, key_is) = (table_is, key_is, tt)
askable_range (Work table key (Add amount)) (table_is, key_is, amount_is) = (table_is, key_is, fits-is_signed_64 amount amount_is)
askable_range Commit is = tt
askable_range Abort is = tt

-- a command that is sent is of a transaction that was begun
next_begun : (current : Option Current) (begun : ℕ) (command : Command) (next : Current) → next_current current command ≡ Ok next → HasBegun current begun → 1 ≤ begun_after command begun
next_begun None begun Begin next is has = omega arith
next_begun None begun (Work table key op) next is has = absurd cc
next_begun None begun Commit next is has = absurd cc
next_begun None begun Abort next is has = absurd cc
next_begun (Some current) begun Begin next is has = absurd cc
next_begun (Some current) begun (Work table key op) next is has = has
next_begun (Some current) begun Commit next is has = has
next_begun (Some current) begun Abort next is has = has

begun_range : (command : Command) (begun : ℕ) → is_spent_by command begun ≡ false → begun ≤ TXN_NUMBER_MAX → begun_after command begun ≤ TXN_NUMBER_MAX
begun_range Begin begun unspent most = let more = leb-false TXN_NUMBER_MAX begun unspent in omega (arith, more)
begun_range (Work table key op) begun unspent most = most
begun_range Commit begun unspent most = most
begun_range Abort begun unspent most = most

after_begun : (outcome : Outcome) (current : Option Current) (begun : ℕ) → HasBegun current begun → HasBegun (current_after outcome current) begun
after_begun outcome None begun has = tt
after_begun Committed (Some current) begun has = tt
after_begun (Aborted cause) (Some current) begun has = tt
after_begun (Done reply) (Some current) begun has = has
after_begun Begun (Some current) begun has = has
after_begun NotTxn (Some current) begun has = has
after_begun InTxn (Some current) begun has = has
after_begun Full (Some current) begun has = has

pub no_session_range : IsSessionInRange no_session
no_session_range = record { waiting = All-nil IsCommand; begun = omega arith; inside = tt }

session_range : (sessions : List SessionState) (s : ℕ) → All IsSessionInRange sessions → IsSessionInRange (session_in sessions s)
session_range sessions s are =
    elim (cases_lt (s - 1) (length sessions)) [
      | inl within ↦ All-get_or IsSessionInRange sessions (s - 1) no_session within are
      | inr past ↦ subst IsSessionInRange (sym (get_or_past sessions (s - 1) no_session past)) no_session_range
    ]

module _ (shape : Shape) (counted : IsNodeCount shape.nodes) where
  module _ (s : ℕ) (low : 1 ≤ s) (high : s ≤ SESSIONS_MAX) where
    turned_by_range : (session : SessionState) (command : Command) (next : Result Current Outcome) → next_current session.current command ≡ next → IsSessionInRange session → IsCommand command →
        (turned_by (nothing_noted shape) s session command next).spent ≡ false → AreTurnsInRange (turned_by (nothing_noted shape) s session command next)
    turned_by_range session command (Ok current) is range lawful unspent =
        let some : 1 ≤ begun_after command session.begun = next_begun session.current session.begun command current is range.inside in
        let most : begun_after command session.begun ≤ TXN_NUMBER_MAX = begun_range command session.begun unspent range.begun in
        let few = node_count-bounds shape.nodes counted in
        record {
          session = record { waiting = range.waiting; begun = most; inside = some };
          sends = All-cons IsUnnumberedSent _ [] (omega (arith, few.0, few.1), record { low = low; high = high; number = record { low = some; high = omega (arith, most) } }, lawful) none_sent;
        }
    turned_by_range session command (Err outcome) is range lawful unspent = record { session = range; sends = none_sent }

    offered_range : (so_far : Turned) (command : Command) → IsCommand command → (so_far.spent ≡ false → AreTurnsInRange so_far) →
        (offered (nothing_noted shape) s so_far command).spent ≡ false → AreTurnsInRange (offered (nothing_noted shape) s so_far command)
    offered_range so_far command lawful range =
        elim (is_outstanding so_far.session) as (λ busy. (if busy then record so_far { session = with_waiting so_far.session command }
        else joined so_far (turned (nothing_noted shape) s so_far.session command)).spent ≡ false →
        AreTurnsInRange (if busy then record so_far { session = with_waiting so_far.session command } else joined so_far (turned (nothing_noted shape) s so_far.session command))) [
          | true ↦ λ unspent.
              (let is = range unspent in
              record { session = record { waiting = All-push IsCommand so_far.session.waiting command is.session.waiting lawful; begun = is.session.begun; inside = is.session.inside }; sends = is.sends })
          | false ↦ λ unspent.
              (let both = or_parts so_far.spent (turned (nothing_noted shape) s so_far.session command).spent unspent in
              let is = range both.0 in
              let turn : AreTurnsInRange (turned (nothing_noted shape) s so_far.session command)
              = turned_by_range so_far.session command (next_current so_far.session.current command) refl is.session lawful both.1 in
              record { session = turn.session; sends = All-append IsUnnumberedSent so_far.sends (turned (nothing_noted shape) s so_far.session command).sends is.sends turn.sends })
        ]

    all_offered_range : (commands : List Command) (so_far : Turned) → All IsCommand commands → (so_far.spent ≡ false → AreTurnsInRange so_far) →
        (fold (offered (nothing_noted shape) s) so_far commands).spent ≡ false → AreTurnsInRange (fold (offered (nothing_noted shape) s) so_far commands)
    all_offered_range [] so_far are range = range
    all_offered_range (command ∷ rest) so_far are range =
        all_offered_range rest (offered (nothing_noted shape) s so_far command) (All-tail IsCommand command rest are) (offered_range so_far command (All-head IsCommand command rest are) range)

    taken_range : (session : SessionState) → IsSessionInRange session → (taken (nothing_noted shape) s session).spent ≡ false → AreTurnsInRange (taken (nothing_noted shape) s session)
    unfolding taken
    taken_range session range =
        all_offered_range session.waiting (unturned (record session { waiting = [] })) range.waiting
        (λ unspent. record { session = record { waiting = All-nil IsCommand; begun = range.begun; inside = range.inside }; sends = none_sent })

    heard_range : (session : SessionState) (outcome : Outcome) → IsSessionInRange session → (heard (nothing_noted shape) s session outcome).spent ≡ false → AreTurnsInRange (heard (nothing_noted shape) s session outcome)
    heard_range session outcome range unspent =
        let after : IsSessionInRange (session_after outcome session)
        = record { waiting = range.waiting; begun = range.begun; inside = after_begun outcome session.current session.begun range.inside } in
        let turns : AreTurnsInRange (taken (nothing_noted shape) s (session_after outcome session)) = taken_range (session_after outcome session) after unspent in
        record { session = turns.session; sends = turns.sends }

  -- the turns come to the sessions
  stepped_range : (state : FrontState) (s : ℕ) (turns : Turned) → All IsSessionInRange state.sessions → AreTurnsInRange turns → IsFrontStepInRange (stepped state s turns)
  stepped_range state s turns are range = record { sessions = All-set IsSessionInRange state.sessions (s - 1) turns.session range.session are; sends = range.sends }

  fed_as_range : (state : FrontState) (line : ℕ) (text : List ℕ) (read : Result Line LineFault) → line_of text ≡ read → All IsSessionInRange state.sessions →
      is_spent_as (nothing_noted shape) state read ≡ false → IsFrontStepInRange (fed_as (nothing_noted shape) state line read)
  fed_as_range state line text (Ok (Client s command)) is are unspent =
      let spelled = spells_from_line text s command is in
      let session : SessionState = session_in state.sessions s in
      let range : IsSessionInRange session = session_range state.sessions s are in
      let more : IsSessionInRange (with_waiting session command)
      = record { waiting = All-push IsCommand session.waiting command range.waiting (askable_range command spelled.askable); begun = range.begun; inside = range.inside } in
      stepped_range state s (turns_with (nothing_noted shape) state s command) are (taken_range s spelled.session_from spelled.session_to (with_waiting session command) more unspent)
  fed_as_range state line text (Ok (Operator order)) is are unspent = record { sessions = are; sends = none_sent }
  fed_as_range state line text (Err fault) is are unspent = record { sessions = are; sends = none_sent }

  -- the step on a line
  pub line_range : (state : FrontState) (line : ℕ) (text : List ℕ) (said : List Out) → All IsSessionInRange state.sessions →
      is_line_spent (nothing_noted shape) state line text said ≡ false → IsFrontStepInRange (fed_front (nothing_noted shape) state line text said)
  unfolding fed_front is_line_spent
  line_range state line text said are unspent = fed_as_range (with_entries state (fed line text ∷ [])) line text (line_of text) refl are (still (line_of text) unspent)
    where
      still : (read : Result Line LineFault) → is_spent_as (nothing_noted shape) state read ≡ false → is_spent_as (nothing_noted shape) (with_entries state (fed line text ∷ [])) read ≡ false
      still (Ok (Client s command)) is = is
      still (Ok (Operator order)) is = is
      still (Err fault) is = is

  either_range : (awaited : Bool) (state : FrontState) (s : ℕ) (turns : Turned) → All IsSessionInRange state.sessions → (awaited ≡ true → turns.spent ≡ false → AreTurnsInRange turns) →
      (if awaited then turns.spent else false) ≡ false → IsFrontStepInRange (if awaited then stepped state s turns else record { state = state; step = nothing_done })
  either_range true state s turns are range unspent = stepped_range state s turns are (range refl unspent)
  either_range false state s turns are range unspent = record { sessions = are; sends = none_sent }

  -- the step on a message
  pub message_range : (state : FrontState) (from : ℕ) (content : Content) (mark : Bool) → All IsSessionInRange state.sessions →
      is_delivery_spent (nothing_noted shape) state from content ≡ false → IsFrontStepInRange (delivered_front (nothing_noted shape) state from content mark)
  unfolding is_delivery_spent
  message_range state from (message.Outcome txn number outcome) mark are unspent =
      either_range (is_awaited state.sessions txn number) state txn.session (heard (nothing_noted shape) txn.session (session_in state.sessions txn.session) outcome) are
      (λ awaited.
      let session = (and_parts _ _ (and_parts _ _ awaited).0).0 in
      let parts = and_parts _ _ session in
      heard_range txn.session (leb-true 1 txn.session parts.0) (leb-true txn.session SESSIONS_MAX parts.1) (session_in state.sessions txn.session) outcome (session_range state.sessions txn.session are))
      unspent
  message_range state from content mark are unspent = record { sessions = are; sends = none_sent }
