-- The numbers of commands: a step raises them by at most one.
use Rattle.std.proofs.Common.{◌≡◌, ℕ, zero, suc, ◌+◌, ◌-◌, ◌<◌, ◌≤◌, ◌^◌, nat_le, Bool, true, false, if◌then◌else◌, List, [], ◌∷◌, fold, slice_set, slice_index_or, replicate, Option, Some, None, Result, Ok, Err, arith, refl, subst}
use Rattle.cl_actor.specs.Core.{Noted}
use Rattle.cl_front.specs.declared.current.Current.{Current}
use Rattle.cl_front.specs.Front.{FrontState, new_front, fed_front, fed_as, delivered_front, delivered_content, LineFits, FitsAs, DeliveryFits, turns_with, with_entries, stepped}
use Rattle.cl_front.specs.Laws.{IsNumberedUpTo, AreNumberedUpTo}
use Rattle.cl_front.specs.Session.{SessionState, no_session, is_outstanding, with_waiting, Turned, unturned, joined, turned, turned_by, next_current, with_command, offered, taken, heard, session_after, current_after, HasNextNumber}
use Rattle.cl_front.specs.Sessions.{session_in, with_session, is_awaited}
use Rattle.cl_front.proofs.Turns.{next-outstanding}
use Rattle.cl_types.specs.declared.answers.Outcome.{Outcome}
use Rattle.cl_types.specs.declared.answers.Outcome.TheVariants as outcomes
use Rattle.cl_lines.specs.Line.{line_of}
use Rattle.cl_lines.specs.declared.out.Out.{Out}
use Rattle.cl_serial.specs.Transcript.{fed}
use Rattle.cl_types.specs.declared.operations.TxnId.{TxnId}
use Rattle.cl_lines.specs.declared.line.Line.{Line}
use Rattle.cl_lines.specs.declared.line.Line.TheVariants.{Client, Operator}
use Rattle.cl_lines.specs.declared.line.LineFault.{LineFault}
use Rattle.cl_types.specs.declared.operations.Command.{Command}
use Rattle.cl_types.specs.declared.operations.Command.TheVariants.{Begin, Work, Commit, Abort}
use Rattle.cl_types.specs.declared.limits.TheConstants.{OPERATIONS_MAX, SESSIONS_MAX}
use Rattle.cl_steps.specs.Steps.{nothing_done}
use Rattle.cl_wire.specs.Message.{Content}
use Rattle.cl_wire.specs.Message as message

-- one more is more than enough
up_to_more : (most : ℕ) (current : Option Current) → IsNumberedUpTo most current → IsNumberedUpTo (most + 1) current
up_to_more most None h = tt
up_to_more most (Some current) h = omega arith

-- the number that comes next has room
up_to_next : (most : ℕ) (current : Option Current) → most + 1 < 2 ^ 32 → IsNumberedUpTo most current → HasNextNumber current
up_to_next most None few h = tt
up_to_next most (Some current) few h = omega arith

-- between turns the numbers are up to one more, and up to the same where no command is outstanding
record HasTurnsLeft (most : ℕ) (session : SessionState) : Type 0 where
  free : is_outstanding session ≡ false → IsNumberedUpTo most session.current
  any : IsNumberedUpTo (most + 1) session.current

-- the number of the command that is outstanding next
commands_in : Result Current Outcome → ℕ
commands_in (Ok current) = current.commands
commands_in (Err outcome) = 0

operation-numbers : (most : ℕ) (current : Current) (full : Bool) → current.commands ≤ most →
    commands_in (if full then Err outcomes.Full else Ok (with_command current (current.operations + 1))) ≤ most + 1
unfolding commands_in
operation-numbers most current true h = omega arith
operation-numbers most current false h = omega arith

next-numbers : (most : ℕ) (current : Option Current) (command : Command) → IsNumberedUpTo most current → commands_in (next_current current command) ≤ most + 1
unfolding commands_in
next-numbers most None Begin h = omega arith
next-numbers most None (Work table key op) h = omega arith
next-numbers most None Commit h = omega arith
next-numbers most None Abort h = omega arith
next-numbers most (Some current) Begin h = omega arith
next-numbers most (Some current) (Work table key op) h = operation-numbers most current (nat_le OPERATIONS_MAX current.operations) h
next-numbers most (Some current) Commit h = omega arith
next-numbers most (Some current) Abort h = omega arith

turned_by-numbers : (most : ℕ) (noted : Noted) (s : ℕ) (session : SessionState) (command : Command) (next : Result Current Outcome) →
    commands_in next ≤ most + 1 → ((sent : Current) → next ≡ Ok sent → sent.outstanding ≡ true) → IsNumberedUpTo most session.current →
    HasTurnsLeft most (turned_by noted s session command next).session
unfolding commands_in
turned_by-numbers most noted s session command (Ok current) few busy h =
    record { free = λ free. (let e = busy current refl in absurd cc); any = few }
turned_by-numbers most noted s session command (Err outcome) few busy h = record { free = λ free. h; any = up_to_more most session.current h }

offered-numbers : (most : ℕ) (noted : Noted) (s : ℕ) (so_far : Turned) (command : Command) →
    HasTurnsLeft most so_far.session → HasTurnsLeft most (offered noted s so_far command).session
offered-numbers most noted s so_far command h =
    let turn = turned noted s so_far.session command in
    elim (is_outstanding so_far.session) as (λ busy. (is_outstanding so_far.session ≡ busy) →
    HasTurnsLeft most (if busy then record so_far { session = with_waiting so_far.session command } else joined so_far turn).session) [
      | true ↦ λ e. record { free = h.free; any = h.any }
      | false ↦ λ e. turned_by-numbers most noted s so_far.session command (next_current so_far.session.current command)
          (next-numbers most so_far.session.current command (h.free e)) (next-outstanding so_far.session.current command) (h.free e)
    ]
    refl

all_offered-numbers : (most : ℕ) (noted : Noted) (s : ℕ) (commands : List Command) (so_far : Turned) →
    HasTurnsLeft most so_far.session → HasTurnsLeft most (fold (offered noted s) so_far commands).session
all_offered-numbers most noted s [] so_far h = h
all_offered-numbers most noted s (command ∷ rest) so_far h =
    all_offered-numbers most noted s rest (offered noted s so_far command) (offered-numbers most noted s so_far command h)

-- the turns of a session raise the numbers by at most one
taken-numbers : (most : ℕ) (noted : Noted) (s : ℕ) (session : SessionState) → IsNumberedUpTo most session.current →
    IsNumberedUpTo (most + 1) (taken noted s session).session.current
unfolding taken
taken-numbers most noted s session h =
    (all_offered-numbers most noted s session.waiting (unturned (record session { waiting = [] }))
    (record { free = λ free. h; any = up_to_more most session.current h })).any

-- an outcome leaves the number
current_after-numbers : (most : ℕ) (outcome : Outcome) (current : Option Current) → IsNumberedUpTo most current → IsNumberedUpTo most (current_after outcome current)
current_after-numbers most outcome None h = tt
current_after-numbers most outcomes.Committed (Some current) h = tt
current_after-numbers most (outcomes.Aborted cause) (Some current) h = tt
current_after-numbers most outcome (Some current) h = h

-- what holds of each item and of a new one holds of each item after a change
each-set : (P : SessionState → Type 0) (items : List SessionState) (i j : ℕ) (new d : SessionState) →
    ((k : ℕ) → P (slice_index_or items k d)) → P new → P (slice_index_or (slice_set items i new) j d)
each-set P [] i j new d each h = each j
each-set P (item ∷ items) zero zero new d each h = h
each-set P (item ∷ items) zero (suc j) new d each h = each (suc j)
each-set P (item ∷ items) (suc i) zero new d each h = each zero
each-set P (item ∷ items) (suc i) (suc j) new d each h = each-set P items i j new d (λ k. each (suc k)) h

-- one session changed, the numbers of all are up to one more
with_session-numbers : (most : ℕ) (sessions : List SessionState) (s : ℕ) (session : SessionState) →
    ((k : ℕ) → IsNumberedUpTo most (slice_index_or sessions k no_session).current) → IsNumberedUpTo (most + 1) session.current →
    (other : ℕ) → IsNumberedUpTo (most + 1) (session_in (with_session sessions s session) other).current
with_session-numbers most sessions s session h changed other =
    each-set (λ one. IsNumberedUpTo (most + 1) one.current) sessions (s - 1) (other - 1) session no_session
    (λ k. up_to_more most (slice_index_or sessions k no_session).current (h k)) changed

-- by index in place of the number of the session
at_index : (most : ℕ) (state : FrontState) → AreNumberedUpTo most state → (k : ℕ) → IsNumberedUpTo most (slice_index_or state.sessions k no_session).current
at_index most state h k =
    let P : ℕ → Type 0 = λ i. IsNumberedUpTo most (slice_index_or state.sessions i no_session).current in
    let e : k + 1 - 1 ≡ k = omega arith in subst P e (h (k + 1))

fed_as-numbers : (most : ℕ) (noted : Noted) (state : FrontState) (line : ℕ) (reading : Result Line LineFault) →
    AreNumberedUpTo most state → AreNumberedUpTo (most + 1) (fed_as noted state line reading).state
fed_as-numbers most noted state line (Ok (Client s command)) h =
    with_session-numbers most state.sessions s (turns_with noted state s command).session (at_index most state h)
    (taken-numbers most noted s (with_waiting (session_in state.sessions s) command) (h s))
fed_as-numbers most noted state line (Ok (Operator order)) h = λ other. up_to_more most (session_in state.sessions other).current (h other)
fed_as-numbers most noted state line (Err fault) h = λ other. up_to_more most (session_in state.sessions other).current (h other)

delivered-numbers : (most : ℕ) (noted : Noted) (state : FrontState) (content : Content) → AreNumberedUpTo most state →
    AreNumberedUpTo (most + 1) (delivered_content noted state content).state
delivered-numbers most noted state (message.Outcome txn number outcome) h =
    let session = session_in state.sessions txn.session in
    let after : IsNumberedUpTo (most + 1) (heard noted txn.session session outcome).session.current =
    taken-numbers most noted txn.session (session_after outcome session) (current_after-numbers most outcome session.current (h txn.session)) in
    elim (is_awaited state.sessions txn number) as (λ awaited. AreNumberedUpTo (most + 1)
    (if awaited then stepped state txn.session (heard noted txn.session session outcome) else record { state = state; step = nothing_done }).state) [
      | true ↦ with_session-numbers most state.sessions txn.session (heard noted txn.session session outcome).session (at_index most state h) after
      | false ↦ λ other. up_to_more most (session_in state.sessions other).current (h other)
    ]
delivered-numbers most noted state content h = λ other. up_to_more most (session_in state.sessions other).current (h other)

each-replicate : (P : SessionState → Type 0) (n k : ℕ) (session : SessionState) → P session → P (slice_index_or (replicate n session) k session)
each-replicate P zero k session h = h
each-replicate P (suc n) zero session h = h
each-replicate P (suc n) (suc k) session h = each-replicate P n k session h

-- nothing has begun at first
pub numbers-first : AreNumberedUpTo 0 new_front
numbers-first s = each-replicate (λ session. IsNumberedUpTo 0 session.current) SESSIONS_MAX (s - 1) no_session tt

pub numbers-fed : (noted : Noted) (state : FrontState) (line : ℕ) (text : List ℕ) (said : List Out) (most : ℕ) →
    AreNumberedUpTo most state → AreNumberedUpTo (most + 1) (fed_front noted state line text said).state
unfolding fed_front
numbers-fed noted state line text said most h = fed_as-numbers most noted (with_entries state (fed line text ∷ [])) line (line_of text) h

pub numbers-delivered : (noted : Noted) (state : FrontState) (from : ℕ) (content : Content) (mark : Bool) (most : ℕ) →
    AreNumberedUpTo most state → AreNumberedUpTo (most + 1) (delivered_front noted state from content mark).state
numbers-delivered noted state from content mark most h = delivered-numbers most noted state content h

fits_as : (state : FrontState) (reading : Result Line LineFault) (most : ℕ) → AreNumberedUpTo most state → most + 1 < 2 ^ 32 → FitsAs state reading
fits_as state (Ok (Client s command)) most h few = up_to_next most (session_in state.sessions s).current few (h s)
fits_as state (Ok (Operator order)) most h few = tt
fits_as state (Err fault) most h few = tt

pub numbers-line_fits : (noted : Noted) (state : FrontState) (line : ℕ) (text : List ℕ) (said : List Out) (most : ℕ) →
    AreNumberedUpTo most state → most + 1 < 2 ^ 32 → LineFits noted state line text said
numbers-line_fits noted state line text said most h few = fits_as state (line_of text) most h few

pub numbers-outcome_fits : (noted : Noted) (state : FrontState) (from : ℕ) (txn : TxnId) (number : ℕ) (outcome : Outcome) (most : ℕ) →
    AreNumberedUpTo most state → most + 1 < 2 ^ 32 → DeliveryFits noted state from (message.Outcome txn number outcome)
numbers-outcome_fits noted state from txn number outcome most h few = up_to_next most (session_in state.sessions txn.session).current few (h txn.session)
