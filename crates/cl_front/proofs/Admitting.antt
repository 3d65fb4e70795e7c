-- A front whose sessions can number their next commands can be fed any line, and hear any outcome.
use Rattle.std.proofs.Common.{arith, ◌≡◌, ℕ, zero, suc, ◌+◌, ◌-◌, ◌<◌, All, false, List, [], ◌∷◌, Result, Ok, Err, slice_index_or, subst}
use Rattle.std.proofs.lemmas.List.Elements.{All-nil, All-cons, All-head, All-tail}
use Rattle.cl_actor.specs.Acting.{HandlingFits, FeedingFits, noted_in}
use Rattle.cl_actor.specs.Core.{Noted, noted_of}
use Rattle.cl_actor.specs.Laws.{IsLawfullyNoted}
use Rattle.cl_endpoint.specs.declared.limits.TheConstants.{ACTORS}
use Rattle.cl_endpoint.specs.declared.received.Received.TheVariants.{Now}
use Rattle.cl_endpoint.specs.Endpoint.{EndpointState, received}
use Rattle.cl_front.specs.Front.{FrontState, fed_front, delivered_front, FitsAs, LineFits, DeliveryFits}
use Rattle.cl_front.specs.FrontCore.{HasNextNumbers}
use Rattle.cl_front.specs.Machine.{FrontMachineState, IsOutcome}
use Rattle.cl_front.specs.Session.{SessionState, no_session, HasNextNumber}
use Rattle.cl_front.specs.Sessions.{session_in}
use Rattle.cl_front.proofs.Sends.{line_goes, message_goes}
use Rattle.cl_lines.specs.Line.{line_of}
use Rattle.cl_lines.specs.declared.line.Line.{Line}
use Rattle.cl_lines.specs.declared.line.Line.TheVariants.{Client, Operator}
use Rattle.cl_lines.specs.declared.line.LineFault.{LineFault}
use Rattle.cl_lines.specs.declared.out.Out.{Out}
use Rattle.cl_roster.specs.Roster.{IsClusterSize, IsLawfulRoster}
use Rattle.cl_roster.specs.View.{RosterView}
use Rattle.cl_wire.specs.Message.{Content, Message}
use Rattle.cl_wire.specs.Message as message

each_ready : (sessions : List SessionState) (k : ℕ) → All (λ (session : SessionState). HasNextNumber session.current) sessions → HasNextNumber (slice_index_or sessions k no_session).current
each_ready [] k each = tt
each_ready (session ∷ rest) zero each = All-head (λ (one : SessionState). HasNextNumber one.current) session rest each
each_ready (session ∷ rest) (suc k) each = each_ready rest k (All-tail (λ (one : SessionState). HasNextNumber one.current) session rest each)

-- so is the session of each number
pub all_ready : (sessions : List SessionState) → All (λ (session : SessionState). HasNextNumber session.current) sessions → (s : ℕ) → HasNextNumber (session_in sessions s).current
all_ready sessions each s = each_ready sessions (s - 1) each

each_of : (sessions : List SessionState) → ((k : ℕ) → HasNextNumber (slice_index_or sessions k no_session).current) → All (λ (session : SessionState). HasNextNumber session.current) sessions
each_of [] each = All-nil (λ (one : SessionState). HasNextNumber one.current)
each_of (session ∷ rest) each = All-cons (λ (one : SessionState). HasNextNumber one.current) session rest (each 0) (each_of rest (λ k. each (suc k)))

-- and the other way round
pub ready_all : (state : FrontState) → HasNextNumbers state → All (λ (session : SessionState). HasNextNumber session.current) state.sessions
ready_all state ready = each_of state.sessions (λ k.
    let P : ℕ → Type 0 = λ index. HasNextNumber (slice_index_or state.sessions index no_session).current in
    let e : k + 1 - 1 ≡ k = omega arith in subst P e (ready (k + 1)))

-- what a roster's laws say of what was noted
pub lawfully : (view : RosterView) (endpoint : EndpointState) → noted_of view ≡ noted_in endpoint → IsClusterSize view.nodes view.spares → IsLawfulRoster view.nodes view.spares view.entries →
    IsLawfullyNoted (noted_in endpoint)
lawfully view endpoint same size lawful = subst IsLawfullyNoted same (let is : IsLawfullyNoted (noted_of view) = record { size = size; lawful = lawful } in is)

fits_as : (state : FrontState) (read : Result Line LineFault) → HasNextNumbers state → FitsAs state read
fits_as state (Ok (Client s command)) ready = ready s
fits_as state (Ok (Operator order)) ready = tt
fits_as state (Err fault) ready = tt

outcome_fits : (noted : Noted) (state : FrontState) (from : ℕ) (content : Content) → IsOutcome content → HasNextNumbers state → DeliveryFits noted state from content
outcome_fits noted state from (message.Outcome txn number outcome) is ready = ready txn.session
outcome_fits noted state from content is ready = absurd is

module _ (before : FrontMachineState) (ready : HasNextNumbers before.core) (is : IsLawfullyNoted (noted_in before.endpoint)) where
  pub feeding_fits : (line : ℕ) (text : List ℕ) (said : List Out) → FeedingFits fed_front LineFits before line text said
  feeding_fits line text said = record {
    core = fits_as before.core (line_of text) ready;
    sends = line_goes (noted_in before.endpoint) is before.core line text said;
  }

  pub handling_fits : (m : Message) → m.from < ACTORS → (received before.endpoint m.from m.seq ≡ Now → IsOutcome m.content) → HandlingFits delivered_front DeliveryFits before m
  handling_fits m sender expected = record {
    sender = sender;
    core = λ now. outcome_fits (noted_in before.endpoint) before.core m.from m.content (expected now) ready;
    sends = λ now. message_goes (noted_in before.endpoint) is before.core m.from m.content false;
  }
