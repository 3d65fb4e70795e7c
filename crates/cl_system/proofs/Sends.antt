-- What a giver sends, what is on its way, and what the front sends.
use Rattle.std.proofs.Common.{◌≡◌, ℕ, true, ltb, eqb, ◌&&◌, List, [], ◌∷◌, filter, All, sym, subst, subst₂, Bool, false, if◌then◌else◌, fold, Result, Ok, Err, refl}
use Rattle.std.proofs.lemmas.Bool.{eqb-true, and_parts, cond_both, and_from, le-leb}
use Rattle.std.proofs.lemmas.List.Elements.{All-nil, All-cons, All-head, All-tail, All-append, All-map}
use Rattle.cl_endpoint.specs.Laws.{contents_to}
use Rattle.cl_endpoint.specs.declared.limits.TheConstants.{ACTORS}
use Rattle.cl_front.specs.Front.{FrontState, fed_front, fed_as, delivered_front, delivered_content, with_entries, stepped}
use Rattle.cl_front.specs.Session.{SessionState, is_outstanding, with_waiting, Turned, unturned, joined, turned, turned_by, next_current, offered, taken, heard, session_after}
use Rattle.cl_front.specs.Sessions.{session_in, is_awaited}
use Rattle.cl_front.specs.declared.current.Current.{Current}
use Rattle.cl_lines.proofs.Readings.{line_of-session}
use Rattle.cl_lines.specs.Line.{line_of}
use Rattle.cl_lines.specs.declared.line.Line.{Line}
use Rattle.cl_lines.specs.declared.line.Line.TheVariants.{Client, Operator}
use Rattle.cl_lines.specs.declared.line.LineFault.{LineFault}
use Rattle.cl_lines.specs.declared.out.Out.{Out}
use Rattle.cl_runs.specs.Queues.{sent_to}
use Rattle.cl_runs.specs.World.{Shape}
use Rattle.cl_serial.specs.Transcript.{fed}
use Rattle.cl_steps.specs.Steps.{nothing_done}
use Rattle.cl_steps.specs.declared.actors.TheConstants.{FRONT}
use Rattle.cl_steps.specs.declared.steps.Outgoing.{Outgoing}
use Rattle.cl_types.specs.Names.{is_between}
use Rattle.cl_types.specs.declared.answers.Outcome.{Outcome}
use Rattle.cl_types.specs.declared.limits.TheConstants.{SESSIONS_MAX}
use Rattle.cl_types.specs.declared.operations.Command.{Command}
use Rattle.cl_wire.specs.Message.{Content}
use Rattle.cl_wire.specs.Message as message
use Rattle.cl_system.specs.Replicas.{Mail, with_mail, with_way, nothing_noted}
use Rattle.cl_system.specs.Roles.{IsAddressed}

-- a message goes from this giver to an actor that its kind names
abbrev pub IsSent : ℕ → ℕ → Outgoing → Type 0
IsSent nodes from send = IsAddressed nodes from send.to send.payload

-- so does each of them
abbrev pub AreSent : ℕ → ℕ → List Outgoing → Type 0
AreSent nodes from sends = All (IsSent nodes from) sends

-- each message on its way does
abbrev pub IsMailAddressed : ℕ → Mail → Type 0
IsMailAddressed nodes mail = (from to : ℕ) → All (IsAddressed nodes from to) (mail from to)

module _ (nodes from to : ℕ) where
  -- those for one actor
  for_one : (sends : List Outgoing) → AreSent nodes from sends → All (λ send. IsAddressed nodes from to send.payload) (filter (λ send. eqb send.to to) sends)
  for_one [] are = All-nil (λ (send : Outgoing). IsAddressed nodes from to send.payload)
  for_one (send ∷ sends) are =
      let rest : List Outgoing = filter (λ send. eqb send.to to) sends in
      let P : Outgoing → Type 0 = λ send. IsAddressed nodes from to send.payload in
      let more : All P rest = for_one sends (All-tail (IsSent nodes from) send sends are) in
      cond_both (eqb send.to to) (send ∷ rest) rest (All P)
      (λ here. All-cons P send rest (subst (λ n. IsAddressed nodes from n send.payload) (eqb-true send.to to here) (All-head (IsSent nodes from) send sends are)) more)
      (λ elsewhere. more)

  -- what one actor is sent
  sent_to_one : (sends : List Outgoing) → AreSent nodes from sends → All (IsAddressed nodes from to) (sent_to to sends)
  sent_to_one sends are =
      cond_both (ltb to ACTORS) (contents_to to sends) [] (All (IsAddressed nodes from to))
      (λ actor. All-map (IsAddressed nodes from to) (λ (send : Outgoing). send.payload) (filter (λ send. eqb send.to to) sends) (for_one sends are))
      (λ none. All-nil (IsAddressed nodes from to))

-- what was sent is on its way
pub with_mail_addressed : (nodes : ℕ) (mail : Mail) (giver : ℕ) (sends : List Outgoing) → IsMailAddressed nodes mail → AreSent nodes giver sends → IsMailAddressed nodes (with_mail mail giver sends)
with_mail_addressed nodes mail giver sends are new from to =
    cond_both (eqb from giver) _ (mail from to) (All (IsAddressed nodes from to))
    (λ here. All-append (IsAddressed nodes from to) (mail from to) (sent_to to sends) (are from to)
    (sent_to_one nodes from to sends (subst (λ n. AreSent nodes n sends) (sym (eqb-true from giver here)) new)))
    (λ elsewhere. are from to)

-- one way has other messages, which are addressed too
pub with_way_addressed : (nodes : ℕ) (mail : Mail) (from to : ℕ) (contents : List Content) → IsMailAddressed nodes mail → All (IsAddressed nodes from to) contents →
    IsMailAddressed nodes (with_way mail from to contents)
with_way_addressed nodes mail from to contents are new giver receiver =
    cond_both (eqb receiver to && eqb giver from) contents (mail giver receiver) (All (IsAddressed nodes giver receiver))
    (λ here. let parts : (eqb receiver to ≡ true) × (eqb giver from ≡ true) = and_parts (eqb receiver to) (eqb giver from) here in
    subst₂ (λ a b. All (IsAddressed nodes a b) contents) (sym (eqb-true giver from parts.1)) (sym (eqb-true receiver to parts.0)) new)
    (λ elsewhere. are giver receiver)

-- ---- the front: commands to the controllers of its sessions

module _ (shape : Shape) where
  none_sent : AreSent shape.nodes FRONT []
  none_sent = All-nil (IsSent shape.nodes FRONT)

  -- the turns of a session that there is
  module _ (s : ℕ) (there : is_between 1 SESSIONS_MAX s ≡ true) where
    turned_by_sends : (session : SessionState) (command : Command) (next : Result Current Outcome) → AreSent shape.nodes FRONT (turned_by (nothing_noted shape) s session command next).sends
    turned_by_sends session command (Ok current) =
        All-cons (IsSent shape.nodes FRONT) _ [] (record { session = there; giver = refl; node = refl; receiver = refl }) none_sent
    turned_by_sends session command (Err outcome) = none_sent

    offered_sends : (so_far : Turned) (command : Command) → AreSent shape.nodes FRONT so_far.sends → AreSent shape.nodes FRONT (offered (nothing_noted shape) s so_far command).sends
    offered_sends so_far command are =
        elim (is_outstanding so_far.session) as (λ busy. AreSent shape.nodes FRONT (if busy then record so_far { session = with_waiting so_far.session command }
        else joined so_far (turned (nothing_noted shape) s so_far.session command)).sends) [
          | true ↦ are
          | false ↦ All-append (IsSent shape.nodes FRONT) so_far.sends _ are (turned_by_sends so_far.session command (next_current so_far.session.current command))
        ]

    all_offered_send : (commands : List Command) (so_far : Turned) → AreSent shape.nodes FRONT so_far.sends → AreSent shape.nodes FRONT (fold (offered (nothing_noted shape) s) so_far commands).sends
    all_offered_send [] so_far are = are
    all_offered_send (command ∷ rest) so_far are = all_offered_send rest (offered (nothing_noted shape) s so_far command) (offered_sends so_far command are)

    taken_sends : (session : SessionState) → AreSent shape.nodes FRONT (taken (nothing_noted shape) s session).sends
    unfolding taken
    taken_sends session = all_offered_send session.waiting (unturned (record session { waiting = [] })) none_sent

    heard_sends : (session : SessionState) (outcome : Outcome) → AreSent shape.nodes FRONT (heard (nothing_noted shape) s session outcome).sends
    heard_sends session outcome = All-append (IsSent shape.nodes FRONT) [] _ none_sent (taken_sends (session_after outcome session))

  -- a session that a line names is there
  named_there : (text : List ℕ) (s : ℕ) (command : Command) → line_of text ≡ Ok (Client s command) → is_between 1 SESSIONS_MAX s ≡ true
  named_there text s command read = let range = line_of-session text s command read in and_from _ _ (le-leb 1 s range.0) (le-leb s SESSIONS_MAX range.1)

  fed_as_sends : (state : FrontState) (line : ℕ) (text : List ℕ) (read : Result Line LineFault) → line_of text ≡ read → AreSent shape.nodes FRONT (fed_as (nothing_noted shape) state line read).step.sends
  fed_as_sends state line text (Ok (Client s command)) read = taken_sends s (named_there text s command read) (with_waiting (session_in state.sessions s) command)
  fed_as_sends state line text (Ok (Operator order)) read = none_sent
  fed_as_sends state line text (Err fault) read = none_sent

  -- what the front sends on a line
  pub line_sends : (state : FrontState) (line : ℕ) (text : List ℕ) (said : List Out) → AreSent shape.nodes FRONT (fed_front (nothing_noted shape) state line text said).step.sends
  unfolding fed_front
  line_sends state line text said = fed_as_sends (with_entries state (fed line text ∷ [])) line text (line_of text) refl

  either_sends : (awaited : Bool) (state : FrontState) (s : ℕ) (turns : Turned) → (awaited ≡ true → AreSent shape.nodes FRONT turns.sends) →
      AreSent shape.nodes FRONT (if awaited then stepped state s turns else record { state = state; step = nothing_done }).step.sends
  either_sends true state s turns are = are refl
  either_sends false state s turns are = none_sent

  content_sends : (state : FrontState) (content : Content) → AreSent shape.nodes FRONT (delivered_content (nothing_noted shape) state content).step.sends
  content_sends state (message.Outcome txn number outcome) =
      either_sends (is_awaited state.sessions txn number) state txn.session (heard (nothing_noted shape) txn.session (session_in state.sessions txn.session) outcome)
      (λ awaited. heard_sends txn.session (and_parts _ _ (and_parts _ _ awaited).0).0 (session_in state.sessions txn.session) outcome)
  content_sends state content = none_sent

  -- and on a message
  pub message_sends : (state : FrontState) (from : ℕ) (content : Content) (mark : Bool) → AreSent shape.nodes FRONT (delivered_front (nothing_noted shape) state from content mark).step.sends
  message_sends state from content mark = content_sends state content
