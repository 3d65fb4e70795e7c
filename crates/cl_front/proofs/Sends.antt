-- What a front sends goes to actors.
use Rattle.std.proofs.Common.{ℕ, ◌%◌, ◌<◌, All, Bool, true, false, if◌then◌else◌, List, [], ◌∷◌, ◌++◌, map, fold, Result, Ok, Err, sym, subst, arith}
use Rattle.std.proofs.lemmas.List.{map-append}
use Rattle.std.proofs.lemmas.List.Elements.{All-nil, All-cons, All-append}
use Rattle.cl_actor.specs.Acting.{SendsToActors, unmoved}
use Rattle.cl_actor.specs.Core.{Noted}
use Rattle.cl_actor.specs.Laws.{IsLawfullyNoted}
use Rattle.cl_actor.proofs.Primaries.{primary_is_actor}
use Rattle.cl_endpoint.specs.declared.limits.TheConstants.{ACTORS}
use Rattle.cl_front.specs.declared.current.Current.{Current}
use Rattle.cl_front.specs.Front.{FrontState, fed_front, fed_as, delivered_front, delivered_content, with_entries, stepped}
use Rattle.cl_front.specs.Session.{SessionState, is_outstanding, with_waiting, Turned, unturned, joined, turned, turned_by, next_current, offered, taken, heard, session_after}
use Rattle.cl_front.specs.Sessions.{session_in, is_awaited}
use Rattle.cl_lines.specs.Line.{line_of}
use Rattle.cl_lines.specs.declared.line.Line.{Line}
use Rattle.cl_lines.specs.declared.line.Line.TheVariants.{Client, Operator}
use Rattle.cl_lines.specs.declared.line.LineFault.{LineFault}
use Rattle.cl_lines.specs.declared.out.Out.{Out}
use Rattle.cl_serial.specs.Transcript.{fed}
use Rattle.cl_steps.specs.declared.steps.Outgoing.{Outgoing}
use Rattle.cl_types.specs.declared.answers.Outcome.{Outcome}
use Rattle.cl_types.specs.declared.operations.Command.{Command}
use Rattle.cl_types.proofs.PlacementLaws.{node_count-some}
use Rattle.cl_wire.specs.Message.{Content}
use Rattle.cl_wire.specs.Message as message

-- each of the messages goes to an actor
GoToActors : List Outgoing → Type 0
GoToActors sends = All (λ to. to < ACTORS) (map (λ send. send.to) sends)

none_go : GoToActors []
unfolding GoToActors
none_go = All-nil _

both_go : (first next : List Outgoing) → GoToActors first → GoToActors next → GoToActors (first ++ next)
unfolding GoToActors
both_go first next one other =
    subst (All (λ to. to < ACTORS)) (sym (map-append (λ (send : Outgoing). send.to) first next)) (All-append (λ to. to < ACTORS) _ _ one other)

module _ (noted : Noted) (is : IsLawfullyNoted noted) where
  turned_by_goes : (s : ℕ) (session : SessionState) (command : Command) (next : Result Current Outcome) → GoToActors (turned_by noted s session command next).sends
  unfolding GoToActors
  turned_by_goes s session command (Ok current) =
      All-cons (λ to. to < ACTORS) _ [] (primary_is_actor noted (s % noted.nodes) is (let some = node_count-some noted.nodes is.size.counted in omega (arith, some))) (All-nil _)
  turned_by_goes s session command (Err outcome) = none_go

  offered_goes : (s : ℕ) (so_far : Turned) (command : Command) → GoToActors so_far.sends → GoToActors (offered noted s so_far command).sends
  offered_goes s so_far command goes =
      elim (is_outstanding so_far.session) as (λ busy. GoToActors (if busy then record so_far { session = with_waiting so_far.session command }
      else joined so_far (turned noted s so_far.session command)).sends) [
        | true ↦ goes
        | false ↦ both_go so_far.sends _ goes (turned_by_goes s so_far.session command (next_current so_far.session.current command))
      ]

  all_offered_go : (s : ℕ) (commands : List Command) (so_far : Turned) → GoToActors so_far.sends → GoToActors (fold (offered noted s) so_far commands).sends
  all_offered_go s [] so_far goes = goes
  all_offered_go s (command ∷ rest) so_far goes = all_offered_go s rest (offered noted s so_far command) (offered_goes s so_far command goes)

  taken_goes : (s : ℕ) (session : SessionState) → GoToActors (taken noted s session).sends
  unfolding taken
  taken_goes s session = all_offered_go s session.waiting (unturned (record session { waiting = [] })) none_go

  heard_goes : (s : ℕ) (session : SessionState) (outcome : Outcome) → GoToActors (heard noted s session outcome).sends
  heard_goes s session outcome = both_go [] _ none_go (taken_goes s (session_after outcome session))

  fed_as_goes : (state : FrontState) (line : ℕ) (read : Result Line LineFault) → GoToActors (fed_as noted state line read).step.sends
  fed_as_goes state line (Ok (Client s command)) = taken_goes s (with_waiting (session_in state.sessions s) command)
  fed_as_goes state line (Ok (Operator order)) = none_go
  fed_as_goes state line (Err fault) = none_go

  pub line_goes : (state : FrontState) (line : ℕ) (text : List ℕ) (said : List Out) → SendsToActors (fed_front noted state line text said)
  unfolding fed_front GoToActors
  line_goes state line text said = fed_as_goes (with_entries state (fed line text ∷ [])) line (line_of text)

  either_goes : (awaited : Bool) (state : FrontState) (s : ℕ) (turns : Turned) → GoToActors turns.sends →
      GoToActors (if awaited then stepped state s turns else unmoved state).step.sends
  either_goes true state s turns goes = goes
  either_goes false state s turns goes = none_go

  content_goes : (state : FrontState) (content : Content) → GoToActors (delivered_content noted state content).step.sends
  content_goes state (message.Outcome txn number outcome) =
      either_goes (is_awaited state.sessions txn number) state txn.session (heard noted txn.session (session_in state.sessions txn.session) outcome) (heard_goes txn.session (session_in state.sessions txn.session) outcome)
  content_goes state content = none_go

  pub message_goes : (state : FrontState) (from : ℕ) (content : Content) (mark : Bool) → SendsToActors (delivered_front noted state from content mark)
  unfolding GoToActors
  message_goes state from content mark = content_goes state content
