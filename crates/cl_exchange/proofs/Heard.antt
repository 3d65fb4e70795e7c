-- The front takes a line or an outcome: each session is at some stage after it.
use Rattle.std.proofs.Common.{◌≡◌, ◌≢◌, ℕ, ◌+◌, ◌%◌, ◌<◌, ◌≤◌, Bool, true, false, eqb, ◌⊎◌, inl, inr, List, [], ◌∷◌, ◌++◌, length, filter, Some, Result, Ok, Err, refl, sym, ap, ◌∙◌, subst, arith}
use Rattle.std.proofs.lemmas.Bool.{cond-true, cond-false, cond_both, ne_eqb, eq-eqb, eqb-true, lt-ltb, and_from, and_parts, and_left, leb-true, cases_eq}
use Rattle.std.proofs.lemmas.List.{append-nil}
use Rattle.cl_actor.specs.Core.{CoreStep}
use Rattle.cl_control.specs.State.{Entry}
use Rattle.cl_endpoint.specs.declared.limits.TheConstants.{ACTORS}
use Rattle.cl_exchange.specs.Stage.{SessionView, Stage, outside, ready, asking, working, telling, IsAt, IsTelling, view_of, is_of_session, last_begun}
use Rattle.cl_exchange.proofs.Delivered.{IsAtSome, still_at, home_apart, home_below}
use Rattle.cl_exchange.proofs.Fronts.{front_view, session_here, session_elsewhere, turns_others}
use Rattle.cl_exchange.proofs.Resting.{turned_view, turns_next, stage_still, heard_view, outcome_next}
use Rattle.cl_exchange.proofs.Turns.{SendsOneAtMost, turns, no_turns}
use Rattle.cl_exchange.proofs.Views.{same_parts}
use Rattle.cl_front.specs.declared.current.Current.{Current}
use Rattle.cl_front.specs.Front.{FrontState, stepped, turns_with, with_entries, fed_as, fed_front, delivered_front}
use Rattle.cl_front.specs.Session.{SessionState, is_outstanding_in, Turned, with_waiting, taken, heard, session_after, is_awaited_in}
use Rattle.cl_front.specs.Sessions.{session_in, is_awaited}
use Rattle.cl_lines.specs.Line.{line_of}
use Rattle.cl_lines.specs.declared.line.Line.{Line}
use Rattle.cl_lines.specs.declared.line.Line.TheVariants.{Client, Operator}
use Rattle.cl_lines.specs.declared.line.LineFault.{LineFault}
use Rattle.cl_lines.specs.declared.out.Out.{Out}
use Rattle.cl_lines.proofs.Readings.{line_of-session}
use Rattle.cl_runs.specs.Queues.{sent_to}
use Rattle.cl_runs.specs.World.{Shape}
use Rattle.cl_serial.specs.Transcript.{fed}
use Rattle.cl_steps.specs.declared.actors.TheConstants.{FRONT}
use Rattle.cl_system.specs.Replicas.{ReplicaWorld, front_acts, nothing_noted, with_way}
use Rattle.cl_system.specs.Roles.{IsOfSession}
use Rattle.cl_types.proofs.PlacementLaws.{node_count-bounds}
use Rattle.cl_types.specs.Placement.{IsNodeCount}
use Rattle.cl_types.specs.declared.answers.Outcome.{Outcome as CommandOutcome}
use Rattle.cl_types.specs.declared.limits.TheConstants.{SESSIONS_MAX}
use Rattle.cl_types.specs.declared.operations.Command.{Command as ClientCommand}
use Rattle.cl_types.specs.declared.operations.TxnId.{TxnId}
use Rattle.cl_wire.specs.Message.{Content, Outcome}

-- the turns of any session
pub any_turns : (shape : Shape) (t : ℕ) (session : SessionState) → SendsOneAtMost (nothing_noted shape) t session.begun session.current (taken (nothing_noted shape) t session)
any_turns shape t session = by (is_outstanding_in session.current) refl
  where
    by : (busy : Bool) → is_outstanding_in session.current ≡ busy → SendsOneAtMost (nothing_noted shape) t session.begun session.current (taken (nothing_noted shape) t session)
    by true busy = inl (no_turns (nothing_noted shape) t session busy)
    by false free = turns (nothing_noted shape) t session.waiting session.begun session.current free

module _ (shape : Shape) (counted : IsNodeCount shape.nodes) where
  pub home_few : (s : ℕ) → s % shape.nodes < ACTORS
  home_few s = let below = home_below shape.nodes s counted in let few = (node_count-bounds shape.nodes counted).1 in omega arith

  pub apart : (s : ℕ) → eqb (s % shape.nodes) FRONT ≡ false
  apart s = (home_apart shape.nodes (s % shape.nodes) counted (home_below shape.nodes s counted)).1

  -- a step that leaves the session and sends nothing of it
  pub front_same : (world : ReplicaWorld) (s : ℕ) (step : CoreStep FrontState) → session_in step.state.sessions s ≡ session_in world.front.sessions s →
      filter (is_of_session s) (sent_to (s % shape.nodes) step.step.sends) ≡ [] → view_of shape.nodes (front_acts world step) s ≡ view_of shape.nodes world s
  front_same world s step kept unsent =
      front_view shape.nodes world s step (apart s)
      ∙ same_parts _ (view_of shape.nodes world s) kept
      (ap (λ more. filter (is_of_session s) (world.mail FRONT (s % shape.nodes)) ++ more) unsent ∙ append-nil (filter (is_of_session s) (world.mail FRONT (s % shape.nodes)))) refl refl

  pub nothing_of : (s : ℕ) → filter (is_of_session s) (sent_to (s % shape.nodes) []) ≡ []
  nothing_of s = ap (filter (is_of_session s)) (cond-true _ [] [] (lt-ltb (s % shape.nodes) ACTORS (home_few s)))

  -- the turns of another session
  pub turns_elsewhere : (world : ReplicaWorld) (state : FrontState) (t s : ℕ) (session : SessionState) (turned : Turned) → state.sessions ≡ world.front.sessions → 1 ≤ t → 1 ≤ s → t ≢ s →
      SendsOneAtMost (nothing_noted shape) t session.begun session.current turned →
      view_of shape.nodes (front_acts world (stepped state t turned)) s ≡ view_of shape.nodes world s
  turns_elsewhere world state t s session turned same from to other sends =
      front_same world s (stepped state t turned)
      (session_elsewhere state.sessions t s turned.session from to other ∙ ap (λ sessions. session_in sessions s) same)
      (turns_others shape t session.begun session.current turned (s % shape.nodes) s (λ e. other (sym e)) sends)

  -- the own turns
  pub turns_here : (world : ReplicaWorld) (state : FrontState) (t : ℕ) (turned : Turned) → length state.sessions ≡ SESSIONS_MAX → 1 ≤ t → t ≤ SESSIONS_MAX →
      view_of shape.nodes (front_acts world (stepped state t turned)) t ≡ turned_view shape t (home_few t) (view_of shape.nodes world t) turned
  turns_here world state t turned many from to =
      front_view shape.nodes world t (stepped state t turned) (apart t)
      ∙ same_parts _ (turned_view shape t (home_few t) (view_of shape.nodes world t) turned) (session_here state.sessions t turned.session many from to) refl refl refl

  -- ---- a line

  module _ (world : ReplicaWorld) (many : length world.front.sessions ≡ SESSIONS_MAX) (s : ℕ) (from : 1 ≤ s) (to : s ≤ SESSIONS_MAX) (at : IsAtSome shape.nodes world s) where
    -- the world once the line is counted
    abbrev pub counted_world : ReplicaWorld
    counted_world = record world { lines = world.lines + 1 }

    own_line : (state : FrontState) (command : ClientCommand) → state.sessions ≡ world.front.sessions → IsAtSome shape.nodes (front_acts counted_world (stepped state s (turns_with (nothing_noted shape) state s command))) s
    own_line state command same =
        let session : SessionState = with_waiting (session_in state.sessions s) command in
        let view : SessionView = record (view_of shape.nodes world s) { session = session } in
        let waits : IsAt shape.nodes s view at.0
        = stage_still s (view_of shape.nodes world s) session (ap (λ sessions. (session_in sessions s).begun) same) (ap (λ sessions. (session_in sessions s).current) same) shape.nodes at.0 at.1 in
        still_at shape.nodes s (turns_here counted_world state s (turns_with (nothing_noted shape) state s command) (ap (λ (sessions : List SessionState). length sessions) same ∙ many) from to)
        (turns_next shape s (home_few s) view at.0 waits)

    line_as : (state : FrontState) (line : ℕ) (reading : Result Line LineFault) → state.sessions ≡ world.front.sessions →
        ((t : ℕ) (command : ClientCommand) → reading ≡ Ok (Client t command) → (1 ≤ t) × (t ≤ SESSIONS_MAX)) → IsAtSome shape.nodes (front_acts counted_world (fed_as (nothing_noted shape) state line reading)) s
    line_as state line (Ok (Client t command)) same lawful = by (cases_eq t s)
      where
        by : (t ≡ s) ⊎ (t ≢ s) → IsAtSome shape.nodes (front_acts counted_world (stepped state t (turns_with (nothing_noted shape) state t command))) s
        by (inl own) = subst (λ n. IsAtSome shape.nodes (front_acts counted_world (stepped state n (turns_with (nothing_noted shape) state n command))) s) (sym own) (own_line state command same)
        by (inr other) =
            let session : SessionState = with_waiting (session_in state.sessions t) command in
            still_at shape.nodes s (turns_elsewhere counted_world state t s session (taken (nothing_noted shape) t session) same (lawful t command refl).0 from other (any_turns shape t session)) at
    line_as state line (Ok (Operator order)) same lawful =
        still_at shape.nodes s (front_same counted_world s (fed_as (nothing_noted shape) state line (Ok (Operator order))) (ap (λ sessions. session_in sessions s) same) (nothing_of s)) at
    line_as state line (Err fault) same lawful =
        still_at shape.nodes s (front_same counted_world s (fed_as (nothing_noted shape) state line (Err fault)) (ap (λ sessions. session_in sessions s) same) (nothing_of s)) at

    pub line_next : (number : ℕ) (text : List ℕ) (said : List Out) → IsAtSome shape.nodes (front_acts counted_world (fed_front (nothing_noted shape) world.front number text said)) s
    unfolding fed_front
    line_next number text said = line_as (with_entries world.front (fed number text ∷ [])) number (line_of text) refl (λ t command is. line_of-session text t command is)

-- ---- an outcome

-- the stage of a session whose outcome is at the head of its way
pub record IsOutcomeOf (s : ℕ) (view : SessionView) (content : Content) (rest : List Content) : Type 0 where
  pub current : Current
  pub outcome : CommandOutcome
  pub entries : List Entry
  pub at : IsTelling s view current outcome entries
  pub same : content ≡ Outcome (last_begun s view.session) current.commands outcome
  pub alone : rest ≡ []

pub outcome_of_stage : (nodes s : ℕ) (view : SessionView) (stage : Stage) (content : Content) (rest : List Content) → IsAt nodes s view stage → view.outcomes ≡ content ∷ rest → IsOutcomeOf s view content rest
outcome_of_stage nodes s view outside content rest at has = let none = at.1.outcomes in absurd cc
outcome_of_stage nodes s view (ready current entry) content rest at has = let none = at.outcomes in absurd cc
outcome_of_stage nodes s view (asking current what entries) content rest at has = let none = at.outcomes in absurd cc
outcome_of_stage nodes s view (working current entry) content rest at has = let none = at.outcomes in absurd cc
outcome_of_stage nodes s view (telling current outcome entries) content rest at has =
    let is = at.outcomes in
    record { current = current; outcome = outcome; entries = entries; at = at; same = cc; alone = cc }

-- it is awaited
awaited : (sessions : List SessionState) (txn : TxnId) (number : ℕ) (current : Current) → IsOfSession txn → txn ≡ last_begun txn.session (session_in sessions txn.session) → number ≡ current.commands →
    (session_in sessions txn.session).current ≡ Some current → current.outstanding ≡ true → is_awaited sessions txn number ≡ true
awaited sessions txn number current of named numbered inside waits =
    and_from _ _ (and_from _ _ of (eq-eqb (session_in sessions txn.session).begun txn.number (sym (ap (λ x. x.number) named))))
    (ap (λ c. is_awaited_in c number) inside ∙ and_from _ _ waits (eq-eqb current.commands number (sym numbered)))

module _ (shape : Shape) (counted : IsNodeCount shape.nodes) (world : ReplicaWorld) (many : length world.front.sessions ≡ SESSIONS_MAX) (txn : TxnId) (of : IsOfSession txn) (number : ℕ) (outcome : CommandOutcome) (rest : List Content)
    (waits : world.mail (txn.session % shape.nodes) FRONT ≡ Outcome txn number outcome ∷ rest) where
  -- the world once the outcome was taken off
  abbrev pub taken_off : ReplicaWorld
  taken_off = record world { mail = with_way world.mail (txn.session % shape.nodes) FRONT rest }

  pub from_one : (1 ≤ txn.session) × (txn.session ≤ SESSIONS_MAX)
  from_one = let parts = and_parts _ _ of in (leb-true 1 txn.session parts.0, leb-true txn.session SESSIONS_MAX parts.1)

  commands_stay : (s : ℕ) → taken_off.mail FRONT (s % shape.nodes) ≡ world.mail FRONT (s % shape.nodes)
  commands_stay s = cond-false _ _ _ (and_left _ _ (apart shape counted s))

  -- of another session nothing is taken off
  pub taken_others : (s : ℕ) → s ≢ txn.session → view_of shape.nodes taken_off s ≡ view_of shape.nodes world s
  taken_others s other =
      same_parts _ (view_of shape.nodes world s) refl (ap (filter (is_of_session s)) (commands_stay s)) refl
      (cond_both (eqb (s % shape.nodes) (txn.session % shape.nodes)) rest (world.mail (s % shape.nodes) FRONT) (λ list. filter (is_of_session s) list ≡ filter (is_of_session s) (world.mail (s % shape.nodes) FRONT))
      (λ e. sym (ap (filter (is_of_session s)) (ap (λ n. world.mail n FRONT) (eqb-true (s % shape.nodes) (txn.session % shape.nodes) e) ∙ waits) ∙ cond-false _ _ _ (ne_eqb s txn.session other))) (λ e. refl))

  -- of its own session what is left
  pub taken_own : view_of shape.nodes taken_off txn.session ≡ record (view_of shape.nodes world txn.session) { outcomes = filter (is_of_session txn.session) rest }
  taken_own =
      same_parts _ (record (view_of shape.nodes world txn.session) { outcomes = filter (is_of_session txn.session) rest }) refl (ap (filter (is_of_session txn.session)) (commands_stay txn.session)) refl
      (ap (filter (is_of_session txn.session)) (cond-true _ _ _ (eq-eqb (txn.session % shape.nodes) (txn.session % shape.nodes) refl)))

  abbrev pub session : SessionState
  session = session_in world.front.sessions txn.session

  pub its_outcome : IsAtSome shape.nodes world txn.session → IsOutcomeOf txn.session (view_of shape.nodes world txn.session) (Outcome txn number outcome) (filter (is_of_session txn.session) rest)
  its_outcome at =
      outcome_of_stage shape.nodes txn.session (view_of shape.nodes world txn.session) at.0 (Outcome txn number outcome) (filter (is_of_session txn.session) rest) at.1
      (ap (filter (is_of_session txn.session)) waits ∙ cond-true _ _ _ (eq-eqb txn.session txn.session refl))

  -- the front hears it
  pub heard_step : (from : ℕ) (mark : Bool) → IsAtSome shape.nodes world txn.session → delivered_front (nothing_noted shape) world.front from (Outcome txn number outcome) mark ≡ stepped world.front txn.session (heard (nothing_noted shape) txn.session session outcome)
  heard_step from mark at =
      let is = its_outcome at in
      let same = is.same in
      cond-true _ _ _ (awaited world.front.sessions txn number is.current of (ap txn_of same) (ap number_of same) is.at.inside.inside is.at.inside.waits)
    where
      txn_of : Content → TxnId
      txn_of (Outcome named n o) = named
      txn_of other = txn

      number_of : Content → ℕ
      number_of (Outcome named n o) = n
      number_of other = number

  own_heard : IsAtSome shape.nodes world txn.session → IsAtSome shape.nodes (front_acts taken_off (stepped world.front txn.session (heard (nothing_noted shape) txn.session session outcome))) txn.session
  own_heard at =
      let is = its_outcome at in
      let same = is.same in
      let outcome_is : is.outcome ≡ outcome = cc in
      let turned : Turned = heard (nothing_noted shape) txn.session session outcome in
      let view : SessionView = heard_view shape.nodes txn.session (view_of shape.nodes world txn.session) is.current outcome in
      let next : (stage : Stage) × IsAt shape.nodes txn.session view stage
      = subst (λ o. (stage : Stage) × IsAt shape.nodes txn.session (heard_view shape.nodes txn.session (view_of shape.nodes world txn.session) is.current o) stage) outcome_is
      (outcome_next shape.nodes txn.session (view_of shape.nodes world txn.session) is.current is.outcome is.entries is.at) in
      still_at shape.nodes txn.session
      (turns_here shape counted taken_off world.front txn.session turned many from_one.0 from_one.1
      ∙ ap (λ (v : SessionView). turned_view shape txn.session (home_few shape counted txn.session) v turned) taken_own
      ∙ ap (λ list. turned_view shape txn.session (home_few shape counted txn.session) (record (view_of shape.nodes world txn.session) { outcomes = list }) turned) is.alone)
      (turns_next shape txn.session (home_few shape counted txn.session) view next.0 next.1)

  -- what it sends is what the turns send
  pub heard_sends : SendsOneAtMost (nothing_noted shape) txn.session (session_after outcome session).begun (session_after outcome session).current (taken (nothing_noted shape) txn.session (session_after outcome session)) →
      SendsOneAtMost (nothing_noted shape) txn.session (session_after outcome session).begun (session_after outcome session).current (heard (nothing_noted shape) txn.session session outcome)
  heard_sends (inl none) = inl (record { begun_is = none.begun_is; current_is = none.current_is; sends = none.sends })
  heard_sends (inr one) = inr (record { command = one.command; next = one.next; may = one.may; begun_is = one.begun_is; current_is = one.current_is; sends = one.sends })

  pub outcome_delivered : (from : ℕ) (mark : Bool) (s : ℕ) → 1 ≤ s → IsAtSome shape.nodes world txn.session → IsAtSome shape.nodes world s →
      IsAtSome shape.nodes (front_acts taken_off (delivered_front (nothing_noted shape) world.front from (Outcome txn number outcome) mark)) s
  outcome_delivered from mark s one own at =
      subst (λ step. IsAtSome shape.nodes (front_acts taken_off step) s) (sym (heard_step from mark own)) (by (cases_eq txn.session s))
    where
      by : (txn.session ≡ s) ⊎ (txn.session ≢ s) → IsAtSome shape.nodes (front_acts taken_off (stepped world.front txn.session (heard (nothing_noted shape) txn.session session outcome))) s
      by (inl same) = subst (λ n. IsAtSome shape.nodes (front_acts taken_off (stepped world.front txn.session (heard (nothing_noted shape) txn.session session outcome))) n) same (own_heard own)
      by (inr other) =
          still_at shape.nodes s
          (turns_elsewhere shape counted taken_off world.front txn.session s (session_after outcome session) (heard (nothing_noted shape) txn.session session outcome) refl from_one.0 one other
          (heard_sends (any_turns shape txn.session (session_after outcome session)))
          ∙ taken_others s (λ e. other (sym e))) at
