-- A step of the front sends the BEGIN of new transactions alone, so who is to come after it was so before.
use Rattle.std.proofs.Common.{◌≡◌, ◌≢◌, ℕ, ◌+◌, ◌-◌, ◌%◌, ◌<◌, ◌≤◌, nat_lt, eqb, Bool, true, false, ◌||◌, inl, inr, List, [], ◌∷◌, map, filter, length, fold}
use Rattle.std.proofs.Common.{Result, Ok, Err, All, refl, sym, ◌∙◌, ap, subst, arith}
use Rattle.std.specs.List.{list_any}
use Rattle.std.proofs.lemmas.Bool.{eqb-true, eqb-false, leb-true, le-leb, and_from, cond_both, and_parts, or_cases}
use Rattle.std.proofs.lemmas.List.{get_or-set_same, get_or-set_other}
use Rattle.std.proofs.lemmas.List.Elements.{All-nil, All-cons, All-head, All-tail, All-append, All-map, All-filter, All-weaker}
use Rattle.std.proofs.lemmas.List.Folds.{list_any-append}
use Rattle.cl_types.specs.Names.{is_between}
use Rattle.cl_types.specs.declared.answers.Outcome.{Outcome as CommandOutcome}
use Rattle.cl_types.specs.declared.limits.TheConstants.{SESSIONS_MAX}
use Rattle.cl_types.specs.declared.operations.Command.{Command as ClientCommand}
use Rattle.cl_types.specs.declared.operations.Command.TheVariants.{Begin, Work, Commit, Abort}
use Rattle.cl_types.specs.declared.operations.TxnId.{TxnId}
use Rattle.cl_types.proofs.Transactions.{same_txn-true}
use Rattle.cl_actor.specs.Core.{Noted, CoreStep, primary_in}
use Rattle.cl_endpoint.specs.declared.limits.TheConstants.{ACTORS}
use Rattle.cl_front.specs.Front.{FrontState, fed_front, fed_as, turns_with, delivered_content, with_entries, stepped}
use Rattle.cl_front.specs.Session.{SessionState, no_session, is_outstanding, with_waiting, Turned, unturned, joined, turned, turned_by, next_current, offered, taken, heard, begun_after, session_after}
use Rattle.cl_front.specs.Sessions.{session_in, with_session, is_awaited}
use Rattle.cl_front.specs.declared.current.Current.{Current}
use Rattle.cl_lines.proofs.Readings.{line_of-session}
use Rattle.cl_lines.specs.Line.{line_of}
use Rattle.cl_lines.specs.declared.line.Line.{Line}
use Rattle.cl_lines.specs.declared.line.Line.TheVariants.{Client, Operator}
use Rattle.cl_lines.specs.declared.line.LineFault.{LineFault}
use Rattle.cl_lines.specs.declared.out.Out.{Out}
use Rattle.cl_node.specs.Addressing.{home_in}
use Rattle.cl_runs.specs.Queues.{sent_to}
use Rattle.cl_serial.specs.Transcript.{fed}
use Rattle.cl_steps.specs.Steps.{nothing_done}
use Rattle.cl_steps.specs.declared.actors.TheConstants.{FRONT}
use Rattle.cl_steps.specs.declared.steps.Outgoing.{Outgoing}
use Rattle.cl_wire.specs.Message.{Content}
use Rattle.cl_wire.specs.Message as message
use Rattle.cl_system.specs.Replicas.{ReplicaWorld, Mail, with_mail}
use Rattle.cl_system.specs.Roles.{IsOfSession}
use Rattle.cl_commit.specs.Life.{IsToCome, is_begin_of}

-- ---- the turns of a session

-- a message is no BEGIN, or one of this session with a number above this one
abbrev pub IsNew : ℕ → ℕ → Outgoing → Type 0
IsNew s begun send = (txn : TxnId) → is_begin_of txn send.payload ≡ true → (txn.session ≡ s) × (begun < txn.number)

-- turns number the transactions on, and send no other BEGIN
pub record NumbersOn (s begun : ℕ) (turns : Turned) : Type 0 where
  pub onward : begun ≤ turns.session.begun
  pub sends : All (IsNew s begun) turns.sends

module _ (noted : Noted) (s : ℕ) where
  later_new : (begun more : ℕ) → begun ≤ more → (send : Outgoing) → IsNew s more send → IsNew s begun send
  later_new begun more up send is txn begins = let new = is txn begins in (new.0, let above = new.1 in omega (arith, above, up))

  command_onward : (command : ClientCommand) (begun : ℕ) → begun ≤ begun_after command begun
  command_onward Begin begun = omega arith
  command_onward (Work table key op) begun = omega arith
  command_onward Commit begun = omega arith
  command_onward Abort begun = omega arith

  command_new : (command : ClientCommand) (begun number v to : ℕ) →
      IsNew s begun (record { to = to; payload = message.Command v (record { session = s; number = begun_after command begun }) number command })
  command_new Begin begun number v to txn begins =
      let same : txn ≡ record { session = s; number = begun + 1 } = same_txn-true _ _ begins in
      let at : txn.number ≡ begun + 1 = ap (λ (t : TxnId). t.number) same in
      (ap (λ (t : TxnId). t.session) same, omega (arith, at))
  command_new (Work table key op) begun number v to txn begins = absurd (let e : false ≡ true = begins in cc)
  command_new Commit begun number v to txn begins = absurd (let e : false ≡ true = begins in cc)
  command_new Abort begun number v to txn begins = absurd (let e : false ≡ true = begins in cc)

  turned_on : (session : SessionState) (command : ClientCommand) (next : Result Current CommandOutcome) → NumbersOn s session.begun (turned_by noted s session command next)
  turned_on session command (Ok current) = record {
    onward = command_onward command session.begun;
    sends = All-cons (IsNew s session.begun) _ [] (command_new command session.begun current.commands (s % noted.nodes) (primary_in noted (s % noted.nodes))) (All-nil (IsNew s session.begun));
  }
  turned_on session command (Err outcome) = record { onward = omega arith; sends = All-nil (IsNew s session.begun) }

  joined_on : (begun : ℕ) (so_far next : Turned) → NumbersOn s begun so_far → NumbersOn s so_far.session.begun next → NumbersOn s begun (joined so_far next)
  joined_on begun so_far next are more = record {
    onward = let a = are.onward in let b = more.onward in omega (arith, a, b);
    sends = All-append (IsNew s begun) so_far.sends next.sends are.sends
        (All-weaker (IsNew s so_far.session.begun) (IsNew s begun) (later_new begun so_far.session.begun are.onward) next.sends more.sends);
  }

  offered_on : (begun : ℕ) (so_far : Turned) (command : ClientCommand) → NumbersOn s begun so_far → NumbersOn s begun (offered noted s so_far command)
  offered_on begun so_far command are =
      cond_both (is_outstanding so_far.session) (record so_far { session = with_waiting so_far.session command }) (joined so_far (turned noted s so_far.session command)) (NumbersOn s begun)
      (λ busy. record { onward = are.onward; sends = are.sends })
      (λ free. joined_on begun so_far (turned noted s so_far.session command) are (turned_on so_far.session command (next_current so_far.session.current command)))

  all_offered_on : (begun : ℕ) (commands : List ClientCommand) (so_far : Turned) → NumbersOn s begun so_far → NumbersOn s begun (fold (offered noted s) so_far commands)
  all_offered_on begun [] so_far are = are
  all_offered_on begun (command ∷ commands) so_far are = all_offered_on begun commands (offered noted s so_far command) (offered_on begun so_far command are)

  pub taken_on : (session : SessionState) → NumbersOn s session.begun (taken noted s session)
  unfolding taken
  taken_on session = all_offered_on session.begun session.waiting (unturned (record session { waiting = [] })) (record { onward = omega arith; sends = All-nil (IsNew s session.begun) })

  pub heard_on : (session : SessionState) (outcome : CommandOutcome) → NumbersOn s session.begun (heard noted s session outcome)
  heard_on session outcome = let more = taken_on (session_after outcome session) in record { onward = more.onward; sends = more.sends }

-- ---- a step of the front

-- each session has begun at least as many, and a BEGIN that is sent is of one that was not begun
pub record BeginsNew (old new : List SessionState) (sends : List Outgoing) : Type 0 where
  pub onward : (u : ℕ) → 1 ≤ u → (session_in old u).begun ≤ (session_in new u).begun
  pub news : All (λ send. (txn : TxnId) → is_begin_of txn send.payload ≡ true → (session_in old txn.session).begun < txn.number) sends

same_begins : (old : List SessionState) → BeginsNew old old []
same_begins old = record { onward = λ u from. omega arith; news = All-nil (λ (send : Outgoing). (txn : TxnId) → is_begin_of txn send.payload ≡ true → (session_in old txn.session).begun < txn.number) }

stepped_begins : (old : List SessionState) (s : ℕ) (turns : Turned) → length old ≡ SESSIONS_MAX → is_between 1 SESSIONS_MAX s ≡ true → NumbersOn s (session_in old s).begun turns →
    BeginsNew old (with_session old s turns.session) turns.sends
stepped_begins old s turns many there are =
    let range = and_parts _ _ there in
    let from : 1 ≤ s = leb-true 1 s range.0 in
    let up : s ≤ SESSIONS_MAX = leb-true s SESSIONS_MAX range.1 in
    record {
      onward = λ u first. by_session from up u first (eqb u s) refl;
      news = All-weaker (IsNew s (session_in old s).begun) (λ (send : Outgoing). (txn : TxnId) → is_begin_of txn send.payload ≡ true → (session_in old txn.session).begun < txn.number)
          (λ send new txn begins. let is = new txn begins in subst (λ u. (session_in old u).begun < txn.number) (sym is.0) is.1) turns.sends are.sends;
    }
  where
    by_session : 1 ≤ s → s ≤ SESSIONS_MAX → (u : ℕ) → 1 ≤ u → (b : Bool) → eqb u s ≡ b → (session_in old u).begun ≤ (session_in (with_session old s turns.session) u).begun
    by_session from up u first true same =
        let at : u ≡ s = eqb-true u s same in
        let here : session_in (with_session old s turns.session) s ≡ turns.session = get_or-set_same old (s - 1) turns.session no_session (omega arith) in
        subst (λ w. (session_in old w).begun ≤ (session_in (with_session old s turns.session) w).begun) (sym at)
        (subst (λ (session : SessionState). (session_in old s).begun ≤ session.begun) (sym here) are.onward)
    by_session from up u first false apart =
        let other : u ≢ s = eqb-false u s apart in
        let here : session_in (with_session old s turns.session) u ≡ session_in old u = get_or-set_other old (s - 1) (u - 1) turns.session no_session (λ e. other (omega arith)) in
        let e = ap (λ (session : SessionState). session.begun) here in omega (arith, e)

module _ (noted : Noted) (state : FrontState) (many : length state.sessions ≡ SESSIONS_MAX) where
  fed_as_begins : (line : ℕ) (text : List ℕ) (first : FrontState) (read : Result Line LineFault) → first.sessions ≡ state.sessions → line_of text ≡ read →
      BeginsNew state.sessions (fed_as noted first line read).state.sessions (fed_as noted first line read).step.sends
  fed_as_begins line text first (Ok (Client s command)) same read =
      let range = line_of-session text s command read in
      subst (λ sessions. BeginsNew sessions (fed_as noted first line (Ok (Client s command))).state.sessions (fed_as noted first line (Ok (Client s command))).step.sends) same
      (stepped_begins first.sessions s (turns_with noted first s command) (ap length same ∙ many)
      (and_from _ _ (le-leb 1 s range.0) (le-leb s SESSIONS_MAX range.1))
      (taken_on noted s (with_waiting (session_in first.sessions s) command)))
  fed_as_begins line text first (Ok (Operator order)) same read = subst (λ sessions. BeginsNew state.sessions sessions []) (sym same) (same_begins state.sessions)
  fed_as_begins line text first (Err fault) same read = subst (λ sessions. BeginsNew state.sessions sessions []) (sym same) (same_begins state.sessions)

  -- on a line
  pub line_begins : (line : ℕ) (text : List ℕ) (said : List Out) → BeginsNew state.sessions (fed_front noted state line text said).state.sessions (fed_front noted state line text said).step.sends
  unfolding fed_front
  line_begins line text said = fed_as_begins line text (with_entries state (fed line text ∷ [])) (line_of text) refl refl

  -- on a message
  pub message_begins : (content : Content) → BeginsNew state.sessions (delivered_content noted state content).state.sessions (delivered_content noted state content).step.sends
  message_begins (message.Outcome txn number outcome) =
      cond_both (is_awaited state.sessions txn number) (stepped state txn.session (heard noted txn.session (session_in state.sessions txn.session) outcome))
      (record { state = state; step = nothing_done }) (λ (next : CoreStep FrontState). BeginsNew state.sessions next.state.sessions next.step.sends)
      (λ awaited. stepped_begins state.sessions txn.session (heard noted txn.session (session_in state.sessions txn.session) outcome) many (and_parts _ _ (and_parts _ _ awaited).0).0
      (heard_on noted txn.session (session_in state.sessions txn.session) outcome)) (λ other. same_begins state.sessions)
  message_begins content = same_begins state.sessions

-- ---- who is to come

-- what one actor is sent is of what is sent
each_sent_to : (P : Content → Type 0) (to : ℕ) (sends : List Outgoing) → All (λ send. P send.payload) sends → All P (sent_to to sends)
each_sent_to P to sends are =
    cond_both (nat_lt to ACTORS) (map (λ (send : Outgoing). send.payload) (filter (λ send. eqb send.to to) sends)) [] (All P)
    (λ actor. All-map P (λ (send : Outgoing). send.payload) (filter (λ send. eqb send.to to) sends) (All-filter (λ send. eqb send.to to) (λ (send : Outgoing). P send.payload) sends are))
    (λ none. All-nil P)

-- what follows from whatever passes the test
from_any : (p : Content → Bool) (Q : Type 0) (contents : List Content) → All (λ content. p content ≡ true → Q) contents → list_any p contents ≡ true → Q
from_any p Q [] each any = absurd (let e : false ≡ true = any in cc)
from_any p Q (content ∷ contents) each any =
    by_test (p content) refl (All-head (λ content. p content ≡ true → Q) content contents each) (from_any p Q contents (All-tail (λ content. p content ≡ true → Q) content contents each))
  where
    by_test : (b : Bool) → p content ≡ b → (p content ≡ true → Q) → (list_any p contents ≡ true → Q) → Q
    by_test true passes first more = first passes
    by_test false fails first more = more (ap (λ b. b || list_any p contents) (sym fails) ∙ any)

-- who is to come after a step of the front was so before
pub front_to_come : (nodes : ℕ) (world : ReplicaWorld) (mail : Mail) (state : FrontState) (sends : List Outgoing) (lines : ℕ) → BeginsNew world.front.sessions state.sessions sends →
    ((p : Content → Bool) (h : ℕ) → list_any p (mail FRONT h) ≡ true → list_any p (world.mail FRONT h) ≡ true) → (name : TxnId) → IsOfSession name →
    IsToCome nodes (record world { front = state; mail = with_mail mail FRONT sends; lines = lines }) name → IsToCome nodes world name
front_to_come nodes world mail state sends lines begins before name there (inl later) =
    let onward = begins.onward name.session (leb-true 1 name.session (and_parts _ _ there).0) in inl (omega (arith, onward, later))
front_to_come nodes world mail state sends lines begins before name there (inr coming) =
    let h : ℕ = home_in nodes name in
    let P : Content → Type 0 = λ content. is_begin_of name content ≡ true → (session_in world.front.sessions name.session).begun < name.number in
    elim (or_cases (list_any (is_begin_of name) (mail FRONT h)) (list_any (is_begin_of name) (sent_to h sends))
    (sym (list_any-append (is_begin_of name) (mail FRONT h) (sent_to h sends)) ∙ coming)) [
      | inl old ↦ inr (before (is_begin_of name) h old)
      | inr new ↦ inl (from_any (is_begin_of name) ((session_in world.front.sessions name.session).begun < name.number) (sent_to h sends)
          (each_sent_to P h sends (All-weaker (λ (send : Outgoing). (txn : TxnId) → is_begin_of txn send.payload ≡ true → (session_in world.front.sessions txn.session).begun < txn.number)
          (λ send. P send.payload) (λ send is. is name) sends begins.news)) new)
    ]
