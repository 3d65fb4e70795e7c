-- The turns of a session, by its stage.
use Rattle.std.proofs.Common.{◌≡◌, ℕ, ◌+◌, ◌%◌, ◌<◌, ◌≤◌, nat_le, Bool, true, false, cond, inl, inr, List, [], ◌∷◌, ◌++◌, filter, Some, None, Ok, Err, refl, sym, ap, ◌∙◌, subst, arith}
use Rattle.std.proofs.lemmas.Bool.{cond-true, leb-false, lt-ltb}
use Rattle.std.proofs.lemmas.List.{append-nil}
use Rattle.cl_control.specs.State.{Entry}
use Rattle.cl_control.specs.declared.entry.Phase.{Phase}
use Rattle.cl_control.specs.declared.entry.Phase.TheVariants.{Idle, Asked, Preparing, Decided, Logged}
use Rattle.cl_endpoint.specs.declared.limits.TheConstants.{ACTORS}
use Rattle.cl_exchange.specs.Stage.{SessionView, Stage, outside, ready, asking, working, telling, IsAt, HasNothing, IsInTransaction, WaitsForNext, HasBeforeCommand, HasAfterOutcome, IsReady, IsTelling, IsWorkingOn, last_begun, is_of_session}
use Rattle.cl_exchange.proofs.Fronts.{one_here}
use Rattle.cl_exchange.proofs.Turns.{SendsNone, SendsOne, SendsOneAtMost, turns, no_turns}
use Rattle.cl_front.specs.declared.current.Current.{Current}
use Rattle.cl_front.specs.Session.{SessionState, is_outstanding_in, Turned, next_current, with_command, begun_after, taken, current_after, session_after, HasNextNumber}
use Rattle.cl_runs.specs.Queues.{sent_to}
use Rattle.cl_runs.specs.World.{Shape}
use Rattle.cl_system.specs.Replicas.{nothing_noted}
use Rattle.cl_types.specs.declared.answers.Outcome.{Outcome as CommandOutcome}
use Rattle.cl_types.specs.declared.answers.Outcome.TheVariants.{Done, Begun, Committed, Aborted, NotTxn, InTxn, Full}
use Rattle.cl_types.specs.declared.limits.TheConstants.{OPERATIONS_MAX}
use Rattle.cl_types.specs.declared.operations.Command.{Command as ClientCommand}
use Rattle.cl_types.specs.declared.operations.Command.TheVariants.{Begin, Work, Commit, Abort}
use Rattle.cl_wire.specs.Message.{Command, Outcome}

-- ---- a stage is the same whatever waits

module _ (s : ℕ) (view : SessionView) (session : SessionState) (begun : session.begun ≡ view.session.begun) (current_is : session.current ≡ view.session.current) where
  -- the view with this session
  abbrev pub with_it : SessionView
  with_it = record view { session = session }

  last : last_begun s view.session ≡ last_begun s session
  last = ap (λ n. record { session = s; number = n }) (sym begun)

  waits_still : (entry : Entry) → WaitsForNext s view entry → WaitsForNext s with_it entry
  waits_still entry waits = record { of = waits.of ∙ last; phase = waits.phase }

  inside_still : (current : Current) (outstanding : Bool) → IsInTransaction view current outstanding → IsInTransaction with_it current outstanding
  inside_still current outstanding inside = record { inside = current_is ∙ inside.inside; waits = inside.waits; operations = inside.operations }

  before_still : (current : Current) (what : ClientCommand) (entries : List Entry) → HasBeforeCommand s view current what entries → HasBeforeCommand s with_it current what entries
  before_still current Begin entries before = before
  before_still current (Work table key op) entries before = (before.0, (before.1.0, before.1.1, waits_still before.1.0 before.1.2))
  before_still current Commit entries before = (before.0, (before.1.0, before.1.1, waits_still before.1.0 before.1.2))
  before_still current Abort entries before = (before.0, (before.1.0, before.1.1, waits_still before.1.0 before.1.2))

  after_still : (current : Current) (outcome : CommandOutcome) (entries : List Entry) → HasAfterOutcome s view current outcome entries → HasAfterOutcome s with_it current outcome entries
  after_still current Begun entries after = (after.0, (after.1.0, after.1.1, waits_still after.1.0 after.1.2))
  after_still current (Done reply) entries after = (after.0, (after.1.0, after.1.1, waits_still after.1.0 after.1.2))
  after_still current Committed entries after = after
  after_still current (Aborted cause) entries after = after
  after_still current NotTxn entries after = after
  after_still current InTxn entries after = after
  after_still current Full entries after = after

  pub stage_still : (nodes : ℕ) (stage : Stage) → IsAt nodes s view stage → IsAt nodes s with_it stage
  stage_still nodes outside at = (current_is ∙ at.0, record { commands = at.1.commands; entries = at.1.entries; outcomes = at.1.outcomes })
  stage_still nodes (ready current entry) at = record {
    inside = inside_still current false at.inside;
    numbered = at.numbered;
    commands = at.commands;
    entries = at.entries;
    waits = waits_still entry at.waits;
    outcomes = at.outcomes;
  }
  stage_still nodes (asking current what entries) at = record {
    inside = inside_still current true at.inside;
    commands = at.commands ∙ ap (λ txn. Command (s % nodes) txn current.commands what ∷ []) last;
    has = at.has;
    before = before_still current what entries at.before;
    outcomes = at.outcomes;
  }
  stage_still nodes (working current entry) at = record {
    inside = inside_still current true at.inside;
    commands = at.commands;
    entries = at.entries;
    of = at.of ∙ last;
    on = at.on;
    outcomes = at.outcomes;
  }
  stage_still nodes (telling current outcome entries) at = record {
    inside = inside_still current true at.inside;
    commands = at.commands;
    has = at.has;
    after = after_still current outcome entries at.after;
    outcomes = at.outcomes ∙ ap (λ txn. Outcome txn current.commands outcome ∷ []) last;
  }

-- ---- the turns

module _ (shape : Shape) (s : ℕ) (below : s % shape.nodes < ACTORS) (view : SessionView) where
  -- the view after these turns
  abbrev pub turned_view : Turned → SessionView
  turned_view turned = record {
    session = turned.session;
    commands = view.commands ++ filter (is_of_session s) (sent_to (s % shape.nodes) turned.sends);
    entries = view.entries;
    outcomes = view.outcomes;
  }

  nothing_sent : (turned : Turned) → turned.sends ≡ [] → view.commands ≡ (turned_view turned).commands
  nothing_sent turned none =
      let nothing : sent_to (s % shape.nodes) [] ≡ [] = cond-true _ [] [] (lt-ltb (s % shape.nodes) ACTORS below) in
      sym (ap (λ sends. view.commands ++ filter (is_of_session s) (sent_to (s % shape.nodes) sends)) none
      ∙ (ap (λ list. view.commands ++ filter (is_of_session s) list) nothing ∙ append-nil view.commands))

  -- where nothing is sent the stage stays
  none_next : (turned : Turned) → SendsNone view.session.begun view.session.current turned → (stage : Stage) → IsAt shape.nodes s view stage → IsAt shape.nodes s (turned_view turned) stage
  none_next turned none stage at =
      subst (λ commands. IsAt shape.nodes s (record { session = turned.session; commands = commands; entries = view.entries; outcomes = view.outcomes }) stage) (nothing_sent turned none.sends)
      (stage_still s view turned.session none.begun_is none.current_is shape.nodes stage at)

  -- the command that is sent is the one on its way
  sent_commands : (turned : Turned) (one : SendsOne (nothing_noted shape) s view.session.begun view.session.current turned) → view.commands ≡ [] →
      (turned_view turned).commands ≡ Command (s % shape.nodes) (last_begun s turned.session) one.next.commands one.command ∷ []
  sent_commands turned one none =
      ap (λ list. list ++ filter (is_of_session s) (sent_to (s % shape.nodes) turned.sends)) none
      ∙ (ap (λ sends. filter (is_of_session s) (sent_to (s % shape.nodes) sends)) one.sends
      ∙ (one_here shape (record { session = s; number = begun_after one.command view.session.begun }) one.next.commands one.command below
      ∙ ap (λ n. Command (s % shape.nodes) (record { session = s; number = n }) one.next.commands one.command ∷ []) (sym one.begun_is)))

  begins : (turned : Turned) (one : SendsOne (nothing_noted shape) s view.session.begun view.session.current turned) → (view.session.current ≡ None) → HasNothing view → (what : ClientCommand) → one.command ≡ what →
      next_current None what ≡ Ok one.next → (stage : Stage) × IsAt shape.nodes s (turned_view turned) stage
  begins turned one free nothing Begin is may =
      let first : Current = record { operations = 0; commands = 0; outstanding = true } in
      let next : first ≡ one.next = cc in (
        asking one.next Begin [],
        record {
          inside = record { inside = one.current_is; waits = sym (ap (λ x. x.outstanding) next); operations = (let e = ap (λ (x : Current). x.operations) next in omega arith) };
          commands = sent_commands turned one nothing.commands ∙ ap (λ what. Command (s % shape.nodes) (last_begun s turned.session) one.next.commands what ∷ []) is;
          has = nothing.entries;
          before = (subst (λ (x : Current). x.commands ≡ x.operations) next refl, refl);
          outcomes = nothing.outcomes;
        },
      )
  begins turned one free nothing (Work table key op) is may = absurd cc
  begins turned one free nothing Commit is may = absurd cc
  begins turned one free nothing Abort is may = absurd cc

  -- a session in a transaction with no command outstanding sends one more
  goes_on : (turned : Turned) (one : SendsOne (nothing_noted shape) s view.session.begun view.session.current turned) (current : Current) (entry : Entry) → IsReady s view current entry → (what : ClientCommand) → one.command ≡ what →
      next_current (Some current) what ≡ Ok one.next → (stage : Stage) × IsAt shape.nodes s (turned_view turned) stage
  goes_on turned one current entry at Begin is may = absurd cc
  goes_on turned one current entry at (Work table key op) is may = by (nat_le OPERATIONS_MAX current.operations) refl may
    where
      by : (full : Bool) → nat_le OPERATIONS_MAX current.operations ≡ full → cond full (Err Full) (Ok (with_command current (current.operations + 1))) ≡ Ok one.next → (stage : Stage) × IsAt shape.nodes s (turned_view turned) stage
      by true full none = absurd cc
      by false room so =
          let next : with_command current (current.operations + 1) ≡ one.next = cc in
          let few : current.operations < OPERATIONS_MAX = leb-false OPERATIONS_MAX current.operations room in
          let numbered : current.commands ≡ current.operations = at.numbered in (
            asking one.next (Work table key op) (entry ∷ []),
            record {
              inside = record { inside = one.current_is; waits = sym (ap (λ x. x.outstanding) next); operations = (let e = ap (λ (x : Current). x.operations) next in omega arith) };
              commands = sent_commands turned one at.commands ∙ ap (λ what. Command (s % shape.nodes) (last_begun s turned.session) one.next.commands what ∷ []) is;
              has = at.entries;
              before = (
                subst (λ (x : Current). x.commands ≡ x.operations) next (ap (λ n. n + 1) numbered),
                (
                  entry,
                  refl,
                  record {
                    of = at.waits.of ∙ ap (λ n. record { session = s; number = n }) (sym (one.begun_is ∙ ap (λ w. begun_after w view.session.begun) is));
                    phase = at.waits.phase;
                  },
                ),
              );
              outcomes = at.outcomes;
            },
          )
  goes_on turned one current entry at Commit is may =
      let next : with_command current current.operations ≡ one.next = cc in (
        asking one.next Commit (entry ∷ []),
        record {
          inside = record { inside = one.current_is; waits = sym (ap (λ x. x.outstanding) next); operations = subst (λ (x : Current). x.operations ≤ OPERATIONS_MAX) next at.inside.operations };
          commands = sent_commands turned one at.commands ∙ ap (λ what. Command (s % shape.nodes) (last_begun s turned.session) one.next.commands what ∷ []) is;
          has = at.entries;
          before = (
            subst (λ (x : Current). x.commands ≡ x.operations + 1) next (ap (λ n. n + 1) at.numbered),
            (
              entry,
              refl,
              record {
                of = at.waits.of ∙ ap (λ n. record { session = s; number = n }) (sym (one.begun_is ∙ ap (λ w. begun_after w view.session.begun) is));
                phase = at.waits.phase;
              },
            ),
          );
          outcomes = at.outcomes;
        },
      )
  goes_on turned one current entry at Abort is may =
      let next : with_command current current.operations ≡ one.next = cc in (
        asking one.next Abort (entry ∷ []),
        record {
          inside = record { inside = one.current_is; waits = sym (ap (λ x. x.outstanding) next); operations = subst (λ (x : Current). x.operations ≤ OPERATIONS_MAX) next at.inside.operations };
          commands = sent_commands turned one at.commands ∙ ap (λ what. Command (s % shape.nodes) (last_begun s turned.session) one.next.commands what ∷ []) is;
          has = at.entries;
          before = (
            subst (λ (x : Current). x.commands ≡ x.operations + 1) next (ap (λ n. n + 1) at.numbered),
            (
              entry,
              refl,
              record {
                of = at.waits.of ∙ ap (λ n. record { session = s; number = n }) (sym (one.begun_is ∙ ap (λ w. begun_after w view.session.begun) is));
                phase = at.waits.phase;
              },
            ),
          );
          outcomes = at.outcomes;
        },
      )

  outside_next : (turned : Turned) → view.session.current ≡ None → HasNothing view → SendsOneAtMost (nothing_noted shape) s view.session.begun view.session.current turned →
      (stage : Stage) × IsAt shape.nodes s (turned_view turned) stage
  outside_next turned free nothing (inl none) = (outside, none_next turned none outside (free, nothing))
  outside_next turned free nothing (inr one) = begins turned one free nothing one.command refl (subst (λ current. next_current current one.command ≡ Ok one.next) free one.may)

  ready_next : (turned : Turned) (current : Current) (entry : Entry) → IsReady s view current entry → SendsOneAtMost (nothing_noted shape) s view.session.begun view.session.current turned →
      (stage : Stage) × IsAt shape.nodes s (turned_view turned) stage
  ready_next turned current entry at (inl none) = (ready current entry, none_next turned none (ready current entry) at)
  ready_next turned current entry at (inr one) = goes_on turned one current entry at one.command refl (subst (λ of. next_current of one.command ≡ Ok one.next) at.inside.inside one.may)

  -- the turns of the commands that wait
  abbrev its_turns : Turned
  its_turns = taken (nothing_noted shape) s view.session

  busy_next : (stage : Stage) → IsAt shape.nodes s view stage → is_outstanding_in view.session.current ≡ true → (after : Stage) × IsAt shape.nodes s (turned_view its_turns) after
  busy_next stage at busy = (stage, none_next its_turns (no_turns (nothing_noted shape) s view.session busy) stage at)

  outstanding : (current : Current) → IsInTransaction view current true → is_outstanding_in view.session.current ≡ true
  outstanding current inside = ap is_outstanding_in inside.inside ∙ inside.waits

  pub turns_next : (stage : Stage) → IsAt shape.nodes s view stage → (after : Stage) × IsAt shape.nodes s (turned_view its_turns) after
  turns_next outside at = outside_next its_turns at.0 at.1 (turns (nothing_noted shape) s view.session.waiting view.session.begun view.session.current (ap is_outstanding_in at.0))
  turns_next (ready current entry) at =
      ready_next its_turns current entry at (turns (nothing_noted shape) s view.session.waiting view.session.begun view.session.current (ap is_outstanding_in at.inside.inside ∙ at.inside.waits))
  turns_next (asking current what entries) at = busy_next (asking current what entries) at (outstanding current at.inside)
  turns_next (working current entry) at = busy_next (working current entry) at (outstanding current at.inside)
  turns_next (telling current outcome entries) at = busy_next (telling current outcome entries) at (outstanding current at.inside)

-- ---- an outcome

module _ (nodes s : ℕ) (view : SessionView) (current : Current) where
  -- the view once the outcome is heard, before the turns
  abbrev pub heard_view : CommandOutcome → SessionView
  heard_view outcome = record { session = session_after outcome view.session; commands = view.commands; entries = view.entries; outcomes = [] }

  free_inside : (outcome : CommandOutcome) → IsInTransaction view current true → current_after outcome (Some current) ≡ Some (record current { outstanding = false }) →
      IsInTransaction (heard_view outcome) (record current { outstanding = false }) false
  free_inside outcome inside is = record { inside = ap (current_after outcome) inside.inside ∙ is; waits = refl; operations = inside.operations }

  -- the transaction waits for its next command, or has ended
  pub outcome_next : (outcome : CommandOutcome) (entries : List Entry) → IsTelling s view current outcome entries → (stage : Stage) × IsAt nodes s (heard_view outcome) stage
  outcome_next Begun entries at = (
    ready (record current { outstanding = false }) at.after.1.0,
    record {
      inside = free_inside Begun at.inside refl;
      numbered = at.after.0;
      commands = at.commands;
      entries = at.has ∙ at.after.1.1;
      waits = record { of = at.after.1.2.of; phase = at.after.1.2.phase };
      outcomes = refl;
    },
  )
  outcome_next (Done reply) entries at = (
    ready (record current { outstanding = false }) at.after.1.0,
    record {
      inside = free_inside (Done reply) at.inside refl;
      numbered = at.after.0;
      commands = at.commands;
      entries = at.has ∙ at.after.1.1;
      waits = record { of = at.after.1.2.of; phase = at.after.1.2.phase };
      outcomes = refl;
    },
  )
  outcome_next Committed entries at = (outside, (ap (current_after Committed) at.inside.inside, record { commands = at.commands; entries = at.has ∙ at.after.1; outcomes = refl }))
  outcome_next (Aborted cause) entries at = (outside, (ap (current_after (Aborted cause)) at.inside.inside, record { commands = at.commands; entries = at.has ∙ at.after.1; outcomes = refl }))
  outcome_next NotTxn entries at = absurd at.after
  outcome_next InTxn entries at = absurd at.after
  outcome_next Full entries at = absurd at.after

-- ---- the next number

-- the number of the next command of a session at a stage has room
module _ (nodes s : ℕ) (view : SessionView) where
  room_in : (current : Current) → view.session.current ≡ Some current → current.operations ≤ OPERATIONS_MAX → current.commands ≤ current.operations + 1 → HasNextNumber view.session.current
  room_in current is few numbered = subst HasNextNumber (sym is) (omega arith)

  asking_numbered : (current : Current) (what : ClientCommand) (entries : List Entry) → HasBeforeCommand s view current what entries → current.commands ≤ current.operations + 1
  asking_numbered current Begin entries before = let h = before.0 in omega arith
  asking_numbered current (Work table key op) entries before = let h = before.0 in omega arith
  asking_numbered current Commit entries before = let h = before.0 in omega arith
  asking_numbered current Abort entries before = let h = before.0 in omega arith

  working_numbered : (current : Current) (phase : Phase) → IsWorkingOn current phase → current.commands ≤ current.operations + 1
  working_numbered current Idle on = absurd on
  working_numbered current (Asked number v) on = let h = on.1 in omega arith
  working_numbered current (Preparing number) on = let h = on.1 in omega arith
  working_numbered current (Decided number) on = absurd on
  working_numbered current (Logged number) on = absurd on

  telling_numbered : (current : Current) (outcome : CommandOutcome) (entries : List Entry) → HasAfterOutcome s view current outcome entries → current.commands ≤ current.operations + 1
  telling_numbered current Begun entries after = let h = after.0 in omega arith
  telling_numbered current (Done reply) entries after = let h = after.0 in omega arith
  telling_numbered current Committed entries after = let h = after.0 in omega arith
  telling_numbered current (Aborted cause) entries after = after.0
  telling_numbered current NotTxn entries after = absurd after
  telling_numbered current InTxn entries after = absurd after
  telling_numbered current Full entries after = absurd after

  pub next_number : (stage : Stage) → IsAt nodes s view stage → HasNextNumber view.session.current
  next_number outside at = subst HasNextNumber (sym at.0) tt
  next_number (ready current entry) at = room_in current at.inside.inside at.inside.operations (let h = at.numbered in omega arith)
  next_number (asking current what entries) at = room_in current at.inside.inside at.inside.operations (asking_numbered current what entries at.before)
  next_number (working current entry) at = room_in current at.inside.inside at.inside.operations (working_numbered current entry.phase at.on)
  next_number (telling current outcome entries) at = room_in current at.inside.inside at.inside.operations (telling_numbered current outcome entries at.after)
