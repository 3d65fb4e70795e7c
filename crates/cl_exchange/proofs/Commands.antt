-- A command comes to the controller of its session.
use Rattle.std.proofs.Common.{◌≡◌, ℕ, Bool, List, [], ◌∷◌, ◌++◌, filter, Option, Some, option_map, refl, sym, ap, ◌∙◌, subst, arith}
use Rattle.std.specs.List.{list_any}
use Rattle.std.specs.Option.{option_map_or}
use Rattle.cl_control.specs.Calls.{commit_phase, asked, committing, MayCommand}
use Rattle.cl_control.specs.State.{Entry, new_entry, entry_of, changed, without, participants_of}
use Rattle.cl_control.specs.declared.entry.Phase.TheVariants.{Idle}
use Rattle.cl_exchange.specs.Stage.{SessionView, Stage, working, telling, IsAt, IsInTransaction, IsAsking, IsWorkingOn, WaitsForNext, last_begun, is_of_session}
use Rattle.cl_exchange.proofs.Changes.{Does, begin_does, work_does, commit_none_does, commit_some_does, abort_does}
use Rattle.cl_exchange.proofs.Holding.{changed_one, without_one, found_one}
use Rattle.cl_exchange.proofs.Opens.{of_session, open-own}
use Rattle.cl_exchange.proofs.Told.{said_to, said-own}
use Rattle.cl_exchange.proofs.Views.{same_parts}
use Rattle.cl_front.specs.declared.current.Current.{Current}
use Rattle.cl_lone.specs.Lone.{lone_step}
use Rattle.cl_runs.specs.Queues.{sent_to}
use Rattle.cl_steps.specs.declared.actors.TheConstants.{FRONT}
use Rattle.cl_system.specs.Replicas.{own_primary}
use Rattle.cl_types.specs.Placement.{IsNodeCount, virtual_node_of}
use Rattle.cl_types.specs.Transactions.{same_txn}
use Rattle.cl_types.specs.declared.answers.AbortCause.TheVariants.{Client}
use Rattle.cl_types.specs.declared.answers.Outcome.{Outcome as CommandOutcome}
use Rattle.cl_types.specs.declared.answers.Outcome.TheVariants.{Begun, Committed, Aborted}
use Rattle.cl_types.specs.declared.operations.Command.{Command as ClientCommand}
use Rattle.cl_types.specs.declared.operations.Command.TheVariants.{Begin, Work, Commit, Abort}
use Rattle.cl_types.specs.declared.operations.Op.{Op}
use Rattle.cl_types.specs.declared.operations.TxnId.{TxnId}
use Rattle.cl_vnode.specs.Replica.{ReplicaState}
use Rattle.cl_vnode.specs.Step.{Stepped}
use Rattle.cl_wire.specs.Message.{Content, Command}

-- a session with the same state is in the same transaction
pub still_inside : {view other : SessionView} {current : Current} {outstanding : Bool} → IsInTransaction view current outstanding → other.session ≡ view.session → IsInTransaction other current outstanding
still_inside inside same = record { inside = ap (λ session. session.current) same ∙ inside.inside; waits = inside.waits; operations = inside.operations }

-- the view of a session after a step of its controller, where nothing was on its way back
abbrev pub view_after : SessionView → ℕ → List Content → Stepped → SessionView
view_after view s commands stepped = record {
  session = view.session;
  commands = commands;
  entries = of_session s stepped.state.control.transactions;
  outcomes = filter (is_of_session s) (sent_to FRONT stepped.step.sends);
}

-- the session is at some stage after the step
abbrev pub IsAtNext : ℕ → ℕ → SessionView → List Content → Stepped → Type 0
IsAtNext nodes s view commands stepped = (stage : Stage) × IsAt nodes s (view_after view s commands stepped) stage

-- the view by what the step does
pub next_is : (nodes : ℕ) (view : SessionView) (commands : List Content) (state : ReplicaState) (txn : TxnId) (stepped : Stepped) (change : List Entry → List Entry) (said : Option (ℕ × CommandOutcome)) →
    view.entries ≡ of_session txn.session state.control.transactions → Does state txn stepped change said → (mine : List Entry) → change view.entries ≡ mine →
    (stage : Stage) → IsAt nodes txn.session (record { session = view.session; commands = commands; entries = mine; outcomes = said_to txn said }) stage → IsAtNext nodes txn.session view commands stepped
next_is nodes view commands state txn stepped change said same does mine is stage at = (
  stage,
  subst (λ next. IsAt nodes txn.session next stage) (sym (same_parts (view_after view txn.session commands stepped) (record { session = view.session; commands = commands; entries = mine; outcomes = said_to txn said }) refl refl
      (ap (of_session txn.session) does.entries ∙ (does.is.own state.control.transactions ∙ (ap change (sym same) ∙ is)))
      (ap (filter (is_of_session txn.session)) does.told ∙ said-own txn said))) at,
)

module _ (nodes s : ℕ) (view : SessionView) (current : Current) (state : ReplicaState) (counted : IsNodeCount state.control.nodes) (same : view.entries ≡ of_session s state.control.transactions) where
  begin_next : (entries : List Entry) (v : ℕ) (mark : Bool) → IsAsking nodes s view current Begin entries →
      IsAtNext nodes s view [] (lone_step own_primary state FRONT (Command v (last_begun s view.session) current.commands Begin) mark)
  begin_next entries v mark at =
      let new : Entry = new_entry (last_begun s view.session) in
      next_is nodes view [] state (last_begun s view.session) _ _ _ same (begin_does state counted (last_begun s view.session) FRONT v current.commands mark)
      (new ∷ []) (ap (λ list. list ++ new ∷ []) (at.has ∙ at.before.1)) (telling current Begun (new ∷ [])) (record {
        inside = still_inside at.inside refl;
        commands = refl;
        has = refl;
        after = (at.before.0, (new, refl, record { of = refl; phase = refl }));
        outcomes = refl;
      })

  work_next : (entries : List Entry) (table key : List ℕ) (op : Op) (v : ℕ) (mark : Bool) → IsAsking nodes s view current (Work table key op) entries →
      IsAtNext nodes s view [] (lone_step own_primary state FRONT (Command v (last_begun s view.session) current.commands (Work table key op)) mark)
  work_next entries table key op v mark at =
      let entry : Entry = at.before.1.0 in
      let change : Entry → Entry = asked current.commands (virtual_node_of key state.control.nodes) in
      next_is nodes view [] state (last_begun s view.session) _ _ _ same (work_does state counted (last_begun s view.session) FRONT v current.commands table key op mark)
      (change entry ∷ []) (ap (changed (last_begun s view.session) change) (at.has ∙ at.before.1.1) ∙ changed_one (last_begun s view.session) entry (sym at.before.1.2.of) change)
      (working current (change entry)) (record {
        inside = still_inside at.inside refl;
        commands = refl;
        entries = refl;
        of = at.before.1.2.of;
        on = (refl, at.before.0);
        outcomes = refl;
      })

  -- the participants of the transaction
  pub participants_are : (entry : Entry) → view.entries ≡ entry ∷ [] → WaitsForNext s view entry → participants_of state.control (last_begun s view.session) ≡ entry.participants
  participants_are entry has waits =
      ap (λ found. option_map_or (λ x. x.participants) found []) (found_one (last_begun s view.session) entry (sym waits.of) state.control view.entries same has)

  commit_next : (entries : List Entry) (v : ℕ) (mark : Bool) → IsAsking nodes s view current Commit entries →
      IsAtNext nodes s view [] (lone_step own_primary state FRONT (Command v (last_begun s view.session) current.commands Commit) mark)
  commit_next entries v mark at = by at.before.1.0.participants refl
    where
      by : (vs : List ℕ) → at.before.1.0.participants ≡ vs → IsAtNext nodes s view [] (lone_step own_primary state FRONT (Command v (last_begun s view.session) current.commands Commit) mark)
      by [] none =
          let entry : Entry = at.before.1.0 in
          next_is nodes view [] state (last_begun s view.session) _ _ _ same
          (commit_none_does state counted (last_begun s view.session) FRONT v current.commands mark (participants_are entry (at.has ∙ at.before.1.1) at.before.1.2 ∙ none))
          [] (ap (without (last_begun s view.session)) (at.has ∙ at.before.1.1) ∙ without_one (last_begun s view.session) entry (sym at.before.1.2.of))
          (telling current Committed []) (record { inside = still_inside at.inside refl; commands = refl; has = refl; after = (at.before.0, refl); outcomes = refl })
      by (w ∷ vs) some =
          let entry : Entry = at.before.1.0 in
          let change : Entry → Entry = committing current.commands in
          next_is nodes view [] state (last_begun s view.session) _ _ _ same
          (commit_some_does state counted (last_begun s view.session) FRONT v current.commands mark w vs (participants_are entry (at.has ∙ at.before.1.1) at.before.1.2 ∙ some))
          (change entry ∷ []) (ap (changed (last_begun s view.session) change) (at.has ∙ at.before.1.1) ∙ changed_one (last_begun s view.session) entry (sym at.before.1.2.of) change)
          (working current (change entry)) (record {
            inside = still_inside at.inside refl;
            commands = refl;
            entries = refl;
            of = at.before.1.2.of;
            on = subst (λ list. IsWorkingOn current (commit_phase current.commands list)) (sym some) (refl, at.before.0);
            outcomes = refl;
          })

  abort_next : (entries : List Entry) (v : ℕ) (mark : Bool) → IsAsking nodes s view current Abort entries →
      IsAtNext nodes s view [] (lone_step own_primary state FRONT (Command v (last_begun s view.session) current.commands Abort) mark)
  abort_next entries v mark at =
      let entry : Entry = at.before.1.0 in
      next_is nodes view [] state (last_begun s view.session) _ _ _ same
      (abort_does state counted (last_begun s view.session) FRONT v current.commands mark)
      [] (ap (without (last_begun s view.session)) (at.has ∙ at.before.1.1) ∙ without_one (last_begun s view.session) entry (sym at.before.1.2.of))
      (telling current (Aborted Client) []) (record { inside = still_inside at.inside refl; commands = refl; has = refl; after = (let h = at.before.0 in omega arith, refl); outcomes = refl })

  -- the command on its way is in work, or answered
  pub command_next : (what : ClientCommand) (entries : List Entry) (v : ℕ) (mark : Bool) → IsAsking nodes s view current what entries →
      IsAtNext nodes s view [] (lone_step own_primary state FRONT (Command v (last_begun s view.session) current.commands what) mark)
  command_next Begin entries v mark at = begin_next entries v mark at
  command_next (Work table key op) entries v mark at = work_next entries table key op v mark at
  command_next Commit entries v mark at = commit_next entries v mark at
  command_next Abort entries v mark at = abort_next entries v mark at

  idle_found : (entry : Entry) → view.entries ≡ entry ∷ [] → WaitsForNext s view entry →
      option_map (λ x. x.phase) (entry_of state.control (last_begun s view.session)) ≡ Some Idle
  idle_found entry has waits =
      ap (option_map (λ x. x.phase)) (found_one (last_begun s view.session) entry (sym waits.of) state.control view.entries same has) ∙ ap (λ phase. Some phase) waits.phase

  -- its controller may take it
  pub command_may : (what : ClientCommand) (entries : List Entry) → IsAsking nodes s view current what entries → MayCommand state.control (last_begun s view.session) what
  command_may Begin entries at =
      sym (open-own (last_begun s view.session) state.control.transactions) ∙ ap (list_any (λ entry. same_txn (last_begun s view.session) entry.txn)) (sym same ∙ (at.has ∙ at.before.1))
  command_may (Work table key op) entries at = idle_found at.before.1.0 (at.has ∙ at.before.1.1) at.before.1.2
  command_may Commit entries at = idle_found at.before.1.0 (at.has ∙ at.before.1.1) at.before.1.2
  command_may Abort entries at = idle_found at.before.1.0 (at.has ∙ at.before.1.1) at.before.1.2
