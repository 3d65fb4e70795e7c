-- A transaction that has ended, as the transcript shows: nothing of it is left between its front and its controller.
use Rattle.std.proofs.Common.{◌≡◌, ℕ, ◌+◌, ◌%◌, ◌≤◌, Bool, true, false, cond, List, [], ◌∷◌, length, filter, Option, Some, None, refl, sym, ap, ◌∙◌, arith}
use Rattle.std.proofs.lemmas.Bool.{cond-true, eq-eqb}
use Rattle.cl_control.specs.State.{Entry, entry_named}
use Rattle.cl_exchange.specs.Laws.{IsSoundWorld}
use Rattle.cl_exchange.specs.Stage.{SessionView, Stage, outside, ready, asking, working, telling, IsAt, view_of, is_of_session, last_begun}
use Rattle.cl_exchange.proofs.Delivered.{IsCommandOf, command_of_stage}
use Rattle.cl_exchange.proofs.Events.{session_between}
use Rattle.cl_exchange.proofs.Opens.{named-own}
use Rattle.cl_front.specs.Session.{SessionState}
use Rattle.cl_front.specs.Sessions.{session_in}
use Rattle.cl_front.specs.declared.current.Current.{Current}
use Rattle.cl_commit.specs.Life.{entry_in}
use Rattle.cl_runs.specs.World.{Shape}
use Rattle.cl_serial.specs.Transactions.{Session, Transaction}
use Rattle.cl_steps.specs.declared.actors.TheConstants.{FRONT}
use Rattle.cl_system.specs.Replicas.{ReplicaWorld}
use Rattle.cl_system.specs.Roles.{IsOfSession}
use Rattle.cl_told.specs.Told.{told_session, IsInside, IsToldOutstanding, TellsStage, pending, SessionsAreTold}
use Rattle.cl_types.specs.declared.answers.Outcome.TheVariants.{Done, Begun, Committed, Aborted, NotTxn, InTxn, Full}
use Rattle.cl_types.specs.declared.operations.Command.{Command as ClientCommand}
use Rattle.cl_types.specs.declared.operations.Command.TheVariants.{Begin, Work, Commit, Abort}
use Rattle.cl_types.specs.declared.operations.TxnId.{TxnId}
use Rattle.cl_types.specs.Transactions.{same_txn}
use Rattle.cl_types.proofs.Transactions.{same_txn-true}
use Rattle.cl_wire.specs.Message.{Content, Command}

-- the session has begun one more than have ended
outstanding_begun : (told : Session) (session : SessionState) (current : Current) (what : ClientCommand) → IsToldOutstanding told session current what → session.begun ≡ length told.ended + 1
outstanding_begun told session current Begin is = is.0.number
outstanding_begun told session current (Work table key op) is = is.3.begun
outstanding_begun told session current Commit is = is.1.begun
outstanding_begun told session current Abort is = is.1.begun

inside_begun : (told : Session) (session : SessionState) (count : ℕ) → (transaction : Transaction) × IsInside told session transaction count → session.begun ≡ length told.ended + 1
inside_begun told session count is = is.1.begun

-- the controller has nothing of the session, or the transaction that it began last
data Holds (s : ℕ) (view : SessionView) (ended : ℕ) : Type 0 where
  nothing_open : view.entries ≡ [] → ended ≤ view.session.begun → Holds s view ended
  last_open : (entry : Entry) → view.entries ≡ entry ∷ [] → entry.txn ≡ last_begun s view.session → view.session.begun ≡ ended + 1 → Holds s view ended

none_from : (s : ℕ) (view : SessionView) (ended : ℕ) → view.entries ≡ [] → view.session.begun ≡ ended + 1 → Holds s view ended
none_from s view ended none begun = nothing_open none (omega (arith, begun))

stage_holds : (nodes s : ℕ) (view : SessionView) (left : List ClientCommand) (told : Session) (stage : Stage) → IsAt nodes s view stage →
    TellsStage left told view.session stage → Holds s view (length told.ended)
stage_holds nodes s view left told outside at tells = nothing_open at.1.entries (let number = tells.1.number in omega (arith, number))
stage_holds nodes s view left told (ready current entry) at tells = last_open entry at.entries at.waits.of (inside_begun told view.session current.operations tells.1)
stage_holds nodes s view left told (asking current Begin entries) at tells = none_from s view (length told.ended) (at.has ∙ at.before.1) (outstanding_begun told view.session current Begin tells.1)
stage_holds nodes s view left told (asking current (Work table key op) entries) at tells =
    last_open at.before.1.0 (at.has ∙ at.before.1.1) at.before.1.2.of (outstanding_begun told view.session current (Work table key op) tells.1)
stage_holds nodes s view left told (asking current Commit entries) at tells = last_open at.before.1.0 (at.has ∙ at.before.1.1) at.before.1.2.of (outstanding_begun told view.session current Commit tells.1)
stage_holds nodes s view left told (asking current Abort entries) at tells = last_open at.before.1.0 (at.has ∙ at.before.1.1) at.before.1.2.of (outstanding_begun told view.session current Abort tells.1)
stage_holds nodes s view left told (working current entry) at tells = last_open entry at.entries at.of (outstanding_begun told view.session current tells.0 tells.2)
stage_holds nodes s view left told (telling current Begun entries) at tells = last_open at.after.1.0 (at.has ∙ at.after.1.1) at.after.1.2.of (outstanding_begun told view.session current tells.0 tells.2)
stage_holds nodes s view left told (telling current (Done reply) entries) at tells = last_open at.after.1.0 (at.has ∙ at.after.1.1) at.after.1.2.of (outstanding_begun told view.session current tells.0 tells.2)
stage_holds nodes s view left told (telling current Committed entries) at tells = none_from s view (length told.ended) (at.has ∙ at.after.1) (outstanding_begun told view.session current tells.0 tells.2)
stage_holds nodes s view left told (telling current (Aborted cause) entries) at tells = none_from s view (length told.ended) (at.has ∙ at.after.1) (outstanding_begun told view.session current tells.0 tells.2)
stage_holds nodes s view left told (telling current NotTxn entries) at tells = absurd at.after
stage_holds nodes s view left told (telling current InTxn entries) at tells = absurd at.after
stage_holds nodes s view left told (telling current Full entries) at tells = absurd at.after

named_same : (txn : TxnId) (entry found : Entry) → entry_named txn (entry ∷ []) ≡ Some found → txn ≡ entry.txn
named_same txn entry found is = by (same_txn txn entry.txn) refl is
  where
    by : (b : Bool) → same_txn txn entry.txn ≡ b → ◌≡◌ {A = Option Entry} (cond b (Some entry) None) (Some found) → txn ≡ entry.txn
    by true same some = same_txn-true txn entry.txn same
    by false apart some = absurd cc

-- ---- a transaction that has ended

-- the transcript shows that it has
abbrev pub IsPast : ReplicaWorld → TxnId → Type 0
IsPast world txn = txn.number ≤ length (told_session txn.session world.front.transcript).ended

module _ (shape : Shape) (world : ReplicaWorld) (sound : IsSoundWorld shape world) (told : SessionsAreTold shape world) (txn : TxnId) (of : IsOfSession txn) (past : IsPast world txn) where
  abbrev view : SessionView
  view = view_of shape.nodes world txn.session

  holds : Holds txn.session view (length (told_session txn.session world.front.transcript).ended)
  holds =
      let between = session_between txn of in
      let stage = sound.stages txn.session between.0 between.1 in
      stage_holds shape.nodes txn.session view (pending txn.session world.front.transcript) (told_session txn.session world.front.transcript) stage.0 stage.1
      ((told txn.session between.0 between.1).tells stage.0 stage.1)

  -- its session has begun it
  pub past_begun : txn.number ≤ (session_in world.front.sessions txn.session).begun
  past_begun = elim holds [
    | nothing_open none begun ↦ omega (arith, past, begun)
    | last_open entry one last begun ↦ omega (arith, past, begun)
  ]

  found_in : (entry : Entry) → Holds txn.session view (length (told_session txn.session world.front.transcript).ended) → entry_named txn view.entries ≡ Some entry → ⊥
  found_in entry (nothing_open none begun) found = let some : entry_named txn [] ≡ Some entry = ap (entry_named txn) (sym none) ∙ found in absurd cc
  found_in entry (last_open here one last begun) found =
      let same : txn ≡ last_begun txn.session view.session = named_same txn here entry (ap (entry_named txn) (sym one) ∙ found) ∙ last in
      let number : txn.number ≡ view.session.begun = ap (λ (t : TxnId). t.number) same in
      absurd (omega (arith, past, begun, number))

  -- its controller has it no more
  pub past_closed : (entry : Entry) → entry_in shape.nodes world txn ≡ Some entry → ⊥
  past_closed entry found = found_in entry holds (named-own txn (world.replicas (txn.session % shape.nodes)).control.transactions ∙ found)

  -- no command of it is on its way
  pub past_commanded : (v number : ℕ) (what : ClientCommand) (rest : List Content) → world.mail FRONT (txn.session % shape.nodes) ≡ Command v txn number what ∷ rest → ⊥
  past_commanded v number what rest waits =
      let between = session_between txn of in
      let stage = sound.stages txn.session between.0 between.1 in
      let is : IsCommandOf shape.nodes txn.session view (Command v txn number what) (filter (is_of_session txn.session) rest)
      = command_of_stage shape.nodes txn.session view stage.0 (Command v txn number what) (filter (is_of_session txn.session) rest) stage.1
      (ap (filter (is_of_session txn.session)) waits ∙ cond-true _ _ _ (eq-eqb txn.session txn.session refl)) in
      let tells = (told txn.session between.0 between.1).tells (asking is.current is.what is.entries) is.at in
      let begun = outstanding_begun (told_session txn.session world.front.transcript) view.session is.current is.what tells.1 in
      let same = is.same in
      let number : txn.number ≡ view.session.begun = ap (λ (t : TxnId). t.number) (ap txn_of same) in
      absurd (omega (arith, past, begun, number))
    where
      txn_of : Content → TxnId
      txn_of (Command w named n c) = named
      txn_of other = txn
