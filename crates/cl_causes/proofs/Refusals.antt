-- A participant refuses an operation: whoever it names holds a lock that conflicts, was fed an operation that asked for it, and has not ended.
use Rattle.std.proofs.Common.{◌≡◌, ℕ, zero, suc, ◌-◌, ◌<◌, Bool, true, false, cond, ◌&&◌, inl, inr, List, [], ◌∷◌, Option, Some, None, All, refl, sym, ap, ◌∙◌, subst}
use Rattle.std.specs.List.{list_any, find}
use Rattle.std.proofs.lemmas.Bool.{true≢false, false≢true, and_parts, or_cases}
use Rattle.std.proofs.lemmas.List.Elements.{All-head, All-tail}
use Rattle.cl_commit.specs.Life.{IsWholePart}
use Rattle.cl_ledger.specs.Ledgers.{IsLedgerOf}
use Rattle.cl_locks.specs.Grants.{Grant, is_in_conflict, first_conflict}
use Rattle.cl_log.specs.LogEntry.{LogEntry}
use Rattle.cl_log.specs.Locks.{locks_of_log}
use Rattle.cl_log.specs.Open.{is_open}
use Rattle.cl_order.specs.Ledger.{Ledger, lock_at}
use Rattle.cl_order.specs.Operations.{mode_of, is_held}
use Rattle.cl_order.proofs.Readings.{holders_asked}
use Rattle.cl_part.specs.Calls.{refusing, answer_by, answer_to}
use Rattle.cl_part.specs.State.{State}
use Rattle.cl_runs.specs.World.{Shape}
use Rattle.cl_serial.specs.Causes.{Conflicts}
use Rattle.cl_serial.specs.Exchanges.{Exchange}
use Rattle.cl_serial.specs.PlainMap.{Operation}
use Rattle.cl_serial.specs.Serial.{StandsAt, IsIn}
use Rattle.cl_serial.specs.Transactions.{commands_of}
use Rattle.cl_served.specs.Served.{IsAsked, IsLedgerShown}
use Rattle.cl_system.specs.Firm.{FirmWorld}
use Rattle.cl_system.specs.Roles.{IsOfSession}
use Rattle.cl_types.proofs.Places.{same_place-true}
use Rattle.cl_types.proofs.Transactions.{same_txn-itself}
use Rattle.cl_types.specs.declared.answers.Reply.{Reply}
use Rattle.cl_types.specs.declared.operations.Command.TheVariants.{Work}
use Rattle.cl_types.specs.declared.operations.Mode.{Mode}
use Rattle.cl_types.specs.declared.operations.Mode.TheVariants.{Shared, Exclusive}
use Rattle.cl_types.specs.declared.operations.Op.{Op}
use Rattle.cl_types.specs.declared.operations.TxnId.{TxnId}
use Rattle.cl_types.specs.Modes.{is_conflict}
use Rattle.cl_types.specs.Placement.{virtual_node_of}
use Rattle.cl_types.specs.Places.{Place, same_place}
use Rattle.cl_types.specs.Transactions.{same_txn}
use Rattle.cl_wire.specs.Message.{Answer}
use Rattle.cl_causes.proofs.Sessions.{line_of, lines_of}
use Rattle.cl_causes.proofs.Claims.{IsAskedAt, EndedQuietly, IsRefused, Says}
use Rattle.cl_causes.proofs.Grants.{AreOwn, Holds, refuser_holds}
use Rattle.cl_causes.proofs.Outstanding.{line_within}

-- two reads do not conflict
no_gets : (mode : Mode) → is_conflict (Some mode) (Some Shared) ≡ true → is_held (Some Shared) mode ≡ true → ⊥
no_gets Shared c h = false≢true c
no_gets Exclusive c h = false≢true h

conflicting : (op other : Op) (mode : Mode) → is_conflict (Some mode) (Some (mode_of op)) ≡ true → is_held (Some (mode_of other)) mode ≡ true → Conflicts op other
conflicting op other mode c h both =
    no_gets mode (ap (λ o. is_conflict (Some mode) (Some (mode_of o))) (sym both.0) ∙ c) (ap (λ o. is_held (Some (mode_of o)) mode) (sym both.1) ∙ h)

-- some operation passes the test
passing : (p : Operation → Bool) (list : List Operation) → list_any p list ≡ true → (operation : Operation) × IsIn list operation × (p operation ≡ true)
passing p [] h = absurd (false≢true h)
passing p (x ∷ list) h = elim (or_cases (p x) (list_any p list) h) [
  | inl here ↦ (x, (0, refl), here)
  | inr there ↦ (let more = passing p list there in (more.0, (suc more.1.0, more.1.1), more.2))
]

stands_line : (commands : List Exchange) (i : ℕ) (e : Exchange) → StandsAt commands i e → StandsAt (lines_of commands) i (line_of e)
stands_line [] i e h = absurd cc
stands_line (x ∷ commands) zero e h = let same : x ≡ e = cc in ap (λ y. Some (line_of y)) same
stands_line (x ∷ commands) (suc i) e h = stands_line commands i e h

found_all : (P : Grant → Type 0) (p : Grant → Bool) (grants : List Grant) (grant : Grant) → All P grants → find p grants ≡ Some grant → P grant
found_all P p [] grant all found = absurd (let e : ◌≡◌ {A = Option Grant} None (Some grant) = found in cc)
found_all P p (x ∷ grants) grant all found = by (λ there. found_all P p grants grant (All-tail P x grants all) there) (p x) found
  where
    by : (find p grants ≡ Some grant → P grant) → (b : Bool) → cond b (Some x) (find p grants) ≡ Some grant → P grant
    by more true here = let same : x ≡ grant = cc in subst P same (All-head P x grants all)
    by more false there = more there

module _ (shape : Shape) (state : FirmWorld) (ledger : Ledger) (is : IsLedgerOf shape state ledger)
    (shown : IsLedgerShown state.world.front.transcript ledger) (v : ℕ) (below : v < shape.nodes) (whole : IsWholePart (state.world.replicas v).part)
    (own : AreOwn (state.world.replicas v).part.grants) (txn : TxnId) (number : ℕ) (table key : List ℕ) (op : Op) (placed : v ≡ virtual_node_of key shape.nodes)
    (asked : IsAskedAt state.world.front.transcript txn (number - 1) table key op)
    (unended : (holder : TxnId) → IsOfSession holder → EndedQuietly state.world.front.transcript holder asked.line →
    is_open (state.world.replicas v).part.log holder ≡ true → ⊥) where
  abbrev part : State
  part = (state.world.replicas v).part

  abbrev place : Place
  place = (table, key)

  locked : (holder : TxnId) → Holds part.grants txn holder place (mode_of op) →
      (mode : Mode) × (lock_at ledger holder place ≡ Some mode) × (is_conflict (Some mode) (Some (mode_of op)) ≡ true)
  locked holder holds =
      let here : ledger.on place ≡ v = is.on place ∙ sym placed in
      let log : ledger.logs (ledger.on place) ≡ part.log = ap ledger.logs here ∙ is.logs v below in
      (holds.held, ap (λ (entries : List LogEntry). locks_of_log entries holder place) log ∙ (sym ((is.sound v below).locks holder place) ∙ holds.holds), holds.conflict)

  -- whose lock refuses the operation
  abbrev AreHeld : (TxnId → TxnId → Place → Op → ℕ → Type 0) → Type 0
  AreHeld Held = (holder : TxnId) → first_conflict part.grants txn place (mode_of op) ≡ Some holder → Held txn holder place op asked.line

  refused : (Held : TxnId → TxnId → Place → Op → ℕ → Type 0) → AreHeld Held → (holder : TxnId) → first_conflict part.grants txn place (mode_of op) ≡ Some holder →
      IsRefused Held state.world.front.transcript txn holder (number - 1)
  refused Held held holder refuses =
      let holds : Holds part.grants txn holder place (mode_of op) = refuser_holds part.grants txn holder place (mode_of op) own refuses in
      let lock = locked holder holds in
      let asks = passing (λ operation. same_place operation.place place && is_held (Some (mode_of operation.op)) lock.0) (ledger.done holder) (holders_asked ledger holder place lock.0 is.ordered lock.1) in
      let parts : (same_place asks.0.place place ≡ true) × (is_held (Some (mode_of asks.0.op)) lock.0 ≡ true) = and_parts _ _ asks.2 in
      let there : asks.0.place ≡ place = same_place-true asks.0.place place parts.0 in
      let fed : IsAsked state.world.front.transcript holder asks.0 = shown.asked holder asks.0 holds.session asks.1 in
      let command : fed.exchange.command ≡ Work table key asks.0.op = fed.asks ∙ ap (λ (p : Place). Work p.0 p.1 asks.0.op) there in
      record {
        another = λ same. true≢false (sym (ap (same_txn txn) same ∙ same_txn-itself txn) ∙ holds.another);
        table = table;
        key = key;
        op = op;
        asked = asked;
        held = held holder refuses;
        asks = record {
          session = holds.session;
          other = asks.0.op;
          line = fed.exchange.line;
          asks = (
            fed.is_in.0,
            stands_line (commands_of state.world.front.transcript holder) fed.is_in.0 fed.exchange fed.is_in.1
                ∙ ap (λ c. Some (c, fed.exchange.line)) command,
          );
          conflicts = conflicting op asks.0.op lock.0 lock.2 parts.1;
          earlier = line_within state.world.front.transcript holder fed.exchange fed.is_in;
        };
        unended = λ ended. unended holder holds.session ended (subst (λ t. is_open part.log t ≡ true) holds.of (found_all (λ grant. is_open part.log grant.txn ≡ true) (is_in_conflict txn place (mode_of op)) part.grants holds.grant whole.held holds.found));
      }

  pub answer_says : (Short : TxnId → Type 0) (Held : TxnId → TxnId → Place → Op → ℕ → Type 0) → AreHeld Held →
      Says Short Held state.world.front.transcript (Answer v txn number (answer_to part txn place op))
  unfolding answer_to
  answer_says Short Held held = by (refusing part txn place op) refl _
    where
      by : (refuser : Option TxnId) → first_conflict part.grants txn place (mode_of op) ≡ refuser → (reply : Reply) →
          Says Short Held state.world.front.transcript (Answer v txn number (answer_by refuser reply))
      by None free reply = tt
      by (Some holder) refuses reply = refused Held held holder refuses
