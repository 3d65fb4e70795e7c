-- The laws: what each replica has to do with the history of its firm run, and what stays.
use Rattle.std.proofs.Common.{◌≡◌, ℕ, ◌<◌, true, false, List, ◌++◌, All, sym, ◌∙◌, ap, subst, subst₂}
use Rattle.std.proofs.Math.Path.{fun_ext}
use Rattle.std.proofs.lemmas.Bool.{both_ways, false_from_ne_true}
use Rattle.std.proofs.lemmas.List.Elements.{All-weaker}
use Rattle.cl_types.specs.declared.operations.TxnId.{TxnId}
use Rattle.cl_types.specs.Places.{Place}
use Rattle.cl_types.proofs.PlacementLaws.{virtual_node_of-below}
use Rattle.cl_ledger.specs.Ledgers.{both_after, place_on, IsLedgerOf}
use Rattle.cl_log.specs.LogEntry.{LogEntry}
use Rattle.cl_log.specs.Lawful.{IsLawfulLog}
use Rattle.cl_log.specs.Locks.{locks_of_log}
use Rattle.cl_log.specs.Open.{has_ended, is_among}
use Rattle.cl_log.specs.Settled.{settled}
use Rattle.cl_log.proofs.Conflicts.{HasNoConflict-lawful}
use Rattle.cl_order.specs.Ledger.{Ledger, log_at, lock_at, values_of, IsWhole}
use Rattle.cl_order.specs.Operations.{mode_of, is_held}
use Rattle.cl_order.proofs.Readings.{history_replays, members_hold_locks, whole_replays}
use Rattle.cl_part.specs.State.{State}
use Rattle.cl_roster.specs.Roster.{IsClusterSize}
use Rattle.cl_runs.specs.World.{Shape}
use Rattle.cl_serial.specs.PlainMap.{Values, Operation, operations, RepliesAgree}
use Rattle.cl_serial.specs.Serial.{values_after}
use Rattle.cl_serial.specs.Transactions.{commands_of}
use Rattle.cl_serial.specs.Transcript.{TranscriptEntry}
use Rattle.cl_serial.proofs.Replayed.{RepliesAgree-front}
use Rattle.cl_served.specs.Laws.{LedgersAreShown}
use Rattle.cl_served.specs.Served.{IsLedgerShown}
use Rattle.cl_shown.specs.Done.{done_of}
use Rattle.cl_shown.specs.Laws.{transcript_of_firm}
use Rattle.cl_system.specs.Firm.{FirmEvent, firm_world_after, IsFirmRun}
use Rattle.cl_settled.specs.Laws.{log_after, ReplicasAgree, HistoriesGoOn, LogsGoOn, UnbrokenReplay, BrokenStayOut}
use Rattle.cl_settled.proofs.Breaking.{is_broken, is_aborted, broken_by, aborted_by, broken_entry}
use Rattle.cl_settled.proofs.Runs.{firm_before, run_ledger, run_goes_on}
use Rattle.cl_settled.proofs.Going.{IsSettling}
use Rattle.cl_settled.proofs.Turning.{IsLost}

-- the ledger of a firm run
abbrev ledger_of : Shape → List FirmEvent → Ledger
ledger_of shape events = (both_after shape events).ledger

-- it is that of the system
ledger_is : (shape : Shape) (events : List FirmEvent) → IsClusterSize shape.nodes shape.spares → IsFirmRun shape events →
    IsLedgerOf shape (firm_world_after shape events) (ledger_of shape events)
ledger_is shape events size firm = (run_ledger shape events size firm).0

-- and settles
ledger_settles : (shape : Shape) (events : List FirmEvent) → IsClusterSize shape.nodes shape.spares → IsFirmRun shape events →
    IsSettling shape.nodes (IsLost shape.nodes (firm_world_after shape events).world) (ledger_of shape events)
ledger_settles shape events size firm = (run_ledger shape events size firm).1

-- where the operation is on this virtual node, the transaction holds its lock in the log there until its End
abbrev HoldsUntilEnd : ℕ → ℕ → List LogEntry → TxnId → Operation → Type 0
HoldsUntilEnd nodes v log txn operation = place_on nodes operation.place ≡ v → has_ended log txn ≡ false →
    is_held (locks_of_log log txn operation.place) (mode_of operation.op) ≡ true

-- each replica has what the history says
pub replicas_agree : LedgersAreShown → ReplicasAgree
replicas_agree are_shown shape events size firm v below = record {
  settles = λ place here.
      subst₂ (λ (log : List LogEntry) history. settled log history place ≡ values_after transcript history place) (log_here place here) is.history
      ((history_replays ledger transcript is.ordered shown.members).1 place);
  store = (is.sound v below).store;
  locks = (is.sound v below).locks;
  apart = HasNoConflict-lawful ledger.history part.log (subst (IsLawfulLog ledger.history) log_is (is.ordered.lawful v));
  holds = λ txn member. holding txn (ap (is_among txn) is.history ∙ member);
  one_outcome = λ txn entry member is_in. false_from_ne_true _ (λ aborting.
      let aborted : is_aborted (ledger.logs v) txn ≡ true
      = ap (λ (log : List LogEntry). is_aborted log txn) log_is ∙ aborted_by part.log txn entry is_in aborting in
      both_ways _ ((ledger_settles shape events size firm).lost v below txn aborted).2 (is.decided txn member));
}
  where
    ledger : Ledger
    ledger = ledger_of shape events

    transcript : List TranscriptEntry
    transcript = transcript_of_firm shape events

    part : State
    part = ((firm_world_after shape events).world.replicas v).part

    is : IsLedgerOf shape (firm_world_after shape events) (ledger_of shape events)
    is = ledger_is shape events size firm

    shown : IsLedgerShown (transcript_of_firm shape events) (ledger_of shape events)
    shown = are_shown shape events size firm

    log_is : (ledger_of shape events).logs v ≡ log_after shape events v
    log_is = is.logs v below

    log_here : (place : Place) → place_on shape.nodes place ≡ v → log_at (ledger_of shape events) place ≡ log_after shape events v
    log_here place here = ap (ledger_of shape events).logs (is.on place ∙ here) ∙ log_is

    holding : (txn : TxnId) → is_among txn (ledger_of shape events).history ≡ true →
        All (HoldsUntilEnd shape.nodes v (log_after shape events v) txn) (operations (commands_of (transcript_of_firm shape events) txn))
    holding txn member =
        subst (All (HoldsUntilEnd shape.nodes v (log_after shape events v) txn)) (shown.members txn member)
        (All-weaker
        (λ (o : Operation). has_ended (log_at (ledger_of shape events) o.place) txn ≡ false →
        is_held (lock_at (ledger_of shape events) txn o.place) (mode_of o.op) ≡ true)
        (HoldsUntilEnd shape.nodes v (log_after shape events v) txn)
        (λ o held here. subst (λ (log : List LogEntry). has_ended log txn ≡ false → is_held (locks_of_log log txn o.place) (mode_of o.op) ≡ true)
        (log_here o.place here) held)
        ((ledger_of shape events).done txn) (members_hold_locks (ledger_of shape events) txn is.ordered member))

-- the operations of who is neither a member nor broken replay
pub unbroken_replay : LedgersAreShown → UnbrokenReplay
unbroken_replay are_shown shape events size firm txn own outside unbroken =
    let ledger : Ledger = ledger_of shape events in
    let transcript : List TranscriptEntry = transcript_of_firm shape events in
    let is : IsLedgerOf shape (firm_world_after shape events) ledger = ledger_is shape events size firm in
    let shown : IsLedgerShown transcript ledger = are_shown shape events size firm in
    let out : is_among txn ledger.history ≡ false = ap (is_among txn) is.history ∙ outside in
    let whole_at : (u : ℕ) → u < shape.nodes → is_broken (ledger.logs u) txn ≡ false = λ u below. false_from_ne_true _ (λ broken.
    unbroken u below (broken_entry (log_after shape events u) txn (ap (λ (log : List LogEntry). is_broken log txn) (sym (is.logs u below)) ∙ broken))) in
    let place_below : (place : Place) → ledger.on place < shape.nodes
    = λ place. subst (λ w. w < shape.nodes) (sym (is.on place)) (virtual_node_of-below place.1 shape.nodes size.counted) in
    let whole : IsWhole ledger txn = λ k d within. (ledger_settles shape events size firm).whole _ txn out (whole_at _ (place_below _)) in
    let replies : RepliesAgree (values_of ledger) (ledger.done txn) = whole_replays ledger txn is.ordered whole in
    let first = shown.shown txn own in
    let answered : RepliesAgree (values_of ledger) (done_of transcript txn)
    = RepliesAgree-front (values_of ledger) (done_of transcript txn) first.0 (subst (RepliesAgree (values_of ledger)) first.1 replies) in
    let same : values_of ledger ≡ values_after transcript ledger.history
    = fun_ext (λ place. sym (is.ordered.settles place) ∙ (history_replays ledger transcript is.ordered shown.members).1 place) in
    subst (λ (values : Values). RepliesAgree values (done_of transcript txn)) (same ∙ ap (values_after transcript) is.history) answered

-- the history goes on
pub histories_go_on : HistoriesGoOn
histories_go_on shape events more size firm =
    let before = ledger_is shape events size (firm_before shape events more firm) in
    let after = ledger_is shape (events ++ more) size firm in
    let goes = run_goes_on shape events more size firm in
    (goes.history.0, sym after.history ∙ goes.history.1 ∙ ap (λ names. names ++ goes.history.0) before.history)

-- each log goes on
pub logs_go_on : LogsGoOn
logs_go_on shape events more v size firm below =
    let before = ledger_is shape events size (firm_before shape events more firm) in
    let after = ledger_is shape (events ++ more) size firm in
    let goes = run_goes_on shape events more size firm in
    ((goes.logs v).0, sym (after.logs v below) ∙ (goes.logs v).1 ∙ ap (λ log. log ++ (goes.logs v).0) (before.logs v below))

-- whoever is broken stays outside
pub broken_stay_out : BrokenStayOut
broken_stay_out shape events more txn v size firm below own outside broken =
    let firm_first : IsFirmRun shape events = firm_before shape events more firm in
    let before = ledger_is shape events size firm_first in
    let after = ledger_is shape (events ++ more) size firm in
    let goes = run_goes_on shape events more size firm in
    let broken_there : is_broken ((ledger_of shape events).logs v) txn ≡ true
    = ap (λ (log : List LogEntry). is_broken log txn) (before.logs v below) ∙ broken_by (log_after shape events v) txn broken in
    let ended : has_ended ((ledger_of shape events).logs v) txn ≡ true = (ledger_settles shape events size firm_first).ended v below txn broken_there in
    ap (is_among txn) (sym after.history) ∙ goes.stays_out v txn below ended (ap (is_among txn) before.history ∙ outside)
