-- The guarantee over every run of the cluster, by the firm run that it is.
use Rattle.std.proofs.Common.{◌≡◌, ℕ, ◌<◌, ◌≤◌, true, false, List, [], ◌∷◌, ◌++◌, length, Option, sym, ap, ◌∙◌, subst, subst₂}
use Rattle.std.specs.Option.{unwrap_or}
use Rattle.cl_causes.specs.Causes as causes
use Rattle.cl_causes.specs.Causes.{IsAskOf, IsTrueCause}
use Rattle.cl_causes.specs.Held as lock
use Rattle.cl_causes.specs.Laws.{FirmRunsNameTrueCauses}
use Rattle.cl_causes.specs.Short as short
use Rattle.cl_guarantee.specs.Causes.{WasHeld, WasShort}
use Rattle.cl_guarantee.specs.Laws.{RunsAreSerializable, ReplicasAgree, RunsNameTrueCauses, LinesAreFed, RestAnswersAll, HistoriesGoOn, LogsGoOn}
use Rattle.cl_guarantee.specs.Laws.{RunsKeepBrokenOut, RunsReplayUnbroken}
use Rattle.cl_locks.specs.Grants.{first_conflict}
use Rattle.cl_log.specs.LogEntry.{LogEntry}
use Rattle.cl_log.specs.Open.{is_among}
use Rattle.cl_members.specs.Laws.{RunsAreFirmRuns, EventsGoOn, RunsAreQuiet, MarksAreOfRuns}
use Rattle.cl_members.specs.Events.{firm_events_of}
use Rattle.cl_members.specs.Members.{transcript_after, history_after, IsReplicaAfter}
use Rattle.cl_order.specs.Operations.{mode_of}
use Rattle.cl_part.specs.State.{State}
use Rattle.cl_roster.specs.Roster.{IsClusterSize}
use Rattle.cl_runs.specs.World.{Cores, Shape, Run, handle, EachMayHappen, IsEnabledWidely, after_event, first_world, IsWideRun}
use Rattle.cl_runs.proofs.Runs.{runs_are_wide}
use Rattle.cl_serial.specs.Exchanges.{Exchange}
use Rattle.cl_serial.specs.PlainMap.{RepliesAgree}
use Rattle.cl_serial.specs.Serial.{Serializable, EveryLineAnswered, values_after}
use Rattle.cl_serial.specs.Transcript.{TranscriptEntry, fed_lines}
use Rattle.cl_served.specs.Laws.{FirmRunsAreSerializable}
use Rattle.cl_shown.specs.Done.{done_of}
use Rattle.cl_settled.specs.Laws as settled
use Rattle.cl_settled.specs.Settled.{HasBroken, AgreesWithHistory}
use Rattle.cl_shown.specs.Laws.{transcript_of_firm, FirmLinesAreFed, FirmRestAnswersAll}
use Rattle.cl_system.specs.Firm.{firm_world_after, IsFirmRun}
use Rattle.cl_system.specs.System.{Core, system}
use Rattle.cl_types.specs.declared.answers.AbortCause.{AbortCause}
use Rattle.cl_types.specs.declared.answers.AbortCause.TheVariants.{Conflict, Node, Client, Memory}
use Rattle.cl_types.specs.declared.operations.Op.{Op}
use Rattle.cl_types.specs.declared.operations.TxnId.{TxnId}
use Rattle.cl_types.proofs.PlacementLaws.{virtual_node_of-below}
use Rattle.cl_types.specs.Places.{Place}
use Rattle.cl_vnode.specs.Replica.{ReplicaState}
use Rattle.cl_wire.specs.Message.{Ask}

-- ---- first parts of a run

each_before : {W E : Type 0} (May : W → E → Type 0) (next : W → E → W) (xs ys : List E) (state : W) → EachMayHappen May next (xs ++ ys) state → EachMayHappen May next xs state
each_before May next [] ys state may = tt
each_before May next (event ∷ xs) ys state may = (may.0, each_before May next xs ys (next state event) may.1)

-- a run that a longer wide run begins with is wide
wide_before : (cores : Cores Core) (shape : Shape) (run more : Run) → IsWideRun cores shape (run ++ more) → IsWideRun cores shape run
unfolding IsWideRun
wide_before cores shape run more wide = each_before (λ world event. IsEnabledWidely shape world event.0) (after_event cores) run more (first_world cores shape) wide

-- causes are true by any other account of where memory was short and whose lock refused what, that says as much
module _ (transcript : List TranscriptEntry) (Short Other : TxnId → ℕ → Type 0) (Held Kept : TxnId → TxnId → Place → Op → ℕ → ℕ → Type 0)
    (says : (name : TxnId) (replied : ℕ) → Short name replied → Other name replied)
    (holds : (name holder : TxnId) (place : Place) (op : Op) (line replied : ℕ) → Held name holder place op line replied → Kept name holder place op line replied) where
  cause_by : (name : TxnId) (asked : Exchange) (replied : ℕ) (cause : AbortCause) → IsTrueCause transcript Short Held name asked replied cause →
      IsTrueCause transcript Other Kept name asked replied cause
  cause_by name asked replied (Conflict holder) is = record {
    another = is.another;
    table = is.table;
    key = is.key;
    op = is.op;
    operates = is.operates;
    held = holds name holder (is.table, is.key) is.op asked.line replied is.held;
    conflicting = is.conflicting;
    unended = is.unended;
  }
  cause_by name asked replied (Node node) is = is
  cause_by name asked replied Client is = is
  cause_by name asked replied Memory is = (is.0, says name replied is.1)

  true_by : causes.TrueCauses transcript Short Held → causes.TrueCauses transcript Other Kept
  true_by are session position cause stands =
      let (number, asked, within, answered, is) = are session position cause stands in
      (number, asked, within, answered, cause_by (record { session = session; number = number }) asked position cause is)

-- ---- the transcript and the history

module _ (firm : RunsAreFirmRuns) where
  pub runs_are_serializable : FirmRunsAreSerializable → RunsAreSerializable
  runs_are_serializable law shape run size wide =
      let is = firm shape run size wide in
      subst₂ Serializable (sym is.transcript) (sym is.history) (law shape (firm_events_of shape run) size is.firm)

  pub lines_are_fed : FirmLinesAreFed → LinesAreFed
  lines_are_fed law shape run size wide =
      let is = firm shape run size wide in
      ap fed_lines is.transcript ∙ law shape (firm_events_of shape run) size is.firm ∙ is.fed

  pub rest_answers_all : FirmRestAnswersAll → RestAnswersAll
  rest_answers_all law shape run size wide rests =
      let is = firm shape run size wide in
      subst EveryLineAnswered (sym is.transcript) (law shape (firm_events_of shape run) size is.firm (is.rests rests))

  -- ---- replicas

  -- the replica of a virtual node is the one that has its part
  part_is : (shape : Shape) (run : Run) (size : IsClusterSize shape.nodes shape.spares) (wide : IsWideRun (system shape.nodes) shape run) (v : ℕ) (replica : ReplicaState) →
      IsReplicaAfter shape run v replica → replica.part ≡ ((firm_world_after shape (firm_events_of shape run)).world.replicas v).part
  part_is shape run size wide v replica after =
      let part = (firm shape run size wide).parts v after.below in
      ap (λ (one : Option ReplicaState). (unwrap_or one replica).part) (sym after.has ∙ part.after.has) ∙ part.same

  pub replicas_agree : settled.ReplicasAgree → ReplicasAgree
  replicas_agree law shape run size wide v replica after =
      let is = firm shape run size wide in
      let agrees = law shape (firm_events_of shape run) size is.firm v after.below in
      subst (λ (part : State). AgreesWithHistory (transcript_after shape run) (history_after shape run) shape.nodes v part) (sym (part_is shape run size wide v replica after))
      (subst₂ (λ transcript history. AgreesWithHistory transcript history shape.nodes v ((firm_world_after shape (firm_events_of shape run)).world.replicas v).part)
      (sym is.transcript) (sym is.history) agrees)

  -- ---- longer runs

  module _ (goes_on : EventsGoOn) where
    -- the events of a longer run are those of the run and some more, and a firm run
    longer_firm : (shape : Shape) (run more : Run) → IsClusterSize shape.nodes shape.spares → IsWideRun (system shape.nodes) shape (run ++ more) →
        IsFirmRun shape (firm_events_of shape run ++ (goes_on shape run more).0)
    longer_firm shape run more size wide = subst (IsFirmRun shape) (goes_on shape run more).1 (firm shape (run ++ more) size wide).firm

    pub histories_go_on : settled.HistoriesGoOn → HistoriesGoOn
    histories_go_on law shape run more size wide =
        let rest = law shape (firm_events_of shape run) (goes_on shape run more).0 size (longer_firm shape run more size wide) in (
          rest.0,
          (firm shape (run ++ more) size wide).history ∙ ap (settled.firm_after shape) (goes_on shape run more).1 ∙ rest.1
              ∙ ap (λ history. history ++ rest.0) (sym (firm shape run size (wide_before (system shape.nodes) shape run more wide)).history),
        )

    pub logs_go_on : settled.LogsGoOn → LogsGoOn
    logs_go_on law shape run more v before after size wide was now =
        let rest = law shape (firm_events_of shape run) (goes_on shape run more).0 v size (longer_firm shape run more size wide) was.below in (
          rest.0,
          ap (λ (part : State). part.log) (part_is shape (run ++ more) size wide v after now)
              ∙ ap (λ events. settled.log_after shape events v) (goes_on shape run more).1 ∙ rest.1
              ∙ ap (λ (log : List LogEntry). log ++ rest.0) (sym (ap (λ (part : State). part.log) (part_is shape run size (wide_before (system shape.nodes) shape run more wide) v before was))),
        )

  -- ---- transactions outside the history

  pub runs_replay_unbroken : settled.UnbrokenReplay → RunsReplayUnbroken
  runs_replay_unbroken law shape run size wide txn is =
      let one = firm shape run size wide in
      let outside : is_among txn (settled.firm_after shape (firm_events_of shape run)) ≡ false = subst (λ history. is_among txn history ≡ false) one.history is.outside in
      subst₂ (λ transcript history. RepliesAgree (values_after transcript history) (done_of transcript txn)) (sym one.transcript) (sym one.history)
      (law shape (firm_events_of shape run) size one.firm txn is.session outside
      (λ v below broken.
      let part = one.parts v below in
      is.unbroken v part.replica part.after (subst (λ (part : State). HasBroken part.log txn) (sym part.same) broken)))

  pub runs_keep_broken_out : EventsGoOn → settled.BrokenStayOut → RunsKeepBrokenOut
  runs_keep_broken_out goes_on law shape run more size wide txn is =
      let before = wide_before (system shape.nodes) shape run more wide in
      let one = firm shape run size before in
      let rest = goes_on shape run more in
      let outside : is_among txn (settled.firm_after shape (firm_events_of shape run)) ≡ false = subst (λ history. is_among txn history ≡ false) one.history is.outside in
      subst (λ history. is_among txn history ≡ false)
      (sym ((firm shape (run ++ more) size wide).history ∙ ap (settled.firm_after shape) rest.1))
      (law shape (firm_events_of shape run) rest.0 txn is.v size (subst (IsFirmRun shape) rest.1 (firm shape (run ++ more) size wide).firm) is.after.below is.session outside
      (subst (λ (part : State). HasBroken part.log txn) (part_is shape run size before is.v is.primary is.after) is.broken))

  -- ---- causes

  -- where memory was short in the firm run, it was so in the run
  short_in_run : MarksAreOfRuns → (shape : Shape) (run : Run) → IsClusterSize shape.nodes shape.spares → IsWideRun (system shape.nodes) shape run → (name : TxnId) (replied : ℕ) →
      short.WasShort shape (firm_events_of shape run) name replied → WasShort shape run name replied
  short_in_run marks shape run size wide name replied h =
      let mark = marks shape run h.front h.back h.from h.to true size wide h.split in
      let same : mark.packet.content ≡ h.content = (let a = h.head in let b = mark.head in cc) in
      record {
        front = mark.before;
        back = mark.after;
        actor = h.to;
        id = mark.id;
        packet = mark.packet;
        split = mark.split;
        handles = mark.handles;
        asks = subst (IsAskOf name) (sym same) h.asks;
        before = subst (λ n. n ≤ replied) (sym mark.written) h.before;
      }

  -- whose lock refused an operation in the firm run, did so in the run
  held_in_run : MarksAreOfRuns → (shape : Shape) (run : Run) → IsClusterSize shape.nodes shape.spares → IsWideRun (system shape.nodes) shape run →
      (name holder : TxnId) (place : Place) (op : Op) (line replied : ℕ) → lock.WasHeld shape (firm_events_of shape run) name holder place op line replied →
      WasHeld shape run name holder place op line replied
  held_in_run marks shape run size wide name holder place op line replied h =
      let mark = marks shape run h.front h.back h.from h.v false size wide h.split in
      let same : mark.packet.content ≡ Ask h.v name h.number place.0 place.1 op = (let a = h.head in let b = mark.head in cc) in
      let before : IsWideRun (system shape.nodes) shape mark.before
      = wide_before (system shape.nodes) shape mark.before ((handle h.v mark.id, false) ∷ mark.after)
      (subst (λ (all : Run). IsWideRun (system shape.nodes) shape all) mark.split wide) in
      let is = firm shape mark.before size before in
      let part = is.parts h.v (subst (λ v. v < shape.nodes) (sym h.stands) (virtual_node_of-below place.1 shape.nodes size.counted)) in
      record {
        front = mark.before;
        back = mark.after;
        v = h.v;
        id = mark.id;
        packet = mark.packet;
        number = h.number;
        primary = part.replica;
        stands = h.stands;
        split = mark.split;
        handles = mark.handles;
        asks = same;
        read = subst (λ (transcript : List TranscriptEntry). line < length transcript)
            (ap (transcript_of_firm shape) (sym mark.events) ∙ sym is.transcript) h.read;
        at_primary = part.after;
        refuses = ap (λ (state : State). first_conflict state.grants name place (mode_of op))
            (part.same ∙ ap (λ events. ((firm_world_after shape events).world.replicas h.v).part) mark.events) ∙ h.refuses;
        before = subst (λ n. n ≤ replied) (sym mark.written) h.before;
      }

  pub runs_name_true_causes : RunsAreQuiet → MarksAreOfRuns → FirmRunsNameTrueCauses → RunsNameTrueCauses
  runs_name_true_causes quiet marks law shape run size is_run =
      let wide = runs_are_wide (system shape.nodes) shape run is_run in
      let is = firm shape run size wide in
      subst (λ (transcript : List TranscriptEntry). causes.TrueCauses transcript (WasShort shape run) (WasHeld shape run)) (sym is.transcript)
      (true_by (transcript_of_firm shape (firm_events_of shape run)) (short.WasShort shape (firm_events_of shape run)) (WasShort shape run)
      (lock.WasHeld shape (firm_events_of shape run)) (WasHeld shape run) (short_in_run marks shape run size wide) (held_in_run marks shape run size wide)
      (law shape (firm_events_of shape run) size is.firm (quiet shape run size is_run)))
