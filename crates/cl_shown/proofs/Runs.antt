-- The laws: of any transcript, and of every firm run, by induction over its events.
use Rattle.std.proofs.Common.{◌≡◌, List, [], ◌∷◌, ◌++◌, length, map, take, drop, sym, ap, ◌∙◌, append_assoc}
use Rattle.std.specs.List.{fold, flat_map}
use Rattle.std.proofs.lemmas.List.{append-nil}
use Rattle.std.proofs.lemmas.List.Sums.{fold-append}
use Rattle.cl_exchange.proofs.Firm.{firm_runs_keep}
use Rattle.cl_exchange.specs.Laws.{IsSoundWorld}
use Rattle.cl_roster.specs.Roster.{IsClusterSize}
use Rattle.cl_runs.specs.World.{Shape}
use Rattle.cl_serial.specs.Exchanges.{unanswered, exchanges}
use Rattle.cl_serial.specs.Transactions.{session_step, session_after, new_session}
use Rattle.cl_serial.specs.Transcript.{gather, fed_lines, questions, answers}
use Rattle.cl_shown.proofs.Answered.{in_turn_are}
use Rattle.cl_shown.proofs.Entries.{IsWell, well_none, well_shown}
use Rattle.cl_shown.proofs.Events.{event_feeds, event_well}
use Rattle.cl_shown.proofs.Rests.{rest_answers}
use Rattle.cl_shown.specs.Laws.{SessionHasOutstanding, FirmRunsAreWellShown, lines_of_firm, FirmLinesAreFed, FirmRestAnswersAll}
use Rattle.cl_system.specs.Firm.{FirmWorld, FirmEvent, happens, reorder, join, MayFirm, after_firm_event, first_firm_world, firm_world_after, IsFirmRun}
use Rattle.cl_told.proofs.Events.{told_at_first}
use Rattle.cl_told.proofs.Runs.{firm_event_told}
use Rattle.cl_told.specs.Told.{SessionsAreTold}

-- ---- any transcript

pub session_has_outstanding : SessionHasOutstanding
session_has_outstanding s transcript few =
    ap session_after (in_turn_are (questions s transcript) (answers s transcript) few)
    ∙ fold-append session_step new_session (take (length (answers s transcript)) (exchanges s transcript))
    (map unanswered (take 1 (drop (length (answers s transcript)) (questions s transcript))))

-- ---- every firm run

-- what holds between two events, beside that all is sound
record AreAllWell (shape : Shape) (state : FirmWorld) : Type 0 where
  told : SessionsAreTold shape state.world
  well : IsWell state.world.front.transcript

module _ (shape : Shape) (size : IsClusterSize shape.nodes shape.spares) where
  -- an event that may happen leaves the transcript well shown
  firm_event_well : (state : FirmWorld) (event : FirmEvent) → IsSoundWorld shape state.world → AreAllWell shape state → MayFirm state event →
      IsWell (after_firm_event shape state event).world.front.transcript
  unfolding after_firm_event
  firm_event_well state (happens event) sound all may = event_well shape size.counted state.world sound all.told all.well event may.0
  firm_event_well state (reorder mail) sound all may = all.well
  firm_event_well state (join txn) sound all may = all.well

  -- after a firm run all is sound, told and well shown
  all_well : (events : List FirmEvent) → IsFirmRun shape events →
      IsSoundWorld shape (firm_world_after shape events).world × AreAllWell shape (firm_world_after shape events)
  all_well events may = firm_runs_keep shape size (AreAllWell shape)
      (λ state event sound all here. record {
        told = firm_event_told shape size state event sound all.told here;
        well = firm_event_well state event sound all here;
      })
      (record { told = told_at_first shape size; well = well_none }) events may

pub firm_runs_are_well_shown : FirmRunsAreWellShown
firm_runs_are_well_shown shape events size may = well_shown (firm_world_after shape events).world.front.transcript (all_well shape size events may).1.well

-- an event feeds its line
firm_event_feeds : (shape : Shape) (state : FirmWorld) (event : FirmEvent) →
    fed_lines (after_firm_event shape state event).world.front.transcript ≡ fed_lines state.world.front.transcript ++ lines_of_firm event
unfolding after_firm_event
firm_event_feeds shape state (happens event) = event_feeds shape state.world event
firm_event_feeds shape state (reorder mail) = sym (append-nil (fed_lines state.world.front.transcript))
firm_event_feeds shape state (join txn) = sym (append-nil (fed_lines state.world.front.transcript))

-- the lines of the events come to the transcript
feeds_fold : (shape : Shape) (events : List FirmEvent) (state : FirmWorld) →
    fed_lines (fold (after_firm_event shape) state events).world.front.transcript ≡ fed_lines state.world.front.transcript ++ flat_map lines_of_firm events
feeds_fold shape [] state = sym (append-nil (fed_lines state.world.front.transcript))
feeds_fold shape (event ∷ events) state =
    feeds_fold shape events (after_firm_event shape state event)
    ∙ (ap (λ list. list ++ flat_map lines_of_firm events) (firm_event_feeds shape state event)
    ∙ append_assoc (fed_lines state.world.front.transcript) (lines_of_firm event) (flat_map lines_of_firm events))

pub firm_lines_are_fed : FirmLinesAreFed
unfolding firm_world_after gather
firm_lines_are_fed shape events size may = feeds_fold shape events (first_firm_world shape)

pub firm_rest_answers_all : FirmRestAnswersAll
firm_rest_answers_all shape events size may rest =
    let all = all_well shape size events may in
    rest_answers shape (firm_world_after shape events).world all.0 all.1.told rest all.1.well
