-- Few transactions become firm in one event: at most one, where a standby takes a decision.
use Rattle.std.proofs.Common.{◌≡◌, ℕ, ◌≤◌, Bool, true, false, eqb, List, [], ◌∷◌, ◌++◌, length, fold, Option, Some, None, Result, Ok, Err, refl, sym, ◌∙◌, ap, subst, arith}
use Rattle.std.proofs.lemmas.Bool.{cond_both}
use Rattle.cl_actor.specs.Core.{CoreStep}
use Rattle.cl_cluster.specs.Alike.{pair_events_of, pairs_after}
use Rattle.cl_control.specs.declared.acts.Act.{Act}
use Rattle.cl_control.specs.declared.acts.Act.TheVariants as acts
use Rattle.cl_control.specs.Calls.{command_acts, after_command, answer_acts, after_answer, vote_acts, after_vote, safe_acts, after_safe}
use Rattle.cl_control.specs.State.{ControlState}
use Rattle.cl_front.specs.Front.{FrontState, delivered_front, fed_front, fed_as, with_entries}
use Rattle.cl_front.specs.Sessions.{is_awaited}
use Rattle.cl_lines.specs.Line.{line_of}
use Rattle.cl_lines.specs.declared.line.Line.{Line}
use Rattle.cl_lines.specs.declared.line.Line.TheVariants.{Client, Operator}
use Rattle.cl_lines.specs.declared.line.LineFault.{LineFault}
use Rattle.cl_lines.specs.declared.out.Out.{Out}
use Rattle.cl_log.specs.declared.records.LogRec.{LogRec}
use Rattle.cl_log.specs.declared.records.LogRec.TheVariants as records
use Rattle.cl_log.specs.LogEntry.{LogEntry}
use Rattle.cl_log.specs.Open.{is_open}
use Rattle.cl_node.specs.Members.{standby_node}
use Rattle.cl_pairs.proofs.Streams.{streams_after}
use Rattle.cl_pairs.specs.Pairs.{PairWorld, logged_at}
use Rattle.cl_ranges.proofs.Together.{together_after}
use Rattle.cl_ranges.proofs.Steps.{node_step, first_step, event_step, same_step}
use Rattle.cl_ranges.specs.Laws.{FewBecomeFirm}
use Rattle.cl_ranges.specs.declared.limits.TheConstants.{FIRM_MAX}
use Rattle.cl_repair.specs.declared.mode.Mode.TheVariants.{Pair}
use Rattle.cl_runs.proofs.Runs.{watching_leaves_world}
use Rattle.cl_runs.specs.Queues.{QueueEvent, deliver, take_line, core_step, Watched, watched_after, queue_event_of}
use Rattle.cl_runs.specs.World.{Shape, World, IsEnabledWidely}
use Rattle.cl_serial.specs.Transcript.{fed}
use Rattle.cl_steps.specs.Steps.{Step}
use Rattle.cl_steps.specs.declared.actors.TheConstants.{FRONT}
use Rattle.cl_system.specs.Replicas.{own_primary, nothing_noted}
use Rattle.cl_system.specs.System.{Core, system}
use Rattle.cl_types.specs.declared.operations.TxnId.{TxnId}
use Rattle.cl_vnode.specs.Replica.{ReplicaState, safe_number}
use Rattle.cl_vnode.specs.Standby.{firm_of, standby_stepped}
use Rattle.cl_vnode.specs.Step.{Stepped, started, with_part, with_control, firm_at_once, decided, performed, all_performed, commanded, answered, voted, asked, prepared, after_finish, finished, taken, told, entry_told, entries_between, all_told, stepped}
use Rattle.cl_wire.specs.Message.{Content, Command, Outcome, Ask, Answer, Prepare, Vote, Finish, Decision, Log, LogAck}

-- the step makes few transactions firm
abbrev IsFew : Step → Type 0
IsFew step = length step.firm ≤ FIRM_MAX

-- ---- a primary with a standby makes none firm

-- none is firm by a step of a primary whose standby is at this node, and it has this standby still
record MakesNone (standby : ℕ) (done : Stepped) : Type 0 where
  mode : done.state.modes.mode ≡ Pair standby
  firm : done.step.firm ≡ []

module _ (standby : ℕ) (primary : ℕ → ℕ) where
  -- a Decide
  decided_none : (done : Stepped) (txn : TxnId) → MakesNone standby done → MakesNone standby (decided done txn)
  unfolding decided
  decided_none done txn is = record {
    mode = is.mode;
    firm = ap (λ firm. firm ++ firm_at_once done.state.modes.mode txn) is.firm ∙ ap (λ mode. firm_at_once mode txn) is.mode;
  }

  -- an act
  performed_none : (done : Stepped) (act : Act) → MakesNone standby done → MakesNone standby (performed primary done act)
  unfolding performed
  performed_none done (acts.Decide txn) is = decided_none done txn is
  performed_none done (acts.Ask v txn number table key op) is = record { mode = is.mode; firm = is.firm }
  performed_none done (acts.Prepare v txn) is = record { mode = is.mode; firm = is.firm }
  performed_none done (acts.Finish v txn commit) is = record { mode = is.mode; firm = is.firm }
  performed_none done (acts.Say txn number outcome) is = record { mode = is.mode; firm = is.firm }

  -- acts
  all_none : (done : Stepped) (list : List Act) → MakesNone standby done → MakesNone standby (all_performed primary done list)
  all_none done [] is = is
  all_none done (act ∷ list) is = all_none (performed primary done act) list (performed_none done act is)

  -- acts, once the controller has changed
  controlled_none : (done : Stepped) (control : ControlState) (list : List Act) → MakesNone standby done →
      MakesNone standby (all_performed primary (with_control done control) list)
  controlled_none done control list is = all_none (with_control done control) list (record { mode = is.mode; firm = is.firm })

  -- a record that is told
  told_none : (done : Stepped) (number : ℕ) (content : LogRec) → MakesNone standby done → MakesNone standby (told primary done number content)
  unfolding told
  told_none done number (records.Decide txn) is =
      controlled_none done (after_safe done.state.control number) (safe_acts done.state.control number) is
  told_none done number (records.Prepared txn) is = record { mode = is.mode; firm = is.firm }
  told_none done number content is = is

  -- entries that are
  entries_none : (done : Stepped) (entries : List LogEntry) → MakesNone standby done → MakesNone standby (fold (entry_told primary) done entries)
  entries_none done [] is = is
  entries_none done (entry ∷ entries) is = entries_none (entry_told primary done entry) entries (told_none done entry.number entry.content is)

  module _ (state : ReplicaState) (paired : state.modes.mode ≡ Pair standby) where
    -- before the step
    start_none : MakesNone standby (started state)
    start_none = record { mode = paired; firm = refl }

    -- an end
    finished_none : (txn : TxnId) (commit : Bool) → MakesNone standby (finished (started state) txn commit)
    unfolding finished
    finished_none txn commit =
        cond_both (is_open state.part.log txn) (with_part (started state) (after_finish state.part txn commit)) (started state) (MakesNone standby)
        (λ is. record { mode = paired; firm = refl }) (λ none. start_none)

    -- a message that is taken
    taken_none : (from : ℕ) (content : Content) (mark : Bool) → MakesNone standby (taken primary (started state) from content mark)
    unfolding commanded answered voted asked prepared
    taken_none from (Command v txn number what) mark =
        controlled_none (started state) (after_command state.control txn number what) (command_acts state.control txn number what) start_none
    taken_none from (Answer v txn number answer) mark =
        controlled_none (started state) (after_answer state.control v txn number answer) (answer_acts state.control v txn number answer) start_none
    taken_none from (Vote v txn) mark = controlled_none (started state) (after_vote state.control v txn) (vote_acts state.control v txn) start_none
    taken_none from (Ask v txn number table key op) true = record { mode = paired; firm = refl }
    taken_none from (Ask v txn number table key op) false = record { mode = paired; firm = refl }
    taken_none from (Prepare v txn) mark = record { mode = paired; firm = refl }
    taken_none from (Finish v txn commit) mark = finished_none txn commit
    taken_none from (Decision v txn commit) mark = finished_none txn commit
    taken_none from (LogAck v number) mark = record { mode = paired; firm = refl }
    taken_none from content mark = start_none

    -- a step
    stepped_none : (from : ℕ) (content : Content) (mark : Bool) → (stepped primary state from content mark).step.firm ≡ []
    unfolding all_told
    stepped_none from content mark =
        let done : Stepped = taken primary (started state) from content mark in
        (entries_none done (entries_between (safe_number state) (safe_number done.state) done.state.part.log) (taken_none from content mark)).firm

-- ---- a standby makes one firm at most

-- a step of a standby
standby_few : (state : ReplicaState) (from : ℕ) (content : Content) → IsFew (standby_stepped state from content).step
standby_few state from (Log v number entry) = record_few entry
  where
    record_few : (entry : LogRec) → length (firm_of entry) ≤ FIRM_MAX
    record_few (records.Decide txn) = omega arith
    record_few entry = omega arith
standby_few state from content = omega arith

module _ (shape : Shape) where
  -- the front makes none firm
  message_few : (state : FrontState) (from : ℕ) (content : Content) (mark : Bool) → IsFew (delivered_front (nothing_noted shape) state from content mark).step
  message_few state from (Outcome txn number outcome) mark =
      cond_both (is_awaited state.sessions txn number) _ _ (λ (stepped : CoreStep FrontState). IsFew stepped.step) (λ awaited. omega arith)
      (λ none. omega arith)
  message_few state from content mark = omega arith

  -- nor by a line
  line_few : (state : FrontState) (line : ℕ) (text : List ℕ) (said : List Out) → IsFew (fed_front (nothing_noted shape) state line text said).step
  unfolding fed_front
  line_few state line text said = read_few (line_of text)
    where
      read_few : (read : Result Line LineFault) → IsFew (fed_as (nothing_noted shape) (with_entries state (fed line text ∷ [])) line read).step
      read_few (Ok (Client s command)) = omega arith
      read_few (Ok (Operator order)) = omega arith
      read_few (Err fault) = omega arith

  module _ (pairs : PairWorld) (standby : ℕ → ℕ) (paired : (v : ℕ) → (pairs.primaries v).modes.mode ≡ Pair (standby v)) where
    -- a node makes few firm
    node_few : (from to : ℕ) (content : Content) (mark : Bool) (log : Option ℕ) → IsFew (node_step pairs from to content mark log)
    node_few from to content mark (Some v) = standby_few (pairs.standbys v) from content
    node_few from to content mark None =
        subst (λ (firm : List TxnId). length firm ≤ FIRM_MAX) (sym (stepped_none (standby to) own_primary (pairs.primaries to) (paired to) from content mark))
        (omega arith)

    -- the first message on its way
    first_few : (from to : ℕ) (mark : Bool) (contents : List Content) → IsFew (first_step shape pairs from to mark contents)
    first_few from to mark [] = omega arith
    first_few from to mark (content ∷ rest) =
        cond_both (eqb to FRONT) _ _ IsFew (λ here. message_few pairs.front from content mark) (λ elsewhere. node_few from to content mark (logged_at content))

    -- nor does any event make many firm
    event_few : (event : QueueEvent) → IsFew (event_step shape pairs event)
    event_few (deliver from to mark) = first_few from to mark (pairs.mail from to)
    event_few (take_line number text said) = line_few pairs.front number text said
    event_few other = omega arith

-- the law of runs
pub few_become_firm : FewBecomeFirm
few_become_firm shape run happening mark size wide =
    let watched : Watched Core = watched_after (system shape.nodes) shape run in
    let pairs : PairWorld = pairs_after shape run in
    subst (λ (world : World Core). IsEnabledWidely shape world happening → IsFew (core_step (system shape.nodes) world happening mark).step)
    (watching_leaves_world (system shape.nodes) shape run)
    (λ may. subst IsFew (sym (same_step shape size watched pairs (together_after shape run size wide) happening mark may))
    (event_few shape pairs (standby_node shape.nodes) (λ v. ((streams_after shape size.counted (pair_events_of shape run)).streams v).mode)
    (queue_event_of watched.world happening mark)))
