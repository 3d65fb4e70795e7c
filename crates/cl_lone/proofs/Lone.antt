-- A calm primary takes a message in one step, and is calm after it.
use Rattle.std.proofs.Common.{◌≡◌, ℕ, Bool, true, false, cond, ◌&&◌, List, [], ◌∷◌, ◌++◌, map, Option, option_map, refl, sym, ◌∙◌, ap, arith}
use Rattle.std.specs.Option.{option_map_or}
use Rattle.std.proofs.lemmas.Bool.{false≢true, true≢false, and_parts, cond-true, cond-false, cond_both}
use Rattle.std.proofs.lemmas.List.Elements.{All-nil}
use Rattle.cl_types.specs.declared.answers.AbortCause.TheVariants.{Client}
use Rattle.cl_types.specs.declared.answers.Outcome.TheVariants.{Aborted}
use Rattle.cl_types.specs.declared.operations.Command.{Command as ClientCommand}
use Rattle.cl_types.specs.declared.operations.Command.TheVariants.{Begin, Work, Commit, Abort}
use Rattle.cl_types.specs.declared.operations.Op.{Op}
use Rattle.cl_types.specs.declared.operations.TxnId.{TxnId}
use Rattle.cl_types.specs.Places.{Place}
use Rattle.cl_log.specs.declared.records.LogRec.TheVariants as records
use Rattle.cl_log.specs.Open.{is_open}
use Rattle.cl_control.specs.declared.acts.Act.{Act}
use Rattle.cl_control.specs.declared.acts.Act.TheVariants as acts
use Rattle.cl_control.specs.declared.entry.Phase.{Phase}
use Rattle.cl_control.specs.declared.entry.Phase.TheVariants.{Idle, Asked, Preparing, Decided, Logged}
use Rattle.cl_control.specs.Calls.{MayCommand, finishes, commit_acts, commit_phase, committing, command_acts, after_command, answer_acts, after_answer, is_preparing, counts_vote, is_last_vote, voted, decided as decided_phase, vote_acts, after_vote}
use Rattle.cl_control.specs.State.{Entry, ControlState, ascending, participants_of, with_phase, with_vote, is_unanimous, with_changed, without_entry}
use Rattle.cl_control.proofs.CallSoundness.{new_is_sound}
use Rattle.cl_control.proofs.Kept.{phase-found, voting-found, voted-name}
use Rattle.cl_part.specs.Calls.{after_op, after_prepare, after_decide}
use Rattle.cl_part.specs.State.{State}
use Rattle.cl_backup.specs.Decisions.{with_decision}
use Rattle.cl_repair.specs.declared.mode.Mode.{Mode}
use Rattle.cl_repair.specs.declared.mode.Mode.TheVariants.{Lone}
use Rattle.cl_repair.specs.Modes.{ModesState, acked_in, after_acked}
use Rattle.cl_wire.specs.Message.{Content, Command, Answer, Vote, Ask, Prepare, Finish, Decision, LogAck}
use Rattle.cl_vnode.specs.Inputs.{Fits, has_decide}
use Rattle.cl_vnode.specs.Replica.{ReplicaState, safe_number}
use Rattle.cl_vnode.specs.Step.{Stepped, started, with_message, with_part, with_control, with_modes, after_finish, all_performed, commanded, answered, voted as voted_in, asked, prepared, finished, taken, home_of, told, all_told, log_messages, entries_from, shipped}
use Rattle.cl_vnode.proofs.Controller.{AreSends-append, finishes_are_sends, answer_acts_are_sends}
use Rattle.cl_vnode.proofs.Performing.{no_decide}
use Rattle.cl_lone.specs.Calm.{IsCalm}
use Rattle.cl_lone.specs.Laws.{FirstIsCalm, CalmStepsAreLone, StepsStayCalm}
use Rattle.cl_lone.specs.Lone.{controlled, committed, command_in, command_of, lone_step}
use Rattle.cl_lone.proofs.Asking.{grown-op, grown-finish}
use Rattle.cl_lone.proofs.Controlling.{IsCalmControl, controlled_told, calm-without, calm-after_command, calm-after_answer, calm-after_vote}
use Rattle.cl_lone.proofs.Deciding.{decide_told}
use Rattle.cl_lone.proofs.Growing.{IsBelow, HasGrown, below-record, grown-none, none_told, one_told}

-- ---- a calm primary

part_of : (state : ReplicaState) → IsCalm state → IsBelow state.part
part_of state calm = record { below = calm.below; numbered = calm.numbered }

control_of : (state : ReplicaState) → IsCalm state → IsCalmControl state.control
control_of state calm = record { sound = calm.sound; none_waits = calm.none_waits; undecided = calm.undecided }

calm_with : (state : ReplicaState) (part : State) (control : ControlState) (decisions : List TxnId) → IsCalm state → IsBelow part → IsCalmControl control →
    IsCalm (record state { part = part; control = control; decisions = decisions })
calm_with state part control decisions calm below good = record {
  lone = calm.lone;
  sound = good.sound;
  none_waits = good.none_waits;
  undecided = good.undecided;
  below = below.below;
  numbered = below.numbered;
}

pub first_is_calm : FirstIsCalm
first_is_calm v nodes counted = record {
  lone = refl;
  sound = new_is_sound nodes counted;
  none_waits = refl;
  undecided = All-nil _;
  below = All-nil _;
  numbered = omega arith;
}

-- ---- a command

none_prepares : (txn : TxnId) (vs : List ℕ) → has_decide (map (λ v. acts.Prepare v txn) vs) ≡ false
none_prepares txn [] = refl
none_prepares txn (v ∷ vs) = none_prepares txn vs

none_aborts : (control : ControlState) (txn : TxnId) (number : ℕ) → has_decide (finishes control txn false ++ acts.Say txn number (Aborted Client) ∷ []) ≡ false
none_aborts control txn number =
    no_decide control.nodes (finishes control txn false ++ acts.Say txn number (Aborted Client) ∷ [])
    (AreSends-append control.nodes (finishes control txn false) (acts.Say txn number (Aborted Client) ∷ []) (finishes_are_sends control txn false) (tt, tt))

module _ (primary : ℕ → ℕ) (state : ReplicaState) (calm : IsCalm state) where
  -- what is told after the controller changed, and gave acts
  abbrev told_after : ControlState → List Act → Stepped
  told_after control list = all_told primary (safe_number state) (all_performed primary (with_control (started state) control) list)

  -- COMMIT where there is no participant
  commit_decides : (txn : TxnId) (number : ℕ) (vs : List ℕ) → participants_of state.control txn ≡ vs → MayCommand state.control txn Commit → has_decide (commit_acts state.control txn vs) ≡ true →
      told_after (with_changed state.control txn (committing number)) (commit_acts state.control txn vs) ≡ committed primary state txn number
  commit_decides txn number (v ∷ vs) are may decides =
      absurd (true≢false (sym decides ∙ none_prepares txn (ascending state.control.nodes (participants_of state.control txn))))
  commit_decides txn number [] are may decides =
      let found = phase-found state.control txn Idle may in
      let none : found.0.participants ≡ [] = sym (ap (λ (o : Option Entry). option_map_or (λ (x : Entry). x.participants) o []) found.1) ∙ are in
      decide_told primary state (part_of state calm) calm.lone (control_of state calm) txn number (committing number) (λ x. refl) found.0 found.1 refl
      (ap (commit_phase number) none)

  command_decides : (txn : TxnId) (number : ℕ) (what : ClientCommand) → MayCommand state.control txn what → has_decide (command_acts state.control txn number what) ≡ true →
      told_after (after_command state.control txn number what) (command_acts state.control txn number what) ≡ committed primary state txn number
  unfolding command_acts after_command
  command_decides txn number Begin may decides = absurd (false≢true decides)
  command_decides txn number (Work table key op) may decides = absurd (false≢true decides)
  command_decides txn number Commit may decides = commit_decides txn number (participants_of state.control txn) refl may decides
  command_decides txn number Abort may decides = absurd (true≢false (sym decides ∙ none_aborts state.control txn number))

  command_told : (txn : TxnId) (number : ℕ) (what : ClientCommand) → MayCommand state.control txn what →
      told_after (after_command state.control txn number what) (command_acts state.control txn number what)
      ≡ cond (has_decide (command_acts state.control txn number what)) (committed primary state txn number)
      (controlled primary state (after_command state.control txn number what) (command_acts state.control txn number what))
  command_told txn number what may =
      cond_both (has_decide (command_acts state.control txn number what)) (committed primary state txn number)
      (controlled primary state (after_command state.control txn number what) (command_acts state.control txn number what))
      (λ (done : Stepped). told_after (after_command state.control txn number what) (command_acts state.control txn number what) ≡ done)
      (command_decides txn number what may)
      (controlled_told primary state (after_command state.control txn number what) (command_acts state.control txn number what) (part_of state calm) calm.lone)

  calm_committed : (txn : TxnId) (number : ℕ) → IsCalm (committed primary state txn number).state
  unfolding after_decide
  calm_committed txn number =
      calm_with state (after_decide state.part txn) (without_entry state.control txn) (with_decision state.decisions txn) calm
      (below-record state.part (records.Decide txn) (part_of state calm))
      (calm-without state.control (control_of state calm) txn)

  calm_controlled : (control : ControlState) (list : List Act) → IsCalmControl control → IsCalm (controlled primary state control list).state
  calm_controlled control list good = calm_with state state.part control state.decisions calm (part_of state calm) good

  -- ---- a vote

  decided_from : (phase : Phase) → is_preparing phase ≡ true → decided_phase phase ≡ Decided (command_in phase)
  decided_from (Preparing number) is = refl
  decided_from Idle is = absurd (false≢true is)
  decided_from (Asked number v) is = absurd (false≢true is)
  decided_from (Decided number) is = absurd (false≢true is)
  decided_from (Logged number) is = absurd (false≢true is)

  -- the last vote
  vote_decides : (v : ℕ) (txn : TxnId) → counts_vote state.control v txn ≡ true → is_last_vote state.control v txn ≡ true →
      told_after (with_changed state.control txn (voted v)) (acts.Decide txn ∷ []) ≡ committed primary state txn (command_of state.control txn)
  vote_decides v txn counts last =
      let found = voting-found state.control v txn counts in
      let preparing : is_preparing found.0.phase ≡ true = (and_parts _ _ (and_parts _ _ found.2).0).0 in
      let every : is_unanimous (with_vote v found.0) ≡ true = sym (ap (λ (o : Option Entry). option_map_or (λ (x : Entry). is_unanimous (with_vote v x)) o false) found.1) ∙ last in
      let is : voted v found.0 ≡ with_phase (decided_phase found.0.phase) (with_vote v found.0) = cond-true _ _ _ every in
      let command : command_of state.control txn ≡ command_in found.0.phase = ap (λ (o : Option Entry). option_map_or command_in (option_map (λ (x : Entry). x.phase) o) 0) found.1 in
      decide_told primary state (part_of state calm) calm.lone (control_of state calm) txn (command_of state.control txn) (voted v)
      (voted-name v) found.0 found.1
      (ap (λ (x : Entry). x.participants) is) (ap (λ (x : Entry). x.phase) is ∙ decided_from found.0.phase preparing ∙ ap Decided (sym command))

  vote_told : (v : ℕ) (txn : TxnId) →
      told_after (after_vote state.control v txn) (vote_acts state.control v txn)
      ≡ cond (counts_vote state.control v txn && is_last_vote state.control v txn) (committed primary state txn (command_of state.control txn)) (controlled primary state (after_vote state.control v txn) [])
  unfolding after_vote vote_acts
  vote_told v txn =
      cond_both (counts_vote state.control v txn && is_last_vote state.control v txn) (committed primary state txn (command_of state.control txn)) (controlled primary state (after_vote state.control v txn) [])
      (λ (done : Stepped). told_after (after_vote state.control v txn) (vote_acts state.control v txn) ≡ done)
      (λ last. let parts = and_parts _ _ last in
      ap (λ (c : ControlState). told_after c (vote_acts state.control v txn)) (cond-true _ _ _ parts.0)
      ∙ ap (told_after (with_changed state.control txn (voted v))) (cond-true _ _ _ last)
      ∙ vote_decides v txn parts.0 parts.1)
      (λ more. ap (told_after (after_vote state.control v txn)) (cond-false _ _ _ more)
      ∙ controlled_told primary state (after_vote state.control v txn) [] (part_of state calm) calm.lone refl)

  -- ---- the participant

  asked_told : (from v : ℕ) (txn : TxnId) (number : ℕ) (place : Place) (op : Op) (mark : Bool) →
      all_told primary (safe_number state) (asked (started state) from v txn number place op mark) ≡ asked (started state) from v txn number place op mark
  unfolding asked
  asked_told from v txn number place op true =
      none_told primary state (part_of state calm) calm.lone (asked (started state) from v txn number place op true)
      (grown-none state.part (part_of state calm))
  asked_told from v txn number place op false =
      none_told primary state (part_of state calm) calm.lone (asked (started state) from v txn number place op false)
      (grown-op state.part txn place op (part_of state calm))

  asked_calm : (from v : ℕ) (txn : TxnId) (number : ℕ) (place : Place) (op : Op) (mark : Bool) → IsCalm (asked (started state) from v txn number place op mark).state
  unfolding asked
  asked_calm from v txn number place op true = calm
  asked_calm from v txn number place op false =
      let grown : HasGrown state.part (after_op state.part txn place op) = grown-op state.part txn place op (part_of state calm) in
      calm_with state (after_op state.part txn place op) state.control state.decisions calm grown.below (control_of state calm)

  -- the vote is sent in the step that prepares
  prepared_told : (txn : TxnId) →
      all_told primary (safe_number state) (prepared (started state) txn) ≡ with_message (prepared (started state) txn) (primary (home_of state.control txn)) (Vote state.v txn)
  unfolding prepared after_prepare told
  prepared_told txn = one_told primary state (part_of state calm) calm.lone (prepared (started state) txn) (records.Prepared txn) calm.lone refl

  prepared_calm : (txn : TxnId) → IsCalm (prepared (started state) txn).state
  unfolding prepared after_prepare
  prepared_calm txn = calm_with state (after_prepare state.part txn) state.control state.decisions calm
      (below-record state.part (records.Prepared txn) (part_of state calm)) (control_of state calm)

  finished_told : (txn : TxnId) (commit : Bool) → all_told primary (safe_number state) (finished (started state) txn commit) ≡ finished (started state) txn commit
  unfolding finished
  finished_told txn commit =
      cond_both (is_open state.part.log txn) (with_part (started state) (after_finish state.part txn commit)) (started state) (λ (done : Stepped). all_told primary (safe_number state) done ≡ done)
      (λ _. none_told primary state (part_of state calm) calm.lone (with_part (started state) (after_finish state.part txn commit))
      (grown-finish state.part txn commit (part_of state calm)))
      (λ _. none_told primary state (part_of state calm) calm.lone (started state) (grown-none state.part (part_of state calm)))

  finished_calm : (txn : TxnId) (commit : Bool) → IsCalm (finished (started state) txn commit).state
  unfolding finished
  finished_calm txn commit =
      let grown : HasGrown state.part (after_finish state.part txn commit) = grown-finish state.part txn commit (part_of state calm) in
      cond_both (is_open state.part.log txn) (with_part (started state) (after_finish state.part txn commit)) (started state) (λ (done : Stepped). IsCalm done.state)
      (λ _. calm_with state (after_finish state.part txn commit) state.control state.decisions calm grown.below (control_of state calm)) (λ _. calm)

  -- without a standby, an acknowledgement changes nothing
  acked_told : (number : ℕ) → all_told primary (safe_number state) (with_modes (started state) (after_acked state.modes number)) ≡ started state
  acked_told number =
      let same : after_acked state.modes number ≡ state.modes =
      ap (λ (mode : Mode). record state.modes { acked = acked_in mode state.modes.acked number }) calm.lone in
      ap (λ (modes : ModesState). all_told primary (safe_number state) (with_modes (started state) modes)) same
      ∙ none_told primary state (part_of state calm) calm.lone (started state) (grown-none state.part (part_of state calm))

-- without a standby, nothing is shipped
unshipped : (next : ℕ) (done : Stepped) → done.state.modes.mode ≡ Lone → shipped next done ≡ done
unshipped next done alone =
    ap (λ (mode : Mode). record done
    { step = record done.step { sends = log_messages mode done.state.v (entries_from next done.state.part.log) ++ done.step.sends } }) alone

-- ---- any message

-- what a message makes before it is shipped
told_is_lone : (primary : ℕ → ℕ) (nodes : ℕ) (state : ReplicaState) (from : ℕ) (content : Content) (mark : Bool) → IsCalm state → Fits nodes state content →
    all_told primary (safe_number state) (taken primary (started state) from content mark) ≡ lone_step primary state from content mark
unfolding commanded answered voted_in lone_step
told_is_lone primary nodes state from (Command v txn number what) mark calm fits = command_told primary state calm txn number what fits.comes
told_is_lone primary nodes state from (Answer v txn number answer) mark calm fits =
    controlled_told primary state (after_answer state.control v txn number answer) (answer_acts state.control v txn number answer)
    (part_of state calm) calm.lone
    (no_decide state.control.nodes (answer_acts state.control v txn number answer) (answer_acts_are_sends state.control v txn number answer))
told_is_lone primary nodes state from (Vote v txn) mark calm fits = vote_told primary state calm v txn
told_is_lone primary nodes state from (Ask v txn number table key op) mark calm fits = asked_told primary state calm from v txn number (table, key) op mark
told_is_lone primary nodes state from (Prepare v txn) mark calm fits = prepared_told primary state calm txn
told_is_lone primary nodes state from (Finish v txn commit) mark calm fits = finished_told primary state calm txn commit
told_is_lone primary nodes state from (Decision v txn commit) mark calm fits = finished_told primary state calm txn commit
told_is_lone primary nodes state from (LogAck v number) mark calm fits = acked_told primary state calm number
told_is_lone primary nodes state from content mark calm fits = absurd fits.comes

pub steps_stay_calm : StepsStayCalm
unfolding lone_step
steps_stay_calm primary nodes state from (Command v txn number what) mark calm fits =
    let gives : Bool = has_decide (command_acts state.control txn number what) in
    cond_both gives (committed primary state txn number) (controlled primary state (after_command state.control txn number what) (command_acts state.control txn number what)) (λ (done : Stepped). IsCalm done.state)
    (λ _. calm_committed primary state calm txn number)
    (λ none. calm_controlled primary state calm (after_command state.control txn number what) (command_acts state.control txn number what)
    (calm-after_command state.control (control_of state calm) txn number what fits.comes none))
steps_stay_calm primary nodes state from (Answer v txn number answer) mark calm fits =
    calm_controlled primary state calm (after_answer state.control v txn number answer) (answer_acts state.control v txn number answer)
    (calm-after_answer state.control (control_of state calm) v txn number answer)
steps_stay_calm primary nodes state from (Vote v txn) mark calm fits =
    cond_both (counts_vote state.control v txn && is_last_vote state.control v txn) (committed primary state txn (command_of state.control txn)) (controlled primary state (after_vote state.control v txn) [])
    (λ (done : Stepped). IsCalm done.state)
    (λ _. calm_committed primary state calm txn (command_of state.control txn))
    (λ more. calm_controlled primary state calm (after_vote state.control v txn) [] (calm-after_vote state.control (control_of state calm) v txn more))
steps_stay_calm primary nodes state from (Ask v txn number table key op) mark calm fits = asked_calm primary state calm from v txn number (table, key) op mark
steps_stay_calm primary nodes state from (Prepare v txn) mark calm fits = prepared_calm primary state calm txn
steps_stay_calm primary nodes state from (Finish v txn commit) mark calm fits = finished_calm primary state calm txn commit
steps_stay_calm primary nodes state from (Decision v txn commit) mark calm fits = finished_calm primary state calm txn commit
steps_stay_calm primary nodes state from (LogAck v number) mark calm fits = calm
steps_stay_calm primary nodes state from content mark calm fits = absurd fits.comes

pub calm_steps_are_lone : CalmStepsAreLone
calm_steps_are_lone primary nodes state from content mark calm fits =
    ap (shipped state.part.next) (told_is_lone primary nodes state from content mark calm fits)
    ∙ unshipped state.part.next (lone_step primary state from content mark) (steps_stay_calm primary nodes state from content mark calm fits).lone
