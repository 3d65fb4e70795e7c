-- Each message that is no acknowledgement is taken as without a standby.
use Rattle.std.proofs.Common.{◌≡◌, ℕ, Bool, true, false, cond, ◌&&◌, List, [], ◌∷◌, ◌++◌, map, Option, None, option_map, refl, sym, ap, ◌∙◌, subst}
use Rattle.std.specs.Option.{option_map_or}
use Rattle.std.proofs.lemmas.Bool.{false≢true, true≢false, and_parts, cond-true, cond-false, cond_both}
use Rattle.std.proofs.lemmas.List.{append-nil}
use Rattle.cl_types.specs.declared.answers.AbortCause.TheVariants.{Client, Conflict, Memory}
use Rattle.cl_types.specs.declared.answers.Answer.{Answer as OpAnswer}
use Rattle.cl_types.specs.declared.answers.Answer.TheVariants as reply
use Rattle.cl_types.specs.declared.answers.Outcome.TheVariants.{Aborted}
use Rattle.cl_types.specs.declared.operations.Command.{Command as ClientCommand}
use Rattle.cl_types.specs.declared.operations.Command.TheVariants.{Begin, Work, Commit, Abort}
use Rattle.cl_types.specs.declared.operations.Op.{Op}
use Rattle.cl_types.specs.declared.operations.TxnId.{TxnId}
use Rattle.cl_types.specs.Places.{Place}
use Rattle.cl_log.specs.declared.records.LogRec.TheVariants as records
use Rattle.cl_log.specs.LogEntry.{LogEntry}
use Rattle.cl_log.specs.Open.{is_open}
use Rattle.cl_control.specs.declared.acts.Act.{Act}
use Rattle.cl_control.specs.declared.acts.Act.TheVariants as acts
use Rattle.cl_control.specs.declared.entry.Phase.{Phase}
use Rattle.cl_control.specs.declared.entry.Phase.TheVariants.{Idle, Asked, Preparing, Decided, Logged}
use Rattle.cl_control.specs.Calls.{MayCommand, commit_acts, commit_phase, committing, command_acts, after_command, counts_answer, answered_acts, answer_acts, after_answer, is_preparing, counts_vote, is_last_vote, voted, decided as decided_phase, vote_acts, after_vote, is_logged, is_told}
use Rattle.cl_control.specs.Laws as law
use Rattle.cl_control.specs.Sound.{IsSoundControl, is_logged_here}
use Rattle.cl_control.specs.State.{Entry, ControlState, ascending, participants_of, with_phase, with_vote, is_unanimous, with_changed}
use Rattle.cl_control.proofs.CallSoundness.{calls_keep_sound, undecided-not_logged}
use Rattle.cl_control.proofs.Entries.{not_open-found}
use Rattle.cl_control.proofs.Kept.{phase-found, voting-found, voted-name, idle-not_logged}
use Rattle.cl_part.specs.Calls.{answer_to, after_op, after_prepare}
use Rattle.cl_part.specs.State.{State, after_record}
use Rattle.cl_repair.specs.Modes.{new_modes}
use Rattle.cl_steps.specs.declared.steps.Outgoing.{Outgoing}
use Rattle.cl_steps.specs.Steps.{sent}
use Rattle.cl_wire.specs.Message.{Content, Command, Answer, Vote, Ask, Prepare, Finish, Decision, LogAck}
use Rattle.cl_vnode.specs.Inputs.{Fits, has_decide}
use Rattle.cl_vnode.specs.Replica.{ReplicaState}
use Rattle.cl_vnode.specs.Step.{Stepped, started, with_message, with_part, with_control, after_finish, all_performed, commanded, answered, voted as voted_in, asked, prepared, finished, taken, home_of, stepped}
use Rattle.cl_lone.specs.Lone.{messages_of, controlled, committed, command_in, command_of, lone_step}
use Rattle.cl_paired.specs.Laws.{StepsAreSeenAlone, IsSeenAlone, IsNoAck}
use Rattle.cl_paired.specs.Paired.{IsPaired}
use Rattle.cl_paired.proofs.Appending.{IsPlainGrown, grown-none, grown-op, grown-finish}
use Rattle.cl_paired.proofs.Calming.{calm, phase-calm, command_acts-calm, after_command-calm, answer_acts-calm, after_answer-calm, decides-calm, after_vote-calm, not_logged-apart}
use Rattle.cl_paired.proofs.Deciding.{decide_taken}
use Rattle.cl_paired.proofs.Keeping.{awaits-preparing, kept-same, kept-command, kept-answer, kept-vote, voting-undecided}
use Rattle.cl_paired.proofs.Seeing.{seen, at_once_seen, seen_alone, IsKept, IsTaken}
use Rattle.cl_paired.proofs.Telling.{all_sent, ends_are_sent}

module _ (primary : ℕ → ℕ) (state : ReplicaState) (is : IsPaired state) where
  -- the controller before
  abbrev control : ControlState
  control = state.control

  -- ---- the controller

  -- a call that gives no Decide
  controlled_taken : (after alone : ControlState) (list lone_list : List Act) → has_decide list ≡ false → IsKept control after [] → calm after ≡ alone →
      lone_list ≡ list →
      IsTaken primary state (all_performed primary (with_control (started state) after) list) (controlled primary (seen state) alone lone_list)
  controlled_taken after alone list lone_list none kept same_control same_list =
      subst (λ (done : Stepped). IsTaken primary state done (controlled primary (seen state) alone lone_list))
      (sym (all_sent primary (with_control (started state) after) list none))
      (record {
        grown = grown-none state.part;
        v = refl;
        modes = refl;
        kept = kept;
        alone_state = ap (λ (c : ControlState). record state { control = c; modes = new_modes state.v None }) same_control;
        alone_sends = ap (messages_of primary) same_list ∙ sym (append-nil (messages_of primary list));
        firm = refl;
        short = refl;
      })

  -- of the transaction of a command no log number was told
  command-not_logged : (txn : TxnId) (what : ClientCommand) → MayCommand control txn what → is_logged_here control txn ≡ false
  command-not_logged txn Begin may =
      ap (λ (o : Option Entry). option_map_or is_logged (option_map (λ (x : Entry). x.phase) o) false) (not_open-found txn control.transactions may)
  command-not_logged txn (Work table key op) may = idle-not_logged control txn may
  command-not_logged txn Commit may = idle-not_logged control txn may
  command-not_logged txn Abort may = idle-not_logged control txn may

  -- to prepare decides nothing
  none_prepares : (txn : TxnId) (vs : List ℕ) → has_decide (map (λ v. acts.Prepare v txn) vs) ≡ false
  none_prepares txn [] = refl
  none_prepares txn (v ∷ vs) = none_prepares txn vs

  -- COMMIT where there is no participant
  commit_decides : (txn : TxnId) (number : ℕ) (vs : List ℕ) → participants_of control txn ≡ vs → MayCommand control txn Commit →
      has_decide (commit_acts control txn vs) ≡ true →
      IsTaken primary state (all_performed primary (with_control (started state) (with_changed control txn (committing number)))
      (commit_acts control txn vs)) (committed primary (seen state) txn number)
  unfolding after_command
  commit_decides txn number (v ∷ vs) are may decides =
      absurd (true≢false (sym decides ∙ none_prepares txn (ascending control.nodes (participants_of control txn))))
  commit_decides txn number [] are may decides =
      let found = phase-found control txn Idle may in
      let none : found.0.participants ≡ [] = sym (ap (λ (o : Option Entry). option_map_or (λ (x : Entry). x.participants) o []) found.1) ∙ are in
      decide_taken primary state is txn number (idle-not_logged control txn may) (committing number) (λ x. refl) found.0 found.1 refl
      (ap (commit_phase number) none)
      (calls_keep_sound control (law.command txn number Commit) is.sound may)

  -- a command that decides
  command_decides : (txn : TxnId) (number : ℕ) (what : ClientCommand) → MayCommand control txn what → has_decide (command_acts control txn number what) ≡ true →
      IsTaken primary state (all_performed primary (with_control (started state) (after_command control txn number what))
      (command_acts control txn number what)) (committed primary (seen state) txn number)
  unfolding command_acts after_command
  command_decides txn number Begin may decides = absurd (false≢true decides)
  command_decides txn number (Work table key op) may decides = absurd (false≢true decides)
  command_decides txn number Commit may decides = commit_decides txn number (participants_of control txn) refl may decides
  command_decides txn number Abort may decides = absurd (true≢false (sym decides ∙ ends_are_sent control txn false number (Aborted Client)))

  -- any command
  command_taken : (txn : TxnId) (number : ℕ) (what : ClientCommand) → MayCommand control txn what →
      IsTaken primary state (all_performed primary (with_control (started state) (after_command control txn number what))
      (command_acts control txn number what))
      (cond (has_decide (command_acts (calm control) txn number what)) (committed primary (seen state) txn number)
      (controlled primary (seen state) (after_command (calm control) txn number what) (command_acts (calm control) txn number what)))
  command_taken txn number what may =
      let apart : is_told txn control.waiting ≡ false = not_logged-apart control is.sound txn (command-not_logged txn what may) in
      let same : command_acts (calm control) txn number what ≡ command_acts control txn number what = command_acts-calm control txn apart number what in
      cond_both (has_decide (command_acts (calm control) txn number what)) (committed primary (seen state) txn number)
      (controlled primary (seen state) (after_command (calm control) txn number what) (command_acts (calm control) txn number what))
      (IsTaken primary state (all_performed primary (with_control (started state) (after_command control txn number what))
      (command_acts control txn number what)))
      (λ decides. command_decides txn number what may (sym (ap has_decide same) ∙ decides))
      (λ none. controlled_taken (after_command control txn number what) (after_command (calm control) txn number what)
      (command_acts control txn number what) (command_acts (calm control) txn number what)
      (sym (ap has_decide same) ∙ none) (kept-command control is.sound is.decided txn number what may (sym (ap has_decide same) ∙ none))
      (after_command-calm control txn apart number what) same)

  -- ---- an answer

  -- an answer that counts decides nothing
  answered-sent : (txn : TxnId) (number : ℕ) (answer : OpAnswer) → has_decide (answered_acts control txn number answer) ≡ false
  answered-sent txn number (reply.Done r) = refl
  answered-sent txn number (reply.Refused holder) = ends_are_sent control txn false number (Aborted (Conflict holder))
  answered-sent txn number reply.NoMemory = ends_are_sent control txn false number (Aborted Memory)

  -- nor does any
  answer-sent : (v : ℕ) (txn : TxnId) (number : ℕ) (answer : OpAnswer) → has_decide (answer_acts control v txn number answer) ≡ false
  unfolding answer_acts
  answer-sent v txn number answer =
      cond_both (counts_answer control v txn number) (answered_acts control txn number answer) [] (λ (list : List Act). has_decide list ≡ false)
      (λ _. answered-sent txn number answer) (λ _. refl)

  -- any answer
  answer_taken : (v : ℕ) (txn : TxnId) (number : ℕ) (answer : OpAnswer) →
      IsTaken primary state (all_performed primary (with_control (started state) (after_answer control v txn number answer))
      (answer_acts control v txn number answer))
      (controlled primary (seen state) (after_answer (calm control) v txn number answer) (answer_acts (calm control) v txn number answer))
  answer_taken v txn number answer =
      controlled_taken (after_answer control v txn number answer) (after_answer (calm control) v txn number answer)
      (answer_acts control v txn number answer) (answer_acts (calm control) v txn number answer)
      (answer-sent v txn number answer) (kept-answer control is.sound is.decided v txn number answer)
      (after_answer-calm control is.sound v txn number answer) (answer_acts-calm control is.sound v txn number answer)

  -- ---- a vote

  -- the number of the command stays when it is decided
  decided_from : (phase : Phase) → is_preparing phase ≡ true → decided_phase phase ≡ Decided (command_in phase)
  decided_from (Preparing number) preparing = refl
  decided_from Idle preparing = absurd (false≢true preparing)
  decided_from (Asked number v) preparing = absurd (false≢true preparing)
  decided_from (Decided number) preparing = absurd (false≢true preparing)
  decided_from (Logged number) preparing = absurd (false≢true preparing)

  -- the last vote
  vote_decides : (v : ℕ) (txn : TxnId) → counts_vote control v txn ≡ true → is_last_vote control v txn ≡ true →
      IsSoundControl (with_changed control txn (voted v)) →
      IsTaken primary state (all_performed primary (with_control (started state) (with_changed control txn (voted v))) (acts.Decide txn ∷ []))
      (committed primary (seen state) txn (command_of (calm control) txn))
  vote_decides v txn counts last good =
      let found = voting-found control v txn counts in
      let preparing : is_preparing found.0.phase ≡ true = awaits-preparing v found.0 found.2 in
      let every : is_unanimous (with_vote v found.0) ≡ true =
      sym (ap (λ (o : Option Entry). option_map_or (λ (x : Entry). is_unanimous (with_vote v x)) o false) found.1) ∙ last in
      let becomes : voted v found.0 ≡ with_phase (decided_phase found.0.phase) (with_vote v found.0) = cond-true _ _ _ every in
      let not_logged : is_logged_here control txn ≡ false = undecided-not_logged control txn (voting-undecided control is.sound is.decided v txn counts) in
      let command : command_of (calm control) txn ≡ command_in found.0.phase =
      ap (λ (o : Option Phase). option_map_or command_in o 0) (phase-calm control txn (not_logged-apart control is.sound txn not_logged))
      ∙ ap (λ (o : Option Entry). option_map_or command_in (option_map (λ (x : Entry). x.phase) o) 0) found.1 in
      decide_taken primary state is txn (command_of (calm control) txn) not_logged (voted v) (voted-name v) found.0 found.1
      (ap (λ (x : Entry). x.participants) becomes) (ap (λ (x : Entry). x.phase) becomes ∙ decided_from found.0.phase preparing ∙ ap Decided (sym command)) good

  -- any vote
  vote_taken : (v : ℕ) (txn : TxnId) →
      IsTaken primary state (all_performed primary (with_control (started state) (after_vote control v txn)) (vote_acts control v txn))
      (cond (counts_vote (calm control) v txn && is_last_vote (calm control) v txn) (committed primary (seen state) txn (command_of (calm control) txn))
      (controlled primary (seen state) (after_vote (calm control) v txn) []))
  unfolding after_vote vote_acts
  vote_taken v txn =
      let decides : Bool = counts_vote control v txn && is_last_vote control v txn in
      let done : Stepped = all_performed primary (with_control (started state) (after_vote control v txn)) (vote_acts control v txn) in
      let lone : Stepped = controlled primary (seen state) (after_vote (calm control) v txn) [] in
      let good : IsSoundControl (after_vote control v txn) = calls_keep_sound control (law.vote v txn) is.sound tt in
      subst (λ (b : Bool). IsTaken primary state done (cond b (committed primary (seen state) txn (command_of (calm control) txn)) lone))
      (sym (decides-calm control is.sound v txn))
      (cond_both decides (committed primary (seen state) txn (command_of (calm control) txn)) lone (IsTaken primary state done)
      (λ last. let parts = and_parts _ _ last in
      let becomes : after_vote control v txn ≡ with_changed control txn (voted v) = cond-true _ _ _ parts.0 in
      subst (λ (list : List Act). IsTaken primary state (all_performed primary (with_control (started state) (after_vote control v txn)) list)
      (committed primary (seen state) txn (command_of (calm control) txn)))
      (sym (cond-true decides (acts.Decide txn ∷ []) [] last))
      (subst (λ (c : ControlState). IsTaken primary state (all_performed primary (with_control (started state) c) (acts.Decide txn ∷ []))
      (committed primary (seen state) txn (command_of (calm control) txn)))
      (sym becomes) (vote_decides v txn parts.0 parts.1 (subst IsSoundControl becomes good))))
      (λ more. let none : vote_acts control v txn ≡ [] = cond-false decides (acts.Decide txn ∷ []) [] more in
      controlled_taken (after_vote control v txn) (after_vote (calm control) v txn) (vote_acts control v txn) [] (ap has_decide none)
      (kept-vote control is.sound is.decided v txn more) (after_vote-calm control is.sound v txn) (sym none)))

  -- ---- the participant

  -- records are appended of which nothing is told
  plain_taken : (part : State) (messages : List Outgoing) (short : Bool) → IsPlainGrown state.part part →
      IsTaken primary state
      (record { state = record state { part = part }; step = record (started state).step { sends = messages; short = short } })
      (record { state = record (seen state) { part = part }; step = record (started state).step { sends = messages; short = short } })
  plain_taken part messages short plain = record {
    grown = plain.grown;
    v = refl;
    modes = refl;
    kept = kept-same control is.sound is.decided plain.grown.news plain.no_tolds;
    alone_state = refl;
    alone_sends = sym (append-nil messages) ∙ ap (λ (ms : List Outgoing). messages ++ ms) (sym (plain.no_messages primary state.v control));
    firm = refl;
    short = refl;
  }

  -- nothing is appended
  nothing_taken : (messages : List Outgoing) (short : Bool) →
      IsTaken primary state (record { state = state; step = record (started state).step { sends = messages; short = short } })
      (record { state = seen state; step = record (started state).step { sends = messages; short = short } })
  nothing_taken messages short = record {
    grown = grown-none state.part;
    v = refl;
    modes = refl;
    kept = kept-same control is.sound is.decided [] refl;
    alone_state = refl;
    alone_sends = sym (append-nil messages);
    firm = refl;
    short = refl;
  }

  -- an operation
  asked_taken : (from v : ℕ) (txn : TxnId) (number : ℕ) (place : Place) (op : Op) (mark : Bool) →
      IsTaken primary state (asked (started state) from v txn number place op mark) (asked (started (seen state)) from v txn number place op mark)
  unfolding asked
  asked_taken from v txn number place op true = nothing_taken (sent from (Answer v txn number reply.NoMemory) ∷ []) true
  asked_taken from v txn number place op false =
      plain_taken (after_op state.part txn place op) (sent from (Answer v txn number (answer_to state.part txn place op)) ∷ []) false
      (grown-op state.part txn place op)

  -- the vote is told later
  prepared_taken : (txn : TxnId) →
      IsTaken primary state (prepared (started state) txn) (with_message (prepared (started (seen state)) txn) (primary (home_of (calm control) txn))
      (Vote state.v txn))
  unfolding prepared after_prepare after_record
  prepared_taken txn =
      let news : LogEntry = record { number = state.part.next; content = records.Prepared txn } in
      record {
        grown = record { news = news ∷ []; log = refl; numbered = (refl, tt); next = refl };
        v = refl;
        modes = refl;
        kept = kept-same control is.sound is.decided (news ∷ []) refl;
        alone_state = refl;
        alone_sends = refl;
        firm = refl;
        short = refl;
      }

  -- an end
  finished_taken : (txn : TxnId) (commit : Bool) → IsTaken primary state (finished (started state) txn commit) (finished (started (seen state)) txn commit)
  unfolding finished
  finished_taken txn commit = by (is_open state.part.log txn)
    where
      by : (b : Bool) → IsTaken primary state (cond b (with_part (started state) (after_finish state.part txn commit)) (started state))
          (cond b (with_part (started (seen state)) (after_finish state.part txn commit)) (started (seen state)))
      by true = plain_taken (after_finish state.part txn commit) [] false (grown-finish state.part txn commit)
      by false = nothing_taken [] false

-- ---- any message

-- each is taken with a standby and without
message_taken : (primary : ℕ → ℕ) (nodes : ℕ) (state : ReplicaState) (from : ℕ) (content : Content) (mark : Bool) → IsPaired state →
    Fits nodes state content → IsNoAck content →
    IsTaken primary state (taken primary (started state) from content mark) (lone_step primary (seen state) from content mark)
unfolding commanded answered voted_in lone_step
message_taken primary nodes state from (Command v txn number what) mark is fits no_ack = command_taken primary state is txn number what fits.comes
message_taken primary nodes state from (Answer v txn number answer) mark is fits no_ack = answer_taken primary state is v txn number answer
message_taken primary nodes state from (Vote v txn) mark is fits no_ack = vote_taken primary state is v txn
message_taken primary nodes state from (Ask v txn number table key op) mark is fits no_ack = asked_taken primary state is from v txn number (table, key) op mark
message_taken primary nodes state from (Prepare v txn) mark is fits no_ack = prepared_taken primary state is txn
message_taken primary nodes state from (Finish v txn commit) mark is fits no_ack = finished_taken primary state is txn commit
message_taken primary nodes state from (Decision v txn commit) mark is fits no_ack = finished_taken primary state is txn commit
message_taken primary nodes state from (LogAck v number) mark is fits no_ack = absurd no_ack
message_taken primary nodes state from content mark is fits no_ack = absurd fits.comes

-- so each step is seen as one without a standby
pub steps_are_seen_alone : StepsAreSeenAlone
steps_are_seen_alone primary nodes state from content mark is fits no_ack unawaited =
    subst (λ (alone : ReplicaState). IsSeenAlone primary state (stepped primary state from content mark) (lone_step primary alone from content mark))
    (sym (at_once_seen primary state is))
    (seen_alone primary state (taken primary (started state) from content mark) (lone_step primary (seen state) from content mark) is
    (message_taken primary nodes state from content mark is fits no_ack))
