-- Each message that comes to a replica is steps of the ledger.
use Rattle.std.proofs.Common.{◌≡◌, ◌≢◌, ℕ, ◌<◌, Bool, true, false, cond, ◌&&◌, List, [], ◌∷◌, ◌++◌, Option, Some, None, refl, sym, ◌∙◌, ap, subst, inl, nat_eq}
use Rattle.std.specs.Option.{option_map, option_map_or, unwrap_or}
use Rattle.std.proofs.lemmas.Bool.{eq-eqb, and_parts, and_from}
use Rattle.std.proofs.lemmas.List.{append-nil}
use Rattle.cl_types.specs.declared.answers.Answer.{Answer as OpAnswer}
use Rattle.cl_types.specs.declared.operations.Command.{Command as ClientCommand}
use Rattle.cl_types.specs.declared.operations.Command.TheVariants.{Begin, Work, Commit, Abort}
use Rattle.cl_types.specs.declared.operations.Op.{Op}
use Rattle.cl_types.specs.declared.operations.TxnId.{TxnId}
use Rattle.cl_types.specs.Places.{Place}
use Rattle.cl_types.specs.Transactions.{same_txn}
use Rattle.cl_types.proofs.PlacementLaws.{virtual_node_of-below}
use Rattle.cl_types.proofs.Transactions.{same_txn-itself}
use Rattle.cl_control.specs.declared.entry.Phase.{Phase}
use Rattle.cl_control.specs.declared.entry.Phase.TheVariants.{Idle}
use Rattle.cl_control.specs.Calls.{MayCommand, command_acts, after_command, awaits_vote, counts_vote, is_last_vote, after_vote}
use Rattle.cl_control.specs.State.{Entry, ControlState, entry_of, is_among}
use Rattle.cl_log.specs.LogEntry.{LogEntry}
use Rattle.cl_log.specs.Open.{has_ended, is_open, is_among as is_member}
use Rattle.cl_lone.specs.Lone.{controlled, committed, command_of, lone_step}
use Rattle.cl_node.specs.Addressing.{home_in}
use Rattle.cl_order.specs.Ledger.{Ledger, IsWhole}
use Rattle.cl_order.specs.Steps.{Step}
use Rattle.cl_part.specs.Calls.{ask_op, prepare}
use Rattle.cl_part.specs.Laws.{MayWork, steps_of}
use Rattle.cl_roster.specs.Roster.{IsClusterSize}
use Rattle.cl_runs.specs.World.{Shape, with_firm}
use Rattle.cl_steps.specs.declared.actors.TheConstants.{FRONT}
use Rattle.cl_vnode.specs.Inputs.{Fits, has_decide}
use Rattle.cl_vnode.specs.Replica.{ReplicaState}
use Rattle.cl_vnode.specs.Step.{Stepped, started, with_part, after_finish, asked, prepared, finished}
use Rattle.cl_wire.specs.Message.{Content, Bare, Command, Outcome, Ask, Answer, Prepare, Vote, Finish, Inquire, Decision, Log, LogAck, Repair, Records, Names, CopyAck}
use Rattle.cl_system.specs.Firm.{FirmWorld, TellsFirm}
use Rattle.cl_system.specs.Replicas.{own_primary}
use Rattle.cl_system.specs.Roles.{IsOfSession, IsAddressed}
use Rattle.cl_commit.specs.Life.{CommitsWhole, entry_in, is_begin_of, IsToCome}
use Rattle.cl_ledger.specs.Ledgers.{IsLedgerOf, decision_steps, finish_steps, message_steps}
use Rattle.cl_ledger.proofs.Ending.{follows_aborted}
use Rattle.cl_ledger.proofs.Entries.{ComesFrom, same_grows, kept_from, command_from, answer_from, vote_from, left_from}
use Rattle.cl_ledger.proofs.Keeping.{KeepsLog}
use Rattle.cl_ledger.proofs.Reaching.{Follows, anyone, no_one, others_than, follows_idle, follows_asked, follows_prepared, follows_decided, follows_finished}
use Rattle.cl_ledger.proofs.Standings.{IsAskedAt, ask_stands, prepare_stands, finish_stands, open_outside, open_unended, running_unended, unprepared_unended, begun_not_to_come}
use Rattle.cl_ledger.proofs.Worlds.{Goes, goes_on, whole_before, not_firm, only_member}

-- what a commit needs: the transaction is open
named_of_phase : (found : Option Entry) (phase : Phase) → option_map (λ (entry : Entry). entry.phase) found ≡ Some phase → (entry : Entry) × (found ≡ Some entry)
named_of_phase None phase is = absurd (let e : ◌≡◌ {A = Option Phase} None (Some phase) = is in cc)
named_of_phase (Some entry) phase is = (entry, refl)

pub decides_open : (control : ControlState) (txn : TxnId) (number : ℕ) (what : ClientCommand) → MayCommand control txn what → has_decide (command_acts control txn number what) ≡ true →
    (entry : Entry) × (entry_of control txn ≡ Some entry)
unfolding command_acts
decides_open control txn number Begin may decides = absurd (let e : false ≡ true = decides in cc)
decides_open control txn number (Work table key op) may decides = named_of_phase (entry_of control txn) Idle may
decides_open control txn number Commit may decides = named_of_phase (entry_of control txn) Idle may
decides_open control txn number Abort may decides = named_of_phase (entry_of control txn) Idle may

pub counts_open : (found : Option Entry) (w : ℕ) → option_map_or (awaits_vote w) found false ≡ true → (entry : Entry) × (found ≡ Some entry)
counts_open None w counts = absurd (let e : false ≡ true = counts in cc)
counts_open (Some entry) w counts = (entry, refl)

module _ (shape : Shape) (size : IsClusterSize shape.nodes shape.spares) (state : FirmWorld) (ledger : Ledger) (is : IsLedgerOf shape state ledger)
    (commits : CommitsWhole shape state.world)
    (from to : ℕ) (rest : List Content) (node : to ≢ FRONT) (below : to < shape.nodes) where
  -- the participant
  keeps : KeepsLog ledger to (state.world.replicas to).part
  keeps = record { sound = is.sound to below; log = is.logs to below }

  -- the message comes, and the step is these steps of the ledger
  abbrev pub Comes : (content : Content) → state.world.mail from to ≡ content ∷ rest → Stepped → List Step → Type 0
  Comes content here next steps = Goes shape state ledger is from to content rest here node next steps

  -- no operation is done
  module _ (content : Content) (here : state.world.mail from to ≡ content ∷ rest) (addressed : IsAddressed shape.nodes from to content) where
    comes_on : (next : Stepped) (apart : TxnId → Type 0) (decided : List TxnId) (steps : List Step) → Follows ledger to next.state.part apart no_one steps →
        with_firm state.world.history next.step.firm ≡ state.world.history ++ decided →
        ((name : TxnId) → is_member name state.world.history ≡ true → is_member name state.firm ≡ false → apart name) →
        ((name : TxnId) → is_member name decided ≡ true → apart name × IsWhole ledger name) →
        ((name : TxnId) (new : Entry) → home_in shape.nodes name ≡ to → entry_of next.state.control name ≡ Some new →
        ComesFrom (entry_of (state.world.replicas to).control name) (apart name) (is_begin_of name content ≡ true) new) →
        ((name : TxnId) (old : Entry) → home_in shape.nodes name ≢ to → entry_in shape.nodes state.world name ≡ Some old → IsOfSession name → apart name) →
        Comes content here next steps
    comes_on next apart decided steps follows history spared whole entries elsewhere =
        goes_on shape state ledger is from to content rest here node addressed next apart no_one decided steps (record {
          follows = follows;
          history = history;
          spared = spared;
          whole = whole;
          entries = entries;
          elsewhere = elsewhere;
          takes_part = λ name old works. absurd works;
          heard = λ name works. absurd works;
        })

    -- nothing is done
    comes_idle : (next : Stepped) → next.state.part ≡ (state.world.replicas to).part → next.step.firm ≡ [] →
        ((name : TxnId) (new : Entry) → home_in shape.nodes name ≡ to → entry_of next.state.control name ≡ Some new →
        ComesFrom (entry_of (state.world.replicas to).control name) (Unit {0}) (is_begin_of name content ≡ true) new) →
        Comes content here next []
    comes_idle next same firm entries =
        comes_on next anyone [] [] (subst (λ part. Follows ledger to part anyone no_one []) (sym same)
        (follows_idle ledger to (state.world.replicas to).part keeps is.ordered))
        (ap (with_firm state.world.history) firm ∙ sym (append-nil state.world.history)) (λ name old outside. tt)
        (λ name none. absurd (let e : false ≡ true = none in cc)) entries (λ name old apart opened there. tt)

    -- a transaction is decided
    comes_decided : (txn : TxnId) (number : ℕ) → IsOfSession txn → to ≡ home_in shape.nodes txn →
        (entry : Entry) × (entry_of (state.world.replicas to).control txn ≡ Some entry) →
        Comes content here (committed own_primary (state.world.replicas to) txn number) (decision_steps to txn)
    comes_decided txn number there mine found =
        let opened : entry_in shape.nodes state.world txn ≡ Some found.0 =
        subst (λ w. entry_of (state.world.replicas w).control txn ≡ Some found.0) mine found.1 in
        let outside : is_member txn state.world.history ≡ false = open_outside shape state.world txn found.0 (commits.lives txn there) opened in
        let place_below : (place : Place) → ledger.on place < shape.nodes = λ place. subst (λ w. w < shape.nodes) (sym (is.on place)) (virtual_node_of-below place.1 shape.nodes size.counted) in
        let whole : IsWhole ledger txn = λ k d within. whole_before shape state ledger is txn found.0 there opened _ (place_below _) in
        comes_on (committed own_primary (state.world.replicas to) txn number) anyone (txn ∷ []) (decision_steps to txn)
        (follows_decided ledger to (state.world.replicas to).part keeps is.ordered txn)
        (ap (λ b. cond b state.world.history (state.world.history ++ txn ∷ [])) outside) (λ name old apart. tt)
        (λ name new. (tt, subst (IsWhole ledger) (sym (only_member txn name new)) whole))
        (λ name new at left. left_from (state.world.replicas to).control txn name (is_begin_of name content ≡ true) new left) (λ name old apart was of. tt)

  -- ---- each kind of message

  command_comes : (w : ℕ) (txn : TxnId) (number : ℕ) (what : ClientCommand) (mark : Bool) (here : state.world.mail from to ≡ Command w txn number what ∷ rest) →
      IsAddressed shape.nodes from to (Command w txn number what) → MayCommand (state.world.replicas to).control txn what →
      Comes (Command w txn number what) here (lone_step own_primary (state.world.replicas to) from (Command w txn number what) mark)
      (message_steps to (state.world.replicas to) (Command w txn number what) mark)
  unfolding lone_step
  command_comes w txn number what mark here addressed may =
      let control : ControlState = (state.world.replicas to).control in
      let content : Content = Command w txn number what in
      elim (has_decide (command_acts control txn number what)) as (λ b. (has_decide (command_acts control txn number what) ≡ b) →
      Comes content here (cond b (committed own_primary (state.world.replicas to) txn number)
      (controlled own_primary (state.world.replicas to) (after_command control txn number what) (command_acts control txn number what)))
      (cond b (decision_steps to txn) [])) [
        | true ↦ λ decides. comes_decided content here addressed txn number addressed.session (addressed.receiver ∙ addressed.node)
            (decides_open control txn number what may decides)
        | false ↦ λ none. comes_idle content here addressed _ refl refl (λ name new at opened. command_from control w txn number what name new opened)
      ] refl

  answer_comes : (w : ℕ) (txn : TxnId) (number : ℕ) (answer : OpAnswer) (mark : Bool) (here : state.world.mail from to ≡ Answer w txn number answer ∷ rest) →
      IsAddressed shape.nodes from to (Answer w txn number answer) →
      Comes (Answer w txn number answer) here (lone_step own_primary (state.world.replicas to) from (Answer w txn number answer) mark) []
  unfolding lone_step
  answer_comes w txn number answer mark here addressed =
      comes_idle (Answer w txn number answer) here addressed _ refl refl
      (λ name new at opened. answer_from (state.world.replicas to).control name (false ≡ true) new w txn number answer opened)

  vote_comes : (w : ℕ) (txn : TxnId) (mark : Bool) (here : state.world.mail from to ≡ Vote w txn ∷ rest) → IsAddressed shape.nodes from to (Vote w txn) →
      Comes (Vote w txn) here (lone_step own_primary (state.world.replicas to) from (Vote w txn) mark)
      (message_steps to (state.world.replicas to) (Vote w txn) mark)
  unfolding lone_step
  vote_comes w txn mark here addressed =
      let control : ControlState = (state.world.replicas to).control in
      elim (counts_vote control w txn && is_last_vote control w txn) as (λ b. ((counts_vote control w txn && is_last_vote control w txn) ≡ b) → Comes (Vote w txn) here
      (cond b (committed own_primary (state.world.replicas to) txn (command_of control txn))
      (controlled own_primary (state.world.replicas to) (after_vote control w txn) [])) (cond b (decision_steps to txn) [])) [
        | true ↦ λ last. comes_decided (Vote w txn) here addressed txn (command_of control txn) addressed.session addressed.receiver
            (counts_open (entry_of control txn) w (and_parts _ _ last).0)
        | false ↦ λ more. comes_idle (Vote w txn) here addressed _ refl refl (λ name new at opened. vote_from control name (false ≡ true) new w txn opened)
      ] refl

  -- the message, as it comes from the controller of the transaction
  module _ (order : ℕ → Content) (w : ℕ) (txn : TxnId) (here : state.world.mail from to ≡ order w ∷ rest) (giver : from ≡ home_in shape.nodes txn)
      (receiver : to ≡ w) where
    from_home : state.world.mail (home_in shape.nodes txn) to ≡ order to ∷ rest
    from_home = ap (λ g. state.world.mail g to) (sym giver) ∙ here ∙ ap (λ u. order u ∷ rest) (sym receiver)

  own_order : (txn : TxnId) → (nat_eq to to && same_txn txn txn) ≡ true
  own_order txn = and_from _ _ (eq-eqb to to refl) (same_txn-itself txn)

  -- an operation
  ask_done : (w : ℕ) (txn : TxnId) (number : ℕ) (table key : List ℕ) (op : Op) (here : state.world.mail from to ≡ Ask w txn number table key op ∷ rest) →
      IsAddressed shape.nodes from to (Ask w txn number table key op) →
      Comes (Ask w txn number table key op) here (asked (started (state.world.replicas to)) from w txn number (table, key) op false)
      (steps_of to (state.world.replicas to).part (ask_op txn (table, key) op))
  unfolding asked
  ask_done w txn number table key op here addressed =
      let place : ledger.on (table, key) ≡ to = is.on (table, key) ∙ sym addressed.1 ∙ sym addressed.0.receiver in
      let stands = ask_stands shape state.world txn to below (commits.lives txn addressed.0.session) number table key op rest
      (from_home (λ u. Ask u txn number table key op) w txn here addressed.0.giver addressed.0.receiver) (own_order txn) in
      let asked_at : IsAskedAt shape.nodes state.world txn to = stands.0 in
      let may : MayWork ledger to txn = record {
        outside = ap (is_member txn) is.history ∙ not_firm shape state ledger is txn asked_at.outside;
        unended = ap (λ (log : List LogEntry). has_ended log txn) (is.logs to below)
            ∙ unprepared_unended (state.world.replicas to).part.log txn ((commits.parts to below).begun txn) stands.1;
      } in
      goes_on shape state ledger is from to (Ask w txn number table key op) rest here node addressed
      (asked (started (state.world.replicas to)) from w txn number (table, key) op false)
      anyone (λ other. other ≡ txn) [] (steps_of to (state.world.replicas to).part (ask_op txn (table, key) op)) (record {
        follows = follows_asked ledger to (state.world.replicas to).part keeps is.ordered txn (table, key) op place may;
        history = sym (append-nil state.world.history);
        spared = λ name old apart. tt;
        whole = λ name none. absurd (let e : false ≡ true = none in cc);
        entries = λ name new at opened. kept_from (state.world.replicas to).control name (false ≡ true) new opened;
        elsewhere = λ name old apart opened there. tt;
        takes_part = λ name old same opened.
            let both : Some asked_at.entry ≡ Some old = sym asked_at.opened ∙ ap (entry_in shape.nodes state.world) (sym same) ∙ opened in
            subst (λ (entry : Entry). is_among to entry.participants ≡ true) (ap (λ (found : Option Entry). unwrap_or found old) both) asked_at.participates;
        heard = λ name same to_come. begun_not_to_come shape.nodes state.world txn to asked_at.begun (subst (IsToCome shape.nodes state.world) same to_come);
      })

  ask_comes : (w : ℕ) (txn : TxnId) (number : ℕ) (table key : List ℕ) (op : Op) (mark : Bool)
      (here : state.world.mail from to ≡ Ask w txn number table key op ∷ rest) →
      IsAddressed shape.nodes from to (Ask w txn number table key op) →
      Comes (Ask w txn number table key op) here (lone_step own_primary (state.world.replicas to) from (Ask w txn number table key op) mark)
      (message_steps to (state.world.replicas to) (Ask w txn number table key op) mark)
  unfolding lone_step asked
  ask_comes w txn number table key op true here addressed =
      comes_idle (Ask w txn number table key op) here addressed _ refl refl
      (λ name new at opened. kept_from (state.world.replicas to).control name (false ≡ true) new opened)
  ask_comes w txn number table key op false here addressed = ask_done w txn number table key op here addressed

  -- a vote
  prepare_comes : (w : ℕ) (txn : TxnId) (mark : Bool) (here : state.world.mail from to ≡ Prepare w txn ∷ rest) →
      IsAddressed shape.nodes from to (Prepare w txn) →
      Comes (Prepare w txn) here (lone_step own_primary (state.world.replicas to) from (Prepare w txn) mark)
      (steps_of to (state.world.replicas to).part (prepare txn))
  unfolding lone_step prepared
  prepare_comes w txn mark here addressed =
      let runs = prepare_stands shape state.world txn to below (commits.lives txn addressed.session) rest
      (from_home (λ u. Prepare u txn) w txn here addressed.giver addressed.receiver) (own_order txn) in
      let unended : has_ended (ledger.logs to) txn ≡ false = ap (λ (log : List LogEntry). has_ended log txn) (is.logs to below)
      ∙ running_unended (state.world.replicas to).part.log txn runs in
      comes_on (Prepare w txn) here addressed _ anyone [] (steps_of to (state.world.replicas to).part (prepare txn))
      (follows_prepared ledger to (state.world.replicas to).part keeps is.ordered txn unended) (sym (append-nil state.world.history)) (λ name old outside. tt)
      (λ name none. absurd (let e : false ≡ true = none in cc))
      (λ name new at opened. kept_from (state.world.replicas to).control name (false ≡ true) new opened) (λ name old apart opened there. tt)

  -- an end
  finish_follows : (txn : TxnId) (commit : Bool) → is_member txn state.firm ≡ commit → is_open (state.world.replicas to).part.log txn ≡ true →
      Follows ledger to (after_finish (state.world.replicas to).part txn commit) (others_than txn) no_one
      (finish_steps to (state.world.replicas to).part txn commit)
  finish_follows txn commit member opened = by_commit commit member
    where
      unended : has_ended (ledger.logs to) txn ≡ false
      unended = ap (λ (log : List LogEntry). has_ended log txn) (is.logs to below) ∙ open_unended (state.world.replicas to).part.log txn opened

      by_commit : (commit : Bool) → is_member txn state.firm ≡ commit →
          Follows ledger to (after_finish (state.world.replicas to).part txn commit) (others_than txn) no_one
          (finish_steps to (state.world.replicas to).part txn commit)
      by_commit true member = follows_finished ledger to (state.world.replicas to).part keeps is.ordered txn (ap (is_member txn) is.history ∙ member) unended
      by_commit false member = follows_aborted ledger to (state.world.replicas to).part txn keeps is.ordered
          (record { outside = ap (is_member txn) is.history ∙ member; unended = unended })

  -- whoever is told its end is firm exactly where it ends with commit
  told_firm : (w : ℕ) (txn : TxnId) (commit : Bool) → is_member txn state.world.history ≡ commit → TellsFirm state.firm (Finish w txn commit) →
      is_member txn state.firm ≡ commit
  told_firm w txn true decided firm = firm
  told_firm w txn false outside told = not_firm shape state ledger is txn outside

  -- so it waits for nothing
  ends_no_waiting : (txn : TxnId) (commit : Bool) → is_member txn state.world.history ≡ commit → is_member txn state.firm ≡ commit → (name : TxnId) →
      is_member name state.world.history ≡ true →
      is_member name state.firm ≡ false → name ≢ txn
  ends_no_waiting txn true decided firm name old outside same =
      let e : true ≡ false = sym firm ∙ ap (λ t. is_member t state.firm) (sym same) ∙ outside in cc
  ends_no_waiting txn false undecided outside name old other same =
      let e : true ≡ false = sym old ∙ ap (λ t. is_member t state.world.history) same ∙ undecided in cc

  finish_comes : (w : ℕ) (txn : TxnId) (commit mark : Bool) (here : state.world.mail from to ≡ Finish w txn commit ∷ rest) →
      IsAddressed shape.nodes from to (Finish w txn commit) →
      TellsFirm state.firm (Finish w txn commit) →
      Comes (Finish w txn commit) here (lone_step own_primary (state.world.replicas to) from (Finish w txn commit) mark)
      (message_steps to (state.world.replicas to) (Finish w txn commit) mark)
  unfolding lone_step finished
  finish_comes w txn commit mark here addressed told =
      let stands = finish_stands shape state.world txn to below (commits.lives txn addressed.session) commit rest
      (from_home (λ u. Finish u txn commit) w txn here addressed.giver addressed.receiver) (own_order txn) in
      let replica : ReplicaState = state.world.replicas to in
      let firm : is_member txn state.firm ≡ commit = told_firm w txn commit stands.1 told in
      let apart : (name : TxnId) (old : Entry) → entry_in shape.nodes state.world name ≡ Some old → name ≢ txn =
      λ name old opened same. let e : ◌≡◌ {A = Option Entry} None (Some old) = sym stands.0 ∙ ap (entry_in shape.nodes state.world) (sym same) ∙ opened in cc in
      elim (is_open replica.part.log txn) as (λ b. (is_open replica.part.log txn ≡ b) → Comes (Finish w txn commit) here (cond b (with_part (started replica) (after_finish replica.part txn commit)) (started replica))
      (cond b (finish_steps to replica.part txn commit) [])) [
        | true ↦ λ opened. comes_on (Finish w txn commit) here addressed _ (others_than txn) [] (finish_steps to replica.part txn commit)
            (finish_follows txn commit firm opened)
            (sym (append-nil state.world.history)) (ends_no_waiting txn commit stands.1 firm) (λ name none. absurd (let e : false ≡ true = none in cc))
            (λ name new at was.
            let away : name ≢ txn = apart name new (subst (λ v. entry_of (state.world.replicas v).control name ≡ Some new) (sym at) was) in
            inl (new, (was, (same_grows new, away)))) (λ name old away was there. apart name old was)
        | false ↦ λ none. comes_idle (Finish w txn commit) here addressed _ refl refl (λ name new at opened. kept_from replica.control name (false ≡ true) new opened)
      ] refl

  -- any message
  pub message_comes : (content : Content) (mark : Bool) (here : state.world.mail from to ≡ content ∷ rest) → IsAddressed shape.nodes from to content →
      Fits shape.nodes (state.world.replicas to) content →
      TellsFirm state.firm content →
      Comes content here (lone_step own_primary (state.world.replicas to) from content mark) (message_steps to (state.world.replicas to) content mark)
  message_comes (Command w txn number what) mark here addressed fits told = command_comes w txn number what mark here addressed fits.comes
  message_comes (Answer w txn number answer) mark here addressed fits told = answer_comes w txn number answer mark here addressed
  message_comes (Vote w txn) mark here addressed fits told = vote_comes w txn mark here addressed
  message_comes (Ask w txn number table key op) mark here addressed fits told = ask_comes w txn number table key op mark here addressed
  message_comes (Prepare w txn) mark here addressed fits told = prepare_comes w txn mark here addressed
  message_comes (Finish w txn commit) mark here addressed fits told = finish_comes w txn commit mark here addressed told
  message_comes (Outcome txn number outcome) mark here addressed fits told = absurd (node addressed.receiver)
  message_comes Bare mark here addressed fits told = absurd addressed
  message_comes (Inquire w txn) mark here addressed fits told = absurd addressed
  message_comes (Decision w txn commit) mark here addressed fits told = absurd addressed
  message_comes (Log w number entry) mark here addressed fits told = absurd addressed
  message_comes (LogAck w number) mark here addressed fits told = absurd addressed
  message_comes (Repair w other) mark here addressed fits told = absurd addressed
  message_comes (Records w index records) mark here addressed fits told = absurd addressed
  message_comes (Names w index last low txns) mark here addressed fits told = absurd addressed
  message_comes (CopyAck w index) mark here addressed fits told = absurd addressed
