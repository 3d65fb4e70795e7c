-- What a step of a primary tells of commits: nothing, but at an acknowledgement, which tells of what is in the standby's log.
use Rattle.std.proofs.Common.{◌≡◌, ℕ, ◌-◌, ◌≤◌, max, nat_lt, nat_le, get_or, Bool, true, false, ◌&&◌, List, [], ◌∷◌, ◌++◌, map, flat_map, fold, All, Option}
use Rattle.std.proofs.Common.{Some, None, refl, sym, ◌∙◌, ap, subst, arith}
use Rattle.std.proofs.lemmas.Bool.{true≢false, and_parts, leb-true, cond_both}
use Rattle.std.proofs.lemmas.List.Elements.{All-nil, All-cons, All-head, All-tail, All-push, All-append, All-filter, All-weaker, filter_passes}
use Rattle.cl_control.specs.declared.acts.Act.{Act}
use Rattle.cl_control.specs.declared.acts.Act.TheVariants as acts
use Rattle.cl_control.specs.declared.entry.Phase.{Phase}
use Rattle.cl_control.specs.declared.entry.Phase.TheVariants.{Idle, Asked, Preparing, Decided, Logged}
use Rattle.cl_control.specs.declared.entry.Told.{Told}
use Rattle.cl_control.specs.Calls.{commit_acts, command_acts, counts_answer, answered_acts, answer_acts, counts_vote, is_last_vote, vote_acts, committed_acts}
use Rattle.cl_control.specs.Calls.{acts_of_told, up_to, safe_acts, after_safe}
use Rattle.cl_control.specs.State.{ControlState, ascending, participants_of, phase_of}
use Rattle.cl_log.specs.declared.records.LogRec.{LogRec}
use Rattle.cl_log.specs.declared.records.LogRec.TheVariants as records
use Rattle.cl_log.specs.LogEntry.{LogEntry}
use Rattle.cl_log.specs.Open.{is_among, is_open}
use Rattle.cl_paired.proofs.Numbers.{none_between}
use Rattle.cl_paired.specs.Laws.{IsNoAck}
use Rattle.cl_paired.specs.Paired.{IsPaired}
use Rattle.cl_repair.specs.declared.mode.Mode.{Mode}
use Rattle.cl_repair.specs.declared.mode.Mode.TheVariants.{Lone, Pair}
use Rattle.cl_repair.specs.Modes.{ModesState, acked_in, safe_in}
use Rattle.cl_steps.specs.declared.steps.Outgoing.{Outgoing}
use Rattle.cl_system.specs.Firm.{TellsFirm}
use Rattle.cl_types.specs.declared.answers.Answer.{Answer as OpAnswer}
use Rattle.cl_types.specs.declared.answers.Answer.TheVariants as reply
use Rattle.cl_types.specs.declared.answers.Outcome.TheVariants.{Committed}
use Rattle.cl_types.specs.declared.operations.Command.{Command as ClientCommand}
use Rattle.cl_types.specs.declared.operations.Command.TheVariants.{Begin, Work, Commit, Abort}
use Rattle.cl_types.specs.declared.operations.Op.{Op}
use Rattle.cl_types.specs.declared.operations.TxnId.{TxnId}
use Rattle.cl_types.specs.Places.{Place}
use Rattle.cl_vnode.specs.Inputs.{is_decide}
use Rattle.cl_vnode.specs.Replica.{ReplicaState, safe_number}
use Rattle.cl_vnode.specs.Step.{Stepped, started, with_part, with_control, decided, performed, all_performed, commanded, answered, voted, asked, prepared}
use Rattle.cl_vnode.specs.Step.{after_finish, finished, taken, told, entry_told, entries_between, all_told, log_message, log_messages, entries_from, stepped}
use Rattle.cl_wire.specs.Message.{Content, Command, Outcome, Ask, Answer, Prepare, Vote, Finish, Decision, Log, LogAck}
use Rattle.cl_seen.proofs.Beside.{TellsNone}

module _ (P : Content → Type 0) where
  -- what is sent is such
  abbrev AreSuch : List Outgoing → Type 0
  AreSuch sends = All (λ send. P send.payload) sends

  -- the message of an act is such
  abbrev IsSuchAct : Act → Type 0
  IsSuchAct (acts.Ask v txn number table key op) = P (Ask v txn number table key op)
  IsSuchAct (acts.Prepare v txn) = P (Prepare v txn)
  IsSuchAct (acts.Finish v txn commit) = P (Finish v txn commit)
  IsSuchAct (acts.Decide txn) = Unit {0}
  IsSuchAct (acts.Say txn number outcome) = P (Outcome txn number outcome)

  -- an act is performed
  such_performed : (primary : ℕ → ℕ) (done : Stepped) (act : Act) → IsSuchAct act → AreSuch done.step.sends → AreSuch (performed primary done act).step.sends
  unfolding performed decided
  such_performed primary done (acts.Ask v txn number table key op) is so = All-push (λ (send : Outgoing). P send.payload) done.step.sends _ so is
  such_performed primary done (acts.Prepare v txn) is so = All-push (λ (send : Outgoing). P send.payload) done.step.sends _ so is
  such_performed primary done (acts.Finish v txn commit) is so = All-push (λ (send : Outgoing). P send.payload) done.step.sends _ so is
  such_performed primary done (acts.Decide txn) is so = so
  such_performed primary done (acts.Say txn number outcome) is so = All-push (λ (send : Outgoing). P send.payload) done.step.sends _ so is

  -- acts are performed
  such_all : (primary : ℕ → ℕ) (done : Stepped) (list : List Act) → All IsSuchAct list → AreSuch done.step.sends →
      AreSuch (all_performed primary done list).step.sends
  such_all primary done [] are so = so
  such_all primary done (act ∷ list) are so =
      such_all primary (performed primary done act) list (All-tail IsSuchAct act list are)
      (such_performed primary done act (All-head IsSuchAct act list are) so)

  module _ (log_holds : (v number : ℕ) (entry : LogRec) → P (Log v number entry)) where
    -- log records are shipped
    logs_such : (standby v : ℕ) (entries : List LogEntry) → AreSuch (map (log_message standby v) entries)
    logs_such standby v [] = All-nil (λ (send : Outgoing). P send.payload)
    logs_such standby v (entry ∷ entries) =
        All-cons (λ (send : Outgoing). P send.payload) (log_message standby v entry) (map (log_message standby v) entries)
        (log_holds v entry.number entry.content) (logs_such standby v entries)

    -- so they are before what else is sent
    shipped_such : (mode : Mode) (v : ℕ) (entries : List LogEntry) (sends : List Outgoing) → AreSuch sends → AreSuch (log_messages mode v entries ++ sends)
    shipped_such Lone v entries sends so = so
    shipped_such (Pair standby) v entries sends so = All-append (λ (send : Outgoing). P send.payload) (map (log_message standby v) entries) sends
        (logs_such standby v entries) so

-- ---- a step tells of no commit

-- the act tells of no commit
abbrev IsPlain : Act → Type 0
IsPlain act = IsSuchAct TellsNone act

-- to prepare is plain
prepares_plain : (txn : TxnId) (vs : List ℕ) → All IsPlain (map (λ v. acts.Prepare v txn) vs)
prepares_plain txn [] = All-nil IsPlain
prepares_plain txn (v ∷ vs) = All-cons IsPlain (acts.Prepare v txn) (map (λ w. acts.Prepare w txn) vs) tt (prepares_plain txn vs)

-- so are the ends of an abort
aborts_plain : (txn : TxnId) (vs : List ℕ) (more : List Act) → All IsPlain more → All IsPlain (map (λ v. acts.Finish v txn false) vs ++ more)
aborts_plain txn [] more are = are
aborts_plain txn (v ∷ vs) more are = All-cons IsPlain (acts.Finish v txn false) (map (λ w. acts.Finish w txn false) vs ++ more) tt
    (aborts_plain txn vs more are)

-- one act
alone_plain : (act : Act) → IsPlain act → All IsPlain (act ∷ [])
alone_plain act is = All-cons IsPlain act [] is (All-nil IsPlain)

-- those of COMMIT are
commit_plain : (control : ControlState) (txn : TxnId) (vs : List ℕ) → All IsPlain (commit_acts control txn vs)
commit_plain control txn [] = alone_plain (acts.Decide txn) tt
commit_plain control txn (v ∷ vs) = prepares_plain txn (ascending control.nodes (participants_of control txn))

-- those of a command are
command_plain : (control : ControlState) (txn : TxnId) (number : ℕ) (what : ClientCommand) → All IsPlain (command_acts control txn number what)
unfolding command_acts
command_plain control txn number Begin = alone_plain _ tt
command_plain control txn number (Work table key op) = alone_plain _ tt
command_plain control txn number Commit = commit_plain control txn (participants_of control txn)
command_plain control txn number Abort = aborts_plain txn (ascending control.nodes (participants_of control txn)) _ (alone_plain _ tt)

-- those of an answer that counts are
answered_plain : (control : ControlState) (txn : TxnId) (number : ℕ) (answer : OpAnswer) → All IsPlain (answered_acts control txn number answer)
answered_plain control txn number (reply.Done r) = alone_plain _ tt
answered_plain control txn number (reply.Refused holder) = aborts_plain txn (ascending control.nodes (participants_of control txn)) _ (alone_plain _ tt)
answered_plain control txn number reply.NoMemory = aborts_plain txn (ascending control.nodes (participants_of control txn)) _ (alone_plain _ tt)

-- those of any answer are
answer_plain : (control : ControlState) (v : ℕ) (txn : TxnId) (number : ℕ) (answer : OpAnswer) → All IsPlain (answer_acts control v txn number answer)
unfolding answer_acts
answer_plain control v txn number answer =
    cond_both (counts_answer control v txn number) (answered_acts control txn number answer) [] (All IsPlain) (λ _. answered_plain control txn number answer)
    (λ _. All-nil IsPlain)

-- those of a vote are
vote_plain : (control : ControlState) (v : ℕ) (txn : TxnId) → All IsPlain (vote_acts control v txn)
unfolding vote_acts
vote_plain control v txn =
    cond_both (counts_vote control v txn && is_last_vote control v txn) (acts.Decide txn ∷ []) [] (All IsPlain) (λ _. alone_plain (acts.Decide txn) tt)
    (λ _. All-nil IsPlain)

-- nothing is sent
no_sends : All (λ (send : Outgoing). TellsNone send.payload) []
no_sends = All-nil (λ (send : Outgoing). TellsNone send.payload)

-- a message that is taken tells of no commit, and leaves what is acknowledged, where it is no acknowledgement
record IsPlainStep (state : ReplicaState) (done : Stepped) : Type 0 where
  sends : All (λ send. TellsNone send.payload) done.step.sends
  modes : done.state.modes ≡ state.modes

-- an act leaves what is acknowledged
act_modes : (primary : ℕ → ℕ) (done : Stepped) (act : Act) → (performed primary done act).state.modes ≡ done.state.modes
unfolding performed decided
act_modes primary done (acts.Decide txn) = refl
act_modes primary done act = refl

-- so do acts
plain_modes : (primary : ℕ → ℕ) (done : Stepped) (list : List Act) → (all_performed primary done list).state.modes ≡ done.state.modes
plain_modes primary done [] = refl
plain_modes primary done (act ∷ list) = plain_modes primary (performed primary done act) list ∙ act_modes primary done act

-- the controller has changed, and acts are performed
controlled_plain : (primary : ℕ → ℕ) (state : ReplicaState) (control : ControlState) (list : List Act) → All IsPlain list →
    IsPlainStep state (all_performed primary (with_control (started state) control) list)
controlled_plain primary state control list are = record {
  sends = such_all TellsNone primary (with_control (started state) control) list are no_sends;
  modes = plain_modes primary (with_control (started state) control) list;
}

-- an operation is carried out
asked_plain : (state : ReplicaState) (from v : ℕ) (txn : TxnId) (number : ℕ) (place : Place) (op : Op) (short : Bool) →
    IsPlainStep state (asked (started state) from v txn number place op short)
unfolding asked
asked_plain state from v txn number place op true = record { sends = All-push (λ (send : Outgoing). TellsNone send.payload) [] _ no_sends tt; modes = refl }
asked_plain state from v txn number place op false = record { sends = All-push (λ (send : Outgoing). TellsNone send.payload) [] _ no_sends tt; modes = refl }

-- a transaction has ended
finished_plain : (state : ReplicaState) (txn : TxnId) (commit : Bool) → IsPlainStep state (finished (started state) txn commit)
unfolding finished
finished_plain state txn commit =
    cond_both (is_open state.part.log txn) (with_part (started state) (after_finish state.part txn commit)) (started state) (IsPlainStep state)
    (λ _. record { sends = no_sends; modes = refl }) (λ _. record { sends = no_sends; modes = refl })

-- any message but an acknowledgement
taken_plain : (primary : ℕ → ℕ) (state : ReplicaState) (from : ℕ) (content : Content) (short : Bool) → IsNoAck content →
    IsPlainStep state (taken primary (started state) from content short)
unfolding commanded answered voted prepared
taken_plain primary state from (Command v txn number what) short is = controlled_plain primary state _ _ (command_plain state.control txn number what)
taken_plain primary state from (Answer v txn number answer) short is = controlled_plain primary state _ _ (answer_plain state.control v txn number answer)
taken_plain primary state from (Vote v txn) short is = controlled_plain primary state _ _ (vote_plain state.control v txn)
taken_plain primary state from (Ask v txn number table key op) short is = asked_plain state from v txn number (table, key) op short
taken_plain primary state from (Prepare v txn) short is = record { sends = no_sends; modes = refl }
taken_plain primary state from (Finish v txn commit) short is = finished_plain state txn commit
taken_plain primary state from (Decision v txn commit) short is = finished_plain state txn commit
taken_plain primary state from (LogAck v number) short is = absurd is
taken_plain primary state from content short is = record { sends = no_sends; modes = refl }

-- a step of a primary with a standby tells of no commit, where it is no acknowledgement that comes
pub steps_tell_none : (primary : ℕ → ℕ) (state : ReplicaState) (from : ℕ) (content : Content) (short : Bool) → IsPaired state → IsNoAck content →
    All (λ send. TellsNone send.payload) (stepped primary state from content short).step.sends
unfolding all_told
steps_tell_none primary state from content short is no_ack =
    let done : Stepped = taken primary (started state) from content short in
    let plain : IsPlainStep state done = taken_plain primary state from content short no_ack in
    let before : safe_number state ≡ state.modes.acked = ap (λ mode. safe_in mode state.modes.acked (state.part.next - 1)) is.mode in
    let after : safe_number done.state ≡ state.modes.acked
    = ap (λ (m : ModesState). safe_in m.mode m.acked (done.state.part.next - 1)) plain.modes
    ∙ ap (λ mode. safe_in mode state.modes.acked (done.state.part.next - 1)) is.mode in
    let none : all_told primary (safe_number state) done ≡ done
    = ap (λ (number : ℕ). fold (entry_told primary) done (entries_between number (safe_number done.state) done.state.part.log)) before
    ∙ ap (λ (number : ℕ). fold (entry_told primary) done (entries_between state.modes.acked number done.state.part.log)) after
    ∙ ap (fold (entry_told primary) done) (none_between state.modes.acked done.state.part.log) in
    let told_now : Stepped = all_told primary (safe_number state) done in
    shipped_such TellsNone (λ v number entry. tt) told_now.state.modes.mode told_now.state.v
    (entries_from state.part.next told_now.state.part.log) told_now.step.sends
    (subst (λ (d : Stepped). All (λ (send : Outgoing). TellsNone send.payload) d.step.sends) (sym none) plain.sends)

-- ---- an acknowledgement tells of what is firm

module _ (firm : List TxnId) where
  -- the act tells of a firm commit
  abbrev IsFirmAct : Act → Type 0
  IsFirmAct act = IsSuchAct (TellsFirm firm) act

  -- the ends of a firm transaction
  ends_firm : (txn : TxnId) (number : ℕ) → is_among txn firm ≡ true → (vs : List ℕ) →
      All IsFirmAct (map (λ v. acts.Finish v txn true) vs ++ acts.Say txn number Committed ∷ [])
  ends_firm txn number is [] = All-cons IsFirmAct (acts.Say txn number Committed) [] is (All-nil IsFirmAct)
  ends_firm txn number is (v ∷ vs) =
      All-cons IsFirmAct (acts.Finish v txn true) (map (λ w. acts.Finish w txn true) vs ++ acts.Say txn number Committed ∷ []) is (ends_firm txn number is vs)

  -- what is told of a Decide that is safe
  committed_firm : (control : ControlState) (txn : TxnId) → is_among txn firm ≡ true → (phase : Option Phase) → All IsFirmAct (committed_acts control txn phase)
  committed_firm control txn is (Some (Logged number)) = ends_firm txn number is (ascending control.nodes (participants_of control txn))
  committed_firm control txn is (Some Idle) = All-nil IsFirmAct
  committed_firm control txn is (Some (Asked number v)) = All-nil IsFirmAct
  committed_firm control txn is (Some (Preparing number)) = All-nil IsFirmAct
  committed_firm control txn is (Some (Decided number)) = All-nil IsFirmAct
  committed_firm control txn is None = All-nil IsFirmAct

  -- of all of them
  tolds_firm : (control : ControlState) (tolds : List Told) → All (λ told. is_among told.txn firm ≡ true) tolds →
      All IsFirmAct (flat_map (acts_of_told control) tolds)
  tolds_firm control [] are = All-nil IsFirmAct
  tolds_firm control (told ∷ tolds) are =
      All-append IsFirmAct (acts_of_told control told) (flat_map (acts_of_told control) tolds)
      (committed_firm control told.txn (All-head (λ (t : Told). is_among t.txn firm ≡ true) told tolds are) (phase_of control told.txn))
      (tolds_firm control tolds (All-tail (λ (t : Told). is_among t.txn firm ≡ true) told tolds are))

  module _ (primary : ℕ → ℕ) (now : ℕ) where
    -- of what waits up to this number, all is firm
    abbrev IsFirmTold : Told → Type 0
    IsFirmTold told = told.number ≤ now → is_among told.txn firm ≡ true

    -- what is told is of firm transactions, and what waits is firm up to this number
    record IsFirmStep (done : Stepped) : Type 0 where
      sends : All (λ send. TellsFirm firm send.payload) done.step.sends
      waiting : All IsFirmTold done.state.control.waiting

    -- an act that is no Decide leaves what waits
    act_waiting : (done : Stepped) (act : Act) → is_decide act ≡ false → (performed primary done act).state.control.waiting ≡ done.state.control.waiting
    unfolding performed
    act_waiting done (acts.Decide txn) is = absurd (true≢false is)
    act_waiting done act is = refl

    -- so do acts
    kept_waiting : (done : Stepped) (list : List Act) → All (λ act. is_decide act ≡ false) list →
        (all_performed primary done list).state.control.waiting ≡ done.state.control.waiting
    kept_waiting done [] none = refl
    kept_waiting done (act ∷ list) none =
        kept_waiting (performed primary done act) list (All-tail (λ a. is_decide a ≡ false) act list none)
        ∙ act_waiting done act (All-head (λ a. is_decide a ≡ false) act list none)

    -- none of them is a Decide
    ends_none : (txn : TxnId) (number : ℕ) (vs : List ℕ) →
        All (λ act. is_decide act ≡ false) (map (λ v. acts.Finish v txn true) vs ++ acts.Say txn number Committed ∷ [])
    ends_none txn number [] = All-cons (λ a. is_decide a ≡ false) (acts.Say txn number Committed) [] refl (All-nil (λ a. is_decide a ≡ false))
    ends_none txn number (v ∷ vs) =
        All-cons (λ a. is_decide a ≡ false) (acts.Finish v txn true) (map (λ w. acts.Finish w txn true) vs ++ acts.Say txn number Committed ∷ []) refl
        (ends_none txn number vs)

    -- nor is one in what is told of a Decide that is safe
    committed_none : (control : ControlState) (txn : TxnId) (phase : Option Phase) → All (λ act. is_decide act ≡ false) (committed_acts control txn phase)
    committed_none control txn (Some (Logged number)) = ends_none txn number (ascending control.nodes (participants_of control txn))
    committed_none control txn (Some Idle) = All-nil (λ a. is_decide a ≡ false)
    committed_none control txn (Some (Asked number v)) = All-nil (λ a. is_decide a ≡ false)
    committed_none control txn (Some (Preparing number)) = All-nil (λ a. is_decide a ≡ false)
    committed_none control txn (Some (Decided number)) = All-nil (λ a. is_decide a ≡ false)
    committed_none control txn None = All-nil (λ a. is_decide a ≡ false)

    -- nor in what is told of all of them
    tolds_none : (control : ControlState) (tolds : List Told) → All (λ act. is_decide act ≡ false) (flat_map (acts_of_told control) tolds)
    tolds_none control [] = All-nil (λ a. is_decide a ≡ false)
    tolds_none control (told ∷ tolds) =
        All-append (λ a. is_decide a ≡ false) (acts_of_told control told) (flat_map (acts_of_told control) tolds)
        (committed_none control told.txn (phase_of control told.txn)) (tolds_none control tolds)

    -- one record is told
    told_firm : (done : Stepped) (number : ℕ) (content : LogRec) → number ≤ now → IsFirmStep done → IsFirmStep (told primary done number content)
    unfolding told safe_acts after_safe
    told_firm done number (records.Prepared txn) below is = record {
      sends = All-push
          (λ (send : Outgoing). TellsFirm firm send.payload) done.step.sends _ is.sends tt;
      waiting = is.waiting;
    }
    told_firm done number (records.Decide txn) below is =
        let control : ControlState = done.state.control in
        let safe : List Told = up_to number control.waiting in
        let low : All (λ told. nat_le told.number number ≡ true) safe = filter_passes (λ told. nat_le told.number number) control.waiting in
        let firm_ones : All IsFirmTold safe = All-filter (λ told. nat_le told.number number) IsFirmTold control.waiting is.waiting in
        let members : All (λ told. is_among told.txn firm ≡ true) safe
        = λ k d h. firm_ones k d h (let most = leb-true (get_or safe k d).number number (low k d h) in omega (arith, most, below)) in
        let next : Stepped = with_control done (after_safe control number) in
        let list : List Act = flat_map (acts_of_told control) safe in
        record {
          sends = such_all (TellsFirm firm) primary next list (tolds_firm control safe members) is.sends;
          waiting = subst (All IsFirmTold) (sym (kept_waiting next list (tolds_none control safe)))
              (All-filter (λ told. nat_lt number told.number) IsFirmTold control.waiting is.waiting);
        }
    told_firm done number content below is = is

    -- records are told
    entries_firm : (done : Stepped) (entries : List LogEntry) → All (λ entry. entry.number ≤ now) entries → IsFirmStep done →
        IsFirmStep (fold (entry_told primary) done entries)
    entries_firm done [] below is = is
    entries_firm done (entry ∷ entries) below is =
        entries_firm (entry_told primary done entry) entries (All-tail (λ (e : LogEntry). e.number ≤ now) entry entries below)
        (told_firm done entry.number entry.content (All-head (λ (e : LogEntry). e.number ≤ now) entry entries below) is)

  -- an acknowledgement tells of what is firm, where all is firm that waits and is acknowledged then
  pub acks_tell_firm : (primary : ℕ → ℕ) (state : ReplicaState) (from v number : ℕ) (short : Bool) → IsPaired state →
      All (λ told. told.number ≤ max state.modes.acked number → is_among told.txn firm ≡ true) state.control.waiting →
      All (λ send. TellsFirm firm send.payload) (stepped primary state from (LogAck v number) short).step.sends
  unfolding all_told
  acks_tell_firm primary state from v number short is waiting =
      let now : ℕ = max state.modes.acked number in
      let noted : Stepped = taken primary (started state) from (LogAck v number) short in
      let after : safe_number noted.state ≡ now
      = ap (λ mode. safe_in mode (acked_in mode state.modes.acked number) (state.part.next - 1)) is.mode in
      let entries : List LogEntry = entries_between (safe_number state) (safe_number noted.state) noted.state.part.log in
      let below : All (λ entry. entry.number ≤ now) entries
      = All-weaker (λ entry. (nat_lt (safe_number state) entry.number && nat_le entry.number (safe_number noted.state)) ≡ true) (λ entry. entry.number ≤ now)
      (λ entry h. let most : entry.number ≤ safe_number noted.state
      = leb-true entry.number (safe_number noted.state) (and_parts (nat_lt (safe_number state) entry.number)
      (nat_le entry.number (safe_number noted.state)) h).1 in
      omega (arith, most, after)) entries
      (filter_passes (λ entry. nat_lt (safe_number state) entry.number && nat_le entry.number (safe_number noted.state)) noted.state.part.log) in
      let told_now : Stepped = all_told primary (safe_number state) noted in
      let firm_now : IsFirmStep primary now told_now
      = entries_firm primary now noted entries below (record { sends = All-nil (λ (send : Outgoing). TellsFirm firm send.payload); waiting = waiting }) in
      shipped_such (TellsFirm firm) (λ v n entry. tt) told_now.state.modes.mode told_now.state.v
      (entries_from state.part.next told_now.state.part.log) told_now.step.sends firm_now.sends
