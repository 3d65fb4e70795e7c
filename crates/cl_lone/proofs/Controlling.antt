-- What a controller's call does where it gives no Decide.
use Rattle.std.proofs.Common.{◌≡◌, ℕ, Bool, true, false, ◌&&◌, List, [], ◌∷◌, All, Option, Some, None, option_map, refl, sym, ◌∙◌, ap, subst, append_assoc}
use Rattle.std.specs.Option.{option_map_or}
use Rattle.std.proofs.lemmas.Bool.{true≢false, or_parts, cond-false, cond_both}
use Rattle.std.proofs.lemmas.List.{append-nil}
use Rattle.std.proofs.lemmas.List.Elements.{All-push, All-filter}
use Rattle.cl_types.specs.declared.answers.Answer.{Answer}
use Rattle.cl_types.specs.declared.answers.Answer.TheVariants as reply
use Rattle.cl_types.specs.declared.operations.Command.{Command}
use Rattle.cl_types.specs.declared.operations.Command.TheVariants.{Begin, Work, Commit, Abort}
use Rattle.cl_types.specs.declared.operations.TxnId.{TxnId}
use Rattle.cl_types.specs.Placement.{virtual_node_of}
use Rattle.cl_control.specs.declared.acts.Act.{Act}
use Rattle.cl_control.specs.declared.acts.Act.TheVariants as acts
use Rattle.cl_control.specs.declared.entry.Phase.TheVariants.{Idle}
use Rattle.cl_control.specs.Calls.{MayCommand, asked, committing, commit_phase, commit_acts, command_acts, after_command, counts_answer, after_answered, after_answer, counts_vote, is_last_vote, voted, after_vote}
use Rattle.cl_control.specs.Laws as law
use Rattle.cl_control.specs.Sound.{IsSoundControl, is_logged_here, has_decide as is_decided}
use Rattle.cl_control.specs.State.{Entry, ControlState, new_entry, entry_of, participants_of, is_unanimous, with_phase, with_vote, with_changed, without_entry}
use Rattle.cl_control.proofs.CallSoundness.{calls_keep_sound, undecided-not_logged}
use Rattle.cl_control.proofs.Entries.{All-found, All-changed, All-changed_found}
use Rattle.cl_control.proofs.Kept.{phase-found, voting-found}
use Rattle.cl_control.proofs.Soundness.{sound-without}
use Rattle.cl_steps.specs.declared.steps.Outgoing.{Outgoing}
use Rattle.cl_vnode.specs.Inputs.{is_decide, has_decide}
use Rattle.cl_repair.specs.declared.mode.Mode.TheVariants.{Lone}
use Rattle.cl_vnode.specs.Replica.{ReplicaState, safe_number}
use Rattle.cl_vnode.specs.Step.{Stepped, started, with_control, performed, all_performed, all_told}
use Rattle.cl_vnode.proofs.Performing.{with_messages}
use Rattle.cl_lone.specs.Lone.{message_of, messages_of, controlled}
use Rattle.cl_lone.proofs.Growing.{IsBelow, grown-none, none_told}

-- ---- acts without a Decide

performed_one : (primary : ℕ → ℕ) (done : Stepped) (act : Act) → is_decide act ≡ false → performed primary done act ≡ with_messages done (message_of primary act)
unfolding performed
performed_one primary done (acts.Ask v txn number table key op) none = refl
performed_one primary done (acts.Prepare v txn) none = refl
performed_one primary done (acts.Finish v txn commit) none = refl
performed_one primary done (acts.Decide txn) none = absurd (true≢false none)
performed_one primary done (acts.Say txn number outcome) none = refl

-- their messages are sent, and the replica stays
pub all_sent : (primary : ℕ → ℕ) (done : Stepped) (list : List Act) → has_decide list ≡ false → all_performed primary done list ≡ with_messages done (messages_of primary list)
all_sent primary done [] none = ap (λ (ms : List Outgoing). record done { step = record done.step { sends = ms } }) (sym (append-nil done.step.sends))
all_sent primary done (act ∷ list) none =
    let parts = or_parts (is_decide act) (has_decide list) none in
    ap (λ (d : Stepped). all_performed primary d list) (performed_one primary done act parts.0)
    ∙ all_sent primary (with_messages done (message_of primary act)) list parts.1
    ∙ ap (λ (ms : List Outgoing). record done { step = record done.step { sends = ms } }) (append_assoc done.step.sends (message_of primary act) (messages_of primary list))

-- and nothing becomes safe
pub controlled_told : (primary : ℕ → ℕ) (state : ReplicaState) (control : ControlState) (list : List Act) → IsBelow state.part → state.modes.mode ≡ Lone →
    has_decide list ≡ false →
    all_told primary (safe_number state) (all_performed primary (with_control (started state) control) list) ≡ controlled primary state control list
controlled_told primary state control list is alone none =
    ap (all_told primary (safe_number state)) (all_sent primary (with_control (started state) control) list none)
    ∙ none_told primary state is alone (controlled primary state control list) (grown-none state.part is)

-- ---- between two steps

-- the transaction is not decided
abbrev pub IsUndecided : Entry → Type 0
IsUndecided entry = is_decided entry.phase ≡ false

-- a controller between two steps: no Decide waits, and no open transaction is decided
pub record IsCalmControl (control : ControlState) : Type 0 where
  pub sound : IsSoundControl control
  pub none_waits : control.waiting ≡ []
  pub undecided : All IsUndecided control.transactions

module _ (control : ControlState) (calm : IsCalmControl control) where
  -- of no transaction a log number was told
  pub not_logged : (txn : TxnId) → is_logged_here control txn ≡ false
  not_logged txn = undecided-not_logged control txn (by (entry_of control txn) refl)
    where
      by : (found : Option Entry) → entry_of control txn ≡ found → option_map_or is_decided (option_map (λ entry. entry.phase) found) false ≡ false
      by None is = refl
      by (Some entry) is = All-found txn IsUndecided control.transactions entry calm.undecided is

  pub calm-without : (txn : TxnId) → IsCalmControl (without_entry control txn)
  calm-without txn = record {
    sound = sound-without control txn calm.sound (not_logged txn);
    none_waits = calm.none_waits;
    undecided = All-filter _ IsUndecided control.transactions calm.undecided;
  }

  -- ---- a command

  still-undecided : (txn : TxnId) (number : ℕ) (vs : List ℕ) → has_decide (commit_acts control txn vs) ≡ false → is_decided (commit_phase number vs) ≡ false
  still-undecided txn number [] none = absurd (true≢false none)
  still-undecided txn number (v ∷ vs) none = refl

  pub calm-after_command : (txn : TxnId) (number : ℕ) (what : Command) → MayCommand control txn what → has_decide (command_acts control txn number what) ≡ false →
      IsCalmControl (after_command control txn number what)
  unfolding command_acts after_command
  calm-after_command txn number Begin may none = record {
    sound = calls_keep_sound control (law.command txn number Begin) calm.sound may;
    none_waits = calm.none_waits;
    undecided = All-push IsUndecided control.transactions (new_entry txn) calm.undecided refl;
  }
  calm-after_command txn number (Work table key op) may none = record {
    sound = calls_keep_sound control (law.command txn number (Work table key op)) calm.sound may;
    none_waits = calm.none_waits;
    undecided = All-changed txn IsUndecided (asked number (virtual_node_of key control.nodes)) control.transactions calm.undecided (λ entry h. refl);
  }
  calm-after_command txn number Commit may none =
      let found = phase-found control txn Idle may in
      let are : participants_of control txn ≡ found.0.participants = ap (λ (o : Option Entry). option_map_or (λ (x : Entry). x.participants) o []) found.1 in
      record {
        sound = calls_keep_sound control (law.command txn number Commit) calm.sound may;
        none_waits = calm.none_waits;
        undecided = All-changed_found txn IsUndecided (committing number) control.transactions found.0 calm.undecided calm.sound.names found.1
            (still-undecided txn number found.0.participants (subst (λ vs. has_decide (commit_acts control txn vs) ≡ false) are none));
      }
  calm-after_command txn number Abort may none = calm-without txn

  -- ---- an answer

  calm-answered : (txn : TxnId) (answer : Answer) → ((after_answered control txn answer).waiting ≡ []) × All IsUndecided (after_answered control txn answer).transactions
  calm-answered txn (reply.Done r) = (calm.none_waits, All-changed txn IsUndecided (with_phase Idle) control.transactions calm.undecided (λ entry h. refl))
  calm-answered txn (reply.Refused holder) = let ended = calm-without txn in (ended.none_waits, ended.undecided)
  calm-answered txn reply.NoMemory = let ended = calm-without txn in (ended.none_waits, ended.undecided)

  pub calm-after_answer : (v : ℕ) (txn : TxnId) (number : ℕ) (answer : Answer) → IsCalmControl (after_answer control v txn number answer)
  unfolding after_answer
  calm-after_answer v txn number answer =
      let rest : ((after_answer control v txn number answer).waiting ≡ []) × All IsUndecided (after_answer control v txn number answer).transactions =
      cond_both (counts_answer control v txn number) (after_answered control txn answer) control (λ (after : ControlState). (after.waiting ≡ []) × All IsUndecided after.transactions)
      (λ _. calm-answered txn answer) (λ _. (calm.none_waits, calm.undecided)) in
      record { sound = calls_keep_sound control (law.answer v txn number answer) calm.sound tt; none_waits = rest.0; undecided = rest.1 }

  -- ---- a vote that is not the last

  not_last : (counts last : Bool) → (counts && last) ≡ false → counts ≡ true → last ≡ false
  not_last true last none is = none
  not_last false last none is = absurd (true≢false (sym is))

  calm-voted : (v : ℕ) (txn : TxnId) → counts_vote control v txn ≡ true → is_last_vote control v txn ≡ false → All IsUndecided (with_changed control txn (voted v)).transactions
  calm-voted v txn counts last =
      let found = voting-found control v txn counts in
      let more : is_unanimous (with_vote v found.0) ≡ false = sym (ap (λ (o : Option Entry). option_map_or (λ (x : Entry). is_unanimous (with_vote v x)) o false) found.1) ∙ last in
      All-changed_found txn IsUndecided (voted v) control.transactions found.0 calm.undecided calm.sound.names found.1
      (ap (λ (x : Entry). is_decided x.phase) (cond-false _ _ (with_vote v found.0) more) ∙ All-found txn IsUndecided control.transactions found.0 calm.undecided found.1)

  pub calm-after_vote : (v : ℕ) (txn : TxnId) → (counts_vote control v txn && is_last_vote control v txn) ≡ false → IsCalmControl (after_vote control v txn)
  unfolding after_vote
  calm-after_vote v txn none =
      let rest : ((after_vote control v txn).waiting ≡ []) × All IsUndecided (after_vote control v txn).transactions =
      cond_both (counts_vote control v txn) (with_changed control txn (voted v)) control (λ (after : ControlState). (after.waiting ≡ []) × All IsUndecided after.transactions)
      (λ counts. (calm.none_waits, calm-voted v txn counts (not_last _ _ none counts))) (λ _. (calm.none_waits, calm.undecided)) in
      record { sound = calls_keep_sound control (law.vote v txn) calm.sound tt; none_waits = rest.0; undecided = rest.1 }
