-- What a controller keeps in a call that gives no Decide: which transactions wait to be told, and how they are found.
use Rattle.std.proofs.Common.{◌≡◌, ℕ, Bool, true, false, cond, ◌&&◌, not, List, [], ◌∷◌, ◌++◌, get_or, All, Option, Some, None, option_map, refl, sym, ap, ◌∙◌, subst}
use Rattle.std.specs.Option.{option_map_or, option_or}
use Rattle.std.proofs.lemmas.Bool.{true≢false, false≢true, cond-false, and_parts, not_from_false}
use Rattle.std.proofs.lemmas.List.{append-nil}
use Rattle.std.proofs.lemmas.List.Elements.{All-push, All-filter}
use Rattle.std.proofs.lemmas.List.Folds.{find-append}
use Rattle.cl_types.specs.declared.answers.Answer.{Answer}
use Rattle.cl_types.specs.declared.answers.Answer.TheVariants as reply
use Rattle.cl_types.specs.declared.operations.Command.{Command}
use Rattle.cl_types.specs.declared.operations.Command.TheVariants.{Begin, Work, Commit, Abort}
use Rattle.cl_types.specs.declared.operations.TxnId.{TxnId}
use Rattle.cl_types.specs.Placement.{virtual_node_of}
use Rattle.cl_types.specs.Transactions.{same_txn}
use Rattle.cl_types.proofs.Transactions.{same_txn-true}
use Rattle.cl_log.specs.LogEntry.{LogEntry}
use Rattle.cl_control.specs.declared.entry.Phase.TheVariants.{Idle}
use Rattle.cl_control.specs.declared.entry.Told.{Told}
use Rattle.cl_control.specs.Calls.{MayCommand, asked, committing, commit_phase, commit_acts, command_acts, after_command, is_asked, counts_answer, after_answered, after_answer, awaits_vote, is_preparing, counts_vote, is_last_vote, voted, after_vote}
use Rattle.cl_control.specs.Laws as law
use Rattle.cl_control.specs.Sound.{IsSoundControl, is_decided_here, is_logged_here, has_decide as is_decided}
use Rattle.cl_control.specs.State.{Entry, ControlState, new_entry, entry_of, entry_named, participants_of, is_unanimous, with_phase, with_vote, with_new, with_changed, without_entry}
use Rattle.cl_control.proofs.CallSoundness.{calls_keep_sound, asked-undecided, undecided-not_logged}
use Rattle.cl_control.proofs.Entries.{All-changed_found, entry_named-changed_other}
use Rattle.cl_control.proofs.EntrySoundness.{preparing-undecided}
use Rattle.cl_control.proofs.Kept.{phase-found, voting-found, voted-name, idle-not_logged}
use Rattle.cl_control.proofs.Soundness.{logged-found, apart_from_logged}
use Rattle.cl_vnode.specs.Inputs.{has_decide}
use Rattle.cl_paired.specs.Paired.{tolds_of}
use Rattle.cl_paired.proofs.Filters.{found-kept}
use Rattle.cl_paired.proofs.Seeing.{IsAwaited, IsKept}

-- a transaction that waits for a vote prepares
pub awaits-preparing : (v : ℕ) (entry : Entry) → awaits_vote v entry ≡ true → is_preparing entry.phase ≡ true
awaits-preparing v entry waits = (and_parts _ _ (and_parts _ _ waits).0).0

module _ (control : ControlState) (sound : IsSoundControl control) (decided : All (IsAwaited control.waiting) control.transactions) where
  -- where nothing changes and no Decide is appended
  pub kept-same : (news : List LogEntry) → tolds_of news ≡ [] → IsKept control control news
  kept-same news none = record {
    sound = sound;
    nodes = refl;
    waiting = sym (append-nil control.waiting) ∙ ap (λ (ts : List Told). control.waiting ++ ts) (sym none);
    decided = decided;
    alike = λ k d h. refl;
  }

  -- ---- one transaction changes, begins or ends

  module _ (txn : TxnId) where
    -- one changes that is not decided, and stays so
    kept-changed : (change : Entry → Entry) → ((x : Entry) → (change x).txn ≡ x.txn) → (entry : Entry) → entry_of control txn ≡ Some entry →
        is_logged_here control txn ≡ false →
        is_decided (change entry).phase ≡ false → IsSoundControl (with_changed control txn change) → IsKept control (with_changed control txn change) []
    kept-changed change keeps entry found not_logged undecided good = record {
      sound = good;
      nodes = refl;
      waiting = sym (append-nil control.waiting);
      decided = All-changed_found txn (IsAwaited control.waiting) change control.transactions entry decided sound.names found
          (λ t. absurd (true≢false (sym t ∙ undecided)));
      alike = λ k d h. entry_named-changed_other txn change keeps (get_or control.waiting k d).txn control.transactions
          (apart_from_logged control txn (get_or control.waiting k d).txn not_logged (sound.logged k d h));
    }

    -- one ends of which no log number was told
    kept-without : is_logged_here control txn ≡ false → IsSoundControl (without_entry control txn) → IsKept control (without_entry control txn) []
    kept-without not_logged good = record {
      sound = good;
      nodes = refl;
      waiting = sym (append-nil control.waiting);
      decided = All-filter (λ entry. not (same_txn txn entry.txn)) (IsAwaited control.waiting) control.transactions decided;
      alike = λ k d h. other (get_or control.waiting k d).txn (sound.logged k d h);
    }
      where
        other : (name : TxnId) → is_logged_here control name ≡ true → entry_of (without_entry control txn) name ≡ entry_of control name
        other name logged =
            found-kept name (λ entry. not (same_txn txn entry.txn)) control.transactions
            (λ entry same. not_from_false _ (ap (same_txn txn) (sym (same_txn-true name entry.txn same))
            ∙ apart_from_logged control txn name not_logged logged))

    -- one begins
    kept-new : IsSoundControl (with_new control txn) → IsKept control (with_new control txn) []
    kept-new good = record {
      sound = good;
      nodes = refl;
      waiting = sym (append-nil control.waiting);
      decided = All-push (IsAwaited control.waiting) control.transactions (new_entry txn) decided (λ t. absurd (false≢true t));
      alike = λ k d h. other (get_or control.waiting k d).txn (sound.logged k d h);
    }
      where
        other : (name : TxnId) → is_logged_here control name ≡ true → entry_of (with_new control txn) name ≡ entry_of control name
        other name logged =
            let found = logged-found control.transactions name logged in
            find-append (λ entry. same_txn name entry.txn) control.transactions (new_entry txn ∷ [])
            ∙ ap (λ (o : Option Entry). option_or o (entry_named name (new_entry txn ∷ []))) found.1 ∙ sym found.1

  -- ---- a command

  -- COMMIT with participants decides nothing yet
  still-undecided : (txn : TxnId) (number : ℕ) (vs : List ℕ) → has_decide (commit_acts control txn vs) ≡ false → is_decided (commit_phase number vs) ≡ false
  still-undecided txn number [] none = absurd (true≢false none)
  still-undecided txn number (v ∷ vs) none = refl

  -- a command without a Decide
  pub kept-command : (txn : TxnId) (number : ℕ) (what : Command) → MayCommand control txn what → has_decide (command_acts control txn number what) ≡ false →
      IsKept control (after_command control txn number what) []
  unfolding command_acts after_command
  kept-command txn number Begin may none = kept-new txn (calls_keep_sound control (law.command txn number Begin) sound may)
  kept-command txn number (Work table key op) may none =
      let found = phase-found control txn Idle may in
      kept-changed txn (asked number (virtual_node_of key control.nodes)) (λ x. refl) found.0 found.1 (idle-not_logged control txn may) refl
      (calls_keep_sound control (law.command txn number (Work table key op)) sound may)
  kept-command txn number Commit may none =
      let found = phase-found control txn Idle may in
      let are : participants_of control txn ≡ found.0.participants = ap (λ (o : Option Entry). option_map_or (λ (x : Entry). x.participants) o []) found.1 in
      kept-changed txn (committing number) (λ x. refl) found.0 found.1 (idle-not_logged control txn may)
      (still-undecided txn number found.0.participants (subst (λ vs. has_decide (commit_acts control txn vs) ≡ false) are none))
      (calls_keep_sound control (law.command txn number Commit) sound may)
  kept-command txn number Abort may none =
      kept-without txn (idle-not_logged control txn may) (calls_keep_sound control (law.command txn number Abort) sound may)

  -- ---- an answer

  -- the transaction of an answer that counts is open
  answered_found : (v : ℕ) (txn : TxnId) (number : ℕ) → counts_answer control v txn number ≡ true → (entry : Entry) × (entry_of control txn ≡ Some entry)
  answered_found v txn number counts = by (entry_of control txn) refl counts
    where
      by : (found : Option Entry) → entry_of control txn ≡ found → option_map_or (is_asked number v) (option_map (λ entry. entry.phase) found) false ≡ true →
          (entry : Entry) × (entry_of control txn ≡ Some entry)
      by None e k = absurd (false≢true k)
      by (Some entry) e k = (entry, e)

  -- an answer that counts
  kept-answered : (txn : TxnId) (entry : Entry) → entry_of control txn ≡ Some entry → is_logged_here control txn ≡ false → (answer : Answer) →
      IsSoundControl (after_answered control txn answer) → IsKept control (after_answered control txn answer) []
  kept-answered txn entry found not_logged (reply.Done r) good = kept-changed txn (with_phase Idle) (λ x. refl) entry found not_logged refl good
  kept-answered txn entry found not_logged (reply.Refused holder) good = kept-without txn not_logged good
  kept-answered txn entry found not_logged reply.NoMemory good = kept-without txn not_logged good

  -- any answer
  pub kept-answer : (v : ℕ) (txn : TxnId) (number : ℕ) (answer : Answer) → IsKept control (after_answer control v txn number answer) []
  unfolding after_answer
  kept-answer v txn number answer =
      let after : ControlState = after_answered control txn answer in
      let good : IsSoundControl (cond (counts_answer control v txn number) after control) =
      calls_keep_sound control (law.answer v txn number answer) sound tt in
      by (counts_answer control v txn number) refl good
    where
      by : (b : Bool) → counts_answer control v txn number ≡ b → IsSoundControl (cond b (after_answered control txn answer) control) →
          IsKept control (cond b (after_answered control txn answer) control) []
      by true counts good =
          let found = answered_found v txn number counts in
          kept-answered txn found.0 found.1 (undecided-not_logged control txn (asked-undecided control v txn number counts)) answer good
      by false ignored good = kept-same [] refl

  -- ---- a vote that is not the last

  -- a transaction of which a vote counts is not decided
  pub voting-undecided : (v : ℕ) (txn : TxnId) → counts_vote control v txn ≡ true → is_decided_here control txn ≡ false
  voting-undecided v txn counts =
      let found = voting-found control v txn counts in
      ap (λ (o : Option Entry). option_map_or is_decided (option_map (λ (x : Entry). x.phase) o) false) found.1
      ∙ preparing-undecided found.0.phase (awaits-preparing v found.0 found.2)

  -- the vote
  pub kept-vote : (v : ℕ) (txn : TxnId) → (counts_vote control v txn && is_last_vote control v txn) ≡ false → IsKept control (after_vote control v txn) []
  unfolding after_vote
  kept-vote v txn more =
      let good : IsSoundControl (cond (counts_vote control v txn) (with_changed control txn (voted v)) control) =
      calls_keep_sound control (law.vote v txn) sound tt in
      by (counts_vote control v txn) refl more good
    where
      by : (b : Bool) → counts_vote control v txn ≡ b → (b && is_last_vote control v txn) ≡ false →
          IsSoundControl (cond b (with_changed control txn (voted v)) control) →
          IsKept control (cond b (with_changed control txn (voted v)) control) []
      by true counts last good =
          let found = voting-found control v txn counts in
          let open_votes : is_unanimous (with_vote v found.0) ≡ false =
          sym (ap (λ (o : Option Entry). option_map_or (λ (x : Entry). is_unanimous (with_vote v x)) o false) found.1) ∙ last in
          kept-changed txn (voted v) (voted-name v) found.0 found.1 (undecided-not_logged control txn (voting-undecided v txn counts))
          (ap (λ (x : Entry). is_decided x.phase) (cond-false _ _ (with_vote v found.0) open_votes)
          ∙ preparing-undecided found.0.phase (awaits-preparing v found.0 found.2)) good
      by false ignored last good = kept-same [] refl
