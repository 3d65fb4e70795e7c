-- Decides, and what follows them.
use Rattle.std.proofs.Common.{◌≡◌, ◌≢◌, ℕ, Bool, true, false, ◌&&◌, not, ◌⊎◌, flat_map, List, [], ◌∷◌, All, Contains, Option, Some, None, option_map, refl, sym, ap, ◌∙◌, subst, inl, inr, true≢false}
use Rattle.std.specs.List.{list_all}
use Rattle.std.specs.Option.{option_map_or, option_or}
use Rattle.std.proofs.lemmas.Bool.{cond-true, cases_Bool, and_parts, or_cases, not_from_false, cond_both, false≢true}
use Rattle.std.proofs.lemmas.List.Elements.{All-nil, All-contains, Contains-append_left, Contains-append_right, Contains-push}
use Rattle.std.proofs.lemmas.List.Folds.{find-append}
use Rattle.cl_types.specs.declared.answers.Answer.{Answer}
use Rattle.cl_types.specs.declared.answers.Answer.TheVariants as reply
use Rattle.cl_types.specs.declared.answers.Outcome.{Outcome}
use Rattle.cl_types.specs.declared.answers.Outcome.TheVariants.{Done, Begun, Committed}
use Rattle.cl_types.specs.declared.operations.Command.{Command}
use Rattle.cl_types.specs.declared.operations.Command.TheVariants.{Begin, Work, Commit, Abort}
use Rattle.cl_types.specs.declared.operations.TxnId.{TxnId}
use Rattle.cl_types.specs.Placement.{virtual_node_of}
use Rattle.cl_types.specs.Transactions.{same_txn}
use Rattle.cl_types.proofs.Transactions.{same_txn-true, same_txn-false}
use Rattle.cl_control.specs.declared.acts.Act.{Act}
use Rattle.cl_control.specs.declared.acts.Act.TheVariants.{Ask, Prepare, Finish, Decide, Say}
use Rattle.cl_control.specs.declared.entry.Phase.{Phase}
use Rattle.cl_control.specs.declared.entry.Phase.TheVariants.{Idle, Asked, Preparing, Decided, Logged}
use Rattle.cl_control.specs.declared.entry.Told.{Told}
use Rattle.cl_control.specs.State.{Entry, ControlState, entry_named, entry_of, phase_of, participants_of, new_entry, with_new, with_changed, without_entry, changed, is_among, is_unanimous, with_phase, with_vote}
use Rattle.cl_control.specs.Calls.{MayCommand, asked, finishes, committed_acts, after_answered, counts_number, with_number, numbered, logged, is_logged, is_told, after_decided_at, after_safe, commit_phase, committing, command_acts, after_command, answered_acts, answer_acts, after_answer, counts_answer, vote_acts, after_vote, counts_vote, is_last_vote, voted, decided, is_decided, is_preparing, acts_of_told, up_to, safe_acts}
use Rattle.cl_control.specs.Laws.{Call, command, answer, vote, decided_at, safe_up_to, acts_of, after_call, Gives, BecomesDecided, DecideHasEveryVote, StaysDecided, NothingAbortsAfterDecide}
use Rattle.cl_control.specs.Sound.{has_decide, is_decided_here}
use Rattle.cl_control.proofs.Entries.{open-found, not_open-found, found-name, entry_named-changed, entry_named-changed_other, entry_named-filter}
use Rattle.cl_control.proofs.GivenActs.{All-one, All-if, All-abort_acts, All-commit_acts, All-flat_map, All-committed_acts}
use Rattle.cl_control.proofs.CallSoundness.{asked-undecided}
use Rattle.cl_control.proofs.EntrySoundness.{preparing-undecided}
use Rattle.cl_control.proofs.Kept.{phase-found, voting-found, voted-name}

-- ---- a Decide has every vote

module _ (txn : TxnId) (Q : Type 0) where
  -- a Decide of the transaction has made this so
  abbrev Decides : Act → Type 0
  Decides act = act ≡ Decide txn → Q

  decides_of_answered : (state : ControlState) (of : TxnId) (n : ℕ) (a : Answer) → All Decides (answered_acts state of n a)
  decides_of_answered state of n (reply.Done r) = All-one Decides _ (λ e. absurd (cc))
  decides_of_answered state of n (reply.Refused holder) = All-abort_acts Decides state of n _ (λ v e. absurd (cc)) (λ e. absurd (cc))
  decides_of_answered state of n reply.NoMemory = All-abort_acts Decides state of n _ (λ v e. absurd (cc)) (λ e. absurd (cc))

  decides_of_safe : (state : ControlState) (safe : ℕ) → All Decides (safe_acts state safe)
  unfolding safe_acts
  decides_of_safe state safe =
      All-flat_map Decides state (acts_of_told state) (up_to safe state.waiting) (λ k d h. All-committed_acts Decides state _ (phase_of state _) (λ v e. absurd (cc)) (λ n e. absurd (cc)))

decided-preparing : (phase : Phase) → is_preparing phase ≡ true → is_decided (decided phase) ≡ true
decided-preparing (Preparing number) h = refl
decided-preparing Idle h = absurd (false≢true h)
decided-preparing (Asked number v) h = absurd (false≢true h)
decided-preparing (Decided number) h = refl
decided-preparing (Logged number) h = absurd (false≢true h)

-- COMMIT without participants
becomes-committed : (state : ControlState) (txn : TxnId) (number : ℕ) → phase_of state txn ≡ Some Idle → participants_of state txn ≡ [] → BecomesDecided state (after_command state txn number Commit) txn
unfolding after_command
becomes-committed state txn number idle none =
    let found = phase-found state txn Idle idle in
    let alone : found.0.participants ≡ [] = sym (ap (λ o. option_map_or (λ entry. entry.participants) o []) found.1) ∙ none in
    record {
      open_before = open-found txn state.transactions found.0 found.1;
      undecided = ap (λ o. option_map_or has_decide o false) idle;
      entry = committing number found.0;
      found = entry_named-changed txn (committing number) (λ x. refl) state.transactions ∙ ap (option_map (committing number)) found.1;
      decided = ap (λ vs. is_decided (commit_phase number vs)) alone;
      voted = ap (list_all (λ v. is_among v found.0.votes)) alone;
    }

-- the last vote
becomes-voted : (state : ControlState) (v : ℕ) (txn : TxnId) → counts_vote state v txn ≡ true → is_last_vote state v txn ≡ true → BecomesDecided state (after_vote state v txn) txn
unfolding after_vote
becomes-voted state v txn counts last =
    let found = voting-found state v txn counts in
    let preparing = (and_parts _ _ (and_parts _ _ found.2).0).0 in
    let every : is_unanimous (with_vote v found.0) ≡ true = sym (ap (λ o. option_map_or (λ entry. is_unanimous (with_vote v entry)) o false) found.1) ∙ last in
    let is : voted v found.0 ≡ with_phase (decided found.0.phase) (with_vote v found.0) = cond-true _ _ _ every in
    record {
      open_before = open-found txn state.transactions found.0 found.1;
      undecided = ap (λ o. option_map_or has_decide (option_map (λ entry. entry.phase) o) false) found.1 ∙ preparing-undecided found.0.phase preparing;
      entry = voted v found.0;
      found = ap (λ s. entry_of s txn) (cond-true _ _ _ counts) ∙ entry_named-changed txn (voted v) (voted-name v) state.transactions ∙ ap (option_map (voted v)) found.1;
      decided = ap (λ x. is_decided x.phase) is ∙ decided-preparing found.0.phase preparing;
      voted = ap is_unanimous is ∙ every;
    }

pub decide_has_every_vote : DecideHasEveryVote
unfolding command_acts answer_acts vote_acts
decide_has_every_vote state (command of n Begin) txn may h = absurd (All-contains (Decides txn ⊥) (Say of n Begun ∷ []) _ (All-one (Decides txn ⊥) (Say of n Begun) (λ e. cc)) h refl)
decide_has_every_vote state (command of n (Work table key op)) txn may h =
    absurd (All-contains (Decides txn ⊥) (Ask (virtual_node_of key state.nodes) of n table key op ∷ []) _ (All-one (Decides txn ⊥) (Ask (virtual_node_of key state.nodes) of n table key op) (λ e. cc)) h refl)
decide_has_every_vote state (command of n Commit) txn may h =
    let becomes : Type 0 = BecomesDecided state (after_command state of n Commit) txn in
    All-contains (Decides txn becomes) _ _
    (All-commit_acts (Decides txn becomes) state of (participants_of state of)
    (λ none e. let same : of ≡ txn = cc in subst (BecomesDecided state (after_command state of n Commit)) same (becomes-committed state of n may none)) (λ v e. absurd (cc))) h refl
decide_has_every_vote state (command of n Abort) txn may h = absurd (All-contains (Decides txn ⊥) _ _ (All-abort_acts (Decides txn ⊥) state of n _ (λ v e. cc) (λ e. cc)) h refl)
decide_has_every_vote state (answer v of n a) txn may h =
    absurd (All-contains (Decides txn ⊥) _ _ (All-if (Decides txn ⊥) (counts_answer state v of n) (answered_acts state of n a) (λ _. decides_of_answered txn ⊥ state of n a)) h refl)
decide_has_every_vote state (vote v of) txn may h =
    let becomes : Type 0 = BecomesDecided state (after_vote state v of) txn in
    All-contains (Decides txn becomes) _ _
    (All-if (Decides txn becomes) (counts_vote state v of && is_last_vote state v of) (Decide of ∷ [])
    (λ b. All-one (Decides txn becomes) (Decide of) (λ e.
    let same : of ≡ txn = cc in
    let parts = and_parts _ _ b in
    subst (BecomesDecided state (after_vote state v of)) same (becomes-voted state v of parts.0 parts.1)))) h refl
decide_has_every_vote state (decided_at of n) txn may h = absurd (All-contains (Decides txn ⊥) [] _ (All-nil (Decides txn ⊥)) h refl)
decide_has_every_vote state (safe_up_to safe) txn may h = absurd (All-contains (Decides txn ⊥) _ _ (decides_of_safe txn ⊥ state safe) h refl)

-- ---- nothing aborts after a Decide

-- the act neither tells of an abort of the transaction, nor says anything but COMMITTED of it
abbrev Spares : TxnId → Act → Type 0
Spares txn act = ((v : ℕ) → act ≡ Finish v txn false → ⊥) × ((number : ℕ) (outcome : Outcome) → act ≡ Say txn number outcome → outcome ≡ Committed)

-- what is of another transaction
spares-finish : (txn of : TxnId) (commit : Bool) (v : ℕ) → of ≢ txn → Spares txn (Finish v of commit)
spares-finish txn of commit v apart = ((λ w e. apart (cc)), (λ n o e. absurd (cc)))

spares-say : (txn of : TxnId) (number : ℕ) (outcome : Outcome) → of ≢ txn → Spares txn (Say of number outcome)
spares-say txn of number outcome apart = ((λ w e. cc), (λ n o e. absurd (apart (cc))))

-- what is of any
spares-commit : (txn of : TxnId) (v : ℕ) → Spares txn (Finish v of true)
spares-commit txn of v = ((λ w e. true≢false (cc)), (λ n o e. absurd (cc)))

spares-committed : (txn of : TxnId) (number : ℕ) → Spares txn (Say of number Committed)
spares-committed txn of number = ((λ w e. cc), (λ n o e. cc))

spares-decide : (txn of : TxnId) → Spares txn (Decide of)
spares-decide txn of = ((λ w e. cc), (λ n o e. absurd (cc)))

spares-prepare : (txn of : TxnId) (v : ℕ) → Spares txn (Prepare v of)
spares-prepare txn of v = ((λ w e. cc), (λ n o e. absurd (cc)))

module _ (state : ControlState) (txn : TxnId) where
  spares_of_command : (of : TxnId) (n : ℕ) (what : Command) → of ≢ txn → All (Spares txn) (command_acts state of n what)
  unfolding command_acts
  spares_of_command of n Begin apart = All-one (Spares txn) (Say of n Begun) (spares-say txn of n Begun apart)
  spares_of_command of n (Work table key op) apart =
      All-one (Spares txn) (Ask (virtual_node_of key state.nodes) of n table key op) ((λ w e. cc), (λ m o e. absurd (cc)))
  spares_of_command of n Commit apart = All-commit_acts (Spares txn) state of (participants_of state of) (λ _. spares-decide txn of) (λ v. spares-prepare txn of v)
  spares_of_command of n Abort apart = All-abort_acts (Spares txn) state of n _ (λ v. spares-finish txn of false v apart) (spares-say txn of n _ apart)

  spares_of_answered : (of : TxnId) (n : ℕ) (a : Answer) → of ≢ txn → All (Spares txn) (answered_acts state of n a)
  spares_of_answered of n (reply.Done r) apart = All-one (Spares txn) (Say of n (Done r)) (spares-say txn of n (Done r) apart)
  spares_of_answered of n (reply.Refused holder) apart = All-abort_acts (Spares txn) state of n _ (λ v. spares-finish txn of false v apart) (spares-say txn of n _ apart)
  spares_of_answered of n reply.NoMemory apart = All-abort_acts (Spares txn) state of n _ (λ v. spares-finish txn of false v apart) (spares-say txn of n _ apart)

  spares_of_safe : (safe : ℕ) → All (Spares txn) (safe_acts state safe)
  unfolding safe_acts
  spares_of_safe safe =
      All-flat_map (Spares txn) state (acts_of_told state) (up_to safe state.waiting)
      (λ k d h. All-committed_acts (Spares txn) state _ (phase_of state _) (λ v. spares-commit txn _ v) (λ n. spares-committed txn _ n))

-- ---- a transaction that is decided stays so

-- it is open, in that phase
decided-open : (state : ControlState) (txn : TxnId) → is_decided_here state txn ≡ true → (entry : Entry) × (entry_of state txn ≡ Some entry) × (has_decide entry.phase ≡ true)
decided-open state txn h = by (entry_of state txn) refl h
  where
    by : (found : Option Entry) → entry_of state txn ≡ found → option_map_or has_decide (option_map (λ entry. entry.phase) found) false ≡ true →
        (entry : Entry) × (entry_of state txn ≡ Some entry) × (has_decide entry.phase ≡ true)
    by None e k = absurd (false≢true k)
    by (Some entry) e k = (entry, e, k)

-- where it is found as it was, it is decided as it was
open-decided : (state : ControlState) (txn : TxnId) (entry : Entry) → entry_of state txn ≡ Some entry → has_decide entry.phase ≡ true → is_decided_here state txn ≡ true
open-decided state txn entry found h = ap (λ o. option_map_or has_decide (option_map (λ x. x.phase) o) false) found ∙ h

module _ (state : ControlState) (txn of : TxnId) (is : is_decided_here state txn ≡ true) (apart : same_txn of txn ≡ false) where
  stays-with_new : is_decided_here (with_new state of) txn ≡ true
  stays-with_new =
      let found = decided-open state txn is in
      open-decided (with_new state of) txn found.0
      (find-append (λ entry. same_txn txn entry.txn) state.transactions (new_entry of ∷ []) ∙ ap (λ o. option_or o (entry_named txn (new_entry of ∷ []))) found.1) found.2

  stays-with_changed : (change : Entry → Entry) → ((entry : Entry) → (change entry).txn ≡ entry.txn) → is_decided_here (with_changed state of change) txn ≡ true
  stays-with_changed change keeps =
      let found = decided-open state txn is in
      open-decided (with_changed state of change) txn found.0 (entry_named-changed_other of change keeps txn state.transactions apart ∙ found.1) found.2

  stays-without : is_decided_here (without_entry state of) txn ≡ true
  stays-without =
      let found = decided-open state txn is in
      open-decided (without_entry state of) txn found.0
      (entry_named-filter txn (λ entry. not (same_txn of entry.txn)) state.transactions found.0 found.1
      (not_from_false _ (ap (same_txn of) (sym (found-name txn state.transactions found.0 found.1)) ∙ apart))) found.2

  stays-after_command : (n : ℕ) (what : Command) → is_decided_here (after_command state of n what) txn ≡ true
  unfolding after_command
  stays-after_command n Begin = stays-with_new
  stays-after_command n (Work table key op) = stays-with_changed (asked n (virtual_node_of key state.nodes)) (λ x. refl)
  stays-after_command n Commit = stays-with_changed (committing n) (λ x. refl)
  stays-after_command n Abort = stays-without

  stays-after_answered : (a : Answer) → is_decided_here (after_answered state of a) txn ≡ true
  stays-after_answered (reply.Done r) = stays-with_changed (with_phase Idle) (λ x. refl)
  stays-after_answered (reply.Refused holder) = stays-without
  stays-after_answered reply.NoMemory = stays-without

-- a command is of another transaction, and so are an answer and a vote that count
apart-by_undecided : (state : ControlState) (txn of : TxnId) → is_decided_here state txn ≡ true → is_decided_here state of ≡ false → of ≢ txn
apart-by_undecided state txn of is not e = true≢false (sym is ∙ sym (ap (is_decided_here state) e) ∙ not)

command-undecided : (state : ControlState) (of : TxnId) (what : Command) → MayCommand state of what → is_decided_here state of ≡ false
command-undecided state of Begin may = ap (λ o. option_map_or has_decide (option_map (λ entry. entry.phase) o) false) (not_open-found of state.transactions may)
command-undecided state of (Work table key op) may = ap (λ o. option_map_or has_decide o false) may
command-undecided state of Commit may = ap (λ o. option_map_or has_decide o false) may
command-undecided state of Abort may = ap (λ o. option_map_or has_decide o false) may

vote-undecided : (state : ControlState) (v : ℕ) (of : TxnId) → counts_vote state v of ≡ true → is_decided_here state of ≡ false
vote-undecided state v of counts =
    let found = voting-found state v of counts in
    ap (λ o. option_map_or has_decide (option_map (λ entry. entry.phase) o) false) found.1 ∙ preparing-undecided found.0.phase (and_parts _ _ (and_parts _ _ found.2).0).0

-- the acts spare it, and it stays decided
spared : (state : ControlState) (call : Call) (txn : TxnId) → All (Spares txn) (acts_of state call) →
    ((is_decided_here (after_call state call) txn ≡ true) ⊎ ((number : ℕ) × Gives state call (Say txn number Committed))) → StaysDecided state call txn
spared state call txn all stays = record {
  no_abort = λ v h. (All-contains (Spares txn) _ _ all h).0 v refl;
  says = λ number outcome h. (All-contains (Spares txn) _ _ all h).1 number outcome refl;
  stays = stays;
}

-- the Decide of a transaction is told of
logged-decide : (phase : Phase) → has_decide phase ≡ true → has_decide (logged phase) ≡ true
logged-decide (Decided number) h = refl
logged-decide (Logged number) h = refl
logged-decide Idle h = h
logged-decide (Asked number v) h = h
logged-decide (Preparing number) h = h

stays-after_decided_at : (state : ControlState) (txn of : TxnId) (n : ℕ) → is_decided_here state txn ≡ true → is_decided_here (after_decided_at state of n) txn ≡ true
unfolding after_decided_at
stays-after_decided_at state txn of n is =
    cond_both (counts_number state of) (with_number state of n) state (λ s. is_decided_here s txn ≡ true)
    (λ _. elim (cases_Bool (same_txn of txn)) [
      | inl same ↦ (let found = decided-open state txn is in
          open-decided (with_number state of n) txn (numbered found.0)
          (subst (λ t. entry_named txn (changed t numbered state.transactions) ≡ Some (numbered found.0)) (sym (same_txn-true of txn same))
          (entry_named-changed txn numbered (λ x. refl) state.transactions ∙ ap (option_map numbered) found.1)) (logged-decide found.0.phase found.2))
      | inr apart ↦ stays-with_changed state txn of is apart numbered (λ x. refl)
    ])
    (λ _. is)

-- where one that waits is of the transaction, COMMITTED is said of it
said : (state : ControlState) (txn : TxnId) (number : ℕ) (tolds : List Told) → phase_of state txn ≡ Some (Logged number) → is_told txn tolds ≡ true →
    Contains (flat_map (acts_of_told state) tolds) (Say txn number Committed)
said state txn number [] logged h = absurd (false≢true h)
said state txn number (x ∷ xs) logged h =
    elim (or_cases (same_txn x.txn txn) _ h) [
      | inl same ↦ Contains-append_left (acts_of_told state x) (flat_map (acts_of_told state) xs) _
          (subst (λ acts. Contains acts (Say txn number Committed))
          (sym (ap (λ t. committed_acts state t (phase_of state t)) (same_txn-true x.txn txn same) ∙ ap (committed_acts state txn) logged))
          (Contains-push (finishes state txn true) (Say txn number Committed)))
      | inr rest ↦ Contains-append_right (acts_of_told state x) (flat_map (acts_of_told state) xs) _ (said state txn number xs logged rest)
    ]

logged-number : (phase : Phase) → is_logged phase ≡ true → (number : ℕ) × (phase ≡ Logged number)
logged-number (Logged number) h = (number, refl)
logged-number Idle h = absurd (false≢true h)
logged-number (Asked number v) h = absurd (false≢true h)
logged-number (Preparing number) h = absurd (false≢true h)
logged-number (Decided number) h = absurd (false≢true h)

stays-after_safe : (state : ControlState) (txn : TxnId) (safe : ℕ) → is_decided_here state txn ≡ true →
    (is_decided_here (after_safe state safe) txn ≡ true) ⊎ ((number : ℕ) × Contains (safe_acts state safe) (Say txn number Committed))
unfolding after_safe safe_acts
stays-after_safe state txn safe is =
    let found = decided-open state txn is in
    let tolds = up_to safe state.waiting in
    let name = found-name txn state.transactions found.0 found.1 in
    let stays : Entry → Bool = λ entry. not (is_logged entry.phase && is_told entry.txn tolds) in
    elim (cases_Bool (is_logged found.0.phase && is_told found.0.txn tolds)) [
      | inl ends ↦ (
          let parts = and_parts _ _ ends in
          let number = logged-number found.0.phase parts.0 in
          inr (number.0, said state txn number.0 tolds (ap (option_map (λ entry. entry.phase)) found.1 ∙ ap Some number.1) (ap (λ t. is_told t tolds) name ∙ parts.1)))
      | inr not_yet ↦ inl (open-decided (after_safe state safe) txn found.0 (entry_named-filter txn stays state.transactions found.0 found.1 (not_from_false _ not_yet)) found.2)
    ]

pub nothing_aborts_after_decide : NothingAbortsAfterDecide
unfolding answer_acts after_answer vote_acts after_vote
nothing_aborts_after_decide state (command of n what) txn may is =
    let apart = apart-by_undecided state txn of is (command-undecided state of what may) in
    spared state (command of n what) txn (spares_of_command state txn of n what apart) (inl (stays-after_command state txn of is (same_txn-false of txn apart) n what))
nothing_aborts_after_decide state (answer v of n a) txn may is =
    let apart : counts_answer state v of n ≡ true → of ≢ txn = λ counts. apart-by_undecided state txn of is (asked-undecided state v of n counts) in
    spared state (answer v of n a) txn
    (All-if (Spares txn) (counts_answer state v of n) (answered_acts state of n a) (λ counts. spares_of_answered state txn of n a (apart counts)))
    (inl (cond_both (counts_answer state v of n) (after_answered state of a) state (λ s. is_decided_here s txn ≡ true)
    (λ counts. stays-after_answered state txn of is (same_txn-false of txn (apart counts)) a) (λ _. is)))
nothing_aborts_after_decide state (vote v of) txn may is =
    spared state (vote v of) txn
    (All-if (Spares txn) (counts_vote state v of && is_last_vote state v of) (Decide of ∷ []) (λ _. All-one (Spares txn) (Decide of) (spares-decide txn of)))
    (inl (cond_both (counts_vote state v of) (with_changed state of (voted v)) state (λ s. is_decided_here s txn ≡ true)
    (λ counts. stays-with_changed state txn of is (same_txn-false of txn (apart-by_undecided state txn of is (vote-undecided state v of counts))) (voted v) (voted-name v)) (λ _. is)))
nothing_aborts_after_decide state (decided_at of n) txn may is = spared state (decided_at of n) txn (All-nil (Spares txn)) (inl (stays-after_decided_at state txn of n is))
nothing_aborts_after_decide state (safe_up_to safe) txn may is = spared state (safe_up_to safe) txn (spares_of_safe state txn safe) (stays-after_safe state txn safe is)
