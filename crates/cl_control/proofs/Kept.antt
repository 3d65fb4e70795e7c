-- What a controller keeps while the code changes its fields.
use Rattle.std.proofs.Common.{◌≡◌, ℕ, ◌+◌, ◌<◌, ◌≤◌, Bool, true, false, List, [], ◌∷◌, ◌++◌, length, take, drop, not, if◌then◌else◌, ◌&&◌, Option, Some, None, option_map, IfSome, refl, sym, ap, ◌∙◌, subst, arith}
use Rattle.std.specs.Option.{option_map_or}
use Rattle.std.proofs.lemmas.Bool.{false≢true, and_parts, cond_both}
use Rattle.std.proofs.lemmas.List.{length-map, length_push}
use Rattle.std.proofs.lemmas.List.Filters.{length-filter_both}
use Rattle.cl_types.specs.declared.operations.TxnId.{TxnId}
use Rattle.cl_types.specs.Transactions.{same_txn}
use Rattle.cl_types.proofs.PlacementLaws.{node_count-bounds}
use Rattle.cl_control.specs.declared.entry.Phase.{Phase}
use Rattle.cl_control.specs.declared.entry.Phase.TheVariants.{Idle, Asked, Preparing, Decided, Logged}
use Rattle.cl_control.specs.declared.entry.TheConstants.{VIRTUAL_NODES_MAX}
use Rattle.cl_control.specs.declared.entry.Told.{Told}
use Rattle.cl_control.specs.State.{Entry, ControlState, entry_of, phase_of, changed, without, with_phase, with_vote, is_unanimous, joined, with_changed}
use Rattle.cl_control.specs.Calls.{asked, committing, counts_vote, awaits_vote, voted, decided, is_preparing, is_logged, is_decided, numbered, is_told, without_told, with_told, counts_number, up_to, above, after_safe}
use Rattle.cl_control.specs.Sound.{IsSoundEntry, IsSoundControl, is_logged_here}
use Rattle.cl_control.proofs.Entries.{All-found, changed-absent}
use Rattle.cl_control.proofs.EntrySoundness.{sound-asked, sound-committing, sound-voted, sound-with_phase, few_participants, few_votes}
use Rattle.cl_control.proofs.Soundness.{sound-with_changed, sound-without, sound-with_number, sound-after_safe, fewer_wait, decided-not_logged}

-- ---- what is found by the phase

-- a transaction in a phase is open
pub phase-found : (state : ControlState) (txn : TxnId) (phase : Phase) → phase_of state txn ≡ Some phase → (entry : Entry) × (entry_of state txn ≡ Some entry) × (entry.phase ≡ phase)
phase-found state txn phase h = by (entry_of state txn) refl h
  where
    by : (found : Option Entry) → entry_of state txn ≡ found → option_map (λ entry. entry.phase) found ≡ Some phase → (entry : Entry) × (entry_of state txn ≡ Some entry) × (entry.phase ≡ phase)
    by None e k = absurd (cc)
    by (Some entry) e k = (entry, e, cc)

-- where it waits for its next command, no log number was told
pub idle-not_logged : (state : ControlState) (txn : TxnId) → phase_of state txn ≡ Some Idle → is_logged_here state txn ≡ false
idle-not_logged state txn h = ap (λ o. option_map_or is_logged o false) h

-- a transaction of which a vote counts is open and waits for it
pub voting-found : (state : ControlState) (v : ℕ) (txn : TxnId) → counts_vote state v txn ≡ true → (entry : Entry) × (entry_of state txn ≡ Some entry) × (awaits_vote v entry ≡ true)
voting-found state v txn h = by (entry_of state txn) refl h
  where
    by : (found : Option Entry) → entry_of state txn ≡ found → option_map_or (awaits_vote v) found false ≡ true → (entry : Entry) × (entry_of state txn ≡ Some entry) × (awaits_vote v entry ≡ true)
    by None e k = absurd (false≢true k)
    by (Some entry) e k = (entry, e, k)

pub voted-name : (v : ℕ) (entry : Entry) → (voted v entry).txn ≡ entry.txn
voted-name v entry = cond_both (is_unanimous (with_vote v entry)) (with_phase (decided entry.phase) (with_vote v entry)) (with_vote v entry) (λ x. x.txn ≡ entry.txn) (λ _. refl) (λ _. refl)

voted-votes : (v : ℕ) (entry : Entry) → (voted v entry).votes ≡ entry.votes ++ v ∷ []
voted-votes v entry = cond_both (is_unanimous (with_vote v entry)) (with_phase (decided entry.phase) (with_vote v entry)) (with_vote v entry) (λ x. x.votes ≡ entry.votes ++ v ∷ []) (λ _. refl) (λ _. refl)

preparing-not_logged : (phase : Phase) → is_preparing phase ≡ true → is_logged phase ≡ false
preparing-not_logged (Preparing command) h = refl
preparing-not_logged Idle h = refl
preparing-not_logged (Asked command v) h = refl
preparing-not_logged (Decided command) h = refl
preparing-not_logged (Logged command) h = absurd (false≢true h)

waiting-not_logged : (state : ControlState) (v : ℕ) (txn : TxnId) (entry : Entry) → entry_of state txn ≡ Some entry → awaits_vote v entry ≡ true → is_logged_here state txn ≡ false
waiting-not_logged state v txn entry found waits =
    ap (λ o. option_map_or is_logged (option_map (λ x. x.phase) o) false) found
    ∙ preparing-not_logged entry.phase (and_parts _ _ (and_parts _ _ waits).0).0

module _ (state : ControlState) (sound : IsSoundControl state) (txn : TxnId) (new : List Entry) (capacity : ℕ) (room : length state.transactions ≤ capacity) where
  -- it is sound, and there is room for each open transaction to wait
  abbrev pub IsKept : Type 0
  IsKept = IsSoundControl (record state { transactions = new }) × (length new ≤ capacity)

  kept : (change : Entry → Entry) → new ≡ changed txn change state.transactions → IsSoundControl (with_changed state txn change) → IsKept
  kept change e good = (
    subst (λ entries. IsSoundControl (record state { transactions = entries })) (sym e) good,
    omega (arith, ap length e, length-map state.transactions (λ entry. if same_txn txn entry.txn then change entry else entry)),
  )

  entry_sound : (entry : Entry) → entry_of state txn ≡ Some entry → IsSoundEntry state.nodes entry
  entry_sound entry found = All-found txn (IsSoundEntry state.nodes) state.transactions entry sound.entries found

  pub kept-asked : (number v : ℕ) → v < state.nodes → phase_of state txn ≡ Some Idle → new ≡ changed txn (asked number v) state.transactions → IsKept
  kept-asked number v below idle e =
      let found = phase-found state txn Idle idle in
      kept (asked number v) e (sound-with_changed state txn sound (asked number v) found.0 (λ x. refl) found.1 (idle-not_logged state txn idle)
      (sound-asked state.nodes found.0 number v below (entry_sound found.0 found.1)))

  pub kept-committing : (number : ℕ) → phase_of state txn ≡ Some Idle → new ≡ changed txn (committing number) state.transactions → IsKept
  kept-committing number idle e =
      let found = phase-found state txn Idle idle in
      kept (committing number) e (sound-with_changed state txn sound (committing number) found.0 (λ x. refl) found.1 (idle-not_logged state txn idle)
      (sound-committing state.nodes found.0 number (entry_sound found.0 found.1)))

  pub kept-idle : is_logged_here state txn ≡ false → new ≡ changed txn (with_phase Idle) state.transactions → IsKept
  kept-idle not_logged e = by (entry_of state txn) refl
    where
      by : (found : Option Entry) → entry_of state txn ≡ found → IsKept
      by None none =
          let same : new ≡ state.transactions = e ∙ changed-absent txn (with_phase Idle) state.transactions none in
          (subst (λ entries. IsSoundControl (record state { transactions = entries })) (sym same) sound, omega (arith, ap length same))
      by (Some entry) found =
          kept (with_phase Idle) e (sound-with_changed state txn sound (with_phase Idle) entry (λ x. refl) found not_logged
          (sound-with_phase state.nodes entry (entry_sound entry found) Idle refl))

  pub kept-voted : (v : ℕ) → counts_vote state v txn ≡ true → new ≡ changed txn (voted v) state.transactions → IsKept
  kept-voted v counts e =
      let found = voting-found state v txn counts in
      kept (voted v) e (sound-with_changed state txn sound (voted v) found.0 (voted-name v) found.1 (waiting-not_logged state v txn found.0 found.1 found.2)
      (sound-voted state.nodes found.0 v found.2 (entry_sound found.0 found.1)))

  pub kept-without : is_logged_here state txn ≡ false → new ≡ without txn state.transactions → IsKept
  kept-without not_logged e = (
    subst (λ entries. IsSoundControl (record state { transactions = entries })) (sym e) (sound-without state txn sound not_logged),
    omega (arith, ap length e, length-filter_both (λ entry. not (same_txn txn entry.txn)) (λ entry. not (not (same_txn txn entry.txn))) (λ _. refl) state.transactions),
  )

-- ---- what participants and votes take

-- after an operation there are at most as many participants as a set has room for
pub room-joined : (state : ControlState) (sound : IsSoundControl state) (txn : TxnId) (number v : ℕ) → v < state.nodes → phase_of state txn ≡ Some Idle →
    IfSome (entry_of state txn) (λ entry. length (joined v entry.participants) ≤ VIRTUAL_NODES_MAX)
room-joined state sound txn number v below idle =
    let found = phase-found state txn Idle idle in
    let entry = All-found txn (IsSoundEntry state.nodes) state.transactions found.0 sound.entries found.1 in
    subst (λ o. IfSome o (λ x. length (joined v x.participants) ≤ VIRTUAL_NODES_MAX)) (sym found.1)
    (omega (arith, (node_count-bounds state.nodes sound.nodes).1, few_participants state.nodes (asked number v found.0) (sound-asked state.nodes found.0 number v below entry)))

-- a vote that counts has room
pub room-vote : (state : ControlState) (sound : IsSoundControl state) (v : ℕ) (txn : TxnId) → counts_vote state v txn ≡ true →
    IfSome (entry_of state txn) (λ entry. length entry.votes < VIRTUAL_NODES_MAX)
room-vote state sound v txn counts =
    let found = voting-found state v txn counts in
    let entry = All-found txn (IsSoundEntry state.nodes) state.transactions found.0 sound.entries found.1 in
    let few = few_votes state.nodes (voted v found.0) (sound-voted state.nodes found.0 v found.2 entry) in
    let votes : length (voted v found.0).votes ≡ length found.0.votes + 1 = ap length (voted-votes v found.0) ∙ length_push found.0.votes v in
    subst (λ o. IfSome o (λ x. length x.votes < VIRTUAL_NODES_MAX)) (sym found.1) (omega (arith, (node_count-bounds state.nodes sound.nodes).1, few, votes))

-- ---- the log

-- a transaction of which a log number counts is open and decided
pub decided-found : (state : ControlState) (txn : TxnId) → counts_number state txn ≡ true → (entry : Entry) × (entry_of state txn ≡ Some entry) × (is_decided entry.phase ≡ true)
decided-found state txn h = by (entry_of state txn) refl h
  where
    by : (found : Option Entry) → entry_of state txn ≡ found → option_map_or is_decided (option_map (λ entry. entry.phase) found) false ≡ true →
        (entry : Entry) × (entry_of state txn ≡ Some entry) × (is_decided entry.phase ≡ true)
    by None e k = absurd (false≢true k)
    by (Some entry) e k = (entry, e, k)

-- fewer wait than are open
pub room-number : (state : ControlState) (sound : IsSoundControl state) (txn : TxnId) → counts_number state txn ≡ true → length state.waiting < length state.transactions
room-number state sound txn counts =
    let found = decided-found state txn counts in
    fewer_wait state txn found.0 sound found.1 (ap (λ o. option_map_or is_logged (option_map (λ x. x.phase) o) false) found.1 ∙ decided-not_logged found.0.phase found.2)

module _ (state : ControlState) (sound : IsSoundControl state) where
  pub kept-number : (txn : TxnId) (number : ℕ) (new : List Entry) (waiting : List Told) (before after : ℕ) → length state.transactions ≤ before → counts_number state txn ≡ true →
      new ≡ changed txn numbered state.transactions → waiting ≡ with_told (record { number = number; txn = txn }) state.waiting → before ≤ after →
      IsSoundControl (record { nodes = state.nodes; transactions = new; waiting = waiting }) × (length new ≤ after)
  kept-number txn number new waiting before after room counts e f grows =
      let found = decided-found state txn counts in (
        subst (λ entries. IsSoundControl (record { nodes = state.nodes; transactions = entries; waiting = waiting })) (sym e)
            (subst (λ tolds. IsSoundControl (record { nodes = state.nodes; transactions = changed txn numbered state.transactions; waiting = tolds })) (sym f)
            (sound-with_number state txn number found.0 sound found.1 found.2)),
        omega (arith, ap length e, length-map state.transactions (λ entry. if same_txn txn entry.txn then numbered entry else entry)),
      )

  pub kept-safe : (number count : ℕ) (new : List Entry) (waiting : List Told) (before after : ℕ) → length state.transactions ≤ before →
      take count state.waiting ≡ up_to number state.waiting → drop count state.waiting ≡ above number state.waiting →
      new ≡ without_told (take count state.waiting) state.transactions → waiting ≡ drop count state.waiting → after ≡ before →
      IsSoundControl (record { nodes = state.nodes; transactions = new; waiting = waiting }) × (length new ≤ after)
  unfolding after_safe
  kept-safe number count new waiting before after room first rest e f same =
      let removed : Entry → Bool = λ entry. not (is_logged entry.phase && is_told entry.txn (take count state.waiting)) in (
        subst (λ entries. IsSoundControl (record { nodes = state.nodes; transactions = entries; waiting = waiting })) (sym (e ∙ ap (λ tolds. without_told tolds state.transactions) first))
            (subst (λ tolds. IsSoundControl (record { nodes = state.nodes; transactions = without_told (up_to number state.waiting) state.transactions; waiting = tolds })) (sym (f ∙ rest))
            (sound-after_safe state number sound)),
        omega (arith, ap length e, length-filter_both removed (λ entry. not (removed entry)) (λ _. refl) state.transactions),
      )
