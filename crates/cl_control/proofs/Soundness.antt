-- Each change of a controller keeps it sound.
use Rattle.std.proofs.Common.{◌≡◌, ℕ, ◌<◌, Bool, true, false, cond, ◌||◌, ◌&&◌, not, List, [], ◌∷◌, ◌++◌, length, get_or, map, All, Option, Some, None, IsSome, option_map, nat_lt, refl, sym, ap, ◌∙◌, subst, inl, inr, true≢false, arith}
use Rattle.std.specs.List.{list_any, IsDistinct}
use Rattle.std.specs.Map.{lookup}
use Rattle.std.specs.Option.{option_map_or, option_or}
use Rattle.std.proofs.lemmas.Bool.{false_from_ne_true, and_right, or_cases, or_from, not_from_false}
use Rattle.std.proofs.lemmas.List.Elements.{All-nil, All-push, All-cons, All-weaker, All-filter, All-head, All-tail}
use Rattle.std.proofs.lemmas.List.Sorted.{IsPermutation-map, All-permutation}
use Rattle.std.proofs.lemmas.List.Kept.{IsNonDecreasingBy-filter}
use Rattle.std.proofs.lemmas.List.Folds.{find-append}
use Rattle.std.proofs.lemmas.Map.Keys.{IsDistinct-push, IsDistinct-cons, IsDistinct-head, IsDistinct-tail, IsDistinct-IsPermutation}
use Rattle.std.proofs.lemmas.Map.Steps.{length-le_from_keys}
use Rattle.std.proofs.lemmas.List.{length-map}
use Rattle.cl_types.specs.declared.operations.TxnId.{TxnId}
use Rattle.cl_types.specs.Placement.{IsNodeCount}
use Rattle.cl_types.specs.Transactions.{same_txn}
use Rattle.cl_types.proofs.Transactions.{same_txn-true, same_txn-symmetric}
use Rattle.cl_control.specs.declared.entry.Phase.{Phase}
use Rattle.cl_control.specs.declared.entry.Phase.TheVariants.{Idle, Asked, Preparing, Decided, Logged}
use Rattle.cl_control.specs.declared.entry.Told.{Told}
use Rattle.cl_control.specs.State.{Entry, ControlState, new_entry, entry_named, entry_of, is_open_here, new_control, with_new, with_changed, with_phase, without_entry}
use Rattle.cl_control.specs.Calls.{is_logged, is_decided, logged, up_to, above, is_told, without_told, with_number, after_safe}
use Rattle.cl_control.specs.Sound.{IsSoundEntry, IsSoundControl, is_logged_here}
use Rattle.cl_control.proofs.Entries.{names, found-name, All-found, names-changed, entry_named-changed, entry_named-changed_other, All-changed_found, entry_named-filter}
use Rattle.cl_control.proofs.EntrySoundness.{sound-logged}
use Rattle.cl_control.proofs.Names.{same_txn-equivalence, IsNone, IsDistinct-filter, none-from_all}
use Rattle.cl_control.proofs.Waiters.{parted, with_told-permutation, with_told-ascending}

-- ---- what is found

-- the transaction of which the log number was told is open, in that phase
pub logged-found : (entries : List Entry) (txn : TxnId) → option_map_or is_logged (option_map (λ entry. entry.phase) (entry_named txn entries)) false ≡ true →
    (entry : Entry) × (entry_named txn entries ≡ Some entry) × (is_logged entry.phase ≡ true)
logged-found entries txn h = by (entry_named txn entries) refl h
  where
    by : (found : Option Entry) → entry_named txn entries ≡ found → option_map_or is_logged (option_map (λ entry. entry.phase) found) false ≡ true →
        (entry : Entry) × (entry_named txn entries ≡ Some entry) × (is_logged entry.phase ≡ true)
    by None e k = absurd (true≢false (sym k))
    by (Some entry) e k = (entry, e, k)

-- a transaction of which no number was told is apart from one of which it was
pub apart_from_logged : (state : ControlState) (txn other : TxnId) → is_logged_here state txn ≡ false → is_logged_here state other ≡ true → same_txn txn other ≡ false
apart_from_logged state txn other not_logged logged =
    false_from_ne_true _ (λ same. true≢false (sym logged ∙ ap (is_logged_here state) (sym (same_txn-true txn other same)) ∙ not_logged))

-- ---- one more transaction

pub sound-new : (nodes : ℕ) → IsNodeCount nodes → IsSoundControl (new_control nodes)
unfolding IsDistinct
sound-new nodes h = record {
  nodes = h;
  names = tt;
  entries = All-nil _;
  ascending = λ i j d le lt. absurd (omega arith);
  once = tt;
  logged = All-nil _;
}

sound-new_entry : (nodes : ℕ) (txn : TxnId) → IsSoundEntry nodes (new_entry txn)
unfolding IsDistinct
sound-new_entry nodes txn = record { below = All-nil _; differ = tt; votes = All-nil _; once = tt; unanimous = λ _. refl }

any-names : (txn : TxnId) (entries : List Entry) → list_any (same_txn txn) (names entries) ≡ list_any (λ entry. same_txn txn entry.txn) entries
any-names txn [] = refl
any-names txn (x ∷ xs) = ap (λ b. same_txn txn x.txn || b) (any-names txn xs)

names-push : (entries : List Entry) (entry : Entry) → names (entries ++ entry ∷ []) ≡ names entries ++ entry.txn ∷ []
names-push [] entry = refl
names-push (x ∷ xs) entry = ap (λ ts. x.txn ∷ ts) (names-push xs entry)

-- one that is open stays so
logged-with_new : (state : ControlState) (txn other : TxnId) → is_logged_here state other ≡ true → is_logged_here (with_new state txn) other ≡ true
logged-with_new state txn other h =
    let found = logged-found state.transactions other h in
    let after : entry_named other (state.transactions ++ new_entry txn ∷ []) ≡ Some found.0 =
    find-append (λ entry. same_txn other entry.txn) state.transactions (new_entry txn ∷ [])
    ∙ ap (λ o. option_or o (entry_named other (new_entry txn ∷ []))) found.1 in
    ap (λ o. option_map_or is_logged (option_map (λ entry. entry.phase) o) false) after ∙ found.2

pub sound-with_new : (state : ControlState) (txn : TxnId) → IsSoundControl state → is_open_here state txn ≡ false → IsSoundControl (with_new state txn)
sound-with_new state txn sound fresh = record {
  nodes = sound.nodes;
  names = subst (IsDistinct same_txn) (sym (names-push state.transactions (new_entry txn)))
      (IsDistinct-push same_txn-equivalence (names state.transactions) txn sound.names (any-names txn state.transactions ∙ fresh));
  entries = All-push (IsSoundEntry state.nodes) _ _ sound.entries (sound-new_entry state.nodes txn);
  ascending = sound.ascending;
  once = sound.once;
  logged = All-weaker _ _ (λ told h. logged-with_new state txn told.txn h) _ sound.logged;
}

-- ---- a transaction changes, or is no longer open

module _ (state : ControlState) (txn : TxnId) (sound : IsSoundControl state) where
  pub sound-with_changed : (change : Entry → Entry) (entry : Entry) → ((x : Entry) → (change x).txn ≡ x.txn) → entry_of state txn ≡ Some entry → is_logged_here state txn ≡ false →
      IsSoundEntry state.nodes (change entry) → IsSoundControl (with_changed state txn change)
  sound-with_changed change entry keeps found not_logged good = record {
    nodes = sound.nodes;
    names = subst (IsDistinct same_txn) (sym (names-changed txn change keeps state.transactions)) sound.names;
    entries = All-changed_found txn (IsSoundEntry state.nodes) change state.transactions entry sound.entries sound.names found good;
    ascending = sound.ascending;
    once = sound.once;
    logged = All-weaker _ _ (λ told h.
        ap (λ o. option_map_or is_logged (option_map (λ x. x.phase) o) false)
        (entry_named-changed_other txn change keeps told.txn state.transactions (apart_from_logged state txn told.txn not_logged h)) ∙ h) _ sound.logged;
  }

  pub sound-without : is_logged_here state txn ≡ false → IsSoundControl (without_entry state txn)
  sound-without not_logged = record {
    nodes = sound.nodes;
    names = IsDistinct-filter (λ entry. entry.txn) (λ entry. not (same_txn txn entry.txn)) state.transactions sound.names;
    entries = All-filter (λ entry. not (same_txn txn entry.txn)) (IsSoundEntry state.nodes) state.transactions sound.entries;
    ascending = sound.ascending;
    once = sound.once;
    logged = All-weaker _ _ (λ told h.
        let found = logged-found state.transactions told.txn h in
        let apart = apart_from_logged state txn told.txn not_logged h in
        let passes : not (same_txn txn found.0.txn) ≡ true = not_from_false _ (ap (same_txn txn) (sym (found-name told.txn state.transactions found.0 found.1)) ∙ apart) in
        ap (λ o. option_map_or is_logged (option_map (λ x. x.phase) o) false) (entry_named-filter told.txn (λ entry. not (same_txn txn entry.txn)) state.transactions found.0 found.1 passes) ∙ found.2) _ sound.logged;
  }

-- ---- the number of a Decide is told

-- the transactions, each beside its name
pairs_of : List Entry → List (TxnId × Entry)
pairs_of entries = map (λ entry. (entry.txn, entry)) entries

lookup-pairs_of : (entries : List Entry) (txn : TxnId) → lookup (same_txn txn) (pairs_of entries) ≡ entry_named txn entries
unfolding pairs_of
lookup-pairs_of [] txn = refl
lookup-pairs_of (x ∷ xs) txn = ap (cond (same_txn txn x.txn) (Some x)) (lookup-pairs_of xs txn)

-- each of those that wait is apart from a transaction of which no number was told
apart_from_waiting : (state : ControlState) (txn : TxnId) → IsSoundControl state → is_logged_here state txn ≡ false → All (λ told. same_txn txn told.txn ≡ false) state.waiting
apart_from_waiting state txn sound not_logged = All-weaker (λ told. is_logged_here state told.txn ≡ true) (λ told. same_txn txn told.txn ≡ false)
    (λ told h. apart_from_logged state txn told.txn not_logged h) state.waiting sound.logged

pairs-length : (entries : List Entry) → length (pairs_of entries) ≡ length entries
unfolding pairs_of
pairs-length entries = length-map entries (λ entry. (entry.txn, entry))

-- each that waits is open
waiting-found : (state : ControlState) (q : TxnId) (tolds : List Told) → All (λ told. is_logged_here state told.txn ≡ true) tolds → list_any (same_txn q) (map (λ told. told.txn) tolds) ≡ true →
    IsSome (entry_of state q)
waiting-found state q [] all h = absurd (true≢false (sym h))
waiting-found state q (x ∷ xs) all h =
    let logged : Told → Type 0 = λ told. is_logged_here state told.txn ≡ true in
    elim (or_cases (same_txn q x.txn) _ h) [
      | inl same ↦ (let found = logged-found state.transactions x.txn (All-head logged x xs all) in
          subst (λ t. IsSome (entry_of state t)) (sym (same_txn-true q x.txn same)) (subst IsSome (sym found.1) refl))
      | inr rest ↦ waiting-found state q xs (All-tail logged x xs all) rest
    ]

-- so fewer wait than are open
pub fewer_wait : (state : ControlState) (txn : TxnId) (entry : Entry) → IsSoundControl state → entry_of state txn ≡ Some entry → is_logged_here state txn ≡ false →
    length state.waiting < length state.transactions
fewer_wait state txn entry sound found not_logged =
    let told_txns : List TxnId = map (λ told. told.txn) state.waiting in
    let distinct = IsDistinct-cons same_txn txn told_txns (none-from_all (λ told. told.txn) txn state.waiting (apart_from_waiting state txn sound not_logged)) sound.once in
    let few = length-le_from_keys same_txn-equivalence (txn ∷ told_txns) (pairs_of state.transactions) distinct (λ q h. subst IsSome (sym (lookup-pairs_of state.transactions q)) (elim (or_cases (same_txn q txn) _ h) [ inl same ↦ subst (λ t. IsSome (entry_of state t)) (sym (same_txn-true q txn same)) (subst IsSome (sym found) refl) | inr rest ↦ waiting-found state q state.waiting sound.logged rest ])) in
    omega (arith, length-map state.waiting (λ told. told.txn), pairs-length state.transactions)

pub decided-not_logged : (phase : Phase) → is_decided phase ≡ true → is_logged phase ≡ false
decided-not_logged (Decided command) h = refl
decided-not_logged Idle h = refl
decided-not_logged (Asked command v) h = refl
decided-not_logged (Preparing command) h = refl
decided-not_logged (Logged command) h = absurd (true≢false (sym h))

logged-decided : (phase : Phase) → is_decided phase ≡ true → is_logged (logged phase) ≡ true
logged-decided (Decided command) h = refl
logged-decided Idle h = absurd (true≢false (sym h))
logged-decided (Asked command v) h = absurd (true≢false (sym h))
logged-decided (Preparing command) h = absurd (true≢false (sym h))
logged-decided (Logged command) h = absurd (true≢false (sym h))

pub sound-with_number : (state : ControlState) (txn : TxnId) (number : ℕ) (entry : Entry) → IsSoundControl state → entry_of state txn ≡ Some entry → is_decided entry.phase ≡ true →
    IsSoundControl (with_number state txn number)
sound-with_number state txn number entry sound found is =
    let told : Told = record { number = number; txn = txn } in
    let change : Entry → Entry = λ x. with_phase (logged x.phase) x in
    let after = with_changed state txn change in
    let not_logged : is_logged_here state txn ≡ false = ap (λ o. option_map_or is_logged (option_map (λ x. x.phase) o) false) found ∙ decided-not_logged entry.phase is in
    let good = sound-with_changed state txn sound change entry (λ x. refl) found not_logged (sound-logged state.nodes entry (All-found txn (IsSoundEntry state.nodes) state.transactions entry sound.entries found) is) in
    let told_txn : Told → TxnId = λ t. t.txn in
    let is_there : Told → Type 0 = λ t. is_logged_here after t.txn ≡ true in
    let now : is_logged_here after txn ≡ true =
    ap (λ o. option_map_or is_logged (option_map (λ x. x.phase) o) false) (entry_named-changed txn change (λ x. refl) state.transactions ∙ ap (option_map change) found) ∙ logged-decided entry.phase is in
    record {
      nodes = good.nodes;
      names = good.names;
      entries = good.entries;
      ascending = with_told-ascending told state.waiting sound.ascending;
      once = IsDistinct-IsPermutation same_txn same_txn-symmetric _ _ (IsPermutation-map told_txn _ _ (with_told-permutation told state.waiting))
          (IsDistinct-cons same_txn txn _ (none-from_all told_txn txn state.waiting (apart_from_waiting state txn sound not_logged)) sound.once);
      logged = All-permutation is_there _ _ (with_told-permutation told state.waiting) (All-cons is_there told state.waiting now good.logged);
    }

-- ---- the log is safe up to a number

none-behind : (txn : TxnId) (front back : List Told) → IsNone txn (map (λ told. told.txn) (front ++ back)) → All (λ told. same_txn txn told.txn ≡ false) back
none-behind txn (x ∷ xs) back h = none-behind txn xs back h.1
none-behind txn [] [] h = All-nil _
none-behind txn [] (y ∷ ys) h = All-cons (λ told. same_txn txn told.txn ≡ false) y ys h.0 (none-behind txn [] ys h.1)

-- of names that differ, those behind are apart from those before
apart_behind : (front back : List Told) → IsDistinct same_txn (map (λ told. told.txn) (front ++ back)) → All (λ told. is_told told.txn front ≡ false) back
apart_behind [] back distinct = λ k d h. refl
apart_behind (x ∷ xs) back distinct =
    let later = apart_behind xs back (IsDistinct-tail same_txn x.txn _ distinct) in
    let here = none-behind x.txn xs back (IsDistinct-head same_txn x.txn _ distinct) in
    λ k d h. or_from _ _ (here k d h) (later k d h)

-- one that is not among those that end stays
stays_logged : (state : ControlState) (txn : TxnId) (safe : List Told) → is_logged_here state txn ≡ true → is_told txn safe ≡ false →
    option_map_or is_logged (option_map (λ entry. entry.phase) (entry_named txn (without_told safe state.transactions))) false ≡ true
stays_logged state txn safe h apart =
    let found = logged-found state.transactions txn h in
    let passes : not (is_logged found.0.phase && is_told found.0.txn safe) ≡ true =
    not_from_false _ (and_right _ _ (ap (λ t. is_told t safe) (sym (found-name txn state.transactions found.0 found.1)) ∙ apart)) in
    ap (λ o. option_map_or is_logged (option_map (λ x. x.phase) o) false) (entry_named-filter txn (λ entry. not (is_logged entry.phase && is_told entry.txn safe)) state.transactions found.0 found.1 passes) ∙ found.2

pub sound-after_safe : (state : ControlState) (number : ℕ) → IsSoundControl state → IsSoundControl (after_safe state number)
unfolding after_safe
sound-after_safe state number sound =
    let safe = up_to number state.waiting in
    let rest = above number state.waiting in
    let stays : Entry → Bool = λ entry. not (is_logged entry.phase && is_told entry.txn safe) in
    let logged : Told → Type 0 = λ told. is_logged_here state told.txn ≡ true in
    let apart = apart_behind safe rest (subst (λ tolds. IsDistinct same_txn (map (λ told. told.txn) tolds)) (sym (parted number state.waiting sound.ascending)) sound.once) in
    let open_rest : All logged rest = All-filter (λ told. nat_lt number told.number) logged state.waiting sound.logged in
    record {
      nodes = sound.nodes;
      names = IsDistinct-filter (λ entry. entry.txn) stays state.transactions sound.names;
      entries = All-filter stays (IsSoundEntry state.nodes) state.transactions sound.entries;
      ascending = IsNonDecreasingBy-filter (λ told. told.number) (λ told. nat_lt number told.number) state.waiting sound.ascending;
      once = IsDistinct-filter (λ told. told.txn) (λ told. nat_lt number told.number) state.waiting sound.once;
      logged = λ k d h. stays_logged state (get_or rest k d).txn safe (open_rest k d h) (apart k d h);
    }
