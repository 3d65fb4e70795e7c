-- What a controller's calls keep, and what their acts are.
use Rattle.std.proofs.Common.{◌≡◌, ℕ, zero, suc, ◌+◌, ◌<◌, Bool, true, false, ◌&&◌, cond, List, [], ◌∷◌, ◌++◌, map, filter, flat_map, Option, Some, None, option_map, refl, sym, ◌∙◌, ap, subst, arith, inl, inr}
use Rattle.std.proofs.lemmas.Bool.{cases_Bool, and_parts, cond-true, cond-false, false≢true}
use Rattle.std.specs.List.{range_with_len}
use Rattle.std.specs.Option.{option_map_or}
use Rattle.cl_types.specs.declared.answers.AbortCause.{AbortCause}
use Rattle.cl_types.specs.declared.answers.Answer.{Answer}
use Rattle.cl_types.specs.declared.answers.Answer.TheVariants as answers
use Rattle.cl_types.specs.declared.operations.Command.{Command}
use Rattle.cl_types.specs.declared.operations.Command.TheVariants.{Begin, Work, Commit, Abort}
use Rattle.cl_types.specs.declared.operations.TxnId.{TxnId}
use Rattle.cl_types.specs.Placement.{IsNodeCount, virtual_node_of}
use Rattle.cl_types.specs.declared.answers.AbortCause.TheVariants.{Client}
use Rattle.cl_types.specs.Transactions.{same_txn}
use Rattle.cl_types.proofs.PlacementLaws.{virtual_node_of-below}
use Rattle.cl_control.specs.declared.acts.Act.{Act}
use Rattle.cl_control.specs.declared.acts.Act.TheVariants.{Prepare, Finish, Decide}
use Rattle.cl_control.specs.declared.entry.Phase.{Phase}
use Rattle.cl_control.specs.declared.entry.Phase.TheVariants.{Idle, Asked, Preparing, Decided, Logged}
use Rattle.cl_control.specs.declared.entry.Told.{Told}
use Rattle.cl_control.specs.Calls.{MayCommand, prepares, finishes, abort_acts, command_acts, after_command, commit_acts, commit_phase, committing, counts_answer, answered_acts, after_answered, answer_acts, after_answer, awaits_vote, is_preparing, counts_vote, is_last_vote, decided, voted, vote_acts, after_vote, is_decided, counts_number, after_decided_at, committed_acts, acts_of_told, up_to, safe_acts, after_safe}
use Rattle.cl_control.specs.State.{Entry, ControlState, is_among, entry_named, changed, entry_of, phase_of, participants_of, with_vote, is_unanimous, with_changed}
use Rattle.cl_vnode.specs.Sending.{IsSend, AreSends, AreActs}

-- ---- there are as many nodes as before

pub nodes-after_command : (state : ControlState) (txn : TxnId) (number : ℕ) (what : Command) → (after_command state txn number what).nodes ≡ state.nodes
unfolding after_command
nodes-after_command state txn number Begin = refl
nodes-after_command state txn number (Work table key op) = refl
nodes-after_command state txn number Commit = refl
nodes-after_command state txn number Abort = refl

answered_nodes : (state : ControlState) (txn : TxnId) (answer : Answer) → (after_answered state txn answer).nodes ≡ state.nodes
answered_nodes state txn (answers.Done reply) = refl
answered_nodes state txn (answers.Refused holder) = refl
answered_nodes state txn answers.NoMemory = refl

either_nodes : (b : Bool) (new old : ControlState) → new.nodes ≡ old.nodes → (cond b new old).nodes ≡ old.nodes
either_nodes true new old same = same
either_nodes false new old same = refl

pub nodes-after_answer : (state : ControlState) (v : ℕ) (txn : TxnId) (number : ℕ) (answer : Answer) → (after_answer state v txn number answer).nodes ≡ state.nodes
unfolding after_answer
nodes-after_answer state v txn number answer = either_nodes (counts_answer state v txn number) (after_answered state txn answer) state (answered_nodes state txn answer)

pub nodes-after_vote : (state : ControlState) (v : ℕ) (txn : TxnId) → (after_vote state v txn).nodes ≡ state.nodes
unfolding after_vote
nodes-after_vote state v txn = either_nodes (counts_vote state v txn) (with_changed state txn (voted v)) state refl

pub nodes-after_decided_at : (state : ControlState) (txn : TxnId) (number : ℕ) → (after_decided_at state txn number).nodes ≡ state.nodes
unfolding after_decided_at
nodes-after_decided_at state txn number = either_nodes (counts_number state txn) _ state refl

pub nodes-after_safe : (state : ControlState) (number : ℕ) → (after_safe state number).nodes ≡ state.nodes
unfolding after_safe
nodes-after_safe state number = refl

-- ---- messages to participants

pub AreSends-append : (nodes : ℕ) (xs ys : List Act) → AreSends nodes xs → AreSends nodes ys → AreSends nodes (xs ++ ys)
AreSends-append nodes [] ys hx hy = hy
AreSends-append nodes (x ∷ xs) ys hx hy = (hx.0, AreSends-append nodes xs ys hx.1 hy)

-- one message to each of some virtual nodes
each_send : (nodes : ℕ) (act : ℕ → Act) (p : ℕ → Bool) → ((v : ℕ) → v < nodes → IsSend nodes (act v)) → (from count : ℕ) → from + count ≡ nodes →
    AreSends nodes (map act (filter p (range_with_len from count)))
each_send nodes act p sends from zero within = tt
each_send nodes act p sends from (suc count) within =
    let rest : AreSends nodes (map act (filter p (range_with_len (from + 1) count))) = each_send nodes act p sends (from + 1) count (omega (arith, within)) in
    elim (p from) as (λ b. AreSends nodes (map act (cond b (from ∷ filter p (range_with_len (from + 1) count)) (filter p (range_with_len (from + 1) count)))))
    [ true ↦ (sends from (omega (arith, within)), rest) | false ↦ rest ]

pub finishes_are_sends : (state : ControlState) (txn : TxnId) (commit : Bool) → AreSends state.nodes (finishes state txn commit)
finishes_are_sends state txn commit = each_send state.nodes (λ v. Finish v txn commit) (λ v. is_among v (participants_of state txn)) (λ v below. below) 0 state.nodes (omega arith)

prepares_are_sends : (state : ControlState) (txn : TxnId) → AreSends state.nodes (prepares state txn)
prepares_are_sends state txn = each_send state.nodes (λ v. Prepare v txn) (λ v. is_among v (participants_of state txn)) (λ v below. below) 0 state.nodes (omega arith)

abort_sends : (state : ControlState) (txn : TxnId) (number : ℕ) (cause : AbortCause) → AreSends state.nodes (abort_acts state txn number cause)
abort_sends state txn number cause = AreSends-append state.nodes (finishes state txn false) _ (finishes_are_sends state txn false) (tt, tt)

-- ---- an answer

answered_sends : (state : ControlState) (txn : TxnId) (number : ℕ) (answer : Answer) → AreSends state.nodes (answered_acts state txn number answer)
answered_sends state txn number (answers.Done reply) = (tt, tt)
answered_sends state txn number (answers.Refused holder) = abort_sends state txn number _
answered_sends state txn number answers.NoMemory = abort_sends state txn number _

either_sends : (nodes : ℕ) (b : Bool) (acts : List Act) → AreSends nodes acts → AreSends nodes (cond b acts [])
either_sends nodes true acts sends = sends
either_sends nodes false acts sends = tt

pub answer_acts_are_sends : (state : ControlState) (v : ℕ) (txn : TxnId) (number : ℕ) (answer : Answer) → AreSends state.nodes (answer_acts state v txn number answer)
unfolding answer_acts
answer_acts_are_sends state v txn number answer = either_sends state.nodes (counts_answer state v txn number) _ (answered_sends state txn number answer)

-- ---- what is safe

committed_sends : (state : ControlState) (txn : TxnId) (phase : Option Phase) → AreSends state.nodes (committed_acts state txn phase)
committed_sends state txn (Some (Logged command)) = AreSends-append state.nodes (finishes state txn true) _ (finishes_are_sends state txn true) (tt, tt)
committed_sends state txn (Some Idle) = tt
committed_sends state txn (Some (Asked command v)) = tt
committed_sends state txn (Some (Preparing command)) = tt
committed_sends state txn (Some (Decided command)) = tt
committed_sends state txn None = tt

all_told_send : (state : ControlState) (tolds : List Told) → AreSends state.nodes (flat_map (acts_of_told state) tolds)
all_told_send state [] = tt
all_told_send state (told ∷ tolds) = AreSends-append state.nodes (acts_of_told state told) _ (committed_sends state told.txn (phase_of state told.txn)) (all_told_send state tolds)

pub safe_acts_are_sends : (state : ControlState) (number : ℕ) → AreSends state.nodes (safe_acts state number)
unfolding safe_acts
safe_acts_are_sends state number = all_told_send state (up_to number state.waiting)

-- ---- a Decide

-- an open transaction that has changed, and kept its name
entry_changed : (txn : TxnId) (change : Entry → Entry) → ((entry : Entry) → (change entry).txn ≡ entry.txn) → (entries : List Entry) →
    entry_named txn (changed txn change entries) ≡ option_map change (entry_named txn entries)
entry_changed txn change keeps [] = refl
entry_changed txn change keeps (entry ∷ entries) = elim (cases_Bool (same_txn txn entry.txn)) [
  | inl same ↦
      ap (λ (e : Entry). entry_named txn (e ∷ changed txn change entries)) (cond-true _ (change entry) entry same)
      ∙ cond-true _ _ _ (ap (same_txn txn) (keeps entry) ∙ same)
      ∙ ap (option_map change) (sym (cond-true _ _ _ same))
  | inr other ↦
      ap (λ (e : Entry). entry_named txn (e ∷ changed txn change entries)) (cond-false _ (change entry) entry other)
      ∙ cond-false _ _ _ other
      ∙ entry_changed txn change keeps entries
      ∙ ap (option_map change) (sym (cond-false _ _ _ other))
]

-- the transaction waits for the number of its Decide, where the change decides it
number_awaited : (state : ControlState) (txn : TxnId) (change : Entry → Entry) (entry : Entry) → ((e : Entry) → (change e).txn ≡ e.txn) → entry_of state txn ≡ Some entry →
    is_decided (change entry).phase ≡ true → counts_number (with_changed state txn change) txn ≡ true
number_awaited state txn change entry keeps is decides =
    ap (λ (e : Option Entry). option_map_or is_decided (option_map (λ (x : Entry). x.phase) e) false) (entry_changed txn change keeps state.transactions ∙ ap (option_map change) is) ∙ decides

-- COMMIT of an open transaction without participants
decides_alone : (state : ControlState) (txn : TxnId) (number : ℕ) (found : Option Entry) → entry_of state txn ≡ found → phase_of state txn ≡ Some Idle → participants_of state txn ≡ [] →
    counts_number (with_changed state txn (committing number)) txn ≡ true
decides_alone state txn number None is idle alone =
    let none : ◌≡◌ {A = Option Phase} None (Some Idle) = sym (ap (option_map (λ (x : Entry). x.phase)) is) ∙ idle in cc
decides_alone state txn number (Some entry) is idle alone =
    let none : entry.participants ≡ [] = sym (ap (λ (e : Option Entry). option_map_or (λ (x : Entry). x.participants) e []) is) ∙ alone in
    number_awaited state txn (committing number) entry (λ e. refl) is (ap (λ vs. is_decided (commit_phase number vs)) none)

committed_are_acts : (nodes : ℕ) (state after : ControlState) (txn : TxnId) (participants : List ℕ) → nodes ≡ state.nodes →
    (participants ≡ [] → counts_number after txn ≡ true) → AreActs nodes after (commit_acts state txn participants)
committed_are_acts nodes state after txn [] same alone = inr (txn, refl, alone refl)
committed_are_acts nodes state after txn (v ∷ vs) same alone = inl (subst (λ n. AreSends n (prepares state txn)) (sym same) (prepares_are_sends state txn))

-- the acts of a command that may come
pub command_acts_are_acts : (nodes : ℕ) (state : ControlState) (txn : TxnId) (number : ℕ) (what : Command) → IsNodeCount nodes → nodes ≡ state.nodes → MayCommand state txn what →
    AreActs nodes (after_command state txn number what) (command_acts state txn number what)
unfolding command_acts after_command
command_acts_are_acts nodes state txn number Begin counted same may = inl (tt, tt)
command_acts_are_acts nodes state txn number (Work table key op) counted same may =
    inl (subst (λ n. virtual_node_of key n < nodes) same (virtual_node_of-below key nodes counted), tt)
command_acts_are_acts nodes state txn number Commit counted same may =
    committed_are_acts nodes state (with_changed state txn (committing number)) txn (participants_of state txn) same
    (λ alone. decides_alone state txn number (entry_of state txn) refl may alone)
command_acts_are_acts nodes state txn number Abort counted same may =
    inl (subst (λ n. AreSends n (abort_acts state txn number Client)) (sym same) (abort_sends state txn number Client))

-- ---- a vote

keeps_name : (b : Bool) (x y : Entry) (txn : TxnId) → x.txn ≡ txn → y.txn ≡ txn → (cond b x y).txn ≡ txn
keeps_name true x y txn hx hy = hx
keeps_name false x y txn hx hy = hy

voted_keeps : (v : ℕ) (entry : Entry) → (voted v entry).txn ≡ entry.txn
voted_keeps v entry = keeps_name (is_unanimous (with_vote v entry)) _ (with_vote v entry) entry.txn refl refl

preparing_decides : (phase : Phase) → is_preparing phase ≡ true → is_decided (decided phase) ≡ true
preparing_decides (Preparing command) is = refl
preparing_decides Idle is = absurd (false≢true is)
preparing_decides (Asked command v) is = absurd (false≢true is)
preparing_decides (Decided command) is = refl
preparing_decides (Logged command) is = absurd (false≢true is)

last_vote_decides : (state : ControlState) (v : ℕ) (txn : TxnId) (found : Option Entry) → entry_of state txn ≡ found → counts_vote state v txn ≡ true → is_last_vote state v txn ≡ true →
    counts_number (with_changed state txn (voted v)) txn ≡ true
last_vote_decides state v txn None is counts last =
    absurd (false≢true (sym (ap (λ (e : Option Entry). option_map_or (awaits_vote v) e false) is) ∙ counts))
last_vote_decides state v txn (Some entry) is counts last =
    let awaits : awaits_vote v entry ≡ true = sym (ap (λ (e : Option Entry). option_map_or (awaits_vote v) e false) is) ∙ counts in
    let unanimous : is_unanimous (with_vote v entry) ≡ true = sym (ap (λ (e : Option Entry). option_map_or (λ (x : Entry). is_unanimous (with_vote v x)) e false) is) ∙ last in
    number_awaited state txn (voted v) entry (voted_keeps v) is
    (ap (λ (e : Entry). is_decided e.phase) (cond-true _ _ (with_vote v entry) unanimous) ∙ preparing_decides entry.phase (and_parts _ _ (and_parts _ _ awaits).0).0)

either_vote : (nodes : ℕ) (state : ControlState) (txn : TxnId) (changed : ControlState) (counts last : Bool) → (counts ≡ true → last ≡ true → counts_number changed txn ≡ true) →
    AreActs nodes (cond counts changed state) (cond (counts && last) (Decide txn ∷ []) [])
either_vote nodes state txn changed true true awaited = inr (txn, refl, awaited refl refl)
either_vote nodes state txn changed true false awaited = inl tt
either_vote nodes state txn changed false last awaited = inl tt

-- the acts of a vote
pub vote_acts_are_acts : (nodes : ℕ) (state : ControlState) (v : ℕ) (txn : TxnId) → AreActs nodes (after_vote state v txn) (vote_acts state v txn)
unfolding vote_acts after_vote
vote_acts_are_acts nodes state v txn =
    either_vote nodes state txn (with_changed state txn (voted v)) (counts_vote state v txn) (is_last_vote state v txn) (last_vote_decides state v txn (entry_of state txn) refl)
