-- Each call keeps a controller sound.
use Rattle.std.proofs.Common.{◌≡◌, ℕ, true, false, length, Option, Some, None, refl, arith}
use Rattle.std.specs.Option.{option_map_or}
use Rattle.std.proofs.lemmas.Bool.{cond_both, or_parts, false≢true}
use Rattle.cl_types.specs.declared.answers.Answer.{Answer}
use Rattle.cl_types.specs.declared.answers.Answer.TheVariants as reply
use Rattle.cl_types.specs.declared.operations.Command.TheVariants.{Begin, Work, Commit, Abort}
use Rattle.cl_types.specs.declared.operations.TxnId.{TxnId}
use Rattle.cl_types.specs.Placement.{virtual_node_of}
use Rattle.cl_types.proofs.PlacementLaws.{virtual_node_of-below}
use Rattle.cl_control.specs.declared.entry.Phase.{Phase}
use Rattle.cl_control.specs.declared.entry.Phase.TheVariants.{Idle, Asked, Preparing, Decided, Logged}
use Rattle.cl_control.specs.State.{ControlState, phase_of, changed, with_phase, with_changed}
use Rattle.cl_control.specs.Calls.{asked, committing, after_command, is_asked, is_decided, is_logged, counts_answer, after_answered, after_answer, counts_vote, voted, after_vote, counts_number, with_number, after_decided_at}
use Rattle.cl_control.specs.Laws.{command, answer, vote, decided_at, safe_up_to, NewIsSound, CallsKeepSound}
use Rattle.cl_control.specs.Sound.{IsSoundControl, has_decide, is_decided_here, is_logged_here}
use Rattle.cl_control.proofs.Kept.{idle-not_logged, kept-asked, kept-committing, kept-idle, kept-voted, decided-found}
use Rattle.cl_control.proofs.Soundness.{sound-new, sound-with_new, sound-without, sound-with_number, sound-after_safe}

pub new_is_sound : NewIsSound
new_is_sound = sound-new

-- a transaction that waits for an answer is not decided
asked-phase : (number v : ℕ) (phase : Phase) → is_asked number v phase ≡ true → has_decide phase ≡ false
asked-phase number v (Asked asked_by w) h = refl
asked-phase number v Idle h = absurd (false≢true h)
asked-phase number v (Preparing asked_by) h = absurd (false≢true h)
asked-phase number v (Decided asked_by) h = absurd (false≢true h)
asked-phase number v (Logged asked_by) h = absurd (false≢true h)

pub asked-undecided : (state : ControlState) (v : ℕ) (txn : TxnId) (number : ℕ) → counts_answer state v txn number ≡ true → is_decided_here state txn ≡ false
asked-undecided state v txn number h = by (phase_of state txn) h
  where
    by : (phase : Option Phase) → option_map_or (is_asked number v) phase false ≡ true → option_map_or has_decide phase false ≡ false
    by None k = refl
    by (Some phase) k = asked-phase number v phase k

-- so the log number of its Decide was not told
pub undecided-not_logged : (state : ControlState) (txn : TxnId) → is_decided_here state txn ≡ false → is_logged_here state txn ≡ false
undecided-not_logged state txn h = by (phase_of state txn) h
  where
    by : (phase : Option Phase) → option_map_or has_decide phase false ≡ false → option_map_or is_logged phase false ≡ false
    by None k = refl
    by (Some phase) k = (or_parts (is_decided phase) (is_logged phase) k).1

sound-answered : (state : ControlState) (txn : TxnId) (a : Answer) → IsSoundControl state → is_logged_here state txn ≡ false → IsSoundControl (after_answered state txn a)
sound-answered state txn (reply.Done r) sound not_logged =
    (kept-idle state sound txn (changed txn (with_phase Idle) state.transactions) (length state.transactions) (omega arith) not_logged refl).0
sound-answered state txn (reply.Refused holder) sound not_logged = sound-without state txn sound not_logged
sound-answered state txn reply.NoMemory sound not_logged = sound-without state txn sound not_logged

pub calls_keep_sound : CallsKeepSound
unfolding after_command after_answer after_vote after_decided_at
calls_keep_sound state (command txn number Begin) sound may = sound-with_new state txn sound may
calls_keep_sound state (command txn number (Work table key op)) sound may =
    let v = virtual_node_of key state.nodes in
    (kept-asked state sound txn (changed txn (asked number v) state.transactions) (length state.transactions) (omega arith) number v (virtual_node_of-below key state.nodes sound.nodes) may refl).0
calls_keep_sound state (command txn number Commit) sound may =
    (kept-committing state sound txn (changed txn (committing number) state.transactions) (length state.transactions) (omega arith) number may refl).0
calls_keep_sound state (command txn number Abort) sound may = sound-without state txn sound (idle-not_logged state txn may)
calls_keep_sound state (answer v txn number a) sound may =
    cond_both (counts_answer state v txn number) (after_answered state txn a) state IsSoundControl
    (λ counts. sound-answered state txn a sound (undecided-not_logged state txn (asked-undecided state v txn number counts))) (λ _. sound)
calls_keep_sound state (vote v txn) sound may =
    cond_both (counts_vote state v txn) (with_changed state txn (voted v)) state IsSoundControl
    (λ counts. (kept-voted state sound txn (changed txn (voted v) state.transactions) (length state.transactions) (omega arith) v counts refl).0) (λ _. sound)
calls_keep_sound state (decided_at txn number) sound may =
    cond_both (counts_number state txn) (with_number state txn number) state IsSoundControl
    (λ counts. let found = decided-found state txn counts in sound-with_number state txn number found.0 sound found.1 found.2) (λ _. sound)
calls_keep_sound state (safe_up_to number) sound may = sound-after_safe state number sound
