-- A participant that keeps its whole log, and its calls as steps of a ledger.
use Rattle.std.proofs.Common.{◌≡◌, ℕ, ◌+◌, List, [], ◌∷◌, ◌++◌, length, sym, ◌∙◌, ap, subst, arith}
use Rattle.std.proofs.lemmas.List.{length-append}
use Rattle.cl_log.specs.LogEntry.{LogEntry}
use Rattle.cl_log.specs.Open.{has_ended}
use Rattle.cl_order.specs.Ledger.{Ledger}
use Rattle.cl_order.specs.Steps.{after_steps, AreEnabled}
use Rattle.cl_part.specs.Calls.{Call, ask_op, prepare, decide, undo_one, end, after_call}
use Rattle.cl_part.specs.Laws.{IsAt, MayCall, steps_of}
use Rattle.cl_part.specs.Sound.{IsReplicaOf, IsSound, IsUnended}
use Rattle.cl_part.specs.State.{State}
use Rattle.cl_part.proofs.Following.{calls_are_steps}
use Rattle.cl_part.proofs.Soundness.{calls_keep_sound}

-- the participant of a virtual node, whose log is that of the ledger
pub record KeepsLog (ledger : Ledger) (v : ℕ) (state : State) : Type 0 where
  pub sound : IsSound state
  pub log : ledger.logs v ≡ state.log

-- such a participant is that of its virtual node
pub IsAt-keeps : (ledger : Ledger) (v : ℕ) (state : State) → KeepsLog ledger v state → IsAt ledger v state
IsAt-keeps ledger v state at = subst (λ log. IsReplicaOf log state) (sym at.log) at.sound

-- an end as long as the list is the whole list
whole_end : (xs before ys : List LogEntry) → xs ≡ before ++ ys → length xs ≡ length ys → xs ≡ ys
whole_end xs [] ys is same = is
whole_end xs (entry ∷ before) ys is same =
    let longer = ap length is ∙ length-append (entry ∷ before) ys in
    let count : length (entry ∷ before) ≡ length before + 1 = omega arith in
    absurd (omega (arith, longer, count, same))

-- a sound replica of a full log keeps it all
whole_log : (full : List LogEntry) (state : State) → IsReplicaOf full state → IsSound state → full ≡ state.log
whole_log full state replica sound =
    let next = replica.next in
    let kept = sound.next in
    whole_end full replica.kept.before state.log replica.kept.whole (omega (arith, next, kept))

-- an operation that may be made is of a transaction without End
unended_call : (ledger : Ledger) (v : ℕ) (state : State) (call : Call) → ledger.logs v ≡ state.log → MayCall ledger v call → IsUnended state.log call
unended_call ledger v state (ask_op txn place op) same may = ap (λ (log : List LogEntry). has_ended log txn) (sym same) ∙ may.1.unended
unended_call ledger v state (prepare txn) same may = tt
unended_call ledger v state (decide txn) same may = tt
unended_call ledger v state (undo_one txn) same may = tt
unended_call ledger v state (end txn commit) same may = tt

-- ---- the steps of a call

-- they are enabled, and leave the participant with the log of the ledger
pub record FollowsKeeping (ledger : Ledger) (v : ℕ) (state : State) (call : Call) : Type 0 where
  pub enabled : AreEnabled ledger (steps_of v state call)
  pub after : KeepsLog (after_steps ledger (steps_of v state call)) v (after_call state call)

pub calls_keep_log : (ledger : Ledger) (v : ℕ) (state : State) (call : Call) → KeepsLog ledger v state → MayCall ledger v call → FollowsKeeping ledger v state call
calls_keep_log ledger v state call at may =
    let follows = calls_are_steps ledger v state call (IsAt-keeps ledger v state at) may in
    let sound : IsSound (after_call state call) = calls_keep_sound state call at.sound (unended_call ledger v state call at.log may) in
    record {
      enabled = follows.enabled;
      after = record { sound = sound; log = whole_log ((after_steps ledger (steps_of v state call)).logs v) (after_call state call) follows.after sound };
    }
