-- A rollback, step by step.
use Rattle.std.proofs.Common.{◌≡◌, ◌+◌, true, false, not, List, [], ◌∷◌, ◌++◌, length, refl, sym, ap, ◌∙◌, subst}
use Rattle.std.proofs.lemmas.Bool.{and_parts, not-true}
use Rattle.cl_types.specs.declared.operations.TxnId.{TxnId}
use Rattle.cl_types.specs.Places.{Place}
use Rattle.cl_log.specs.LogEntry.{LogEntry, IsNumberedFrom}
use Rattle.cl_log.specs.Locks.{HasNoConflict}
use Rattle.cl_log.specs.Open.{has_begun, has_ended, is_open, is_among}
use Rattle.cl_log.specs.Rest.{rest_to_undo}
use Rattle.cl_log.specs.Settled.{settled}
use Rattle.cl_log.proofs.Entries.{IsNumberedFrom-append}
use Rattle.cl_log.proofs.Settled.{settled_after_undo}
use Rattle.cl_log.proofs.Rest.{rest_after_undo}
use Rattle.cl_order.specs.Steps.{log_with_optional}
use Rattle.cl_part.specs.Calls.{after_undo, undo_now, place_of, first_undone}
use Rattle.cl_part.specs.Sound.{IsReplicaOf, UndoTakesFirst, UndoKeepsMap}
use Rattle.cl_part.specs.State.{State, next_entry, after_record}
use Rattle.cl_part.proofs.Undoing.{after_undo-first}

-- the log after an undo step
pub undone_log : (state : State) (txn : TxnId) (first : LogEntry) (others : List LogEntry) → rest_to_undo state.log txn ≡ first ∷ others →
    (after_undo state txn).log ≡ state.log ++ next_entry state (undo_now state first) ∷ []
unfolding after_record
undone_log state txn first others rest = ap (λ (s : State). s.log) (after_undo-first state txn first others rest)

-- the log that a replica keeps is numbered
kept_numbered : (full : List LogEntry) (state : State) → (replica : IsReplicaOf full state) → IsNumberedFrom (1 + length replica.kept.before) state.log
kept_numbered full state replica = (IsNumberedFrom-append 1 replica.kept.before state.log (subst (IsNumberedFrom 1) replica.kept.whole replica.numbered)).1

pub undo_takes_first : UndoTakesFirst
undo_takes_first full state txn first others replica rest =
    ap (λ (log : List LogEntry). rest_to_undo log txn) (undone_log state txn first others rest)
    ∙ rest_after_undo state.log (1 + length replica.kept.before) (kept_numbered full state replica) txn first others rest (next_entry state (undo_now state first)) (state.stored (place_of first.content)).0 refl

map_kept : (full : List LogEntry) (state : State) (txn : TxnId) (history : List TxnId) (place : Place) (rest : List LogEntry) → rest_to_undo full txn ≡ rest → IsNumberedFrom 1 full → is_open full txn ≡ true →
    HasNoConflict full → is_among txn history ≡ false → settled (log_with_optional full (first_undone state rest)) history place ≡ settled full history place
map_kept full state txn history place [] none numbered opened apart out = refl
map_kept full state txn history place (first ∷ others) rest numbered opened apart out =
    settled_after_undo full 1 numbered txn first others rest (record { number = length full + 1; content = undo_now state first }) (state.stored (place_of first.content)).0 refl history opened out apart place

pub undo_keeps_map : UndoKeepsMap
undo_keeps_map full state txn history place replica opened apart out =
    let running : has_ended full txn ≡ false = not-true _ (and_parts (has_begun full txn) (not (has_ended full txn)) opened).1 in
    map_kept full state txn history place (rest_to_undo state.log txn) (sym (replica.kept.rests txn running)) replica.numbered opened apart out
