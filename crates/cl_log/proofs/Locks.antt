-- The locks of a log with one more record.
use Rattle.std.proofs.Common.{◌≡◌, Bool, true, false, not, cond, ◌&&◌, ◌||◌, List, [], ◌∷◌, ◌++◌, Option, Some, None, refl, sym, ap, ◌∙◌, inl, inr}
use Rattle.std.specs.List.{list_any, fold}
use Rattle.std.proofs.lemmas.Bool.{cond-true, cond-false, cases_Bool, and_right, or_parts, or_right, not_from_true, true≢false, false≢true}
use Rattle.std.proofs.lemmas.List.Sums.{fold_push, fold-append}
use Rattle.cl_types.specs.declared.operations.Mode.{Mode}
use Rattle.cl_types.specs.declared.operations.Mode.TheVariants.{Exclusive}
use Rattle.cl_types.specs.declared.operations.TxnId.{TxnId}
use Rattle.cl_types.proofs.Transactions.{same_txn-true}
use Rattle.cl_types.specs.Modes.{stronger, is_conflict}
use Rattle.cl_types.proofs.Modes.{stronger-none, stronger-exclusive}
use Rattle.cl_types.specs.Places.{Place}
use Rattle.cl_log.specs.declared.records.LogRec.{LogRec}
use Rattle.cl_log.specs.declared.records.LogRec.TheVariants.{Touch, Set, Add}
use Rattle.cl_log.specs.LogEntry.{LogEntry}
use Rattle.cl_log.specs.Kind.{txn_of, is_of, opens, is_end, can_be_undone, writes}
use Rattle.cl_log.specs.Locks.{mode_at, mode_after, strongest_mode, locks_of_log, takes_lock, locks_after, HasNoConflict}
use Rattle.cl_log.specs.Open.{has_begun, has_ended, is_open}
use Rattle.cl_log.proofs.Open.{is_open_push-own, is_open_push-other, is_open_push-end}

-- what takes no lock locks no place
pub mode_at-none : (place : Place) (content : LogRec) → takes_lock content ≡ false → mode_at place content ≡ None
mode_at-none place (Touch txn table key mode) h = absurd (true≢false h)
mode_at-none place (Set txn table key before old new) h = absurd (true≢false h)
mode_at-none place (Add txn table key before amount) h = absurd (true≢false h)
mode_at-none place content h = refl

-- what takes a lock opens its transaction
takes_lock-opens : (content : LogRec) → opens content ≡ false → takes_lock content ≡ false
takes_lock-opens (Touch txn table key mode) h = h
takes_lock-opens (Set txn table key before old new) h = h
takes_lock-opens (Add txn table key before amount) h = h
takes_lock-opens content h = refl

-- an empty log has no locks
pub locks_of_log-nil : (txn : TxnId) (place : Place) → locks_of_log [] txn place ≡ None
unfolding locks_of_log has_begun
locks_of_log-nil txn place = refl

pub strongest_mode_push : (entries : List LogEntry) (entry : LogEntry) (txn : TxnId) (place : Place) →
    strongest_mode (entries ++ entry ∷ []) txn place ≡ mode_after txn place (strongest_mode entries txn place) entry
unfolding strongest_mode
strongest_mode_push entries entry txn place = fold_push (mode_after txn place) None entries entry

-- a transaction that has not begun has taken no lock
fold_unbegun : (txn : TxnId) (place : Place) (mode : Option Mode) (entries : List LogEntry) →
    list_any (λ entry. is_of txn entry.content && opens entry.content) entries ≡ false → fold (mode_after txn place) mode entries ≡ mode
fold_unbegun txn place mode [] h = refl
fold_unbegun txn place mode (x ∷ xs) h =
    let parts = or_parts (is_of txn x.content && opens x.content) _ h in
    ap (λ m. fold (mode_after txn place) m xs) (unchanged (is_of txn x.content) refl parts.0) ∙ fold_unbegun txn place mode xs parts.1
  where
    unchanged : (b : Bool) → is_of txn x.content ≡ b → (is_of txn x.content && opens x.content) ≡ false → mode_after txn place mode x ≡ mode
    unchanged true t f =
        cond-true _ _ _ t
        ∙ ap (stronger mode) (mode_at-none place x.content (takes_lock-opens x.content (sym (ap (λ b. b && opens x.content) t) ∙ f)))
        ∙ stronger-none mode
    unchanged false t f = cond-false _ _ _ t

pub strongest_mode-unbegun : (entries : List LogEntry) (txn : TxnId) (place : Place) → has_begun entries txn ≡ false → strongest_mode entries txn place ≡ None
unfolding strongest_mode has_begun
strongest_mode-unbegun entries txn place h = fold_unbegun txn place None entries h

-- a record of the transaction
own_step : (begun ended opening ending taking : Bool) (strongest mode : Option Mode) →
    (taking ≡ true → ended ≡ false) → (taking ≡ false → mode ≡ None) → (opening ≡ false → taking ≡ false) → (begun ≡ false → strongest ≡ None) →
    cond ((begun || opening) && not (ended || ending)) (stronger strongest mode) None ≡ cond ending None (stronger (cond (begun && not ended) strongest None) mode)
own_step begun ended opening true taking strongest mode h free opened unbegun = cond-false _ _ _ (and_right (begun || opening) _ (not_from_true _ (or_right ended true refl)))
own_step begun true opening false true strongest mode h free opened unbegun = absurd (true≢false (h refl))
own_step begun true opening false false strongest mode h free opened unbegun =
    cond-false _ _ _ (and_right (begun || opening) _ refl)
    ∙ sym (ap (λ m. stronger m mode) (cond-false _ strongest None (and_right begun false refl)) ∙ free refl)
own_step true false opening false taking strongest mode h free opened unbegun = refl
own_step false false true false taking strongest mode h free opened unbegun = ap (λ m. stronger m mode) (unbegun refl)
own_step false false false false taking strongest mode h free opened unbegun = sym (free (opened refl))

-- the locks of a log with one more record
pub locks_of_log_push : (entries : List LogEntry) (entry : LogEntry) (txn : TxnId) (place : Place) →
    (takes_lock entry.content ≡ true → has_ended entries (txn_of entry.content) ≡ false) →
    locks_of_log (entries ++ entry ∷ []) txn place ≡ locks_after (locks_of_log entries) entry txn place
unfolding locks_of_log
locks_of_log_push entries entry txn place running =
    by_owner (is_of txn entry.content) refl
  where
    by_owner : (b : Bool) → is_of txn entry.content ≡ b → locks_of_log (entries ++ entry ∷ []) txn place ≡ locks_after (locks_of_log entries) entry txn place
    by_owner true t =
        ap (λ b. cond b (strongest_mode (entries ++ entry ∷ []) txn place) None) (is_open_push-own txn entries entry t)
        ∙ ap (λ m. cond ((has_begun entries txn || opens entry.content) && not (has_ended entries txn || is_end entry.content)) m None)
        (strongest_mode_push entries entry txn place ∙ cond-true _ _ _ t)
        ∙ own_step (has_begun entries txn) (has_ended entries txn) (opens entry.content) (is_end entry.content) (takes_lock entry.content)
        (strongest_mode entries txn place) (mode_at place entry.content)
        (λ h. ap (has_ended entries) (sym (same_txn-true (txn_of entry.content) txn t)) ∙ running h)
        (mode_at-none place entry.content) (takes_lock-opens entry.content) (strongest_mode-unbegun entries txn place)
        ∙ sym (cond-true _ _ _ t)
    by_owner false f =
        ap (λ b. cond b (strongest_mode (entries ++ entry ∷ []) txn place) None) (is_open_push-other txn entries entry f)
        ∙ ap (λ m. cond (is_open entries txn) m None) (strongest_mode_push entries entry txn place ∙ cond-false _ _ _ f)
        ∙ sym (cond-false _ _ _ f)

-- an open transaction locks the place of each of its writes exclusively
strongest_exclusive : (txn : TxnId) (place : Place) (entries : List LogEntry) → fold (mode_after txn place) (Some Exclusive) entries ≡ Some Exclusive
strongest_exclusive txn place [] = refl
strongest_exclusive txn place (x ∷ xs) =
    elim (cases_Bool (is_of txn x.content)) [
      | inl t ↦ ap (λ m. fold (mode_after txn place) m xs) (cond-true _ (Some Exclusive) (Some Exclusive) t) ∙ strongest_exclusive txn place xs
      | inr f ↦ ap (λ m. fold (mode_after txn place) m xs) (cond-false _ (Some Exclusive) (Some Exclusive) f) ∙ strongest_exclusive txn place xs
    ]

pub mode_at-write : (place : Place) (content : LogRec) → can_be_undone content ≡ true → writes place content ≡ true → mode_at place content ≡ Some Exclusive
mode_at-write place (Set txn table key before old new) h k = cond-true _ _ _ k
mode_at-write place (Add txn table key before amount) h k = cond-true _ _ _ k
mode_at-write place content h k = absurd (false≢true h)

pub locks_of_log-write : (xs : List LogEntry) (entry : LogEntry) (ys : List LogEntry) (txn : TxnId) (place : Place) →
    is_open (xs ++ entry ∷ ys) txn ≡ true → is_of txn entry.content ≡ true → can_be_undone entry.content ≡ true → writes place entry.content ≡ true →
    locks_of_log (xs ++ entry ∷ ys) txn place ≡ Some Exclusive
unfolding locks_of_log strongest_mode
locks_of_log-write xs entry ys txn place running own undoable here =
    cond-true _ _ _ running
    ∙ fold-append (mode_after txn place) None xs (entry ∷ ys)
    ∙ ap (λ m. fold (mode_after txn place) m ys)
    (cond-true _ _ _ own ∙ ap (stronger (fold (mode_after txn place) None xs)) (mode_at-write place entry.content undoable here) ∙ stronger-exclusive _)
    ∙ strongest_exclusive txn place ys

-- two open transactions do not write at one place, where no locks conflict
pub one_writer : (entries : List LogEntry) (a b : TxnId) (place : Place) → HasNoConflict entries →
    locks_of_log entries a place ≡ Some Exclusive → locks_of_log entries b place ≡ Some Exclusive → a ≡ b
one_writer entries a b place none ea eb =
    none a b place (ap (λ m. is_conflict m (locks_of_log entries b place)) ea ∙ ap (is_conflict (Some Exclusive)) eb)

-- a record of another transaction leaves the locks of this one
pub locks_of_log_push-other : (entries : List LogEntry) (entry : LogEntry) (txn : TxnId) (place : Place) → is_of txn entry.content ≡ false → locks_of_log (entries ++ entry ∷ []) txn place ≡ locks_of_log entries txn place
unfolding locks_of_log
locks_of_log_push-other entries entry txn place other =
    ap (λ b. cond b (strongest_mode (entries ++ entry ∷ []) txn place) None) (is_open_push-other txn entries entry other)
    ∙ ap (λ m. cond (is_open entries txn) m None) (strongest_mode_push entries entry txn place ∙ cond-false _ _ _ other)

-- an End frees the locks of its transaction
pub locks_of_log_push-end : (entries : List LogEntry) (entry : LogEntry) (txn : TxnId) (place : Place) → is_of txn entry.content ≡ true → is_end entry.content ≡ true → locks_of_log (entries ++ entry ∷ []) txn place ≡ None
unfolding locks_of_log
locks_of_log_push-end entries entry txn place own ended = cond-false _ _ _ (is_open_push-end txn entries entry own ended)

-- what is not open holds no lock
pub locks_of_log-closed : (entries : List LogEntry) (txn : TxnId) (place : Place) → is_open entries txn ≡ false → locks_of_log entries txn place ≡ None
unfolding locks_of_log
locks_of_log-closed entries txn place h = cond-false _ _ _ h
