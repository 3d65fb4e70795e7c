-- Each step keeps a ledger ordered, and leaves the transactions whole that it does not concern.
use Rattle.std.proofs.Common.{◌≡◌, ◌&&◌, ◌≢◌, ℕ, ◌+◌, Bool, true, false, eqb, List, [], ◌∷◌, ◌++◌, length, Option, Some, None, refl, sym, ap, ◌∙◌, subst, inl, inr}
use Rattle.std.specs.Prelude.{slice_index_or}
use Rattle.std.specs.List.{All, flat_map}
use Rattle.std.proofs.lemmas.Bool.{and_from, cond-true, cond-false, cases_Bool, both_ways, eq-eqb, or_parts, or_left, or_right, false≢true, false_from_ne_true}
use Rattle.std.proofs.lemmas.List.{append-nil}
use Rattle.std.proofs.lemmas.List.Concat.{flat_map-append}
use Rattle.std.proofs.lemmas.List.Folds.{list_any-append}
use Rattle.std.proofs.lemmas.List.Sums.{fold-append}
use Rattle.std.proofs.lemmas.Map.Keys.{IsDistinct-push}
use Rattle.cl_types.specs.declared.operations.Mode.{Mode}
use Rattle.cl_types.specs.declared.operations.Mode.TheVariants.{Shared, Exclusive}
use Rattle.cl_types.specs.declared.operations.Op.{Op}
use Rattle.cl_types.specs.declared.operations.TxnId.{TxnId}
use Rattle.cl_types.specs.Modes.{is_conflict}
use Rattle.cl_types.specs.Places.{Place, same_place}
use Rattle.cl_types.specs.Transactions.{same_txn}
use Rattle.cl_types.proofs.Places.{same_place-true, same_place-itself}
use Rattle.cl_types.proofs.Transactions.{same_txn-true, same_txn-itself, same_txn-false, same_txn-symmetric}
use Rattle.cl_log.specs.declared.records.LogRec.{LogRec}
use Rattle.cl_log.specs.declared.records.LogRec.TheVariants.{Prepared, End, Decide}
use Rattle.cl_log.specs.LogEntry.{LogEntry, EachAfter}
use Rattle.cl_log.specs.Kind.{txn_of, is_of}
use Rattle.cl_log.specs.Lawful.{IsLawful, IsLawfulLog}
use Rattle.cl_log.specs.Locks.{mode_at, locks_of_log}
use Rattle.cl_log.specs.Open.{has_ended, is_among}
use Rattle.cl_log.specs.Settled.{settled}
use Rattle.cl_log.proofs.Entries.{EachAfter-append}
use Rattle.cl_log.proofs.Settled.{settled_at-member, settled_with-elsewhere}
use Rattle.cl_log.proofs.Unended.{same_txn_equivalence}
use Rattle.cl_serial.specs.PlainMap.{Values, Operation, no_values, after_operation, after_operations, RepliesAgree}
use Rattle.cl_serial.proofs.Replayed.{RepliesAgree-append}
use Rattle.cl_order.specs.Ledger.{Ledger, log_at, stored_at, lock_at, member_operations, values_of, asks_at, LocksForOperation, IsOrdered, IsWholeOn}
use Rattle.cl_order.specs.Operations.{mode_of, is_held}
use Rattle.cl_order.specs.Steps.{log_with, log_with_optional, logs_with, done_with, operation_now, record_now, with_log, with_operation, with_member, MayCarryOut, MayJoin, MayUndo, MayFinish, MayCut}
use Rattle.cl_order.proofs.Held.{is_held-itself, conflict_with_exclusive}
use Rattle.cl_order.proofs.Lawful.{lawful_prepared, lawful_decide, lawful_end, lawful_undo, lawful_operation, locks_for_operation, is_compensation, locks_elsewhere, writes_elsewhere}
use Rattle.cl_order.proofs.Ledgers.{strongest_where_locked, ordered_on, ordered_from, whole_at, whole_from, whole_everywhere, logs_with-each, ordered_with_log, whole_with_log, whole_at_log}
use Rattle.cl_order.proofs.OneLog.{HasLock, IsOrderedOn, ordered_push, ordered_cut, ordered_with_done, ordered_with_member, no_conflict_on}
use Rattle.cl_order.proofs.OneWhole.{IsWholeAt, Keeps, Keeps-itself, Keeps-back, keeps_push, keeps_append, keeps_idle, whole_reads, whole_elsewhere, whole_push-elsewhere, whole_with_nothing, whole_with_record}
use Rattle.cl_order.proofs.Records.{Fits, Fitting, record_fits}
use Rattle.cl_order.proofs.Replays.{value_through, after_operations-at, agree_from_each}

-- the next record of a log
abbrev next_entry : List LogEntry → LogRec → LogEntry
next_entry log content = record { number = length log + 1; content = content }

-- one that locks nothing
locks_nothing : (done : TxnId → List Operation) (entry : LogEntry) → ((place : Place) → mode_at place entry.content ≡ None) → LocksForOperation done entry
locks_nothing done entry none place mode locks = absurd (let e : ◌≡◌ {A = Option Mode} None (Some mode) = sym (none place) ∙ locks in cc)

module _ (ledger : Ledger) (ordered : IsOrdered ledger) where
  log_lawful : (v : ℕ) → IsLawfulLog ledger.history (ledger.logs v)
  log_lawful v = ordered.lawful v

  -- ---- marks

  pub prepare_ordered : (v : ℕ) (txn : TxnId) → has_ended (ledger.logs v) txn ≡ false → IsOrdered (with_log ledger v (log_with (ledger.logs v) (Prepared txn)))
  prepare_ordered v txn running =
      ordered_with_log ledger v (log_with (ledger.logs v) (Prepared txn)) ordered
      (ordered_push ledger.on ledger.history ledger.done (values_of ledger) v (ledger.logs v) (ordered_on ledger ordered v) (next_entry (ledger.logs v) (Prepared txn)) refl
      (lawful_prepared ledger.history (ledger.logs v) (length (ledger.logs v) + 1) txn running)
      (locks_nothing ledger.done (next_entry (ledger.logs v) (Prepared txn)) (λ place. refl)) (λ _. refl))

  pub prepare_whole : (v : ℕ) (txn other : TxnId) (u : ℕ) → IsWholeOn ledger other u → IsWholeOn (with_log ledger v (log_with (ledger.logs v) (Prepared txn))) other u
  prepare_whole v txn other u whole =
      whole_with_log ledger v (log_with (ledger.logs v) (Prepared txn)) other u
      (λ same place here. keeps_idle (ledger.logs v) (next_entry (ledger.logs v) (Prepared txn)) other place (λ takes. absurd (false≢true takes)) refl refl refl) whole

  pub decide_ordered : (v : ℕ) (txn : TxnId) → IsOrdered (with_log ledger v (log_with (ledger.logs v) (Decide txn)))
  decide_ordered v txn =
      ordered_with_log ledger v (log_with (ledger.logs v) (Decide txn)) ordered
      (ordered_push ledger.on ledger.history ledger.done (values_of ledger) v (ledger.logs v) (ordered_on ledger ordered v) (next_entry (ledger.logs v) (Decide txn)) refl
      (lawful_decide ledger.history (ledger.logs v) (length (ledger.logs v) + 1) txn)
      (locks_nothing ledger.done (next_entry (ledger.logs v) (Decide txn)) (λ place. refl)) (λ _. refl))

  pub decide_whole : (v : ℕ) (txn other : TxnId) (u : ℕ) → IsWholeOn ledger other u → IsWholeOn (with_log ledger v (log_with (ledger.logs v) (Decide txn))) other u
  decide_whole v txn other u whole =
      whole_with_log ledger v (log_with (ledger.logs v) (Decide txn)) other u
      (λ same place here. keeps_idle (ledger.logs v) (next_entry (ledger.logs v) (Decide txn)) other place (λ takes. absurd (false≢true takes)) refl refl refl) whole

  -- ---- an End

  finish_lawful : (v : ℕ) (txn : TxnId) (commit : Bool) → MayFinish ledger v txn commit → IsLawful ledger.history (ledger.logs v) (next_entry (ledger.logs v) (End txn commit))
  finish_lawful v txn true may = lawful_end ledger.history (ledger.logs v) (length (ledger.logs v) + 1) txn true may.unended (inl may.member)
  finish_lawful v txn false may = lawful_end ledger.history (ledger.logs v) (length (ledger.logs v) + 1) txn false may.unended (inr (may.undone refl))

  pub finish_ordered : (v : ℕ) (txn : TxnId) (commit : Bool) → MayFinish ledger v txn commit → IsOrdered (with_log ledger v (log_with (ledger.logs v) (End txn commit)))
  finish_ordered v txn commit may =
      ordered_with_log ledger v (log_with (ledger.logs v) (End txn commit)) ordered
      (ordered_push ledger.on ledger.history ledger.done (values_of ledger) v (ledger.logs v) (ordered_on ledger ordered v) (next_entry (ledger.logs v) (End txn commit)) refl
      (finish_lawful v txn commit may)
      (locks_nothing ledger.done (next_entry (ledger.logs v) (End txn commit)) (λ place. refl)) (λ _. refl))

  pub finish_whole : (v : ℕ) (txn : TxnId) (commit : Bool) → MayFinish ledger v txn commit → (other : TxnId) (u : ℕ) → (u ≡ v → other ≢ txn) → IsWholeOn ledger other u →
      IsWholeOn (with_log ledger v (log_with (ledger.logs v) (End txn commit))) other u
  finish_whole v txn commit may other u apart whole =
      whole_with_log ledger v (log_with (ledger.logs v) (End txn commit)) other u
      (λ same place here. keeps_push ledger.history (ledger.logs v) (next_entry (ledger.logs v) (End txn commit)) other place (ordered.lawful v)
      (finish_lawful v txn commit may) (same_txn-false txn other (λ e. apart same (sym e)))) whole

  -- ---- a compensation

  undo_lawful : (v : ℕ) (content : LogRec) → MayUndo ledger v content → IsLawful ledger.history (ledger.logs v) (next_entry (ledger.logs v) content)
  undo_lawful v content may = lawful_undo ledger.history (ledger.logs v) (next_entry (ledger.logs v) content) may.unended may.first may.carries

  pub undo_ordered : (v : ℕ) (content : LogRec) → MayUndo ledger v content → IsOrdered (with_log ledger v (log_with (ledger.logs v) content))
  undo_ordered v content may =
      ordered_with_log ledger v (log_with (ledger.logs v) content) ordered
      (ordered_push ledger.on ledger.history ledger.done (values_of ledger) v (ledger.logs v) (ordered_on ledger ordered v) (next_entry (ledger.logs v) content) refl
      (undo_lawful v content may)
      (locks_nothing ledger.done (next_entry (ledger.logs v) content) (is_compensation (ledger.logs v) content may.first).locks)
      (λ member. absurd (both_ways _ may.outside member)))

  pub undo_whole : (v : ℕ) (content : LogRec) → MayUndo ledger v content → (other : TxnId) (u : ℕ) → (u ≡ v → other ≢ txn_of content) → IsWholeOn ledger other u →
      IsWholeOn (with_log ledger v (log_with (ledger.logs v) content)) other u
  undo_whole v content may other u apart whole =
      whole_with_log ledger v (log_with (ledger.logs v) content) other u
      (λ same place here. keeps_push ledger.history (ledger.logs v) (next_entry (ledger.logs v) content) other place (ordered.lawful v)
      (undo_lawful v content may) (same_txn-false (txn_of content) other (λ e. apart same (sym e)))) whole

  -- ---- the cut

  pub cut_ordered : (v : ℕ) (front : List LogEntry) → MayCut ledger v front → IsOrdered (with_log ledger v front)
  cut_ordered v front may =
      ordered_with_log ledger v front ordered
      (ordered_cut ledger.on ledger.history ledger.done (values_of ledger) v (ledger.logs v) (ordered_on ledger ordered v) front may.lost may.whole may.ends)

  pub cut_whole : (v : ℕ) (front : List LogEntry) (may : MayCut ledger v front) (other : TxnId) (u : ℕ) → (u ≡ v → EachAfter (λ _ entry. is_of other entry.content ≡ false) [] may.lost) → IsWholeOn ledger other u →
      IsWholeOn (with_log ledger v front) other u
  cut_whole v front may other u loses_nothing whole =
      whole_with_log ledger v front other u
      (λ same place here.
      let both = EachAfter-append (IsLawful ledger.history) [] front may.lost (subst (IsLawfulLog ledger.history) may.whole (ordered.lawful v)) in
      Keeps-back front (ledger.logs v) other place
      (subst (λ es. Keeps front es other place) (sym may.whole)
      (keeps_append ledger.history front may.lost [] other place both.0 both.1 (loses_nothing same)))) whole

-- ---- a transaction joins the history

module _ (ledger : Ledger) (ordered : IsOrdered ledger) (txn : TxnId) (may : MayJoin ledger txn) where
  joining : (place : Place) → IsWholeAt (log_at ledger place) txn place (values_of ledger place) (ledger.done txn)
  joining place = whole_everywhere ledger txn ordered may.whole place

  operations_joined : member_operations (with_member ledger txn) ≡ member_operations ledger ++ ledger.done txn
  operations_joined =
      flat_map-append ledger.done ledger.history (txn ∷ [])
      ∙ ap (λ more. member_operations ledger ++ more) (append-nil (ledger.done txn))

  values_joined : values_of (with_member ledger txn) ≡ after_operations (values_of ledger) (ledger.done txn)
  values_joined =
      ap (after_operations no_values) operations_joined
      ∙ fold-append after_operation no_values (member_operations ledger) (ledger.done txn)

  value_joined : (place : Place) → values_of (with_member ledger txn) place ≡ value_through place (values_of ledger place) (ledger.done txn)
  value_joined place = ap (λ (m : Values). m place) values_joined ∙ after_operations-at (values_of ledger) (ledger.done txn) place

  among_joined : is_among txn (ledger.history ++ txn ∷ []) ≡ true
  among_joined = list_any-append (same_txn txn) ledger.history (txn ∷ []) ∙ or_right _ _ (or_left _ _ (same_txn-itself txn))

  settles_joined : (place : Place) → settled (log_at ledger place) (ledger.history ++ txn ∷ []) place ≡ values_of (with_member ledger txn) place
  settles_joined place = by_lock (locks_of_log (log_at ledger place) txn place) refl
    where
      weaker : locks_of_log (log_at ledger place) txn place ≢ Some Exclusive → settled (log_at ledger place) (ledger.history ++ txn ∷ []) place ≡ values_of (with_member ledger txn) place
      weaker weak =
          settled_with-elsewhere (log_at ledger place) ledger.history txn place weak
          ∙ ordered.settles place
          ∙ sym (whole_reads (log_at ledger place) txn place (values_of ledger place) (ledger.done txn) (joining place) weak)
          ∙ sym (value_joined place)

      by_lock : (m : Option Mode) → locks_of_log (log_at ledger place) txn place ≡ m → settled (log_at ledger place) (ledger.history ++ txn ∷ []) place ≡ values_of (with_member ledger txn) place
      by_lock (Some Exclusive) e =
          settled_at-member (log_at ledger place) (ledger.history ++ txn ∷ []) txn place
          (no_conflict_on ledger.on ledger.history ledger.done (values_of ledger) (ledger.on place) (log_at ledger place) (ordered_on ledger ordered (ledger.on place)))
          among_joined e
          ∙ (joining place).written e
          ∙ sym (value_joined place)
      by_lock (Some Shared) e = weaker (λ exclusive. let q : ◌≡◌ {A = Option Mode} (Some Shared) (Some Exclusive) = sym e ∙ exclusive in cc)
      by_lock None e = weaker (λ exclusive. let q : ◌≡◌ {A = Option Mode} None (Some Exclusive) = sym e ∙ exclusive in cc)

  -- a lock that is held is of a transaction that has begun and has not ended
  locks_joined : (v : ℕ) → All (HasLock ledger.on v (ledger.logs v) txn) (ledger.done txn)
  locks_joined v k d below here =
      strongest_where_locked (ledger.logs v) txn place (mode_of (slice_index_or (ledger.done txn) k d).op)
      (subst (λ u. is_held (locks_of_log (ledger.logs u) txn place) (mode_of (slice_index_or (ledger.done txn) k d).op) ≡ true) here
      ((joining place).locked k d below refl))
    where
      place : Place
      place = (slice_index_or (ledger.done txn) k d).place

  pub join_ordered : IsOrdered (with_member ledger txn)
  join_ordered =
      ordered_from (with_member ledger txn)
      (λ v. ordered_with_member ledger.on ledger.history ledger.done (values_of ledger) v (ledger.logs v) (ordered_on ledger ordered v) txn (values_of (with_member ledger txn))
      (λ place here. subst (λ u. settled (ledger.logs u) (ledger.history ++ txn ∷ []) place ≡ values_of (with_member ledger txn) place) here (settles_joined place))
      (locks_joined v))
      (subst (RepliesAgree no_values) (sym operations_joined)
      (RepliesAgree-append no_values (member_operations ledger) (ledger.done txn) ordered.replies
      (agree_from_each (values_of ledger) (ledger.done txn) (λ place. (joining place).agree))))
      (IsDistinct-push same_txn_equivalence ledger.history txn ordered.distinct may.outside)

  pub join_whole : (other : TxnId) (u : ℕ) → other ≢ txn → IsWholeOn ledger other u → IsWholeOn (with_member ledger txn) other u
  join_whole other u apart whole =
      whole_from (with_member ledger txn) other u (λ place here. by_lock place here (locks_of_log (ledger.logs u) txn place) refl)
    where
      log_here : (place : Place) → ledger.on place ≡ u → log_at ledger place ≡ ledger.logs u
      log_here place here = ap ledger.logs here

      same_value : (place : Place) → ledger.on place ≡ u → locks_of_log (ledger.logs u) txn place ≢ Some Exclusive → values_of (with_member ledger txn) place ≡ values_of ledger place
      same_value place here weak =
          value_joined place
          ∙ whole_reads (log_at ledger place) txn place (values_of ledger place) (ledger.done txn) (joining place)
          (λ exclusive. weak (ap (λ es. locks_of_log es txn place) (sym (log_here place here)) ∙ exclusive))

      weaker : (place : Place) → ledger.on place ≡ u → locks_of_log (ledger.logs u) txn place ≢ Some Exclusive →
          IsWholeAt (ledger.logs u) other place (values_of (with_member ledger txn) place) (ledger.done other)
      weaker place here weak =
          subst (λ value. IsWholeAt (ledger.logs u) other place value (ledger.done other)) (sym (same_value place here weak)) (whole_at ledger other u whole place here)

      -- at a place that the new member has locked exclusively the other has no lock
      unlocked : (place : Place) → locks_of_log (ledger.logs u) txn place ≡ Some Exclusive → (m : Option Mode) → locks_of_log (ledger.logs u) other place ≡ m → locks_of_log (ledger.logs u) other place ≡ None
      unlocked place exclusive None e = e
      unlocked place exclusive (Some mode) e =
          absurd (apart (no_conflict_on ledger.on ledger.history ledger.done (values_of ledger) u (ledger.logs u) (ordered_on ledger ordered u) other txn place
          (ap (λ m. is_conflict m (locks_of_log (ledger.logs u) txn place)) e ∙ ap (is_conflict (Some mode)) exclusive ∙ conflict_with_exclusive (Some mode) mode (is_held-itself mode))))

      by_lock : (place : Place) → ledger.on place ≡ u → (m : Option Mode) → locks_of_log (ledger.logs u) txn place ≡ m →
          IsWholeAt (ledger.logs u) other place (values_of (with_member ledger txn) place) (ledger.done other)
      by_lock place here (Some Exclusive) e =
          whole_elsewhere (ledger.logs u) other place (values_of ledger place) (values_of (with_member ledger txn) place) (ledger.done other)
          (whole_at ledger other u whole place here) (unlocked place e (locks_of_log (ledger.logs u) other place) refl)
      by_lock place here (Some Shared) e = weaker place here (λ exclusive. let q : ◌≡◌ {A = Option Mode} (Some Shared) (Some Exclusive) = sym e ∙ exclusive in cc)
      by_lock place here None e = weaker place here (λ exclusive. let q : ◌≡◌ {A = Option Mode} None (Some Exclusive) = sym e ∙ exclusive in cc)

-- ---- an operation is carried out

module _ (ledger : Ledger) (ordered : IsOrdered ledger) (txn : TxnId) (place : Place) (op : Op) (may : MayCarryOut ledger txn place op) where
  more : TxnId → List Operation
  more = done_with ledger.done txn (operation_now ledger place op)

  more_own : more txn ≡ ledger.done txn ++ operation_now ledger place op ∷ []
  unfolding more
  more_own = cond-true _ _ _ (same_txn-itself txn)

  more_other : (other : TxnId) → same_txn other txn ≡ false → more other ≡ ledger.done other
  unfolding more
  more_other other apart = cond-false _ _ _ apart

  more_of_member : (member : TxnId) → is_among member ledger.history ≡ true → more member ≡ ledger.done member
  more_of_member member joined =
      more_other member (false_from_ne_true _ (λ same. both_ways _ may.outside (ap (λ t. is_among t ledger.history) (sym (same_txn-true member txn same)) ∙ joined)))

  more_of_all : (xs : List TxnId) → is_among txn xs ≡ false → flat_map more xs ≡ flat_map ledger.done xs
  more_of_all [] out = refl
  more_of_all (x ∷ xs) out =
      let parts = or_parts (same_txn txn x) _ out in
      ap (λ list. list ++ flat_map more xs) (more_other x (same_txn-symmetric x txn ∙ parts.0))
      ∙ ap (λ list. ledger.done x ++ list) (more_of_all xs parts.1)

  after : Ledger
  after = with_operation ledger txn place op

  operations_same : member_operations after ≡ member_operations ledger
  unfolding after more
  operations_same = more_of_all ledger.history may.outside

  values_same : values_of after ≡ values_of ledger
  unfolding after
  values_same = ap (after_operations no_values) operations_same

  has_more : (t : TxnId) (p : Place) (mode : Mode) → asks_at (ledger.done t) p mode ≡ true → asks_at (more t) p mode ≡ true
  has_more t p mode has =
      elim (cases_Bool (same_txn t txn)) [
        | inl same ↦
            let is = same_txn-true t txn same in
            ap (λ w. asks_at (more w) p mode) is
            ∙ ap (λ list. asks_at list p mode) more_own
            ∙ list_any-append (λ (o : Operation). same_place o.place p && is_held (Some (mode_of o.op)) mode) (ledger.done txn) (operation_now ledger place op ∷ [])
            ∙ or_left _ _ (ap (λ w. asks_at (ledger.done w) p mode) (sym is) ∙ has)
        | inr apart ↦ ap (λ list. asks_at list p mode) (more_other t apart) ∙ has
      ]

  has_own : asks_at (more txn) place (mode_of op) ≡ true
  has_own =
      ap (λ list. asks_at list place (mode_of op)) more_own
      ∙ list_any-append (λ (o : Operation). same_place o.place place && is_held (Some (mode_of o.op)) (mode_of op)) (ledger.done txn) (operation_now ledger place op ∷ [])
      ∙ or_right _ _ (or_left _ _ (and_from _ _ (same_place-itself place) (is_held-itself (mode_of op))))

  Fit : Option LogRec → Type 0
  Fit = Fitting txn place op (stored_at ledger place).0 (stored_at ledger place).1 (lock_at ledger txn place)

  record_fits_now : Fit (record_now ledger txn place op)
  unfolding Fit
  record_fits_now = record_fits txn place op (stored_at ledger place).0 (stored_at ledger place).1 (lock_at ledger txn place)

  lawful_now : (content : LogRec) → Fits txn place op (stored_at ledger place).0 (stored_at ledger place).1 content → IsLawful ledger.history (log_at ledger place) (next_entry (log_at ledger place) content)
  lawful_now content fits =
      lawful_operation ledger.history (log_at ledger place) (length (log_at ledger place) + 1) content txn place op
      (no_conflict_on ledger.on ledger.history ledger.done (values_of ledger) (ledger.on place) (log_at ledger place) (ordered_on ledger ordered (ledger.on place)))
      may.unended may.free fits

  with_more : (v : ℕ) → IsOrderedOn ledger.on ledger.history more (values_of ledger) v (ledger.logs v)
  with_more v =
      ordered_with_done ledger.on ledger.history ledger.done (values_of ledger) v (ledger.logs v) (ordered_on ledger ordered v) more more_of_member
      (λ entry for_operation p mode locks. has_more (txn_of entry.content) p mode (for_operation p mode locks))

  log_after : (r : Option LogRec) → Fit r → IsOrderedOn ledger.on ledger.history more (values_of ledger) (ledger.on place) (log_with_optional (log_at ledger place) r)
  unfolding Fit
  log_after None fits = with_more (ledger.on place)
  log_after (Some content) fits =
      ordered_push ledger.on ledger.history more (values_of ledger) (ledger.on place) (log_at ledger place) (with_more (ledger.on place)) (next_entry (log_at ledger place) content) refl
      (lawful_now content fits)
      (locks_for_operation more (length (log_at ledger place) + 1) content txn place op (stored_at ledger place).0 (stored_at ledger place).1 fits has_own)
      (λ member. absurd (both_ways _ may.outside (ap (λ t. is_among t ledger.history) (sym fits.own) ∙ member)))

  pub operation_ordered : IsOrdered (with_operation ledger txn place op)
  unfolding more after
  operation_ordered =
      ordered_from (with_operation ledger txn place op)
      (λ v. subst (λ values. IsOrderedOn ledger.on ledger.history more values v ((with_operation ledger txn place op).logs v)) (sym values_same)
      (logs_with-each (IsOrderedOn ledger.on ledger.history more (values_of ledger)) ledger.logs (ledger.on place)
      (log_with_optional (log_at ledger place) (record_now ledger txn place op)) (log_after (record_now ledger txn place op) record_fits_now) with_more v))
      (subst (RepliesAgree no_values) (sym operations_same) ordered.replies)
      ordered.distinct

  -- ---- who stays whole

  -- another's place in the log
  keeps_other : (r : Option LogRec) → Fit r → (other : TxnId) (p : Place) → same_txn other txn ≡ false → Keeps (log_at ledger place) (log_with_optional (log_at ledger place) r) other p
  unfolding Fit
  keeps_other None fits other p apart = Keeps-itself (log_at ledger place) other p
  keeps_other (Some content) fits other p apart =
      keeps_push ledger.history (log_at ledger place) (next_entry (log_at ledger place) content) other p (ordered.lawful (ledger.on place)) (lawful_now content fits)
      (ap (λ t. same_txn t other) fits.own ∙ same_txn-symmetric txn other ∙ apart)

  -- another place
  keeps_elsewhere : (r : Option LogRec) → Fit r → (p : Place) → place ≢ p → Keeps (log_at ledger place) (log_with_optional (log_at ledger place) r) txn p
  unfolding Fit
  keeps_elsewhere None fits p away = Keeps-itself (log_at ledger place) txn p
  keeps_elsewhere (Some content) fits p away =
      keeps_idle (log_at ledger place) (next_entry (log_at ledger place) content) txn p
      (λ takes. ap (has_ended (log_at ledger place)) fits.own ∙ may.unended) fits.no_end
      (locks_elsewhere content place p fits.there away)
      (false_from_ne_true _ (λ here. away (sym (writes_elsewhere content place p fits.there here))))

  -- the place itself
  whole_there : (r : Option LogRec) → Fit r → IsWholeAt (log_at ledger place) txn place (values_of ledger place) (ledger.done txn) →
      IsWholeAt (log_with_optional (log_at ledger place) r) txn place (values_of ledger place) (ledger.done txn ++ operation_now ledger place op ∷ [])
  unfolding Fit
  whole_there None fits whole =
      whole_with_nothing ledger.history (log_at ledger place) txn place (values_of ledger place) (ledger.done txn) op (ordered.lawful (ledger.on place)) (ordered.settles place) whole may.free fits
  whole_there (Some content) fits whole =
      whole_with_record ledger.history (log_at ledger place) txn place (values_of ledger place) (ledger.done txn) op (ordered.lawful (ledger.on place)) (ordered.settles place) whole may.free
      (length (log_at ledger place) + 1) content (lawful_now content fits) fits

  own_whole : (r : Option LogRec) → Fit r → (u : ℕ) (p : Place) → ledger.on p ≡ u → IsWholeAt (ledger.logs u) txn p (values_of ledger p) (ledger.done txn) →
      IsWholeAt (logs_with ledger.logs (ledger.on place) (log_with_optional (log_at ledger place) r) u) txn p (values_of ledger p) (ledger.done txn ++ operation_now ledger place op ∷ [])
  own_whole r fits u p here whole =
      elim (cases_Bool (same_place place p)) [
        | inl t ↦
            let same = same_place-true place p t in
            let on_it : eqb u (ledger.on place) ≡ true = eq-eqb _ _ (sym here ∙ ap ledger.on (sym same)) in
            subst (λ es. IsWholeAt es txn p (values_of ledger p) (ledger.done txn ++ operation_now ledger place op ∷ [])) (sym (cond-true _ (log_with_optional (log_at ledger place) r) (ledger.logs u) on_it))
            (subst (λ (q : Place). IsWholeAt (log_with_optional (log_at ledger place) r) txn q (values_of ledger q) (ledger.done txn ++ operation_now ledger place op ∷ [])) same
            (whole_there r fits
            (subst (λ (q : Place). IsWholeAt (ledger.logs (ledger.on q)) txn q (values_of ledger q) (ledger.done txn)) (sym same)
            (subst (λ w. IsWholeAt (ledger.logs w) txn p (values_of ledger p) (ledger.done txn)) (sym here) whole))))
        | inr f ↦
            let away : place ≢ p = λ e. both_ways _ f (ap (same_place place) (sym e) ∙ same_place-itself place) in
            whole_push-elsewhere (logs_with ledger.logs (ledger.on place) (log_with_optional (log_at ledger place) r) u) txn p (values_of ledger p) (ledger.done txn) (operation_now ledger place op) away
            (whole_with_log_at u p whole (λ same. keeps_elsewhere r fits p away))
      ]
    where
      whole_with_log_at : (u : ℕ) (p : Place) → IsWholeAt (ledger.logs u) txn p (values_of ledger p) (ledger.done txn) →
          (u ≡ ledger.on place → Keeps (log_at ledger place) (log_with_optional (log_at ledger place) r) txn p) →
          IsWholeAt (logs_with ledger.logs (ledger.on place) (log_with_optional (log_at ledger place) r) u) txn p (values_of ledger p) (ledger.done txn)
      whole_with_log_at u p whole keeps =
          whole_at_log ledger (ledger.on place) (log_with_optional (log_at ledger place) r) txn u p (values_of ledger p) (ledger.done txn) keeps whole

  pub operation_whole : (other : TxnId) (u : ℕ) → IsWholeOn ledger other u → IsWholeOn (with_operation ledger txn place op) other u
  unfolding more after
  operation_whole other u whole =
      whole_from (with_operation ledger txn place op) other u (λ p here.
      subst (λ (values : Values). IsWholeAt ((with_operation ledger txn place op).logs u) other p (values p) (more other)) (sym values_same)
      (elim (cases_Bool (same_txn other txn)) [
        | inl t ↦
            let same = same_txn-true other txn t in
            subst (λ w. IsWholeAt ((with_operation ledger txn place op).logs u) w p (values_of ledger p) (more w)) (sym same)
            (subst (IsWholeAt ((with_operation ledger txn place op).logs u) txn p (values_of ledger p)) (sym more_own)
            (own_whole (record_now ledger txn place op) record_fits_now u p here
            (subst (λ w. IsWholeAt (ledger.logs u) w p (values_of ledger p) (ledger.done w)) same (whole_at ledger other u whole p here))))
        | inr apart ↦
            subst (IsWholeAt ((with_operation ledger txn place op).logs u) other p (values_of ledger p)) (sym (more_other other apart))
            (whole_at_log ledger (ledger.on place) (log_with_optional (log_at ledger place) (record_now ledger txn place op)) other u p (values_of ledger p) (ledger.done other)
            (λ same. keeps_other (record_now ledger txn place op) record_fits_now other p apart) (whole_at ledger other u whole p here))
      ]))
