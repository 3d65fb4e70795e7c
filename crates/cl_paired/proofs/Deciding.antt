-- A Decide is appended: its transaction waits to be told, where without a standby it ends at once.
use Rattle.std.proofs.Common.{◌≡◌, ℕ, ◌+◌, ◌-◌, ◌<◌, ◌≤◌, Bool, true, false, cond, ◌&&◌, not, if◌then◌else◌, List, [], ◌∷◌, ◌++◌, get_or, length, map, All, nat_le, nat_lt, Option, Some, None, option_map, refl, sym, ap, ◌∙◌, subst, arith}
use Rattle.std.specs.List.{IsDistinct}
use Rattle.std.specs.Option.{option_map_or}
use Rattle.std.proofs.lemmas.Bool.{cond-true, cond-false, le-leb, le-ltb, or_left, or_right, not_from_true, not_from_false}
use Rattle.std.proofs.lemmas.List.{append-nil}
use Rattle.std.proofs.lemmas.List.Elements.{All-weaker, All-filter}
use Rattle.std.proofs.lemmas.List.Folds.{list_any-append}
use Rattle.cl_types.specs.declared.answers.Outcome.TheVariants.{Committed}
use Rattle.cl_types.specs.declared.operations.TxnId.{TxnId}
use Rattle.cl_types.specs.Transactions.{same_txn}
use Rattle.cl_types.proofs.Transactions.{same_txn-itself}
use Rattle.cl_backup.specs.Decisions.{with_decision}
use Rattle.cl_log.specs.declared.records.LogRec.TheVariants as records
use Rattle.cl_log.specs.LogEntry.{LogEntry}
use Rattle.cl_control.specs.declared.acts.Act.{Act}
use Rattle.cl_control.specs.declared.acts.Act.TheVariants.{Finish, Decide, Say}
use Rattle.cl_control.specs.declared.entry.Phase.{Phase}
use Rattle.cl_control.specs.declared.entry.Phase.TheVariants.{Decided, Logged}
use Rattle.cl_control.specs.declared.entry.Told.{Told}
use Rattle.cl_control.specs.Calls.{finishes, is_decided, is_logged, logged, numbered, counts_number, with_number, after_decided_at, above, committed_acts, is_told, without_told}
use Rattle.cl_control.specs.Sound.{IsSoundControl, is_logged_here}
use Rattle.cl_control.specs.State.{Entry, ControlState, ascending, entry_of, entry_named, phase_of, participants_of, changed, with_changed, without, without_entry}
use Rattle.cl_control.proofs.Entries.{names, found-name, names-changed, entry_named-changed, entry_named-changed_other, All-changed_found, without_told-logged}
use Rattle.cl_control.proofs.Names.{IsDistinct-filter}
use Rattle.cl_control.proofs.Soundness.{apart_from_logged, sound-with_number}
use Rattle.cl_control.proofs.Waiters.{filter-each, filter-none}
use Rattle.cl_part.specs.Calls.{after_decide}
use Rattle.cl_part.specs.State.{after_record}
use Rattle.cl_repair.specs.Modes.{new_modes}
use Rattle.cl_steps.specs.Steps.{nothing_done}
use Rattle.cl_vnode.specs.Replica.{ReplicaState}
use Rattle.cl_vnode.specs.Step.{Stepped, started, with_control, firm_at_once, decided, performed, all_performed}
use Rattle.cl_lone.specs.Lone.{messages_of, committed}
use Rattle.cl_paired.specs.Paired.{IsPaired, tolds_of, unsafe_entries}
use Rattle.cl_paired.proofs.Calming.{calm, found-calm, finishes-calm, not_logged-apart}
use Rattle.cl_paired.proofs.Filters.{changed-kept, stays, stays-apart, without_told-append}
use Rattle.cl_paired.proofs.Numbers.{tolds_each, numbers-within}
use Rattle.cl_paired.proofs.Seeing.{seen, IsAwaited, IsKept, IsTaken}
use Rattle.cl_paired.proofs.Telling.{messages_told}

-- a transaction that changed before it ends has ended
without-changed : (txn : TxnId) (change : Entry → Entry) → ((entry : Entry) → (change entry).txn ≡ entry.txn) → (entries : List Entry) →
    without txn (changed txn change entries) ≡ without txn entries
without-changed txn change keeps [] = refl
without-changed txn change keeps (x ∷ xs) = by (without-changed txn change keeps xs) (same_txn txn x.txn) refl
  where
    by : without txn (changed txn change xs) ≡ without txn xs → (b : Bool) → same_txn txn x.txn ≡ b →
        cond (not (same_txn txn (if b then change x else x).txn)) ((if b then change x else x) ∷ without txn (changed txn change xs))
        (without txn (changed txn change xs)) ≡ cond (not b) (x ∷ without txn xs) (without txn xs)
    by rest true same = cond-false _ _ _ (not_from_true _ (ap (same_txn txn) (keeps x) ∙ same)) ∙ rest
    by rest false other = cond-true _ _ _ (not_from_false _ other) ∙ ap (λ (es : List Entry). x ∷ es) rest

-- ---- the controller

module _ (control : ControlState) (sound : IsSoundControl control) (awaited : All (IsAwaited control.waiting) control.transactions)
    (txn : TxnId) (number at : ℕ) (below : All (λ told. told.number < at) control.waiting) (not_logged : is_logged_here control txn ≡ false)
    (change : Entry → Entry) (keeps : (entry : Entry) → (change entry).txn ≡ entry.txn) (entry : Entry) (found : entry_of control txn ≡ Some entry)
    (same : (change entry).participants ≡ entry.participants) (decides : (change entry).phase ≡ Decided number)
    (good : IsSoundControl (with_changed control txn change)) where
  -- the transaction is decided
  abbrev now : ControlState
  now = with_changed control txn change

  -- and the number of its Decide is told
  abbrev numbered_now : ControlState
  numbered_now = with_number now txn at

  abbrev this : Told
  this = record { number = at; txn = txn }

  -- the Decides that wait then
  abbrev waiting_now : List Told
  waiting_now = control.waiting ++ this ∷ []

  -- it is found, changed
  found_now : entry_of now txn ≡ Some (change entry)
  found_now = entry_named-changed txn change keeps control.transactions ∙ ap (option_map change) found

  -- and decided
  is_decided_now : is_decided (change entry).phase ≡ true
  is_decided_now = ap is_decided decides

  -- the number counts
  number_told : after_decided_at now txn at ≡ numbered_now
  unfolding after_decided_at
  number_told =
      cond-true (counts_number now txn) numbered_now now
      (ap (λ (o : Option Entry). option_map_or is_decided (option_map (λ (x : Entry). x.phase) o) false) found_now ∙ is_decided_now)

  -- it is found with its number told
  found_numbered : entry_of numbered_now txn ≡ Some (numbered (change entry))
  found_numbered = entry_named-changed txn numbered (λ x. refl) (changed txn change control.transactions) ∙ ap (option_map numbered) found_now

  -- in this phase
  phase_now : phase_of numbered_now txn ≡ Some (Logged number)
  phase_now = ap (option_map (λ (x : Entry). x.phase)) found_numbered ∙ ap (λ (phase : Phase). Some (logged phase)) decides

  -- with its participants
  participants_now : participants_of numbered_now txn ≡ participants_of control txn
  participants_now =
      ap (λ (o : Option Entry). option_map_or (λ (x : Entry). x.participants) o []) found_numbered ∙ same
      ∙ sym (ap (λ (o : Option Entry). option_map_or (λ (x : Entry). x.participants) o []) found)

  -- it waits behind all others
  waits : numbered_now.waiting ≡ waiting_now
  waits =
      ap (λ (ts : List Told). ts ++ this ∷ above at control.waiting)
      (filter-each (λ told. nat_le told.number at) control.waiting
      (All-weaker (λ told. told.number < at) (λ told. nat_le told.number at ≡ true) (λ told h. le-leb told.number at (omega (arith, h))) control.waiting below))
      ∙ ap (λ (ts : List Told). control.waiting ++ this ∷ ts)
      (filter-none (λ told. nat_lt at told.number) control.waiting
      (All-weaker (λ told. told.number < at) (λ told. nat_lt at told.number ≡ false) (λ told h. le-ltb at told.number (omega (arith, h)))
      control.waiting below))

  -- it is among those that wait
  named_now : is_told txn waiting_now ≡ true
  named_now = list_any-append (λ told. same_txn told.txn txn) control.waiting (this ∷ []) ∙ or_right _ _ (or_left _ _ (same_txn-itself txn))

  -- so each entry of its name is awaited
  awaited_of : (x : Entry) → txn ≡ x.txn → IsAwaited waiting_now x
  awaited_of x name _ = ap (λ t. is_told t waiting_now) (sym name) ∙ named_now

  -- all that are decided are awaited
  awaited_now : All (IsAwaited waiting_now) numbered_now.transactions
  awaited_now =
      let first : All (IsAwaited waiting_now) control.transactions =
      All-weaker (IsAwaited control.waiting) (IsAwaited waiting_now)
      (λ x h t. list_any-append (λ told. same_txn told.txn x.txn) control.waiting (this ∷ []) ∙ or_left _ _ (h t)) control.transactions awaited in
      let second : All (IsAwaited waiting_now) now.transactions =
      All-changed_found txn (IsAwaited waiting_now) change control.transactions entry first sound.names found
      (awaited_of (change entry) (found-name txn control.transactions entry found ∙ sym (keeps entry))) in
      All-changed_found txn (IsAwaited waiting_now) numbered now.transactions (change entry) second good.names found_now
      (awaited_of (numbered (change entry)) (found-name txn now.transactions (change entry) found_now))

  -- the controller keeps what it has to
  kept_decided : (content : LogEntry) → content ≡ record { number = at; content = records.Decide txn } → IsKept control numbered_now (content ∷ [])
  kept_decided content is = record {
    sound = sound-with_number now txn at (change entry) good found_now is_decided_now;
    nodes = refl;
    waiting = waits ∙ ap (λ (e : LogEntry). control.waiting ++ tolds_of (e ∷ [])) (sym is);
    decided = subst (λ ts. All (IsAwaited ts) numbered_now.transactions) (sym waits) awaited_now;
    alike = λ k d h. other (get_or control.waiting k d).txn (sound.logged k d h);
  }
    where
      other : (name : TxnId) → is_logged_here control name ≡ true → entry_of numbered_now name ≡ entry_of control name
      other name is_logged_name =
          let apart : same_txn txn name ≡ false = apart_from_logged control txn name not_logged is_logged_name in
          entry_named-changed_other txn numbered (λ x. refl) name now.transactions apart
          ∙ entry_named-changed_other txn change keeps name control.transactions apart

  -- each participant and the session are told, later
  everybody_told : committed_acts numbered_now txn (phase_of numbered_now txn) ≡ finishes control txn true ++ Say txn number Committed ∷ []
  everybody_told =
      ap (committed_acts numbered_now txn) phase_now
      ∙ ap (λ (vs : List ℕ). map (λ (v : ℕ). Finish v txn true) (ascending control.nodes vs) ++ Say txn number Committed ∷ []) participants_now

  -- it did not wait before
  apart_now : is_told txn control.waiting ≡ false
  apart_now = not_logged-apart control sound txn not_logged

  -- without those that wait, it is not there
  gone : without_told numbered_now.waiting numbered_now.transactions ≡ without txn (without_told control.waiting control.transactions)
  gone =
      let tolds : List Told = control.waiting in
      let kept : List Entry = without_told tolds control.transactions in
      let passes : (x : Entry) → same_txn txn x.txn ≡ true → stays tolds x ≡ true = stays-apart txn tolds apart_now in
      let both : List Entry = changed txn numbered (changed txn change kept) in
      let same_names : names both ≡ names kept = names-changed txn numbered (λ x. refl) (changed txn change kept) ∙ names-changed txn change keeps kept in
      let distinct : IsDistinct same_txn (names both) =
      subst (IsDistinct same_txn) (sym same_names) (IsDistinct-filter (λ x. x.txn) (stays tolds) control.transactions sound.names) in
      let found_both : entry_named txn both ≡ Some (numbered (change entry)) =
      entry_named-changed txn numbered (λ x. refl) (changed txn change kept)
      ∙ ap (option_map numbered) (entry_named-changed txn change keeps kept ∙ ap (option_map change) (found-calm control txn apart_now ∙ found)) in
      ap (λ (ts : List Told). without_told ts numbered_now.transactions) waits
      ∙ without_told-append tolds (this ∷ []) numbered_now.transactions
      ∙ ap (without_told (this ∷ []))
      (changed-kept txn (stays tolds) numbered (λ x. refl) now.transactions passes
      ∙ ap (changed txn numbered) (changed-kept txn (stays tolds) change keeps control.transactions passes))
      ∙ without_told-logged txn at both distinct
      (ap (λ (o : Option Entry). option_map_or (λ (x : Entry). is_logged x.phase) o false) found_both
      ∙ ap (λ (phase : Phase). is_logged (logged phase)) decides)
      ∙ without-changed txn numbered (λ x. refl) (changed txn change kept)
      ∙ without-changed txn change keeps kept

  -- once all that waits is told, the transaction has ended
  has_ended : calm numbered_now ≡ without_entry (calm control) txn
  has_ended = ap (λ (entries : List Entry). record control { transactions = entries; waiting = [] }) gone

-- ---- the step

-- all that waits has a number in the log
waiting_below : (state : ReplicaState) → IsPaired state → All (λ told. told.number < state.part.next) state.control.waiting
waiting_below state is =
    subst (All (λ told. told.number < state.part.next)) (sym is.waiting)
    (tolds_each (λ n. n < state.part.next) (unsafe_entries state)
    (All-filter (λ entry. nat_lt state.modes.acked entry.number && nat_le entry.number (state.part.next - 1)) (λ entry. entry.number < state.part.next)
    state.part.log
    (All-weaker (λ entry. (1 ≤ entry.number) × (entry.number < 1 + length state.part.log)) (λ entry. entry.number < state.part.next)
    (λ entry h. omega (arith, h.1, is.next)) state.part.log
    (numbers-within 1 state.part.log is.numbered))))

module _ (primary : ℕ → ℕ) (state : ReplicaState) (is : IsPaired state) (txn : TxnId) (number : ℕ) (not_logged : is_logged_here state.control txn ≡ false)
    (change : Entry → Entry) (keeps : (entry : Entry) → (change entry).txn ≡ entry.txn) (entry : Entry) (found : entry_of state.control txn ≡ Some entry)
    (same : (change entry).participants ≡ entry.participants) (decides : (change entry).phase ≡ Decided number)
    (good : IsSoundControl (with_changed state.control txn change)) where
  -- the Decide is in the log
  abbrev appended : ControlState → Stepped
  appended control = record {
    state = record state { part = after_decide state.part txn; control = control; decisions = with_decision state.decisions txn };
    step = record nothing_done { firm = firm_at_once state.modes.mode txn };
  }

  -- the controller with the number of the Decide
  abbrev numbered_control : ControlState
  numbered_control = with_number (with_changed state.control txn change) txn state.part.next

  -- the entry of the Decide
  abbrev news : LogEntry
  news = record { number = state.part.next; content = records.Decide txn }

  -- once all is told, the transaction has ended
  ended : calm numbered_control ≡ without_entry (calm state.control) txn
  ended = has_ended state.control is.sound is.decided txn number state.part.next (waiting_below state is) not_logged change keeps entry found same decides good

  -- what is told then is what the primary without a standby sends at once
  to_tell : messages_told primary state.v numbered_control (news ∷ [])
      ≡ messages_of primary (finishes (calm state.control) txn true ++ Say txn number Committed ∷ [])
  to_tell =
      append-nil (messages_of primary (committed_acts numbered_control txn (phase_of numbered_control txn)))
      ∙ ap (messages_of primary)
      (everybody_told state.control is.sound is.decided txn number state.part.next (waiting_below state is)
      not_logged change keeps entry found same decides good
      ∙ ap (λ (list : List Act). list ++ Say txn number Committed ∷ [])
      (sym (finishes-calm state.control txn (not_logged-apart state.control is.sound txn not_logged) true)))

  -- the step with the Decide in the log
  appended_taken : IsTaken primary state (appended numbered_control) (committed primary (seen state) txn number)
  unfolding after_decide after_record
  appended_taken = record {
    grown = record { news = news ∷ []; log = refl; numbered = (refl, tt); next = refl };
    v = refl;
    modes = refl;
    kept = kept_decided state.control is.sound is.decided txn number state.part.next (waiting_below state is)
        not_logged change keeps entry found same decides good news refl;
    alone_state = ap (λ (control : ControlState). record state {
      part = after_decide state.part txn;
      control = control;
      modes = new_modes state.v None;
      decisions = with_decision state.decisions txn;
    }) ended;
    alone_sends = sym to_tell;
    firm = ap (λ mode. firm_at_once mode txn) is.mode;
    short = refl;
  }

  -- the Decide is appended, and told later
  pub decide_taken : IsTaken primary state (all_performed primary (with_control (started state) (with_changed state.control txn change)) (Decide txn ∷ []))
      (committed primary (seen state) txn number)
  unfolding performed decided
  decide_taken =
      subst (λ (control : ControlState). IsTaken primary state (appended control) (committed primary (seen state) txn number))
      (sym (number_told state.control is.sound is.decided txn number state.part.next (waiting_below state is)
      not_logged change keeps entry found same decides good)) appended_taken
