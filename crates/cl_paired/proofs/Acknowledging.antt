-- An acknowledgement tells the first part of what is still to be told.
use Rattle.std.proofs.Common.{◌≡◌, ℕ, ◌+◌, ◌-◌, ◌<◌, ◌≤◌, max, Bool, true, false, ◌&&◌, List, [], ◌++◌, length, get_or, fold, All, nat_le, nat_lt, None, Option, Some, option_map, refl, sym, ap, ◌∙◌, subst, inl, inr, arith}
use Rattle.std.specs.List.{IsDistinct}
use Rattle.std.specs.Option.{option_map_or}
use Rattle.std.proofs.lemmas.Bool.{true≢false, and_parts, and_from, or_cases, not_from_true, le-leb, lt-leb, lt-ltb, le-ltb, leb-true, ltb-true}
use Rattle.std.proofs.lemmas.List.{append-nil}
use Rattle.std.proofs.lemmas.List.Elements.{All-weaker, All-filter, filter-append, filter_passes}
use Rattle.std.proofs.lemmas.List.Folds.{list_any-append}
use Rattle.std.proofs.lemmas.Grind.{flat_map-append}
use Rattle.cl_types.specs.Transactions.{same_txn}
use Rattle.cl_log.specs.LogEntry.{LogEntry, IsNumberedFrom}
use Rattle.cl_control.specs.declared.entry.Told.{Told}
use Rattle.cl_control.specs.Calls.{is_logged, is_told, up_to, above, without_told, after_safe}
use Rattle.cl_control.specs.Sound.{IsSoundControl}
use Rattle.cl_control.specs.State.{Entry, ControlState, entry_named}
use Rattle.cl_control.proofs.Soundness.{sound-after_safe}
use Rattle.cl_control.proofs.Waiters.{filter-each, filter-none}
use Rattle.cl_repair.specs.declared.mode.Mode.{Mode}
use Rattle.cl_repair.specs.Modes.{new_modes, acked_in, after_acked, safe_in}
use Rattle.cl_steps.specs.declared.steps.Outgoing.{Outgoing}
use Rattle.cl_vnode.specs.Replica.{ReplicaState, safe_number}
use Rattle.cl_vnode.specs.Step.{Stepped, started, with_modes, entry_told, entries_between, entries_from, all_told, log_messages, shipped}
use Rattle.cl_paired.specs.Laws.{AcksTell, Tells}
use Rattle.cl_paired.specs.Paired.{IsPaired, unsafe_entries, untold, told_of, tolds_of}
use Rattle.cl_paired.proofs.Calming.{waits-logged}
use Rattle.cl_paired.proofs.Filters.{found-kept, each-found, stays, stays-apart, without_told-append, named, distinct-apart}
use Rattle.cl_paired.proofs.Numbers.{later, parted, all_between, none_from, numbered-later, numbered-front, numbered-back, tolds_each, tolds-within}
use Rattle.cl_paired.proofs.Seeing.{seen, unsafe_later, at_once_seen, untold_seen, IsAwaited}
use Rattle.cl_paired.proofs.Telling.{FindAlike, messages_from, messages_told, with_told, told_alike, tell_entries}

module _ (primary : ℕ → ℕ) (state : ReplicaState) (is : IsPaired state) (number : ℕ) (below : number < state.part.next) where
  abbrev control : ControlState
  control = state.control

  -- up to this number it was acknowledged before
  abbrev acked : ℕ
  acked = state.modes.acked

  -- the log is acknowledged up to this number now
  abbrev now : ℕ
  now = max acked number

  -- so it is in the state
  now_is : acked_in state.modes.mode acked number ≡ now
  now_is = ap (λ (mode : Mode). acked_in mode acked number) is.mode

  -- what becomes safe, and what does not yet
  abbrev front : List LogEntry
  front = entries_between acked now state.part.log

  -- and what does not yet
  abbrev back : List LogEntry
  back = later now state.part.log

  -- together they are all that was not safe
  unsafe_parts : unsafe_entries state ≡ front ++ back
  unsafe_parts = unsafe_later state is ∙ sym (parted acked now 1 state.part.log (omega arith) is.numbered)

  -- they are numbered behind what was acknowledged before
  parts_numbered : IsNumberedFrom (acked + 1) (front ++ back)
  parts_numbered =
      subst (IsNumberedFrom (acked + 1)) (sym (parted acked now 1 state.part.log (omega arith) is.numbered))
      (numbered-later acked 1 state.part.log (omega arith) is.numbered)

  -- the Decides that wait are those of the first part and of the second
  waiting_parts : control.waiting ≡ tolds_of front ++ tolds_of back
  waiting_parts = is.waiting ∙ ap tolds_of unsafe_parts ∙ flat_map-append (λ entry. told_of entry.number entry.content) front back

  -- no two are of one transaction
  names_differ : IsDistinct same_txn (named (tolds_of front ++ tolds_of back))
  names_differ = subst (λ ts. IsDistinct same_txn (named ts)) waiting_parts is.sound.once

  -- those of the second part have greater numbers
  back_behind : All (λ told. acked + 1 + length front ≤ told.number) (tolds_of back)
  back_behind =
      let next : ℕ = acked + 1 + length front in
      All-weaker (λ told. (next ≤ told.number) × (told.number < next + length back)) (λ told. next ≤ told.number) (λ told h. h.0) (tolds_of back)
      (tolds-within next back (numbered-back (acked + 1) next front back refl parts_numbered))

  -- the controller once the first part was told
  abbrev after : ControlState
  after = record control { transactions = without_told (tolds_of front) control.transactions; waiting = tolds_of back }

  -- the acknowledgement is taken
  abbrev noted : Stepped
  noted = with_modes (started state) (after_acked state.modes number)

  -- and the first part is told
  abbrev done : Stepped
  done = with_told noted (tolds_of front) (tolds_of back) (messages_told primary state.v control front)

  -- exactly the first part is told
  first_told : all_told primary (safe_number state) noted ≡ done
  unfolding all_told
  first_told =
      let before : safe_number state ≡ acked = ap (λ (mode : Mode). safe_in mode acked (state.part.next - 1)) is.mode in
      let then_safe : safe_number noted.state ≡ now =
      ap (λ (mode : Mode). safe_in mode (acked_in mode acked number) (state.part.next - 1)) is.mode in
      ap (λ (n : ℕ). fold (entry_told primary) noted (entries_between n (safe_number noted.state) state.part.log)) before
      ∙ ap (λ (n : ℕ). fold (entry_told primary) noted (entries_between acked n state.part.log)) then_safe
      ∙ tell_entries primary control noted (acked + 1) front (tolds_of back) refl (numbered-front (acked + 1) front back parts_numbered)
      waiting_parts back_behind names_differ (λ k d h. refl)

  -- ---- the controller is sound

  -- the Decides of the first part are safe
  front_safe : All (λ told. told.number ≤ now) (tolds_of front)
  front_safe =
      tolds_each (λ n. n ≤ now) front
      (All-weaker (λ entry. (nat_lt acked entry.number && nat_le entry.number now) ≡ true) (λ entry. entry.number ≤ now)
      (λ entry h. leb-true entry.number now (and_parts _ _ h).1) front
      (filter_passes (λ entry. nat_lt acked entry.number && nat_le entry.number now) state.part.log))

  -- those of the second are not
  back_waits : All (λ told. now < told.number) (tolds_of back)
  back_waits =
      tolds_each (λ n. now < n) back
      (All-weaker (λ entry. nat_lt now entry.number ≡ true) (λ entry. now < entry.number) (λ entry h. ltb-true now entry.number h) back
      (filter_passes (λ entry. nat_lt now entry.number) state.part.log))

  -- so the first are those up to the number
  safe_is : up_to now control.waiting ≡ tolds_of front
  safe_is =
      ap (up_to now) waiting_parts ∙ filter-append (λ told. nat_le told.number now) (tolds_of front) (tolds_of back)
      ∙ ap (λ (ts : List Told). ts ++ up_to now (tolds_of back)) (filter-each (λ told. nat_le told.number now) (tolds_of front)
      (All-weaker (λ told. told.number ≤ now) (λ told. nat_le told.number now ≡ true) (λ told h. le-leb told.number now h) (tolds_of front) front_safe))
      ∙ ap (λ (ts : List Told). tolds_of front ++ ts) (filter-none (λ told. nat_le told.number now) (tolds_of back)
      (All-weaker (λ told. now < told.number) (λ told. nat_le told.number now ≡ false) (λ told h. lt-leb told.number now h) (tolds_of back) back_waits))
      ∙ append-nil (tolds_of front)

  -- and the second those above it
  left_is : above now control.waiting ≡ tolds_of back
  left_is =
      ap (above now) waiting_parts ∙ filter-append (λ told. nat_lt now told.number) (tolds_of front) (tolds_of back)
      ∙ ap (λ (ts : List Told). ts ++ above now (tolds_of back)) (filter-none (λ told. nat_lt now told.number) (tolds_of front)
      (All-weaker (λ told. told.number ≤ now) (λ told. nat_lt now told.number ≡ false) (λ told h. le-ltb now told.number h) (tolds_of front) front_safe))
      ∙ filter-each (λ told. nat_lt now told.number) (tolds_of back)
      (All-weaker (λ told. now < told.number) (λ told. nat_lt now told.number ≡ true) (λ told h. lt-ltb now told.number h) (tolds_of back) back_waits)

  -- the controller is as one call leaves it that is told the number
  after_is : after_safe control now ≡ after
  unfolding after_safe
  after_is =
      ap (λ (ts : List Told). record control { transactions = without_told ts control.transactions; waiting = above now control.waiting }) safe_is
      ∙ ap (λ (ts : List Told). record control { transactions = without_told (tolds_of front) control.transactions; waiting = ts }) left_is

  -- ---- each transaction that is decided still waits

  -- one that is decided and still open waits in the second part
  still_awaited : (entry : Entry) → IsAwaited control.waiting entry → entry_named entry.txn control.transactions ≡ Some entry →
      stays (tolds_of front) entry ≡ true → IsAwaited (tolds_of back) entry
  still_awaited entry awaited found stay decides =
      let told : is_told entry.txn control.waiting ≡ true = awaited decides in
      let logged : is_logged entry.phase ≡ true =
      sym (ap (λ (o : Option Entry). option_map_or is_logged (option_map (λ (x : Entry). x.phase) o) false) found)
      ∙ waits-logged control is.sound entry.txn told in
      elim (or_cases (is_told entry.txn (tolds_of front)) (is_told entry.txn (tolds_of back))
      (sym (list_any-append (λ t. same_txn t.txn entry.txn) (tolds_of front) (tolds_of back)) ∙ ap (is_told entry.txn) (sym waiting_parts) ∙ told)) [
        | inl first ↦ absurd (true≢false (sym stay ∙ not_from_true _ (and_from _ _ logged first)))
        | inr second ↦ second
      ]

  -- so do all
  awaited_after : All (IsAwaited (tolds_of back)) after.transactions
  awaited_after =
      let gone : Entry → Bool = stays (tolds_of front) in
      let before : All (λ entry. IsAwaited control.waiting entry × (entry_named entry.txn control.transactions ≡ Some entry)) control.transactions =
      λ k d h. (is.decided k d h, each-found control.transactions is.sound.names k d h) in
      let kept : All (λ entry. IsAwaited control.waiting entry × (entry_named entry.txn control.transactions ≡ Some entry)) after.transactions =
      All-filter gone (λ entry. IsAwaited control.waiting entry × (entry_named entry.txn control.transactions ≡ Some entry)) control.transactions before in
      let stay : All (λ entry. gone entry ≡ true) after.transactions = filter_passes gone control.transactions in
      λ k d h. still_awaited (get_or after.transactions k d) (kept k d h).0 (kept k d h).1 (stay k d h)

  -- ---- the replica after it

  -- the second part is what is not safe now
  unsafe_now : unsafe_entries done.state ≡ back
  unsafe_now =
      ap (λ (n : ℕ). entries_between n (state.part.next - 1) state.part.log) now_is
      ∙ all_between now (state.part.next - 1) 1 state.part.log (omega (arith, is.next)) is.numbered

  -- it is a primary with a standby as before
  paired_after : IsPaired done.state
  paired_after = record {
    standby = is.standby;
    mode = is.mode;
    own = is.own;
    sound = subst IsSoundControl after_is (sound-after_safe control now is.sound);
    numbered = is.numbered;
    next = is.next;
    acked = omega (arith, now_is, is.acked, below);
    waiting = ap tolds_of (sym unsafe_now);
    decided = awaited_after;
  }

  -- it is seen without a standby as before
  seen_alike : seen done.state ≡ seen state
  seen_alike =
      ap (λ (entries : List Entry). record state { control = record control { transactions = entries; waiting = [] }; modes = new_modes state.v None })
      (sym (without_told-append (tolds_of front) (tolds_of back) control.transactions)
      ∙ ap (λ (ts : List Told). without_told ts control.transactions) (sym waiting_parts))

  -- what is left to tell is told as before
  back_alike : All (FindAlike after control) (tolds_of back)
  back_alike =
      let apart : All (λ told. is_told told.txn (tolds_of front) ≡ false) (tolds_of back) = distinct-apart (tolds_of front) (tolds_of back) names_differ in
      λ k d h. found-kept (get_or (tolds_of back) k d).txn (stays (tolds_of front)) control.transactions
      (stays-apart (get_or (tolds_of back) k d).txn (tolds_of front) (apart k d h))

  -- what is sent and what is left to tell is what was to be told
  sends_parts : messages_told primary state.v control front ++ untold primary done.state ≡ untold primary state
  sends_parts =
      ap (λ (ms : List Outgoing). messages_told primary state.v control front ++ ms)
      (untold_seen primary done.state paired_after ∙ ap (messages_told primary state.v after) unsafe_now
      ∙ told_alike primary state.v after control back refl back_alike)
      ∙ sym (flat_map-append (λ entry. messages_from primary state.v control entry.content) front back)
      ∙ ap (messages_told primary state.v control) (sym unsafe_parts)
      ∙ sym (untold_seen primary state is)

  -- nothing is shipped
  none_shipped : log_messages state.modes.mode state.v (entries_from state.part.next state.part.log) ≡ []
  none_shipped =
      ap (log_messages state.modes.mode state.v) (none_from state.part.next 1 state.part.log (omega (arith, is.next)) is.numbered)
      ∙ ap (λ (mode : Mode). log_messages mode state.v []) is.mode

  -- all of it together
  done_tells : Tells primary state (shipped state.part.next done)
  done_tells = record {
    paired = paired_after;
    state = at_once_seen primary done.state paired_after ∙ seen_alike ∙ sym (at_once_seen primary state is);
    sends = ap (λ (ms : List Outgoing). (ms ++ messages_told primary state.v control front) ++ untold primary done.state) none_shipped ∙ sends_parts;
    firm = refl;
    part = refl;
  }

  -- the same for the step
  pub acknowledged : Tells primary state (shipped state.part.next (all_told primary (safe_number state) noted))
  acknowledged = subst (λ (d : Stepped). Tells primary state (shipped state.part.next d)) (sym first_told) done_tells

-- an acknowledgement of any number in the log
pub acks_tell : AcksTell
acks_tell primary state from v number mark is below = acknowledged primary state is number below
