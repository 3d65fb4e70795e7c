-- A primary with a standby, seen as one without, in closed form; and what is to be shown of a step.
use Rattle.std.proofs.Common.{◌≡◌, ℕ, ◌+◌, ◌-◌, ◌≤◌, true, List, [], ◌++◌, length, fold, All, nat_lt, None, refl, sym, ap, ◌∙◌, subst, arith}
use Rattle.std.specs.List.{IsDistinct}
use Rattle.std.proofs.lemmas.List.{append-nil, length-append}
use Rattle.std.proofs.lemmas.List.Elements.{All-nil, filter-append}
use Rattle.std.proofs.lemmas.Grind.{flat_map-append}
use Rattle.cl_types.specs.Transactions.{same_txn}
use Rattle.cl_log.specs.LogEntry.{LogEntry, IsNumberedFrom}
use Rattle.cl_control.specs.declared.entry.Told.{Told}
use Rattle.cl_control.specs.Calls.{is_told}
use Rattle.cl_control.specs.Sound.{IsSoundControl, has_decide}
use Rattle.cl_control.specs.State.{Entry, ControlState}
use Rattle.cl_part.specs.State.{State}
use Rattle.cl_repair.specs.Modes.{ModesState, new_modes, safe_in}
use Rattle.cl_steps.specs.declared.steps.Outgoing.{Outgoing}
use Rattle.cl_vnode.specs.Replica.{ReplicaState, safe_number}
use Rattle.cl_vnode.specs.Step.{Stepped, started, entry_told, entries_between, all_told, log_messages, entries_from, shipped}
use Rattle.cl_paired.specs.Laws.{IsSeenAlone}
use Rattle.cl_paired.specs.Paired.{unsafe_entries, told_at_once, at_once, untold, told_of, tolds_of, IsPaired}
use Rattle.cl_paired.proofs.Calming.{calm}
use Rattle.cl_paired.proofs.Filters.{named}
use Rattle.cl_paired.proofs.Numbers.{later, numbered-append, numbered-later, later-all, all_between, none_between}
use Rattle.cl_paired.proofs.Telling.{FindAlike, messages_from, messages_told, with_told, told_alike, tell_entries}

-- ---- in closed form

-- the primary as it is seen without a standby
abbrev pub seen : ReplicaState → ReplicaState
seen state = record state { control = calm state.control; modes = new_modes state.v None }

-- what is not safe of its log, as those that are later than what was acknowledged
pub unsafe_later : (state : ReplicaState) → IsPaired state → unsafe_entries state ≡ later state.modes.acked state.part.log
unsafe_later state is = all_between state.modes.acked (state.part.next - 1) 1 state.part.log (omega (arith, is.next)) is.numbered

-- it is numbered behind what was acknowledged
unsafe_numbered : (state : ReplicaState) → IsPaired state → IsNumberedFrom (state.modes.acked + 1) (unsafe_entries state)
unsafe_numbered state is =
    subst (IsNumberedFrom (state.modes.acked + 1)) (sym (unsafe_later state is)) (numbered-later state.modes.acked 1 state.part.log (omega arith) is.numbered)

-- all that is not safe is told
told_closed : (primary : ℕ → ℕ) (state : ReplicaState) → IsPaired state →
    told_at_once primary state ≡ with_told (started state) state.control.waiting [] (messages_told primary state.v state.control (unsafe_entries state))
unfolding told_at_once
told_closed primary state is =
    let waiting : state.control.waiting ≡ tolds_of (unsafe_entries state) ++ [] = is.waiting ∙ sym (append-nil (tolds_of (unsafe_entries state))) in
    tell_entries primary state.control (started state) (state.modes.acked + 1) (unsafe_entries state) [] refl (unsafe_numbered state is) waiting
    (All-nil (λ told. state.modes.acked + 1 + length (unsafe_entries state) ≤ told.number))
    (subst (λ ts. IsDistinct same_txn (named ts)) waiting is.sound.once)
    (λ k d h. refl)
    ∙ ap (λ (tolds : List Told). with_told (started state) tolds [] (messages_told primary state.v state.control (unsafe_entries state))) (sym is.waiting)

-- so the primary is seen in this form
pub at_once_seen : (primary : ℕ → ℕ) (state : ReplicaState) → IsPaired state → at_once primary state ≡ seen state
at_once_seen primary state is = ap (λ (done : Stepped). record done.state { modes = new_modes state.v None }) (told_closed primary state is)

-- and has this to tell
pub untold_seen : (primary : ℕ → ℕ) (state : ReplicaState) → IsPaired state →
    untold primary state ≡ messages_told primary state.v state.control (unsafe_entries state)
untold_seen primary state is = ap (λ (done : Stepped). done.step.sends) (told_closed primary state is)

-- ---- a step

-- records were appended
pub record HasGrown (before after : State) : Type 0 where
  pub news : List LogEntry
  pub log : after.log ≡ before.log ++ news
  pub numbered : IsNumberedFrom before.next news
  pub next : after.next ≡ before.next + length news

-- an open transaction that is decided is one of which a Decide waits
abbrev pub IsAwaited : List Told → Entry → Type 0
IsAwaited tolds entry = has_decide entry.phase ≡ true → is_told entry.txn tolds ≡ true

-- what a controller keeps in a step that appends these entries
pub record IsKept (before after : ControlState) (news : List LogEntry) : Type 0 where
  pub sound : IsSoundControl after
  pub nodes : after.nodes ≡ before.nodes
  pub waiting : after.waiting ≡ before.waiting ++ tolds_of news
  pub decided : All (IsAwaited after.waiting) after.transactions
  pub alike : All (FindAlike after before) before.waiting

-- a message is taken, with a standby and without
pub record IsTaken (primary : ℕ → ℕ) (state : ReplicaState) (done alone : Stepped) : Type 0 where
  pub grown : HasGrown state.part done.state.part
  pub v : done.state.v ≡ state.v
  pub modes : done.state.modes ≡ state.modes
  pub kept : IsKept state.control done.state.control grown.news
  pub alone_state : seen done.state ≡ alone.state
  pub alone_sends : alone.step.sends ≡ done.step.sends ++ messages_told primary state.v done.state.control grown.news
  pub firm : done.step.firm ≡ []
  pub short : done.step.short ≡ alone.step.short

-- what is acknowledged stays, so nothing becomes safe
nothing_told : (primary : ℕ → ℕ) (state : ReplicaState) (done : Stepped) → IsPaired state → done.state.modes ≡ state.modes →
    all_told primary (safe_number state) done ≡ done
unfolding all_told
nothing_told primary state done is modes =
    let before : safe_number state ≡ state.modes.acked = ap (λ mode. safe_in mode state.modes.acked (state.part.next - 1)) is.mode in
    let after : safe_number done.state ≡ state.modes.acked =
    ap (λ (m : ModesState). safe_in m.mode m.acked (done.state.part.next - 1)) modes
    ∙ ap (λ mode. safe_in mode state.modes.acked (done.state.part.next - 1)) is.mode in
    ap (λ (number : ℕ). fold (entry_told primary) done (entries_between number (safe_number done.state) done.state.part.log)) before
    ∙ ap (λ (number : ℕ). fold (entry_told primary) done (entries_between state.modes.acked number done.state.part.log)) after
    ∙ ap (fold (entry_told primary) done) (none_between state.modes.acked done.state.part.log)

module _ (primary : ℕ → ℕ) (state : ReplicaState) (done alone : Stepped) (is : IsPaired state) (taken : IsTaken primary state done alone) where
  -- up to this number the log is acknowledged
  abbrev acked : ℕ
  acked = state.modes.acked

  -- what was appended
  abbrev news : List LogEntry
  news = taken.grown.news

  -- the log is numbered from 1
  numbered_after : IsNumberedFrom 1 done.state.part.log
  numbered_after =
      subst (IsNumberedFrom 1) (sym taken.grown.log) (numbered-append 1 state.part.next state.part.log news (omega (arith, is.next))
      is.numbered taken.grown.numbered)

  -- the next number follows it
  next_after : done.state.part.next ≡ length done.state.part.log + 1
  next_after = omega (arith, taken.grown.next, is.next, ap length taken.grown.log, length-append state.part.log news)

  -- what is not safe after it is what was not, and what was appended
  unsafe_after : unsafe_entries done.state ≡ unsafe_entries state ++ news
  unsafe_after =
      ap (λ (m : ModesState). entries_between m.acked (done.state.part.next - 1) done.state.part.log) taken.modes
      ∙ all_between acked (done.state.part.next - 1) 1 done.state.part.log (omega (arith, next_after)) numbered_after
      ∙ ap (later acked) taken.grown.log
      ∙ filter-append (λ entry. nat_lt acked entry.number) state.part.log news
      ∙ ap (λ (es : List LogEntry). later acked state.part.log ++ es) (later-all acked state.part.next news is.acked taken.grown.numbered)
      ∙ ap (λ (es : List LogEntry). es ++ news) (sym (unsafe_later state is))

  -- it is a primary with a standby
  paired_after : IsPaired done.state
  paired_after = record {
    standby = is.standby;
    mode = ap (λ (m : ModesState). m.mode) taken.modes ∙ is.mode;
    own = ap (λ (m : ModesState). m.v) taken.modes ∙ is.own ∙ sym taken.v;
    sound = taken.kept.sound;
    numbered = numbered_after;
    next = next_after;
    acked = omega (arith, is.acked, taken.grown.next, ap (λ (m : ModesState). m.acked) taken.modes);
    waiting = taken.kept.waiting ∙ ap (λ (ts : List Told). ts ++ tolds_of news) is.waiting
        ∙ sym (ap tolds_of unsafe_after ∙ flat_map-append (λ entry. told_of entry.number entry.content) (unsafe_entries state) news);
    decided = taken.kept.decided;
  }

  -- what was appended is told last
  untold_after : untold primary done.state ≡ untold primary state ++ messages_told primary state.v done.state.control news
  untold_after =
      untold_seen primary done.state paired_after
      ∙ ap (λ (v : ℕ). messages_told primary v done.state.control (unsafe_entries done.state)) taken.v
      ∙ ap (messages_told primary state.v done.state.control) unsafe_after
      ∙ flat_map-append (λ entry. messages_from primary state.v done.state.control entry.content) (unsafe_entries state) news
      ∙ ap (λ (ms : List Outgoing). ms ++ messages_told primary state.v done.state.control news)
      (told_alike primary state.v done.state.control state.control (unsafe_entries state) taken.kept.nodes
      (subst (All (FindAlike done.state.control state.control)) is.waiting taken.kept.alike) ∙ sym (untold_seen primary state is))

  -- so it is seen as a step without a standby, once what was appended is shipped
  shipped_seen : IsSeenAlone primary state (shipped state.part.next done) alone
  shipped_seen = record {
    paired = paired_after;
    state = at_once_seen primary done.state paired_after ∙ taken.alone_state;
    sent = done.step.sends;
    later = messages_told primary state.v done.state.control news;
    sends = ap (λ (m : ModesState). log_messages m.mode done.state.v (entries_from state.part.next done.state.part.log) ++ done.step.sends) taken.modes
        ∙ ap (λ (v : ℕ). log_messages state.modes.mode v (entries_from state.part.next done.state.part.log) ++ done.step.sends) taken.v;
    untold = untold_after;
    alone_sends = taken.alone_sends;
    firm = taken.firm;
    short = taken.short;
    mode = taken.modes;
  }

  -- the same for the step
  pub seen_alone : IsSeenAlone primary state (shipped state.part.next (all_told primary (safe_number state) done)) alone
  seen_alone =
      subst (λ (d : Stepped). IsSeenAlone primary state (shipped state.part.next d) alone) (sym (nothing_told primary state done is taken.modes)) shipped_seen
