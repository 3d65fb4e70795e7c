-- What comes fits: a log record the standby, and everything else the primary, since it fits the replica of the firm system.
use Rattle.std.proofs.Common.{◌≡◌, ℕ, ◌+◌, ◌-◌, ◌<◌, ◌≤◌, nat_lt, nat_le, eqb, true, false, ◌&&◌, List, [], ◌∷◌, ◌++◌, length, map, filter, All, Option, Some}
use Rattle.std.proofs.Common.{None, option_map, refl, sym, ◌∙◌, ap, subst, arith}
use Rattle.std.specs.List.{list_any}
use Rattle.std.proofs.lemmas.Bool.{false≢true, true≢false, false_from_ne_true, or_left, cond-true, eq-eqb, eqb-true}
use Rattle.std.proofs.lemmas.List.{length-append}
use Rattle.std.proofs.lemmas.List.Elements.{All-nil, All-cons, All-head, All-tail, All-append, All-filter, All-weaker}
use Rattle.cl_commit.specs.Life.{IsSoFar, Life, to_come, open_as, committed, aborted, is_begin_of, is_beginning, Lives, CommitsWhole}
use Rattle.cl_control.specs.declared.entry.Phase.{Phase}
use Rattle.cl_control.specs.declared.entry.Phase.TheVariants.{Idle}
use Rattle.cl_control.specs.declared.entry.Told.{Told}
use Rattle.cl_control.specs.Calls.{MayCommand}
use Rattle.cl_control.specs.State.{Entry, entry_of}
use Rattle.cl_locks.specs.Grants.{mode_held}
use Rattle.cl_log.proofs.Entries.{IsNumberedFrom-append, number_at, EachAfter-at}
use Rattle.cl_log.proofs.Rest.{first_of_rest_is, HeadsRest-from, undoes-undo_of}
use Rattle.cl_log.specs.declared.records.LogRec.{LogRec}
use Rattle.cl_log.specs.declared.records.LogRec.TheVariants as records
use Rattle.cl_log.specs.Kind.{txn_of, writes, number_before, undoes}
use Rattle.cl_log.specs.Lawful.{UndoesFirst, is_decide, IsLawful, IsLawfulLog}
use Rattle.cl_log.specs.Locks.{mode_at, takes_lock, locks_of_log}
use Rattle.cl_log.specs.LogEntry.{LogEntry, IsNumberedFrom}
use Rattle.cl_log.specs.Open.{is_among}
use Rattle.cl_node.specs.Addressing.{home_in}
use Rattle.cl_paired.proofs.Filters.{told-holds}
use Rattle.cl_paired.proofs.Numbers.{numbers-within, IsWithin}
use Rattle.cl_paired.proofs.Seeing.{at_once_seen}
use Rattle.cl_paired.specs.Laws.{IsUnawaited, FitsBoth}
use Rattle.cl_paired.specs.Paired.{unsafe_entries, told_of, tolds_of, IsPaired}
use Rattle.cl_part.specs.Sound.{IsReplicaOf, IsSound, NamesBelow, RecordsKeepReplica}
use Rattle.cl_part.specs.State.{State, after_record}
use Rattle.cl_redo.specs.Condition.{IsFree, IsUnended}
use Rattle.cl_runs.specs.World.{Shape}
use Rattle.cl_steps.specs.declared.actors.TheConstants.{FRONT}
use Rattle.cl_system.specs.Firm.{FirmWorld}
use Rattle.cl_system.specs.Replicas.{own_primary}
use Rattle.cl_system.specs.Roles.{IsAddressed}
use Rattle.cl_types.proofs.Modes.{is_conflict-symmetric}
use Rattle.cl_types.proofs.PlacementLaws.{node_count-bounds}
use Rattle.cl_types.proofs.Transactions.{same_txn-itself}
use Rattle.cl_types.specs.declared.operations.Command.{Command as ClientCommand}
use Rattle.cl_types.specs.declared.operations.Command.TheVariants.{Begin, Work, Commit, Abort}
use Rattle.cl_types.specs.declared.operations.TxnId.{TxnId}
use Rattle.cl_types.specs.Modes.{is_conflict}
use Rattle.cl_types.specs.Placement.{IsNodeCount}
use Rattle.cl_types.specs.Places.{Place}
use Rattle.cl_types.specs.Transactions.{same_txn}
use Rattle.cl_vnode.specs.Inputs.{IsStandbyBelow, Fits, StandbyFits}
use Rattle.cl_vnode.specs.Replica.{ReplicaState}
use Rattle.cl_wire.specs.Message.{Content, Command, Log}
use Rattle.cl_seen.proofs.Decided.{AreDecided, HasDecided}
use Rattle.cl_seen.proofs.Lists.{All-second}
use Rattle.cl_pairs.proofs.Streams.{HasStreams}
use Rattle.cl_seen.proofs.Beside.{Sees, IsDecided, IsSafe}
use Rattle.cl_pairs.specs.Pairs.{PairWorld}
use Rattle.cl_node.specs.Members.{standby_node}
use Rattle.cl_pairs.specs.Streams.{is_log_of, log_of}

-- ---- what waits

-- what holds of each Decide of each entry holds of all that wait
tolds_of_each : (Q : Told → Type 0) (entries : List LogEntry) → All (λ entry. All Q (told_of entry.number entry.content)) entries → All Q (tolds_of entries)
tolds_of_each Q [] are = All-nil Q
tolds_of_each Q (entry ∷ entries) are =
    All-append Q (told_of entry.number entry.content) (tolds_of entries) (All-head (λ (e : LogEntry). All Q (told_of e.number e.content)) entry entries are)
    (tolds_of_each Q entries (All-tail (λ (e : LogEntry). All Q (told_of e.number e.content)) entry entries are))

-- a Decide up to this number that is of a member
told_member : (history : List TxnId) (now number : ℕ) (content : LogRec) → (number ≤ now → IsDecided history content) →
    All (λ (told : Told). told.number ≤ now → is_among told.txn history ≡ true) (told_of number content)
told_member history now number (records.Decide txn) is =
    All-cons (λ (told : Told). told.number ≤ now → is_among told.txn history ≡ true) (record { number = number; txn = txn }) [] is
    (All-nil (λ (told : Told). told.number ≤ now → is_among told.txn history ≡ true))
told_member history now number content is = All-nil (λ (told : Told). told.number ≤ now → is_among told.txn history ≡ true)

-- a Decide that is of a member
told_decided : (history : List TxnId) (number : ℕ) (content : LogRec) → IsDecided history content →
    All (λ (told : Told). is_among told.txn history ≡ true) (told_of number content)
told_decided history number (records.Decide txn) is =
    All-cons (λ (told : Told). is_among told.txn history ≡ true) (record { number = number; txn = txn }) [] is
    (All-nil (λ (told : Told). is_among told.txn history ≡ true))
told_decided history number content is = All-nil (λ (told : Told). is_among told.txn history ≡ true)

-- whoever waits at a primary is decided
waiting_decided : (history : List TxnId) (state : ReplicaState) → IsPaired state → AreDecided history state.part.log →
    All (λ told. is_among told.txn history ≡ true) state.control.waiting
waiting_decided history state is are =
    let unsafe : AreDecided history (unsafe_entries state)
    = All-filter (λ entry. nat_lt state.modes.acked entry.number && nat_le entry.number (state.part.next - 1))
    (λ entry. IsDecided history entry.content) state.part.log are in
    subst (All (λ told. is_among told.txn history ≡ true)) (sym is.waiting)
    (tolds_of_each (λ told. is_among told.txn history ≡ true) (unsafe_entries state)
    (All-weaker (λ entry. IsDecided history entry.content)
    (λ entry. All (λ (told : Told). is_among told.txn history ≡ true) (told_of entry.number entry.content))
    (λ entry one. told_decided history entry.number entry.content one) (unsafe_entries state) unsafe))

-- whoever waits at a primary up to a number that its standby has is in the standby's log
pub waiting_firm : (history : List TxnId) (now : ℕ) (state : ReplicaState) (front way : List LogEntry) → IsPaired state → state.part.log ≡ front ++ way →
    now < length front + 1 →
    AreDecided history front → All (λ told. told.number ≤ now → is_among told.txn history ≡ true) state.control.waiting
waiting_firm history now state front way is log below are =
    let P : LogEntry → Type 0 = λ entry. entry.number ≤ now → IsDecided history entry.content in
    let numbered : IsNumberedFrom (1 + length front) way = (IsNumberedFrom-append 1 front way (subst (IsNumberedFrom 1) log is.numbered)).1 in
    let behind : All P way
    = All-weaker (IsWithin (1 + length front) (length way)) P (λ entry within most. let least = within.0 in absurd (omega (arith, least, most, below))) way
    (numbers-within (1 + length front) way numbered) in
    let whole : All P state.part.log
    = subst (All P) (sym log) (All-append P front way (All-weaker (λ entry. IsDecided history entry.content) P (λ entry one most. one) front are) behind) in
    let unsafe : All P (unsafe_entries state)
    = All-filter (λ entry. nat_lt state.modes.acked entry.number && nat_le entry.number (state.part.next - 1)) P state.part.log whole in
    subst (All (λ told. told.number ≤ now → is_among told.txn history ≡ true)) (sym is.waiting)
    (tolds_of_each (λ told. told.number ≤ now → is_among told.txn history ≡ true) (unsafe_entries state)
    (All-weaker P (λ entry. All (λ (told : Told). told.number ≤ now → is_among told.txn history ≡ true) (told_of entry.number entry.content))
    (λ entry one. told_member history now entry.number entry.content one) (unsafe_entries state) unsafe))

-- ---- a log record

-- the first of what is on its way is the first that the standby has not
head_of_way : (v number : ℕ) (content : LogRec) (more : List Content) (way : List LogEntry) → Log v number content ∷ more ≡ map (log_of v) way →
    (rest : List LogEntry) × (way ≡ record { number = number; content = content } ∷ rest)
head_of_way v number content more [] is = absurd (cc)
head_of_way v number content more (entry ∷ rest) is =
    let numbers : number ≡ entry.number = cc in
    let contents : content ≡ entry.content = cc in (
      rest,
      ap (λ n. record { number = n; content = entry.content } ∷ rest) (sym numbers)
          ∙ ap (λ c. record { number = number; content = c } ∷ rest) (sym contents),
    )

-- a compensation names a lesser number than its own
names_below : (n : ℕ) (seen : List LogEntry) (content : LogRec) (number : ℕ) → IsNumberedFrom n seen → undoes number content ≡ true →
    UndoesFirst seen content → number < n + length seen
names_below n seen content number numbers names first =
    let is = first_of_rest_is seen (txn_of content) first.first first.others first.is_first in
    let at = (IsNumberedFrom-append n is.before (first.first ∷ is.after) (subst (IsNumberedFrom n) is.whole numbers)).1.0 in
    let long = ap length is.whole ∙ length-append is.before (first.first ∷ is.after) in
    let heads = HeadsRest-from n seen (txn_of content) first.first first.others numbers first.is_first in
    let same : first.first.number ≡ number =
    eqb-true first.first.number number
    (sym (undoes-undo_of first.first.content first.first.number (number_before content) number heads.undoable) ∙ ap (undoes number) (sym first.is_undo)
    ∙ names) in
    omega (arith, at, long, same)

-- what takes a lock is no Decide
lock_no_decide : (content : LogRec) → takes_lock content ≡ true → is_decide content ≡ false
lock_no_decide (records.Decide txn) takes = absurd (false≢true takes)
lock_no_decide content takes = refl

-- the record may be taken as the next of a log
pub record IsNext (part : State) (number : ℕ) (content : LogRec) : Type 0 where
  pub next : number ≡ part.next
  pub carries : (place : Place) → writes place content ≡ true → (part.stored place).0 ≡ number_before content
  pub free : IsFree (mode_held part.grants) content
  pub unended : IsUnended part.log content
  pub names : NamesBelow part.next content

-- so it is where it is lawful in a log that goes on from this one
next_lawful : (history : List TxnId) (part : State) (number : ℕ) (content : LogRec) (log rest : List LogEntry) → IsSound part → IsLawfulLog history log →
    IsNumberedFrom 1 log →
    log ≡ part.log ++ record { number = number; content = content } ∷ rest → IsNext part number content
next_lawful history part number content log rest sound lawful numbered whole =
    let entry : LogEntry = record { number = number; content = content } in
    let is : IsLawful history part.log entry = EachAfter-at (IsLawful history) part.log entry rest (subst (IsLawfulLog history) whole lawful) in
    let at : number ≡ 1 + length part.log = number_at 1 part.log entry rest (subst (IsNumberedFrom 1) whole numbered) in
    record {
      next = omega (arith, at, sound.next);
      carries = λ place write. ap (λ stored. stored.0) (sound.store place) ∙ is.carries place write;
      free = λ other place apart. false_from_ne_true _ (λ conflict. apart (is.free other place
          (is_conflict-symmetric (mode_at place content) (locks_of_log part.log other place)
          ∙ ap (λ held. is_conflict held (mode_at place content)) (sym (sound.locks other place)) ∙ conflict)));
      unended = λ takes. is.unended (lock_no_decide content takes);
      names = λ undone undo. let below = names_below 1 part.log content undone sound.numbered undo (is.in_order undone undo) in omega
          (arith, below, sound.next);
    }

-- a standby that takes it is sound
pub sound_after : RecordsKeepReplica → (part : State) (number : ℕ) (content : LogRec) → IsSound part → IsNext part number content →
    IsSound (after_record part content)
unfolding after_record
sound_after keeps part number content sound is =
    subst (λ n. IsReplicaOf (part.log ++ record { number = n; content = content } ∷ []) (after_record part content)) (sym sound.next)
    (keeps part.log part content sound is.unended is.names)

-- each standby is at a node
standby_below : (nodes v : ℕ) → IsNodeCount nodes → standby_node nodes v < nodes
standby_below nodes v counted = let bounds = node_count-bounds nodes counted in omega (arith, bounds.0)

-- nobody that is open is a member
phase_none : (found : Option Entry) → found ≡ None → option_map (λ (entry : Entry). entry.phase) found ≡ Some Idle → ⊥
phase_none found none some = let is : ◌≡◌ {A = Option Phase} None (Some Idle) = ap (option_map (λ (entry : Entry). entry.phase)) (sym none)
    ∙ some in absurd (cc)

module _ (shape : Shape) (counted : IsNodeCount shape.nodes) (pairs : PairWorld) (firm : FirmWorld) (sees : Sees shape pairs firm)
    (streams : HasStreams shape pairs) where
  -- the participant of the firm system is that of the primary
  part_same : (v : ℕ) → v < shape.nodes → (firm.world.replicas v).part ≡ (pairs.primaries v).part
  part_same v below = ap (λ (state : ReplicaState). state.part)
      (sym (sees.replicas v below) ∙ at_once_seen own_primary (pairs.primaries v) (sees.paired v below))

  -- what was decided is decided at the primary
  primary_decided : HasDecided firm.world → (v : ℕ) → v < shape.nodes → AreDecided firm.world.history (pairs.primaries v).part.log
  primary_decided decided v below = subst (λ (part : State). AreDecided firm.world.history part.log) (part_same v below) (decided v)

  -- the standby of a primary is a node
  pub mode_below : (v : ℕ) → IsStandbyBelow (pairs.primaries v).modes.mode
  mode_below v =
      let bounds = node_count-bounds shape.nodes counted in
      let below = standby_below shape.nodes v counted in
      let few : standby_node shape.nodes v < FRONT = omega (arith, bounds.1, below) in
      subst IsStandbyBelow (sym (streams.streams v).mode) few

  -- the log of the primary, by what comes first
  head_log : (v number : ℕ) (content : LogRec) (rest : List Content) → pairs.mail v (standby_node shape.nodes v) ≡ Log v number content ∷ rest →
      (more : List LogEntry) × ((pairs.primaries v).part.log ≡ (pairs.standbys v).part.log ++ record { number = number; content = content } ∷ more)
  head_log v number content rest waits =
      let stream = streams.streams v in
      let shown : Log v number content ∷ filter (is_log_of v) rest ≡ map (log_of v) stream.way
      = sym (ap (filter (is_log_of v)) waits ∙ cond-true (eqb v v) _ _ (eq-eqb v v refl)) ∙ stream.shipped in
      let head = head_of_way v number content (filter (is_log_of v) rest) stream.way shown in
      (head.0, stream.logs ∙ ap (λ way. (pairs.standbys v).part.log ++ way) head.1)

  -- a log record is of what was decided
  pub log_decided : HasDecided firm.world → (v number : ℕ) (content : LogRec) (rest : List Content) → v < shape.nodes →
      pairs.mail v (standby_node shape.nodes v) ≡ Log v number content ∷ rest →
      IsDecided firm.world.history content
  log_decided decided v number content rest below waits =
      let head = head_log v number content rest waits in
      All-head (λ (entry : LogEntry). IsDecided firm.world.history entry.content) (record { number = number; content = content }) head.0
      (All-second (λ (entry : LogEntry). IsDecided firm.world.history entry.content) (pairs.standbys v).part.log
      (record { number = number; content = content } ∷ head.0)
      (subst (AreDecided firm.world.history) head.1 (primary_decided decided v below)))

  -- a log record is the next that its standby may take
  pub log_next : IsSafe shape pairs → ((v : ℕ) → v < shape.nodes → IsLawfulLog firm.firm (firm.world.replicas v).part.log) →
      (v number : ℕ) (content : LogRec) (rest : List Content) → v < shape.nodes → pairs.mail v (standby_node shape.nodes v) ≡ Log v number content ∷ rest →
      IsNext (pairs.standbys v).part number content
  log_next safe lawful v number content rest below waits =
      let head = head_log v number content rest waits in
      next_lawful firm.firm (pairs.standbys v).part number content (pairs.primaries v).part.log head.0 (safe.sound v below)
      (subst (λ (part : State). IsLawfulLog firm.firm part.log) (part_same v below) (lawful v below)) (sees.paired v below).numbered head.1

  -- an acknowledgement has a number below the primary's next
  pub ack_below : IsSafe shape pairs → (v number : ℕ) → v < shape.nodes → number < (pairs.standbys v).part.next → number < (pairs.primaries v).part.next
  ack_below safe v number below small =
      let stream = streams.streams v in
      let long = ap length stream.logs ∙ length-append (pairs.standbys v).part.log stream.way in
      let one = (safe.sound v below).next in
      let other = (sees.paired v below).next in
      omega (arith, small, long, one, other)

  -- a command that came of a transaction that was decided does not fit
  command_refuted : (v number : ℕ) (txn : TxnId) (what : ClientCommand) (rest : List Content) (replica : ReplicaState) → MayCommand replica.control txn what →
      entry_of replica.control txn ≡ None →
      is_beginning shape.nodes firm.world txn ≡ false → firm.world.mail FRONT (home_in shape.nodes txn) ≡ Command v txn number what ∷ rest → ⊥
  command_refuted v number txn Begin rest replica may none heard waits =
      true≢false (sym (ap (list_any (is_begin_of txn)) waits ∙ or_left (same_txn txn txn) (list_any (is_begin_of txn) rest) (same_txn-itself txn)) ∙ heard)
  command_refuted v number txn (Work table key op) rest replica may none heard waits = phase_none (entry_of replica.control txn) none may
  command_refuted v number txn Commit rest replica may none heard waits = phase_none (entry_of replica.control txn) none may
  command_refuted v number txn Abort rest replica may none heard waits = phase_none (entry_of replica.control txn) none may

  -- who is a member has committed
  member_committed : (txn : TxnId) (life : Life) → IsSoFar shape.nodes firm.world txn life → is_among txn firm.world.history ≡ true →
      IsSoFar shape.nodes firm.world txn committed
  member_committed txn to_come so is = absurd (false≢true (sym so.2 ∙ is))
  member_committed txn (open_as entry) so is = absurd (false≢true (sym so.2 ∙ is))
  member_committed txn committed so is = so
  member_committed txn aborted so is = absurd (false≢true (sym so.2 ∙ is))

  -- no Decide of the transaction of a command waits
  pub unawaited : CommitsWhole shape firm.world → HasDecided firm.world → (from to : ℕ) (content : Content) (rest : List Content) →
      firm.world.mail from to ≡ content ∷ rest → IsAddressed shape.nodes from to content → to < shape.nodes →
      Fits shape.nodes (firm.world.replicas to) content → IsUnawaited (pairs.primaries to) content
  unawaited whole decided from to (Command v txn number what) rest waits is below fits =
      false_from_ne_true _ (λ told.
      let home : to ≡ home_in shape.nodes txn = is.receiver ∙ is.node in
      let member : is_among txn firm.world.history ≡ true
      = told-holds (λ name. is_among name firm.world.history ≡ true) txn (pairs.primaries to).control.waiting
      (waiting_decided firm.world.history (pairs.primaries to) (sees.paired to below) (primary_decided decided to below)) told in
      let lives : Lives shape firm.world txn = whole.lives txn is.session in
      let so : IsSoFar shape.nodes firm.world txn committed = member_committed txn lives.life lives.so_far member in
      let none : entry_of (firm.world.replicas to).control txn ≡ None = ap (λ n. entry_of (firm.world.replicas n).control txn) home ∙ so.1 in
      let head : firm.world.mail FRONT (home_in shape.nodes txn) ≡ Command v txn number what ∷ rest
      = ap (λ n. firm.world.mail n (home_in shape.nodes txn)) (sym is.giver) ∙ (ap (firm.world.mail from) (sym home) ∙ waits) in
      command_refuted v number txn what rest (firm.world.replicas to) fits.comes none so.0.heard head)
  unawaited whole decided from to content rest waits is below fits = tt

  -- what fits the replica of the firm system fits the primary
  pub primary_fits : FitsBoth → (to : ℕ) (content : Content) → to < shape.nodes → IsUnawaited (pairs.primaries to) content →
      Fits shape.nodes (firm.world.replicas to) content →
      Fits shape.nodes (pairs.primaries to) content
  primary_fits both to content below free fits =
      both own_primary shape.nodes (pairs.primaries to) content (sees.paired to below) free (mode_below to)
      (subst (λ (state : ReplicaState). Fits shape.nodes state content) (sym (sees.replicas to below)) fits)

  -- a log record fits its standby
  pub log_fits : IsSafe shape pairs → (v number : ℕ) (content : LogRec) → IsNext (pairs.standbys v).part number content →
      StandbyFits shape.nodes (pairs.standbys v) (Log v number content)
  log_fits safe v number content is = record {
    same_nodes = sym (safe.same_nodes v);
    comes = record { next = is.next; carries = is.carries; free = is.free; unended = is.unended };
  }
