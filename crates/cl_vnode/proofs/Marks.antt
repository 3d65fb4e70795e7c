-- Where memory was short, a step sends no more than where it was not.
use Rattle.std.proofs.Common.{◌≡◌, ℕ, ◌+◌, nat_eq, Bool, true, false, cond, List, [], ◌∷◌, ◌++◌, map, fold, length, refl, sym, ◌∙◌, ap, subst, arith}
use Rattle.std.specs.List.{count_by}
use Rattle.std.proofs.lemmas.List.{map-append}
use Rattle.std.proofs.lemmas.List.Sums.{sum_by-append}
use Rattle.cl_types.specs.declared.operations.Op.{Op}
use Rattle.cl_types.specs.declared.operations.TxnId.{TxnId}
use Rattle.cl_types.specs.Places.{Place}
use Rattle.cl_log.specs.declared.records.LogRec.{LogRec}
use Rattle.cl_log.specs.declared.records.LogRec.TheVariants as records
use Rattle.cl_log.specs.Log.{first_kept}
use Rattle.cl_log.specs.LogEntry.{LogEntry, IsNumberedFrom}
use Rattle.cl_log.proofs.LogWords.{IsNumberedFrom-entries, first_kept-length}
use Rattle.cl_control.specs.declared.acts.Act.{Act}
use Rattle.cl_control.specs.declared.acts.Act.TheVariants.{Ask as AskAct, Prepare as PrepareAct, Finish as FinishAct, Decide, Say}
use Rattle.cl_control.specs.Calls.{safe_acts, after_safe}
use Rattle.cl_repair.specs.declared.mode.Mode.{Mode}
use Rattle.cl_repair.specs.declared.mode.Mode.TheVariants.{Lone, Pair}
use Rattle.cl_steps.specs.declared.steps.Outgoing.{Outgoing}
use Rattle.cl_steps.specs.Steps.{sent, AreFewer, receivers}
use Rattle.cl_wire.specs.Message.{Content, Ask}
use Rattle.cl_vnode.specs.declared.vnode.Vnode.{Vnode}
use Rattle.cl_vnode.specs.Laws.{MarksAreAlike}
use Rattle.cl_vnode.specs.Replica.{ReplicaState, IsReplicaStateOf, safe_number}
use Rattle.cl_vnode.specs.Step.{Stepped, started, with_message, with_control, performed, decided, all_performed, asked, home_of, told, entry_told, entries_between, all_told, log_messages, entries_from, shipped}
use Rattle.cl_vnode.proofs.Telling.{none_between, none_from}

-- ---- what is sent stays

-- how often an actor is among two lists
both_counts : (to : ℕ) (xs ys : List ℕ) → count_by (nat_eq to) (xs ++ ys) ≡ count_by (nat_eq to) xs + count_by (nat_eq to) ys
both_counts to xs ys = sum_by-append (λ x. cond (nat_eq to x) 1 0) xs ys

-- what was sent before is sent after
abbrev Keeps : Stepped → Stepped → Type 0
Keeps before after = AreFewer (receivers before.step) (receivers after.step)

keeps_all : (done : Stepped) → Keeps done done
keeps_all done to = omega arith

keeps_on : (a b c : Stepped) → Keeps a b → Keeps b c → Keeps a c
keeps_on a b c ab bc to = let first = ab to in let second = bc to in omega (arith, first, second)

message_keeps : (done : Stepped) (to : ℕ) (content : Content) → Keeps done (with_message done to content)
message_keeps done to content other =
    let all : receivers (with_message done to content).step ≡ receivers done.step ++ to ∷ [] =
    map-append (λ (message : Outgoing). message.to) done.step.sends (sent to content ∷ []) in
    let count : count_by (nat_eq other) (receivers (with_message done to content).step) ≡ count_by (nat_eq other) (receivers done.step) + count_by
    (nat_eq other) (to ∷ []) =
    ap (count_by (nat_eq other)) all ∙ both_counts other (receivers done.step) (to ∷ []) in
    omega (arith, count)

act_keeps : (primary : ℕ → ℕ) (done : Stepped) (act : Act) → Keeps done (performed primary done act)
unfolding performed decided
act_keeps primary done (AskAct v txn number table key op) = message_keeps done (primary v) _
act_keeps primary done (PrepareAct v txn) = message_keeps done (primary v) _
act_keeps primary done (FinishAct v txn commit) = message_keeps done (primary v) _
act_keeps primary done (Decide txn) = keeps_all done
act_keeps primary done (Say txn number outcome) = message_keeps done _ _

acts_keep : (primary : ℕ → ℕ) (done : Stepped) (acts : List Act) → Keeps done (all_performed primary done acts)
acts_keep primary done [] = keeps_all done
acts_keep primary done (act ∷ acts) =
    keeps_on done (performed primary done act) (all_performed primary done (act ∷ acts)) (act_keeps primary done act)
    (acts_keep primary (performed primary done act) acts)

told_keeps : (primary : ℕ → ℕ) (done : Stepped) (number : ℕ) (content : LogRec) → Keeps done (told primary done number content)
unfolding told
told_keeps primary done number (records.Prepared txn) = message_keeps done (primary (home_of done.state.control txn)) _
told_keeps primary done number (records.Decide txn) =
    acts_keep primary (with_control done (after_safe done.state.control number)) (safe_acts done.state.control number)
told_keeps primary done number content = keeps_all done

entries_keep : (primary : ℕ → ℕ) (done : Stepped) (log : List LogEntry) → Keeps done (fold (entry_told primary) done log)
entries_keep primary done [] = keeps_all done
entries_keep primary done (entry ∷ log) =
    keeps_on done (entry_told primary done entry) (fold (entry_told primary) done (entry ∷ log)) (told_keeps primary done entry.number entry.content)
    (entries_keep primary (entry_told primary done entry) log)

all_told_keeps : (primary : ℕ → ℕ) (old : ℕ) (done : Stepped) → Keeps done (all_told primary old done)
unfolding all_told
all_told_keeps primary old done = entries_keep primary done (entries_between old (safe_number done.state) done.state.part.log)

shipped_keeps : (next : ℕ) (done : Stepped) → Keeps done (shipped next done)
shipped_keeps next done to =
    let logs : List Outgoing = log_messages done.state.modes.mode done.state.v (entries_from next done.state.part.log) in
    let all : receivers (shipped next done).step ≡ map (λ (message : Outgoing). message.to) logs ++ receivers done.step =
    map-append (λ (message : Outgoing). message.to) logs done.step.sends in
    let count : count_by (nat_eq to) (receivers (shipped next done).step) ≡ count_by (nat_eq to) (map (λ (message : Outgoing). message.to) logs) + count_by
    (nat_eq to) (receivers done.step) =
    ap (count_by (nat_eq to)) all ∙ both_counts to (map (λ (message : Outgoing). message.to) logs) (receivers done.step) in
    omega (arith, count)

-- ---- an operation

no_logs : (mode : Mode) (v : ℕ) → log_messages mode v [] ≡ []
no_logs Lone v = refl
no_logs (Pair standby) v = refl

-- where nothing was appended, nothing is shipped
unshipped : (next : ℕ) (done : Stepped) → entries_from next done.state.part.log ≡ [] → receivers (shipped next done).step ≡ receivers done.step
unshipped next done none =
    ap (λ (logs : List Outgoing). map (λ (message : Outgoing). message.to) (logs ++ done.step.sends))
    (ap (log_messages done.state.modes.mode done.state.v) none ∙ no_logs done.state.modes.mode done.state.v)

module _ (primary : ℕ → ℕ) (state : ReplicaState) (from v : ℕ) (txn : TxnId) (number : ℕ) (place : Place) (op : Op) where
  -- either way it is answered
  answered_either_way : (short : Bool) → receivers (asked (started state) from v txn number place op short).step ≡ from ∷ []
  unfolding asked
  answered_either_way true = refl
  answered_either_way false = refl

  -- where memory was short, that is all
  memory_short : entries_from state.part.next state.part.log ≡ [] →
      receivers (shipped state.part.next (all_told primary (safe_number state) (asked (started state) from v txn number place op true))).step ≡ from ∷ []
  unfolding all_told asked
  memory_short none =
      let short : Stepped = asked (started state) from v txn number place op true in
      let nothing : fold (entry_told primary) short (entries_between (safe_number state) (safe_number state) state.part.log) ≡ short =
      ap (fold (entry_told primary) short) (none_between (safe_number state) (safe_number state) state.part.log (omega arith)) in
      ap (λ (done : Stepped). receivers (shipped state.part.next done).step) nothing
      ∙ unshipped state.part.next short none

  found_memory : AreFewer (from ∷ [])
      (receivers (shipped state.part.next (all_told primary (safe_number state) (asked (started state) from v txn number place op false))).step)
  found_memory =
      let answer : Stepped = asked (started state) from v txn number place op false in
      let told_all : Stepped = all_told primary (safe_number state) answer in
      subst (λ (few : List ℕ). AreFewer few (receivers (shipped state.part.next told_all).step)) (answered_either_way false)
      (keeps_on answer told_all (shipped state.part.next told_all) (all_told_keeps primary (safe_number state) answer) (shipped_keeps state.part.next told_all))

-- ---- every step

-- the log of a replica ends before its next number
none_appended : (vnode : Vnode) (state : ReplicaState) → IsReplicaStateOf vnode state → entries_from state.part.next state.part.log ≡ []
none_appended vnode state is =
    let numbered : IsNumberedFrom (first_kept vnode.part.log) state.part.log =
    subst (IsNumberedFrom (first_kept vnode.part.log)) is.part.log (IsNumberedFrom-entries vnode.part.log) in
    let whole : first_kept vnode.part.log + length state.part.log ≡ state.part.next =
    ap (λ (log : List LogEntry). first_kept vnode.part.log + length log) (sym is.part.log) ∙ first_kept-length vnode.part.log ∙ is.part.next in
    none_from state.part.next (first_kept vnode.part.log) state.part.log numbered (omega (arith, whole))

pub marks_are_alike : MarksAreAlike
marks_are_alike vnode state is primary from (Ask v txn number table key op) true =
    subst (λ (few : List ℕ). AreFewer few
    (receivers (shipped state.part.next (all_told primary (safe_number state) (asked (started state) from v txn number (table, key) op false))).step))
    (sym (memory_short primary state from v txn number (table, key) op (none_appended vnode state is)))
    (found_memory primary state from v txn number (table, key) op)
marks_are_alike vnode state is primary from content short = λ to. omega arith
