-- A Decide is safe as soon as it is in the log, so everybody is told of it in the same step.
use Rattle.std.proofs.Common.{◌≡◌, ℕ, Bool, true, false, cond, not, if◌then◌else◌, List, [], ◌∷◌, ◌++◌, map, flat_map, nat_le, nat_lt, Option, Some, option_map, refl, sym, ◌∙◌, ap, subst, arith}
use Rattle.std.specs.List.{IsDistinct}
use Rattle.std.specs.Option.{option_map_or}
use Rattle.std.proofs.lemmas.Bool.{cond-true, cond-false, le-leb, le-ltb, not_from_true, not_from_false}
use Rattle.std.proofs.lemmas.List.{append-nil}
use Rattle.cl_types.specs.declared.answers.Outcome.TheVariants.{Committed}
use Rattle.cl_types.specs.declared.operations.TxnId.{TxnId}
use Rattle.cl_types.specs.Transactions.{same_txn}
use Rattle.cl_log.specs.declared.records.LogRec.TheVariants as records
use Rattle.cl_control.specs.declared.acts.Act.{Act}
use Rattle.cl_control.specs.declared.acts.Act.TheVariants.{Finish, Decide, Say}
use Rattle.cl_control.specs.declared.entry.Phase.{Phase}
use Rattle.cl_control.specs.declared.entry.Phase.TheVariants.{Decided, Logged}
use Rattle.cl_control.specs.declared.entry.Told.{Told}
use Rattle.cl_control.specs.Calls.{finishes, is_decided, is_logged, logged, numbered, counts_number, with_told, with_number, after_decided_at, up_to, above, committed_acts, acts_of_told, safe_acts, without_told, after_safe}
use Rattle.cl_control.specs.State.{Entry, ControlState, ascending, entry_of, phase_of, participants_of, changed, with_changed, without, without_entry}
use Rattle.cl_control.proofs.Entries.{names, names-changed, entry_named-changed, without_told-logged}
use Rattle.cl_part.specs.Calls.{after_decide}
use Rattle.cl_backup.specs.Decisions.{with_decision}
use Rattle.cl_repair.specs.declared.mode.Mode.{Mode}
use Rattle.cl_repair.specs.declared.mode.Mode.TheVariants.{Lone}
use Rattle.cl_steps.specs.Steps.{nothing_done}
use Rattle.cl_vnode.specs.Inputs.{has_decide}
use Rattle.cl_vnode.specs.Replica.{ReplicaState, safe_number}
use Rattle.cl_vnode.specs.Step.{Stepped, started, with_control, firm_at_once, decided, performed, all_performed, told, all_told}
use Rattle.cl_vnode.proofs.Controller.{AreSends-append, finishes_are_sends}
use Rattle.cl_vnode.proofs.Performing.{no_decide}
use Rattle.cl_lone.specs.Lone.{committed}
use Rattle.cl_lone.proofs.Controlling.{IsCalmControl, all_sent}
use Rattle.cl_lone.proofs.Growing.{IsBelow, one_told}

-- ---- the controller

-- a transaction that changed before it ends has ended
without-changed : (txn : TxnId) (change : Entry → Entry) → ((entry : Entry) → (change entry).txn ≡ entry.txn) → (entries : List Entry) →
    without txn (changed txn change entries) ≡ without txn entries
without-changed txn change keeps [] = refl
without-changed txn change keeps (x ∷ xs) = by (without-changed txn change keeps xs) (same_txn txn x.txn) refl
  where
    by : without txn (changed txn change xs) ≡ without txn xs → (b : Bool) → same_txn txn x.txn ≡ b →
        cond (not (same_txn txn (if b then change x else x).txn)) ((if b then change x else x) ∷ without txn (changed txn change xs)) (without txn (changed txn change xs)) ≡ cond (not b) (x ∷ without txn xs) (without txn xs)
    by rest true same = cond-false _ _ _ (not_from_true _ (ap (same_txn txn) (keeps x) ∙ same)) ∙ rest
    by rest false other = cond-true _ _ _ (not_from_false _ other) ∙ ap (λ (es : List Entry). x ∷ es) rest

module _ (control : ControlState) (calm : IsCalmControl control) (txn : TxnId) (number at : ℕ) (change : Entry → Entry) (keeps : (entry : Entry) → (change entry).txn ≡ entry.txn)
    (entry : Entry) (found : entry_of control txn ≡ Some entry) (same : (change entry).participants ≡ entry.participants) (decides : (change entry).phase ≡ Decided number) where
  -- the transaction is decided
  abbrev now : ControlState
  now = with_changed control txn change

  -- and the number of its Decide is told
  abbrev numbered_now : ControlState
  numbered_now = with_number now txn at

  abbrev this : Told
  this = record { number = at; txn = txn }

  found_now : entry_of now txn ≡ Some (change entry)
  found_now = entry_named-changed txn change keeps control.transactions ∙ ap (option_map change) found

  pub number_told : after_decided_at now txn at ≡ numbered_now
  unfolding after_decided_at
  number_told =
      cond-true (counts_number now txn) numbered_now now
      (ap (λ (o : Option Entry). option_map_or is_decided (option_map (λ (x : Entry). x.phase) o) false) found_now ∙ ap is_decided decides)

  found_numbered : entry_of numbered_now txn ≡ Some (numbered (change entry))
  found_numbered = entry_named-changed txn numbered (λ x. refl) (changed txn change control.transactions) ∙ ap (option_map numbered) found_now

  phase_now : phase_of numbered_now txn ≡ Some (Logged number)
  phase_now = ap (option_map (λ (x : Entry). x.phase)) found_numbered ∙ ap (λ (phase : Phase). Some (logged phase)) decides

  participants_now : participants_of numbered_now txn ≡ participants_of control txn
  participants_now =
      ap (λ (o : Option Entry). option_map_or (λ (x : Entry). x.participants) o []) found_numbered ∙ same
      ∙ sym (ap (λ (o : Option Entry). option_map_or (λ (x : Entry). x.participants) o []) found)

  waits : numbered_now.waiting ≡ this ∷ []
  waits = ap (with_told this) calm.none_waits

  is_safe : up_to at numbered_now.waiting ≡ this ∷ []
  is_safe = ap (up_to at) waits ∙ cond-true (nat_le at at) (this ∷ []) [] (le-leb at at (omega arith))

  none_left : above at numbered_now.waiting ≡ []
  none_left = ap (above at) waits ∙ cond-false (nat_lt at at) (this ∷ []) [] (le-ltb at at (omega arith))

  -- each participant and the session are told
  pub everybody_told : safe_acts numbered_now at ≡ finishes control txn true ++ Say txn number Committed ∷ []
  unfolding safe_acts
  everybody_told =
      ap (flat_map (acts_of_told numbered_now)) is_safe
      ∙ append-nil (acts_of_told numbered_now this)
      ∙ ap (committed_acts numbered_now txn) phase_now
      ∙ ap (λ (vs : List ℕ). map (λ v. Finish v txn true) (ascending control.nodes vs) ++ Say txn number Committed ∷ []) participants_now

  distinct : IsDistinct same_txn (names numbered_now.transactions)
  distinct =
      subst (IsDistinct same_txn) (sym (names-changed txn numbered (λ x. refl) (changed txn change control.transactions) ∙ names-changed txn change keeps control.transactions)) calm.sound.names

  gone : without_told (this ∷ []) numbered_now.transactions ≡ without txn control.transactions
  gone =
      without_told-logged txn at numbered_now.transactions distinct
      (ap (λ (o : Option Entry). option_map_or (λ (x : Entry). is_logged x.phase) o false) found_numbered ∙ ap (λ (phase : Phase). is_logged (logged phase)) decides)
      ∙ without-changed txn numbered (λ x. refl) (changed txn change control.transactions)
      ∙ without-changed txn change keeps control.transactions

  -- and the transaction has ended
  pub has_ended : after_safe numbered_now at ≡ without_entry control txn
  unfolding after_safe
  has_ended =
      ap (λ (tolds : List Told). record numbered_now { transactions = without_told tolds numbered_now.transactions; waiting = above at numbered_now.waiting }) is_safe
      ∙ ap (λ (entries : List Entry). record numbered_now { transactions = entries; waiting = above at numbered_now.waiting }) gone
      ∙ ap (λ (tolds : List Told). record control { transactions = without txn control.transactions; waiting = tolds }) (none_left ∙ sym calm.none_waits)

-- ---- the step

-- of a commit no Decide is told
commit_sends : (control : ControlState) (txn : TxnId) (number : ℕ) → has_decide (finishes control txn true ++ Say txn number Committed ∷ []) ≡ false
commit_sends control txn number =
    no_decide control.nodes (finishes control txn true ++ Say txn number Committed ∷ [])
    (AreSends-append control.nodes (finishes control txn true) (Say txn number Committed ∷ []) (finishes_are_sends control txn true) (tt, tt))

module _ (primary : ℕ → ℕ) (state : ReplicaState) (is : IsBelow state.part) (alone : state.modes.mode ≡ Lone) (calm : IsCalmControl state.control)
    (txn : TxnId) (number : ℕ) (change : Entry → Entry)
    (keeps : (entry : Entry) → (change entry).txn ≡ entry.txn) (entry : Entry) (found : entry_of state.control txn ≡ Some entry) (same : (change entry).participants ≡ entry.participants)
    (decides : (change entry).phase ≡ Decided number) where
  -- the Decide is in the log
  abbrev appended : ControlState → List TxnId → Stepped
  appended control firm =
      record {
        state = record state { part = after_decide state.part txn; control = control; decisions = with_decision state.decisions txn };
        step =
            record nothing_done { firm = firm };
      }

  -- everybody is told in the same step
  pub decide_told : all_told primary (safe_number state) (all_performed primary (with_control (started state) (with_changed state.control txn change)) (Decide txn ∷ [])) ≡ committed primary state txn number
  unfolding performed decided after_decide told
  decide_told =
      let at : ℕ = state.part.next in
      let after : ControlState = after_decided_at (with_changed state.control txn change) txn at in
      let waiting : ControlState = with_number (with_changed state.control txn change) txn at in
      let ended : ControlState = without_entry state.control txn in
      let list : List Act = finishes state.control txn true ++ Say txn number Committed ∷ [] in
      one_told primary state is alone (appended after (firm_at_once state.modes.mode txn)) (records.Decide txn) alone refl
      ∙ ap (λ (c : ControlState). all_performed primary (appended (after_safe c at) (firm_at_once state.modes.mode txn)) (safe_acts c at))
      (number_told state.control calm txn number at change keeps entry found same decides)
      ∙ ap (λ (c : ControlState). all_performed primary (appended c (firm_at_once state.modes.mode txn)) (safe_acts waiting at))
      (has_ended state.control calm txn number at change keeps entry found same decides)
      ∙ ap (all_performed primary (appended ended (firm_at_once state.modes.mode txn)))
      (everybody_told state.control calm txn number at change keeps entry found same decides)
      ∙ ap (λ (firm : List TxnId). all_performed primary (appended ended firm) list) (ap (λ (mode : Mode). firm_at_once mode txn) alone)
      ∙ all_sent primary (appended ended (txn ∷ [])) list (commit_sends state.control txn number)
