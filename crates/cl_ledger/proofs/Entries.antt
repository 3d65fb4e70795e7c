-- Where the open transactions of a controller come from in a step.
use Rattle.std.proofs.Common.{◌≡◌, ◌≢◌, ℕ, nat_eq, Bool, true, false, cond, not, if◌then◌else◌, ◌⊎◌, inl, inr, List, [], ◌∷◌, ◌++◌, Option, Some, None, refl, sym, ◌∙◌, ap, subst}
use Rattle.std.proofs.lemmas.Bool.{cond_both, or_left}
use Rattle.std.proofs.lemmas.List.Folds.{list_any-append}
use Rattle.cl_types.specs.declared.answers.Answer.{Answer as OpAnswer}
use Rattle.cl_types.specs.declared.answers.Answer.TheVariants as answers
use Rattle.cl_types.specs.declared.operations.Command.{Command as ClientCommand}
use Rattle.cl_types.specs.declared.operations.Command.TheVariants.{Begin, Work, Commit, Abort}
use Rattle.cl_types.specs.declared.operations.TxnId.{TxnId}
use Rattle.cl_types.specs.Placement.{virtual_node_of}
use Rattle.cl_types.specs.Transactions.{same_txn}
use Rattle.cl_types.proofs.Transactions.{same_txn-true}
use Rattle.cl_control.specs.declared.entry.Phase.TheVariants.{Idle}
use Rattle.cl_control.specs.Calls.{after_command, asked, committing, counts_answer, after_answered, after_answer, counts_vote, after_vote, voted, decided}
use Rattle.cl_wire.specs.Message.{Command}
use Rattle.cl_commit.specs.Life.{is_begin_of}
use Rattle.cl_control.specs.State.{Entry, ControlState, is_among, joined, entry_named, entry_of, changed, without, new_entry, with_phase, with_vote, with_changed, is_unanimous}

-- an entry has the participants that it had, and maybe more
pub record Grows (old new : Entry) : Type 0 where
  pub name : new.txn ≡ old.txn
  pub participants : (v : ℕ) → is_among v old.participants ≡ true → is_among v new.participants ≡ true

pub same_grows : (entry : Entry) → Grows entry entry
same_grows entry = record { name = refl; participants = λ v is. is }

-- an open transaction was open before, and is apart, or it begins
abbrev pub ComesFrom : Option Entry → Type 0 → Type 0 → Entry → Type 0
ComesFrom before apart begins new = ((old : Entry) × ((before ≡ Some old) × (Grows old new × apart))) ⊎ begins

-- ---- entries by name

-- the entry of this name, with its change
named_changed : (name txn : TxnId) (change : Entry → Entry) → ((entry : Entry) → Grows entry (change entry)) → (entries : List Entry) (new : Entry) → entry_named name (changed txn change entries) ≡ Some new →
    (old : Entry) × ((entry_named name entries ≡ Some old) × Grows old new)
named_changed name txn change grows [] new is = absurd (let e : ◌≡◌ {A = Option Entry} None (Some new) = is in cc)
named_changed name txn change grows (entry ∷ entries) new is = by_name (same_txn name entry.txn) refl (named_changed name txn change grows entries new)
  where
    head : Entry
    head = if same_txn txn entry.txn then change entry else entry

    head_grows : Grows entry head
    head_grows = cond_both (same_txn txn entry.txn) (change entry) entry (Grows entry) (λ own. grows entry) (λ another. same_grows entry)

    found : entry_named name (changed txn change (entry ∷ entries)) ≡ cond (same_txn name entry.txn) (Some head) (entry_named name (changed txn change entries))
    found = ap (λ t. cond (same_txn name t) (Some head) (entry_named name (changed txn change entries))) head_grows.name

    by_name : (b : Bool) → same_txn name entry.txn ≡ b →
        (entry_named name (changed txn change entries) ≡ Some new → (old : Entry) × ((entry_named name entries ≡ Some old) × Grows old new)) →
        (old : Entry) × ((entry_named name (entry ∷ entries) ≡ Some old) × Grows old new)
    by_name true own further =
        let here : Some head ≡ Some new = ap (λ b. cond b (Some head) (entry_named name (changed txn change entries))) (sym own) ∙ sym found ∙ is in
        let head_is : head ≡ new = ap (λ (o : Option Entry). Rattle.std.specs.Option.unwrap_or o head) here in
        (entry, (ap (λ b. cond b (Some entry) (entry_named name entries)) own, subst (Grows entry) head_is head_grows))
    by_name false another further =
        let there : entry_named name (changed txn change entries) ≡ Some new = ap (λ b. cond b (Some head) (entry_named name (changed txn change entries))) (sym another) ∙ sym found ∙ is in
        let more = further there in
        (more.0, (ap (λ b. cond b (Some entry) (entry_named name entries)) another ∙ more.1.0, more.1.1))

-- an entry that is left when one of another name has gone
named_without : (name txn : TxnId) (entries : List Entry) (new : Entry) → entry_named name (without txn entries) ≡ Some new → (entry_named name entries ≡ Some new) × (name ≢ txn)
named_without name txn [] new is = absurd (let e : ◌≡◌ {A = Option Entry} None (Some new) = is in cc)
named_without name txn (entry ∷ entries) new is = by_names (same_txn txn entry.txn) (same_txn name entry.txn) refl refl (named_without name txn entries new)
  where
    left : List Entry
    left = without txn entries

    gone : same_txn txn entry.txn ≡ true → entry_named name left ≡ Some new
    gone own = ap (λ b. entry_named name (cond (not b) (entry ∷ left) left)) (sym own) ∙ is

    stays : same_txn txn entry.txn ≡ false → cond (same_txn name entry.txn) (Some entry) (entry_named name left) ≡ Some new
    stays another = ap (λ b. entry_named name (cond (not b) (entry ∷ left) left)) (sym another) ∙ is

    by_names : (own named : Bool) → same_txn txn entry.txn ≡ own → same_txn name entry.txn ≡ named →
        (entry_named name (without txn entries) ≡ Some new → (entry_named name entries ≡ Some new) × (name ≢ txn)) → (entry_named name (entry ∷ entries) ≡ Some new) × (name ≢ txn)
    by_names true true own here further =
        let more = further (gone own) in
        absurd (more.1 (same_txn-true name entry.txn here ∙ sym (same_txn-true txn entry.txn own)))
    by_names true false own elsewhere further =
        let more = further (gone own) in
        (ap (λ b. cond b (Some entry) (entry_named name entries)) elsewhere ∙ more.0, more.1)
    by_names false true another here further = (
      ap (λ b. cond b (Some entry) (entry_named name entries)) here ∙ ap (λ b. cond b (Some entry) (entry_named name left)) (sym here) ∙ stays another,
      λ same. let e : true ≡ false = sym (ap (λ t. same_txn t entry.txn) (sym same) ∙ here) ∙ another in cc,
    )
    by_names false false another elsewhere further =
        let more = further (ap (λ b. cond b (Some entry) (entry_named name left)) (sym elsewhere) ∙ stays another) in
        (ap (λ b. cond b (Some entry) (entry_named name entries)) elsewhere ∙ more.0, more.1)

-- an entry where one more has come
named_push : (name : TxnId) (entries : List Entry) (one new : Entry) → entry_named name (entries ++ one ∷ []) ≡ Some new → (entry_named name entries ≡ Some new) ⊎ (same_txn name one.txn ≡ true)
named_push name [] one new is = by_name (same_txn name one.txn) refl
  where
    by_name : (b : Bool) → same_txn name one.txn ≡ b → (entry_named name [] ≡ Some new) ⊎ (same_txn name one.txn ≡ true)
    by_name true own = inr own
    by_name false another = inl (ap (λ b. cond b (Some one) None) (sym another) ∙ is)
named_push name (entry ∷ entries) one new is = by_name (same_txn name entry.txn) refl (named_push name entries one new)
  where
    by_name : (b : Bool) → same_txn name entry.txn ≡ b → (entry_named name (entries ++ one ∷ []) ≡ Some new → (entry_named name entries ≡ Some new) ⊎ (same_txn name one.txn ≡ true)) →
        (entry_named name (entry ∷ entries) ≡ Some new) ⊎ (same_txn name one.txn ≡ true)
    by_name true own further = inl (ap (λ b. cond b (Some entry) (entry_named name entries)) own ∙ ap (λ b. cond b (Some entry) (entry_named name (entries ++ one ∷ []))) (sym own) ∙ is)
    by_name false another further =
        let there : entry_named name (entries ++ one ∷ []) ≡ Some new = ap (λ b. cond b (Some entry) (entry_named name (entries ++ one ∷ []))) (sym another) ∙ is in
        elim (further there) [
          | inl same ↦ inl (ap (λ b. cond b (Some entry) (entry_named name entries)) another ∙ same)
          | inr own ↦ inr own
        ]

-- ---- changes of an entry

joined_among : (v w : ℕ) (vs : List ℕ) → is_among w vs ≡ true → is_among w (joined v vs) ≡ true
joined_among v w vs is = cond_both (is_among v vs) vs (vs ++ v ∷ []) (λ more. is_among w more ≡ true) (λ old. is) (λ new. list_any-append (nat_eq w) vs (v ∷ []) ∙ or_left _ _ is)

asked_grows : (number v : ℕ) (entry : Entry) → Grows entry (asked number v entry)
asked_grows number v entry = record { name = refl; participants = λ w is. joined_among v w entry.participants is }

committing_grows : (number : ℕ) (entry : Entry) → Grows entry (committing number entry)
committing_grows number entry = record { name = refl; participants = λ w is. is }

idle_grows : (entry : Entry) → Grows entry (with_phase Idle entry)
idle_grows entry = record { name = refl; participants = λ w is. is }

voted_grows : (v : ℕ) (entry : Entry) → Grows entry (voted v entry)
voted_grows v entry =
    cond_both (is_unanimous (with_vote v entry)) (with_phase (decided entry.phase) (with_vote v entry)) (with_vote v entry) (Grows entry)
    (λ last. record { name = refl; participants = λ w is. is }) (λ more. record { name = refl; participants = λ w is. is })

-- ---- calls of a controller

-- an entry that stays
pub kept_from : (state : ControlState) (name : TxnId) (begins : Type 0) (new : Entry) → entry_of state name ≡ Some new → ComesFrom (entry_of state name) (Unit {0}) begins new
kept_from state name begins new is = inl (new, (is, (same_grows new, tt)))

changed_from : (state : ControlState) (txn : TxnId) (change : Entry → Entry) → ((entry : Entry) → Grows entry (change entry)) → (name : TxnId) (begins : Type 0) (new : Entry) →
    entry_of (with_changed state txn change) name ≡ Some new → ComesFrom (entry_of state name) (Unit {0}) begins new
changed_from state txn change grows name begins new is =
    let old = named_changed name txn change grows state.transactions new is in
    inl (old.0, (old.1.0, (old.1.1, tt)))

-- an entry that is left
pub left_from : (state : ControlState) (txn name : TxnId) (begins : Type 0) (new : Entry) → entry_named name (without txn state.transactions) ≡ Some new →
    ComesFrom (entry_of state name) (Unit {0}) begins new
left_from state txn name begins new is = kept_from state name begins new (named_without name txn state.transactions new is).0

pub command_from : (state : ControlState) (v : ℕ) (txn : TxnId) (number : ℕ) (what : ClientCommand) (name : TxnId) (new : Entry) → entry_of (after_command state txn number what) name ≡ Some new →
    ComesFrom (entry_of state name) (Unit {0}) (is_begin_of name (Command v txn number what) ≡ true) new
unfolding after_command
command_from state v txn number Begin name new is = elim (named_push name state.transactions (new_entry txn) new is) [
  | inl old ↦ kept_from state name (same_txn name txn ≡ true) new old
  | inr own ↦ inr own
]
command_from state v txn number (Work table key op) name new is =
    changed_from state txn (asked number (virtual_node_of key state.nodes)) (asked_grows number (virtual_node_of key state.nodes)) name (false ≡ true) new is
command_from state v txn number Commit name new is = changed_from state txn (committing number) (committing_grows number) name (false ≡ true) new is
command_from state v txn number Abort name new is = left_from state txn name (false ≡ true) new is

module _ (state : ControlState) (name : TxnId) (begins : Type 0) (new : Entry) where
  answered_from : (txn : TxnId) (answer : OpAnswer) → entry_of (after_answered state txn answer) name ≡ Some new → ComesFrom (entry_of state name) (Unit {0}) begins new
  answered_from txn (answers.Done reply) is = changed_from state txn (with_phase Idle) idle_grows name begins new is
  answered_from txn (answers.Refused holder) is = left_from state txn name begins new is
  answered_from txn answers.NoMemory is = left_from state txn name begins new is

  pub answer_from : (v : ℕ) (txn : TxnId) (number : ℕ) (answer : OpAnswer) → entry_of (after_answer state v txn number answer) name ≡ Some new → ComesFrom (entry_of state name) (Unit {0}) begins new
  unfolding after_answer
  answer_from v txn number answer =
      cond_both (counts_answer state v txn number) (after_answered state txn answer) state (λ control. entry_of control name ≡ Some new → ComesFrom (entry_of state name) (Unit {0}) begins new)
      (λ counts. answered_from txn answer) (λ none is. kept_from state name begins new is)

  pub vote_from : (v : ℕ) (txn : TxnId) → entry_of (after_vote state v txn) name ≡ Some new → ComesFrom (entry_of state name) (Unit {0}) begins new
  unfolding after_vote
  vote_from v txn =
      cond_both (counts_vote state v txn) (with_changed state txn (voted v)) state (λ control. entry_of control name ≡ Some new → ComesFrom (entry_of state name) (Unit {0}) begins new)
      (λ counts. changed_from state txn (voted v) (voted_grows v) name begins new) (λ none is. kept_from state name begins new is)
