-- What the controller has of a session, by its stage.
use Rattle.std.proofs.Common.{◌≡◌, ℕ, Bool, true, false, cond, List, [], ◌∷◌, Option, Some, None, option_map, refl, sym, ap, ◌∙◌, subst}
use Rattle.std.specs.Option.{option_map_or}
use Rattle.std.proofs.lemmas.Bool.{cond-true, cond-false, and_parts, eqb-true, false≢true, not_from_true}
use Rattle.cl_control.specs.Calls.{is_asked, is_preparing}
use Rattle.cl_control.specs.State.{Entry, ControlState, entry_named, changed, without}
use Rattle.cl_control.specs.declared.entry.Phase.{Phase}
use Rattle.cl_control.specs.declared.entry.Phase.TheVariants.{Idle, Asked, Preparing, Decided, Logged}
use Rattle.cl_exchange.specs.Stage.{SessionView, Stage, outside, ready, asking, working, telling, IsAt, IsWorking, IsWorkingOn, IsNumberedOn, IsNumberedLast}
use Rattle.cl_exchange.proofs.Opens.{of_session, named-own}
use Rattle.cl_front.specs.declared.current.Current.{Current}
use Rattle.cl_lone.specs.Lone.{command_in}
use Rattle.cl_types.proofs.Transactions.{same_txn-true, same_txn-itself}
use Rattle.cl_types.specs.Transactions.{same_txn}
use Rattle.cl_types.specs.declared.answers.Outcome.TheVariants.{Done, Begun, Committed, Aborted, NotTxn, InTxn, Full}
use Rattle.cl_types.specs.declared.operations.Command.TheVariants.{Begin, Work, Commit, Abort}
use Rattle.cl_types.specs.declared.operations.TxnId.{TxnId}

-- nothing, a transaction that waits for its next command, or one whose command is in work
pub data Holding (s : ℕ) (view : SessionView) : Type 0 where
  holds_none : view.entries ≡ [] → Holding s view
  holds_idle : (entry : Entry) → view.entries ≡ entry ∷ [] → entry.phase ≡ Idle → Holding s view
  holds_working : (current : Current) (entry : Entry) → IsWorking s view current entry → Holding s view

pub holding : (nodes s : ℕ) (view : SessionView) (stage : Stage) → IsAt nodes s view stage → Holding s view
holding nodes s view outside at = holds_none at.1.entries
holding nodes s view (ready current entry) at = holds_idle entry at.entries at.waits.phase
holding nodes s view (asking current Begin entries) at = holds_none (at.has ∙ at.before.1)
holding nodes s view (asking current (Work table key op) entries) at = holds_idle at.before.1.0 (at.has ∙ at.before.1.1) at.before.1.2.phase
holding nodes s view (asking current Commit entries) at = holds_idle at.before.1.0 (at.has ∙ at.before.1.1) at.before.1.2.phase
holding nodes s view (asking current Abort entries) at = holds_idle at.before.1.0 (at.has ∙ at.before.1.1) at.before.1.2.phase
holding nodes s view (working current entry) at = holds_working current entry at
holding nodes s view (telling current Begun entries) at = holds_idle at.after.1.0 (at.has ∙ at.after.1.1) at.after.1.2.phase
holding nodes s view (telling current (Done reply) entries) at = holds_idle at.after.1.0 (at.has ∙ at.after.1.1) at.after.1.2.phase
holding nodes s view (telling current Committed entries) at = holds_none (at.has ∙ at.after.1)
holding nodes s view (telling current (Aborted cause) entries) at = holds_none (at.has ∙ at.after.1)
holding nodes s view (telling current NotTxn entries) at = absurd at.after
holding nodes s view (telling current InTxn entries) at = absurd at.after
holding nodes s view (telling current Full entries) at = absurd at.after

-- a transaction passes a test that none passes which waits for its next command: so the controller is at it
pub record IsCounted (s : ℕ) (view : SessionView) (test : Entry → Bool) (txn : TxnId) : Type 0 where
  pub current : Current
  pub entry : Entry
  pub working : IsWorking s view current entry
  pub named : txn ≡ entry.txn
  pub passes : test entry ≡ true

module _ (s : ℕ) (view : SessionView) (test : Entry → Bool) (idle : (entry : Entry) → entry.phase ≡ Idle → test entry ≡ false) (txn : TxnId) where
  alone : (entry : Entry) (named : Bool) → option_map_or test (cond named (Some entry) None) false ≡ true → (named ≡ true) × (test entry ≡ true)
  alone entry true counts = (refl, counts)
  alone entry false counts = absurd (false≢true counts)

  passing : (entry : Entry) → view.entries ≡ entry ∷ [] → option_map_or test (entry_named txn view.entries) false ≡ true → (same_txn txn entry.txn ≡ true) × (test entry ≡ true)
  passing entry has counts = alone entry (same_txn txn entry.txn) (subst (λ entries. option_map_or test (entry_named txn entries) false ≡ true) has counts)

  pub counted_at : Holding s view → option_map_or test (entry_named txn view.entries) false ≡ true → IsCounted s view test txn
  counted_at (holds_none none) counts = absurd (false≢true (subst (λ entries. option_map_or test (entry_named txn entries) false ≡ true) none counts))
  counted_at (holds_idle entry has phase) counts = absurd (false≢true (sym (idle entry phase) ∙ (passing entry has counts).1))
  counted_at (holds_working current entry at) counts =
      let both = passing entry at.entries counts in
      record { current = current; entry = entry; working = at; named = same_txn-true txn entry.txn both.0; passes = both.1 }

-- a test of the phase as one of the transaction
pub test_of_phase : (test : Phase → Bool) (found : Option Entry) → option_map_or test (option_map (λ entry. entry.phase) found) false ≡ option_map_or (λ entry. test entry.phase) found false
test_of_phase test None = refl
test_of_phase test (Some entry) = refl

pub asked_idle : (number v : ℕ) (entry : Entry) → entry.phase ≡ Idle → is_asked number v entry.phase ≡ false
asked_idle number v entry phase = ap (is_asked number v) phase

-- the command that an answer is for
pub asked_number : (current : Current) (phase : Phase) (number v : ℕ) → IsWorkingOn current phase → is_asked number v phase ≡ true → (number ≡ current.commands) × IsNumberedOn current
asked_number current Idle number v on is = absurd on
asked_number current (Asked command w) number v on is = (eqb-true number command (and_parts _ _ is).0 ∙ on.0, on.1)
asked_number current (Preparing command) number v on is = absurd (false≢true is)
asked_number current (Decided command) number v on is = absurd on
asked_number current (Logged command) number v on is = absurd on

-- and the COMMIT that votes are for
pub preparing_number : (current : Current) (phase : Phase) → IsWorkingOn current phase → is_preparing phase ≡ true → (command_in phase ≡ current.commands) × IsNumberedLast current
preparing_number current Idle on is = absurd on
preparing_number current (Asked command w) on is = absurd (false≢true is)
preparing_number current (Preparing command) on is = (on.0, on.1)
preparing_number current (Decided command) on is = absurd on
preparing_number current (Logged command) on is = absurd on

-- ---- where there is one transaction alone

module _ (txn : TxnId) (entry : Entry) (is : txn ≡ entry.txn) where
  this : same_txn txn entry.txn ≡ true
  this = ap (same_txn txn) (sym is) ∙ same_txn-itself txn

  pub named_one : entry_named txn (entry ∷ []) ≡ Some entry
  named_one = cond-true _ _ _ this

  pub changed_one : (change : Entry → Entry) → changed txn change (entry ∷ []) ≡ change entry ∷ []
  changed_one change = ap (λ x. x ∷ []) (cond-true _ _ _ this)

  pub without_one : without txn (entry ∷ []) ≡ []
  without_one = cond-false _ _ _ (not_from_true _ this)

  -- it is found
  pub found_one : (control : ControlState) (mine : List Entry) → mine ≡ of_session txn.session control.transactions → mine ≡ entry ∷ [] → entry_named txn control.transactions ≡ Some entry
  found_one control mine same has = sym (named-own txn control.transactions) ∙ (ap (entry_named txn) (sym same ∙ has) ∙ named_one)
