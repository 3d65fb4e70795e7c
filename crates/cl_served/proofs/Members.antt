-- A transaction that was decided has ended, as its session was told, or its COMMITTED is on its way.
use Rattle.std.proofs.Common.{◌≡◌, ◌≢◌, ℕ, zero, suc, ◌<◌, ◌≤◌, Bool, true, false, cond, ◌||◌, inl, inr, ◌⊎◌, List, [], ◌∷◌, ◌++◌, length, filter, All, Option, Some, None, refl, sym, ap, ◌∙◌, subst, arith}
use Rattle.std.specs.List.{slice_get, list_any}
use Rattle.std.specs.Option.{option_to_list}
use Rattle.std.proofs.lemmas.Bool.{cases_eq, or_left, or_right, or_cases, false≢true}
use Rattle.std.proofs.lemmas.List.Elements.{All-head, All-filter}
use Rattle.cl_commit.specs.Life.{CommitsWhole, IsSoFar, IsTrueOutcome, committed, aborted, is_begin_of}
use Rattle.cl_control.specs.State.{Entry}
use Rattle.cl_exchange.proofs.Delivered.{IsAtSome, home_below}
use Rattle.cl_exchange.proofs.Holding.{found_one}
use Rattle.cl_exchange.specs.Stage.{SessionView, outside, ready, asking, working, telling, IsAt, view_of, is_of_session, last_begun}
use Rattle.cl_front.specs.declared.current.Current.{Current}
use Rattle.cl_node.specs.Addressing.{home_in}
use Rattle.cl_runs.specs.World.{Shape}
use Rattle.cl_serial.proofs.Places.{StandsAt-push_last}
use Rattle.cl_serial.specs.Transactions.{Session, Transaction}
use Rattle.cl_steps.specs.declared.actors.TheConstants.{FRONT}
use Rattle.cl_system.specs.Replicas.{ReplicaWorld}
use Rattle.cl_told.specs.Told.{told_session, pending, IsTold, IsToldOutstanding, IsOutcomeOf}
use Rattle.cl_types.proofs.Transactions.{same_txn-itself}
use Rattle.cl_types.specs.Placement.{IsNodeCount}
use Rattle.cl_types.specs.Transactions.{same_txn}
use Rattle.cl_types.specs.declared.answers.AbortCause.{AbortCause}
use Rattle.cl_types.specs.declared.answers.Outcome.{Outcome as CommandOutcome}
use Rattle.cl_types.specs.declared.answers.Outcome.TheVariants.{Done, Begun, Committed, Aborted, NotTxn, InTxn, Full}
use Rattle.cl_types.specs.declared.operations.Command.{Command as ClientCommand}
use Rattle.cl_types.specs.declared.operations.Command.TheVariants.{Begin, Work, Commit, Abort}
use Rattle.cl_types.specs.declared.operations.TxnId.{TxnId}
use Rattle.cl_wire.specs.Message.{Content, Command, Outcome}
use Rattle.cl_served.proofs.Asking.{outstanding_number}
use Rattle.cl_served.proofs.Sessions.{told_transaction, next_number}

-- the transaction has ended, or its COMMIT waits for COMMITTED
pub data HasCommitted (left : List ClientCommand) (told : Session) (number : ℕ) : Type 0 where
  has_ended : 1 ≤ number → number ≤ length told.ended → HasCommitted left told number
  has_committed : (transaction : Transaction) (rest : List ClientCommand) → told.current ≡ Some transaction → number ≡ next_number told → left ≡ Commit ∷ rest →
      HasCommitted left told number

-- ---- lists

any_filtered : (p q : Content → Bool) (xs : List Content) → list_any q (filter p xs) ≡ true → list_any q xs ≡ true
any_filtered p q [] any = any
any_filtered p q (x ∷ xs) any = by (any_filtered p q xs) (p x) any
  where
    by : (list_any q (filter p xs) ≡ true → list_any q xs ≡ true) → (b : Bool) → list_any q (cond b (x ∷ filter p xs) (filter p xs)) ≡ true →
        (q x || list_any q xs) ≡ true
    by rest true here = elim (or_cases (q x) (list_any q (filter p xs)) here) [ inl first ↦ or_left _ _ first | inr later ↦ or_right _ _ (rest later) ]
    by rest false here = or_right _ _ (rest here)

pub found_within : (xs ys : List Transaction) (k : ℕ) → k < length xs →
    (transaction : Transaction) × (slice_get (xs ++ ys) k ≡ Some transaction) × (slice_get xs k ≡ Some transaction)
found_within [] ys k below = absurd (omega (arith, below))
found_within (x ∷ xs) ys zero below = (x, refl, refl)
found_within (x ∷ xs) ys (suc k) below = found_within xs ys k (omega (arith, below))

-- such a transaction is one
pub has_transaction : (left : List ClientCommand) (told : Session) (number : ℕ) → HasCommitted left told number →
    (transaction : Transaction) × (told_transaction told number ≡ Some transaction)
has_transaction left told zero (has_ended one most) = absurd (omega (arith, one))
has_transaction left told (suc k) (has_ended one most) = let found = found_within told.ended (option_to_list told.current) k
    (omega (arith, most)) in (found.0, found.1)
has_transaction left told number (has_committed transaction rest current here waits) = (
  transaction,
  ap (told_transaction told) here
      ∙ (ap (λ (c : Option Transaction). slice_get (told.ended ++ option_to_list c) (length told.ended)) current ∙ StandsAt-push_last told.ended transaction),
)

-- ---- a member

module _ (shape : Shape) (counted : IsNodeCount shape.nodes) (world : ReplicaWorld) (whole : CommitsWhole shape world) (name : TxnId)
    (tells : IsTold shape world name.session)
    (member : IsSoFar shape.nodes world name committed) (some : 1 ≤ name.number) where
  abbrev view : SessionView
  view = view_of shape.nodes world name.session

  abbrev told : Session
  told = told_session name.session world.front.transcript

  abbrev left : List ClientCommand
  left = pending name.session world.front.transcript

  name_is : name.number ≡ view.session.begun → name ≡ last_begun name.session view.session
  name_is number = ap (λ (n : ℕ). record { session = name.session; number = n }) number

  -- it is not open
  not_open : (entry : Entry) → view.entries ≡ entry ∷ [] → entry.txn ≡ last_begun name.session view.session → name.number ≡ view.session.begun → ⊥
  not_open entry has of number =
      let found = found_one name entry (name_is number ∙ sym of) (world.replicas (home_in shape.nodes name)).control view.entries refl has in
      let none = member.1 in
      let no : ◌≡◌ {A = Option Entry} None (Some entry) = sym none ∙ found in absurd cc

  -- its BEGIN is not on its way
  not_beginning : (v number : ℕ) → view.commands ≡ Command v (last_begun name.session view.session) number Begin ∷ [] → name.number ≡ view.session.begun → ⊥
  not_beginning v number has here =
      let one : list_any (is_begin_of name) (Command v (last_begun name.session view.session) number Begin ∷ []) ≡ true = or_left _ _
      (ap (same_txn name) (sym (name_is here)) ∙ same_txn-itself name) in
      let any = any_filtered (is_of_session name.session) (is_begin_of name) (world.mail FRONT (home_in shape.nodes name))
      (ap (list_any (is_begin_of name)) has ∙ one) in
      false≢true (sym member.0.heard ∙ any)

  -- it was not aborted
  not_aborted : (number : ℕ) (cause : AbortCause) → view.outcomes ≡ Outcome (last_begun name.session view.session) number (Aborted cause) ∷ [] →
      name.number ≡ view.session.begun → ⊥
  not_aborted number cause has here =
      let all = whole.outcomes (home_in shape.nodes name) (home_below shape.nodes name.session counted) in
      let one = All-head (IsTrueOutcome shape world) (Outcome (last_begun name.session view.session) number (Aborted cause)) []
      (subst (All (IsTrueOutcome shape world)) has
      (All-filter (is_of_session name.session) (IsTrueOutcome shape world) (world.mail (home_in shape.nodes name) FRONT) all)) in
      let out = subst (λ t. IsSoFar shape.nodes world t aborted) (sym (name_is here)) one in
      false≢true (sym out.2 ∙ member.2)

  -- one before the last has ended
  before_last : view.session.begun ≡ next_number told → (name.number ≡ view.session.begun → HasCommitted left told name.number) →
      HasCommitted left told name.number
  before_last last here = by (cases_eq name.number view.session.begun)
    where
      by : (name.number ≡ view.session.begun) ⊎ (name.number ≢ view.session.begun) → HasCommitted left told name.number
      by (inl same) = here same
      by (inr apart) = let most = member.0.begun in has_ended some (omega (arith, last, most, apart))

  by_asking : (current : Current) (what : ClientCommand) (entries : List Entry) → IsAt shape.nodes name.session view (asking current what entries) →
      name.number ≡ view.session.begun → ⊥
  by_asking current Begin entries at here = not_beginning _ current.commands at.commands here
  by_asking current (Work table key op) entries at here = not_open at.before.1.0 (at.has ∙ at.before.1.1) at.before.1.2.of here
  by_asking current Commit entries at here = not_open at.before.1.0 (at.has ∙ at.before.1.1) at.before.1.2.of here
  by_asking current Abort entries at here = not_open at.before.1.0 (at.has ∙ at.before.1.1) at.before.1.2.of here

  by_committed : (what : ClientCommand) (current : Current) (rest : List ClientCommand) → IsOutcomeOf what Committed → left ≡ what ∷ rest →
      IsToldOutstanding told view.session current what → name.number ≡ view.session.begun →
      HasCommitted left told name.number
  by_committed Commit current rest fits left_is is here = has_committed is.0 rest is.1.current
      (here ∙ outstanding_number told view.session current Commit is) left_is
  by_committed what current rest fits left_is is here = absurd fits

  by_telling : (current : Current) (outcome : CommandOutcome) (entries : List Entry) → IsAt shape.nodes name.session view (telling current outcome entries) →
      name.number ≡ view.session.begun → HasCommitted left told name.number
  by_telling current Begun entries at here = absurd (not_open at.after.1.0 (at.has ∙ at.after.1.1) at.after.1.2.of here)
  by_telling current (Done reply) entries at here = absurd (not_open at.after.1.0 (at.has ∙ at.after.1.1) at.after.1.2.of here)
  by_telling current Committed entries at here = let is = tells.tells
      (telling current Committed entries) at in by_committed is.0 current view.session.waiting is.3 is.1 is.2 here
  by_telling current (Aborted cause) entries at here = absurd (not_aborted current.commands cause at.outcomes here)
  by_telling current NotTxn entries at here = absurd at.after
  by_telling current InTxn entries at here = absurd at.after
  by_telling current Full entries at here = absurd at.after

  pub member_stands : IsAtSome shape.nodes world name.session → HasCommitted left told name.number
  member_stands (outside, at) = let is = tells.tells outside at in let most = member.0.begun in let all = is.1.number in has_ended some
      (omega (arith, most, all))
  member_stands (ready current entry, at) =
      let is = tells.tells (ready current entry) at in
      let last = is.1.1.begun in
      before_last (omega (arith, last)) (λ here. absurd (not_open entry at.entries at.waits.of here))
  member_stands (asking current what entries, at) =
      let is = tells.tells (asking current what entries) at in
      before_last (outstanding_number told view.session current what is.1) (λ here. absurd (by_asking current what entries at here))
  member_stands (working current entry, at) =
      let is = tells.tells (working current entry) at in
      before_last (outstanding_number told view.session current is.0 is.2) (λ here. absurd (not_open entry at.entries at.of here))
  member_stands (telling current outcome entries, at) =
      let is = tells.tells (telling current outcome entries) at in
      before_last (outstanding_number told view.session current is.0 is.2) (by_telling current outcome entries at)
