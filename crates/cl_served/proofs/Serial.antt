-- What is firm of a run explains its transcript.
use Rattle.std.proofs.Common.{◌≡◌, ℕ, zero, suc, ◌<◌, true, inl, inr, ◌⊎◌, List, [], ◌∷◌, Option, Some, None, refl, sym, ap, ◌∙◌, subst}
use Rattle.std.specs.List.{AllByRecursion}
use Rattle.std.specs.Option.{unwrap_or}
use Rattle.std.proofs.lemmas.Bool.{false≢true, or_cases}
use Rattle.std.proofs.lemmas.List.{append-nil}
use Rattle.cl_ledger.specs.Ledgers.{Ledgered}
use Rattle.cl_log.specs.Open.{is_among as is_member}
use Rattle.cl_order.proofs.Readings.{members_stand_once, history_replays}
use Rattle.cl_roster.specs.Roster.{IsClusterSize}
use Rattle.cl_runs.specs.World.{Shape}
use Rattle.cl_serial.proofs.Places.{IsIn-nil}
use Rattle.cl_serial.specs.Exchanges.{Exchange, outcome_of}
use Rattle.cl_serial.specs.PlainMap.{no_values, RepliesAgree}
use Rattle.cl_serial.specs.Serial.{StandsAt, IsIn, IsAnswered, HistoryFits, CommittedForMembers, RealTimeOrder, Serializable, operations_of}
use Rattle.cl_serial.specs.Transactions.{Session, Transaction, session_state, commands_in}
use Rattle.cl_serial.specs.Transcript.{TranscriptEntry, refusals}
use Rattle.cl_shown.specs.Laws.{SessionHasOutstanding}
use Rattle.cl_shown.specs.Sessions.{IsDone, HasEnded}
use Rattle.cl_shown.specs.Shown.{IsWellShown}
use Rattle.cl_told.specs.Told.{told_session, pending}
use Rattle.cl_types.proofs.Transactions.{same_txn-true}
use Rattle.cl_types.specs.Transactions.{same_txn}
use Rattle.cl_types.specs.declared.answers.AbortCause.{AbortCause}
use Rattle.cl_types.specs.declared.answers.Outcome.{Outcome}
use Rattle.cl_types.specs.declared.answers.Outcome.TheVariants.{Committed, Aborted}
use Rattle.cl_types.specs.declared.operations.TxnId.{TxnId}
use Rattle.cl_served.proofs.Answered.{committed_at, of_session_from}
use Rattle.cl_served.proofs.Committed.{lawful_at, committed_once}
use Rattle.cl_served.proofs.Evidence.{IsTrueAnswer, commands_told, among_at, true_within, outcome_from}
use Rattle.cl_served.proofs.Ledgers.{goes, members_told, member_commits}
use Rattle.cl_served.proofs.Members.{has_transaction}
use Rattle.cl_served.proofs.Outstanding.{answered_before, answered_still, began_there}
use Rattle.cl_served.proofs.Runs.{IsServedWell, members_stand}
use Rattle.cl_served.proofs.Sessions.{told_transaction}

-- who is among the history is in it
in_history : (history : List TxnId) (name : TxnId) → is_member name history ≡ true → IsIn history name
in_history [] name member = absurd (false≢true member)
in_history (x ∷ history) name member = by (in_history history name) (or_cases (same_txn name x) _ member)
  where
    by : (is_member name history ≡ true → IsIn history name) → (same_txn name x ≡ true) ⊎ (is_member name history ≡ true) → IsIn (x ∷ history) name
    by rest (inl here) = (0, ap Some (sym (same_txn-true name x here)))
    by rest (inr there) = let found = rest there in (suc found.0, found.1)

module _ (shape : Shape) (size : IsClusterSize shape.nodes shape.spares) (both : Ledgered) (well : IsServedWell shape both) (law : SessionHasOutstanding)
    (shown : IsWellShown both.state.world.front.transcript) where
  abbrev transcript : List TranscriptEntry
  transcript = both.state.world.front.transcript

  abbrev history : List TxnId
  history = both.state.firm

  -- a firm transaction was decided
  decided_at : (name : TxnId) (i : ℕ) → StandsAt history i name → is_member name both.state.world.history ≡ true
  decided_at name i at = well.ledger.decided name (among_at history i name at)

  -- a command that was answered is told
  answered_in : (name : TxnId) (outcome : Outcome) (position : ℕ) → IsAnswered transcript name outcome position →
      (exchange : Exchange) × IsIn (commands_told transcript name) exchange × (exchange.answer ≡ Some (outcome, position))
  answered_in name outcome position is = (
    is.0,
    answered_before (told_session name.session transcript) (session_state name.session transcript) name.number is.0 (outcome, position)
        (goes shape size both well law shown name.session) is.1 is.2,
    is.2,
  )

  -- and its outcome is true
  true_outcome : (name : TxnId) (exchange : Exchange) (outcome : Outcome) (position : ℕ) → IsIn (commands_told transcript name) exchange →
      exchange.answer ≡ Some (outcome, position) → IsTrueAnswer shape both.state name (Some outcome)
  true_outcome name exchange outcome position is_in is =
      subst (IsTrueAnswer shape both.state name) (outcome_from exchange outcome position is)
      (true_within (λ e. IsTrueAnswer shape both.state name (outcome_of e)) (commands_told transcript name) exchange
      (well.evident.answers name (of_session_from transcript name exchange is_in)) is_in)

  committed_in : (name : TxnId) (exchange : Exchange) (position : ℕ) → IsIn (commands_told transcript name) exchange →
      exchange.answer ≡ Some (Committed, position) → IsIn history name
  committed_in name exchange position is_in is = in_history history name (true_outcome name exchange Committed position is_in is).firm

  distinct : (i j : ℕ) (name : TxnId) → StandsAt history i name → StandsAt history j name → i ≡ j
  distinct i j name at_i at_j =
      members_stand_once both.ledger well.ledger.ordered i j name (subst (λ list. StandsAt list i name) (sym well.ledger.history) at_i)
      (subst (λ list. StandsAt list j name) (sym well.ledger.history) at_j)

  -- the transaction with these commands
  found_of : (found : Option Transaction) (exchange : Exchange) → IsIn (commands_in found) exchange → (transaction : Transaction) × (found ≡ Some transaction)
  found_of None exchange is = absurd (IsIn-nil exchange is)
  found_of (Some transaction) exchange is = (transaction, refl)

  once : (name : TxnId) (p q : ℕ) → IsAnswered transcript name Committed p → IsAnswered transcript name Committed q → p ≡ q
  once name p q one other =
      let first = answered_in name Committed p one in
      let second = answered_in name Committed q other in
      let told : Session = told_session name.session transcript in
      let found = found_of (told_transaction told name.number) first.0 first.1 in
      let commands : commands_told transcript name ≡ found.0.commands = ap commands_in found.1 in
      let same : first.0 ≡ second.0 = committed_once found.0 (by name.number found.0 found.1) first.0 second.0
      (subst (λ list. IsIn list first.0) commands first.1) (subst (λ list. IsIn list second.0) commands second.1)
      (outcome_from first.0 Committed p first.2) (outcome_from second.0 Committed q second.2) in
      let answers : Some (Committed, p) ≡ Some (Committed, q) = sym first.2 ∙ (ap (λ (e : Exchange). e.answer) same ∙ second.2) in
      ap (λ (o : Option (Outcome × ℕ)). (unwrap_or o (Committed, 0)).1) answers
    where
      by : (number : ℕ) (transaction : Transaction) → told_transaction (told_session name.session transcript) number ≡ Some transaction →
          HasEnded transaction ⊎ AllByRecursion IsDone transaction.commands
      by zero transaction is = absurd (let none : ◌≡◌ {A = Option Transaction} None (Some transaction) = is in cc)
      by (suc k) transaction is =
          let lawful = shown.lawful name.session in
          lawful_at (told_session name.session transcript).ended
          (told_session name.session transcript).current k transaction lawful.have_ended lawful.going_on is

  aborted_out : (name : TxnId) (cause : AbortCause) (position : ℕ) → IsAnswered transcript name (Aborted cause) position → IsIn history name → ⊥
  aborted_out name cause position is is_in =
      let found = answered_in name (Aborted cause) position is in
      let out = true_outcome name found.0 (Aborted cause) position found.1 found.2 in
      false≢true (sym out.so.2 ∙ decided_at name is_in.0 is_in.1)

  replies : RepliesAgree no_values (operations_of transcript history)
  replies = subst (λ list. RepliesAgree no_values (operations_of transcript list)) well.ledger.history
      (history_replays both.ledger transcript well.ledger.ordered (members_told shape size both well law shown)).0

  fits : HistoryFits transcript history
  fits = record {
    distinct = distinct;
    committing = λ name is_in. member_commits shape size both well law shown name (decided_at name is_in.0 is_in.1);
    committed_listed = λ name position is. (let found = answered_in name Committed position is in committed_in name found.0 position found.1 found.2);
    committed_once = once;
    aborted_absent = aborted_out;
    replies_replay = replies;
  }

  for_members : CommittedForMembers transcript history
  for_members session position at =
      let is = committed_at session position transcript (shown.few session) shown.fit_turns at in
      let name : TxnId = record { session = session; number = is.number } in (
        is.number,
        committed_in name is.exchange position is.is_in is.answered_is,
        (
          is.exchange,
          answered_still (told_session session transcript) (session_state session transcript) is.number is.exchange
              (goes shape size both well law shown session) is.is_in,
          is.answered_is,
        ),
      )

  in_time : RealTimeOrder transcript history
  in_time i j x y at began at_i at_j answered begins early =
      let found = answered_in x Committed at answered in
      let told : Session = told_session y.session transcript in
      let old = has_transaction (pending y.session transcript) told y.number (members_stand shape size both well y (decided_at y j at_j)) in
      let same : old.0.begin ≡ began = began_there told (session_state y.session transcript) y.number old.0 begins.0
      (goes shape size both well law shown y.session) old.1 begins.1 ∙ begins.2 in
      well.evident.in_time i j x y found.0 old.0 at at_i at_j found.1 found.2 old.1 (subst (λ n. at < n) (sym same) early)

  pub serializable : Serializable transcript history
  serializable = record {
    history_fits = fits;
    committed_for_members = for_members;
    real_time_order = in_time;
    answers_follow = shown.follow;
    answers_fit_turns = shown.fit_turns;
    refusals_true = shown.refused;
    refusals_once = ([], shown.refused_once ∙ sym (append-nil (refusals transcript)));
  }
