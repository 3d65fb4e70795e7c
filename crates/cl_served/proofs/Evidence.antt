-- What the transcript shows of ends is true, and firm transactions stand in their history as they stand in it.
use Rattle.std.proofs.Common.{◌≡◌, ◌≢◌, ℕ, zero, suc, ◌<◌, true, false, ◌||◌, inl, inr, ◌⊎◌, List, [], ◌∷◌, ◌++◌, length, All, Option, Some, None, refl, sym, ap, ◌∙◌, subst, arith}
use Rattle.std.specs.Option.{unwrap_or}
use Rattle.std.proofs.lemmas.Bool.{cases_eq, or_cases, or_left, or_right, true≢false, false≢true}
use Rattle.std.proofs.lemmas.List.{append-nil}
use Rattle.std.proofs.lemmas.List.Elements.{All-nil, All-cons, All-head, All-tail, All-append, All-weaker}
use Rattle.std.proofs.lemmas.List.Folds.{list_any-append}
use Rattle.cl_commit.proofs.Whole.{KeepsSettled, outcome-stays}
use Rattle.cl_commit.specs.Life.{HasBegun, IsSoFar, IsTrueOutcome, aborted, is_begin_of}
use Rattle.cl_log.specs.Open.{is_among as is_member}
use Rattle.cl_node.specs.Addressing.{home_in}
use Rattle.cl_runs.specs.World.{Shape}
use Rattle.cl_serial.proofs.Places.{StandsAt-push, StandsAt-within, IsIn-push}
use Rattle.cl_serial.specs.Exchanges.{Exchange, outcome_of}
use Rattle.cl_serial.specs.Serial.{StandsAt, IsIn}
use Rattle.cl_serial.specs.Transactions.{Transaction, session_step, commands_in}
use Rattle.cl_serial.specs.Transcript.{TranscriptEntry}
use Rattle.cl_steps.specs.declared.actors.TheConstants.{FRONT}
use Rattle.cl_system.proofs.Reordering.{reordered_any}
use Rattle.cl_system.specs.Firm.{FirmWorld, TellsFirm, AreReordered, with_order}
use Rattle.cl_system.specs.Replicas.{ReplicaWorld, Mail}
use Rattle.cl_system.specs.Roles.{IsOfSession}
use Rattle.cl_told.specs.Told.{told_session, pending}
use Rattle.cl_types.proofs.Transactions.{same_txn-true, same_txn-itself}
use Rattle.cl_types.specs.Transactions.{same_txn}
use Rattle.cl_types.specs.declared.answers.Outcome.{Outcome as CommandOutcome}
use Rattle.cl_types.specs.declared.answers.Outcome.TheVariants.{Committed, Aborted}
use Rattle.cl_types.specs.declared.operations.Command.{Command as ClientCommand}
use Rattle.cl_types.specs.declared.operations.Command.TheVariants.{Begin, Work, Commit, Abort}
use Rattle.cl_types.specs.declared.operations.TxnId.{TxnId}
use Rattle.cl_wire.specs.Message.{Outcome}
use Rattle.cl_served.proofs.Begins.{begins_within}
use Rattle.cl_served.proofs.Changes.{Tells, tells_same, tells_outcome, Grown, grown_same, grown_by, Change, history_changes, transcript_changes}
use Rattle.cl_served.proofs.Hearing.{hears_step, hears_told, hears_who, heard_exchange}
use Rattle.cl_served.proofs.Members.{HasCommitted, has_transaction}
use Rattle.cl_served.proofs.Sessions.{told_transaction, told_commands, next_number, added_by}

-- an outcome of the transaction may be told: it is true, and COMMITTED is of a firm one
pub record MayBeTold (shape : Shape) (state : FirmWorld) (name : TxnId) (outcome : CommandOutcome) : Type 0 where
  pub so : IsTrueOutcome shape state.world (Outcome name 0 outcome)
  pub firm : TellsFirm state.firm (Outcome name 0 outcome)

-- the answer to a command of the transaction is true
abbrev pub IsTrueAnswer : Shape → FirmWorld → TxnId → Option CommandOutcome → Type 0
IsTrueAnswer shape state name None = Unit {0}
IsTrueAnswer shape state name (Some outcome) = MayBeTold shape state name outcome

-- the commands of a transaction, as they were answered
abbrev pub commands_told : List TranscriptEntry → TxnId → List Exchange
commands_told transcript name = told_commands (told_session name.session transcript) name.number

-- where COMMITTED of one member of the history stands before BEGIN of another, they stand so in the history
abbrev pub IsInTime : List TranscriptEntry → List TxnId → Type 0
IsInTime transcript history = (i j : ℕ) (x y : TxnId) (exchange : Exchange) (transaction : Transaction) (at : ℕ) → StandsAt history i x → StandsAt history j y →
    IsIn (commands_told transcript x) exchange →
    exchange.answer ≡ Some (Committed, at) → told_transaction (told_session y.session transcript) y.number ≡ Some transaction → at < transaction.begin → i < j

-- what the transcript shows of ends is true; each that was decided is of a session
pub record IsEvident (shape : Shape) (state : FirmWorld) : Type 0 where
  pub answers : (name : TxnId) → IsOfSession name →
      All (λ exchange. IsTrueAnswer shape state name (outcome_of exchange)) (commands_told state.world.front.transcript name)
  pub members : (name : TxnId) → is_member name state.world.history ≡ true → IsOfSession name
  pub numbered : (name : TxnId) → name.number ≡ 0 → IsSoFar shape.nodes state.world name aborted
  pub in_time : IsInTime state.world.front.transcript state.firm

-- ---- lists

pub among_at : (history : List TxnId) (i : ℕ) (name : TxnId) → StandsAt history i name → is_member name history ≡ true
among_at [] i name at = absurd (let no : ◌≡◌ {A = Option TxnId} None (Some name) = at in cc)
among_at (x ∷ xs) zero name at = ap (λ b. b || is_member name xs) (ap (same_txn name) (ap (λ (o : Option TxnId). unwrap_or o name) at) ∙ same_txn-itself name)
among_at (x ∷ xs) (suc i) name at = or_right (same_txn name x) _ (among_at xs i name at)

pub true_within : {X : Type 0} (P : X → Type 0) (xs : List X) (x : X) → All P xs → IsIn xs x → P x
true_within P [] x all is = absurd (let no : ◌≡◌ {A = Option _} None (Some x) = is.1 in cc)
true_within P (y ∷ xs) x all is = by (true_within P xs x (All-tail P y xs all)) is.0 is.1
  where
    by : (IsIn xs x → P x) → (k : ℕ) → StandsAt (y ∷ xs) k x → P x
    by rest zero at = subst P (ap (λ (o : Option _). unwrap_or o x) at) (All-head P y xs all)
    by rest (suc k) at = rest (k, at)

in_added : (xs : List Exchange) (one x : Exchange) (what : ClientCommand) → IsIn (xs ++ added_by one what) x → IsIn xs x ⊎ (x ≡ one)
in_added xs one x Begin is = inl (subst (λ list. IsIn list x) (append-nil xs) is)
in_added xs one x (Work table key op) is = IsIn-push xs one x is
in_added xs one x Commit is = IsIn-push xs one x is
in_added xs one x Abort is = IsIn-push xs one x is

all_added : (P : Exchange → Type 0) (one : Exchange) (what : ClientCommand) → P one → All P (added_by one what)
all_added P one Begin is = All-nil P
all_added P one (Work table key op) is = All-cons P one [] is (All-nil P)
all_added P one Commit is = All-cons P one [] is (All-nil P)
all_added P one Abort is = All-cons P one [] is (All-nil P)

-- an outcome of whatever number may be told, where it is true
may_be_told : (shape : Shape) (state : FirmWorld) (name : TxnId) (number : ℕ) (outcome : CommandOutcome) →
    IsTrueOutcome shape state.world (Outcome name number outcome) → TellsFirm state.firm (Outcome name number outcome) → MayBeTold shape state name outcome
may_be_told shape state name number Committed is firm = record { so = is; firm = firm }
may_be_told shape state name number (Aborted cause) is firm = record { so = is; firm = tt }
may_be_told shape state name number outcome is firm = record { so = tt; firm = tt }

-- the outcome of a command that was answered
pub outcome_from : (exchange : Exchange) (outcome : CommandOutcome) (position : ℕ) → exchange.answer ≡ Some (outcome, position) →
    outcome_of exchange ≡ Some outcome
outcome_from exchange outcome position is = ap (λ (answer : Option (CommandOutcome × ℕ)). elim answer [ None ↦ None | Some given ↦ Some given.0 ]) is

-- COMMITTED is of a firm transaction
pub committed_firm : (shape : Shape) (state : FirmWorld) → IsEvident shape state → (name : TxnId) (exchange : Exchange) (at : ℕ) → IsOfSession name →
    IsIn (commands_told state.world.front.transcript name) exchange → exchange.answer ≡ Some (Committed, at) → is_member name state.firm ≡ true
committed_firm shape state evident name exchange at own is_in answered =
    let is = true_within (λ e. IsTrueAnswer shape state name (outcome_of e)) (commands_told state.world.front.transcript name) exchange
    (evident.answers name own) is_in in
    (subst (IsTrueAnswer shape state name) (outcome_from exchange Committed at answered) is).firm

-- another order of what is on its way leaves who has committed and who was aborted
pub reorder_settled : (nodes : ℕ) (world : ReplicaWorld) (mail : Mail) → AreReordered world.mail mail → (txn : TxnId) →
    KeepsSettled nodes world (with_order world mail) txn
reorder_settled nodes world mail are txn = record {
  committed_stays = λ is. (still is.0, is.1, is.2);
  aborted_stays = λ is. (still is.0, is.1, is.2);
}
  where
    still : HasBegun nodes world txn → HasBegun nodes (with_order world mail) txn
    still is = record { begun = is.begun; heard = reordered_any world.mail mail are (is_begin_of txn) FRONT (home_in nodes txn) ∙ is.heard }

-- ---- an event of the system, or another order of the messages

module _ (shape : Shape) (state : FirmWorld) (after : ReplicaWorld) (settled : (txn : TxnId) → KeepsSettled shape.nodes state.world after txn)
    (change : Change shape state after) (evident : IsEvident shape state)
    (decided : (name : TxnId) → is_member name state.firm ≡ true → is_member name state.world.history ≡ true)
    (stands : (name : TxnId) → is_member name state.world.history ≡ true →
    HasCommitted (pending name.session state.world.front.transcript) (told_session name.session state.world.front.transcript) name.number) where
  abbrev world : ReplicaWorld
  world = state.world

  -- the system after it: nothing more is firm
  abbrev next : FirmWorld
  next = record state { world = after }

  abbrev before : List TranscriptEntry
  before = world.front.transcript

  abbrev later : List TranscriptEntry
  later = after.front.transcript

  true_stays : (name : TxnId) (outcome : Option CommandOutcome) → IsTrueAnswer shape state name outcome → IsTrueAnswer shape next name outcome
  true_stays name None is = tt
  true_stays name (Some outcome) is = record { so = outcome-stays shape world after settled (Outcome name 0 outcome) is.so; firm = is.firm }

  abbrev AreTrue : TxnId → List Exchange → Type 0
  AreTrue name list = All (λ exchange. IsTrueAnswer shape next name (outcome_of exchange)) list

  true_so_far : (name : TxnId) → IsOfSession name → AreTrue name (commands_told before name)
  true_so_far name own =
      All-weaker (λ exchange. IsTrueAnswer shape state name (outcome_of exchange)) (λ exchange. IsTrueAnswer shape next name (outcome_of exchange))
      (λ exchange is. true_stays name (outcome_of exchange) is) (commands_told before name)
      (evident.answers name own)

  answers_told : (name : TxnId) → IsOfSession name → Tells shape state later name.session → AreTrue name (commands_told later name)
  answers_told name own (tells_same same) = subst (λ told. AreTrue name (told_commands told name.number)) (sym same) (true_so_far name own)
  answers_told name own (tells_outcome txn number outcome sends of session true_is firm hears) =
      subst (λ told. AreTrue name (told_commands told name.number)) (sym (hears_told before later sends name txn (sym session) outcome hears))
      (by (cases_eq name.number (next_number (told_session name.session before))))
    where
      by : (name.number ≡ next_number (told_session name.session before)) ⊎ (name.number ≢ next_number (told_session name.session before)) →
          AreTrue name (told_commands (session_step (told_session name.session before)
          (heard_exchange before later sends name txn (sym session) outcome hears)) name.number)
      by (inl here) =
          let step = hears_step before later sends name txn (sym session) outcome hears in
          let one : Exchange = heard_exchange before later sends name txn (sym session) outcome hears in
          let who = hears_who before later sends name txn (sym session) outcome hears here in
          let is_true : IsTrueAnswer shape next name (Some outcome)
          = true_stays name (Some outcome) (may_be_told shape state name number outcome
          (subst (λ t. IsTrueOutcome shape world (Outcome t number outcome)) who true_is)
          (subst (λ t. TellsFirm state.firm (Outcome t number outcome)) who firm)) in
          subst (AreTrue name) (sym (subst (λ n. told_commands (session_step (told_session name.session before) one) n ≡ told_commands
          (told_session name.session before) n ++ added_by one hears.what) (sym here) step.here))
          (All-append (λ exchange. IsTrueAnswer shape next name (outcome_of exchange)) (commands_told before name) (added_by one hears.what)
          (true_so_far name own)
          (all_added (λ exchange. IsTrueAnswer shape next name (outcome_of exchange)) one hears.what is_true))
      by (inr apart) = subst (AreTrue name) (ap commands_in
          (sym ((hears_step before later sends name txn (sym session) outcome hears).there name.number apart))) (true_so_far name own)

  next_answers : (name : TxnId) → IsOfSession name → AreTrue name (commands_told later name)
  next_answers name own = by change
    where
      by : Change shape state after → AreTrue name (commands_told later name)
      by (history_changes same grown) = subst (λ transcript. AreTrue name (commands_told transcript name)) (sym same) (true_so_far name own)
      by (transcript_changes same longer told) = answers_told name own (told name own)

  next_members : (name : TxnId) → is_member name after.history ≡ true → IsOfSession name
  next_members name member = by change
    where
      grown : Grown world.history after.history → IsOfSession name
      grown (grown_same same) = evident.members name (ap (is_member name) (sym same) ∙ member)
      grown (grown_by txn of none more) =
          elim (or_cases (is_member name world.history) (same_txn name txn || false)
          (sym (ap (is_member name) more ∙ list_any-append (same_txn name) world.history (txn ∷ [])) ∙ member)) [
            | inl old ↦ evident.members name old
            | inr new ↦ elim (or_cases (same_txn name txn) false new) [
              | inl own ↦ subst IsOfSession (sym (same_txn-true name txn own)) of
              | inr none_is ↦ absurd (false≢true none_is)
            ]
          ]

      by : Change shape state after → IsOfSession name
      by (history_changes same more) = grown more
      by (transcript_changes same longer told) = evident.members name (ap (is_member name) (sym same) ∙ member)

  -- ---- real time

  -- a member began before
  began_before : (y : TxnId) (transaction : Transaction) → is_member y world.history ≡ true → Tells shape state later y.session →
      told_transaction (told_session y.session later) y.number ≡ Some transaction →
      (old : Transaction) × (told_transaction (told_session y.session before) y.number ≡ Some old) × (old.begin ≡ transaction.begin)
  began_before y transaction member (tells_same same) found = (transaction, ap (λ told. told_transaction told y.number) (sym same) ∙ found, refl)
  began_before y transaction member (tells_outcome txn number outcome sends of session true_is firm hears) found = by
      (cases_eq y.number (next_number (told_session y.session before)))
    where
      was : (old : Transaction) × (told_transaction (told_session y.session before) y.number ≡ Some old)
      was = has_transaction (pending y.session before) (told_session y.session before) y.number (stands y member)

      now : told_transaction (session_step (told_session y.session before)
          (heard_exchange before later sends y txn (sym session) outcome hears)) y.number ≡ Some transaction
      now = ap (λ told. told_transaction told y.number) (sym (hears_told before later sends y txn (sym session) outcome hears)) ∙ found

      by : (y.number ≡ next_number (told_session y.session before)) ⊎ (y.number ≢ next_number (told_session y.session before)) →
          (old : Transaction) × (told_transaction (told_session y.session before) y.number ≡ Some old) × (old.begin ≡ transaction.begin)
      by (inl here) =
          let step = hears_step before later sends y txn (sym session) outcome hears in
          let next = step.begins_as was.0 (ap (told_transaction (told_session y.session before)) (sym here) ∙ was.1) in
          let both : Some next.0 ≡ Some transaction = sym next.1
          ∙ (ap (told_transaction (session_step (told_session y.session before) (heard_exchange before later sends y txn (sym session) outcome hears)))
          (sym here) ∙ now) in
          (was.0, was.1, sym next.2 ∙ ap (λ (o : Option Transaction). (unwrap_or o was.0).begin) both)
      by (inr apart) = (transaction, sym ((hears_step before later sends y txn (sym session) outcome hears).there y.number apart) ∙ now, refl)

  -- COMMITTED stood there, or it is the last
  committed_before : (x : TxnId) (exchange : Exchange) (at : ℕ) → Tells shape state later x.session → IsIn (commands_told later x) exchange →
      exchange.answer ≡ Some (Committed, at) → IsIn (commands_told before x) exchange ⊎ (at ≡ length before)
  committed_before x exchange at (tells_same same) is_in answered = inl (subst (λ told. IsIn (told_commands told x.number) exchange) same is_in)
  committed_before x exchange at (tells_outcome txn number outcome sends of session true_is firm hears) is_in answered = by
      (cases_eq x.number (next_number (told_session x.session before)))
    where
      now : IsIn (told_commands (session_step (told_session x.session before)
          (heard_exchange before later sends x txn (sym session) outcome hears)) x.number) exchange
      now = subst (λ told. IsIn (told_commands told x.number) exchange) (hears_told before later sends x txn (sym session) outcome hears) is_in

      last : exchange ≡ heard_exchange before later sends x txn (sym session) outcome hears → at ≡ length before
      last same = ap (λ (answer : Option (CommandOutcome × ℕ)). (unwrap_or answer (Committed, 0)).1) (sym answered ∙ ap (λ (e : Exchange). e.answer) same)

      by : (x.number ≡ next_number (told_session x.session before)) ⊎ (x.number ≢ next_number (told_session x.session before)) →
          IsIn (commands_told before x) exchange ⊎ (at ≡ length before)
      by (inl here) =
          let step = hears_step before later sends x txn (sym session) outcome hears in
          elim (in_added (commands_told before x) (heard_exchange before later sends x txn (sym session) outcome hears) exchange hears.what
          (subst (λ list. IsIn list exchange) (subst
          (λ n. told_commands (session_step (told_session x.session before) (heard_exchange before later sends x txn (sym session) outcome hears)) n
          ≡ told_commands (told_session x.session before) n ++ added_by (heard_exchange before later sends x txn (sym session) outcome hears) hears.what)
          (sym here) step.here) now)) [
            | inl old ↦ inl old
            | inr new ↦ inr (last new)
          ]
      by (inr apart) = inl (subst (λ found. IsIn (commands_in found) exchange)
          ((hears_step before later sends x txn (sym session) outcome hears).there x.number apart) now)

  -- where the transcript grows, the order stays
  told_in_time : ((txn : TxnId) → IsOfSession txn → Tells shape state later txn.session) → IsInTime later state.firm
  told_in_time told i j x y exchange transaction at at_i at_j is_in answered found early =
      let member = decided y (among_at state.firm j y at_j) in
      let was = began_before y transaction member (told y (evident.members y member)) found in
      let begin = was.2 in
      elim (committed_before x exchange at (told x (evident.members x (decided x (among_at state.firm i x at_i)))) is_in answered) [
        | inl old ↦ evident.in_time i j x y exchange was.0 at at_i at_j old answered was.1 (omega (arith, begin, early))
        | inr new ↦ (let within = begins_within y.session before y.number was.0 was.1 in absurd (omega (arith, new, begin, early, within)))
      ]

  next_in_time : IsInTime later state.firm
  next_in_time = by change
    where
      by : Change shape state after → IsInTime later state.firm
      by (history_changes same grown) = subst (λ transcript. IsInTime transcript state.firm) (sym same) evident.in_time
      by (transcript_changes same longer told) = told_in_time told

  -- so it is after the event
  pub evident_after : IsEvident shape next
  evident_after = record {
    answers = next_answers;
    members = next_members;
    numbered = λ name zero_is. (settled name).aborted_stays (evident.numbered name zero_is);
    in_time = next_in_time;
  }

-- ---- a transaction becomes firm

module _ (shape : Shape) (state : FirmWorld) (txn : TxnId) (was_decided : is_member txn state.world.history ≡ true) (none : is_member txn state.firm ≡ false)
    (evident : IsEvident shape state) where
  -- the system after it
  abbrev joined : FirmWorld
  joined = record state { firm = state.firm ++ txn ∷ [] }

  -- what is firm stays firm
  firm_stays : (name : TxnId) (outcome : CommandOutcome) → TellsFirm state.firm (Outcome name 0 outcome) → TellsFirm joined.firm (Outcome name 0 outcome)
  firm_stays name Committed is = list_any-append (same_txn name) state.firm (txn ∷ []) ∙ or_left _ _ is
  firm_stays name outcome is = tt

  -- so what may be told may be told still
  joined_answer : (name : TxnId) (outcome : Option CommandOutcome) → IsTrueAnswer shape state name outcome → IsTrueAnswer shape joined name outcome
  joined_answer name None is = tt
  joined_answer name (Some outcome) is = record { so = is.so; firm = firm_stays name outcome is.firm }

  -- it was not answered COMMITTED yet, and it stands last
  joined_in_time : IsInTime state.world.front.transcript joined.firm
  joined_in_time i j x y exchange transaction at at_i at_j is_in answered found early =
      by (StandsAt-push state.firm txn i x at_i) (StandsAt-push state.firm txn j y at_j)
    where
      by : StandsAt state.firm i x ⊎ ((i ≡ length state.firm) × (x ≡ txn)) → StandsAt state.firm j y ⊎ ((j ≡ length state.firm) × (y ≡ txn)) → i < j
      by (inl old_i) (inl old_j) = evident.in_time i j x y exchange transaction at old_i old_j is_in answered found early
      by (inl old_i) (inr new_j) = let below = StandsAt-within state.firm i x old_i in let end = new_j.0 in omega (arith, below, end)
      by (inr new_i) either =
          let who = new_i.1 in
          let member = committed_firm shape state evident txn exchange at (evident.members txn was_decided)
          (subst (λ t. IsIn (commands_told state.world.front.transcript t) exchange) who is_in) answered in
          absurd (true≢false (sym member ∙ none))

  -- so it is once the transaction is firm
  pub evident_joined : IsEvident shape joined
  evident_joined = record {
    answers = λ name own. All-weaker (λ exchange. IsTrueAnswer shape state name (outcome_of exchange))
        (λ exchange. IsTrueAnswer shape joined name (outcome_of exchange)) (λ exchange is. joined_answer name (outcome_of exchange) is)
        (commands_told state.world.front.transcript name) (evident.answers name own);
    members = evident.members;
    numbered = evident.numbered;
    in_time = joined_in_time;
  }
