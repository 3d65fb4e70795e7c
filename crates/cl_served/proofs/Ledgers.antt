-- The ledger of a run is what its transcript shows.
use Rattle.std.proofs.Common.{◌≡◌, ℕ, zero, suc, Bool, true, false, cond, inl, inr, ◌⊎◌, List, [], ◌∷◌, ◌++◌, length, filter, Option, Some, None, refl, sym, ap, ◌∙◌, subst, arith}
use Rattle.std.specs.List.{slice_get}
use Rattle.std.specs.Option.{unwrap_or, option_to_list}
use Rattle.std.proofs.lemmas.Bool.{false≢true}
use Rattle.std.proofs.lemmas.List.{append-nil}
use Rattle.cl_exchange.proofs.Delivered.{IsAtSome}
use Rattle.cl_exchange.proofs.Events.{session_between, stage_of}
use Rattle.cl_exchange.specs.Stage.{outside, ready, asking, working, telling}
use Rattle.cl_front.specs.Session.{SessionState}
use Rattle.cl_front.specs.declared.current.Current.{Current}
use Rattle.cl_ledger.specs.Ledgers.{Ledgered}
use Rattle.cl_log.specs.Open.{is_among as is_member}
use Rattle.cl_order.specs.Laws.{IsToldBy}
use Rattle.cl_roster.specs.Roster.{IsClusterSize}
use Rattle.cl_runs.specs.World.{Shape}
use Rattle.cl_serial.proofs.Places.{StandsAt-push_last, IsIn-push_last, IsIn-nil}
use Rattle.cl_serial.specs.Exchanges.{Exchange, unanswered, outcome_of}
use Rattle.cl_serial.specs.PlainMap.{Operation, operation_by, operation_in, operations}
use Rattle.cl_serial.specs.Serial.{StandsAt, IsIn}
use Rattle.cl_serial.specs.Transactions.{Session, Transaction, session_state, commands_of, commands_in}
use Rattle.cl_serial.specs.Transcript.{TranscriptEntry}
use Rattle.cl_shown.specs.Laws.{SessionHasOutstanding}
use Rattle.cl_shown.specs.Sessions.{HasEnded, IsEnding, commits, aborts, IsGoingOn}
use Rattle.cl_shown.specs.Done.{is_done_outcome}
use Rattle.cl_shown.specs.Shown.{IsWellShown}
use Rattle.cl_system.specs.Roles.{IsOfSession}
use Rattle.cl_told.specs.Told.{told_session, pending, IsTold, IsToldOutstanding}
use Rattle.cl_types.specs.declared.answers.Outcome.{Outcome}
use Rattle.cl_types.specs.declared.operations.Command.{Command}
use Rattle.cl_types.specs.declared.operations.Command.TheVariants.{Begin, Work, Commit, Abort}
use Rattle.cl_types.specs.declared.operations.Op.{Op}
use Rattle.cl_types.specs.declared.operations.TxnId.{TxnId}
use Rattle.cl_served.specs.Served.{IsAsked, IsLedgerShown}
use Rattle.cl_served.proofs.Committed.{IsWhole, whole_done, all_at}
use Rattle.cl_served.proofs.Evidence.{IsTrueAnswer, commands_told, true_within}
use Rattle.cl_served.proofs.Members.{HasCommitted, has_ended, has_committed, found_within}
use Rattle.cl_served.proofs.Outstanding.{GoesOn, state_goes_on, inside_goes_on, done_among, done_same}
use Rattle.cl_served.proofs.Runs.{IsServedWell, members_stand}
use Rattle.cl_served.proofs.Serving.{told_done, IsExtra, IsServed}
use Rattle.cl_served.proofs.Sessions.{told_commands, next_number}

-- ---- lists

in_append : {X : Type 0} (xs ys : List X) (x : X) (k : ℕ) → StandsAt (xs ++ ys) k x → IsIn xs x ⊎ IsIn ys x
in_append [] ys x k at = inr (k, at)
in_append (y ∷ xs) ys x zero at = inl (0, at)
in_append (y ∷ xs) ys x (suc k) at = elim (in_append xs ys x k at) [ inl here ↦ inl (suc here.0, here.1) | inr there ↦ inr there ]

in_filter : {X : Type 0} (p : X → Bool) (xs : List X) (x : X) → IsIn (filter p xs) x → IsIn xs x
in_filter p [] x is = is
in_filter p (y ∷ xs) x is = by (in_filter p xs x) (p y) is.0 is.1
  where
    by : (IsIn (filter p xs) x → IsIn xs x) → (b : Bool) (k : ℕ) → StandsAt (cond b (y ∷ filter p xs) (filter p xs)) k x → IsIn (y ∷ xs) x
    by rest true zero at = (0, at)
    by rest true (suc k) at = let found = rest (k, at) in (suc found.0, found.1)
    by rest false k at = let found = rest (k, at) in (suc found.0, found.1)

-- where an operation comes from
record ComesFrom (commands : List Exchange) (operation : Operation) : Type 0 where
  exchange : Exchange
  is_in : IsIn commands exchange
  asks : exchange.command ≡ Work operation.place.0 operation.place.1 operation.op

by_command : (command : Command) (outcome : Option Outcome) (operation : Operation) (k : ℕ) → StandsAt (operation_by command outcome) k operation →
    command ≡ Work operation.place.0 operation.place.1 operation.op
by_command Begin outcome operation k at = absurd (let none : ◌≡◌ {A = Option Operation} None (Some operation) = at in cc)
by_command (Work table key op) outcome operation zero at =
    let one : Operation = record { place = (table, key); op = op; outcome = outcome } in
    ap (λ (o : Option Operation). Work (unwrap_or o one).place.0 (unwrap_or o one).place.1 (unwrap_or o one).op) at
by_command (Work table key op) outcome operation (suc k) at = absurd (let none : ◌≡◌ {A = Option Operation} None (Some operation) = at in cc)
by_command Commit outcome operation k at = absurd (let none : ◌≡◌ {A = Option Operation} None (Some operation) = at in cc)
by_command Abort outcome operation k at = absurd (let none : ◌≡◌ {A = Option Operation} None (Some operation) = at in cc)

comes_from : (commands : List Exchange) (operation : Operation) → IsIn (operations commands) operation → ComesFrom commands operation
comes_from [] operation is = absurd (IsIn-nil operation is)
comes_from (one ∷ commands) operation is = by (comes_from commands operation) (in_append (operation_in one) (operations commands) operation is.0 is.1)
  where
    by : (IsIn (operations commands) operation → ComesFrom commands operation) → IsIn (operation_in one) operation ⊎ IsIn (operations commands) operation →
        ComesFrom (one ∷ commands) operation
    by rest (inl here) = record { exchange = one; is_in = (0, refl); asks = by_command one.command (outcome_of one) operation here.0 here.1 }
    by rest (inr there) = let found = rest there in record { exchange = found.exchange; is_in = (suc found.is_in.0, found.is_in.1); asks = found.asks }

-- ---- the ledger

module _ (shape : Shape) (size : IsClusterSize shape.nodes shape.spares) (both : Ledgered) (well : IsServedWell shape both) (law : SessionHasOutstanding)
    (shown : IsWellShown both.state.world.front.transcript) where
  abbrev transcript : List TranscriptEntry
  transcript = both.state.world.front.transcript

  -- a session with its first command that has no answer
  pub goes : (s : ℕ) → GoesOn (told_session s transcript) (session_state s transcript)
  goes s = state_goes_on law s transcript (shown.few s)

  -- a session whose outstanding command is an operation is in a transaction
  inside_work : (name : TxnId) → IsOfSession name → (table key : List ℕ) (op : Op) (rest : List Command) →
      pending name.session transcript ≡ Work table key op ∷ rest →
      (transaction : Transaction) × ((told_session name.session transcript).current ≡ Some transaction)
  inside_work name own table key op rest waits = by (stage_of shape size.counted both.state.world well.sound name own)
    where
      told : IsTold shape both.state.world name.session
      told = let between = session_between name own in well.told name.session between.0 between.1

      by_what : (what : Command) (more : List Command) (current : Current) (session : SessionState) → pending name.session transcript ≡ what ∷ more →
          IsToldOutstanding (told_session name.session transcript) session current what →
          (transaction : Transaction) × ((told_session name.session transcript).current ≡ Some transaction)
      by_what Begin more current session first is = absurd (let same : Begin ∷ more ≡ Work table key op ∷ rest = sym first ∙ waits in cc)
      by_what (Work t k o) more current session first is = (is.0, is.3.current)
      by_what Commit more current session first is = (is.0, is.1.current)
      by_what Abort more current session first is = (is.0, is.1.current)

      by : IsAtSome shape.nodes both.state.world name.session →
          (transaction : Transaction) × ((told_session name.session transcript).current ≡ Some transaction)
      by (outside, at) = absurd (let none : [] ≡ Work table key op ∷ rest = sym (told.tells outside at).0 ∙ waits in cc)
      by (ready current entry, at) = absurd (let none : [] ≡ Work table key op ∷ rest = sym (told.tells (ready current entry) at).0 ∙ waits in cc)
      by (asking current what entries, at) = let is = told.tells (asking current what entries) at in by_what what _ current _ is.0 is.1
      by (working current entry, at) = let is = told.tells (working current entry) at in by_what is.0 _ current _ is.1 is.2
      by (telling current outcome entries, at) = let is = told.tells (telling current outcome entries) at in by_what is.0 _ current _ is.1 is.2

  asked_in_extra : (name : TxnId) → IsOfSession name → (extra : List Operation) →
      IsExtra (pending name.session transcript) (told_session name.session transcript) name.number extra → (operation : Operation) → IsIn extra operation →
      IsAsked transcript name operation
  asked_in_extra name own extra (inl none) operation is = absurd (IsIn-nil operation (subst (λ list. IsIn list operation) none is))
  asked_in_extra name own extra (inr (reply, (table, key, op, rest, waits, extra_is), number)) operation is =
      let told : Session = told_session name.session transcript in
      let inside = inside_work name own table key op rest waits in
      let line = inside_goes_on law name.session transcript (shown.few name.session) inside.0 (Work table key op) rest inside.1 waits in
      let one : Exchange = unanswered (Work table key op, line.0) in
      let commands : commands_of transcript name ≡ told_commands told name.number ++ one ∷ [] =
      subst (λ n. told_commands (session_state name.session transcript) n ≡ told_commands told n ++ one ∷ []) (sym number) line.1.here in
      record {
        exchange = one;
        is_in = subst (λ list. IsIn list one) (sym commands) (IsIn-push_last (told_commands told name.number) one);
        asks = by_command (Work table key op) _ operation is.0 (subst (λ list. StandsAt list is.0 operation) extra_is is.1);
      }

  -- ---- members

  member_whole : (name : TxnId) → is_member name both.state.world.history ≡ true → IsWhole (commands_of transcript name)
  member_whole name member = by name.number refl (members_stand shape size both well name member)
    where
      ending : (t : Transaction) → told_commands (told_session name.session transcript) name.number ≡ t.commands → (ended : HasEnded t) → IsEnding ended.last →
          ended.last.command ≡ Commit
      ending t is ended (commits command outcome) = command
      ending t is ended (aborts cause outcome) =
          let is_in = subst (λ list. IsIn list ended.last) (sym (is ∙ ended.commands_are)) (IsIn-push_last ended.front ended.last) in
          let out = true_within (λ e. IsTrueAnswer shape both.state name (outcome_of e)) (commands_told transcript name) ended.last
          (well.evident.answers name (well.evident.members name member)) is_in in
          absurd (false≢true (sym (subst (IsTrueAnswer shape both.state name) outcome out).so.2 ∙ member))

      by : (number : ℕ) → name.number ≡ number → HasCommitted (pending name.session transcript) (told_session name.session transcript) number →
          IsWhole (commands_of transcript name)
      by zero same (has_ended one most) = absurd (omega (arith, one))
      by (suc k) same (has_ended one most) =
          let before : Session = told_session name.session transcript in
          let found = found_within before.ended (option_to_list before.current) k (omega (arith, most)) in
          let ended : HasEnded found.0 = all_at HasEnded before.ended k found.0 (shown.lawful name.session).have_ended found.2 in
          let told_is : told_commands before name.number ≡ found.0.commands = ap (told_commands before) same ∙ ap commands_in found.1 in
          let commands : commands_of transcript name ≡ found.0.commands = ap commands_in
          ((goes name.session).step.there name.number (λ next. let far = sym same ∙ next in absurd (omega (arith, far, most)))) ∙ told_is in
          record {
            front = ended.front;
            last = ended.last;
            commands_are = commands
                ∙ ended.commands_are;
            done = ended.done;
            commits = ending found.0 told_is ended ended.ends;
          }
      by number same (has_committed transaction rest inside here waits) =
          let before : Session = told_session name.session transcript in
          let line = inside_goes_on law name.session transcript (shown.few name.session) transaction Commit rest inside waits in
          let one : Exchange = unanswered (Commit, line.0) in
          let told_is : told_commands before (next_number before) ≡ transaction.commands =
          ap (λ (c : Option Transaction). commands_in (slice_get (before.ended ++ option_to_list c) (length before.ended))) inside
          ∙ ap commands_in (StandsAt-push_last before.ended transaction) in
          record {
            front = transaction.commands;
            last = one;
            commands_are = ap (told_commands (session_state name.session transcript)) (same ∙ here) ∙ (line.1.here ∙ ap (λ list. list ++ one ∷ []) told_is);
            done = subst IsGoingOn inside (shown.lawful name.session).going_on;
            commits = refl;
          }

  -- nothing was done of a member beside what was answered
  member_extra : (name : TxnId) (extra : List Operation) → HasCommitted (pending name.session transcript) (told_session name.session transcript) name.number →
      IsExtra (pending name.session transcript) (told_session name.session transcript) name.number extra → extra ≡ []
  member_extra name extra stands (inl none) = none
  member_extra name extra (has_ended one most) (inr some) = let next = some.2 in absurd (omega (arith, next, most))
  member_extra name extra (has_committed transaction rest inside here waits) (inr some) =
      let work = some.1.4 in absurd (let same : Commit ∷ rest ≡ Work some.1.0 some.1.1 some.1.2 ∷ some.1.3 = sym waits ∙ work in cc)

  pub members_told : IsToldBy both.ledger transcript
  members_told name among =
      let member : is_member name both.state.world.history ≡ true = well.ledger.decided name (ap (is_member name) (sym well.ledger.history) ∙ among) in
      let served : IsServed both.state.world both.ledger.done name = well.served name (well.evident.members name member) in
      let none : served.extra ≡ [] = member_extra name served.extra (members_stand shape size both well name member) served.is_extra in
      let told : Session = told_session name.session transcript in
      served.done_is
      ∙ (ap (λ list. told_done told name.number ++ list) none
      ∙ (append-nil (told_done told name.number)
      ∙ (sym (done_same told (session_state name.session transcript) name.number (goes name.session))
      ∙ whole_done (commands_of transcript name) (member_whole name member))))

  -- the member's last command is COMMIT
  pub member_commits : (name : TxnId) → is_member name both.state.world.history ≡ true →
      (exchange : Exchange) × IsIn (commands_of transcript name) exchange × (exchange.command ≡ Commit)
  member_commits name member =
      let is = member_whole name member in
      (is.last, subst (λ list. IsIn list is.last) (sym is.commands_are) (IsIn-push_last is.front is.last), is.commits)

  pub ledger_shown : IsLedgerShown transcript both.ledger
  ledger_shown = record {
    shown = λ name own. (let served : IsServed both.state.world both.ledger.done name = well.served name own in (
      served.extra,
      served.done_is ∙ ap (λ list. list ++ served.extra)
          (sym (done_same (told_session name.session transcript) (session_state name.session transcript) name.number (goes name.session))),
    ));
    asked = λ name operation own is. asked_by name own operation is;
    members = members_told;
  }
    where
      asked_by : (name : TxnId) → IsOfSession name → (operation : Operation) → IsIn (both.ledger.done name) operation → IsAsked transcript name operation
      asked_by name own operation is =
          let served : IsServed both.state.world both.ledger.done name = well.served name own in
          let told : Session = told_session name.session transcript in
          let same : both.ledger.done name ≡ done_among (commands_of transcript name) ++ served.extra =
          served.done_is ∙ ap (λ list. list ++ served.extra) (sym (done_same told (session_state name.session transcript) name.number (goes name.session))) in
          elim (in_append (done_among (commands_of transcript name)) served.extra operation is.0 (subst (λ list. StandsAt list is.0 operation) same is.1)) [
            | inl old ↦ (let found = comes_from (commands_of transcript name) operation
                (in_filter (λ (o : Operation). is_done_outcome o.outcome) (operations (commands_of transcript name)) operation old) in
                record { exchange = found.exchange; is_in = found.is_in; asks = found.asks })
            | inr new ↦ asked_in_extra name own served.extra served.is_extra operation new
          ]
