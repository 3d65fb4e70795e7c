-- A command, an outcome: what they say of the outstanding command of their session.
use Rattle.std.proofs.Common.{◌≡◌, ℕ, ◌+◌, ◌-◌, ◌<◌, ◌≤◌, ◌%◌, true, List, ◌∷◌, ◌++◌, length, filter, Some, refl, sym, ap, ◌∙◌, subst, arith}
use Rattle.std.proofs.lemmas.Bool.{cond-true, eq-eqb}
use Rattle.cl_exchange.specs.Laws.{IsSoundWorld}
use Rattle.cl_exchange.specs.Stage.{SessionView, asking, telling, IsAsking, IsTelling, view_of, is_of_session, last_begun}
use Rattle.cl_exchange.proofs.Delivered.{IsCommandOf, command_of_stage}
use Rattle.cl_exchange.proofs.Events.{session_between}
use Rattle.cl_exchange.proofs.Heard.{IsOutcomeOf as IsHeard, outcome_of_stage}
use Rattle.cl_front.specs.declared.current.Current.{Current}
use Rattle.cl_lines.specs.declared.out.Out.TheVariants as out
use Rattle.cl_runs.specs.World.{Shape}
use Rattle.cl_serial.specs.Exchanges.{answered}
use Rattle.cl_serial.specs.PlainMap.{operations}
use Rattle.cl_serial.specs.Serial.{StandsAt}
use Rattle.cl_serial.specs.Transactions.{Transaction, Session}
use Rattle.cl_serial.specs.Transcript.{TranscriptEntry, written, questions, answers}
use Rattle.cl_serial.proofs.Places.{StandsAt-one, StandsAt-within}
use Rattle.cl_shown.specs.Laws.{SessionHasOutstanding}
use Rattle.cl_steps.specs.declared.actors.TheConstants.{FRONT}
use Rattle.cl_system.specs.Replicas.{ReplicaWorld}
use Rattle.cl_system.specs.Roles.{IsOfSession}
use Rattle.cl_told.specs.Told.{told_session, pending, IsInside, IsToldOutstanding, IsOutcomeOf, SessionsAreTold}
use Rattle.cl_types.specs.declared.answers.AbortCause.{AbortCause}
use Rattle.cl_types.specs.declared.answers.AbortCause.TheVariants.{Conflict, Node, Client, Memory}
use Rattle.cl_types.specs.declared.answers.Outcome.{Outcome as CommandOutcome}
use Rattle.cl_types.specs.declared.answers.Outcome.TheVariants.{Aborted}
use Rattle.cl_types.specs.declared.operations.Command.{Command as ClientCommand}
use Rattle.cl_types.specs.declared.operations.Command.TheVariants.{Begin, Work, Commit, Abort}
use Rattle.cl_types.specs.declared.operations.Op.{Op}
use Rattle.cl_types.specs.declared.operations.TxnId.{TxnId}
use Rattle.cl_types.specs.Places.{Place}
use Rattle.cl_wire.specs.Message.{Content, Command, Outcome}
use Rattle.cl_causes.proofs.Sessions.{Line, works, is_operation}
use Rattle.cl_causes.proofs.Transcripts.{left_in}
use Rattle.cl_causes.proofs.Claims.{lines_in, Grows, IsAskedAt, EndedQuietly, IsRefused, StayHeld, Says, IsRefusedReply, IsCause, IsCaused, longer, ended_before, asks_stay}
use Rattle.cl_causes.proofs.Outstanding.{first_left, IsOutstanding, stands_last, works_length, outstanding_within, reply_is_in}

abbrev txn_of : TxnId → Content → TxnId
txn_of txn (Command w named n c) = named
txn_of txn (Outcome named n o) = named
txn_of txn other = txn

abbrev number_of : ℕ → Content → ℕ
number_of number (Command w named n c) = n
number_of number (Outcome named n o) = n
number_of number other = number

abbrev what_of : ClientCommand → Content → ClientCommand
what_of what (Command w named n c) = c
what_of what other = what

abbrev outcome_of : CommandOutcome → Content → CommandOutcome
outcome_of outcome (Outcome named n o) = o
outcome_of outcome other = outcome

module _ (shape : Shape) (world : ReplicaWorld) (sound : IsSoundWorld shape world) (told : SessionsAreTold shape world) (outstanding : SessionHasOutstanding) (txn : TxnId) (of : IsOfSession txn) where
  abbrev transcript : List TranscriptEntry
  transcript = world.front.transcript

  abbrev view : SessionView
  view = view_of shape.nodes world txn.session

  abbrev so_far : Session
  so_far = told_session txn.session transcript

  few_here : length (answers txn.session transcript) ≤ length (questions txn.session transcript)
  few_here = let between = session_between txn of in (told txn.session between.0 between.1).few

  -- the first command without an answer in a transaction
  outstanding_of : (q : Line) (others : List Line) (transaction : Transaction) (count : ℕ) → left_in txn.session transcript ≡ q ∷ others →
      txn ≡ last_begun txn.session view.session → IsInside so_far view.session transaction count →
      IsOutstanding transcript txn q transaction
  outstanding_of q others transaction count left named inside = record {
    others = others;
    left = left;
    current = inside.current;
    number = ap (λ (t : TxnId). t.number) named ∙ inside.begun;
    few = few_here;
  }

  -- ---- an operation comes to the controller

  work_asked : (number : ℕ) (table key : List ℕ) (op : Op) (current : Current) (rest : List ClientCommand) → number ≡ current.operations → txn ≡ last_begun txn.session view.session →
      pending txn.session transcript ≡ Work table key op ∷ rest → IsToldOutstanding so_far view.session current (Work table key op) → IsAskedAt transcript txn (number - 1) table key op
  work_asked number table key op current rest numbered named left is =
      let first = first_left (left_in txn.session transcript) (Work table key op) rest left in
      let q : Line = (Work table key op, first.0) in
      let whole = outstanding_of q first.1 is.0 is.1 first.2 named is.3 in
      let index : length (operations is.0.commands) ≡ number - 1 = (let count = is.3.count in let more = is.2 in omega (arith, count, more, numbered)) in
      record {
        session = of;
        line = first.0;
        stands = subst (λ n. StandsAt (works (lines_in transcript txn)) n q) index (stands_last outstanding transcript txn q is.0 whole refl);
        below = outstanding_within outstanding transcript txn q is.0 whole;
      }

  pub command_asked : (v number : ℕ) (table key : List ℕ) (op : Op) (rest : List Content) → world.mail FRONT (txn.session % shape.nodes) ≡ Command v txn number (Work table key op) ∷ rest →
      IsAskedAt transcript txn (number - 1) table key op
  command_asked v number table key op rest waits =
      let between = session_between txn of in
      let stage = sound.stages txn.session between.0 between.1 in
      let content : Content = Command v txn number (Work table key op) in
      let is : IsCommandOf shape.nodes txn.session view content (filter (is_of_session txn.session) rest)
      = command_of_stage shape.nodes txn.session view stage.0 content (filter (is_of_session txn.session) rest) stage.1
      (ap (filter (is_of_session txn.session)) waits ∙ cond-true _ _ _ (eq-eqb txn.session txn.session refl)) in
      by is.current is.what is.entries is.at (sym (ap (what_of Begin) is.same)) (ap (number_of number) is.same) (ap (txn_of txn) is.same)
    where
      by : (current : Current) (what : ClientCommand) (entries : _) → IsAsking shape.nodes txn.session view current what entries → what ≡ Work table key op → number ≡ current.commands →
          txn ≡ last_begun txn.session view.session → IsAskedAt transcript txn (number - 1) table key op
      by current what entries at same numbered named =
          let at_work : IsAsking shape.nodes txn.session view current (Work table key op) entries = subst (λ c. IsAsking shape.nodes txn.session view current c entries) same at in
          let between = session_between txn of in
          let tells = (told txn.session between.0 between.1).tells (asking current (Work table key op) entries) at_work in
          work_asked number table key op current view.session.waiting (numbered ∙ at_work.before.0) named tells.0 tells.1

  -- ---- an outcome comes to the front

  module _ (number : ℕ) (cause : AbortCause) (more : List TranscriptEntry) (grows : Grows transcript (transcript ++ written (out.Answer txn.session (Aborted cause)) ∷ more))
      (few : length (answers txn.session (transcript ++ written (out.Answer txn.session (Aborted cause)) ∷ more)) ≤ length (questions txn.session (transcript ++ written (out.Answer txn.session (Aborted cause)) ∷ more)))
      (Now : TxnId → Type 0) (Short : TxnId → ℕ → Type 0) (short : Now txn → Short txn (length transcript))
      (Holding : TxnId → TxnId → Place → Op → ℕ → Type 0) (Held : TxnId → TxnId → Place → Op → ℕ → ℕ → Type 0)
      (held : StayHeld Holding (λ name holder place op line. Held name holder place op line (length transcript))) where
    abbrev after : List TranscriptEntry
    after = transcript ++ written (out.Answer txn.session (Aborted cause)) ∷ more

    -- the reply of the outstanding command is in its transaction
    caused_by : (q : Line) (transaction : Transaction) → IsOutstanding transcript txn q transaction →
        IsCause Short Held after txn (answered q (Aborted cause, length transcript)) (length transcript) cause →
        IsCaused Short Held after txn.session (length transcript) cause
    caused_by q transaction whole caused = record {
      number = txn.number;
      asked = answered q (Aborted cause, length transcript);
      of = of;
      is_in = reply_is_in outstanding transcript txn q transaction whole (Aborted cause) more refl refl few;
      answered = refl;
      caused = caused;
    }

    refused_reply : (holder : TxnId) (q : Line) (transaction : Transaction) → IsOutstanding transcript txn q transaction → is_operation q.0 ≡ true →
        length (operations transaction.commands) ≡ number - 1 →
        IsRefused Holding transcript txn holder (number - 1) → IsRefusedReply Held after txn holder (answered q (Aborted cause, length transcript)) (length transcript)
    refused_reply holder q transaction whole is_work index refused =
        let stands : StandsAt (works (lines_in transcript txn)) (number - 1) q = subst (λ n. StandsAt (works (lines_in transcript txn)) n q) index (stands_last outstanding transcript txn q transaction whole is_work) in
        let same : q ≡ (Work refused.table refused.key refused.op, refused.asked.line) = StandsAt-one (works (lines_in transcript txn)) (number - 1) q _ stands refused.asked.stands in
        let below : q.1 < length transcript = outstanding_within outstanding transcript txn q transaction whole in
        let line : q.1 ≡ refused.asked.line = ap (λ (l : Line). l.1) same in
        record {
          another = refused.another;
          table = refused.table;
          key = refused.key;
          op = refused.op;
          operates = ap (λ (l : Line). l.0) same;
          held = subst (λ n. Held txn holder (refused.table, refused.key) refused.op n (length transcript)) (sym line)
              (held txn holder (refused.table, refused.key) refused.op refused.asked.line refused.held);
          within = let l = longer transcript after grows in omega (arith, l, below);
          asks = asks_stay transcript after grows holder refused.table refused.key refused.op (length transcript) (length transcript) (omega arith) refused.asks;
          unended = λ ended. refused.unended (subst (EndedQuietly transcript holder) line (ended_before transcript after grows holder q.1 (omega (arith, below)) ended));
        }

    -- by what it answers
    caused_as : (current : Current) (what : ClientCommand) → number ≡ current.commands → current.operations ≤ current.commands →
        txn ≡ last_begun txn.session view.session → pending txn.session transcript ≡ what ∷ view.session.waiting →
        IsToldOutstanding so_far view.session current what → (why : AbortCause) → cause ≡ why → IsOutcomeOf what (Aborted why) → Says Now Holding transcript (Outcome txn number (Aborted why)) → IsCaused Short Held after txn.session (length transcript) cause
    caused_as current (Work table key op) numbered fits named left is (Conflict holder) same goes says =
        let first = first_left (left_in txn.session transcript) (Work table key op) view.session.waiting left in
        let q : Line = (Work table key op, first.0) in
        let whole : IsOutstanding transcript txn q is.0 = outstanding_of q first.1 is.0 is.1 first.2 named is.3 in
        let all = works_length outstanding transcript txn q is.0 whole refl in
        let below : number - 1 < length (operations is.0.commands) + 1 = subst (λ n. number - 1 < n) all (StandsAt-within (works (lines_in transcript txn)) (number - 1) _ says.asked.stands) in
        let index : length (operations is.0.commands) ≡ number - 1 = (let count = is.3.count in let more = is.2 in omega (arith, count, more, numbered, fits, below)) in
        caused_by q is.0 whole (subst (λ c. IsCause Short Held after txn (answered q (Aborted cause, length transcript)) (length transcript) c) (sym same) (refused_reply holder q is.0 whole refl index says))
    caused_as current (Work table key op) numbered fits named left is Memory same goes says =
        let first = first_left (left_in txn.session transcript) (Work table key op) view.session.waiting left in
        let q : Line = (Work table key op, first.0) in
        caused_by q is.0 (outstanding_of q first.1 is.0 is.1 first.2 named is.3) (subst (λ c. IsCause Short Held after txn (answered q (Aborted cause, length transcript)) (length transcript) c) (sym same) (cc, short says))
    caused_as current (Work table key op) numbered fits named left is (Node node) same goes says = absurd goes
    caused_as current (Work table key op) numbered fits named left is Client same goes says = absurd goes
    caused_as current Abort numbered fits named left is Client same goes says =
        let first = first_left (left_in txn.session transcript) Abort view.session.waiting left in
        let q : Line = (Abort, first.0) in
        caused_by q is.0 (outstanding_of q first.1 is.0 current.operations first.2 named is.1) (subst (λ c. IsCause Short Held after txn (answered q (Aborted cause, length transcript)) (length transcript) c) (sym same) refl)
    caused_as current Abort numbered fits named left is (Conflict holder) same goes says = absurd goes
    caused_as current Abort numbered fits named left is (Node node) same goes says = absurd goes
    caused_as current Abort numbered fits named left is Memory same goes says = absurd goes
    caused_as current Begin numbered fits named left is why same goes says = absurd goes
    caused_as current Commit numbered fits named left is why same goes says = absurd goes

    pub outcome_caused : ((current : Current) → view.session.current ≡ Some current → current.operations ≤ current.commands) → (rest : List Content) →
        world.mail (txn.session % shape.nodes) FRONT ≡ Outcome txn number (Aborted cause) ∷ rest → Says Now Holding transcript (Outcome txn number (Aborted cause)) → IsCaused Short Held after txn.session (length transcript) cause
    outcome_caused fits rest waits says =
        let between = session_between txn of in
        let stage = sound.stages txn.session between.0 between.1 in
        let content : Content = Outcome txn number (Aborted cause) in
        let is : IsHeard txn.session view content (filter (is_of_session txn.session) rest)
        = outcome_of_stage shape.nodes txn.session view stage.0 content (filter (is_of_session txn.session) rest) stage.1
        (ap (filter (is_of_session txn.session)) waits ∙ cond-true _ _ _ (eq-eqb txn.session txn.session refl)) in
        by is.current is.outcome is.entries is.at (sym (ap (outcome_of (Aborted cause)) is.same)) (ap (number_of number) is.same) (ap (txn_of txn) is.same)
      where
        by : (current : Current) (outcome : CommandOutcome) (entries : _) → IsTelling txn.session view current outcome entries → outcome ≡ Aborted cause → number ≡ current.commands →
            txn ≡ last_begun txn.session view.session → IsCaused Short Held after txn.session (length transcript) cause
        by current outcome entries at same numbered named =
            let at_abort : IsTelling txn.session view current (Aborted cause) entries = subst (λ o. IsTelling txn.session view current o entries) same at in
            let between = session_between txn of in
            let tells = (told txn.session between.0 between.1).tells (telling current (Aborted cause) entries) at_abort in
            caused_as current tells.0 numbered (fits current at_abort.inside.inside) named tells.1 tells.2 cause refl tells.3 says
