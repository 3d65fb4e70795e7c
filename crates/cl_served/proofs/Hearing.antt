-- After a step of the front a transaction has done what was answered to it, and what its messages say.
use Rattle.std.proofs.Common.{◌≡◌, ◌≢◌, ℕ, ◌%◌, ◌<◌, true, inl, inr, ◌⊎◌, List, [], ◌∷◌, ◌++◌, length, filter, All, Some, refl, sym, ap, ◌∙◌, subst, subst₂}
use Rattle.std.proofs.lemmas.Bool.{cases_eq, cond-true, eq-eqb, and_left, and_from}
use Rattle.std.proofs.lemmas.Grind.{flat_map-append}
use Rattle.std.proofs.lemmas.List.{append-nil}
use Rattle.std.proofs.lemmas.List.Elements.{All-nil, All-cons, All-weaker, filter-append}
use Rattle.cl_commit.proofs.Frames.{way-apart}
use Rattle.cl_commit.proofs.Opens.{awaits_answer, AwaitsAnswer}
use Rattle.cl_commit.proofs.Orders.{may_answer}
use Rattle.cl_commit.specs.Life.{MayStand, Lives}
use Rattle.cl_commit.specs.Standing.{Standing, absent, running, asked, answered, preparing, voting, voted, ending, over, PartView, part_view, is_order, is_report, StandsSo}
use Rattle.cl_exchange.proofs.Delivered.{IsAtSome, home_apart, home_below}
use Rattle.cl_exchange.proofs.Heard.{its_outcome}
use Rattle.cl_exchange.specs.Stage.{view_of, is_of_session}
use Rattle.cl_node.specs.Addressing.{home_in}
use Rattle.cl_runs.specs.World.{Shape}
use Rattle.cl_serial.specs.Exchanges.{Exchange, answered as answered_by}
use Rattle.cl_serial.specs.PlainMap.{Operation, operations, operation_in}
use Rattle.cl_serial.specs.Transactions.{Session, commands_in, session_step}
use Rattle.cl_serial.specs.Transcript.{TranscriptEntry}
use Rattle.cl_shown.specs.Done.{is_done_outcome}
use Rattle.cl_steps.specs.declared.actors.TheConstants.{FRONT}
use Rattle.cl_steps.specs.declared.steps.Outgoing.{Outgoing}
use Rattle.cl_system.specs.Replicas.{ReplicaWorld, Mail, with_mail, with_way}
use Rattle.cl_system.specs.Roles.{IsOfSession, IsAddressed}
use Rattle.cl_told.specs.Told.{told_session, pending, IsOutcomeOf}
use Rattle.cl_types.proofs.Transactions.{same_txn-itself}
use Rattle.cl_types.specs.Placement.{IsNodeCount}
use Rattle.cl_types.specs.Transactions.{same_txn}
use Rattle.cl_types.specs.declared.answers.AbortCause.TheVariants.{Conflict, Client, Memory}
use Rattle.cl_types.specs.declared.answers.Answer.{Answer as OpAnswer}
use Rattle.cl_types.specs.declared.answers.Answer.TheVariants as answers
use Rattle.cl_types.specs.declared.answers.Outcome.{Outcome as CommandOutcome}
use Rattle.cl_types.specs.declared.answers.Outcome.TheVariants.{Done, Begun, Committed, Aborted}
use Rattle.cl_types.specs.declared.limits.TheConstants.{SESSIONS_MAX}
use Rattle.cl_types.specs.declared.operations.Command.{Command as ClientCommand}
use Rattle.cl_types.specs.declared.operations.Command.TheVariants.{Begin, Work, Commit, Abort}
use Rattle.cl_types.specs.declared.operations.TxnId.{TxnId}
use Rattle.cl_wire.specs.Message.{Content, Command, Outcome, Ask, Answer, Prepare, Vote, Finish}
use Rattle.cl_served.proofs.Asking.{working_when_asked}
use Rattle.cl_served.proofs.Fronts.{IsLater, IsFresh, FrontKeeps, FrontHears}
use Rattle.cl_served.proofs.Lists.{All-passing, none-passing}
use Rattle.cl_served.proofs.Sessions.{told_commands, next_number, added_by, answered_step, IsStep}
use Rattle.cl_served.proofs.Serving.{told_done, IsOneMore, IsExtra, ServesAnswer, ServesOutcome, ServesMessage, IsServedBy, All-added}
use Rattle.cl_served.proofs.Turns.{IsCommandFrom}

-- ---- a session that is told nothing

module _ (left more : List ClientCommand) (extra : List Operation) (name : TxnId) (later : IsLater left more) where
  later_one : (reply : _) → IsOneMore left extra reply → IsOneMore more extra reply
  later_one reply is = let next = later (Work is.0 is.1 is.2) is.3 is.4 in (is.0, is.1, is.2, next.0, next.1, is.5)

  later_answer : (answer : OpAnswer) → ServesAnswer left extra answer → ServesAnswer more extra answer
  later_answer (answers.Done reply) is = later_one reply is
  later_answer (answers.Refused holder) is = is
  later_answer answers.NoMemory is = is

  later_outcome : (outcome : CommandOutcome) → ServesOutcome left extra outcome → ServesOutcome more extra outcome
  later_outcome (Done reply) is = later_one reply is
  later_outcome outcome is = is

  later_message : (content : Content) → ServesMessage left extra name content → ServesMessage more extra name content
  later_message (Command v txn number what) is = is
  later_message (Ask v txn number table key op) is = λ same. (let both = is same in let next = later
      (Work table key op) both.1.0 both.1.1 in (both.0, (next.0, next.1)))
  later_message (Answer v txn number answer) is = λ same. later_answer answer (is same)
  later_message (Outcome txn number outcome) is = λ same. later_outcome outcome (is same)
  later_message (Prepare v txn) is = is
  later_message (Vote v txn) is = is
  later_message content is = tt

  later_extra : (told : Session) (number : ℕ) → IsExtra left told number extra → IsExtra more told number extra
  later_extra told number (inl none) = inl none
  later_extra told number (inr some) = inr (some.0, later_one some.0 some.1, some.2)

  -- a fresh command says that nothing was done beside
  fresh_message : (told : Session) (number : ℕ) → IsExtra left told number extra → (content : Content) → IsFresh name.session left content →
      ServesMessage more extra name content
  fresh_message told number (inl none) (Command v txn n what) fresh = λ same. none
  fresh_message told number (inr some) (Command v txn n what) fresh =
      λ same. absurd (let none : left ≡ [] = fresh
      (ap (λ (t : TxnId). t.session) same) in let first = some.1.4 in let no : [] ≡ Work some.1.0 some.1.1 some.1.2 ∷ some.1.3 = sym none ∙ first in cc)
  fresh_message told number is content fresh = absurd fresh

module _ (before after : List TranscriptEntry) (sends : List Outgoing) (name : TxnId) (mail : Mail) (done : List Operation) where
  -- nothing is sent
  pub served_unsent : FrontKeeps name.session before after sends → IsServedBy before mail done name → IsServedBy after mail done name
  served_unsent keeps is =
      let s : ℕ = name.session in
      let left : List ClientCommand = pending s before in
      let more : List ClientCommand = pending s after in
      record {
        extra = is.extra;
        done_is = is.done_is ∙ ap (λ told. told_done told name.number ++ is.extra) (sym keeps.told_is);
        is_extra = subst (λ told. IsExtra more told name.number is.extra) (sym keeps.told_is)
            (later_extra left more is.extra name keeps.later (told_session s before) name.number is.is_extra);
        messages = λ a b. All-weaker (ServesMessage left is.extra name) (ServesMessage more is.extra name) (later_message left more is.extra name keeps.later)
            (mail a b) (is.messages a b);
      }

  -- commands are sent
  pub served_kept : FrontKeeps name.session before after sends → IsServedBy before mail done name → IsServedBy after (with_mail mail FRONT sends) done name
  unfolding served_unsent
  served_kept keeps is =
      let kept = served_unsent keeps is in
      record {
        extra = is.extra;
        done_is = kept.done_is;
        is_extra = kept.is_extra;
        messages = All-added (ServesMessage (pending name.session after) is.extra name) mail FRONT sends kept.messages (λ k d within.
            fresh_message (pending name.session before) (pending name.session after) is.extra name keeps.later
            (told_session name.session before) name.number is.is_extra _ (keeps.fresh k d within));
      }

-- ---- a session that hears an outcome

-- what is added to the operations that were answered with a reply
pub done_added : (one : List Exchange) (more : List Exchange) → filter (λ operation. is_done_outcome operation.outcome) (operations (one ++ more))
    ≡ filter (λ operation. is_done_outcome operation.outcome) (operations one) ++ filter (λ operation. is_done_outcome operation.outcome) (operations more)
done_added one more =
    ap (filter (λ operation. is_done_outcome operation.outcome)) (flat_map-append operation_in one more)
    ∙ filter-append (λ operation. is_done_outcome operation.outcome) (operations one) (operations more)

added_extra : (left rest : List ClientCommand) (extra : List Operation) (what : ClientCommand) (outcome : CommandOutcome) (line at : ℕ) →
    IsOutcomeOf what outcome → left ≡ what ∷ rest → ServesOutcome left extra outcome →
    filter (λ operation. is_done_outcome operation.outcome) (operations (added_by (answered_by (what, line) (outcome, at)) what)) ≡ extra
added_extra left rest extra Begin Begun line at fits is serves = sym serves
added_extra left rest extra (Work table key op) (Done reply) line at fits is serves =
    let theirs = serves.4 in
    let same : Work table key op ∷ rest ≡ Work serves.0 serves.1 serves.2 ∷ serves.3 = sym is ∙ theirs in
    let t : table ≡ serves.0 = cc in
    let k : key ≡ serves.1 = cc in
    let o : op ≡ serves.2 = cc in
    let e = serves.5 in
    ap (λ (x : List ℕ). record { place = (x, key); op = op; outcome = Some (Done reply) } ∷ []) t
    ∙ (ap (λ (x : List ℕ). record { place = (serves.0, x); op = op; outcome = Some (Done reply) } ∷ []) k
    ∙ (ap (λ x. record { place = (serves.0, serves.1); op = x; outcome = Some (Done reply) } ∷ []) o ∙ sym e))
added_extra left rest extra (Work table key op) (Aborted (Conflict holder)) line at fits is serves = sym serves
added_extra left rest extra (Work table key op) (Aborted Memory) line at fits is serves = sym serves
added_extra left rest extra Commit Committed line at fits is serves = sym serves
added_extra left rest extra Abort (Aborted Client) line at fits is serves = sym serves
added_extra left rest extra what outcome line at fits is serves = absurd fits

-- a message about work
abbrev IsWork : Content → Type 0
IsWork (Ask v txn number table key op) = Unit {0}
IsWork (Answer v txn number answer) = Unit {0}
IsWork content = ⊥

-- where the transaction has no outcome and no work on its way, what is on its way says nothing
no_work : (nodes : ℕ) (left : List ClientCommand) (name : TxnId) (a b : ℕ) (content : Content) → IsAddressed nodes a b content →
    (a ≡ home_in nodes name → b ≡ FRONT → is_of_session name.session content ≡ true → ⊥) →
    ((w : ℕ) → w < nodes → a ≡ home_in nodes name → b ≡ w → is_order w name content ≡ true → IsWork content → ⊥) →
    ((w : ℕ) → w < nodes → a ≡ w → b ≡ home_in nodes name → is_report w name content ≡ true → IsWork content → ⊥) → ServesMessage left [] name content
no_work nodes left name a b (Command v txn number what) is outcomes orders reports = λ same. refl
no_work nodes left name a b (Outcome txn number outcome) is outcomes orders reports =
    λ same. absurd (outcomes (is.giver ∙ ap (home_in nodes) same) is.receiver (eq-eqb name.session txn.session (ap (λ (t : TxnId). t.session) (sym same))))
no_work nodes left name a b (Ask w txn number table key op) is outcomes orders reports =
    λ same. absurd (orders w is.0.node (is.0.giver ∙ ap (home_in nodes) same) is.0.receiver
    (and_from _ _ (eq-eqb w w refl) (ap (same_txn name) same ∙ same_txn-itself name)) tt)
no_work nodes left name a b (Answer w txn number answer) is outcomes orders reports =
    λ same. absurd (reports w is.node is.giver (is.receiver ∙ ap (home_in nodes) same)
    (and_from _ _ (eq-eqb w w refl) (ap (same_txn name) same ∙ same_txn-itself name)) tt)
no_work nodes left name a b (Prepare w txn) is outcomes orders reports = λ same. refl
no_work nodes left name a b (Vote w txn) is outcomes orders reports = λ same. refl
no_work nodes left name a b content is outcomes orders reports = tt

none_of : (P : Content → Type 0) (xs : List Content) → xs ≡ [] → All P xs
none_of P xs none = subst (All P) (sym none) (All-nil P)

one_of : (P : Content → Type 0) (xs : List Content) (x : Content) → xs ≡ x ∷ [] → P x → All P xs
one_of P xs x one is = subst (All P) (sym one) (All-cons P x [] is (All-nil P))

abbrev IsNoWork : Content → Type 0
IsNoWork content = IsWork content → ⊥

module _ (w : ℕ) (name : TxnId) (view : PartView) where
  order_no_work : (standing : Standing) → StandsSo w name view standing → ((number : ℕ) → standing ≡ asked number → ⊥) → All IsNoWork view.orders
  order_no_work absent is never = none_of IsNoWork view.orders is.orders
  order_no_work running is never = none_of IsNoWork view.orders is.orders
  order_no_work (asked number) is never = absurd (never number refl)
  order_no_work (answered number answer) is never = none_of IsNoWork view.orders is.0.orders
  order_no_work preparing is never = one_of IsNoWork view.orders (Prepare w name) is.0.orders (λ no. no)
  order_no_work voting is never = none_of IsNoWork view.orders is.0.orders
  order_no_work voted is never = none_of IsNoWork view.orders is.orders
  order_no_work (ending commit) is never = one_of IsNoWork view.orders (Finish w name commit) is.0.orders (λ no. no)
  order_no_work over is never = none_of IsNoWork view.orders is.0

  report_no_work : (standing : Standing) → StandsSo w name view standing → ((number : ℕ) (answer : OpAnswer) → standing ≡ answered number answer → ⊥) →
      All IsNoWork view.reports
  report_no_work absent is never = none_of IsNoWork view.reports is.reports
  report_no_work running is never = none_of IsNoWork view.reports is.reports
  report_no_work (asked number) is never = none_of IsNoWork view.reports is.0.order.reports
  report_no_work (answered number answer) is never = absurd (never number answer refl)
  report_no_work preparing is never = none_of IsNoWork view.reports is.0.reports
  report_no_work voting is never = one_of IsNoWork view.reports (Vote w name) is.0.reports (λ no. no)
  report_no_work voted is never = none_of IsNoWork view.reports is.reports
  report_no_work (ending commit) is never = none_of IsNoWork view.reports is.0.reports
  report_no_work over is never = none_of IsNoWork view.reports is.1

module _ (shape : Shape) (counted : IsNodeCount shape.nodes) (world : ReplicaWorld) (many : length world.front.sessions ≡ SESSIONS_MAX) (txn : TxnId)
    (of : IsOfSession txn) (number : ℕ) (outcome : CommandOutcome) (rest : List Content)
    (waits : world.mail (txn.session % shape.nodes) FRONT ≡ Outcome txn number outcome ∷ rest) (name : TxnId) (same : name.session ≡ txn.session)
    (lives : Lives shape world name) (at : IsAtSome shape.nodes world txn.session)
    (addressed : (a b : ℕ) → All (IsAddressed shape.nodes a b) (world.mail a b)) where
  abbrev home : ℕ
  home = txn.session % shape.nodes

  abbrev left_mail : Mail
  left_mail = with_way world.mail home FRONT rest

  home_is : home_in shape.nodes name ≡ home
  home_is = ap (λ s. s % shape.nodes) same

  -- it waits for no answer
  not_awaiting : (w n : ℕ) → AwaitsAnswer w n lives.life → ⊥
  not_awaiting w n awaits =
      let working = working_when_asked shape world name w n lives.life awaits lives.so_far (subst (IsAtSome shape.nodes world) (sym same) at) in
      let none = subst (λ s. (view_of shape.nodes world s).outcomes ≡ []) same working.working.outcomes in
      let one = (its_outcome shape counted world many txn of number outcome rest waits at).at.outcomes in
      absurd (let no : [] ≡ _ = sym none ∙ one in cc)

  never_asked : (w n : ℕ) (within : w < shape.nodes) → (lives.stands w within).0 ≡ asked n → ⊥
  never_asked w n within is =
      not_awaiting w n (awaits_answer w n answers.NoMemory lives.life
      (may_answer w n answers.NoMemory lives.life (subst (MayStand lives.life w) is (lives.stands w within).2)))

  never_answered : (w n : ℕ) (answer : OpAnswer) (within : w < shape.nodes) → (lives.stands w within).0 ≡ answered n answer → ⊥
  never_answered w n answer within is = not_awaiting w n (awaits_answer w n answer lives.life (subst (MayStand lives.life w) is (lives.stands w within).2))

  no_orders : (w : ℕ) (within : w < shape.nodes) → All (λ c. is_order w name c ≡ true → IsNoWork c) (world.mail (home_in shape.nodes name) w)
  no_orders w within =
      All-passing IsNoWork (is_order w name) (world.mail (home_in shape.nodes name) w)
      (order_no_work w name (part_view shape.nodes world name w) (lives.stands w within).0 (lives.stands w within).1 (λ n is. never_asked w n within is))

  no_reports : (w : ℕ) (within : w < shape.nodes) → All (λ c. is_report w name c ≡ true → IsNoWork c) (world.mail w (home_in shape.nodes name))
  no_reports w within =
      All-passing IsNoWork (is_report w name) (world.mail w (home_in shape.nodes name))
      (report_no_work w name (part_view shape.nodes world name w) (lives.stands w within).0 (lives.stands w within).1
      (λ n answer is. never_answered w n answer within is))

  -- a way between virtual nodes is as it was
  between : (a b : ℕ) → b < shape.nodes → left_mail a b ≡ world.mail a b
  between a b within = way-apart world.mail home FRONT rest a b (and_left _ _ (home_apart shape.nodes b counted within).1)

  no_outcomes : All (λ c. is_of_session name.session c ≡ true → ⊥) (left_mail home FRONT)
  no_outcomes =
      none-passing (is_of_session name.session) (left_mail home FRONT)
      (ap (filter (is_of_session name.session)) (cond-true _ _ _ (and_from _ _ (eq-eqb FRONT FRONT refl) (eq-eqb home home refl)))
      ∙ (ap (λ s. filter (is_of_session s) rest) same ∙ (its_outcome shape counted world many txn of number outcome rest waits at).alone))

  pub heard_messages : (left : List ClientCommand) → ((a b : ℕ) → All (IsAddressed shape.nodes a b) (left_mail a b)) → (a b : ℕ) →
      All (ServesMessage left [] name) (left_mail a b)
  heard_messages left are a b = λ k d within. no_work shape.nodes left name a b _ (are a b k d within)
      (λ giver receiver. subst₂ (λ x y. All (λ c. is_of_session name.session c ≡ true → ⊥) (left_mail x y)) (sym (giver ∙ home_is))
      (sym receiver) no_outcomes k d within)
      (λ w bound giver receiver. subst₂ (λ x y. All (λ c. is_order w name c ≡ true → IsNoWork c) (left_mail x y)) (sym giver) (sym receiver)
      (subst (All (λ c. is_order w name c ≡ true → IsNoWork c)) (sym (between (home_in shape.nodes name) w bound)) (no_orders w bound)) k d within)
      (λ w bound giver receiver. subst₂ (λ x y. All (λ c. is_report w name c ≡ true → IsNoWork c) (left_mail x y)) (sym giver) (sym receiver)
      (subst (All (λ c. is_report w name c ≡ true → IsNoWork c)) (sym (between w (home_in shape.nodes name) (home_below shape.nodes name.session counted)))
      (no_reports w bound)) k d within)

-- what a session makes of the outcome
module _ (before after : List TranscriptEntry) (sends : List Outgoing) (name txn : TxnId) (same : name.session ≡ txn.session) (outcome : CommandOutcome)
    (hears : FrontHears txn outcome before after sends) where
  abbrev pub told_before : Session
  told_before = told_session name.session before

  abbrev pub heard_exchange : Exchange
  heard_exchange = answered_by (hears.what, hears.line) (outcome, length before)

  pub hears_step : IsStep told_before (session_step told_before heard_exchange) (added_by heard_exchange hears.what)
  hears_step = subst (λ t. IsStep (told_session t before) (session_step (told_session t before) heard_exchange) (added_by heard_exchange hears.what)) (sym same)
      (answered_step (told_session txn.session before) hears.session hears.current hears.line (length before) hears.what outcome hears.fits hears.outstanding)

  pub hears_told : told_session name.session after ≡ session_step told_before heard_exchange
  hears_told = subst (λ t. told_session t after ≡ session_step (told_session t before) heard_exchange) (sym same) hears.told_is

  -- it is of the transaction that comes after those that have ended
  pub hears_who : name.number ≡ next_number told_before → txn ≡ name
  hears_who here =
      let number = hears.number_is ∙ ap (λ t. next_number (told_session t before)) (sym same) in
      ap (λ (x : ℕ). record { session = x; number = txn.number }) (sym same) ∙ ap (λ (x : ℕ). record { session = name.session; number = x }) (number ∙ sym here)

module _ (before after : List TranscriptEntry) (sends : List Outgoing) (name txn : TxnId) (same : name.session ≡ txn.session) (outcome : CommandOutcome)
    (done : List Operation) (mail : Mail) (hears : FrontHears txn outcome before after sends)
    (is : IsServedBy before mail done name) (says : txn ≡ name → ServesOutcome (pending name.session before) is.extra outcome) where
  abbrev told : Session
  told = told_session name.session before

  abbrev one : Exchange
  one = answered_by (hears.what, hears.line) (outcome, length before)

  step : IsStep told (session_step told one) (added_by one hears.what)
  step = hears_step before after sends name txn same outcome hears

  by_number : (name.number ≡ next_number told) ⊎ (name.number ≢ next_number told) → done ≡ told_done (session_step told one) name.number
  by_number (inl here) =
      let added = added_extra (pending name.session before) hears.rest is.extra hears.what outcome hears.line (length before) hears.fits
      (subst (λ t. pending t before ≡ hears.what ∷ hears.rest) (sym same) hears.left)
      (says (hears_who before after sends name txn same outcome hears here)) in
      is.done_is
      ∙ (ap (λ list. told_done told name.number ++ list) (sym added)
      ∙ (sym (done_added (told_commands told name.number) (added_by one hears.what))
      ∙ ap (λ list. filter (λ (operation : Operation). is_done_outcome operation.outcome) (operations list))
      (sym (subst (λ n. told_commands (session_step told one) n ≡ told_commands told n ++ added_by one hears.what) (sym here) step.here))))
  by_number (inr apart) =
      let none : is.extra ≡ [] = nothing is.is_extra in
      is.done_is
      ∙ (ap (λ list. told_done told name.number ++ list) none
      ∙ (append-nil (told_done told name.number)
      ∙ ap (λ found. filter (λ (operation : Operation). is_done_outcome operation.outcome) (operations (commands_in found)))
      (sym (step.there name.number apart))))
    where
      nothing : IsExtra (pending name.session before) told name.number is.extra → is.extra ≡ []
      nothing (inl none) = none
      nothing (inr some) = absurd (apart some.2)

  -- a command says nothing
  command_message : (left : List ClientCommand) (content : Content) → IsCommandFrom txn.session content → ServesMessage left [] name content
  command_message left (Command v other number what) from = λ same. refl
  command_message left content from = absurd from

  pub served_heard : (next : Mail) → ((a b : ℕ) → All (ServesMessage (pending name.session after) [] name) (next a b)) →
      IsServedBy after (with_mail next FRONT sends) done name
  served_heard next messages = record {
    extra = [];
    done_is = by_number (cases_eq name.number (next_number told))
        ∙ (ap (λ t. told_done t name.number) (sym (hears_told before after sends name txn same outcome hears))
        ∙ sym (append-nil (told_done (told_session name.session after) name.number)));
    is_extra = inl refl;
    messages = All-added (ServesMessage (pending name.session after) [] name) next FRONT sends messages
        (λ k d within. command_message (pending name.session after) _ (hears.own k d within));
  }
