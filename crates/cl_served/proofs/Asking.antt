-- An operation comes to its participant: nothing else of its transaction is on its way, and what it does is what its answer says.
use Rattle.std.proofs.Common.{◌≡◌, ◌≢◌, ℕ, ◌<◌, Bool, true, false, eqb, ◌⊎◌, inl, inr, List, [], ◌∷◌, filter, All, Option, refl, sym, ap, ◌∙◌, subst, subst₂, arith}
use Rattle.std.specs.Option.{option_map_or}
use Rattle.std.proofs.lemmas.Bool.{cases_eq, eq-eqb, and_left, and_right, and_from}
use Rattle.cl_commit.proofs.Frames.{way-other, way-apart, way-head}
use Rattle.cl_commit.proofs.Opens.{awaits_answer, AwaitsAnswer}
use Rattle.cl_commit.proofs.Orders.{WasAsked, was_asked, may_answer, ask-order}
use Rattle.cl_commit.specs.Life.{Life, IsSoFar, MayParticipate, MayStandOpen, MayStand, Lives}
use Rattle.cl_commit.specs.Standing.{Standing, PartView, part_view, is_order, is_report, StandsSo}
use Rattle.cl_control.specs.Calls.{is_asked}
use Rattle.cl_control.specs.State.{Entry, is_among}
use Rattle.cl_control.specs.declared.entry.Phase.TheVariants.{Asked}
use Rattle.cl_exchange.proofs.Delivered.{IsAtSome, home_apart, home_below}
use Rattle.cl_exchange.proofs.Holding.{IsCounted, counted_at, holding, asked_idle}
use Rattle.cl_exchange.proofs.Opens.{named-own}
use Rattle.cl_exchange.specs.Stage.{SessionView, view_of, is_of_session}
use Rattle.cl_front.specs.Session.{SessionState}
use Rattle.cl_front.specs.declared.current.Current.{Current}
use Rattle.cl_node.specs.Addressing.{home_in}
use Rattle.cl_runs.specs.World.{Shape}
use Rattle.cl_serial.specs.Transactions.{Session}
use Rattle.cl_steps.specs.declared.actors.TheConstants.{FRONT}
use Rattle.cl_system.specs.Replicas.{ReplicaWorld, with_way}
use Rattle.cl_system.specs.Roles.{IsAddressed}
use Rattle.cl_told.specs.Told.{IsToldOutstanding}
use Rattle.cl_types.proofs.Transactions.{same_txn-itself}
use Rattle.cl_types.specs.Placement.{IsNodeCount}
use Rattle.cl_types.specs.Transactions.{same_txn}
use Rattle.cl_types.specs.declared.answers.Answer.TheVariants as answers
use Rattle.cl_types.specs.declared.operations.Command.{Command as ClientCommand}
use Rattle.cl_types.specs.declared.operations.Command.TheVariants.{Begin, Work, Commit, Abort}
use Rattle.cl_types.specs.declared.operations.Op.{Op}
use Rattle.cl_types.specs.declared.operations.TxnId.{TxnId}
use Rattle.cl_wire.specs.Message.{Content, Command, Outcome, Ask, Answer, Prepare, Vote, Finish}
use Rattle.cl_served.proofs.Lists.{none-passing}
use Rattle.cl_served.proofs.Sessions.{next_number}
use Rattle.cl_served.proofs.Serving.{ServesMessage}

-- the transaction of the outstanding command comes after those that have ended
pub outstanding_number : (told : Session) (session : SessionState) (current : Current) (what : ClientCommand) → IsToldOutstanding told session current what →
    session.begun ≡ next_number told
outstanding_number told session current Begin is = let number = is.0.number in omega (arith, number)
outstanding_number told session current (Work table key op) is = let number = is.3.begun in omega (arith, number)
outstanding_number told session current Commit is = let number = is.1.begun in omega (arith, number)
outstanding_number told session current Abort is = let number = is.1.begun in omega (arith, number)

-- a transaction that waits for an answer is the one that its session is at
pub working_when_asked : (shape : Shape) (world : ReplicaWorld) (name : TxnId) (v number : ℕ) (life : Life) → AwaitsAnswer v number life →
    IsSoFar shape.nodes world name life → IsAtSome shape.nodes world name.session →
    IsCounted name.session (view_of shape.nodes world name.session) (λ entry. is_asked number v entry.phase) name
working_when_asked shape world name v number life awaits so_far at =
    let view : SessionView = view_of shape.nodes world name.session in
    let found = subst (IsSoFar shape.nodes world name) awaits.is so_far in
    counted_at name.session view (λ entry. is_asked number v entry.phase) (asked_idle number v) name (holding shape.nodes name.session view at.0 at.1)
    (ap (λ (entry : Option Entry). option_map_or (λ x. is_asked number v x.phase) entry false)
    (named-own name (world.replicas (home_in shape.nodes name)).control.transactions ∙ found.1)
    ∙ (ap (is_asked number v) awaits.phase ∙ and_from _ _ (eq-eqb number number refl) (eq-eqb v v refl)))

-- a message that is nowhere says nothing
pub nowhere : (nodes : ℕ) (left : List ClientCommand) (extra : _) (name : TxnId) (a b : ℕ) (content : Content) → IsAddressed nodes a b content →
    (a ≡ FRONT → b ≡ home_in nodes name → is_of_session name.session content ≡ true → ⊥) →
    (a ≡ home_in nodes name → b ≡ FRONT → is_of_session name.session content ≡ true → ⊥) →
    ((w : ℕ) → w < nodes → a ≡ home_in nodes name → b ≡ w → is_order w name content ≡ true → ⊥) →
    ((w : ℕ) → w < nodes → a ≡ w → b ≡ home_in nodes name → is_report w name content ≡ true → ⊥) →
    ServesMessage left extra name content
nowhere nodes left extra name a b (Command v txn number what) is commands outcomes orders reports =
    λ same. absurd (commands is.giver (is.receiver ∙ is.node ∙ ap (home_in nodes) same)
    (eq-eqb name.session txn.session (ap (λ (t : TxnId). t.session) (sym same))))
nowhere nodes left extra name a b (Outcome txn number outcome) is commands outcomes orders reports =
    λ same. absurd (outcomes (is.giver ∙ ap (home_in nodes) same) is.receiver (eq-eqb name.session txn.session (ap (λ (t : TxnId). t.session) (sym same))))
nowhere nodes left extra name a b (Ask w txn number table key op) is commands outcomes orders reports =
    λ same. absurd (orders w is.0.node (is.0.giver ∙ ap (home_in nodes) same) is.0.receiver
    (and_from _ _ (eq-eqb w w refl) (ap (same_txn name) same ∙ same_txn-itself name)))
nowhere nodes left extra name a b (Answer w txn number answer) is commands outcomes orders reports =
    λ same. absurd (reports w is.node is.giver (is.receiver ∙ ap (home_in nodes) same)
    (and_from _ _ (eq-eqb w w refl) (ap (same_txn name) same ∙ same_txn-itself name)))
nowhere nodes left extra name a b (Prepare w txn) is commands outcomes orders reports =
    λ same. absurd (orders w is.node (is.giver ∙ ap (home_in nodes) same) is.receiver
    (and_from _ _ (eq-eqb w w refl) (ap (same_txn name) same ∙ same_txn-itself name)))
nowhere nodes left extra name a b (Vote w txn) is commands outcomes orders reports =
    λ same. absurd (reports w is.node is.giver (is.receiver ∙ ap (home_in nodes) same)
    (and_from _ _ (eq-eqb w w refl) (ap (same_txn name) same ∙ same_txn-itself name)))
nowhere nodes left extra name a b (Finish w txn commit) is commands outcomes orders reports = tt
nowhere nodes left extra name a b content is commands outcomes orders reports = absurd is

-- nothing of who runs, or is absent, is on its way
record IsQuiet (view : PartView) : Type 0 where
  orders : view.orders ≡ []
  reports : view.reports ≡ []

quiet_elsewhere : (v w number : ℕ) (name : TxnId) (view : PartView) (entry : Entry) → entry.phase ≡ Asked number v → w ≢ v →
    (among : Bool) (standing : Standing) → StandsSo w name view standing → MayStandOpen among entry w standing → IsQuiet view
quiet_elsewhere v w number name view entry phase apart true standing stands may = by
    (subst (λ p. MayParticipate p (is_among w entry.votes) w standing) phase may)
  where
    by : MayParticipate (Asked number v) (is_among w entry.votes) w standing → IsQuiet view
    by (inl here) = absurd (apart here.0)
    by (inr there) = let still = subst (StandsSo w name view) there.1 stands in record { orders = still.orders; reports = still.reports }
quiet_elsewhere v w number name view entry phase apart false standing stands may = let still = subst
    (StandsSo w name view) may stands in record { orders = still.orders; reports = still.reports }

module _ (shape : Shape) (counted : IsNodeCount shape.nodes) (world : ReplicaWorld) (name : TxnId) (lives : Lives shape world name)
    (at : IsAtSome shape.nodes world name.session)
    (v : ℕ) (below : v < shape.nodes) (number : ℕ) (table key : List ℕ) (op : Op) (rest : List Content)
    (here : world.mail (home_in shape.nodes name) v ≡ Ask v name number table key op ∷ rest) where
  abbrev home : ℕ
  home = home_in shape.nodes name

  abbrev content : Content
  content = Ask v name number table key op

  abbrev left_mail : ℕ → ℕ → List Content
  left_mail = with_way world.mail home v rest

  was : WasAsked number (part_view shape.nodes world name v) (lives.stands v below).0
  was = was_asked v name (part_view shape.nodes world name v) _ number table key op (lives.stands v below).0 (lives.stands v below).1
      (way-head world.mail home v content rest here (is_order v name) (ask-order v name number table key op).own)

  awaits : AwaitsAnswer v number lives.life
  awaits = awaits_answer v number answers.NoMemory lives.life
      (may_answer v number answers.NoMemory lives.life (subst (MayStand lives.life v) was.is (lives.stands v below).2))

  -- its session is at this operation
  pub asked_working : IsCounted name.session (view_of shape.nodes world name.session) (λ entry. is_asked number v entry.phase) name
  asked_working = working_when_asked shape world name v number lives.life awaits lives.so_far at

  quiet_at : (w : ℕ) → w < shape.nodes → w ≢ v → IsQuiet (part_view shape.nodes world name w)
  quiet_at w within apart =
      quiet_elsewhere v w number name (part_view shape.nodes world name w) awaits.entry awaits.phase apart (is_among w awaits.entry.participants)
      (lives.stands w within).0 (lives.stands w within).1
      (subst (λ life. MayStand life w (lives.stands w within).0) awaits.is (lives.stands w within).2)

  node_apart : (u : ℕ) → u < shape.nodes → eqb FRONT u ≡ false
  node_apart u within = (home_apart shape.nodes u counted within).0

  no_commands : All (λ c. is_of_session name.session c ≡ true → ⊥) (left_mail FRONT home)
  no_commands =
      none-passing (is_of_session name.session) (left_mail FRONT home)
      (ap (filter (is_of_session name.session))
      (way-apart world.mail home v rest FRONT home (and_right _ _ (node_apart home (home_below shape.nodes name.session counted))))
      ∙ asked_working.working.commands)

  no_outcomes : All (λ c. is_of_session name.session c ≡ true → ⊥) (left_mail home FRONT)
  no_outcomes =
      none-passing (is_of_session name.session) (left_mail home FRONT)
      (ap (filter (is_of_session name.session)) (way-apart world.mail home v rest home FRONT (and_left _ _ (node_apart v below)))
      ∙ asked_working.working.outcomes)

  no_order : (w : ℕ) → w < shape.nodes → (w ≡ v) ⊎ (w ≢ v) → filter (is_order w name) (left_mail home w) ≡ []
  no_order w within (inl same) =
      subst (λ u. filter (is_order u name) (left_mail home u) ≡ []) (sym same)
      (let one = was.one in let head = way-head world.mail home v content rest here (is_order v name) (ask-order v name number table key op).own in cc)
  no_order w within (inr apart) = way-other world.mail home v content rest here (is_order w name)
      ((ask-order v name number table key op).elsewhere w apart) home w ∙ (quiet_at w within apart).orders

  no_report : (w : ℕ) → w < shape.nodes → (w ≡ v) ⊎ (w ≢ v) → filter (is_report w name) (left_mail w home) ≡ []
  no_report w within (inl same) =
      way-other world.mail home v content rest here (is_report w name) refl w home
      ∙ subst (λ u. (part_view shape.nodes world name u).reports ≡ []) (sym same) was.none
  no_report w within (inr apart) = way-other world.mail home v content rest here (is_report w name) refl w home ∙ (quiet_at w within apart).reports

  -- so what is left on its way says nothing of the transaction
  pub alone : (left : List ClientCommand) (extra : _) → ((a b : ℕ) → All (IsAddressed shape.nodes a b) (left_mail a b)) → (a b : ℕ) →
      All (ServesMessage left extra name) (left_mail a b)
  alone left extra addressed a b = λ k d within. nowhere shape.nodes left extra name a b _ (addressed a b k d within)
      (λ giver receiver. subst₂ (λ x y. All (λ c. is_of_session name.session c ≡ true → ⊥) (left_mail x y)) (sym giver) (sym receiver) no_commands k d within)
      (λ giver receiver. subst₂ (λ x y. All (λ c. is_of_session name.session c ≡ true → ⊥) (left_mail x y)) (sym giver) (sym receiver) no_outcomes k d within)
      (λ w bound giver receiver. subst₂ (λ x y. All (λ c. is_order w name c ≡ true → ⊥) (left_mail x y)) (sym giver) (sym receiver)
      (none-passing (is_order w name) (left_mail home w) (no_order w bound (cases_eq w v))) k d within)
      (λ w bound giver receiver. subst₂ (λ x y. All (λ c. is_report w name c ≡ true → ⊥) (left_mail x y)) (sym giver) (sym receiver)
      (none-passing (is_report w name) (left_mail w home) (no_report w bound (cases_eq w v))) k d within)
