-- Where a transaction stood at a virtual node to which an order comes, and where it may stand then.
use Rattle.std.proofs.Common.{◌≡◌, ℕ, Bool, true, false, ◌⊎◌, inl, inr, List, [], ◌∷◌, refl, sym, ap, ◌∙◌}
use Rattle.std.proofs.lemmas.Bool.{eq-eqb, ne_eqb, and_from, and_left}
use Rattle.cl_types.specs.declared.answers.Answer.{Answer as OpAnswer}
use Rattle.cl_types.specs.declared.operations.Op.{Op}
use Rattle.cl_types.specs.declared.operations.TxnId.{TxnId}
use Rattle.cl_types.proofs.Transactions.{same_txn-itself}
use Rattle.cl_control.specs.declared.entry.Phase.{Phase}
use Rattle.cl_control.specs.declared.entry.Phase.TheVariants.{Idle, Asked, Preparing, Decided, Logged}
use Rattle.cl_control.specs.State.{is_among}
use Rattle.cl_log.specs.declared.stage.Stage.TheVariants.{Running}
use Rattle.cl_wire.specs.Message.{Content, Ask, Answer, Prepare, Vote, Finish}
use Rattle.cl_commit.specs.Standing.{Standing, absent, running, asked, answered, preparing, voting, voted, ending, over, PartView, StandsSo, IsUnprepared, IsBeforeEnd}
use Rattle.cl_commit.specs.Life.{Life, to_come, open_as, committed, aborted, MayParticipate, MayStandOpen, MayStand}
use Rattle.cl_commit.proofs.Participants.{IsOrderFor, IsReportFrom}

-- ---- the messages

pub ask-order : (v : ℕ) (txn : TxnId) (number : ℕ) (table key : List ℕ) (op : Op) → IsOrderFor v txn (Ask v txn number table key op)
ask-order v txn number table key op = record {
  own = and_from _ _ (eq-eqb v v refl) (same_txn-itself txn);
  elsewhere = λ u apart. and_left _ _ (ne_eqb u v apart);
  no_report = λ u. refl;
  no_begin = refl;
}

pub prepare-order : (v : ℕ) (txn : TxnId) → IsOrderFor v txn (Prepare v txn)
prepare-order v txn = record { own = and_from _ _ (eq-eqb v v refl) (same_txn-itself txn); elsewhere = λ u apart. and_left _ _ (ne_eqb u v apart); no_report = λ u. refl; no_begin = refl }

pub finish-order : (v : ℕ) (txn : TxnId) (commit : Bool) → IsOrderFor v txn (Finish v txn commit)
finish-order v txn commit = record { own = and_from _ _ (eq-eqb v v refl) (same_txn-itself txn); elsewhere = λ u apart. and_left _ _ (ne_eqb u v apart); no_report = λ u. refl; no_begin = refl }

pub answer-report : (v : ℕ) (txn : TxnId) (number : ℕ) (answer : OpAnswer) → IsReportFrom v txn (Answer v txn number answer)
answer-report v txn number answer = record { about = same_txn-itself txn; own = and_from _ _ (eq-eqb v v refl) (same_txn-itself txn); no_order = λ u. refl; no_begin = refl }

pub vote-report : (v : ℕ) (txn : TxnId) → IsReportFrom v txn (Vote v txn)
vote-report v txn = record { about = same_txn-itself txn; own = and_from _ _ (eq-eqb v v refl) (same_txn-itself txn); no_order = λ u. refl; no_begin = refl }

-- ---- lists of one and of none

pub none-some : (xs : List Content) (x : Content) (rest : List Content) → xs ≡ [] → xs ≡ x ∷ rest → ⊥
none-some xs x rest none some = absurd (cc)

head_of : Content → List Content → Content
head_of d [] = d
head_of d (x ∷ xs) = x

pub same_heads : (xs : List Content) (x y : Content) (more rest : List Content) → xs ≡ x ∷ more → xs ≡ y ∷ rest → x ≡ y
unfolding head_of
same_heads xs x y more rest one other = ap (head_of x) (sym one ∙ other)

-- ---- where it stood

-- an operation was on its way
pub record WasAsked (number : ℕ) (view : PartView) (standing : Standing) : Type 0 where
  pub is : standing ≡ asked number
  pub unprepared : IsUnprepared view.stage
  pub order : Content
  pub one : view.orders ≡ order ∷ []
  pub none : view.reports ≡ []

module _ (v : ℕ) (txn : TxnId) (view : PartView) (rest : List Content) where
  asked-number : (m number : ℕ) (t table k key : List ℕ) (o op : Op) → Ask v txn m t k o ≡ Ask v txn number table key op → m ≡ number
  asked-number m number t table k key o op e = cc

  pub was_asked : (number : ℕ) (table key : List ℕ) (op : Op) (standing : Standing) → StandsSo v txn view standing → view.orders ≡ Ask v txn number table key op ∷ rest → WasAsked number view standing
  was_asked number table key op absent is head = absurd (none-some _ _ _ is.orders head)
  was_asked number table key op running is head = absurd (none-some _ _ _ is.orders head)
  was_asked number table key op (asked m) is head = record {
    is = ap asked (asked-number m number is.0.table table is.0.key key is.0.op op (same_heads _ _ _ _ _ is.0.order.orders head));
    unprepared = is.1;
    order = Ask v txn m is.0.table is.0.key is.0.op;
    one = is.0.order.orders;
    none = is.0.order.reports;
  }
  was_asked number table key op (answered m answer) is head = absurd (none-some _ _ _ is.0.orders head)
  was_asked number table key op preparing is head = let e : Prepare v txn ≡ Ask v txn number table key op = same_heads _ _ _ _ _ is.0.orders head in absurd (cc)
  was_asked number table key op voting is head = absurd (none-some _ _ _ is.0.orders head)
  was_asked number table key op voted is head = absurd (none-some _ _ _ is.orders head)
  was_asked number table key op (ending commit) is head = let e : Finish v txn commit ≡ Ask v txn number table key op = same_heads _ _ _ _ _ is.0.orders head in absurd (cc)
  was_asked number table key op over is head = absurd (none-some _ _ _ is.0 head)

-- it was asked for its vote
pub record WasPreparing (view : PartView) (standing : Standing) : Type 0 where
  pub is : standing ≡ preparing
  pub running : view.stage ≡ Running
  pub order : Content
  pub one : view.orders ≡ order ∷ []
  pub none : view.reports ≡ []

-- its end was on its way
pub record WasEnding (view : PartView) (standing : Standing) : Type 0 where
  pub commit : Bool
  pub is : standing ≡ ending commit
  pub before : IsBeforeEnd commit view.stage
  pub order : Content
  pub one : view.orders ≡ order ∷ []
  pub none : view.reports ≡ []

module _ (v : ℕ) (txn : TxnId) (view : PartView) (rest : List Content) where
  pub was_preparing : (standing : Standing) → StandsSo v txn view standing → view.orders ≡ Prepare v txn ∷ rest → WasPreparing view standing
  was_preparing absent is head = absurd (none-some _ _ _ is.orders head)
  was_preparing running is head = absurd (none-some _ _ _ is.orders head)
  was_preparing (asked m) is head = let e : Ask v txn m is.0.table is.0.key is.0.op ≡ Prepare v txn = same_heads _ _ _ _ _ is.0.order.orders head in absurd (cc)
  was_preparing (answered m answer) is head = absurd (none-some _ _ _ is.0.orders head)
  was_preparing preparing is head = record { is = refl; running = is.1; order = Prepare v txn; one = is.0.orders; none = is.0.reports }
  was_preparing voting is head = absurd (none-some _ _ _ is.0.orders head)
  was_preparing voted is head = absurd (none-some _ _ _ is.orders head)
  was_preparing (ending commit) is head = let e : Finish v txn commit ≡ Prepare v txn = same_heads _ _ _ _ _ is.0.orders head in absurd (cc)
  was_preparing over is head = absurd (none-some _ _ _ is.0 head)

  pub was_ending : (commit : Bool) (standing : Standing) → StandsSo v txn view standing → view.orders ≡ Finish v txn commit ∷ rest → WasEnding view standing
  was_ending commit absent is head = absurd (none-some _ _ _ is.orders head)
  was_ending commit running is head = absurd (none-some _ _ _ is.orders head)
  was_ending commit (asked m) is head = let e : Ask v txn m is.0.table is.0.key is.0.op ≡ Finish v txn commit = same_heads _ _ _ _ _ is.0.order.orders head in absurd (cc)
  was_ending commit (answered m answer) is head = absurd (none-some _ _ _ is.0.orders head)
  was_ending commit preparing is head = let e : Prepare v txn ≡ Finish v txn commit = same_heads _ _ _ _ _ is.0.orders head in absurd (cc)
  was_ending commit voting is head = absurd (none-some _ _ _ is.0.orders head)
  was_ending commit voted is head = absurd (none-some _ _ _ is.orders head)
  was_ending commit (ending c) is head = record { commit = c; is = refl; before = is.1; order = Finish v txn c; one = is.0.orders; none = is.0.reports }
  was_ending commit over is head = absurd (none-some _ _ _ is.0 head)

-- ---- where it may stand then

module _ (v number : ℕ) (answer : OpAnswer) where
  participant_answers : (phase : Phase) (has_voted : Bool) → MayParticipate phase has_voted v (asked number) → MayParticipate phase has_voted v (answered number answer)
  participant_answers Idle has_voted h = absurd (cc)
  participant_answers (Asked m w) has_voted (inl h) = inl (h.0, by h.1)
    where
      by : ((asked number ≡ asked m) ⊎ ((a : OpAnswer) × (asked number ≡ answered m a))) → (answered number answer ≡ asked m) ⊎ ((a : OpAnswer) × (answered number answer ≡ answered m a))
      by (inl same) = let e : number ≡ m = cc in inr (answer, ap (λ n. answered n answer) e)
      by (inr other) = let e : asked number ≡ answered m other.0 = other.1 in absurd (cc)
  participant_answers (Asked m w) has_voted (inr h) = let e : asked number ≡ running = h.1 in absurd (cc)
  participant_answers (Preparing m) true h = absurd (cc)
  participant_answers (Preparing m) false (inl h) = absurd (cc)
  participant_answers (Preparing m) false (inr h) = absurd (cc)
  participant_answers (Decided m) has_voted h = absurd h
  participant_answers (Logged m) has_voted h = absurd h

  pub may_answer : (life : Life) → MayStand life v (asked number) → MayStand life v (answered number answer)
  may_answer to_come h = absurd (cc)
  may_answer (open_as entry) h = by (is_among v entry.participants) h
    where
      by : (b : Bool) → MayStandOpen b entry v (asked number) → MayStandOpen b entry v (answered number answer)
      by true k = participant_answers entry.phase (is_among v entry.votes) k
      by false k = absurd (cc)
  may_answer committed (inl h) = absurd (cc)
  may_answer committed (inr (inl h)) = absurd (cc)
  may_answer committed (inr (inr h)) = absurd (cc)
  may_answer aborted (inl h) = absurd (cc)
  may_answer aborted (inr (inl h)) = absurd (cc)
  may_answer aborted (inr (inr h)) = absurd (cc)

module _ (v : ℕ) where
  participant_votes : (phase : Phase) (has_voted : Bool) → MayParticipate phase has_voted v preparing → MayParticipate phase has_voted v voting
  participant_votes Idle has_voted h = absurd (cc)
  participant_votes (Asked m w) has_voted (inl h) = by h.1
    where
      by : ((preparing ≡ asked m) ⊎ ((a : OpAnswer) × (preparing ≡ answered m a))) → ((v ≡ w) × ((voting ≡ asked m) ⊎ ((a : OpAnswer) × (voting ≡ answered m a)))) ⊎ ((v ≡ w → ⊥) × (voting ≡ running))
      by (inl same) = absurd (cc)
      by (inr other) = let e : preparing ≡ answered m other.0 = other.1 in absurd (cc)
  participant_votes (Asked m w) has_voted (inr h) = let e : preparing ≡ running = h.1 in absurd (cc)
  participant_votes (Preparing m) true h = absurd (cc)
  participant_votes (Preparing m) false h = inr refl
  participant_votes (Decided m) has_voted h = absurd h
  participant_votes (Logged m) has_voted h = absurd h

  pub may_vote : (life : Life) → MayStand life v preparing → MayStand life v voting
  may_vote to_come h = absurd (cc)
  may_vote (open_as entry) h = by (is_among v entry.participants) h
    where
      by : (b : Bool) → MayStandOpen b entry v preparing → MayStandOpen b entry v voting
      by true k = participant_votes entry.phase (is_among v entry.votes) k
      by false k = absurd (cc)
  may_vote committed (inl h) = absurd (cc)
  may_vote committed (inr (inl h)) = absurd (cc)
  may_vote committed (inr (inr h)) = absurd (cc)
  may_vote aborted (inl h) = absurd (cc)
  may_vote aborted (inr (inl h)) = absurd (cc)
  may_vote aborted (inr (inr h)) = absurd (cc)

  pub participant_ends : (commit : Bool) (phase : Phase) (has_voted : Bool) → MayParticipate phase has_voted v (ending commit) → ⊥
  participant_ends commit Idle has_voted h = absurd (cc)
  participant_ends commit (Asked m w) has_voted (inl h) = by h.1
    where
      by : ((ending commit ≡ asked m) ⊎ ((a : OpAnswer) × (ending commit ≡ answered m a))) → ⊥
      by (inl same) = absurd (cc)
      by (inr other) = let e : ending commit ≡ answered m other.0 = other.1 in absurd (cc)
  participant_ends commit (Asked m w) has_voted (inr h) = let e : ending commit ≡ running = h.1 in absurd (cc)
  participant_ends commit (Preparing m) true h = absurd (cc)
  participant_ends commit (Preparing m) false (inl h) = absurd (cc)
  participant_ends commit (Preparing m) false (inr h) = absurd (cc)
  participant_ends commit (Decided m) has_voted h = absurd h
  participant_ends commit (Logged m) has_voted h = absurd h

  pub may_be_over : (commit : Bool) (life : Life) → MayStand life v (ending commit) → MayStand life v over
  may_be_over commit to_come h = absurd (cc)
  may_be_over commit (open_as entry) h = by (is_among v entry.participants) h
    where
      by : (b : Bool) → MayStandOpen b entry v (ending commit) → MayStandOpen b entry v over
      by true k = absurd (participant_ends commit entry.phase (is_among v entry.votes) k)
      by false k = absurd (cc)
  may_be_over commit committed h = inr (inr refl)
  may_be_over commit aborted h = inr (inr refl)
