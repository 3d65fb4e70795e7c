-- An open transaction, of which a report comes to its controller.
use Rattle.std.proofs.Common.{◌≡◌, ℕ, ◌<◌, Bool, true, false, ◌⊎◌, inl, inr, List, [], ◌∷◌, ◌++◌, Option, Some, None, refl, sym, ap, ◌∙◌, subst}
use Rattle.cl_types.specs.declared.answers.Answer.{Answer as OpAnswer}
use Rattle.cl_types.specs.declared.operations.TxnId.{TxnId}
use Rattle.cl_control.specs.declared.entry.Phase.{Phase}
use Rattle.cl_control.specs.declared.entry.Phase.TheVariants.{Idle, Asked, Preparing, Decided, Logged}
use Rattle.cl_control.specs.State.{Entry, is_among}
use Rattle.cl_log.specs.declared.stage.Stage.{Stage}
use Rattle.cl_log.specs.declared.stage.Stage.TheVariants.{Prepared}
use Rattle.cl_log.specs.Open.{is_among as is_member}
use Rattle.cl_runs.specs.World.{Shape}
use Rattle.cl_system.specs.Replicas.{ReplicaWorld}
use Rattle.cl_wire.specs.Message.{Content, Answer, Vote}
use Rattle.cl_commit.specs.Standing.{Standing, absent, running, asked, answered, preparing, voting, voted, ending, over, PartView, part_view, StandsSo, IsStill, IsAnswered}
use Rattle.cl_commit.specs.Life.{Life, to_come, open_as, committed, aborted, HasBegun, entry_in, IsSoFar, IsUnvoted, MayParticipate, MayStandOpen, MayStand, Lives}
use Rattle.cl_commit.proofs.Controllers.{IsToldView}
use Rattle.cl_commit.proofs.Orders.{none-some, same_heads}

-- the transaction is open, and stands so at each virtual node
pub record LivesOpen (shape : Shape) (world : ReplicaWorld) (txn : TxnId) (entry : Entry) : Type 0 where
  pub begun : HasBegun shape.nodes world txn
  pub found : entry_in shape.nodes world txn ≡ Some entry
  pub out : is_member txn world.history ≡ false
  pub unvoted : IsUnvoted entry
  pub stands : (v : ℕ) → v < shape.nodes → (standing : Standing) × StandsSo v txn (part_view shape.nodes world txn v) standing × MayStandOpen (is_among v entry.participants) entry v standing

module _ (shape : Shape) (world : ReplicaWorld) (txn : TxnId) where
  pub lives-as : (lives : Lives shape world txn) (entry : Entry) → lives.life ≡ open_as entry → LivesOpen shape world txn entry
  lives-as lives entry is =
      let so_far : IsSoFar shape.nodes world txn (open_as entry) = subst (IsSoFar shape.nodes world txn) is lives.so_far in
      record {
        begun = so_far.0;
        found = so_far.1;
        out = so_far.2;
        unvoted = so_far.3;
        stands = λ v below. (let was = lives.stands v below in (was.0, was.1, subst (λ life. MayStand life v was.0) is was.2));
      }

  -- its controller has it open
  pub lives-open : (lives : Lives shape world txn) (entry : Entry) → entry_in shape.nodes world txn ≡ Some entry → LivesOpen shape world txn entry
  lives-open lives entry found = by lives.life refl lives.so_far
    where
      clash : entry_in shape.nodes world txn ≡ None → ⊥
      clash none = let e : ◌≡◌ {A = Option Entry} (Some entry) None = sym found ∙ none in absurd (cc)

      same : (other : Entry) → entry_in shape.nodes world txn ≡ Some other → other ≡ entry
      same other is = let e : ◌≡◌ {A = Option Entry} (Some other) (Some entry) = sym is ∙ found in cc

      by : (life : Life) → lives.life ≡ life → IsSoFar shape.nodes world txn life → LivesOpen shape world txn entry
      by to_come is h = absurd (clash h.1)
      by (open_as other) is h = subst (LivesOpen shape world txn) (same other h.1) (lives-as lives other is)
      by committed is h = absurd (clash h.1)
      by aborted is h = absurd (clash h.1)

-- nothing new is on its way
pub still-told : (before after : PartView) (stage : Stage) → IsStill before stage → IsToldView before after [] → IsStill after stage
still-told before after stage is told = record { orders = told.orders ∙ ap (λ xs. xs ++ []) is.orders; reports = told.reports ∙ is.reports; at = told.stage ∙ is.at }

-- ---- an answer comes

-- it was on its way
pub record WasAnswered (number : ℕ) (answer : OpAnswer) (view : PartView) (standing : Standing) : Type 0 where
  pub is : standing ≡ answered number answer
  pub stage : IsAnswered answer view.stage
  pub report : Content
  pub one : view.reports ≡ report ∷ []
  pub none : view.orders ≡ []

-- the vote was on its way
pub record WasVoting (view : PartView) (standing : Standing) : Type 0 where
  pub is : standing ≡ voting
  pub stage : view.stage ≡ Prepared
  pub report : Content
  pub one : view.reports ≡ report ∷ []
  pub none : view.orders ≡ []

module _ (v : ℕ) (txn : TxnId) (view : PartView) (rest : List Content) where
  pub was_answered : (number : ℕ) (answer : OpAnswer) (standing : Standing) → StandsSo v txn view standing → view.reports ≡ Answer v txn number answer ∷ rest → WasAnswered number answer view standing
  was_answered number answer absent is head = absurd (none-some _ _ _ is.reports head)
  was_answered number answer running is head = absurd (none-some _ _ _ is.reports head)
  was_answered number answer (asked m) is head = absurd (none-some _ _ _ is.0.order.reports head)
  was_answered number answer (answered m a) is head =
      let e : Answer v txn m a ≡ Answer v txn number answer = same_heads _ _ _ _ _ is.0.reports head in
      let numbers : m ≡ number = cc in
      let answers : a ≡ answer = cc in
      record {
        is = ap (λ n. answered n a) numbers ∙ ap (λ x. answered number x) answers;
        stage = subst (λ x. IsAnswered x view.stage) answers is.1;
        report = Answer v txn m a;
        one = is.0.reports;
        none = is.0.orders;
      }
  was_answered number answer preparing is head = absurd (none-some _ _ _ is.0.reports head)
  was_answered number answer voting is head = let e : Vote v txn ≡ Answer v txn number answer = same_heads _ _ _ _ _ is.0.reports head in absurd (cc)
  was_answered number answer voted is head = absurd (none-some _ _ _ is.reports head)
  was_answered number answer (ending commit) is head = absurd (none-some _ _ _ is.0.reports head)
  was_answered number answer over is head = absurd (none-some _ _ _ is.1 head)

  pub was_voting : (standing : Standing) → StandsSo v txn view standing → view.reports ≡ Vote v txn ∷ rest → WasVoting view standing
  was_voting absent is head = absurd (none-some _ _ _ is.reports head)
  was_voting running is head = absurd (none-some _ _ _ is.reports head)
  was_voting (asked m) is head = absurd (none-some _ _ _ is.0.order.reports head)
  was_voting (answered m a) is head = let e : Answer v txn m a ≡ Vote v txn = same_heads _ _ _ _ _ is.0.reports head in absurd (cc)
  was_voting preparing is head = absurd (none-some _ _ _ is.0.reports head)
  was_voting voting is head = record { is = refl; stage = is.1; report = Vote v txn; one = is.0.reports; none = is.0.orders }
  was_voting voted is head = absurd (none-some _ _ _ is.reports head)
  was_voting (ending commit) is head = absurd (none-some _ _ _ is.0.reports head)
  was_voting over is head = absurd (none-some _ _ _ is.1 head)

-- the controller waits for the answer
pub record AwaitsAnswer (v number : ℕ) (life : Life) : Type 0 where
  pub entry : Entry
  pub is : life ≡ open_as entry
  pub phase : entry.phase ≡ Asked number v
  pub among : is_among v entry.participants ≡ true

-- the controller waits for the vote
pub record AwaitsVote (v : ℕ) (life : Life) : Type 0 where
  pub entry : Entry
  pub is : life ≡ open_as entry
  pub number : ℕ
  pub phase : entry.phase ≡ Preparing number
  pub among : is_among v entry.participants ≡ true
  pub unvoted : is_among v entry.votes ≡ false

module _ (v number : ℕ) (answer : OpAnswer) where
  asked-phase : (phase : Phase) (has_voted : Bool) → MayParticipate phase has_voted v (answered number answer) → phase ≡ Asked number v
  asked-phase Idle has_voted h = absurd (cc)
  asked-phase (Asked m w) has_voted (inl h) = by h.1
    where
      by : ((answered number answer ≡ asked m) ⊎ ((a : OpAnswer) × (answered number answer ≡ answered m a))) → Asked m w ≡ Asked number v
      by (inl clash) = absurd (cc)
      by (inr same) =
          let e : answered number answer ≡ answered m same.0 = same.1 in
          let numbers : number ≡ m = cc in
          ap (λ n. Asked n w) (sym numbers) ∙ ap (Asked number) (sym h.0)
  asked-phase (Asked m w) has_voted (inr h) = let e : answered number answer ≡ running = h.1 in absurd (cc)
  asked-phase (Preparing m) true h = absurd (cc)
  asked-phase (Preparing m) false (inl h) = absurd (cc)
  asked-phase (Preparing m) false (inr h) = absurd (cc)
  asked-phase (Decided m) has_voted h = absurd h
  asked-phase (Logged m) has_voted h = absurd h

  pub awaits_answer : (life : Life) → MayStand life v (answered number answer) → AwaitsAnswer v number life
  awaits_answer to_come h = absurd (cc)
  awaits_answer (open_as entry) h = by (is_among v entry.participants) refl h
    where
      by : (b : Bool) → is_among v entry.participants ≡ b → MayStandOpen b entry v (answered number answer) → AwaitsAnswer v number (open_as entry)
      by true among k = record { entry = entry; is = refl; phase = asked-phase entry.phase (is_among v entry.votes) k; among = among }
      by false among k = absurd (cc)
  awaits_answer committed (inl h) = absurd (cc)
  awaits_answer committed (inr (inl h)) = absurd (cc)
  awaits_answer committed (inr (inr h)) = absurd (cc)
  awaits_answer aborted (inl h) = absurd (cc)
  awaits_answer aborted (inr (inl h)) = absurd (cc)
  awaits_answer aborted (inr (inr h)) = absurd (cc)

module _ (v : ℕ) where
  voting-phase : (phase : Phase) (has_voted : Bool) → MayParticipate phase has_voted v voting → ((number : ℕ) × (phase ≡ Preparing number)) × (has_voted ≡ false)
  voting-phase Idle has_voted h = absurd (cc)
  voting-phase (Asked m w) has_voted (inl h) = by h.1
    where
      by : ((voting ≡ asked m) ⊎ ((a : OpAnswer) × (voting ≡ answered m a))) → ((number : ℕ) × (Asked m w ≡ Preparing number)) × (has_voted ≡ false)
      by (inl clash) = absurd (cc)
      by (inr same) = let e : voting ≡ answered m same.0 = same.1 in absurd (cc)
  voting-phase (Asked m w) has_voted (inr h) = let e : voting ≡ running = h.1 in absurd (cc)
  voting-phase (Preparing m) true h = absurd (cc)
  voting-phase (Preparing m) false h = ((m, refl), refl)
  voting-phase (Decided m) has_voted h = absurd h
  voting-phase (Logged m) has_voted h = absurd h

  pub awaits_vote : (life : Life) → MayStand life v voting → AwaitsVote v life
  awaits_vote to_come h = absurd (cc)
  awaits_vote (open_as entry) h = by (is_among v entry.participants) refl h
    where
      by : (b : Bool) → is_among v entry.participants ≡ b → MayStandOpen b entry v voting → AwaitsVote v (open_as entry)
      by true among k = let is = voting-phase entry.phase (is_among v entry.votes) k in record { entry = entry; is = refl; number = is.0.0; phase = is.0.1; among = among; unvoted = is.1 }
      by false among k = absurd (cc)
  awaits_vote committed (inl h) = absurd (cc)
  awaits_vote committed (inr (inl h)) = absurd (cc)
  awaits_vote committed (inr (inr h)) = absurd (cc)
  awaits_vote aborted (inl h) = absurd (cc)
  awaits_vote aborted (inr (inl h)) = absurd (cc)
  awaits_vote aborted (inr (inr h)) = absurd (cc)
