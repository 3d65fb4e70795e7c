-- A good step of a replica leaves commits whole.
use Rattle.std.proofs.Common.{◌≡◌, ℕ, ◌<◌, Bool, true, false, cond, eqb, inl, inr, List, [], ◌∷◌, ◌++◌, All, nat_lt, sym, subst}
use Rattle.std.proofs.lemmas.Bool.{cases_Bool, cond_both, and_left}
use Rattle.std.proofs.lemmas.List.Elements.{All-nil, All-weaker, All-append, All-map, All-filter}
use Rattle.cl_types.specs.declared.answers.Outcome.TheVariants.{Committed, Aborted}
use Rattle.cl_types.specs.declared.operations.TxnId.{TxnId}
use Rattle.cl_types.specs.Transactions.{same_txn}
use Rattle.cl_types.proofs.Transactions.{same_txn-true}
use Rattle.cl_endpoint.specs.declared.limits.TheConstants.{ACTORS}
use Rattle.cl_endpoint.specs.Laws.{contents_to}
use Rattle.cl_runs.specs.Queues.{sent_to}
use Rattle.cl_runs.specs.World.{Shape}
use Rattle.cl_steps.specs.declared.actors.TheConstants.{FRONT}
use Rattle.cl_steps.specs.declared.steps.Outgoing.{Outgoing}
use Rattle.cl_system.specs.Replicas.{ReplicaWorld, with_way}
use Rattle.cl_vnode.specs.Step.{Stepped}
use Rattle.cl_wire.specs.Message.{Content, Outcome}
use Rattle.cl_commit.specs.Life.{committed, aborted, IsSoFar, Lives, IsTrueOutcome, IsWholePart, CommitsWhole}
use Rattle.cl_commit.proofs.Frames.{is_about, acted, way-apart}
use Rattle.cl_commit.proofs.Worlds.{so_far-same, lives-left, IsStepAbout, leaves-others}

-- what is settled stays so
pub record KeepsSettled (nodes : ℕ) (before after : ReplicaWorld) (txn : TxnId) : Type 0 where
  pub committed_stays : IsSoFar nodes before txn committed → IsSoFar nodes after txn committed
  pub aborted_stays : IsSoFar nodes before txn aborted → IsSoFar nodes after txn aborted

-- so each outcome that was true stays so
pub outcome-stays : (shape : Shape) (before after : ReplicaWorld) → ((txn : TxnId) → KeepsSettled shape.nodes before after txn) → (content : Content) → IsTrueOutcome shape before content → IsTrueOutcome shape after content
outcome-stays shape before after keeps (Outcome txn number Committed) h = (keeps txn).committed_stays h
outcome-stays shape before after keeps (Outcome txn number (Aborted cause)) h = (keeps txn).aborted_stays h
outcome-stays shape before after keeps content h = tt

-- what holds of each message that is sent holds of each that an actor is sent
pub All-sent : (P : Content → Type 0) (to : ℕ) (sends : List Outgoing) → All (λ send. P send.payload) sends → All P (sent_to to sends)
All-sent P to sends h = by (nat_lt to ACTORS)
  where
    by : (b : Bool) → All P (cond b (contents_to to sends) [])
    by true = All-map P (λ (send : Outgoing). send.payload) _ (All-filter (λ (send : Outgoing). eqb send.to to) (λ (send : Outgoing). P send.payload) sends h)
    by false = All-nil P

-- a step about a transaction that lives on, of which what is said is true
pub record IsGoodStep (shape : Shape) (world : ReplicaWorld) (from to : ℕ) (rest : List Content) (txn : TxnId) (done : Stepped) : Type 0 where
  pub about : IsStepAbout txn (world.replicas to) done
  pub lives : Lives shape (acted world from to rest done) txn
  pub settled : KeepsSettled shape.nodes world (acted world from to rest done) txn
  pub told : All (λ send. IsTrueOutcome shape (acted world from to rest done) send.payload) done.step.sends
  pub whole : IsWholePart done.state.part

module _ (shape : Shape) (world : ReplicaWorld) (from to : ℕ) (content : Content) (rest : List Content) (h : world.mail from to ≡ content ∷ rest) (txn : TxnId) (done : Stepped)
    (about : is_about txn content ≡ true) (good : IsGoodStep shape world from to rest txn done) where
  pub all-settled : (other : TxnId) → KeepsSettled shape.nodes world (acted world from to rest done) other
  all-settled other = elim (cases_Bool (same_txn txn other)) [
    | inl same ↦ subst (KeepsSettled shape.nodes world (acted world from to rest done)) (same_txn-true txn other same) good.settled
    | inr differ ↦ (let left = leaves-others shape.nodes world from to content rest h done txn about good.about other differ in record {
      committed_stays = so_far-same shape.nodes world (acted world from to rest done) other left.status committed;
      aborted_stays = so_far-same shape.nodes world (acted world from to rest done) other left.status aborted;
    })
  ]

  module _ (node : eqb FRONT to ≡ false) (whole : CommitsWhole shape world) where
    outcomes-after : (v : ℕ) → v < shape.nodes → All (IsTrueOutcome shape (acted world from to rest done)) ((acted world from to rest done).mail v FRONT)
    outcomes-after v below =
        let P : Content → Type 0 = IsTrueOutcome shape (acted world from to rest done) in
        let old : All P (with_way world.mail from to rest v FRONT) = subst (All P) (sym (way-apart world.mail from to rest v FRONT (and_left _ _ node)))
        (All-weaker (IsTrueOutcome shape world) P (outcome-stays shape world (acted world from to rest done) all-settled) _ (whole.outcomes v below)) in
        cond_both (eqb v to) (with_way world.mail from to rest v FRONT ++ sent_to FRONT done.step.sends) (with_way world.mail from to rest v FRONT) (All P)
        (λ here. All-append P _ _ old (All-sent P FRONT done.step.sends good.told)) (λ there. old)

    pub whole-acted : CommitsWhole shape (acted world from to rest done)
    whole-acted = record {
      lives = λ other session. elim (cases_Bool (same_txn txn other)) [
        | inl same ↦ subst (Lives shape (acted world from to rest done)) (same_txn-true txn other same) good.lives
        | inr differ ↦ lives-left shape world (acted world from to rest done) other (leaves-others shape.nodes world from to content rest h done txn about good.about other differ) (whole.lives other session)
      ];
      outcomes = outcomes-after;
      parts = λ v below. cond_both (eqb v to) done.state (world.replicas v) (λ replica. IsWholePart replica.part) (λ here. good.whole) (λ there. whole.parts v below);
    }
