-- A participant does what it is asked: an operation, its vote, the end.
use Rattle.std.proofs.Common.{◌≡◌, ℕ, ◌%◌, ◌<◌, ◌≤◌, Bool, true, false, ◌⊎◌, inl, inr, List, [], ◌∷◌, All, refl, sym, ap, ◌∙◌, subst}
use Rattle.std.proofs.lemmas.Bool.{cond_both, false≢true}
use Rattle.std.proofs.lemmas.List.Elements.{All-nil}
use Rattle.cl_types.specs.declared.answers.Answer.{Answer as OpAnswer}
use Rattle.cl_types.specs.declared.answers.Answer.TheVariants.{NoMemory}
use Rattle.cl_types.specs.declared.operations.Op.{Op}
use Rattle.cl_types.specs.declared.operations.TxnId.{TxnId}
use Rattle.cl_types.specs.Transactions.{same_txn}
use Rattle.cl_log.specs.declared.stage.Stage.TheVariants.{Unknown, Ended}
use Rattle.cl_log.specs.Open.{stage_of, is_open, is_under_way}
use Rattle.cl_log.proofs.Open.{is_open-stage}
use Rattle.cl_lone.specs.Lone.{lone_step}
use Rattle.cl_node.specs.Addressing.{home_in}
use Rattle.cl_part.specs.Calls.{answer_to}
use Rattle.cl_runs.specs.World.{Shape}
use Rattle.cl_steps.specs.Steps.{sent}
use Rattle.cl_system.specs.Replicas.{ReplicaWorld, own_primary}
use Rattle.cl_system.specs.Roles.{IsInPlace}
use Rattle.cl_vnode.specs.Step.{Stepped, started, with_message, with_part, after_finish, home_of}
use Rattle.cl_vnode.specs.Step as step
use Rattle.cl_wire.specs.Message.{Content, Outcome, Ask, Answer, Prepare, Vote, Finish}
use Rattle.cl_commit.specs.Standing.{answered, voting, over, part_view, is_order, is_report, IsAnswered, IsBeforeEnd}
use Rattle.cl_commit.specs.Life.{MayStand, Lives, IsTrueOutcome, IsWholePart}
use Rattle.cl_commit.proofs.Frames.{way-head}
use Rattle.cl_commit.proofs.Orders.{ask-order, prepare-order, finish-order, answer-report, vote-report, WasAsked, was_asked, was_preparing, WasEnding, was_ending, may_answer, may_vote, may_be_over}
use Rattle.cl_commit.proofs.Participants.{IsReportFrom, one-report, orders-here, reports-here, stage-here, good-participant}
use Rattle.cl_commit.proofs.Parts.{op-works, prepare-moves}
use Rattle.cl_commit.proofs.Rollbacks.{finish-moves}
use Rattle.cl_commit.proofs.Whole.{IsGoodStep}

-- a report tells the front nothing
report-true : (shape : Shape) (after : ReplicaWorld) (v : ℕ) (txn : TxnId) (c : Content) → is_report v txn c ≡ true → IsTrueOutcome shape after c
report-true shape after v txn (Outcome other number outcome) h = absurd (false≢true h)
report-true shape after v txn c h = tt

-- what is known of the event
pub record IsOrdered (shape : Shape) (world : ReplicaWorld) (txn : TxnId) (v : ℕ) (content : Content) (rest : List Content) : Type 0 where
  pub waits : world.mail (home_in shape.nodes txn) v ≡ content ∷ rest
  pub lives : Lives shape world txn
  pub whole : IsWholePart (world.replicas v).part
  pub place : IsInPlace shape.nodes v (world.replicas v)
  pub below : v < shape.nodes
  pub home : home_in shape.nodes txn < shape.nodes
  pub few : shape.nodes ≤ 8

module _ (shape : Shape) (world : ReplicaWorld) (txn : TxnId) (v : ℕ) (rest : List Content) where
  abbrev home : ℕ
  home = home_in shape.nodes txn

  -- ---- an operation

  module _ (number : ℕ) (table key : List ℕ) (op : Op) (is : IsOrdered shape world txn v (Ask v txn number table key op) rest) where
    was-asked : WasAsked number (part_view shape.nodes world txn v) (is.lives.stands v is.below).0
    was-asked = was_asked v txn (part_view shape.nodes world txn v) _ number table key op (is.lives.stands v is.below).0 (is.lives.stands v is.below).1
        (way-head world.mail home v (Ask v txn number table key op) rest is.waits (is_order v txn) (ask-order v txn number table key op).own)

    -- it is answered
    answered-so : (done : Stepped) (answer : OpAnswer) → done.step.sends ≡ sent home (Answer v txn number answer) ∷ [] → done.state.control ≡ (world.replicas v).control → done.step.firm ≡ [] →
        IsAnswered answer (stage_of done.state.part.log txn) → ((other : TxnId) → same_txn txn other ≡ false → stage_of done.state.part.log other ≡ stage_of (world.replicas v).part.log other) →
        IsWholePart done.state.part → IsGoodStep shape world home v rest txn done
    answered-so done answer sends control firm stage others whole =
        let order = ask-order v txn number table key op in
        let said : List Content = Answer v txn number answer ∷ [] in
        let reports : All (IsReportFrom v txn) said = one-report v txn (Answer v txn number answer) (answer-report v txn number answer) in
        good-participant shape world txn v (Ask v txn number table key op) rest is.waits order done said sends reports control firm is.lives (
          answered number answer,
          (
            record {
              orders = orders-here shape world txn v _ rest is.waits order done said sends reports control firm was-asked.order was-asked.one;
              reports = reports-here shape world txn v _ rest is.waits order done said sends reports control firm is.home is.few was-asked.none;
            },
            subst (IsAnswered answer) (sym (stage-here shape world txn v _ rest is.waits order done said sends reports control firm)) stage,
          ),
          may_answer v number answer is.lives.life (subst (MayStand is.lives.life v) was-asked.is (is.lives.stands v is.below).2),
        )
        others whole (λ c report. report-true shape _ v txn c report.own)

    pub good-ask : (mark : Bool) → IsGoodStep shape world home v rest txn (lone_step own_primary (world.replicas v) home (Ask v txn number table key op) mark)
    unfolding lone_step step.asked
    good-ask true = answered-so (step.asked (started (world.replicas v)) home v txn number (table, key) op true) NoMemory refl refl refl was-asked.unprepared (λ other differ. refl) is.whole
    good-ask false =
        let works = op-works (world.replicas v).part txn is.whole was-asked.unprepared (table, key) op in
        answered-so (step.asked (started (world.replicas v)) home v txn number (table, key) op false) (answer_to (world.replicas v).part txn (table, key) op) refl refl refl works.stage works.others works.whole

  -- ---- a vote

  pub good-prepare : (mark : Bool) → IsOrdered shape world txn v (Prepare v txn) rest → IsGoodStep shape world home v rest txn (lone_step own_primary (world.replicas v) home (Prepare v txn) mark)
  unfolding lone_step step.prepared
  good-prepare mark is =
      let was = was_preparing v txn (part_view shape.nodes world txn v) _ (is.lives.stands v is.below).0 (is.lives.stands v is.below).1
      (way-head world.mail home v (Prepare v txn) rest is.waits (is_order v txn) (prepare-order v txn).own) in
      let moves = prepare-moves (world.replicas v).part txn is.whole was.running in
      let order = prepare-order v txn in
      let done : Stepped = with_message (step.prepared (started (world.replicas v)) txn) (own_primary (home_of (world.replicas v).control txn)) (Vote (world.replicas v).v txn) in
      let said : List Content = Vote v txn ∷ [] in
      let sends : done.step.sends ≡ sent home (Vote v txn) ∷ [] =
      ap (λ n. sent (txn.session % n) (Vote (world.replicas v).v txn) ∷ []) is.place.same_nodes ∙ ap (λ u. sent home (Vote u txn) ∷ []) is.place.own in
      let reports : All (IsReportFrom v txn) said = one-report v txn (Vote v txn) (vote-report v txn) in
      good-participant shape world txn v (Prepare v txn) rest is.waits order done said sends reports refl refl is.lives (
        voting,
        (
          record {
            orders = orders-here shape world txn v _ rest is.waits order done said sends reports refl refl was.order was.one;
            reports = reports-here shape world txn v _ rest is.waits order done said sends reports refl refl is.home is.few was.none;
          },
          stage-here shape world txn v _ rest is.waits order done said sends reports refl refl ∙ moves.now,
        ),
        may_vote v is.lives.life (subst (MayStand is.lives.life v) was.is (is.lives.stands v is.below).2),
      )
      moves.others moves.whole (λ c report. report-true shape _ v txn c report.own)

  -- ---- the end

  module _ (commit : Bool) (is : IsOrdered shape world txn v (Finish v txn commit) rest) where
    was-ending : WasEnding (part_view shape.nodes world txn v) (is.lives.stands v is.below).0
    was-ending = was_ending v txn (part_view shape.nodes world txn v) _ commit (is.lives.stands v is.below).0 (is.lives.stands v is.below).1
        (way-head world.mail home v (Finish v txn commit) rest is.waits (is_order v txn) (finish-order v txn commit).own)

    -- it is over
    over-so : (done : Stepped) → done.step.sends ≡ [] → done.state.control ≡ (world.replicas v).control → done.step.firm ≡ [] →
        (stage_of done.state.part.log txn ≡ Ended) ⊎ (stage_of done.state.part.log txn ≡ Unknown) → ((other : TxnId) → same_txn txn other ≡ false → stage_of done.state.part.log other ≡ stage_of (world.replicas v).part.log other) →
        IsWholePart done.state.part → IsGoodStep shape world home v rest txn done
    over-so done sends control firm stage others whole =
        let order = finish-order v txn commit in
        good-participant shape world txn v (Finish v txn commit) rest is.waits order done [] sends (All-nil _) control firm is.lives (
          over,
          (
            orders-here shape world txn v _ rest is.waits order done [] sends (All-nil _) control firm was-ending.order was-ending.one,
            reports-here shape world txn v _ rest is.waits order done [] sends (All-nil _) control firm is.home is.few was-ending.none,
            subst (λ s. (s ≡ Ended) ⊎ (s ≡ Unknown)) (sym (stage-here shape world txn v _ rest is.waits order done [] sends (All-nil _) control firm)) stage,
          ),
          may_be_over v was-ending.commit is.lives.life (subst (MayStand is.lives.life v) was-ending.is (is.lives.stands v is.below).2),
        )
        others whole (λ c report. report-true shape _ v txn c report.own)

    -- who is not open before its end has done nothing
    closed-unknown : (c : Bool) → IsBeforeEnd c (stage_of (world.replicas v).part.log txn) → is_open (world.replicas v).part.log txn ≡ false → stage_of (world.replicas v).part.log txn ≡ Unknown
    closed-unknown true prepared closed = absurd (false≢true (sym closed ∙ is_open-stage (world.replicas v).part.log txn ∙ ap is_under_way prepared))
    closed-unknown false (inl running) closed = absurd (false≢true (sym closed ∙ is_open-stage (world.replicas v).part.log txn ∙ ap is_under_way running))
    closed-unknown false (inr unknown) closed = unknown

    pub good-finish : (mark : Bool) → IsGoodStep shape world home v rest txn (lone_step own_primary (world.replicas v) home (Finish v txn commit) mark)
    unfolding lone_step step.finished
    good-finish mark =
        cond_both (is_open (world.replicas v).part.log txn) (with_part (started (world.replicas v)) (after_finish (world.replicas v).part txn commit)) (started (world.replicas v)) (IsGoodStep shape world home v rest txn)
        (λ opened. let moves = finish-moves (world.replicas v).part txn commit is.whole opened in over-so (with_part (started (world.replicas v)) (after_finish (world.replicas v).part txn commit)) refl refl refl (inl moves.now) moves.others moves.whole)
        (λ closed. over-so (started (world.replicas v)) refl refl refl (inr (closed-unknown was-ending.commit was-ending.before closed)) (λ other differ. refl) is.whole)
