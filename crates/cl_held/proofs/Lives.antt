-- Where a transaction may stand that was decided, and one that was not.
use Rattle.std.proofs.Common.{◌≡◌, ℕ, ◌<◌, Bool, true, false, inl, inr, [], sym, ◌∙◌, ap, subst}
use Rattle.cl_commit.proofs.Stages.{tests-prepared, begun-unknown}
use Rattle.cl_commit.specs.Life.{Life, to_come, open_as, committed, aborted, IsSoFar, MayParticipate, MayStandOpen, MayStand, Lives}
use Rattle.cl_commit.specs.Standing.{Standing, absent, running, asked, answered, preparing, voting, voted, ending, over, PartView, part_view, StandsSo, IsUnprepared, IsAnswered}
use Rattle.cl_control.specs.declared.entry.Phase.{Phase}
use Rattle.cl_control.specs.declared.entry.Phase.TheVariants.{Idle, Asked, Preparing, Decided, Logged}
use Rattle.cl_control.specs.State.{Entry, is_among as is_node_among}
use Rattle.cl_log.specs.declared.stage.Stage.{Stage}
use Rattle.cl_log.specs.declared.stage.Stage.TheVariants.{Unknown, Running, Prepared, Ended}
use Rattle.cl_log.specs.Open.{is_among, has_begun, has_prepared, stage_of}
use Rattle.cl_runs.specs.World.{Shape}
use Rattle.cl_system.specs.Replicas.{ReplicaWorld}
use Rattle.cl_types.specs.declared.answers.Answer.{Answer as OpAnswer}
use Rattle.cl_types.specs.declared.answers.Answer.TheVariants as answer
use Rattle.cl_types.specs.declared.operations.TxnId.{TxnId}

-- ---- who is not decided

-- it ends there, or has ended
abbrev ends : Standing → Bool
ends (ending commit) = true
ends over = true
ends standing = false

-- a participant of an open transaction does not end
participates_on : (phase : Phase) (has_voted : Bool) (v : ℕ) (standing : Standing) → MayParticipate phase has_voted v standing → ends standing ≡ false
participates_on Idle has_voted v standing may = ap ends may
participates_on (Asked number w) has_voted v standing (inl (at, inl may)) = ap ends may
participates_on (Asked number w) has_voted v standing (inl (at, inr may)) = ap ends may.1
participates_on (Asked number w) has_voted v standing (inr may) = ap ends may.1
participates_on (Preparing number) true v standing may = ap ends may
participates_on (Preparing number) false v standing (inl may) = ap ends may
participates_on (Preparing number) false v standing (inr may) = ap ends may
participates_on (Decided number) has_voted v standing may = absurd may
participates_on (Logged number) has_voted v standing may = absurd may

-- nor does an open transaction anywhere
open_on : (b : Bool) (entry : Entry) (v : ℕ) (standing : Standing) → MayStandOpen b entry v standing → ends standing ≡ false
open_on true entry v standing may = participates_on entry.phase (is_node_among v entry.votes) v standing may
open_on false entry v standing may = ap ends may

-- who has not voted has not ended
unprepared_on : (stage : Stage) → IsUnprepared stage → stage ≡ Ended → ⊥
unprepared_on stage (inl runs) ended = let e : Running ≡ Ended = sym runs ∙ ended in cc
unprepared_on stage (inr unknown) ended = let e : Unknown ≡ Ended = sym unknown ∙ ended in cc

-- nor has who was answered
answered_on : (said : OpAnswer) (stage : Stage) → IsAnswered said stage → stage ≡ Ended → ⊥
answered_on (answer.Done reply) stage runs ended = let e : Running ≡ Ended = sym runs ∙ ended in cc
answered_on (answer.Refused holder) stage is ended = unprepared_on stage is ended
answered_on answer.NoMemory stage is ended = unprepared_on stage is ended

-- who does not end has not ended in the log
stands_on : (v : ℕ) (txn : TxnId) (view : PartView) (standing : Standing) → StandsSo v txn view standing → ends standing ≡ false → view.stage ≡ Ended → ⊥
stands_on v txn view absent stands on ended = let e : Unknown ≡ Ended = sym stands.at ∙ ended in cc
stands_on v txn view running stands on ended = let e : Running ≡ Ended = sym stands.at ∙ ended in cc
stands_on v txn view (asked number) stands on ended = unprepared_on view.stage stands.1 ended
stands_on v txn view (answered number said) stands on ended = answered_on said view.stage stands.1 ended
stands_on v txn view preparing stands on ended = let e : Running ≡ Ended = sym stands.1 ∙ ended in cc
stands_on v txn view voting stands on ended = let e : Prepared ≡ Ended = sym stands.1 ∙ ended in cc
stands_on v txn view voted stands on ended = let e : Prepared ≡ Ended = sym stands.at ∙ ended in cc
stands_on v txn view (ending commit) stands on ended = let e : true ≡ false = on in cc
stands_on v txn view over stands on ended = let e : true ≡ false = on in cc

module _ (shape : Shape) (world : ReplicaWorld) (txn : TxnId) (lives : Lives shape world txn) (v : ℕ) (below : v < shape.nodes) where
  -- who is to come or open does not end
  life_on : (life : Life) (standing : Standing) → IsSoFar shape.nodes world txn life → is_among txn world.history ≡ false → (IsSoFar shape.nodes world txn aborted → ⊥) →
      MayStand life v standing → ends standing ≡ false
  life_on to_come standing so_far outside kept may = ap ends may
  life_on (open_as entry) standing so_far outside kept may = open_on (is_node_among v entry.participants) entry v standing may
  life_on committed standing so_far outside kept may = absurd (let e : true ≡ false = sym so_far.2 ∙ outside in cc)
  life_on aborted standing so_far outside kept may = absurd (kept so_far)

  -- so it has not ended in the log
  pub not_over : is_among txn world.history ≡ false → (IsSoFar shape.nodes world txn aborted → ⊥) → stage_of (world.replicas v).part.log txn ≡ Ended → ⊥
  not_over outside kept ended =
      stands_on v txn (part_view shape.nodes world txn v) (lives.stands v below).0 (lives.stands v below).1
      (life_on lives.life (lives.stands v below).0 lives.so_far outside kept (lives.stands v below).2) ended

  -- ---- who was decided

  -- a member has committed
  member_stands : (life : Life) (standing : Standing) → IsSoFar shape.nodes world txn life → is_among txn world.history ≡ true → MayStand life v standing → MayStand committed v standing
  member_stands to_come standing so_far member may = absurd (let e : true ≡ false = sym member ∙ so_far.2 in cc)
  member_stands (open_as entry) standing so_far member may = absurd (let e : true ≡ false = sym member ∙ so_far.2 in cc)
  member_stands committed standing so_far member may = may
  member_stands aborted standing so_far member may = absurd (let e : true ≡ false = sym member ∙ so_far.2 in cc)

  -- nothing is reported of it
  committed_quiet : (view : PartView) (standing : Standing) → MayStand committed v standing → StandsSo v txn view standing → view.reports ≡ []
  committed_quiet view standing (inl may) stands = (subst (StandsSo v txn view) may stands).reports
  committed_quiet view standing (inr (inl may)) stands = (subst (StandsSo v txn view) may stands).0.reports
  committed_quiet view standing (inr (inr may)) stands = (subst (StandsSo v txn view) may stands).1

  -- so nothing is of a member
  pub member_quiet : is_among txn world.history ≡ true → (part_view shape.nodes world txn v).reports ≡ []
  member_quiet member =
      committed_quiet (part_view shape.nodes world txn v) (lives.stands v below).0
      (member_stands lives.life (lives.stands v below).0 lives.so_far member (lives.stands v below).2) (lives.stands v below).1

  -- who has committed and not ended in the log has voted there, or has not begun
  committed_voted : (standing : Standing) → MayStand committed v standing → StandsSo v txn (part_view shape.nodes world txn v) standing →
      (stage_of (world.replicas v).part.log txn ≡ Ended → ⊥) → has_begun (world.replicas v).part.log txn ≡ true → has_prepared (world.replicas v).part.log txn ≡ true
  committed_voted standing may stands on begun = by may
    where
      unknown : stage_of (world.replicas v).part.log txn ≡ Unknown → has_prepared (world.replicas v).part.log txn ≡ true
      unknown is = absurd (let e : true ≡ false = sym begun ∙ begun-unknown (world.replicas v).part.log txn is in cc)

      by : MayStand committed v standing → has_prepared (world.replicas v).part.log txn ≡ true
      by (inl may) = unknown (subst (StandsSo v txn (part_view shape.nodes world txn v)) may stands).at
      by (inr (inl may)) = (tests-prepared (world.replicas v).part.log txn (subst (StandsSo v txn (part_view shape.nodes world txn v)) may stands).1).prepared_is
      by (inr (inr may)) = elim (subst (StandsSo v txn (part_view shape.nodes world txn v)) may stands).2 [
        | inl ended ↦ absurd (on ended)
        | inr none ↦ unknown none
      ]

  -- so has a member
  pub member_voted : is_among txn world.history ≡ true → (stage_of (world.replicas v).part.log txn ≡ Ended → ⊥) → has_begun (world.replicas v).part.log txn ≡ true →
      has_prepared (world.replicas v).part.log txn ≡ true
  member_voted member on begun =
      committed_voted (lives.stands v below).0 (member_stands lives.life (lives.stands v below).0 lives.so_far member (lives.stands v below).2) (lives.stands v below).1 on begun
