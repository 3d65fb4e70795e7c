-- An answer comes to the controller: it waits for it.
use Rattle.std.proofs.Common.{◌≡◌, ℕ, ◌<◌, Bool, true, false, if◌then◌else◌, inl, inr, List, [], ◌∷◌, All, Option, option_map, refl, sym, ap, ◌∙◌, subst}
use Rattle.std.specs.Option.{option_map_or}
use Rattle.std.proofs.lemmas.Bool.{cases_eq, eq-eqb, and_from}
use Rattle.std.proofs.lemmas.List.Elements.{All-nil, All-cons}
use Rattle.cl_types.specs.declared.answers.AbortCause.{AbortCause}
use Rattle.cl_types.specs.declared.answers.AbortCause.TheVariants.{Conflict, Memory}
use Rattle.cl_types.specs.declared.answers.Answer.{Answer as OpAnswer}
use Rattle.cl_types.specs.declared.answers.Answer.TheVariants.{Done, Refused, NoMemory}
use Rattle.cl_types.specs.declared.answers.Outcome.TheVariants.{Aborted, Done as OutcomeDone}
use Rattle.cl_types.specs.declared.answers.Reply.{Reply}
use Rattle.cl_types.specs.declared.operations.TxnId.{TxnId}
use Rattle.cl_control.specs.declared.acts.Act.TheVariants.{Say}
use Rattle.cl_control.specs.declared.entry.Phase.TheVariants.{Idle, Asked}
use Rattle.cl_control.specs.Calls.{abort_acts, is_asked, is_preparing, counts_answer, answered_acts, after_answered, answer_acts, after_answer}
use Rattle.cl_control.specs.State.{Entry, participants_of, is_among, with_changed, with_phase, without_entry}
use Rattle.cl_log.specs.declared.stage.Stage.TheVariants.{Running}
use Rattle.cl_lone.specs.Lone.{lone_step, controlled}
use Rattle.cl_node.specs.Addressing.{home_in}
use Rattle.cl_runs.specs.World.{Shape}
use Rattle.cl_steps.specs.declared.actors.TheConstants.{FRONT}
use Rattle.cl_steps.specs.declared.steps.Outgoing.{Outgoing}
use Rattle.cl_steps.specs.Steps.{sent}
use Rattle.cl_system.specs.Replicas.{ReplicaWorld, own_primary}
use Rattle.cl_vnode.specs.Replica.{ReplicaState}
use Rattle.cl_vnode.specs.Step.{Stepped}
use Rattle.cl_wire.specs.Message.{Content, Outcome, Answer}
use Rattle.cl_commit.specs.Standing.{Standing, absent, running, part_view, is_order, StandsSo, IsStill, IsUnprepared}
use Rattle.cl_commit.specs.Life.{open_as, MayParticipate, MayStandOpen, MayStand, IsTrueOutcome}
use Rattle.cl_commit.proofs.Frames.{acted, sent-none}
use Rattle.cl_commit.proofs.Controllers.{IsSaid, said-outcome, IsToldView, IsReadyToEnd, settled-open, popped, told-view, begun-after, entry-after, about-said}
use Rattle.cl_commit.proofs.Controls.{entry-changed, entry-changed_other}
use Rattle.cl_commit.proofs.Ends.{sends-end, good-end}
use Rattle.cl_commit.proofs.Opens.{LivesOpen, lives-as, still-told, WasAnswered, was_answered, AwaitsAnswer, awaits_answer}
use Rattle.cl_commit.proofs.Reports.{IsReported, answer-only, report-head, view-there, reports-gone, orders-left, run_stage}
use Rattle.cl_commit.proofs.Whole.{IsGoodStep}

-- one that is not asked runs
others-run : (v w number : ℕ) (has_voted : Bool) (standing : Standing) → (v ≡ w → ⊥) → MayParticipate (Asked number w) has_voted v standing → standing ≡ running
others-run v w number has_voted standing apart (inl here) = absurd (apart here.0)
others-run v w number has_voted standing apart (inr there) = there.1

-- a participant that runs, or none
pub runs-idle : (v : ℕ) (among has_voted : Bool) (txn : TxnId) (view : _) (entry : Entry) → entry.phase ≡ Idle → IsStill view (run_stage among) → (standing : Standing) × StandsSo v txn view standing × MayStandOpen among entry v standing
runs-idle v true has_voted txn view entry idle still = (running, still, subst (λ phase. MayParticipate phase (is_among v entry.votes) v running) (sym idle) refl)
runs-idle v false has_voted txn view entry idle still = (absent, still, refl)

-- it may be aborted
pub run-ready : (among : Bool) (view : _) → IsStill view (run_stage among) → IsReadyToEnd false among view
run-ready true view still = record { orders = still.orders; reports = still.reports; before = inl still.at }
run-ready false view still = record { orders = still.orders; reports = still.reports; before = still.at }

module _ (shape : Shape) (world : ReplicaWorld) (txn : TxnId) (w : ℕ) (rest : List Content) (number : ℕ) where
  abbrev home : ℕ
  home = home_in shape.nodes txn

  abbrev state : ReplicaState
  state = world.replicas home

  module _ (answer : OpAnswer) (is : IsReported shape world txn w (Answer w txn number answer) rest) where
    abbrev left : ReplicaWorld
    left = popped shape world txn w (Answer w txn number answer) rest is.waits

    was : WasAnswered number answer (part_view shape.nodes world txn w) (is.lives.stands w is.below).0
    was = was_answered w txn (part_view shape.nodes world txn w) _ number answer (is.lives.stands w is.below).0 (is.lives.stands w is.below).1
        (report-head shape world txn w (Answer w txn number answer) rest is.waits (answer-only w txn number answer))

    awaits : AwaitsAnswer w number is.lives.life
    awaits = awaits_answer w number answer is.lives.life (subst (MayStand is.lives.life w) was.is (is.lives.stands w is.below).2)

    opened : LivesOpen shape world txn awaits.entry
    opened = lives-as shape world txn is.lives awaits.entry awaits.is

    counts : counts_answer state.control w txn number ≡ true
    counts =
        ap (λ (o : Option Entry). option_map_or (is_asked number w) (option_map (λ (entry : Entry). entry.phase) o) false) opened.found
        ∙ ap (is_asked number w) awaits.phase ∙ and_from _ _ (eq-eqb number number refl) (eq-eqb w w refl)

    participants : participants_of state.control txn ≡ awaits.entry.participants
    participants = ap (λ (o : Option Entry). option_map_or (λ (entry : Entry). entry.participants) o []) opened.found

    -- where nobody was asked, it runs as before, or is absent
    still-there : (v : ℕ) → v < shape.nodes → (v ≡ w → ⊥) → IsStill (part_view shape.nodes left txn v) (run_stage (is_among v awaits.entry.participants))
    still-there v below apart =
        subst (λ view. IsStill view (run_stage (is_among v awaits.entry.participants))) (sym (view-there shape world txn w (Answer w txn number answer) rest is.waits (answer-only w txn number answer) v apart))
        (by (is_among v awaits.entry.participants) (opened.stands v below).2)
      where
        by : (b : Bool) → MayStandOpen b awaits.entry v (opened.stands v below).0 → IsStill (part_view shape.nodes world txn v) (run_stage b)
        by true may = subst (StandsSo v txn (part_view shape.nodes world txn v))
            (others-run v w number (is_among v awaits.entry.votes) _ apart (subst (λ phase. MayParticipate phase (is_among v awaits.entry.votes) v (opened.stands v below).0) awaits.phase may)) (opened.stands v below).1
        by false may = subst (StandsSo v txn (part_view shape.nodes world txn v)) may (opened.stands v below).1

    orders-none : (part_view shape.nodes left txn w).orders ≡ []
    orders-none = orders-left shape world txn w (Answer w txn number answer) rest is.waits (answer-only w txn number answer) ∙ was.none

    reports-none : (part_view shape.nodes left txn w).reports ≡ []
    reports-none = reports-gone shape world txn w (Answer w txn number answer) rest is.waits (answer-only w txn number answer) was.report was.one

    -- the transaction is aborted
    abort-so : (cause : AbortCause) → IsUnprepared (part_view shape.nodes world txn w).stage →
        IsGoodStep shape world w home rest txn (controlled own_primary state (without_entry state.control txn) (abort_acts state.control txn number cause))
    abort-so cause unprepared = good-end shape world txn w (Answer w txn number answer) rest is.waits refl false awaits.entry.participants number (Aborted cause)
        (controlled own_primary state (without_entry state.control txn) (abort_acts state.control txn number cause))
        (record {
          sends = sends-end false state.control txn shape.nodes awaits.entry.participants number (Aborted cause) is.place.same_nodes participants;
          control = refl;
          firm = refl;
          stages = λ other. refl;
          whole = is.whole;
          begun = opened.begun;
          entry = awaits.entry;
          found = opened.found;
          out = opened.out;
          few = is.few;
          outcome_true = λ after so_far. so_far;
        })
        (λ v below. elim (cases_eq v w) [
          | inl here ↦ subst (λ u. IsReadyToEnd false (is_among u awaits.entry.participants) (part_view shape.nodes left txn u)) (sym here)
              (subst (λ b. IsReadyToEnd false b (part_view shape.nodes left txn w)) (sym awaits.among) (record { orders = orders-none; reports = reports-none; before = unprepared }))
          | inr apart ↦ run-ready (is_among v awaits.entry.participants) (part_view shape.nodes left txn v) (still-there v below apart)
        ])

    -- the transaction goes on
    module _ (reply : Reply) (runs : (part_view shape.nodes world txn w).stage ≡ Running) where
      abbrev done : Stepped
      done = controlled own_primary state (with_changed state.control txn (with_phase Idle)) (Say txn number (OutcomeDone reply) ∷ [])

      said : All (λ send. IsSaid txn send.payload) done.step.sends
      said = All-cons (λ (send : Outgoing). IsSaid txn send.payload) (sent FRONT (Outcome txn number (OutcomeDone reply))) [] (said-outcome txn number (OutcomeDone reply)) (All-nil (λ (send : Outgoing). IsSaid txn send.payload))

      abbrev after : ReplicaWorld
      after = acted world w home rest done

      still-here : IsStill (part_view shape.nodes left txn w) (run_stage (is_among w awaits.entry.participants))
      still-here = subst (λ b. IsStill (part_view shape.nodes left txn w) (run_stage b)) (sym awaits.among) (record { orders = orders-none; reports = reports-none; at = runs })

      still-everywhere : (v : ℕ) → v < shape.nodes → IsStill (part_view shape.nodes left txn v) (run_stage (is_among v awaits.entry.participants))
      still-everywhere v below = elim (cases_eq v w) [
        | inl here ↦ subst (λ u. IsStill (part_view shape.nodes left txn u) (run_stage (is_among u awaits.entry.participants))) (sym here) still-here
        | inr apart ↦ still-there v below apart
      ]

      told : (v : ℕ) → IsToldView (part_view shape.nodes left txn v) (part_view shape.nodes after txn v) []
      told v = subst (IsToldView (part_view shape.nodes left txn v) (part_view shape.nodes after txn v))
          (sent-none (is_order v txn) v done.step.sends (All-cons (λ (send : Outgoing). is_order v txn send.payload ≡ false) (sent FRONT (Outcome txn number (OutcomeDone reply))) [] refl (All-nil (λ (send : Outgoing). is_order v txn send.payload ≡ false))))
          (told-view shape world txn w (Answer w txn number answer) rest is.waits done said refl v)

      go-on : IsGoodStep shape world w home rest txn done
      go-on = record {
        about = record {
          sends = about-said shape world txn w (Answer w txn number answer) rest is.waits done said;
          entries = entry-changed_other state.control txn (with_phase Idle) (λ entry. refl);
          stages = λ other differ. refl;
          firm = inl refl;
        };
        lives = record {
          life = open_as (with_phase Idle awaits.entry);
          so_far = (
            begun-after shape world txn w (Answer w txn number answer) rest is.waits done said refl opened.begun,
            entry-after shape world txn w (Answer w txn number answer) rest is.waits done said ∙ entry-changed state.control txn (with_phase Idle) (λ entry. refl) awaits.entry opened.found,
            opened.out,
            λ unprepared. opened.unvoted (ap is_preparing awaits.phase),
          );
          stands = λ v below. runs-idle v (is_among v awaits.entry.participants) (is_among v awaits.entry.votes) txn (part_view shape.nodes after txn v) (with_phase Idle awaits.entry) refl
              (still-told (part_view shape.nodes left txn v) (part_view shape.nodes after txn v) _ (still-everywhere v below) (told v));
        };
        settled = settled-open shape.nodes world after txn awaits.entry opened.found;
        told = All-cons (λ (send : Outgoing). IsTrueOutcome shape after send.payload) (sent FRONT (Outcome txn number (OutcomeDone reply))) [] tt (All-nil (λ (send : Outgoing). IsTrueOutcome shape after send.payload));
        whole = is.whole;
      }

  good-counted : (answer : OpAnswer) → IsReported shape world txn w (Answer w txn number answer) rest →
      IsGoodStep shape world w home rest txn (controlled own_primary state (after_answered state.control txn answer) (answered_acts state.control txn number answer))
  good-counted (Done reply) is = go-on (Done reply) is reply (was (Done reply) is).stage
  good-counted (Refused holder) is = abort-so (Refused holder) is (Conflict holder) (was (Refused holder) is).stage
  good-counted NoMemory is = abort-so NoMemory is Memory (was NoMemory is).stage

  pub good-answer : (answer : OpAnswer) (mark : Bool) → IsReported shape world txn w (Answer w txn number answer) rest →
      IsGoodStep shape world w home rest txn (lone_step own_primary state w (Answer w txn number answer) mark)
  unfolding lone_step after_answer answer_acts
  good-answer answer mark is =
      subst (λ b. IsGoodStep shape world w home rest txn (controlled own_primary state (if b then after_answered state.control txn answer else state.control) (if b then answered_acts state.control txn number answer else [])))
      (sym (counts answer is)) (good-counted answer is)
