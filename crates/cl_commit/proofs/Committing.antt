-- COMMIT or ABORT comes to the controller.
use Rattle.std.proofs.Common.{◌≡◌, ℕ, ◌<◌, Bool, true, false, if◌then◌else◌, inl, List, [], ◌∷◌, ◌++◌, filter, All, Some, refl, sym, ap, ◌∙◌, subst}
use Rattle.std.proofs.lemmas.Bool.{true≢false}
use Rattle.std.proofs.lemmas.List.{append-nil}
use Rattle.std.proofs.lemmas.List.Elements.{All-nil}
use Rattle.cl_types.specs.declared.answers.AbortCause.TheVariants.{Client}
use Rattle.cl_types.specs.declared.answers.Outcome.TheVariants.{Committed, Aborted}
use Rattle.cl_types.specs.declared.operations.Command.TheVariants.{Commit, Abort}
use Rattle.cl_types.specs.declared.operations.TxnId.{TxnId}
use Rattle.cl_control.specs.declared.acts.Act.TheVariants.{Say}
use Rattle.cl_control.specs.declared.entry.Phase.TheVariants.{Preparing}
use Rattle.cl_control.specs.Calls.{prepares, abort_acts, commit_phase, commit_acts, committing, command_acts, after_command}
use Rattle.cl_control.specs.State.{Entry, participants_of, is_among, ascending, with_phase, with_changed, without_entry}
use Rattle.cl_log.specs.declared.stage.Stage.TheVariants.{Unknown}
use Rattle.cl_lone.specs.Lone.{lone_step, controlled, committed, messages_of}
use Rattle.cl_node.specs.Addressing.{home_in}
use Rattle.cl_runs.specs.Queues.{sent_to}
use Rattle.cl_runs.specs.World.{Shape}
use Rattle.cl_steps.specs.declared.actors.TheConstants.{FRONT}
use Rattle.cl_steps.specs.declared.steps.Outgoing.{Outgoing}
use Rattle.cl_system.specs.Replicas.{ReplicaWorld, own_primary}
use Rattle.cl_vnode.specs.Inputs.{has_decide}
use Rattle.cl_vnode.specs.Replica.{ReplicaState}
use Rattle.cl_vnode.specs.Step.{Stepped}
use Rattle.cl_wire.specs.Message.{Content, Command}
use Rattle.cl_commit.specs.Standing.{Standing, absent, preparing, PartView, part_view, is_order, StandsSo, IsStill}
use Rattle.cl_commit.specs.Life.{open_as, MayParticipate, MayStandOpen, IsTrueOutcome}
use Rattle.cl_commit.proofs.Answers.{run-ready}
use Rattle.cl_commit.proofs.Commanded.{IsCommand, HasIdle, awaited, idle-from}
use Rattle.cl_commit.proofs.Controllers.{IsSaid, said-order, IsToldView, settled-open, popped, told-view, begun-after, entry-after, about-said}
use Rattle.cl_commit.proofs.Controls.{entry-changed, entry-changed_other, no-decide}
use Rattle.cl_commit.proofs.Ends.{sends-end, good-end}
use Rattle.cl_commit.proofs.Frames.{acted}
use Rattle.cl_commit.proofs.Idle.{idle-open, idle-votes, idle-participants, idle-left}
use Rattle.cl_commit.proofs.Opens.{LivesOpen}
use Rattle.cl_commit.proofs.Parts.{decide-leaves}
use Rattle.cl_commit.proofs.Reports.{run_stage}
use Rattle.cl_commit.proofs.Told.{to_prepare, to_finish, order_of, orders_to, messages-told, All-told, told_to, orders-told}
use Rattle.cl_commit.proofs.Whole.{IsGoodStep}

module _ (shape : Shape) (world : ReplicaWorld) (txn : TxnId) (v number : ℕ) (rest : List Content) where
  abbrev home : ℕ
  home = home_in shape.nodes txn

  abbrev state : ReplicaState
  state = world.replicas home

  -- ---- ABORT

  module _ (is : IsCommand shape world txn v number Abort rest) where
    has-idle-abort : HasIdle shape world txn v number Abort rest is
    has-idle-abort =
        let before = (awaited shape world txn v number Abort rest is).before in
        idle-from shape world txn v number Abort rest is before.1.0 before.1.1 before.1.2

    aborted-so : IsGoodStep shape world FRONT home rest txn (controlled own_primary state (without_entry state.control txn) (abort_acts state.control txn number Client))
    aborted-so =
        let has = has-idle-abort in
        let opened = idle-open shape world txn v number Abort rest is has in
        good-end shape world txn FRONT (Command v txn number Abort) rest is.waits refl false has.entry.participants number (Aborted Client)
        (controlled own_primary state (without_entry state.control txn) (abort_acts state.control txn number Client))
        (record {
          sends = sends-end false state.control txn shape.nodes has.entry.participants number (Aborted Client) is.place.same_nodes (idle-participants shape world txn v number Abort rest is has);
          control = refl;
          firm = refl;
          stages = λ other. refl;
          whole = is.whole;
          begun = opened.begun;
          entry = has.entry;
          found = has.found;
          out = opened.out;
          few = is.few;
          outcome_true = λ after so_far. so_far;
        })
        (λ u below. run-ready (is_among u has.entry.participants) (part_view shape.nodes (popped shape world txn FRONT (Command v txn number Abort) rest is.waits) txn u) (idle-left shape world txn v number Abort rest is has u below))

    pub good-abort : (mark : Bool) → IsGoodStep shape world FRONT home rest txn (lone_step own_primary state FRONT (Command v txn number Abort) mark)
    unfolding lone_step command_acts after_command
    good-abort mark =
        subst (λ b. IsGoodStep shape world FRONT home rest txn (if b then committed own_primary state txn number else controlled own_primary state (without_entry state.control txn) (abort_acts state.control txn number Client)))
        (sym (no-decide (to_finish false) txn (ascending state.control.nodes (participants_of state.control txn)) (Say txn number (Aborted Client) ∷ []))) aborted-so

  -- ---- COMMIT

  module _ (is : IsCommand shape world txn v number Commit rest) where
    has : HasIdle shape world txn v number Commit rest is
    has =
        let before = (awaited shape world txn v number Commit rest is).before in
        idle-from shape world txn v number Commit rest is before.1.0 before.1.1 before.1.2

    opened : LivesOpen shape world txn has.entry
    opened = idle-open shape world txn v number Commit rest is has

    participants : participants_of state.control txn ≡ has.entry.participants
    participants = idle-participants shape world txn v number Commit rest is has

    abbrev left : ReplicaWorld
    left = popped shape world txn FRONT (Command v txn number Commit) rest is.waits

    still : (u : ℕ) → u < shape.nodes → IsStill (part_view shape.nodes left txn u) (run_stage (is_among u has.entry.participants))
    still = idle-left shape world txn v number Commit rest is has

    -- with no participant it commits at once
    committed-so : has.entry.participants ≡ [] → IsGoodStep shape world FRONT home rest txn (committed own_primary state txn number)
    committed-so none =
        let leaves = decide-leaves state.part txn is.whole in
        good-end shape world txn FRONT (Command v txn number Commit) rest is.waits refl true [] number Committed (committed own_primary state txn number)
        (record {
          sends = sends-end true state.control txn shape.nodes [] number Committed is.place.same_nodes (participants ∙ none);
          control = refl;
          firm = refl;
          stages = leaves.same;
          whole = leaves.whole;
          begun = opened.begun;
          entry = has.entry;
          found = has.found;
          out = opened.out;
          few = is.few;
          outcome_true = λ after so_far. so_far;
        })
        (λ u below. let quiet : IsStill (part_view shape.nodes left txn u) Unknown = subst (λ vs. IsStill (part_view shape.nodes left txn u) (run_stage (is_among u vs))) none (still u below) in
        record { orders = quiet.orders; reports = quiet.reports; before = quiet.at })

    -- the participants are asked for their votes
    module _ (first : ℕ) (others : List ℕ) (some : has.entry.participants ≡ first ∷ others) where
      abbrev done : Stepped
      done = controlled own_primary state (with_changed state.control txn (committing number)) (prepares state.control txn)

      abbrev after : ReplicaWorld
      after = acted world FRONT home rest done

      sends-prepares : done.step.sends ≡ orders_to to_prepare txn (ascending shape.nodes has.entry.participants) ++ []
      sends-prepares =
          ap (messages_of own_primary) (sym (append-nil (prepares state.control txn)))
          ∙ messages-told to_prepare txn (ascending state.control.nodes (participants_of state.control txn)) []
          ∙ ap (λ n. orders_to to_prepare txn (ascending n (participants_of state.control txn)) ++ []) is.place.same_nodes
          ∙ ap (λ vs. orders_to to_prepare txn (ascending shape.nodes vs) ++ []) participants

      said : All (λ send. IsSaid txn send.payload) done.step.sends
      said = subst (All (λ (send : Outgoing). IsSaid txn send.payload)) (sym sends-prepares)
          (All-told (λ send. IsSaid txn send.payload) to_prepare txn (ascending shape.nodes has.entry.participants) [] (λ u. said-order to_prepare txn u) (All-nil (λ (send : Outgoing). IsSaid txn send.payload)))

      told : (u : ℕ) → u < shape.nodes → IsToldView (part_view shape.nodes left txn u) (part_view shape.nodes after txn u) (told_to to_prepare txn (is_among u has.entry.participants) u)
      told u below = subst (IsToldView (part_view shape.nodes left txn u) (part_view shape.nodes after txn u))
          (ap (λ sends. filter (is_order u txn) (sent_to u sends)) sends-prepares ∙ orders-told to_prepare txn shape.nodes has.entry.participants [] u below is.few refl)
          (told-view shape world txn FRONT (Command v txn number Commit) rest is.waits done said refl u)

      prepares-at : (u : ℕ) (among : Bool) (before now : PartView) → IsStill before (run_stage among) → IsToldView before now (told_to to_prepare txn among u) →
          (standing : Standing) × StandsSo u txn now standing × MayStandOpen among (with_phase (Preparing number) has.entry) u standing
      prepares-at u true before now quiet more = (
        preparing,
        (record { orders = more.orders ∙ ap (λ xs. xs ++ order_of to_prepare txn u ∷ []) quiet.orders; reports = more.reports ∙ quiet.reports }, more.stage ∙ quiet.at),
        subst (λ vs. MayParticipate (Preparing number) (is_among u vs) u preparing) (sym (idle-votes shape world txn v number Commit rest is has)) (inl refl),
      )
      prepares-at u false before now quiet more = (
        absent,
        record { orders = more.orders ∙ ap (λ xs. xs ++ []) quiet.orders; reports = more.reports ∙ quiet.reports; at = more.stage ∙ quiet.at },
        refl,
      )

      phase-now : (committing number has.entry) ≡ with_phase (Preparing number) has.entry
      phase-now = ap (λ vs. with_phase (commit_phase number vs) has.entry) some

      prepared-so : IsGoodStep shape world FRONT home rest txn done
      prepared-so = record {
        about = record {
          sends = about-said shape world txn FRONT (Command v txn number Commit) rest is.waits done said;
          entries = entry-changed_other state.control txn (committing number) (λ entry. refl);
          stages = λ other differ. refl;
          firm = inl refl;
        };
        lives = record {
          life = open_as (with_phase (Preparing number) has.entry);
          so_far = (
            begun-after shape world txn FRONT (Command v txn number Commit) rest is.waits done said refl opened.begun,
            entry-after shape world txn FRONT (Command v txn number Commit) rest is.waits done said ∙ entry-changed state.control txn (committing number) (λ entry. refl) has.entry has.found ∙ ap (λ (x : Entry). Some x) phase-now,
            opened.out,
            λ unprepared. absurd (true≢false unprepared),
          );
          stands = λ u below. prepares-at u (is_among u has.entry.participants) (part_view shape.nodes left txn u) (part_view shape.nodes after txn u) (still u below) (told u below);
        };
        settled = settled-open shape.nodes world after txn has.entry has.found;
        told = subst (All (λ (send : Outgoing). IsTrueOutcome shape after send.payload)) (sym sends-prepares)
            (All-told (λ send. IsTrueOutcome shape after send.payload) to_prepare txn (ascending shape.nodes has.entry.participants) [] (λ u. tt) (All-nil (λ (send : Outgoing). IsTrueOutcome shape after send.payload)));
        whole = is.whole;
      }

    no-decide-prepares : has_decide (prepares state.control txn) ≡ false
    no-decide-prepares = ap has_decide (sym (append-nil (prepares state.control txn))) ∙ no-decide to_prepare txn (ascending state.control.nodes (participants_of state.control txn)) []

    pub good-commit : (mark : Bool) → IsGoodStep shape world FRONT home rest txn (lone_step own_primary state FRONT (Command v txn number Commit) mark)
    unfolding lone_step command_acts after_command
    good-commit mark =
        subst (λ vs. IsGoodStep shape world FRONT home rest txn (if has_decide (commit_acts state.control txn vs) then committed own_primary state txn number else controlled own_primary state (with_changed state.control txn (committing number)) (commit_acts state.control txn vs)))
        (sym participants) (by has.entry.participants refl)
      where
        by : (vs : List ℕ) → has.entry.participants ≡ vs →
            IsGoodStep shape world FRONT home rest txn (if has_decide (commit_acts state.control txn vs) then committed own_primary state txn number else controlled own_primary state (with_changed state.control txn (committing number)) (commit_acts state.control txn vs))
        by [] none = committed-so none
        by (first ∷ others) some =
            subst (λ b. IsGoodStep shape world FRONT home rest txn (if b then committed own_primary state txn number else controlled own_primary state (with_changed state.control txn (committing number)) (prepares state.control txn)))
            (sym no-decide-prepares) (prepared-so first others some)
