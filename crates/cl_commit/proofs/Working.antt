-- An operation comes to the controller: the participant of its place is asked.
use Rattle.std.proofs.Common.{◌≡◌, ℕ, ◌<◌, ◌≤◌, Bool, true, false, if◌then◌else◌, ◌||◌, inl, inr, List, [], ◌∷◌, ◌++◌, map, filter, All, refl, sym, ap, ◌∙◌, subst}
use Rattle.std.proofs.lemmas.Bool.{cases_eq, cond-true, cond-false, eq-eqb, ne_eqb, or_right, and_from}
use Rattle.std.proofs.lemmas.List.Elements.{All-nil, All-cons}
use Rattle.cl_types.specs.declared.operations.Command.TheVariants.{Work}
use Rattle.cl_types.specs.declared.operations.Op.{Op}
use Rattle.cl_types.specs.declared.operations.TxnId.{TxnId}
use Rattle.cl_types.specs.Placement.{virtual_node_of}
use Rattle.cl_types.proofs.Transactions.{same_txn-itself}
use Rattle.cl_control.specs.declared.acts.Act.TheVariants as acts
use Rattle.cl_control.specs.Calls.{command_acts, after_command, asked as asked_entry}
use Rattle.cl_control.specs.State.{is_among, joined, with_changed}
use Rattle.cl_control.proofs.VirtualNodes.{is_among-push}
use Rattle.cl_log.proofs.Open.{or_false}
use Rattle.cl_lone.specs.Lone.{lone_step, controlled}
use Rattle.cl_node.specs.Addressing.{home_in}
use Rattle.cl_runs.specs.Queues.{sent_to}
use Rattle.cl_runs.specs.World.{Shape}
use Rattle.cl_steps.specs.declared.actors.TheConstants.{FRONT}
use Rattle.cl_steps.specs.declared.steps.Outgoing.{Outgoing}
use Rattle.cl_steps.specs.Steps.{sent}
use Rattle.cl_system.specs.Replicas.{ReplicaWorld, own_primary}
use Rattle.cl_vnode.specs.Replica.{ReplicaState}
use Rattle.cl_vnode.specs.Step.{Stepped}
use Rattle.cl_wire.specs.Message.{Content, Command, Ask}
use Rattle.cl_commit.specs.Standing.{Standing, absent, running, asked, part_view, is_order, StandsSo, IsStill, IsUnprepared}
use Rattle.cl_commit.specs.Life.{open_as, MayStandOpen, IsTrueOutcome}
use Rattle.cl_commit.proofs.Commanded.{IsCommand, HasIdle, awaited, idle-from}
use Rattle.cl_commit.proofs.Controllers.{IsSaid, said-ask, IsToldView, settled-open, popped, told-view, begun-after, entry-after, about-said}
use Rattle.cl_commit.proofs.Controls.{entry-changed, entry-changed_other}
use Rattle.cl_commit.proofs.Frames.{acted}
use Rattle.cl_commit.proofs.Idle.{idle-open, idle-votes, idle-left}
use Rattle.cl_commit.proofs.Opens.{LivesOpen, still-told}
use Rattle.cl_commit.proofs.Reports.{run_stage}
use Rattle.cl_commit.proofs.Told.{sent-contents}
use Rattle.cl_commit.proofs.Whole.{IsGoodStep}

-- one that joins is among the participants
joined-own : (w : ℕ) (vs : List ℕ) → is_among w (joined w vs) ≡ true
joined-own w vs = by (is_among w vs) refl
  where
    by : (b : Bool) → is_among w vs ≡ b → is_among w (if b then vs else vs ++ w ∷ []) ≡ true
    by true among = among
    by false among = is_among-push w vs w ∙ or_right _ _ (eq-eqb w w refl)

-- and the others are as before
joined-other : (v w : ℕ) (vs : List ℕ) → (v ≡ w → ⊥) → is_among v (joined w vs) ≡ is_among v vs
joined-other v w vs apart = by (is_among w vs)
  where
    by : (b : Bool) → is_among v (if b then vs else vs ++ w ∷ []) ≡ is_among v vs
    by true = refl
    by false = is_among-push v vs w ∙ ap (λ b. is_among v vs || b) (ne_eqb v w apart) ∙ or_false _

-- before its first record, or after it
run-unprepared : (among : Bool) (view : _) → IsStill view (run_stage among) → IsUnprepared view.stage
run-unprepared true view still = inl still.at
run-unprepared false view still = inr still.at

-- an order that goes to one virtual node
ask-there : (txn : TxnId) (v w nodes number : ℕ) (table key : List ℕ) (op : Op) → v < nodes → nodes ≤ 8 → (v ≡ w → ⊥) → filter (is_order v txn) (sent_to v (sent w (Ask w txn number table key op) ∷ [])) ≡ []
ask-there txn v w nodes number table key op below few apart =
    ap (filter (is_order v txn)) (sent-contents v nodes (sent w (Ask w txn number table key op) ∷ []) below few ∙ ap (map (λ (send : Outgoing). send.payload)) (cond-false _ _ _ (ne_eqb w v (λ e. apart (sym e)))))

ask-here : (txn : TxnId) (w nodes number : ℕ) (table key : List ℕ) (op : Op) → w < nodes → nodes ≤ 8 → filter (is_order w txn) (sent_to w (sent w (Ask w txn number table key op) ∷ [])) ≡ Ask w txn number table key op ∷ []
ask-here txn w nodes number table key op below few =
    ap (filter (is_order w txn)) (sent-contents w nodes (sent w (Ask w txn number table key op) ∷ []) below few ∙ ap (map (λ (send : Outgoing). send.payload)) (cond-true _ _ _ (eq-eqb w w refl)))
    ∙ cond-true _ _ _ (and_from _ _ (eq-eqb w w refl) (same_txn-itself txn))

module _ (shape : Shape) (world : ReplicaWorld) (txn : TxnId) (v number : ℕ) (table key : List ℕ) (op : Op) (rest : List Content) (is : IsCommand shape world txn v number (Work table key op) rest) where
  abbrev home : ℕ
  home = home_in shape.nodes txn

  abbrev state : ReplicaState
  state = world.replicas home

  abbrev w : ℕ
  w = virtual_node_of key state.control.nodes

  abbrev left : ReplicaWorld
  left = popped shape world txn FRONT (Command v txn number (Work table key op)) rest is.waits

  has : HasIdle shape world txn v number (Work table key op) rest is
  has =
      let before = (awaited shape world txn v number (Work table key op) rest is).before in
      idle-from shape world txn v number (Work table key op) rest is before.1.0 before.1.1 before.1.2

  opened : LivesOpen shape world txn has.entry
  opened = idle-open shape world txn v number (Work table key op) rest is has

  abbrev done : Stepped
  done = controlled own_primary state (with_changed state.control txn (asked_entry number w)) (acts.Ask w txn number table key op ∷ [])

  abbrev after : ReplicaWorld
  after = acted world FRONT home rest done

  said : All (λ send. IsSaid txn send.payload) done.step.sends
  said = All-cons (λ (send : Outgoing). IsSaid txn send.payload) (sent w (Ask w txn number table key op)) [] (said-ask txn w number table key op) (All-nil (λ (send : Outgoing). IsSaid txn send.payload))

  told : (u : ℕ) → IsToldView (part_view shape.nodes left txn u) (part_view shape.nodes after txn u) (filter (is_order u txn) (sent_to u done.step.sends))
  told u = told-view shape world txn FRONT (Command v txn number (Work table key op)) rest is.waits done said refl u

  still : (u : ℕ) → u < shape.nodes → IsStill (part_view shape.nodes left txn u) (run_stage (is_among u has.entry.participants))
  still = idle-left shape world txn v number (Work table key op) rest is has

  abbrev Stands : ℕ → Type 0
  Stands u = (standing : Standing) × StandsSo u txn (part_view shape.nodes after txn u) standing × MayStandOpen (is_among u (joined w has.entry.participants)) (asked_entry number w has.entry) u standing

  -- who is not asked runs, or is absent
  runs-there : (u : ℕ) → (u ≡ w → ⊥) → (among : Bool) → IsStill (part_view shape.nodes after txn u) (run_stage among) →
      (standing : Standing) × StandsSo u txn (part_view shape.nodes after txn u) standing × MayStandOpen among (asked_entry number w has.entry) u standing
  runs-there u apart true h = (running, h, inr (apart, refl))
  runs-there u apart false h = (absent, h, refl)

  stands-there : (u : ℕ) → u < shape.nodes → (u ≡ w → ⊥) → Stands u
  stands-there u below apart =
      subst (λ among. (standing : Standing) × StandsSo u txn (part_view shape.nodes after txn u) standing × MayStandOpen among (asked_entry number w has.entry) u standing) (sym (joined-other u w has.entry.participants apart))
      (runs-there u apart (is_among u has.entry.participants)
      (still-told (part_view shape.nodes left txn u) (part_view shape.nodes after txn u) _ (still u below)
      (subst (IsToldView (part_view shape.nodes left txn u) (part_view shape.nodes after txn u)) (ask-there txn u w shape.nodes number table key op below is.few apart) (told u))))

  stands-here : w < shape.nodes → Stands w
  stands-here below =
      let was = still w below in
      let now = subst (IsToldView (part_view shape.nodes left txn w) (part_view shape.nodes after txn w)) (ask-here txn w shape.nodes number table key op below is.few) (told w) in (
        asked number,
        (
          record { table = table; key = key; op = op; order = record { orders = now.orders ∙ ap (λ xs. xs ++ Ask w txn number table key op ∷ []) was.orders; reports = now.reports ∙ was.reports } },
          subst IsUnprepared (sym now.stage) (run-unprepared (is_among w has.entry.participants) (part_view shape.nodes left txn w) was),
        ),
        subst (λ among. MayStandOpen among (asked_entry number w has.entry) w (asked number)) (sym (joined-own w has.entry.participants)) (inl (refl, inl refl)),
      )

  pub good-work : (mark : Bool) → IsGoodStep shape world FRONT home rest txn (lone_step own_primary state FRONT (Command v txn number (Work table key op)) mark)
  unfolding lone_step command_acts after_command
  good-work mark = record {
    about = record {
      sends = about-said shape world txn FRONT (Command v txn number (Work table key op)) rest is.waits done said;
      entries = entry-changed_other state.control txn (asked_entry number w) (λ entry. refl);
      stages = λ other differ. refl;
      firm = inl refl;
    };
    lives = record {
      life = open_as (asked_entry number w has.entry);
      so_far = (
        begun-after shape world txn FRONT (Command v txn number (Work table key op)) rest is.waits done said refl opened.begun,
        entry-after shape world txn FRONT (Command v txn number (Work table key op)) rest is.waits done said ∙ entry-changed state.control txn (asked_entry number w) (λ entry. refl) has.entry has.found,
        opened.out,
        λ unprepared. idle-votes shape world txn v number (Work table key op) rest is has,
      );
      stands = λ u below. elim (cases_eq u w) [
        | inl here ↦ subst Stands (sym here) (stands-here (subst (λ x. x < shape.nodes) here below))
        | inr apart ↦ stands-there u below apart
      ];
    };
    settled = settled-open shape.nodes world after txn has.entry has.found;
    told = All-cons (λ (send : Outgoing). IsTrueOutcome shape after send.payload) (sent w (Ask w txn number table key op)) [] tt (All-nil (λ (send : Outgoing). IsTrueOutcome shape after send.payload));
    whole = is.whole;
  }
