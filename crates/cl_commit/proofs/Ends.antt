-- A transaction ends: each participant is told, and the session.
use Rattle.std.proofs.Common.{◌≡◌, ℕ, ◌<◌, ◌≤◌, Bool, true, false, ◌⊎◌, inl, inr, List, [], ◌∷◌, ◌++◌, filter, All, Some, None, refl, sym, ap, ◌∙◌, subst}
use Rattle.std.proofs.lemmas.List.Elements.{All-nil, All-cons}
use Rattle.cl_types.specs.declared.answers.Outcome.{Outcome as CommandOutcome}
use Rattle.cl_types.specs.declared.operations.TxnId.{TxnId}
use Rattle.cl_control.specs.declared.acts.Act.TheVariants.{Say}
use Rattle.cl_control.specs.Calls.{finishes}
use Rattle.cl_control.specs.State.{Entry, ControlState, entry_of, participants_of, is_among, ascending, without_entry}
use Rattle.cl_log.specs.Open.{stage_of, is_among as is_member}
use Rattle.cl_lone.specs.Lone.{messages_of}
use Rattle.cl_node.specs.Addressing.{home_in}
use Rattle.cl_runs.specs.Queues.{sent_to}
use Rattle.cl_runs.specs.World.{Shape, with_firm}
use Rattle.cl_steps.specs.declared.actors.TheConstants.{FRONT}
use Rattle.cl_steps.specs.declared.steps.Outgoing.{Outgoing}
use Rattle.cl_steps.specs.Steps.{sent}
use Rattle.cl_system.specs.Replicas.{ReplicaWorld, own_primary}
use Rattle.cl_vnode.specs.Step.{Stepped}
use Rattle.cl_wire.specs.Message.{Content, Outcome}
use Rattle.cl_commit.specs.Standing.{part_view, is_order}
use Rattle.cl_commit.specs.Life.{is_begin_of, HasBegun, entry_in, IsSoFar, IsTrueOutcome, IsWholePart}
use Rattle.cl_commit.proofs.Frames.{acted, contents-none}
use Rattle.cl_commit.proofs.Controllers.{IsSaid, said-order, said-outcome, IsToldView, IsReadyToEnd, ended_life, ends-at, settled-open, popped, told-view, begun-after, entry-after, about-said, member-firm_own}
use Rattle.cl_commit.proofs.Controls.{entry-without, entry-without_other}
use Rattle.cl_commit.proofs.Told.{to_finish, orders_to, messages-told, All-told, told_to, orders-told}
use Rattle.cl_commit.proofs.Whole.{IsGoodStep}

-- the messages of an end
abbrev pub end_sends : Bool → TxnId → ℕ → List ℕ → ℕ → CommandOutcome → List Outgoing
end_sends commit txn nodes participants number outcome = orders_to (to_finish commit) txn (ascending nodes participants) ++ sent FRONT (Outcome txn number outcome) ∷ []

pub sends-end : (commit : Bool) (control : ControlState) (txn : TxnId) (nodes : ℕ) (participants : List ℕ) (number : ℕ) (outcome : CommandOutcome) → control.nodes ≡ nodes → participants_of control txn ≡ participants →
    messages_of own_primary (finishes control txn commit ++ Say txn number outcome ∷ []) ≡ end_sends commit txn nodes participants number outcome
sends-end commit control txn nodes participants number outcome same are =
    messages-told (to_finish commit) txn (ascending control.nodes (participants_of control txn)) (Say txn number outcome ∷ [])
    ∙ ap (λ n. end_sends commit txn n (participants_of control txn) number outcome) same
    ∙ ap (λ vs. end_sends commit txn nodes vs number outcome) are

-- who is firm with an end
abbrev pub firm_of : Bool → TxnId → List TxnId
firm_of true txn = txn ∷ []
firm_of false txn = []

firm-cases : (commit : Bool) (txn : TxnId) (firm : List TxnId) → firm ≡ firm_of commit txn → (firm ≡ []) ⊎ (firm ≡ txn ∷ [])
firm-cases true txn firm is = inr is
firm-cases false txn firm is = inl is

-- what is known of an end
pub record IsEnding (shape : Shape) (world : ReplicaWorld) (txn : TxnId) (from : ℕ) (rest : List Content) (commit : Bool) (participants : List ℕ) (number : ℕ) (outcome : CommandOutcome) (done : Stepped) : Type 0 where
  pub sends : done.step.sends ≡ end_sends commit txn shape.nodes participants number outcome
  pub control : done.state.control ≡ without_entry (world.replicas (home_in shape.nodes txn)).control txn
  pub firm : done.step.firm ≡ firm_of commit txn
  pub stages : (other : TxnId) → stage_of done.state.part.log other ≡ stage_of (world.replicas (home_in shape.nodes txn)).part.log other
  pub whole : IsWholePart done.state.part
  pub begun : HasBegun shape.nodes world txn
  pub entry : Entry
  pub found : entry_in shape.nodes world txn ≡ Some entry
  pub out : is_member txn world.history ≡ false
  pub few : shape.nodes ≤ 8
  pub outcome_true : (after : ReplicaWorld) → IsSoFar shape.nodes after txn (ended_life commit) → IsTrueOutcome shape after (Outcome txn number outcome)

module _ (shape : Shape) (world : ReplicaWorld) (txn : TxnId) (from : ℕ) (content : Content) (rest : List Content) (h : world.mail from (home_in shape.nodes txn) ≡ content ∷ rest)
    (no_begin : is_begin_of txn content ≡ false) (commit : Bool) (participants : List ℕ) (number : ℕ) (outcome : CommandOutcome) (done : Stepped)
    (is : IsEnding shape world txn from rest commit participants number outcome done)
    (ready : (v : ℕ) → v < shape.nodes → IsReadyToEnd commit (is_among v participants) (part_view shape.nodes (popped shape world txn from content rest h) txn v)) where
  abbrev after : ReplicaWorld
  after = acted world from (home_in shape.nodes txn) rest done

  said : All (λ send. IsSaid txn send.payload) done.step.sends
  said = subst (All (λ (send : Outgoing). IsSaid txn send.payload)) (sym is.sends)
      (All-told (λ send. IsSaid txn send.payload) (to_finish commit) txn (ascending shape.nodes participants) _ (λ u. said-order (to_finish commit) txn u)
      (All-cons (λ (send : Outgoing). IsSaid txn send.payload) (sent FRONT (Outcome txn number outcome)) [] (said-outcome txn number outcome) (All-nil (λ (send : Outgoing). IsSaid txn send.payload))))

  told-to-each : (v : ℕ) → v < shape.nodes → filter (is_order v txn) (sent_to v done.step.sends) ≡ told_to (to_finish commit) txn (is_among v participants) v
  told-to-each v below =
      ap (λ sends. filter (is_order v txn) (sent_to v sends)) is.sends
      ∙ orders-told (to_finish commit) txn shape.nodes participants (sent FRONT (Outcome txn number outcome) ∷ []) v below is.few
      (contents-none (is_order v txn) v (sent FRONT (Outcome txn number outcome) ∷ []) (All-cons (λ (send : Outgoing). is_order v txn send.payload ≡ false) (sent FRONT (Outcome txn number outcome)) [] refl (All-nil (λ (send : Outgoing). is_order v txn send.payload ≡ false))))

  so_far-end : IsSoFar shape.nodes after txn (ended_life commit)
  so_far-end =
      by commit is.firm
    where
      begun : HasBegun shape.nodes after txn
      begun = begun-after shape world txn from content rest h done said no_begin is.begun

      none : entry_in shape.nodes after txn ≡ None
      none = entry-after shape world txn from content rest h done said ∙ ap (λ control. entry_of control txn) is.control ∙ entry-without (world.replicas (home_in shape.nodes txn)).control txn

      by : (c : Bool) → done.step.firm ≡ firm_of c txn → IsSoFar shape.nodes after txn (ended_life c)
      by true firm = (begun, none, ap (λ f. is_member txn (with_firm world.history f)) firm ∙ member-firm_own world.history txn)
      by false firm = (begun, none, ap (λ f. is_member txn (with_firm world.history f)) firm ∙ is.out)

  pub good-end : IsGoodStep shape world from (home_in shape.nodes txn) rest txn done
  good-end = record {
    about = record {
      sends = about-said shape world txn from content rest h done said;
      entries = λ other differ. ap (λ control. entry_of control other) is.control ∙ entry-without_other (world.replicas (home_in shape.nodes txn)).control txn other differ;
      stages = λ other differ. is.stages other;
      firm = firm-cases commit txn done.step.firm is.firm;
    };
    lives = record {
      life = ended_life commit;
      so_far = so_far-end;
      stands = λ v below. ends-at commit v txn (is_among v participants) (part_view shape.nodes (popped shape world txn from content rest h) txn v) (part_view shape.nodes after txn v) (ready v below)
          (subst (IsToldView (part_view shape.nodes (popped shape world txn from content rest h) txn v) (part_view shape.nodes after txn v)) (told-to-each v below)
          (told-view shape world txn from content rest h done said (is.stages txn) v));
    };
    settled = settled-open shape.nodes world after txn is.entry is.found;
    told = subst (All (λ (send : Outgoing). IsTrueOutcome shape after send.payload)) (sym is.sends)
        (All-told (λ send. IsTrueOutcome shape after send.payload) (to_finish commit) txn (ascending shape.nodes participants) _ (λ u. tt)
        (All-cons (λ (send : Outgoing). IsTrueOutcome shape after send.payload) (sent FRONT (Outcome txn number outcome)) [] (is.outcome_true after so_far-end) (All-nil (λ (send : Outgoing). IsTrueOutcome shape after send.payload))));
    whole = is.whole;
  }
