-- What a step of a replica about one transaction leaves of the others.
use Rattle.std.proofs.Common.{◌≡◌, ℕ, ◌<◌, ◌≤◌, Bool, true, false, cond, eqb, ◌||◌, ◌⊎◌, inl, inr, List, [], ◌∷◌, ◌++◌, All, refl, sym, ap, ◌∙◌, subst}
use Rattle.std.proofs.lemmas.Bool.{eqb-true, cond_both}
use Rattle.std.proofs.lemmas.List.Elements.{All-weaker}
use Rattle.std.proofs.lemmas.List.Folds.{list_any-append}
use Rattle.cl_types.specs.declared.operations.TxnId.{TxnId}
use Rattle.cl_types.specs.Transactions.{same_txn}
use Rattle.cl_types.proofs.Transactions.{same_txn-symmetric}
use Rattle.cl_control.specs.State.{entry_of}
use Rattle.cl_front.specs.Sessions.{session_in}
use Rattle.cl_log.specs.Open.{stage_of, is_among as is_member}
use Rattle.cl_log.proofs.Open.{or_false}
use Rattle.cl_node.specs.Addressing.{home_in}
use Rattle.cl_runs.specs.World.{Shape, with_at, with_firm, with_one_firm}
use Rattle.cl_steps.specs.declared.actors.TheConstants.{FRONT}
use Rattle.cl_steps.specs.declared.steps.Outgoing.{Outgoing}
use Rattle.cl_system.specs.Replicas.{ReplicaWorld}
use Rattle.cl_vnode.specs.Replica.{ReplicaState}
use Rattle.cl_vnode.specs.Step.{Stepped}
use Rattle.cl_wire.specs.Message.{Content}
use Rattle.cl_commit.specs.Standing.{PartView, part_view, is_order, is_report, StandsSo}
use Rattle.cl_commit.specs.Life.{Life, to_come, open_as, committed, aborted, is_begin_of, is_beginning, HasBegun, IsToCome, entry_in, IsSoFar, Lives}
use Rattle.cl_commit.proofs.Frames.{is_about, acted, order-apart, report-apart, begin-apart, mail-same, any-filter, is_some_left}

-- ---- how far a transaction is

-- how far a transaction is has not changed
pub record SameStatus (nodes : ℕ) (before after : ReplicaWorld) (txn : TxnId) : Type 0 where
  pub begun : (session_in after.front.sessions txn.session).begun ≡ (session_in before.front.sessions txn.session).begun
  pub beginning : is_beginning nodes after txn ≡ is_beginning nodes before txn
  pub entry : entry_in nodes after txn ≡ entry_in nodes before txn
  pub member : is_member txn after.history ≡ is_member txn before.history

module _ (nodes : ℕ) (before after : ReplicaWorld) (txn : TxnId) (same : SameStatus nodes before after txn) where
  pub begun-same : HasBegun nodes before txn → HasBegun nodes after txn
  begun-same h = record { begun = subst (λ n. txn.number ≤ n) (sym same.begun) h.begun; heard = same.beginning ∙ h.heard }

  to_come-same : IsToCome nodes before txn → IsToCome nodes after txn
  to_come-same (inl later) = inl (subst (λ n. n < txn.number) (sym same.begun) later)
  to_come-same (inr coming) = inr (same.beginning ∙ coming)

  pub so_far-same : (life : Life) → IsSoFar nodes before txn life → IsSoFar nodes after txn life
  so_far-same to_come h = (to_come-same h.0, same.entry ∙ h.1, same.member ∙ h.2)
  so_far-same (open_as entry) h = (begun-same h.0, same.entry ∙ h.1, same.member ∙ h.2, h.3)
  so_far-same committed h = (begun-same h.0, same.entry ∙ h.1, same.member ∙ h.2)
  so_far-same aborted h = (begun-same h.0, same.entry ∙ h.1, same.member ∙ h.2)

-- nothing of a transaction has changed
pub record Leaves (nodes : ℕ) (before after : ReplicaWorld) (txn : TxnId) : Type 0 where
  pub status : SameStatus nodes before after txn
  pub view : (v : ℕ) → v < nodes → part_view nodes after txn v ≡ part_view nodes before txn v

-- so it lives on
pub lives-left : (shape : Shape) (before after : ReplicaWorld) (txn : TxnId) → Leaves shape.nodes before after txn → Lives shape before txn → Lives shape after txn
lives-left shape before after txn leaves lives = record {
  life = lives.life;
  so_far = so_far-same shape.nodes before after txn leaves.status lives.life lives.so_far;
  stands = λ v below. (let was = lives.stands v below in
      (was.0, subst (λ view. StandsSo v txn view was.0) (sym (leaves.view v below)) was.1, was.2));
}

-- views whose parts are the same
pub same_view : (a b : PartView) → a.orders ≡ b.orders → a.reports ≡ b.reports → a.stage ≡ b.stage → a ≡ b
same_view a b orders reports stage = λ i. record { orders = orders i; reports = reports i; stage = stage i }

-- ---- a step about one transaction

-- the step is about the transaction alone
pub record IsStepAbout (txn : TxnId) (before : ReplicaState) (done : Stepped) : Type 0 where
  pub sends : All (λ send. is_about txn send.payload ≡ true) done.step.sends
  pub entries : (other : TxnId) → same_txn txn other ≡ false → entry_of done.state.control other ≡ entry_of before.control other
  pub stages : (other : TxnId) → same_txn txn other ≡ false → stage_of done.state.part.log other ≡ stage_of before.part.log other
  pub firm : (done.step.firm ≡ []) ⊎ (done.step.firm ≡ txn ∷ [])

-- a part of the replica that acts, or of another one
pub at_replica : {A : Type 0} (part : ReplicaState → A) (replicas : ℕ → ReplicaState) (to : ℕ) (state : ReplicaState) (v : ℕ) → part state ≡ part (replicas to) → part (with_at replicas to state v) ≡ part (replicas v)
at_replica part replicas to state v same = cond_both (eqb v to) state (replicas v) (λ one. part one ≡ part (replicas v)) (λ here. same ∙ ap (λ u. part (replicas u)) (sym (eqb-true v to here))) (λ there. refl)

-- a member of a history with one more
member-one : (history : List TxnId) (txn other : TxnId) → same_txn txn other ≡ false → is_member other (with_one_firm history txn) ≡ is_member other history
member-one history txn other differ = by (is_member txn history)
  where
    by : (b : Bool) → is_member other (cond b history (history ++ txn ∷ [])) ≡ is_member other history
    by true = refl
    by false = list_any-append (same_txn other) history (txn ∷ []) ∙ ap (λ b. is_member other history || b) (or_false _ ∙ same_txn-symmetric other txn ∙ differ) ∙ or_false _

member-firm : (history firm : List TxnId) (txn other : TxnId) → same_txn txn other ≡ false → (firm ≡ []) ⊎ (firm ≡ txn ∷ []) → is_member other (with_firm history firm) ≡ is_member other history
member-firm history firm txn other differ (inl none) = ap (λ f. is_member other (with_firm history f)) none
member-firm history firm txn other differ (inr one) = ap (λ f. is_member other (with_firm history f)) one ∙ member-one history txn other differ

module _ (nodes : ℕ) (world : ReplicaWorld) (from to : ℕ) (content : Content) (rest : List Content) (h : world.mail from to ≡ content ∷ rest) (done : Stepped) where
  -- a test that neither the head nor what is sent passes
  pub beginning-same : (txn : TxnId) → is_begin_of txn content ≡ false → All (λ send. is_begin_of txn send.payload ≡ false) done.step.sends →
      is_beginning nodes (acted world from to rest done) txn ≡ is_beginning nodes world txn
  beginning-same txn fails none =
      any-filter (is_begin_of txn) ((acted world from to rest done).mail FRONT (home_in nodes txn))
      ∙ ap is_some_left (mail-same world from to content rest h done (is_begin_of txn) fails none FRONT (home_in nodes txn))
      ∙ sym (any-filter (is_begin_of txn) (world.mail FRONT (home_in nodes txn)))

  -- the others are left
  pub leaves-others : (txn : TxnId) → is_about txn content ≡ true → IsStepAbout txn (world.replicas to) done → (other : TxnId) → same_txn txn other ≡ false → Leaves nodes world (acted world from to rest done) other
  leaves-others txn about is other differ = record {
    status = record {
      begun = refl;
      beginning = beginning-same other (begin-apart txn other differ content about)
          (All-weaker (λ (send : Outgoing). is_about txn send.payload ≡ true) (λ (send : Outgoing). is_begin_of other send.payload ≡ false) (λ send. begin-apart txn other differ send.payload) done.step.sends is.sends);
      entry = at_replica (λ replica. entry_of replica.control other) world.replicas to done.state (home_in nodes other) (is.entries other differ);
      member = member-firm world.history done.step.firm txn other differ is.firm;
    };
    view = λ v below. same_view _ _
        (mail-same world from to content rest h done (is_order v other) (order-apart txn other differ v content about)
        (All-weaker (λ (send : Outgoing). is_about txn send.payload ≡ true) (λ (send : Outgoing). is_order v other send.payload ≡ false) (λ send. order-apart txn other differ v send.payload) done.step.sends is.sends)
        (home_in nodes other) v)
        (mail-same world from to content rest h done (is_report v other) (report-apart txn other differ v content about)
        (All-weaker (λ (send : Outgoing). is_about txn send.payload ≡ true) (λ (send : Outgoing). is_report v other send.payload ≡ false) (λ send. report-apart txn other differ v send.payload) done.step.sends is.sends)
        v (home_in nodes other))
        (at_replica (λ replica. stage_of replica.part.log other) world.replicas to done.state v (is.stages other differ));
  }
