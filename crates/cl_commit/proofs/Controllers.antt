-- A controller takes a step for a transaction: what it makes of the transaction itself.
use Rattle.std.proofs.Common.{◌≡◌, ℕ, Bool, true, false, cond, inl, inr, List, [], ◌∷◌, ◌++◌, filter, All, Option, Some, None, refl, sym, ap, ◌∙◌, subst}
use Rattle.std.proofs.lemmas.Bool.{cond-true, eq-eqb, or_right, or_left}
use Rattle.std.proofs.lemmas.List.{append-nil}
use Rattle.std.proofs.lemmas.List.Elements.{All-weaker}
use Rattle.std.proofs.lemmas.List.Folds.{list_any-append}
use Rattle.cl_types.specs.declared.answers.Outcome.{Outcome as CommandOutcome}
use Rattle.cl_types.specs.declared.operations.Op.{Op}
use Rattle.cl_types.specs.declared.operations.TxnId.{TxnId}
use Rattle.cl_types.specs.Transactions.{same_txn}
use Rattle.cl_types.proofs.Transactions.{same_txn-itself}
use Rattle.cl_control.specs.State.{Entry, entry_of}
use Rattle.cl_log.specs.declared.stage.Stage.{Stage}
use Rattle.cl_log.specs.declared.stage.Stage.TheVariants.{Unknown}
use Rattle.cl_log.specs.Open.{stage_of, is_among as is_member}
use Rattle.cl_node.specs.Addressing.{home_in}
use Rattle.cl_runs.specs.Queues.{sent_to}
use Rattle.cl_runs.specs.World.{Shape, with_firm}
use Rattle.cl_runs.proofs.Updates.{with_at-here}
use Rattle.cl_steps.specs.declared.steps.Outgoing.{Outgoing}
use Rattle.cl_system.specs.Replicas.{ReplicaWorld, with_way}
use Rattle.cl_vnode.specs.Replica.{ReplicaState}
use Rattle.cl_vnode.specs.Step.{Stepped}
use Rattle.cl_wire.specs.Message.{Content, Outcome, Ask}
use Rattle.cl_commit.specs.Standing.{Standing, absent, ending, PartView, part_view, is_order, is_report, StandsSo, IsBeforeEnd}
use Rattle.cl_commit.specs.Life.{Life, committed, aborted, is_begin_of, HasBegun, entry_in, MayStand}
use Rattle.cl_commit.proofs.Frames.{is_about, acted, way-other, mail-acted, news-none}
use Rattle.cl_commit.proofs.Told.{Notice, to_prepare, to_finish, order_of, told_to}
use Rattle.cl_commit.proofs.Whole.{KeepsSettled}
use Rattle.cl_commit.proofs.Worlds.{beginning-same, same_view, at_replica}

-- what a controller sends about a transaction: no report, and no BEGIN
pub record IsSaid (txn : TxnId) (content : Content) : Type 0 where
  pub about : is_about txn content ≡ true
  pub no_report : (u : ℕ) → is_report u txn content ≡ false
  pub no_begin : is_begin_of txn content ≡ false

pub said-order : (what : Notice) (txn : TxnId) (u : ℕ) → IsSaid txn (order_of what txn u)
said-order to_prepare txn u = record { about = same_txn-itself txn; no_report = λ w. refl; no_begin = refl }
said-order (to_finish commit) txn u = record { about = same_txn-itself txn; no_report = λ w. refl; no_begin = refl }

pub said-outcome : (txn : TxnId) (number : ℕ) (outcome : CommandOutcome) → IsSaid txn (Outcome txn number outcome)
said-outcome txn number outcome = record { about = same_txn-itself txn; no_report = λ w. refl; no_begin = refl }

pub said-ask : (txn : TxnId) (v number : ℕ) (table key : List ℕ) (op : Op) → IsSaid txn (Ask v txn number table key op)
said-ask txn v number table key op = record { about = same_txn-itself txn; no_report = λ w. refl; no_begin = refl }

-- a view with more orders
pub record IsToldView (before after : PartView) (ordered : List Content) : Type 0 where
  pub orders : after.orders ≡ before.orders ++ ordered
  pub reports : after.reports ≡ before.reports
  pub stage : after.stage ≡ before.stage

-- before its end at a virtual node, as a participant or not
abbrev pub IsBeforeEndAt : Bool → Bool → Stage → Type 0
IsBeforeEndAt commit true stage = IsBeforeEnd commit stage
IsBeforeEndAt commit false stage = stage ≡ Unknown

-- nothing is on its way, and it may end
pub record IsReadyToEnd (commit among : Bool) (view : PartView) : Type 0 where
  pub orders : view.orders ≡ []
  pub reports : view.reports ≡ []
  pub before : IsBeforeEndAt commit among view.stage

-- how far it is then
abbrev pub ended_life : Bool → Life
ended_life true = committed
ended_life false = aborted

may_end : (commit : Bool) (v : ℕ) → MayStand (ended_life commit) v (ending commit)
may_end true v = inr (inl refl)
may_end false v = inr (inl refl)

may_be_absent : (commit : Bool) (v : ℕ) → MayStand (ended_life commit) v absent
may_be_absent true v = inl refl
may_be_absent false v = inl refl

before-same : (commit : Bool) (a b : Stage) → b ≡ a → IsBeforeEnd commit a → IsBeforeEnd commit b
before-same commit a b same h = subst (IsBeforeEnd commit) (sym same) h

-- so it ends there
pub ends-at : (commit : Bool) (v : ℕ) (txn : TxnId) (among : Bool) (before after : PartView) → IsReadyToEnd commit among before → IsToldView before after (told_to (to_finish commit) txn among v) →
    (standing : Standing) × StandsSo v txn after standing × MayStand (ended_life commit) v standing
ends-at commit v txn true before after ready told = (
  ending commit,
  (record { orders = told.orders ∙ ap (λ xs. xs ++ order_of (to_finish commit) txn v ∷ []) ready.orders; reports = told.reports ∙ ready.reports }, before-same commit before.stage after.stage told.stage ready.before),
  may_end commit v,
)
ends-at commit v txn false before after ready told = (
  absent,
  record { orders = told.orders ∙ ap (λ xs. xs ++ []) ready.orders; reports = told.reports ∙ ready.reports; at = told.stage ∙ ready.before },
  may_be_absent commit v,
)

-- an open transaction is not settled
pub settled-open : (nodes : ℕ) (before after : ReplicaWorld) (txn : TxnId) (entry : Entry) → entry_in nodes before txn ≡ Some entry → KeepsSettled nodes before after txn
settled-open nodes before after txn entry is = record { committed_stays = λ h. absurd (clash h.1); aborted_stays = λ h. absurd (clash h.1) }
  where
    clash : entry_in nodes before txn ≡ None → ⊥
    clash none = let e : ◌≡◌ {A = Option Entry} (Some entry) None = sym is ∙ none in absurd (cc)

module _ (shape : Shape) (world : ReplicaWorld) (txn : TxnId) (from : ℕ) (content : Content) (rest : List Content) (h : world.mail from (home_in shape.nodes txn) ≡ content ∷ rest) where
  -- the head is taken off
  abbrev pub popped : ReplicaWorld
  popped = record world { mail = with_way world.mail from (home_in shape.nodes txn) rest }

  -- what is no order and no report leaves the view
  pub view-popped : (v : ℕ) → is_order v txn content ≡ false → is_report v txn content ≡ false → part_view shape.nodes popped txn v ≡ part_view shape.nodes world txn v
  view-popped v no_order no_report = same_view _ _
      (way-other world.mail from (home_in shape.nodes txn) content rest h (is_order v txn) no_order (home_in shape.nodes txn) v)
      (way-other world.mail from (home_in shape.nodes txn) content rest h (is_report v txn) no_report v (home_in shape.nodes txn)) refl

  module _ (done : Stepped) (said : All (λ send. IsSaid txn send.payload) done.step.sends) where
    abbrev after : ReplicaWorld
    after = acted world from (home_in shape.nodes txn) rest done

    pub told-view : stage_of done.state.part.log txn ≡ stage_of (world.replicas (home_in shape.nodes txn)).part.log txn → (v : ℕ) →
        IsToldView (part_view shape.nodes popped txn v) (part_view shape.nodes after txn v) (filter (is_order v txn) (sent_to v done.step.sends))
    told-view same v = record {
      orders = mail-acted world from (home_in shape.nodes txn) rest done (is_order v txn) (home_in shape.nodes txn) v
          ∙ ap (λ xs. filter (is_order v txn) (with_way world.mail from (home_in shape.nodes txn) rest (home_in shape.nodes txn) v) ++ xs) (cond-true _ _ _ (eq-eqb (home_in shape.nodes txn) (home_in shape.nodes txn) refl));
      reports = mail-acted world from (home_in shape.nodes txn) rest done (is_report v txn) v (home_in shape.nodes txn)
          ∙ ap (λ xs. filter (is_report v txn) (with_way world.mail from (home_in shape.nodes txn) rest v (home_in shape.nodes txn)) ++ xs)
          (news-none (is_report v txn) (home_in shape.nodes txn) done.step.sends v (home_in shape.nodes txn) (All-weaker (λ (send : Outgoing). IsSaid txn send.payload) (λ (send : Outgoing). is_report v txn send.payload ≡ false) (λ send is. is.no_report v) done.step.sends said))
          ∙ append-nil _;
      stage = at_replica (λ replica. stage_of replica.part.log txn) world.replicas (home_in shape.nodes txn) done.state v same;
    }

    -- the session has begun it as before
    pub begun-after : is_begin_of txn content ≡ false → HasBegun shape.nodes world txn → HasBegun shape.nodes after txn
    begun-after no_begin has = record {
      begun = has.begun;
      heard = beginning-same shape.nodes world from (home_in shape.nodes txn) content rest h done txn no_begin
          (All-weaker (λ (send : Outgoing). IsSaid txn send.payload) (λ (send : Outgoing). is_begin_of txn send.payload ≡ false) (λ send is. is.no_begin) done.step.sends said) ∙ has.heard;
    }

    pub entry-after : entry_in shape.nodes after txn ≡ entry_of done.state.control txn
    entry-after = ap (λ (replica : ReplicaState). entry_of replica.control txn) (with_at-here world.replicas (home_in shape.nodes txn) done.state)

    pub about-said : All (λ send. is_about txn send.payload ≡ true) done.step.sends
    about-said = All-weaker (λ (send : Outgoing). IsSaid txn send.payload) (λ (send : Outgoing). is_about txn send.payload ≡ true) (λ send is. is.about) done.step.sends said

-- who is firm is a member
pub member-firm_own : (history : List TxnId) (txn : TxnId) → is_member txn (with_firm history (txn ∷ [])) ≡ true
member-firm_own history txn = by (is_member txn history) refl
  where
    by : (b : Bool) → is_member txn history ≡ b → is_member txn (cond b history (history ++ txn ∷ [])) ≡ true
    by true is = is
    by false is = list_any-append (same_txn txn) history (txn ∷ []) ∙ or_right _ _ (or_left _ _ (same_txn-itself txn))
