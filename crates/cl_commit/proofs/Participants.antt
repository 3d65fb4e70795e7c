-- An order comes to a participant: what the step makes of its transaction.
use Rattle.std.proofs.Common.{◌≡◌, ℕ, ◌<◌, ◌≤◌, Bool, true, false, inl, inr, List, [], ◌∷◌, ◌++◌, map, filter, All, refl, sym, ap, ◌∙◌, subst}
use Rattle.std.proofs.lemmas.Bool.{cases_eq, cond-true, cond-false, eq-eqb, ne_eqb}
use Rattle.std.proofs.lemmas.List.{append-nil}
use Rattle.std.proofs.lemmas.List.Elements.{All-nil, All-cons, All-head, All-tail, All-map, All-weaker}
use Rattle.cl_types.specs.declared.operations.TxnId.{TxnId}
use Rattle.cl_types.specs.Transactions.{same_txn}
use Rattle.cl_control.specs.State.{entry_of}
use Rattle.cl_endpoint.specs.Laws.{contents_to}
use Rattle.cl_log.specs.Open.{stage_of, is_among as is_member}
use Rattle.cl_node.specs.Addressing.{home_in}
use Rattle.cl_runs.specs.Queues.{sent_to}
use Rattle.cl_runs.specs.World.{Shape, with_firm}
use Rattle.cl_runs.proofs.Updates.{with_at-here}
use Rattle.cl_steps.specs.declared.steps.Outgoing.{Outgoing}
use Rattle.cl_steps.specs.Steps.{sent}
use Rattle.cl_system.specs.Replicas.{ReplicaWorld, with_way}
use Rattle.cl_vnode.specs.Replica.{ReplicaState}
use Rattle.cl_vnode.specs.Step.{Stepped}
use Rattle.cl_wire.specs.Message.{Content}
use Rattle.cl_commit.specs.Standing.{Standing, part_view, is_order, is_report, StandsSo}
use Rattle.cl_commit.specs.Life.{committed, aborted, is_begin_of, MayStand, Lives, IsTrueOutcome, IsWholePart}
use Rattle.cl_commit.proofs.Frames.{is_about, acted, way-other, way-head, news, news-none, mail-acted, mail-same}
use Rattle.cl_commit.proofs.Told.{sent-contents}
use Rattle.cl_commit.proofs.Worlds.{SameStatus, so_far-same, same_view, at_replica, beginning-same}
use Rattle.cl_commit.proofs.Whole.{IsGoodStep}

-- the message is an order of the transaction for the virtual node, and nothing else
pub record IsOrderFor (v : ℕ) (txn : TxnId) (content : Content) : Type 0 where
  pub own : is_order v txn content ≡ true
  pub elsewhere : (u : ℕ) → (u ≡ v → ⊥) → is_order u txn content ≡ false
  pub no_report : (u : ℕ) → is_report u txn content ≡ false
  pub no_begin : is_begin_of txn content ≡ false

-- the message is a report of the transaction from the virtual node, and nothing else
pub record IsReportFrom (v : ℕ) (txn : TxnId) (content : Content) : Type 0 where
  pub about : is_about txn content ≡ true
  pub own : is_report v txn content ≡ true
  pub no_order : (u : ℕ) → is_order u txn content ≡ false
  pub no_begin : is_begin_of txn content ≡ false

pub one-report : (v : ℕ) (txn : TxnId) (content : Content) → IsReportFrom v txn content → All (IsReportFrom v txn) (content ∷ [])
one-report v txn content is = All-cons (IsReportFrom v txn) content [] is (All-nil (IsReportFrom v txn))

-- the messages to one actor
abbrev pub sent_all : ℕ → List Content → List Outgoing
sent_all to contents = map (λ content. sent to content) contents

contents-all : (to : ℕ) (contents : List Content) → contents_to to (sent_all to contents) ≡ contents
contents-all to [] = refl
contents-all to (x ∷ xs) = ap (map (λ (send : Outgoing). send.payload)) (cond-true _ _ _ (eq-eqb to to refl)) ∙ ap (λ ys. x ∷ ys) (contents-all to xs)

filter-all : (p : Content → Bool) (xs : List Content) → All (λ x. p x ≡ true) xs → filter p xs ≡ xs
filter-all p [] h = refl
filter-all p (x ∷ xs) h = cond-true _ _ _ (All-head (λ y. p y ≡ true) x xs h) ∙ ap (λ ys. x ∷ ys) (filter-all p xs (All-tail (λ y. p y ≡ true) x xs h))

tail_of : List Content → List Content
tail_of [] = []
tail_of (x ∷ xs) = xs

pub tail-nil : (x y : Content) (xs : List Content) → x ∷ xs ≡ y ∷ [] → xs ≡ []
unfolding tail_of
tail-nil x y xs e = ap tail_of e

module _ (shape : Shape) (world : ReplicaWorld) (txn : TxnId) (v : ℕ) (content : Content) (rest : List Content)
    (h : world.mail (home_in shape.nodes txn) v ≡ content ∷ rest) (order : IsOrderFor v txn content) (done : Stepped) (said : List Content)
    (is_said : done.step.sends ≡ sent_all (home_in shape.nodes txn) said) (reports : All (IsReportFrom v txn) said)
    (same_control : done.state.control ≡ (world.replicas v).control) (none_firm : done.step.firm ≡ []) where
  abbrev after : ReplicaWorld
  after = acted world (home_in shape.nodes txn) v rest done

  -- what holds of each report holds of what is sent
  sends-all : (P : Content → Type 0) → ((c : Content) → IsReportFrom v txn c → P c) → All (λ send. P send.payload) done.step.sends
  sends-all P each = subst (All (λ (send : Outgoing). P send.payload)) (sym is_said)
      (All-map (λ (send : Outgoing). P send.payload) (λ c. sent (home_in shape.nodes txn) c) said (All-weaker (IsReportFrom v txn) P each said reports))

  pub status-participant : SameStatus shape.nodes world after txn
  status-participant = record {
    begun = refl;
    beginning = beginning-same shape.nodes world (home_in shape.nodes txn) v content rest h done txn order.no_begin (sends-all (λ c. is_begin_of txn c ≡ false) (λ c is. is.no_begin));
    entry = at_replica (λ replica. entry_of replica.control txn) world.replicas v done.state (home_in shape.nodes txn) (ap (λ control. entry_of control txn) same_control);
    member = ap (λ firm. is_member txn (with_firm world.history firm)) none_firm;
  }

  -- at another virtual node nothing has changed
  view-elsewhere : (u : ℕ) → (u ≡ v → ⊥) → part_view shape.nodes after txn u ≡ part_view shape.nodes world txn u
  view-elsewhere u apart = same_view _ _
      (mail-same world (home_in shape.nodes txn) v content rest h done (is_order u txn) (order.elsewhere u apart) (sends-all (λ c. is_order u txn c ≡ false) (λ c is. is.no_order u)) (home_in shape.nodes txn) u)
      (mail-acted world (home_in shape.nodes txn) v rest done (is_report u txn) u (home_in shape.nodes txn)
      ∙ ap (λ xs. filter (is_report u txn) (with_way world.mail (home_in shape.nodes txn) v rest u (home_in shape.nodes txn)) ++ xs) (cond-false _ _ _ (ne_eqb u v apart))
      ∙ append-nil _ ∙ way-other world.mail (home_in shape.nodes txn) v content rest h (is_report u txn) (order.no_report u) u (home_in shape.nodes txn))
      (ap (λ (replica : ReplicaState). stage_of replica.part.log txn) (cond-false _ done.state (world.replicas u) (ne_eqb u v apart)))

  -- the order that was the only one is gone
  pub orders-here : (was : Content) → filter (is_order v txn) (world.mail (home_in shape.nodes txn) v) ≡ was ∷ [] → (part_view shape.nodes after txn v).orders ≡ []
  orders-here was one =
      mail-acted world (home_in shape.nodes txn) v rest done (is_order v txn) (home_in shape.nodes txn) v
      ∙ ap (λ xs. filter (is_order v txn) (with_way world.mail (home_in shape.nodes txn) v rest (home_in shape.nodes txn) v) ++ xs)
      (news-none (is_order v txn) v done.step.sends (home_in shape.nodes txn) v (sends-all (λ c. is_order v txn c ≡ false) (λ c is. is.no_order v)))
      ∙ append-nil _ ∙ tail-nil content was _ (sym (way-head world.mail (home_in shape.nodes txn) v content rest h (is_order v txn) order.own) ∙ one)

  -- what is said is on its way back
  pub reports-here : home_in shape.nodes txn < shape.nodes → shape.nodes ≤ 8 → filter (is_report v txn) (world.mail v (home_in shape.nodes txn)) ≡ [] → (part_view shape.nodes after txn v).reports ≡ said
  reports-here home few none =
      mail-acted world (home_in shape.nodes txn) v rest done (is_report v txn) v (home_in shape.nodes txn)
      ∙ ap (λ xs. xs ++ news (is_report v txn) v done.step.sends v (home_in shape.nodes txn))
      (way-other world.mail (home_in shape.nodes txn) v content rest h (is_report v txn) (order.no_report v) v (home_in shape.nodes txn) ∙ none)
      ∙ cond-true _ _ _ (eq-eqb v v refl)
      ∙ ap (filter (is_report v txn)) (ap (sent_to (home_in shape.nodes txn)) is_said ∙ sent-contents (home_in shape.nodes txn) shape.nodes _ home few ∙ contents-all (home_in shape.nodes txn) said)
      ∙ filter-all (is_report v txn) said (All-weaker (IsReportFrom v txn) (λ c. is_report v txn c ≡ true) (λ c is. is.own) said reports)

  pub stage-here : (part_view shape.nodes after txn v).stage ≡ stage_of done.state.part.log txn
  stage-here = ap (λ (replica : ReplicaState). stage_of replica.part.log txn) (with_at-here world.replicas v done.state)

  -- it lives on as it did, and stands at the participant as said
  lives-participant : (lives : Lives shape world txn) → ((standing : Standing) × StandsSo v txn (part_view shape.nodes after txn v) standing × MayStand lives.life v standing) → Lives shape after txn
  lives-participant lives here = record {
    life = lives.life;
    so_far = so_far-same shape.nodes world after txn status-participant lives.life lives.so_far;
    stands = λ u below. elim (cases_eq u v) [
      | inl same ↦ subst (λ x. (standing : Standing) × StandsSo x txn (part_view shape.nodes after txn x) standing × MayStand lives.life x standing) (sym same) here
      | inr apart ↦ (let was = lives.stands u below in (was.0, subst (λ view. StandsSo u txn view was.0) (sym (view-elsewhere u apart)) was.1, was.2))
    ];
  }

  pub good-participant : (lives : Lives shape world txn) → ((standing : Standing) × StandsSo v txn (part_view shape.nodes after txn v) standing × MayStand lives.life v standing) →
      ((other : TxnId) → same_txn txn other ≡ false → stage_of done.state.part.log other ≡ stage_of (world.replicas v).part.log other) → IsWholePart done.state.part →
      ((c : Content) → IsReportFrom v txn c → IsTrueOutcome shape after c) → IsGoodStep shape world (home_in shape.nodes txn) v rest txn done
  good-participant lives here others whole true_outcome = record {
    about = record {
      sends = sends-all (λ c. is_about txn c ≡ true) (λ c is. is.about);
      entries = λ other differ. ap (λ control. entry_of control other) same_control;
      stages = others;
      firm = inl none_firm;
    };
    lives = lives-participant lives here;
    settled = record {
      committed_stays = so_far-same shape.nodes world after txn status-participant committed;
      aborted_stays = so_far-same shape.nodes world after txn status-participant aborted;
    };
    told = sends-all (IsTrueOutcome shape after) true_outcome;
    whole = whole;
  }
