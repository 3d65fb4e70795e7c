-- What the participants of a transaction are told: one order to each.
use Rattle.std.proofs.Common.{◌≡◌, ℕ, zero, suc, ◌+◌, ◌<◌, ◌≤◌, inl, inr, Bool, true, false, cond, eqb, nat_eq, ◌&&◌, List, [], ◌∷◌, ◌++◌, map, filter, All, refl, sym, ap, ◌∙◌, subst, arith}
use Rattle.std.specs.List.{range_with_len}
use Rattle.std.proofs.lemmas.Bool.{cond-true, cond-false, cases_eq, eqb-true, eq-eqb, ne_eqb, lt-ltb, eqb-false}
use Rattle.std.proofs.lemmas.List.{append-nil, map-append}
use Rattle.std.proofs.lemmas.List.Elements.{All-cons, filter-append}
use Rattle.cl_types.specs.declared.operations.TxnId.{TxnId}
use Rattle.cl_types.proofs.Transactions.{same_txn-itself}
use Rattle.cl_control.specs.declared.acts.Act.{Act}
use Rattle.cl_control.specs.declared.acts.Act.TheVariants as acts
use Rattle.cl_control.specs.State.{is_among, ascending}
use Rattle.cl_endpoint.specs.declared.limits.TheConstants.{ACTORS}
use Rattle.cl_endpoint.specs.Laws.{contents_to}
use Rattle.cl_lone.specs.Lone.{messages_of}
use Rattle.cl_runs.specs.Queues.{sent_to}
use Rattle.cl_steps.specs.declared.steps.Outgoing.{Outgoing}
use Rattle.cl_steps.specs.Steps.{sent}
use Rattle.cl_system.specs.Replicas.{own_primary}
use Rattle.cl_wire.specs.Message.{Content, Prepare, Finish}
use Rattle.cl_commit.specs.Standing.{is_order}

-- what a participant is told: to vote, or that the transaction has ended
pub data Notice : Type 0 where
  to_prepare : Notice
  to_finish : Bool → Notice

-- the act of a notice
abbrev pub act_of : Notice → TxnId → ℕ → Act
act_of to_prepare txn v = acts.Prepare v txn
act_of (to_finish commit) txn v = acts.Finish v txn commit

-- the order of a notice
abbrev pub order_of : Notice → TxnId → ℕ → Content
order_of to_prepare txn v = Prepare v txn
order_of (to_finish commit) txn v = Finish v txn commit

-- the orders to these virtual nodes
abbrev pub orders_to : Notice → TxnId → List ℕ → List Outgoing
orders_to what txn us = map (λ u. sent u (order_of what txn u)) us

pub messages-told : (what : Notice) (txn : TxnId) (us : List ℕ) (more : List Act) → messages_of own_primary (map (act_of what txn) us ++ more) ≡ orders_to what txn us ++ messages_of own_primary more
messages-told what txn [] more = refl
messages-told to_prepare txn (u ∷ us) more = ap (λ xs. sent u (Prepare u txn) ∷ xs) (messages-told to_prepare txn us more)
messages-told (to_finish commit) txn (u ∷ us) more = ap (λ xs. sent u (Finish u txn commit) ∷ xs) (messages-told (to_finish commit) txn us more)

-- what holds of each order and of what comes behind
pub All-told : (P : Outgoing → Type 0) (what : Notice) (txn : TxnId) (us : List ℕ) (more : List Outgoing) → ((u : ℕ) → P (sent u (order_of what txn u))) → All P more → All P (orders_to what txn us ++ more)
All-told P what txn [] more each rest = rest
All-told P what txn (u ∷ us) more each rest = All-cons P _ _ (each u) (All-told P what txn us more each rest)

-- the order passes for its own virtual node
is_order-own : (what : Notice) (txn : TxnId) (v u : ℕ) → is_order v txn (order_of what txn u) ≡ nat_eq v u
is_order-own to_prepare txn v u = ap (λ b. nat_eq v u && b) (same_txn-itself txn) ∙ keep (nat_eq v u)
  where
    keep : (b : Bool) → (b && true) ≡ b
    keep true = refl
    keep false = refl
is_order-own (to_finish commit) txn v u = ap (λ b. nat_eq v u && b) (same_txn-itself txn) ∙ keep (nat_eq v u)
  where
    keep : (b : Bool) → (b && true) ≡ b
    keep true = refl
    keep false = refl

swapped : (u v : ℕ) (b : Bool) → eqb u v ≡ b → nat_eq v u ≡ b
swapped u v true h = eq-eqb v u (sym (eqb-true u v h))
swapped u v false h = ne_eqb v u (λ e. eqb-false u v h (sym e))

-- of these orders exactly its own comes to a virtual node
contents-told : (what : Notice) (txn : TxnId) (v : ℕ) (us : List ℕ) → filter (is_order v txn) (contents_to v (orders_to what txn us)) ≡ map (order_of what txn) (filter (nat_eq v) us)
contents-told what txn v [] = refl
contents-told what txn v (u ∷ us) = by (contents-told what txn v us) (eqb u v) refl
  where
    by : filter (is_order v txn) (contents_to v (orders_to what txn us)) ≡ map (order_of what txn) (filter (nat_eq v) us) → (here : Bool) → eqb u v ≡ here →
        filter (is_order v txn) (map (λ (send : Outgoing). send.payload) (cond here (sent u (order_of what txn u) ∷ filter (λ (send : Outgoing). eqb send.to v) (orders_to what txn us)) (filter (λ (send : Outgoing). eqb send.to v) (orders_to what txn us))))
        ≡ map (order_of what txn) (cond (nat_eq v u) (u ∷ filter (nat_eq v) us) (filter (nat_eq v) us))
    by rest true here =
        cond-true _ _ _ (is_order-own what txn v u ∙ swapped u v true here) ∙ ap (λ xs. order_of what txn u ∷ xs) rest
        ∙ sym (ap (map (order_of what txn)) (cond-true _ _ _ (swapped u v true here)))
    by rest false here = rest ∙ sym (ap (map (order_of what txn)) (cond-false _ _ _ (swapped u v false here)))

-- a virtual node below those of a range, and one within it
none_below : (q : ℕ → Bool) (v from n : ℕ) → v < from → filter (nat_eq v) (filter q (range_with_len from n)) ≡ []
none_below q v from zero below = refl
none_below q v from (suc n) below = by (none_below q v (from + 1) n (omega arith)) (q from)
  where
    by : filter (nat_eq v) (filter q (range_with_len (from + 1) n)) ≡ [] → (b : Bool) → filter (nat_eq v) (cond b (from ∷ filter q (range_with_len (from + 1) n)) (filter q (range_with_len (from + 1) n))) ≡ []
    by rest true = cond-false _ _ _ (ne_eqb v from (λ e. absurd (omega arith))) ∙ rest
    by rest false = rest

one_within : (q : ℕ → Bool) (v from n : ℕ) → from ≤ v → v < from + n → filter (nat_eq v) (filter q (range_with_len from n)) ≡ cond (q v) (v ∷ []) []
one_within q v from zero above below = absurd (omega arith)
one_within q v from (suc n) above below = elim (cases_eq v from) [
  | inl here ↦ subst (λ m. filter (nat_eq v) (filter q (m ∷ range_with_len (m + 1) n)) ≡ cond (q v) (v ∷ []) []) here (first (q v))
  | inr there ↦ later (one_within q v (from + 1) n (omega arith) (omega arith)) there (q from)
]
  where
    first : (b : Bool) → filter (nat_eq v) (cond b (v ∷ filter q (range_with_len (v + 1) n)) (filter q (range_with_len (v + 1) n))) ≡ cond b (v ∷ []) []
    first true = cond-true _ _ _ (eq-eqb v v refl) ∙ ap (λ xs. v ∷ xs) (none_below q v (v + 1) n (omega arith))
    first false = none_below q v (v + 1) n (omega arith)

    later : filter (nat_eq v) (filter q (range_with_len (from + 1) n)) ≡ cond (q v) (v ∷ []) [] → (v ≡ from → ⊥) → (b : Bool) →
        filter (nat_eq v) (cond b (from ∷ filter q (range_with_len (from + 1) n)) (filter q (range_with_len (from + 1) n))) ≡ cond (q v) (v ∷ []) []
    later rest apart true = cond-false _ _ _ (ne_eqb v from apart) ∙ rest
    later rest apart false = rest

pub one_of_ascending : (nodes : ℕ) (vs : List ℕ) (v : ℕ) → v < nodes → filter (nat_eq v) (ascending nodes vs) ≡ cond (is_among v vs) (v ∷ []) []
one_of_ascending nodes vs v below = one_within (λ u. is_among u vs) v 0 nodes (omega arith) (omega arith)

-- the order that a virtual node is told, if it is among these
abbrev pub told_to : Notice → TxnId → Bool → ℕ → List Content
told_to what txn among v = cond among (order_of what txn v ∷ []) []

map-told : (what : Notice) (txn : TxnId) (v : ℕ) (b : Bool) → map (order_of what txn) (cond b (v ∷ []) []) ≡ told_to what txn b v
map-told what txn v true = refl
map-told what txn v false = refl

contents-append : (v : ℕ) (xs ys : List Outgoing) → contents_to v (xs ++ ys) ≡ contents_to v xs ++ contents_to v ys
contents-append v xs ys = ap (map (λ (send : Outgoing). send.payload)) (filter-append (λ (send : Outgoing). eqb send.to v) xs ys) ∙ map-append (λ (send : Outgoing). send.payload) _ _

-- what is sent to an actor
pub sent-contents : (v nodes : ℕ) (sends : List Outgoing) → v < nodes → nodes ≤ 8 → sent_to v sends ≡ contents_to v sends
sent-contents v nodes sends below few = cond-true _ _ _ (lt-ltb v ACTORS (omega arith))

-- each participant is told once, and what comes behind is no order
pub orders-told : (what : Notice) (txn : TxnId) (nodes : ℕ) (vs : List ℕ) (more : List Outgoing) (v : ℕ) → v < nodes → nodes ≤ 8 → filter (is_order v txn) (contents_to v more) ≡ [] →
    filter (is_order v txn) (sent_to v (orders_to what txn (ascending nodes vs) ++ more)) ≡ told_to what txn (is_among v vs) v
orders-told what txn nodes vs more v below few none =
    ap (filter (is_order v txn)) (sent-contents v nodes _ below few ∙ contents-append v (orders_to what txn (ascending nodes vs)) more)
    ∙ filter-append (is_order v txn) (contents_to v (orders_to what txn (ascending nodes vs))) (contents_to v more)
    ∙ ap (λ xs. filter (is_order v txn) (contents_to v (orders_to what txn (ascending nodes vs))) ++ xs) none ∙ append-nil _
    ∙ contents-told what txn v (ascending nodes vs) ∙ ap (map (order_of what txn)) (one_of_ascending nodes vs v below) ∙ map-told what txn v (is_among v vs)
