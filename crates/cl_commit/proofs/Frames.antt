-- Messages about one transaction, and what a step of a replica makes of what is on its way.
use Rattle.std.proofs.Common.{◌≡◌, ℕ, Bool, true, false, cond, eqb, ◌&&◌, ◌||◌, if◌then◌else◌, List, [], ◌∷◌, ◌++◌, map, filter, All, nat_lt, refl, sym, ap, ◌∙◌, subst₂}
use Rattle.std.specs.List.{list_any}
use Rattle.std.proofs.lemmas.Bool.{cond-true, cond-false, cond_both, and_parts, and_from, and_right, eqb-true, eq-eqb}
use Rattle.std.proofs.lemmas.List.{append-nil}
use Rattle.std.proofs.lemmas.List.Elements.{filter-append, All-head, All-tail}
use Rattle.cl_types.specs.declared.operations.Command.TheVariants.{Begin, Work, Commit, Abort}
use Rattle.cl_types.specs.declared.operations.TxnId.{TxnId}
use Rattle.cl_types.specs.Transactions.{same_txn}
use Rattle.cl_types.proofs.Transactions.{same_txn-true, same_txn-symmetric}
use Rattle.cl_endpoint.specs.declared.limits.TheConstants.{ACTORS}
use Rattle.cl_endpoint.specs.Laws.{contents_to}
use Rattle.cl_runs.specs.Queues.{sent_to}
use Rattle.cl_steps.specs.declared.steps.Outgoing.{Outgoing}
use Rattle.cl_system.specs.Replicas.{ReplicaWorld, Mail, with_mail, with_way, replica_acts}
use Rattle.cl_vnode.specs.Step.{Stepped}
use Rattle.cl_wire.specs.Message.{Content, Command, Outcome, Ask, Answer, Prepare, Vote, Finish}
use Rattle.cl_commit.specs.Standing.{is_order, is_report}
use Rattle.cl_commit.specs.Life.{is_begin_of}

-- the message is about the transaction
abbrev pub is_about : TxnId → Content → Bool
is_about txn (Command v other number what) = same_txn txn other
is_about txn (Outcome other number outcome) = same_txn txn other
is_about txn (Ask v other number table key op) = same_txn txn other
is_about txn (Answer v other number answer) = same_txn txn other
is_about txn (Prepare v other) = same_txn txn other
is_about txn (Vote v other) = same_txn txn other
is_about txn (Finish v other commit) = same_txn txn other
is_about txn content = false

-- who is the same as one is apart from another
pub other_apart : (txn apart other : TxnId) → same_txn txn apart ≡ false → same_txn txn other ≡ true → same_txn apart other ≡ false
other_apart txn apart other differ same = ap (same_txn apart) (sym (same_txn-true txn other same)) ∙ same_txn-symmetric apart txn ∙ differ

-- what is about one transaction is no order, no report and no BEGIN of another
module _ (txn other : TxnId) (differ : same_txn txn other ≡ false) where
  pub order-apart : (v : ℕ) (content : Content) → is_about txn content ≡ true → is_order v other content ≡ false
  order-apart v (Ask w of number table key op) h = and_right _ _ (other_apart txn other of differ h)
  order-apart v (Prepare w of) h = and_right _ _ (other_apart txn other of differ h)
  order-apart v (Finish w of commit) h = and_right _ _ (other_apart txn other of differ h)
  order-apart v content h = refl

  pub report-apart : (v : ℕ) (content : Content) → is_about txn content ≡ true → is_report v other content ≡ false
  report-apart v (Answer w of number answer) h = and_right _ _ (other_apart txn other of differ h)
  report-apart v (Vote w of) h = and_right _ _ (other_apart txn other of differ h)
  report-apart v content h = refl

  pub begin-apart : (content : Content) → is_about txn content ≡ true → is_begin_of other content ≡ false
  begin-apart (Command v of number Begin) h = other_apart txn other of differ h
  begin-apart (Command v of number (Work table key op)) h = refl
  begin-apart (Command v of number Commit) h = refl
  begin-apart (Command v of number Abort) h = refl
  begin-apart content h = refl

-- ---- the head of a queue is taken off

module _ (mail : Mail) (from to : ℕ) (content : Content) (rest : List Content) (h : mail from to ≡ content ∷ rest) where
  -- what the head does not pass stays
  pub way-other : (p : Content → Bool) → p content ≡ false → (a b : ℕ) → filter p (with_way mail from to rest a b) ≡ filter p (mail a b)
  way-other p fails a b = cond_both (eqb b to && eqb a from) rest (mail a b) (λ xs. filter p xs ≡ filter p (mail a b))
      (λ here. let parts : (eqb b to ≡ true) × (eqb a from ≡ true) = and_parts (eqb b to) (eqb a from) here in
      sym (subst₂ (λ x y. filter p (mail x y) ≡ filter p rest) (sym (eqb-true a from parts.1)) (sym (eqb-true b to parts.0)) (ap (filter p) h ∙ cond-false _ _ _ fails)))
      (λ elsewhere. refl)

  pub way-here : with_way mail from to rest from to ≡ rest
  way-here = cond-true _ _ _ (and_from _ _ (eq-eqb to to refl) (eq-eqb from from refl))

  pub way-head : (p : Content → Bool) → p content ≡ true → filter p (mail from to) ≡ content ∷ filter p (with_way mail from to rest from to)
  way-head p passes = ap (filter p) h ∙ cond-true _ _ _ passes ∙ ap (λ xs. content ∷ filter p xs) (sym way-here)

-- another queue stays
pub way-apart : (mail : Mail) (from to : ℕ) (rest : List Content) (a b : ℕ) → (eqb b to && eqb a from) ≡ false → with_way mail from to rest a b ≡ mail a b
way-apart mail from to rest a b apart = cond-false _ _ _ apart

-- ---- what a giver sends is put at the ends

-- what passes a test of what a giver sends
abbrev pub news : (Content → Bool) → ℕ → List Outgoing → ℕ → ℕ → List Content
news p giver sends a b = if eqb a giver then filter p (sent_to b sends) else []

pub mail-more : (p : Content → Bool) (mail : Mail) (giver : ℕ) (sends : List Outgoing) (a b : ℕ) → filter p (with_mail mail giver sends a b) ≡ filter p (mail a b) ++ news p giver sends a b
mail-more p mail giver sends a b = by (eqb a giver)
  where
    by : (here : Bool) → filter p (cond here (mail a b ++ sent_to b sends) (mail a b)) ≡ filter p (mail a b) ++ cond here (filter p (sent_to b sends)) []
    by true = filter-append p (mail a b) (sent_to b sends)
    by false = sym (append-nil (filter p (mail a b)))

pub contents-none : (p : Content → Bool) (b : ℕ) (sends : List Outgoing) → All (λ send. p send.payload ≡ false) sends → filter p (contents_to b sends) ≡ []
contents-none p b [] h = refl
contents-none p b (x ∷ xs) h = by (contents-none p b xs (All-tail (λ send. p send.payload ≡ false) x xs h)) (eqb x.to b)
  where
    by : filter p (contents_to b xs) ≡ [] → (here : Bool) → filter p (map (λ send. send.payload) (cond here (x ∷ filter (λ send. eqb send.to b) xs) (filter (λ send. eqb send.to b) xs))) ≡ []
    by rest true = cond-false _ _ _ (All-head (λ send. p send.payload ≡ false) x xs h) ∙ rest
    by rest false = rest

pub sent-none : (p : Content → Bool) (b : ℕ) (sends : List Outgoing) → All (λ send. p send.payload ≡ false) sends → filter p (sent_to b sends) ≡ []
sent-none p b sends h = by (nat_lt b ACTORS)
  where
    by : (is : Bool) → filter p (cond is (contents_to b sends) []) ≡ []
    by true = contents-none p b sends h
    by false = refl

pub news-none : (p : Content → Bool) (giver : ℕ) (sends : List Outgoing) (a b : ℕ) → All (λ send. p send.payload ≡ false) sends → news p giver sends a b ≡ []
news-none p giver sends a b h = by (eqb a giver)
  where
    by : (here : Bool) → cond here (filter p (sent_to b sends)) [] ≡ []
    by true = sent-none p b sends h
    by false = refl

-- ---- whether some message passes

abbrev pub is_some_left : List Content → Bool
is_some_left [] = false
is_some_left (x ∷ xs) = true

pub any-filter : (p : Content → Bool) (xs : List Content) → list_any p xs ≡ is_some_left (filter p xs)
any-filter p [] = refl
any-filter p (x ∷ xs) = by (any-filter p xs) (p x)
  where
    by : list_any p xs ≡ is_some_left (filter p xs) → (b : Bool) → (b || list_any p xs) ≡ is_some_left (cond b (x ∷ filter p xs) (filter p xs))
    by rest true = refl
    by rest false = rest

-- ---- a replica takes the head of a queue and steps

-- the system after the replica of a virtual node took the head of a queue, and made this step
abbrev pub acted : ReplicaWorld → ℕ → ℕ → List Content → Stepped → ReplicaWorld
acted world from to rest done = replica_acts (record world { mail = with_way world.mail from to rest }) to done

pub mail-acted : (world : ReplicaWorld) (from to : ℕ) (rest : List Content) (done : Stepped) (p : Content → Bool) (a b : ℕ) →
    filter p ((acted world from to rest done).mail a b) ≡ filter p (with_way world.mail from to rest a b) ++ news p to done.step.sends a b
mail-acted world from to rest done p a b = mail-more p (with_way world.mail from to rest) to done.step.sends a b

-- neither the head nor what is sent passes
pub mail-same : (world : ReplicaWorld) (from to : ℕ) (content : Content) (rest : List Content) → world.mail from to ≡ content ∷ rest → (done : Stepped) (p : Content → Bool) →
    p content ≡ false → All (λ send. p send.payload ≡ false) done.step.sends → (a b : ℕ) →
    filter p ((acted world from to rest done).mail a b) ≡ filter p (world.mail a b)
mail-same world from to content rest h done p fails none a b =
    mail-acted world from to rest done p a b
    ∙ ap (λ xs. filter p (with_way world.mail from to rest a b) ++ xs) (news-none p to done.step.sends a b none)
    ∙ append-nil _ ∙ way-other world.mail from to content rest h p fails a b
