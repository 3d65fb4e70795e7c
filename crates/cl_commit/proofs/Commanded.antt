-- A command comes to the controller: its session waits for it, so the transaction is the one that it began last.
use Rattle.std.proofs.Common.{◌≡◌, ℕ, ◌%◌, ◌≤◌, Bool, true, false, cond, eqb, nat_eq, List, [], ◌∷◌, filter, Some, refl, sym, ap, ◌∙◌, subst}
use Rattle.std.proofs.lemmas.Bool.{and_parts, eq-eqb, true≢false}
use Rattle.cl_types.specs.declared.operations.Command.{Command as ClientCommand}
use Rattle.cl_types.specs.declared.operations.TxnId.{TxnId}
use Rattle.cl_types.specs.Transactions.{same_txn}
use Rattle.cl_types.proofs.Transactions.{same_txn-itself}
use Rattle.cl_control.specs.declared.entry.Phase.TheVariants.{Idle}
use Rattle.cl_control.specs.State.{Entry, entry_named}
use Rattle.cl_exchange.specs.Stage.{is_of_session, SessionView, view_of, Stage, outside, ready, asking, working, telling, last_begun, WaitsForNext, HasBeforeCommand, IsAt}
use Rattle.cl_front.specs.declared.current.Current.{Current}
use Rattle.cl_node.specs.Addressing.{home_in}
use Rattle.cl_runs.specs.World.{Shape}
use Rattle.cl_steps.specs.declared.actors.TheConstants.{FRONT}
use Rattle.cl_system.specs.Replicas.{ReplicaWorld, with_way}
use Rattle.cl_system.specs.Roles.{IsInPlace}
use Rattle.cl_wire.specs.Message.{Content, Command}
use Rattle.cl_commit.specs.Life.{entry_in, Lives, IsWholePart}
use Rattle.cl_commit.proofs.Frames.{way-head}
use Rattle.cl_commit.proofs.Orders.{none-some, same_heads}
use Rattle.cl_commit.proofs.Participants.{tail-nil}

-- what is known of the event
pub record IsCommand (shape : Shape) (world : ReplicaWorld) (txn : TxnId) (v number : ℕ) (what : ClientCommand) (rest : List Content) : Type 0 where
  pub waits : world.mail FRONT (home_in shape.nodes txn) ≡ Command v txn number what ∷ rest
  pub lives : Lives shape world txn
  pub whole : IsWholePart (world.replicas (home_in shape.nodes txn)).part
  pub place : IsInPlace shape.nodes (home_in shape.nodes txn) (world.replicas (home_in shape.nodes txn))
  pub stage : Stage
  pub at : IsAt shape.nodes txn.session (view_of shape.nodes world txn.session) stage
  pub few : shape.nodes ≤ 8
  pub not_front : eqb FRONT (home_in shape.nodes txn) ≡ false

-- the session waits for its outcome
pub record IsAwaited (s : ℕ) (view : SessionView) (txn : TxnId) (what : ClientCommand) (others : List Content) : Type 0 where
  pub current : Current
  pub entries : List Entry
  pub of : last_begun s view.session ≡ txn
  pub has : view.entries ≡ entries
  pub before : HasBeforeCommand s view current what entries
  pub alone : others ≡ []

awaited-by : (nodes s : ℕ) (view : SessionView) (txn : TxnId) (v number : ℕ) (what : ClientCommand) (others : List Content) (stage : Stage) → IsAt nodes s view stage → view.commands ≡ Command v txn number what ∷ others →
    IsAwaited s view txn what others
awaited-by nodes s view txn v number what others outside is head = absurd (none-some _ _ _ is.1.commands head)
awaited-by nodes s view txn v number what others (ready current entry) is head = absurd (none-some _ _ _ is.commands head)
awaited-by nodes s view txn v number what others (asking current asked entries) is head =
    let e : Command (s % nodes) (last_begun s view.session) current.commands asked ≡ Command v txn number what = same_heads _ _ _ _ _ is.commands head in
    let of : last_begun s view.session ≡ txn = cc in
    let same : asked ≡ what = cc in
    record { current = current; entries = entries; of = of; has = is.has; before = subst (λ c. HasBeforeCommand s view current c entries) same is.before; alone = tail-nil (Command v txn number what) _ others (sym head ∙ is.commands) }
awaited-by nodes s view txn v number what others (working current entry) is head = absurd (none-some _ _ _ is.commands head)
awaited-by nodes s view txn v number what others (telling current outcome entries) is head = absurd (none-some _ _ _ is.commands head)

-- a test that passes less
pub filter-sub : (p q : Content → Bool) → ((c : Content) → p c ≡ true → q c ≡ true) → (xs : List Content) → filter q xs ≡ [] → filter p xs ≡ []
filter-sub p q sub [] none = refl
filter-sub p q sub (x ∷ xs) none = by (filter-sub p q sub xs) (p x) refl (q x) refl none
  where
    by : (filter q xs ≡ [] → filter p xs ≡ []) → (b : Bool) → p x ≡ b → (c : Bool) → q x ≡ c → cond c (x ∷ filter q xs) (filter q xs) ≡ [] → cond b (x ∷ filter p xs) (filter p xs) ≡ []
    by rest b e true f k = absurd (cc)
    by rest true e false f k = absurd (true≢false (sym (sub x e) ∙ f))
    by rest false e false f k = rest k

-- the one of a session is found by its name
found-only : (txn : TxnId) (entries : List Entry) (entry : Entry) → filter (λ (e : Entry). nat_eq txn.session e.txn.session) entries ≡ entry ∷ [] → entry.txn ≡ txn → entry_named txn entries ≡ Some entry
found-only txn [] entry only is = absurd (cc)
found-only txn (x ∷ xs) entry only is = by (found-only txn xs entry) (same_txn txn x.txn) refl (nat_eq txn.session x.txn.session) refl only is
  where
    own : entry.txn ≡ txn → same_txn txn entry.txn ≡ true
    own e = ap (same_txn txn) e ∙ same_txn-itself txn

    by : (filter (λ (e : Entry). nat_eq txn.session e.txn.session) xs ≡ entry ∷ [] → entry.txn ≡ txn → entry_named txn xs ≡ Some entry) → (b : Bool) → same_txn txn x.txn ≡ b → (c : Bool) → nat_eq txn.session x.txn.session ≡ c →
        cond c (x ∷ filter (λ (e : Entry). nat_eq txn.session e.txn.session) xs) (filter (λ (e : Entry). nat_eq txn.session e.txn.session) xs) ≡ entry ∷ [] → entry.txn ≡ txn → cond b (Some x) (entry_named txn xs) ≡ Some entry
    by rest true e true f k of = let same : x ≡ entry = cc in ap (λ (y : Entry). Some y) same
    by rest true e false f k of = absurd (true≢false (sym (and_parts _ _ e).0 ∙ f))
    by rest false e true f k of = let same : x ≡ entry = cc in absurd (true≢false (sym (own of) ∙ ap (λ (y : Entry). same_txn txn y.txn) (sym same) ∙ e))
    by rest false e false f k of = rest k of

module _ (shape : Shape) (world : ReplicaWorld) (txn : TxnId) (v number : ℕ) (what : ClientCommand) (rest : List Content) (is : IsCommand shape world txn v number what rest) where
  pub awaited : IsAwaited txn.session (view_of shape.nodes world txn.session) txn what (filter (is_of_session txn.session) (with_way world.mail FRONT (home_in shape.nodes txn) rest FRONT (home_in shape.nodes txn)))
  awaited = awaited-by shape.nodes txn.session (view_of shape.nodes world txn.session) txn v number what _ is.stage is.at
      (way-head world.mail FRONT (home_in shape.nodes txn) (Command v txn number what) rest is.waits (is_of_session txn.session) (eq-eqb txn.session txn.session refl))

  -- the open transaction waits for it
  pub record HasIdle : Type 0 where
    pub entry : Entry
    pub found : entry_in shape.nodes world txn ≡ Some entry
    pub idle : entry.phase ≡ Idle

  pub idle-from : (entry : Entry) → awaited.entries ≡ entry ∷ [] → WaitsForNext txn.session (view_of shape.nodes world txn.session) entry → HasIdle
  idle-from entry one waits = record {
    entry = entry;
    found = found-only txn (world.replicas (home_in shape.nodes txn)).control.transactions entry (awaited.has ∙ one) (waits.of ∙ awaited.of);
    idle = waits.phase;
  }
