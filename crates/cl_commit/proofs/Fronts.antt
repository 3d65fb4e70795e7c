-- The front takes a step: a transaction goes on as it did, but for a BEGIN that is sent.
use Rattle.std.proofs.Common.{◌≡◌, ℕ, ◌-◌, ◌%◌, ◌<◌, ◌≤◌, Bool, true, false, cond, eqb, ◌||◌, inl, inr, List, [], ◌∷◌, ◌++◌, map, filter, length, All, slice_index_or, slice_set, refl, sym, ap, ◌∙◌, subst, arith}
use Rattle.std.specs.List.{list_any}
use Rattle.std.proofs.lemmas.Bool.{ne_eqb, cases_lt, cases_eq, cond-true, cond-false, eq-eqb, or_from, or_left, or_right, false_from_ne_true, false≢true, leb-true, and_parts}
use Rattle.std.proofs.lemmas.List.{get_or-set_same, get_or-set_other}
use Rattle.std.proofs.lemmas.List.Elements.{All-head, All-tail, All-weaker}
use Rattle.std.proofs.lemmas.List.Folds.{list_any-append}
use Rattle.cl_endpoint.specs.Laws.{contents_to}
use Rattle.cl_front.specs.Front.{FrontState}
use Rattle.cl_front.specs.Session.{SessionState, no_session, Turned}
use Rattle.cl_front.specs.Sessions.{session_in, with_session}
use Rattle.cl_node.specs.Addressing.{home_in}
use Rattle.cl_runs.specs.Queues.{sent_to}
use Rattle.cl_runs.specs.World.{Shape}
use Rattle.cl_steps.specs.declared.actors.TheConstants.{FRONT}
use Rattle.cl_steps.specs.declared.steps.Outgoing.{Outgoing}
use Rattle.cl_system.specs.Replicas.{ReplicaWorld, Mail, with_mail}
use Rattle.cl_system.specs.Roles.{IsOfSession}
use Rattle.cl_types.specs.declared.limits.TheConstants.{SESSIONS_MAX}
use Rattle.cl_types.specs.declared.operations.TxnId.{TxnId}
use Rattle.cl_wire.specs.Message.{Content}
use Rattle.cl_commit.specs.Standing.{part_view, is_order, is_report, StandsSo}
use Rattle.cl_commit.specs.Life.{Life, to_come, open_as, committed, aborted, is_begin_of, is_beginning, HasBegun, IsToCome, IsSoFar, IsTrueOutcome, CommitsWhole}
use Rattle.cl_commit.proofs.Told.{sent-contents}
use Rattle.cl_commit.proofs.Turns.{begins, IsTurned}
use Rattle.cl_commit.proofs.Whole.{KeepsSettled, outcome-stays}
use Rattle.cl_commit.proofs.Worlds.{same_view}

-- what the front has begun, and which BEGIN it sends
pub record IsMove (nodes : ℕ) (before after : List SessionState) (sends : List Outgoing) : Type 0 where
  pub grows : (t : ℕ) → (session_in before t).begun ≤ (session_in after t).begun
  pub says : (txn : TxnId) → begins txn sends ≡ true → (session_in before txn.session).begun < txn.number
  pub tells : (txn : TxnId) → IsOfSession txn → (session_in before txn.session).begun < txn.number → txn.number ≤ (session_in after txn.session).begun →
      begins txn sends ≡ true × All (λ send. send.to ≡ home_in nodes txn) sends

-- nothing is sent, and no session changes
pub no-move : (nodes : ℕ) (sessions : List SessionState) → IsMove nodes sessions sessions []
no-move nodes sessions = record { grows = λ t. omega arith; says = λ txn h. absurd (false≢true h); tells = λ txn own above below. absurd (omega arith) }

-- a session had its turns
pub turned-move : (nodes : ℕ) (sessions : List SessionState) (s : ℕ) (turned : Turned) → 1 ≤ s → s ≤ SESSIONS_MAX → length sessions ≡ SESSIONS_MAX →
    IsTurned nodes s (session_in sessions s).begun turned.session.begun turned.sends → IsMove nodes sessions (with_session sessions s turned.session) turned.sends
turned-move nodes sessions s turned from to many is = record {
  grows = λ t. elim (cases_eq (t - 1) (s - 1)) [
    | inl same ↦ (let e : (session_in (with_session sessions s turned.session) t).begun ≡ turned.session.begun = ap (λ (one : SessionState). one.begun) (ap (λ i. slice_index_or (slice_set sessions (s - 1) turned.session) i no_session) same ∙ here) in
        let f : (session_in sessions t).begun ≡ (session_in sessions s).begun = ap (λ i. (slice_index_or sessions i no_session).begun) same in
        let g = is.grows in omega (arith, e, f, g))
    | inr apart ↦ (let e : (session_in (with_session sessions s turned.session) t).begun ≡ (session_in sessions t).begun = ap (λ (one : SessionState). one.begun) (there t apart) in omega (arith, e))
  ];
  says = λ txn h. (let said = is.says txn h in subst (λ t. (session_in sessions t).begun < txn.number) (sym said.0) said.1);
  tells = λ txn own above below. elim (cases_eq txn.session s) [
    | inl same ↦ (
      is.tells txn same (subst (λ t. (session_in sessions t).begun < txn.number) same above) (subst (λ n. txn.number ≤ n) (ap (λ t. (session_in (with_session sessions s turned.session) t).begun) same ∙ ap (λ (one : SessionState). one.begun) here) below),
      subst (λ t. All (λ (send : Outgoing). send.to ≡ t % nodes) turned.sends) (sym same) is.goes,
    )
    | inr apart ↦ (let e : (session_in (with_session sessions s turned.session) txn.session).begun ≡ (session_in sessions txn.session).begun = ap (λ (one : SessionState). one.begun) (there txn.session (λ k. apart (let low : 1 ≤ txn.session = leb-true 1 txn.session (and_parts _ _ own).0 in omega (arith, k, low, from)))) in absurd (omega (arith, e, above, below)))
  ];
}
  where
    within : s - 1 < length sessions
    within = omega (arith, many, from, to)

    here : slice_index_or (slice_set sessions (s - 1) turned.session) (s - 1) no_session ≡ turned.session
    here = get_or-set_same sessions (s - 1) turned.session no_session within

    there : (t : ℕ) → (t - 1 ≡ s - 1 → ⊥) → slice_index_or (slice_set sessions (s - 1) turned.session) (t - 1) no_session ≡ slice_index_or sessions (t - 1) no_session
    there t apart = get_or-set_other sessions (s - 1) (t - 1) turned.session no_session apart

-- ---- what an actor is sent of a BEGIN

-- what is sent to one is among what is sent
any-contents : (p : Content → Bool) (to : ℕ) (sends : List Outgoing) → list_any p (contents_to to sends) ≡ true → list_any (λ (send : Outgoing). p send.payload) sends ≡ true
any-contents p to [] h = h
any-contents p to (x ∷ xs) h = by (any-contents p to xs) (eqb x.to to) h
  where
    by : (list_any p (contents_to to xs) ≡ true → list_any (λ (send : Outgoing). p send.payload) xs ≡ true) → (b : Bool) →
        list_any p (map (λ (send : Outgoing). send.payload) (cond b (x ∷ filter (λ (send : Outgoing). eqb send.to to) xs) (filter (λ (send : Outgoing). eqb send.to to) xs))) ≡ true → (p x.payload || list_any (λ (send : Outgoing). p send.payload) xs) ≡ true
    by rest true k = each (p x.payload) k
      where
        each : (c : Bool) → (c || list_any p (contents_to to xs)) ≡ true → (c || list_any (λ (send : Outgoing). p send.payload) xs) ≡ true
        each true j = refl
        each false j = rest j
    by rest false k = or_right _ _ (rest k)

contents-all_to : (to : ℕ) (sends : List Outgoing) → All (λ send. send.to ≡ to) sends → contents_to to sends ≡ map (λ send. send.payload) sends
contents-all_to to [] h = refl
contents-all_to to (x ∷ xs) h =
    ap (map (λ (send : Outgoing). send.payload)) (cond-true _ _ _ (eq-eqb x.to to (All-head (λ (send : Outgoing). send.to ≡ to) x xs h))) ∙ ap (λ ys. x.payload ∷ ys) (contents-all_to to xs (All-tail (λ (send : Outgoing). send.to ≡ to) x xs h))

any-payloads : (p : Content → Bool) (sends : List Outgoing) → list_any p (map (λ (send : Outgoing). send.payload) sends) ≡ list_any (λ (send : Outgoing). p send.payload) sends
any-payloads p [] = refl
any-payloads p (x ∷ xs) = ap (λ b. p x.payload || b) (any-payloads p xs)

-- ---- the front acts

-- the system after the front has taken a step, with this on its way before
abbrev pub front_after : ReplicaWorld → Mail → ℕ → FrontState → List Outgoing → ReplicaWorld
front_after world mail lines front sends = record { front = front; replicas = world.replicas; mail = with_mail mail FRONT sends; history = world.history; lines = lines }

module _ (shape : Shape) (few : shape.nodes ≤ 8) (some : 0 < shape.nodes) (world : ReplicaWorld) (mail : Mail) (lines : ℕ) (front : FrontState) (sends : List Outgoing)
    (kept : (a b : ℕ) → eqb b FRONT ≡ false → mail a b ≡ world.mail a b) (move : IsMove shape.nodes world.front.sessions front.sessions sends) where
  abbrev after : ReplicaWorld
  after = front_after world mail lines front sends

  not-front : (v : ℕ) → v < shape.nodes → eqb v FRONT ≡ false
  not-front v below = ne_eqb v FRONT (λ e. absurd (omega (arith, e, below, few)))

  home-below : (txn : TxnId) → home_in shape.nodes txn < shape.nodes
  home-below txn = omega (arith, some)

  -- a queue between nodes is as before
  mail-between : (a b : ℕ) → a < shape.nodes → b < shape.nodes → after.mail a b ≡ world.mail a b
  mail-between a b from to = cond-false _ _ _ (not-front a from) ∙ kept a b (not-front b to)

  view-front : (txn : TxnId) (v : ℕ) → v < shape.nodes → part_view shape.nodes after txn v ≡ part_view shape.nodes world txn v
  view-front txn v below = same_view _ _
      (ap (filter (is_order v txn)) (mail-between (home_in shape.nodes txn) v (home-below txn) below))
      (ap (filter (is_report v txn)) (mail-between v (home_in shape.nodes txn) below (home-below txn))) refl

  beginning-front : (txn : TxnId) → is_beginning shape.nodes after txn ≡ (is_beginning shape.nodes world txn || list_any (is_begin_of txn) (sent_to (home_in shape.nodes txn) sends))
  beginning-front txn =
      ap (list_any (is_begin_of txn)) (cond-true _ (mail FRONT (home_in shape.nodes txn) ++ sent_to (home_in shape.nodes txn) sends) (mail FRONT (home_in shape.nodes txn)) (eq-eqb FRONT FRONT refl))
      ∙ list_any-append (is_begin_of txn) (mail FRONT (home_in shape.nodes txn)) (sent_to (home_in shape.nodes txn) sends)
      ∙ ap (λ queue. list_any (is_begin_of txn) queue || list_any (is_begin_of txn) (sent_to (home_in shape.nodes txn) sends)) (kept FRONT (home_in shape.nodes txn) (not-front (home_in shape.nodes txn) (home-below txn)))

  to-home : (txn : TxnId) → sent_to (home_in shape.nodes txn) sends ≡ contents_to (home_in shape.nodes txn) sends
  to-home txn = sent-contents (home_in shape.nodes txn) shape.nodes sends (home-below txn) few

  -- who has begun has begun
  begun-front : (txn : TxnId) → HasBegun shape.nodes world txn → HasBegun shape.nodes after txn
  begun-front txn has = record {
    begun = (let m = has.begun in let n = move.grows txn.session in omega (arith, m, n));
    heard = beginning-front txn ∙ or_from _ _ has.heard (false_from_ne_true _ (λ sent. (let above = move.says txn (any-contents (is_begin_of txn) (home_in shape.nodes txn) sends (ap (list_any (is_begin_of txn)) (sym (to-home txn)) ∙ sent)) in let m = has.begun in absurd (omega (arith, above, m)))));
  }

  to_come-front : (txn : TxnId) → IsOfSession txn → IsToCome shape.nodes world txn → IsToCome shape.nodes after txn
  to_come-front txn own (inl later) = elim (cases_lt (session_in front.sessions txn.session).begun txn.number) [
    | inl still ↦ inl still
    | inr now ↦ (let told = move.tells txn own later now in
        inr (beginning-front txn ∙ or_right _ _ (ap (list_any (is_begin_of txn)) (to-home txn ∙ contents-all_to (home_in shape.nodes txn) sends told.1) ∙ any-payloads (is_begin_of txn) sends ∙ told.0)))
  ]
  to_come-front txn own (inr coming) = inr (beginning-front txn ∙ or_left _ _ coming)

  so_far-front : (txn : TxnId) → IsOfSession txn → (life : Life) → IsSoFar shape.nodes world txn life → IsSoFar shape.nodes after txn life
  so_far-front txn own to_come h = (to_come-front txn own h.0, h.1, h.2)
  so_far-front txn own (open_as entry) h = (begun-front txn h.0, h.1, h.2, h.3)
  so_far-front txn own committed h = (begun-front txn h.0, h.1, h.2)
  so_far-front txn own aborted h = (begun-front txn h.0, h.1, h.2)

  pub settled-front : (txn : TxnId) → KeepsSettled shape.nodes world after txn
  settled-front txn = record { committed_stays = λ h. (begun-front txn h.0, h.1, h.2); aborted_stays = λ h. (begun-front txn h.0, h.1, h.2) }

  pub whole-front : ((P : Content → Type 0) (v : ℕ) → v < shape.nodes → All P (world.mail v FRONT) → All P (mail v FRONT)) → CommitsWhole shape world → CommitsWhole shape after
  whole-front taken whole = record {
    lives = λ txn own. (let was = whole.lives txn own in record {
      life = was.life;
      so_far = so_far-front txn own was.life was.so_far;
      stands = λ v below. (let h = was.stands v below in (h.0, subst (λ view. StandsSo v txn view h.0) (sym (view-front txn v below)) h.1, h.2));
    });
    outcomes = λ v below. subst (All (IsTrueOutcome shape after)) (sym (cond-false _ _ _ (not-front v below)))
        (All-weaker (IsTrueOutcome shape world) (IsTrueOutcome shape after) (outcome-stays shape world after settled-front) _ (taken (IsTrueOutcome shape world) v below (whole.outcomes v below)));
    parts = whole.parts;
  }
