-- A step of a replica, with the steps of the ledger that it is: the ledger after them is that of the system after it.
use Rattle.std.proofs.Common.{◌≡◌, ◌≢◌, ℕ, ◌<◌, eqb, Bool, true, false, cond, ◌&&◌, ◌⊎◌, inl, inr, List, [], ◌∷◌, ◌++◌, Some, All, refl, sym, ◌∙◌, ap, subst}
use Rattle.std.specs.List.{list_any}
use Rattle.std.proofs.lemmas.Bool.{eqb-true, eqb-false, ne_eqb, cond_both, and_parts, or_cases, or_left, or_right}
use Rattle.std.proofs.lemmas.List.Elements.{All-nil, All-push, All-weaker}
use Rattle.std.proofs.lemmas.List.Folds.{list_any-append, list_any_none}
use Rattle.cl_types.specs.declared.operations.Command.{Command as ClientCommand}
use Rattle.cl_types.specs.declared.operations.Command.TheVariants.{Begin, Work, Commit, Abort}
use Rattle.cl_types.specs.declared.operations.TxnId.{TxnId}
use Rattle.cl_types.specs.Places.{Place, same_place}
use Rattle.cl_types.specs.Transactions.{same_txn}
use Rattle.cl_types.proofs.Places.{same_place-true}
use Rattle.cl_types.proofs.Transactions.{same_txn-true}
use Rattle.cl_control.specs.State.{Entry, entry_of, is_among}
use Rattle.cl_log.specs.Open.{is_among as is_member}
use Rattle.cl_node.specs.Addressing.{home_in}
use Rattle.cl_order.specs.Ledger.{Ledger, IsOrdered, IsWholeOn, IsWhole, has_operation_at}
use Rattle.cl_order.specs.Steps.{Step, after_steps, AreEnabled}
use Rattle.cl_order.proofs.Readings.{whole_on_each, whole_without_operations}
use Rattle.cl_part.specs.Sound.{IsSound}
use Rattle.cl_runs.specs.Queues.{sent_to}
use Rattle.cl_runs.specs.World.{Shape, with_firm}
use Rattle.cl_serial.specs.PlainMap.{Operation}
use Rattle.cl_steps.specs.declared.actors.TheConstants.{FRONT}
use Rattle.cl_vnode.specs.Step.{Stepped}
use Rattle.cl_wire.specs.Message.{Content, Command}
use Rattle.cl_steps.specs.declared.steps.Outgoing.{Outgoing}
use Rattle.cl_system.specs.Firm.{FirmWorld}
use Rattle.cl_system.specs.Replicas.{ReplicaWorld, Mail, with_mail, with_way, replica_acts}
use Rattle.cl_system.specs.Roles.{IsOfSession, IsAddressed}
use Rattle.cl_commit.specs.Life.{entry_in, IsToCome, is_begin_of}
use Rattle.cl_ledger.specs.Ledgers.{IsLedgerOf}
use Rattle.cl_ledger.proofs.Entries.{ComesFrom, Grows, same_grows}
use Rattle.cl_ledger.proofs.Reaching.{HasDone, Follows}

-- what is on a way was so before its first message was taken
pub way_before : (mail : Mail) (from to : ℕ) (content : Content) (rest : List Content) → mail from to ≡ content ∷ rest → (p : Content → Bool) (giver receiver : ℕ) →
    list_any p (with_way mail from to rest giver receiver) ≡ true → list_any p (mail giver receiver) ≡ true
way_before mail from to content rest here p giver receiver =
    cond_both (eqb receiver to && eqb giver from) rest (mail giver receiver) (λ contents. list_any p contents ≡ true → list_any p (mail giver receiver) ≡ true)
    (λ both left. let parts = and_parts _ _ both in
    let same : mail giver receiver ≡ content ∷ rest = ap (λ w. mail w receiver) (eqb-true giver from parts.1) ∙ ap (mail from) (eqb-true receiver to parts.0) ∙ here in
    ap (list_any p) same ∙ or_right (p content) (list_any p rest) left) (λ other all. all)

-- ---- members of a history

-- a member of a history that grew was one before, or is new
pub member_of_both : (old new : List TxnId) (name : TxnId) → is_member name (old ++ new) ≡ true → (is_member name old ≡ true) ⊎ (is_member name new ≡ true)
member_of_both old new name is = or_cases (is_member name old) (is_member name new) (sym (list_any-append (same_txn name) old new) ∙ is)

-- whoever was a member is still one
pub member_stays : (old new : List TxnId) (name : TxnId) → is_member name old ≡ true → is_member name (old ++ new) ≡ true
member_stays old new name is = list_any-append (same_txn name) old new ∙ or_left _ _ is

-- the member of a history of one
pub only_member : (txn name : TxnId) → is_member name (txn ∷ []) ≡ true → name ≡ txn
only_member txn name is = elim (or_cases (same_txn name txn) false is) [
  | inl same ↦ same_txn-true name txn same
  | inr none ↦ absurd (let e : false ≡ true = none in cc)
]

-- ---- who is whole

-- a transaction that has done nothing is whole
whole_none : (ledger : Ledger) (txn : TxnId) → IsOrdered ledger → ledger.done txn ≡ [] → (u : ℕ) → IsWholeOn ledger txn u
whole_none ledger txn ordered none u = whole_without_operations ledger txn u ordered (λ place here. ap (λ list. has_operation_at list place) none)

module _ (shape : Shape) (state : FirmWorld) (ledger : Ledger) (is : IsLedgerOf shape state ledger) where
  -- where an open transaction is no participant it has done nothing
  whole_elsewhere : (txn : TxnId) (entry : Entry) → IsOfSession txn → entry_in shape.nodes state.world txn ≡ Some entry → (u : ℕ) →
      is_among u entry.participants ≡ false → IsWholeOn ledger txn u
  whole_elsewhere txn entry there opened u absent =
      whole_without_operations ledger txn u is.ordered
      (λ place here. list_any_none (λ (operation : Operation). same_place operation.place place) (ledger.done txn)
      (All-weaker (λ (operation : Operation). is_among (ledger.on operation.place) entry.participants ≡ true) (λ operation. same_place operation.place place ≡ false)
      (λ operation among. by_place place here operation among (same_place operation.place place) refl) (ledger.done txn) (is.places txn entry there opened)))
    where
      by_place : (place : Place) → ledger.on place ≡ u → (operation : Operation) → is_among (ledger.on operation.place) entry.participants ≡ true → (b : Bool) → same_place operation.place place ≡ b →
          same_place operation.place place ≡ false
      by_place place here operation among true same =
          let at : ledger.on operation.place ≡ u = ap ledger.on (same_place-true _ _ same) ∙ here in
          absurd (let e : true ≡ false = sym among ∙ ap (λ w. is_among w entry.participants) at ∙ absent in cc)
      by_place place here operation among false apart = apart

  -- an open transaction is whole at each virtual node
  pub whole_before : (txn : TxnId) (entry : Entry) → IsOfSession txn → entry_in shape.nodes state.world txn ≡ Some entry → (u : ℕ) → u < shape.nodes →
      IsWholeOn ledger txn u
  whole_before txn entry there opened u below = by_part (is_among u entry.participants) refl
    where
      by_part : (b : Bool) → is_among u entry.participants ≡ b → IsWholeOn ledger txn u
      by_part true among = is.whole txn entry there opened u below among
      by_part false absent = whole_elsewhere txn entry there opened u absent

  -- whoever was not decided is not firm
  pub not_firm : (txn : TxnId) → is_member txn state.world.history ≡ false → is_member txn state.firm ≡ false
  not_firm txn outside = by_member (is_member txn state.firm) refl
    where
      by_member : (b : Bool) → is_member txn state.firm ≡ b → is_member txn state.firm ≡ false
      by_member true firm = absurd (let e : true ≡ false = sym (is.decided txn firm) ∙ outside in cc)
      by_member false other = other

  -- ---- a message comes to a replica

  module _ (from to : ℕ) (content : Content) (rest : List Content) (here : state.world.mail from to ≡ content ∷ rest) (node : to ≢ FRONT) where
    -- the system after a step of the replica
    abbrev pub moved : Stepped → ReplicaWorld
    moved next = replica_acts (record state.world { mail = with_way state.world.mail from to rest }) to next

    -- and with what is firm
    abbrev pub moved_on : Stepped → FirmWorld
    moved_on next = record state { world = moved next }

    -- what is on its way from the front was so before
    mail_before : (sends : List Outgoing) (p : Content → Bool) (h : ℕ) →
        list_any p (with_mail (with_way state.world.mail from to rest) to sends FRONT h) ≡ true → list_any p (state.world.mail FRONT h) ≡ true
    mail_before sends p h any =
        let way : list_any p (with_way state.world.mail from to rest FRONT h) ≡ true =
        ap (λ b. list_any p (cond b (with_way state.world.mail from to rest FRONT h ++ sent_to h sends) (with_way state.world.mail from to rest FRONT h)))
        (sym (ne_eqb FRONT to (λ same. node (sym same)))) ∙ any in
        way_before state.world.mail from to content rest here p FRONT h way

    -- who is to come was to come before
    to_come_before : (next : Stepped) (name : TxnId) → IsToCome shape.nodes (moved next) name → IsToCome shape.nodes state.world name
    to_come_before next name (inl later) = inl later
    to_come_before next name (inr coming) = inr (mail_before next.step.sends (is_begin_of name) (home_in shape.nodes name) coming)

    -- whose BEGIN comes was to come
    begins_to_come : (name : TxnId) → IsAddressed shape.nodes from to content → is_begin_of name content ≡ true → IsToCome shape.nodes state.world name
    begins_to_come name addressed begins =
        let at = begin_addressed content addressed begins in
        let same : state.world.mail FRONT (home_in shape.nodes name) ≡ content ∷ rest = ap (λ w. state.world.mail w (home_in shape.nodes name)) (sym at.0)
        ∙ ap (state.world.mail from) (sym at.1) ∙ here in
        inr (ap (list_any (is_begin_of name)) same ∙ or_left _ _ begins)
      where
        command_addressed : (v number : ℕ) (txn : TxnId) (what : ClientCommand) → IsAddressed shape.nodes from to (Command v txn number what) → is_begin_of name (Command v txn number what) ≡ true →
            (from ≡ FRONT) × (to ≡ home_in shape.nodes name)
        command_addressed v number txn Begin addressed begins = (addressed.giver, addressed.receiver ∙ addressed.node ∙ ap (home_in shape.nodes) (sym (same_txn-true name txn begins)))
        command_addressed v number txn (Work table key op) addressed begins = absurd (let e : false ≡ true = begins in cc)
        command_addressed v number txn Commit addressed begins = absurd (let e : false ≡ true = begins in cc)
        command_addressed v number txn Abort addressed begins = absurd (let e : false ≡ true = begins in cc)

        begin_addressed : (content : Content) → IsAddressed shape.nodes from to content → is_begin_of name content ≡ true → (from ≡ FRONT) × (to ≡ home_in shape.nodes name)
        begin_addressed (Command v txn number what) addressed begins = command_addressed v number txn what addressed begins
        begin_addressed other addressed begins = absurd (let e : false ≡ true = begins in cc)

    -- a step of the replica that is these steps of the ledger; these transactions are apart, these may have done one operation more, and these are decided
    pub record IsStepOf (next : Stepped) (apart works : TxnId → Type 0) (decided : List TxnId) (steps : List Step) : Type 0 where
      pub follows : Follows ledger to next.state.part apart works steps
      pub history : with_firm state.world.history next.step.firm ≡ state.world.history ++ decided
      pub spared : (name : TxnId) → is_member name state.world.history ≡ true → is_member name state.firm ≡ false → apart name
      pub whole : (name : TxnId) → is_member name decided ≡ true → apart name × IsWhole ledger name
      pub entries : (name : TxnId) (new : Entry) → home_in shape.nodes name ≡ to → entry_of next.state.control name ≡ Some new →
          ComesFrom (entry_of (state.world.replicas to).control name) (apart name) (is_begin_of name content ≡ true) new
      pub elsewhere : (name : TxnId) (old : Entry) → home_in shape.nodes name ≢ to → entry_in shape.nodes state.world name ≡ Some old → IsOfSession name →
          apart name
      pub takes_part : (name : TxnId) (old : Entry) → works name → entry_in shape.nodes state.world name ≡ Some old → is_among to old.participants ≡ true
      pub heard : (name : TxnId) → works name → IsToCome shape.nodes state.world name → ⊥

    -- they are enabled, and the ledger after them is that of the system after it
    pub record Goes (next : Stepped) (steps : List Step) : Type 0 where
      pub enabled : AreEnabled ledger steps
      pub after : IsLedgerOf shape (moved_on next) (after_steps ledger steps)

    module _ (addressed : IsAddressed shape.nodes from to content) (next : Stepped) (apart works : TxnId → Type 0) (decided : List TxnId) (steps : List Step)
        (step : IsStepOf next apart works decided steps) where
      -- where an open transaction comes from
      entry_from : (name : TxnId) (new : Entry) → IsOfSession name → entry_in shape.nodes (moved next) name ≡ Some new →
          ComesFrom (entry_in shape.nodes state.world name) (apart name) (is_begin_of name content ≡ true) new
      entry_from name new there =
          let h : ℕ = home_in shape.nodes name in
          cond_both (eqb h to) next.state (state.world.replicas h)
          (λ replica. entry_of replica.control name ≡ Some new → ComesFrom (entry_in shape.nodes state.world name) (apart name)
          (is_begin_of name content ≡ true) new)
          (λ own opened. subst (λ w. ComesFrom (entry_of (state.world.replicas w).control name) (apart name) (is_begin_of name content ≡ true) new)
          (sym (eqb-true h to own)) (step.entries name new (eqb-true h to own) opened))
          (λ other opened. inl (new, (opened, (same_grows new, step.elsewhere name new (eqb-false h to other) opened there))))

      -- who is to come has done nothing
      done_none : (name : TxnId) → IsOfSession name → IsToCome shape.nodes state.world name → (after_steps ledger steps).done name ≡ []
      done_none name there to_come = elim (step.follows.done name) [
        | inl same ↦ same ∙ is.unborn name there to_come
        | inr more ↦ absurd (step.heard name more.0 to_come)
      ]

      whole_after : (name : TxnId) (new : Entry) → IsOfSession name → entry_in shape.nodes (moved next) name ≡ Some new → (u : ℕ) → u < shape.nodes → IsWholeOn (after_steps ledger steps) name u
      whole_after name new there opened u below = elim (entry_from name new there opened) [
        | inl old ↦ step.follows.reaches.whole name u old.1.1.1 (whole_before name old.0 there old.1.0 u below)
        | inr begins ↦ whole_none (after_steps ledger steps) name step.follows.reaches.ordered (done_none name there (begins_to_come name addressed begins)) u
      ]

      -- an operation is at a participant
      abbrev IsAtPart : Entry → Operation → Type 0
      IsAtPart new operation = is_among ((after_steps ledger steps).on operation.place) new.participants ≡ true

      places_before : (name : TxnId) (old new : Entry) → IsOfSession name → entry_in shape.nodes state.world name ≡ Some old → Grows old new →
          All (IsAtPart new) (ledger.done name)
      places_before name old new there opened grows =
          All-weaker (λ (operation : Operation). is_among (ledger.on operation.place) old.participants ≡ true) (IsAtPart new)
          (λ operation among. ap (λ w. is_among w new.participants) (step.follows.reaches.on operation.place) ∙ grows.participants (ledger.on operation.place) among)
          (ledger.done name) (is.places name old there opened)

      places_after : (name : TxnId) (new : Entry) → IsOfSession name → entry_in shape.nodes (moved next) name ≡ Some new → All (IsAtPart new) ((after_steps ledger steps).done name)
      places_after name new there opened = elim (entry_from name new there opened) [
        | inl old ↦ grown old.0 old.1.0 old.1.1.0 (step.follows.done name)
        | inr begins ↦ subst (All (IsAtPart new)) (sym (done_none name there (begins_to_come name addressed begins))) (All-nil (IsAtPart new))
      ]
        where
          grown : (old : Entry) → entry_in shape.nodes state.world name ≡ Some old → Grows old new →
              HasDone ledger.on to (works name) (ledger.done name) ((after_steps ledger steps).done name) → All (IsAtPart new) ((after_steps ledger steps).done name)
          grown old opened grows (inl same) = subst (All (IsAtPart new)) (sym same) (places_before name old new there opened grows)
          grown old opened grows (inr more) =
              let at : (after_steps ledger steps).on more.1.0.place ≡ to = step.follows.reaches.on more.1.0.place ∙ more.1.1.1 in
              subst (All (IsAtPart new)) (sym more.1.1.0)
              (All-push (IsAtPart new) (ledger.done name) more.1.0 (places_before name old new there opened grows)
              (ap (λ w. is_among w new.participants) at ∙ grows.participants to (step.takes_part name old more.0 opened)))

      -- whoever is apart stays whole
      stays_whole : (name : TxnId) → apart name → IsWhole ledger name → IsWhole (after_steps ledger steps) name
      stays_whole name apart whole =
          (whole_on_each (after_steps ledger steps) name step.follows.reaches.ordered).1
          (λ u. step.follows.reaches.whole name u apart ((whole_on_each ledger name is.ordered).0 whole u))

      -- what was decided, and what is decided now, is so after the step
      decided_after : (name : TxnId) → is_member name (state.world.history ++ decided) ≡ true → is_member name (moved next).history ≡ true
      decided_after name member = ap (is_member name) step.history ∙ member

      -- whoever was decided and is not firm is whole
      waiting_after : (name : TxnId) → is_member name (moved next).history ≡ true → is_member name state.firm ≡ false → IsWhole (after_steps ledger steps) name
      waiting_after name member outside = elim (member_of_both state.world.history decided name (sym (ap (is_member name) step.history) ∙ member)) [
        | inl old ↦ stays_whole name (step.spared name old outside) (is.waiting name old outside)
        | inr new ↦ let whole = step.whole name new in stays_whole name whole.0 whole.1
      ]

      pub goes_on : Goes next steps
      goes_on = record {
        enabled = step.follows.enabled;
        after = record {
          on = λ place. step.follows.reaches.on place ∙ is.on place;
          logs = λ v below. cond_both (eqb v to) next.state (state.world.replicas v) (λ replica. (after_steps ledger steps).logs v ≡ replica.part.log)
              (λ own. subst (λ w. (after_steps ledger steps).logs w ≡ next.state.part.log) (sym (eqb-true v to own)) step.follows.reaches.at.log)
              (λ other. step.follows.reaches.elsewhere v (eqb-false v to other) ∙ is.logs v below);
          sound = λ v below. cond_both (eqb v to) next.state (state.world.replicas v) (λ replica. IsSound replica.part) (λ own. step.follows.reaches.at.sound)
              (λ other. is.sound v below);
          history = step.follows.history ∙ is.history;
          decided = λ name firm. decided_after name (member_stays state.world.history decided name (is.decided name firm));
          ordered = step.follows.reaches.ordered;
          whole = λ name new there opened u below among. whole_after name new there opened u below;
          places = places_after;
          unborn = λ name there to_come. done_none name there (to_come_before next name to_come);
          waiting = waiting_after;
        };
      }
