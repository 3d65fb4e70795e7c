-- BEGIN comes to the controller: the transaction is open, and absent everywhere.
use Rattle.std.proofs.Common.{◌≡◌, ℕ, ◌<◌, Bool, true, false, inl, List, [], ◌∷◌, ◌++◌, filter, All, None, refl, sym, ap, ◌∙◌, subst, arith}
use Rattle.std.specs.List.{list_any}
use Rattle.std.proofs.lemmas.Bool.{cond-false, and_parts, or_left, true≢false, false≢true}
use Rattle.std.proofs.lemmas.List.{append-nil}
use Rattle.std.proofs.lemmas.List.Elements.{All-nil, All-cons}
use Rattle.cl_types.specs.declared.answers.Outcome.TheVariants.{Begun}
use Rattle.cl_types.specs.declared.operations.Command.TheVariants.{Begin, Work, Commit, Abort}
use Rattle.cl_types.specs.declared.operations.TxnId.{TxnId}
use Rattle.cl_types.proofs.Transactions.{same_txn-itself}
use Rattle.cl_control.specs.declared.acts.Act.TheVariants.{Say}
use Rattle.cl_control.specs.Calls.{command_acts, after_command}
use Rattle.cl_control.specs.State.{new_entry, with_new}
use Rattle.cl_exchange.specs.Stage.{is_of_session}
use Rattle.cl_front.specs.Sessions.{session_in}
use Rattle.cl_log.specs.Open.{is_among as is_member}
use Rattle.cl_log.specs.declared.stage.Stage.TheVariants.{Unknown}
use Rattle.cl_lone.specs.Lone.{lone_step, controlled}
use Rattle.cl_node.specs.Addressing.{home_in}
use Rattle.cl_runs.specs.World.{Shape}
use Rattle.cl_steps.specs.declared.actors.TheConstants.{FRONT}
use Rattle.cl_steps.specs.declared.steps.Outgoing.{Outgoing}
use Rattle.cl_steps.specs.Steps.{sent}
use Rattle.cl_system.specs.Replicas.{ReplicaWorld, own_primary, with_way}
use Rattle.cl_vnode.specs.Replica.{ReplicaState}
use Rattle.cl_vnode.specs.Step.{Stepped}
use Rattle.cl_wire.specs.Message.{Content, Command, Outcome}
use Rattle.cl_commit.specs.Standing.{absent, part_view, is_order, StandsSo, IsStill}
use Rattle.cl_commit.specs.Life.{Life, to_come, open_as, committed, aborted, is_begin_of, is_beginning, HasBegun, entry_in, IsSoFar, MayStand, IsTrueOutcome}
use Rattle.cl_commit.proofs.Commanded.{IsCommand, awaited, filter-sub}
use Rattle.cl_commit.proofs.Controllers.{IsSaid, said-outcome, IsToldView, popped, view-popped, told-view, entry-after, about-said}
use Rattle.cl_commit.proofs.Controls.{entry-new, entry-new_other}
use Rattle.cl_commit.proofs.Frames.{acted, mail-acted, any-filter, is_some_left, sent-none}
use Rattle.cl_commit.proofs.Reports.{told-nothing}
use Rattle.cl_commit.proofs.Whole.{IsGoodStep}

-- a transaction that is to come is absent everywhere
record IsAbsent (shape : Shape) (world : ReplicaWorld) (txn : TxnId) : Type 0 where
  none : entry_in shape.nodes world txn ≡ None
  out : is_member txn world.history ≡ false
  still : (v : ℕ) → v < shape.nodes → IsStill (part_view shape.nodes world txn v) Unknown

-- the BEGIN of a transaction is a command of its session
begin-session : (txn : TxnId) (c : Content) → is_begin_of txn c ≡ true → is_of_session txn.session c ≡ true
begin-session txn (Command v other number Begin) h = (and_parts _ _ h).0
begin-session txn (Command v other number (Work table key op)) h = absurd (false≢true h)
begin-session txn (Command v other number Commit) h = absurd (false≢true h)
begin-session txn (Command v other number Abort) h = absurd (false≢true h)
begin-session txn c h = absurd (false≢true h)

module _ (shape : Shape) (world : ReplicaWorld) (txn : TxnId) (v number : ℕ) (rest : List Content) (is : IsCommand shape world txn v number Begin rest) where
  abbrev home : ℕ
  home = home_in shape.nodes txn

  abbrev state : ReplicaState
  state = world.replicas home

  abbrev left : ReplicaWorld
  left = popped shape world txn FRONT (Command v txn number Begin) rest is.waits

  -- its BEGIN is on its way, so it has not begun
  unheard : is_beginning shape.nodes world txn ≡ true
  unheard = ap (list_any (is_begin_of txn)) is.waits ∙ or_left _ _ (same_txn-itself txn)

  not-begun : HasBegun shape.nodes world txn → ⊥
  not-begun has = true≢false (sym unheard ∙ has.heard)

  absent-before : IsAbsent shape world txn
  absent-before = by is.lives.life refl is.lives.so_far
    where
      by : (life : Life) → is.lives.life ≡ life → IsSoFar shape.nodes world txn life → IsAbsent shape world txn
      by to_come same h = record {
        none = h.1;
        out = h.2;
        still = λ u below. (let was = is.lives.stands u below in subst (StandsSo u txn (part_view shape.nodes world txn u)) (subst (λ life. MayStand life u was.0) same was.2) was.1);
      }
      by (open_as entry) same h = absurd (not-begun h.0)
      by committed same h = absurd (not-begun h.0)
      by aborted same h = absurd (not-begun h.0)

  abbrev done : Stepped
  done = controlled own_primary state (with_new state.control txn) (Say txn number Begun ∷ [])

  abbrev after : ReplicaWorld
  after = acted world FRONT home rest done

  said : All (λ send. IsSaid txn send.payload) done.step.sends
  said = All-cons (λ (send : Outgoing). IsSaid txn send.payload) (sent FRONT (Outcome txn number Begun)) [] (said-outcome txn number Begun) (All-nil (λ (send : Outgoing). IsSaid txn send.payload))

  -- the session has no other command on its way
  begun-now : HasBegun shape.nodes after txn
  begun-now = record {
    begun = (let e : (session_in world.front.sessions txn.session).begun ≡ txn.number = ap (λ (t : TxnId). t.number) (awaited shape world txn v number Begin rest is).of in omega (arith, e));
    heard = any-filter (is_begin_of txn) (after.mail FRONT home)
        ∙ ap is_some_left (mail-acted world FRONT home rest done (is_begin_of txn) FRONT home
        ∙ ap (λ xs. filter (is_begin_of txn) (with_way world.mail FRONT home rest FRONT home) ++ xs) (cond-false _ _ _ is.not_front) ∙ append-nil _
        ∙ filter-sub (is_begin_of txn) (is_of_session txn.session) (begin-session txn) (with_way world.mail FRONT home rest FRONT home) (awaited shape world txn v number Begin rest is).alone);
  }

  view-now : (u : ℕ) → part_view shape.nodes after txn u ≡ part_view shape.nodes world txn u
  view-now u =
      told-nothing (part_view shape.nodes left txn u) (part_view shape.nodes after txn u)
      (subst (IsToldView (part_view shape.nodes left txn u) (part_view shape.nodes after txn u))
      (sent-none (is_order u txn) u done.step.sends (All-cons (λ (send : Outgoing). is_order u txn send.payload ≡ false) (sent FRONT (Outcome txn number Begun)) [] refl (All-nil (λ (send : Outgoing). is_order u txn send.payload ≡ false))))
      (told-view shape world txn FRONT (Command v txn number Begin) rest is.waits done said refl u))
      ∙ view-popped shape world txn FRONT (Command v txn number Begin) rest is.waits u refl refl

  pub good-begin : (mark : Bool) → IsGoodStep shape world FRONT home rest txn (lone_step own_primary state FRONT (Command v txn number Begin) mark)
  unfolding lone_step command_acts after_command
  good-begin mark = record {
    about = record {
      sends = about-said shape world txn FRONT (Command v txn number Begin) rest is.waits done said;
      entries = entry-new_other state.control txn;
      stages = λ other differ. refl;
      firm = inl refl;
    };
    lives = record {
      life = open_as (new_entry txn);
      so_far = (begun-now, entry-after shape world txn FRONT (Command v txn number Begin) rest is.waits done said ∙ entry-new state.control txn absent-before.none, absent-before.out, λ _. refl);
      stands = λ u below. (absent, subst (λ view. IsStill view Unknown) (sym (view-now u)) (absent-before.still u below), refl);
    };
    settled = record { committed_stays = λ h. absurd (not-begun h.0); aborted_stays = λ h. absurd (not-begun h.0) };
    told = All-cons (λ (send : Outgoing). IsTrueOutcome shape after send.payload) (sent FRONT (Outcome txn number Begun)) [] tt (All-nil (λ (send : Outgoing). IsTrueOutcome shape after send.payload));
    whole = is.whole;
  }
