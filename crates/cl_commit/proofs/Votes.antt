-- A vote comes to the controller: it waits for it, and with the last one the transaction commits.
use Rattle.std.proofs.Common.{◌≡◌, ℕ, ◌<◌, Bool, true, false, if◌then◌else◌, nat_eq, ◌&&◌, ◌||◌, inl, inr, List, [], ◌∷◌, ◌++◌, All, Option, Some, refl, sym, ap, ◌∙◌, subst, subst₂}
use Rattle.std.specs.List.{list_all}
use Rattle.std.specs.Option.{option_map_or}
use Rattle.std.proofs.lemmas.Bool.{cases_eq, cond_both, cond-false, eq-eqb, ne_eqb, eqb-true, and_from, and_parts, and_cases, or_cases, or_right, true≢false, not_from_false}
use Rattle.std.proofs.lemmas.List.Elements.{All-nil}
use Rattle.cl_types.specs.declared.answers.Outcome.TheVariants.{Committed}
use Rattle.cl_types.specs.declared.operations.TxnId.{TxnId}
use Rattle.cl_control.specs.declared.entry.Phase.TheVariants.{Preparing}
use Rattle.cl_control.specs.Calls.{is_preparing, awaits_vote, counts_vote, is_last_vote, voted as with_one_voted, decided, after_vote}
use Rattle.cl_control.specs.State.{Entry, participants_of, is_among, with_changed, with_phase, with_vote, is_unanimous}
use Rattle.cl_control.proofs.VirtualNodes.{is_among-push}
use Rattle.cl_log.specs.declared.stage.Stage.TheVariants.{Unknown, Prepared}
use Rattle.cl_log.proofs.Open.{or_false}
use Rattle.cl_lone.specs.Lone.{lone_step, controlled, committed, command_of}
use Rattle.cl_node.specs.Addressing.{home_in}
use Rattle.cl_runs.specs.World.{Shape}
use Rattle.cl_steps.specs.declared.steps.Outgoing.{Outgoing}
use Rattle.cl_system.specs.Replicas.{ReplicaWorld, own_primary}
use Rattle.cl_vnode.specs.Replica.{ReplicaState}
use Rattle.cl_vnode.specs.Step.{Stepped}
use Rattle.cl_wire.specs.Message.{Content, Vote}
use Rattle.cl_commit.specs.Standing.{Standing, voted, part_view, is_order, StandsSo, IsStill}
use Rattle.cl_commit.specs.Life.{open_as, MayParticipate, MayStandOpen, MayStand, IsTrueOutcome}
use Rattle.cl_commit.proofs.Frames.{acted, sent-none}
use Rattle.cl_commit.proofs.Controllers.{IsSaid, IsToldView, IsReadyToEnd, settled-open, popped, told-view, begun-after, entry-after, about-said}
use Rattle.cl_commit.proofs.Controls.{entry-changed, entry-changed_other}
use Rattle.cl_commit.proofs.Ends.{sends-end, good-end}
use Rattle.cl_commit.proofs.Opens.{LivesOpen, lives-as, still-told, WasVoting, was_voting, AwaitsVote, awaits_vote as awaits-vote}
use Rattle.cl_commit.proofs.Parts.{decide-leaves}
use Rattle.cl_commit.proofs.Reports.{IsReported, vote-only, report-head, view-there, reports-gone, orders-left, told-nothing}
use Rattle.cl_commit.proofs.Whole.{IsGoodStep}

-- what holds of all these holds of one among them
all-among : (p : ℕ → Bool) (vs : List ℕ) (v : ℕ) → list_all p vs ≡ true → is_among v vs ≡ true → p v ≡ true
all-among p [] v all among = absurd (true≢false (sym among))
all-among p (x ∷ xs) v all among =
    let parts : (p x ≡ true) × (list_all p xs ≡ true) = and_parts (p x) (list_all p xs) all in
    elim (or_cases (nat_eq v x) (is_among v xs) among) [
      | inl here ↦ ap p (eqb-true v x here) ∙ parts.0
      | inr later ↦ all-among p xs v parts.1 later
    ]

-- the change of a vote keeps the name
voted-name : (w : ℕ) (entry : Entry) → (with_one_voted w entry).txn ≡ entry.txn
voted-name w entry = cond_both (is_unanimous (with_vote w entry)) (with_phase (decided entry.phase) (with_vote w entry)) (with_vote w entry) (λ x. x.txn ≡ entry.txn) (λ _. refl) (λ _. refl)

-- one that has voted is ready to commit
voted-ready : (among : Bool) (entry : Entry) (number v : ℕ) (txn : TxnId) (view : _) (standing : Standing) → entry.phase ≡ Preparing number → (among ≡ true → is_among v entry.votes ≡ true) →
    MayStandOpen among entry v standing → StandsSo v txn view standing → IsReadyToEnd true among view
voted-ready true entry number v txn view standing preparing has may stands =
    let is : standing ≡ voted = subst₂ (λ phase b. MayParticipate phase b v standing) preparing (has refl) may in
    let still : IsStill view Prepared = subst (StandsSo v txn view) is stands in
    record { orders = still.orders; reports = still.reports; before = still.at }
voted-ready false entry number v txn view standing preparing has may stands =
    let still : IsStill view Unknown = subst (StandsSo v txn view) may stands in
    record { orders = still.orders; reports = still.reports; before = still.at }

module _ (shape : Shape) (world : ReplicaWorld) (txn : TxnId) (w : ℕ) (rest : List Content) (is : IsReported shape world txn w (Vote w txn) rest) where
  abbrev home : ℕ
  home = home_in shape.nodes txn

  abbrev state : ReplicaState
  state = world.replicas home

  abbrev left : ReplicaWorld
  left = popped shape world txn w (Vote w txn) rest is.waits

  was : WasVoting (part_view shape.nodes world txn w) (is.lives.stands w is.below).0
  was = was_voting w txn (part_view shape.nodes world txn w) _ (is.lives.stands w is.below).0 (is.lives.stands w is.below).1
      (report-head shape world txn w (Vote w txn) rest is.waits (vote-only w txn))

  awaits : AwaitsVote w is.lives.life
  awaits = awaits-vote w is.lives.life (subst (MayStand is.lives.life w) was.is (is.lives.stands w is.below).2)

  opened : LivesOpen shape world txn awaits.entry
  opened = lives-as shape world txn is.lives awaits.entry awaits.is

  counts : counts_vote state.control w txn ≡ true
  counts =
      ap (λ (o : Option Entry). option_map_or (awaits_vote w) o false) opened.found
      ∙ and_from _ _ (and_from _ _ (ap is_preparing awaits.phase) awaits.among) (not_from_false _ awaits.unvoted)

  last-is : is_last_vote state.control w txn ≡ is_unanimous (with_vote w awaits.entry)
  last-is = ap (λ (o : Option Entry). option_map_or (λ entry. is_unanimous (with_vote w entry)) o false) opened.found

  participants : participants_of state.control txn ≡ awaits.entry.participants
  participants = ap (λ (o : Option Entry). option_map_or (λ (entry : Entry). entry.participants) o []) opened.found

  -- with one more vote another one has voted as before
  votes-there : (v : ℕ) → (v ≡ w → ⊥) → is_among v (awaits.entry.votes ++ w ∷ []) ≡ is_among v awaits.entry.votes
  votes-there v apart = is_among-push v awaits.entry.votes w ∙ ap (λ b. is_among v awaits.entry.votes || b) (ne_eqb v w apart) ∙ or_false _

  votes-here : is_among w (awaits.entry.votes ++ w ∷ []) ≡ true
  votes-here = is_among-push w awaits.entry.votes w ∙ or_right _ _ (eq-eqb w w refl)

  orders-none : (part_view shape.nodes left txn w).orders ≡ []
  orders-none = orders-left shape world txn w (Vote w txn) rest is.waits (vote-only w txn) ∙ was.none

  reports-none : (part_view shape.nodes left txn w).reports ≡ []
  reports-none = reports-gone shape world txn w (Vote w txn) rest is.waits (vote-only w txn) was.report was.one

  view-else : (v : ℕ) → (v ≡ w → ⊥) → part_view shape.nodes left txn v ≡ part_view shape.nodes world txn v
  view-else v apart = view-there shape world txn w (Vote w txn) rest is.waits (vote-only w txn) v apart

  -- ---- the last vote

  good-last : is_unanimous (with_vote w awaits.entry) ≡ true → IsGoodStep shape world w home rest txn (committed own_primary state txn (command_of state.control txn))
  good-last unanimous =
      let leaves = decide-leaves state.part txn is.whole in
      good-end shape world txn w (Vote w txn) rest is.waits refl true awaits.entry.participants (command_of state.control txn) Committed (committed own_primary state txn (command_of state.control txn))
      (record {
        sends = sends-end true state.control txn shape.nodes awaits.entry.participants (command_of state.control txn) Committed is.place.same_nodes participants;
        control = refl;
        firm = refl;
        stages = leaves.same;
        whole = leaves.whole;
        begun = opened.begun;
        entry = awaits.entry;
        found = opened.found;
        out = opened.out;
        few = is.few;
        outcome_true = λ after so_far. so_far;
      })
      (λ v below. elim (cases_eq v w) [
        | inl here ↦ subst (λ u. IsReadyToEnd true (is_among u awaits.entry.participants) (part_view shape.nodes left txn u)) (sym here)
            (subst (λ b. IsReadyToEnd true b (part_view shape.nodes left txn w)) (sym awaits.among) (record { orders = orders-none; reports = reports-none; before = was.stage }))
        | inr apart ↦ subst (IsReadyToEnd true (is_among v awaits.entry.participants)) (sym (view-else v apart))
            (voted-ready (is_among v awaits.entry.participants) awaits.entry awaits.number v txn (part_view shape.nodes world txn v) (opened.stands v below).0 awaits.phase
            (λ among. sym (votes-there v apart) ∙ all-among (λ u. is_among u (awaits.entry.votes ++ w ∷ [])) awaits.entry.participants v unanimous among)
            (opened.stands v below).2 (opened.stands v below).1)
      ])

  -- ---- an earlier vote

  module _ (more : is_unanimous (with_vote w awaits.entry) ≡ false) where
    abbrev done : Stepped
    done = controlled own_primary state (with_changed state.control txn (with_one_voted w)) []

    said : All (λ send. IsSaid txn send.payload) done.step.sends
    said = All-nil (λ (send : Outgoing). IsSaid txn send.payload)

    abbrev after : ReplicaWorld
    after = acted world w home rest done

    told : (v : ℕ) → IsToldView (part_view shape.nodes left txn v) (part_view shape.nodes after txn v) []
    told v = subst (IsToldView (part_view shape.nodes left txn v) (part_view shape.nodes after txn v))
        (sent-none (is_order v txn) v done.step.sends (All-nil (λ (send : Outgoing). is_order v txn send.payload ≡ false)))
        (told-view shape world txn w (Vote w txn) rest is.waits done said refl v)

    now-open : (v : ℕ) (standing : Standing) (among : Bool) → (v ≡ w → ⊥) → MayStandOpen among awaits.entry v standing → MayStandOpen among (with_vote w awaits.entry) v standing
    now-open v standing true apart may = subst (λ b. MayParticipate awaits.entry.phase b v standing) (sym (votes-there v apart)) may
    now-open v standing false apart may = may

    here-open : (among : Bool) → among ≡ true → MayStandOpen among (with_vote w awaits.entry) w voted
    here-open true among = subst₂ (λ phase b. MayParticipate phase b w voted) (sym awaits.phase) (sym votes-here) refl
    here-open false among = absurd (true≢false (sym among))

    stands-now : (v : ℕ) → v < shape.nodes → (standing : Standing) × StandsSo v txn (part_view shape.nodes after txn v) standing × MayStandOpen (is_among v awaits.entry.participants) (with_vote w awaits.entry) v standing
    stands-now v below = elim (cases_eq v w) [
      | inl here ↦ subst (λ u. (standing : Standing) × StandsSo u txn (part_view shape.nodes after txn u) standing × MayStandOpen (is_among u awaits.entry.participants) (with_vote w awaits.entry) u standing) (sym here) (
        voted,
        still-told (part_view shape.nodes left txn w) (part_view shape.nodes after txn w) Prepared (record { orders = orders-none; reports = reports-none; at = was.stage }) (told w),
        here-open (is_among w awaits.entry.participants) awaits.among,
      )
      | inr apart ↦ (
        (opened.stands v below).0,
        subst (λ view. StandsSo v txn view (opened.stands v below).0) (sym (told-nothing (part_view shape.nodes left txn v) (part_view shape.nodes after txn v) (told v) ∙ view-else v apart)) (opened.stands v below).1,
        now-open v (opened.stands v below).0 (is_among v awaits.entry.participants) apart (opened.stands v below).2,
      )
    ]

    good-more : IsGoodStep shape world w home rest txn done
    good-more = record {
      about = record {
        sends = about-said shape world txn w (Vote w txn) rest is.waits done said;
        entries = entry-changed_other state.control txn (with_one_voted w) (voted-name w);
        stages = λ other differ. refl;
        firm = inl refl;
      };
      lives = record {
        life = open_as (with_vote w awaits.entry);
        so_far = (
          begun-after shape world txn w (Vote w txn) rest is.waits done said refl opened.begun,
          entry-after shape world txn w (Vote w txn) rest is.waits done said ∙ entry-changed state.control txn (with_one_voted w) (voted-name w) awaits.entry opened.found ∙ ap (λ (x : Entry). Some x) (cond-false _ _ _ more),
          opened.out,
          λ unprepared. absurd (true≢false (sym (ap is_preparing awaits.phase) ∙ unprepared)),
        );
        stands = stands-now;
      };
      settled = settled-open shape.nodes world after txn awaits.entry opened.found;
      told = All-nil (λ (send : Outgoing). IsTrueOutcome shape after send.payload);
      whole = is.whole;
    }

  pub good-vote : (mark : Bool) → IsGoodStep shape world w home rest txn (lone_step own_primary state w (Vote w txn) mark)
  unfolding lone_step after_vote
  good-vote mark =
      cond_both (counts_vote state.control w txn && is_last_vote state.control w txn) (committed own_primary state txn (command_of state.control txn)) (controlled own_primary state (after_vote state.control w txn) [])
      (IsGoodStep shape world w home rest txn)
      (λ both. good-last (sym last-is ∙ (and_parts (counts_vote state.control w txn) (is_last_vote state.control w txn) both).1))
      (λ not_both. subst (λ b. IsGoodStep shape world w home rest txn (controlled own_primary state (if b then with_changed state.control txn (with_one_voted w) else state.control) [])) (sym counts)
      (good-more (elim (and_cases (counts_vote state.control w txn) (is_last_vote state.control w txn) not_both) [ inl uncounted ↦ absurd (true≢false (sym counts ∙ uncounted)) | inr not_last ↦ sym last-is ∙ not_last ])))
