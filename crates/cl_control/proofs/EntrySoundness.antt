-- Each change of an open transaction keeps it sound.
use Rattle.std.proofs.Common.{◌≡◌, ℕ, ◌<◌, Bool, true, false, ◌||◌, not, List, [], ◌∷◌, ◌++◌, length, All, nat_eq, refl, sym, ap, ◌∙◌, subst, inl, inr, true≢false, ◌≤◌}
use Rattle.std.specs.Cmp.{nat_eq_equiv}
use Rattle.std.specs.List.{list_all, IsDistinct}
use Rattle.std.proofs.lemmas.Bool.{cases_Bool, and_parts, or_left, eqb-true, cond-true, cond-false, false≢true}
use Rattle.std.proofs.lemmas.List.Elements.{All-push, All-weaker, All-contains}
use Rattle.std.proofs.lemmas.Map.Keys.{IsDistinct-push}
use Rattle.std.proofs.lemmas.Map.Steps.{length-le_from_distinct_below}
use Rattle.std.proofs.lemmas.Map.Views.{Contains-from_any}
use Rattle.cl_control.specs.declared.entry.Phase.{Phase}
use Rattle.cl_control.specs.declared.entry.Phase.TheVariants.{Idle, Asked, Preparing, Decided, Logged}
use Rattle.cl_control.specs.State.{Entry, is_among, joined, is_unanimous, with_phase, with_vote}
use Rattle.cl_control.specs.Calls.{asked, committing, commit_phase, awaits_vote, voted, logged, is_decided, is_logged, is_preparing}
use Rattle.cl_control.specs.Sound.{IsSoundEntry, has_decide}
use Rattle.cl_control.proofs.VirtualNodes.{is_among-push}

module _ (nodes : ℕ) (entry : Entry) (sound : IsSoundEntry nodes entry) where
  -- another phase, in which it is not decided
  pub sound-with_phase : (phase : Phase) → has_decide phase ≡ false → IsSoundEntry nodes (with_phase phase entry)
  sound-with_phase phase h = record {
    below = sound.below;
    differ = sound.differ;
    votes = sound.votes;
    once = sound.once;
    unanimous = λ t. absurd (true≢false (sym t ∙ h));
  }

  pub sound-logged : is_decided entry.phase ≡ true → IsSoundEntry nodes (with_phase (logged entry.phase) entry)
  sound-logged h = record {
    below = sound.below;
    differ = sound.differ;
    votes = sound.votes;
    once = sound.once;
    unanimous = λ _. sound.unanimous (ap (λ b. b || is_logged entry.phase) h);
  }

-- ---- a virtual node joins

module _ (v : ℕ) (vs : List ℕ) where
  -- what holds of these and of the one that joins holds of those after it
  with_joined : (P : List ℕ → Type 0) → P vs → (is_among v vs ≡ false → P (vs ++ v ∷ [])) → P (joined v vs)
  with_joined P before after = elim (cases_Bool (is_among v vs)) [
    | inl t ↦ subst P (sym (cond-true (is_among v vs) vs (vs ++ v ∷ []) t)) before
    | inr f ↦ subst P (sym (cond-false (is_among v vs) vs (vs ++ v ∷ []) f)) (after f)
  ]

  among_joined : (w : ℕ) → is_among w vs ≡ true → is_among w (joined v vs) ≡ true
  among_joined w h = with_joined (λ us. is_among w us ≡ true) h (λ _. is_among-push w vs v ∙ or_left _ _ h)

pub sound-asked : (nodes : ℕ) (entry : Entry) (number v : ℕ) → v < nodes → IsSoundEntry nodes entry → IsSoundEntry nodes (asked number v entry)
sound-asked nodes entry number v below sound = record {
  below = with_joined v entry.participants (All (λ w. w < nodes)) sound.below (λ _. All-push (λ w. w < nodes) _ _ sound.below below);
  differ = with_joined v entry.participants (IsDistinct nat_eq) sound.differ (λ f. IsDistinct-push nat_eq_equiv entry.participants v sound.differ f);
  votes = All-weaker (λ w. is_among w entry.participants ≡ true) (λ w. is_among w (joined v entry.participants) ≡ true) (λ w h. among_joined v entry.participants w h) entry.votes sound.votes;
  once = sound.once;
  unanimous = λ t. absurd (false≢true t);
}

-- ---- COMMIT comes

commit-unanimous : (number : ℕ) (vs votes : List ℕ) → has_decide (commit_phase number vs) ≡ true → list_all (λ v. is_among v votes) vs ≡ true
commit-unanimous number [] votes h = refl
commit-unanimous number (v ∷ vs) votes h = absurd (false≢true h)

pub sound-committing : (nodes : ℕ) (entry : Entry) (number : ℕ) → IsSoundEntry nodes entry → IsSoundEntry nodes (committing number entry)
sound-committing nodes entry number sound = record {
  below = sound.below;
  differ = sound.differ;
  votes = sound.votes;
  once = sound.once;
  unanimous = commit-unanimous number entry.participants entry.votes;
}

-- ---- a vote

pub preparing-undecided : (phase : Phase) → is_preparing phase ≡ true → has_decide phase ≡ false
preparing-undecided (Preparing command) h = refl
preparing-undecided Idle h = refl
preparing-undecided (Asked command v) h = refl
preparing-undecided (Decided command) h = absurd (false≢true h)
preparing-undecided (Logged command) h = absurd (false≢true h)

not-true : (b : Bool) → not b ≡ true → b ≡ false
not-true true h = absurd (false≢true h)
not-true false h = refl

pub sound-voted : (nodes : ℕ) (entry : Entry) (v : ℕ) → awaits_vote v entry ≡ true → IsSoundEntry nodes entry → IsSoundEntry nodes (voted v entry)
sound-voted nodes entry v waits sound =
    let parts = and_parts _ _ waits in
    let first = and_parts _ _ parts.0 in
    let votes : All (λ w. is_among w entry.participants ≡ true) (entry.votes ++ v ∷ []) = All-push (λ w. is_among w entry.participants ≡ true) _ _ sound.votes first.1 in
    let once : IsDistinct nat_eq (entry.votes ++ v ∷ []) = IsDistinct-push nat_eq_equiv entry.votes v sound.once (not-true _ parts.1) in
    elim (cases_Bool (is_unanimous (with_vote v entry))) [
      | inl t ↦ subst (IsSoundEntry nodes) (sym (cond-true _ _ _ t)) (record { below = sound.below; differ = sound.differ; votes = votes; once = once; unanimous = λ _. t })
      | inr f ↦ subst (IsSoundEntry nodes) (sym (cond-false _ _ _ f))
          (record { below = sound.below; differ = sound.differ; votes = votes; once = once; unanimous = λ t. absurd (true≢false (sym t ∙ preparing-undecided entry.phase first.0)) })
    ]

-- ---- how many there are

among_below : (nodes : ℕ) (entry : Entry) (q : ℕ) → IsSoundEntry nodes entry → is_among q entry.participants ≡ true → q < nodes
among_below nodes entry q sound h = All-contains (λ w. w < nodes) entry.participants q sound.below (Contains-from_any eqb-true q entry.participants h)

-- at most as many participants, and as many votes
pub few_participants : (nodes : ℕ) (entry : Entry) → IsSoundEntry nodes entry → length entry.participants ≤ nodes
few_participants nodes entry sound =
    length-le_from_distinct_below entry.participants nodes sound.differ (λ q h. among_below nodes entry q sound h)

pub few_votes : (nodes : ℕ) (entry : Entry) → IsSoundEntry nodes entry → length entry.votes ≤ nodes
few_votes nodes entry sound =
    length-le_from_distinct_below entry.votes nodes sound.once
    (λ q h. among_below nodes entry q sound (All-contains (λ w. is_among w entry.participants ≡ true) entry.votes q sound.votes (Contains-from_any eqb-true q entry.votes h)))
