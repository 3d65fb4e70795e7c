-- The receivers of what is sent.
use Rattle.std.proofs.Common.{◌≡◌, ℕ, ◌+◌, ◌==◌, ◌<◌, ◌≤◌, Bool, true, false, ◌||◌, nat_lt, nat_eq, cond, List, [], ◌∷◌, All, map, count_by}
use Rattle.std.proofs.Common.{refl, sym, ap, ◌∙◌, subst, inl, inr, true≢false, arith, rules}
use Rattle.std.proofs.lemmas.Bool.{eq-eqb, ne_eqb}
use Rattle.std.proofs.lemmas.Bool.Decides.{eqb_tells}
use Rattle.std.proofs.lemmas.List.Elements.{All-nil, All-cons, All-head, All-tail, All-weaker}
use Rattle.std.proofs.lemmas.List.Folds.{list_any_none}
use Rattle.std.proofs.lemmas.List.Sums.{sum_by-cons}
use Rattle.std.proofs.Math.Path.{fun_ext}
use Rattle.std.specs.List.{list_any}
use Rattle.cl_steps.specs.Steps.{AreFewer}
use Rattle.cl_endpoint.specs.Endpoint.{EndpointState, link_to, is_spent_to}
use Rattle.cl_link.specs.declared.link.TheConstants.{NUMBER_MAX}
use Rattle.cl_link.specs.LinkState.{last_number}

-- what holds of each image holds of the image of each item
pub All-of_map : {A B : Type 0} (P : B → Type 0) (f : A → B) (items : List A) → All P (map f items) → All (λ item. P (f item)) items
All-of_map P f [] each = All-nil _
All-of_map P f (item ∷ items) each =
    All-cons (λ one. P (f one)) item items (All-head P (f item) (map f items) each) (All-of_map P f items (All-tail P (f item) (map f items) each))

-- who is counted in a list has what each of it has
counted_has : (P : ℕ → Type 0) (to : ℕ) (all : List ℕ) → All P all → 0 < count_by (nat_eq to) all → P to
counted_has P to [] each some = absurd (omega (arith, some))
counted_has P to (one ∷ rest) each some =
    let hit : ℕ → ℕ = λ other. cond (nat_eq to other) 1 0 in
    elim (eqb_tells to one) [
      | inl h ↦ subst P (sym h.1) (All-head P one rest each)
      | inr h ↦ (let apart : hit one ≡ 0 = ap (λ b. cond b 1 0) h.0 in
          let sum : count_by (nat_eq to) (one ∷ rest) ≡ 0 + count_by (nat_eq to) rest
          = sum_by-cons hit one rest ∙ ap (λ n. n + count_by (nat_eq to) rest) apart in
          counted_has P to rest (All-tail P one rest each) (omega (arith, some, sum)))
    ]

-- so each of fewer has what each of more has
pub each_of_fewer : (P : ℕ → Type 0) (fewer more : List ℕ) → AreFewer fewer more → All P more → All P fewer
each_of_fewer P [] more few each = All-nil P
each_of_fewer P (to ∷ rest) more few each =
    let counted : (other : ℕ) → count_by (nat_eq other) (to ∷ rest) ≡ cond (nat_eq other to) 1 0 + count_by (nat_eq other) rest =
    λ other. sum_by-cons (λ one. cond (nat_eq other one) 1 0) to rest in
    let hit : ℕ → ℕ = λ one. cond (nat_eq to one) 1 0 in
    let itself : hit to ≡ 1 = ap (λ b. cond b 1 0) (eq-eqb to to refl) in
    let here = few to in
    let sum : count_by (nat_eq to) (to ∷ rest) ≡ 1 + count_by (nat_eq to) rest
    = sum_by-cons hit to rest ∙ ap (λ n. n + count_by (nat_eq to) rest) itself in
    All-cons P to rest (counted_has P to more each (omega (arith, here, sum)))
    (each_of_fewer P rest more (λ other. (let there = few other in let sums = counted other in omega (arith, there, sums))) each)

neither : (one other : Bool) → (one || other) ≡ false → (one ≡ false) × (other ≡ false)
neither true other none = absurd (true≢false none)
neither false other none = (refl, none)

each_fails : (test : ℕ → Bool) (all : List ℕ) → list_any test all ≡ false → All (λ to. test to ≡ false) all
each_fails test [] none = All-nil _
each_fails test (to ∷ rest) none =
    let both = neither (test to) (list_any test rest) none in All-cons (λ one. test one ≡ false) to rest both.0 (each_fails test rest both.1)

same_test : (one other : ℕ) → (one == other) ≡ nat_eq other one
same_test one other =
    elim (eqb_tells one other) [
      | inl h ↦ h.0 ∙ sym (eq-eqb other one (sym h.1))
      | inr h ↦ h.0 ∙ sym (ne_eqb other one (λ e. h.1 (sym e)))
    ]

same_count : (to : ℕ) (all : List ℕ) → count_by (λ other. other == to) all ≡ count_by (nat_eq to) all
same_count to all = ap (λ (test : ℕ → Bool). count_by test all) (fun_ext (λ other. same_test other to))

still_fits : (limit last fewer more : ℕ) → fewer ≤ more → nat_lt limit (last + more) ≡ false → nat_lt limit (last + fewer) ≡ false
still_fits limit last fewer more few fits = search rules

-- where messages to these fit, messages to fewer fit
pub fewer_fit : (endpoint : EndpointState) (fewer more : List ℕ) → AreFewer fewer more → is_spent_to endpoint more ≡ false → is_spent_to endpoint fewer ≡ false
unfolding is_spent_to
fewer_fit endpoint fewer more few fit =
    let P : ℕ → Type 0 = λ to. nat_lt NUMBER_MAX (last_number (link_to endpoint to) + count_by (λ other. other == to) more) ≡ false in
    let Q : ℕ → Type 0 = λ to. nat_lt NUMBER_MAX (last_number (link_to endpoint to) + count_by (λ other. other == to) fewer) ≡ false in
    list_any_none _ _ (All-weaker P Q
    (λ to fits. still_fits NUMBER_MAX (last_number (link_to endpoint to)) _ _ (rw (same_count to fewer, same_count to more) (few to)) fits)
    fewer (each_of_fewer P fewer more few (each_fails _ more fit)))

spent_still : (fewer more : Bool) → (more ≡ false → fewer ≡ false) → fewer ≡ true → more ≡ true
spent_still fewer true fit spent = refl
spent_still fewer false fit spent = absurd (true≢false (sym spent ∙ fit refl))

-- where messages to these do not fit, messages to more do not fit
pub more_is_spent : (endpoint : EndpointState) (fewer more : List ℕ) → AreFewer fewer more →
    is_spent_to endpoint fewer ≡ true → is_spent_to endpoint more ≡ true
more_is_spent endpoint fewer more few spent = spent_still (is_spent_to endpoint fewer) (is_spent_to endpoint more) (fewer_fit endpoint fewer more few) spent
