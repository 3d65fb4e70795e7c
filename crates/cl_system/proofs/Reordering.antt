-- What another order of the messages on their way leaves: all that a test shows of them which one passes at most.
use Rattle.std.proofs.Common.{◌≡◌, ℕ, ◌≤◌, Bool, true, false, cond, List, [], ◌∷◌, All, length, filter, IsPermutation, refl, sym, ◌∙◌, ap, arith}
use Rattle.std.specs.List.{list_any}
use Rattle.std.proofs.lemmas.Bool.{false≢true}
use Rattle.std.proofs.lemmas.List.Elements.{All-nil, All-cons, All-head, All-tail}
use Rattle.std.proofs.lemmas.List.Sums.{length-filter}
use Rattle.std.proofs.lemmas.List.Sorted.{All-permutation, list_any-IsPermutation, sum_by-IsPermutation}
use Rattle.cl_system.specs.Firm.{AreReordered}
use Rattle.cl_system.specs.Replicas.{Mail}
use Rattle.cl_wire.specs.Message.{Content}

module _ (p : Content → Bool) where
  -- whoever passes is this message
  abbrev IsAlone : Content → Content → Type 0
  IsAlone one content = p content ≡ true → content ≡ one

  -- one message more, which passes only where it is this one
  more_alone : (one content : Content) (list : List Content) (passes : Bool) → p content ≡ passes → (passes ≡ true → content ≡ one) → All (IsAlone one) list →
      All (IsAlone one) (content ∷ list)
  more_alone one content list passes is this rest = All-cons (IsAlone one) content list (λ now. this (sym is ∙ now)) rest

  -- so it is where nobody passes
  none_pass : (one : Content) (list : List Content) → filter p list ≡ [] → All (IsAlone one) list
  none_pass one [] none = All-nil (IsAlone one)
  none_pass one (content ∷ list) none = elim (p content) as (λ b. p content ≡ b → cond b (content ∷ filter p list) (filter p list) ≡ [] → All (IsAlone one) (content ∷ list)) [
    | true ↦ λ passes shown. absurd (let e : content ∷ filter p list ≡ [] = shown in cc)
    | false ↦ λ fails shown. more_alone one content list false fails (λ e. absurd (false≢true e)) (none_pass one list shown)
  ] refl none

  -- and where it alone passes
  one_passes : (one : Content) (list : List Content) → filter p list ≡ one ∷ [] → All (IsAlone one) list
  one_passes one [] is = All-nil (IsAlone one)
  one_passes one (content ∷ list) is = elim (p content) as (λ b. p content ≡ b → cond b (content ∷ filter p list) (filter p list) ≡ one ∷ [] → All (IsAlone one) (content ∷ list)) [
    | true ↦ λ passes shown.
        let e : content ∷ filter p list ≡ one ∷ [] = shown in
        let head : content ≡ one = cc in
        let tail : filter p list ≡ [] = cc in
        more_alone one content list true passes (λ _. head) (none_pass one list tail)
    | false ↦ λ fails shown. more_alone one content list false fails (λ e. absurd (false≢true e)) (one_passes one list shown)
  ] refl is

  -- then all that passes is it
  all_alone : (one : Content) (list : List Content) → All (IsAlone one) list → All (λ content. content ≡ one) (filter p list)
  all_alone one [] alone = All-nil (λ content. content ≡ one)
  all_alone one (content ∷ list) alone =
      elim (p content) as (λ b. p content ≡ b → All (λ c. c ≡ one) (cond b (content ∷ filter p list) (filter p list))) [
        | true ↦ λ passes. All-cons (λ c. c ≡ one) content (filter p list) (All-head (IsAlone one) content list alone passes)
            (all_alone one list (All-tail (IsAlone one) content list alone))
        | false ↦ λ fails. all_alone one list (All-tail (IsAlone one) content list alone)
      ] refl

  -- a list of one message that is this one
  only_one : (one : Content) (list : List Content) → length list ≡ 1 → All (λ content. content ≡ one) list → list ≡ one ∷ []
  only_one one [] is all = absurd (omega (arith, is))
  only_one one (content ∷ []) is all = ap (λ c. c ∷ []) (All-head (λ c. c ≡ one) content [] all)
  only_one one (content ∷ other ∷ list) is all = absurd (omega (arith, is))

  no_one : (list : List Content) → length list ≡ 0 → list ≡ []
  no_one [] is = refl
  no_one (content ∷ list) is = absurd (omega (arith, is))

  -- as many pass
  as_many : (before after : List Content) → IsPermutation before after → length (filter p after) ≡ length (filter p before)
  as_many before after is = length-filter p after ∙ sum_by-IsPermutation (λ content. cond (p content) 1 0) before after is ∙ sym (length-filter p before)

  -- what a test shows of a list is the same in any order of it, if one passes at most
  pub permuted_filter : (before after : List Content) → IsPermutation before after → length (filter p before) ≤ 1 → filter p after ≡ filter p before
  permuted_filter before after is few = by (filter p before) refl
    where
      by : (shown : List Content) → filter p before ≡ shown → filter p after ≡ filter p before
      by [] none = no_one (filter p after) (as_many before after is ∙ ap length none) ∙ sym none
      by (one ∷ []) alone =
          only_one one (filter p after) (as_many before after is ∙ ap length alone)
          (all_alone one after (All-permutation (IsAlone one) before after is (one_passes one before alone)))
          ∙ sym alone
      by (one ∷ other ∷ rest) more = absurd (let long = ap length more in omega (arith, few, long))

-- what a test shows of a queue is the same in another order, if one passes at most
pub reordered_filter : (before after : Mail) → AreReordered before after → (p : Content → Bool) (from to : ℕ) →
    length (filter p (before from to)) ≤ 1 → filter p (after from to) ≡ filter p (before from to)
reordered_filter before after are p from to few = permuted_filter p (before from to) (after from to) (are from to) few

-- whether some message of a queue passes a test is the same in another order
pub reordered_any : (before after : Mail) → AreReordered before after → (p : Content → Bool) (from to : ℕ) →
    list_any p (after from to) ≡ list_any p (before from to)
reordered_any before after are p from to = sym (list_any-IsPermutation p (before from to) (after from to) (are from to))

-- what holds of each message of a queue holds in another order
pub reordered_all : (before after : Mail) → AreReordered before after → (P : Content → Type 0) (from to : ℕ) →
    All P (before from to) → All P (after from to)
reordered_all before after are P from to all = All-permutation P (before from to) (after from to) (are from to) all
