-- Lists of virtual nodes.
use Rattle.std.proofs.Common.{◌≡◌, ℕ, ◌+◌, suc, zero, Bool, true, false, ◌||◌, ◌&&◌, List, [], ◌∷◌, ◌++◌, map, filter, nat_eq, refl, sym, ap, ◌∙◌, add-one, arith}
use Rattle.std.specs.List.{list_all, range_with_len}
use Rattle.std.proofs.lemmas.Bool.{cond-true, cond-false}
use Rattle.std.proofs.lemmas.List.{append-nil, append_assoc, map-append}
use Rattle.std.proofs.lemmas.List.Folds.{list_any-append}
use Rattle.std.proofs.lemmas.List.Elements.{filter-append}
use Rattle.cl_control.specs.State.{is_among, ascending}

or_false : (b : Bool) → (b || false) ≡ b
or_false true = refl
or_false false = refl

-- one more at the end
pub is_among-push : (w : ℕ) (vs : List ℕ) (v : ℕ) → is_among w (vs ++ v ∷ []) ≡ (is_among w vs || nat_eq w v)
is_among-push w vs v = list_any-append (nat_eq w) vs (v ∷ []) ∙ ap (λ b. is_among w vs || b) (or_false (nat_eq w v))

-- each is among these or is the one more
pub list_all-push : (ws vs : List ℕ) (v : ℕ) → list_all (λ w. is_among w vs || nat_eq w v) ws ≡ list_all (λ w. is_among w (vs ++ v ∷ [])) ws
list_all-push [] vs v = refl
list_all-push (w ∷ ws) vs v = ap (λ b. b && list_all (λ x. is_among x vs || nat_eq x v) ws) (sym (is_among-push w vs v)) ∙ ap (λ b. is_among w (vs ++ v ∷ []) && b) (list_all-push ws vs v)

-- the numbers from one on, with one more
range-more : (from n : ℕ) → range_with_len from (suc n) ≡ range_with_len from n ++ (from + n) ∷ []
range-more from zero = ap (λ n. n ∷ []) (sym (omega arith))
range-more from (suc n) = ap (λ ns. from ∷ ns) (range-more (from + 1) n ∙ ap (λ m. range_with_len (from + 1) n ++ m ∷ []) (omega arith))

-- these of one more virtual node, ascending
pub ascending-more : (n : ℕ) (vs : List ℕ) → ascending (n + 1) vs ≡ ascending n vs ++ filter (λ v. is_among v vs) (n ∷ [])
ascending-more n vs =
    ap (λ m. ascending m vs) (add-one n) ∙ ap (filter (λ v. is_among v vs)) (range-more 0 n ∙ ap (λ m. range_with_len 0 n ++ m ∷ []) (omega arith))
    ∙ filter-append (λ v. is_among v vs) (range_with_len 0 n) (n ∷ [])

module _ {A : Type 0} (act : ℕ → A) (n : ℕ) (vs : List ℕ) (before acts : List A) where
  -- one more virtual node is told, or is not among these
  pub told_more : acts ≡ before ++ map act (ascending n vs) → is_among n vs ≡ true → acts ++ act n ∷ [] ≡ before ++ map act (ascending (n + 1) vs)
  told_more h is =
      ap (λ xs. xs ++ act n ∷ []) h ∙ append_assoc before (map act (ascending n vs)) (act n ∷ [])
      ∙ ap (λ xs. before ++ xs) (sym (map-append act (ascending n vs) (n ∷ []))
      ∙ ap (λ ns. map act (ascending n vs ++ ns)) (sym (cond-true _ _ _ is)) ∙ ap (map act) (sym (ascending-more n vs)))

  pub told_no_more : acts ≡ before ++ map act (ascending n vs) → is_among n vs ≡ false → acts ≡ before ++ map act (ascending (n + 1) vs)
  told_no_more h is =
      h ∙ ap (λ xs. before ++ map act xs) (sym (append-nil (ascending n vs)) ∙ ap (λ ns. ascending n vs ++ ns) (sym (cond-false _ _ _ is)) ∙ sym (ascending-more n vs))
