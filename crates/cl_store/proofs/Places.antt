-- Scan order is a total order of places, in which two places that tie are one.
use Rattle.std.proofs.Common.{◌≡◌, ℕ, List, true, false, Ordering, Less, Equal, Greater, sym, ap, ◌∙◌, subst}
use Rattle.std.specs.Cmp.{IsTotalOrder}
use Rattle.std.specs.Cmp.Lexicographic.{slice_cmp}
use Rattle.std.specs.Ordering.{nat_cmp, ordering_then, ordering_reverse, is_eq}
use Rattle.std.specs.Str.{bytes_eq}
use Rattle.std.proofs.lemmas.Bool.{and_from}
use Rattle.std.proofs.lemmas.Cmp.{then_total, on_total, nat_cmp_total, nat_list_cmp_total, tied_itself}
use Rattle.std.proofs.lemmas.Map.Text.{is_eq-slice_cmp}
use Rattle.cl_types.specs.Places.{Place, same_place}
use Rattle.cl_types.specs.Placement.{hash_of}
use Rattle.cl_types.proofs.Places.{same_place-true, same_place-false, same_place-symmetric}
use Rattle.cl_store.specs.ScanOrder.{scan_order}

pub scan_order-total : IsTotalOrder scan_order
unfolding scan_order
scan_order-total =
    then_total (on_total (λ (p : Place). hash_of p.1) nat_cmp_total)
    (then_total (on_total (λ (p : Place). p.0) nat_list_cmp_total) (on_total (λ (p : Place). p.1) nat_list_cmp_total))

-- both parts of an order tie where the whole does
tie_parts : (a b : Ordering) → ordering_then a b ≡ Equal → (a ≡ Equal) × (b ≡ Equal)
tie_parts Less b e = cc
tie_parts Equal b e = (cc, e)
tie_parts Greater b e = cc

bytes_tie : (xs ys : List ℕ) → slice_cmp nat_cmp xs ys ≡ Equal → bytes_eq xs ys ≡ true
bytes_tie xs ys e = sym (is_eq-slice_cmp xs ys) ∙ ap is_eq e

pub scan_order-Equal : (a b : Place) → scan_order a b ≡ Equal → a ≡ b
unfolding scan_order
scan_order-Equal a b e =
    let parts = tie_parts _ _ (tie_parts _ _ e).1 in
    same_place-true a b (and_from _ _ (bytes_tie a.0 b.0 parts.0) (bytes_tie a.1 b.1 parts.1))

pub scan_order-itself : (a : Place) → scan_order a a ≡ Equal
scan_order-itself a = tied_itself scan_order-total a

-- of two places the later does not come before the earlier
pub scan_order-flip : (a b : Place) → scan_order a b ≡ Less → scan_order b a ≡ Greater
scan_order-flip a b before = scan_order-total.antisymm b a ∙ ap ordering_reverse before

-- a place that comes before another is another
pub same_place-before : (a b : Place) → scan_order a b ≡ Less → same_place a b ≡ false
same_place-before a b before = same_place-false a b (λ e.
    let ties : scan_order a b ≡ Equal = subst (λ (c : Place). scan_order a c ≡ Equal) e (scan_order-itself a) in
    cc)

pub same_place-after : (a b : Place) → scan_order b a ≡ Less → same_place a b ≡ false
same_place-after a b after = same_place-symmetric a b ∙ same_place-before b a after
