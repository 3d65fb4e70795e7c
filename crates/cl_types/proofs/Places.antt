-- Places that are the same.
use Rattle.std.proofs.Common.{◌≡◌, ◌≢◌, true, false, refl, sym, ap}
use Rattle.std.specs.Bool.{Decides}
use Rattle.std.proofs.lemmas.Bool.{false_from_ne_true}
use Rattle.std.proofs.lemmas.Bool.Decides.{Decides-and, Decides-like, same_from_decides}
use Rattle.std.proofs.lemmas.Slice.Eq.{bytes_eq-Decides}
use Rattle.cl_types.specs.Places.{Place, same_place}

-- the test of one place is equality
pub same_place-Decides : (a b : Place) → Decides (same_place a b) (a ≡ b)
same_place-Decides a b =
    Decides-like (same_place a b)
    (λ (p : (a.0 ≡ b.0) × (a.1 ≡ b.1)). λ i. (p.0 i, p.1 i))
    (λ e. (ap (λ (p : Place). p.0) e, ap (λ (p : Place). p.1) e))
    (Decides-and _ _ (bytes_eq-Decides a.0 b.0) (bytes_eq-Decides a.1 b.1))

pub same_place-true : (a b : Place) → same_place a b ≡ true → a ≡ b
same_place-true a b = (same_place-Decides a b).0

pub same_place-itself : (a : Place) → same_place a a ≡ true
same_place-itself a = (same_place-Decides a a).1 refl

-- places that are not equal are two
pub same_place-false : (a b : Place) → a ≢ b → same_place a b ≡ false
same_place-false a b apart = false_from_ne_true _ (λ same. apart (same_place-true a b same))

pub same_place-symmetric : (a b : Place) → same_place a b ≡ same_place b a
same_place-symmetric a b =
    same_from_decides _ _ (same_place-Decides a b)
    (Decides-like _ (λ (e : b ≡ a). sym e) (λ (e : a ≡ b). sym e) (same_place-Decides b a))
