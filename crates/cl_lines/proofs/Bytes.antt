-- Facts of each byte of a text, from a test of them.
use Rattle.std.proofs.Common.{◌≡◌, ◌≢◌, ℕ, Bool, true, false, ◌&&◌, ◌==◌, List, [], ◌∷◌, All, refl, sym, ◌∙◌, ap}
use Rattle.std.specs.List.{list_all}
use Rattle.std.proofs.lemmas.Bool.{false≢true, eqb-true}
use Rattle.std.proofs.lemmas.List.Elements.{All-nil, All-cons}

-- both tests hold
pub both : (a b : Bool) → (a && b) ≡ true → (a ≡ true) × (b ≡ true)
both true b e = (refl, e)
both false b e = absurd (false≢true e)

-- what follows of each that passes holds of each
pub All-from_list_all : {X : Type 0} (test : X → Bool) (P : X → Type 0) → ((x : X) → test x ≡ true → P x) → (xs : List X) → list_all test xs ≡ true → All P xs
All-from_list_all test P follows [] passed = All-nil P
All-from_list_all test P follows (x ∷ xs) passed =
    let parts = both (test x) (list_all test xs) passed in
    All-cons P x xs (follows x parts.0) (All-from_list_all test P follows xs parts.1)

-- a byte that passes is none that fails
pub differs : (test : ℕ → Bool) (byte : ℕ) → test byte ≡ false → (b : ℕ) → test b ≡ true → b ≢ byte
differs test byte fails b passes same = false≢true (sym fails ∙ sym (ap test same) ∙ passes)

-- a test that equality fails
pub not_equal : (test : ℕ → Bool) (byte : ℕ) → test byte ≡ false → (b : ℕ) → test b ≡ true → (b == byte) ≡ false
not_equal test byte fails b passes = by_case (b == byte) refl where
  by_case : (answer : Bool) → (b == byte) ≡ answer → answer ≡ false
  by_case true e = absurd (differs test byte fails b passes (eqb-true b byte e))
  by_case false e = refl
