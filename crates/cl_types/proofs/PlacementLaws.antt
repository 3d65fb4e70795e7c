-- Where keys stand, for every number of nodes.
use Rattle.std.proofs.Common.{◌≡◌, ℕ, ◌*◌, ◌%◌, ◌<◌, ◌≤◌, ◌||◌, ◌==◌, List, [], ◌∷◌, ◌++◌, inl, inr, ◌⊎◌, ⊎_elim, refl, arith}
use Rattle.std.proofs.lemmas.Bool.{eqb-true, or_cases}
use Rattle.std.proofs.lemmas.List.Sums.{fold_push}
use Rattle.cl_types.specs.Placement.{with_byte, hash_of, fragment_of, virtual_node_of, IsNodeCount}

-- how many nodes there may be
pub node_count-cases : (nodes : ℕ) → IsNodeCount nodes → (nodes ≡ 2) ⊎ ((nodes ≡ 4) ⊎ ((nodes ≡ 6) ⊎ (nodes ≡ 8)))
node_count-cases nodes count = ⊎_elim
    (λ few. ⊎_elim (λ fewer. ⊎_elim (λ two. inl (eqb-true nodes 2 two)) (λ four. inr (inl (eqb-true nodes 4 four))) (or_cases (nodes == 2) (nodes == 4) fewer))
    (λ six. inr (inr (inl (eqb-true nodes 6 six)))) (or_cases ((nodes == 2) || (nodes == 4)) (nodes == 6) few))
    (λ eight. inr (inr (inr (eqb-true nodes 8 eight)))) (or_cases ((nodes == 2) || (nodes == 4) || (nodes == 6)) (nodes == 8) count)

pub node_count-some : (nodes : ℕ) → IsNodeCount nodes → 0 < nodes
node_count-some nodes count = let cases = node_count-cases nodes count in grind arith

-- from 2 to 8
pub node_count-bounds : (nodes : ℕ) → IsNodeCount nodes → (2 ≤ nodes) × (nodes ≤ 8)
node_count-bounds nodes count = let cases = node_count-cases nodes count in (grind arith, grind arith)

-- as many on one site as on the other
pub node_count-even : (nodes : ℕ) → IsNodeCount nodes → nodes % 2 ≡ 0
node_count-even nodes count = elim (node_count-cases nodes count) [
  | inl two ↦ rw two refl
  | inr more ↦ elim more [ inl four ↦ rw four refl | inr most ↦ elim most [ inl six ↦ rw six refl | inr eight ↦ rw eight refl ] ]
]

-- a key of one more byte
pub hash_of-push : (key : List ℕ) (byte : ℕ) → hash_of (key ++ byte ∷ []) ≡ with_byte (hash_of key) byte
unfolding hash_of
hash_of-push key byte = fold_push with_byte 2166136261 key byte

pub fragment_of-below : (key : List ℕ) (nodes : ℕ) → IsNodeCount nodes → fragment_of key nodes < 4 * nodes
unfolding fragment_of
fragment_of-below key nodes count = omega (arith, node_count-some nodes count)

pub virtual_node_of-below : (key : List ℕ) (nodes : ℕ) → IsNodeCount nodes → virtual_node_of key nodes < nodes
unfolding virtual_node_of
virtual_node_of-below key nodes count = omega (arith, node_count-some nodes count)
