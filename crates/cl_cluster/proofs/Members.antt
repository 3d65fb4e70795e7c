-- The node of a standby, and the virtual node that a node backs up: one undoes the other.
use Rattle.std.proofs.Common.{◌≡◌, ◌≢◌, ℕ, ◌<◌, inl, inr, sym, subst, arith}
use Rattle.cl_node.specs.Members.{standby_node, backed_up}
use Rattle.cl_types.proofs.PlacementLaws.{node_count-cases}
use Rattle.cl_types.specs.Placement.{IsNodeCount}

-- what holds of 2, 4, 6 and 8 nodes holds of each number of nodes
by_count : (P : ℕ → Type 0) → P 2 → P 4 → P 6 → P 8 → (nodes : ℕ) → IsNodeCount nodes → P nodes
by_count P two four six eight nodes counted = elim (node_count-cases nodes counted) [
  | inl is ↦ subst P (sym is) two
  | inr more ↦ elim more [
    | inl is ↦ subst P (sym is) four
    | inr most ↦ elim most [ inl is ↦ subst P (sym is) six | inr is ↦ subst P (sym is) eight ]
  ]
]

-- the node of the standby of a virtual node backs that one up
pub backed_up-standby : (nodes v : ℕ) → IsNodeCount nodes → v < nodes → backed_up nodes (standby_node nodes v) ≡ v
backed_up-standby nodes v counted =
    by_count (λ n. v < n → backed_up n (standby_node n v) ≡ v)
    (λ below. omega (arith, below)) (λ below. omega (arith, below)) (λ below. omega (arith, below)) (λ below. omega (arith, below)) nodes counted

-- the standby of what a node backs up is at that node
pub standby-backed_up : (nodes me : ℕ) → IsNodeCount nodes → me < nodes → standby_node nodes (backed_up nodes me) ≡ me
standby-backed_up nodes me counted =
    by_count (λ n. me < n → standby_node n (backed_up n me) ≡ me)
    (λ below. omega (arith, below)) (λ below. omega (arith, below)) (λ below. omega (arith, below)) (λ below. omega (arith, below)) nodes counted

-- no node backs itself up
pub backed_up-apart : (nodes me : ℕ) → IsNodeCount nodes → me < nodes → me ≢ backed_up nodes me
backed_up-apart nodes me counted =
    by_count (λ n. me < n → me ≢ backed_up n me)
    (λ below same. omega (arith, below, same)) (λ below same. omega (arith, below, same))
    (λ below same. omega (arith, below, same)) (λ below same. omega (arith, below, same)) nodes counted

-- a node backs up a virtual node
pub backed_up-below : (nodes me : ℕ) → IsNodeCount nodes → backed_up nodes me < nodes
backed_up-below nodes me counted = by_count (λ n. backed_up n me < n) (omega arith) (omega arith) (omega arith) (omega arith) nodes counted

-- a standby is at a node
pub standby-below : (nodes v : ℕ) → IsNodeCount nodes → standby_node nodes v < nodes
standby-below nodes v counted = by_count (λ n. standby_node n v < n) (omega arith) (omega arith) (omega arith) (omega arith) nodes counted
