-- Where the records of a key stand: FNV-1a with 32 bits, fragments and virtual nodes.
use Rattle.std.specs.Prelude.{ℕ, ◌*◌, ◌%◌, ◌^◌, ◌<◌, Bool, ◌||◌, ◌==◌, IsTrue, List, fold, bit_xor}

-- a hash with one more byte: the byte is xored in, and the outcome multiplied by 16777619 modulo 2^32
abbrev pub with_byte : ℕ → ℕ → ℕ
with_byte hash byte = bit_xor hash byte * 16777619 % 2 ^ 32

-- the hash of a key's bytes, first to last, from 2166136261 on
unfoldable pub hash_of : List ℕ → ℕ
hash_of key = fold with_byte 2166136261 key

-- whether there may be so many nodes
abbrev pub is_node_count : ℕ → Bool
is_node_count nodes = (nodes == 2) || (nodes == 4) || (nodes == 6) || (nodes == 8)

-- 2, 4, 6 or 8, as a condition
abbrev pub IsNodeCount : ℕ → Type 0
IsNodeCount nodes = IsTrue (is_node_count nodes)

-- the fragment of a key: there are four for each node
unfoldable pub fragment_of : List ℕ → ℕ → ℕ
fragment_of key nodes = hash_of key % (4 * nodes)

-- the virtual node of a key: there are as many as nodes
unfoldable pub virtual_node_of : List ℕ → ℕ → ℕ
virtual_node_of key nodes = fragment_of key nodes % nodes

-- each key stands on one of the virtual nodes
abbrev pub KeysStandOnVirtualNodes : Type 0
KeysStandOnVirtualNodes = (key : List ℕ) (nodes : ℕ) → IsNodeCount nodes → virtual_node_of key nodes < nodes
