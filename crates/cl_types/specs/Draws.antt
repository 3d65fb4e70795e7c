-- Draws: numbers that look random and are a function of their seed (the finalizer of SplitMix64).
use Rattle.std.specs.Prelude.{ℕ, ◌+◌, ◌*◌, ◌%◌, ◌^◌, ◌/◌, bit_xor}

-- a number xored with itself shifted right
abbrev pub folded : ℕ → ℕ → ℕ
folded z count = bit_xor z (z / 2 ^ count)

-- a number after the golden ratio's step, of 64 bits
abbrev pub stepped : ℕ → ℕ
stepped x = (x + 0x9E3779B97F4A7C15) % 2 ^ 64

-- the draw of a number: of 64 bits
unfoldable pub mixed : ℕ → ℕ
mixed x = folded (folded (folded (stepped x) 30 * 0xBF58476D1CE4E5B9 % 2 ^ 64) 27 * 0x94D049BB133111EB % 2 ^ 64) 31
