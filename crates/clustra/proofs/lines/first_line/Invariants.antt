use Rattle.std.proofs.Common.{◌≡◌, ℕ, ◌<◌, get_or}
use Rattle.clustra.proofs.lines.first_line.Given as goal

-- no newline so far
abbrev pub invariant-loop-position : goal.invariant-loop-position
invariant-loop-position l = (k : ℕ) → k < l.position → get_or l.bytes k 0 ≡ 10 → ⊥
