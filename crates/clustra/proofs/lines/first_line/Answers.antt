-- The line ends at the first newline, or at the end.
use Rattle.std.proofs.Common.{◌≡◌, ◌∙◌, ℕ, suc, ◌+◌, ◌-◌, List, ◌∷◌, length, take, drop, ap, sym, arith}
use Rattle.std.proofs.lemmas.List.{take_rest}
use Rattle.cl_serial.specs.Bytes.{whole_lines}
use Rattle.cl_serial.proofs.LineLemmas.{whole_lines-first, whole_lines-last}
use Rattle.clustra.proofs.lines.first_line.Goals as goal

-- what stands after a position, as a slice gives it
rest_after : (bytes : List ℕ) (i : ℕ) → drop (suc i) bytes ≡ take (length bytes - (i + 1)) (drop (i + 1) bytes)
rest_after bytes i = let one_more : suc i ≡ i + 1 = omega arith in ap (λ k. drop k bytes) one_more ∙ sym (take_rest bytes (i + 1))

pub returns-then-byte-eq10-clause-line : goal.returns-then-byte-eq10-clause-line
returns-then-byte-eq10-clause-line c =
    whole_lines-first c.args.bytes.now c.loop-position.position c.loop-position-test.true c.loop-position.invariant c.if-byte-eq10.true
    ∙ ap (λ rest. take c.loop-position.position c.args.bytes.now ∷ whole_lines rest) (rest_after c.args.bytes.now c.loop-position.position)

pub returns-clause-line : goal.returns-clause-line
unfolding whole_lines
returns-clause-line c = whole_lines-last c.args.bytes.now c.requires (λ k h. c.loop-position.invariant k (omega arith))
