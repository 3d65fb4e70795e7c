use Rattle.std.proofs.Common.{◌≡◌, ◌+◌, ◌-◌, ◌≤◌, vec_len}
use Rattle.clustra.specs.declared.limits.TheConstants.{BYTES_MAX, PIECE_MAX}
use Rattle.clustra.proofs.Inputs.{ReadSoFar}
use Rattle.clustra.proofs.input.read_input.Given as goal

-- the bytes so far were read without a fault, and are within the limits
abbrev pub invariant-pieces : goal.invariant-pieces
invariant-pieces g l = record {
  so_far : ReadSoFar (g.S.Source.left l.fn.source) (g.S.Source.left l.source) l.newlines l.bytes.items;
  unfaulted : g.S.Source.faults l.source ≡ g.S.Source.faults l.fn.source;
  few_bytes : vec_len l.bytes ≤ BYTES_MAX;
  buffer_is : vec_len l.buffer ≡ PIECE_MAX;
}

abbrev pub decreases-pieces : goal.decreases-pieces
decreases-pieces g l = BYTES_MAX + 1 - vec_len l.bytes
