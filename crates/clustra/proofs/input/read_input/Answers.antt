-- Each way in which reading ends.
use Rattle.std.proofs.Common.{◌≡◌, ◌∙◌, ℕ, List, take, refl, ap, sym, arith}
use Rattle.std.proofs.lemmas.List.{take_at, length-take}
use Rattle.std.specs.Io.KnownBytes.{prepend_known}
use Rattle.clustra.proofs.Inputs.{ReadSoFar-start, ReadSoFar-more, ReadsToEnd-refused, ReadsToEnd-nothing}
use Rattle.clustra.proofs.input.read_input.Goals as goal

pub pieces-init : goal.pieces-init
pieces-init g c = record {
  so_far = ReadSoFar-start _ _ c.new-bytes.ensures.items;
  unfaulted = refl;
  few_bytes = omega (arith, c.new-bytes.ensures.len);
  buffer_is = c.in-Ok.ensures;
}

pub returns-in_default-clause-reads : goal.returns-in_default-clause-reads
returns-in_default-clause-reads g c = ReadsToEnd-nothing _ _

pub pieces-preserved : goal.pieces-preserved
pieces-preserved g c =
    let piece : List ℕ = take c.in-Ok-read_piece.count c.deref.result.now in
    let filled : piece ≡ take c.in-Ok-read_piece.count c.read_piece.new.buffer =
    ap (take c.in-Ok-read_piece.count) (c.deref.ensures.value ∙ take_at _ _ _ (c.read_piece.auto.buffer ∙ c.deref_mut.ensures.len)) in
    record {
      so_far = ReadSoFar-more _ _ _ c.pieces.newlines _ c.pieces.bytes.items piece _ c.in_default-add_piece.field-0 c.pieces.invariant.so_far
          (c.in-Ok-read_piece.ensures.taken ∙ ap (λ list. prepend_known list (g.S.Source.left c.read_piece.new.source)) (sym filled)) c.in_default-add_piece.ensures.adds c.in_default-add_piece.ensures.counted;
      unfaulted = c.in-Ok-read_piece.ensures.unfaulted ∙ c.pieces.invariant.unfaulted;
      few_bytes = c.in_default-add_piece.ensures.few;
      buffer_is = c.pieces.invariant.buffer_is;
    }

pub returns-in-Err-clause-reads : goal.returns-in-Err-clause-reads
returns-in-Err-clause-reads g c =
    let piece : List ℕ = take c.in-Ok-read_piece.count c.deref.result.now in
    let filled : piece ≡ take c.in-Ok-read_piece.count c.read_piece.new.buffer =
    ap (take c.in-Ok-read_piece.count) (c.deref.ensures.value ∙ take_at _ _ _ (c.read_piece.auto.buffer ∙ c.deref_mut.ensures.len)) in
    ReadsToEnd-refused _ _ _ _ c.pieces.newlines c.pieces.bytes.items piece c.add_piece.new.bytes.items c.in-Err.fault c.pieces.invariant.so_far
    (c.in-Ok-read_piece.ensures.taken ∙ ap (λ list. prepend_known list (g.S.Source.left c.read_piece.new.source)) (sym filled)) c.in-Err.ensures.adds
    (let size = length-take c.in-Ok-read_piece.count c.deref.result.now in
    omega (arith, size, c.in-Ok-read_piece.ensures.within, c.pieces.invariant.few_bytes))
    (let size = length-take c.in-Ok-read_piece.count c.deref.result.now in
    omega (arith, size, c.in-Ok-read_piece.ensures.within, c.deref.ensures, c.pieces.invariant.buffer_is, c.if-count-eq0))
    (let size = length-take c.in-Ok-read_piece.count c.deref.result.now in
    omega (arith, size, c.in-Ok-read_piece.ensures.within))
