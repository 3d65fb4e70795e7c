-- Too much is known before anything is added.
use Rattle.std.proofs.Common.{◌∙◌, ◌++◌, inl, ap, arith, if◌then◌else◌}
use Rattle.std.proofs.lemmas.List.{length-append}
use Rattle.clustra.proofs.Inputs.{within, lines_with}
use Rattle.clustra.proofs.input.add_piece.Goals as goal

pub returns-then-lines_begun-gt-LINES_MAX-clause-adds : goal.returns-then-lines_begun-gt-LINES_MAX-clause-adds
returns-then-lines_begun-gt-LINES_MAX-clause-adds c =
    let lines = lines_with c.args.newlines.now c.args.bytes.now.items c.args.piece.now c.requires.counted c.requires.some in
    inl (omega (arith, lines, c.lines_begun.ensures, c.count_newlines.ensures.count, c.if-lines_begun-gt-LINES_MAX.true))

pub returns-then-is_err-clause-adds : goal.returns-then-is_err-clause-adds
returns-then-is_err-clause-adds c =
    let lines = lines_with c.args.newlines.now c.args.bytes.now.items c.args.piece.now c.requires.counted c.requires.some in
    within _ (omega (arith, lines, c.lines_begun.ensures, c.count_newlines.ensures.count)) (omega (arith, length-append c.args.bytes.now.items c.args.piece.now))

pub returns-clause-adds : goal.returns-clause-adds
returns-clause-adds c =
    let lines = lines_with c.args.newlines.now c.args.bytes.now.items c.args.piece.now c.requires.counted c.requires.some in (
      c.extend_from_slice.ensures.items ∙ ap (λ b. if b then c.args.bytes.now.items ++ c.args.piece.now else c.args.bytes.now.items) c.if-is_err.ensures.negation,
      within _ (omega (arith, lines, c.lines_begun.ensures, c.count_newlines.ensures.count)) (omega (arith, length-append c.args.bytes.now.items c.args.piece.now)),
    )
