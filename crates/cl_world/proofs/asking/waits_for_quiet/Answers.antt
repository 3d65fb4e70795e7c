use Rattle.std.proofs.Common.{nat_eq, codes, refl, sym, ap, ◌∙◌}
use lib.Pointwise.{pointwise, bytes_decides}
use Rattle.cl_lines.specs.Line.{line_of}
use Rattle.cl_system.specs.System.{is_operators}
use Rattle.cl_world.proofs.Quiets.{waits_as}
use Rattle.cl_world.proofs.asking.waits_for_quiet.Goals as goal

pub returns : goal.returns
returns c =
    let text = c.args.text.now in
    let is = c.eq.ensures ∙ ap (pointwise nat_eq text) c.as_slice.ensures in
    let decides = bytes_decides text (codes "QUIET") in
    waits_as text c.eq.result (is_operators (line_of text)) refl (λ yes. decides.0 (sym is ∙ yes)) (λ same. is ∙ decides.1 same)
