-- The entries are in order, so the finite map has as many.
use Rattle.std.proofs.Common.{sym, ap, ◌∙◌}
use Rattle.std.specs.FinMap as map
use Rattle.cl_serial.proofs.PlainMapLemmas.{len-from_entries}
use Rattle.cl_serial.proofs.plain_map.PlainMap.count.Goals as goal

pub returns : goal.returns
returns c =
    c.len.ensures.len ∙ sym (len-from_entries c.self.inside.values.entries c.len.ensures.ordered)
    ∙ ap map.len c.self.view_is
