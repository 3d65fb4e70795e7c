-- What is changed where the key compares equal is changed at the place.
use Rattle.std.proofs.Common.{Some, None, ap, sym, ◌∙◌}
use Rattle.std.specs.BTreeMap.{get as found_at}
use Rattle.cl_serial.specs.PlainMap.{updated}
use Rattle.cl_serial.specs.PlainMapModel.{place_cmp}
use Rattle.cl_serial.proofs.PlainMapLemmas.{updated-from_cmp}
use Rattle.cl_serial.proofs.plain_map.set_or_remove.Goals as goal

pub returns-in_ok-insert-in-Some-clause-ok : goal.returns-in_ok-insert-in-Some-clause-ok
returns-in_ok-insert-in-Some-clause-ok c other =
    updated-from_cmp (found_at place_cmp c.args.values.now) (found_at place_cmp c.insert.new.self) c.args.place (Some c.in-Some.value)
    c.in_ok-insert-in-Some.ensures.updates.0 other
    ∙ ap (λ value. updated (found_at place_cmp c.args.values.now) c.args.place value other) (sym c.in-Some.is)

pub returns-in-None-clause-ok : goal.returns-in-None-clause-ok
returns-in-None-clause-ok c other =
    updated-from_cmp (found_at place_cmp c.args.values.now) (found_at place_cmp c.remove.new.self) c.args.place None
    c.remove.ensures.updates.0 other
    ∙ ap (λ value. updated (found_at place_cmp c.args.values.now) c.args.place value other) (sym c.in-None.is)
