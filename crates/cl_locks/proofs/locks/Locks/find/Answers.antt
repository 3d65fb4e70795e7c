use Rattle.std.proofs.Common.{◌≡◌, true, false, find, refl, sym, ap, ◌∙◌}
use Rattle.cl_lists.specs.declared.slots.Side.TheVariants.{X}
use Rattle.cl_lists.specs.Arena.{list_of}
use Rattle.cl_lists.proofs.ArenaLaws.{is_placed}
use Rattle.cl_locks.specs.Listed.{place_list}
use Rattle.cl_locks.proofs.Walks.{passed-on, passed-next, passed-smaller, passed-at, none-push, found-after}
use Rattle.cl_locks.proofs.locks.Locks.find.Goals as goal

pub get-requires : goal.get-requires
get-requires g c =
    let granted = c.args.self.now.granted in
    let list = place_list c.args.key.now in
    (is_placed granted X).in_use list c.in-Some.slot (passed-on granted _ (list_of granted X list) c.loop-next.next c.in-Some.slot c.loop-next.invariant c.in-Some.is)

pub returns-then-meets-clause-grant : goal.returns-then-meets-clause-grant
returns-then-meets-clause-grant g c = λ test says.
    let granted = c.args.self.now.granted in
    let grant = c.get.result.now in
    let passes : true ≡ test grant = says grant true (record { shown = c.get.result; shows = refl; says = record { met = c.if-meets.ensures } }) in
    let stop = passed-at granted _ (list_of granted X (place_list c.args.key.now)) c.loop-next.next c.in-Some.slot grant c.loop-next.invariant c.in-Some.is c.get.ensures in
    c.get.ensures ∙ sym (ap (find test) stop.whole ∙ found-after test stop.before grant stop.after (stop.passed test says) (sym passes))

pub loop-next-smaller : goal.loop-next-smaller
loop-next-smaller g c =
    let granted = c.args.self.now.granted in
    let list = place_list c.args.key.now in
    passed-smaller granted _ (list_of granted X list) c.loop-next.next c.next-next.result c.in-Some.slot c.loop-next.invariant ((is_placed granted X).once list) c.in-Some.is
    (c.next-next.ensures.value list (passed-on granted _ (list_of granted X list) c.loop-next.next c.in-Some.slot c.loop-next.invariant c.in-Some.is))

pub loop-next-preserved : goal.loop-next-preserved
loop-next-preserved g c =
    let granted = c.args.self.now.granted in
    let list = place_list c.args.key.now in
    let grant = c.get.result.now in
    passed-next granted _ (list_of granted X list) c.loop-next.next c.next-next.result c.in-Some.slot grant c.loop-next.invariant ((is_placed granted X).once list) c.in-Some.is
    (c.next-next.ensures.value list (passed-on granted _ (list_of granted X list) c.loop-next.next c.in-Some.slot c.loop-next.invariant c.in-Some.is))
    c.get.ensures
    (λ grants none test says. none-push test grants grant (none test says) (sym (says grant false (record { shown = c.get.result; shows = refl; says = record { met = c.if-meets.ensures } }))))
