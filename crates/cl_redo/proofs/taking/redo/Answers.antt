use Rattle.std.proofs.Common.{◌≡◌, ℕ, List, ap, inl, inr}
use Rattle.cl_types.specs.Places.{Place, same_place}
use Rattle.cl_log.specs.Kind.{writes, number_before}
use Rattle.cl_store.specs.Store.{stored}
use Rattle.cl_redo.proofs.Guards.{redo_by_guard-made}
use Rattle.cl_redo.proofs.taking.redo.Goals as goal

pub returns-in_ok-write-in-Comp-clause-store : goal.returns-in_ok-write-in-Comp-clause-store
returns-in_ok-write-in-Comp-clause-store c place =
    let place_of : List ℕ → List ℕ → Place = λ table key. (table, key) in
    redo_by_guard-made c.args.content.now c.args.number c.in-Comp.before (place_of c.in-Comp.table c.in-Comp.key) place
    (stored c.args.store.now) (stored c.guard.new.store) (stored c.finish.new.store) c.in_ok-write-in-Comp.write
    (ap (writes place) c.in-Comp.is) (ap number_before c.in-Comp.is) c.in_ok-write-in-Comp.ensures.same c.in_ok-write-in-Comp.ensures.guarded (c.finish.ensures.store place)

pub returns-in_ok-lock-in-Set-clause-store : goal.returns-in_ok-lock-in-Set-clause-store
returns-in_ok-lock-in-Set-clause-store c place =
    let place_of : List ℕ → List ℕ → Place = λ table key. (table, key) in
    let own : Place = place_of c.in-Set.table c.in-Set.key in
    let here : writes place c.args.content.now ≡ same_place own place =
    elim c.in-Set.is [
      | inl (old, new, set) ↦ ap (writes place) set
      | inr (amount, add) ↦ ap (writes place) add
    ] in
    let before : number_before c.args.content.now ≡ c.in-Set.before =
    elim c.in-Set.is [
      | inl (old, new, set) ↦ ap number_before set
      | inr (amount, add) ↦ ap number_before add
    ] in
    redo_by_guard-made c.args.content.now c.args.number c.in-Set.before own place
    (stored c.args.store.now) (stored c.guard-in-Set.new.store) (stored c.finish-in-Set.new.store) c.in_ok-write-in-Set.write
    here before c.in_ok-write-in-Set.ensures.same c.in_ok-write-in-Set.ensures.guarded (c.finish-in-Set.ensures.store place)
