use Rattle.std.proofs.Common.{◌≡◌, cond, List, [], ◌∷◌, ◌++◌, sym, ap, ◌∙◌, subst}
use Rattle.cl_lists.specs.Arena.{item_at}
use Rattle.cl_types.specs.Places.{Place, same_place}
use Rattle.cl_locks.specs.Grants.{Grant}
use Rattle.cl_locks.specs.Table.{grants_at}
use Rattle.cl_locks.proofs.Asking.{grant_of, free-own, IsGranted-new, IsGranted-again, modes-granted}
use Rattle.cl_locks.proofs.locks.Locks.ask.Goals as goal

pub strengthen-requires-clause-free : goal.strengthen-requires-clause-free
strengthen-requires-clause-free c = λ grant has_item.
    free-own (λ place. grants_at c.args.self.now place) c.args.txn (c.args.table.now, c.args.key.now) c.args.mode grant (sym c.in-Some-slot_of.ensures.grant ∙ has_item) (sym c.first_conflict.ensures ∙ c.in_default.is)

pub push-requires-clause-room : goal.push-requires-clause-room
push-requires-clause-room c = c.in_ok-reserve-in-None.ensures.ok _

pub returns-in-Some-slot_of-clause-grants : goal.returns-in-Some-slot_of-clause-grants
returns-in-Some-slot_of-clause-grants c =
    IsGranted-again (λ place. grants_at c.args.self.now place) (λ place. grants_at c.strengthen.new.self place) c.args.txn (c.args.table.now, c.args.key.now) c.args.mode c.strengthen.result
    (item_at c.args.self.now.granted c.in-Some-slot_of.slot) c.in-Some-slot_of.ensures.in_use c.in-Some-slot_of.ensures.grant c.strengthen.ensures.granted c.strengthen.ensures.grants

pub returns-in-Some-slot_of-clause-modes : goal.returns-in-Some-slot_of-clause-modes
returns-in-Some-slot_of-clause-modes c =
    modes-granted (λ place. grants_at c.args.self.now place) (λ place. grants_at c.strengthen.new.self place) (grant_of c.args.txn (c.args.table.now, c.args.key.now) c.args.mode) (returns-in-Some-slot_of-clause-grants c)

pub returns-in_ok-reserve-in-None-clause-grants : goal.returns-in_ok-reserve-in-None-clause-grants
returns-in_ok-reserve-in-None-clause-grants c =
    let txn = c.args.txn in
    let mode = c.args.mode in
    let place : Place = (c.args.table.now, c.args.key.now) in
    let copied : (c.copy.result, c.copy-in-None.result) ≡ place = λ i. (c.copy.ensures i, c.copy-in-None.ensures i) in
    let pushed = subst (λ (p : Place). (other : Place) → grants_at c.push.new.self other ≡ cond (same_place p other) (grants_at c.reserve.new.self other ++ grant_of txn p mode ∷ []) (grants_at c.reserve.new.self other)) copied c.push.ensures in
    IsGranted-new (λ p. grants_at c.args.self.now p) (λ p. grants_at c.push.new.self p) (grant_of txn place mode) (sym c.in-None.ensures.grant)
    (λ other. pushed other ∙ ap (λ (gs : List Grant). cond (same_place place other) (gs ++ grant_of txn place mode ∷ []) gs) (c.in_ok-reserve-in-None.ensures.same other))

pub returns-in_ok-reserve-in-None-clause-modes : goal.returns-in_ok-reserve-in-None-clause-modes
returns-in_ok-reserve-in-None-clause-modes c =
    modes-granted (λ place. grants_at c.args.self.now place) (λ place. grants_at c.push.new.self place) (grant_of c.args.txn (c.args.table.now, c.args.key.now) c.args.mode) (returns-in_ok-reserve-in-None-clause-grants c)
