use Rattle.std.proofs.Common.{◌≡◌, None, cond, [], ◌∷◌, ◌++◌, refl, sym, ap, ◌∙◌, subst}
use Rattle.std.proofs.lemmas.Option.{same_Some}
use Rattle.cl_types.specs.Places.{Place, same_place}
use Rattle.cl_locks.specs.Grants.{Grant, own_grant, first_conflict, without_lock}
use Rattle.cl_locks.specs.Table.{grants_at}
use Rattle.cl_locks.proofs.Asking.{grant_of}
use Rattle.cl_locks.proofs.TableFacts.{own_grant-unlinked, first_conflict-unlinked, grants_on-replaced}
use Rattle.cl_locks.proofs.locks.Locks.strengthen.Goals as goal

pub push-requires-clause-only : goal.push-requires-clause-only
unfolding grants_at
push-requires-clause-only c =
    let self = c.args.self.now in
    let grant = c.unlink-lock.result in
    let only = own_grant-unlinked self.granted c.unlink-lock.new.self.granted c.args.slot grant c.unlink-lock.ensures.unlinks self.listed self.compatible in
    subst (λ (g : Grant). own_grant (grants_at c.unlink-lock.new.self g.place) g.txn g.place ≡ None) (sym c.lock.view_is) only

pub push-requires-clause-free : goal.push-requires-clause-free
unfolding grants_at
push-requires-clause-free c =
    let self = c.args.self.now in
    let grant = c.unlink-lock.result in
    let free = first_conflict-unlinked self.granted c.unlink-lock.new.self.granted c.args.slot grant c.unlink-lock.ensures.unlinks self.listed c.args.mode (c.requires.free grant c.unlink-lock.ensures.unlinks.had) in
    subst (λ (g : Grant). first_conflict (grants_at c.unlink-lock.new.self g.place) g.txn g.place c.args.mode ≡ None) (sym c.lock.view_is) free

pub returns-in-Shared-Exclusive-clause-grants : goal.returns-in-Shared-Exclusive-clause-grants
unfolding grants_at
returns-in-Shared-Exclusive-clause-grants c = λ grant place has_item.
    let self = c.args.self.now in
    let gone = c.unlink-lock.result in
    let lock = grant_of gone.txn gone.place c.args.mode in
    let is = ap (λ (g : Grant). grant_of g.txn g.place c.args.mode) c.lock.view_is in
    let pushed = subst (λ (l : Grant). (p : Place) → grants_at c.push.new.self p ≡ cond (same_place l.place p) (grants_at c.unlink-lock.new.self p ++ l ∷ []) (grants_at c.unlink-lock.new.self p)) is c.push.ensures in
    let replaced = grants_on-replaced self.granted c.unlink-lock.new.self.granted c.args.slot gone c.unlink-lock.ensures.unlinks self.listed self.compatible lock refl refl (λ p. grants_at c.push.new.self p) pushed place in
    subst (λ (g : Grant). grants_at c.push.new.self place ≡ cond (same_place g.place place) (without_lock g.txn g.place (grants_at self place) ++ grant_of g.txn g.place c.args.mode ∷ []) (grants_at self place))
    (same_Some gone grant (sym c.unlink-lock.ensures.unlinks.had ∙ has_item)) replaced
