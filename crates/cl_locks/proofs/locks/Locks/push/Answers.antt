use Rattle.std.proofs.Common.{◌≡◌, ℕ, ap, ◌∙◌, subst}
use Rattle.cl_lists.specs.declared.arena.Arena.{Arena}
use Rattle.cl_lists.specs.Arena.{Pushes}
use Rattle.cl_locks.specs.Grants.{Grant}
use Rattle.cl_locks.specs.Listed.{place_list, txn_list}
use Rattle.cl_locks.specs.Table.{grants_at}
use Rattle.cl_locks.proofs.Listed.{IsListed-pushed, grants_on-pushed}
use Rattle.cl_locks.proofs.TableFacts.{compatible-pushed}
use Rattle.cl_locks.proofs.locks.Locks.push.Goals as goal

-- the lists are those of the grant
on_its_lists : {old new : Arena Grant} {slot x y : ℕ} (grant : Grant) → x ≡ place_list grant.place.1 → y ≡ txn_list grant.txn → Pushes old new x y slot grant → Pushes old new (place_list grant.place.1) (txn_list grant.txn) slot grant
on_its_lists {old} {new} {slot} {x} {y} grant is_x is_y pushes =
    subst (λ n. Pushes old new n (txn_list grant.txn) slot grant) is_x (subst (λ n. Pushes old new x n slot grant) is_y pushes)

pub invariant_of-self-clause-listed : goal.invariant_of-self-clause-listed
invariant_of-self-clause-listed c =
    let pushes = on_its_lists c.args.lock (c.place_list-x.ensures.value ∙ ap (λ (g : Grant). place_list g.place.1) c.lock.view_is) (c.txn_list-y.ensures.value ∙ ap (λ (g : Grant). txn_list g.txn) c.lock.view_is) c.push_back.ensures.pushes in
    IsListed-pushed c.args.self.now.granted c.push_back.new.self c.args.lock c.push_back.result pushes c.requires.room c.args.self.now.listed

pub invariant_of-self-clause-compatible : goal.invariant_of-self-clause-compatible
unfolding grants_at
invariant_of-self-clause-compatible c =
    let pushes = on_its_lists c.args.lock (c.place_list-x.ensures.value ∙ ap (λ (g : Grant). place_list g.place.1) c.lock.view_is) (c.txn_list-y.ensures.value ∙ ap (λ (g : Grant). txn_list g.txn) c.lock.view_is) c.push_back.ensures.pushes in
    compatible-pushed c.args.self.now.granted c.push_back.new.self c.args.lock c.push_back.result pushes c.requires.room c.args.self.now.listed c.args.self.now.compatible c.requires.only c.requires.free

pub returns : goal.returns
unfolding grants_at
returns c =
    let pushes = on_its_lists c.args.lock (c.place_list-x.ensures.value ∙ ap (λ (g : Grant). place_list g.place.1) c.lock.view_is) (c.txn_list-y.ensures.value ∙ ap (λ (g : Grant). txn_list g.txn) c.lock.view_is) c.push_back.ensures.pushes in
    grants_on-pushed c.args.self.now.granted c.push_back.new.self c.args.lock c.push_back.result pushes c.requires.room c.args.self.now.listed
