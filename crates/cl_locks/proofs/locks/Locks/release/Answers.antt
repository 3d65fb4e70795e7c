use Rattle.std.proofs.Common.{◌≡◌, true, List, sym, ap, ◌∙◌, subst}
use Rattle.std.proofs.lemmas.Option.{same_Some}
use Rattle.cl_lists.specs.declared.slots.Side.TheVariants.{Y}
use Rattle.cl_lists.specs.Arena.{list_of}
use Rattle.cl_lists.proofs.ArenaLaws.{is_placed}
use Rattle.cl_types.specs.Transactions.{same_txn}
use Rattle.cl_locks.specs.Grants.{Grant, mode_held}
use Rattle.cl_locks.specs.Listed.{txn_list}
use Rattle.cl_locks.specs.Table.{grants_at}
use Rattle.cl_locks.proofs.GrantLists.{mode_held-without_txn}
use Rattle.cl_locks.proofs.Walks.{passed-on, passed-next, passed-smaller, passed-all, passed-without, passed-without_smaller, FindsNone, none-push}
use Rattle.cl_locks.proofs.TableFacts.{without_txn-none, without_txn-unlinked}
use Rattle.cl_locks.proofs.locks.Locks.release.Goals as goal

pub next-next-requires : goal.next-next-requires
next-next-requires c =
    let granted = c.loop-next.self.granted in
    let list = txn_list c.args.txn in
    (is_placed granted Y).in_use list c.in-Some.slot (passed-on granted _ (list_of granted Y list) c.loop-next.next c.in-Some.slot c.loop-next.invariant.cleared c.in-Some.is)

pub get-requires : goal.get-requires
get-requires c =
    let granted = c.loop-next.self.granted in
    let list = txn_list c.args.txn in
    (is_placed granted Y).in_use list c.in-Some.slot (passed-on granted _ (list_of granted Y list) c.loop-next.next c.in-Some.slot c.loop-next.invariant.cleared c.in-Some.is)

pub loop-next-smaller-then-is_held_by : goal.loop-next-smaller-then-is_held_by
loop-next-smaller-then-is_held_by c =
    let granted = c.loop-next.self.granted in
    let list = txn_list c.args.txn in
    passed-without_smaller granted c.unlink.new.self.granted (FindsNone (λ grant. same_txn c.args.txn grant.txn)) Y list c.loop-next.next c.next-next.result c.in-Some.slot c.unlink.result c.unlink.ensures.unlinks c.loop-next.invariant.cleared c.in-Some.is
    (c.next-next.ensures.value list (passed-on granted _ (list_of granted Y list) c.loop-next.next c.in-Some.slot c.loop-next.invariant.cleared c.in-Some.is))

pub loop-next-preserved-then-is_held_by : goal.loop-next-preserved-then-is_held_by
unfolding grants_at
loop-next-preserved-then-is_held_by c =
    let self = c.loop-next.self in
    let list = txn_list c.args.txn in
    let same = same_Some c.get.result.now c.unlink.result (sym c.get.ensures ∙ c.unlink.ensures.unlinks.had) in
    let own = subst (λ (g : Grant). same_txn c.args.txn g.txn ≡ true) same (sym c.is_held_by.ensures ∙ c.if-is_held_by.true) in
    record {
      others = λ place. without_txn-unlinked self.granted c.unlink.new.self.granted c.in-Some.slot c.unlink.result c.unlink.ensures.unlinks self.listed c.args.txn place own ∙ c.loop-next.invariant.others place;
      cleared =
          passed-without self.granted c.unlink.new.self.granted (FindsNone (λ grant. same_txn c.args.txn grant.txn)) Y list c.loop-next.next c.next-next.result c.in-Some.slot c.unlink.result c.unlink.ensures.unlinks c.loop-next.invariant.cleared c.in-Some.is
          (c.next-next.ensures.value list (passed-on self.granted _ (list_of self.granted Y list) c.loop-next.next c.in-Some.slot c.loop-next.invariant.cleared c.in-Some.is));
    }

pub loop-next-smaller : goal.loop-next-smaller
loop-next-smaller c =
    let granted = c.loop-next.self.granted in
    let list = txn_list c.args.txn in
    passed-smaller granted _ (list_of granted Y list) c.loop-next.next c.next-next.result c.in-Some.slot c.loop-next.invariant.cleared ((is_placed granted Y).once list) c.in-Some.is
    (c.next-next.ensures.value list (passed-on granted _ (list_of granted Y list) c.loop-next.next c.in-Some.slot c.loop-next.invariant.cleared c.in-Some.is))

pub loop-next-preserved : goal.loop-next-preserved
loop-next-preserved c =
    let granted = c.loop-next.self.granted in
    let list = txn_list c.args.txn in
    record {
      others = c.loop-next.invariant.others;
      cleared =
          passed-next granted _ (list_of granted Y list) c.loop-next.next c.next-next.result c.in-Some.slot c.get.result.now c.loop-next.invariant.cleared ((is_placed granted Y).once list) c.in-Some.is
          (c.next-next.ensures.value list (passed-on granted _ (list_of granted Y list) c.loop-next.next c.in-Some.slot c.loop-next.invariant.cleared c.in-Some.is))
          c.get.ensures (λ grants none. none-push (λ grant. same_txn c.args.txn grant.txn) grants c.get.result.now none (sym c.is_held_by.ensures ∙ c.if-is_held_by.false));
    }

pub returns-clause-grants : goal.returns-clause-grants
unfolding grants_at
returns-clause-grants c = λ place.
    let self = c.loop-next.self in
    let list = txn_list c.args.txn in
    let none = passed-all self.granted (FindsNone (λ grant. same_txn c.args.txn grant.txn)) (list_of self.granted Y list) c.loop-next.next c.loop-next.invariant.cleared c.in_default.is in
    sym (without_txn-none self.granted c.args.txn self.listed none place) ∙ c.loop-next.invariant.others place

pub returns-clause-modes : goal.returns-clause-modes
returns-clause-modes c = λ t place.
    ap (λ (grants : List Grant). mode_held grants t place) (returns-clause-grants c place) ∙ mode_held-without_txn (grants_at c.args.self.now place) c.args.txn t place
