-- One more member, before those that were met.
use Rattle.std.proofs.Common.{◌≡◌, ℕ, ◌+◌, ◌-◌, ◌<◌, ◌≤◌, ◌↔◌, inl, inr, Bool, true, false, not, List, length, get_or, MatchOption, IsTrue, refl, sym, subst, arith}
use Rattle.std.proofs.lemmas.Option.{slice_get-get_or}
use Rattle.cl_types.specs.declared.operations.TxnId.{TxnId}
use Rattle.cl_serial.specs.Exchanges.{Exchange}
use Rattle.cl_serial.specs.Serial.{StandsAt}
use Rattle.cl_serial.specs.Verdict.{HasCommit, AreFit, FirstUnfit}
use Rattle.cl_serial.specs.Gathering.{commands_at}
use Rattle.cl_serial.proofs.UnfitMembers.{FoundFrom, keeps_unfit, keeps_fit, again_where_met, alone_where_new, found_first}
use Rattle.cl_serial.proofs.fitness.first_unfit.Goals as goal
use Rattle.cl_serial.proofs.fitness.first_unfit.Goals.{then-not-is_new-via-then-not-is_new, then-not-is_new-via-else-not-is_new+then-not-has_commit}

was_met : (is_new met : Bool) → is_new ≡ not met → is_new ≡ false → met ≡ true
was_met is_new true h old = refl
was_met is_new false h old = absurd (cc)

was_new : (is_new met : Bool) → is_new ≡ not met → is_new ≡ true → met ≡ false
was_new is_new true h fresh = absurd (cc)
was_new is_new false h fresh = refl

lacks_commit : (result : Bool) (list commands : List Exchange) → IsTrue result ↔ HasCommit list → result ≡ false → list ≡ commands → HasCommit commands → ⊥
lacks_commit result list commands tells lacks same has = let has_it : result ≡ true = tells.1 (subst HasCommit (sym same) has) in cc

commits : (result : Bool) (list commands : List Exchange) → IsTrue result ↔ HasCommit list → result ≡ true → list ≡ commands → HasCommit commands
commits result list commands tells found same = subst HasCommit same (tells.0 found)

-- the member before the index
stands : (list : List TxnId) (index : ℕ) (d : TxnId) → 0 < index → index ≤ length list → StandsAt list (index - 1) (get_or list (index - 1) d)
stands list index d some within = slice_get-get_or list (index - 1) d (omega arith)

next : (index : ℕ) → 0 < index → index ≡ index - 1 + 1
next index some = omega arith

pub loop-index-preserved-in-loop-index : goal.loop-index-preserved-in-loop-index
loop-index-preserved-in-loop-index c =
    let none : TxnId = record { session = 0; number = 0 } in
    let at = stands c.as_slice-names.result.now c.loop-index.index none c.loop-index-test.true c.loop-index.invariant.within in
    let k = next c.loop-index.index c.loop-index-test.true in
    keeps_unfit _ _ _ c.loop-index.index _ c.loop-index.met _ c.loop-index.unfit k at c.loop-index.invariant c.in_ok-is_new.ensures.updates.0 c.in_ok-is_new.ensures.updates.1
    (elim c.then-not-is_new.branch [
      | then-not-is_new-via-then-not-is_new w ↦ inl (again_where_met _ _ _ _ c.loop-index.met k c.loop-index.invariant.met (was_met _ _ c.in_ok-is_new.ensures.added w.if-not-is_new.true))
      | then-not-is_new-via-else-not-is_new+then-not-has_commit w ↦ inr (lacks_commit _ _ _ w.has_commit.ensures w.if-not-has_commit.true w.commands_of.ensures)
    ])

pub loop-index-preserved : goal.loop-index-preserved
loop-index-preserved c =
    let none : TxnId = record { session = 0; number = 0 } in
    let at = stands c.as_slice-names.result.now c.loop-index.index none c.loop-index-test.true c.loop-index.invariant.within in
    let k = next c.loop-index.index c.loop-index-test.true in
    keeps_fit _ _ _ c.loop-index.index _ c.loop-index.met _ c.loop-index.unfit k at c.loop-index.invariant c.in_ok-is_new.ensures.updates.0 c.in_ok-is_new.ensures.updates.1
    (record {
      alone = alone_where_new _ _ _ _ c.loop-index.met k c.loop-index.invariant.met (was_new _ _ c.in_ok-is_new.ensures.added c.if-not-is_new.false);
      commits = commits _ _ _ c.has_commit.ensures c.if-not-has_commit.false c.commands_of.ensures;
    })

pub returns : goal.returns
returns c =
    let P : List TxnId → Type 0 = λ list. MatchOption c.loop-index.unfit (AreFit (commands_at c.args.sessions.now) list) (λ name. FirstUnfit (commands_at c.args.sessions.now) list name) in
    let Q : ℕ → Type 0 = λ from. FoundFrom (commands_at c.args.sessions.now) c.as_slice-names.result.now from c.loop-index.unfit in
    let zero_left : c.loop-index.index ≡ 0 = omega arith in
    subst P c.as_slice-names.ensures (found_first _ _ _ (subst Q zero_left c.loop-index.invariant.first))
