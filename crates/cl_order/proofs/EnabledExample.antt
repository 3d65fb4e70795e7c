-- The steps of the example on one log have what they need, so that its ledger is ordered.
use Rattle.std.proofs.Common.{◌≡◌, ℕ, Bool, true, false, not, ◌||◌, List, [], ◌∷◌, Some, None, codes, refl, sym, ap, ◌∙◌, subst, inl, inr}
use Rattle.std.specs.List.{list_all}
use Rattle.std.proofs.lemmas.Bool.{cases_Bool, both_ways, or_cases, and_parts, false≢true, true≢false, not-true}
use Rattle.cl_types.specs.declared.operations.Mode.{Mode}
use Rattle.cl_types.specs.declared.operations.Mode.TheVariants.{Shared, Exclusive}
use Rattle.cl_types.specs.declared.operations.Op.TheVariants.{Get, Put}
use Rattle.cl_types.specs.declared.operations.TxnId.{TxnId}
use Rattle.cl_types.specs.Modes.{is_conflict}
use Rattle.cl_types.specs.Places.{Place}
use Rattle.cl_types.specs.Transactions.{same_txn}
use Rattle.cl_types.proofs.Places.{same_place-true}
use Rattle.cl_types.proofs.Transactions.{same_txn-true}
use Rattle.cl_log.specs.declared.records.Form.TheVariants.{Image}
use Rattle.cl_log.specs.declared.records.LogRec.TheVariants.{Set, Comp}
use Rattle.cl_log.specs.LogEntry.{LogEntry}
use Rattle.cl_log.specs.Locks.{strongest_mode, locks_of_log}
use Rattle.cl_log.specs.Open.{has_begun, has_ended, is_open, is_among, txns_of, unended_of}
use Rattle.cl_log.specs.Rest.{is_undone, rest_to_undo}
use Rattle.cl_log.specs.Store.{store_of_log}
use Rattle.cl_log.proofs.Locks.{locks_of_log-closed}
use Rattle.cl_log.proofs.Unended.{is_among-unended_of}
use Rattle.cl_order.specs.Ledger.{Ledger, IsOrdered, IsWholeOn}
use Rattle.cl_order.specs.Steps.{Step, carry_out, prepare, decide, join, undo, finish, after_step, after_steps, new_ledger, AreEnabled, IsEnabled, MayCarryOut, MayJoin}
use Rattle.cl_order.proofs.Examples.{first_txn, second_txn, third_txn, a, b, one_log, steps_on_one, on_one}
use Rattle.cl_order.proofs.LawLemmas.{new_ordered, operations_keep_order, prepared_keeps_order, decide_keeps_order, steps_make_order}
use Rattle.cl_order.proofs.Readings.{whole_without_operations, whole_on_each}

-- what an open transaction may have there
abbrev agrees : TxnId → Mode → List LogEntry → Place → TxnId → Bool
agrees txn mode log place other = same_txn other txn || not (is_conflict (Some mode) (locks_of_log log other place))

listed : (p : TxnId → Bool) (xs : List TxnId) (x : TxnId) → list_all p xs ≡ true → is_among x xs ≡ true → p x ≡ true
listed p [] x all among = absurd (false≢true among)
listed p (y ∷ ys) x all among =
    let parts = and_parts (p y) (list_all p ys) all in
    elim (or_cases (same_txn x y) (is_among x ys) among) [
      | inl same ↦ ap p (same_txn-true x y same) ∙ parts.0
      | inr later ↦ listed p ys x parts.1 later
    ]

-- a lock is free where no open transaction has one in conflict
free_among_open : (txn : TxnId) (mode : Mode) (log : List LogEntry) (place : Place) → list_all (agrees txn mode log place) (unended_of log) ≡ true →
    (other : TxnId) → is_conflict (Some mode) (locks_of_log log other place) ≡ true → other ≡ txn
free_among_open txn mode log place all other conflict =
    elim (cases_Bool (is_open log other)) [
      | inl t ↦
          elim (or_cases (same_txn other txn) _ (listed (agrees txn mode log place) (unended_of log) other all (is_among-unended_of log other ∙ t))) [
            | inl same ↦ same_txn-true other txn same
            | inr none ↦ absurd (both_ways _ (not-true _ none) conflict)
          ]
      | inr f ↦ absurd (no_conflict mode (sym (ap (is_conflict (Some mode)) (locks_of_log-closed log other place f)) ∙ conflict))
    ]
  where
    no_conflict : (mode : Mode) → is_conflict (Some mode) None ≡ true → ⊥
    no_conflict Shared h = false≢true h
    no_conflict Exclusive h = false≢true h

-- the ledgers up to the commit of the first
abbrev written : Ledger
written = after_step (new_ledger one_log) (carry_out first_txn a (Put (codes "x")))

abbrev prepared : Ledger
prepared = after_step written (prepare 0 first_txn)

abbrev decided : Ledger
decided = after_step prepared (decide 0 first_txn)

first_may : MayCarryOut (new_ledger one_log) first_txn a (Put (codes "x"))
unfolding has_begun has_ended locks_of_log strongest_mode unended_of txns_of
first_may = record { outside = refl; unended = refl; free = λ _. free_among_open first_txn Exclusive [] a refl }

may_prepare : IsEnabled written (prepare 0 first_txn)
unfolding store_of_log has_begun has_ended locks_of_log strongest_mode
may_prepare = refl

-- the first is whole when it joins
first_is_whole : IsOrdered decided × ((v : ℕ) → IsWholeOn decided first_txn v)
first_is_whole =
    let one = operations_keep_order (new_ledger one_log) first_txn a (Put (codes "x")) (new_ordered one_log) first_may in
    let two = prepared_keeps_order written 0 first_txn one.ordered may_prepare in
    let three = decide_keeps_order prepared 0 first_txn two.ordered tt in (
      three.ordered,
      λ v. three.whole first_txn v tt (two.whole first_txn v tt (one.whole first_txn v tt
          (whole_without_operations (new_ledger one_log) first_txn v (new_ordered one_log) (λ place here. refl)))),
    )

first_may_join : MayJoin decided first_txn
first_may_join = record { outside = refl; whole = (whole_on_each decided first_txn first_is_whole.0).1 first_is_whole.1 }

-- the others in their turn
abbrev rest_of_steps : List Step
rest_of_steps =
    carry_out second_txn b (Put (codes "y"))
    ∷ carry_out second_txn a Get
    ∷ undo 0 (Comp second_txn (codes "t") (codes "b") 5 5 (Image None))
    ∷ finish 0 second_txn false
    ∷ carry_out third_txn a (Put (codes "z")) ∷ []

abbrev committed : Ledger
committed = after_step (after_step decided (join first_txn)) (finish 0 first_txn true)

abbrev second_wrote : Ledger
second_wrote = after_step committed (carry_out second_txn b (Put (codes "y")))

abbrev second_read : Ledger
second_read = after_step second_wrote (carry_out second_txn a Get)

abbrev second_ended : Ledger
second_ended = after_steps second_read (undo 0 (Comp second_txn (codes "t") (codes "b") 5 5 (Image None)) ∷ finish 0 second_txn false ∷ [])

rest_may : AreEnabled committed rest_of_steps
unfolding store_of_log has_begun has_ended locks_of_log strongest_mode unended_of txns_of is_undone rest_to_undo
rest_may = (
  record { outside = refl; unended = refl; free = λ _. free_among_open second_txn Exclusive (committed.logs 0) b refl },
  (
    record { outside = refl; unended = refl; free = λ _. free_among_open second_txn Shared (second_wrote.logs 0) a refl },
    (
      record {
        outside = refl;
        unended = refl;
        first = record {
          first = record { number = 5; content = Set second_txn (codes "t") (codes "b") 0 None (Some (codes "y")) };
          others = [];
          is_first = refl;
          is_undo = refl;
        };
        carries = λ place here. subst (λ (p : Place). (store_of_log (second_read.logs 0) p).0 ≡ 5) (same_place-true b place here) refl;
      },
      (
        record { member = refl; unended = refl; undone = λ h. refl },
        (
          record { outside = refl; unended = refl; free = λ _. free_among_open third_txn Exclusive (second_ended.logs 0) a refl },
          tt,
        ),
      ),
    ),
  ),
)

finish_may : IsEnabled (after_step decided (join first_txn)) (finish 0 first_txn true)
unfolding store_of_log has_begun has_ended locks_of_log strongest_mode
finish_may = record { member = refl; unended = refl; undone = λ h. absurd (true≢false h) }

pub steps_are_enabled : AreEnabled (new_ledger one_log) steps_on_one
steps_are_enabled = (first_may, (may_prepare, (tt, (first_may_join, (finish_may, rest_may)))))

pub on_one_is_ordered : IsOrdered on_one
on_one_is_ordered = steps_make_order one_log steps_on_one steps_are_enabled
