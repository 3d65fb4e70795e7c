-- A replica that keeps an end of its log.
use Rattle.std.proofs.Common.{◌≡◌, ℕ, ◌+◌, ◌≤◌, Bool, true, false, not, cond, ◌&&◌, ◌||◌, List, [], ◌∷◌, ◌++◌, length, filter, reverse, refl, sym, ap, ◌∙◌, subst, arith, inl, inr}
use Rattle.std.specs.List.{list_any}
use Rattle.std.proofs.lemmas.Bool.{cases_Bool, cond-false, and_parts, and_from}
use Rattle.std.proofs.lemmas.List.{append_assoc, length-append}
use Rattle.std.proofs.lemmas.List.Folds.{list_any-append}
use Rattle.cl_types.specs.declared.operations.TxnId.{TxnId}
use Rattle.cl_types.proofs.Transactions.{same_txn-true}
use Rattle.cl_log.specs.LogEntry.{LogEntry, IsNumberedFrom}
use Rattle.cl_log.specs.Kind.{txn_of, is_of, opens, undoes, can_be_undone}
use Rattle.cl_log.specs.Lawful.{UndoesInOrder}
use Rattle.cl_log.specs.Open.{has_begun, has_ended, is_open, low_of}
use Rattle.cl_log.specs.Rest.{is_undone, is_left_of, rest_to_undo}
use Rattle.cl_log.proofs.Conflicts.{is_undone-next}
use Rattle.cl_log.proofs.Entries.{IsNumberedFrom-append, EachAfter-append, number_at}
use Rattle.cl_log.proofs.KindFacts.{can_be_undone-opens}
use Rattle.cl_log.proofs.Low.{low_is_least_open}
use Rattle.cl_part.specs.Sound.{IsEndOf, CutKeepsReplica}

or_middle : (a b c : Bool) → b ≡ true → (a || (b || c)) ≡ true
or_middle true b c h = refl
or_middle false true c h = refl
or_middle false false c h = absurd cc

-- ---- what was dropped

-- the transaction of a write that is left is open, where it has no End
open_of_left : (full front : List LogEntry) (entry : LogEntry) (rest : List LogEntry) (txn : TxnId) → full ≡ front ++ entry ∷ rest → is_left_of full txn entry ≡ true → has_ended full txn ≡ false →
    is_open full (txn_of entry.content) ≡ true
unfolding has_begun
open_of_left full front entry rest txn whole left running =
    let parts = and_parts _ _ left in
    let undoable = (and_parts _ _ parts.1).0 in
    let own : txn_of entry.content ≡ txn = same_txn-true _ _ parts.0 in
    let begun : has_begun full txn ≡ true =
    ap (list_any (λ (e : LogEntry). is_of txn e.content && opens e.content)) whole
    ∙ list_any-append (λ (e : LogEntry). is_of txn e.content && opens e.content) front (entry ∷ rest)
    ∙ or_middle _ _ _ (and_from _ _ parts.0 (can_be_undone-opens entry.content undoable)) in
    ap (is_open full) own ∙ and_from _ _ begun (ap not running)

-- below the low number nothing of such a transaction is left
nothing_below : (full front rest kept : List LogEntry) (txn : TxnId) → IsNumberedFrom 1 full → has_ended full txn ≡ false → full ≡ front ++ (rest ++ kept) →
    1 + length front + length rest ≤ low_of full (1 + length full) → filter (is_left_of full txn) rest ≡ []
nothing_below full front [] kept txn numbered running whole low = refl
nothing_below full front (entry ∷ rest) kept txn numbered running whole low =
    elim (cases_Bool (is_left_of full txn entry)) [
      | inl left ↦
          (let number = number_at 1 front entry (rest ++ kept) (subst (IsNumberedFrom 1) whole numbered) in
          let least = (low_is_least_open full 1 numbered).least front entry (rest ++ kept) whole (open_of_left full front entry (rest ++ kept) txn whole left running) in
          absurd (omega (arith, number, least, low)))
      | inr not_left ↦
          (let longer = length-append front (entry ∷ []) in
          cond-false _ _ _ not_left
          ∙ nothing_below full (front ++ entry ∷ []) rest kept txn numbered running (whole ∙ sym (append_assoc front (entry ∷ []) (rest ++ kept))) (omega (arith, low, longer)))
    ]

-- ---- what is kept

-- the same is left in an end, where the same is undone from its first number on
same_left : (full kept : List LogEntry) (txn : TxnId) (rest : List LogEntry) (n : ℕ) → IsNumberedFrom n rest → ((number : ℕ) → n ≤ number → is_undone full number ≡ is_undone kept number) →
    filter (is_left_of full txn) rest ≡ filter (is_left_of kept txn) rest
same_left full kept txn [] n numbered same = refl
same_left full kept txn (entry ∷ rest) n numbered same =
    let first = numbered.0 in
    let here : is_left_of full txn entry ≡ is_left_of kept txn entry = ap (λ b. is_of txn entry.content && (can_be_undone entry.content && not b)) (same entry.number (omega (arith, first))) in
    ap (λ b. cond b (entry ∷ filter (is_left_of full txn) rest) (filter (is_left_of full txn) rest)) here
    ∙ ap (λ es. cond (is_left_of kept txn entry) (entry ∷ es) es) (same_left full kept txn rest (n + 1) numbered.1 (λ number above. same number (omega (arith, above))))

-- no compensation before the end names a number of it
same_undone : (full before kept : List LogEntry) → IsNumberedFrom 1 full → UndoesInOrder full → full ≡ before ++ kept → (number : ℕ) → 1 + length before ≤ number →
    is_undone full number ≡ is_undone kept number
unfolding is_undone
same_undone full before kept numbered in_order whole number above =
    let halves = IsNumberedFrom-append 1 before kept (subst (IsNumberedFrom 1) whole numbered) in
    let order : UndoesInOrder before = (EachAfter-append _ [] before kept (subst UndoesInOrder whole in_order)).0 in
    let none : is_undone before number ≡ false = is_undone-next 1 before number halves.0 order above in
    ap (list_any (λ (e : LogEntry). undoes number e.content)) whole
    ∙ list_any-append (λ (e : LogEntry). undoes number e.content) before kept
    ∙ ap (λ b. b || list_any (λ (e : LogEntry). undoes number e.content) kept) none

filter-joined : (p : LogEntry → Bool) (xs ys : List LogEntry) → filter p (xs ++ ys) ≡ filter p xs ++ filter p ys
filter-joined p [] ys = refl
filter-joined p (x ∷ xs) ys = grind (arith, filter-joined p xs ys)

pub IsEndOf-low : (full before kept : List LogEntry) → IsNumberedFrom 1 full → UndoesInOrder full → full ≡ before ++ kept → 1 + length before ≤ low_of full (1 + length full) → IsEndOf full kept
unfolding rest_to_undo
IsEndOf-low full before kept numbered in_order whole low =
    let halves = IsNumberedFrom-append 1 before kept (subst (IsNumberedFrom 1) whole numbered) in
    record {
      before = before;
      whole = whole;
      rests = λ txn running. ap reverse (sym (
          ap (filter (is_left_of full txn)) whole
          ∙ filter-joined (is_left_of full txn) before kept
          ∙ ap (λ es. es ++ filter (is_left_of full txn) kept) (nothing_below full [] before kept txn numbered running whole (omega (arith, low)))
          ∙ same_left full kept txn kept (1 + length before) halves.1 (same_undone full before kept numbered in_order whole)));
    }

pub cut_keeps_replica : CutKeepsReplica
cut_keeps_replica full state before kept replica in_order whole low = record {
  numbered = replica.numbered;
  next = replica.next;
  store = replica.store;
  locks = replica.locks;
  kept = IsEndOf-low full before kept replica.numbered in_order whole low;
  fresh = replica.fresh;
}
