-- What follows of a log whose compensations each undo the first of a rest.
use Rattle.std.proofs.Common.{◌≡◌, ℕ, ◌+◌, ◌≤◌, true, false, cond, List, [], ◌∷◌, ◌++◌, refl, sym, ap, ◌∙◌, subst, inl, inr, arith}
use Rattle.std.proofs.lemmas.Bool.{and_parts, cases_Bool, cond-true, cond-false, eqb-true, not-true, or_parts}
use Rattle.std.proofs.lemmas.List.{append_assoc, append-nil}
use Rattle.std.proofs.lemmas.List.Sums.{sum_by_push, sum_by-cons}
use Rattle.cl_log.specs.declared.records.LogRec.{LogRec}
use Rattle.cl_log.specs.LogEntry.{LogEntry, EachAfter}
use Rattle.cl_log.specs.Kind.{txn_of, number_before, undoes}
use Rattle.cl_log.specs.Lawful.{UndoesFirst, UndoesInOrder}
use Rattle.cl_log.specs.Rest.{is_undone, times_undone}
use Rattle.cl_log.proofs.Rest.{first_of_rest_is, undoes-undo_of}

-- a compensation that undoes the first of a rest names a number that was not named before
pub not_undone-before : (seen : List LogEntry) (content : LogRec) (number : ℕ) → undoes number content ≡ true → UndoesFirst seen content → is_undone seen number ≡ false
not_undone-before seen content number h u =
    let left = and_parts _ _ (and_parts _ _ (first_of_rest_is seen (txn_of content) u.first u.others u.is_first).left).1 in
    let same : u.first.number ≡ number =
    eqb-true u.first.number number (sym (undoes-undo_of u.first.content u.first.number (number_before content) number left.0) ∙ ap (undoes number) (sym u.is_undo) ∙ h) in
    ap (is_undone seen) (sym same) ∙ not-true _ left.1

pub times_undone_push : (entries : List LogEntry) (entry : LogEntry) (number : ℕ) → times_undone (entries ++ entry ∷ []) number ≡ times_undone entries number + cond (undoes number entry.content) 1 0
unfolding times_undone
times_undone_push entries entry number = sum_by_push (λ (e : LogEntry). cond (undoes number e.content) 1 0) entries entry

-- what no compensation names is undone no times
pub times_undone-none : (entries : List LogEntry) (number : ℕ) → is_undone entries number ≡ false → times_undone entries number ≡ 0
unfolding is_undone times_undone
times_undone-none [] number h = refl
times_undone-none (x ∷ xs) number h =
    let parts = or_parts (undoes number x.content) _ h in
    let own : ◌≡◌ {A = ℕ} (cond (undoes number x.content) 1 0) 0 = cond-false _ _ _ parts.0 in
    let rest = times_undone-none xs number parts.1 in
    let split = sum_by-cons (λ (e : LogEntry). cond (undoes number e.content) 1 0) x xs in
    omega (arith, own, rest, split)

named_once : (number : ℕ) (seen entries : List LogEntry) → EachAfter (λ seen entry. (n : ℕ) → undoes n entry.content ≡ true → UndoesFirst seen entry.content) seen entries → times_undone seen number ≤ 1 → times_undone (seen ++ entries) number ≤ 1
named_once number seen [] h l = rw append-nil l
named_once number seen (x ∷ xs) h l =
    let pushed = times_undone_push seen x number in
    let once : times_undone (seen ++ x ∷ []) number ≤ 1 =
    elim (cases_Bool (undoes number x.content)) [
      | inl t ↦ (let none = times_undone-none seen number (not_undone-before seen x.content number t (h.0 number t)) in let one : ◌≡◌ {A = ℕ} (cond (undoes number x.content) 1 0) 1 = cond-true _ _ _ t in omega (arith, pushed, none, one))
      | inr f ↦ (let none : ◌≡◌ {A = ℕ} (cond (undoes number x.content) 1 0) 0 = cond-false _ _ _ f in omega (arith, pushed, none, l))
    ] in
    subst (λ es. times_undone es number ≤ 1) (append_assoc seen (x ∷ []) xs) (named_once number (seen ++ x ∷ []) xs h.1 once)

-- each write is named by one compensation at most
pub times_undone-le_one : (entries : List LogEntry) → UndoesInOrder entries → (number : ℕ) → times_undone entries number ≤ 1
unfolding times_undone
times_undone-le_one entries h number = named_once number [] entries h (omega arith)
