-- When a record is skipped.
use Rattle.std.proofs.Common.{◌≡◌, ◌↔◌, ℕ, ◌<◌, ◌≤◌, ◌⊎◌, true, sym, ap, ◌∙◌, subst, inl, inr, arith}
use Rattle.std.proofs.lemmas.Bool.{cond-true, cond-false, eq-eqb, ne_eqb, false≢true}
use Rattle.cl_types.specs.Places.{Place, Stored}
use Rattle.cl_types.proofs.Places.{same_place-true}
use Rattle.cl_log.specs.declared.records.LogRec.{LogRec}
use Rattle.cl_log.specs.declared.records.LogRec.TheVariants.{Set, Add, Comp}
use Rattle.cl_log.specs.LogEntry.{LogEntry}
use Rattle.cl_log.specs.Kind.{writes, number_before}
use Rattle.cl_redo.specs.declared.redone.Redone.{Redone}
use Rattle.cl_redo.specs.declared.redone.Redone.TheVariants.{Applied, Skipped}
use Rattle.cl_redo.specs.Condition.{MeetsWrite}
use Rattle.cl_redo.specs.Redo.{redone_on, redone_as}

-- by the number that stands there, which is the one before or at least the record's own
skipped_on : (stored before number : ℕ) → before < number → (stored ≡ before) ⊎ (number ≤ stored) → (redone_on stored before ≡ Skipped) ↔ (number ≤ stored)
skipped_on stored before number below (inl same) =
    ((λ skipped. (let applied : Applied ≡ Skipped = sym (cond-true _ _ _ (eq-eqb stored before same)) ∙ skipped in cc)), λ ahead. absurd (omega (arith, below, same, ahead)))
skipped_on stored before number below (inr ahead) =
    ((λ _. ahead), λ _. cond-false _ _ _ (ne_eqb stored before (λ same. omega (arith, below, same, ahead))))

-- how a write is redone is by what stands at its place
redone_as-write : (stored : Place → Stored) (content : LogRec) (place : Place) → writes place content ≡ true → redone_as stored content ≡ redone_on (stored place).0 (number_before content)
redone_as-write stored (Set txn table key before old new) place write = ap (λ p. redone_on (stored p).0 before) (same_place-true (table, key) place write)
redone_as-write stored (Add txn table key before amount) place write = ap (λ p. redone_on (stored p).0 before) (same_place-true (table, key) place write)
redone_as-write stored (Comp txn table key before undone form) place write = ap (λ p. redone_on (stored p).0 before) (same_place-true (table, key) place write)
redone_as-write stored content place write = absurd (false≢true write)

-- a write is skipped exactly where the stored number is at least its own
pub skipped-ahead : (stored : Place → Stored) (entry : LogEntry) → MeetsWrite stored entry → (redone : Redone) → redone ≡ redone_as stored entry.content →
    (place : Place) → writes place entry.content ≡ true → (redone ≡ Skipped) ↔ (entry.number ≤ (stored place).0)
skipped-ahead stored entry meets redone is place write =
    subst (λ r. (r ≡ Skipped) ↔ (entry.number ≤ (stored place).0)) (sym (is ∙ redone_as-write stored entry.content place write))
    (skipped_on (stored place).0 (number_before entry.content) entry.number (meets.before place write) (meets.guard place write))
