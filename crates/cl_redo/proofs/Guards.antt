-- A write by guard, in its two steps and in one.
use Rattle.std.proofs.Common.{◌≡◌, ℕ, Bool, true, false, cond, eqb, ◌&&◌, refl, sym, ap, ◌∙◌, inl, inr}
use Rattle.std.proofs.lemmas.Bool.{cond-true, cond-false, cases_Bool}
use Rattle.cl_types.specs.Places.{Place, Stored, same_place}
use Rattle.cl_types.proofs.Places.{same_place-true}
use Rattle.cl_log.specs.declared.records.LogRec.{LogRec}
use Rattle.cl_log.specs.LogEntry.{LogEntry}
use Rattle.cl_log.specs.Kind.{writes, number_before}
use Rattle.cl_log.specs.Store.{written, value_after, redo_by_guard}
use Rattle.cl_redo.specs.Write.{guarded, after_write}
use Rattle.cl_redo.specs.declared.write.Guarded.{Guarded}
use Rattle.cl_redo.specs.declared.write.Guarded.TheVariants.{Write, Skip}

-- at the place of the write, by whether the number that is there is the one before
at_place : (entry : LogEntry) (stored : Stored) (meets : Bool) →
    after_write entry.number (cond meets (Write (value_after entry.content stored.1)) Skip) stored ≡ cond (true && meets) (written entry stored) stored
at_place entry stored true = refl
at_place entry stored false = refl

-- a write that is made ready and then made is the write by guard
pub redo_by_guard-steps : (entry : LogEntry) (own place : Place) (stored : Place → Stored) → writes place entry.content ≡ same_place own place →
    cond (same_place own place) (after_write entry.number (guarded entry.content (number_before entry.content) (stored own)) (stored place)) (stored place)
    ≡ redo_by_guard place (stored place) entry
redo_by_guard-steps entry own place stored here =
    elim (cases_Bool (same_place own place)) [
      | inl t ↦
          (let same : own ≡ place = same_place-true own place t in
          cond-true _ _ _ t
          ∙ ap (λ p. after_write entry.number (guarded entry.content (number_before entry.content) (stored p)) (stored place)) same
          ∙ at_place entry (stored place) (eqb (stored place).0 (number_before entry.content))
          ∙ ap (λ b. cond (b && eqb (stored place).0 (number_before entry.content)) (written entry (stored place)) (stored place)) (sym (here ∙ t)))
      | inr f ↦ cond-false _ _ _ f ∙ sym (ap (λ b. cond (b && eqb (stored place).0 (number_before entry.content)) (written entry (stored place)) (stored place)) (here ∙ f))
    ]

-- the same, of a write that was made ready on one store and made on the next, which has the same at each place
pub redo_by_guard-made : (content : LogRec) (number before : ℕ) (own place : Place) (stored between after : Place → Stored) (write : Guarded) →
    writes place content ≡ same_place own place → number_before content ≡ before → ((p : Place) → between p ≡ stored p) → write ≡ guarded content before (stored own) →
    after place ≡ cond (same_place own place) (after_write number write (between place)) (between place) →
    after place ≡ redo_by_guard place (stored place) (record { number = number; content = content })
redo_by_guard-made content number before own place stored between after write here earlier same ready made =
    made
    ∙ ap (λ w. cond (same_place own place) (after_write number w (between place)) (between place)) (ready ∙ ap (λ n. guarded content n (stored own)) (sym earlier))
    ∙ ap (λ s. cond (same_place own place) (after_write number (guarded content (number_before content) (stored own)) s) s) (same place)
    ∙ redo_by_guard-steps (record { number = number; content = content }) own place stored here
