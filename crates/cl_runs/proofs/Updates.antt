-- A function with another value at one number.
use Rattle.std.proofs.Common.{◌≡◌, ℕ, true, false, cond, eqb, refl, ap, sym, subst}
use Rattle.std.proofs.Math.Path.{fun_ext}
use Rattle.std.proofs.lemmas.Bool.{eqb-true, eq-eqb, cond-true, cond_both}
use Rattle.cl_runs.specs.World.{with_at}

pub with_at-here : {A : Type 0} (f : ℕ → A) (number : ℕ) (value : A) → with_at f number value number ≡ value
with_at-here f number value = cond-true (eqb number number) value (f number) (eq-eqb number number refl)

-- the value that it had there
pub with_at_same : {A : Type 0} (f : ℕ → A) (number : ℕ) → with_at f number (f number) ≡ f
with_at_same f number = fun_ext (λ other. cond_both (eqb other number) (f number) (f other) (λ one. one ≡ f other) (λ here. ap f (sym (eqb-true other number here))) (λ elsewhere. refl))

-- a value put in the place of another
pub with_at_again : {A : Type 0} (f : ℕ → A) (number : ℕ) (before value : A) → with_at (with_at f number before) number value ≡ with_at f number value
with_at_again f number before value = fun_ext (λ other. elim (eqb other number) as (λ here. cond here value (cond here before (f other)) ≡ cond here value (f other)) [ true ↦ refl | false ↦ refl ])

-- a part of each value
pub map-with_at : {A B : Type 0} (part : A → B) (f : ℕ → A) (number : ℕ) (value : A) → (λ other. part (with_at f number value other)) ≡ with_at (λ other. part (f other)) number (part value)
map-with_at part f number value = fun_ext (λ other. elim (eqb other number) as (λ here. part (cond here value (f other)) ≡ cond here (part value) (part (f other))) [ true ↦ refl | false ↦ refl ])

-- a part that is the same at each value
pub map-with_at_same : {A B : Type 0} (part : A → B) (f : ℕ → A) (number : ℕ) (value : A) → part value ≡ part (f number) → ◌≡◌ {A = ℕ → B} (λ other. part (with_at f number value other)) (λ other. part (f other))
map-with_at_same part f number value same =
    fun_ext (λ other. cond_both (eqb other number) value (f other) (λ one. part one ≡ part (f other))
    (λ here. subst (λ n. part value ≡ part (f n)) (sym (eqb-true other number here)) same) (λ elsewhere. refl))
