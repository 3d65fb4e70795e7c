-- Where nothing is noted of any packet.
use Rattle.std.proofs.Common.{◌≡◌, ℕ, List, [], ◌∷◌, length, nat_eq, refl, ap, sym, ◌∙◌, inl, inr, arith, hash_map_len}
use Rattle.std.proofs.lemmas.Bool.{cases_eq}
use Rattle.std.specs.Map.{lookup}
use Rattle.std.specs.Prelude.{unwrap_or}
use Rattle.cl_runs.specs.World.{with_at}
use Rattle.cl_runs.proofs.Updates.{with_at-here}
use Rattle.cl_schedule.specs.Asked.{times_in}
use Rattle.cl_schedule.specs.declared.asked.Asked.{Asked}
use Rattle.cl_world.proofs.Moves.{with_at-elsewhere}

-- a list without elements is empty
none_left : {T : Type 0} (xs : List T) → length xs ≡ 0 → xs ≡ []
none_left [] none = refl
none_left (x ∷ xs) none = absurd (omega arith)

-- no fate was asked
pub none_asked : (asked : Asked) (id : ℕ) → hash_map_len asked.times ≡ 0 → times_in asked id ≡ 0
none_asked asked id none = ap (λ entries. unwrap_or (lookup (nat_eq id) entries) 0) (none_left asked.times.entries none)

-- so to forget one changes nothing
pub none_forgotten : (asked : Asked) (id other : ℕ) → hash_map_len asked.times ≡ 0 → times_in asked other ≡ with_at (times_in asked) id 0 other
none_forgotten asked id other none =
    elim (cases_eq other id) [
      | inl here ↦ ap (times_in asked) here ∙ none_asked asked id none ∙ sym (with_at-here (times_in asked) id 0) ∙ ap (with_at (times_in asked) id 0) (sym here)
      | inr apart ↦ sym (with_at-elsewhere (times_in asked) id 0 other apart)
    ]
