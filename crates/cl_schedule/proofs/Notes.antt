-- What is noted of the packets on their way.
use Rattle.std.proofs.Common.{◌≡◌, ℕ, zero, suc, ◌+◌, ◌-◌, ◌<◌, ◌≤◌, Bool, true, false, List, [], ◌∷◌, ◌++◌, length, get_or, set, Option, None, IsSome, inl, inr, sym, ap, subst, ◌∙◌, arith}
use Rattle.std.proofs.lemmas.Bool.{cases_eq}
use Rattle.std.proofs.lemmas.List.{get_or_append_left, get_or-set_other, get_or-set_same, length-append, length-set}
use Rattle.cl_runs.specs.World.{with_at}
use Rattle.cl_runs.proofs.Updates.{with_at-here}
use Rattle.cl_schedule.specs.Asked.{NotesAsked, one_more, times_in, times_met}
use Rattle.cl_schedule.specs.Making.{slots_met}
use Rattle.cl_schedule.specs.declared.asked.Asked.{Asked}
use Rattle.cl_wire.specs.Message.{Message}
use Rattle.cl_world.proofs.Moves.{with_at-elsewhere}

-- a filled slot is one of the list
pub some_within : {T : Type 0} (slots : List (Option T)) (index : ℕ) → IsSome (get_or slots index None) → index < length slots
some_within [] index is = absurd cc
some_within (slot ∷ slots) zero is = omega arith
some_within (slot ∷ slots) (suc index) is = omega (arith, some_within slots index is)

-- more packets are on their way
pub notes_more : (slots more : List (Option Message)) (times : ℕ → ℕ) (asked : Asked) → NotesAsked slots times asked → NotesAsked (slots ++ more) times asked
notes_more slots more times asked notes index held =
    notes index (λ within. subst (λ slot. IsSome slot) (get_or_append_left slots more None index within) (held (omega (arith, length-append slots more))))

-- the slots of other packets are as they were
held_before : (gone : Bool) (slots more : List (Option Message)) (id index : ℕ) → 1 ≤ id → (index + 1 ≡ id → ⊥) →
    (index < length (slots_met gone slots id ++ more) → IsSome (get_or (slots_met gone slots id ++ more) index None)) → index < length slots →
    IsSome (get_or slots index None)
held_before true slots more id index numbered apart held within =
    let ne : index ≡ id - 1 → ⊥ = λ e. apart (omega arith) in
    let inside : index < length (set slots (id - 1) None) = omega (arith, length-set slots (id - 1) None) in
    subst (λ slot. IsSome slot) (get_or_append_left (set slots (id - 1) None) more None index inside ∙ get_or-set_other slots (id - 1) index None None ne)
    (held (omega (arith, length-append (set slots (id - 1) None) more)))
held_before false slots more id index numbered apart held within =
    subst (λ slot. IsSome slot) (get_or_append_left slots more None index within) (held (omega (arith, length-append slots more)))

-- the packet whose fate was asked
notes_here : (gone : Bool) (slots more : List (Option Message)) (times : ℕ → ℕ) (before after : Asked) (id index : ℕ) → IsSome (get_or slots index None) →
    index + 1 ≡ id → NotesAsked slots times before →
    ((other : ℕ) → times_in after other ≡ times_met gone (times_in before) id other) →
    (index < length (slots_met gone slots id ++ more) → IsSome (get_or (slots_met gone slots id ++ more) index None)) → times_in after id ≡ one_more (times id)
notes_here true slots more times before after id index kept here notes met held =
    let at : id - 1 ≡ index = omega arith in
    let within : index < length slots = some_within slots index kept in
    let inside : index < length (set slots (id - 1) None) = omega (arith, length-set slots (id - 1) None) in
    let empty : get_or (set slots (id - 1) None ++ more) index None ≡ None
    = get_or_append_left (set slots (id - 1) None) more None index inside ∙ ap (λ n. get_or (set slots n None) index None) at ∙ get_or-set_same slots index None None within in
    let none : IsSome {T = Message} None = subst (λ slot. IsSome slot) empty (held (omega (arith, length-append (set slots (id - 1) None) more))) in
    absurd cc
notes_here false slots more times before after id index kept here notes met held =
    let same : times_in before id ≡ times id = subst (λ n. times_in before n ≡ times n) here (notes index (λ within. kept)) in
    met id ∙ with_at-here (times_in before) id (one_more (times_in before id)) ∙ ap one_more same

met_elsewhere : (gone : Bool) (times : ℕ → ℕ) (id other : ℕ) → (other ≡ id → ⊥) → times_met gone times id other ≡ times other
met_elsewhere true times id other ne = with_at-elsewhere times id 0 other ne
met_elsewhere false times id other ne = with_at-elsewhere times id (one_more (times id)) other ne

-- the fate of a packet on its way was asked
pub notes_met : (gone : Bool) (slots more : List (Option Message)) (times : ℕ → ℕ) (before after : Asked) (id : ℕ) → 1 ≤ id →
    IsSome (get_or slots (id - 1) None) → NotesAsked slots times before →
    ((other : ℕ) → times_in after other ≡ times_met gone (times_in before) id other) →
    NotesAsked (slots_met gone slots id ++ more) (with_at times id (one_more (times id))) after
notes_met gone slots more times before after id numbered kept notes met index held =
    elim (cases_eq (index + 1) id) [
      | inl here ↦
          let at : id - 1 ≡ index = omega arith in
          let kept_here : IsSome (get_or slots index None) = subst (λ n. IsSome (get_or slots n None)) at kept in
          subst (λ n. times_in after n ≡ with_at times id (one_more (times id)) n) (sym here)
          (notes_here gone slots more times before after id index kept_here here notes met held ∙ sym (with_at-here times id (one_more (times id))))
      | inr apart ↦
          met (index + 1) ∙ met_elsewhere gone (times_in before) id (index + 1) apart ∙ notes index (held_before gone slots more id index numbered apart held)
          ∙ sym (with_at-elsewhere times id (one_more (times id)) (index + 1) apart)
    ]
