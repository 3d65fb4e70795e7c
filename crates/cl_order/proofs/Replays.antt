-- Operations done on a map, seen from one place.
use Rattle.std.proofs.Common.{◌≡◌, ◌≢◌, ℕ, true, false, Bool, cond, eqb, List, [], ◌∷◌, ◌++◌, Option, Some, refl, sym, ap, ◌∙◌, subst, inl, inr}
use Rattle.std.specs.List.{All, filter}
use Rattle.std.proofs.lemmas.Bool.{cond-true, cond-false, cases_Bool, both_ways, eqb-true, eq-eqb}
use Rattle.std.proofs.lemmas.List.Elements.{All-head, All-tail}
use Rattle.cl_types.specs.declared.operations.Op.TheVariants.{Get}
use Rattle.cl_types.specs.declared.answers.Outcome.TheVariants.{Done}
use Rattle.cl_types.specs.Places.{Place, same_place}
use Rattle.cl_types.specs.Plain.{plain_reply, plain_value}
use Rattle.cl_types.proofs.Places.{same_place-true, same_place-itself}
use Rattle.cl_serial.specs.PlainMap.{Values, Operation, after_operation, after_operations, RepliesAgree}

-- the value at a place after one operation, and after several
abbrev pub value_after_one : Place → Option (List ℕ) → Operation → Option (List ℕ)
value_after_one place value operation = cond (same_place operation.place place) (plain_value operation.op value) value

abbrev pub value_through : Place → Option (List ℕ) → List Operation → Option (List ℕ)
value_through place value [] = value
value_through place value (operation ∷ list) = value_through place (value_after_one place value operation) list

-- an operation at the place replies what the plain one does
abbrev pub AgreesAt : Place → Option (List ℕ) → Operation → Type 0
AgreesAt place value operation = same_place operation.place place ≡ true → operation.outcome ≡ Some (Done (plain_reply operation.op value))

abbrev pub AgreeAt : Place → Option (List ℕ) → List Operation → Type 0
AgreeAt place value [] = Unit {0}
AgreeAt place value (operation ∷ list) = AgreesAt place value operation × AgreeAt place (value_after_one place value operation) list

-- the map after one operation, at a place
after_operation-at : (values : Values) (operation : Operation) (place : Place) → after_operation values operation place ≡ value_after_one place (values place) operation
after_operation-at values operation place =
    elim (cases_Bool (same_place operation.place place)) [
      | inl t ↦ cond-true _ (plain_value operation.op (values operation.place)) (values place) t
          ∙ ap (λ (p : Place). plain_value operation.op (values p)) (same_place-true operation.place place t)
          ∙ sym (cond-true _ (plain_value operation.op (values place)) (values place) t)
      | inr f ↦ cond-false _ (plain_value operation.op (values operation.place)) (values place) f
          ∙ sym (cond-false _ (plain_value operation.op (values place)) (values place) f)
    ]

pub after_operations-at : (values : Values) (list : List Operation) (place : Place) → after_operations values list place ≡ value_through place (values place) list
after_operations-at values [] place = refl
after_operations-at values (operation ∷ list) place =
    after_operations-at (after_operation values operation) list place
    ∙ ap (λ value. value_through place value list) (after_operation-at values operation place)

-- replies that agree do so at each place
pub agree_at_each : (values : Values) (list : List Operation) → RepliesAgree values list → (place : Place) → AgreeAt place (values place) list
unfolding RepliesAgree
agree_at_each values [] h place = tt
agree_at_each values (operation ∷ list) h place = (
  λ here. h.0 ∙ ap (λ (p : Place). Some (Done (plain_reply operation.op (values p)))) (same_place-true operation.place place here),
  subst (λ value. AgreeAt place value list) (after_operation-at values operation place) (agree_at_each (after_operation values operation) list h.1 place),
)

pub agree_from_each : (values : Values) (list : List Operation) → ((place : Place) → AgreeAt place (values place) list) → RepliesAgree values list
unfolding RepliesAgree
agree_from_each values [] h = tt
agree_from_each values (operation ∷ list) h = (
  (h operation.place).0 (same_place-itself operation.place),
  agree_from_each (after_operation values operation) list
      (λ place. subst (λ value. AgreeAt place value list) (sym (after_operation-at values operation place)) (h place).1),
)

-- ---- the operations on one virtual node

module _ (on : Place → ℕ) (v : ℕ) where
  abbrev is_on : Operation → Bool
  is_on operation = eqb (on operation.place) v

  -- what is elsewhere is at another place
  off_is_apart : (place : Place) → on place ≡ v → (operation : Operation) → is_on operation ≡ false → same_place operation.place place ≡ true → ⊥
  off_is_apart place here operation off same =
      both_ways _ off (eq-eqb _ _ (ap on (same_place-true operation.place place same) ∙ here))

  off_leaves : (place : Place) (value : Option (List ℕ)) → on place ≡ v → (operation : Operation) → is_on operation ≡ false → value_after_one place value operation ≡ value
  off_leaves place value here operation off =
      elim (cases_Bool (same_place operation.place place)) [
        | inl t ↦ absurd (off_is_apart place here operation off t)
        | inr f ↦ cond-false _ _ _ f
      ]

  pub agree_of_filtered : (place : Place) (value : Option (List ℕ)) (list : List Operation) → on place ≡ v → AgreeAt place value (filter is_on list) → AgreeAt place value list
  agree_of_filtered place value [] here h = tt
  agree_of_filtered place value (operation ∷ list) here h =
      elim (cases_Bool (is_on operation)) [
        | inl t ↦ (let both = subst (AgreeAt place value) (cond-true _ (operation ∷ filter is_on list) (filter is_on list) t) h in
            (both.0, agree_of_filtered place (value_after_one place value operation) list here both.1))
        | inr f ↦ (
          (λ same. absurd (off_is_apart place here operation f same)),
          subst (λ w. AgreeAt place w list) (sym (off_leaves place value here operation f))
              (agree_of_filtered place value list here (subst (AgreeAt place value) (cond-false _ (operation ∷ filter is_on list) (filter is_on list) f) h)),
        )
      ]

  filtered_agree : (place : Place) (value : Option (List ℕ)) (list : List Operation) → on place ≡ v → AgreeAt place value list → AgreeAt place value (filter is_on list)
  filtered_agree place value [] here h = tt
  filtered_agree place value (operation ∷ list) here h =
      elim (cases_Bool (is_on operation)) [
        | inl t ↦ subst (AgreeAt place value) (sym (cond-true _ (operation ∷ filter is_on list) (filter is_on list) t))
            (h.0, filtered_agree place (value_after_one place value operation) list here h.1)
        | inr f ↦ subst (AgreeAt place value) (sym (cond-false _ (operation ∷ filter is_on list) (filter is_on list) f))
            (filtered_agree place value list here (subst (λ w. AgreeAt place w list) (off_leaves place value here operation f) h.1))
      ]

  -- at a place of another virtual node they do nothing
  filtered_elsewhere : (place : Place) (value : Option (List ℕ)) (list : List Operation) → eqb (on place) v ≡ false → AgreeAt place value (filter is_on list)
  filtered_elsewhere place value [] away = tt
  filtered_elsewhere place value (operation ∷ list) away =
      elim (cases_Bool (is_on operation)) [
        | inl t ↦
            let apart : same_place operation.place place ≡ true → ⊥ = λ same. both_ways _ away (ap (λ (p : Place). eqb (on p) v) (sym (same_place-true operation.place place same)) ∙ t) in
            subst (AgreeAt place value) (sym (cond-true _ (operation ∷ filter is_on list) (filter is_on list) t))
            ((λ same. absurd (apart same)), filtered_elsewhere place (value_after_one place value operation) list away)
        | inr f ↦ subst (AgreeAt place value) (sym (cond-false _ (operation ∷ filter is_on list) (filter is_on list) f)) (filtered_elsewhere place value list away)
      ]

  pub agree_on : (values : Values) (list : List Operation) → RepliesAgree values (filter is_on list) → (place : Place) → on place ≡ v → AgreeAt place (values place) list
  agree_on values list h place here = agree_of_filtered place (values place) list here (agree_at_each values (filter is_on list) h place)

  pub agree_on_from : (values : Values) (list : List Operation) → ((place : Place) → on place ≡ v → AgreeAt place (values place) list) → RepliesAgree values (filter is_on list)
  agree_on_from values list h =
      agree_from_each values (filter is_on list) (λ place.
      elim (cases_Bool (eqb (on place) v)) [
        | inl t ↦ (let here = eqb-true (on place) v t in filtered_agree place (values place) list here (h place here))
        | inr f ↦ filtered_elsewhere place (values place) list f
      ])

-- ---- one more operation

pub value_through-push : (place : Place) (value : Option (List ℕ)) (list : List Operation) (operation : Operation) →
    value_through place value (list ++ operation ∷ []) ≡ value_after_one place (value_through place value list) operation
value_through-push place value [] operation = refl
value_through-push place value (x ∷ xs) operation = value_through-push place (value_after_one place value x) xs operation

pub AgreeAt-push : (place : Place) (value : Option (List ℕ)) (list : List Operation) (operation : Operation) → AgreeAt place value list → AgreesAt place (value_through place value list) operation →
    AgreeAt place value (list ++ operation ∷ [])
AgreeAt-push place value [] operation h one = (one, tt)
AgreeAt-push place value (x ∷ xs) operation h one = (h.0, AgreeAt-push place (value_after_one place value x) xs operation h.1 one)

-- ---- operations that leave a place as it is

abbrev pub ReadsAt : Place → Operation → Type 0
ReadsAt place operation = operation.place ≡ place → operation.op ≡ Get

-- where all operations at the place are reads, its value stays
pub value_through-reads : (place : Place) (value : Option (List ℕ)) (list : List Operation) → All (ReadsAt place) list → value_through place value list ≡ value
value_through-reads place value [] h = refl
value_through-reads place value (operation ∷ list) h =
    ap (λ w. value_through place w list) kept ∙ value_through-reads place value list (All-tail (ReadsAt place) operation list h)
  where
    kept : value_after_one place value operation ≡ value
    kept =
        elim (cases_Bool (same_place operation.place place)) [
          | inl t ↦ cond-true _ _ _ t ∙ ap (λ op. plain_value op value) (All-head (ReadsAt place) operation list h (same_place-true operation.place place t))
          | inr f ↦ cond-false _ _ _ f
        ]

-- where there is none, replies agree
pub AgreeAt-none : (place : Place) (value : Option (List ℕ)) (list : List Operation) → All (λ operation. operation.place ≢ place) list → AgreeAt place value list
AgreeAt-none place value [] h = tt
AgreeAt-none place value (operation ∷ list) h = (
  λ here. absurd (All-head (λ (o : Operation). o.place ≢ place) operation list h (same_place-true operation.place place here)),
  AgreeAt-none place (value_after_one place value operation) list (All-tail (λ (o : Operation). o.place ≢ place) operation list h),
)
