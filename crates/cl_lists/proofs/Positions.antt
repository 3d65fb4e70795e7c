-- The positions of a list with one slot more or less.
use Rattle.std.proofs.Common.{◌≡◌, ◌≢◌, ℕ, Bool, true, false, ◌||◌, List, [], ◌∷◌, ◌++◌, Option, Some, None, refl, sym, ap, subst, ◌∙◌, arith}
use Rattle.std.proofs.lemmas.Bool.Decides.{nat_tests}
use Rattle.std.proofs.lemmas.List.{append-nil}
use Rattle.cl_lists.specs.SlotList.{has, is_distinct, first_of, last_or, last_of, after_in, before_or, before_in, without}
use Rattle.cl_lists.specs.Links.{IsPosition, after, before}
use Rattle.cl_lists.proofs.SlotListLemmas.{has-append, has-without, has-last_or, has-last, has-first, is_distinct-append_left, is_distinct-append_apart, is_distinct-push, is_distinct-without, split_at, after_in-append_right, last_or-append, before_or-append_right, before_or-append_left, absent-back, after_in-split, before_in-split, without-split, or_true}

-- ---- the list of two parts

after_in-append_last : (x : ℕ) (xs ys : List ℕ) (slot : ℕ) → is_distinct (x ∷ xs) ≡ true → last_or (Some x) xs ≡ Some slot → after_in (x ∷ xs ++ ys) slot ≡ first_of ys
unfolding after_in is_distinct
after_in-append_last x [] ys slot distinct last = grind (arith, nat_tests)
after_in-append_last x (y ∷ xs) ys slot distinct last =
    grind (arith, nat_tests, after_in-append_last y xs ys slot, has-last_or (Some y) xs slot last)

last_or-some : (x : ℕ) (xs : List ℕ) → last_or (Some x) xs ≡ None → ⊥
last_or-some x [] none = grind arith
last_or-some x (y ∷ xs) none = last_or-some y xs none

-- after the last position of the first part comes the first of the second
pub after-append_last : (xs ys : List ℕ) → is_distinct xs ≡ true → after (xs ++ ys) (last_of xs) ≡ first_of ys
after-append_last [] ys distinct = refl
after-append_last (x ∷ xs) ys distinct = at_last (last_or (Some x) xs) refl where
  at_last : (position : Option ℕ) → last_or (Some x) xs ≡ position → after (x ∷ xs ++ ys) position ≡ first_of ys
  at_last None last = absurd (last_or-some x xs last)
  at_last (Some slot) last = after_in-append_last x xs ys slot distinct last

after_in-append_inner : (xs ys : List ℕ) (slot : ℕ) → has xs slot ≡ true → Some slot ≢ last_of xs → after_in (xs ++ ys) slot ≡ after_in xs slot
unfolding after_in
after_in-append_inner [] ys slot there inner = grind arith
after_in-append_inner (x ∷ []) ys slot there inner = absurd (inner (grind (arith, nat_tests)))
after_in-append_inner (x ∷ y ∷ xs) ys slot there inner = grind (arith, nat_tests, after_in-append_inner (y ∷ xs) ys slot)

-- after any other position of the first part comes what comes there
pub after-append_inner : (xs ys : List ℕ) (position : Option ℕ) → IsPosition xs position → position ≢ last_of xs → after (xs ++ ys) position ≡ after xs position
after-append_inner [] ys None there inner = absurd (inner refl)
after-append_inner (x ∷ xs) ys None there inner = refl
after-append_inner xs ys (Some slot) there inner = after_in-append_inner xs ys slot there inner

-- before the first position of the second part comes the last of the first
pub before-append_first : (xs ys : List ℕ) → is_distinct (xs ++ ys) ≡ true → before (xs ++ ys) (first_of ys) ≡ last_of xs
unfolding before_or
before-append_first xs [] distinct = last_or-append None xs []
before-append_first xs (y ∷ ys) distinct = grind (arith, nat_tests, is_distinct-append_apart xs (y ∷ ys) y distinct, before_or-append_right None xs (y ∷ ys) y)

before_or-inner : (p q : Option ℕ) (ys : List ℕ) (slot : ℕ) → Some slot ≢ first_of ys → before_or p ys slot ≡ before_or q ys slot
unfolding before_or
before_or-inner p q [] slot inner = refl
before_or-inner p q (y ∷ ys) slot inner = grind (arith, nat_tests)

last_or-inner : (p q : Option ℕ) (ys : List ℕ) → None ≢ first_of ys → last_or p ys ≡ last_or q ys
last_or-inner p q [] inner = absurd (inner refl)
last_or-inner p q (y ∷ ys) inner = refl

before_or-skip : (given : Option ℕ) (s : ℕ) (ys : List ℕ) (slot : ℕ) → (slot ≡ s → ⊥) → Some slot ≢ first_of ys → before_or given ys slot ≡ before_or given (s ∷ ys) slot
unfolding before_or
before_or-skip given s ys slot apart inner = grind (arith, nat_tests, before_or-inner given (Some s) ys slot inner)

before_in-append_inner : (xs : List ℕ) (s : ℕ) (ys : List ℕ) (slot : ℕ) → (slot ≡ s → ⊥) → Some slot ≢ first_of ys → (b : Bool) → has xs slot ≡ b → before_in (xs ++ ys) slot ≡ before_in (xs ++ s ∷ ys) slot
before_in-append_inner xs s ys slot apart inner true there =
    before_or-append_left None xs ys slot there ∙ sym (before_or-append_left None xs (s ∷ ys) slot there)
before_in-append_inner xs s ys slot apart inner false absent =
    before_or-append_right None xs ys slot absent
    ∙ before_or-skip (last_or None xs) s ys slot apart inner
    ∙ sym (before_or-append_right None xs (s ∷ ys) slot absent)

-- what comes before any other position stays where a slot between the two parts goes
pub before-append_inner : (xs : List ℕ) (s : ℕ) (ys : List ℕ) (position : Option ℕ) → position ≢ Some s → position ≢ first_of ys → before (xs ++ ys) position ≡ before (xs ++ s ∷ ys) position
before-append_inner xs s ys None apart inner =
    last_or-append None xs ys ∙ last_or-inner (last_or None xs) (Some s) ys inner ∙ sym (last_or-append None xs (s ∷ ys))
before-append_inner xs s ys (Some slot) apart inner =
    before_in-append_inner xs s ys slot (λ e. apart (ap Some e)) inner (has xs slot) refl

after_in-skip : (s : ℕ) (ys : List ℕ) (slot : ℕ) → (slot ≡ s → ⊥) → after_in ys slot ≡ after_in (s ∷ ys) slot
unfolding after_in
after_in-skip s ys slot apart = grind (arith, nat_tests)

after_in-append_outer : (xs : List ℕ) (s : ℕ) (ys : List ℕ) (slot : ℕ) → (slot ≡ s → ⊥) → Some slot ≢ last_of xs → (b : Bool) → has xs slot ≡ b → after_in (xs ++ ys) slot ≡ after_in (xs ++ s ∷ ys) slot
after_in-append_outer xs s ys slot apart outer true there =
    after_in-append_inner xs ys slot there outer ∙ sym (after_in-append_inner xs (s ∷ ys) slot there outer)
after_in-append_outer xs s ys slot apart outer false absent =
    after_in-append_right xs ys slot absent ∙ after_in-skip s ys slot apart ∙ sym (after_in-append_right xs (s ∷ ys) slot absent)

-- what comes after any other position stays where a slot between the two parts goes
pub after-append_outer : (xs : List ℕ) (s : ℕ) (ys : List ℕ) (position : Option ℕ) → position ≢ Some s → position ≢ last_of xs → after (xs ++ ys) position ≡ after (xs ++ s ∷ ys) position
after-append_outer [] s ys None apart outer = absurd (outer refl)
after-append_outer (x ∷ xs) s ys None apart outer = refl
after-append_outer xs s ys (Some slot) apart outer =
    after_in-append_outer xs s ys slot (λ e. apart (ap Some e)) outer (has xs slot) refl

-- ---- a slot more at the end

module _ (list : List ℕ) (slot : ℕ) (distinct : is_distinct list ≡ true) (absent : has list slot ≡ false) where
  pub after-push_last : after (list ++ slot ∷ []) (last_of list) ≡ Some slot
  after-push_last = after-append_last list (slot ∷ []) distinct

  pub after-push_self : after_in (list ++ slot ∷ []) slot ≡ None
  unfolding after_in
  after-push_self = after_in-append_right list (slot ∷ []) slot absent ∙ grind (arith, nat_tests)

  pub after-push_other : (position : Option ℕ) → position ≢ Some slot → position ≢ last_of list → after (list ++ slot ∷ []) position ≡ after list position
  after-push_other position apart outer = sym (after-append_outer list slot [] position apart outer) ∙ ap (λ xs. after xs position) (append-nil list)

  pub before-push_end : last_of (list ++ slot ∷ []) ≡ Some slot
  before-push_end = last_or-append None list (slot ∷ [])

  pub before-push_self : before_in (list ++ slot ∷ []) slot ≡ last_of list
  before-push_self = before-append_first list (slot ∷ []) (is_distinct-push list slot distinct absent)

  pub before-push_other : (position : Option ℕ) → position ≢ Some slot → position ≢ None → before (list ++ slot ∷ []) position ≡ before list position
  before-push_other position apart inner = sym (before-append_inner list slot [] position apart inner) ∙ ap (λ xs. before xs position) (append-nil list)

-- ---- a slot less

-- a list taken apart at a slot
pub record Parts (list : List ℕ) (slot : ℕ) : Type 0 where
  pub front : List ℕ
  pub back : List ℕ
  pub whole : list ≡ front ++ slot ∷ back
  pub absent_front : has front slot ≡ false
  pub absent_back : has back slot ≡ false
  pub rest : without slot list ≡ front ++ back
  pub prev : before_in list slot ≡ last_of front
  pub next : after_in list slot ≡ first_of back

parts_of_split : (front : List ℕ) (slot : ℕ) (back : List ℕ) → is_distinct (front ++ slot ∷ back) ≡ true → has front slot ≡ false → Parts (front ++ slot ∷ back) slot
parts_of_split front slot back distinct absent =
    record {
      front = front;
      back = back;
      whole = refl;
      absent_front = absent;
      absent_back = absent-back front slot back distinct;
      rest = without-split front slot back distinct;
      prev = before_in-split front slot back distinct;
      next = after_in-split front slot back distinct;
    }

pub parts_of : (list : List ℕ) (slot : ℕ) → is_distinct list ≡ true → has list slot ≡ true → Parts list slot
parts_of list slot distinct there =
    let split = split_at list slot there in
    let parts = parts_of_split split.before slot split.after (subst (λ xs. is_distinct xs ≡ true) split.whole distinct) split.absent_before in
    subst (λ xs. Parts xs slot) (sym split.whole) parts

module _ (list : List ℕ) (slot : ℕ) (distinct : is_distinct list ≡ true) (there : has list slot ≡ true) where
  pub after-without_before : after (without slot list) (before_in list slot) ≡ after_in list slot
  after-without_before =
      let parts = parts_of list slot distinct there in
      let front_distinct = is_distinct-append_left parts.front (slot ∷ parts.back) (subst (λ xs. is_distinct xs ≡ true) parts.whole distinct) in
      ap (λ xs. after xs (before_in list slot)) parts.rest
      ∙ ap (after (parts.front ++ parts.back)) parts.prev
      ∙ after-append_last parts.front parts.back front_distinct
      ∙ sym parts.next

  pub after-without_other : (position : Option ℕ) → position ≢ Some slot → position ≢ before_in list slot → after (without slot list) position ≡ after list position
  after-without_other position apart outer =
      let parts = parts_of list slot distinct there in
      ap (λ xs. after xs position) parts.rest
      ∙ after-append_outer parts.front slot parts.back position apart (λ e. outer (e ∙ sym parts.prev))
      ∙ ap (λ xs. after xs position) (sym parts.whole)

  pub before-without_after : before (without slot list) (after_in list slot) ≡ before_in list slot
  before-without_after =
      let parts = parts_of list slot distinct there in
      ap (λ xs. before xs (after_in list slot)) parts.rest
      ∙ ap (before (parts.front ++ parts.back)) parts.next
      ∙ before-append_first parts.front parts.back (subst (λ xs. is_distinct xs ≡ true) parts.rest (is_distinct-without slot list distinct))
      ∙ sym parts.prev

  pub before-without_other : (position : Option ℕ) → position ≢ Some slot → position ≢ after_in list slot → before (without slot list) position ≡ before list position
  before-without_other position apart inner =
      let parts = parts_of list slot distinct there in
      ap (λ xs. before xs position) parts.rest
      ∙ before-append_inner parts.front slot parts.back position apart (λ e. inner (e ∙ sym parts.next))
      ∙ ap (λ xs. before xs position) (sym parts.whole)

-- ---- which positions a list has

pub IsPosition-from_slot : (list : List ℕ) (position : Option ℕ) → ((slot : ℕ) → position ≡ Some slot → has list slot ≡ true) → IsPosition list position
IsPosition-from_slot list None there = tt
IsPosition-from_slot list (Some slot) there = there slot refl

pub IsPosition-last : (list : List ℕ) → IsPosition list (last_of list)
IsPosition-last list = IsPosition-from_slot list (last_of list) (λ slot last. has-last list slot last)

-- a position of a list is the slot that came last, or a position of the list before it came
pub IsPosition-push : (list : List ℕ) (slot : ℕ) (position : Option ℕ) → position ≢ Some slot → IsPosition (list ++ slot ∷ []) position → IsPosition list position
IsPosition-push list slot None apart there = tt
IsPosition-push list slot (Some other) apart there =
    let differ : (slot ≡ other → ⊥) = (λ e. apart (ap Some (sym e))) in
    grind (arith, nat_tests, has-append list (slot ∷ []) other, there)

pub IsPosition-without : (slot : ℕ) (list : List ℕ) (position : Option ℕ) → IsPosition (without slot list) position → IsPosition list position
IsPosition-without slot list None there = tt
IsPosition-without slot list (Some other) there = grind (arith, nat_tests, has-without slot list other, there)

pub IsPosition-without_other : (slot : ℕ) (list : List ℕ) (position : Option ℕ) → IsPosition (without slot list) position → position ≢ Some slot
IsPosition-without_other slot list None there = λ e. grind arith
IsPosition-without_other slot list (Some other) there = λ e. grind (arith, nat_tests, has-without slot list other, there)

module _ (list : List ℕ) (slot : ℕ) (distinct : is_distinct list ≡ true) (there : has list slot ≡ true) where
  pub has-before_in : (other : ℕ) → before_in list slot ≡ Some other → has (without slot list) other ≡ true
  has-before_in other prev =
      let parts = parts_of list slot distinct there in
      let front = has-last parts.front other (sym parts.prev ∙ prev) in
      rw parts.rest (has-append parts.front parts.back other ∙ ap (λ b. b || has parts.back other) front)

  pub has-after_in : (other : ℕ) → after_in list slot ≡ Some other → has (without slot list) other ≡ true
  has-after_in other next =
      let parts = parts_of list slot distinct there in
      let back = has-first parts.back other (sym parts.next ∙ next) in
      rw parts.rest (has-append parts.front parts.back other ∙ ap (λ b. has parts.front other || b) back ∙ or_true (has parts.front other))

  pub IsPosition-before_in : IsPosition (without slot list) (before_in list slot)
  IsPosition-before_in = IsPosition-from_slot (without slot list) (before_in list slot) has-before_in

  pub IsPosition-after_in : IsPosition (without slot list) (after_in list slot)
  IsPosition-after_in = IsPosition-from_slot (without slot list) (after_in list slot) has-after_in
