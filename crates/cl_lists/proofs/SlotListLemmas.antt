-- What the words on a list of slots say of a list with one slot more or less.
use Rattle.std.proofs.Common.{◌≡◌, ◌≢◌, ℕ, Bool, true, false, not, ◌&&◌, ◌||◌, eqb, List, [], ◌∷◌, ◌++◌, Option, Some, None, refl, sym, ap, subst, ◌∙◌, arith, inl, inr}
use Rattle.std.specs.List.{Contains}
use Rattle.std.proofs.lemmas.Bool.Decides.{nat_tests}
use Rattle.std.proofs.lemmas.Bool.{cases_eq}
use Rattle.std.proofs.lemmas.Option.{same_Some}
use Rattle.std.proofs.lemmas.List.Elements.{filter-append, Contains-append_right}
use Rattle.std.proofs.lemmas.List.Folds.{list_any-append, list_any_at}
use Rattle.cl_lists.specs.SlotList.{has, is_distinct, first_of, last_or, last_of, after_in, before_or, before_in, without}

-- which slots are on a list

pub has-append : (xs ys : List ℕ) (slot : ℕ) → has (xs ++ ys) slot ≡ (has xs slot || has ys slot)
has-append xs ys slot = list_any-append (λ other. eqb other slot) xs ys

pub has-without : (slot : ℕ) (list : List ℕ) (other : ℕ) → has (without slot list) other ≡ (not (eqb other slot) && has list other)
has-without slot [] other = grind arith
has-without slot (x ∷ list) other = grind (arith, nat_tests, has-without slot list other)

pub without-absent : (slot : ℕ) (list : List ℕ) → has list slot ≡ false → without slot list ≡ list
without-absent slot [] absent = refl
without-absent slot (x ∷ list) absent = grind (arith, nat_tests, without-absent slot list)

pub has-first : (list : List ℕ) (slot : ℕ) → first_of list ≡ Some slot → has list slot ≡ true
has-first [] slot first = grind arith
has-first (x ∷ list) slot first = grind (arith, nat_tests)

pub has-last_or : (given : Option ℕ) (list : List ℕ) (slot : ℕ) → last_or given list ≡ Some slot → (given ≡ Some slot → has list slot ≡ true) → has list slot ≡ true
has-last_or given [] slot last was = was last
has-last_or given (x ∷ list) slot last was = grind (arith, nat_tests, has-last_or (Some x) list slot)

pub has-last : (list : List ℕ) (slot : ℕ) → last_of list ≡ Some slot → has list slot ≡ true
has-last list slot last = has-last_or None list slot last (λ e. grind arith)

pub has-after_in : (list : List ℕ) (slot other : ℕ) → after_in list slot ≡ Some other → has list other ≡ true
unfolding after_in
has-after_in [] slot other next = grind arith
has-after_in (x ∷ list) slot other next = grind (arith, nat_tests, has-first list other, has-after_in list slot other)

has_before_or_tail : (given : Option ℕ) (x : ℕ) (list : List ℕ) (slot other : ℕ) → before_or given (x ∷ list) slot ≡ Some other → given ≢ Some other → (before_or (Some x) list slot ≡ Some other → Some x ≢ Some other → has list other ≡ true) → (x ≡ other → ⊥) → has (x ∷ list) other ≡ true
unfolding before_or
has_before_or_tail given x list slot other prev apart rest differ =
    let skipped : before_or (Some x) list slot ≡ Some other = grind (arith, nat_tests, prev, apart) in
    let there : has list other ≡ true = rest skipped (λ e. differ (same_Some x other e)) in
    grind (arith, nat_tests, there)

has-before_or : (given : Option ℕ) (list : List ℕ) (slot other : ℕ) → before_or given list slot ≡ Some other → given ≢ Some other → has list other ≡ true
unfolding before_or
has-before_or given [] slot other prev apart = grind arith
has-before_or given (x ∷ list) slot other prev apart = elim (cases_eq x other) [
  | inl e ↦ grind (arith, nat_tests, e)
  | inr differ ↦ has_before_or_tail given x list slot other prev apart (has-before_or (Some x) list slot other) differ
]

pub has-before_in : (list : List ℕ) (slot other : ℕ) → before_in list slot ≡ Some other → has list other ≡ true
has-before_in list slot other prev = has-before_or None list slot other prev (λ e. grind arith)

-- no slot twice

pub is_distinct-without : (slot : ℕ) (list : List ℕ) → is_distinct list ≡ true → is_distinct (without slot list) ≡ true
unfolding is_distinct
is_distinct-without slot [] distinct = refl
is_distinct-without slot (x ∷ list) distinct = grind (arith, nat_tests, has-without slot list x, is_distinct-without slot list)

pub is_distinct-append_left : (xs ys : List ℕ) → is_distinct (xs ++ ys) ≡ true → is_distinct xs ≡ true
unfolding is_distinct
is_distinct-append_left [] ys distinct = refl
is_distinct-append_left (x ∷ xs) ys distinct = grind (arith, has-append xs ys x, is_distinct-append_left xs ys)

pub is_distinct-append_right : (xs ys : List ℕ) → is_distinct (xs ++ ys) ≡ true → is_distinct ys ≡ true
unfolding is_distinct
is_distinct-append_right [] ys distinct = distinct
is_distinct-append_right (x ∷ xs) ys distinct = grind (arith, is_distinct-append_right xs ys)

pub is_distinct-append_apart : (xs ys : List ℕ) (slot : ℕ) → is_distinct (xs ++ ys) ≡ true → has xs slot ≡ true → has ys slot ≡ false
unfolding is_distinct
is_distinct-append_apart [] ys slot distinct there = grind arith
is_distinct-append_apart (x ∷ xs) ys slot distinct there = grind (arith, nat_tests, has-append xs ys x, is_distinct-append_apart xs ys slot)

pub is_distinct-push : (list : List ℕ) (slot : ℕ) → is_distinct list ≡ true → has list slot ≡ false → is_distinct (list ++ slot ∷ []) ≡ true
unfolding is_distinct
is_distinct-push [] slot distinct absent = refl
is_distinct-push (x ∷ list) slot distinct absent = grind (arith, nat_tests, has-append list (slot ∷ []) x, is_distinct-push list slot)

absent_unless : (b c : Bool) → (b ≡ true → c ≡ false) → c ≡ true → b ≡ false
absent_unless true c apart there = sym there ∙ apart refl
absent_unless false c apart there = refl

pub or_true : (b : Bool) → (b || true) ≡ true
or_true true = refl
or_true false = refl

pub has-head : (slot : ℕ) (list : List ℕ) → has (slot ∷ list) slot ≡ true
has-head slot list = grind (arith, nat_tests)

pub has-tail : (first : ℕ) (list : List ℕ) (slot : ℕ) → has list slot ≡ true → has (first ∷ list) slot ≡ true
has-tail first list slot on = grind (arith, nat_tests)

absent-tail : (slot : ℕ) (list : List ℕ) → is_distinct (slot ∷ list) ≡ true → has list slot ≡ false
unfolding is_distinct
absent-tail slot list distinct = grind arith

without-head : (slot : ℕ) (list : List ℕ) → without slot (slot ∷ list) ≡ without slot list
without-head slot list = grind (arith, nat_tests)

pub after_in-head : (slot : ℕ) (list : List ℕ) → after_in (slot ∷ list) slot ≡ first_of list
unfolding after_in
after_in-head slot list = grind (arith, nat_tests)

before_or-head : (given : Option ℕ) (slot : ℕ) (list : List ℕ) → before_or given (slot ∷ list) slot ≡ given
unfolding before_or
before_or-head given slot list = grind (arith, nat_tests)

-- a list that has the slot, taken apart there

pub record SplitAt (list : List ℕ) (slot : ℕ) : Type 0 where
  pub before : List ℕ
  pub after : List ℕ
  pub whole : list ≡ before ++ slot ∷ after
  pub absent_before : has before slot ≡ false

split_head : (x : ℕ) (list : List ℕ) (slot : ℕ) → has (x ∷ list) slot ≡ true → (has list slot ≡ true → SplitAt list slot) → (b : Bool) → eqb x slot ≡ b → SplitAt (x ∷ list) slot
split_head x list slot there rest true e = record { before = []; after = list; whole = grind (arith, nat_tests); absent_before = refl }
split_head x list slot there rest false e =
    let tail = rest (grind (arith, nat_tests)) in
    record { before = x ∷ tail.before; after = tail.after; whole = ap (λ xs. x ∷ xs) tail.whole; absent_before = grind (arith, tail.absent_before) }

pub split_at : (list : List ℕ) (slot : ℕ) → has list slot ≡ true → SplitAt list slot
split_at [] slot there = absurd (grind arith)
split_at (x ∷ list) slot there = split_head x list slot there (split_at list slot) (eqb x slot) refl

-- what follows a slot, and what it follows

pub after_in-append_right : (xs ys : List ℕ) (slot : ℕ) → has xs slot ≡ false → after_in (xs ++ ys) slot ≡ after_in ys slot
unfolding after_in
after_in-append_right [] ys slot absent = refl
after_in-append_right (x ∷ xs) ys slot absent = grind (arith, nat_tests, after_in-append_right xs ys slot)

pub last_or-append : (given : Option ℕ) (xs ys : List ℕ) → last_or given (xs ++ ys) ≡ last_or (last_or given xs) ys
last_or-append given [] ys = refl
last_or-append given (x ∷ xs) ys = last_or-append (Some x) xs ys

pub before_or-append_right : (given : Option ℕ) (xs ys : List ℕ) (slot : ℕ) → has xs slot ≡ false → before_or given (xs ++ ys) slot ≡ before_or (last_or given xs) ys slot
unfolding before_or
before_or-append_right given [] ys slot absent = refl
before_or-append_right given (x ∷ xs) ys slot absent = grind (arith, nat_tests, before_or-append_right (Some x) xs ys slot)

pub before_or-append_left : (given : Option ℕ) (xs ys : List ℕ) (slot : ℕ) → has xs slot ≡ true → before_or given (xs ++ ys) slot ≡ before_or given xs slot
unfolding before_or
before_or-append_left given [] ys slot there = grind arith
before_or-append_left given (x ∷ xs) ys slot there = grind (arith, nat_tests, before_or-append_left (Some x) xs ys slot)

-- ---- a list that has the slot between two parts

module _ (front : List ℕ) (slot : ℕ) (back : List ℕ) (distinct : is_distinct (front ++ slot ∷ back) ≡ true) where
  has-split : has (front ++ slot ∷ back) slot ≡ true
  has-split = has-append front (slot ∷ back) slot ∙ ap (λ b. has front slot || b) (has-head slot back) ∙ or_true (has front slot)

  pub absent-front : has front slot ≡ false
  absent-front = absent_unless (has front slot) (has (slot ∷ back) slot) (is_distinct-append_apart front (slot ∷ back) slot distinct) (has-head slot back)

  pub absent-back : has back slot ≡ false
  absent-back = absent-tail slot back (is_distinct-append_right front (slot ∷ back) distinct)

  pub after_in-split : after_in (front ++ slot ∷ back) slot ≡ first_of back
  after_in-split = after_in-append_right front (slot ∷ back) slot absent-front ∙ after_in-head slot back

  pub before_in-split : before_in (front ++ slot ∷ back) slot ≡ last_of front
  before_in-split = before_or-append_right None front (slot ∷ back) slot absent-front ∙ before_or-head (last_of front) slot back

  pub without-split : without slot (front ++ slot ∷ back) ≡ front ++ back
  without-split =
      filter-append (λ other. not (eqb other slot)) front (slot ∷ back)
      ∙ ap (λ xs. xs ++ without slot (slot ∷ back)) (without-absent slot front absent-front)
      ∙ ap (λ xs. front ++ xs) (without-head slot back ∙ without-absent slot back absent-back)

  pub is_distinct-split : is_distinct (front ++ back) ≡ true
  is_distinct-split = subst (λ xs. is_distinct xs ≡ true) without-split (is_distinct-without slot (front ++ slot ∷ back) distinct)

-- ---- `has` in std's word

pub Contains-from_has : (list : List ℕ) (slot : ℕ) → has list slot ≡ true → Contains list slot
Contains-from_has list slot there =
    let split = split_at list slot there in
    subst (λ xs. Contains xs slot) (sym split.whole) (Contains-append_right split.before (slot ∷ split.after) slot (0, omega arith, refl))

pub has-from_Contains : (list : List ℕ) (slot : ℕ) → Contains list slot → has list slot ≡ true
has-from_Contains list slot there = list_any_at (λ other. eqb other slot) list there.0 slot there.1 (grind (arith, nat_tests, there.2))
