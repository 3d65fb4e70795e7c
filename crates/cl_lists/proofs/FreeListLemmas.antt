-- What a slot that comes or goes leaves of the list of the free slots.
use Rattle.std.proofs.Common.{◌≡◌, ◌≢◌, ℕ, zero, suc, ◌<◌, true, false, List, [], ◌∷◌, ◌++◌, Option, Some, None, length, get_or, set, refl, sym, ap, subst, ◌∙◌, arith, get_or-set_other}
use Rattle.std.proofs.lemmas.List.{get_or_append_left}
use Rattle.std.specs.Option.{option_map_or}
use Rattle.cl_lists.specs.FreeList.{is_free_list}

-- the free slot at the head of a list of some
pub record Head (frees : List (Option (Option ℕ))) (count slot : ℕ) : Type 0 where
  pub next : Option ℕ
  pub read : get_or frees slot None ≡ Some next
  pub rest : is_free_list frees count next ≡ true

head_of_read : (frees : List (Option (Option ℕ))) (count slot : ℕ) (entry : Option (Option ℕ)) → get_or frees slot None ≡ entry → option_map_or (is_free_list frees count) entry false ≡ true → Head frees count slot
head_of_read frees count slot None read linked = absurd (grind (arith, linked))
head_of_read frees count slot (Some next) read linked = record { next = next; read = read; rest = linked }

pub head_of : (frees : List (Option (Option ℕ))) (count slot : ℕ) → is_free_list frees (suc count) (Some slot) ≡ true → Head frees count slot
unfolding is_free_list
head_of frees count slot linked = head_of_read frees count slot (get_or frees slot None) refl linked

pub is_free_list-cons : (frees : List (Option (Option ℕ))) (count slot : ℕ) → Head frees count slot → is_free_list frees (suc count) (Some slot) ≡ true
unfolding is_free_list
is_free_list-cons frees count slot head = ap (λ entry. option_map_or (is_free_list frees count) entry false) head.read ∙ head.rest

pub is_free_list-none : (frees : List (Option (Option ℕ))) (count : ℕ) → is_free_list frees count None ≡ true → count ≡ zero
unfolding is_free_list
is_free_list-none frees zero linked = refl
is_free_list-none frees (suc count) linked = grind (arith, linked)

pub is_free_list-some : (frees : List (Option (Option ℕ))) (count slot : ℕ) → is_free_list frees count (Some slot) ≡ true → (less : ℕ) × (count ≡ suc less)
unfolding is_free_list
is_free_list-some frees zero slot linked = absurd (grind (arith, linked))
is_free_list-some frees (suc count) slot linked = (count, refl)

-- from one slot on there is one number of free slots
pub is_free_list-unique : (frees : List (Option (Option ℕ))) (a b : ℕ) (first : Option ℕ) → is_free_list frees a first ≡ true → is_free_list frees b first ≡ true → a ≡ b
is_free_list-unique frees a b None by_a by_b = is_free_list-none frees a by_a ∙ sym (is_free_list-none frees b by_b)
is_free_list-unique frees zero b (Some slot) by_a by_b = absurd (grind (arith, is_free_list-some frees zero slot by_a))
is_free_list-unique frees (suc a) zero (Some slot) by_a by_b = absurd (grind (arith, is_free_list-some frees zero slot by_b))
is_free_list-unique frees (suc a) (suc b) (Some slot) by_a by_b =
    let first = head_of frees a slot by_a in
    let second = head_of frees b slot by_b in
    let same : second.next ≡ first.next = grind (arith, first.read, second.read) in
    ap suc (is_free_list-unique frees a b first.next first.rest (subst (λ p. is_free_list frees b p ≡ true) same second.rest))

-- a write to a slot that is not met keeps the list
kept_head : (frees : List (Option (Option ℕ))) (slot : ℕ) (entry : Option (Option ℕ)) (count other : ℕ) → other ≢ slot → (head : Head frees count other) → is_free_list (set frees slot entry) count head.next ≡ true → is_free_list (set frees slot entry) (suc count) (Some other) ≡ true
kept_head frees slot entry count other apart head rest =
    is_free_list-cons (set frees slot entry) count other (record { next = head.next; read = get_or-set_other frees slot other entry None apart ∙ head.read; rest = rest })

-- a slot that is not free may have anything written to it
pub is_free_list-set_taken : (frees : List (Option (Option ℕ))) (slot : ℕ) (entry : Option (Option ℕ)) (count : ℕ) (first : Option ℕ) → get_or frees slot None ≡ None → is_free_list frees count first ≡ true → is_free_list (set frees slot entry) count first ≡ true
unfolding is_free_list
is_free_list-set_taken frees slot entry zero first taken linked = linked
is_free_list-set_taken frees slot entry (suc count) None taken linked = linked
is_free_list-set_taken frees slot entry (suc count) (Some other) taken linked =
    let head = head_of frees count other linked in
    kept_head frees slot entry count other (λ e. grind (arith, taken, head.read, e)) head
    (is_free_list-set_taken frees slot entry count head.next taken head.rest)

-- the first free slot is not met again
pub is_free_list-set_first : (frees : List (Option (Option ℕ))) (slot : ℕ) (entry : Option (Option ℕ)) (all : ℕ) → is_free_list frees all (Some slot) ≡ true → (count : ℕ) (first : Option ℕ) → count < all → is_free_list frees count first ≡ true → is_free_list (set frees slot entry) count first ≡ true
unfolding is_free_list
is_free_list-set_first frees slot entry all whole zero first fewer linked = linked
is_free_list-set_first frees slot entry all whole (suc count) None fewer linked = linked
is_free_list-set_first frees slot entry all whole (suc count) (Some other) fewer linked =
    let head = head_of frees count other linked in
    kept_head frees slot entry count other
    (λ e. omega (arith, fewer, is_free_list-unique frees all (suc count) (Some slot) whole (subst (λ s. is_free_list frees (suc count) (Some s) ≡ true) e linked))) head
    (is_free_list-set_first frees slot entry all whole count head.next (omega (arith, fewer)) head.rest)

pub inside_of : (frees : List (Option (Option ℕ))) (slot : ℕ) (next : Option ℕ) → get_or frees slot None ≡ Some next → slot < length frees
inside_of [] slot next read = absurd (grind (arith, read))
inside_of (entry ∷ frees) zero next read = omega arith
inside_of (entry ∷ frees) (suc slot) next read = omega (arith, inside_of frees slot next read)

-- a slot more at the end of all slots keeps the list
pub is_free_list-append : (frees : List (Option (Option ℕ))) (entry : Option (Option ℕ)) (count : ℕ) (first : Option ℕ) → is_free_list frees count first ≡ true → is_free_list (frees ++ entry ∷ []) count first ≡ true
unfolding is_free_list
is_free_list-append frees entry zero first linked = linked
is_free_list-append frees entry (suc count) None linked = linked
is_free_list-append frees entry (suc count) (Some slot) linked =
    let head = head_of frees count slot linked in
    is_free_list-cons (frees ++ entry ∷ []) count slot (record {
      next = head.next;
      read = get_or_append_left frees (entry ∷ []) None slot (inside_of frees slot head.next head.read) ∙ head.read;
      rest = is_free_list-append frees entry count head.next head.rest;
    })
