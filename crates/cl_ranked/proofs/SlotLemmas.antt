-- Of the items in a row of slots: how many there are, and where a row is cut in two.
use Rattle.std.proofs.Common.{◌≡◌, ℕ, suc, zero, ◌+◌, ◌-◌, ◌<◌, ◌≤◌, List, [], ◌∷◌, ◌++◌, length, replicate, Option, Some, None, refl, ap, ◌∙◌, sym, arith, length-append, append_assoc, set}
use Rattle.std.proofs.lemmas.List.{length-replicate, replicate-append-replicate, length-set, set-append_left}
use Rattle.std.proofs.Math.ListN.{get_or-append}
use Rattle.std.specs.Prelude.{slice_get, unwrap_or}
use Rattle.std.specs.Option.{option_map}
use Rattle.cl_ranked.specs.Slots.{kept, kept_from, slot_at}

module _ {T : Type 0} where
  -- empty slots keep nothing
  pub kept-replicate : (n first : ℕ) → kept_from {T = T} first (replicate n None) ≡ []
  unfolding kept_from
  kept-replicate zero first = refl
  kept-replicate (suc n) first = kept-replicate n (suc first)

  -- what is kept of a row in two parts
  pub kept-append : (xs ys : List (Option T)) (first : ℕ) → kept_from first (xs ++ ys) ≡ kept_from first xs ++ kept_from (first + length xs) ys
  unfolding kept_from
  kept-append [] ys first = ap (λ n. kept_from n ys) (omega arith)
  kept-append (None ∷ xs) ys first =
      let e : suc first + length xs ≡ first + suc (length xs) = omega arith in
      kept-append xs ys (suc first) ∙ ap (λ n. kept_from (suc first) xs ++ kept_from n ys) e
  kept-append (Some x ∷ xs) ys first =
      let e : suc first + length xs ≡ first + suc (length xs) = omega arith in
      ap (λ rest. (first, x) ∷ rest) (kept-append xs ys (suc first) ∙ ap (λ n. kept_from (suc first) xs ++ kept_from n ys) e)

  -- how many are kept does not rest on where the row begins
  pub length-kept : (xs : List (Option T)) (first other : ℕ) → length (kept_from first xs) ≡ length (kept_from other xs)
  unfolding kept_from
  length-kept [] first other = refl
  length-kept (None ∷ xs) first other = length-kept xs (suc first) (suc other)
  length-kept (Some x ∷ xs) first other = ap suc (length-kept xs (suc first) (suc other))

  -- no more are kept than there are slots
  pub kept_le : (xs : List (Option T)) (first : ℕ) → length (kept_from first xs) ≤ length xs
  unfolding kept_from
  kept_le [] first = omega arith
  kept_le (None ∷ xs) first = let h = kept_le xs (suc first) in omega arith
  kept_le (Some x ∷ xs) first = let h = kept_le xs (suc first) in omega arith

  -- how many are kept of two parts
  pub count-append : (xs ys : List (Option T)) → length (kept (xs ++ ys)) ≡ length (kept xs) + length (kept ys)
  count-append xs ys = ap length (kept-append xs ys 0) ∙ length-append (kept xs) (kept_from (0 + length xs) ys) ∙ ap (λ n. length (kept xs) + n) (length-kept ys (0 + length xs) 0)

  -- where none is kept, all slots are empty
  pub none_kept : (xs : List (Option T)) (first : ℕ) → length (kept_from first xs) ≡ 0 → xs ≡ replicate (length xs) None
  unfolding kept_from
  none_kept [] first e = refl
  none_kept (None ∷ xs) first e = ap (λ rest. None ∷ rest) (none_kept xs (suc first) e)
  none_kept (Some x ∷ xs) first e = absurd (omega arith)

  -- what is in front of a row of empty slots, and of the rest behind it, where it has no item
  pub empty_front : (xs ys rest : List (Option T)) (n m : ℕ) → length (kept xs) ≡ 0 → n ≡ length xs → ys ≡ replicate m None ++ rest → xs ++ ys ≡ replicate (n + m) None ++ rest
  empty_front xs ys rest n m none e f =
      let front : xs ≡ replicate n None = none_kept xs 0 none ∙ ap (λ k. replicate k None) (sym e) in
      ap (λ l. l ++ ys) front ∙ ap (λ l. replicate n None ++ l) f ∙ sym (append_assoc (replicate n None) (replicate m None) rest) ∙ ap (λ l. l ++ rest) (replicate-append-replicate n m None)

  -- one less is kept once an item is taken
  pub count-taken : (xs : List (Option T)) (index first : ℕ) (x : T) → slot_at xs index ≡ Some x → length (kept_from first xs) ≡ suc (length (kept_from first (set xs index None)))
  unfolding kept_from
  count-taken [] index first x e = cc
  count-taken (None ∷ xs) zero first x e = cc
  count-taken (Some y ∷ xs) zero first x e = refl
  count-taken (None ∷ xs) (suc index) first x e = count-taken xs index (suc first) x e
  count-taken (Some y ∷ xs) (suc index) first x e = ap suc (count-taken xs index (suc first) x e)

  -- to empty a slot that is empty changes nothing
  pub set-none : (xs : List (Option T)) (index : ℕ) → slot_at xs index ≡ None → set xs index None ≡ xs
  set-none [] index e = refl
  set-none (x ∷ xs) zero e = ap (λ y. y ∷ xs) (sym e)
  set-none (x ∷ xs) (suc index) e = ap (λ rest. x ∷ rest) (set-none xs index e)

  -- an empty row has nothing at any index
  pub slot_at-replicate : (n index : ℕ) → slot_at {T = T} (replicate n None) index ≡ None
  slot_at-replicate zero index = refl
  slot_at-replicate (suc n) zero = refl
  slot_at-replicate (suc n) (suc index) = slot_at-replicate n index

  -- the slot of an index behind the first part
  pub slot_at-right : (xs ys : List (Option T)) (index : ℕ) → length xs ≤ index → slot_at (xs ++ ys) index ≡ slot_at ys (index - length xs)
  slot_at-right [] ys index h = ap (slot_at ys) (omega arith)
  slot_at-right (x ∷ xs) ys zero h = absurd (omega arith)
  slot_at-right (x ∷ xs) ys (suc index) h =
      let e : index - length xs ≡ suc index - suc (length xs) = omega arith in
      slot_at-right xs ys index (omega arith) ∙ ap (slot_at ys) e

  -- to empty a slot behind the first part
  pub set-right : (xs ys : List (Option T)) (index : ℕ) → length xs ≤ index → set (xs ++ ys) index None ≡ xs ++ set ys (index - length xs) None
  set-right [] ys index h = ap (λ n. set ys n None) (omega arith)
  set-right (x ∷ xs) ys zero h = absurd (omega arith)
  set-right (x ∷ xs) ys (suc index) h =
      let e : index - length xs ≡ suc index - suc (length xs) = omega arith in
      ap (λ rest. x ∷ rest) (set-right xs ys index (omega arith) ∙ ap (λ n. xs ++ set ys n None) e)

  -- an item that is kept is in the slot of its index
  pub kept_from-slot : (slots : List (Option T)) (first rank index : ℕ) (item : T) → slice_get (kept_from first slots) rank ≡ Some (index, item) → (first ≤ index) × (slot_at slots (index - first) ≡ Some item)
  unfolding kept_from
  kept_from-slot [] first rank index item e = cc
  kept_from-slot (None ∷ slots) first rank index item e =
      let (after, at) = kept_from-slot slots (suc first) rank index item e in
      let more : index - first ≡ suc (index - suc first) = omega arith in
      (omega arith, ap (slot_at (None ∷ slots)) more ∙ at)
  kept_from-slot (Some x ∷ slots) first zero index item e =
      let same : first ≡ index = ap (λ o. (unwrap_or {T = ℕ × T} o (first, x)).0) e in
      let none : index - first ≡ 0 = omega arith in
      (omega arith, ap (slot_at (Some x ∷ slots)) none ∙ ap (option_map (λ pair. pair.1)) e)
  kept_from-slot (Some x ∷ slots) first (suc rank) index item e =
      let (after, at) = kept_from-slot slots (suc first) rank index item e in
      let more : index - first ≡ suc (index - suc first) = omega arith in
      (omega arith, ap (slot_at (Some x ∷ slots)) more ∙ at)

  -- the same, where the first slot has index 0
  pub kept-slot : (slots : List (Option T)) (rank index : ℕ) (item : T) → slice_get (kept slots) rank ≡ Some (index, item) → slot_at slots index ≡ Some item
  kept-slot slots rank index item e =
      let whole : index - 0 ≡ index = omega arith in
      sym (ap (slot_at slots) whole) ∙ (kept_from-slot slots 0 rank index item e).1

module _ {X : Type 0} where
  -- an element of the first part
  pub slice_get-left : (xs ys : List X) (index : ℕ) → index < length xs → slice_get (xs ++ ys) index ≡ slice_get xs index
  slice_get-left [] ys index h = absurd (omega arith)
  slice_get-left (x ∷ xs) ys zero h = refl
  slice_get-left (x ∷ xs) ys (suc index) h = slice_get-left xs ys index (omega arith)

  -- an element behind the first part
  pub slice_get-right : (xs ys : List X) (index : ℕ) → length xs ≤ index → slice_get (xs ++ ys) index ≡ slice_get ys (index - length xs)
  slice_get-right [] ys index h = ap (slice_get ys) (omega arith)
  slice_get-right (x ∷ xs) ys zero h = absurd (omega arith)
  slice_get-right (x ∷ xs) ys (suc index) h =
      let e : index - length xs ≡ suc index - suc (length xs) = omega arith in
      slice_get-right xs ys index (omega arith) ∙ ap (slice_get ys) e

-- how rows of slots are cut, counted and read
pub ruleset slot_rules = (length-append, length-replicate, replicate-append-replicate, append_assoc, length-set, kept-replicate, kept-append, length-kept, kept_le, none_kept, empty_front, count-taken, set-none, slot_at-replicate, slot_at-right, get_or-append, set-right, set-append_left, slice_get-left, slice_get-right)
