-- What slots know of their records, with one more and with one marked as undone.
use Rattle.std.proofs.Common.{◌≡◌, ℕ, zero, suc, ◌+◌, ◌-◌, ◌<◌, ◌≤◌, ◌⊎◌, Bool, true, false, ◌||◌, eqb, List, [], ◌∷◌, ◌++◌, length, map, set, get_or, Some, refl, sym, ap, ◌∙◌, subst, inl, inr, arith, append_assoc}
use Rattle.std.specs.Prelude.{slice_get}
use Rattle.std.specs.Option.{option_map}
use Rattle.std.specs.List.{list_any}
use Rattle.std.proofs.lemmas.Bool.{ne_eqb, eq-eqb, or_right, cases_lt}
use Rattle.std.proofs.lemmas.List.{map-append, append-nil}
use Rattle.std.proofs.lemmas.Option.{slice_get-map, slice_get_read, slice_get_within, get_or_from_slice_get, same_Some, none-some}
use Rattle.cl_log.specs.declared.records.LogRec.{LogRec}
use Rattle.cl_log.specs.declared.slots.Slot.{Slot}
use Rattle.cl_log.specs.LogEntry.{LogEntry, numbered, IsNumberedFrom, content_at}
use Rattle.cl_log.specs.Kind.{txn_of, undoes}
use Rattle.cl_log.specs.Rest.{is_undone}
use Rattle.cl_log.specs.Slots.{contents, listed, last_of, previous_after, KnowPrevious, KnowUndone, IsSlotOf}
use Rattle.cl_log.proofs.Entries.{number_at}
use Rattle.cl_log.proofs.Numbered.{numbered_push, IsNumberedFrom-numbered, content_at-below, content_at-numbered, length-numbered, list_any-numbered}
use Rattle.cl_log.proofs.Open.{or_false}
use Rattle.cl_log.proofs.Rest.{is_undone_push}

pub map_same : {X Y : Type 0} (f g : X → Y) → ((x : X) → f x ≡ g x) → (xs : List X) → map f xs ≡ map g xs
map_same f g same [] = refl
map_same f g same (x ∷ xs) = rw (same x, map_same f g same xs) refl

slice_get-seam : {X : Type 0} (xs : List X) (y : X) (ys : List X) → slice_get (xs ++ y ∷ ys) (length xs) ≡ Some y
slice_get-seam [] y ys = refl
slice_get-seam (x ∷ xs) y ys = slice_get-seam xs y ys

pub length-map : {X Y : Type 0} (f : X → Y) (xs : List X) → length (map f xs) ≡ length xs
length-map f [] = refl
length-map f (x ∷ xs) = ap suc (length-map f xs)

-- numbers that are tested, and one more that is not among them, or that is marked
abbrev pub tests_of : (ℕ → Bool) → ℕ → List LogRec → List Bool
tests_of test first xs = map (λ (entry : LogEntry). test entry.number) (numbered first xs)

abbrev pub with_one : (ℕ → Bool) → ℕ → ℕ → Bool
with_one test number n = test n || eqb number n

pub tests_elsewhere : (test : ℕ → Bool) (number first : ℕ) (xs : List LogRec) → (number < first) ⊎ (first + length xs ≤ number) → tests_of test first xs ≡ tests_of (with_one test number) first xs
tests_elsewhere test number first [] h = refl
tests_elsewhere test number first (x ∷ xs) h =
    ap (λ b. b ∷ tests_of test (first + 1) xs) (sym (ap (λ b. test first || b) (ne_eqb number first (apart h)) ∙ or_false (test first)))
    ∙ ap (λ bs. with_one test number first ∷ bs) (tests_elsewhere test number (first + 1) xs (further h))
  where
    apart : (number < first) ⊎ (first + length (x ∷ xs) ≤ number) → number ≡ first → ⊥
    apart (inl below) e = omega arith
    apart (inr above) e = omega arith

    further : (number < first) ⊎ (first + length (x ∷ xs) ≤ number) → (number < first + 1) ⊎ (first + 1 + length xs ≤ number)
    further (inl below) = inl (omega arith)
    further (inr above) = inr (omega arith)

pub tests_marked : (test : ℕ → Bool) (number first index : ℕ) (xs : List LogRec) → number ≡ first + index → index < length xs → set (tests_of test first xs) index true ≡ tests_of (with_one test number) first xs
tests_marked test number first index [] e h = absurd (omega arith)
tests_marked test number first zero (x ∷ xs) e h =
    ap (λ b. b ∷ tests_of test (first + 1) xs) (sym (or_right (test first) _ (eq-eqb number first (omega arith))))
    ∙ ap (λ bs. with_one test number first ∷ bs) (tests_elsewhere test number (first + 1) xs (inl (omega arith)))
tests_marked test number first (suc index) (x ∷ xs) e h =
    ap (λ b. b ∷ set (tests_of test (first + 1) xs) index true) (sym (ap (λ b. test first || b) (ne_eqb number first (λ same. omega arith)) ∙ or_false (test first)))
    ∙ ap (λ bs. with_one test number first ∷ bs) (tests_marked test number (first + 1) index xs (omega arith) (omega arith))

tests_at : (test : ℕ → Bool) (first index : ℕ) (xs : List LogRec) → index < length xs → slice_get (tests_of test first xs) index ≡ Some (test (first + index))
tests_at test first index [] h = absurd (omega arith)
tests_at test first zero (x ∷ xs) h = ap (λ n. Some (test n)) (omega arith)
tests_at test first (suc index) (x ∷ xs) h =
    tests_at test (first + 1) index xs (omega arith) ∙ ap (λ n. Some (test n)) (let e : first + 1 + index ≡ first + suc index = omega arith in e)

-- the last records before those of two lists one after another
previous_after-append : (seen xs ys : List LogEntry) → previous_after seen (xs ++ ys) ≡ previous_after seen xs ++ previous_after (seen ++ xs) ys
previous_after-append seen [] ys = ap (λ es. previous_after es ys) (sym (append-nil seen))
previous_after-append seen (x ∷ xs) ys =
    ap (λ os. last_of seen (txn_of x.content) ∷ os)
    (previous_after-append (seen ++ x ∷ []) xs ys
    ∙ ap (λ es. previous_after (seen ++ x ∷ []) xs ++ previous_after es ys) (append_assoc seen (x ∷ []) xs))

length-previous_after : (seen xs : List LogEntry) → length (previous_after seen xs) ≡ length xs
length-previous_after seen [] = refl
length-previous_after seen (x ∷ xs) = ap suc (length-previous_after (seen ++ x ∷ []) xs)

previous_at : (before : List LogEntry) (entry : LogEntry) (after : List LogEntry) → slice_get (previous_after [] (before ++ entry ∷ after)) (length before) ≡ Some (last_of before (txn_of entry.content))
previous_at before entry after =
    ap (λ os. slice_get os (length before)) (previous_after-append [] before (entry ∷ after))
    ∙ ap (slice_get (previous_after [] before ++ last_of before (txn_of entry.content) ∷ previous_after (before ++ entry ∷ []) after)) (sym (length-previous_after [] before))
    ∙ slice_get-seam (previous_after [] before) _ _

contents-numbered : (n : ℕ) (xs : List LogRec) → map (λ (entry : LogEntry). entry.content) (numbered n xs) ≡ xs
contents-numbered n [] = refl
contents-numbered n (x ∷ xs) = ap (λ ys. x ∷ ys) (contents-numbered (n + 1) xs)

-- the slot at an index
module _ (first index : ℕ) (slots : List Slot) (slot : Slot) (within : index < length slots) (at : slot ≡ get_or slots index slot) where
  found : slice_get slots index ≡ Some slot
  found = slice_get_read slots (length slots) index slot refl within at

  index_of : (before : List LogEntry) (entry : LogEntry) (after : List LogEntry) → listed first slots ≡ before ++ entry ∷ after → entry.number ≡ first + index → index ≡ length before
  index_of before entry after parts number =
      let here = number_at first before entry after (subst (IsNumberedFrom first) parts (IsNumberedFrom-numbered first (contents slots))) in
      omega (arith, here, number)

  pub slot_at : KnowPrevious slots (listed first slots) → KnowUndone slots (listed first slots) → IsSlotOf (listed first slots) (first + index) slot
  slot_at previous undone = record {
    content = λ before entry after parts number.
        same_Some slot.content entry.content
        (ap (option_map (λ (s : Slot). s.content)) (sym found)
        ∙ sym (slice_get-map (λ (s : Slot). s.content) slots index)
        ∙ ap (λ cs. slice_get cs index) (sym (contents-numbered first (contents slots)) ∙ ap (map (λ (e : LogEntry). e.content)) parts)
        ∙ slice_get-map (λ (e : LogEntry). e.content) (before ++ entry ∷ after) index
        ∙ ap (λ k. option_map (λ (e : LogEntry). e.content) (slice_get (before ++ entry ∷ after) k)) (index_of before entry after parts number)
        ∙ ap (option_map (λ (e : LogEntry). e.content)) (slice_get-seam before entry after));
    previous = λ before entry after parts number.
        same_Some slot.previous (last_of before (txn_of entry.content))
        (ap (option_map (λ (s : Slot). s.previous)) (sym found)
        ∙ sym (slice_get-map (λ (s : Slot). s.previous) slots index)
        ∙ ap (λ os. slice_get os index) (previous ∙ ap (previous_after []) parts)
        ∙ ap (slice_get (previous_after [] (before ++ entry ∷ after))) (index_of before entry after parts number)
        ∙ previous_at before entry after);
    undone =
        same_Some slot.is_undone (is_undone (listed first slots) (first + index))
        (ap (option_map (λ (s : Slot). s.is_undone)) (sym found)
        ∙ sym (slice_get-map (λ (s : Slot). s.is_undone) slots index)
        ∙ ap (λ bs. slice_get bs index) undone
        ∙ tests_at (is_undone (listed first slots)) first index (contents slots) (subst (λ n. index < n) (sym (length-map (λ (s : Slot). s.content) slots)) within));
  }

-- one more slot
pub listed_push : (first : ℕ) (slots : List Slot) (slot : Slot) → listed first (slots ++ slot ∷ []) ≡ listed first slots ++ record { number = first + length slots; content = slot.content } ∷ []
listed_push first slots slot =
    ap (numbered first) (map-append (λ (s : Slot). s.content) slots (slot ∷ []))
    ∙ numbered_push first (contents slots) slot.content
    ∙ ap (λ n. listed first slots ++ (let e : LogEntry = record { number = first + n; content = slot.content } in e) ∷ []) (length-map (λ (s : Slot). s.content) slots)

pub length-contents : (slots : List Slot) → length (contents slots) ≡ length slots
length-contents slots = length-map (λ (s : Slot). s.content) slots

-- what is known with one more slot
module _ (first : ℕ) (slots : List Slot) (slot : Slot) where
  abbrev pushed : LogEntry
  pushed = record { number = first + length slots; content = slot.content }

  pub know_previous-push : KnowPrevious slots (listed first slots) → slot.previous ≡ last_of (listed first slots) (txn_of slot.content) → KnowPrevious (slots ++ slot ∷ []) (listed first (slots ++ slot ∷ []))
  know_previous-push known last =
      map-append (λ (s : Slot). s.previous) slots (slot ∷ [])
      ∙ ap (λ os. os ++ slot.previous ∷ []) known
      ∙ ap (λ o. previous_after [] (listed first slots) ++ o ∷ []) last
      ∙ sym (previous_after-append [] (listed first slots) (pushed ∷ []))
      ∙ ap (previous_after []) (sym (listed_push first slots slot))

  -- before the record that it names is marked
  pub flags_push : KnowUndone slots (listed first slots) → slot.is_undone ≡ is_undone (listed first slots) (first + length slots) →
      map (λ (s : Slot). s.is_undone) (slots ++ slot ∷ []) ≡ tests_of (is_undone (listed first slots)) first (contents (slots ++ slot ∷ []))
  flags_push known flag =
      map-append (λ (s : Slot). s.is_undone) slots (slot ∷ [])
      ∙ ap (λ bs. bs ++ slot.is_undone ∷ []) known
      ∙ ap (λ b. tests_of (is_undone (listed first slots)) first (contents slots) ++ b ∷ []) flag
      ∙ sym (map-append (λ (e : LogEntry). is_undone (listed first slots) e.number) (listed first slots) (pushed ∷ []))
      ∙ ap (map (λ (e : LogEntry). is_undone (listed first slots) e.number)) (sym (listed_push first slots slot))

  pub undone_push : (number : ℕ) → is_undone (listed first (slots ++ slot ∷ [])) number ≡ (is_undone (listed first slots) number || undoes number slot.content)
  undone_push number = ap (λ es. is_undone es number) (listed_push first slots slot) ∙ is_undone_push number (listed first slots) pushed

  pub undone_push-plain : ((number : ℕ) → undoes number slot.content ≡ false) → (number : ℕ) → is_undone (listed first (slots ++ slot ∷ [])) number ≡ is_undone (listed first slots) number
  undone_push-plain plain number = undone_push number ∙ ap (λ b. is_undone (listed first slots) number || b) (plain number) ∙ or_false _

  pub undone_push-naming : (named : ℕ) → ((number : ℕ) → undoes number slot.content ≡ eqb named number) → (number : ℕ) → is_undone (listed first (slots ++ slot ∷ [])) number ≡ with_one (is_undone (listed first slots)) named number
  undone_push-naming named names number = undone_push number ∙ ap (λ b. is_undone (listed first slots) number || b) (names number)

-- the same tests of the same records
pub tests_same : (f g : ℕ → Bool) (first : ℕ) (xs : List LogRec) → ((number : ℕ) → f number ≡ g number) → tests_of f first xs ≡ tests_of g first xs
tests_same f g first xs same = map_same (λ (e : LogEntry). f e.number) (λ (e : LogEntry). g e.number) (λ e. same e.number) (numbered first xs)

-- no number above the greatest is named, with one more name
pub above_greatest : (test : ℕ → Bool) (named greatest new number : ℕ) → ((n : ℕ) → greatest < n → test n ≡ false) → named ≤ new → greatest ≤ new → new < number → with_one test named number ≡ false
above_greatest test named greatest new number none a b h =
    ap (λ x. x || eqb named number) (none number (omega (arith, b, h))) ∙ ne_eqb named number (λ e. omega (arith, a, h, e))

-- the record of a number, by its slot
pub content_of_slot : (first number : ℕ) (slots : List Slot) → first ≤ number → content_at (listed first slots) number ≡ option_map (λ (s : Slot). s.content) (slice_get slots (number - first))
content_of_slot first number slots h = content_at-numbered first number (contents slots) h ∙ slice_get-map (λ (s : Slot). s.content) slots (number - first)

list_any-map : {X Y : Type 0} (p : Y → Bool) (f : X → Y) (xs : List X) → list_any p (map f xs) ≡ list_any (λ x. p (f x)) xs
list_any-map p f [] = refl
list_any-map p f (x ∷ xs) = ap (λ b. p (f x) || b) (list_any-map p f xs)

-- whether a number is undone, by the slots
pub is_undone-slots : (first number : ℕ) (slots : List Slot) → is_undone (listed first slots) number ≡ list_any (λ (s : Slot). undoes number s.content) slots
unfolding is_undone
is_undone-slots first number slots = list_any-numbered (undoes number) first (contents slots) ∙ list_any-map (undoes number) (λ (s : Slot). s.content) slots

pub length-listed : (first : ℕ) (slots : List Slot) → length (listed first slots) ≡ length slots
length-listed first slots = length-numbered first (contents slots) ∙ length-contents slots

-- a number whose record is there is kept
pub content_at-within : (first number : ℕ) (slots : List Slot) (content : LogRec) → content_at (listed first slots) number ≡ Some content → (first ≤ number) × (number < first + length slots)
content_at-within first number slots content h =
    elim (cases_lt number first) [
      | inl below ↦ absurd (none-some content (sym (content_at-below first number (contents slots) below) ∙ h))
      | inr from ↦
          (let within = slice_get_within (contents slots) (number - first) content (sym (content_at-numbered first number (contents slots) from) ∙ h) in
          let count = length-contents slots in
          (from, omega (arith, within, from, count)))
    ]

-- the record at an index, by its slot
pub record HasContentAt (slots : List Slot) (index : ℕ) (content : LogRec) : Type 0 where
  pub within : index < length (contents slots)
  pub is : content ≡ get_or (contents slots) index content

pub content_here : (slots read : List Slot) (index : ℕ) (slot : Slot) → read ≡ slots → index < length read → slot ≡ get_or read index slot → HasContentAt slots index slot.content
content_here slots read index slot same within at = record {
  within = (let count = length-contents slots in let as_many = ap (λ (xs : List Slot). length xs) same in omega (arith, within, count, as_many));
  is =
      sym (get_or_from_slice_get (contents slots) index slot.content slot.content
      (slice_get-map (λ (s : Slot). s.content) slots index
      ∙ ap (λ xs. option_map (λ (s : Slot). s.content) (slice_get xs index)) (sym same)
      ∙ ap (option_map (λ (s : Slot). s.content)) (slice_get_read read (length read) index slot refl within at)));
}
