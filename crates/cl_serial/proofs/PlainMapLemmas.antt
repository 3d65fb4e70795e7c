-- Laws of places, of maps that are updated at one place, and of the finite map that the code keeps.
use Rattle.std.proofs.Common.{◌≡◌, ◌≢◌, ℕ, ◌+◌, true, false, cond, ◌&&◌, List, [], ◌∷◌, length, Option, Some, None, sym, ap, refl, ◌∙◌, arith}
use Rattle.std.specs.declared.cmp.Ordering.{Ordering}
use Rattle.std.specs.declared.cmp.Ordering.TheVariants.{Less, Equal, Greater}
use Rattle.std.specs.Ordering.{nat_cmp, ordering_then, is_eq}
use Rattle.std.specs.Str.{bytes_eq}
use Rattle.std.specs.Option.{is_some}
use Rattle.std.specs.Cmp.{IsTotalOrder}
use Rattle.std.specs.Cmp.Lexicographic.{slice_cmp}
use Rattle.std.specs.BTreeMap.{is_at}
use Rattle.std.specs.Map.{lookup, keys_of}
use Rattle.std.specs.List.{AllByRecursion}
use Rattle.std.specs.List.Sorted.{IsStrictlySortedBy}
use Rattle.std.specs.FinMap.{FinMap, empty, get, find, len, from_entries, get-empty, get-from_entries, len-empty, len-insert, same_map}
use Rattle.std.proofs.lemmas.Cmp.{on_total, then_total, nat_list_cmp_total}
use Rattle.std.proofs.lemmas.Map.Lookups.{CmpEqualImpliesEq, exact_pairs, exact_bytes}
use Rattle.std.proofs.lemmas.Map.Text.{is_eq-slice_cmp}
use Rattle.std.proofs.lemmas.Map.Keys.{sorted_head, sorted_tail}
use Rattle.cl_types.specs.Places.{Place, same_place}
use Rattle.cl_types.proofs.Places.{same_place-Decides, same_place-itself, same_place-false}
use Rattle.cl_serial.specs.PlainMap.{Values, no_values, updated}
use Rattle.cl_serial.specs.PlainMapModel.{place_of, place_cmp, value_at}

-- ---- the order of places

both_equal : (first second : Ordering) → is_eq (ordering_then first second) ≡ (is_eq first && is_eq second)
both_equal Less second = refl
both_equal Equal second = refl
both_equal Greater second = refl

-- places that compare equal are one place
pub is_eq-place_cmp : (a b : Place) → is_eq (place_cmp a b) ≡ same_place a b
is_eq-place_cmp a b =
    both_equal (slice_cmp nat_cmp a.0 b.0) (slice_cmp nat_cmp a.1 b.1)
    ∙ ap (λ t. t && is_eq (slice_cmp nat_cmp a.1 b.1)) (is_eq-slice_cmp a.0 b.0)
    ∙ ap (λ t. bytes_eq a.0 b.0 && t) (is_eq-slice_cmp a.1 b.1)

pub place_cmp_total : IsTotalOrder place_cmp
place_cmp_total = then_total (on_total (λ p. p.0) nat_list_cmp_total) (on_total (λ p. p.1) nat_list_cmp_total)

pub place_cmp_exact : CmpEqualImpliesEq place_cmp
place_cmp_exact a b tie =
    ap (λ (p : List ℕ × List ℕ). place_of p.0 p.1)
    (exact_pairs (slice_cmp nat_cmp) (slice_cmp nat_cmp) exact_bytes exact_bytes (a.0, a.1) (b.0, b.1) tie)

-- ---- maps that are updated

-- maps that have the same at each place are one
pub same_values : (these those : Values) → ((place : Place) → these place ≡ those place) → these ≡ those
same_values these those same = λ i place. same place i

pub updated-same : (values : Values) (place : Place) (value : Option (List ℕ)) → updated values place value place ≡ value
updated-same values place value = ap (λ t. cond t value (values place)) (same_place-itself place)

pub updated-other : (values : Values) (place : Place) (value : Option (List ℕ)) (other : Place) → place ≢ other → updated values place value other ≡ values other
updated-other values place value other apart = ap (λ t. cond t value (values other)) (same_place-false place other apart)

-- to leave what was there changes nothing
pub updated-kept : (values : Values) (place other : Place) → updated values place (values place) other ≡ values other
updated-kept values place other =
    elim (same_place place other) as (λ t. same_place place other ≡ t → cond t (values place) (values other) ≡ values other) [
      | true ↦ λ same. ap values ((same_place-Decides place other).0 same)
      | false ↦ λ same. refl
    ] refl

-- ---- the finite map

-- the empty map has no value
pub value_at-empty : value_at empty ≡ no_values
value_at-empty = same_values (value_at empty) no_values (λ place. get-empty place_cmp place)

-- finite maps that have the same at each place are one
pub same_plain_map : (these those : FinMap place_cmp (List ℕ)) → ((place : Place) → value_at these place ≡ value_at those place) → these ≡ those
same_plain_map these those same = same_map place_cmp_total place_cmp_exact these those same

-- a look-up from the front, in two spellings
find-lookup : (entries : List (Place × List ℕ)) (place : Place) → find place_cmp place entries ≡ lookup (is_at (place_cmp place)) entries
find-lookup [] place = refl
find-lookup (entry ∷ entries) place = ap (cond (is_at (place_cmp place) entry.0) (Some entry.1)) (find-lookup entries place)

-- what the finite map of some entries has at a place
pub value_at-from_entries : (entries : List (Place × List ℕ)) (place : Place) → value_at (from_entries entries) place ≡ lookup (is_at (place_cmp place)) entries
value_at-from_entries entries place = get-from_entries place_cmp_total entries place ∙ find-lookup entries place

-- a place before all others is none of them
none_before : (place : Place) (entries : List (Place × List ℕ)) → AllByRecursion (λ other. place_cmp place other ≡ Less) (keys_of entries) → lookup (is_at (place_cmp place)) entries ≡ None
none_before place [] before = refl
none_before place (entry ∷ entries) before =
    ap (λ order. cond (is_eq order) (Some entry.1) (lookup (is_at (place_cmp place)) entries)) before.0
    ∙ none_before place entries before.1

-- entries in order are all of the finite map that they make
pub len-from_entries : (entries : List (Place × List ℕ)) → IsStrictlySortedBy place_cmp (keys_of entries) → len (from_entries {R = place_cmp} entries) ≡ length entries
len-from_entries [] ordered = len-empty place_cmp (List ℕ)
len-from_entries (entry ∷ entries) ordered =
    let rest = from_entries {R = place_cmp} entries in
    let absent : is_some (get rest entry.0) ≡ false =
    ap is_some (value_at-from_entries entries entry.0 ∙ none_before entry.0 entries (sorted_head place_cmp entry.0 (keys_of entries) ordered)) in
    let here : len rest ≡ length entries = len-from_entries entries (sorted_tail place_cmp entry.0 (keys_of entries) ordered) in
    len-insert place_cmp_total rest entry.0 entry.1 ∙ ap (λ t. cond t (len rest) (len rest + 1)) absent ∙ omega (arith, here)

-- what is changed at the places that compare equal is changed at the place
pub updated-from_cmp : (old new : Values) (place : Place) (value : Option (List ℕ)) → ((other : Place) → new other ≡ cond (is_at (place_cmp place) other) value (old other)) → (other : Place) → new other ≡ updated old place value other
updated-from_cmp old new place value changed other =
    changed other ∙ ap (λ t. cond t value (old other)) (is_eq-place_cmp place other)

-- what a look-up finds is what the finite map has at the place
pub found-value_at : (entries : List (Place × List ℕ)) (plain : FinMap place_cmp (List ℕ)) → from_entries entries ≡ plain → (spot place : Place) → spot ≡ place → lookup (is_at (place_cmp spot)) entries ≡ value_at plain place
found-value_at entries plain view spot place same =
    sym (value_at-from_entries entries spot) ∙ ap (λ m. value_at m spot) view ∙ ap (value_at plain) same
