-- The list of the free slots. No public clause cites this module.
use Rattle.std.specs.Prelude.{ℕ, zero, suc, Bool, false, List, Option, Some, None, slice_index_or, is_none}
use Rattle.std.specs.Option.{option_map_or}

-- From a slot on, so many free slots each name the next, and the last names none. At each slot stands the next
-- free one, or nothing where the slot is not free.
unfoldable pub is_free_list : List (Option (Option ℕ)) → ℕ → Option ℕ → Bool
is_free_list frees zero first = is_none first
is_free_list frees (suc count) None = false
is_free_list frees (suc count) (Some slot) = option_map_or (is_free_list frees count) (slice_index_or frees slot None) false
