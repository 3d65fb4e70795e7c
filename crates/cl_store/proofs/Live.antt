-- How many records have a value, as one record changes.
use Rattle.std.proofs.Common.{◌≡◌, ℕ, ◌+◌, Bool, cond, List, ◌∷◌, ◌++◌, arith}
use Rattle.std.specs.Prelude.{is_some}
use Rattle.std.proofs.lemmas.List.Sums.{sum_by-append, sum_by-cons}
use Rattle.cl_store.specs.declared.item.Item.{Item}
use Rattle.cl_store.specs.Items.{live}

abbrev pub one_if : Bool → ℕ
one_if b = cond b 1 0

-- the live records of a list that is split at a record
pub live-split : (front : List Item) (item : Item) (back : List Item) → live (front ++ item ∷ back) ≡ live (front ++ back) + one_if (is_some item.value)
live-split front item back =
    let one : Item → ℕ = λ i. one_if (is_some i.value) in
    omega (arith, sum_by-append one front (item ∷ back), sum_by-cons one item back, sum_by-append one front back)
