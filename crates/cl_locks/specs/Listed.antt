-- How the table keeps its grants on lists. Contracts see this only through `Table.antt`.
use Rattle.std.specs.Prelude.{◌≡◌, ℕ, ◌<◌, ◌≤◌, ◌%◌, List, Some}
use Rattle.cl_lists.specs.declared.arena.Arena.{Arena}
use Rattle.cl_lists.specs.declared.slots.Side.{Side}
use Rattle.cl_lists.specs.declared.slots.Side.TheVariants.{X, Y}
use Rattle.cl_lists.specs.Arena.{list_of, list_count, item_at, items_on, free_slots}
use Rattle.cl_lists.specs.SlotList.{IsOn}
use Rattle.cl_types.specs.declared.operations.TxnId.{TxnId}
use Rattle.cl_types.specs.Placement.{hash_of}
use Rattle.cl_types.specs.Places.{Place}
use Rattle.cl_locks.specs.declared.lock.TheConstants.{PLACE_LISTS, TXN_LISTS}
use Rattle.cl_locks.specs.Grants.{Grant, at_place}

-- the list of the places with a key
unfoldable pub place_list : List ℕ → ℕ
place_list key = hash_of key % PLACE_LISTS

-- the list of a session's transactions
unfoldable pub txn_list : TxnId → ℕ
txn_list txn = txn.session % TXN_LISTS

-- each lock is on the list of its place and on that of its transaction
pub record IsListed (granted : Arena Grant) : Type 0 where
  pub by_place : (slot : ℕ) (grant : Grant) → item_at granted slot ≡ Some grant → IsOn (list_of granted X (place_list grant.place.1)) slot
  pub by_txn : (slot : ℕ) (grant : Grant) → item_at granted slot ≡ Some grant → IsOn (list_of granted Y (txn_list grant.txn)) slot

-- the grants at a place, in order
unfoldable pub grants_on : Arena Grant → Place → List Grant
grants_on granted place = at_place place (items_on granted X (place_list place.1))

-- each list has the slots that it had, and each slot the grant that it had
pub record IsKept (old new : Arena Grant) : Type 0 where
  pub lists : (side : Side) (list : ℕ) → list_of new side list ≡ list_of old side list
  pub items : (slot : ℕ) → item_at new slot ≡ item_at old slot

-- there are the lists for a grant, and a slot
pub record HasRoomFor (granted : Arena Grant) (grant : Grant) : Type 0 where
  pub place : place_list grant.place.1 < list_count granted X
  pub txn : txn_list grant.txn < list_count granted Y
  pub slot : 1 ≤ free_slots granted
