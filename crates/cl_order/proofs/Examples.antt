-- Three transactions on one log and on two: one is committed, one is undone, and the records of one are lost. The settled map and the replay agree.
use Rattle.std.proofs.Common.{◌≡◌, ℕ, true, false, cond, List, [], ◌∷◌, ◌++◌, length, take, Option, Some, None, codes, refl}
use Rattle.cl_types.specs.declared.operations.Op.TheVariants.{Get, Put}
use Rattle.cl_types.specs.declared.operations.TxnId.{TxnId}
use Rattle.cl_types.specs.declared.answers.Reply.TheVariants.{Stored, Found}
use Rattle.cl_types.specs.declared.answers.Outcome.TheVariants.{Done}
use Rattle.cl_types.specs.Places.{Place, same_place}
use Rattle.cl_log.specs.declared.records.Form.TheVariants.{Image}
use Rattle.cl_log.specs.declared.records.LogRec.TheVariants.{Comp}
use Rattle.cl_log.specs.Locks.{strongest_mode, locks_of_log}
use Rattle.cl_log.specs.Open.{has_begun, has_ended}
use Rattle.cl_log.specs.Rest.{is_undone}
use Rattle.cl_log.specs.Settled.{settled, unsettled}
use Rattle.cl_log.specs.Store.{store_of_log}
use Rattle.cl_order.specs.Ledger.{Ledger, log_at, stored_at, values_of}
use Rattle.cl_order.specs.Steps.{Step, carry_out, prepare, decide, join, undo, finish, cut, after_step, after_steps, new_ledger}

-- transactions of three sessions
abbrev pub first_txn : TxnId
first_txn = record { session = 1; number = 1 }

abbrev pub second_txn : TxnId
second_txn = record { session = 2; number = 1 }

abbrev pub third_txn : TxnId
third_txn = record { session = 3; number = 1 }

-- two places
abbrev pub a : Place
a = (codes "t", codes "a")

abbrev pub b : Place
b = (codes "t", codes "b")

-- one log for all, and one for each of the two
abbrev pub one_log : Place → ℕ
one_log place = 0

abbrev pub two_logs : Place → ℕ
two_logs place = cond (same_place place b) 1 0

-- the first puts x at a and commits
abbrev pub commits : (Place → ℕ) → List Step
commits on =
    carry_out first_txn a (Put (codes "x"))
    ∷ prepare (on a) first_txn
    ∷ decide 0 first_txn
    ∷ join first_txn
    ∷ finish (on a) first_txn true ∷ []

-- the second puts y at b, under this number, and reads a; then its write is undone
abbrev pub reads_and_undoes : (Place → ℕ) → ℕ → List Step
reads_and_undoes on number =
    carry_out second_txn b (Put (codes "y"))
    ∷ carry_out second_txn a Get
    ∷ undo (on b) (Comp second_txn (codes "t") (codes "b") number number (Image None)) ∷ []

-- it ends on each log, and the third puts z at a
abbrev pub ends_on_one : List Step
ends_on_one = finish 0 second_txn false ∷ carry_out third_txn a (Put (codes "z")) ∷ []

abbrev pub ends_on_two : List Step
ends_on_two = finish 0 second_txn false ∷ finish 1 second_txn false ∷ carry_out third_txn a (Put (codes "z")) ∷ []

abbrev pub steps_on_one : List Step
steps_on_one = commits one_log ++ (reads_and_undoes one_log 5 ++ ends_on_one)

abbrev pub steps_on_two : List Step
steps_on_two = commits two_logs ++ (reads_and_undoes two_logs 1 ++ ends_on_two)

abbrev pub on_one : Ledger
on_one = after_steps (new_ledger one_log) steps_on_one

abbrev pub on_two : Ledger
on_two = after_steps (new_ledger two_logs) steps_on_two

-- the record of the third is lost: of the log of a these are left, without it and the last End
abbrev pub cut_on_one : Ledger
cut_on_one = after_step on_one (cut 0 (take 7 (on_one.logs 0)))

abbrev pub cut_on_two : Ledger
cut_on_two = after_step on_two (cut 0 (take 4 (on_two.logs 0)))

-- the place settles so, the map of the history has it so, and so many records stand in its log
abbrev pub Has : Ledger → Place → Option (List ℕ) → ℕ → Type 0
Has ledger place value records =
    (settled (log_at ledger place) ledger.history place ≡ value) × (values_of ledger place ≡ value) × (length (log_at ledger place) ≡ records)

-- the read found what was committed
pub second_reads : on_one.done second_txn ≡
    record { place = b; op = Put (codes "y"); outcome = Some (Done Stored) } ∷ record { place = a; op = Get; outcome = Some (Done (Found (codes "x"))) } ∷ []
unfolding store_of_log has_begun has_ended locks_of_log strongest_mode
second_reads = refl

pub one_log_settles : Has on_one a (Some (codes "x")) 9 × Has on_one b None 9 × Has cut_on_one a (Some (codes "x")) 7 × Has cut_on_one b None 7
unfolding settled unsettled store_of_log is_undone has_begun has_ended locks_of_log strongest_mode
one_log_settles = ((refl, refl, refl), (refl, refl, refl), (refl, refl, refl), (refl, refl, refl))

pub two_logs_settle : Has on_two a (Some (codes "x")) 7 × Has on_two b None 3 × Has cut_on_two a (Some (codes "x")) 4 × Has cut_on_two b None 3
unfolding settled unsettled store_of_log is_undone has_begun has_ended locks_of_log strongest_mode
two_logs_settle = ((refl, refl, refl), (refl, refl, refl), (refl, refl, refl), (refl, refl, refl))

-- while the store has what the third wrote
pub third_wrote : (stored_at on_one a).1 ≡ Some (codes "z")
unfolding store_of_log has_begun has_ended locks_of_log strongest_mode
third_wrote = refl

-- ---- what is lost without what a step needs: the place settles to one value, and the map has another

abbrev pub Differs : Ledger → Place → Option (List ℕ) → Option (List ℕ) → Type 0
Differs ledger place value other = (settled (log_at ledger place) ledger.history place ≡ value) × (values_of ledger place ≡ other)

-- a transaction joins, of which a write was undone
pub joins_undone : Differs (after_steps (new_ledger one_log) (reads_and_undoes one_log 1 ++ join second_txn ∷ [])) b None (Some (codes "y"))
unfolding settled unsettled store_of_log is_undone has_begun has_ended locks_of_log strongest_mode
joins_undone = (refl, refl)

-- a member's write is lost
pub loses_write : Differs (after_steps (new_ledger one_log) (commits one_log ++ cut 0 [] ∷ [])) a None (Some (codes "x"))
unfolding settled unsettled store_of_log is_undone has_begun has_ended locks_of_log strongest_mode
loses_write = (refl, refl)

-- a transaction writes where another has an exclusive lock, and the other's write is undone
pub writes_where_locked : Differs (after_steps (new_ledger one_log)
    (carry_out first_txn a (Put (codes "x")) ∷ carry_out second_txn a (Put (codes "y"))
    ∷ undo 0 (Comp first_txn (codes "t") (codes "a") 2 1 (Image None)) ∷ join second_txn ∷ [])) a None (Some (codes "y"))
unfolding settled unsettled store_of_log is_undone has_begun has_ended locks_of_log strongest_mode
writes_where_locked = (refl, refl)
