-- The definitions on a worked case: two transactions share a place, and one of them asks for it alone.
use Rattle.std.proofs.Common.{◌≡◌, List, [], ◌∷◌, Some, None, true, false, refl}
use Rattle.cl_types.specs.declared.operations.Mode.TheVariants.{Shared, Exclusive}
use Rattle.cl_types.specs.declared.operations.TxnId.{TxnId}
use Rattle.cl_types.specs.Places.{Place}
use Rattle.cl_locks.specs.declared.answers.Granted.TheVariants.{Stronger}
use Rattle.cl_locks.specs.Grants.{Grant, first_conflict, own_grant, mode_held, at_place, without_txn, without_lock, granted_as, after_grant, are_compatible}

abbrev two : TxnId
two = record { session = 2; number = 1 }

abbrev three : TxnId
three = record { session = 3; number = 1 }

-- keys `a` and `b` of table `t`
abbrev a : Place
a = (116 ∷ [], 97 ∷ [])

abbrev b : Place
b = (116 ∷ [], 98 ∷ [])

abbrev two_shares : Grant
two_shares = record { txn = two; place = a; mode = Shared }

abbrev three_shares : Grant
three_shares = record { txn = three; place = a; mode = Shared }

abbrev three_elsewhere : Grant
three_elsewhere = record { txn = three; place = b; mode = Exclusive }

abbrev two_alone : Grant
two_alone = record { txn = two; place = a; mode = Exclusive }

abbrev grants : List Grant
grants = two_shares ∷ three_elsewhere ∷ three_shares ∷ []

-- each was granted to one that held nothing there
made : after_grant (after_grant (after_grant [] two_shares) three_elsewhere) three_shares ≡ grants
unfolding after_grant own_grant
made = refl

-- the other one is in the way, and the first of both for a third
held_by_three : first_conflict grants two a Exclusive ≡ Some three
unfolding first_conflict
held_by_three = refl

held_by_two : first_conflict grants (record { session = 4; number = 1 }) a Exclusive ≡ Some two
unfolding first_conflict
held_by_two = refl

shared_by_all : first_conflict grants (record { session = 4; number = 1 }) a Shared ≡ None
unfolding first_conflict
shared_by_all = refl

-- without it the request is granted, and the stronger lock stands last
released : without_txn three grants ≡ two_shares ∷ []
unfolding without_txn
released = refl

stronger_last : after_grant (two_shares ∷ three_elsewhere ∷ []) two_alone ≡ three_elsewhere ∷ two_alone ∷ []
unfolding after_grant own_grant without_lock
stronger_last = refl

as_stronger : granted_as (mode_held (two_shares ∷ []) two a) Exclusive ≡ Stronger
unfolding own_grant
as_stronger = refl

-- what is held in that mode is left as it is
unchanged : after_grant grants two_shares ≡ grants
unfolding after_grant own_grant
unchanged = refl

here_alone : at_place a grants ≡ two_shares ∷ three_shares ∷ []
unfolding at_place
here_alone = refl

lawful : are_compatible (two_shares ∷ three_shares ∷ []) ≡ true
unfolding are_compatible
lawful = refl

-- two locks of one transaction, and two that conflict
unlawful_twice : are_compatible (two_shares ∷ two_shares ∷ []) ≡ false
unfolding are_compatible
unlawful_twice = refl

unlawful_conflict : are_compatible (two_alone ∷ three_shares ∷ []) ≡ false
unfolding are_compatible
unlawful_conflict = refl
