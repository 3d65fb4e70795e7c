-- What a record does at its place, and elsewhere.
use Rattle.std.proofs.Common.{◌≡◌, true, false, None, refl}
use Rattle.std.proofs.lemmas.Bool.{cond-false, false_from_ne_true, false≢true}
use Rattle.cl_types.specs.Places.{Place}
use Rattle.cl_types.proofs.Places.{same_place-true, same_place-false}
use Rattle.cl_log.specs.declared.records.LogRec.{LogRec}
use Rattle.cl_log.specs.declared.records.LogRec.TheVariants.{Touch, Set, Add, Comp, Prepared, End, Decide}
use Rattle.cl_log.specs.Kind.{writes}
use Rattle.cl_log.specs.Locks.{mode_at}

-- the place of a record that has one
abbrev pub IsAt : LogRec → Place → Type 0
IsAt (Touch txn table key mode) place = (let own : Place = (table, key) in own) ≡ place
IsAt (Set txn table key before old new) place = (let own : Place = (table, key) in own) ≡ place
IsAt (Add txn table key before amount) place = (let own : Place = (table, key) in own) ≡ place
IsAt (Comp txn table key before undone form) place = (let own : Place = (table, key) in own) ≡ place
IsAt (Prepared txn) place = ⊥
IsAt (End txn commit) place = ⊥
IsAt (Decide txn) place = ⊥

-- a write is at its place
pub writes-at : (place : Place) (content : LogRec) → writes place content ≡ true → IsAt content place
writes-at place (Set txn table key before old new) h = same_place-true (table, key) place h
writes-at place (Add txn table key before amount) h = same_place-true (table, key) place h
writes-at place (Comp txn table key before undone form) h = same_place-true (table, key) place h
writes-at place content h = absurd (false≢true h)

-- a record writes nothing and locks nothing elsewhere
pub writes-elsewhere : (place : Place) (content : LogRec) → ¬ IsAt content place → writes place content ≡ false
writes-elsewhere place content h = false_from_ne_true _ (λ t. h (writes-at place content t))

pub mode_at-elsewhere : (place : Place) (content : LogRec) → ¬ IsAt content place → mode_at place content ≡ None
mode_at-elsewhere place (Touch txn table key mode) h = cond-false _ _ _ (same_place-false (table, key) place h)
mode_at-elsewhere place (Set txn table key before old new) h = cond-false _ _ _ (same_place-false (table, key) place h)
mode_at-elsewhere place (Add txn table key before amount) h = cond-false _ _ _ (same_place-false (table, key) place h)
mode_at-elsewhere place content h = refl
