-- What the kinds of a record say of it.
use Rattle.std.proofs.Common.{◌≡◌, ℕ, true, false, List, Option, refl}
use Rattle.std.proofs.lemmas.Bool.{false≢true}
use Rattle.cl_types.specs.Places.{Place}
use Rattle.cl_log.specs.declared.records.LogRec.{LogRec}
use Rattle.cl_log.specs.declared.records.LogRec.TheVariants.{Touch, Set, Add, Comp, Prepared, End, Decide}
use Rattle.cl_log.specs.Kind.{txn_of, opens, is_end, is_mark, can_be_undone, undoes, writes}
use Rattle.cl_log.specs.Rest.{undo_of}
use Rattle.cl_log.specs.Settled.{value_undone}
use Rattle.cl_log.specs.Store.{value_after}

-- a write has begun its transaction
pub can_be_undone-opens : (content : LogRec) → can_be_undone content ≡ true → opens content ≡ true
can_be_undone-opens (Comp txn table key before undone form) h = h
can_be_undone-opens (End txn commit) h = h
can_be_undone-opens (Decide txn) h = h
can_be_undone-opens content h = refl

-- a record that writes nothing and undoes nothing
pub record IsIdle (content : LogRec) : Type 0 where
  pub writes_not : (place : Place) → writes place content ≡ false
  pub undone_not : can_be_undone content ≡ false
  pub undoes_not : (number : ℕ) → undoes number content ≡ false

-- a mark is idle and ends nothing
pub mark_idle : (content : LogRec) → is_mark content ≡ true → IsIdle content
mark_idle (Set txn table key before old new) h = absurd (false≢true h)
mark_idle (Add txn table key before amount) h = absurd (false≢true h)
mark_idle (Comp txn table key before undone form) h = absurd (false≢true h)
mark_idle content h = record { writes_not = λ place. refl; undone_not = refl; undoes_not = λ number. refl }

pub mark_end : (content : LogRec) → is_mark content ≡ true → is_end content ≡ false
mark_end (End txn commit) h = absurd (false≢true h)
mark_end content h = refl

-- an End is idle
pub end_idle : (content : LogRec) → is_end content ≡ true → IsIdle content
end_idle (Set txn table key before old new) h = absurd (false≢true h)
end_idle (Add txn table key before amount) h = absurd (false≢true h)
end_idle (Comp txn table key before undone form) h = absurd (false≢true h)
end_idle content h = record { writes_not = λ place. refl; undone_not = refl; undoes_not = λ number. refl }

-- what can be undone ends nothing and undoes nothing
pub write_end : (content : LogRec) → can_be_undone content ≡ true → is_end content ≡ false
write_end (End txn commit) h = absurd (false≢true h)
write_end content h = refl

pub write_undoes : (content : LogRec) (number : ℕ) → can_be_undone content ≡ true → undoes number content ≡ false
write_undoes (Comp txn table key before undone form) number h = absurd (false≢true h)
write_undoes content number h = refl

-- undoing keeps the place
pub writes-undo_of : (content : LogRec) (number now : ℕ) (place : Place) → writes place (undo_of content number now) ≡ writes place content
writes-undo_of (Decide txn) number now place = refl
writes-undo_of content number now place = refl

-- a compensation makes of the value what undoing makes of it
pub value_after-undo_of : (content : LogRec) (number now : ℕ) (value : Option (List ℕ)) → can_be_undone content ≡ true → value_after (undo_of content number now) value ≡ value_undone content value
value_after-undo_of (Comp txn table key before undone form) number now value h = absurd (false≢true h)
value_after-undo_of content number now value h = refl

pub opens-undo_of : (content : LogRec) (number now : ℕ) → can_be_undone content ≡ true → opens (undo_of content number now) ≡ false
opens-undo_of (Touch txn table key mode) number now h = absurd (false≢true h)
opens-undo_of (Comp txn table key before undone form) number now h = absurd (false≢true h)
opens-undo_of (Prepared txn) number now h = absurd (false≢true h)
opens-undo_of content number now h = refl

pub is_end-undo_of : (content : LogRec) (number now : ℕ) → can_be_undone content ≡ true → is_end (undo_of content number now) ≡ false
is_end-undo_of (Comp txn table key before undone form) number now h = absurd (false≢true h)
is_end-undo_of (End txn commit) number now h = absurd (false≢true h)
is_end-undo_of content number now h = refl

-- the undoing of a write is of its transaction
pub txn_of-undo_of : (content : LogRec) (number now : ℕ) → txn_of (undo_of content number now) ≡ txn_of content
txn_of-undo_of (Set txn table key before old new) number now = refl
txn_of-undo_of content number now = refl
