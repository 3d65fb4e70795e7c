-- What a participant has stays in range, and so is what it answers.
use Rattle.std.proofs.Common.{◌≡◌, ℕ, ◌+◌, ◌-◌, ◌^◌, ◌<◌, ◌≤◌, Bool, false, List, [], ◌∷◌, length, All, find, Option, Some, None, option_map, reverse, ℤ, ◌+ℤ◌, refl, sym, subst, arith}
use Rattle.std.proofs.lemmas.Bool.{cond_both}
use Rattle.std.proofs.lemmas.List.{length-reverse, get_or-reverse}
use Rattle.std.proofs.lemmas.List.Elements.{All-nil, All-push, All-head, All-tail, All-filter}
use Rattle.cl_fields.specs.Range.{IsNumber, IsTxn, IsTable, IsKey, IsImage, IsForm, IsAmount, IsOp, IsReply, IsAnswer, IsEntry}
use Rattle.cl_locks.specs.Grants.{Grant, is_in_conflict, first_conflict, after_grant, without_txn, without_lock, granted_as, mode_held, with_grant}
use Rattle.cl_locks.specs.declared.answers.Granted.{Granted}
use Rattle.cl_locks.specs.declared.answers.Granted.TheVariants.{New, Stronger, Already}
use Rattle.cl_log.specs.declared.log.TheConstants.{LOG_NUMBER_MAX}
use Rattle.cl_log.specs.declared.records.Form.{Form}
use Rattle.cl_log.specs.declared.records.Form.TheVariants.{Image, Amount}
use Rattle.cl_log.specs.declared.records.LogRec.{LogRec}
use Rattle.cl_log.specs.declared.records.LogRec.TheVariants as records
use Rattle.cl_log.specs.Kind.{writes}
use Rattle.cl_log.specs.LogEntry.{LogEntry}
use Rattle.cl_log.specs.Rest.{is_left_of, rest_to_undo, undo_of}
use Rattle.cl_log.specs.Store.{form_value, value_after, written}
use Rattle.cl_order.specs.Operations.{is_held, touch_of, removal_of, sum_of, addition_of, record_of, mode_of}
use Rattle.cl_part.specs.Calls.{refusing, answer_by, answer_to, record_left, unless_refused, after_op, after_prepare, after_decide, after_end, place_of, first_undone, after_undo, undo_each, after_rollback, after_abort}
use Rattle.cl_part.specs.State.{State, new_state, grants_with, next_entry, after_record, after_optional}
use Rattle.cl_ranges.specs.Ranges.{IsPartInRange}
use Rattle.cl_types.proofs.DecimalLaws.{is_value-signed_decimal}
use Rattle.cl_types.proofs.Digits.{fits-is_signed_64, is_signed_64-fits}
use Rattle.cl_types.specs.Decimal.{is_signed_64}
use Rattle.cl_types.specs.declared.answers.Reply.{Reply}
use Rattle.cl_types.specs.declared.answers.Reply.TheVariants as replies
use Rattle.cl_types.specs.declared.operations.Mode.{Mode}
use Rattle.cl_types.specs.declared.operations.Op.{Op}
use Rattle.cl_types.specs.declared.operations.Op.TheVariants.{Get, Put, Del, Add}
use Rattle.cl_types.specs.declared.operations.TxnId.{TxnId}
use Rattle.cl_types.specs.Places.{Place, Stored}
use Rattle.cl_types.specs.Plain.{augend, sum_reply, sum_value, add_reply, add_value, plain_reply}

-- ---- numbers and values

sum_valued : (old : Option (List ℕ)) (sum : ℤ) → IsImage old → IsImage (sum_value old sum)
sum_valued old sum is = cond_both (is_signed_64 sum) _ old IsImage (λ within. is_value-signed_decimal sum within) (λ past. is)

add_valued : (old : Option (List ℕ)) (number : Option ℤ) (amount : ℤ) → IsImage old → IsImage (add_value old number amount)
add_valued old None amount is = is
add_valued old (Some number) amount is = sum_valued old (number +ℤ amount) is

sum_replied : (sum : ℤ) → IsReply (sum_reply sum)
sum_replied sum = cond_both (is_signed_64 sum) (replies.Sum sum) replies.OutOfRange IsReply (λ within. fits-is_signed_64 sum within) (λ past. tt)

add_replied : (number : Option ℤ) (amount : ℤ) → IsReply (add_reply number amount)
add_replied None amount = tt
add_replied (Some number) amount = sum_replied (number +ℤ amount)

plain_replied : (op : Op) (old : Option (List ℕ)) → IsImage old → IsReply (plain_reply op old)
plain_replied Get (Some x) is = is
plain_replied Get None is = tt
plain_replied (Put y) old is = tt
plain_replied Del (Some x) is = tt
plain_replied Del None is = tt
plain_replied (Add amount) old is = add_replied (augend old) amount

-- ---- one record more

-- what a compensation in range makes of a value in range
form_valued : (form : Form) (old : Option (List ℕ)) → IsForm form → IsImage old → IsImage (form_value form old)
form_valued (Image image) old writes is = writes
form_valued (Amount amount) old writes is = add_valued old (augend old) _ is

-- so it is of any record in range
record_valued : (content : LogRec) (old : Option (List ℕ)) → IsEntry content → IsImage old → IsImage (value_after content old)
record_valued (records.Set txn table key before was new) old lawful is = lawful.5
record_valued (records.Add txn table key before amount) old lawful is = add_valued old (augend old) amount is
record_valued (records.Comp txn table key before undone form) old lawful is = form_valued form old lawful.5 is
record_valued content old lawful is = is

abbrev AreGrants : List Grant → Type 0
AreGrants grants = All (λ grant. IsTxn grant.txn) grants

granted_range : (how : Granted) (grants : List Grant) (grant : Grant) → AreGrants grants → IsTxn grant.txn → AreGrants (with_grant how grants grant)
unfolding without_lock
granted_range New grants grant are is = All-push (λ (grant : Grant). IsTxn grant.txn) grants grant are is
granted_range Stronger grants grant are is = All-push (λ (grant : Grant). IsTxn grant.txn) _ grant (All-filter _ (λ (grant : Grant). IsTxn grant.txn) grants are) is
granted_range Already grants grant are is = are

grant_range : (grants : List Grant) (grant : Grant) → AreGrants grants → IsTxn grant.txn → AreGrants (after_grant grants grant)
unfolding after_grant
grant_range grants grant are is = granted_range (granted_as (mode_held grants grant.txn grant.place) grant.mode) grants grant are is

-- the locks after a record in range
grants_range : (content : LogRec) (grants : List Grant) → IsEntry content → AreGrants grants → AreGrants (grants_with content grants)
unfolding without_txn
grants_range (records.Touch txn table key mode) grants is are = grant_range grants _ are is.0
grants_range (records.Set txn table key before old new) grants is are = grant_range grants _ are is.0
grants_range (records.Add txn table key before amount) grants is are = grant_range grants _ are is.0
grants_range (records.End txn commit) grants is are = All-filter _ (λ (grant : Grant). IsTxn grant.txn) grants are
grants_range content grants is are = are

-- an entry of a log has a number and a record in range
abbrev IsLogged : LogEntry → Type 0
IsLogged entry = IsNumber entry.number × IsEntry entry.content

-- one record more, for which a number is left
record_range : (part : State) (content : LogRec) → IsPartInRange part → IsEntry content → part.next ≤ LOG_NUMBER_MAX →
    IsPartInRange (after_record part content)
unfolding after_record
record_range part content are is room =
    let first = are.first in
    let numbered : IsNumber part.next = record { low = first; high = omega (arith, room) } in
    record {
      stored = λ place. cond_both (writes place content) (written (next_entry part content) (part.stored place)) (part.stored place)
          (λ (stored : Stored). IsImage stored.1) (λ here. record_valued content (part.stored place).1 is (are.stored place)) (λ elsewhere. are.stored place);
      numbers = λ place. cond_both (writes place content) (written (next_entry part content) (part.stored place)) (part.stored place)
          (λ (stored : Stored). stored.0 < 2 ^ 64) (λ here. numbered.high) (λ elsewhere. are.numbers place);
      log = All-push IsLogged part.log (next_entry part content) are.log (numbered, is);
      first = omega arith;
      next = omega (arith, room);
      grants = grants_range content part.grants is are.grants;
    }

-- a record, if there is one, is in range
abbrev MayBeLogged : Option LogRec → Type 0
MayBeLogged None = Unit {0}
MayBeLogged (Some content) = IsEntry content

-- likewise where there may be none
optional_range : (part : State) (content : Option LogRec) → IsPartInRange part → MayBeLogged content → part.next ≤ LOG_NUMBER_MAX →
    IsPartInRange (after_optional part content)
optional_range part None are is room = are
optional_range part (Some content) are is room = record_range part content are is room

-- it takes one number at most
optional_next : (part : State) (content : Option LogRec) → (after_optional part content).next ≤ part.next + 1
unfolding after_record
optional_next part None = omega arith
optional_next part (Some content) = omega arith

-- ---- an operation

module _ (txn : TxnId) (named : IsTxn txn) (place : Place) (tabled : IsTable place.0) (keyed : IsKey place.1) where
  -- the record of each kind of operation
  touch_range : (held : Option Mode) (mode : Mode) → MayBeLogged (touch_of txn place held mode)
  touch_range held mode =
      cond_both (is_held held mode) None (Some (records.Touch txn place.0 place.1 mode)) MayBeLogged (λ holds. tt) (λ none. (named, tabled, keyed))

  removal_range : (before : ℕ) (old : Option (List ℕ)) (held : Option Mode) → before < 2 ^ 64 → IsImage old → MayBeLogged (removal_of txn place before old held)
  removal_range before None held small is = touch_range held _
  removal_range before (Some x) held small is = (named, tabled, keyed, small, is, tt)

  sum_range : (before : ℕ) (old : Option (List ℕ)) (amount sum : ℤ) → before < 2 ^ 64 → IsAmount amount → IsAmount sum →
      IsEntry (sum_of txn place before old amount sum)
  sum_range before None amount sum small lawful within = (named, tabled, keyed, small, tt, is_value-signed_decimal sum (is_signed_64-fits sum within))
  sum_range before (Some x) amount sum small lawful within = (named, tabled, keyed, small, lawful)

  addition_range : (stored : Stored) (amount : ℤ) (reply : Reply) (held : Option Mode) → stored.0 < 2 ^ 64 → IsAmount amount → IsReply reply →
      MayBeLogged (addition_of txn place stored amount reply held)
  addition_range stored amount (replies.Sum sum) held small lawful is = sum_range stored.0 stored.1 amount sum small lawful is
  addition_range stored amount reply held small lawful is = touch_range held _

  record_of_range : (op : Op) (stored : Stored) (held : Option Mode) → IsOp op → stored.0 < 2 ^ 64 → IsImage stored.1 →
      MayBeLogged (record_of txn place op stored held)
  record_of_range Get stored held lawful small is = touch_range held _
  record_of_range (Put y) stored held lawful small is = (named, tabled, keyed, small, is, lawful)
  record_of_range Del stored held lawful small is = removal_range stored.0 stored.1 held small is
  record_of_range (Add amount) stored held lawful small is =
      addition_range stored amount (plain_reply (Add amount) stored.1) held small lawful (plain_replied (Add amount) stored.1 is)

-- where it is refused there is none
refused_range : (holder : Option TxnId) (content : Option LogRec) → MayBeLogged content → MayBeLogged (unless_refused holder content)
refused_range None content is = is
refused_range (Some holder) content is = tt

-- an operation keeps the participant in range
pub op_range : (part : State) (txn : TxnId) (place : Place) (op : Op) → IsPartInRange part → IsTxn txn → IsTable place.0 → IsKey place.1 → IsOp op →
    part.next ≤ LOG_NUMBER_MAX → IsPartInRange (after_op part txn place op)
unfolding after_op
op_range part txn place op are named tabled keyed lawful room =
    optional_range part (unless_refused (refusing part txn place op) (record_left part txn place op)) are
    (refused_range (refusing part txn place op) (record_left part txn place op)
    (record_of_range txn named place tabled keyed op (part.stored place) _ lawful (are.numbers place) (are.stored place))) room

-- who is found holds a lock
found_range : (p : Grant → Bool) (grants : List Grant) → AreGrants grants → (holder : TxnId) → option_map (λ (grant : Grant). grant.txn) (find p grants) ≡ Some holder → IsTxn holder
found_range p [] are holder is = absurd cc
found_range p (grant ∷ grants) are holder is =
    cond_both (p grant) (Some grant) (find p grants) (λ (found : Option Grant). option_map (λ (one : Grant). one.txn) found ≡ Some holder → IsTxn holder)
    (λ here found. let same : grant.txn ≡ holder = cc in subst IsTxn same (All-head (λ (one : Grant). IsTxn one.txn) grant grants are))
    (λ elsewhere found. found_range p grants (All-tail (λ (one : Grant). IsTxn one.txn) grant grants are) holder found) is

answered_range : (holder : Option TxnId) (reply : Reply) → ((txn : TxnId) → holder ≡ Some txn → IsTxn txn) → IsReply reply → IsAnswer (answer_by holder reply)
answered_range None reply held is = is
answered_range (Some holder) reply held is = held holder refl

pub answer_range : (part : State) (txn : TxnId) (place : Place) (op : Op) → IsPartInRange part → IsAnswer (answer_to part txn place op)
unfolding answer_to first_conflict
answer_range part txn place op are =
    answered_range (refusing part txn place op) (plain_reply op (part.stored place).1)
    (λ holder is. found_range (is_in_conflict txn place (mode_of op)) part.grants are.grants holder is) (plain_replied op (part.stored place).1 (are.stored place))

-- ---- prepare, decide, end

-- so does a vote
pub prepare_range : (part : State) (txn : TxnId) → IsPartInRange part → IsTxn txn → part.next ≤ LOG_NUMBER_MAX → IsPartInRange (after_prepare part txn)
unfolding after_prepare
prepare_range part txn are named room = record_range part (records.Prepared txn) are named room

-- a decision
pub decide_range : (part : State) (txn : TxnId) → IsPartInRange part → IsTxn txn → part.next ≤ LOG_NUMBER_MAX → IsPartInRange (after_decide part txn)
unfolding after_decide
decide_range part txn are named room = record_range part (records.Decide txn) are named room

-- and an end
pub end_range : (part : State) (txn : TxnId) (commit : Bool) → IsPartInRange part → IsTxn txn → part.next ≤ LOG_NUMBER_MAX →
    IsPartInRange (after_end part txn commit)
unfolding after_end
end_range part txn commit are named room = record_range part (records.End txn commit) are named room

-- the undoing of a record in range is in range
undo_range : (content : LogRec) (number now : ℕ) → IsEntry content → IsNumber number → now < 2 ^ 64 → IsEntry (undo_of content number now)
undo_range (records.Touch txn table key mode) number now is numbered small = is
undo_range (records.Set txn table key before old new) number now is numbered small = (is.0, is.1, is.2, small, numbered, is.4)
undo_range (records.Add txn table key before amount) number now is numbered small = (is.0, is.1, is.2, small, numbered, is.4)
undo_range (records.Comp txn table key before undone form) number now is numbered small = is
undo_range (records.Prepared txn) number now is numbered small = is
undo_range (records.End txn commit) number now is numbered small = is
undo_range (records.Decide txn) number now is numbered small = is

-- the compensation of the first of these entries, where there is one
first_range : (part : State) (rest : List LogEntry) → IsPartInRange part → All IsLogged rest → MayBeLogged (first_undone part rest)
first_range part [] are each = tt
first_range part (first ∷ others) are each =
    let logged : IsLogged first = All-head IsLogged first others each in
    undo_range first.content first.number _ logged.1 logged.0 (are.numbers (place_of first.content))

-- what holds of each element holds in reverse
All-reverse : {X : Type 0} (P : X → Type 0) (xs : List X) → All P xs → All P (reverse xs)
All-reverse P xs all k d within =
    let here : k < length xs = omega (arith, length-reverse xs, within) in
    subst P (sym (get_or-reverse xs k d here)) (all (length xs - 1 - k) d (omega arith))

-- an undo step keeps the participant in range
undone_range : (part : State) (txn : TxnId) → IsPartInRange part → part.next ≤ LOG_NUMBER_MAX → IsPartInRange (after_undo part txn)
unfolding after_undo rest_to_undo
undone_range part txn are room =
    optional_range part (first_undone part (rest_to_undo part.log txn)) are
    (first_range part (rest_to_undo part.log txn) are (All-reverse IsLogged _ (All-filter (is_left_of part.log txn) IsLogged part.log are.log))) room

-- and takes one number at most
undone_next : (part : State) (txn : TxnId) → (after_undo part txn).next ≤ part.next + 1
unfolding after_undo
undone_next part txn = optional_next part (first_undone part (rest_to_undo part.log txn))

-- undo steps, for which numbers are left, take one number each at most
each_range : (part : State) (txn : TxnId) (rest : List LogEntry) → IsPartInRange part → part.next + length rest ≤ LOG_NUMBER_MAX →
    IsPartInRange (undo_each part txn rest) × ((undo_each part txn rest).next ≤ part.next + length rest)
each_range part txn [] are room = (are, omega arith)
each_range part txn (entry ∷ rest) are room =
    let step = undone_next part txn in
    let done = each_range (after_undo part txn) txn rest (undone_range part txn are (omega (arith, room))) (omega (arith, room, step)) in
    let more = done.1 in
    (done.0, omega (arith, more, step))

-- a rollback and its end, for which numbers are left
pub abort_range : (part : State) (txn : TxnId) → IsPartInRange part → IsTxn txn → part.next + length (rest_to_undo part.log txn) ≤ LOG_NUMBER_MAX →
    IsPartInRange (after_abort part txn)
unfolding after_abort after_rollback
abort_range part txn are named room =
    let done = each_range part txn (rest_to_undo part.log txn) are room in
    let most = done.1 in
    end_range (undo_each part txn (rest_to_undo part.log txn)) txn false done.0 named (omega (arith, room, most))

-- nothing was stored, logged or locked
pub new_range : (first : ℕ) → 1 ≤ first → first ≤ LOG_NUMBER_MAX + 1 → IsPartInRange (new_state first)
new_range first low high = record {
  stored = λ place. tt;
  numbers = λ place. omega arith;
  log = All-nil IsLogged;
  first = low;
  next = high;
  grants = All-nil (λ (grant : Grant). IsTxn grant.txn);
}
