-- What the record of an operation is, writes and locks.
use Rattle.std.proofs.Common.{◌≡◌, ℕ, Bool, true, false, cond, List, Option, Some, None, ℤ, pos, ◌+ℤ◌, refl, sym, ap, ◌∙◌, subst, inl, inr}
use Rattle.std.specs.Fmt.{signed_decimal}
use Rattle.std.proofs.lemmas.Bool.{cond-true, cond-false, cases_Bool, false≢true}
use Rattle.cl_types.specs.declared.operations.Mode.{Mode}
use Rattle.cl_types.specs.declared.operations.Mode.TheVariants.{Shared, Exclusive}
use Rattle.cl_types.specs.declared.operations.Op.{Op}
use Rattle.cl_types.specs.declared.operations.Op.TheVariants.{Get, Put, Del, Add as PlainAdd}
use Rattle.cl_types.specs.declared.operations.TxnId.{TxnId}
use Rattle.cl_types.specs.declared.answers.Reply.{Reply}
use Rattle.cl_types.specs.declared.answers.Reply.TheVariants.{Sum, OutOfRange}
use Rattle.cl_types.specs.Decimal.{number, is_signed_64}
use Rattle.cl_types.specs.Places.{Place}
use Rattle.cl_types.specs.Plain.{plain_reply, plain_value, add_reply, add_value}
use Rattle.cl_types.proofs.Places.{same_place-itself}
use Rattle.cl_log.specs.declared.records.LogRec.{LogRec}
use Rattle.cl_log.specs.declared.records.LogRec.TheVariants.{Touch, Set, Add}
use Rattle.cl_log.specs.Kind.{txn_of, is_end, undoes, can_be_undone, writes, number_before}
use Rattle.cl_log.specs.Lawful.{is_decide}
use Rattle.cl_log.specs.Locks.{mode_at}
use Rattle.cl_log.specs.Settled.{value_undone}
use Rattle.cl_log.specs.Store.{value_after}
use Rattle.cl_log.proofs.Places.{IsAt}
use Rattle.cl_log.proofs.Reversible.{add_then_less}
use Rattle.cl_order.specs.Operations.{mode_of, is_held, touch_of, removal_of, addition_of, record_of}

-- the record fits the operation
pub record Fits (txn : TxnId) (place : Place) (op : Op) (before : ℕ) (value : Option (List ℕ)) (content : LogRec) : Type 0 where
  pub own : txn_of content ≡ txn
  pub there : IsAt content place
  pub locks : mode_at place content ≡ Some (mode_of op)
  pub no_end : is_end content ≡ false
  pub no_decide : is_decide content ≡ false
  pub no_undo : (number : ℕ) → undoes number content ≡ false
  pub carries : writes place content ≡ true → before ≡ number_before content
  pub leaves : cond (writes place content) (value_after content value) value ≡ plain_value op value
  pub reversible : can_be_undone content ≡ true → value_undone content (value_after content value) ≡ value

-- an operation without a record has its lock, and leaves the value
pub record FitsNothing (held : Option Mode) (op : Op) (value : Option (List ℕ)) : Type 0 where
  pub holds : is_held held (mode_of op) ≡ true
  pub same : plain_value op value ≡ value

abbrev pub Fitting : TxnId → Place → Op → ℕ → Option (List ℕ) → Option Mode → Option LogRec → Type 0
Fitting txn place op before value held None = FitsNothing held op value
Fitting txn place op before value held (Some content) = Fits txn place op before value content

module _ (txn : TxnId) (place : Place) (op : Op) (before : ℕ) (value : Option (List ℕ)) (held : Option Mode) where
  touch_fits : (mode : Mode) → mode_of op ≡ mode → plain_value op value ≡ value → Fitting txn place op before value held (touch_of txn place held mode)
  touch_fits mode asks same =
      elim (cases_Bool (is_held held mode)) [
        | inl t ↦ subst (Fitting txn place op before value held) (sym (cond-true _ None (Some (Touch txn place.0 place.1 mode)) t))
            record { holds = ap (is_held held) asks ∙ t; same = same }
        | inr f ↦ subst (Fitting txn place op before value held) (sym (cond-false _ None (Some (Touch txn place.0 place.1 mode)) f))
            record {
              own = refl;
              there = refl;
              locks = cond-true _ (Some mode) None (same_place-itself place) ∙ ap Some (sym asks);
              no_end = refl;
              no_decide = refl;
              no_undo = λ number. refl;
              carries = λ h. absurd (false≢true h);
              leaves = sym same;
              reversible = λ h. absurd (false≢true h);
            }
      ]

  set_fits : (new : Option (List ℕ)) → mode_of op ≡ Exclusive → plain_value op value ≡ new → Fits txn place op before value (Set txn place.0 place.1 before value new)
  set_fits new asks becomes = record {
    own = refl;
    there = refl;
    locks = cond-true _ (Some Exclusive) None (same_place-itself place) ∙ ap Some (sym asks);
    no_end = refl;
    no_decide = refl;
    no_undo = λ number. refl;
    carries = λ h. refl;
    leaves = cond-true _ new value (same_place-itself place) ∙ sym becomes;
    reversible = λ h. refl;
  }

add_fits : (txn : TxnId) (place : Place) (amount : ℤ) (before : ℕ) (x : List ℕ) (n : ℤ) → number x ≡ Some n → is_signed_64 (n +ℤ amount) ≡ true →
    Fits txn place (PlainAdd amount) before (Some x) (Add txn place.0 place.1 before amount)
add_fits txn place amount before x n reads within = record {
  own = refl;
  there = refl;
  locks = cond-true _ (Some Exclusive) None (same_place-itself place);
  no_end = refl;
  no_decide = refl;
  no_undo = λ number. refl;
  carries = λ h. refl;
  leaves = cond-true _ (plain_value (PlainAdd amount) (Some x)) (Some x) (same_place-itself place);
  reversible = λ h. add_then_less x n amount reads within;
}

removal_fits : (txn : TxnId) (place : Place) (before : ℕ) (value : Option (List ℕ)) (held : Option Mode) → Fitting txn place Del before value held (removal_of txn place before value held)
removal_fits txn place before None held = touch_fits txn place Del before None held Exclusive refl refl
removal_fits txn place before (Some x) held = set_fits txn place Del before (Some x) held None refl refl

-- an addition, by what stands there and whether the sum is within 64 bits
addition_fits : (txn : TxnId) (place : Place) (amount : ℤ) (before : ℕ) (value : Option (List ℕ)) (held : Option Mode) →
    Fitting txn place (PlainAdd amount) before value held (addition_of txn place (before, value) amount (plain_reply (PlainAdd amount) value) held)
addition_fits txn place amount before None held = by_range (is_signed_64 (pos 0 +ℤ amount)) refl
  where
    sum : ℤ
    sum = pos 0 +ℤ amount

    by_range : (b : Bool) → is_signed_64 sum ≡ b → Fitting txn place (PlainAdd amount) before None held (addition_of txn place (before, None) amount (cond (is_signed_64 sum) (Sum sum) OutOfRange) held)
    by_range true t =
        subst (λ r. Fitting txn place (PlainAdd amount) before None held (addition_of txn place (before, None) amount r held)) (sym (cond-true _ (Sum sum) OutOfRange t))
        (set_fits txn place (PlainAdd amount) before None held (Some (signed_decimal sum)) refl (cond-true _ _ _ t))
    by_range false f =
        subst (λ r. Fitting txn place (PlainAdd amount) before None held (addition_of txn place (before, None) amount r held)) (sym (cond-false _ (Sum sum) OutOfRange f))
        (touch_fits txn place (PlainAdd amount) before None held Exclusive refl (cond-false _ _ _ f))
addition_fits txn place amount before (Some x) held = by_number (number x) refl
  where
    given : Reply → Type 0
    given reply = Fitting txn place (PlainAdd amount) before (Some x) held (addition_of txn place (before, Some x) amount reply held)

    by_range : (n : ℤ) → number x ≡ Some n → (b : Bool) → is_signed_64 (n +ℤ amount) ≡ b → given (cond (is_signed_64 (n +ℤ amount)) (Sum (n +ℤ amount)) OutOfRange)
    by_range n reads true t = subst given (sym (cond-true _ (Sum (n +ℤ amount)) OutOfRange t)) (add_fits txn place amount before x n reads t)
    by_range n reads false f =
        subst given (sym (cond-false _ (Sum (n +ℤ amount)) OutOfRange f))
        (touch_fits txn place (PlainAdd amount) before (Some x) held Exclusive refl (ap (λ m. add_value (Some x) m amount) reads ∙ cond-false _ _ _ f))

    by_number : (o : Option ℤ) → number x ≡ o → given (add_reply (number x) amount)
    by_number None none = subst given (ap (λ m. add_reply m amount) (sym none)) (touch_fits txn place (PlainAdd amount) before (Some x) held Exclusive refl (ap (λ m. add_value (Some x) m amount) none))
    by_number (Some n) reads = subst given (ap (λ m. add_reply m amount) (sym reads)) (by_range n reads (is_signed_64 (n +ℤ amount)) refl)

-- the record of an operation fits it
pub record_fits : (txn : TxnId) (place : Place) (op : Op) (before : ℕ) (value : Option (List ℕ)) (held : Option Mode) → Fitting txn place op before value held (record_of txn place op (before, value) held)
record_fits txn place Get before value held = touch_fits txn place Get before value held Shared refl refl
record_fits txn place (Put y) before value held = set_fits txn place (Put y) before value held (Some y) refl refl
record_fits txn place Del before value held = removal_fits txn place before value held
record_fits txn place (PlainAdd amount) before value held = addition_fits txn place amount before value held
