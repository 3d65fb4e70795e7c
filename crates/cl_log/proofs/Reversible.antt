-- Undoing an Add to a number gives that number back.
use Rattle.std.proofs.Common.{◌≡◌, ℕ, true, List, Some, ℤ, ◌+ℤ◌, neg_ℤ, sym, ap, ◌∙◌}
use Rattle.std.specs.Fmt.{signed_decimal}
use Rattle.std.proofs.lemmas.Bool.{cond-true}
use Rattle.std.proofs.lemmas.Int.{ints}
use Rattle.cl_types.specs.declared.operations.Op.TheVariants.{Add as PlainAdd}
use Rattle.cl_types.specs.declared.operations.TxnId.{TxnId}
use Rattle.cl_types.specs.Decimal.{number, is_signed_64}
use Rattle.cl_types.specs.Places.{Place}
use Rattle.cl_types.specs.Plain.{plain_value, add_value, sum_value}
use Rattle.cl_types.proofs.DecimalLaws.{number-signed_decimal, number-text}
use Rattle.cl_types.proofs.Places.{same_place-true}
use Rattle.cl_log.specs.declared.records.LogRec.TheVariants.{Add}
use Rattle.cl_log.specs.LogEntry.{LogEntry}
use Rattle.cl_log.specs.Settled.{IsReversible}
use Rattle.cl_log.specs.Store.{less, store_of_log}
use Rattle.std.proofs.Common.{arith}

-- a sum less its second part
less_of_sum : (a b : ℤ) → (a +ℤ b) +ℤ neg_ℤ b ≡ a
less_of_sum a b = omega (arith, ints)

-- a number and an amount, with their sum within 64 bits
pub add_then_less : (value : List ℕ) (augend amount : ℤ) → number value ≡ Some augend → is_signed_64 (augend +ℤ amount) ≡ true → less amount (plain_value (PlainAdd amount) (Some value)) ≡ Some value
add_then_less value augend amount reads within =
    let text = number-text value augend reads in
    ap (less amount) (ap (λ n. add_value (Some value) n amount) reads ∙ cond-true _ _ _ within)
    ∙ ap (λ n. add_value (Some (signed_decimal (augend +ℤ amount))) n (neg_ℤ amount)) (number-signed_decimal (augend +ℤ amount) within)
    ∙ ap (sum_value (Some (signed_decimal (augend +ℤ amount)))) (less_of_sum augend amount)
    ∙ cond-true _ _ _ text.1
    ∙ ap Some (sym text.0)

-- an Add to a number, with its sum within 64 bits, can be reversed
pub IsReversible-add : (seen : List LogEntry) (txn : TxnId) (table key : List ℕ) (before : ℕ) (amount : ℤ) (value : List ℕ) (augend : ℤ) → (store_of_log seen (table, key)).1 ≡ Some value →
    number value ≡ Some augend → is_signed_64 (augend +ℤ amount) ≡ true → IsReversible seen (Add txn table key before amount)
IsReversible-add seen txn table key before amount value augend stands reads within place here =
    let stored : (store_of_log seen place).1 ≡ Some value = ap (λ (p : Place). (store_of_log seen p).1) (sym (same_place-true (table, key) place here)) ∙ stands in
    ap (λ v. less amount (plain_value (PlainAdd amount) v)) stored ∙ add_then_less value augend amount reads within ∙ sym stored
