use Rattle.std.proofs.Common.{◌≡◌, ap, ◌∙◌, rules}
use Rattle.std.specs.Fmt.{signed_decimal}
use Rattle.cl_types.specs.Names.{is_value}
use Rattle.cl_types.proofs.Digits.{is_signed_64-fits}
use Rattle.cl_types.proofs.DecimalLaws.{is_value-signed_decimal}
use Rattle.cl_types.proofs.value.Value.of_number.Goals as goal

pub invariant_of-result : goal.invariant_of-result
invariant_of-result c =
    let text : c.into_bytes.result.items ≡ signed_decimal c.args.number = search rules in
    ap is_value text ∙ is_value-signed_decimal c.args.number (is_signed_64-fits _ c.ranges.number)
