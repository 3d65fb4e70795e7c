-- Which lines wait for a quiet moment.
use Rattle.std.proofs.Common.{◌≡◌, ℕ, Bool, true, false, List, Result, Ok, Err, codes, refl, sym, ap, ◌∙◌}
use Rattle.cl_lines.specs.Line.{line_of}
use Rattle.cl_lines.specs.Spelling.{order_spelling}
use Rattle.cl_lines.specs.declared.line.Line.{Line}
use Rattle.cl_lines.specs.declared.line.Line.TheVariants.{Client, Operator}
use Rattle.cl_lines.specs.declared.line.LineFault.{LineFault}
use Rattle.cl_lines.specs.declared.line.Order.{Order}
use Rattle.cl_lines.specs.declared.line.Order.TheVariants.{Quiet}
use Rattle.cl_lines.proofs.Spellings.{order_from_line, line_from_order}
use Rattle.cl_system.specs.System.{is_operators}

-- what is an operator's line has an order
operators_order : (read : Result Line LineFault) → is_operators read ≡ true → (order : Order) × (read ≡ Ok (Operator order))
operators_order (Ok (Client s command)) is = absurd cc
operators_order (Ok (Operator order)) is = (order, refl)
operators_order (Err fault) is = absurd cc

quiet_spelling : (order : Order) → order_spelling order ≡ codes "QUIET"
quiet_spelling Quiet = refl

-- the line QUIET alone waits
pub waits_as : (text : List ℕ) (is_quiet waits : Bool) → waits ≡ is_operators (line_of text) → (is_quiet ≡ true → text ≡ codes "QUIET") → (text ≡ codes "QUIET" → is_quiet ≡ true) → is_quiet ≡ waits
waits_as text true true e told tells = refl
waits_as text false false e told tells = refl
waits_as text true false e told tells =
    let read : line_of text ≡ Ok (Operator Quiet) = line_from_order text Quiet (told refl) in
    let yes : is_operators (line_of text) ≡ true = ap is_operators read in absurd (cc (e, yes))
waits_as text false true e told tells =
    let order = operators_order (line_of text) (sym e) in
    let no = tells (order_from_line text order.0 order.1 ∙ quiet_spelling order.0) in absurd cc
