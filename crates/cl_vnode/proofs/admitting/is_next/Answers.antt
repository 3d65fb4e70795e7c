-- The next number is one above the last.
use Rattle.std.proofs.Common.{◌≡◌, ◌↔◌, ℕ, ◌-◌, ◌<◌, ◌≤◌, nat_eq, nat_lt, true, arith}
use Rattle.std.proofs.lemmas.Bool.Decides.{nat_tests}
use Rattle.cl_log.specs.Log.{next_number}
use Rattle.cl_log.proofs.LogWords.{one-le-next_number}
use Rattle.cl_vnode.proofs.admitting.is_next.Goals as goal

-- a number above zero is the next one where the one below it is the last
next_is : (last next number : ℕ) → 1 ≤ next → last ≡ next - 1 → 0 < number → (nat_eq last (number - 1) ≡ true) ↔ (number ≡ next)
next_is last next number one is above = (λ e. grind (arith, nat_tests), λ same. grind (arith, nat_tests))

-- zero is never the next one
no_next : (next number : ℕ) → 1 ≤ next → number ≤ 0 → (nat_lt 0 number ≡ true) ↔ (number ≡ next)
no_next next number one zero = (λ e. grind (arith, nat_tests), λ same. absurd (omega (arith, one, zero, same)))

pub returns-then-number-gt0 : goal.returns-then-number-gt0
returns-then-number-gt0 c =
    next_is c.last.result (next_number c.args.log.now) c.args.number (one-le-next_number c.args.log.now) c.last.ensures c.if-number-gt0.true

pub returns-else-number-gt0 : goal.returns-else-number-gt0
returns-else-number-gt0 c = no_next (next_number c.args.log.now) c.args.number (one-le-next_number c.args.log.now) c.if-number-gt0.false
