-- What is acknowledged is in the log.
use Rattle.std.proofs.Common.{◌≡◌, ◌↔◌, ℕ, ◌-◌, ◌<◌, ◌≤◌, nat_le, true, sym, arith}
use Rattle.std.proofs.lemmas.Bool.Decides.{nat_tests}
use Rattle.cl_log.specs.Log.{next_number}
use Rattle.cl_log.proofs.LogWords.{one-le-next_number}
use Rattle.cl_vnode.proofs.admitting.comes.Goals as goal

-- below the next number is up to the last
up_to_last : (number last next : ℕ) → last ≡ next - 1 → 1 ≤ next → (nat_le number last ≡ true) ↔ (number < next)
up_to_last number last next is one = grind (arith, nat_tests)

pub returns-in-LogAck : goal.returns-in-LogAck
returns-in-LogAck c = λ state control is.
    rw c.in-LogAck.is
    (rw (sym is.next) (up_to_last c.in-LogAck.number c.last.result (next_number c.args.part.now.log) c.last.ensures (one-le-next_number c.args.part.now.log)))
