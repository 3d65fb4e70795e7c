-- At first each session has its log.
use Rattle.std.proofs.Common.{◌≡◌, Option, None, Some, refl, ap, ◌∙◌}
use Rattle.std.specs.Map.{lookup}
use Rattle.std.specs.Ordering.{nat_cmp}
use Rattle.std.specs.BTreeMap.{is_at, get}
use Rattle.cl_serial.specs.Exchanges.{pair_up, in_turn}
use Rattle.cl_serial.specs.Gathering.{SessionLog, logged, transactions_in}
use Rattle.cl_serial.proofs.Settled.{settled}
use Rattle.cl_serial.proofs.transactions.cut_sessions.Goals as goal

settled-none : (log : Option SessionLog) → settled log None ≡ transactions_in (logged log)
unfolding pair_up in_turn
settled-none None = refl
settled-none (Some log) = refl

pub loop-session-init : goal.loop-session-init
loop-session-init c session =
    ap (λ entries. settled (get nat_cmp c.args.logs session) (lookup (is_at (nat_cmp session)) entries)) c.new-sessions.ensures.empty
    ∙ settled-none (get nat_cmp c.args.logs session)
