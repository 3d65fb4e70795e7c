use Rattle.std.proofs.Common.{◌≡◌, ℕ}
use Rattle.std.specs.Ordering.{nat_cmp}
use Rattle.std.specs.BTreeMap.{get, btree_map_len}
use Rattle.cl_serial.specs.Gathering.{log_at, transactions_in}
use Rattle.cl_serial.proofs.Settled.{settled}
use Rattle.cl_serial.proofs.transactions.cut_sessions.Given as goal

-- each session has its log, or its transactions
abbrev pub invariant-loop-session : goal.invariant-loop-session
invariant-loop-session l = (session : ℕ) → settled (get nat_cmp l.logs session) (get nat_cmp l.sessions session) ≡ transactions_in (log_at l.fn.logs session)

abbrev pub decreases-loop-session : goal.decreases-loop-session
decreases-loop-session l = btree_map_len l.logs
