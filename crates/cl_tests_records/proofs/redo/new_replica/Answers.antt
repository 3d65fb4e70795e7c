use Rattle.std.proofs.Common.{List, ap, ◌∙◌}
use Rattle.cl_log.specs.LogEntry.{LogEntry}
use Rattle.cl_log.specs.Open.{has_ended}
use Rattle.cl_log.proofs.Open.{has_ended-nil}
use Rattle.cl_locks.proofs.TableLaws.{held-new}
use Rattle.cl_tests_records.specs.declared.redo.TheConstants.{TXN}
use Rattle.cl_tests_records.proofs.redo.new_replica.Goals as goal

pub returns-clause-running : goal.returns-clause-running
returns-clause-running c = ap (λ (es : List LogEntry). has_ended es TXN) c.new-2.ensures.entries ∙ has_ended-nil TXN

pub returns-clause-alone : goal.returns-clause-alone
returns-clause-alone c = held-new c.new-3.result c.new-3.ensures
