-- Which log records are the work of a transaction: of a firm one a standby's log has those that its primary's has.
use Rattle.std.specs.Prelude.{Bool, true, false}
use Rattle.cl_log.specs.declared.records.LogRec.{LogRec}
use Rattle.cl_log.specs.declared.records.LogRec.TheVariants.{Touch, Set, Add, Prepared}

-- the record locks, writes or votes
abbrev pub is_work : LogRec → Bool
is_work (Touch txn table key mode) = true
is_work (Set txn table key before old new) = true
is_work (Add txn table key before amount) = true
is_work (Prepared txn) = true
is_work content = false
