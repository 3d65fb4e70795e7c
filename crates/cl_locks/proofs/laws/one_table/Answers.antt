use Rattle.cl_locks.proofs.TableLaws.{IsTableOf-all_grants, IsTableOf-empty, first_conflict-table, held-table, IsTableOf-granted, IsTableOf-released}
use Rattle.cl_locks.proofs.laws.one_table.Goals as goal

pub returns : goal.returns
returns c = record { list = IsTableOf-all_grants; empty = IsTableOf-empty; conflict = first_conflict-table; mode = held-table; grant = IsTableOf-granted; release = IsTableOf-released }
