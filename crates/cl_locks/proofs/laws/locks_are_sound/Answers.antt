use Rattle.cl_locks.proofs.TableLaws.{at_place-grants_at, are_compatible-grants_at, held-compatible, first_conflict-held, first_conflict-free}
use Rattle.cl_locks.proofs.laws.locks_are_sound.Goals as goal

pub returns : goal.returns
returns c = record { placed = at_place-grants_at; grants = are_compatible-grants_at; modes = held-compatible; refused = first_conflict-held; free = first_conflict-free }
