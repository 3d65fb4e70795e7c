use Rattle.cl_store.proofs.Counted.{live_records_are_counted}
use Rattle.cl_store.proofs.Determined.{stored_at-record, records-determined}
use Rattle.cl_store.proofs.laws.records_follow_places.Goals as goal

pub returns : goal.returns
returns c = record { found = stored_at-record; determined = records-determined; counted = live_records_are_counted }
