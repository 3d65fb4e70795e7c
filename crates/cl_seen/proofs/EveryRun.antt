-- The laws of runs, as the crates below prove what they stand on.
use Rattle.cl_commit.proofs.Reordering.{reorder_keeps_whole}
use Rattle.cl_exchange.proofs.Reordering.{reorder_keeps_sound}
use Rattle.cl_exchange.proofs.Runs.{events_fit, events_keep_sound}
use Rattle.cl_ledger.proofs.Runs.{firm_runs_keep_one_order}
use Rattle.cl_ledger.specs.Laws.{FirmRunsKeepOneOrder}
use Rattle.cl_paired.proofs.Acknowledging.{acks_tell}
use Rattle.cl_paired.proofs.Starting.{first_is_paired, fits_both}
use Rattle.cl_paired.proofs.Taking.{steps_are_seen_alone}
use Rattle.cl_part.proofs.Soundness.{new_is_sound, IsReplicaOf-record}
use Rattle.cl_seen.proofs.Runs as by
use Rattle.cl_seen.specs.Laws.{PairRunsAreSeen, PairInputsFit, PairMessagesAreAddressed}

-- every firm run keeps one order
one_order : FirmRunsKeepOneOrder
one_order = firm_runs_keep_one_order reorder_keeps_sound reorder_keeps_whole

-- every run of pairs is one of the firm system
pub pair_runs_are_seen : PairRunsAreSeen
pair_runs_are_seen =
    by.pair_runs_are_seen first_is_paired new_is_sound steps_are_seen_alone acks_tell fits_both events_keep_sound events_fit IsReplicaOf-record
    one_order

-- what may happen next in it fits
pub pair_inputs_fit : PairInputsFit
pair_inputs_fit =
    by.pair_inputs_fit first_is_paired new_is_sound steps_are_seen_alone acks_tell fits_both events_keep_sound events_fit IsReplicaOf-record
    one_order

-- each message on its way in it goes between the actors that its kind names
pub pair_messages_are_addressed : PairMessagesAreAddressed
pair_messages_are_addressed =
    by.pair_messages_are_addressed first_is_paired new_is_sound steps_are_seen_alone acks_tell fits_both events_keep_sound events_fit IsReplicaOf-record
    one_order
