-- A run of pairs, seen as one of the firm system: as if each primary told at once what is in its log.
use Rattle.std.specs.Prelude.{ℕ, nat_lt, Bool, true, false, if◌then◌else◌, List, [], ◌∷◌, ◌++◌, filter}
use Rattle.cl_log.specs.declared.records.LogRec.{LogRec}
use Rattle.cl_log.specs.declared.records.LogRec.TheVariants.{Decide}
use Rattle.cl_log.specs.Open.{is_among}
use Rattle.cl_paired.specs.Paired.{untold}
use Rattle.cl_runs.specs.Queues.{QueueEvent, deliver, take_line, quieten, sent_to}
use Rattle.cl_runs.specs.World.{Shape}
use Rattle.cl_system.specs.Firm.{FirmEvent, happens, reorder, join}
use Rattle.cl_system.specs.Replicas.{Mail, own_primary}
use Rattle.cl_types.specs.declared.operations.TxnId.{TxnId}
use Rattle.cl_wire.specs.Message.{Content, Log, LogAck}
use Rattle.cl_pairs.specs.Pairs.{PairWorld, after_pair_event, first_pair_world}

-- the message is between a primary and its standby
abbrev pub is_internal : Content → Bool
is_internal (Log v number entry) = true
is_internal (LogAck v number) = true
is_internal content = false

-- the messages that are not
abbrev pub outward : List Content → List Content
outward messages = filter (λ content. if is_internal content then false else true) messages

-- what an actor has still to tell another one
abbrev pub to_tell : ℕ → PairWorld → ℕ → ℕ → List Content
to_tell nodes pairs from to = if nat_lt from nodes then sent_to to (untold own_primary (pairs.primaries from)) else []

-- what is on its way and what is still to be told
abbrev pub seen_mail : ℕ → PairWorld → Mail
seen_mail nodes pairs from to = outward (pairs.mail from to) ++ to_tell nodes pairs from to

-- the transaction that a log record makes firm at a standby, where it is not firm yet
abbrev pub joins_of : List TxnId → LogRec → List FirmEvent
joins_of history (Decide txn) = if is_among txn history then [] else join txn ∷ []
joins_of history content = []

-- what the coming of a message is: a log record may make its transaction firm, an acknowledgement is nothing, and everything else happens, with what is told later behind it
abbrev pub seen_delivery : Shape → PairWorld → PairWorld → QueueEvent → List Content → List FirmEvent
seen_delivery shape before after event [] = []
seen_delivery shape before after event (Log v number entry ∷ rest) = joins_of before.history entry
seen_delivery shape before after event (LogAck v number ∷ rest) = []
seen_delivery shape before after event (content ∷ rest) = happens event ∷ reorder (seen_mail shape.nodes after) ∷ []

-- what an event is
unfoldable pub seen_event : Shape → PairWorld → QueueEvent → List FirmEvent
seen_event shape pairs (deliver from to mark) = seen_delivery shape pairs (after_pair_event shape pairs (deliver from to mark)) (deliver from to mark) (pairs.mail from to)
seen_event shape pairs (take_line number text said) = happens (take_line number text said) ∷ []
seen_event shape pairs quieten = happens quieten ∷ []
seen_event shape pairs other = []

-- what events are, from this moment on
abbrev pub seen_from : Shape → List QueueEvent → PairWorld → List FirmEvent
seen_from shape [] pairs = []
seen_from shape (event ∷ events) pairs = seen_event shape pairs event ++ seen_from shape events (after_pair_event shape pairs event)

-- what a run of pairs is
unfoldable pub seen_events : Shape → List QueueEvent → List FirmEvent
seen_events shape events = seen_from shape events (first_pair_world shape)
