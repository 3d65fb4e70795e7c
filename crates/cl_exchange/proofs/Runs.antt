-- The laws: each session is at one stage, and each input fits.
use Rattle.std.proofs.Common.{◌≡◌, ℕ, ◌-◌, List, ◌∷◌, length, All, refl, sym, ap, ◌∙◌, subst, arith}
use Rattle.std.proofs.lemmas.List.{get_or-replicate, length-replicate}
use Rattle.std.proofs.lemmas.List.Elements.{All-head}
use Rattle.cl_exchange.specs.Laws.{AreAtStages, IsSoundWorld, SoundAtFirst, EventsFit, EventsKeepSound}
use Rattle.cl_exchange.specs.Stage.{outside}
use Rattle.cl_exchange.proofs.Delivered.{IsAtSome}
use Rattle.cl_exchange.proofs.Events.{message_fits, line_fits, message_stages, line_stages, message_many, line_many}
use Rattle.cl_front.specs.Session.{no_session}
use Rattle.cl_lone.proofs.Lone.{first_is_calm, steps_stay_calm}
use Rattle.cl_roster.specs.Roster.{IsClusterSize}
use Rattle.cl_runs.specs.Queues.{QueueEvent, deliver, take_line}
use Rattle.cl_runs.specs.World.{Shape}
use Rattle.cl_system.proofs.Places.{in_place_at_first, events_keep_places}
use Rattle.cl_system.specs.Replicas.{ReplicaWorld, with_way, after_first, after_replica_event, first_replica_world, MayReplicas}
use Rattle.cl_system.specs.Roles.{IsAddressed}
use Rattle.cl_types.specs.declared.limits.TheConstants.{SESSIONS_MAX}
use Rattle.cl_wire.specs.Message.{Content}

-- at the start each session is outside a transaction
first_stages : (shape : Shape) → AreAtStages shape (first_replica_world shape)
first_stages shape s one most =
    (outside, (ap (λ session. session.current) (get_or-replicate SESSIONS_MAX (s - 1) no_session no_session (omega arith)), record { commands = refl; entries = refl; outcomes = refl }))

pub sound_at_first : SoundAtFirst
sound_at_first shape size = record { places = in_place_at_first first_is_calm shape size; stages = first_stages shape; sessions = length-replicate SESSIONS_MAX no_session }

-- a message on its way is addressed rightly
pub first_addressed : (shape : Shape) (world : ReplicaWorld) (from to : ℕ) (content : Content) (rest : List Content) → IsSoundWorld shape world → world.mail from to ≡ content ∷ rest → IsAddressed shape.nodes from to content
first_addressed shape world from to content rest sound waits =
    All-head (IsAddressed shape.nodes from to) content rest (subst (All (IsAddressed shape.nodes from to)) waits (sound.places.messages from to))

pub events_fit : EventsFit
events_fit shape world (deliver from to mark) size sound may =
    λ content rest waits. message_fits shape size.counted world sound from to content rest waits (first_addressed shape world from to content rest sound waits)
events_fit shape world (take_line number text said) size sound may = line_fits shape size.counted world sound number text said
events_fit shape world other size sound may = tt

event_stages : (shape : Shape) (world : ReplicaWorld) (event : QueueEvent) → IsClusterSize shape.nodes shape.spares → IsSoundWorld shape world → MayReplicas world event → AreAtStages shape (after_replica_event shape world event)
unfolding after_replica_event
event_stages shape world (deliver from to mark) size sound (content, rest, waits) s one most =
    subst (λ list. IsAtSome shape.nodes (after_first shape world from to mark list) s) (sym waits)
    (message_stages shape size.counted world sound from to content rest mark waits (first_addressed shape world from to content rest sound waits) s one most)
event_stages shape world (take_line number text said) size sound may s one most = line_stages shape size.counted world sound number text said s one most
event_stages shape world other size sound may s one most = sound.stages s one most

event_many : (shape : Shape) (world : ReplicaWorld) (event : QueueEvent) → length world.front.sessions ≡ SESSIONS_MAX → MayReplicas world event → length (after_replica_event shape world event).front.sessions ≡ SESSIONS_MAX
unfolding after_replica_event
event_many shape world (deliver from to mark) many (content, rest, waits) =
    subst (λ list. length (after_first shape world from to mark list).front.sessions ≡ SESSIONS_MAX) (sym waits)
    (message_many shape (record world { mail = with_way world.mail from to rest }) from to content mark ∙ many)
event_many shape world (take_line number text said) many may = line_many shape world.front number text said ∙ many
event_many shape world other many may = many

pub events_keep_sound : EventsKeepSound
events_keep_sound shape world event size sound may = record {
  places = events_keep_places steps_stay_calm shape world event size sound.places may (events_fit shape world event size sound may);
  stages = event_stages shape world event size sound may;
  sessions = event_many shape world event sound.sessions may;
}
