-- Two small runs: in one a packet comes too early, one twice, and one late; in the other a node stops, and a packet of it that comes late is dropped.
use Rattle.std.proofs.Common.{◌≡◌, ℕ, zero, suc, true, false, List, [], ◌∷◌, ◌++◌, length, Option, Some, None, Result, Ok, Err, refl, ap, sym, ◌∙◌, subst, inl, inr, arith}
use Rattle.std.proofs.lemmas.Bool.{true≢false}
use Rattle.cl_types.specs.declared.answers.StopFault.{StopFault}
use Rattle.cl_roster.specs.declared.entry.RosterEntry.{RosterEntry}
use Rattle.cl_roster.specs.declared.entry.RosterEntry.TheVariants.{Stopped}
use Rattle.cl_roster.specs.Roster.{stop_verdict}
use Rattle.cl_wire.specs.Message.{Bare, LogAck, Message}
use Rattle.cl_steps.specs.Steps.{sent, nothing_done}
use Rattle.cl_link.specs.LinkState.{due_of, first_due, after_send, after_sent, after_again, after_heard, after_accept, after_drop_all, taken_of}
use Rattle.cl_endpoint.specs.Endpoint.{new_endpoint, set_number, received, after_receive, after_give, after_gives, after_tick, after_note, is_waiting}
use Rattle.cl_endpoint.specs.Emission.{due_in, due_to, all_due, packet_to, after_packet, to_emit, emitted, after_emit}
use Rattle.cl_actor.specs.Core.{Noted}
use Rattle.cl_runs.specs.World.{IsOffered, Cores, Shape, IsLiving, endpoints_of, Run, handle, note, feed, stop, quiet, after, HasNotedAll, world_after, IsRun}
use Rattle.cl_runs.specs.Queues.{QueueEvent, deliver, note_next, take_line, stop_node, quieten, nothing, queue_event_of, queue_events_of}

-- a stop that may come next is offered
abbrev offered_by : Result (Unit {0}) StopFault → ℕ → Option RosterEntry
offered_by (Ok done) n = Some (Stopped n)
offered_by (Err fault) n = None

lawfully_offered : (known : Noted) (n : ℕ) (verdict : Result (Unit {0}) StopFault) → stop_verdict known.nodes known.spares known.entries n ≡ verdict →
    IsOffered known (offered_by verdict n)
lawfully_offered known n (Ok done) is = is
lawfully_offered known n (Err fault) is = tt

-- each line makes the front send its number to node 0, which counts what comes; each stop that may come next is offered
abbrev counting : Cores ℕ
counting = record {
  first = λ actor. 0;
  delivered = λ actor noted count from content mark. record { state = suc count; step = nothing_done };
  fed = λ actor noted count number text said. record { state = count; step = record nothing_done { sends = sent 0 (LogAck 0 number) ∷ [] } };
  noted = λ actor noted count entry. record { state = count; step = nothing_done };
  stopped = λ noted count n. record {
    state = count;
    step = record
        nothing_done { entry = offered_by (stop_verdict noted.nodes noted.spares noted.entries n) n };
  };
  stopped_lawfully = λ noted count n. lawfully_offered noted n (stop_verdict noted.nodes noted.spares noted.entries n) refl;
  quieted = λ actor count. count;
  at_rest = λ actor count. true;
  waits_for_quiet = λ text. false;
}

abbrev two_nodes : Shape
two_nodes = record { nodes = 2; spares = 0 }

-- a packet that the front emits to node 0
abbrev from_front : ℕ → Message
from_front number = record { from = 16; to = 0; set = 0; seq = number; ack = 0; content = LogAck 0 number }

-- a bare packet that node 0 emits to the front
abbrev from_node : ℕ → Message
from_node ack = record { from = 0; to = 16; set = 0; seq = 0; ack = ack; content = Bare }

-- the front emits packets 1 and 2; the second comes first, and then the first, twice, and the second again; an acknowledgement of both comes, and the others are lost
abbrev waiting : Run
waiting = (feed 1 [] [], false) ∷ (feed 2 [] [], false) ∷ (handle 0 2, false) ∷ (handle 0 1, false) ∷ (handle 0 1, false) ∷ (handle 0 2, false) ∷ (handle 16 6, false) ∷ []

-- then the moment is quiet
abbrev run : Run
run = waiting ++ (quiet, false) ∷ []

abbrev events : List QueueEvent
events = take_line 1 [] [] ∷ take_line 2 [] [] ∷ nothing ∷ deliver 16 0 false ∷ nothing ∷ deliver 16 0 false ∷ nothing ∷ quieten ∷ []

-- all that computes here
computing : Unit {0}
unfolding queue_events_of queue_event_of after new_endpoint received after_receive after_give after_gives after_tick after_note is_waiting due_of first_due after_send after_sent after_again after_heard after_accept after_drop_all taken_of due_in due_to all_due packet_to after_packet to_emit emitted after_emit
computing = tt

events_of_run : queue_events_of counting two_nodes run ≡ events
unfolding computing
events_of_run = refl

packets_of_run : (world_after counting two_nodes run).packets ≡ from_front 1 ∷ from_front 2 ∷ from_node 0 ∷ from_node 1 ∷ from_node 1 ∷ from_node 2 ∷ []
unfolding computing world_after
packets_of_run = refl

-- node 0 has counted two messages
count_of_run : ((world_after counting two_nodes run).actors 0).core ≡ 2
unfolding computing world_after
count_of_run = refl

-- an actor of this cluster is node 0, node 1 or the front
living : (P : ℕ → Type 0) → P 0 → P 1 → P 16 → (actor : ℕ) → IsLiving two_nodes [] actor → P actor
living P zeroth first front actor (inl e) = subst P (sym e) front
living P zeroth first front zero (inr lives) = zeroth
living P zeroth first front (suc zero) (inr lives) = first
living P zeroth first front (suc (suc actor)) (inr lives) = absurd (omega (arith, lives.0))

-- nobody stops
no_stop : (world_after counting two_nodes waiting).roster ≡ []
unfolding computing world_after
no_stop = refl

nothing_noted : (actor : ℕ) → IsLiving two_nodes [] actor → set_number (endpoints_of (world_after counting two_nodes waiting) actor) ≡ 0
unfolding computing world_after
nothing_noted = living (λ actor. set_number (endpoints_of (world_after counting two_nodes waiting) actor) ≡ 0) refl refl refl

-- each event may happen in its turn, and the last moment is quiet
may_happen : IsRun counting two_nodes run
unfolding computing IsRun world_after
may_happen =
    let front : IsLiving two_nodes [] 16 = inl refl in
    let node : IsLiving two_nodes [] 0 = inr (omega arith, refl) in (
      record { widely = record { next = refl; silent = refl }; timely = λ waits. absurd cc },
      (
        record { widely = record { next = refl; silent = refl }; timely = λ waits. absurd cc },
        (
          record { widely = record { lives = node; numbered = omega arith; packet = from_front 2; emitted = refl; addressed = refl; noted = omega arith }; timely = tt },
          (
            record { widely = record { lives = node; numbered = omega arith; packet = from_front 1; emitted = refl; addressed = refl; noted = omega arith }; timely = tt },
            (
              record { widely = record { lives = node; numbered = omega arith; packet = from_front 1; emitted = refl; addressed = refl; noted = omega arith }; timely = tt },
              (
                record { widely = record { lives = node; numbered = omega arith; packet = from_front 2; emitted = refl; addressed = refl; noted = omega arith }; timely = tt },
                (
                  record { widely = record { lives = front; numbered = omega arith; packet = from_node 2; emitted = refl; addressed = refl; noted = omega arith }; timely = tt },
                  (
                    record {
                      widely = tt;
                      timely = record {
                        at_rest = λ actor lives. refl;
                        noted = λ actor lives. nothing_noted actor lives ∙ ap length (sym no_stop);
                        acknowledged = living (λ actor. is_waiting (endpoints_of (world_after counting two_nodes waiting) actor) ≡ false) refl refl refl;
                      };
                    },
                    tt,
                  ),
                ),
              ),
            ),
          ),
        ),
      ),
    )

-- node 0 takes the message of the front and emits packet 2, and is to stop; packet 2 comes late, and node 1 notes the stop
abbrev stopping : Run
stopping = (feed 1 [] [], false) ∷ (handle 0 1, false) ∷ (stop 0, false) ∷ (handle 16 2, false) ∷ (note 1, false) ∷ []

-- the late packet is nothing for cores and queues
stopping_events : queue_events_of counting two_nodes stopping ≡ take_line 1 [] [] ∷ deliver 16 0 false ∷ stop_node 0 ∷ nothing ∷ note_next 1 ∷ []
unfolding computing
stopping_events = refl

stopping_packets : (world_after counting two_nodes stopping).packets ≡ from_front 1 ∷ from_node 1 ∷ []
unfolding computing world_after
stopping_packets = refl

-- whoever lives then is node 1 or the front
left : (P : ℕ → Type 0) → P 1 → P 16 → (actor : ℕ) → IsLiving two_nodes (Stopped 0 ∷ []) actor → P actor
left P first front actor (inl e) = subst P (sym e) front
left P first front zero (inr lives) = absurd (true≢false lives.1)
left P first front (suc zero) (inr lives) = first
left P first front (suc (suc actor)) (inr lives) = absurd (omega (arith, lives.0))

-- each event may happen in its turn, and then the moment is quiet: nobody waits for the acknowledgement that was dropped
may_stop : IsRun counting two_nodes (stopping ++ (quiet, false) ∷ [])
unfolding computing IsRun world_after
may_stop = (
  record { widely = record { next = refl; silent = refl }; timely = λ waits. absurd cc },
  (
    record {
      widely = record {
        lives = inr (omega arith, refl);
        numbered = omega arith;
        packet = from_front 1;
        emitted = refl;
        addressed = refl;
        noted
            = omega arith;
      };
      timely = tt;
    },
    (
      record { widely = refl; timely = tt },
      (
        record {
          widely = record { lives = inl refl; numbered = omega arith; packet = from_node 1; emitted = refl; addressed = refl; noted = omega arith };
          timely = tt;
        },
        (
          record { widely = record { lives = inr (omega arith, refl); entry = Stopped 0; next = refl }; timely = tt },
          (
            record {
              widely = tt;
              timely = record {
                at_rest = λ actor lives. refl;
                noted = left (HasNotedAll (world_after counting two_nodes stopping)) refl refl;
                acknowledged = left (λ actor. is_waiting (endpoints_of (world_after counting two_nodes stopping) actor) ≡ false) refl refl;
              };
            },
            tt,
          ),
        ),
      ),
    ),
  ),
)
