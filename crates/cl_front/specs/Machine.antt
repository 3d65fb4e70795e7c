-- The front as a machine: its core and its endpoint.
use Rattle.std.specs.Prelude.{◌≡◌, ℕ, Bool, List, []}
use Rattle.cl_actor.specs.Acting.{ActingState, ActingFits, acted, is_acting_spent, core_of, endpoint_of}
use Rattle.cl_endpoint.specs.Endpoint.{EndpointState, new_endpoint}
use Rattle.cl_front.specs.declared.machine.Front.{Front}
use Rattle.cl_front.specs.Front.{FrontState, new_front, delivered_front, fed_front, quiet_front, is_delivery_spent, is_line_spent, DeliveryFits, LineFits, is_answered}
use Rattle.cl_front.specs.FrontCore.{IsFront, transcript_in}
use Rattle.cl_post.specs.Steps.{Input, OutsData}
use Rattle.cl_serial.specs.Transcript.{TranscriptEntry}
use Rattle.cl_wire.specs.Message.{Content, Outcome}

-- what the front has: a state of its core, and its endpoint
abbrev pub FrontMachineState : Type 0
FrontMachineState = ActingState FrontState

-- the endpoint of the front
abbrev pub endpoint_in : Front → EndpointState
endpoint_in front = endpoint_of front.acting

-- the transcript of the front
abbrev pub printed_by : Front → List TranscriptEntry
printed_by front = transcript_in (core_of front.acting)

-- the front has this state
abbrev pub IsFrontMachine : Front → FrontMachineState → Type 0
IsFrontMachine front state = IsFront (core_of front.acting) state.core × (endpoint_of front.acting ≡ state.endpoint)

-- the front of a cluster in which nothing has happened yet, of so many nodes and spares, and its number
abbrev pub first_machine : ℕ → ℕ → ℕ → FrontMachineState
first_machine nodes spares me = record { core = new_front; endpoint = new_endpoint me nodes spares }

-- the front after a step
abbrev pub front_after : FrontMachineState → Input → Bool → FrontMachineState
front_after before input mark = (acted delivered_front fed_front before input mark).0

-- what its step gives
abbrev pub front_outs : FrontMachineState → Input → Bool → OutsData
front_outs before input mark = (acted delivered_front fed_front before input mark).1

-- its step with this mark would need a number above its limit
abbrev pub is_front_spent : FrontMachineState → Input → Bool → Bool
is_front_spent = is_acting_spent delivered_front fed_front is_delivery_spent is_line_spent

-- it meets the conditions of each call that its step makes
abbrev pub FrontFits : FrontMachineState → Input → Type 0
FrontFits = ActingFits delivered_front fed_front DeliveryFits LineFits

-- the front after a quiet moment: its core notes it, and its endpoint stays
abbrev pub after_quiet : FrontMachineState → FrontMachineState
after_quiet before = record before { core = quiet_front before.core }

-- the front once its transcript was taken
abbrev pub after_taking : FrontMachineState → FrontMachineState
after_taking before = record before { core = record before.core { transcript = [] } }

-- each command that was fed was answered
abbrev pub is_machine_answered : FrontMachineState → Bool
is_machine_answered state = is_answered state.core

-- the message is an outcome
abbrev pub IsOutcome : Content → Type 0
IsOutcome (Outcome txn number outcome) = Unit {0}
IsOutcome content = ⊥
