-- Which packets of a run are still kept.
use Rattle.std.specs.Prelude.{◌≡◌, ℕ, ◌+◌, ◌-◌, ◌==◌, nat_lt, ◌||◌, Bool, true, if◌then◌else◌, List, map, Option, Some, None, IsSome, slice_get, slice_set}
use Rattle.std.specs.Option.{option_map}
use Rattle.std.specs.List.{All, AllZip}
use Rattle.cl_post.specs.declared.event.Event.{Event}
use Rattle.cl_post.specs.declared.event.Event.TheVariants.{Handle, Tick, Feed, Quiet}
use Rattle.cl_ranked.specs.Slots.{slot_at}
use Rattle.cl_steps.specs.declared.actors.TheConstants.{FRONT}
use Rattle.cl_wire.specs.declared.packet.Packet.{Packet}
use Rattle.cl_wire.specs.Message.{Message, message_of}

-- the actor is the front, or one of so many nodes and spares
abbrev pub is_living : ℕ → ℕ → Bool
is_living living actor = (actor == FRONT) || nat_lt actor living

-- a packet is kept if it goes to an actor that lives
abbrev pub to_living : ℕ → Message → Option Message
to_living living m = if is_living living m.to then Some m else None

-- what the kept packets say
abbrev pub messages_in : List (Option Packet) → List (Option Message)
messages_in slots = map (option_map message_of) slots

-- a slot is empty, or has this message
abbrev pub IsSlotOf : Option Message → Message → Type 0
IsSlotOf None m = Unit {0}
IsSlotOf (Some kept) m = kept ≡ m

-- of each packet that was emitted, the packet is kept, or its slot is empty
abbrev pub AreKept : List (Option Message) → List Message → Type 0
AreKept slots messages = AllZip IsSlotOf slots messages

-- a slot is empty, or has a message to an actor that lives
abbrev pub IsToLiving : ℕ → Option Message → Type 0
IsToLiving living None = Unit {0}
IsToLiving living (Some m) = is_living living m.to ≡ true

-- each packet that is kept goes to an actor that lives
abbrev pub AreToLiving : ℕ → List (Option Message) → Type 0
AreToLiving living slots = All (IsToLiving living) slots

-- the packet of this number is kept
abbrev pub IsStillKept : List (Option Packet) → Event → Type 0
IsStillKept slots (Handle actor id) = IsSome (slot_at slots (id - 1))
IsStillKept slots (Tick actor) = Unit {0}
IsStillKept slots (Feed number text said) = Unit {0}
IsStillKept slots Quiet = Unit {0}

-- a packet that an event handles is kept, or is not emitted yet
abbrev pub IsNotForgotten : ℕ → List (Option Packet) → List Message → Event → Type 0
IsNotForgotten living slots emitted (Handle actor id) =
    (m : Message) → slice_get emitted (id - 1) ≡ Some m → is_living living m.to ≡ true → IsSome (slot_at slots (id - 1))
IsNotForgotten living slots emitted (Tick actor) = Unit {0}
IsNotForgotten living slots emitted (Feed number text said) = Unit {0}
IsNotForgotten living slots emitted Quiet = Unit {0}

-- the slots once the packet of a number is forgotten
abbrev pub forgotten : List (Option Packet) → ℕ → List (Option Packet)
forgotten slots id = if id == 0 then slots else slice_set slots (id - 1) None

-- the number and the receiver of a packet, by the index of its slot
abbrev pub on_way : ℕ × Packet → ℕ × ℕ
on_way pair = (pair.0 + 1, pair.1.to)
