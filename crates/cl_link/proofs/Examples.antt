-- The definitions at a small exchange: of two messages the first is lost, and is sent again after the second.
use Rattle.std.proofs.Common.{◌≡◌, ℕ, List, [], ◌∷◌, refl}
use Rattle.cl_link.specs.LinkState.{first_due, due_of, taken_of, after_send, after_sent, after_again, after_heard, after_accept, after_drop_all}
use Rattle.cl_link.specs.Network.{LinkAct, Give, Mark, Tick, Emit, Comes, Lose, Drop, after_act, LinkEvent, after_event, after_events}

abbrev act : ℕ → ℕ → LinkAct ℕ → LinkEvent ℕ
act actor peer what = record { actor = actor; peer = peer; act = what }

-- actor 1 gives messages to actor 2, whose third packet brings the acknowledgement of both
abbrev exchange : List (LinkEvent ℕ)
exchange =
    act 1 2 (Give 10) ∷ act 1 2 (Give 20) ∷ act 1 2 Emit ∷ act 1 2 (Mark 1) ∷ act 1 2 Emit ∷ act 1 2 (Mark 2) ∷
    act 1 2 (Lose 0) ∷ act 2 1 (Comes 0) ∷ act 1 2 Tick ∷ act 1 2 Emit ∷ act 2 1 (Comes 1) ∷ act 2 1 (Comes 0) ∷
    act 2 1 (Comes 1) ∷ act 2 1 Emit ∷ act 1 2 (Comes 0) ∷ []

took-exchange : (after_events exchange 2 1).took ≡ 10 ∷ 20 ∷ []
unfolding first_due due_of taken_of after_send after_sent after_again after_heard after_accept after_act after_event after_events
took-exchange = refl

kept-exchange : (after_events exchange 1 2).link.kept ≡ []
unfolding first_due due_of taken_of after_send after_sent after_again after_heard after_accept after_act after_event after_events
kept-exchange = refl

-- a message of an actor to itself, which its next packet acknowledges
abbrev to_itself : List (LinkEvent ℕ)
to_itself = act 3 3 (Give 7) ∷ act 3 3 Emit ∷ act 3 3 (Mark 1) ∷ act 3 3 (Comes 0) ∷ act 3 3 Emit ∷ act 3 3 (Comes 1) ∷ []

took-to_itself : (after_events to_itself 3 3).took ≡ 7 ∷ []
unfolding first_due due_of taken_of after_send after_sent after_again after_heard after_accept after_act after_event after_events
took-to_itself = refl

kept-to_itself : (after_events to_itself 3 3).link.kept ≡ []
unfolding first_due due_of taken_of after_send after_sent after_again after_heard after_accept after_act after_event after_events
kept-to_itself = refl

-- a message is dropped before it is sent: the link counts it as no longer kept, the peer never accepts it, and the next one is a gap
abbrev dropping : List (LinkEvent ℕ)
dropping = act 1 2 (Give 10) ∷ act 1 2 Drop ∷ act 1 2 (Give 20) ∷ act 1 2 Emit ∷ act 2 1 (Comes 0) ∷ []

released-dropping : (after_events dropping 1 2).link.released ≡ 1
unfolding first_due due_of taken_of after_send after_sent after_again after_heard after_accept after_drop_all after_act after_event after_events
released-dropping = refl

took-dropping : (after_events dropping 2 1).took ≡ []
unfolding first_due due_of taken_of after_send after_sent after_again after_heard after_accept after_drop_all after_act after_event after_events
took-dropping = refl
