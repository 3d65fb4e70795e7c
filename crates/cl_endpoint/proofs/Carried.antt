-- What emitted packets carry.
use Rattle.std.proofs.Common.{◌≡◌, ◌≢◌, ◌⊎◌, ℕ, ◌-◌, ◌^◌, ◌<◌, ◌≤◌, List, [], ◌∷◌, length, Some, None, refl, sym, ◌∙◌, arith, inl, inr}
use Rattle.std.proofs.lemmas.Bool.Decides.{eqb_tells}
use Rattle.std.proofs.lemmas.List.Elements.{All-nil, All-cons, All-weaker, All-get_or}
use Rattle.std.proofs.lemmas.Option.{slice_get_within}
use Rattle.std.specs.List.{All}
use Rattle.cl_link.specs.declared.link.TheConstants.{NUMBER_MAX}
use Rattle.cl_link.specs.LinkState.{LinkState, unacknowledged, due_of, after_sent, no_message}
use Rattle.cl_link.proofs.Indices.{All-slice_get}
use Rattle.cl_link.proofs.LinkStates.{due_of-kept, accepted-after_sent, released-after_sent, unacknowledged-after_sent, last_number-unacknowledged}
use Rattle.cl_wire.specs.Message.{Content, Message, Bare, kind_of}
use Rattle.cl_wire.specs.Range.{IsContent, IsSeq, IsInRange}
use Rattle.cl_endpoint.specs.Endpoint.{EndpointState, link_to}
use Rattle.cl_endpoint.specs.Emission.{or_bare, packet_to, after_packet, emitted}
use Rattle.cl_endpoint.specs.Laws.{IsInTurn, IsKeptUnder, IsOf, EmittedIsKept, IsLinkInRange, IsEndpointInRange, EmittedIsInRange}
use Rattle.cl_endpoint.proofs.Links.{link_to-with_link, link_to-with_other}
use Rattle.cl_endpoint.proofs.Emissions.{links-after_packet}
use Rattle.cl_endpoint.proofs.InTurn.{emission_is_in_turn}

-- the least due message, or none, is kept
or_bare-carried : (link : LinkState Content) → (((or_bare (due_of link)).0 ≡ 0) × ((or_bare (due_of link)).1 ≡ Bare)) ⊎ IsKeptUnder link (or_bare (due_of link)).0 (or_bare (due_of link)).1
or_bare-carried link =
    elim (due_of link) as (λ o. due_of link ≡ o → (((or_bare o).0 ≡ 0) × ((or_bare o).1 ≡ Bare)) ⊎ IsKeptUnder link (or_bare o).0 (or_bare o).1) [
      | None ↦ λ e. inl (refl, refl)
      | Some numbered ↦ λ e. (let kept = due_of-kept link numbered e in inr (omega (arith, kept.0), kept.1))
    ] refl

packet_to-of : (state : EndpointState) (peer : ℕ) → peer < length state.links → IsOf state (packet_to state peer)
unfolding packet_to
packet_to-of state peer within = record { from = refl; to = within; set = refl; ack = refl; carried = or_bare-carried (link_to state peer) }

-- what a packet emitted earlier leaves alone: what was accepted, and what is kept
record KeepsLink (before after : LinkState Content) : Type 0 where
  accepted : after.accepted ≡ before.accepted
  released : after.released ≡ before.released
  kept : unacknowledged after ≡ unacknowledged before

after_packet-keeps : (state : EndpointState) (m : Message) (peer : ℕ) → peer < length state.links → KeepsLink (link_to state peer) (link_to (after_packet state m) peer)
unfolding after_packet
after_packet-keeps state m peer within =
    elim (eqb_tells m.to peer) [
      | inl here ↦ rw (here.1, link_to-with_link state peer (after_sent (link_to state peer) m.seq) within)
          (record { accepted = accepted-after_sent _ _; released = released-after_sent _ _; kept = unacknowledged-after_sent _ _ })
      | inr apart ↦ rw (link_to-with_other state m.to peer (after_sent (link_to state m.to) m.seq) (λ e. apart.1 (sym e))) (record { accepted = refl; released = refl; kept = refl })
    ]

IsOf-before : (state : EndpointState) (first m : Message) → IsOf (after_packet state first) m → IsOf state m
unfolding after_packet
IsOf-before state first m is =
    let within : m.to < length state.links = rw links-after_packet at is.to in
    let keeps : KeepsLink (link_to state m.to) (link_to (after_packet state first) m.to) = after_packet-keeps state first m.to within in
    record {
      from = is.from;
      to = within;
      set = is.set;
      ack = is.ack ∙ keeps.accepted;
      carried = elim is.carried [ inl bare ↦ inl bare | inr kept ↦ inr (rw (keeps.released, keeps.kept) at kept) ];
    }

IsOf-turn : (ms : List Message) (state : EndpointState) → IsInTurn state ms → All (IsOf state) ms
IsOf-turn [] state turn = All-nil _
IsOf-turn (m ∷ ms) state turn =
    All-cons (IsOf state) m ms (rw turn.1 (packet_to-of state m.to turn.0))
    (All-weaker (IsOf (after_packet state m)) (IsOf state) (λ x is. IsOf-before state m x is) ms (IsOf-turn ms (after_packet state m) turn.2))

pub emitted_is_kept : EmittedIsKept
emitted_is_kept state owed known = IsOf-turn (emitted state owed) state (emission_is_in_turn state owed known)

-- a message has a number of its kind where it is not bare
IsSeq-numbered : (content : Content) (seq : ℕ) → content ≢ Bare → 1 ≤ seq → seq < 2 ^ 64 → IsSeq (kind_of content) seq
IsSeq-numbered Bare seq some low high = absurd (some refl)
IsSeq-numbered content seq some low high = record { low = low; high = high }

-- a number and a content that fit on the wire
record IsCarriedInRange (seq : ℕ) (content : Content) : Type 0 where
  number : IsSeq (kind_of content) seq
  fields : IsContent content

bare_in_range : (seq : ℕ) (content : Content) → seq ≡ 0 → content ≡ Bare → IsCarriedInRange seq content
bare_in_range seq content none bare = rw (none, bare) (record { number = refl; fields = tt })

kept_in_range : (link : LinkState Content) (seq : ℕ) (content : Content) → IsLinkInRange link → IsKeptUnder link seq content → IsCarriedInRange seq content
kept_in_range link seq content range kept =
    let P : Content → Type 0 = λ c. IsContent c × (c ≢ Bare) in
    let known : P content = All-slice_get P (unacknowledged link) (seq - link.released - 1) content range.kept kept.1 in
    let index : seq - link.released - 1 < length (unacknowledged link) = slice_get_within _ _ _ kept.1 in
    let last : seq ≤ NUMBER_MAX = omega (arith, index, kept.0, range.given, last_number-unacknowledged link) in
    record { number = IsSeq-numbered content seq known.1 (omega (arith, kept.0)) (omega (arith, last)); fields = known.0 }

IsInRange-of : (state : EndpointState) (m : Message) → IsEndpointInRange state → IsOf state m → IsInRange m
IsInRange-of state m range is =
    let link : IsLinkInRange (link_to state m.to) = All-get_or IsLinkInRange state.links m.to no_message is.to range.links in
    let carried : IsCarriedInRange m.seq m.content =
    elim is.carried [ inl bare ↦ bare_in_range m.seq m.content bare.0 bare.1 | inr kept ↦ kept_in_range (link_to state m.to) m.seq m.content link kept ] in
    record {
      from = omega (arith, is.from, range.me);
      to = omega (arith, is.to, range.actors);
      set = omega (arith, is.set, range.set);
      seq = carried.number;
      ack = omega (arith, is.ack, link.accepted);
      content = carried.fields;
    }

pub emitted_is_in_range : EmittedIsInRange
emitted_is_in_range state owed range known =
    All-weaker (IsOf state) IsInRange (λ m is. IsInRange-of state m range is) (emitted state owed) (emitted_is_kept state owed known)
