-- What each call of an endpoint makes of its links.
use Rattle.std.proofs.Common.{◌≡◌, ℕ, ◌<◌, ◌≤◌, cond, eqb, List, [], ◌∷◌, ◌++◌, length, map, get_or, refl, ap, sym, ◌∙◌, subst, subst₂, Option, inl, inr, arith}
use Rattle.std.specs.List.{fold}
use Rattle.std.proofs.lemmas.Bool.{eqb-true, eqb-false, eq-eqb, ne_eqb, cond_both, cases_lt}
use Rattle.std.proofs.lemmas.Grind.{get_or-set_at}
use Rattle.std.proofs.lemmas.List.{get_or-set_other, get_or-map, get_or_past, set_past, length-set, length-map}
use Rattle.cl_link.specs.LinkState.{LinkState, no_message, last_number, unacknowledged, after_sent, after_again, after_drop_all}
use Rattle.cl_link.proofs.LinkStates.{released-after_sent, accepted-after_sent, unacknowledged-after_sent, last_number-after_sent, released-after_again, accepted-after_again, unacknowledged-after_again, last_number-after_again}
use Rattle.cl_roster.specs.declared.entry.RosterEntry.{RosterEntry}
use Rattle.cl_roster.specs.declared.entry.RosterEntry.TheVariants.{Stopped, Repaired}
use Rattle.cl_roster.specs.Roster.{is_stop_of}
use Rattle.cl_wire.specs.Message.{Content, Message}
use Rattle.cl_endpoint.specs.Endpoint.{EndpointState, link_to, with_link, received, link_after, after_receive, after_tick, after_note}
use Rattle.cl_endpoint.specs.Emission.{after_packet, emitted, after_emit}

-- another endpoint of the same actor, in a cluster of the same size, with as many links
pub record HasSamePlace (before after : EndpointState) : Type 0 where
  pub me : after.me ≡ before.me
  pub nodes : after.nodes ≡ before.nodes
  pub spares : after.spares ≡ before.spares
  pub links : length after.links ≡ length before.links

-- one which has also noted the same of the roster
pub record HasSameFrame (before after : EndpointState) : Type 0 where
  pub me : after.me ≡ before.me
  pub nodes : after.nodes ≡ before.nodes
  pub spares : after.spares ≡ before.spares
  pub noted : after.noted ≡ before.noted
  pub links : length after.links ≡ length before.links

-- a link that differs in what is due alone
pub record IsAlike (before after : LinkState Content) : Type 0 where
  pub released : after.released ≡ before.released
  pub kept : unacknowledged after ≡ unacknowledged before
  pub last : last_number after ≡ last_number before
  pub accepted : after.accepted ≡ before.accepted

pub frame_same : (e : EndpointState) → HasSameFrame e e
frame_same e = record { me = refl; nodes = refl; spares = refl; noted = refl; links = refl }

pub frame_then : {a b c : EndpointState} → HasSameFrame a b → HasSameFrame b c → HasSameFrame a c
frame_then first then = record {
  me = then.me ∙ first.me;
  nodes = then.nodes ∙ first.nodes;
  spares = then.spares ∙ first.spares;
  noted = then.noted ∙ first.noted;
  links = then.links ∙ first.links;
}

pub frame-with_link : (e : EndpointState) (peer : ℕ) (link : LinkState Content) → HasSameFrame e (with_link e peer link)
frame-with_link e peer link = record { me = refl; nodes = refl; spares = refl; noted = refl; links = length-set e.links peer link }

pub alike_same : (s : LinkState Content) → IsAlike s s
alike_same s = record { released = refl; kept = refl; last = refl; accepted = refl }

pub alike_then : {a b c : LinkState Content} → IsAlike a b → IsAlike b c → IsAlike a c
alike_then first then = record {
  released = then.released ∙ first.released;
  kept = then.kept ∙ first.kept;
  last = then.last ∙ first.last;
  accepted = then.accepted ∙ first.accepted;
}

pub alike-after_sent : (s : LinkState Content) (number : ℕ) → IsAlike s (after_sent s number)
alike-after_sent s number = record {
  released = released-after_sent s number;
  kept = unacknowledged-after_sent s number;
  last = last_number-after_sent s number;
  accepted = accepted-after_sent s number;
}

pub alike-after_again : (s : LinkState Content) → IsAlike s (after_again s)
alike-after_again s = record {
  released = released-after_again s;
  kept = unacknowledged-after_again s;
  last = last_number-after_again s;
  accepted = accepted-after_again s;
}

-- one link is another one
pub link_to-with_link : (e : EndpointState) (at : ℕ) (link : LinkState Content) (peer : ℕ) → at < length e.links → link_to (with_link e at link) peer ≡ cond (eqb peer at) link (link_to e peer)
link_to-with_link e at link peer within =
    cond_both (eqb peer at) link (link_to e peer) (λ one. link_to (with_link e at link) peer ≡ one)
    (λ here. get_or-set_at e.links at peer link no_message (eqb-true peer at here) within)
    (λ elsewhere. get_or-set_other e.links at peer link no_message (eqb-false peer at elsewhere))

pub link_to-past : (e : EndpointState) (at : ℕ) (link : LinkState Content) (peer : ℕ) → length e.links ≤ at → link_to (with_link e at link) peer ≡ link_to e peer
link_to-past e at link peer past = ap (λ ls. get_or ls peer no_message) (set_past e.links at link past)

-- a packet comes
pub link_to-after_receive : (e : EndpointState) (from seq ack peer : ℕ) → from < length e.links → link_to (after_receive e from seq ack) peer ≡ cond (eqb peer from) (link_after (received e from seq) (link_to e peer) seq ack) (link_to e peer)
unfolding after_receive
link_to-after_receive e from seq ack peer within =
    link_to-with_link e from (link_after (received e from seq) (link_to e from) seq ack) peer within
    ∙ cond_both (eqb peer from) (link_after (received e from seq) (link_to e peer) seq ack) (link_to e peer)
    (λ one. cond (eqb peer from) (link_after (received e from seq) (link_to e from) seq ack) (link_to e peer) ≡ one)
    (λ here. rw here (ap (λ n. link_after (received e from seq) (link_to e n) seq ack) (sym (eqb-true peer from here))))
    (λ elsewhere. rw elsewhere refl)

pub frame-after_receive : (e : EndpointState) (from seq ack : ℕ) → HasSameFrame e (after_receive e from seq ack)
unfolding after_receive
frame-after_receive e from seq ack = frame-with_link e from _

-- time passes
pub frame-after_tick : (e : EndpointState) → HasSameFrame e (after_tick e)
unfolding after_tick
frame-after_tick e = record { me = refl; nodes = refl; spares = refl; noted = refl; links = length-map e.links after_again }

pub alike-after_tick : (e : EndpointState) (peer : ℕ) → IsAlike (link_to e peer) (link_to (after_tick e) peer)
unfolding after_tick
alike-after_tick e peer = elim (cases_lt peer (length e.links)) [
  | inl within ↦ subst (IsAlike (link_to e peer)) (sym (get_or-map after_again e.links peer no_message no_message within)) (alike-after_again (link_to e peer))
  | inr past ↦ subst₂ IsAlike (sym (get_or_past e.links peer no_message past)) (sym (get_or_past (map after_again e.links) peer no_message (omega (arith, length-map e.links after_again)))) (alike_same no_message)
]

-- a packet is emitted
pub frame-after_packet : (e : EndpointState) (m : Message) → HasSameFrame e (after_packet e m)
unfolding after_packet
frame-after_packet e m = frame-with_link e m.to _

pub alike-after_packet : (e : EndpointState) (m : Message) (peer : ℕ) → IsAlike (link_to e peer) (link_to (after_packet e m) peer)
unfolding after_packet
alike-after_packet e m peer = elim (cases_lt m.to (length e.links)) [
  | inl within ↦ subst (IsAlike (link_to e peer)) (sym (link_to-with_link e m.to _ peer within))
      (cond_both (eqb peer m.to) (after_sent (link_to e m.to) m.seq) (link_to e peer) (IsAlike (link_to e peer))
      (λ here. subst (λ n. IsAlike (link_to e n) (after_sent (link_to e m.to) m.seq)) (sym (eqb-true peer m.to here)) (alike-after_sent (link_to e m.to) m.seq))
      (λ elsewhere. alike_same (link_to e peer)))
  | inr past ↦ subst (IsAlike (link_to e peer)) (sym (link_to-past e m.to _ peer past)) (alike_same (link_to e peer))
]

-- packets are emitted
frame-after_packets : (packets : List Message) (e : EndpointState) → HasSameFrame e (fold after_packet e packets)
frame-after_packets [] e = frame_same e
frame-after_packets (m ∷ packets) e = frame_then (frame-after_packet e m) (frame-after_packets packets (after_packet e m))

alike-after_packets : (packets : List Message) (e : EndpointState) (peer : ℕ) → IsAlike (link_to e peer) (link_to (fold after_packet e packets) peer)
alike-after_packets [] e peer = alike_same (link_to e peer)
alike-after_packets (m ∷ packets) e peer = alike_then (alike-after_packet e m peer) (alike-after_packets packets (after_packet e m) peer)

pub frame-after_emit : (e : EndpointState) (owed : Option ℕ) → HasSameFrame e (after_emit e owed)
unfolding after_emit
frame-after_emit e owed = frame-after_packets (emitted e owed) e

pub alike-after_emit : (e : EndpointState) (owed : Option ℕ) (peer : ℕ) → IsAlike (link_to e peer) (link_to (after_emit e owed) peer)
unfolding after_emit
alike-after_emit e owed peer = alike-after_packets (emitted e owed) e peer

-- an entry of the roster is noted

pub noted-after_note : (e : EndpointState) (entry : RosterEntry) → (after_note e entry).noted ≡ e.noted ++ entry ∷ []
unfolding after_note
noted-after_note e (Stopped n) = refl
noted-after_note e (Repaired v n) = refl

pub place-after_note : (e : EndpointState) (entry : RosterEntry) → HasSamePlace e (after_note e entry)
unfolding after_note
place-after_note e (Stopped n) = record { me = refl; nodes = refl; spares = refl; links = length-set e.links n (after_drop_all (link_to e n)) }
place-after_note e (Repaired v n) = record { me = refl; nodes = refl; spares = refl; links = refl }

-- the link to a node that has stopped keeps nothing any more
pub link_to-after_note : (e : EndpointState) (entry : RosterEntry) (peer : ℕ) → link_to (after_note e entry) peer
    ≡ cond (is_stop_of peer entry) (after_drop_all (link_to e peer)) (link_to e peer)
unfolding after_note after_drop_all
link_to-after_note e (Repaired v n) peer = refl
link_to-after_note e (Stopped n) peer = elim (cases_lt n (length e.links)) [
  | inl within ↦ link_to-with_link e n (after_drop_all (link_to e n)) peer within
      ∙ cond_both (eqb peer n) (after_drop_all (link_to e n)) (link_to e peer)
      (λ one. one ≡ cond (eqb n peer) (after_drop_all (link_to e peer)) (link_to e peer))
      (λ here. let same : peer ≡ n = eqb-true peer n here in
      rw (eq-eqb n peer (sym same)) (ap (λ at. after_drop_all (link_to e at)) (sym same)))
      (λ elsewhere. rw (ne_eqb n peer (λ same. eqb-false peer n elsewhere (sym same))) refl)
  | inr past ↦ link_to-past e n (after_drop_all (link_to e n)) peer past
      ∙ cond_both (eqb n peer) (after_drop_all (link_to e peer)) (link_to e peer) (λ one. link_to e peer ≡ one)
      (λ here. let none : link_to e peer ≡ no_message = get_or_past e.links peer no_message (omega (arith, eqb-true n peer here)) in
      subst (λ link. link ≡ after_drop_all link) (sym none) refl)
      (λ elsewhere. refl)
]
