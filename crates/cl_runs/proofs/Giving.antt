-- Giving messages: each link is given those for its peer, in order.
use Rattle.std.proofs.Common.{◌≡◌, ℕ, ltb, List, [], ◌∷◌, ◌++◌, length, refl, sym, ◌∙◌, subst, arith, append_assoc}
use Rattle.std.specs.List.{fold}
use Rattle.std.proofs.lemmas.Bool.{ltb-true, ltb-false, cond_both}
use Rattle.std.proofs.lemmas.List.{get_or_past, append-nil}
use Rattle.cl_link.specs.LinkState.{LinkState, no_message, after_send}
use Rattle.cl_link.specs.LinkPair.{LinkOrder}
use Rattle.cl_link.proofs.LinkOrders.{order_send}
use Rattle.cl_link.proofs.LinkStates.{accepted-after_send, released-after_send}
use Rattle.cl_steps.specs.declared.steps.Outgoing.{Outgoing}
use Rattle.cl_wire.specs.Message.{Content}
use Rattle.cl_endpoint.specs.declared.limits.TheConstants.{ACTORS}
use Rattle.cl_endpoint.specs.Endpoint.{EndpointState, link_to, after_give, after_gives}
use Rattle.cl_endpoint.specs.Laws.{contents_to}
use Rattle.cl_endpoint.proofs.Gives.{gives_send}
use Rattle.cl_runs.specs.Queues.{sent_to}
use Rattle.cl_runs.proofs.Calls.{HasSameFrame, frame_same, frame_then, frame-with_link}

frame-after_give : (e : EndpointState) (to : ℕ) (content : Content) → HasSameFrame e (after_give e to content)
unfolding after_give
frame-after_give e to content = frame-with_link e to _

pub frame-after_gives : (sends : List Outgoing) (e : EndpointState) → HasSameFrame e (after_gives e sends)
unfolding after_gives
frame-after_gives [] e = frame_same e
frame-after_gives (send ∷ sends) e = frame_then (frame-after_give e send.to send.payload) (frame-after_gives sends (after_give e send.to send.payload))

-- the link to an actor is given what that actor is sent
pub link_to-after_gives : (sends : List Outgoing) (e : EndpointState) (peer : ℕ) → length e.links ≡ ACTORS → link_to (after_gives e sends) peer ≡ fold after_send (link_to e peer) (sent_to peer sends)
link_to-after_gives sends e peer all =
    cond_both (ltb peer ACTORS) (contents_to peer sends) [] (λ contents. link_to (after_gives e sends) peer ≡ fold after_send (link_to e peer) contents)
    (λ is. gives_send sends e peer (omega (arith, ltb-true peer ACTORS is)))
    (λ nobody. get_or_past (after_gives e sends).links peer no_message (omega (arith, ltb-false peer ACTORS nobody, (frame-after_gives sends e).links))
    ∙ sym (get_or_past e.links peer no_message (omega (arith, ltb-false peer ACTORS nobody))))

-- nobody is sent anything where nothing is sent
pub sent_to-nothing : (peer : ℕ) → sent_to peer [] ≡ []
sent_to-nothing peer = cond_both (ltb peer ACTORS) [] [] (λ (contents : List Content). contents ≡ []) (λ is. refl) (λ nobody. refl)

pub accepted-after_sends : (contents : List Content) (s : LinkState Content) → (fold after_send s contents).accepted ≡ s.accepted
accepted-after_sends [] s = refl
accepted-after_sends (content ∷ contents) s = accepted-after_sends contents (after_send s content) ∙ accepted-after_send s content

pub released-after_sends : (contents : List Content) (s : LinkState Content) → (fold after_send s contents).released ≡ s.released
released-after_sends [] s = refl
released-after_sends (content ∷ contents) s = released-after_sends contents (after_send s content) ∙ released-after_send s content

-- the sender is given messages
pub order_sends : (contents given : List Content) (sender receiver : LinkState Content) → LinkOrder given sender receiver [] →
    LinkOrder (given ++ contents) (fold after_send sender contents) receiver []
order_sends [] given sender receiver order = subst (λ all. LinkOrder all sender receiver []) (sym (append-nil given)) order
order_sends (content ∷ contents) given sender receiver order =
    subst (λ all. LinkOrder all (fold after_send (after_send sender content) contents) receiver []) (append_assoc given (content ∷ []) contents)
    (order_sends contents (given ++ content ∷ []) (after_send sender content) receiver (order_send order content))
