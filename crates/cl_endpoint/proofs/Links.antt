-- The link to an actor, after the link to one was replaced.
use Rattle.std.proofs.Common.{◌≡◌, ◌≢◌, ℕ, ◌<◌, length, ap}
use Rattle.std.proofs.lemmas.List.{get_or-set_same, get_or-set_other, set-get_or, length-set}
use Rattle.cl_link.specs.LinkState.{LinkState, no_message}
use Rattle.cl_wire.specs.Message.{Content}
use Rattle.cl_endpoint.specs.Endpoint.{EndpointState, link_to, with_link}

pub link_to-with_link : (state : EndpointState) (peer : ℕ) (link : LinkState Content) → peer < length state.links → link_to (with_link state peer link) peer ≡ link
link_to-with_link state peer link within = get_or-set_same _ _ _ _ within

pub link_to-with_other : (state : EndpointState) (peer other : ℕ) (link : LinkState Content) → other ≢ peer → link_to (with_link state peer link) other ≡ link_to state other
link_to-with_other state peer other link apart = get_or-set_other state.links peer other link no_message apart

pub with_link-link_to : (state : EndpointState) (peer : ℕ) → with_link state peer (link_to state peer) ≡ state
with_link-link_to state peer = ap (λ links. record state { links = links }) (set-get_or _ _ _)

pub links-with_link : (state : EndpointState) (peer : ℕ) (link : LinkState Content) → length (with_link state peer link).links ≡ length state.links
links-with_link state peer link = length-set _ _ _
