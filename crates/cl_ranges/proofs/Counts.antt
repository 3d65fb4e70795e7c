-- Where a link has numbers for what it is given, its list stays short enough.
use Rattle.std.proofs.Common.{◌≡◌, ℕ, ◌+◌, ◌≤◌, ◌||◌, ◌⊎◌, Bool, true, false, cond, eqb, ltb, inl, inr, List, [], ◌∷◌, ◌++◌, length, map, filter, refl, sym, ◌∙◌, subst, arith}
use Rattle.std.specs.List.{count_by, list_any}
use Rattle.std.proofs.lemmas.Bool.{cond_both, eqb-true, ltb-false, or_parts}
use Rattle.std.proofs.lemmas.List.{length-append, length-map}
use Rattle.std.proofs.lemmas.List.Sums.{length-filter}
use Rattle.cl_front.proofs.Busy.{list_any-count_by}
use Rattle.cl_endpoint.specs.declared.limits.TheConstants.{ACTORS}
use Rattle.cl_endpoint.specs.Endpoint.{EndpointState, link_to, is_spent_to}
use Rattle.cl_endpoint.specs.Laws.{contents_to}
use Rattle.cl_link.specs.declared.link.TheConstants.{NUMBER_MAX}
use Rattle.cl_link.specs.LinkState.{last_number}
use Rattle.cl_runs.specs.Queues.{Tagged, sent_to, tagged, contents_of}
use Rattle.cl_steps.specs.declared.steps.Outgoing.{Outgoing}

-- a receiver passes the test, or nothing goes to it
none_or_passes : (test : ℕ → Bool) (to : ℕ) (receivers : List ℕ) → list_any test receivers ≡ false → (list_any (λ other. eqb other to) receivers ≡ false) ⊎ (test to ≡ false)
none_or_passes test to [] is = inl refl
none_or_passes test to (first ∷ rest) is =
    let both = or_parts (test first) (list_any test rest) is in
    let others = none_or_passes test to rest both.1 in
    elim (eqb first to) as (λ b. (eqb first to ≡ b) → ((b || list_any (λ other. eqb other to) rest) ≡ false) ⊎ (test to ≡ false)) [
      | true ↦ λ here. inr (subst (λ n. test n ≡ false) (eqb-true first to here) both.0)
      | false ↦ λ elsewhere. others
    ]
    refl

-- nothing goes to who is no receiver
none_counted : (to : ℕ) (receivers : List ℕ) → list_any (λ other. eqb other to) receivers ≡ false → count_by (λ other. eqb other to) receivers ≤ 0
none_counted to receivers none = ltb-false 0 (count_by (λ other. eqb other to) receivers) (sym (list_any-count_by (λ other. eqb other to) receivers) ∙ none)

same_filter : (to : ℕ) (sends : List Outgoing) → length (filter (λ other. eqb other to) (map (λ (message : Outgoing). message.to) sends)) ≡ length (filter (λ (send : Outgoing). eqb send.to to) sends)
same_filter to [] = refl
same_filter to (send ∷ sends) =
    elim (eqb send.to to) as (λ b. length (cond b (send.to ∷ filter (λ other. eqb other to) (map (λ (message : Outgoing). message.to) sends)) (filter (λ other. eqb other to) (map (λ (message : Outgoing). message.to) sends)))
    ≡ length (cond b (send ∷ filter (λ (one : Outgoing). eqb one.to to) sends) (filter (λ (one : Outgoing). eqb one.to to) sends))) [
      | true ↦ (let rest = same_filter to sends in omega (arith, rest))
      | false ↦ same_filter to sends
    ]

-- as many are sent to an actor as it stands among the receivers
count_contents : (to : ℕ) (sends : List Outgoing) → length (contents_to to sends) ≡ count_by (λ other. eqb other to) (map (λ (message : Outgoing). message.to) sends)
count_contents to sends =
    length-map (filter (λ (send : Outgoing). eqb send.to to) sends) (λ (send : Outgoing). send.payload)
    ∙ (sym (same_filter to sends) ∙ length-filter (λ other. eqb other to) (map (λ (message : Outgoing). message.to) sends))

fewer_sent : (to : ℕ) (sends : List Outgoing) → length (sent_to to sends) ≤ length (contents_to to sends)
fewer_sent to sends = cond_both (ltb to ACTORS) (contents_to to sends) [] (λ list. length list ≤ length (contents_to to sends)) (λ actor. omega arith) (λ none. omega arith)

-- what was given stays within the numbers of the link
pub stays_few : (end : EndpointState) (to tag : ℕ) (given : List Tagged) (sends : List Outgoing) → last_number (link_to end to) ≡ length (contents_of given) → length given ≤ NUMBER_MAX →
    is_spent_to end (map (λ (message : Outgoing). message.to) sends) ≡ false → length (given ++ tagged tag (sent_to to sends)) ≤ NUMBER_MAX
unfolding is_spent_to
stays_few end to tag given sends last few unspent =
    let receivers : List ℕ = map (λ (message : Outgoing). message.to) sends in
    let sum = length-append given (tagged tag (sent_to to sends)) in
    let one = length-map (sent_to to sends) (λ content. let one : Tagged = record { content = content; tag = tag } in one) in
    let two = length-map given (λ (message : Tagged). message.content) in
    let three = fewer_sent to sends in
    let four = count_contents to sends in
    elim (none_or_passes (λ n. ltb NUMBER_MAX (last_number (link_to end n) + count_by (λ other. eqb other n) receivers)) to receivers unspent) [
      | inl none ↦ (let zero = none_counted to receivers none in omega (arith, sum, one, two, three, four, zero, few))
      | inr passes ↦ (let most = ltb-false NUMBER_MAX (last_number (link_to end to) + count_by (λ other. eqb other to) receivers) passes in omega (arith, sum, one, two, three, four, most, last))
    ]
