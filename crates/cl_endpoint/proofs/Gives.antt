-- Giving messages, link by link.
use Rattle.std.proofs.Common.{◌≡◌, ◌≢◌, ℕ, suc, ◌+◌, ◌<◌, ◌≤◌, Bool, true, false, ◌||◌, nat_lt, cond, ◌==◌, List, [], ◌∷◌, ◌++◌, length, map, get_or, take, drop, refl, ap, sym, ◌∙◌, arith, rules, inl, inr}
use Rattle.std.proofs.lemmas.Bool.{eq-eqb}
use Rattle.std.proofs.lemmas.Bool.Decides.{eqb_tells}
use Rattle.std.proofs.lemmas.List.{map-append, map-id, take-append-drop}
use Rattle.std.proofs.lemmas.List.Elements.{All-get_or, All-nil, All-push, All-weaker}
use Rattle.std.proofs.lemmas.List.Folds.{list_any_none, list_any-append}
use Rattle.std.proofs.lemmas.List.Sums.{fold-append, sum_by-append, sum_by-cons}
use Rattle.std.proofs.Math.Seq.{drop-cons}
use Rattle.std.specs.List.{fold, All, count_by, list_any}
use Rattle.cl_link.specs.declared.link.TheConstants.{NUMBER_MAX}
use Rattle.cl_link.specs.LinkState.{LinkState, last_number, after_send}
use Rattle.cl_link.proofs.LinkStates.{last_number-after_send}
use Rattle.cl_steps.specs.declared.steps.Outgoing.{Outgoing}
use Rattle.cl_wire.specs.Message.{Content}
use Rattle.cl_endpoint.specs.Endpoint.{EndpointState, link_to, after_give, after_gives, is_spent_to, is_spent_by}
use Rattle.cl_endpoint.specs.Laws.{contents_to, GivingIsSending}
use Rattle.cl_endpoint.proofs.Links.{link_to-with_link, link_to-with_other, links-with_link}

pub links-after_give : (state : EndpointState) (to : ℕ) (content : Content) → length (after_give state to content).links ≡ length state.links
unfolding after_give
links-after_give state to content = links-with_link state to _

link_to-after_give : (state : EndpointState) (to peer : ℕ) (content : Content) → to ≡ peer → peer < length state.links → link_to (after_give state to content) peer ≡ after_send (link_to state peer) content
unfolding after_give
link_to-after_give state to peer content same within = rw same (link_to-with_link state peer _ within)

link_to-after_give_other : (state : EndpointState) (to peer : ℕ) (content : Content) → to ≢ peer → link_to (after_give state to content) peer ≡ link_to state peer
unfolding after_give
link_to-after_give_other state to peer content apart = link_to-with_other state to peer _ (λ e. apart (sym e))

-- the link to an actor is given the messages to that actor, in order
pub gives_send : (sends : List Outgoing) (state : EndpointState) (peer : ℕ) → peer < length state.links →
    link_to (after_gives state sends) peer ≡ fold after_send (link_to state peer) (contents_to peer sends)
unfolding after_gives
gives_send [] state peer within = refl
gives_send (s ∷ sends) state peer within =
    let next : EndpointState = after_give state s.to s.payload in
    let later : link_to (after_gives next sends) peer ≡ fold after_send (link_to next peer) (contents_to peer sends) = gives_send sends next peer (rw (links-after_give state s.to s.payload) within) in
    let from_link : LinkState Content → LinkState Content = λ (link : LinkState Content). fold after_send link (contents_to peer sends) in
    elim (eqb_tells s.to peer) [
      | inl h ↦
          (let first : fold after_send (link_to state peer) (contents_to peer (s ∷ sends)) ≡ from_link (after_send (link_to state peer) s.payload) = rw h.0 refl in
          later ∙ ap from_link (link_to-after_give state s.to peer s.payload h.1 within) ∙ sym first)
      | inr h ↦
          (let skipped : fold after_send (link_to state peer) (contents_to peer (s ∷ sends)) ≡ from_link (link_to state peer) = rw h.0 refl in
          later ∙ ap from_link (link_to-after_give_other state s.to peer s.payload h.1) ∙ sym skipped)
    ]

pub giving_is_sending : GivingIsSending
giving_is_sending state sends peer within = gives_send sends state peer within

pub links-after_gives : (sends : List Outgoing) (state : EndpointState) → length (after_gives state sends).links ≡ length state.links
unfolding after_gives
links-after_gives [] state = refl
links-after_gives (s ∷ sends) state = links-after_gives sends (after_give state s.to s.payload) ∙ links-after_give state s.to s.payload

-- how many of the messages are to an actor
abbrev pub count_to : ℕ → List Outgoing → ℕ
count_to peer sends = count_by (λ other. other == peer) (map (λ send. send.to) sends)

last_number-after_give : (state : EndpointState) (to peer : ℕ) (content : Content) → peer < length state.links →
    last_number (link_to (after_give state to content) peer) ≡ cond (to == peer) 1 0 + last_number (link_to state peer)
last_number-after_give state to peer content within =
    elim (eqb_tells to peer) [
      | inl h ↦ (let here : link_to (after_give state to content) peer ≡ after_send (link_to state peer) content = link_to-after_give state to peer content h.1 within in
          rw (h.0, here) (omega (arith, last_number-after_send (link_to state peer) content)))
      | inr h ↦ (let here : link_to (after_give state to content) peer ≡ link_to state peer = link_to-after_give_other state to peer content h.1 in
          rw (h.0, here) (omega arith))
    ]

-- each message to an actor takes one number
pub last_number-after_gives : (sends : List Outgoing) (state : EndpointState) (peer : ℕ) → peer < length state.links →
    last_number (link_to (after_gives state sends) peer) ≡ last_number (link_to state peer) + count_to peer sends
unfolding after_gives
last_number-after_gives [] state peer within = omega arith
last_number-after_gives (s ∷ sends) state peer within =
    let next : EndpointState = after_give state s.to s.payload in
    let later : last_number (link_to (after_gives next sends) peer) ≡ last_number (link_to next peer) + count_to peer sends = last_number-after_gives sends next peer (rw (links-after_give state s.to s.payload) within) in
    omega (arith, later, last_number-after_give state s.to peer s.payload within, sum_by-cons (λ other. cond (other == peer) 1 0) s.to (map (λ send. send.to) sends))

-- the messages that were given so far, and the numbers of their links
pub record HasGiven (start now : EndpointState) (given : List Outgoing) : Type 0 where
  pub state : now ≡ after_gives start given
  pub fits : All (λ to. (to < length start.links) × (last_number (link_to now to) ≤ NUMBER_MAX)) (map (λ send. send.to) given)

pub HasGiven-none : (state : EndpointState) → HasGiven state state []
unfolding after_gives
HasGiven-none state = record { state = refl; fits = All-nil _ }

-- a number that fits still fits where another link has one message more, and where its own number fits after it
fits-after_give : (now new : EndpointState) (to : ℕ) (content : Content) (limit peer : ℕ) → new ≡ after_give now to content → last_number (link_to new to) ≤ limit →
    last_number (link_to now peer) ≤ limit → last_number (link_to new peer) ≤ limit
fits-after_give now new to content limit peer step within fits =
    elim (eqb_tells to peer) [
      | inl h ↦ (rw (← h.1) within)
      | inr h ↦ (rw (step, link_to-after_give_other now to peer content h.1) fits)
    ]

pub HasGiven-one : (start now new : EndpointState) (given : List Outgoing) (send : Outgoing) → HasGiven start now given → new ≡ after_give now send.to send.payload →
    send.to < length start.links → last_number (link_to new send.to) ≤ NUMBER_MAX → HasGiven start new (given ++ send ∷ [])
unfolding after_gives
HasGiven-one start now new given send before step in_links within =
    let P : ℕ → Type 0 = λ to. (to < length start.links) × (last_number (link_to now to) ≤ NUMBER_MAX) in
    let Q : ℕ → Type 0 = λ to. (to < length start.links) × (last_number (link_to new to) ≤ NUMBER_MAX) in
    let others : All Q (map (λ send. send.to) given) =
    All-weaker P Q (λ to h. (h.0, fits-after_give now new send.to send.payload NUMBER_MAX to step within h.1)) _ before.fits in
    record {
      state = rw (fold-append, ← before.state) step;
      fits = rw map-append (All-push Q _ send.to others (in_links, within));
    }

not_above : (limit n : ℕ) → n ≤ limit → nat_lt limit n ≡ false
not_above limit n within = search rules

above : (limit n : ℕ) → limit < n → nat_lt limit n ≡ true
above limit n past = search rules

or-true : (b : Bool) → (b || true) ≡ true
or-true b = elim b as (λ b. (b || true) ≡ true) [ true ↦ refl | false ↦ refl ]

-- what the number of a link has become, by the messages that were given
HasGiven-number : (start now : EndpointState) (given : List Outgoing) (to : ℕ) → HasGiven start now given → to < length start.links →
    last_number (link_to now to) ≡ last_number (link_to start to) + count_to to given
HasGiven-number start now given to all within = ap (λ state. last_number (link_to state to)) all.state ∙ last_number-after_gives given start to within

-- where all were given, they fit
pub HasGiven-fits : (start now : EndpointState) (given : List Outgoing) → HasGiven start now given → is_spent_by start given ≡ false
unfolding is_spent_to
HasGiven-fits start now given all =
    let P : ℕ → Type 0 = λ to. (to < length start.links) × (last_number (link_to now to) ≤ NUMBER_MAX) in
    let Q : ℕ → Type 0 = λ to. nat_lt NUMBER_MAX (last_number (link_to start to) + count_to to given) ≡ false in
    list_any_none _ _ (All-weaker P Q (λ to h. not_above _ _ (omega (arith, h.1, HasGiven-number start now given to all h.0))) _ all.fits)

-- a message to a link at its last number does not fit
pub HasGiven-spent : (start now : EndpointState) (given rest : List Outgoing) (send : Outgoing) → HasGiven start now given → send.to < length start.links →
    last_number (link_to now send.to) ≡ NUMBER_MAX → is_spent_by start (given ++ send ∷ rest) ≡ true
unfolding is_spent_to
HasGiven-spent start now given rest send before in_links last =
    let to_of : Outgoing → ℕ = λ s. s.to in
    let one : ℕ → ℕ = λ other. cond (other == send.to) 1 0 in
    let p : ℕ → Bool = λ to. nat_lt NUMBER_MAX (last_number (link_to start to) + count_to to (given ++ send ∷ rest)) in
    let itself : one send.to ≡ 1 = ap (λ b. cond b 1 0) (eq-eqb send.to send.to refl) in
    let counted : count_to send.to (given ++ send ∷ rest) ≡ count_to send.to given + (1 + count_to send.to rest) =
    ap (count_by (λ other. other == send.to)) (map-append to_of given (send ∷ rest)) ∙ sum_by-append one (map to_of given) (send.to ∷ map to_of rest)
    ∙ ap (λ n. count_to send.to given + n) (sum_by-cons one send.to (map to_of rest) ∙ ap (λ n. n + count_to send.to rest) itself) in
    let here : p send.to ≡ true = above _ _ (omega (arith, counted, last, HasGiven-number start now given send.to before in_links)) in
    ap (list_any p) (map-append to_of given (send ∷ rest)) ∙ list_any-append p (map to_of given) (send.to ∷ map to_of rest)
    ∙ ap (λ b. list_any p (map to_of given) || (b || list_any p (map to_of rest))) here ∙ or-true (list_any p (map to_of given))

-- the messages so far, the one that is given now, and the others
pub around : (all given : List Outgoing) (send : Outgoing) → given ≡ take (length given) all → length given < length all → send ≡ get_or all (length given) send →
    all ≡ given ++ send ∷ drop (suc (length given)) all
around all given send first within here =
    sym (take-append-drop (length given) all) ∙ ap (λ front. front ++ drop (length given) all) (sym first)
    ∙ ap (λ back. given ++ back) (drop-cons all (length given) send within ∙ ap (λ x. x ∷ drop (suc (length given)) all) (sym here))

-- the receiver of a message is one of those that are known
pub known_receiver : (all : List Outgoing) (i actors links : ℕ) (send : Outgoing) → i < length all → send ≡ get_or all i send → All (λ s. s.to < actors) all → links ≡ actors → send.to < links
known_receiver all i actors links send within here known same =
    let P : Outgoing → Type 0 = λ s. s.to < actors in
    rw (same, here) (All-get_or P all i send within known)

-- the same, where the others are those that come after it
pub HasGiven-refused : (start now : EndpointState) (all given : List Outgoing) (send : Outgoing) → HasGiven start now given → map (λ s. s) given ≡ take (length given) all → length given < length all →
    send ≡ get_or all (length given) send → send.to < length start.links → last_number (link_to now send.to) ≡ NUMBER_MAX → is_spent_by start all ≡ true
HasGiven-refused start now all given send before first within here in_links last =
    rw (around all given send (sym (map-id given) ∙ first) within here) (HasGiven-spent start now given (drop (suc (length given)) all) send before in_links last)

pub HasGiven-all : (start now : EndpointState) (all given : List Outgoing) → HasGiven start now given → map (λ s. s) given ≡ all → (now ≡ after_gives start all) × (is_spent_by start all ≡ false)
HasGiven-all start now all given before whole = rw (← whole, map-id {A = Outgoing}) ((before.state, HasGiven-fits start now given before))
