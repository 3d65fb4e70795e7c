-- What an actor sends in an event stands at the ends of its ways after it.
use Rattle.std.proofs.Common.{◌≡◌, ℕ, Bool, true, false, cond, eqb, List, [], ◌∷◌, ◌++◌, All, Option, Some, None, refl, subst, ltb}
use Rattle.std.proofs.lemmas.Bool.{cond_both, eq-eqb}
use Rattle.std.proofs.lemmas.List.Elements.{All-nil, All-head}
use Rattle.cl_endpoint.specs.declared.limits.TheConstants.{ACTORS}
use Rattle.cl_front.specs.Front.{delivered_front}
use Rattle.cl_node.specs.Members.{standby_node}
use Rattle.cl_pairs.specs.Pairs.{PairWorld, front_acts, logged_at, replica_acts, after_message, after_first, after_pair_event}
use Rattle.cl_ranges.proofs.Steps.{node_step, message_step, first_step, event_step}
use Rattle.cl_runs.specs.Queues.{sent_to, QueueEvent, deliver, take_line}
use Rattle.cl_runs.specs.World.{Shape}
use Rattle.cl_seen.proofs.Lists.{All-second}
use Rattle.cl_seen.specs.Ways.{IsPairAddressed}
use Rattle.cl_steps.specs.declared.actors.TheConstants.{FRONT}
use Rattle.cl_system.specs.Replicas.{nothing_noted, with_way}
use Rattle.cl_wire.specs.Message.{Content, Log}

-- who acts in an event, where anybody sends anything
abbrev pub IsActing : QueueEvent → ℕ → Type 0
IsActing (deliver from to mark) me = to ≡ me
IsActing (take_line number text said) me = FRONT ≡ me
IsActing other me = Unit {0}

-- the standby that takes a log record is at its receiver
abbrev IsReceived : ℕ → ℕ → Option ℕ → Type 0
IsReceived nodes to (Some v) = to ≡ standby_node nodes v
IsReceived nodes to None = Unit {0}

-- so it is of a message that goes between the actors that its kind names
received_there : (nodes from to : ℕ) (content : Content) → IsPairAddressed nodes from to content → IsReceived nodes to (logged_at content)
received_there nodes from to (Log v number entry) is = is.receiver
received_there nodes from to content is = tt

module _ (P : Content → Type 0) where
  -- nobody is sent anything where nothing is sent
  none_to : (to : ℕ) → All P (sent_to to [])
  none_to to = cond_both (ltb to ACTORS) [] [] (All P) (λ actor. All-nil P) (λ none. All-nil P)

  -- what holds of all on a way holds of what was put behind it
  behind_given : (b : Bool) (xs ys : List Content) → b ≡ true → All P (cond b (xs ++ ys) xs) → All P ys
  behind_given true xs ys is all = All-second P xs ys all
  behind_given false xs ys is all = absurd cc

  module _ (shape : Shape) (pairs : PairWorld) (from me : ℕ) (content : Content) (mark : Bool) (to : ℕ) where
    -- a message comes to a node
    node_behind : (log : Option ℕ) → IsReceived shape.nodes me log → All P ((replica_acts shape pairs from me content mark log).mail me to) →
        All P (sent_to to (node_step pairs from me content mark log).sends)
    node_behind (Some v) there all = behind_given (eqb me (standby_node shape.nodes v)) (pairs.mail me to) _ (eq-eqb me (standby_node shape.nodes v) there) all
    node_behind None there all = behind_given (eqb me me) (pairs.mail me to) _ (eq-eqb me me refl) all

    -- or to any actor
    message_behind : IsReceived shape.nodes me (logged_at content) → All P ((after_message shape pairs from me content mark).mail me to) →
        All P (sent_to to (message_step shape pairs from me content mark).sends)
    message_behind there =
        elim (eqb me FRONT) as (λ b. (eqb me FRONT ≡ b) → All P
        ((cond b (front_acts pairs (delivered_front (nothing_noted shape) pairs.front from content mark))
        (replica_acts shape pairs from me content mark (logged_at content))).mail me to) →
        All P (sent_to to (cond b (delivered_front (nothing_noted shape) pairs.front from content mark).step
        (node_step pairs from me content mark (logged_at content))).sends)) [
          | true ↦ λ here all. behind_given (eqb me FRONT) (pairs.mail me to) _ here all
          | false ↦ λ elsewhere all. node_behind (logged_at content) there all
        ]
        refl

  -- the first message on its way comes
  first_behind : (shape : Shape) (pairs : PairWorld) (from me : ℕ) (mark : Bool) (to : ℕ) (contents : List Content) →
      All (IsPairAddressed shape.nodes from me) contents →
      All P ((after_first shape pairs from me mark contents).mail me to) → All P (sent_to to (first_step shape pairs from me mark contents).sends)
  first_behind shape pairs from me mark to [] addressed all = none_to to
  first_behind shape pairs from me mark to (content ∷ rest) addressed all =
      message_behind shape (record pairs { mail = with_way pairs.mail from me rest }) from me content mark to
      (received_there shape.nodes from me content (All-head (IsPairAddressed shape.nodes from me) content rest addressed)) all

  -- what holds of each on its way holds of what was sent
  pub sends_behind : (shape : Shape) (pairs : PairWorld) (event : QueueEvent) (me to : ℕ) →
      ((from to : ℕ) → All (IsPairAddressed shape.nodes from to) (pairs.mail from to)) →
      IsActing event me → All P ((after_pair_event shape pairs event).mail me to) → All P (sent_to to (event_step shape pairs event).sends)
  unfolding after_pair_event
  sends_behind shape pairs (deliver from actor mark) me to addressed acts all =
      subst (λ n. All P ((after_first shape pairs from actor mark (pairs.mail from actor)).mail n to) → All P
      (sent_to to (first_step shape pairs from actor mark (pairs.mail from actor)).sends)) acts
      (first_behind shape pairs from actor mark to (pairs.mail from actor) (addressed from actor)) all
  sends_behind shape pairs (take_line number text said) me to addressed acts all =
      subst (λ n. All P ((after_pair_event shape pairs (take_line number text said)).mail n to) → All P
      (sent_to to (event_step shape pairs (take_line number text said)).sends)) acts
      (All-second P (pairs.mail FRONT to) _) all
  sends_behind shape pairs other me to addressed acts all = none_to to
