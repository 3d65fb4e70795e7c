-- One event: what comes fits, and each session is at some stage after it.
use Rattle.std.proofs.Common.{◌≡◌, ℕ, ◌+◌, ◌-◌, ◌%◌, ◌<◌, ◌≤◌, Bool, true, false, cond, eqb, List, [], ◌∷◌, length, filter, Result, Ok, Err, refl, sym, ap, ◌∙◌, subst, subst₂, arith}
use Rattle.std.proofs.lemmas.Bool.{and_parts, leb-true, cond-true, eq-eqb}
use Rattle.std.proofs.lemmas.List.{length-set}
use Rattle.cl_exchange.specs.Laws.{IsSoundWorld}
use Rattle.cl_exchange.specs.Stage.{view_of, is_of_session}
use Rattle.cl_exchange.proofs.Commands.{command_may}
use Rattle.cl_exchange.proofs.Delivered.{IsAtSome, home_apart, home_below, IsCommandOf, command_of_stage, command_delivered, answer_delivered, vote_delivered, participant_delivered}
use Rattle.cl_exchange.proofs.Heard.{line_next, outcome_delivered}
use Rattle.cl_exchange.proofs.Participants.{ask_leaves, prepare_leaves, finish_leaves}
use Rattle.cl_exchange.proofs.Resting.{next_number}
use Rattle.cl_front.specs.Front.{FrontState, delivered_front, delivered_content, stepped, turns_with, with_entries, fed_as, fed_front, FitsAs, LineFits}
use Rattle.cl_front.specs.Session.{Turned, heard}
use Rattle.cl_front.specs.Sessions.{session_in, is_awaited}
use Rattle.cl_lines.specs.Line.{line_of}
use Rattle.cl_lines.specs.declared.line.Line.{Line}
use Rattle.cl_lines.specs.declared.line.Line.TheVariants.{Client, Operator}
use Rattle.cl_lines.specs.declared.line.LineFault.{LineFault}
use Rattle.cl_lines.specs.declared.out.Out.{Out}
use Rattle.cl_lines.proofs.Readings.{line_of-session}
use Rattle.cl_lone.specs.Lone.{lone_step}
use Rattle.cl_runs.specs.World.{Shape}
use Rattle.cl_serial.specs.Transcript.{fed}
use Rattle.cl_steps.specs.Steps.{nothing_done}
use Rattle.cl_steps.specs.declared.actors.TheConstants.{FRONT}
use Rattle.cl_system.specs.Replicas.{ReplicaWorld, own_primary, nothing_noted, with_way, front_acts, replica_acts, after_message, MessageFits}
use Rattle.cl_system.specs.Roles.{IsOfSession, IsAddressed}
use Rattle.cl_types.proofs.PlacementLaws.{node_count-bounds}
use Rattle.cl_types.specs.Placement.{IsNodeCount}
use Rattle.cl_types.specs.declared.limits.TheConstants.{SESSIONS_MAX}
use Rattle.cl_types.specs.declared.operations.Command.{Command as ClientCommand}
use Rattle.cl_types.specs.declared.operations.TxnId.{TxnId}
use Rattle.cl_vnode.specs.Inputs.{MayCome, Fits, IsStandbyBelow}
use Rattle.cl_vnode.specs.Step.{home_of}
use Rattle.cl_wire.specs.Message.{Content, Command, Outcome, Ask, Answer, Prepare, Vote, Finish}

-- the session of a transaction is one of those that there are
pub session_between : (txn : TxnId) → IsOfSession txn → (1 ≤ txn.session) × (txn.session ≤ SESSIONS_MAX)
session_between txn of = let parts = and_parts _ _ of in (leb-true 1 txn.session parts.0, leb-true txn.session SESSIONS_MAX parts.1)

module _ (shape : Shape) (counted : IsNodeCount shape.nodes) (world : ReplicaWorld) (sound : IsSoundWorld shape world) where
  pub nodes_are : (v : ℕ) → v < shape.nodes → (world.replicas v).control.nodes ≡ shape.nodes
  nodes_are v below = (sound.places.replicas v below).same_nodes

  -- the stage of the transaction's session
  pub stage_of : (txn : TxnId) → IsOfSession txn → IsAtSome shape.nodes world txn.session
  stage_of txn of = let between = session_between txn of in sound.stages txn.session between.0 between.1

  pub below_from : (n m : ℕ) → n ≡ m → m < shape.nodes → n < shape.nodes
  below_from n m same below = subst (λ k. k < shape.nodes) (sym same) below

  -- ---- what comes fits

  -- a replica takes what may come to it
  replica_fits : (from to : ℕ) (content : Content) → to < shape.nodes → MayCome (world.replicas to) content → MessageFits shape world from to content
  replica_fits from to content below comes =
      let away : eqb to FRONT ≡ false = (home_apart shape.nodes to counted below).1 in
      let fits : Fits shape.nodes (world.replicas to) content = record {
        same_nodes = sym (nodes_are to below);
        comes = comes;
        standby = subst IsStandbyBelow (sym (sound.places.replicas to below).calm.lone) tt;
      } in
      rw away fits

  command_comes : (v number : ℕ) (txn : TxnId) (what : ClientCommand) (rest : List Content) → IsOfSession txn → world.mail FRONT (txn.session % shape.nodes) ≡ Command v txn number what ∷ rest →
      MayCome (world.replicas (txn.session % shape.nodes)) (Command v txn number what)
  command_comes v number txn what rest of waits =
      let s : ℕ = txn.session in
      let h : ℕ = s % shape.nodes in
      let at = stage_of txn of in
      let is : IsCommandOf shape.nodes s (view_of shape.nodes world s) (Command v txn number what) (filter (is_of_session s) rest)
      = command_of_stage shape.nodes s (view_of shape.nodes world s) at.0 (Command v txn number what) (filter (is_of_session s) rest) at.1
      (ap (filter (is_of_session s)) waits ∙ cond-true _ _ _ (eq-eqb s s refl)) in
      subst (MayCome (world.replicas h)) (sym is.same)
      (command_may shape.nodes s (view_of shape.nodes world s) is.current (world.replicas h) (subst IsNodeCount (sym (nodes_are h (home_below shape.nodes s counted))) counted) refl is.what is.entries is.at)

  pub message_fits : (from to : ℕ) (content : Content) (rest : List Content) → world.mail from to ≡ content ∷ rest → IsAddressed shape.nodes from to content → MessageFits shape world from to content
  message_fits from to (Command v txn number what) rest waits is =
      let home : to ≡ txn.session % shape.nodes = is.receiver ∙ is.node in
      replica_fits from to (Command v txn number what) (below_from to (txn.session % shape.nodes) home (home_below shape.nodes txn.session counted))
      (subst (λ n. MayCome (world.replicas n) (Command v txn number what)) (sym home)
      (command_comes v number txn what rest is.session (ap (λ n. world.mail n (txn.session % shape.nodes)) (sym is.giver) ∙ (ap (world.mail from) (sym home) ∙ waits))))
  message_fits from to (Outcome txn number outcome) rest waits is =
      let at = stage_of txn is.session in
      subst (λ n. MessageFits shape world from n (Outcome txn number outcome)) (sym is.receiver) (next_number shape.nodes txn.session (view_of shape.nodes world txn.session) at.0 at.1)
  message_fits from to (Ask v txn number table key op) rest waits is = replica_fits from to _ (below_from to v is.0.receiver is.0.node) tt
  message_fits from to (Answer v txn number answer) rest waits is = replica_fits from to _ (below_from to (txn.session % shape.nodes) is.receiver (home_below shape.nodes txn.session counted)) tt
  message_fits from to (Prepare v txn) rest waits is = replica_fits from to _ (below_from to v is.receiver is.node) tt
  message_fits from to (Vote v txn) rest waits is = replica_fits from to _ (below_from to (txn.session % shape.nodes) is.receiver (home_below shape.nodes txn.session counted)) tt
  message_fits from to (Finish v txn commit) rest waits is = replica_fits from to _ (below_from to v is.receiver is.node) tt
  message_fits from to content rest waits is = absurd is

  line_fits_as : (reading : Result Line LineFault) → ((t : ℕ) (command : ClientCommand) → reading ≡ Ok (Client t command) → (1 ≤ t) × (t ≤ SESSIONS_MAX)) → FitsAs world.front reading
  line_fits_as (Ok (Client t command)) lawful =
      let between = lawful t command refl in
      let at = sound.stages t between.0 between.1 in
      next_number shape.nodes t (view_of shape.nodes world t) at.0 at.1
  line_fits_as (Ok (Operator order)) lawful = tt
  line_fits_as (Err fault) lawful = tt

  pub line_fits : (number : ℕ) (text : List ℕ) (said : List Out) → LineFits (nothing_noted shape) world.front number text said
  line_fits number text said = line_fits_as (line_of text) (λ t command is. line_of-session text t command is)

  -- ---- each session is at some stage

  -- the world once a message was taken off
  abbrev taken_off : ℕ → ℕ → List Content → ReplicaWorld
  taken_off from to rest = record world { mail = with_way world.mail from to rest }

  to_replica : (from to : ℕ) (content : Content) (rest : List Content) (mark : Bool) (s : ℕ) → to < shape.nodes →
      IsAtSome shape.nodes (replica_acts (taken_off from to rest) to (lone_step own_primary (world.replicas to) from content mark)) s → IsAtSome shape.nodes (after_message shape (taken_off from to rest) from to content mark) s
  to_replica from to content rest mark s below at =
      subst (λ b. IsAtSome shape.nodes (cond b (front_acts (taken_off from to rest) (delivered_front (nothing_noted shape) world.front from content mark))
      (replica_acts (taken_off from to rest) to (lone_step own_primary (world.replicas to) from content mark))) s) (sym (home_apart shape.nodes to counted below).1) at

  pub few : (n : ℕ) → n < shape.nodes → n < FRONT
  few n below = let most = (node_count-bounds shape.nodes counted).1 in omega arith

  pub message_stages : (from to : ℕ) (content : Content) (rest : List Content) (mark : Bool) → world.mail from to ≡ content ∷ rest → IsAddressed shape.nodes from to content → (s : ℕ) → 1 ≤ s → s ≤ SESSIONS_MAX →
      IsAtSome shape.nodes (after_message shape (taken_off from to rest) from to content mark) s
  message_stages from to (Command v txn number what) rest mark waits is s one most =
      let h : ℕ = txn.session % shape.nodes in
      let home : to ≡ h = is.receiver ∙ is.node in
      subst₂ (λ giver receiver. world.mail giver receiver ≡ Command v txn number what ∷ rest → IsAtSome shape.nodes (after_message shape (taken_off giver receiver rest) giver receiver (Command v txn number what) mark) s)
      (sym is.giver) (sym home)
      (λ here. to_replica FRONT h (Command v txn number what) rest mark s (home_below shape.nodes txn.session counted)
      (command_delivered shape.nodes counted world nodes_are s v number txn what rest mark here (sound.stages s one most))) waits
  message_stages from to (Outcome txn number outcome) rest mark waits is s one most =
      let h : ℕ = txn.session % shape.nodes in
      subst₂ (λ giver receiver. world.mail giver receiver ≡ Outcome txn number outcome ∷ rest → IsAtSome shape.nodes (after_message shape (taken_off giver receiver rest) giver receiver (Outcome txn number outcome) mark) s)
      (sym is.giver) (sym is.receiver)
      (λ here. outcome_delivered shape counted world sound.sessions txn is.session number outcome rest here h mark s one (stage_of txn is.session) (sound.stages s one most)) waits
  message_stages from to (Ask v txn number table key op) rest mark waits is s one most =
      let within : to < shape.nodes = below_from to v is.0.receiver is.0.node in
      let below : from < shape.nodes = below_from from (txn.session % shape.nodes) is.0.giver (home_below shape.nodes txn.session counted) in
      to_replica from to (Ask v txn number table key op) rest mark s within
      (participant_delivered shape.nodes counted world nodes_are s from to (Ask v txn number table key op) rest _ below within waits
      (ask_leaves (world.replicas to) txn from v number table key op mark (few from below)) (sound.stages s one most))
  message_stages from to (Prepare v txn) rest mark waits is s one most =
      let within : to < shape.nodes = below_from to v is.receiver is.node in
      let below : from < shape.nodes = below_from from (txn.session % shape.nodes) is.giver (home_below shape.nodes txn.session counted) in
      let home : home_of (world.replicas to).control txn ≡ txn.session % shape.nodes = ap (λ n. txn.session % n) (nodes_are to within) in
      to_replica from to (Prepare v txn) rest mark s within
      (participant_delivered shape.nodes counted world nodes_are s from to (Prepare v txn) rest _ below within waits
      (prepare_leaves (world.replicas to) txn from v mark (few _ (below_from _ _ home (home_below shape.nodes txn.session counted)))) (sound.stages s one most))
  message_stages from to (Finish v txn commit) rest mark waits is s one most =
      let within : to < shape.nodes = below_from to v is.receiver is.node in
      let below : from < shape.nodes = below_from from (txn.session % shape.nodes) is.giver (home_below shape.nodes txn.session counted) in
      to_replica from to (Finish v txn commit) rest mark s within
      (participant_delivered shape.nodes counted world nodes_are s from to (Finish v txn commit) rest _ below within waits
      (finish_leaves (world.replicas to) txn from v commit mark) (sound.stages s one most))
  message_stages from to (Answer v txn number answer) rest mark waits is s one most =
      let h : ℕ = txn.session % shape.nodes in
      subst (λ receiver. world.mail from receiver ≡ Answer v txn number answer ∷ rest → IsAtSome shape.nodes (after_message shape (taken_off from receiver rest) from receiver (Answer v txn number answer) mark) s)
      (sym is.receiver)
      (λ here. to_replica from h (Answer v txn number answer) rest mark s (home_below shape.nodes txn.session counted)
      (answer_delivered shape.nodes counted world nodes_are s from v number txn answer rest mark (below_from from v is.giver is.node) here (stage_of txn is.session) (sound.stages s one most))) waits
  message_stages from to (Vote v txn) rest mark waits is s one most =
      let h : ℕ = txn.session % shape.nodes in
      subst (λ receiver. world.mail from receiver ≡ Vote v txn ∷ rest → IsAtSome shape.nodes (after_message shape (taken_off from receiver rest) from receiver (Vote v txn) mark) s)
      (sym is.receiver)
      (λ here. to_replica from h (Vote v txn) rest mark s (home_below shape.nodes txn.session counted)
      (vote_delivered shape.nodes counted world nodes_are s from v txn rest mark (below_from from v is.giver is.node) here (stage_of txn is.session) (sound.stages s one most))) waits
  message_stages from to content rest mark waits is s one most = absurd is

  pub line_stages : (number : ℕ) (text : List ℕ) (said : List Out) → (s : ℕ) → 1 ≤ s → s ≤ SESSIONS_MAX →
      IsAtSome shape.nodes (front_acts (record world { lines = world.lines + 1 }) (fed_front (nothing_noted shape) world.front number text said)) s
  line_stages number text said s one most = line_next shape counted world sound.sessions s one most (sound.stages s one most) number text said

-- ---- how many sessions there are

either_many : (state : FrontState) (awaited : Bool) (s : ℕ) (turned : Turned) → length (cond awaited (stepped state s turned) (record { state = state; step = nothing_done })).state.sessions ≡ length state.sessions
either_many state true s turned = length-set state.sessions (s - 1) turned.session
either_many state false s turned = refl

delivered_many : (shape : Shape) (state : FrontState) (content : Content) → length (delivered_content (nothing_noted shape) state content).state.sessions ≡ length state.sessions
delivered_many shape state (Outcome txn number outcome) =
    either_many state (is_awaited state.sessions txn number) txn.session (heard (nothing_noted shape) txn.session (session_in state.sessions txn.session) outcome)
delivered_many shape state content = refl

pub message_many : (shape : Shape) (world : ReplicaWorld) (from to : ℕ) (content : Content) (mark : Bool) → length (after_message shape world from to content mark).front.sessions ≡ length world.front.sessions
message_many shape world from to content mark =
    elim (eqb to FRONT) as (λ here. length (cond here (front_acts world (delivered_front (nothing_noted shape) world.front from content mark))
    (replica_acts world to (lone_step own_primary (world.replicas to) from content mark))).front.sessions ≡ length world.front.sessions) [
      | true ↦ delivered_many shape world.front content
      | false ↦ refl
    ]

fed_many : (shape : Shape) (state : FrontState) (line : ℕ) (reading : Result Line LineFault) → length (fed_as (nothing_noted shape) state line reading).state.sessions ≡ length state.sessions
fed_many shape state line (Ok (Client t command)) = length-set state.sessions (t - 1) (turns_with (nothing_noted shape) state t command).session
fed_many shape state line (Ok (Operator order)) = refl
fed_many shape state line (Err fault) = refl

pub line_many : (shape : Shape) (state : FrontState) (number : ℕ) (text : List ℕ) (said : List Out) → length (fed_front (nothing_noted shape) state number text said).state.sessions ≡ length state.sessions
unfolding fed_front
line_many shape state number text said = fed_many shape (with_entries state (fed number text ∷ [])) number (line_of text)
