-- Cores and queues are alike to the front, primaries and standbys, and what is on its way.
use Rattle.std.proofs.Common.{◌≡◌, ◌≢◌, ℕ, ◌+◌, ◌<◌, eqb, ltb, cond, ◌&&◌, Bool, true, false, List, [], ◌∷◌, ◌++◌, length, All, Result}
use Rattle.std.proofs.Common.{Ok, Err, Some, slice_get, refl, sym, ◌∙◌, ap, subst}
use Rattle.std.proofs.lemmas.Bool.{eqb-true, eqb-false, eq-eqb, ne_eqb, ltb-true, ltb-false, cond-false, cond_both}
use Rattle.std.proofs.lemmas.List.{map-append}
use Rattle.std.proofs.lemmas.List.Elements.{All-nil, All-cons, All-tail, All-append, All-head}
use Rattle.std.proofs.lemmas.Option.{none-some}
use Rattle.cl_types.specs.Placement.{IsNodeCount}
use Rattle.cl_types.specs.declared.operations.TxnId.{TxnId}
use Rattle.cl_actor.specs.Acting.{unmoved}
use Rattle.cl_actor.specs.Core.{Noted, CoreStep}
use Rattle.cl_front.specs.Front.{FrontState, delivered_front, fed_front, fed_as, with_entries}
use Rattle.cl_front.specs.Sessions.{is_awaited}
use Rattle.cl_lines.specs.Line.{line_of}
use Rattle.cl_lines.specs.declared.line.Line.{Line}
use Rattle.cl_lines.specs.declared.line.Line.TheVariants.{Client, Operator}
use Rattle.cl_lines.specs.declared.line.LineFault.{LineFault}
use Rattle.cl_lines.specs.declared.out.Out.{Out}
use Rattle.cl_node.specs.Members.{standby_node, backed_up}
use Rattle.cl_pairs.specs.Pairs.{PairWorld, front_acts, primary_acts, standby_acts, logged_at, replica_acts, after_message, after_first, after_pair_event}
use Rattle.cl_roster.specs.declared.entry.RosterEntry.{RosterEntry}
use Rattle.cl_runs.specs.Queues.{Tagged, tagged, contents_of, sent_to, with_sends, with_queue, QueueWorld, MayNoteNext, deliver, note_next, take_line, stop_node, quieten, nothing}
use Rattle.cl_runs.proofs.QueueSteps.{after_step-unmoved}
use Rattle.cl_runs.specs.Queues.{noted_by, after_step, after_delivery, after_queue_event}
use Rattle.cl_runs.specs.World.{Shape, with_firm}
use Rattle.cl_seen.specs.Ways.{IsPairAddressed}
use Rattle.cl_serial.specs.Transcript.{fed}
use Rattle.cl_steps.specs.declared.actors.TheConstants.{FRONT}
use Rattle.cl_steps.specs.declared.steps.Outgoing.{Outgoing}
use Rattle.cl_system.specs.Replicas.{own_primary, nothing_noted, with_mail, with_way}
use Rattle.cl_system.specs.System.{Core, front_step, delivered_core, fed_core, quieted_core, system}
use Rattle.cl_vnode.specs.Standby.{standby_stepped}
use Rattle.cl_vnode.specs.Step.{Stepped, stepped}
use Rattle.cl_wire.specs.Message.{Content, Outcome, Log}
use Rattle.cl_cluster.proofs.Members.{backed_up-standby, standby-backed_up, standby-below}
use Rattle.cl_cluster.proofs.Nodes.{core_of_node-spare, primary_moved, standby_moved, pair_moved, delivered_core_of_node, node_apart}
use Rattle.cl_cluster.specs.Alike.{core_of_node, AreAlike}
use Rattle.cl_cluster.specs.Laws.{AlikeAtFirst, EventsKeepAlike, AlikeMay}

-- both are alike at the start
pub alike_at_first : AlikeAtFirst
alike_at_first shape size = record {
  front = refl;
  nodes = λ actor apart. cond-false (eqb actor FRONT) _ _ (ne_eqb actor FRONT apart);
  noted = λ actor. refl;
  mail = λ from to. refl;
  tags = λ from to. All-nil (λ (message : Tagged). message.tag ≡ 0);
  roster = refl;
  history = refl;
  lines = refl;
}

-- there is no entry to note
nothing_next : (shape : Shape) (cores : QueueWorld Core) (world : PairWorld) (actor : ℕ) → AreAlike shape cores world → MayNoteNext shape cores actor → ⊥
nothing_next shape cores world actor alike may =
    none-some may.entry (subst (λ (roster : List RosterEntry). slice_get roster (length (cores.noted actor)) ≡ Some may.entry) alike.roster may.next)

-- what may happen to cores and queues may happen to pairs
pub alike_may : AlikeMay
alike_may shape cores world (deliver from to mark) alike may = (may.head.content, contents_of may.rest, sym (alike.mail from to) ∙ ap contents_of may.waits)
alike_may shape cores world (take_line number text said) alike may = (may.next ∙ ap (λ n. n + 1) alike.lines, may.silent)
alike_may shape cores world (note_next actor) alike may = nothing_next shape cores world actor alike may
alike_may shape cores world other alike may = tt

-- ---- queues and mail

-- messages with one tag have their contents
contents_of-tagged : (tag : ℕ) (contents : List Content) → contents_of (tagged tag contents) ≡ contents
contents_of-tagged tag [] = refl
contents_of-tagged tag (content ∷ rest) = ap (λ list. content ∷ list) (contents_of-tagged tag rest)

-- and this tag
tags-tagged : (contents : List Content) → All (λ (message : Tagged). message.tag ≡ 0) (tagged 0 contents)
tags-tagged [] = All-nil (λ (message : Tagged). message.tag ≡ 0)
tags-tagged (content ∷ rest) = All-cons (λ (message : Tagged). message.tag ≡ 0) _ (tagged 0 rest) refl (tags-tagged rest)

-- what is given goes to the ends on both sides
contents-given : (b : Bool) (queue : List Tagged) (contents more : List Content) → contents_of queue ≡ contents →
    contents_of (cond b (queue ++ tagged 0 more) queue) ≡ cond b (contents ++ more) contents
contents-given true queue contents more same =
    map-append (λ (message : Tagged). message.content) queue (tagged 0 more) ∙ ap (λ list. list ++ contents_of (tagged 0 more)) same
    ∙ ap (λ list. contents ++ list) (contents_of-tagged 0 more)
contents-given false queue contents more same = same

-- so do their tags
tags-given : (b : Bool) (queue : List Tagged) (more : List Content) → All (λ (message : Tagged). message.tag ≡ 0) queue →
    All (λ (message : Tagged). message.tag ≡ 0) (cond b (queue ++ tagged 0 more) queue)
tags-given true queue more all = All-append (λ (message : Tagged). message.tag ≡ 0) queue (tagged 0 more) all (tags-tagged more)
tags-given false queue more all = all

-- one queue is another
contents-either : (b : Bool) (one other : List Tagged) (contents others : List Content) → contents_of one ≡ contents → contents_of other ≡ others →
    contents_of (cond b one other) ≡ cond b contents others
contents-either true one other contents others same elsewhere = same
contents-either false one other contents others same elsewhere = elsewhere

-- ---- one step

module _ (shape : Shape) where
  -- the head of a queue is taken off
  popped_alike : (cores : QueueWorld Core) (world : PairWorld) (from to : ℕ) (rest : List Tagged) → AreAlike shape cores world →
      All (λ (message : Tagged). message.tag ≡ 0) rest →
      AreAlike shape (record cores { queues = with_queue cores.queues from to rest }) (record world { mail = with_way world.mail from to (contents_of rest) })
  popped_alike cores world from to rest alike tags = record {
    front = alike.front;
    nodes = alike.nodes;
    noted = alike.noted;
    mail = λ giver receiver. contents-either (eqb receiver to && eqb giver from) rest (cores.queues giver receiver) (contents_of rest)
        (world.mail giver receiver) refl (alike.mail giver receiver);
    tags = λ giver receiver. cond_both (eqb receiver to && eqb giver from) rest (cores.queues giver receiver) (All (λ (message : Tagged). message.tag ≡ 0))
        (λ here. tags) (λ elsewhere. alike.tags giver receiver);
    roster = alike.roster;
    history = alike.history;
    lines = alike.lines;
  }

  -- what an actor gives, where nothing of the roster was noted
  module _ (cores : QueueWorld Core) (world : PairWorld) (alike : AreAlike shape cores world) (giver : ℕ) (sends : List Outgoing) where
    -- is on its way on both sides
    given_mail : (from to : ℕ) → contents_of (with_sends cores.queues giver (length (cores.noted giver)) sends from to)
        ≡ with_mail world.mail giver sends from to
    given_mail from to =
        ap (λ (entries : List RosterEntry). contents_of (with_sends cores.queues giver (length entries) sends from to)) (alike.noted giver)
        ∙ contents-given (eqb from giver) (cores.queues from to) (world.mail from to) (sent_to to sends) (alike.mail from to)

    -- with the tag of nothing
    given_tags : (from to : ℕ) → All (λ (message : Tagged). message.tag ≡ 0) (with_sends cores.queues giver (length (cores.noted giver)) sends from to)
    given_tags from to =
        subst (λ (entries : List RosterEntry). All (λ (message : Tagged). message.tag ≡ 0) (with_sends cores.queues giver (length entries) sends from to))
        (sym (alike.noted giver))
        (tags-given (eqb from giver) (cores.queues from to) (sent_to to sends) (alike.tags from to))

  -- the front takes the same step on both sides; no step of it makes a transaction firm
  front_alike : (cores : QueueWorld Core) (world : PairWorld) (core : CoreStep Core) (stepped : CoreStep FrontState) → AreAlike shape cores world →
      core ≡ front_step stepped → stepped.step.firm ≡ [] → AreAlike shape (after_step cores FRONT core) (front_acts world stepped)
  front_alike cores world core stepped alike same none =
      subst (λ (core : CoreStep Core). AreAlike shape (after_step cores FRONT core) (front_acts world stepped)) (sym same) (record {
        front = refl;
        nodes = λ actor apart. cond-false (eqb actor FRONT) _ _ (ne_eqb actor FRONT apart) ∙ alike.nodes actor apart;
        noted = alike.noted;
        mail = given_mail cores world alike FRONT stepped.step.sends;
        tags = given_tags cores world alike FRONT stepped.step.sends;
        roster = alike.roster;
        history = ap (with_firm cores.history) none ∙ alike.history;
        lines = alike.lines;
      })

  -- a core that stays as it is, and gives nothing
  unmoved_alike : (cores : QueueWorld Core) (world : PairWorld) → AreAlike shape cores world →
      AreAlike shape (after_step cores FRONT (unmoved (cores.cores FRONT))) world
  unmoved_alike cores world alike = subst (λ (same : QueueWorld Core). AreAlike shape same world) (sym (after_step-unmoved cores FRONT)) alike

  -- the primary of a node takes the step
  primary_alike : (cores : QueueWorld Core) (world : PairWorld) (v : ℕ) (core : CoreStep Core) (stepped : Stepped) → AreAlike shape cores world → v ≢ FRONT →
      core ≡ primary_moved shape.nodes v (world.standbys (backed_up shape.nodes v)) stepped →
      AreAlike shape (after_step cores v core) (primary_acts world v stepped)
  primary_alike cores world v core stepped alike apart same =
      subst (λ (core : CoreStep Core). AreAlike shape (after_step cores v core) (primary_acts world v stepped)) (sym same) (record {
        front = cond-false (eqb FRONT v) _ _ (ne_eqb FRONT v (λ here. apart (sym here))) ∙ alike.front;
        nodes = λ actor other. node_either (eqb actor v) actor other (eqb-true actor v);
        noted = alike.noted;
        mail = given_mail cores world alike v stepped.step.sends;
        tags = given_tags cores world alike v stepped.step.sends;
        roster = alike.roster;
        history = ap (λ (history : List TxnId). with_firm history stepped.step.firm) alike.history;
        lines = alike.lines;
      })
    where
      -- each node, by whether it is the one that acts
      node_either : (b : Bool) (actor : ℕ) → actor ≢ FRONT → (b ≡ true → actor ≡ v) →
          cond b (core_of_node shape.nodes v stepped.state (world.standbys (backed_up shape.nodes v))) (cores.cores actor)
          ≡ core_of_node shape.nodes actor (cond b stepped.state (world.primaries actor)) (world.standbys (backed_up shape.nodes actor))
      node_either true actor other here = ap (λ n. core_of_node shape.nodes n stepped.state (world.standbys (backed_up shape.nodes n))) (sym (here refl))
      node_either false actor other here = alike.nodes actor other

  -- the standby of a virtual node takes the step, at the node behind
  standby_alike : (cores : QueueWorld Core) (world : PairWorld) (v : ℕ) (core : CoreStep Core) (stepped : Stepped) → AreAlike shape cores world →
      IsNodeCount shape.nodes → v < shape.nodes →
      core ≡ standby_moved shape.nodes (standby_node shape.nodes v) (world.primaries (standby_node shape.nodes v)) stepped →
      AreAlike shape (after_step cores (standby_node shape.nodes v) core) (standby_acts shape.nodes world v stepped)
  standby_alike cores world v core stepped alike counted below same =
      subst (λ (core : CoreStep Core). AreAlike shape (after_step cores behind core) (standby_acts shape.nodes world v stepped)) (sym same) (record {
        front = cond-false (eqb FRONT behind) _ _ (ne_eqb FRONT behind (λ here. apart (sym here))) ∙ alike.front;
        nodes = λ actor other. node_either (eqb actor behind) actor other (eqb-true actor behind) (eqb-false actor behind);
        noted = alike.noted;
        mail = given_mail cores world alike behind stepped.step.sends;
        tags = given_tags cores world alike behind stepped.step.sends;
        roster = alike.roster;
        history = ap (λ (history : List TxnId). with_firm history stepped.step.firm) alike.history;
        lines = alike.lines;
      })
    where
      -- the node behind
      behind : ℕ
      behind = standby_node shape.nodes v

      -- it is not the front
      apart : behind ≢ FRONT
      apart = node_apart shape.nodes behind counted (standby-below shape.nodes v counted)

      -- what there is of the standby that another node has
      other_standby : (actor : ℕ) → actor < shape.nodes → actor ≢ behind →
          world.standbys (backed_up shape.nodes actor) ≡ cond (eqb (backed_up shape.nodes actor) v) stepped.state (world.standbys (backed_up shape.nodes actor))
      other_standby actor within other =
          sym (cond-false (eqb (backed_up shape.nodes actor) v) _ _
          (ne_eqb (backed_up shape.nodes actor) v (λ one. other
          (sym (standby-backed_up shape.nodes actor counted within) ∙ ap (standby_node shape.nodes) one))))

      -- another node has the standby that it had, and a spare has none
      other_core : (b : Bool) (actor : ℕ) → ltb actor shape.nodes ≡ b → actor ≢ behind →
          core_of_node shape.nodes actor (world.primaries actor) (world.standbys (backed_up shape.nodes actor))
          ≡ core_of_node shape.nodes actor (world.primaries actor)
          (cond (eqb (backed_up shape.nodes actor) v) stepped.state (world.standbys (backed_up shape.nodes actor)))
      other_core true actor is other =
          ap (core_of_node shape.nodes actor (world.primaries actor)) (other_standby actor (ltb-true actor shape.nodes is) other)
      other_core false actor is other = core_of_node-spare shape.nodes actor _ _ _ _ (ltb-false actor shape.nodes is)

      -- the node behind has the new one
      this_standby : stepped.state ≡ cond (eqb (backed_up shape.nodes behind) v) stepped.state (world.standbys (backed_up shape.nodes behind))
      this_standby = sym (ap (λ b. cond b stepped.state (world.standbys (backed_up shape.nodes behind)))
          (eq-eqb (backed_up shape.nodes behind) v (backed_up-standby shape.nodes v counted below)))

      -- each node, by whether it is the one behind
      node_either : (b : Bool) (actor : ℕ) → actor ≢ FRONT → (b ≡ true → actor ≡ behind) → (b ≡ false → actor ≢ behind) →
          cond b (core_of_node shape.nodes behind (world.primaries behind) stepped.state) (cores.cores actor)
          ≡ core_of_node shape.nodes actor (world.primaries actor)
          (cond (eqb (backed_up shape.nodes actor) v) stepped.state (world.standbys (backed_up shape.nodes actor)))
      node_either true actor other here there =
          ap (core_of_node shape.nodes behind (world.primaries behind)) this_standby
          ∙ ap (λ n. core_of_node shape.nodes n (world.primaries n)
          (cond (eqb (backed_up shape.nodes n) v) stepped.state (world.standbys (backed_up shape.nodes n)))) (sym (here refl))
      node_either false actor other here there = alike.nodes actor other ∙ other_core (ltb actor shape.nodes) actor refl (there refl)

  -- what is noted is nothing
  noted_nothing : (cores : QueueWorld Core) (world : PairWorld) (actor : ℕ) → AreAlike shape cores world → noted_by shape cores actor ≡ nothing_noted shape
  noted_nothing cores world actor alike =
      ap (λ (entries : List RosterEntry). let noted : Noted = record { nodes = shape.nodes; spares = shape.spares; entries = entries } in noted)
      (alike.noted actor)

  -- the step of the front on a message: it makes nothing firm
  message_firm : (state : FrontState) (from : ℕ) (content : Content) (mark : Bool) →
      (delivered_front (nothing_noted shape) state from content mark).step.firm ≡ []
  message_firm state from (Outcome txn number outcome) mark =
      cond_both (is_awaited state.sessions txn number) _ _ (λ (stepped : CoreStep FrontState). stepped.step.firm ≡ []) (λ awaited. refl) (λ none. refl)
  message_firm state from content mark = refl

  -- nor that on a line
  line_firm : (state : FrontState) (line : ℕ) (text : List ℕ) (said : List Out) → (fed_front (nothing_noted shape) state line text said).step.firm ≡ []
  unfolding fed_front
  line_firm state line text said = read_firm (line_of text)
    where
      read_firm : (read : Result Line LineFault) → (fed_as (nothing_noted shape) (with_entries state (fed line text ∷ [])) line read).step.firm ≡ []
      read_firm (Ok (Client s command)) = refl
      read_firm (Ok (Operator order)) = refl
      read_firm (Err fault) = refl

  -- a node takes a message
  node_alike : (cores : QueueWorld Core) (world : PairWorld) (from to : ℕ) (content : Content) (mark : Bool) → IsNodeCount shape.nodes →
      AreAlike shape cores world → to ≢ FRONT → IsPairAddressed shape.nodes from to content →
      (core : CoreStep Core) → core ≡ pair_moved shape.nodes world from to content mark (logged_at content) →
      AreAlike shape (after_step cores to core) (replica_acts shape world from to content mark (logged_at content))
  node_alike cores world from to (Log v number entry) mark counted alike apart is core same =
      let stepped : Stepped = standby_stepped (world.standbys v) from (Log v number entry) in
      let P : ℕ → Type 0 = λ n. core ≡ standby_moved shape.nodes n (world.primaries n) stepped →
      AreAlike shape (after_step cores n core) (standby_acts shape.nodes world v stepped) in
      subst P (sym is.receiver) (standby_alike cores world v core stepped alike counted is.node) same
  node_alike cores world from to content mark counted alike apart is core same =
      primary_alike cores world to core (stepped own_primary (world.primaries to) from content mark) alike apart same

  -- the actor `to` takes a message that is off its queue
  message_alike : (cores : QueueWorld Core) (world : PairWorld) (from to : ℕ) (content : Content) (mark : Bool) → IsNodeCount shape.nodes →
      AreAlike shape cores world →
      IsPairAddressed shape.nodes from to content →
      AreAlike shape (after_step cores to (delivered_core to (noted_by shape cores to) (cores.cores to) from content mark))
      (after_message shape world from to content mark)
  message_alike cores world from to content mark counted alike is =
      let core : CoreStep Core = delivered_core to (noted_by shape cores to) (cores.cores to) from content mark in
      elim (eqb to FRONT) as (λ b. (eqb to FRONT ≡ b) → AreAlike shape (after_step cores to core)
      (cond b (front_acts world (delivered_front (nothing_noted shape) world.front from content mark))
      (replica_acts shape world from to content mark (logged_at content)))) [
        | true ↦ λ here.
            (let stepped : CoreStep FrontState = delivered_front (nothing_noted shape) world.front from content mark in
            let P : ℕ → Type 0 = λ n. AreAlike shape (after_step cores n (delivered_core n (noted_by shape cores n) (cores.cores n) from content mark))
            (front_acts world stepped) in
            subst P (sym (eqb-true to FRONT here))
            (front_alike cores world _ stepped alike
            (ap (λ (noted : Noted). delivered_core FRONT noted (cores.cores FRONT) from content mark) (noted_nothing cores world FRONT alike)
            ∙ ap (λ (core : Core). delivered_core FRONT (nothing_noted shape) core from content mark) alike.front)
            (message_firm world.front from content mark)))
        | false ↦ λ elsewhere.
            (let apart : to ≢ FRONT = eqb-false to FRONT elsewhere in
            node_alike cores world from to content mark counted alike apart is core
            (ap (λ (noted : Noted). delivered_core to noted (cores.cores to) from content mark) (noted_nothing cores world to alike)
            ∙ ap (λ (core : Core). delivered_core to (nothing_noted shape) core from content mark) (alike.nodes to apart)
            ∙ delivered_core_of_node shape counted world from to mark apart content is))
      ]
      refl

  -- the head of a queue is delivered
  first_alike : (cores : QueueWorld Core) (world : PairWorld) (from to : ℕ) (mark : Bool) (queue : List Tagged) → IsNodeCount shape.nodes →
      cores.queues from to ≡ queue →
      AreAlike shape cores world → All (IsPairAddressed shape.nodes from to) (world.mail from to) →
      AreAlike shape (after_delivery (system shape.nodes) shape cores from to mark queue) (after_first shape world from to mark (contents_of queue))
  first_alike cores world from to mark [] counted is alike are = alike
  first_alike cores world from to mark (head ∷ rest) counted is alike are =
      let waits : world.mail from to ≡ head.content ∷ contents_of rest = sym (alike.mail from to) ∙ ap contents_of is in
      let tags : All (λ (message : Tagged). message.tag ≡ 0) (head ∷ rest) = subst (All (λ (message : Tagged). message.tag ≡ 0)) is (alike.tags from to) in
      message_alike (record cores { queues = with_queue cores.queues from to rest })
      (record world { mail = with_way world.mail from to (contents_of rest) }) from to head.content mark counted
      (popped_alike cores world from to rest alike (All-tail (λ (message : Tagged). message.tag ≡ 0) head rest tags))
      (All-head (IsPairAddressed shape.nodes from to) head.content (contents_of rest) (subst (All (IsPairAddressed shape.nodes from to)) waits are))

-- an event that may happen leaves both alike
pub events_keep_alike : EventsKeepAlike
unfolding after_queue_event after_pair_event
events_keep_alike shape cores world (deliver from to mark) size alike are may =
    subst (λ contents. AreAlike shape (after_delivery (system shape.nodes) shape cores from to mark (cores.queues from to))
    (after_first shape world from to mark contents)) (alike.mail from to)
    (first_alike shape cores world from to mark (cores.queues from to) size.counted refl alike (are from to))
events_keep_alike shape cores world (take_line number text said) size alike are may =
    let next : QueueWorld Core = record cores { lines = cores.lines + 1 } in
    let after : PairWorld = record world { lines = world.lines + 1 } in
    let both : AreAlike shape next after = record {
      front = alike.front;
      nodes = alike.nodes;
      noted = alike.noted;
      mail = alike.mail;
      tags = alike.tags;
      roster = alike.roster;
      history = alike.history;
      lines = ap (λ n. n + 1) alike.lines;
    } in
    front_alike shape next after _ (fed_front (nothing_noted shape) world.front number text said) both
    (ap (λ (noted : Noted). fed_core FRONT noted (cores.cores FRONT) number text said) (noted_nothing shape cores world FRONT alike)
    ∙ ap (λ (core : Core). fed_core FRONT (nothing_noted shape) core number text said) alike.front)
    (line_firm shape world.front number text said)
events_keep_alike shape cores world quieten size alike are may = record {
  front = ap (quieted_core FRONT) alike.front;
  nodes = λ actor apart. cond-false (eqb actor FRONT) _ _ (ne_eqb actor FRONT apart) ∙ alike.nodes actor apart;
  noted = alike.noted;
  mail = alike.mail;
  tags = alike.tags;
  roster = alike.roster;
  history = alike.history;
  lines = alike.lines;
}
events_keep_alike shape cores world (note_next actor) size alike are may = absurd (nothing_next shape cores world actor alike may)
events_keep_alike shape cores world (stop_node n) size alike are may = unmoved_alike shape cores world alike
events_keep_alike shape cores world nothing size alike are may = alike
