-- A message comes to a replica: each session is at some stage after it.
use Rattle.std.proofs.Common.{◌≡◌, ◌≢◌, ℕ, ◌%◌, ◌<◌, Bool, true, false, cond, eqb, ◌⊎◌, inl, inr, List, [], ◌∷◌, ◌++◌, filter, refl, sym, ap, ◌∙◌, subst, arith}
use Rattle.std.proofs.lemmas.Bool.{cond-true, cases_eq, ne_eqb, eq-eqb}
use Rattle.cl_control.specs.Calls.{counts_answer, counts_vote, is_last_vote}
use Rattle.cl_control.specs.State.{Entry}
use Rattle.cl_exchange.specs.Stage.{SessionView, Stage, outside, ready, asking, working, telling, IsAt, IsAsking, view_of, is_of_session, last_begun}
use Rattle.cl_exchange.proofs.Replies.{answer_next, vote_next}
use Rattle.cl_exchange.proofs.Changes.{Does, DoesSome, command_does_some, answer_does_some, answer_none_does, vote_does_some, vote_none_does}
use Rattle.cl_exchange.proofs.Commands.{view_after, IsAtNext, command_next}
use Rattle.cl_exchange.proofs.Holding.{holding}
use Rattle.cl_exchange.proofs.Opens.{of_session}
use Rattle.cl_exchange.proofs.Participants.{LeavesControl}
use Rattle.cl_exchange.proofs.Told.{said-others}
use Rattle.cl_exchange.proofs.Views.{same_parts, same_view, own_view}
use Rattle.cl_front.specs.declared.current.Current.{Current}
use Rattle.cl_lone.specs.Lone.{lone_step}
use Rattle.cl_runs.specs.Queues.{sent_to}
use Rattle.cl_steps.specs.declared.actors.TheConstants.{FRONT}
use Rattle.cl_system.specs.Replicas.{ReplicaWorld, own_primary, with_way, replica_acts}
use Rattle.cl_types.proofs.PlacementLaws.{node_count-bounds}
use Rattle.cl_types.specs.Placement.{IsNodeCount}
use Rattle.cl_types.specs.declared.answers.Answer.{Answer as OperationAnswer}
use Rattle.cl_types.specs.declared.operations.Command.{Command as ClientCommand}
use Rattle.cl_types.specs.declared.operations.TxnId.{TxnId}
use Rattle.cl_vnode.specs.Replica.{ReplicaState}
use Rattle.cl_vnode.specs.Step.{Stepped}
use Rattle.cl_wire.specs.Message.{Content, Command, Answer, Vote}

-- a virtual node is no front
pub home_apart : (nodes v : ℕ) → IsNodeCount nodes → v < nodes → (eqb FRONT v ≡ false) × (eqb v FRONT ≡ false)
home_apart nodes v counted below =
    let few = (node_count-bounds nodes counted).1 in
    (ne_eqb FRONT v (λ e. absurd (omega arith)), ne_eqb v FRONT (λ e. absurd (omega arith)))

-- the home of a session is a virtual node
pub home_below : (nodes s : ℕ) → IsNodeCount nodes → s % nodes < nodes
home_below nodes s counted = let some = (node_count-bounds nodes counted).0 in omega arith

-- of sessions other than that of the transaction nothing changes
pub others_same : (nodes : ℕ) (world : ReplicaWorld) (from r s : ℕ) (content : Content) (rest : List Content) (stepped : Stepped) (txn : TxnId) (change : List Entry → List Entry) (said : _) → eqb FRONT r ≡ false →
    world.mail from r ≡ content ∷ rest → (FRONT ≡ from → is_of_session s content ≡ false) → Does (world.replicas r) txn stepped change said → s ≢ txn.session →
    view_of nodes (replica_acts (record world { mail = with_way world.mail from r rest }) r stepped) s ≡ view_of nodes world s
others_same nodes world from r s content rest stepped txn change said apart waits others does other =
    same_view nodes world from r s rest stepped apart content waits others
    (ap (of_session s) does.entries ∙ does.is.others s other (world.replicas r).control.transactions)
    (ap (filter (is_of_session s)) does.told ∙ said-others s txn said other)

-- ---- a command

-- the stage of a session whose command is at the head of its way
pub record IsCommandOf (nodes s : ℕ) (view : SessionView) (content : Content) (rest : List Content) : Type 0 where
  pub current : Current
  pub what : ClientCommand
  pub entries : List Entry
  pub at : IsAsking nodes s view current what entries
  pub same : content ≡ Command (s % nodes) (last_begun s view.session) current.commands what
  pub alone : rest ≡ []

pub command_of_stage : (nodes s : ℕ) (view : SessionView) (stage : Stage) (content : Content) (rest : List Content) → IsAt nodes s view stage → view.commands ≡ content ∷ rest → IsCommandOf nodes s view content rest
command_of_stage nodes s view outside content rest at has = let none = at.1.commands in absurd cc
command_of_stage nodes s view (ready current entry) content rest at has = let none = at.commands in absurd cc
command_of_stage nodes s view (asking current what entries) content rest at has =
    let is = at.commands in
    record { current = current; what = what; entries = entries; at = at; same = cc; alone = cc }
command_of_stage nodes s view (working current entry) content rest at has = let none = at.commands in absurd cc
command_of_stage nodes s view (telling current outcome entries) content rest at has = let none = at.commands in absurd cc

-- the session is at some stage
abbrev pub IsAtSome : ℕ → ReplicaWorld → ℕ → Type 0
IsAtSome nodes world s = (stage : Stage) × IsAt nodes s (view_of nodes world s) stage

-- so it is where its view is the same
pub still_at : (nodes s : ℕ) {before after : SessionView} → after ≡ before → (stage : Stage) × IsAt nodes s before stage → (stage : Stage) × IsAt nodes s after stage
still_at nodes s same at = (at.0, subst (λ view. IsAt nodes s view at.0) (sym same) at.1)

module _ (nodes : ℕ) (counted : IsNodeCount nodes) (world : ReplicaWorld) where
  -- the world after a step of a replica whose message was taken off
  abbrev pub after_step : ℕ → ℕ → List Content → Stepped → ReplicaWorld
  after_step from r rest stepped = replica_acts (record world { mail = with_way world.mail from r rest }) r stepped

  -- a step of the own controller
  own_next : (from s : ℕ) (rest commands : List Content) (stepped : Stepped) → filter (is_of_session s) (cond (eqb FRONT from) rest (world.mail FRONT (s % nodes))) ≡ commands →
      (view_of nodes world s).outcomes ≡ [] → IsAtNext nodes s (view_of nodes world s) commands stepped → IsAtSome nodes (after_step from (s % nodes) rest stepped) s
  own_next from s rest commands stepped left none next = (
    next.0,
    subst (λ view. IsAt nodes s view next.0)
        (sym (own_view nodes world from s rest stepped (home_apart nodes (s % nodes) counted (home_below nodes s counted)).0
        ∙ same_parts _ (view_after (view_of nodes world s) s commands stepped) refl left refl
        (ap (λ list. list ++ filter (is_of_session s) (sent_to FRONT stepped.step.sends)) none))) next.1,
  )

  module _ (nodes_are : (v : ℕ) → v < nodes → (world.replicas v).control.nodes ≡ nodes) where
    counted_at_home : (s : ℕ) → IsNodeCount (world.replicas (s % nodes)).control.nodes
    counted_at_home s = subst IsNodeCount (sym (nodes_are (s % nodes) (home_below nodes s counted))) counted

    -- the command of a session comes to its controller
    own_command : (s : ℕ) (content : Content) (rest : List Content) (mark : Bool) → is_of_session s content ≡ true → world.mail FRONT (s % nodes) ≡ content ∷ rest →
        IsAtSome nodes world s → IsAtSome nodes (after_step FRONT (s % nodes) rest (lone_step own_primary (world.replicas (s % nodes)) FRONT content mark)) s
    own_command s content rest mark mine waits at =
        let view : SessionView = view_of nodes world s in
        let state : ReplicaState = world.replicas (s % nodes) in
        let is : IsCommandOf nodes s view content (filter (is_of_session s) rest)
        = command_of_stage nodes s view at.0 content (filter (is_of_session s) rest) at.1 (ap (filter (is_of_session s)) waits ∙ cond-true _ _ _ mine) in
        own_next FRONT s rest [] (lone_step own_primary state FRONT content mark) is.alone is.at.outcomes
        (subst (λ message. IsAtNext nodes s view [] (lone_step own_primary state FRONT message mark)) (sym is.same)
        (command_next nodes s view is.current state (counted_at_home s) refl is.what is.entries (s % nodes) mark is.at))

    pub command_delivered : (s v number : ℕ) (txn : TxnId) (what : ClientCommand) (rest : List Content) (mark : Bool) → world.mail FRONT (txn.session % nodes) ≡ Command v txn number what ∷ rest →
        IsAtSome nodes world s → IsAtSome nodes (after_step FRONT (txn.session % nodes) rest (lone_step own_primary (world.replicas (txn.session % nodes)) FRONT (Command v txn number what) mark)) s
    command_delivered s v number txn what rest mark waits at =
        let h : ℕ = txn.session % nodes in
        elim (cases_eq txn.session s) [
          | inl same ↦ subst (λ n. IsAtSome nodes world n → IsAtSome nodes (after_step FRONT h rest (lone_step own_primary (world.replicas h) FRONT (Command v txn number what) mark)) n) same
              (own_command txn.session (Command v txn number what) rest mark (eq-eqb txn.session txn.session refl) waits) at
          | inr other ↦
              (let some = command_does_some (world.replicas h) (counted_at_home txn.session) txn FRONT v number what mark in
              still_at nodes s (others_same nodes world FRONT h s (Command v txn number what) rest _ txn some.change some.said (home_apart nodes h counted (home_below nodes txn.session counted)).0 waits
              (λ e. ne_eqb s txn.session (λ same. other (sym same))) some.does (λ same. other (sym same))) at)
        ]

    -- an answer or a vote comes to the controller of its transaction: it counts, or changes nothing
    module _ (from : ℕ) (apart : from < nodes) (txn : TxnId) (content : Content) (rest : List Content) (waits : world.mail from (txn.session % nodes) ≡ content ∷ rest) (stepped : Stepped) where
      not_front : FRONT ≡ from → ⊥
      not_front same = let few = (node_count-bounds nodes counted).1 in absurd (omega arith)

      step_same : (s : ℕ) → of_session s stepped.state.control.transactions ≡ of_session s (world.replicas (txn.session % nodes)).control.transactions →
          filter (is_of_session s) (sent_to FRONT stepped.step.sends) ≡ [] → IsAtSome nodes world s → IsAtSome nodes (after_step from (txn.session % nodes) rest stepped) s
      step_same s kept untold at =
          still_at nodes s (same_view nodes world from (txn.session % nodes) s rest stepped (home_apart nodes (txn.session % nodes) counted (home_below nodes txn.session counted)).0 content waits
          (λ same. absurd (not_front same)) kept untold) at

      others_delivered : (s : ℕ) → DoesSome (world.replicas (txn.session % nodes)) txn stepped → s ≢ txn.session → IsAtSome nodes world s → IsAtSome nodes (after_step from (txn.session % nodes) rest stepped) s
      others_delivered s some other at =
          step_same s (ap (of_session s) some.does.entries ∙ some.does.is.others s other (world.replicas (txn.session % nodes)).control.transactions)
          (ap (filter (is_of_session s)) some.does.told ∙ said-others s txn some.said other) at

      own_delivered : IsAtNext nodes txn.session (view_of nodes world txn.session) (view_of nodes world txn.session).commands stepped → (view_of nodes world txn.session).outcomes ≡ [] →
          IsAtSome nodes (after_step from (txn.session % nodes) rest stepped) txn.session
      own_delivered next none =
          own_next from txn.session rest (view_of nodes world txn.session).commands stepped
          (ap (λ b. filter (is_of_session txn.session) (cond b rest (world.mail FRONT (txn.session % nodes)))) (ne_eqb FRONT from not_front)) none next

    pub answer_delivered : (s from v number : ℕ) (txn : TxnId) (answer : OperationAnswer) (rest : List Content) (mark : Bool) → from < nodes → world.mail from (txn.session % nodes) ≡ Answer v txn number answer ∷ rest →
        IsAtSome nodes world txn.session → IsAtSome nodes world s →
        IsAtSome nodes (after_step from (txn.session % nodes) rest (lone_step own_primary (world.replicas (txn.session % nodes)) from (Answer v txn number answer) mark)) s
    answer_delivered s from v number txn answer rest mark below waits own at = by (counts_answer (world.replicas (txn.session % nodes)).control v txn number) refl (cases_eq s txn.session)
      where
        by : (counts : Bool) → counts_answer (world.replicas (txn.session % nodes)).control v txn number ≡ counts → (s ≡ txn.session) ⊎ (s ≢ txn.session) →
            IsAtSome nodes (after_step from (txn.session % nodes) rest (lone_step own_primary (world.replicas (txn.session % nodes)) from (Answer v txn number answer) mark)) s
        by false none either =
            let does = answer_none_does (world.replicas (txn.session % nodes)) (counted_at_home txn.session) txn from v number answer mark none in
            step_same from below txn (Answer v txn number answer) rest waits (lone_step own_primary (world.replicas (txn.session % nodes)) from (Answer v txn number answer) mark) s (ap (of_session s) does.entries) (ap (filter (is_of_session s)) does.told) at
        by true counts (inr other) =
            others_delivered from below txn (Answer v txn number answer) rest waits (lone_step own_primary (world.replicas (txn.session % nodes)) from (Answer v txn number answer) mark) s
            (answer_does_some (world.replicas (txn.session % nodes)) (counted_at_home txn.session) txn from v number answer mark true counts) other at
        by true counts (inl same) =
            let both = answer_next nodes (view_of nodes world txn.session) (world.replicas (txn.session % nodes)) (counted_at_home txn.session) txn refl
            (holding nodes txn.session (view_of nodes world txn.session) own.0 own.1) from v number answer mark counts in
            subst (λ n. IsAtSome nodes (after_step from (txn.session % nodes) rest (lone_step own_primary (world.replicas (txn.session % nodes)) from (Answer v txn number answer) mark)) n) (sym same)
            (own_delivered from below txn (Answer v txn number answer) rest waits (lone_step own_primary (world.replicas (txn.session % nodes)) from (Answer v txn number answer) mark) both.1 both.0.working.outcomes)

    pub vote_delivered : (s from v : ℕ) (txn : TxnId) (rest : List Content) (mark : Bool) → from < nodes → world.mail from (txn.session % nodes) ≡ Vote v txn ∷ rest →
        IsAtSome nodes world txn.session → IsAtSome nodes world s →
        IsAtSome nodes (after_step from (txn.session % nodes) rest (lone_step own_primary (world.replicas (txn.session % nodes)) from (Vote v txn) mark)) s
    vote_delivered s from v txn rest mark below waits own at = by (counts_vote (world.replicas (txn.session % nodes)).control v txn) refl (cases_eq s txn.session)
      where
        by : (counts : Bool) → counts_vote (world.replicas (txn.session % nodes)).control v txn ≡ counts → (s ≡ txn.session) ⊎ (s ≢ txn.session) →
            IsAtSome nodes (after_step from (txn.session % nodes) rest (lone_step own_primary (world.replicas (txn.session % nodes)) from (Vote v txn) mark)) s
        by false none either =
            let does = vote_none_does (world.replicas (txn.session % nodes)) (counted_at_home txn.session) txn from v mark none in
            step_same from below txn (Vote v txn) rest waits (lone_step own_primary (world.replicas (txn.session % nodes)) from (Vote v txn) mark) s (ap (of_session s) does.entries) (ap (filter (is_of_session s)) does.told) at
        by true counts (inr other) =
            others_delivered from below txn (Vote v txn) rest waits (lone_step own_primary (world.replicas (txn.session % nodes)) from (Vote v txn) mark) s
            (vote_does_some (world.replicas (txn.session % nodes)) (counted_at_home txn.session) txn from v mark true (is_last_vote (world.replicas (txn.session % nodes)).control v txn) counts refl) other at
        by true counts (inl same) =
            let both = vote_next nodes (view_of nodes world txn.session) (world.replicas (txn.session % nodes)) (counted_at_home txn.session) txn refl
            (holding nodes txn.session (view_of nodes world txn.session) own.0 own.1) from v mark counts in
            subst (λ n. IsAtSome nodes (after_step from (txn.session % nodes) rest (lone_step own_primary (world.replicas (txn.session % nodes)) from (Vote v txn) mark)) n) (sym same)
            (own_delivered from below txn (Vote v txn) rest waits (lone_step own_primary (world.replicas (txn.session % nodes)) from (Vote v txn) mark) both.1 both.0.working.outcomes)

    -- what a participant takes leaves each session
    pub participant_delivered : (s from r : ℕ) (content : Content) (rest : List Content) (stepped : Stepped) → from < nodes → r < nodes → world.mail from r ≡ content ∷ rest → LeavesControl (world.replicas r) stepped →
        IsAtSome nodes world s → IsAtSome nodes (after_step from r rest stepped) s
    participant_delivered s from r content rest stepped below within waits leaves at =
        let few = (node_count-bounds nodes counted).1 in
        still_at nodes s (same_view nodes world from r s rest stepped (home_apart nodes r counted within).0 content waits (λ same. absurd (omega arith)) (ap (of_session s) leaves.entries) (ap (filter (is_of_session s)) leaves.told)) at
