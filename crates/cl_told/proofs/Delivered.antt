-- A message comes to a replica: the transcript shows of each session what it has after it.
use Rattle.std.proofs.Common.{◌≡◌, ◌≢◌, ℕ, ◌%◌, ◌<◌, Bool, true, false, cond, eqb, inl, inr, ◌⊎◌, List, [], ◌∷◌, ◌++◌, filter, refl, sym, ap, ◌∙◌, subst, arith}
use Rattle.std.proofs.lemmas.Bool.{cond-true, cases_eq, ne_eqb, eq-eqb}
use Rattle.cl_control.specs.Calls.{counts_answer, counts_vote, is_last_vote}
use Rattle.cl_exchange.specs.Laws.{IsSoundWorld}
use Rattle.cl_exchange.specs.Stage.{SessionView, asking, view_of, is_of_session}
use Rattle.cl_exchange.proofs.Changes.{DoesSome, command_does_some, answer_does_some, answer_none_does, vote_does_some, vote_none_does}
use Rattle.cl_exchange.proofs.Commands.{view_after}
use Rattle.cl_exchange.proofs.Delivered.{IsAtSome, IsCommandOf, command_of_stage, home_apart, home_below, others_same}
use Rattle.cl_exchange.proofs.Events.{nodes_are}
use Rattle.cl_exchange.proofs.Holding.{holding}
use Rattle.cl_exchange.proofs.Opens.{of_session}
use Rattle.cl_exchange.proofs.Participants.{LeavesControl}
use Rattle.cl_exchange.proofs.Replies.{answer_next, vote_next}
use Rattle.cl_exchange.proofs.Told.{said-others}
use Rattle.cl_exchange.proofs.Views.{same_parts, same_view, own_view}
use Rattle.cl_lone.specs.Lone.{lone_step}
use Rattle.cl_runs.specs.Queues.{sent_to}
use Rattle.cl_runs.specs.World.{Shape}
use Rattle.cl_steps.specs.declared.actors.TheConstants.{FRONT}
use Rattle.cl_system.specs.Replicas.{ReplicaWorld, own_primary, with_way, replica_acts}
use Rattle.cl_told.proofs.Controllers.{Tells, IsBusy, command_tells, answer_tells, vote_tells}
use Rattle.cl_told.proofs.Feeding.{IsToldIn}
use Rattle.cl_told.proofs.Fronts.{same_told}
use Rattle.cl_types.proofs.PlacementLaws.{node_count-bounds}
use Rattle.cl_types.specs.Placement.{IsNodeCount}
use Rattle.cl_types.specs.declared.answers.Answer.{Answer as OperationAnswer}
use Rattle.cl_types.specs.declared.operations.Command.{Command as ClientCommand}
use Rattle.cl_types.specs.declared.operations.TxnId.{TxnId}
use Rattle.cl_vnode.specs.Replica.{ReplicaState}
use Rattle.cl_vnode.specs.Step.{Stepped}
use Rattle.cl_wire.specs.Message.{Content, Command, Answer, Vote}

module _ (shape : Shape) (counted : IsNodeCount shape.nodes) (world : ReplicaWorld) (sound : IsSoundWorld shape world) where
  -- the world after a step of a replica whose message was taken off
  abbrev pub after_step : ℕ → ℕ → List Content → Stepped → ReplicaWorld
  after_step from r rest stepped = replica_acts (record world { mail = with_way world.mail from r rest }) r stepped

  -- the session, and its controller
  abbrev view : ℕ → SessionView
  view s = view_of shape.nodes world s

  abbrev home : ℕ → ℕ
  home s = s % shape.nodes

  abbrev state : ℕ → ReplicaState
  state s = world.replicas (home s)

  counted_at_home : (s : ℕ) → IsNodeCount (state s).control.nodes
  counted_at_home s = subst IsNodeCount (sym (nodes_are shape counted world sound (home s) (home_below shape.nodes s counted))) counted

  apart : (s : ℕ) → eqb FRONT (home s) ≡ false
  apart s = (home_apart shape.nodes (home s) counted (home_below shape.nodes s counted)).0

  -- a step of the own controller
  own_told : (from s : ℕ) (rest commands : List Content) (stepped : Stepped) → filter (is_of_session s) (cond (eqb FRONT from) rest (world.mail FRONT (home s))) ≡ commands →
      (view s).outcomes ≡ [] → (is : IsToldIn shape world s) → Tells shape.nodes s (view_after (view s) s commands stepped) is.left is.told → IsToldIn shape (after_step from (home s) rest stepped) s
  own_told from s rest commands stepped left none is tells =
      same_told shape.nodes s world.front.transcript
      (own_view shape.nodes world from s rest stepped (apart s)
      ∙ same_parts _ (view_after (view s) s commands stepped) refl left refl (ap (λ list. list ++ filter (is_of_session s) (sent_to FRONT stepped.step.sends)) none))
      (record { left = is.left; told = is.told; shows = is.shows; rests = is.rests; tells = tells })

  -- the command of a session comes to its controller
  own_command : (s : ℕ) (content : Content) (rest : List Content) (mark : Bool) → is_of_session s content ≡ true → world.mail FRONT (home s) ≡ content ∷ rest → IsAtSome shape.nodes world s → IsToldIn shape world s →
      IsToldIn shape (after_step FRONT (home s) rest (lone_step own_primary (state s) FRONT content mark)) s
  own_command s content rest mark mine waits at told =
      let is : IsCommandOf shape.nodes s (view s) content (filter (is_of_session s) rest)
      = command_of_stage shape.nodes s (view s) at.0 content (filter (is_of_session s) rest) at.1 (ap (filter (is_of_session s)) waits ∙ cond-true _ _ _ mine) in
      let it = told.tells (asking is.current is.what is.entries) is.at in
      let busy : IsBusy (view s) told.left told.told is.current is.what = record { inside = is.at.inside; left_is = it.0; is = it.1 } in
      own_told FRONT s rest [] (lone_step own_primary (state s) FRONT content mark) is.alone is.at.outcomes told
      (subst (λ message. Tells shape.nodes s (view_after (view s) s [] (lone_step own_primary (state s) FRONT message mark)) told.left told.told) (sym is.same)
      (command_tells shape.nodes s (view s) is.current (state s) (counted_at_home s) refl told.left told.told (home s) mark is.what is.entries is.at busy))

  pub command_told : (s v number : ℕ) (txn : TxnId) (what : ClientCommand) (rest : List Content) (mark : Bool) → world.mail FRONT (home txn.session) ≡ Command v txn number what ∷ rest → IsAtSome shape.nodes world s → IsToldIn shape world s →
      IsToldIn shape (after_step FRONT (home txn.session) rest (lone_step own_primary (state txn.session) FRONT (Command v txn number what) mark)) s
  command_told s v number txn what rest mark waits at told = by (cases_eq txn.session s)
    where
      by : (txn.session ≡ s) ⊎ (txn.session ≢ s) → IsToldIn shape (after_step FRONT (home txn.session) rest (lone_step own_primary (state txn.session) FRONT (Command v txn number what) mark)) s
      by (inl same) =
          subst (λ n. IsAtSome shape.nodes world n → IsToldIn shape world n → IsToldIn shape (after_step FRONT (home txn.session) rest (lone_step own_primary (state txn.session) FRONT (Command v txn number what) mark)) n) same
          (own_command txn.session (Command v txn number what) rest mark (eq-eqb txn.session txn.session refl) waits) at told
      by (inr other) =
          let some = command_does_some (state txn.session) (counted_at_home txn.session) txn FRONT v number what mark in
          same_told shape.nodes s world.front.transcript
          (others_same shape.nodes world FRONT (home txn.session) s (Command v txn number what) rest _ txn some.change some.said (apart txn.session) waits
          (λ e. ne_eqb s txn.session (λ same. other (sym same))) some.does (λ same. other (sym same))) told

  -- what comes from a virtual node
  module _ (from : ℕ) (below : from < shape.nodes) (r : ℕ) (within : r < shape.nodes) (content : Content) (rest : List Content) (waits : world.mail from r ≡ content ∷ rest) (stepped : Stepped) where
    not_front : FRONT ≡ from → ⊥
    not_front same = let few = (node_count-bounds shape.nodes counted).1 in absurd (omega arith)

    pub leaves_told : (s : ℕ) → of_session s stepped.state.control.transactions ≡ of_session s (world.replicas r).control.transactions → filter (is_of_session s) (sent_to FRONT stepped.step.sends) ≡ [] → IsToldIn shape world s →
        IsToldIn shape (after_step from r rest stepped) s
    leaves_told s kept untold is =
        same_told shape.nodes s world.front.transcript (same_view shape.nodes world from r s rest stepped (home_apart shape.nodes r counted within).0 content waits (λ same. absurd (not_front same)) kept untold) is

    pub participant_told : (s : ℕ) → LeavesControl (world.replicas r) stepped → IsToldIn shape world s → IsToldIn shape (after_step from r rest stepped) s
    participant_told s leaves is = leaves_told s (ap (of_session s) leaves.entries) (ap (filter (is_of_session s)) leaves.told) is

  -- an answer or a vote comes to the controller of its transaction: it counts, or changes nothing
  module _ (from : ℕ) (below : from < shape.nodes) (txn : TxnId) (content : Content) (rest : List Content) (waits : world.mail from (home txn.session) ≡ content ∷ rest) (stepped : Stepped) where
    others_told : (s : ℕ) → DoesSome (state txn.session) txn stepped → s ≢ txn.session → IsToldIn shape world s → IsToldIn shape (after_step from (home txn.session) rest stepped) s
    others_told s some other is =
        leaves_told from below (home txn.session) (home_below shape.nodes txn.session counted) content rest waits stepped s
        (ap (of_session s) some.does.entries ∙ some.does.is.others s other (state txn.session).control.transactions)
        (ap (filter (is_of_session s)) some.does.told ∙ said-others s txn some.said other) is

    own_reply : (is : IsToldIn shape world txn.session) → Tells shape.nodes txn.session (view_after (view txn.session) txn.session (view txn.session).commands stepped) is.left is.told → (view txn.session).outcomes ≡ [] →
        IsToldIn shape (after_step from (home txn.session) rest stepped) txn.session
    own_reply is tells none =
        own_told from txn.session rest (view txn.session).commands stepped
        (ap (λ b. filter (is_of_session txn.session) (cond b rest (world.mail FRONT (home txn.session))))
        (ne_eqb FRONT from (not_front from below (home txn.session) (home_below shape.nodes txn.session counted) content rest waits stepped))) none is tells

  pub answer_told : (s from v number : ℕ) (txn : TxnId) (answer : OperationAnswer) (rest : List Content) (mark : Bool) → from < shape.nodes → world.mail from (home txn.session) ≡ Answer v txn number answer ∷ rest →
      IsAtSome shape.nodes world txn.session → IsToldIn shape world txn.session → IsToldIn shape world s →
      IsToldIn shape (after_step from (home txn.session) rest (lone_step own_primary (state txn.session) from (Answer v txn number answer) mark)) s
  answer_told s from v number txn answer rest mark below waits at own is = by (counts_answer (state txn.session).control v txn number) refl (cases_eq s txn.session)
    where
      stepped : Stepped
      stepped = lone_step own_primary (state txn.session) from (Answer v txn number answer) mark

      by : (counts : Bool) → counts_answer (state txn.session).control v txn number ≡ counts → (s ≡ txn.session) ⊎ (s ≢ txn.session) → IsToldIn shape (after_step from (home txn.session) rest stepped) s
      by false none either =
          let does = answer_none_does (state txn.session) (counted_at_home txn.session) txn from v number answer mark none in
          leaves_told from below (home txn.session) (home_below shape.nodes txn.session counted) (Answer v txn number answer) rest waits stepped s (ap (of_session s) does.entries) (ap (filter (is_of_session s)) does.told) is
      by true counts (inr other) =
          others_told from below txn (Answer v txn number answer) rest waits stepped s (answer_does_some (state txn.session) (counted_at_home txn.session) txn from v number answer mark true counts) other is
      by true counts (inl same) =
          let holds = holding shape.nodes txn.session (view txn.session) at.0 at.1 in
          let both = answer_next shape.nodes (view txn.session) (state txn.session) (counted_at_home txn.session) txn refl holds from v number answer mark counts in
          subst (λ n. IsToldIn shape (after_step from (home txn.session) rest stepped) n) (sym same)
          (own_reply from below txn (Answer v txn number answer) rest waits stepped own
          (answer_tells shape.nodes (view txn.session) (state txn.session) (counted_at_home txn.session) txn refl holds own.left own.told own.tells from v number answer mark counts) both.0.working.outcomes)

  pub vote_told : (s from v : ℕ) (txn : TxnId) (rest : List Content) (mark : Bool) → from < shape.nodes → world.mail from (home txn.session) ≡ Vote v txn ∷ rest →
      IsAtSome shape.nodes world txn.session → IsToldIn shape world txn.session → IsToldIn shape world s →
      IsToldIn shape (after_step from (home txn.session) rest (lone_step own_primary (state txn.session) from (Vote v txn) mark)) s
  vote_told s from v txn rest mark below waits at own is = by (counts_vote (state txn.session).control v txn) refl (cases_eq s txn.session)
    where
      stepped : Stepped
      stepped = lone_step own_primary (state txn.session) from (Vote v txn) mark

      by : (counts : Bool) → counts_vote (state txn.session).control v txn ≡ counts → (s ≡ txn.session) ⊎ (s ≢ txn.session) → IsToldIn shape (after_step from (home txn.session) rest stepped) s
      by false none either =
          let does = vote_none_does (state txn.session) (counted_at_home txn.session) txn from v mark none in
          leaves_told from below (home txn.session) (home_below shape.nodes txn.session counted) (Vote v txn) rest waits stepped s (ap (of_session s) does.entries) (ap (filter (is_of_session s)) does.told) is
      by true counts (inr other) =
          others_told from below txn (Vote v txn) rest waits stepped s
          (vote_does_some (state txn.session) (counted_at_home txn.session) txn from v mark true (is_last_vote (state txn.session).control v txn) counts refl) other is
      by true counts (inl same) =
          let holds = holding shape.nodes txn.session (view txn.session) at.0 at.1 in
          let both = vote_next shape.nodes (view txn.session) (state txn.session) (counted_at_home txn.session) txn refl holds from v mark counts in
          subst (λ n. IsToldIn shape (after_step from (home txn.session) rest stepped) n) (sym same)
          (own_reply from below txn (Vote v txn) rest waits stepped own
          (vote_tells shape.nodes (view txn.session) (state txn.session) (counted_at_home txn.session) txn refl holds own.left own.told own.tells from v mark counts) both.0.working.outcomes)
