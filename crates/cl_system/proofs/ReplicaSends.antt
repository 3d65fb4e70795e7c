-- A step of a replica leaves it in its place, and what it sends is addressed.
use Rattle.std.proofs.Common.{◌≡◌, ◌≢◌, ℕ, ◌<◌, ◌&&◌, Bool, true, false, List, [], ◌∷◌, ◌++◌, All, refl, sym, ◌∙◌, subst}
use Rattle.std.proofs.lemmas.Bool.{cond_both}
use Rattle.std.proofs.lemmas.List.Elements.{All-nil, All-cons}
use Rattle.cl_types.specs.declared.answers.Outcome.TheVariants.{Committed}
use Rattle.cl_types.specs.declared.operations.Op.{Op}
use Rattle.cl_types.specs.declared.operations.TxnId.{TxnId}
use Rattle.cl_types.specs.Placement.{IsNodeCount}
use Rattle.cl_types.specs.Places.{Place}
use Rattle.cl_log.specs.Open.{is_open}
use Rattle.cl_control.specs.declared.acts.Act.{Act}
use Rattle.cl_control.specs.declared.acts.Act.TheVariants.{Say}
use Rattle.cl_control.specs.Calls.{finishes, command_acts, after_command, answer_acts, after_answer, counts_vote, is_last_vote, after_vote}
use Rattle.cl_control.specs.State.{ControlState}
use Rattle.cl_lone.specs.Lone.{controlled, committed, command_of, lone_step}
use Rattle.cl_node.specs.Addressing.{home_in}
use Rattle.cl_steps.specs.declared.actors.TheConstants.{FRONT}
use Rattle.cl_vnode.specs.Inputs.{has_decide}
use Rattle.cl_vnode.specs.Replica.{ReplicaState}
use Rattle.cl_vnode.specs.Step.{Stepped, started, with_part, after_finish, asked, prepared, finished}
use Rattle.cl_vnode.proofs.Controller.{nodes-after_command, nodes-after_answer, nodes-after_vote}
use Rattle.cl_wire.specs.Message.{Content, Bare, Command, Outcome, Ask, Answer, Prepare, Vote, Finish, Inquire, Decision, Log, LogAck, Repair, Records, Names, CopyAck}
use Rattle.cl_system.specs.Replicas.{own_primary}
use Rattle.cl_system.specs.Roles.{IsOfSession, IsAddressed, IsInPlace}
use Rattle.cl_system.proofs.Sends.{IsSent, AreSent}
use Rattle.cl_system.proofs.Controls.{IsActSent, messages_sent, end_sent, command_sent, answer_sent, EachNamed, without_named, command_named, answer_named, vote_named}

-- after a step the replica is of its virtual node, its controller has transactions of its own sessions, and what the step sends is addressed
pub record IsStepInPlace (nodes v : ℕ) (stepped : Stepped) : Type 0 where
  pub own : stepped.state.v ≡ v
  pub same_nodes : stepped.state.control.nodes ≡ nodes
  pub sessions : EachNamed IsOfSession stepped.state.control.transactions
  pub home : EachNamed (λ txn. home_in nodes txn ≡ v) stepped.state.control.transactions
  pub sends : AreSent nodes v stepped.step.sends

-- by the number of virtual nodes that the controller knows
module _ (state : ReplicaState) (v from : ℕ) (counted : IsNodeCount state.control.nodes) (below : v < state.control.nodes) (place : IsInPlace state.control.nodes v state) where
  nothing_sent : AreSent state.control.nodes v []
  nothing_sent = All-nil (IsSent state.control.nodes v)

  -- where the participant alone may have changed
  same_control : (stepped : Stepped) → stepped.state.v ≡ state.v → stepped.state.control ≡ state.control → AreSent state.control.nodes v stepped.step.sends → IsStepInPlace state.control.nodes v stepped
  same_control stepped own same sends = record {
    own = own ∙ place.own;
    same_nodes = subst (λ (control : ControlState). control.nodes ≡ state.control.nodes) (sym same) refl;
    sessions = subst (λ (control : ControlState). EachNamed IsOfSession control.transactions) (sym same) place.sessions;
    home = subst (λ (control : ControlState). EachNamed (λ txn. home_in state.control.nodes txn ≡ v) control.transactions) (sym same) place.home;
    sends = sends;
  }

  -- where the controller has changed
  controlled_place : (control : ControlState) (acts : List Act) → control.nodes ≡ state.control.nodes → EachNamed IsOfSession control.transactions →
      EachNamed (λ txn. home_in state.control.nodes txn ≡ v) control.transactions → All (IsActSent state.control.nodes v) acts →
      IsStepInPlace state.control.nodes v (controlled own_primary state control acts)
  controlled_place control acts same sessions home are =
      record { own = place.own; same_nodes = same; sessions = sessions; home = home; sends = messages_sent state.control.nodes v acts are }

  -- where a transaction is committed
  committed_place : (txn : TxnId) (number : ℕ) → IsOfSession txn → v ≡ home_in state.control.nodes txn → IsStepInPlace state.control.nodes v (committed own_primary state txn number)
  committed_place txn number there mine = record {
    own = place.own;
    same_nodes = refl;
    sessions = without_named IsOfSession txn state.control.transactions place.sessions;
    home = without_named (λ txn. home_in state.control.nodes txn ≡ v) txn state.control.transactions place.home;
    sends = messages_sent state.control.nodes v (finishes state.control txn true ++ Say txn number Committed ∷ []) (end_sent state.control v txn there mine counted true number Committed);
  }

  -- an operation
  asked_place : (w : ℕ) (txn : TxnId) (number : ℕ) (place_of : Place) (op : Op) (mark : Bool) → IsOfSession txn → v ≡ w → from ≡ home_in state.control.nodes txn →
      IsStepInPlace state.control.nodes v (asked (started state) from w txn number place_of op mark)
  unfolding asked
  asked_place w txn number place_of op true there here giver =
      same_control _ refl refl
      (All-cons (IsSent state.control.nodes v) _ [] (record { session = there; giver = here; receiver = giver; node = subst (λ n. n < state.control.nodes) here below }) nothing_sent)
  asked_place w txn number place_of op false there here giver =
      same_control _ refl refl
      (All-cons (IsSent state.control.nodes v) _ [] (record { session = there; giver = here; receiver = giver; node = subst (λ n. n < state.control.nodes) here below }) nothing_sent)

  -- the end of a transaction
  finished_place : (txn : TxnId) (commit : Bool) → IsStepInPlace state.control.nodes v (finished (started state) txn commit)
  unfolding finished
  finished_place txn commit =
      cond_both (is_open state.part.log txn) (with_part (started state) (after_finish state.part txn commit)) (started state) (IsStepInPlace state.control.nodes v)
      (λ is. same_control _ refl refl nothing_sent) (λ none. same_control _ refl refl nothing_sent)

  -- each kind of message
  step_place : (content : Content) (mark : Bool) → v ≢ FRONT → IsAddressed state.control.nodes from v content → IsStepInPlace state.control.nodes v (lone_step own_primary state from content mark)
  unfolding lone_step prepared
  step_place (Command w txn number what) mark node is =
      let control : ControlState = after_command state.control txn number what in
      let mine : v ≡ home_in state.control.nodes txn = is.receiver ∙ is.node in
      cond_both (has_decide (command_acts state.control txn number what)) (committed own_primary state txn number)
      (controlled own_primary state control (command_acts state.control txn number what)) (IsStepInPlace state.control.nodes v)
      (λ decided. committed_place txn number is.session mine)
      (λ more. controlled_place control (command_acts state.control txn number what) (nodes-after_command state.control txn number what)
      (command_named IsOfSession state.control txn number what is.session place.sessions)
      (command_named (λ txn. home_in state.control.nodes txn ≡ v) state.control txn number what (sym mine) place.home)
      (command_sent state.control v txn is.session mine counted number what))
  step_place (Answer w txn number answer) mark node is =
      controlled_place (after_answer state.control w txn number answer) (answer_acts state.control w txn number answer) (nodes-after_answer state.control w txn number answer)
      (answer_named IsOfSession state.control w txn number answer place.sessions)
      (answer_named (λ txn. home_in state.control.nodes txn ≡ v) state.control w txn number answer place.home)
      (answer_sent state.control v txn is.session is.receiver counted w number answer)
  step_place (Vote w txn) mark node is =
      cond_both (counts_vote state.control w txn && is_last_vote state.control w txn) (committed own_primary state txn (command_of state.control txn))
      (controlled own_primary state (after_vote state.control w txn) []) (IsStepInPlace state.control.nodes v)
      (λ last. committed_place txn (command_of state.control txn) is.session is.receiver)
      (λ more. controlled_place (after_vote state.control w txn) [] (nodes-after_vote state.control w txn)
      (vote_named IsOfSession state.control w txn place.sessions)
      (vote_named (λ txn. home_in state.control.nodes txn ≡ v) state.control w txn place.home)
      (All-nil (IsActSent state.control.nodes v)))
  step_place (Ask w txn number table key op) mark node is = asked_place w txn number (table, key) op mark is.0.session is.0.receiver is.0.giver
  step_place (Prepare w txn) mark node is =
      same_control _ refl refl
      (All-cons (IsSent state.control.nodes v) _ []
      (record { session = is.session; giver = sym place.own; receiver = refl; node = subst (λ n. n < state.control.nodes) (sym place.own) below }) nothing_sent)
  step_place (Finish w txn commit) mark node is = finished_place txn commit
  step_place (Outcome txn number outcome) mark node is = absurd (node is.receiver)
  step_place Bare mark node is = absurd is
  step_place (Inquire w txn) mark node is = absurd is
  step_place (Decision w txn commit) mark node is = absurd is
  step_place (Log w number entry) mark node is = absurd is
  step_place (LogAck w number) mark node is = absurd is
  step_place (Repair w other) mark node is = absurd is
  step_place (Records w index records) mark node is = absurd is
  step_place (Names w index last low txns) mark node is = absurd is
  step_place (CopyAck w index) mark node is = absurd is

-- a step on a message that is addressed leaves the replica in its place
pub step_in_place : (nodes : ℕ) (state : ReplicaState) (v from : ℕ) (content : Content) (mark : Bool) → IsNodeCount nodes → v < nodes → v ≢ FRONT → IsInPlace nodes v state →
    IsAddressed nodes from v content → IsStepInPlace nodes v (lone_step own_primary state from content mark)
step_in_place nodes state v from content mark counted below node place is =
    let P : ℕ → Type 0 = λ n. IsNodeCount n → v < n → IsInPlace n v state → IsAddressed n from v content → IsStepInPlace n v (lone_step own_primary state from content mark) in
    let own : P state.control.nodes = λ counted below place is. step_place state v from counted below place content mark node is in
    subst P place.same_nodes own counted below place is
