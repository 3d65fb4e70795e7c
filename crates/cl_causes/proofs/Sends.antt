-- What a step sends says what is so, where what it was given does.
use Rattle.std.proofs.Common.{◌≡◌, ℕ, ◌-◌, ◌<◌, ◌≤◌, Bool, true, false, eqb, ◌&&◌, List, [], ◌∷◌, ◌++◌, map, All, subst, arith}
use Rattle.std.proofs.lemmas.Bool.{cond_both}
use Rattle.std.proofs.lemmas.List.Elements.{All-nil, All-cons, All-tail, All-append, All-weaker}
use Rattle.cl_commit.proofs.Whole.{All-sent}
use Rattle.cl_control.specs.declared.acts.Act.{Act}
use Rattle.cl_control.specs.declared.acts.Act.TheVariants as acts
use Rattle.cl_control.specs.Calls.{command_acts, commit_acts, finishes, abort_acts, answered_acts, answer_acts, counts_answer, counts_vote, is_last_vote, after_command, after_vote}
use Rattle.cl_control.specs.State.{ControlState, ascending, participants_of}
use Rattle.cl_lone.specs.Lone.{messages_of, controlled, committed, command_of, lone_step}
use Rattle.cl_part.specs.Calls.{answer_to}
use Rattle.cl_runs.specs.Queues.{sent_to}
use Rattle.cl_serial.specs.Transcript.{TranscriptEntry}
use Rattle.cl_steps.specs.declared.actors.TheConstants.{FRONT}
use Rattle.cl_steps.specs.declared.steps.Outgoing.{Outgoing}
use Rattle.cl_system.specs.Replicas.{Mail, with_mail, with_way, own_primary}
use Rattle.cl_system.specs.Roles.{IsAddressed}
use Rattle.cl_system.proofs.Sends.{AreSent}
use Rattle.cl_types.specs.declared.answers.AbortCause.{AbortCause}
use Rattle.cl_types.specs.declared.answers.AbortCause.TheVariants.{Conflict, Client, Memory}
use Rattle.cl_types.specs.declared.answers.Answer.{Answer as OpAnswer}
use Rattle.cl_types.specs.declared.answers.Answer.TheVariants as answer
use Rattle.cl_types.specs.declared.answers.Outcome.TheVariants.{Committed, Aborted}
use Rattle.cl_types.specs.declared.operations.Command.{Command as ClientCommand}
use Rattle.cl_types.specs.declared.operations.Command.TheVariants.{Begin, Work, Commit, Abort}
use Rattle.cl_types.specs.declared.operations.Op.{Op}
use Rattle.cl_types.specs.declared.operations.TxnId.{TxnId}
use Rattle.cl_types.specs.Places.{Place}
use Rattle.cl_vnode.specs.Inputs.{has_decide}
use Rattle.cl_vnode.specs.Replica.{ReplicaState}
use Rattle.cl_log.specs.Open.{is_open}
use Rattle.cl_vnode.specs.Step.{Stepped, started, with_part, after_finish, asked, prepared, finished}
use Rattle.cl_wire.specs.Message.{Content, Command, Outcome, Ask, Answer, Prepare, Vote, Finish, Decision}
use Rattle.cl_causes.proofs.Claims.{IsAskedAt, Says}

-- ---- mail

pub with_mail_all : (P : Content → Type 0) (mail : Mail) (giver : ℕ) (sends : List Outgoing) → ((from to : ℕ) → All P (mail from to)) →
    All (λ send. P send.payload) sends → (from to : ℕ) → All P (with_mail mail giver sends from to)
with_mail_all P mail giver sends all new from to =
    cond_both (eqb from giver) (mail from to ++ sent_to to sends) (mail from to) (All P) (λ here. All-append P _ _ (all from to) (All-sent P to sends new)) (λ elsewhere. all from to)

pub with_way_all : (P : Content → Type 0) (mail : Mail) (from to : ℕ) (content : Content) (rest : List Content) → mail from to ≡ content ∷ rest →
    ((a b : ℕ) → All P (mail a b)) → (a b : ℕ) → All P (with_way mail from to rest a b)
with_way_all P mail from to content rest waits all a b =
    cond_both (eqb b to && eqb a from) rest (mail a b) (All P) (λ here. All-tail P content rest (subst (All P) waits (all from to))) (λ elsewhere. all a b)

module _ (Short : TxnId → Type 0) (Held : TxnId → TxnId → Place → Op → ℕ → Type 0) (transcript : List TranscriptEntry) where
  abbrev pub AreSaid : List Outgoing → Type 0
  AreSaid sends = All (λ send. Says Short Held transcript send.payload) sends

  -- ---- the front sends commands alone

  command_says : (nodes to : ℕ) (content : Content) → nodes ≤ 8 → 0 < nodes → IsAddressed nodes FRONT to content → Says Short Held transcript content
  command_says nodes to (Ask v txn number table key op) few some is = absurd (let home = is.0.giver in omega (arith, home, few, some))
  command_says nodes to (Answer v txn number (answer.Refused holder)) few some is = absurd (let home = is.giver in let node = is.node in omega (arith, home, few, node))
  command_says nodes to (Answer v txn number answer.NoMemory) few some is = absurd (let home = is.giver in let node = is.node in omega (arith, home, few, node))
  command_says nodes to (Answer v txn number (answer.Done reply)) few some is = tt
  command_says nodes to (Outcome txn number (Aborted (Conflict holder))) few some is = absurd (let home = is.giver in omega (arith, home, few, some))
  command_says nodes to (Outcome txn number (Aborted Memory)) few some is = absurd (let home = is.giver in omega (arith, home, few, some))
  command_says nodes to (Outcome txn number outcome) few some is = absurd (let home = is.giver in omega (arith, home, few, some))
  command_says nodes to content few some is = tt

  pub front_said : (nodes : ℕ) (sends : List Outgoing) → nodes ≤ 8 → 0 < nodes → AreSent nodes FRONT sends → AreSaid sends
  front_said nodes sends few some are =
      All-weaker (λ (send : Outgoing). IsAddressed nodes FRONT send.to send.payload) (λ (send : Outgoing). Says Short Held transcript send.payload) (λ send is. command_says nodes send.to send.payload few some is) sends are

  -- ---- a controller

  abbrev ActSays : Act → Type 0
  ActSays (acts.Ask v txn number table key op) = Says Short Held transcript (Ask v txn number table key op)
  ActSays (acts.Say txn number outcome) = Says Short Held transcript (Outcome txn number outcome)
  ActSays act = Unit {0}

  abbrev ActsSay : List Act → Type 0
  ActsSay [] = Unit {0}
  ActsSay (act ∷ list) = ActSays act × ActsSay list

  P : Outgoing → Type 0
  P send = Says Short Held transcript send.payload

  one_said : (send : Outgoing) (rest : List Outgoing) → Says Short Held transcript send.payload → AreSaid rest → AreSaid (send ∷ rest)
  one_said send rest is more = All-cons (λ (send : Outgoing). Says Short Held transcript send.payload) send rest is more

  none_said : AreSaid []
  none_said = All-nil (λ (send : Outgoing). Says Short Held transcript send.payload)

  acts_said : (list : List Act) → ActsSay list → AreSaid (messages_of own_primary list)
  acts_said [] say = none_said
  acts_said (acts.Ask v txn number table key op ∷ list) say = one_said _ _ say.0 (acts_said list say.1)
  acts_said (acts.Prepare v txn ∷ list) say = one_said _ _ tt (acts_said list say.1)
  acts_said (acts.Finish v txn commit ∷ list) say = one_said _ _ tt (acts_said list say.1)
  acts_said (acts.Decide txn ∷ list) say = acts_said list say.1
  acts_said (acts.Say txn number outcome ∷ list) say = one_said _ _ say.0 (acts_said list say.1)

  finishes_say : (vs : List ℕ) (txn : TxnId) (commit : Bool) (rest : List Act) → ActsSay rest → ActsSay (map (λ v. acts.Finish v txn commit) vs ++ rest)
  finishes_say [] txn commit rest say = say
  finishes_say (v ∷ vs) txn commit rest say = (tt, finishes_say vs txn commit rest say)

  prepares_say : (vs : List ℕ) (txn : TxnId) → ActsSay (map (λ v. acts.Prepare v txn) vs)
  prepares_say [] txn = tt
  prepares_say (v ∷ vs) txn = (tt, prepares_say vs txn)

  commit_say : (control : ControlState) (txn : TxnId) (participants : List ℕ) → ActsSay (commit_acts control txn participants)
  commit_say control txn [] = (tt, tt)
  commit_say control txn (v ∷ vs) = prepares_say (ascending control.nodes (participants_of control txn)) txn

  abort_say : (control : ControlState) (txn : TxnId) (number : ℕ) (cause : AbortCause) → Says Short Held transcript (Outcome txn number (Aborted cause)) →
      ActsSay (abort_acts control txn number cause)
  abort_say control txn number cause is = finishes_say (ascending control.nodes (participants_of control txn)) txn false (acts.Say txn number (Aborted cause) ∷ []) (is, tt)

  committed_said : (state : ReplicaState) (txn : TxnId) (number : ℕ) → AreSaid (committed own_primary state txn number).step.sends
  committed_said state txn number =
      acts_said (finishes state.control txn true ++ acts.Say txn number Committed ∷ [])
      (finishes_say (ascending state.control.nodes (participants_of state.control txn)) txn true (acts.Say txn number Committed ∷ []) (tt, tt))

  -- ---- a step of a replica

  -- what a replica is given says what is so: the command that it is to carry out is an operation of its index, and its own answer is true
  abbrev pub IsGiven : ReplicaState → Content → Bool → Type 0
  IsGiven state (Command v txn number (Work table key op)) mark = IsAskedAt transcript txn (number - 1) table key op
  IsGiven state (Answer v txn number answer) mark = Says Short Held transcript (Answer v txn number answer)
  IsGiven state (Ask v txn number table key op) true = Short txn
  IsGiven state (Ask v txn number table key op) false = Says Short Held transcript (Answer v txn number (answer_to state.part txn (table, key) op))
  IsGiven state content mark = Unit {0}

  command_acts_say : (state : ReplicaState) (v : ℕ) (txn : TxnId) (number : ℕ) (what : ClientCommand) (mark : Bool) →
      IsGiven state (Command v txn number what) mark → ActsSay (command_acts state.control txn number what)
  unfolding command_acts
  command_acts_say state v txn number Begin mark given = (tt, tt)
  command_acts_say state v txn number (Work table key op) mark given = (given, tt)
  command_acts_say state v txn number Commit mark given = commit_say state.control txn (participants_of state.control txn)
  command_acts_say state v txn number Abort mark given = abort_say state.control txn number Client tt

  answered_acts_say : (control : ControlState) (v : ℕ) (txn : TxnId) (number : ℕ) (answer : OpAnswer) → Says Short Held transcript (Answer v txn number answer) →
      ActsSay (answered_acts control txn number answer)
  answered_acts_say control v txn number (answer.Done reply) given = (tt, tt)
  answered_acts_say control v txn number (answer.Refused holder) given = abort_say control txn number (Conflict holder) given
  answered_acts_say control v txn number answer.NoMemory given = abort_say control txn number Memory given

  finished_said : (state : ReplicaState) (txn : TxnId) (commit : Bool) → AreSaid (finished (started state) txn commit).step.sends
  unfolding finished
  finished_said state txn commit =
      cond_both (is_open state.part.log txn) (with_part (started state) (after_finish state.part txn commit)) (started state) (λ (done : Stepped). AreSaid done.step.sends) (λ opened. none_said) (λ closed. none_said)

  pub replica_said : (state : ReplicaState) (from : ℕ) (content : Content) (mark : Bool) → IsGiven state content mark → AreSaid (lone_step own_primary state from content mark).step.sends
  unfolding lone_step asked prepared answer_acts
  replica_said state from (Command v txn number what) mark given =
      cond_both (has_decide (command_acts state.control txn number what)) (committed own_primary state txn number) (controlled own_primary state (after_command state.control txn number what) (command_acts state.control txn number what))
      (λ (done : Stepped). AreSaid done.step.sends) (λ decides. committed_said state txn number) (λ otherwise. acts_said (command_acts state.control txn number what) (command_acts_say state v txn number what mark given))
  replica_said state from (Answer v txn number answer) mark given =
      acts_said _ (cond_both (counts_answer state.control v txn number) (answered_acts state.control txn number answer) [] ActsSay (λ counts. answered_acts_say state.control v txn number answer given) (λ strange. tt))
  replica_said state from (Vote v txn) mark given =
      cond_both (counts_vote state.control v txn && is_last_vote state.control v txn) (committed own_primary state txn (command_of state.control txn)) (controlled own_primary state (after_vote state.control v txn) [])
      (λ (done : Stepped). AreSaid done.step.sends) (λ last. committed_said state txn (command_of state.control txn)) (λ otherwise. none_said)
  replica_said state from (Ask v txn number table key op) true given = one_said _ [] given none_said
  replica_said state from (Ask v txn number table key op) false given = one_said _ [] given none_said
  replica_said state from (Prepare v txn) mark given = one_said _ [] tt none_said
  replica_said state from (Finish v txn commit) mark given = finished_said state txn commit
  replica_said state from (Decision v txn commit) mark given = finished_said state txn commit
  replica_said state from content mark given = none_said
