-- What a transaction has done beside what the transcript shows, and what the messages on their way say of it.
use Rattle.std.proofs.Common.{◌≡◌, ℕ, zero, suc, Bool, true, false, eqb, ◌&&◌, List, [], ◌∷◌, ◌++◌, map, filter, All, Some, None, ◌⊎◌, refl, ap, subst}
use Rattle.std.proofs.lemmas.Bool.{cond_both}
use Rattle.std.proofs.lemmas.List.Elements.{All-nil, All-cons, All-tail, All-append}
use Rattle.cl_commit.proofs.Whole.{All-sent}
use Rattle.cl_control.specs.Calls.{abort_acts, command_acts, after_command, commit_acts, answered_acts, answer_acts, counts_answer, counts_vote, is_last_vote, after_vote}
use Rattle.cl_control.specs.State.{participants_of, ascending}
use Rattle.cl_control.specs.declared.acts.Act.{Act}
use Rattle.cl_control.specs.declared.acts.Act.TheVariants as acts
use Rattle.cl_lone.specs.Lone.{lone_step, messages_of, committed, controlled, command_of}
use Rattle.cl_serial.specs.PlainMap.{Operation, operations}
use Rattle.cl_serial.specs.Transactions.{Session}
use Rattle.cl_serial.specs.Exchanges.{pair_up}
use Rattle.cl_serial.specs.Transcript.{TranscriptEntry, gather}
use Rattle.cl_shown.specs.Done.{is_done_outcome}
use Rattle.cl_steps.specs.declared.actors.TheConstants.{FRONT}
use Rattle.cl_steps.specs.declared.steps.Outgoing.{Outgoing}
use Rattle.cl_steps.specs.Steps.{sent}
use Rattle.cl_system.specs.Replicas.{ReplicaWorld, Mail, own_primary, with_mail, with_way, replica_acts}
use Rattle.cl_told.specs.Told.{told_session, pending}
use Rattle.cl_types.specs.declared.answers.Answer.{Answer as OpAnswer}
use Rattle.cl_types.specs.declared.answers.Answer.TheVariants as answers
use Rattle.cl_types.specs.declared.answers.Outcome.{Outcome as CommandOutcome}
use Rattle.cl_types.specs.declared.answers.Outcome.TheVariants.{Done, Begun, Committed, Aborted}
use Rattle.cl_types.specs.declared.answers.Reply.{Reply}
use Rattle.cl_types.specs.declared.operations.Command.{Command as ClientCommand}
use Rattle.cl_types.specs.declared.operations.Command.TheVariants.{Begin, Work, Commit, Abort}
use Rattle.cl_types.specs.declared.operations.Op.{Op}
use Rattle.cl_types.specs.declared.operations.TxnId.{TxnId}
use Rattle.cl_vnode.specs.Inputs.{has_decide}
use Rattle.cl_vnode.specs.Replica.{ReplicaState}
use Rattle.cl_vnode.specs.Step.{Stepped, started, with_part, after_finish, prepared, finished}
use Rattle.cl_log.specs.Open.{is_open}
use Rattle.cl_wire.specs.Message.{Content, Command, Outcome, Ask, Answer, Prepare, Vote, Finish}
use Rattle.cl_served.proofs.Sessions.{told_commands, next_number}

-- the operations of a transaction that were answered with a reply
abbrev pub told_done : Session → ℕ → List Operation
told_done told number = filter (λ operation. is_done_outcome operation.outcome) (operations (told_commands told number))

-- the outstanding command is an operation, which was done with this reply
abbrev pub IsOneMore : List ClientCommand → List Operation → Reply → Type 0
IsOneMore left extra reply =
    (table : List ℕ) × (key : List ℕ) × (op : Op) × (rest : List ClientCommand) × (left ≡ Work table key op ∷ rest) × (extra ≡ record { place = (table, key); op = op; outcome = Some (Done reply) } ∷ [])

-- an answer to an operation says whether it was done
abbrev pub ServesAnswer : List ClientCommand → List Operation → OpAnswer → Type 0
ServesAnswer left extra (answers.Done reply) = IsOneMore left extra reply
ServesAnswer left extra other = extra ≡ []

-- so does an outcome
abbrev pub ServesOutcome : List ClientCommand → List Operation → CommandOutcome → Type 0
ServesOutcome left extra (Done reply) = IsOneMore left extra reply
ServesOutcome left extra other = extra ≡ []

-- the outstanding command is this operation
abbrev pub IsOutstandingWork : List ClientCommand → List ℕ → List ℕ → Op → Type 0
IsOutstandingWork left table key op = (rest : List ClientCommand) × (left ≡ Work table key op ∷ rest)

-- the command is the outstanding one, if it is an operation
abbrev pub IsTheWork : List ClientCommand → ClientCommand → Type 0
IsTheWork left (Work table key op) = IsOutstandingWork left table key op
IsTheWork left what = Unit {0}

pub the_work : (left rest : List ClientCommand) (what : ClientCommand) → left ≡ what ∷ rest → IsTheWork left what
the_work left rest Begin is = tt
the_work left rest (Work table key op) is = (rest, is)
the_work left rest Commit is = tt
the_work left rest Abort is = tt

-- what a message says of the transaction, where it is about it
abbrev pub ServesMessage : List ClientCommand → List Operation → TxnId → Content → Type 0
ServesMessage left extra name (Command v txn number what) = txn ≡ name → extra ≡ []
ServesMessage left extra name (Ask v txn number table key op) = txn ≡ name → (extra ≡ []) × IsOutstandingWork left table key op
ServesMessage left extra name (Answer v txn number answer) = txn ≡ name → ServesAnswer left extra answer
ServesMessage left extra name (Outcome txn number outcome) = txn ≡ name → ServesOutcome left extra outcome
ServesMessage left extra name (Prepare v txn) = txn ≡ name → extra ≡ []
ServesMessage left extra name (Vote v txn) = txn ≡ name → extra ≡ []
ServesMessage left extra name content = Unit {0}

-- what was done beside what was answered: nothing, or the outstanding operation of the transaction that the session is in
abbrev pub IsExtra : List ClientCommand → Session → ℕ → List Operation → Type 0
IsExtra left told number extra = (extra ≡ []) ⊎ ((reply : Reply) × IsOneMore left extra reply × (number ≡ next_number told))

-- what a transaction has done is what was answered to it, and what its messages say
pub record IsServedBy (transcript : List TranscriptEntry) (mail : Mail) (done : List Operation) (name : TxnId) : Type 0 where
  pub extra : List Operation
  pub done_is : done ≡ told_done (told_session name.session transcript) name.number ++ extra
  pub is_extra : IsExtra (pending name.session transcript) (told_session name.session transcript) name.number extra
  pub messages : (from to : ℕ) → All (ServesMessage (pending name.session transcript) extra name) (mail from to)

abbrev pub IsServed : ReplicaWorld → (TxnId → List Operation) → TxnId → Type 0
IsServed world done name = IsServedBy world.front.transcript world.mail (done name) name

-- ---- what is on its way

-- the first message of a way was taken off
pub All-popped : (P : Content → Type 0) (mail : Mail) (from to : ℕ) (content : Content) (rest : List Content) → mail from to ≡ content ∷ rest →
    ((a b : ℕ) → All P (mail a b)) → (a b : ℕ) → All P (with_way mail from to rest a b)
All-popped P mail from to content rest here all a b =
    cond_both (eqb b to && eqb a from) rest (mail a b) (All P) (λ at. All-tail P content rest (subst (All P) here (all from to))) (λ elsewhere. all a b)

-- what an actor sends was added
pub All-added : (P : Content → Type 0) (mail : Mail) (giver : ℕ) (sends : List Outgoing) → ((a b : ℕ) → All P (mail a b)) → All (λ send. P send.payload) sends →
    (a b : ℕ) → All P (with_mail mail giver sends a b)
All-added P mail giver sends all sent_all a b =
    cond_both (eqb a giver) _ (mail a b) (All P) (λ at. All-append P _ _ (all a b) (All-sent P b sends sent_all)) (λ elsewhere. all a b)

-- ---- what a controller and a participant send

module _ (left : List ClientCommand) (extra : List Operation) (name : TxnId) where
  abbrev Serves : Outgoing → Type 0
  Serves send = ServesMessage left extra name send.payload

  none : All Serves []
  none = All-nil Serves

  one : (to : ℕ) (content : Content) → ServesMessage left extra name content → All Serves (sent to content ∷ [])
  one to content is = All-cons Serves (sent to content) [] is none

  finishes_serve : (vs : List ℕ) (txn : TxnId) (commit : Bool) (more : List Act) → All Serves (messages_of own_primary more) →
      All Serves (messages_of own_primary (map (λ v. acts.Finish v txn commit) vs ++ more))
  finishes_serve [] txn commit more all = all
  finishes_serve (v ∷ vs) txn commit more all = All-cons Serves (sent v (Finish v txn commit)) _ tt (finishes_serve vs txn commit more all)

  prepares_serve : (vs : List ℕ) (txn : TxnId) → (txn ≡ name → extra ≡ []) → All Serves (messages_of own_primary (map (λ v. acts.Prepare v txn) vs))
  prepares_serve [] txn is = none
  prepares_serve (v ∷ vs) txn is = All-cons Serves (sent v (Prepare v txn)) _ is (prepares_serve vs txn is)

  module _ (state : ReplicaState) (txn : TxnId) where
    -- a commit is told
    committed_serves : (number : ℕ) → (txn ≡ name → extra ≡ []) → All Serves (committed own_primary state txn number).step.sends
    committed_serves number is = finishes_serve (ascending state.control.nodes (participants_of state.control txn)) txn true
        (acts.Say txn number Committed ∷ []) (one FRONT (Outcome txn number Committed) is)

    aborted_serves : (number : ℕ) (cause : _) → (txn ≡ name → extra ≡ []) → All Serves (messages_of own_primary (abort_acts state.control txn number cause))
    aborted_serves number cause is =
        finishes_serve (ascending state.control.nodes (participants_of state.control txn)) txn false (acts.Say txn number (Aborted cause) ∷ [])
        (one FRONT (Outcome txn number (Aborted cause)) is)

    commit_serves : (vs : List ℕ) → (txn ≡ name → extra ≡ []) → All Serves (messages_of own_primary (commit_acts state.control txn vs))
    commit_serves [] is = none
    commit_serves (v ∷ vs) is = prepares_serve (ascending state.control.nodes (participants_of state.control txn)) txn is

    acts_serve : (number : ℕ) (what : ClientCommand) → (txn ≡ name → extra ≡ []) → (txn ≡ name → IsTheWork left what) →
        All Serves (messages_of own_primary (command_acts state.control txn number what))
    unfolding command_acts
    acts_serve number Begin is work = one FRONT (Outcome txn number Begun) is
    acts_serve number (Work table key op) is work = one _ (Ask _ txn number table key op) (λ same. (is same, work same))
    acts_serve number Commit is work = commit_serves (participants_of state.control txn) is
    acts_serve number Abort is work = aborted_serves number _ is

    pub command_serves : (v number : ℕ) (what : ClientCommand) (mark : Bool) → (txn ≡ name → extra ≡ []) → (txn ≡ name → IsTheWork left what) →
        All Serves (lone_step own_primary state FRONT (Command v txn number what) mark).step.sends
    unfolding lone_step
    command_serves v number what mark is work =
        cond_both (has_decide (command_acts state.control txn number what)) (committed own_primary state txn number)
        (controlled own_primary state (after_command state.control txn number what) (command_acts state.control txn number what))
        (λ (done : Stepped). All Serves done.step.sends)
        (λ decides. committed_serves number is) (λ goes. acts_serve number what is work)

    answered_serves : (number : ℕ) (answer : OpAnswer) → (txn ≡ name → ServesAnswer left extra answer) →
        All Serves (messages_of own_primary (answered_acts state.control txn number answer))
    answered_serves number (answers.Done reply) is = one FRONT (Outcome txn number (Done reply)) is
    answered_serves number (answers.Refused holder) is = aborted_serves number _ is
    answered_serves number answers.NoMemory is = aborted_serves number _ is

    pub answer_serves : (from v number : ℕ) (answer : OpAnswer) (mark : Bool) → (txn ≡ name → ServesAnswer left extra answer) →
        All Serves (lone_step own_primary state from (Answer v txn number answer) mark).step.sends
    unfolding lone_step answer_acts
    answer_serves from v number answer mark is =
        cond_both (counts_answer state.control v txn number) (answered_acts state.control txn number answer) []
        (λ list. All Serves (messages_of own_primary list)) (λ counts. answered_serves number answer is) (λ strange. none)

    pub vote_serves : (from v : ℕ) (mark : Bool) → (txn ≡ name → extra ≡ []) → All Serves (lone_step own_primary state from (Vote v txn) mark).step.sends
    unfolding lone_step
    vote_serves from v mark is =
        cond_both (counts_vote state.control v txn && is_last_vote state.control v txn) (committed own_primary state txn (command_of state.control txn))
        (controlled own_primary state (after_vote state.control v txn) [])
        (λ (done : Stepped). All Serves done.step.sends) (λ last. committed_serves (command_of state.control txn) is) (λ more. none)

    pub prepare_serves : (from v : ℕ) (mark : Bool) → (txn ≡ name → extra ≡ []) → All Serves (lone_step own_primary state from (Prepare v txn) mark).step.sends
    unfolding lone_step prepared
    prepare_serves from v mark is = one _ (Vote state.v txn) is

    pub finish_serves : (from v : ℕ) (commit mark : Bool) → All Serves (lone_step own_primary state from (Finish v txn commit) mark).step.sends
    unfolding lone_step finished
    finish_serves from v commit mark =
        cond_both (is_open state.part.log txn) (with_part (started state) (after_finish state.part txn commit)) (started state)
        (λ (done : Stepped). All Serves done.step.sends) (λ opened. none) (λ closed. none)

    -- the answer to an operation
    pub ask_serves : (from v number : ℕ) (table key : List ℕ) (op : Op) (answer : OpAnswer) → (txn ≡ name → ServesAnswer left extra answer) →
        All Serves (sent from (Answer v txn number answer) ∷ [])
    ask_serves from v number table key op answer is = one from (Answer v txn number answer) is

-- ---- a step of a replica

-- the transaction has done the same, and what is sent says the same of it
module _ (world : ReplicaWorld) (from to : ℕ) (content : Content) (rest : List Content) (here : world.mail from to ≡ content ∷ rest) (stepped : Stepped)
    (name : TxnId) (done : List Operation) (is : IsServedBy world.front.transcript world.mail done name) where
  pub still_served : All (λ send. ServesMessage (pending name.session world.front.transcript) is.extra name send.payload) stepped.step.sends →
      IsServedBy (replica_acts (record world { mail = with_way world.mail from to rest }) to stepped).front.transcript
      (replica_acts (record world { mail = with_way world.mail from to rest }) to stepped).mail done name
  still_served sends = record {
    extra = is.extra;
    done_is = is.done_is;
    is_extra = is.is_extra;
    messages = All-added (ServesMessage (pending name.session world.front.transcript) is.extra name) (with_way world.mail from to rest) to stepped.step.sends
        (All-popped (ServesMessage (pending name.session world.front.transcript) is.extra name) world.mail from to content rest here is.messages) sends;
  }

-- the empty transcript tells nothing
pub nothing_told : (name : TxnId) → told_commands (told_session name.session []) name.number ≡ []
unfolding gather pair_up
nothing_told name = by name.number
  where
    by : (number : ℕ) → told_commands (record { ended = []; current = None }) number ≡ []
    by zero = refl
    by (suc k) = refl

pub served_at_first : (name : TxnId) → told_done (told_session name.session []) name.number ≡ []
served_at_first name = ap (λ list. filter (λ (operation : Operation). is_done_outcome operation.outcome) (operations list)) (nothing_told name)
