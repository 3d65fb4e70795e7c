-- What a step of a controller does, by kind of message: how its open transactions change, and what it says to a session.
use Rattle.std.proofs.Common.{◌≡◌, ◌≢◌, ℕ, ◌≤◌, Bool, true, false, ◌&&◌, if◌then◌else◌, List, [], ◌∷◌, ◌++◌, Option, Some, None, refl, sym, subst, arith}
use Rattle.cl_control.specs.Calls.{prepares, finishes, commit_acts, command_acts, asked, committing, after_command, counts_answer, answered_acts, after_answered, answer_acts, after_answer, counts_vote, is_last_vote, decided, voted, after_vote}
use Rattle.cl_control.specs.State.{Entry, participants_of, ascending, new_entry, changed, without, with_phase, is_unanimous, with_vote}
use Rattle.cl_control.specs.declared.acts.Act.TheVariants.{Say, Prepare as PrepareAct, Finish as FinishAct}
use Rattle.cl_control.specs.declared.entry.Phase.TheVariants.{Idle}
use Rattle.cl_exchange.proofs.Opens.{of_session, new-others, new-own, changed-others, changed-own, without-others, without-own}
use Rattle.cl_exchange.proofs.Told.{told_by, told_elsewhere, prepare_notice, finish_notice, notices_told, notices_decide, notices_tell_nothing, notices_have_no_decide, said_to}
use Rattle.cl_lone.specs.Lone.{controlled, committed, command_of, lone_step}
use Rattle.cl_runs.specs.Queues.{sent_to}
use Rattle.cl_steps.specs.declared.actors.TheConstants.{FRONT}
use Rattle.cl_system.specs.Replicas.{own_primary}
use Rattle.cl_types.specs.Placement.{IsNodeCount, virtual_node_of}
use Rattle.cl_types.proofs.PlacementLaws.{node_count-bounds, virtual_node_of-below}
use Rattle.cl_types.specs.declared.answers.AbortCause.TheVariants.{Conflict, Client, Memory}
use Rattle.cl_types.specs.declared.answers.Answer.{Answer as OperationAnswer}
use Rattle.cl_types.specs.declared.answers.Answer.TheVariants as answers
use Rattle.cl_types.specs.declared.answers.Outcome.{Outcome as CommandOutcome}
use Rattle.cl_types.specs.declared.answers.Outcome.TheVariants.{Done, Begun, Committed, Aborted}
use Rattle.cl_types.specs.declared.operations.Command.{Command as ClientCommand}
use Rattle.cl_types.specs.declared.operations.Command.TheVariants.{Begin, Work, Commit, Abort}
use Rattle.cl_types.specs.declared.operations.Op.{Op}
use Rattle.cl_types.specs.declared.operations.TxnId.{TxnId}
use Rattle.cl_vnode.specs.Inputs.{has_decide}
use Rattle.cl_vnode.specs.Replica.{ReplicaState}
use Rattle.cl_vnode.specs.Step.{Stepped}
use Rattle.cl_wire.specs.Message.{Command, Answer, Vote, Ask}

-- of the open transactions those of one session change
pub record IsChange (txn : TxnId) (change : List Entry → List Entry) : Type 0 where
  pub own : (entries : List Entry) → of_session txn.session (change entries) ≡ change (of_session txn.session entries)
  pub others : (s : ℕ) → s ≢ txn.session → (entries : List Entry) → of_session s (change entries) ≡ of_session s entries

pub new_change : (txn : TxnId) → IsChange txn (λ entries. entries ++ new_entry txn ∷ [])
new_change txn = record { own = new-own txn; others = λ s other. new-others s txn other }

pub changed_change : (txn : TxnId) (change : Entry → Entry) → ((entry : Entry) → (change entry).txn ≡ entry.txn) → IsChange txn (changed txn change)
changed_change txn change keeps = record { own = changed-own txn txn.session change keeps; others = λ s other. changed-others s txn other change keeps }

pub without_change : (txn : TxnId) → IsChange txn (without txn)
without_change txn = record { own = without-own txn txn.session; others = λ s other. without-others s txn other }

pub no_change : (txn : TxnId) → IsChange txn (λ entries. entries)
no_change txn = record { own = λ entries. refl; others = λ s other entries. refl }

-- what a step does
pub record Does (state : ReplicaState) (txn : TxnId) (stepped : Stepped) (change : List Entry → List Entry) (said : Option (ℕ × CommandOutcome)) : Type 0 where
  pub is : IsChange txn change
  pub entries : stepped.state.control.transactions ≡ change state.control.transactions
  pub told : sent_to FRONT stepped.step.sends ≡ said_to txn said

module _ (state : ReplicaState) (counted : IsNodeCount state.control.nodes) (txn : TxnId) where
  few : state.control.nodes ≤ FRONT
  few = omega (arith, (node_count-bounds state.control.nodes counted).1)

  -- the acts of an end
  ending_told : (commit : Bool) (number : ℕ) (outcome : CommandOutcome) → told_by (finishes state.control txn commit ++ Say txn number outcome ∷ []) ≡ said_to txn (Some (number, outcome))
  ending_told commit number outcome =
      notices_told (λ v. FinishAct v txn commit) _ (finish_notice txn commit) (Say txn number outcome ∷ []) (participants_of state.control txn) 0 state.control.nodes (let h = few in omega arith)

  pub committed_does : (number : ℕ) → Does state txn (committed own_primary state txn number) (without txn) (Some (number, Committed))
  committed_does number = record { is = without_change txn; entries = refl; told = ending_told true number Committed }

  pub begin_does : (from v number : ℕ) (mark : Bool) → Does state txn (lone_step own_primary state from (Command v txn number Begin) mark) (λ entries. entries ++ new_entry txn ∷ []) (Some (number, Begun))
  unfolding lone_step command_acts after_command
  begin_does from v number mark = record { is = new_change txn; entries = refl; told = refl }

  pub work_does : (from v number : ℕ) (table key : List ℕ) (op : Op) (mark : Bool) →
      Does state txn (lone_step own_primary state from (Command v txn number (Work table key op)) mark) (changed txn (asked number (virtual_node_of key state.control.nodes))) None
  unfolding lone_step command_acts after_command
  work_does from v number table key op mark = record {
    is = changed_change txn (asked number (virtual_node_of key state.control.nodes)) (λ entry. refl);
    entries = refl;
    told = told_elsewhere (virtual_node_of key state.control.nodes) (Ask (virtual_node_of key state.control.nodes) txn number table key op)
        (let h = few in let below = virtual_node_of-below key state.control.nodes counted in omega arith);
  }

  -- COMMIT, by the participants
  commit_step : ℕ → List ℕ → Stepped
  commit_step number vs =
      if has_decide (commit_acts state.control txn vs) then committed own_primary state txn number
      else controlled own_primary state (after_command state.control txn number Commit) (commit_acts state.control txn vs)

  pub commit_none_does : (from v number : ℕ) (mark : Bool) → participants_of state.control txn ≡ [] →
      Does state txn (lone_step own_primary state from (Command v txn number Commit) mark) (without txn) (Some (number, Committed))
  unfolding lone_step command_acts commit_step
  commit_none_does from v number mark none = subst (λ vs. Does state txn (commit_step number vs) (without txn) (Some (number, Committed))) (sym none) (committed_does number)

  preparing_does : (number : ℕ) → Does state txn (controlled own_primary state (after_command state.control txn number Commit) (prepares state.control txn)) (changed txn (committing number)) None
  unfolding after_command
  preparing_does number = record {
    is = changed_change txn (committing number) (λ entry. refl);
    entries = refl;
    told = notices_tell_nothing (λ v. PrepareAct v txn) _ (prepare_notice txn) (participants_of state.control txn) state.control.nodes few;
  }

  pub commit_some_does : (from v number : ℕ) (mark : Bool) (w : ℕ) (vs : List ℕ) → participants_of state.control txn ≡ w ∷ vs →
      Does state txn (lone_step own_primary state from (Command v txn number Commit) mark) (changed txn (committing number)) None
  unfolding lone_step command_acts commit_step
  commit_some_does from v number mark w vs some =
      subst (λ list. Does state txn (commit_step number list) (changed txn (committing number)) None) (sym some)
      (subst (λ b. Does state txn (if b then committed own_primary state txn number else controlled own_primary state (after_command state.control txn number Commit) (prepares state.control txn)) (changed txn (committing number)) None)
      (sym (notices_have_no_decide (λ v. PrepareAct v txn) _ (prepare_notice txn) [] (ascending state.control.nodes (participants_of state.control txn)))) (preparing_does number))

  -- an end without a commit
  ended_does : (number : ℕ) (outcome : CommandOutcome) →
      Does state txn (controlled own_primary state (record state.control { transactions = without txn state.control.transactions }) (finishes state.control txn false ++ Say txn number outcome ∷ []))
      (without txn) (Some (number, outcome))
  ended_does number outcome = record { is = without_change txn; entries = refl; told = ending_told false number outcome }

  pub abort_does : (from v number : ℕ) (mark : Bool) → Does state txn (lone_step own_primary state from (Command v txn number Abort) mark) (without txn) (Some (number, Aborted Client))
  unfolding lone_step command_acts after_command
  abort_does from v number mark =
      subst (λ b. Does state txn (if b then committed own_primary state txn number
      else controlled own_primary state (after_command state.control txn number Abort) (finishes state.control txn false ++ Say txn number (Aborted Client) ∷ [])) (without txn) (Some (number, Aborted Client)))
      (sym (notices_decide (λ v. FinishAct v txn false) _ (finish_notice txn false) (Say txn number (Aborted Client) ∷ []) [] (ascending state.control.nodes (participants_of state.control txn))))
      (ended_does number (Aborted Client))

  -- an answer that does not count
  pub answer_none_does : (from v number : ℕ) (answer : OperationAnswer) (mark : Bool) → counts_answer state.control v txn number ≡ false →
      Does state txn (lone_step own_primary state from (Answer v txn number answer) mark) (λ entries. entries) None
  unfolding lone_step answer_acts after_answer
  answer_none_does from v number answer mark none =
      subst (λ b. Does state txn (controlled own_primary state (if b then after_answered state.control txn answer else state.control) (if b then answered_acts state.control txn number answer else [])) (λ entries. entries) None)
      (sym none) (record { is = no_change txn; entries = refl; told = refl })

  -- what an answer makes of the open transactions
  abbrev pub answered_change : OperationAnswer → List Entry → List Entry
  answered_change (answers.Done reply) = changed txn (with_phase Idle)
  answered_change (answers.Refused holder) = without txn
  answered_change answers.NoMemory = without txn

  -- and the outcome that it has
  abbrev pub outcome_of : OperationAnswer → CommandOutcome
  outcome_of (answers.Done reply) = Done reply
  outcome_of (answers.Refused holder) = Aborted (Conflict holder)
  outcome_of answers.NoMemory = Aborted Memory

  answered_does : (number : ℕ) (answer : OperationAnswer) →
      Does state txn (controlled own_primary state (after_answered state.control txn answer) (answered_acts state.control txn number answer)) (answered_change answer) (Some (number, outcome_of answer))
  answered_does number (answers.Done reply) = record { is = changed_change txn (with_phase Idle) (λ entry. refl); entries = refl; told = refl }
  answered_does number (answers.Refused holder) = ended_does number (Aborted (Conflict holder))
  answered_does number answers.NoMemory = ended_does number (Aborted Memory)

  pub answer_does : (from v number : ℕ) (answer : OperationAnswer) (mark : Bool) → counts_answer state.control v txn number ≡ true →
      Does state txn (lone_step own_primary state from (Answer v txn number answer) mark) (answered_change answer) (Some (number, outcome_of answer))
  unfolding lone_step answer_acts after_answer
  answer_does from v number answer mark counts =
      subst (λ b. Does state txn (controlled own_primary state (if b then after_answered state.control txn answer else state.control) (if b then answered_acts state.control txn number answer else []))
      (answered_change answer) (Some (number, outcome_of answer))) (sym counts) (answered_does number answer)

  -- a vote, by whether it counts and whether it is the last one
  vote_step : ℕ → Bool → Bool → Stepped
  vote_step v counts last =
      if counts && last then committed own_primary state txn (command_of state.control txn)
      else controlled own_primary state (if counts then record state.control { transactions = changed txn (voted v) state.control.transactions } else state.control) []

  pub vote_none_does : (from v : ℕ) (mark : Bool) → counts_vote state.control v txn ≡ false → Does state txn (lone_step own_primary state from (Vote v txn) mark) (λ entries. entries) None
  unfolding lone_step after_vote vote_step
  vote_none_does from v mark none =
      subst (λ b. Does state txn (vote_step v b (is_last_vote state.control v txn)) (λ entries. entries) None) (sym none) (record { is = no_change txn; entries = refl; told = refl })

  voted-keeps : (v : ℕ) (entry : Entry) → (voted v entry).txn ≡ entry.txn
  voted-keeps v entry = elim (is_unanimous (with_vote v entry)) as (λ b. (if b then with_phase (decided entry.phase) (with_vote v entry) else with_vote v entry).txn ≡ entry.txn) [ true ↦ refl | false ↦ refl ]

  pub vote_one_does : (from v : ℕ) (mark : Bool) → counts_vote state.control v txn ≡ true → is_last_vote state.control v txn ≡ false →
      Does state txn (lone_step own_primary state from (Vote v txn) mark) (changed txn (voted v)) None
  unfolding lone_step after_vote vote_step
  vote_one_does from v mark counts one =
      subst (λ b. Does state txn (vote_step v b (is_last_vote state.control v txn)) (changed txn (voted v)) None) (sym counts)
      (subst (λ b. Does state txn (vote_step v true b) (changed txn (voted v)) None) (sym one)
      (record { is = changed_change txn (voted v) (voted-keeps v); entries = refl; told = refl }))

  pub vote_last_does : (from v : ℕ) (mark : Bool) → counts_vote state.control v txn ≡ true → is_last_vote state.control v txn ≡ true →
      Does state txn (lone_step own_primary state from (Vote v txn) mark) (without txn) (Some (command_of state.control txn, Committed))
  unfolding lone_step after_vote vote_step
  vote_last_does from v mark counts last =
      subst (λ b. Does state txn (vote_step v b (is_last_vote state.control v txn)) (without txn) (Some (command_of state.control txn, Committed))) (sym counts)
      (subst (λ b. Does state txn (vote_step v true b) (without txn) (Some (command_of state.control txn, Committed))) (sym last) (committed_does (command_of state.control txn)))

-- a step does one of these
pub record DoesSome (state : ReplicaState) (txn : TxnId) (stepped : Stepped) : Type 0 where
  pub change : List Entry → List Entry
  pub said : Option (ℕ × CommandOutcome)
  pub does : Does state txn stepped change said

module _ (state : ReplicaState) (counted : IsNodeCount state.control.nodes) (txn : TxnId) (from v : ℕ) where
  commit_does_some : (number : ℕ) (mark : Bool) (vs : List ℕ) → participants_of state.control txn ≡ vs → DoesSome state txn (lone_step own_primary state from (Command v txn number Commit) mark)
  commit_does_some number mark [] is = record { change = _; said = _; does = commit_none_does state counted txn from v number mark is }
  commit_does_some number mark (w ∷ vs) is = record { change = _; said = _; does = commit_some_does state counted txn from v number mark w vs is }

  pub command_does_some : (number : ℕ) (what : ClientCommand) (mark : Bool) → DoesSome state txn (lone_step own_primary state from (Command v txn number what) mark)
  command_does_some number Begin mark = record { change = _; said = _; does = begin_does state counted txn from v number mark }
  command_does_some number (Work table key op) mark = record { change = _; said = _; does = work_does state counted txn from v number table key op mark }
  command_does_some number Commit mark = commit_does_some number mark (participants_of state.control txn) refl
  command_does_some number Abort mark = record { change = _; said = _; does = abort_does state counted txn from v number mark }

  pub answer_does_some : (number : ℕ) (answer : OperationAnswer) (mark : Bool) (counts : Bool) → counts_answer state.control v txn number ≡ counts → DoesSome state txn (lone_step own_primary state from (Answer v txn number answer) mark)
  answer_does_some number answer mark true counts = record { change = _; said = _; does = answer_does state counted txn from v number answer mark counts }
  answer_does_some number answer mark false none = record { change = _; said = _; does = answer_none_does state counted txn from v number answer mark none }

  pub vote_does_some : (mark : Bool) (counts last : Bool) → counts_vote state.control v txn ≡ counts → is_last_vote state.control v txn ≡ last → DoesSome state txn (lone_step own_primary state from (Vote v txn) mark)
  vote_does_some mark true true counts last = record { change = _; said = _; does = vote_last_does state counted txn from v mark counts last }
  vote_does_some mark true false counts one = record { change = _; said = _; does = vote_one_does state counted txn from v mark counts one }
  vote_does_some mark false last none is = record { change = _; said = _; does = vote_none_does state counted txn from v mark none }
