-- An answer or a vote comes to the controller of its transaction.
use Rattle.std.proofs.Common.{◌≡◌, ℕ, Bool, true, false, [], ◌∷◌, Some, option_map, refl, sym, ap, ◌∙◌, arith}
use Rattle.std.specs.Option.{option_map_or}
use Rattle.std.proofs.lemmas.Bool.{cond-false, and_parts, and_left}
use Rattle.cl_control.specs.Calls.{is_asked, awaits_vote, is_preparing, is_last_vote, counts_answer, counts_vote, voted}
use Rattle.cl_control.specs.State.{Entry, entry_of, entry_named, changed, without, with_phase, with_vote, is_unanimous}
use Rattle.cl_control.specs.declared.entry.Phase.TheVariants.{Idle}
use Rattle.cl_exchange.specs.Stage.{SessionView, working, telling, IsWorking, IsNumberedOn}
use Rattle.cl_exchange.proofs.Changes.{Does, answered_change, outcome_of, answer_does, vote_one_does, vote_last_does}
use Rattle.cl_exchange.proofs.Commands.{still_inside, IsAtNext, next_is}
use Rattle.cl_exchange.proofs.Holding.{Holding, IsCounted, counted_at, test_of_phase, asked_idle, asked_number, preparing_number, changed_one, without_one, found_one}
use Rattle.cl_exchange.proofs.Opens.{of_session, named-own}
use Rattle.cl_front.specs.declared.current.Current.{Current}
use Rattle.cl_lone.specs.Lone.{lone_step, command_of, command_in}
use Rattle.cl_system.specs.Replicas.{own_primary}
use Rattle.cl_types.specs.Placement.{IsNodeCount}
use Rattle.cl_types.specs.declared.answers.AbortCause.TheVariants.{Conflict, Memory}
use Rattle.cl_types.specs.declared.answers.Answer.{Answer as OperationAnswer}
use Rattle.cl_types.specs.declared.answers.Answer.TheVariants as answers
use Rattle.cl_types.specs.declared.answers.Outcome.{Outcome as CommandOutcome}
use Rattle.cl_types.specs.declared.answers.Outcome.TheVariants.{Done, Committed, Aborted}
use Rattle.cl_types.specs.declared.operations.TxnId.{TxnId}
use Rattle.cl_vnode.specs.Replica.{ReplicaState}
use Rattle.cl_wire.specs.Message.{Answer, Vote, Outcome}

-- an outcome by its parts
same_outcome : {a b : TxnId} {m n : ℕ} (outcome : CommandOutcome) → a ≡ b → m ≡ n → Outcome a m outcome ∷ [] ≡ Outcome b n outcome ∷ []
same_outcome {a} {b} {m} {n} outcome txn number = ap (λ name. Outcome name m outcome ∷ []) txn ∙ ap (λ x. Outcome b x outcome ∷ []) number

module _ (nodes : ℕ) (view : SessionView) (state : ReplicaState) (counted : IsNodeCount state.control.nodes) (txn : TxnId) (same : view.entries ≡ of_session txn.session state.control.transactions) (holds : Holding txn.session view) where
  -- the transaction that a call counts for
  counted_by : (test : Entry → Bool) → ((entry : Entry) → entry.phase ≡ Idle → test entry ≡ false) → option_map_or test (entry_of state.control txn) false ≡ true → IsCounted txn.session view test txn
  counted_by test idle counts =
      counted_at txn.session view test idle txn holds
      (ap (λ found. option_map_or test found false) (ap (entry_named txn) same ∙ named-own txn state.control.transactions) ∙ counts)

  answer_from : (number v : ℕ) (answer : OperationAnswer) (from : ℕ) (mark : Bool) (current : Current) (entry : Entry) → IsWorking txn.session view current entry → txn ≡ entry.txn →
      number ≡ current.commands → IsNumberedOn current → Does state txn (lone_step own_primary state from (Answer v txn number answer) mark) (answered_change state counted txn answer) (Some (number, outcome_of state counted txn answer)) →
      IsAtNext nodes txn.session view view.commands (lone_step own_primary state from (Answer v txn number answer) mark)
  answer_from number v (answers.Done reply) from mark current entry at named counts on does =
      next_is nodes view view.commands state txn _ _ _ same does (with_phase Idle entry ∷ [])
      (ap (changed txn (with_phase Idle)) at.entries ∙ changed_one txn entry named (with_phase Idle)) (telling current (Done reply) (with_phase Idle entry ∷ [])) (record {
        inside = still_inside at.inside refl;
        commands = at.commands;
        has = refl;
        after = (on, (with_phase Idle entry, refl, record { of = at.of; phase = refl }));
        outcomes = same_outcome (Done reply) (named ∙ at.of) counts;
      })
  answer_from number v (answers.Refused holder) from mark current entry at named counts on does =
      next_is nodes view view.commands state txn _ _ _ same does []
      (ap (without txn) at.entries ∙ without_one txn entry named) (telling current (Aborted (Conflict holder)) []) (record {
        inside = still_inside at.inside refl;
        commands = at.commands;
        has = refl;
        after = (omega arith, refl);
        outcomes = same_outcome (Aborted (Conflict holder)) (named ∙ at.of) counts;
      })
  answer_from number v answers.NoMemory from mark current entry at named counts on does =
      next_is nodes view view.commands state txn _ _ _ same does []
      (ap (without txn) at.entries ∙ without_one txn entry named) (telling current (Aborted Memory) []) (record {
        inside = still_inside at.inside refl;
        commands = at.commands;
        has = refl;
        after = (omega arith, refl);
        outcomes = same_outcome (Aborted Memory) (named ∙ at.of) counts;
      })

  -- an answer that counts is that to the command in work, which has its outcome now
  pub answer_next : (from v number : ℕ) (answer : OperationAnswer) (mark : Bool) → counts_answer state.control v txn number ≡ true →
      IsCounted txn.session view (λ entry. is_asked number v entry.phase) txn × IsAtNext nodes txn.session view view.commands (lone_step own_primary state from (Answer v txn number answer) mark)
  answer_next from v number answer mark counts =
      let is = counted_by (λ entry. is_asked number v entry.phase) (asked_idle number v) (sym (test_of_phase (is_asked number v) (entry_of state.control txn)) ∙ counts) in
      let numbered = asked_number is.current is.entry.phase number v is.working.on is.passes in
      (is, answer_from number v answer from mark is.current is.entry is.working is.named numbered.0 numbered.1 (answer_does state counted txn from v number answer mark counts))

  vote_idle : (v : ℕ) (entry : Entry) → entry.phase ≡ Idle → awaits_vote v entry ≡ false
  vote_idle v entry phase = and_left _ _ (and_left _ _ (ap is_preparing phase))

  preparing_from : (v : ℕ) (entry : Entry) → awaits_vote v entry ≡ true → is_preparing entry.phase ≡ true
  preparing_from v entry awaits = (and_parts _ _ (and_parts _ _ awaits).0).0

  -- a vote that counts is one of those that the COMMIT in work waits for: it is in work, or committed
  pub vote_next : (from v : ℕ) (mark : Bool) → counts_vote state.control v txn ≡ true →
      IsCounted txn.session view (awaits_vote v) txn × IsAtNext nodes txn.session view view.commands (lone_step own_primary state from (Vote v txn) mark)
  vote_next from v mark counts =
      let is = counted_by (awaits_vote v) (vote_idle v) counts in
      (is, by is.current is.entry is.working is.named (preparing_from v is.entry is.passes) (is_last_vote state.control v txn) refl)
    where
      found : (current : Current) (entry : Entry) → IsWorking txn.session view current entry → txn ≡ entry.txn → entry_named txn state.control.transactions ≡ Some entry
      found current entry at named = found_one txn entry named state.control view.entries same at.entries

      by : (current : Current) (entry : Entry) → IsWorking txn.session view current entry → txn ≡ entry.txn → is_preparing entry.phase ≡ true → (last : Bool) → is_last_vote state.control v txn ≡ last →
          IsAtNext nodes txn.session view view.commands (lone_step own_primary state from (Vote v txn) mark)
      by current entry at named preparing false one =
          let unanimous : is_unanimous (with_vote v entry) ≡ false = sym (ap (λ x. option_map_or (λ e. is_unanimous (with_vote v e)) x false) (found current entry at named)) ∙ one in
          next_is nodes view view.commands state txn _ _ _ same (vote_one_does state counted txn from v mark counts one) (with_vote v entry ∷ [])
          (ap (changed txn (voted v)) at.entries ∙ (changed_one txn entry named (voted v) ∙ ap (λ x. x ∷ []) (cond-false _ _ _ unanimous))) (working current (with_vote v entry)) (record {
            inside = still_inside at.inside refl;
            commands = at.commands;
            entries = refl;
            of = at.of;
            on = at.on;
            outcomes = refl;
          })
      by current entry at named preparing true last =
          let numbered = preparing_number current entry.phase at.on preparing in
          let number : command_of state.control txn ≡ current.commands = ap (λ x. option_map_or command_in (option_map (λ e. e.phase) x) 0) (found current entry at named) ∙ numbered.0 in
          next_is nodes view view.commands state txn _ _ _ same (vote_last_does state counted txn from v mark counts last) []
          (ap (without txn) at.entries ∙ without_one txn entry named) (telling current Committed []) (record {
            inside = still_inside at.inside refl;
            commands = at.commands;
            has = refl;
            after = (numbered.1, refl);
            outcomes = same_outcome Committed (named ∙ at.of) number;
          })
