-- To whom a step sends.
use Rattle.std.proofs.Common.{◌≡◌, ℕ, ◌%◌, ◌<◌, Bool, true, false, cond, List, [], ◌∷◌, map, fold, All, refl, sym, ◌∙◌, subst, arith, inl, inr}
use Rattle.std.proofs.lemmas.List.{map-append}
use Rattle.std.proofs.lemmas.List.Elements.{All-nil, All-cons, All-append}
use Rattle.cl_types.specs.declared.operations.Op.{Op}
use Rattle.cl_types.specs.declared.operations.TxnId.{TxnId}
use Rattle.cl_types.specs.Places.{Place}
use Rattle.cl_types.specs.Placement.{IsNodeCount}
use Rattle.cl_types.proofs.PlacementLaws.{virtual_node_of-below}
use Rattle.cl_log.specs.declared.records.LogRec.{LogRec}
use Rattle.cl_log.specs.declared.records.LogRec.TheVariants as records
use Rattle.cl_log.specs.LogEntry.{LogEntry}
use Rattle.cl_log.specs.Open.{is_open}
use Rattle.cl_control.specs.declared.acts.Act.{Act}
use Rattle.cl_control.specs.declared.acts.Act.TheVariants.{Ask as AskAct, Prepare as PrepareAct, Finish as FinishAct, Decide, Say}
use Rattle.cl_control.specs.Calls.{command_acts, after_command, answer_acts, after_answer, vote_acts, after_vote, safe_acts, after_safe}
use Rattle.cl_control.specs.State.{ControlState}
use Rattle.cl_part.specs.State.{State}
use Rattle.cl_steps.specs.declared.steps.Outgoing.{Outgoing}
use Rattle.cl_steps.specs.declared.actors.TheConstants.{FRONT}
use Rattle.cl_steps.specs.Steps.{sent, receivers}
use Rattle.cl_wire.specs.Message.{Content, Command, Answer, Vote, Ask, Prepare, Finish, Decision, Log}
use Rattle.cl_repair.specs.declared.mode.Mode.{Mode}
use Rattle.cl_repair.specs.declared.mode.Mode.TheVariants.{Lone, Pair}
use Rattle.cl_vnode.specs.Inputs.{Fits}
use Rattle.cl_vnode.specs.Laws.{IsReceiver, IsStandbyIn, StepsSendToReceivers, StandbyStepsSendBack}
use Rattle.cl_vnode.specs.Replica.{safe_number}
use Rattle.cl_vnode.specs.Sending.{IsSend, AreSends, AreActs}
use Rattle.cl_vnode.specs.Step.{Stepped, started, with_message, with_part, with_control, after_finish, performed, decided, all_performed, commanded, answered, voted, asked, prepared, finished, taken, home_of, told, entry_told, entries_between, all_told, log_message, log_messages, entries_from, shipped}
use Rattle.cl_vnode.proofs.Controller.{answer_acts_are_sends, safe_acts_are_sends, command_acts_are_acts, vote_acts_are_acts}
use Rattle.cl_vnode.proofs.Keeping.{told_same, taken_same, made_same}

-- ---- what was sent so far

module _ (nodes : ℕ) (primary : ℕ → ℕ) (mode : Mode) (from : ℕ) where
  -- it went to receivers
  abbrev Reaches : Stepped → Type 0
  Reaches done = All (IsReceiver nodes primary mode from) (receivers done.step)

  message_reaches : (done : Stepped) (to : ℕ) (content : Content) → IsReceiver nodes primary mode from to → Reaches done →
      Reaches (with_message done to content)
  message_reaches done to content is so_far =
      subst (All (IsReceiver nodes primary mode from)) (sym (map-append (λ (message : Outgoing). message.to) done.step.sends (sent to content ∷ [])))
      (All-append (IsReceiver nodes primary mode from) (receivers done.step) (to ∷ []) so_far
      (All-cons (IsReceiver nodes primary mode from) to [] is (All-nil (IsReceiver nodes primary mode from))))

  act_reaches : (done : Stepped) (act : Act) → IsSend nodes act → Reaches done → Reaches (performed primary done act)
  unfolding performed
  act_reaches done (AskAct v txn number table key op) below so_far = message_reaches done (primary v) _ (inr (inr (inl (v, below, refl)))) so_far
  act_reaches done (PrepareAct v txn) below so_far = message_reaches done (primary v) _ (inr (inr (inl (v, below, refl)))) so_far
  act_reaches done (FinishAct v txn commit) below so_far = message_reaches done (primary v) _ (inr (inr (inl (v, below, refl)))) so_far
  act_reaches done (Decide txn) none so_far = absurd none
  act_reaches done (Say txn number outcome) any so_far = message_reaches done FRONT _ (inr (inl refl)) so_far

  acts_reach : (done : Stepped) (acts : List Act) → AreSends nodes acts → Reaches done → Reaches (all_performed primary done acts)
  acts_reach done [] sends so_far = so_far
  acts_reach done (act ∷ acts) sends so_far = acts_reach (performed primary done act) acts sends.1 (act_reaches done act sends.0 so_far)

  decide_reaches : (done : Stepped) (txn : TxnId) → Reaches done → Reaches (performed primary done (Decide txn))
  unfolding performed decided
  decide_reaches done txn so_far = so_far

  given_reach : (done : Stepped) (control : ControlState) (acts : List Act) → AreActs nodes control acts → Reaches done → Reaches (all_performed primary done acts)
  given_reach done control acts (inl sends) so_far = acts_reach done acts sends so_far
  given_reach done control acts (inr (txn, alone, awaited)) so_far = subst (λ (as_given : List Act). Reaches (all_performed primary done as_given)) (sym alone) (decide_reaches done txn so_far)

  -- ---- what became safe

  told_reaches : (done : Stepped) (number : ℕ) (content : LogRec) → 0 < nodes → nodes ≡ done.state.control.nodes → Reaches done → Reaches (told primary done number content)
  unfolding told
  told_reaches done number (records.Prepared txn) some same so_far =
      message_reaches done (primary (home_of done.state.control txn)) _
      (inr (inr (inl (
        home_of done.state.control txn,
        (let below : txn.session % nodes < nodes = omega (arith, some) in subst (λ n. txn.session % n < nodes) same below),
        refl,
      )))) so_far
  told_reaches done number (records.Decide txn) some same so_far =
      acts_reach (with_control done (after_safe done.state.control number)) (safe_acts done.state.control number)
      (subst (λ n. AreSends n (safe_acts done.state.control number)) (sym same) (safe_acts_are_sends done.state.control number)) so_far
  told_reaches done number content some same so_far = so_far

  entries_reach : (done : Stepped) (log : List LogEntry) → 0 < nodes → nodes ≡ done.state.control.nodes → Reaches done → Reaches (fold (entry_told primary) done log)
  entries_reach done [] some same so_far = so_far
  entries_reach done (entry ∷ rest) some same so_far =
      entries_reach (entry_told primary done entry) rest some (same ∙ sym (told_same primary done entry.number entry.content).nodes)
      (told_reaches done entry.number entry.content some same so_far)

  all_told_reaches : (old : ℕ) (done : Stepped) → 0 < nodes → nodes ≡ done.state.control.nodes → Reaches done → Reaches (all_told primary old done)
  unfolding all_told
  all_told_reaches old done some same so_far = entries_reach done (entries_between old (safe_number done.state) done.state.part.log) some same so_far

  -- ---- the kinds of input

  asked_reaches : (done : Stepped) (v : ℕ) (short : Bool) (txn : TxnId) (number : ℕ) (place : Place) (op : Op) → Reaches done → Reaches (asked done from v txn number place op short)
  unfolding asked
  asked_reaches done v true txn number place op so_far = message_reaches done from _ (inl refl) so_far
  asked_reaches done v false txn number place op so_far = message_reaches done from _ (inl refl) so_far

  either_reaches : (b : Bool) (done : Stepped) (part : State) → Reaches done → Reaches (cond b (with_part done part) done)
  either_reaches true done part so_far = so_far
  either_reaches false done part so_far = so_far

  taken_reaches : (done : Stepped) (content : Content) (short : Bool) → IsNodeCount nodes → Fits nodes done.state content → Reaches done → Reaches (taken primary done from content short)
  unfolding commanded answered voted prepared finished
  taken_reaches done (Command v txn number what) short counted fits so_far =
      given_reach (with_control done (after_command done.state.control txn number what)) (after_command done.state.control txn number what) (command_acts done.state.control txn number what)
      (command_acts_are_acts nodes done.state.control txn number what counted fits.same_nodes fits.comes) so_far
  taken_reaches done (Answer v txn number answer) short counted fits so_far =
      acts_reach (with_control done (after_answer done.state.control v txn number answer)) (answer_acts done.state.control v txn number answer)
      (subst (λ n. AreSends n (answer_acts done.state.control v txn number answer)) (sym fits.same_nodes) (answer_acts_are_sends done.state.control v txn number answer)) so_far
  taken_reaches done (Vote v txn) short counted fits so_far =
      given_reach (with_control done (after_vote done.state.control v txn)) (after_vote done.state.control v txn) (vote_acts done.state.control v txn)
      (vote_acts_are_acts nodes done.state.control v txn) so_far
  taken_reaches done (Ask v txn number table key op) short counted fits so_far = asked_reaches done v short txn number (table, key) op so_far
  taken_reaches done (Prepare v txn) short counted fits so_far = so_far
  taken_reaches done (Finish v txn commit) short counted fits so_far = either_reaches (is_open done.state.part.log txn) done (after_finish done.state.part txn commit) so_far
  taken_reaches done (Decision v txn commit) short counted fits so_far = either_reaches (is_open done.state.part.log txn) done (after_finish done.state.part txn commit) so_far
  taken_reaches done content short counted fits so_far = so_far

  -- ---- what is shipped

  standby_reached : (standby v : ℕ) → IsStandbyIn mode standby → (entries : List LogEntry) →
      All (IsReceiver nodes primary mode from) (map (λ message. message.to) (map (log_message standby v) entries))
  standby_reached standby v is [] = All-nil (IsReceiver nodes primary mode from)
  standby_reached standby v is (entry ∷ entries) =
      All-cons (IsReceiver nodes primary mode from) standby _ (inr (inr (inr is))) (standby_reached standby v is entries)

  logs_reach : (own : Mode) (v : ℕ) (entries : List LogEntry) → own ≡ mode →
      All (IsReceiver nodes primary mode from) (map (λ message. message.to) (log_messages own v entries))
  logs_reach Lone v entries same = All-nil (IsReceiver nodes primary mode from)
  logs_reach (Pair standby) v entries same = standby_reached standby v (subst (λ m. IsStandbyIn m standby) same refl) entries

  shipped_reaches : (next : ℕ) (done : Stepped) → done.state.modes.mode ≡ mode → Reaches done → Reaches (shipped next done)
  shipped_reaches next done same so_far =
      let logs : List Outgoing = log_messages done.state.modes.mode done.state.v (entries_from next done.state.part.log) in
      subst (All (IsReceiver nodes primary mode from)) (sym (map-append (λ (message : Outgoing). message.to) logs done.step.sends))
      (All-append (IsReceiver nodes primary mode from) (map (λ (message : Outgoing). message.to) logs) (receivers done.step)
      (logs_reach done.state.modes.mode done.state.v (entries_from next done.state.part.log) same) so_far)

pub steps_send_to_receivers : StepsSendToReceivers
steps_send_to_receivers nodes primary state from content short counted fits =
    let below = virtual_node_of-below [] nodes counted in
    let mode : Mode = state.modes.mode in
    let input : Stepped = taken primary (started state) from content short in
    shipped_reaches nodes primary mode from state.part.next (all_told primary (safe_number state) input) (made_same primary state from content short).mode
    (all_told_reaches nodes primary mode from (safe_number state) input (omega (arith, below))
    (fits.same_nodes ∙ sym (taken_same primary (started state) from content short).nodes)
    (taken_reaches nodes primary mode from (started state) content short counted fits (All-nil (IsReceiver nodes primary mode from))))

-- ---- a standby

pub standby_steps_send_back : StandbyStepsSendBack
standby_steps_send_back state from (Log v number content) = All-cons (λ to. to ≡ from) from [] refl (All-nil (λ to. to ≡ from))
standby_steps_send_back state from content = All-nil (λ to. to ≡ from)
