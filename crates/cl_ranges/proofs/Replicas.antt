-- The step of a replica: what it has stays in range, and what it sends is in range.
use Rattle.std.proofs.Common.{◌≡◌, ℕ, ◌≤◌, ◌&&◌, Bool, true, false, List, [], ◌∷◌, ◌++◌, All, sym, ◌∙◌, arith}
use Rattle.std.proofs.lemmas.Bool.{cond_both, ltb-false, true≢false}
use Rattle.std.proofs.lemmas.List.Elements.{All-nil, All-cons}
use Rattle.cl_control.specs.declared.acts.Act.{Act}
use Rattle.cl_control.specs.declared.acts.Act.TheVariants as acts
use Rattle.cl_control.specs.declared.acts.Act.TheVariants.{Say}
use Rattle.cl_control.specs.Calls.{finishes, command_acts, after_command, answer_acts, after_answer, counts_vote, is_last_vote, vote_acts, after_vote}
use Rattle.cl_control.specs.State.{ControlState}
use Rattle.cl_fields.specs.Range.{IsCommandNumber, IsTxn, IsVirtualNode, IsTable, IsKey, IsOp}
use Rattle.cl_log.specs.declared.log.TheConstants.{LOG_NUMBER_MAX}
use Rattle.cl_log.specs.Open.{is_open}
use Rattle.cl_lone.specs.Lone.{controlled, committed, command_of, lone_step}
use Rattle.cl_part.specs.State.{State}
use Rattle.cl_ranges.proofs.Controllers.{IsSentInRange, AreSentInRange, IsActInRange, messages_range, end_range, command_acts_range, answer_acts_range, AreEntriesInRange, without_range, after_command_range, after_answer_range, after_vote_range, command_of_range}
use Rattle.cl_ranges.proofs.Parts as parts
use Rattle.cl_ranges.specs.Ranges.{IsPartInRange, IsEntryInRange, IsReplicaInRange}
use Rattle.cl_system.specs.Replicas.{own_primary}
use Rattle.cl_types.specs.declared.answers.Outcome.TheVariants.{Committed}
use Rattle.cl_types.specs.declared.operations.Op.{Op}
use Rattle.cl_types.specs.declared.operations.TxnId.{TxnId}
use Rattle.cl_types.specs.Placement.{IsNodeCount}
use Rattle.cl_types.specs.Places.{Place}
use Rattle.cl_vnode.specs.Inputs.{is_full, has_decide, is_end_spent, is_spent}
use Rattle.cl_vnode.specs.Replica.{ReplicaState, first_replica}
use Rattle.cl_vnode.specs.Step.{Stepped, started, with_part, after_finish, asked, prepared, finished}
use Rattle.cl_wire.specs.Message.{Content, Command, Ask, Answer, Prepare, Vote, Finish, Decision}
use Rattle.cl_wire.specs.Range.{IsContent}

-- after a step the replica is in range, and so is what it sends
pub record IsStepInRange (stepped : Stepped) : Type 0 where
  pub state : IsReplicaInRange stepped.state
  pub sends : AreSentInRange stepped.step.sends

pub first_replica_range : (v nodes : ℕ) → IsReplicaInRange (first_replica v nodes)
first_replica_range v nodes = record { part = parts.new_range 1 (omega arith) (omega arith); entries = All-nil IsEntryInRange }

-- a log that is not full has a number left
room_left : (next : ℕ) → is_full next ≡ false → next ≤ LOG_NUMBER_MAX
room_left next unspent = ltb-false LOG_NUMBER_MAX next unspent

-- of two tests that do not both pass, the second fails where the first passes
second_fails : (a b : Bool) → (a && b) ≡ false → a ≡ true → b ≡ false
second_fails true b none is = none
second_fails false b none is = absurd (true≢false (sym is))

-- a last vote that counts, in a step that is not spent, finds a number left
vote_room : (state : ControlState) (v : ℕ) (txn : TxnId) (next : ℕ) → (has_decide (vote_acts state v txn) && is_full next) ≡ false →
    (counts_vote state v txn && is_last_vote state v txn) ≡ true → next ≤ LOG_NUMBER_MAX
unfolding vote_acts
vote_room state v txn next unspent last =
    cond_both (counts_vote state v txn && is_last_vote state v txn) (acts.Decide txn ∷ []) []
    (λ acts. (has_decide acts && is_full next) ≡ false → next ≤ LOG_NUMBER_MAX) (λ here unspent. room_left next unspent)
    (λ none. absurd (true≢false (sym last ∙ none))) unspent

module _ (state : ReplicaState) (from : ℕ) (counted : IsNodeCount state.control.nodes) (own : IsVirtualNode state.v) (range : IsReplicaInRange state) where
  nothing_sent : AreSentInRange []
  nothing_sent = All-nil IsSentInRange

  part_step : (part : State) → IsPartInRange part → IsStepInRange (with_part (started state) part)
  part_step part is = record { state = record { part = is; entries = range.entries }; sends = nothing_sent }

  controlled_step : (control : ControlState) (acts : List Act) → AreEntriesInRange control.transactions → All IsActInRange acts → IsStepInRange (controlled own_primary state control acts)
  controlled_step control acts entries are = record { state = record { part = range.part; entries = entries }; sends = messages_range acts are }

  -- a commit that is decided
  committed_step : (txn : TxnId) (number : ℕ) → IsTxn txn → IsCommandNumber number → state.part.next ≤ LOG_NUMBER_MAX →
      IsStepInRange (committed own_primary state txn number)
  committed_step txn number named numbered room = record {
    state = record { part = parts.decide_range state.part txn range.part named room; entries = without_range txn state.control.transactions range.entries };
    sends = messages_range (finishes state.control txn true ++ Say txn number Committed ∷ []) (end_range state.control txn named counted true number Committed numbered tt);
  }

  -- an operation
  asked_step : (w : ℕ) (txn : TxnId) (number : ℕ) (place : Place) (op : Op) (mark : Bool) → IsVirtualNode w → IsTxn txn → IsCommandNumber number →
      IsTable place.0 → IsKey place.1 → IsOp op → state.part.next ≤ LOG_NUMBER_MAX → IsStepInRange (asked (started state) from w txn number place op mark)
  unfolding asked
  asked_step w txn number place op true within named numbered tabled keyed is room =
      record { state = range; sends = All-cons IsSentInRange _ [] (within, named, numbered, tt) nothing_sent }
  asked_step w txn number place op false within named numbered tabled keyed is room = record {
    state = record { part = parts.op_range state.part txn place op range.part named tabled keyed is room; entries = range.entries };
    sends = All-cons IsSentInRange _ [] (within, named, numbered, parts.answer_range state.part txn place op range.part) nothing_sent;
  }

  -- the participant after the end of an open transaction
  finish_range : (txn : TxnId) (commit : Bool) → IsTxn txn → is_end_spent state.part txn commit ≡ false → IsPartInRange (after_finish state.part txn commit)
  finish_range txn true named unspent = parts.end_range state.part txn true range.part named (room_left state.part.next unspent)
  finish_range txn false named unspent = parts.abort_range state.part txn range.part named (room_left _ unspent)

  -- the end of a transaction
  finished_step : (txn : TxnId) (commit : Bool) → IsTxn txn → (is_open state.part.log txn && is_end_spent state.part txn commit) ≡ false →
      IsStepInRange (finished (started state) txn commit)
  unfolding finished
  finished_step txn commit named unspent =
      cond_both (is_open state.part.log txn) (with_part (started state) (after_finish state.part txn commit)) (started state) IsStepInRange
      (λ is. part_step (after_finish state.part txn commit)
      (finish_range txn commit named (second_fails (is_open state.part.log txn) (is_end_spent state.part txn commit) unspent is)))
      (λ none. record { state = range; sends = nothing_sent })

  -- the step on a message, where it is not spent
  pub replica_step : (content : Content) (mark : Bool) → IsContent content → is_spent state content ≡ false →
      IsStepInRange (lone_step own_primary state from content mark)
  unfolding lone_step prepared
  replica_step (Command w txn number what) mark (within, named, numbered, is) unspent =
      let control : ControlState = after_command state.control txn number what in
      cond_both (has_decide (command_acts state.control txn number what)) (committed own_primary state txn number)
      (controlled own_primary state control (command_acts state.control txn number what)) IsStepInRange
      (λ decided. committed_step txn number named numbered
      (room_left state.part.next (second_fails (has_decide (command_acts state.control txn number what)) (is_full state.part.next) unspent decided)))
      (λ more. controlled_step control (command_acts state.control txn number what) (after_command_range state.control txn number what named numbered range.entries)
      (command_acts_range state.control txn named counted number what numbered is))
  replica_step (Answer w txn number answer) mark (within, named, numbered, is) unspent =
      controlled_step (after_answer state.control w txn number answer) (answer_acts state.control w txn number answer) (after_answer_range state.control w txn number answer range.entries)
      (answer_acts_range state.control txn named counted w number answer numbered is)
  replica_step (Vote w txn) mark (within, named) unspent =
      cond_both (counts_vote state.control w txn && is_last_vote state.control w txn) (committed own_primary state txn (command_of state.control txn))
      (controlled own_primary state (after_vote state.control w txn) []) IsStepInRange
      (λ last. committed_step txn (command_of state.control txn) named (command_of_range state.control txn range.entries)
      (vote_room state.control w txn state.part.next unspent last))
      (λ more. controlled_step (after_vote state.control w txn) [] (after_vote_range state.control w txn range.entries) (All-nil IsActInRange))
  replica_step (Ask w txn number table key op) mark (within, named, numbered, table_is, key_is, is) unspent =
      asked_step w txn number (table, key) op mark within named numbered table_is key_is is (room_left state.part.next unspent)
  replica_step (Prepare w txn) mark (within, named) unspent = record {
    state = record { part = parts.prepare_range state.part txn range.part named (room_left state.part.next unspent); entries = range.entries };
    sends = All-cons IsSentInRange _ [] (own, named) nothing_sent;
  }
  replica_step (Finish w txn commit) mark (within, named) unspent = finished_step txn commit named unspent
  replica_step (Decision w txn commit) mark (within, named) unspent = finished_step txn commit named unspent
  replica_step content mark is unspent = record { state = range; sends = nothing_sent }
