-- The calls of a participant are steps of a ledger.
use Rattle.std.specs.Prelude.{◌≡◌, ℕ, false, List, [], ◌∷◌, Option, Some, None}
use Rattle.cl_types.specs.declared.operations.Op.{Op}
use Rattle.cl_types.specs.declared.operations.TxnId.{TxnId}
use Rattle.cl_types.specs.Places.{Place}
use Rattle.cl_types.specs.Plain.{plain_reply}
use Rattle.cl_log.specs.LogEntry.{LogEntry}
use Rattle.cl_log.specs.Open.{has_ended, is_among}
use Rattle.cl_log.specs.Rest.{rest_to_undo}
use Rattle.cl_order.specs.Ledger.{Ledger, stored_at, IsOrdered}
use Rattle.cl_order.specs.Steps.{Step, carry_out, prepare as append_prepared, decide as append_decide, join, undo, finish, after_steps, AreEnabled, MayFinish, MayJoin, new_ledger}
use Rattle.cl_part.specs.Calls.{Call, ask_op, prepare, decide, undo_one, end, refusing, answer_by, answer_to, undo_now, after_call}
use Rattle.cl_part.specs.Sound.{IsReplicaOf}
use Rattle.cl_part.specs.State.{State, new_state}

-- the step of an operation, or none where a transaction refuses it
abbrev pub step_asked : Option TxnId → Step → List Step
step_asked None step = step ∷ []
step_asked (Some holder) step = []

-- the step that undoes the first of these writes, or none where there is none
abbrev pub step_undoing : ℕ → State → List LogEntry → List Step
step_undoing v state [] = []
step_undoing v state (first ∷ others) = undo v (undo_now state first) ∷ []

-- the step that a call on a virtual node is: none where an operation is refused, or nothing is left to undo
abbrev pub steps_of : ℕ → State → Call → List Step
steps_of v state (ask_op txn place op) = step_asked (refusing state txn place op) (carry_out txn place op)
steps_of v state (prepare txn) = append_prepared v txn ∷ []
steps_of v state (decide txn) = append_decide v txn ∷ []
steps_of v state (undo_one txn) = step_undoing v state (rest_to_undo state.log txn)
steps_of v state (end txn commit) = finish v txn commit ∷ []

-- the transaction may work on the virtual node: it is no member, and has not ended there
pub record MayWork (ledger : Ledger) (v : ℕ) (txn : TxnId) : Type 0 where
  pub outside : is_among txn ledger.history ≡ false
  pub unended : has_ended (ledger.logs v) txn ≡ false

-- a call may be made on the virtual node; of locks and of state numbers nothing is asked
abbrev pub MayCall : Ledger → ℕ → Call → Type 0
MayCall ledger v (ask_op txn place op) = (ledger.on place ≡ v) × MayWork ledger v txn
MayCall ledger v (prepare txn) = has_ended (ledger.logs v) txn ≡ false
MayCall ledger v (decide txn) = Unit {0}
MayCall ledger v (undo_one txn) = MayWork ledger v txn
MayCall ledger v (end txn commit) = MayFinish ledger v txn commit

-- the participant of a virtual node: the log of the ledger is its full log
abbrev pub IsAt : Ledger → ℕ → State → Type 0
IsAt ledger v state = IsReplicaOf (ledger.logs v) state

-- the steps of a call are enabled, and make of the ledger what the call makes of the participant
pub record FollowsCall (ledger : Ledger) (v : ℕ) (state : State) (call : Call) : Type 0 where
  pub enabled : AreEnabled ledger (steps_of v state call)
  pub after : IsAt (after_steps ledger (steps_of v state call)) v (after_call state call)

-- a call that may be made on the participant of a virtual node is the steps named above
abbrev pub CallsAreSteps : Type 0
CallsAreSteps = (ledger : Ledger) (v : ℕ) (state : State) (call : Call) → IsAt ledger v state → MayCall ledger v call → FollowsCall ledger v state call

-- an operation that is not refused is answered with the reply that the ledger notes
abbrev pub AnswersAreNoted : Type 0
AnswersAreNoted = (ledger : Ledger) (v : ℕ) (state : State) (txn : TxnId) (place : Place) (op : Op) → IsAt ledger v state → ledger.on place ≡ v →
    answer_to state txn place op ≡ answer_by (refusing state txn place op) (plain_reply op (stored_at ledger place).1)

-- so a call keeps the ledger ordered
abbrev pub CallsKeepOrder : Type 0
CallsKeepOrder = (ledger : Ledger) (v : ℕ) (state : State) (call : Call) → IsAt ledger v state → MayCall ledger v call → IsOrdered ledger →
    IsOrdered (after_steps ledger (steps_of v state call))

-- ---- calls and commits, one after another, from the start

-- what happens at one participant: a call, or a transaction joins the history
pub data Event : Type 0 where
  -- a call on the participant
  calls : Call → Event
  -- a transaction joins the history
  joins : TxnId → Event

-- the steps of the ledger that an event is
abbrev pub steps_of_event : ℕ → State → Event → List Step
steps_of_event v state (calls call) = steps_of v state call
steps_of_event v state (joins txn) = join txn ∷ []

-- the participant after an event: joining the history leaves it as it is
abbrev pub after_event : State → Event → State
after_event state (calls call) = after_call state call
after_event state (joins txn) = state

-- what an event needs
abbrev pub MayHappen : Ledger → ℕ → Event → Type 0
MayHappen ledger v (calls call) = MayCall ledger v call
MayHappen ledger v (joins txn) = MayJoin ledger txn

-- each event may happen in its turn
abbrev pub MayHappenInTurn : Ledger → ℕ → State → List Event → Type 0
MayHappenInTurn ledger v state [] = Unit {0}
MayHappenInTurn ledger v state (event ∷ events) =
    MayHappen ledger v event × MayHappenInTurn (after_steps ledger (steps_of_event v state event)) v (after_event state event) events

-- the ledger after events, one after another
abbrev pub ledger_after : Ledger → ℕ → State → List Event → Ledger
ledger_after ledger v state [] = ledger
ledger_after ledger v state (event ∷ events) = ledger_after (after_steps ledger (steps_of_event v state event)) v (after_event state event) events

-- the participant after events, one after another
abbrev pub state_after : State → List Event → State
state_after state [] = state
state_after state (event ∷ events) = state_after (after_event state event) events

-- from the start, calls on one participant and commits between them keep the ledger ordered, and the participant is that of its virtual node
abbrev pub EventsMakeOrder : Type 0
EventsMakeOrder = (on : Place → ℕ) (v : ℕ) (events : List Event) → MayHappenInTurn (new_ledger on) v (new_state 1) events →
    IsOrdered (ledger_after (new_ledger on) v (new_state 1) events) × IsAt (ledger_after (new_ledger on) v (new_state 1) events) v (state_after (new_state 1) events)
