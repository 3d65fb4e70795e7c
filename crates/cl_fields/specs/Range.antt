-- The range of each field.
use Rattle.std.specs.Prelude.{◌≡◌, ℕ, ◌^◌, ◌<◌, ◌≤◌, true, List, length, Option, Some, None, ℤ, FitsSigned}
use Rattle.std.specs.List.{All}
use Rattle.std.specs.Int.{w64}
use Rattle.cl_types.specs.declared.limits.TheConstants.{SESSIONS_MAX}
use Rattle.cl_types.specs.Names.{is_table_name, is_key, is_value}
use Rattle.cl_types.specs.declared.operations.TxnId.{TxnId}
use Rattle.cl_types.specs.declared.operations.Op.{Op}
use Rattle.cl_types.specs.declared.operations.Op.TheVariants.{Put, Add}
use Rattle.cl_types.specs.declared.operations.Command.{Command as ClientCommand}
use Rattle.cl_types.specs.declared.operations.Command.TheVariants.{Work}
use Rattle.cl_types.specs.declared.answers.Reply.{Reply}
use Rattle.cl_types.specs.declared.answers.Reply.TheVariants as replies
use Rattle.cl_types.specs.declared.answers.AbortCause.{AbortCause}
use Rattle.cl_types.specs.declared.answers.AbortCause.TheVariants as causes
use Rattle.cl_types.specs.declared.answers.Answer.{Answer as OpAnswer}
use Rattle.cl_types.specs.declared.answers.Answer.TheVariants as answers
use Rattle.cl_types.specs.declared.answers.Outcome.{Outcome as CommandOutcome}
use Rattle.cl_types.specs.declared.answers.Outcome.TheVariants as outcomes
use Rattle.cl_log.specs.declared.records.Form.{Form}
use Rattle.cl_log.specs.declared.records.Form.TheVariants.{Image, Amount}
use Rattle.cl_log.specs.declared.records.LogRec.{LogRec}
use Rattle.cl_log.specs.declared.records.LogRec.TheVariants as entries
use Rattle.cl_store.specs.declared.item.Item.{Item}
use Rattle.cl_fields.specs.declared.limits.TheConstants.{ACTOR_MAX, NODE_MAX, VIRTUAL_NODE_MAX, COMMAND_NUMBER_MAX, LIST_MAX}

-- a node, or the front
abbrev pub IsActor : ℕ → Type 0
IsActor actor = actor ≤ ACTOR_MAX

-- a node, 0 to 15
abbrev pub IsNode : ℕ → Type 0
IsNode node = node ≤ NODE_MAX

-- a virtual node, 0 to 7
abbrev pub IsVirtualNode : ℕ → Type 0
IsVirtualNode v = v ≤ VIRTUAL_NODE_MAX

-- the number of a command in its transaction
abbrev pub IsCommandNumber : ℕ → Type 0
IsCommandNumber number = number ≤ COMMAND_NUMBER_MAX

-- the index of a piece of a copy
pub record IsIndex (index : ℕ) : Type 0 where
  pub low : 1 ≤ index
  pub high : index < 2 ^ 32

-- a number that counts from 1
pub record IsNumber (number : ℕ) : Type 0 where
  pub low : 1 ≤ number
  pub high : number < 2 ^ 64

-- a session from 1 to `SESSIONS_MAX`, and a number of at least 1
pub record IsTxn (txn : TxnId) : Type 0 where
  pub low : 1 ≤ txn.session
  pub high : txn.session ≤ SESSIONS_MAX
  pub number : IsNumber txn.number

-- the bytes are a table's name
abbrev pub IsTable : List ℕ → Type 0
IsTable name = is_table_name name ≡ true

-- the bytes are a key
abbrev pub IsKey : List ℕ → Type 0
IsKey name = is_key name ≡ true

-- the bytes are a value
abbrev pub IsValue : List ℕ → Type 0
IsValue value = is_value value ≡ true

-- the amount fits in signed 64 bits
abbrev pub IsAmount : ℤ → Type 0
IsAmount amount = FitsSigned w64 amount

-- a value, or none
abbrev pub IsImage : Option (List ℕ) → Type 0
IsImage None = Unit {0}
IsImage (Some value) = IsValue value

-- an image to write, or an amount to subtract
abbrev pub IsForm : Form → Type 0
IsForm (Image image) = IsImage image
IsForm (Amount amount) = IsAmount amount

-- the value of a PUT and the amount of an ADD are in range
abbrev pub IsOp : Op → Type 0
IsOp (Put value) = IsValue value
IsOp (Add amount) = IsAmount amount
IsOp other = Unit {0}

-- table, key and operation of an operation are in range
abbrev pub IsCommand : ClientCommand → Type 0
IsCommand (Work table key op) = IsTable table × IsKey key × IsOp op
IsCommand other = Unit {0}

-- the value found, or the sum, is in range
abbrev pub IsReply : Reply → Type 0
IsReply replies.Stored = Unit {0}
IsReply (replies.Found value) = IsValue value
IsReply replies.Absent = Unit {0}
IsReply (replies.Sum sum) = IsAmount sum
IsReply replies.NotNumber = Unit {0}
IsReply replies.OutOfRange = Unit {0}

-- the transaction, or the node, is in range
abbrev pub IsCause : AbortCause → Type 0
IsCause (causes.Conflict txn) = IsTxn txn
IsCause (causes.Node node) = IsNode node
IsCause causes.Client = Unit {0}
IsCause causes.Memory = Unit {0}

-- the outcomes of commands that go to a controller
abbrev pub IsOutcome : CommandOutcome → Type 0
IsOutcome (outcomes.Done reply) = IsReply reply
IsOutcome outcomes.Begun = Unit {0}
IsOutcome outcomes.Committed = Unit {0}
IsOutcome (outcomes.Aborted cause) = IsCause cause
IsOutcome outcomes.NotTxn = ⊥
IsOutcome outcomes.InTxn = ⊥
IsOutcome outcomes.Full = ⊥

-- the reply, or the transaction, is in range
abbrev pub IsAnswer : OpAnswer → Type 0
IsAnswer (answers.Done reply) = IsReply reply
IsAnswer (answers.Refused holder) = IsTxn holder
IsAnswer answers.NoMemory = Unit {0}

-- each field of the log record is in range; the number before a write may be 0
abbrev pub IsEntry : LogRec → Type 0
IsEntry (entries.Touch txn table key mode) = IsTxn txn × IsTable table × IsKey key
IsEntry (entries.Set txn table key before old new) = IsTxn txn × IsTable table × IsKey key × (before < 2 ^ 64) × IsImage old × IsImage new
IsEntry (entries.Add txn table key before amount) = IsTxn txn × IsTable table × IsKey key × (before < 2 ^ 64) × IsAmount amount
IsEntry (entries.Comp txn table key before undone form) = IsTxn txn × IsTable table × IsKey key × (before < 2 ^ 64) × IsNumber undone × IsForm form
IsEntry (entries.Prepared txn) = IsTxn txn
IsEntry (entries.End txn commit) = IsTxn txn
IsEntry (entries.Decide txn) = IsTxn txn

-- each field of the store's record is in range, its state number at least 1
pub record IsItem (item : Item) : Type 0 where
  pub table : IsTable item.table
  pub key : IsKey item.key
  pub number : IsNumber item.number
  pub value : IsImage item.value

-- few enough members for a list, each in range
pub record AreFew {A : Type 0} (IsMember : A → Type 0) (members : List A) : Type 0 where
  pub few : length members ≤ LIST_MAX
  pub each : All IsMember members
