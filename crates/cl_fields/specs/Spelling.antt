-- The one spelling of each field: which bytes stand for it. Numbers are big-endian.
use Rattle.std.specs.Prelude.{ℕ, Bool, true, false, List, [], ◌∷◌, ◌++◌, length, Option, Some, None, ℤ}
use Rattle.std.specs.List.{flat_map}
use Rattle.std.specs.Int.{w16, w32, w64, to_be_bytes, cast_unsigned}
use Rattle.cl_types.specs.declared.operations.TxnId.{TxnId}
use Rattle.cl_types.specs.declared.operations.Mode.{Mode}
use Rattle.cl_types.specs.declared.operations.Mode.TheVariants.{Shared, Exclusive}
use Rattle.cl_types.specs.declared.operations.Op.{Op}
use Rattle.cl_types.specs.declared.operations.Op.TheVariants.{Get, Put, Del, Add}
use Rattle.cl_types.specs.declared.operations.Command.{Command as ClientCommand}
use Rattle.cl_types.specs.declared.operations.Command.TheVariants.{Begin, Work, Commit, Abort}
use Rattle.cl_types.specs.declared.answers.Reply.{Reply}
use Rattle.cl_types.specs.declared.answers.Reply.TheVariants as replies
use Rattle.cl_types.specs.declared.answers.AbortCause.{AbortCause}
use Rattle.cl_types.specs.declared.answers.AbortCause.TheVariants as causes
use Rattle.cl_types.specs.declared.answers.Answer.{Answer as OpAnswer}
use Rattle.cl_types.specs.declared.answers.Answer.TheVariants as answers
use Rattle.cl_types.specs.declared.answers.Outcome.{Outcome as CommandOutcome}
use Rattle.cl_types.specs.declared.answers.Outcome.TheVariants as outcomes
use Rattle.cl_log.specs.declared.records.Form.{Form}
use Rattle.cl_log.specs.declared.records.Form.TheVariants.{Image, Amount}
use Rattle.cl_log.specs.declared.records.LogRec.{LogRec}
use Rattle.cl_log.specs.declared.records.LogRec.TheVariants as entries
use Rattle.cl_store.specs.declared.item.Item.{Item}
use Rattle.cl_fields.specs.declared.tags.TheConstants as tags

-- a number below 256 is one byte
abbrev pub byte : ℕ → List ℕ
byte n = n ∷ []

-- four bytes
unfoldable pub number_32 : ℕ → List ℕ
number_32 n = to_be_bytes w32 n

-- eight bytes
unfoldable pub number_64 : ℕ → List ℕ
number_64 n = to_be_bytes w64 n

-- eight bytes in two's complement
unfoldable pub amount_bytes : ℤ → List ℕ
amount_bytes amount = number_64 (cast_unsigned w64 amount)

-- 0 for false, 1 for true
abbrev pub flag_byte : Bool → ℕ
flag_byte false = 0
flag_byte true = 1

-- 1 for shared, 2 for exclusive
abbrev pub mode_byte : Mode → ℕ
mode_byte Shared = tags.MODE_SHARED
mode_byte Exclusive = tags.MODE_EXCLUSIVE

-- one byte of session, eight of number
unfoldable pub txn_bytes : TxnId → List ℕ
txn_bytes txn = byte txn.session ++ number_64 txn.number

-- a table's name or a key: a byte of length, and that many bytes
unfoldable pub name_bytes : List ℕ → List ℕ
name_bytes name = byte (length name) ++ name

-- a value: two bytes of length, and that many bytes
unfoldable pub value_bytes : List ℕ → List ℕ
value_bytes value = to_be_bytes w16 (length value) ++ value

-- a flag, and the value where there is one
unfoldable pub image_bytes : Option (List ℕ) → List ℕ
image_bytes None = byte 0
image_bytes (Some value) = byte 1 ++ value_bytes value

-- 0 and an image to write, or 1 and an amount to subtract
unfoldable pub form_bytes : Form → List ℕ
form_bytes (Image image) = byte 0 ++ image_bytes image
form_bytes (Amount amount) = byte 1 ++ amount_bytes amount

-- the byte of an operation
abbrev pub op_byte : Op → ℕ
op_byte Get = tags.OP_GET
op_byte (Put value) = tags.OP_PUT
op_byte Del = tags.OP_DEL
op_byte (Add amount) = tags.OP_ADD

-- what stands after the key
abbrev pub operand_bytes : Op → List ℕ
operand_bytes Get = []
operand_bytes (Put value) = value_bytes value
operand_bytes Del = []
operand_bytes (Add amount) = amount_bytes amount

-- the operation's byte, table, key, then the value of a PUT or the amount of an ADD
unfoldable pub op_bytes : List ℕ → List ℕ → Op → List ℕ
op_bytes table key op = byte (op_byte op) ++ name_bytes table ++ name_bytes key ++ operand_bytes op

-- 0 for BEGIN, 5 for COMMIT, 6 for ABORT, or the operation
unfoldable pub command_bytes : ClientCommand → List ℕ
command_bytes Begin = byte tags.COMMAND_BEGIN
command_bytes (Work table key op) = op_bytes table key op
command_bytes Commit = byte tags.COMMAND_COMMIT
command_bytes Abort = byte tags.COMMAND_ABORT

-- the byte of the case, then the value or the sum that it carries
unfoldable pub reply_bytes : Reply → List ℕ
reply_bytes replies.Stored = byte tags.REPLY_STORED
reply_bytes (replies.Found value) = byte tags.REPLY_FOUND ++ value_bytes value
reply_bytes replies.Absent = byte tags.REPLY_ABSENT
reply_bytes (replies.Sum sum) = byte tags.REPLY_SUM ++ amount_bytes sum
reply_bytes replies.NotNumber = byte tags.REPLY_NOT_NUMBER
reply_bytes replies.OutOfRange = byte tags.REPLY_OUT_OF_RANGE

-- the byte of the case, then the transaction or the node that it carries
unfoldable pub cause_bytes : AbortCause → List ℕ
cause_bytes (causes.Conflict txn) = byte tags.CAUSE_CONFLICT ++ txn_bytes txn
cause_bytes (causes.Node node) = byte tags.CAUSE_NODE ++ byte node
cause_bytes causes.Client = byte tags.CAUSE_CLIENT
cause_bytes causes.Memory = byte tags.CAUSE_MEMORY

-- the outcomes of commands that go to a controller; the others are sent by nobody
unfoldable pub outcome_bytes : CommandOutcome → List ℕ
outcome_bytes (outcomes.Done reply) = byte tags.OUTCOME_DONE ++ reply_bytes reply
outcome_bytes outcomes.Begun = byte tags.OUTCOME_BEGUN
outcome_bytes outcomes.Committed = byte tags.OUTCOME_COMMITTED
outcome_bytes (outcomes.Aborted cause) = byte tags.OUTCOME_ABORTED ++ cause_bytes cause
outcome_bytes outcomes.NotTxn = []
outcome_bytes outcomes.InTxn = []
outcome_bytes outcomes.Full = []

-- the byte of the case, then the reply or the transaction that it carries
unfoldable pub answer_bytes : OpAnswer → List ℕ
answer_bytes (answers.Done reply) = byte tags.ANSWER_DONE ++ reply_bytes reply
answer_bytes (answers.Refused holder) = byte tags.ANSWER_REFUSED ++ txn_bytes holder
answer_bytes answers.NoMemory = byte tags.ANSWER_NO_MEMORY

-- a record of a log
unfoldable pub entry_bytes : LogRec → List ℕ
entry_bytes (entries.Touch txn table key mode) = byte tags.ENTRY_TOUCH ++ txn_bytes txn ++ name_bytes table ++ name_bytes key ++ byte (mode_byte mode)
entry_bytes (entries.Set txn table key before old new) = byte tags.ENTRY_SET ++ txn_bytes txn ++ name_bytes table ++ name_bytes key ++ number_64 before ++ image_bytes old ++ image_bytes new
entry_bytes (entries.Add txn table key before amount) = byte tags.ENTRY_ADD ++ txn_bytes txn ++ name_bytes table ++ name_bytes key ++ number_64 before ++ amount_bytes amount
entry_bytes (entries.Comp txn table key before undone form) = byte tags.ENTRY_COMP ++ txn_bytes txn ++ name_bytes table ++ name_bytes key ++ number_64 before ++ number_64 undone ++ form_bytes form
entry_bytes (entries.Prepared txn) = byte tags.ENTRY_PREPARED ++ txn_bytes txn
entry_bytes (entries.End txn commit) = byte tags.ENTRY_END ++ txn_bytes txn ++ byte (flag_byte commit)
entry_bytes (entries.Decide txn) = byte tags.ENTRY_DECIDE ++ txn_bytes txn

-- a record of a store
unfoldable pub item_bytes : Item → List ℕ
item_bytes item = name_bytes item.table ++ name_bytes item.key ++ number_64 item.number ++ image_bytes item.value

-- a list: a byte of length, and its members
unfoldable pub list_bytes : {A : Type 0} → (A → List ℕ) → List A → List ℕ
list_bytes member_bytes members = byte (length members) ++ flat_map member_bytes members
