-- Reading fields from the left of the bytes, or the fault of the first that cannot be read.
use Rattle.std.specs.Prelude.{◌≡◌, ℕ, zero, suc, Bool, true, false, nat_le, nat_lt, ◌==◌, if◌then◌else◌, List, [], ◌∷◌, length, take, drop, Option, Some, None, ℤ, Result, Ok, Err}
use Rattle.std.specs.Int.{Width, w16, w32, w64, byte_len, from_be_bytes, cast_signed}
use Rattle.cl_types.specs.declared.limits.TheConstants.{SESSIONS_MAX}
use Rattle.cl_types.specs.declared.value.TheConstants.{VALUE_MAX}
use Rattle.cl_types.specs.Names.{is_between, is_table_name, is_key, is_value}
use Rattle.cl_types.specs.declared.operations.TxnId.{TxnId}
use Rattle.cl_types.specs.declared.operations.Mode.{Mode}
use Rattle.cl_types.specs.declared.operations.Mode.TheVariants.{Shared, Exclusive}
use Rattle.cl_types.specs.declared.operations.Op.{Op}
use Rattle.cl_types.specs.declared.operations.Op.TheVariants.{Get, Put, Del, Add}
use Rattle.cl_types.specs.declared.operations.Command.{Command as ClientCommand}
use Rattle.cl_types.specs.declared.operations.Command.TheVariants.{Begin, Work, Commit, Abort}
use Rattle.cl_types.specs.declared.answers.Reply.{Reply}
use Rattle.cl_types.specs.declared.answers.Reply.TheVariants as replies
use Rattle.cl_types.specs.declared.answers.AbortCause.{AbortCause}
use Rattle.cl_types.specs.declared.answers.AbortCause.TheVariants as causes
use Rattle.cl_types.specs.declared.answers.Answer.{Answer as OpAnswer}
use Rattle.cl_types.specs.declared.answers.Answer.TheVariants as answers
use Rattle.cl_types.specs.declared.answers.Outcome.{Outcome as CommandOutcome}
use Rattle.cl_types.specs.declared.answers.Outcome.TheVariants as outcomes
use Rattle.cl_log.specs.declared.records.Form.{Form}
use Rattle.cl_log.specs.declared.records.Form.TheVariants.{Image, Amount}
use Rattle.cl_log.specs.declared.records.LogRec.{LogRec}
use Rattle.cl_log.specs.declared.records.LogRec.TheVariants as entries
use Rattle.cl_store.specs.declared.item.Item.{Item}
use Rattle.cl_fields.specs.declared.limits.TheConstants.{ACTOR_MAX, NODE_MAX, VIRTUAL_NODE_MAX, COMMAND_NUMBER_MAX, LIST_MAX}
use Rattle.cl_fields.specs.declared.tags.TheConstants as tags
use Rattle.cl_fields.specs.declared.undecoded.WireFault.{WireFault}
use Rattle.cl_fields.specs.declared.undecoded.WireFault.TheVariants as faults
use Rattle.cl_fields.specs.declared.undecoded.Undecoded.{Undecoded}
use Rattle.cl_fields.specs.declared.undecoded.Undecoded.TheVariants as undecoded

-- what stands first in the bytes, and the bytes after it; or the fault
abbrev pub Read : Type 0 → Type 0
Read A = Result (A × List ℕ) WireFault

-- a reader takes bytes from the left: what stands first with the bytes after it, or the fault
abbrev pub Reader : Type 0 → Type 0
Reader A = List ℕ → Read A

-- what is read next, unless there was a fault
abbrev pub onward : {A B : Type 0} → Read A → (A → Reader B) → Read B
onward (Ok found) next = next found.0 found.1
onward (Err fault) next = Err fault

infixl 10 ◌>>=◌
-- one reader after another: the first fault ends the reading
abbrev pub ◌>>=◌ : {A B : Type 0} → Reader A → (A → Reader B) → Reader B
(reader >>= next) bytes = onward (reader bytes) next

-- nothing is left to read of this
abbrev pub done : {A : Type 0} → A → Reader A
done found bytes = Ok (found, bytes)

-- what was read, if it passes, and Field if not
abbrev pub checked : {A : Type 0} → Bool → A → Reader A
checked passes found bytes = if passes then Ok (found, bytes) else Err faults.Field

-- no form of the field begins so
abbrev pub out_of_range : {A : Type 0} → Reader A
out_of_range bytes = Err faults.Field

-- the next byte
unfoldable pub read_byte : Reader ℕ
read_byte [] = Err faults.Short
read_byte (b ∷ bytes) = Ok (b, bytes)

-- so many bytes
unfoldable pub read_bytes : ℕ → Reader (List ℕ)
read_bytes count bytes = if nat_lt (length bytes) count then Err faults.Short else Ok (take count bytes, drop count bytes)

-- a byte from low to high
unfoldable pub read_between : ℕ → ℕ → Reader ℕ
read_between low high = do
  b ← read_byte
  checked (is_between low high b) b

-- a number of that width
unfoldable pub read_number : Width → Reader ℕ
read_number w = do
  text ← read_bytes (byte_len w)
  done (from_be_bytes w text)

-- a number of that width that is at least 1
unfoldable pub read_positive : Width → Reader ℕ
read_positive w = do
  n ← read_number w
  checked (nat_le 1 n) n

-- a signed number of eight bytes, in two's complement
unfoldable pub read_amount : Reader ℤ
read_amount = do
  bits ← read_number w64
  done (cast_signed w64 bits)

-- the byte 0 or 1
unfoldable pub read_flag : Reader Bool
read_flag = do
  b ← read_byte
  if b == 0 then done false else (if b == 1 then done true else out_of_range)

-- the byte 1 for shared or 2 for exclusive
unfoldable pub read_mode : Reader Mode
read_mode = do
  b ← read_byte
  if b == tags.MODE_SHARED then done Shared else (if b == tags.MODE_EXCLUSIVE then done Exclusive else out_of_range)

-- the byte of an actor
abbrev pub read_actor : Reader ℕ
read_actor = read_between 0 ACTOR_MAX

-- the byte of a node
abbrev pub read_node : Reader ℕ
read_node = read_between 0 NODE_MAX

-- the byte of a virtual node
abbrev pub read_virtual_node : Reader ℕ
read_virtual_node = read_between 0 VIRTUAL_NODE_MAX

-- the number of a command in its transaction, four bytes
unfoldable pub read_command_number : Reader ℕ
read_command_number = do
  number ← read_number w32
  checked (nat_le number COMMAND_NUMBER_MAX) number

-- a session, tested before a number of at least 1 is read
unfoldable pub read_txn : Reader TxnId
read_txn = do
  session ← read_between 1 SESSIONS_MAX
  number ← read_positive w64
  done (record { session = session; number = number })

-- a byte of length, and that many bytes
unfoldable pub read_text : Reader (List ℕ)
read_text = do
  count ← read_byte
  read_bytes count

-- a length and that many bytes, which are a table's name
unfoldable pub read_table : Reader (List ℕ)
read_table = do
  text ← read_text
  checked (is_table_name text) text

-- a length and that many bytes, which are a key
unfoldable pub read_key : Reader (List ℕ)
read_key = do
  text ← read_text
  checked (is_key text) text

-- the length of a value
unfoldable pub read_value_length : Reader ℕ
read_value_length = do
  count ← read_number w16
  checked (is_between 1 VALUE_MAX count) count

-- the length, and then that many bytes
unfoldable pub read_value : Reader (List ℕ)
read_value = do
  count ← read_value_length
  text ← read_bytes count
  checked (is_value text) text

-- a flag, and the value where it is 1
unfoldable pub read_image : Reader (Option (List ℕ))
read_image = do
  there ← read_flag
  if there then (read_value >>= λ value. done (Some value)) else done None

-- a flag, then an image where it is 0, an amount where it is 1
unfoldable pub read_form : Reader Form
read_form = do
  is_amount ← read_flag
  if is_amount then (read_amount >>= λ amount. done (Amount amount)) else (read_image >>= λ image. done (Image image))

-- what stands after the key of an operation with this byte
unfoldable pub read_operand : ℕ → Reader Op
read_operand b =
    if b == tags.OP_GET then done Get
    else (if b == tags.OP_PUT then (read_value >>= λ value. done (Put value))
    else (if b == tags.OP_DEL then done Del
    else (if b == tags.OP_ADD then (read_amount >>= λ amount. done (Add amount)) else out_of_range)))

-- a table, a key and an operation, after the operation's byte
unfoldable pub read_work : ℕ → Reader (List ℕ × List ℕ × Op)
read_work b = do
  table ← read_table
  key ← read_key
  op ← read_operand b
  done (table, key, op)

-- the byte of an operation, table, key, then the value of a PUT or the amount of an ADD
unfoldable pub read_op : Reader (List ℕ × List ℕ × Op)
read_op = do
  b ← read_between tags.OP_GET tags.OP_ADD
  read_work b

-- the byte of BEGIN, COMMIT or ABORT, or an operation
unfoldable pub read_command : Reader ClientCommand
read_command = do
  b ← read_byte
  if b == tags.COMMAND_BEGIN then done Begin
      else (if b == tags.COMMAND_COMMIT then done Commit
      else (if b == tags.COMMAND_ABORT then done Abort
      else (if is_between tags.OP_GET tags.OP_ADD b then (read_work b >>= λ work. done (Work work.0 work.1 work.2)) else out_of_range)))

-- the byte of the case, then the value or the sum that it carries
unfoldable pub read_reply : Reader Reply
read_reply = do
  b ← read_byte
  if b == tags.REPLY_STORED then done replies.Stored
      else (if b == tags.REPLY_FOUND then (read_value >>= λ value. done (replies.Found value))
      else (if b == tags.REPLY_ABSENT then done replies.Absent
      else (if b == tags.REPLY_SUM then (read_amount >>= λ sum. done (replies.Sum sum))
      else (if b == tags.REPLY_NOT_NUMBER then done replies.NotNumber
      else (if b == tags.REPLY_OUT_OF_RANGE then done replies.OutOfRange else out_of_range)))))

-- the byte of the case, then the transaction or the node that it carries
unfoldable pub read_cause : Reader AbortCause
read_cause = do
  b ← read_byte
  if b == tags.CAUSE_CONFLICT then (read_txn >>= λ holder. done (causes.Conflict holder))
      else (if b == tags.CAUSE_NODE then (read_node >>= λ node. done (causes.Node node))
      else (if b == tags.CAUSE_CLIENT then done causes.Client
      else (if b == tags.CAUSE_MEMORY then done causes.Memory else out_of_range)))

-- the byte of the case, then the reply or the cause that it carries
unfoldable pub read_outcome : Reader CommandOutcome
read_outcome = do
  b ← read_byte
  if b == tags.OUTCOME_DONE then (read_reply >>= λ reply. done (outcomes.Done reply))
      else (if b == tags.OUTCOME_BEGUN then done outcomes.Begun
      else (if b == tags.OUTCOME_COMMITTED then done outcomes.Committed
      else (if b == tags.OUTCOME_ABORTED then (read_cause >>= λ cause. done (outcomes.Aborted cause)) else out_of_range)))

-- the byte of the case, then the reply or the transaction that it carries
unfoldable pub read_answer : Reader OpAnswer
read_answer = do
  b ← read_byte
  if b == tags.ANSWER_DONE then (read_reply >>= λ reply. done (answers.Done reply))
      else (if b == tags.ANSWER_REFUSED then (read_txn >>= λ holder. done (answers.Refused holder))
      else (if b == tags.ANSWER_NO_MEMORY then done answers.NoMemory else out_of_range))

-- the fields of a Touch in order
unfoldable pub read_touch : Reader LogRec
read_touch = do
  txn ← read_txn
  table ← read_table
  key ← read_key
  mode ← read_mode
  done (entries.Touch txn table key mode)

-- the fields of a Set in order
unfoldable pub read_set : Reader LogRec
read_set = do
  txn ← read_txn
  table ← read_table
  key ← read_key
  before ← read_number w64
  old ← read_image
  new ← read_image
  done (entries.Set txn table key before old new)

-- the fields of an Add in order
unfoldable pub read_add : Reader LogRec
read_add = do
  txn ← read_txn
  table ← read_table
  key ← read_key
  before ← read_number w64
  amount ← read_amount
  done (entries.Add txn table key before amount)

-- the fields of a Comp in order
unfoldable pub read_comp : Reader LogRec
read_comp = do
  txn ← read_txn
  table ← read_table
  key ← read_key
  before ← read_number w64
  undone ← read_positive w64
  form ← read_form
  done (entries.Comp txn table key before undone form)

-- the fields of an End in order
unfoldable pub read_end : Reader LogRec
read_end = do
  txn ← read_txn
  commit ← read_flag
  done (entries.End txn commit)

-- a record of a log
unfoldable pub read_entry : Reader LogRec
read_entry = do
  b ← read_byte
  if b == tags.ENTRY_TOUCH then read_touch
      else (if b == tags.ENTRY_SET then read_set
      else (if b == tags.ENTRY_ADD then read_add
      else (if b == tags.ENTRY_COMP then read_comp
      else (if b == tags.ENTRY_PREPARED then (read_txn >>= λ txn. done (entries.Prepared txn))
      else (if b == tags.ENTRY_END then read_end
      else (if b == tags.ENTRY_DECIDE then (read_txn >>= λ txn. done (entries.Decide txn)) else out_of_range))))))

-- a record of a store
unfoldable pub read_item : Reader Item
read_item = do
  table ← read_table
  key ← read_key
  number ← read_positive w64
  value ← read_image
  done (record { table = table; key = key; number = number; value = value })

-- so many members
unfoldable pub read_members : {A : Type 0} → Reader A → ℕ → Reader (List A)
read_members read_member zero = done []
read_members read_member (suc count) = do
  first ← read_member
  others ← read_members read_member count
  done (first ∷ others)

-- a byte of length, and the members
unfoldable pub read_list : {A : Type 0} → Reader A → Reader (List A)
read_list read_member = do
  count ← read_between 0 LIST_MAX
  read_members read_member count

-- a reader of the code answered what reading gives, seen by view, and left what reading leaves; or it gave up for want of memory
abbrev pub Gives : {X Y : Type 0} → (X → Y) → Result X Undecoded → List ℕ → Read Y → Type 0
Gives view (Ok found) left read = read ≡ Ok (view found, left)
Gives view (Err (undecoded.Fault fault)) left read = read ≡ Err fault
Gives view (Err undecoded.NoMemory) left read = Unit {0}

-- the same where what is read is pure data
abbrev pub ReadsField : {X : Type 0} → Result X Undecoded → List ℕ → Read X → Type 0
ReadsField result left read = Gives (λ found. found) result left read
