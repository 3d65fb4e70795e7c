-- Reading a whole packet, to its message or to the first field that cannot be read.
use Rattle.std.specs.Prelude.{◌≡◌, ℕ, Bool, nat_le, slice_get, ◌==◌, List, [], ◌∷◌, Option, Some, None, Result, Ok, Err}
use Rattle.std.specs.Int.{w32, w64}
use Rattle.cl_wire.specs.declared.decoding.Header.{Header}
use Rattle.cl_wire.specs.declared.kind.TheConstants.{KINDS}
use Rattle.cl_wire.specs.declared.kind.Kind.{Kind}
use Rattle.cl_wire.specs.declared.kind.Kind.TheVariants as kinds
use Rattle.cl_fields.specs.declared.undecoded.WireFault.{WireFault}
use Rattle.cl_fields.specs.declared.undecoded.WireFault.TheVariants as faults
use Rattle.cl_fields.specs.declared.undecoded.Undecoded.{Undecoded}
use Rattle.cl_fields.specs.declared.undecoded.Undecoded.TheVariants as undecoded
use Rattle.cl_wire.specs.declared.packet.Packet.{Packet}
use Rattle.cl_wire.specs.Spelling.{version}
use Rattle.cl_wire.specs.Message.{Content, Message, message_of, Bare, Command, Outcome, Ask, Answer, Prepare, Vote, Finish, Inquire, Decision, Log, LogAck, Repair, Records, Names, CopyAck}
use Rattle.cl_fields.specs.Reading.{Read, Reader, done, checked, read_byte, read_between, read_number, read_positive, read_flag, read_actor, read_node, read_virtual_node, read_command_number, read_txn, read_op, read_command, read_outcome, read_answer, read_entry, read_item, read_list, ◌>>=◌}

-- a kind, unless there is none with the byte that was read
abbrev pub checked_kind : Option Kind → Reader Kind
checked_kind (Some kind) bytes = Ok (kind, bytes)
checked_kind None bytes = Err faults.Kind

-- the kind whose byte comes next; a byte above 15 is the fault Kind
unfoldable pub read_kind : Reader Kind
read_kind = do
  b ← read_byte
  checked_kind (slice_get KINDS b)

-- the fields after the header, by the kind
unfoldable pub read_content : Kind → Reader Content
read_content kinds.Bare = done Bare
read_content kinds.Command = do
  v ← read_virtual_node
  txn ← read_txn
  command_number ← read_command_number
  asked ← read_command
  done (Command v txn command_number asked)
read_content kinds.Outcome = do
  txn ← read_txn
  command_number ← read_command_number
  outcome ← read_outcome
  done (Outcome txn command_number outcome)
read_content kinds.Ask = do
  v ← read_virtual_node
  txn ← read_txn
  command_number ← read_command_number
  work ← read_op
  done (Ask v txn command_number work.0 work.1 work.2)
read_content kinds.Answer = do
  v ← read_virtual_node
  txn ← read_txn
  command_number ← read_command_number
  answer ← read_answer
  done (Answer v txn command_number answer)
read_content kinds.Prepare = do
  v ← read_virtual_node
  txn ← read_txn
  done (Prepare v txn)
read_content kinds.Vote = do
  v ← read_virtual_node
  txn ← read_txn
  done (Vote v txn)
read_content kinds.Finish = do
  v ← read_virtual_node
  txn ← read_txn
  commit ← read_flag
  done (Finish v txn commit)
read_content kinds.Inquire = do
  v ← read_virtual_node
  txn ← read_txn
  done (Inquire v txn)
read_content kinds.Decision = do
  v ← read_virtual_node
  txn ← read_txn
  commit ← read_flag
  done (Decision v txn commit)
read_content kinds.Log = do
  v ← read_virtual_node
  number ← read_positive w64
  entry ← read_entry
  done (Log v number entry)
read_content kinds.LogAck = do
  v ← read_virtual_node
  number ← read_positive w64
  done (LogAck v number)
read_content kinds.Repair = do
  v ← read_virtual_node
  node ← read_node
  done (Repair v node)
read_content kinds.Records = do
  v ← read_virtual_node
  index ← read_positive w32
  records ← read_list read_item
  done (Records v index records)
read_content kinds.Names = do
  v ← read_virtual_node
  index ← read_positive w32
  last ← read_flag
  low ← read_number w64
  txns ← read_list read_txn
  done (Names v index last low txns)
read_content kinds.CopyAck = do
  v ← read_virtual_node
  index ← read_positive w32
  done (CopyAck v index)

-- whether a message of this kind may have that number: 0 for a bare acknowledgement, and at least 1 for others
abbrev pub is_seq : Kind → ℕ → Bool
is_seq kinds.Bare seq = seq == 0
is_seq kind seq = nat_le 1 seq

-- the message's number: 0 for a bare acknowledgement, at least 1 for every other kind
unfoldable pub read_seq : Kind → Reader ℕ
read_seq kind = do
  seq ← read_number w64
  checked (is_seq kind seq) seq

-- the version's byte
abbrev pub read_version : Reader ℕ
read_version = read_between version version

-- the fields of the header from the left, the version first
unfoldable pub read_header : Reader Header
read_header = do
  _ ← read_version
  kind ← read_kind
  from ← read_actor
  to ← read_actor
  set ← read_number w32
  seq ← read_seq kind
  ack ← read_number w64
  done (record { kind = kind; from = from; to = to; set = set; seq = seq; ack = ack })

-- the fields of a message, with bytes behind them
unfoldable pub read_message : Reader Message
read_message = do
  header ← read_header
  content ← read_content header.kind
  done (record { from = header.from; to = header.to; set = header.set; seq = header.seq; ack = header.ack; content = content })

-- what was read, if no bytes are left
abbrev pub alone : {A : Type 0} → Read A → Result A WireFault
alone (Ok (found, [])) = Ok found
alone (Ok (found, b ∷ bytes)) = Err faults.Rest
alone (Err fault) = Err fault

-- the message that the bytes are, or the first field that cannot be read
unfoldable pub read_packet : List ℕ → Result Message WireFault
read_packet bytes = alone (read_message bytes)

-- a packet of the code is this reading, or the call gave up for want of memory; no clause says when
abbrev pub Decodes : Result Packet Undecoded → Result Message WireFault → Type 0
Decodes (Ok packet) read = read ≡ Ok (message_of packet)
Decodes (Err (undecoded.Fault fault)) read = read ≡ Err fault
Decodes (Err undecoded.NoMemory) read = Unit {0}
