-- The one spelling of each message: which bytes stand for it.
use Rattle.std.specs.Prelude.{ℕ, List, [], ◌++◌}
use Rattle.cl_fields.specs.Spelling.{byte, number_32, number_64, flag_byte, txn_bytes, op_bytes, command_bytes, outcome_bytes, answer_bytes, entry_bytes, item_bytes, list_bytes}
use Rattle.cl_wire.specs.declared.kind.Kind.{Kind}
use Rattle.cl_wire.specs.declared.kind.Kind.TheVariants as kinds
use Rattle.cl_wire.specs.Message.{Content, Message, kind_of, Bare, Command, Outcome, Ask, Answer, Prepare, Vote, Finish, Inquire, Decision, Log, LogAck, Repair, Records, Names, CopyAck}

-- the byte of a kind of packet
abbrev pub kind_byte : Kind → ℕ
kind_byte kinds.Bare = 0
kind_byte kinds.Command = 1
kind_byte kinds.Outcome = 2
kind_byte kinds.Ask = 3
kind_byte kinds.Answer = 4
kind_byte kinds.Prepare = 5
kind_byte kinds.Vote = 6
kind_byte kinds.Finish = 7
kind_byte kinds.Inquire = 8
kind_byte kinds.Decision = 9
kind_byte kinds.Log = 10
kind_byte kinds.LogAck = 11
kind_byte kinds.Repair = 12
kind_byte kinds.Records = 13
kind_byte kinds.Names = 14
kind_byte kinds.CopyAck = 15

-- the fields after the header
unfoldable pub content_bytes : Content → List ℕ
content_bytes Bare = []
content_bytes (Command v txn command_number asked) = byte v ++ txn_bytes txn ++ number_32 command_number ++ command_bytes asked
content_bytes (Outcome txn command_number outcome) = txn_bytes txn ++ number_32 command_number ++ outcome_bytes outcome
content_bytes (Ask v txn command_number table key op) = byte v ++ txn_bytes txn ++ number_32 command_number ++ op_bytes table key op
content_bytes (Answer v txn command_number answer) = byte v ++ txn_bytes txn ++ number_32 command_number ++ answer_bytes answer
content_bytes (Prepare v txn) = byte v ++ txn_bytes txn
content_bytes (Vote v txn) = byte v ++ txn_bytes txn
content_bytes (Finish v txn commit) = byte v ++ txn_bytes txn ++ byte (flag_byte commit)
content_bytes (Inquire v txn) = byte v ++ txn_bytes txn
content_bytes (Decision v txn commit) = byte v ++ txn_bytes txn ++ byte (flag_byte commit)
content_bytes (Log v number entry) = byte v ++ number_64 number ++ entry_bytes entry
content_bytes (LogAck v number) = byte v ++ number_64 number
content_bytes (Repair v node) = byte v ++ byte node
content_bytes (Records v index records) = byte v ++ number_32 index ++ list_bytes item_bytes records
content_bytes (Names v index last low txns) = byte v ++ number_32 index ++ byte (flag_byte last) ++ number_64 low ++ list_bytes txn_bytes txns
content_bytes (CopyAck v index) = byte v ++ number_32 index

-- the version of the format
abbrev pub version : ℕ
version = 1

-- a header of 24 bytes
unfoldable pub header_bytes : Message → List ℕ
header_bytes m = byte version ++ byte (kind_byte (kind_of m.content)) ++ byte m.from ++ byte m.to ++ number_32 m.set ++ number_64 m.seq ++ number_64 m.ack

-- the header, and the fields of the kind
unfoldable pub spelling : Message → List ℕ
spelling m = header_bytes m ++ content_bytes m.content
