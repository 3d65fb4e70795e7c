-- What a packet says, as pure data: its lists without their room.
use Rattle.std.specs.Prelude.{ℕ, Bool, List}
use Rattle.cl_types.specs.declared.operations.TxnId.{TxnId}
use Rattle.cl_types.specs.declared.operations.Op.{Op}
use Rattle.cl_types.specs.declared.operations.Command.{Command as ClientCommand}
use Rattle.cl_types.specs.declared.answers.Answer.{Answer as OpAnswer}
use Rattle.cl_types.specs.declared.answers.Outcome.{Outcome as CommandOutcome}
use Rattle.cl_types.specs.GrowingList.{items}
use Rattle.cl_log.specs.declared.records.LogRec.{LogRec}
use Rattle.cl_store.specs.declared.item.Item.{Item}
use Rattle.cl_wire.specs.declared.packet.Body.{Body}
use Rattle.cl_wire.specs.declared.packet.Body.TheVariants as bodies
use Rattle.cl_wire.specs.declared.packet.Packet.{Packet}
use Rattle.cl_wire.specs.declared.kind.Kind.{Kind}
use Rattle.cl_wire.specs.declared.kind.Kind.TheVariants as kinds

-- the body: the fields of each kind, in order
pub data Content : Type 0 where
  Bare : Content
  Command : (v : ℕ) → (txn : TxnId) → (command_number : ℕ) → (asked : ClientCommand) → Content
  Outcome : (txn : TxnId) → (command_number : ℕ) → (outcome : CommandOutcome) → Content
  Ask : (v : ℕ) → (txn : TxnId) → (command_number : ℕ) → (table key : List ℕ) → (op : Op) → Content
  Answer : (v : ℕ) → (txn : TxnId) → (command_number : ℕ) → (answer : OpAnswer) → Content
  Prepare : (v : ℕ) → (txn : TxnId) → Content
  Vote : (v : ℕ) → (txn : TxnId) → Content
  Finish : (v : ℕ) → (txn : TxnId) → (commit : Bool) → Content
  Inquire : (v : ℕ) → (txn : TxnId) → Content
  Decision : (v : ℕ) → (txn : TxnId) → (commit : Bool) → Content
  Log : (v : ℕ) → (number : ℕ) → (entry : LogRec) → Content
  LogAck : (v : ℕ) → (number : ℕ) → Content
  Repair : (v : ℕ) → (node : ℕ) → Content
  Records : (v : ℕ) → (index : ℕ) → (records : List Item) → Content
  Names : (v : ℕ) → (index : ℕ) → (last : Bool) → (low : ℕ) → (txns : List TxnId) → Content
  CopyAck : (v : ℕ) → (index : ℕ) → Content

-- what a packet says: sender, receiver, set number, message number, acknowledgement, content
pub record Message : Type 0 where
  pub from : ℕ
  pub to : ℕ
  pub set : ℕ
  pub seq : ℕ
  pub ack : ℕ
  pub content : Content

-- what a body says
abbrev pub content_of : Body → Content
content_of bodies.Bare = Bare
content_of (bodies.Command v txn command_number command) = Command v txn command_number command
content_of (bodies.Outcome txn command_number outcome) = Outcome txn command_number outcome
content_of (bodies.Ask v txn command_number table key op) = Ask v txn command_number table key op
content_of (bodies.Answer v txn command_number answer) = Answer v txn command_number answer
content_of (bodies.Prepare v txn) = Prepare v txn
content_of (bodies.Vote v txn) = Vote v txn
content_of (bodies.Finish v txn commit) = Finish v txn commit
content_of (bodies.Inquire v txn) = Inquire v txn
content_of (bodies.Decision v txn commit) = Decision v txn commit
content_of (bodies.Log v number entry) = Log v number entry
content_of (bodies.LogAck v number) = LogAck v number
content_of (bodies.Repair v node) = Repair v node
content_of (bodies.Records v index list) = Records v index (items list)
content_of (bodies.Names v index last low list) = Names v index last low (items list)
content_of (bodies.CopyAck v index) = CopyAck v index

-- what a packet says
abbrev pub message_of : Packet → Message
message_of packet = record {
  from = packet.from;
  to = packet.to;
  set = packet.set;
  seq = packet.seq;
  ack = packet.ack;
  content = content_of packet.body;
}

-- the kind of a content
abbrev pub kind_of : Content → Kind
kind_of Bare = kinds.Bare
kind_of (Command v txn command_number asked) = kinds.Command
kind_of (Outcome txn command_number outcome) = kinds.Outcome
kind_of (Ask v txn command_number table key op) = kinds.Ask
kind_of (Answer v txn command_number answer) = kinds.Answer
kind_of (Prepare v txn) = kinds.Prepare
kind_of (Vote v txn) = kinds.Vote
kind_of (Finish v txn commit) = kinds.Finish
kind_of (Inquire v txn) = kinds.Inquire
kind_of (Decision v txn commit) = kinds.Decision
kind_of (Log v number entry) = kinds.Log
kind_of (LogAck v number) = kinds.LogAck
kind_of (Repair v node) = kinds.Repair
kind_of (Records v index records) = kinds.Records
kind_of (Names v index last low txns) = kinds.Names
kind_of (CopyAck v index) = kinds.CopyAck
