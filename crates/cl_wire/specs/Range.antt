-- Which messages have a spelling: each field is in its range.
use Rattle.std.specs.Prelude.{◌≡◌, ℕ, ◌^◌, ◌<◌}
use Rattle.cl_fields.specs.Range.{IsActor, IsNode, IsVirtualNode, IsCommandNumber, IsIndex, IsNumber, IsTxn, IsTable, IsKey, IsOp, IsCommand, IsOutcome, IsAnswer, IsEntry, IsItem, AreFew}
use Rattle.cl_wire.specs.declared.kind.Kind.{Kind}
use Rattle.cl_wire.specs.declared.kind.Kind.TheVariants as kinds
use Rattle.cl_wire.specs.Message.{Content, Message, kind_of, Bare, Command, Outcome, Ask, Answer, Prepare, Vote, Finish, Inquire, Decision, Log, LogAck, Repair, Records, Names, CopyAck}

-- each field of the content is in its range
abbrev pub IsContent : Content → Type 0
IsContent Bare = Unit {0}
IsContent (Command v txn command_number asked) = IsVirtualNode v × IsTxn txn × IsCommandNumber command_number × IsCommand asked
IsContent (Outcome txn command_number outcome) = IsTxn txn × IsCommandNumber command_number × IsOutcome outcome
IsContent (Ask v txn command_number table key op) = IsVirtualNode v × IsTxn txn × IsCommandNumber command_number × IsTable table × IsKey key × IsOp op
IsContent (Answer v txn command_number answer) = IsVirtualNode v × IsTxn txn × IsCommandNumber command_number × IsAnswer answer
IsContent (Prepare v txn) = IsVirtualNode v × IsTxn txn
IsContent (Vote v txn) = IsVirtualNode v × IsTxn txn
IsContent (Finish v txn commit) = IsVirtualNode v × IsTxn txn
IsContent (Inquire v txn) = IsVirtualNode v × IsTxn txn
IsContent (Decision v txn commit) = IsVirtualNode v × IsTxn txn
IsContent (Log v number entry) = IsVirtualNode v × IsNumber number × IsEntry entry
IsContent (LogAck v number) = IsVirtualNode v × IsNumber number
IsContent (Repair v node) = IsVirtualNode v × IsNode node
IsContent (Records v index records) = IsVirtualNode v × IsIndex index × AreFew IsItem records
IsContent (Names v index last low txns) = IsVirtualNode v × IsIndex index × (low < 2 ^ 64) × AreFew IsTxn txns
IsContent (CopyAck v index) = IsVirtualNode v × IsIndex index

-- a message is numbered from 1, and a bare acknowledgement has the number 0
abbrev pub IsSeq : Kind → ℕ → Type 0
IsSeq kinds.Bare seq = seq ≡ 0
IsSeq kind seq = IsNumber seq

-- each field of the message is in its range
pub record IsInRange (m : Message) : Type 0 where
  pub from : IsActor m.from
  pub to : IsActor m.to
  pub set : m.set < 2 ^ 32
  pub seq : IsSeq (kind_of m.content) m.seq
  pub ack : m.ack < 2 ^ 64
  pub content : IsContent m.content
