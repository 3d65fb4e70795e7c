-- Which virtual node a message is for.
use Rattle.std.specs.Prelude.{ℕ, ◌%◌, Option, Some, None}
use Rattle.cl_types.specs.declared.operations.TxnId.{TxnId}
use Rattle.cl_wire.specs.Message.{Content, Bare, Command, Outcome, Ask, Answer, Prepare, Vote, Finish, Inquire, Decision, Log, LogAck, Repair, Records, Names, CopyAck}

-- the home of a transaction, of so many virtual nodes: that of its session, whose primary is its controller
abbrev pub home_in : ℕ → TxnId → ℕ
home_in nodes txn = txn.session % nodes

-- the virtual node that a message is for: what a participant tells the controller is for the home of the transaction
abbrev pub addressed : ℕ → Content → Option ℕ
addressed nodes Bare = None
addressed nodes (Outcome txn number outcome) = None
addressed nodes (Answer v txn number answer) = Some (home_in nodes txn)
addressed nodes (Vote v txn) = Some (home_in nodes txn)
addressed nodes (Inquire v txn) = Some (home_in nodes txn)
addressed nodes (Command v txn number asked) = Some v
addressed nodes (Ask v txn number table key op) = Some v
addressed nodes (Prepare v txn) = Some v
addressed nodes (Finish v txn commit) = Some v
addressed nodes (Decision v txn commit) = Some v
addressed nodes (Log v number entry) = Some v
addressed nodes (LogAck v number) = Some v
addressed nodes (Repair v node) = Some v
addressed nodes (Records v index records) = Some v
addressed nodes (Names v index last low txns) = Some v
addressed nodes (CopyAck v index) = Some v
