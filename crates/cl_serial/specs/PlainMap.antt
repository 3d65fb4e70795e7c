-- The plain map, and operations on it one after another.
use Rattle.std.specs.Prelude.{◌≡◌, ℕ, List, [], ◌∷◌, fold, if◌then◌else◌, Option, Some, None}
use Rattle.std.specs.List.{flat_map}
use Rattle.cl_types.specs.declared.operations.Command.{Command}
use Rattle.cl_types.specs.declared.operations.Command.TheVariants.{Begin, Work, Commit, Abort}
use Rattle.cl_types.specs.declared.operations.Op.{Op}
use Rattle.cl_types.specs.declared.answers.Outcome.{Outcome}
use Rattle.cl_types.specs.declared.answers.Outcome.TheVariants.{Done}
use Rattle.cl_types.specs.Places.{Place, same_place}
use Rattle.cl_types.specs.Plain.{plain_reply, plain_value}
use Rattle.cl_serial.specs.Exchanges.{Exchange, outcome_of}

-- a map from places to values
abbrev pub Values : Type 0
Values = Place → Option (List ℕ)

-- the map without a value
abbrev pub no_values : Values
no_values place = None

-- the map with this at the place, and all else as before
abbrev pub updated : Values → Place → Option (List ℕ) → Values
updated values place value other = if same_place place other then value else values other

-- an operation of a transaction: the record's place, what is done, and its outcome in the transcript, if it has one
pub record Operation : Type 0 where
  pub place : Place
  pub op : Op
  pub outcome : Option Outcome

-- the operation that a command is, where it is one
abbrev pub operation_by : Command → Option Outcome → List Operation
operation_by Begin outcome = []
operation_by (Work table key op) outcome = record { place = (table, key); op = op; outcome = outcome } ∷ []
operation_by Commit outcome = []
operation_by Abort outcome = []

-- the operation that an exchange is, where it is one
abbrev pub operation_in : Exchange → List Operation
operation_in exchange = operation_by exchange.command (outcome_of exchange)

-- the operations among commands, in order
abbrev pub operations : List Exchange → List Operation
operations commands = flat_map operation_in commands

-- the map after an operation
abbrev pub after_operation : Values → Operation → Values
after_operation values operation = updated values operation.place (plain_value operation.op (values operation.place))

-- the map after operations, one after another
abbrev pub after_operations : Values → List Operation → Values
after_operations values list = fold after_operation values list

-- each operation, done in turn on the map, replies what the transcript says
unfoldable pub RepliesAgree : Values → List Operation → Type 0
RepliesAgree values [] = Unit {0}
RepliesAgree values (operation ∷ rest) =
    (operation.outcome ≡ Some (Done (plain_reply operation.op (values operation.place)))) × RepliesAgree (after_operation values operation) rest
