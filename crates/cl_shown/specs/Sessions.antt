-- The transactions of a session, as far as they were answered.
use Rattle.std.specs.Prelude.{◌≡◌, ℕ, ◌<◌, ◌≤◌, true, List, [], ◌∷◌, ◌++◌, Option, Some, None}
use Rattle.std.specs.List.{AllByRecursion}
use Rattle.std.specs.Option.{option_to_list}
use Rattle.cl_serial.specs.Exchanges.{Exchange, outcome_of}
use Rattle.cl_serial.specs.Serial.{StandsAt, IsIn}
use Rattle.cl_serial.specs.Transactions.{Session, Transaction}
use Rattle.cl_shown.specs.Done.{is_done_outcome}
use Rattle.cl_types.specs.declared.answers.AbortCause.{AbortCause}
use Rattle.cl_types.specs.declared.answers.Outcome.{Outcome}
use Rattle.cl_types.specs.declared.answers.Outcome.TheVariants.{Committed, Aborted}
use Rattle.cl_types.specs.declared.operations.Command.TheVariants.{Commit}

-- the command was done
abbrev pub IsDone : Exchange → Type 0
IsDone exchange = is_done_outcome (outcome_of exchange) ≡ true

-- the last command of a transaction ended it: it is COMMIT and was answered COMMITTED, or it was answered ABORTED
pub data IsEnding (exchange : Exchange) : Type 0 where
  commits : exchange.command ≡ Commit → outcome_of exchange ≡ Some Committed → IsEnding exchange
  aborts : (cause : AbortCause) → outcome_of exchange ≡ Some (Aborted cause) → IsEnding exchange

-- the transaction has ended: all its commands but the last were done
pub record HasEnded (transaction : Transaction) : Type 0 where
  pub front : List Exchange
  pub last : Exchange
  pub commands_are : transaction.commands ≡ front ++ last ∷ []
  pub done : AllByRecursion IsDone front
  pub ends : IsEnding last

-- of the transaction that the session is in, all commands were done
abbrev pub IsGoingOn : Option Transaction → Type 0
IsGoingOn None = Unit {0}
IsGoingOn (Some transaction) = AllByRecursion IsDone transaction.commands

-- the lines and the answers of the transactions are in order, and stand below this position
pub record AreInOrder (all : List Transaction) (size : ℕ) : Type 0 where
  pub rising : (i j : ℕ) (x y : Transaction) → StandsAt all i x → StandsAt all j y → i ≤ j → x.begin ≤ y.begin
  pub within : (i : ℕ) (x : Transaction) → StandsAt all i x → x.begin < size
  pub asked_after : (i : ℕ) (x : Transaction) (exchange : Exchange) → StandsAt all i x → IsIn x.commands exchange → x.begin < exchange.line
  pub answered_after : (i : ℕ) (x : Transaction) (exchange : Exchange) (outcome : Outcome) (position : ℕ) → StandsAt all i x →
      IsIn x.commands exchange → exchange.answer ≡ Some (outcome, position) → exchange.line < position
  pub answered_within : (i : ℕ) (x : Transaction) (exchange : Exchange) (outcome : Outcome) (position : ℕ) → StandsAt all i x →
      IsIn x.commands exchange → exchange.answer ≡ Some (outcome, position) → position < size

-- the transactions of a session are lawful, in a transcript of this size
pub record AreLawful (session : Session) (size : ℕ) : Type 0 where
  pub have_ended : AllByRecursion HasEnded session.ended
  pub going_on : IsGoingOn session.current
  pub in_order : AreInOrder (session.ended ++ option_to_list session.current) size
