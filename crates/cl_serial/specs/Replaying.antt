-- What the replay of commands on a map finds.
use Rattle.std.specs.Prelude.{◌≡◌, ℕ, List, Option, Some, None}
use Rattle.std.specs.List.{flat_map}
use Rattle.cl_types.specs.declared.operations.TxnId.{TxnId}
use Rattle.cl_types.specs.declared.answers.Reply.{Reply}
use Rattle.cl_types.specs.declared.answers.Outcome.{Outcome}
use Rattle.cl_types.specs.declared.answers.Outcome.TheVariants.{Done}
use Rattle.cl_serial.specs.Exchanges.{Exchange}
use Rattle.cl_serial.specs.PlainMap.{Values, operations, after_operations}
use Rattle.cl_serial.specs.Verdict.{Commands, WrittenAgree, FirstDifference}
use Rattle.cl_serial.specs.declared.replaying.Difference.{Difference}

-- a written answer, where there is one, is this reply
abbrev pub AnswerIs : Option (Outcome × ℕ) → Reply → Type 0
AnswerIs answer reply = (written : Outcome) (place : ℕ) → answer ≡ Some (written, place) → written ≡ Done reply

-- the difference is that of the answer and the reply
pub record AnswerDiffers (answer : Option (Outcome × ℕ)) (reply : Reply) (difference : Difference) : Type 0 where
  pub answered : answer ≡ Some (difference.written, difference.place)
  pub replays : difference.replayed ≡ Done reply
  pub differs : difference.written ≡ difference.replayed → ⊥

-- there is a difference exactly where the answer is not the reply
abbrev pub Tells : Option (Outcome × ℕ) → Reply → Option Difference → Type 0
Tells answer reply None = AnswerIs answer reply
Tells answer reply (Some difference) = AnswerDiffers answer reply difference

-- the commands agree, and take the map from one to the other
pub record Agrees (before : Values) (commands : List Exchange) (after : Values) : Type 0 where
  pub agree : WrittenAgree before (operations commands)
  pub values : after ≡ after_operations before (operations commands)

-- the replay of the commands on the map finds their first difference; where there is none, it leaves the map after them
abbrev pub Replays : Values → List Exchange → Values → Option Difference → Type 0
Replays before commands after None = Agrees before commands after
Replays before commands after (Some difference) = FirstDifference before commands difference.place difference.written difference.replayed

-- the commands of the members, in the order of the history
abbrev pub replayed_commands : Commands → List TxnId → List Exchange
replayed_commands commands history = flat_map commands history
