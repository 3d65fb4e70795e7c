-- The verdict on a history and a transcript: what each one says, and that there is one.
use Rattle.std.specs.Prelude.{◌≡◌, ℕ, ◌<◌, List, [], ◌∷◌, ◌++◌, ◌⊎◌, Some}
use Rattle.std.specs.List.{flat_map}
use Rattle.cl_types.specs.declared.operations.Command.TheVariants.{Commit}
use Rattle.cl_types.specs.declared.operations.TxnId.{TxnId}
use Rattle.cl_types.specs.declared.answers.Outcome.{Outcome}
use Rattle.cl_types.specs.declared.answers.Outcome.TheVariants.{Done}
use Rattle.cl_types.specs.Plain.{plain_reply}
use Rattle.cl_serial.specs.Transcript.{TranscriptEntry}
use Rattle.cl_serial.specs.Exchanges.{Exchange}
use Rattle.cl_serial.specs.Transactions.{commands_of}
use Rattle.cl_serial.specs.PlainMap.{Values, Operation, operation_in, operations, no_values, after_operation, after_operations}
use Rattle.cl_serial.specs.Serial.{StandsAt, IsIn}
use Rattle.cl_serial.specs.declared.verdict.Verdict.{Verdict}
use Rattle.cl_serial.specs.declared.verdict.Verdict.TheVariants.{Same, Unfit, First}

-- the commands of each transaction, by its name
abbrev pub Commands : Type 0
Commands = TxnId → List Exchange

-- one of the commands is COMMIT
abbrev pub HasCommit : List Exchange → Type 0
HasCommit commands = (exchange : Exchange) × IsIn commands exchange × (exchange.command ≡ Commit)

-- the member at this index stands in the history again, after it
abbrev pub StandsAgain : List TxnId → ℕ → TxnId → Type 0
StandsAgain history index name = (later : ℕ) × (index < later) × StandsAt history later name

-- the member at this index stands again, or has no COMMIT
abbrev pub IsUnfit : Commands → List TxnId → ℕ → TxnId → Type 0
IsUnfit commands history index name = StandsAgain history index name ⊎ (HasCommit (commands name) → ⊥)

-- the first member that stands twice or has no COMMIT
pub record FirstUnfit (commands : Commands) (history : List TxnId) (name : TxnId) : Type 0 where
  pub index : ℕ
  pub stands : StandsAt history index name
  pub unfit : IsUnfit commands history index name
  -- no member before it is unfit
  pub before : (i : ℕ) (other : TxnId) → i < index → StandsAt history i other → IsUnfit commands history i other → ⊥

-- no member stands twice, and each has COMMIT
pub record AreFit (commands : Commands) (history : List TxnId) : Type 0 where
  pub distinct : (i j : ℕ) (name : TxnId) → StandsAt history i name → StandsAt history j name → i ≡ j
  pub committing : (name : TxnId) → IsIn history name → HasCommit (commands name)

-- the outcome that the replay gives an operation on these values
abbrev pub replayed_outcome : Values → Operation → Outcome
replayed_outcome values operation = Done (plain_reply operation.op (values operation.place))

-- each outcome that was written of the operations, done in turn on the map, is the one that the replay gives
unfoldable pub WrittenAgree : Values → List Operation → Type 0
WrittenAgree values [] = Unit {0}
WrittenAgree values (operation ∷ rest) =
    ((written : Outcome) → operation.outcome ≡ Some written → written ≡ replayed_outcome values operation) × WrittenAgree (after_operation values operation) rest

-- the first operation among the commands, done in turn on the map, whose written outcome differs: where it was written, it, and the replay's
pub record FirstDifference (values : Values) (commands : List Exchange) (place : ℕ) (written replayed : Outcome) : Type 0 where
  pub before : List Exchange
  pub exchange : Exchange
  pub after : List Exchange
  pub split : commands ≡ before ++ exchange ∷ after
  -- all before it agree
  pub agree : WrittenAgree values (operations before)
  pub operation : Operation
  pub is_operation : operation_in exchange ≡ operation ∷ []
  pub answered : exchange.answer ≡ Some (written, place)
  pub replays : replayed ≡ replayed_outcome (after_operations values (operations before)) operation
  pub differs : written ≡ replayed → ⊥

-- the verdict on a history, where transactions have these commands
abbrev pub VerdictOn : Commands → List TxnId → Verdict → Type 0
VerdictOn commands history Same = AreFit commands history × WrittenAgree no_values (operations (flat_map commands history))
VerdictOn commands history (Unfit name) = FirstUnfit commands history name
VerdictOn commands history (First place written replayed) = AreFit commands history × FirstDifference no_values (flat_map commands history) place written replayed

-- the verdict on a history and a transcript
abbrev pub IsVerdict : List TranscriptEntry → List TxnId → Verdict → Type 0
IsVerdict transcript history verdict = VerdictOn (commands_of transcript) history verdict
