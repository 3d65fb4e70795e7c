-- How reading the input ends, piece by piece. No public clause cites this module.
use Rattle.std.specs.Prelude.{◌≡◌, ℕ, List, ◌++◌, Option, Result, Ok, Err}
use Rattle.clustra.specs.Input.{IsTooMuch, ReadsBytes}
use Rattle.clustra.specs.declared.input.InputFault.{InputFault}
use Rattle.clustra.specs.declared.input.InputFault.TheVariants.{Read, TooMuch, NoMemory}

-- how reading these bytes ended: with all of them, or with a fault
abbrev pub EndsReading : {V : Type 0} → (V → List ℕ) → Result V InputFault → List ℕ → Type 0
EndsReading view (Ok bytes) read = (view bytes ≡ read) × (IsTooMuch read → ⊥)
EndsReading view (Err Read) read = IsTooMuch read → ⊥
EndsReading view (Err TooMuch) read = IsTooMuch read
EndsReading view (Err NoMemory) read = IsTooMuch read → ⊥

-- some bytes were read, and reading ended so
pub record ReadsToEnd {V : Type 0} (view : V → List ℕ) (before after : Option (List ℕ)) (result : Result V InputFault) : Type 0 where
  pub read : List ℕ
  pub bytes : ReadsBytes before after read
  pub ends : EndsReading view result read

-- the piece was added, or there is too much with it, or the call gave up for want of memory
abbrev pub AddsPiece : List ℕ → List ℕ → List ℕ → Result (Unit {0}) InputFault → Type 0
AddsPiece old piece new (Ok done) = (new ≡ old ++ piece) × (IsTooMuch (old ++ piece) → ⊥)
AddsPiece old piece new (Err Read) = ⊥
AddsPiece old piece new (Err TooMuch) = IsTooMuch (old ++ piece)
AddsPiece old piece new (Err NoMemory) = IsTooMuch (old ++ piece) → ⊥
