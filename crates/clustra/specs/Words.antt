-- The words of the command line.
use Rattle.std.specs.Prelude.{◌≡◌, ℕ, ◌≤◌, ◌⊎◌, Bool, true, false, List, [], ◌∷◌, Option, Some, None, codes}
use Rattle.std.specs.Fmt.{decimal}
use Rattle.cl_schedule.specs.declared.setting.Setting.{Setting}
use Rattle.clustra.specs.declared.limits.TheConstants.{NODES, SPARES, TURNS_MAX}

-- a run of the program's cluster: each turn takes the first candidate
abbrev pub setting_with : ℕ → Bool → Setting
setting_with turns step = record { nodes = NODES; spares = SPARES; step = step; seed = 0; turns = turns }

-- the last word, where each line waits for a quiet moment
abbrev pub step_words : Bool → List (List ℕ)
step_words false = []
step_words true = codes "--step" ∷ []

-- the words are those of `serve`, and ask for this
pub record AreServe (words : List (List ℕ)) (setting : Setting) : Type 0 where
  pub step : Bool
  pub words_are : words ≡ codes "serve" ∷ step_words step
  pub setting_is : setting ≡ setting_with TURNS_MAX step

-- the words are those of `replay`, and ask for this
pub record AreReplay (words : List (List ℕ)) (setting : Setting) : Type 0 where
  pub turns : ℕ
  pub step : Bool
  pub some : 1 ≤ turns
  pub within : turns ≤ TURNS_MAX
  pub words_are : words ≡ codes "replay" ∷ codes "--turns" ∷ decimal turns ∷ step_words step
  pub setting_is : setting ≡ setting_with turns step

-- the words are those of one of the two, and ask for this
abbrev pub AreAsked : List (List ℕ) → Setting → Type 0
AreAsked words setting = AreServe words setting ⊎ AreReplay words setting

-- what words ask for, or that they are none of these
abbrev pub ReadsWords : (Setting → Type 0) → Option Setting → Type 0
ReadsWords Ask None = (setting : Setting) → Ask setting → ⊥
ReadsWords Ask (Some setting) = Ask setting
