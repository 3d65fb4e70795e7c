use Rattle.std.proofs.Common.{◌≡◌, ℕ, ◌<◌}
use Rattle.cl_types.specs.declared.operations.Command.TheVariants.{Commit}
use Rattle.cl_serial.specs.Exchanges.{Exchange}
use Rattle.cl_serial.specs.Serial.{StandsAt}
use Rattle.cl_serial.proofs.fitness.has_commit.Given as goal

-- none of the commands so far is COMMIT
abbrev pub invariant-loop-exchange : goal.invariant-loop-exchange
invariant-loop-exchange l = (k : ℕ) (exchange : Exchange) → k < l.exchange-index → StandsAt l.commands k exchange → exchange.command ≡ Commit → ⊥
