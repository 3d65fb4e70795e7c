-- Who gives what to whom in a run of pairs.
use Rattle.std.specs.Prelude.{◌≡◌, ℕ, ◌<◌}
use Rattle.cl_node.specs.Members.{standby_node}
use Rattle.cl_system.specs.Roles.{IsAddressed}
use Rattle.cl_wire.specs.Message.{Content, Log, LogAck}

-- a log record goes from a primary to its standby
pub record IsToStandby (nodes from to v : ℕ) : Type 0 where
  pub node : v < nodes
  pub giver : from ≡ v
  pub receiver : to ≡ standby_node nodes v

-- an acknowledgement goes back
pub record IsFromStandby (nodes from to v : ℕ) : Type 0 where
  pub node : v < nodes
  pub giver : from ≡ standby_node nodes v
  pub receiver : to ≡ v

-- a message goes between the actors that its kind names
abbrev pub IsPairAddressed : ℕ → ℕ → ℕ → Content → Type 0
IsPairAddressed nodes from to (Log v number entry) = IsToStandby nodes from to v
IsPairAddressed nodes from to (LogAck v number) = IsFromStandby nodes from to v
IsPairAddressed nodes from to content = IsAddressed nodes from to content
