-- Which events of a firm run stand for want of memory of a transaction: those with their mark. The mark is free.
use Rattle.std.specs.Prelude.{◌≡◌, ℕ, ◌≤◌, true, List, [], ◌∷◌, ◌++◌, length}
use Rattle.cl_runs.specs.Queues.{deliver}
use Rattle.cl_runs.specs.World.{Shape}
use Rattle.cl_shown.specs.Laws.{transcript_of_firm}
use Rattle.cl_system.specs.Firm.{FirmEvent, happens, firm_world_after}
use Rattle.cl_types.specs.declared.operations.TxnId.{TxnId}
use Rattle.cl_wire.specs.Message.{Content}
use Rattle.cl_causes.specs.Causes.{IsAskOf}

-- before this position of the transcript an event with its mark set brought a message that asks for the transaction; the mark is free
pub record WasShort (shape : Shape) (events : List FirmEvent) (name : TxnId) (replied : ℕ) : Type 0 where
  pub front : List FirmEvent
  pub back : List FirmEvent
  pub from : ℕ
  pub to : ℕ
  pub content : Content
  pub rest : List Content
  -- an event of the run with the mark
  pub split : events ≡ front ++ happens (deliver from to true) ∷ back
  -- in which the message comes that asks
  pub head : (firm_world_after shape front).world.mail from to ≡ content ∷ rest
  pub asks : IsAskOf name content
  -- and after which nothing is written yet at this position
  pub before : length (transcript_of_firm shape (front ++ happens (deliver from to true) ∷ [])) ≤ replied
