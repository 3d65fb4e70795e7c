-- The laws of the front.
use Rattle.std.specs.Prelude.{ℕ, ◌+◌, ◌<◌, ◌≤◌, ◌^◌, Bool, List, Option, Some, None}
use Rattle.cl_actor.specs.Acting.{SendsToActors}
use Rattle.cl_actor.specs.Core.{Noted}
use Rattle.cl_actor.specs.Laws.{IsLawfullyNoted}
use Rattle.cl_front.specs.declared.current.Current.{Current}
use Rattle.cl_front.specs.Front.{FrontState, new_front, fed_front, delivered_front, LineFits, DeliveryFits}
use Rattle.cl_front.specs.Sessions.{session_in}
use Rattle.cl_lines.specs.declared.out.Out.{Out}
use Rattle.cl_types.specs.declared.answers.Outcome.{Outcome as CommandOutcome}
use Rattle.cl_types.specs.declared.operations.TxnId.{TxnId}
use Rattle.cl_wire.specs.Message.{Content, Outcome}

-- no command of the transaction has a number above this
abbrev pub IsNumberedUpTo : ℕ → Option Current → Type 0
IsNumberedUpTo most None = Unit {0}
IsNumberedUpTo most (Some current) = current.commands ≤ most

-- no command of a transaction that a session is in has a number above this
abbrev pub AreNumberedUpTo : ℕ → FrontState → Type 0
AreNumberedUpTo most state = (s : ℕ) → IsNumberedUpTo most (session_in state.sessions s).current

-- a step raises the numbers of commands by at most one, so after few steps each line and each outcome fits
pub record NumbersGrowByOne : Type 0 where
  pub at_first : AreNumberedUpTo 0 new_front
  pub after_line : (noted : Noted) (state : FrontState) (line : ℕ) (text : List ℕ) (said : List Out) (most : ℕ) →
      AreNumberedUpTo most state → AreNumberedUpTo (most + 1) (fed_front noted state line text said).state
  pub after_message : (noted : Noted) (state : FrontState) (from : ℕ) (content : Content) (mark : Bool) (most : ℕ) →
      AreNumberedUpTo most state → AreNumberedUpTo (most + 1) (delivered_front noted state from content mark).state
  pub line_fits : (noted : Noted) (state : FrontState) (line : ℕ) (text : List ℕ) (said : List Out) (most : ℕ) →
      AreNumberedUpTo most state → most + 1 < 2 ^ 32 → LineFits noted state line text said
  pub outcome_fits : (noted : Noted) (state : FrontState) (from : ℕ) (txn : TxnId) (number : ℕ) (outcome : CommandOutcome) (most : ℕ) →
      AreNumberedUpTo most state → most + 1 < 2 ^ 32 → DeliveryFits noted state from (Outcome txn number outcome)

-- a front sends to actors alone, whatever it is fed and hears
pub record FrontsSendToActors : Type 0 where
  pub on_line : (noted : Noted) (state : FrontState) (line : ℕ) (text : List ℕ) (said : List Out) →
      IsLawfullyNoted noted → SendsToActors (fed_front noted state line text said)
  pub on_message : (noted : Noted) (state : FrontState) (from : ℕ) (content : Content) (mark : Bool) →
      IsLawfullyNoted noted → SendsToActors (delivered_front noted state from content mark)
