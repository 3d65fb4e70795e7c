-- What a step of a core gives, as plain data.
use Rattle.std.specs.Prelude.{◌≡◌, ℕ, nat_eq, ◌≤◌, Bool, true, false, List, [], map, Option, None, Result, Ok, Err}
use Rattle.std.specs.List.{count_by}
use Rattle.cl_types.specs.declared.answers.Refused.{Refused}
use Rattle.cl_types.specs.declared.answers.Refused.TheVariants.{NoMemory, Spent}
use Rattle.cl_types.specs.declared.operations.TxnId.{TxnId}
use Rattle.cl_types.specs.GrowingList.{items}
use Rattle.cl_roster.specs.declared.entry.RosterEntry.{RosterEntry}
use Rattle.cl_steps.specs.declared.steps.Outgoing.{Outgoing}
use Rattle.cl_steps.specs.declared.steps.Steps.{Steps}
use Rattle.cl_wire.specs.Message.{Content}

-- the messages with their receivers, the transactions that became firm, the entry that is offered, and the mark
pub record Step : Type 0 where
  pub sends : List Outgoing
  pub firm : List TxnId
  pub entry : Option RosterEntry
  -- whether an operation was given up for want of memory; no clause says when
  pub short : Bool

-- a message with this content for this actor
abbrev pub sent : ℕ → Content → Outgoing
sent to content = record { to = to; payload = content }

-- nothing is given
abbrev pub nothing_done : Step
nothing_done = record { sends = []; firm = []; entry = None; short = false }

-- what a step gives, without the room of its lists
abbrev pub step_of : Steps → Step
step_of steps = record { sends = items steps.send; firm = items steps.firm; entry = steps.entry; short = steps.short }

-- to whom a step sends, in order
abbrev pub receivers : Step → List ℕ
receivers step = map (λ message. message.to) step.sends

-- each actor is among the first ones at most as often as among the others
abbrev pub AreFewer : List ℕ → List ℕ → Type 0
AreFewer few many = (to : ℕ) → count_by (nat_eq to) few ≤ count_by (nat_eq to) many

-- it is refused as spent only where the step is spent, and made only where it is not
abbrev pub IsSpentWhere : {A : Type 0} → Bool → Result A Refused → Type 0
IsSpentWhere is_spent (Ok given) = is_spent ≡ false
IsSpentWhere is_spent (Err Spent) = is_spent ≡ true
IsSpentWhere is_spent (Err NoMemory) = Unit {0}
