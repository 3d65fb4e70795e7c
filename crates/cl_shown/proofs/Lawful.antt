-- One more command of a session, with its answer: its transactions stay lawful where the answer fits the turn.
use Rattle.std.proofs.Common.{◌≡◌, ℕ, suc, ◌<◌, ◌≤◌, List, [], ◌∷◌, ◌++◌, Option, Some, None, refl, sym, subst, arith}
use Rattle.std.specs.List.{AllByRecursion}
use Rattle.std.specs.Option.{option_to_list}
use Rattle.std.proofs.lemmas.List.{append-nil}
use Rattle.cl_serial.specs.Exchanges.{Exchange, answered}
use Rattle.cl_serial.specs.Serial.{FitsTurn}
use Rattle.cl_serial.specs.Transactions.{Transaction, Session, session_step, with_command}
use Rattle.cl_shown.specs.Sessions.{IsDone, IsEnding, commits, aborts, HasEnded, IsGoingOn, AreLawful}
use Rattle.cl_shown.proofs.Orders.{AreOrderedBelow, ordered_up, begun_at, ordered_begun, ordered_more}
use Rattle.cl_types.specs.declared.answers.Outcome.{Outcome}
use Rattle.cl_types.specs.declared.answers.Outcome.TheVariants.{Done, Begun, Committed, Aborted, NotTxn, InTxn, Full}
use Rattle.cl_types.specs.declared.operations.Command.{Command}
use Rattle.cl_types.specs.declared.operations.Command.TheVariants.{Begin, Work, Commit, Abort}

-- the transactions are lawful, and all began below this position
pub record AreLawfulBelow (session : Session) (size floor : ℕ) : Type 0 where
  pub have_ended : AllByRecursion HasEnded session.ended
  pub going_on : IsGoingOn session.current
  pub ordered : AreOrderedBelow (session.ended ++ option_to_list session.current) size floor

pub lawful_from : (session : Session) (size floor : ℕ) → AreLawfulBelow session size floor → AreLawful session size
lawful_from session size floor h = record { have_ended = h.have_ended; going_on = h.going_on; in_order = h.ordered.order }

all_push : {X : Type 0} (P : X → Type 0) (xs : List X) (y : X) → AllByRecursion P xs → P y → AllByRecursion P (xs ++ y ∷ [])
all_push P [] y h k = (k, tt)
all_push P (x ∷ xs) y h k = (h.0, all_push P xs y h.1 k)

module _ (ended : List Transaction) (command : Command) (line : ℕ) (outcome : Outcome) (position size floor : ℕ) (above : floor ≤ line)
    (follows : line < position) (within : position < size) where
  abbrev one : Exchange
  one = answered (command, line) (outcome, position)

  lawful_still : (current : Option Transaction) → AreLawfulBelow (record { ended = ended; current = current }) size floor →
      AreLawfulBelow (record { ended = ended; current = current }) size (suc line)
  lawful_still current h =
      record { have_ended = h.have_ended; going_on = h.going_on; ordered = ordered_up (ended ++ option_to_list current) size floor (suc line) (omega (arith, above)) h.ordered }

  lawful_begun : AreLawfulBelow (record { ended = ended; current = None }) size floor →
      AreLawfulBelow (record { ended = ended; current = Some (begun_at line) }) size (suc line)
  lawful_begun h = record {
    have_ended = h.have_ended;
    going_on = tt;
    ordered = subst (λ all. AreOrderedBelow (all ++ begun_at line ∷ []) size (suc line)) (append-nil ended)
        (ordered_begun (ended ++ []) line size floor above (omega (arith, follows, within)) h.ordered);
  }

  module _ (transaction : Transaction) (h : AreLawfulBelow (record { ended = ended; current = Some transaction }) size floor) where
    lawful_done : IsDone one → AreLawfulBelow (record { ended = ended; current = Some (with_command transaction one) }) size (suc line)
    lawful_done done = record {
      have_ended = h.have_ended;
      going_on = all_push IsDone transaction.commands one h.going_on done;
      ordered = ordered_more ended transaction command line outcome position size floor above follows within h.ordered;
    }

    lawful_ended : IsEnding one → AreLawfulBelow (record { ended = ended ++ with_command transaction one ∷ []; current = None }) size (suc line)
    lawful_ended ending = record {
      have_ended = all_push HasEnded ended (with_command transaction one) h.have_ended
          (record { front = transaction.commands; last = one; commands_are = refl; done = h.going_on; ends = ending });
      going_on = tt;
      ordered = subst (λ all. AreOrderedBelow all size (suc line)) (sym (append-nil (ended ++ with_command transaction one ∷ [])))
          (ordered_more ended transaction command line outcome position size floor above follows within h.ordered);
    }

-- inside a transaction, by the outcome
lawful_inside : (ended : List Transaction) (transaction : Transaction) (command : Command) (line : ℕ) (outcome : Outcome) (position size floor : ℕ) →
    floor ≤ line → line < position → position < size →
    FitsTurn (record { ended = ended; current = Some transaction }) command outcome →
    AreLawfulBelow (record { ended = ended; current = Some transaction }) size floor →
    AreLawfulBelow (session_step (record { ended = ended; current = Some transaction }) (answered (command, line) (outcome, position))) size (suc line)
unfolding session_step
lawful_inside ended transaction command line (Done reply) position size floor above follows within fits h =
    lawful_done ended command line (Done reply) position size floor above follows within transaction h refl
lawful_inside ended transaction command line Begun position size floor above follows within fits h =
    absurd (let none : Some transaction ≡ None = (fits.begun.0 refl).0 in cc)
lawful_inside ended transaction command line Committed position size floor above follows within fits h =
    lawful_ended ended command line Committed position size floor above follows within transaction h (commits (fits.committed refl).1 refl)
lawful_inside ended transaction command line (Aborted cause) position size floor above follows within fits h =
    lawful_ended ended command line (Aborted cause) position size floor above follows within transaction h (aborts cause refl)
lawful_inside ended transaction command line NotTxn position size floor above follows within fits h =
    absurd (let none : Some transaction ≡ None = (fits.not_txn.0 refl).0 in cc)
lawful_inside ended transaction command line InTxn position size floor above follows within fits h =
    lawful_still ended command line InTxn position size floor above follows within (Some transaction) h
lawful_inside ended transaction command line Full position size floor above follows within fits h =
    lawful_still ended command line Full position size floor above follows within (Some transaction) h

lawful_by : (ended : List Transaction) (current : Option Transaction) (command : Command) (line : ℕ) (outcome : Outcome) (position size floor : ℕ) →
    floor ≤ line → line < position → position < size →
    FitsTurn (record { ended = ended; current = current }) command outcome → AreLawfulBelow (record { ended = ended; current = current }) size floor →
    AreLawfulBelow (session_step (record { ended = ended; current = current }) (answered (command, line) (outcome, position))) size (suc line)
unfolding session_step
lawful_by ended None Begin line outcome position size floor above follows within fits h =
    lawful_begun ended Begin line outcome position size floor above follows within h
lawful_by ended None (Work table key op) line outcome position size floor above follows within fits h =
    lawful_still ended (Work table key op) line outcome position size floor above follows within None h
lawful_by ended None Commit line outcome position size floor above follows within fits h =
    lawful_still ended Commit line outcome position size floor above follows within None h
lawful_by ended None Abort line outcome position size floor above follows within fits h =
    lawful_still ended Abort line outcome position size floor above follows within None h
lawful_by ended (Some transaction) command line outcome position size floor above follows within fits h =
    lawful_inside ended transaction command line outcome position size floor above follows within fits h

-- one more command with its answer
pub lawful_step : (session : Session) (asked : Command × ℕ) (answer : Outcome × ℕ) (size floor : ℕ) → floor ≤ asked.1 → asked.1 < answer.1 → answer.1 < size →
    FitsTurn session asked.0 answer.0 →
    AreLawfulBelow session size floor → AreLawfulBelow (session_step session (answered asked answer)) size (suc asked.1)
lawful_step session asked answer size floor above follows within fits h =
    lawful_by session.ended session.current asked.0 asked.1 answer.0 answer.1 size floor above follows within fits h
