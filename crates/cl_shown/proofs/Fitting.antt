-- What a session is answered, at once or by its controller, fits its turn.
use Rattle.std.proofs.Common.{◌≡◌, ◌≢◌, ℕ, ◌+◌, ◌<◌, ◌≤◌, nat_le, Bool, true, false, cond, List, length, Option, Some, None, Ok, Err, refl, sym, ◌∙◌, ap, subst, arith}
use Rattle.std.specs.Option.{unwrap_or}
use Rattle.std.proofs.lemmas.Bool.{leb-true}
use Rattle.cl_front.specs.declared.current.Current.{Current}
use Rattle.cl_front.specs.Session.{SessionState, next_current, with_command as with_outstanding}
use Rattle.cl_serial.specs.PlainMap.{operations}
use Rattle.cl_serial.specs.Serial.{FitsTurn, InTransaction, IsFull, IsOperation}
use Rattle.cl_serial.specs.Transactions.{Transaction, Session}
use Rattle.cl_told.specs.Told.{IsToldOutstanding, IsOutcomeOf}
use Rattle.cl_told.proofs.Turning.{IsFree}
use Rattle.cl_types.specs.declared.answers.AbortCause.{AbortCause}
use Rattle.cl_types.specs.declared.answers.AbortCause.TheVariants.{Conflict, Client, Memory}
use Rattle.cl_types.specs.declared.answers.Outcome.{Outcome}
use Rattle.cl_types.specs.declared.answers.Outcome.TheVariants.{Done, Begun, Committed, Aborted, NotTxn, InTxn, Full}
use Rattle.cl_types.specs.declared.answers.Reply.{Reply}
use Rattle.cl_types.specs.declared.limits.TheConstants.{OPERATIONS_MAX}
use Rattle.cl_types.specs.declared.operations.Command.{Command}
use Rattle.cl_types.specs.declared.operations.Command.TheVariants.{Begin, Work, Commit, Abort}
use Rattle.cl_types.specs.declared.operations.Op.{Op}

-- what a command may be answered, by the transaction that the session is in
pub data IsTurn : Option Transaction → Command → Outcome → Type 0 where
  begins : IsTurn None Begin Begun
  outside : (command : Command) → command ≢ Begin → IsTurn None command NotTxn
  inside : (transaction : Transaction) → IsTurn (Some transaction) Begin InTxn
  full : (transaction : Transaction) (table key : List ℕ) (op : Op) → length (operations transaction.commands) ≡ OPERATIONS_MAX →
      IsTurn (Some transaction) (Work table key op) Full
  done : (transaction : Transaction) (table key : List ℕ) (op : Op) (reply : Reply) → length (operations transaction.commands) < OPERATIONS_MAX →
      IsTurn (Some transaction) (Work table key op) (Done reply)
  fails : (transaction : Transaction) (table key : List ℕ) (op : Op) (cause : AbortCause) → length (operations transaction.commands) < OPERATIONS_MAX →
      IsTurn (Some transaction) (Work table key op) (Aborted cause)
  ends : (transaction : Transaction) → IsTurn (Some transaction) Commit Committed
  rolls_back : (transaction : Transaction) → IsTurn (Some transaction) Abort (Aborted Client)

-- ---- it fits

-- in a transaction that has room
not_full : (current : Option Transaction) (transaction : Transaction) → current ≡ Some transaction →
    length (operations transaction.commands) < OPERATIONS_MAX → (other : Transaction) → current ≡ Some other → IsFull other → ⊥
not_full current transaction is room other also has =
    let same : transaction ≡ other = ap (λ (o : Option Transaction). unwrap_or o transaction) (sym is ∙ also) in
    let most : length (operations transaction.commands) ≡ OPERATIONS_MAX = ap (λ (t : Transaction). length (operations t.commands)) same ∙ has in
    absurd (omega (arith, most, room))

module _ (ended : List Transaction) where
  -- the session that is outside a transaction
  abbrev out : Session
  out = record { ended = ended; current = None }

  -- and one that is in a transaction
  abbrev within : Transaction → Session
  within transaction = record { ended = ended; current = Some transaction }

  not_within : (P : Transaction → Type 0) → InTransaction out P → ⊥
  not_within P h = let e : None ≡ Some h.0 = h.1 in absurd cc

  not_out : (transaction : Transaction) → (within transaction).current ≡ None → ⊥
  not_out transaction h = let e : Some transaction ≡ None = h in absurd cc

  outside_fits : (command : Command) → command ≢ Begin → FitsTurn out command NotTxn
  outside_fits command other = record {
    not_txn = (λ h. (refl, other), λ h. refl);
    in_txn = (λ h. absurd cc, λ h. absurd (not_within (λ t. Unit {0}) h.0));
    full = (λ h. absurd cc, λ h. absurd (not_within IsFull h.0));
    begun = (λ h. absurd cc, λ h. absurd (other h.1));
    done = λ reply h. absurd cc;
    committed = λ h. absurd cc;
    aborted = λ cause h. absurd cc;
  }

  aborted_fits : (transaction : Transaction) (command : Command) (cause : AbortCause) → command ≢ Begin →
      (InTransaction (within transaction) IsFull → IsOperation command → ⊥) → FitsTurn (within transaction) command (Aborted cause)
  aborted_fits transaction command cause other roomy = record {
    not_txn = (λ h. absurd cc, λ h. absurd (not_out transaction h.0));
    in_txn = (λ h. absurd cc, λ h. absurd (other h.1));
    full = (λ h. absurd cc, λ h. absurd (roomy h.0 h.1));
    begun = (λ h. absurd cc, λ h. absurd (not_out transaction h.0));
    done = λ reply h. absurd cc;
    committed = λ h. absurd cc;
    aborted = λ given h. ((transaction, refl, tt), other);
  }

  roomy : (transaction : Transaction) → length (operations transaction.commands) < OPERATIONS_MAX → InTransaction (within transaction) IsFull → ⊥
  roomy transaction room h = not_full (Some transaction) transaction refl room h.0 h.1 h.2

  turn_fits : (current : Option Transaction) (command : Command) (outcome : Outcome) → IsTurn current command outcome →
      FitsTurn (record { ended = ended; current = current }) command outcome
  turn_fits current command outcome begins = record {
    not_txn = (λ h. absurd cc, λ h. absurd (h.1 refl));
    in_txn = (λ h. absurd cc, λ h. absurd (not_within (λ t. Unit {0}) h.0));
    full = (λ h. absurd cc, λ h. absurd (not_within IsFull h.0));
    begun = (λ h. (refl, refl), λ h. refl);
    done = λ reply h. absurd cc;
    committed = λ h. absurd cc;
    aborted = λ cause h. absurd cc;
  }
  turn_fits current command outcome (outside asked other) = outside_fits asked other
  turn_fits current command outcome (inside transaction) = record {
    not_txn = (λ h. absurd cc, λ h. absurd (not_out transaction h.0));
    in_txn = (λ h. ((transaction, refl, tt), refl), λ h. refl);
    full = (λ h. absurd cc, λ h. absurd h.1);
    begun = (λ h. absurd cc, λ h. absurd (not_out transaction h.0));
    done = λ reply h. absurd cc;
    committed = λ h. absurd cc;
    aborted = λ cause h. absurd cc;
  }
  turn_fits current command outcome (full transaction table key op is) = record {
    not_txn = (λ h. absurd cc, λ h. absurd (not_out transaction h.0));
    in_txn = (λ h. absurd cc, λ h. absurd (let e : Work table key op ≡ Begin = h.1 in cc));
    full = (λ h. ((transaction, refl, is), tt), λ h. refl);
    begun = (λ h. absurd cc, λ h. absurd (not_out transaction h.0));
    done = λ reply h. absurd cc;
    committed = λ h. absurd cc;
    aborted = λ cause h. absurd cc;
  }
  turn_fits current command outcome (done transaction table key op reply room) = record {
    not_txn = (λ h. absurd cc, λ h. absurd (not_out transaction h.0));
    in_txn = (λ h. absurd cc, λ h. absurd (let e : Work table key op ≡ Begin = h.1 in cc));
    full = (λ h. absurd cc, λ h. absurd (roomy transaction room h.0));
    begun = (λ h. absurd cc, λ h. absurd (not_out transaction h.0));
    done = λ given h. ((transaction, refl, tt), tt);
    committed = λ h. absurd cc;
    aborted = λ cause h. absurd cc;
  }
  turn_fits current command outcome (fails transaction table key op cause room) =
      aborted_fits transaction (Work table key op) cause (λ e. cc) (λ h operation. roomy transaction room h)
  turn_fits current command outcome (ends transaction) = record {
    not_txn = (λ h. absurd cc, λ h. absurd (not_out transaction h.0));
    in_txn = (λ h. absurd cc, λ h. absurd (let e : Commit ≡ Begin = h.1 in cc));
    full = (λ h. absurd cc, λ h. absurd h.1);
    begun = (λ h. absurd cc, λ h. absurd (not_out transaction h.0));
    done = λ reply h. absurd cc;
    committed = λ h. ((transaction, refl, tt), refl);
    aborted = λ cause h. absurd cc;
  }
  turn_fits current command outcome (rolls_back transaction) = aborted_fits transaction Abort Client (λ e. cc) (λ h operation. operation)

fits_from : (told : Session) (command : Command) (outcome : Outcome) → IsTurn told.current command outcome → FitsTurn told command outcome
fits_from told command outcome turn = turn_fits told.ended told.current command outcome turn

-- ---- what is answered at once

-- with as many operations as a transaction may have at most
abbrev pub HasAtMost : Option Current → Type 0
HasAtMost None = Unit {0}
HasAtMost (Some current) = current.operations ≤ OPERATIONS_MAX

at_once_outside : (command : Command) (outcome : Outcome) → next_current None command ≡ Err outcome → IsTurn None command outcome
at_once_outside Begin outcome is = absurd cc
at_once_outside (Work table key op) outcome is =
    let same : NotTxn ≡ outcome = cc in subst (IsTurn None (Work table key op)) same (outside (Work table key op) (λ e. cc))
at_once_outside Commit outcome is = let same : NotTxn ≡ outcome = cc in subst (IsTurn None Commit) same (outside Commit (λ e. cc))
at_once_outside Abort outcome is = let same : NotTxn ≡ outcome = cc in subst (IsTurn None Abort) same (outside Abort (λ e. cc))

module _ (transaction : Transaction) (current : Current) (count : length (operations transaction.commands) ≡ current.operations)
    (most : current.operations ≤ OPERATIONS_MAX) where
  at_once_full : (table key : List ℕ) (op : Op) (outcome : Outcome) (is_full : Bool) → nat_le OPERATIONS_MAX current.operations ≡ is_full →
      cond is_full (Err Full) (Ok (with_outstanding current (current.operations + 1))) ≡ Err outcome → IsTurn (Some transaction) (Work table key op) outcome
  at_once_full table key op outcome true has is =
      let same : Full ≡ outcome = cc in
      subst (IsTurn (Some transaction) (Work table key op)) same
      (full transaction table key op (omega (arith, count, most, leb-true OPERATIONS_MAX current.operations has)))
  at_once_full table key op outcome false has is = absurd cc

  at_once_inside : (command : Command) (outcome : Outcome) → next_current (Some current) command ≡ Err outcome → IsTurn (Some transaction) command outcome
  at_once_inside Begin outcome is = let same : InTxn ≡ outcome = cc in subst (IsTurn (Some transaction) Begin) same (inside transaction)
  at_once_inside (Work table key op) outcome is = at_once_full table key op outcome (nat_le OPERATIONS_MAX current.operations) refl is
  at_once_inside Commit outcome is = absurd cc
  at_once_inside Abort outcome is = absurd cc

-- a command that is answered at once
pub at_once_fits : (told : Session) (session : SessionState) (current : Option Current) (command : Command) (outcome : Outcome) →
    next_current current command ≡ Err outcome → IsFree told session current → HasAtMost current →
    FitsTurn told command outcome
at_once_fits told session None command outcome is free most =
    fits_from told command outcome (subst (λ c. IsTurn c command outcome) (sym free.current) (at_once_outside command outcome is))
at_once_fits told session (Some current) command outcome is free most =
    fits_from told command outcome
    (subst (λ c. IsTurn c command outcome) (sym free.1.current) (at_once_inside free.0 current free.1.count most command outcome is))

-- ---- what its controller answers

outcome_turn : (told : Session) (session : SessionState) (current : Current) (what : Command) (outcome : Outcome) → IsOutcomeOf what outcome →
    IsToldOutstanding told session current what → current.operations ≤ OPERATIONS_MAX →
    IsTurn told.current what outcome
outcome_turn told session current Begin Begun fits is most = subst (λ c. IsTurn c Begin Begun) (sym is.0.current) begins
outcome_turn told session current (Work table key op) (Done reply) fits is most =
    subst (λ c. IsTurn c (Work table key op) (Done reply)) (sym is.3.current) (done is.0 table key op reply (omega (arith, is.3.count, is.2, most)))
outcome_turn told session current (Work table key op) (Aborted (Conflict holder)) fits is most =
    subst (λ c. IsTurn c (Work table key op) (Aborted (Conflict holder))) (sym is.3.current)
    (fails is.0 table key op (Conflict holder) (omega (arith, is.3.count, is.2, most)))
outcome_turn told session current (Work table key op) (Aborted Memory) fits is most =
    subst (λ c. IsTurn c (Work table key op) (Aborted Memory)) (sym is.3.current) (fails is.0 table key op Memory (omega (arith, is.3.count, is.2, most)))
outcome_turn told session current Commit Committed fits is most = subst (λ c. IsTurn c Commit Committed) (sym is.1.current) (ends is.0)
outcome_turn told session current Abort (Aborted Client) fits is most = subst (λ c. IsTurn c Abort (Aborted Client)) (sym is.1.current) (rolls_back is.0)
outcome_turn told session current what outcome fits is most = absurd fits

-- an outcome that comes by message
pub outcome_fits : (told : Session) (session : SessionState) (current : Current) (what : Command) (outcome : Outcome) → IsOutcomeOf what outcome →
    IsToldOutstanding told session current what → current.operations ≤ OPERATIONS_MAX →
    FitsTurn told what outcome
outcome_fits told session current what outcome fits is most = fits_from told what outcome (outcome_turn told session current what outcome fits is most)
