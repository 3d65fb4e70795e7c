-- What the turns of a session send: one command at most.
use Rattle.std.proofs.Common.{◌≡◌, ℕ, true, false, List, [], ◌∷◌, ◌⊎◌, inl, inr, Option, Some, Result, Ok, Err, refl, sym, subst}
use Rattle.cl_actor.specs.Core.{Noted}
use Rattle.cl_front.specs.declared.current.Current.{Current}
use Rattle.cl_front.specs.Session.{SessionState, is_outstanding_in, Turned, joined, turned_by, next_current, begun_after, command_sent, taken}
use Rattle.cl_front.proofs.Turns.{taken-outstanding, taken-empty, taken-turn, next-outstanding}
use Rattle.cl_types.specs.declared.answers.Outcome.{Outcome}
use Rattle.cl_types.specs.declared.operations.Command.{Command}

-- nothing is sent, and the session is where it was
pub record SendsNone (begun : ℕ) (current : Option Current) (turns : Turned) : Type 0 where
  pub begun_is : turns.session.begun ≡ begun
  pub current_is : turns.session.current ≡ current
  pub sends : turns.sends ≡ []

-- one command is sent, and is outstanding
pub record SendsOne (noted : Noted) (s begun : ℕ) (current : Option Current) (turns : Turned) : Type 0 where
  pub command : Command
  pub next : Current
  pub may : next_current current command ≡ Ok next
  pub begun_is : turns.session.begun ≡ begun_after command begun
  pub current_is : turns.session.current ≡ Some next
  pub sends : turns.sends ≡ command_sent noted (record { session = s; number = begun_after command begun }) next.commands command ∷ []

-- one of both
abbrev pub SendsOneAtMost : Noted → ℕ → ℕ → Option Current → Turned → Type 0
SendsOneAtMost noted s begun current turns = SendsNone begun current turns ⊎ SendsOne noted s begun current turns

-- after a first turn that was answered at once
answered_first : (noted : Noted) (s begun : ℕ) (current : Option Current) (first rest : Turned) → first.sends ≡ [] →
    SendsOneAtMost noted s begun current rest → SendsOneAtMost noted s begun current (joined first rest)
answered_first noted s begun current first rest none (inl nothing) =
    inl (record { begun_is = nothing.begun_is; current_is = nothing.current_is; sends = rw none nothing.sends })
answered_first noted s begun current first rest none (inr one) =
    inr (record { command = one.command; next = one.next; may = one.may; begun_is = one.begun_is; current_is = one.current_is; sends = rw none one.sends })

-- the first turn, and those behind it
first_turn : (noted : Noted) (s : ℕ) (session : SessionState) (command : Command) (next : Result Current Outcome) → next_current session.current command ≡ next →
    SendsOneAtMost noted s session.begun session.current (taken noted s session) →
    SendsOneAtMost noted s session.begun session.current (joined (turned_by noted s session command next) (taken noted s (turned_by noted s session command next).session))
first_turn noted s session command (Ok next) is rest =
    let turn : Turned = turned_by noted s session command (Ok next) in
    subst (λ turns. SendsOneAtMost noted s session.begun session.current (joined turn turns))
    (sym (taken-outstanding noted s turn.session (next-outstanding session.current command next is)))
    (inr (record { command = command; next = next; may = is; begun_is = refl; current_is = refl; sends = refl }))
first_turn noted s session command (Err outcome) is rest =
    answered_first noted s session.begun session.current (turned_by noted s session command (Err outcome)) (taken noted s session) refl rest

-- the turns of a session that has no command outstanding
pub turns : (noted : Noted) (s : ℕ) (waiting : List Command) (begun : ℕ) (current : Option Current) → is_outstanding_in current ≡ false →
    SendsOneAtMost noted s begun current (taken noted s (record { waiting = waiting; begun = begun; current = current }))
turns noted s [] begun current free =
    subst (SendsOneAtMost noted s begun current) (sym (taken-empty noted s (record { waiting = []; begun = begun; current = current }) refl))
    (inl (record { begun_is = refl; current_is = refl; sends = refl }))
turns noted s (command ∷ rest) begun current free =
    let session : SessionState = record { waiting = rest; begun = begun; current = current } in
    subst (SendsOneAtMost noted s begun current) (sym (taken-turn noted s session command free))
    (first_turn noted s session command (next_current current command) refl (turns noted s rest begun current free))

-- those of one that has a command outstanding
pub no_turns : (noted : Noted) (s : ℕ) (session : SessionState) → is_outstanding_in session.current ≡ true → SendsNone session.begun session.current (taken noted s session)
no_turns noted s session busy =
    subst (SendsNone session.begun session.current) (sym (taken-outstanding noted s session busy)) (record { begun_is = refl; current_is = refl; sends = refl })
