-- The turns of a session leave what was answered to its transactions.
use Rattle.std.proofs.Common.{◌≡◌, ℕ, false, inl, inr, List, [], ◌∷◌, ◌++◌, length, map, All, Option, Result, Ok, Err, refl, sym, subst, append_assoc}
use Rattle.std.proofs.lemmas.List.Elements.{All-nil, All-cons}
use Rattle.cl_actor.specs.Core.{Noted}
use Rattle.cl_exchange.proofs.Turns.{SendsOneAtMost}
use Rattle.cl_front.proofs.Turns.{taken-outstanding, taken-empty, taken-turn, next-outstanding}
use Rattle.cl_front.specs.declared.current.Current.{Current}
use Rattle.cl_front.specs.Session.{SessionState, is_outstanding_in, Turned, joined, turned_by, next_current, command_sent, begun_after, taken}
use Rattle.cl_lines.specs.declared.out.Out.TheVariants.{Answer}
use Rattle.cl_serial.specs.Transactions.{Session}
use Rattle.cl_serial.specs.Transcript.{TranscriptEntry, written}
use Rattle.cl_steps.specs.declared.steps.Outgoing.{Outgoing}
use Rattle.cl_told.proofs.Shown.{Shows, shows-answer}
use Rattle.cl_told.proofs.Turning.{IsFree, free_still, passed, nothing_more}
use Rattle.cl_types.specs.declared.answers.Outcome.{Outcome}
use Rattle.cl_types.specs.declared.operations.Command.{Command}
use Rattle.cl_wire.specs.Message.{Content}
use Rattle.cl_wire.specs.Message as message

-- a command of the session
abbrev pub IsCommandFrom : ℕ → Content → Type 0
IsCommandFrom s (message.Command v txn number what) = txn.session ≡ s
IsCommandFrom s content = ⊥

-- what turns send is such a command
pub commands_from : (noted : Noted) (s begun : ℕ) (current : Option Current) (turns : Turned) → SendsOneAtMost noted s begun current turns →
    All (λ send. IsCommandFrom s send.payload) turns.sends
commands_from noted s begun current turns (inl none) = subst (All (λ send. IsCommandFrom s send.payload)) (sym none.sends)
    (All-nil (λ (send : Outgoing). IsCommandFrom s send.payload))
commands_from noted s begun current turns (inr one) =
    subst (All (λ send. IsCommandFrom s send.payload)) (sym one.sends)
    (All-cons (λ (send : Outgoing). IsCommandFrom s send.payload)
    (command_sent noted (record { session = s; number = begun_after one.command begun }) one.next.commands one.command) [] refl
    (All-nil (λ (send : Outgoing). IsCommandFrom s send.payload)))

-- the turns leave the transactions of the session as they are
pub record KeptTurns (noted : Noted) (s : ℕ) (transcript : List TranscriptEntry) (told : Session) (turns : Turned) : Type 0 where
  pub left : List Command
  pub shows : Shows s (transcript ++ map written turns.outs) left told

module _ (noted : Noted) (s : ℕ) where
  kept_turn : (session : SessionState) (command : Command) (transcript : List TranscriptEntry) (told : Session) →
      Shows s transcript (command ∷ session.waiting) told → IsFree told session session.current →
      ((transcript : List TranscriptEntry) → Shows s transcript session.waiting told → KeptTurns noted s transcript told (taken noted s session)) →
      (next : Result Current Outcome) → next_current session.current command ≡ next →
      KeptTurns noted s transcript told (joined (turned_by noted s session command next) (taken noted s (turned_by noted s session command next).session))
  kept_turn session command transcript told shows is rest (Ok next) may =
      let turn : Turned = turned_by noted s session command (Ok next) in
      subst (λ turns. KeptTurns noted s transcript told (joined turn turns))
      (sym (taken-outstanding noted s turn.session (next-outstanding session.current command next may))) (record {
        left = command ∷ session.waiting;
        shows = nothing_more noted s transcript (command ∷ session.waiting) told shows;
      })
  kept_turn session command transcript told shows is rest (Err outcome) may =
      let answer = shows-answer s transcript command outcome session.waiting told shows in
      let after = rest (transcript ++ written (Answer s outcome) ∷ [])
      (subst (Shows s (transcript ++ written (Answer s outcome) ∷ []) session.waiting)
      (passed told session answer.line (length transcript) session.current command outcome may is) answer.shows) in
      record {
        left = after.left;
        shows = subst (λ list. Shows s list after.left told)
            (append_assoc transcript (written (Answer s outcome) ∷ []) (map written (taken noted s session).outs)) after.shows;
      }

  -- the turns of a session that has no command outstanding
  pub kept_turns : (waiting : List Command) (begun : ℕ) (current : Option Current) (transcript : List TranscriptEntry) (told : Session) →
      is_outstanding_in current ≡ false → Shows s transcript waiting told →
      IsFree told (record { waiting = waiting; begun = begun; current = current }) current →
      KeptTurns noted s transcript told (taken noted s (record { waiting = waiting; begun = begun; current = current }))
  kept_turns [] begun current transcript told free shows is =
      subst (KeptTurns noted s transcript told) (sym (taken-empty noted s (record { waiting = []; begun = begun; current = current }) refl))
      (record { left = []; shows = nothing_more noted s transcript [] told shows })
  kept_turns (command ∷ rest) begun current transcript told free shows is =
      let session : SessionState = record { waiting = rest; begun = begun; current = current } in
      let still : IsFree told session current = free_still told
      (record { waiting = command ∷ rest; begun = begun; current = current }) session refl current is in
      subst (KeptTurns noted s transcript told) (sym (taken-turn noted s session command free))
      (kept_turn session command transcript told shows still (λ more shown. kept_turns rest begun current more told free shown still)
      (next_current current command) refl)
