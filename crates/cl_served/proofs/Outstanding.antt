-- A session with its first command that has no answer, and what its transactions have then.
use Rattle.std.proofs.Common.{◌≡◌, ◌≢◌, ℕ, ◌≤◌, Bool, true, false, cond, inl, inr, ◌⊎◌, List, [], ◌∷◌, ◌++◌, length, map, filter, take, drop, Option, Some, None, refl, sym, ap, ◌∙◌, subst}
use Rattle.std.specs.List.{fold}
use Rattle.std.specs.Option.{unwrap_or}
use Rattle.std.proofs.lemmas.Bool.{cases_eq}
use Rattle.std.proofs.lemmas.List.{append-nil}
use Rattle.cl_serial.proofs.Places.{IsIn-push, IsIn-append_left}
use Rattle.cl_serial.specs.Exchanges.{Exchange, unanswered}
use Rattle.cl_serial.specs.PlainMap.{Operation, operations}
use Rattle.cl_serial.specs.Serial.{IsIn}
use Rattle.cl_serial.specs.Transactions.{Session, Transaction, session_state, session_step, commands_in, is_begin}
use Rattle.cl_serial.specs.Transcript.{TranscriptEntry, questions, answers}
use Rattle.cl_shown.specs.Laws.{SessionHasOutstanding}
use Rattle.cl_shown.specs.Done.{is_done_outcome}
use Rattle.cl_told.proofs.Turning.{same_session}
use Rattle.cl_told.specs.Told.{told_session, pending}
use Rattle.cl_types.specs.declared.answers.Outcome.{Outcome}
use Rattle.cl_types.specs.declared.operations.Command.{Command}
use Rattle.cl_types.specs.declared.operations.Command.TheVariants.{Begin, Work, Commit, Abort}
use Rattle.cl_served.proofs.Hearing.{done_added}
use Rattle.cl_served.proofs.Serving.{told_done}
use Rattle.cl_served.proofs.Sessions.{told_transaction, told_commands, next_number, IsStep, goes_on, begins}

-- nothing more, or one command without an answer
abbrev pub IsUnanswered : List Exchange → Type 0
IsUnanswered added = (added ≡ []) ⊎ ((question : Command × ℕ) × (added ≡ unanswered question ∷ []))

-- the session now has one command without an answer more, at most
pub record GoesOn (told now : Session) : Type 0 where
  pub added : List Exchange
  pub step : IsStep told now added
  pub is_unanswered : IsUnanswered added

-- ---- one command more

step_same : (told : Session) → IsStep told told []
step_same told = record {
  here = sym (append-nil
      (told_commands told (next_number told)));
  there = λ number apart. refl;
  begins_as = λ transaction is. (transaction, is, refl);
}

module _ (question : Command × ℕ) where
  abbrev Goes : Session → Type 0
  Goes told = GoesOn told (session_step told (unanswered question))

  outside_goes : (begin : Bool) (ended : List Transaction) → is_begin question.0 ≡ begin → Goes (record { ended = ended; current = None })
  unfolding session_step
  outside_goes true ended is =
      subst (GoesOn (record { ended = ended; current = None }))
      (ap (λ b. cond b (record { ended = ended; current = Some (record { begin = question.1; commands = [] }) }) (record { ended = ended; current = None }))
      (sym is))
      (record { added = []; step = begins ended question.1; is_unanswered = inl refl })
  outside_goes false ended is =
      subst (GoesOn (record { ended = ended; current = None }))
      (ap (λ b. cond b (record { ended = ended; current = Some (record { begin = question.1; commands = [] }) }) (record { ended = ended; current = None }))
      (sym is))
      (record { added = []; step = step_same (record { ended = ended; current = None }); is_unanswered = inl refl })

  pub inside_step : (told : Session) (transaction : Transaction) → told.current ≡ Some transaction →
      IsStep told (session_step told (unanswered question)) (unanswered question ∷ [])
  unfolding session_step
  inside_step told transaction is =
      subst (λ (t : Session). IsStep t (session_step t (unanswered question)) (unanswered question ∷ [])) (same_session told (Some transaction) is)
      (goes_on told.ended transaction (unanswered question))

  goes_by : (told : Session) (current : Option Transaction) → told.current ≡ current → Goes told
  goes_by told None is = subst Goes (same_session told None is) (outside_goes (is_begin question.0) told.ended refl)
  goes_by told (Some transaction) is = record { added = unanswered question ∷ []; step = inside_step told transaction is; is_unanswered = inr (question, refl) }

-- ---- the session of a transcript

module _ (law : SessionHasOutstanding) (s : ℕ) (transcript : List TranscriptEntry) (few : length (answers s transcript) ≤ length (questions s transcript)) where
  abbrev told : Session
  told = told_session s transcript

  state_by : (rest : List (Command × ℕ)) → drop (length (answers s transcript)) (questions s transcript) ≡ rest →
      GoesOn told (fold session_step told (map unanswered (take 1 rest)))
  state_by [] is = record { added = []; step = step_same told; is_unanswered = inl refl }
  state_by (question ∷ rest) is = goes_by question told told.current refl

  pub state_goes_on : GoesOn told (session_state s transcript)
  state_goes_on = subst (GoesOn told) (sym (law s transcript few)) (state_by (drop (length (answers s transcript)) (questions s transcript)) refl)

  -- inside a transaction it has the first of the commands without an answer
  inside_by : (asked : List (Command × ℕ)) (transaction : Transaction) (what : Command) (rest : List Command) → told.current ≡ Some transaction →
      map (λ (question : Command × ℕ). question.0) asked ≡ what ∷ rest →
      (line : ℕ) × IsStep told (fold session_step told (map unanswered (take 1 asked))) (unanswered (what, line) ∷ [])
  inside_by [] transaction what rest inside is = absurd (let none : [] ≡ what ∷ rest = is in cc)
  inside_by (question ∷ asked) transaction what rest inside is =
      let same : question.0 ≡ what = cc in (
        question.1,
        subst (λ c. IsStep told (session_step told (unanswered question)) (unanswered (c, question.1) ∷ [])) same
            (inside_step question told transaction inside),
      )

  pub inside_goes_on : (transaction : Transaction) (what : Command) (rest : List Command) → told.current ≡ Some transaction →
      pending s transcript ≡ what ∷ rest → (line : ℕ) × IsStep told (session_state s transcript) (unanswered (what, line) ∷ [])
  inside_goes_on transaction what rest inside is =
      let by = inside_by (drop (length (answers s transcript)) (questions s transcript)) transaction what rest inside is in
      (by.0, subst (λ state. IsStep told state (unanswered (what, by.0) ∷ [])) (sym (law s transcript few)) by.1)

-- ---- a transaction

abbrev pub done_among : List Exchange → List Operation
done_among commands = filter (λ operation. is_done_outcome operation.outcome) (operations commands)

none_done : (question : Command × ℕ) → done_among (unanswered question ∷ []) ≡ []
none_done (Begin, line) = refl
none_done (Work table key op, line) = refl
none_done (Commit, line) = refl
none_done (Abort, line) = refl

added_none : (added : List Exchange) → IsUnanswered added → done_among added ≡ []
added_none added (inl none) = ap done_among none
added_none added (inr one) = ap done_among one.1 ∙ none_done one.0

-- the operations that were done are the same
pub done_same : (told now : Session) (number : ℕ) → GoesOn told now → done_among (told_commands now number) ≡ told_done told number
done_same told now number goes = by (cases_eq number (next_number told))
  where
    by : (number ≡ next_number told) ⊎ (number ≢ next_number told) → done_among (told_commands now number) ≡ told_done told number
    by (inl here) =
        ap done_among (subst (λ n. told_commands now n ≡ told_commands told n ++ goes.added) (sym here) goes.step.here)
        ∙ (done_added (told_commands told number) goes.added
        ∙ (ap (λ list. told_done told number ++ list) (added_none goes.added goes.is_unanswered) ∙ append-nil (told_done told number)))
    by (inr apart) = ap (λ found. done_among (commands_in found)) (goes.step.there number apart)

-- a command with an answer is among those that were answered
pub answered_before : (told now : Session) (number : ℕ) (exchange : Exchange) (answer : Outcome × ℕ) → GoesOn told now →
    IsIn (told_commands now number) exchange → exchange.answer ≡ Some answer → IsIn (told_commands told number) exchange
answered_before told now number exchange answer goes is_in answered = by (cases_eq number (next_number told))
  where
    among : (added : List Exchange) → IsUnanswered added → IsIn (told_commands told number ++ added) exchange → IsIn (told_commands told number) exchange
    among added (inl none) is = subst (λ list. IsIn list exchange)
        (ap (λ list. told_commands told number ++ list) none ∙ append-nil (told_commands told number)) is
    among added (inr one) is =
        elim (IsIn-push (told_commands told number) (unanswered one.0) exchange (subst (λ list. IsIn (told_commands told number ++ list) exchange) one.1 is)) [
          | inl old ↦ old
          | inr new ↦ absurd (let none : ◌≡◌ {A = Option (Outcome × ℕ)} None (Some answer) = sym (ap (λ (e : Exchange). e.answer) new) ∙ answered in cc)
        ]

    by : (number ≡ next_number told) ⊎ (number ≢ next_number told) → IsIn (told_commands told number) exchange
    by (inl here) = among goes.added goes.is_unanswered
        (subst (λ list. IsIn list exchange) (subst (λ n. told_commands now n ≡ told_commands told n ++ goes.added) (sym here) goes.step.here) is_in)
    by (inr apart) = subst (λ found. IsIn (commands_in found) exchange) (goes.step.there number apart) is_in

-- and those are among its commands
pub answered_still : (told now : Session) (number : ℕ) (exchange : Exchange) → GoesOn told now → IsIn (told_commands told number) exchange →
    IsIn (told_commands now number) exchange
answered_still told now number exchange goes is_in = by (cases_eq number (next_number told))
  where
    by : (number ≡ next_number told) ⊎ (number ≢ next_number told) → IsIn (told_commands now number) exchange
    by (inl here) = subst (λ list. IsIn list exchange) (sym (subst (λ n. told_commands now n ≡ told_commands told n ++ goes.added) (sym here) goes.step.here))
        (IsIn-append_left (told_commands told number) goes.added exchange is_in)
    by (inr apart) = subst (λ found. IsIn (commands_in found) exchange) (sym (goes.step.there number apart)) is_in

-- a transaction begins where it began
pub began_there : (told now : Session) (number : ℕ) (old new : Transaction) → GoesOn told now → told_transaction told number ≡ Some old →
    told_transaction now number ≡ Some new → old.begin ≡ new.begin
began_there told now number old new goes was is = by (cases_eq number (next_number told))
  where
    same_begin : (a b : Transaction) → Some a ≡ Some b → a.begin ≡ b.begin
    same_begin a b same = ap (λ (o : Option Transaction). (unwrap_or o a).begin) same

    by : (number ≡ next_number told) ⊎ (number ≢ next_number told) → old.begin ≡ new.begin
    by (inl here) =
        let next = goes.step.begins_as old (ap (told_transaction told) (sym here) ∙ was) in
        sym next.2 ∙ same_begin next.0 new (sym next.1 ∙ (ap (told_transaction now) (sym here) ∙ is))
    by (inr apart) = same_begin old new (sym was ∙ (sym (goes.step.there number apart) ∙ is))
