-- A transaction that ended before a quiet moment had ended in what the transcript showed then; and what a transcript says of causes.
use Rattle.std.proofs.Common.{◌≡◌, ℕ, zero, suc, ◌<◌, ◌≤◌, true, List, [], ◌∷◌, ◌++◌, length, take, drop, Some, None, inl, inr, refl, sym, ap, ◌∙◌, subst, arith}
use Rattle.std.specs.List.{fold}
use Rattle.std.proofs.lemmas.List.{take-append-drop}
use Rattle.cl_causes.specs.Causes.{HasEndedBefore, IsConflict, IsTrueCause, TrueCauses}
use Rattle.cl_serial.specs.Exchanges.{Exchange, outcome_of}
use Rattle.cl_serial.specs.Serial.{StandsAt, IsIn}
use Rattle.cl_serial.specs.Transactions.{session_step, new_session, is_end, commands_of}
use Rattle.cl_serial.specs.Transcript.{TranscriptEntry, questions, answers, quiet}
use Rattle.cl_serial.proofs.Places.{StandsAt-within}
use Rattle.cl_shown.specs.Laws.{SessionHasOutstanding}
use Rattle.cl_shown.specs.Shown.{with_outstanding}
use Rattle.cl_system.specs.Roles.{IsOfSession}
use Rattle.cl_told.specs.Told.{told_session, answered_part}
use Rattle.cl_types.specs.declared.answers.AbortCause.{AbortCause}
use Rattle.cl_types.specs.declared.answers.AbortCause.TheVariants.{Conflict, Node, Client, Memory}
use Rattle.cl_types.specs.declared.operations.Command.TheVariants.{Work}
use Rattle.cl_types.specs.declared.operations.Op.{Op}
use Rattle.cl_types.specs.declared.operations.TxnId.{TxnId}
use Rattle.cl_types.specs.Places.{Place}
use Rattle.cl_causes.proofs.Sessions.{Line, line_of, lines_of, commands_at, commands_found, none_ends, ended_where_ends}
use Rattle.cl_causes.proofs.Transcripts.{new_questions, new_answers, new_answer_behind, left_in, new_pairs, told_more, paired_answer, answered_told}
use Rattle.cl_causes.proofs.Claims.{EndedQuietly, IsRefusedReply, IsCause, IsCaused, AreCaused}

length_take : {X : Type 0} (n : ℕ) (xs : List X) → n ≤ length xs → length (take n xs) ≡ n
length_take zero xs within = refl
length_take (suc n) [] within = absurd (omega (arith, within))
length_take (suc n) (x ∷ xs) within = ap suc (length_take n xs (omega (arith, within)))

line_stands : (commands : List Exchange) (i : ℕ) (line : Line) → StandsAt (lines_of commands) i line → (e : Exchange) × StandsAt commands i e × (line_of e ≡ line)
line_stands [] i line h = absurd cc
line_stands (x ∷ commands) zero line h = (x, refl, cc)
line_stands (x ∷ commands) (suc i) line h = line_stands commands i line h

module _ (outstanding : SessionHasOutstanding) (transcript : List TranscriptEntry) (few : (s : ℕ) → length (answers s transcript) ≤ length (questions s transcript))
    (quiet_few : (p : ℕ) → StandsAt transcript p quiet → (name : TxnId) → IsOfSession name → length (answers name.session (take p transcript)) ≤ length (questions name.session (take p transcript))) where
  ended_quietly : (name : TxnId) (position : ℕ) → IsOfSession name → HasEndedBefore transcript name position → EndedQuietly transcript name position
  ended_quietly name position of h = record { at = h.quieted; before = h.before; is_quiet = h.is_quiet; past = past }
    where
      s : ℕ
      s = name.session

      past : name.number ≤ length (told_session name.session (take h.quieted transcript)).ended
      past =
          let start : List TranscriptEntry = take h.quieted transcript in
          let more : List TranscriptEntry = drop h.quieted transcript in
          let whole : start ++ more ≡ transcript = take-append-drop h.quieted transcript in
          let few_start = quiet_few h.quieted h.is_quiet name of in
          let e : Exchange = h.answered.0 in
          let here : IsIn (commands_at (with_outstanding name.session transcript) name.number) e = subst (λ session. IsIn (commands_at session name.number) e) (outstanding name.session transcript (few name.session)) h.answered.1 in
          let told : IsIn (commands_at (told_session name.session transcript) name.number) e = answered_told name.session transcript name.number e (h.outcome, h.ended) here h.answered.2 in
          let split : told_session name.session transcript ≡ fold session_step (told_session name.session start) (new_pairs name.session start more few_start)
          = ap (told_session name.session) (sym whole) ∙ told_more name.session start more few_start in
          let ends : is_end (outcome_of e) ≡ true = ap (λ a. is_end (elim a [ None ↦ None | Some x ↦ Some x.0 ])) h.answered.2 ∙ h.ends in
          elim (commands_found (new_pairs name.session start more few_start) (told_session name.session start) name.number e (subst (λ session. IsIn (commands_at session name.number) e) split told)) [
            | inl early ↦ ended_where_ends (told_session name.session start) name.number e (none_ends (answered_part name.session start) new_session tt) early ends
            | inr late ↦
                (let given : IsIn (new_answers name.session start more) (h.outcome, h.ended)
                = paired_answer (left_in name.session start ++ new_questions name.session start more) (new_answers name.session start more) e (h.outcome, h.ended) late h.answered.2 in
                let behind : length start ≤ h.ended = new_answer_behind name.session start more (h.outcome, h.ended) given in
                let below : h.quieted < length transcript = StandsAt-within transcript h.quieted quiet h.is_quiet in
                let size : length start ≡ h.quieted = length_take h.quieted transcript (omega (arith, below)) in
                let later = h.later in
                absurd (omega (arith, behind, size, later)))
          ]

  conflict_of : (Held : TxnId → TxnId → Place → Op → ℕ → ℕ → Type 0) (name holder : TxnId) (asked : Exchange) (position : ℕ) → IsRefusedReply Held transcript name holder asked position →
      IsConflict transcript Held name holder asked position
  conflict_of Held name holder asked position h =
      let found = line_stands (commands_of transcript holder) h.asks.asks.0 (Work h.table h.key h.asks.other, h.asks.line) h.asks.asks.1 in
      let line : found.0.line ≡ h.asks.line = ap (λ (l : Line). l.1) found.2 in
      record {
        another = h.another;
        table = h.table;
        key = h.key;
        op = h.op;
        operates = h.operates;
        held = h.held;
        conflicting = record {
          exchange = found.0;
          other = h.asks.other;
          is_in = (h.asks.asks.0, found.1);
          asks = ap (λ (l : Line). l.0) found.2;
          conflicts = h.asks.conflicts;
          earlier = subst (λ n. n < position) (sym line) h.asks.earlier;
        };
        unended = λ ended. h.unended (ended_quietly holder asked.line h.asks.session ended);
      }

-- each reply names a true cause
module _ (Short : TxnId → ℕ → Type 0) (Held : TxnId → TxnId → Place → Op → ℕ → ℕ → Type 0) (outstanding : SessionHasOutstanding) (transcript : List TranscriptEntry)
    (few : (s : ℕ) → length (answers s transcript) ≤ length (questions s transcript))
    (quiet_few : (p : ℕ) → StandsAt transcript p quiet → (name : TxnId) → IsOfSession name →
    length (answers name.session (take p transcript)) ≤ length (questions name.session (take p transcript))) where
  true_cause : (name : TxnId) (asked : Exchange) (position : ℕ) (cause : AbortCause) → IsCause Short Held transcript name asked position cause →
      IsTrueCause transcript Short Held name asked position cause
  true_cause name asked position (Conflict holder) h = conflict_of outstanding transcript few quiet_few Held name holder asked position h
  true_cause name asked position (Node node) h = h
  true_cause name asked position Client h = h
  true_cause name asked position Memory h = h

  pub true_causes : AreCaused Short Held transcript → TrueCauses transcript Short Held
  true_causes caused session position cause h =
      let is : IsCaused Short Held transcript session position cause = caused session position cause h in
      (is.number, is.asked, is.is_in, is.answered, true_cause (record { session = session; number = is.number }) is.asked position cause is.caused)
