-- A transcript with one more entry: it stays well shown.
use Rattle.std.proofs.Common.{◌≡◌, ◌≢◌, ℕ, ◌<◌, ◌⊎◌, inl, inr, List, [], ◌∷◌, ◌++◌, length, Option, Some, None, refl, sym, ◌∙◌, ap, subst, subst₂, arith}
use Rattle.std.proofs.lemmas.Bool.{cases_eq, cond-true, cond-false, eq-eqb, ne_eqb}
use Rattle.std.proofs.lemmas.List.{append-nil, length-append}
use Rattle.cl_lines.specs.Line.{fault_of}
use Rattle.cl_lines.specs.declared.line.LineFault.{LineFault}
use Rattle.cl_lines.specs.declared.out.Out.TheVariants.{Answer, BadLine}
use Rattle.cl_serial.specs.Serial.{StandsAt, FitsTurn, RefusalsTrue}
use Rattle.cl_serial.specs.Transactions.{Session, new_session}
use Rattle.cl_serial.specs.Transcript.{TranscriptEntry, fed, written, quiet, gather, asked_in, answered_in, questions, answers, faulty_in, refused_in, faulty_lines, refusals, numbered_fault}
use Rattle.cl_serial.proofs.Gathered.{gather-push}
use Rattle.cl_serial.proofs.Places.{StandsAt-push, StandsAt-push_last, StandsAt-append_left}
use Rattle.cl_shown.specs.Shown.{IsWellShown}
use Rattle.cl_shown.proofs.Answered.{FitAll, fit_more, fit_answer, fit_few, fit_follow, fit_turns, fit_lawful}
use Rattle.cl_shown.proofs.Gathers.{questions_rise, questions_within, answers_within}
use Rattle.cl_shown.proofs.Orders.{ordered_none}
use Rattle.cl_told.proofs.Shown.{Shows}
use Rattle.cl_types.specs.declared.answers.Outcome.{Outcome}
use Rattle.cl_types.specs.declared.operations.Command.{Command}

-- a line with a fault has its refusal behind it
abbrev pub AreRefusedAfter : List TranscriptEntry → Type 0
AreRefusedAfter transcript =
    (position line : ℕ) (text : List ℕ) (fault : LineFault) → StandsAt transcript position (fed line text) → fault_of text ≡ Some fault →
    (after : ℕ) × (position < after) × StandsAt transcript after (written (BadLine line fault))

-- what holds of the transcript of a front after each of its steps
pub record IsWell (transcript : List TranscriptEntry) : Type 0 where
  pub fit : (s : ℕ) → FitAll new_session (questions s transcript) (answers s transcript)
  pub refused : RefusalsTrue transcript
  pub refused_once : faulty_lines transcript ≡ refusals transcript
  pub refused_after : AreRefusedAfter transcript

pub well_none : IsWell []
unfolding gather
well_none = record {
  fit = λ s. tt;
  refused = λ position line fault at. absurd (let none : None ≡ Some (written (BadLine line fault)) = at in cc);
  refused_once = refl;
  refused_after = λ position line text fault at is. absurd (let none : None ≡ Some (fed line text) = at in cc);
}

-- what follows of it
pub well_shown : (transcript : List TranscriptEntry) → IsWell transcript → IsWellShown transcript
well_shown transcript well = record {
  few = λ s. fit_few new_session (questions s transcript) (answers s transcript) (well.fit s);
  lawful = λ s. fit_lawful new_session (questions s transcript) (answers s transcript) (length transcript) 0
      (record { have_ended = tt; going_on = tt; ordered = ordered_none (length transcript) 0 }) (questions_rise s 0 transcript)
      (answers_within s (length transcript) 0 transcript (omega arith)) (well.fit s);
  follow = λ s. fit_follow new_session (questions s transcript) (answers s transcript) (well.fit s);
  fit_turns = λ s. fit_turns new_session (questions s transcript) (answers s transcript) (well.fit s);
  refused = well.refused;
  refused_once = well.refused_once;
}

-- ---- entries of any kind

-- the fault of the line that an entry feeds
abbrev pub fault_in : TranscriptEntry → Option LineFault
fault_in (fed number text) = fault_of text
fault_in (written out) = None
fault_in quiet = None

faultless_in : (position : ℕ) (entry : TranscriptEntry) → fault_in entry ≡ None → faulty_in position entry ≡ []
faultless_in position (fed number text) none = ap (numbered_fault number) none
faultless_in position (written out) none = refl
faultless_in position quiet none = refl

module _ (transcript : List TranscriptEntry) (entry : TranscriptEntry) where
  abbrev longer : List TranscriptEntry
  longer = transcript ++ entry ∷ []

  -- an entry that answers nothing of the session
  fit_unanswered : (s : ℕ) → answered_in s (length transcript) entry ≡ [] → FitAll new_session (questions s transcript) (answers s transcript) →
      FitAll new_session (questions s longer) (answers s longer)
  fit_unanswered s none fit =
      subst₂ (FitAll new_session) (sym (gather-push (asked_in s) transcript entry))
      (sym (gather-push (answered_in s) transcript entry ∙ (ap (λ more. answers s transcript ++ more) none ∙ append-nil (answers s transcript))))
      (fit_more new_session (questions s transcript) (answers s transcript) (asked_in s (length transcript) entry) fit)

  -- an entry that is no refusal
  refused_still : ((position : ℕ) → refused_in position entry ≡ []) → RefusalsTrue transcript → RefusalsTrue longer
  refused_still none refused position line fault at = by (StandsAt-push transcript entry position (written (BadLine line fault)) at)
    where
      by : StandsAt transcript position (written (BadLine line fault)) ⊎ ((position ≡ length transcript) × (◌≡◌ {A = TranscriptEntry} (written (BadLine line fault)) entry)) →
          (before : ℕ) × (text : List ℕ) × (before < position) × StandsAt longer before (fed line text) × (fault_of text ≡ Some fault)
      by (inl old) =
          let found = refused position line fault old in
          (found.0, found.1, found.2, StandsAt-append_left transcript (entry ∷ []) found.0 (fed line found.1) found.3, found.4)
      by (inr new) =
          let some : ◌≡◌ {A = List (ℕ × LineFault)} ((line, fault) ∷ []) [] = ap (refused_in 0) new.1 ∙ none 0 in
          absurd cc

  -- an entry that is no line with a fault
  refused_after_still : fault_in entry ≡ None → AreRefusedAfter transcript → AreRefusedAfter longer
  refused_after_still none refused position line text fault at is = by (StandsAt-push transcript entry position (fed line text) at)
    where
      by : StandsAt transcript position (fed line text) ⊎ ((position ≡ length transcript) × (fed line text ≡ entry)) →
          (after : ℕ) × (position < after) × StandsAt longer after (written (BadLine line fault))
      by (inl old) =
          let found = refused position line text fault old is in
          (found.0, found.1, StandsAt-append_left transcript (entry ∷ []) found.0 (written (BadLine line fault)) found.2)
      by (inr new) =
          let some : Some fault ≡ None = sym is ∙ (ap fault_in new.1 ∙ none) in
          absurd cc

  -- an entry that is neither
  refused_once_still : fault_in entry ≡ None → ((position : ℕ) → refused_in position entry ≡ []) → faulty_lines transcript ≡ refusals transcript →
      faulty_lines longer ≡ refusals longer
  refused_once_still faultless harmless once =
      gather-push faulty_in transcript entry ∙ (ap (λ more. faulty_lines transcript ++ more) (faultless_in (length transcript) entry faultless)
      ∙ (ap (λ list. list ++ []) once
      ∙ sym (gather-push refused_in transcript entry ∙ ap (λ more. refusals transcript ++ more) (harmless (length transcript)))))

  -- an entry that answers, refuses and breaks nothing
  well_plain : ((s : ℕ) → answered_in s (length transcript) entry ≡ []) → fault_in entry ≡ None → ((position : ℕ) → refused_in position entry ≡ []) →
      IsWell transcript → IsWell longer
  well_plain unanswered faultless harmless well = record {
    fit = λ s. fit_unanswered s (unanswered s) (well.fit s);
    refused = refused_still harmless well.refused;
    refused_once = refused_once_still faultless harmless well.refused_once;
    refused_after = refused_after_still faultless well.refused_after;
  }

-- ---- each kind of entry

-- a line without a fault
pub well_line : (transcript : List TranscriptEntry) (number : ℕ) (text : List ℕ) → fault_of text ≡ None → IsWell transcript →
    IsWell (transcript ++ fed number text ∷ [])
well_line transcript number text faultless well = well_plain transcript (fed number text) (λ s. refl) faultless (λ position. refl) well

-- a quiet moment
pub well_quiet : (transcript : List TranscriptEntry) → IsWell transcript → IsWell (transcript ++ quiet ∷ [])
well_quiet transcript well = well_plain transcript quiet (λ s. refl) refl (λ position. refl) well

-- the first command of a session without an answer has one
pub well_answer : (s : ℕ) (transcript : List TranscriptEntry) (command : Command) (outcome : Outcome) (left : List Command) (told : Session) →
    Shows s transcript (command ∷ left) told → FitsTurn told command outcome →
    IsWell transcript → IsWell (transcript ++ written (Answer s outcome) ∷ [])
well_answer s transcript command outcome left told shows fits well = record {
  fit = λ other. fit_by other (cases_eq other s);
  refused = refused_still transcript entry (λ position. refl) well.refused;
  refused_once = refused_once_still transcript entry refl (λ position. refl) well.refused_once;
  refused_after = refused_after_still transcript entry refl well.refused_after;
}
  where
    entry : TranscriptEntry
    entry = written (Answer s outcome)

    fit_own : FitAll new_session (questions s (transcript ++ entry ∷ [])) (answers s (transcript ++ entry ∷ []))
    fit_own =
        subst₂ (FitAll new_session) (sym (gather-push (asked_in s) transcript entry ∙ append-nil (questions s transcript)))
        (sym (gather-push (answered_in s) transcript entry ∙ ap (λ more. answers s transcript ++ more) (cond-true _ ((outcome, length transcript) ∷ []) [] (eq-eqb s s refl))))
        (fit_answer new_session (questions s transcript) (answers s transcript) (outcome, length transcript) command left shows.left_is
        (subst (λ session. FitsTurn session command outcome) (sym shows.told_is) fits)
        (questions_within s (length transcript) 0 transcript (omega arith)) (well.fit s))

    fit_by : (other : ℕ) → (other ≡ s) ⊎ (other ≢ s) →
        FitAll new_session (questions other (transcript ++ entry ∷ [])) (answers other (transcript ++ entry ∷ []))
    fit_by other (inl same) = subst (λ n. FitAll new_session (questions n (transcript ++ entry ∷ [])) (answers n (transcript ++ entry ∷ []))) (sym same) fit_own
    fit_by other (inr differ) = fit_unanswered transcript entry other (cond-false _ _ _ (ne_eqb s other (λ e. differ (sym e)))) (well.fit other)

-- a line with a fault, and its refusal
module _ (transcript : List TranscriptEntry) (number : ℕ) (text : List ℕ) (fault : LineFault) (faulty : fault_of text ≡ Some fault)
    (well : IsWell transcript) where
  abbrev with_line : List TranscriptEntry
  with_line = transcript ++ fed number text ∷ []

  abbrev refusal : TranscriptEntry
  refusal = written (BadLine number fault)

  abbrev with_both : List TranscriptEntry
  with_both = with_line ++ refusal ∷ []

  both_once : faulty_lines with_both ≡ refusals with_both
  both_once =
      gather-push faulty_in with_line refusal ∙ (append-nil (faulty_lines with_line) ∙ (gather-push faulty_in transcript (fed number text)
      ∙ (ap (λ has. faulty_lines transcript ++ numbered_fault number has) faulty ∙ (ap (λ list. list ++ (number, fault) ∷ []) well.refused_once
      ∙ sym (gather-push refused_in with_line refusal
      ∙ ap (λ list. list ++ (number, fault) ∷ []) (gather-push refused_in transcript (fed number text) ∙ append-nil (refusals transcript)))))))

  -- the line stands before its refusal
  line_stands : StandsAt with_both (length transcript) (fed number text)
  line_stands = StandsAt-append_left with_line (refusal ∷ []) (length transcript) (fed number text) (StandsAt-push_last transcript (fed number text))

  both_refused : RefusalsTrue with_both
  both_refused position line given at = by (StandsAt-push with_line refusal position (written (BadLine line given)) at)
    where
      by : StandsAt with_line position (written (BadLine line given)) ⊎ ((position ≡ length with_line) × (◌≡◌ {A = TranscriptEntry} (written (BadLine line given)) refusal)) →
          (before : ℕ) × (its : List ℕ) × (before < position) × StandsAt with_both before (fed line its) × (fault_of its ≡ Some given)
      by (inl old) =
          let found = refused_still transcript (fed number text) (λ p. refl) well.refused position line given old in
          (found.0, found.1, found.2, StandsAt-append_left with_line (refusal ∷ []) found.0 (fed line found.1) found.3, found.4)
      by (inr new) =
          let is = new.1 in
          let same_line : number ≡ line = cc in
          let same_fault : fault ≡ given = cc in
          let later : length transcript < position = omega (arith, new.0, length-append transcript (fed number text ∷ [])) in
          (length transcript, text, later, subst (λ n. StandsAt with_both (length transcript) (fed n text)) same_line line_stands, faulty ∙ ap Some same_fault)

  both_after : AreRefusedAfter with_both
  both_after position line its given at is = by_refusal (StandsAt-push with_line refusal position (fed line its) at)
    where
      by_line : StandsAt transcript position (fed line its) ⊎ ((position ≡ length transcript) × (fed line its ≡ fed number text)) →
          (after : ℕ) × (position < after) × StandsAt with_both after (written (BadLine line given))
      by_line (inl old) =
          let found = well.refused_after position line its given old is in
          let there : StandsAt with_line found.0 (written (BadLine line given)) = StandsAt-append_left transcript (fed number text ∷ []) found.0 _ found.2 in
          (found.0, found.1, StandsAt-append_left with_line (refusal ∷ []) found.0 (written (BadLine line given)) there)
      by_line (inr new) =
          let e = new.1 in
          let same_line : number ≡ line = cc in
          let faults : Some fault ≡ Some given = sym faulty ∙ (ap fault_in (sym new.1) ∙ is) in
          let same_fault : fault ≡ given = cc in (
            length with_line,
            omega (arith, new.0, length-append transcript (fed number text ∷ [])),
            subst₂ (λ n f. StandsAt with_both (length with_line) (written (BadLine n f))) same_line same_fault (StandsAt-push_last with_line refusal),
          )

      by_refusal : StandsAt with_line position (fed line its) ⊎ ((position ≡ length with_line) × (fed line its ≡ refusal)) →
          (after : ℕ) × (position < after) × StandsAt with_both after (written (BadLine line given))
      by_refusal (inl old) = by_line (StandsAt-push transcript (fed number text) position (fed line its) old)
      by_refusal (inr new) = let e = new.1 in absurd cc

  pub well_refused : IsWell with_both
  well_refused = record {
    fit = λ s. fit_unanswered with_line refusal s refl (fit_unanswered transcript (fed number text) s refl (well.fit s));
    refused = both_refused;
    refused_once = both_once;
    refused_after = both_after;
  }
