-- What a run has served, by how it ended.
use Rattle.std.proofs.Common.{◌≡◌, ◌⊎◌, ◌↔◌, ℕ, ◌≤◌, Bool, true, false, inl, inr, List, [], ◌∷◌, ◌++◌, Option, Ok, Err, refl, sym, ap, subst, ◌∙◌, arith}
use Rattle.std.proofs.lemmas.List.{append-nil}
use Rattle.std.specs.Io.KnownBytes.{IsAtEnd}
use Rattle.cl_io.specs.Faults.{one_more}
use Rattle.cl_runs.specs.World.{Happening, Run, quiet, world_after}
use Rattle.cl_schedule.specs.Course.{Course}
use Rattle.cl_schedule.specs.Schedule.{AreOthersIn, HasScheduled, IsScheduled, to_happen}
use Rattle.cl_schedule.specs.Turns.{AreTurns, first_course, is_over}
use Rattle.cl_schedule.specs.declared.setting.Finish.{Finish}
use Rattle.cl_schedule.specs.declared.setting.Finish.TheVariants.{Quiet, TurnsMade}
use Rattle.cl_schedule.specs.declared.setting.Setting.{Setting}
use Rattle.cl_serial.specs.Transcript.{TranscriptEntry, full_text}
use Rattle.cl_members.specs.Members.{transcript_after}
use Rattle.cl_types.specs.declared.answers.Refused.{Refused}
use Rattle.cl_types.specs.declared.answers.Refused.TheVariants.{Spent}
use Rattle.cl_wire.specs.Message.{Message}
use Rattle.cl_world.specs.Mail.{AreKept, messages_in}
use Rattle.cl_world.specs.World.{IsWorldOf, IsWhole}
use Rattle.cl_world.specs.declared.world.World.{World}
use Rattle.clustra.specs.Answering.{Answered, IsAnswerStatus, IsFaultStatus, IsWriteStatus, Served}
use Rattle.clustra.specs.Input.{IsTooMuch}
use Rattle.clustra.specs.Reading.{EndsReading, ReadsToEnd}
use Rattle.clustra.specs.Run.{IsEndStatus, IsMade, always, cluster, full_text_with, texts_in}
use Rattle.clustra.specs.RunEnds.{EndsSink}
use Rattle.clustra.specs.declared.ended.TheConstants.{DONE, READ_FAULT, WRITE_FAULT, TOO_MUCH_INPUT, NO_MEMORY, UNFINISHED, SPENT}
use Rattle.clustra.specs.declared.input.InputFault.{InputFault}
use Rattle.clustra.specs.declared.input.InputFault.TheVariants.{Read, TooMuch, NoMemory}
use Rattle.clustra.proofs.Written.{IsSilent, sink_silent}

-- statuses

pub answer_of_write : (unfinished : Bool) (status : ℕ) → IsWriteStatus unfinished status → IsAnswerStatus status
answer_of_write unfinished status (inl none) = inr (inr (inl none))
answer_of_write unfinished status (inr (inl failed)) = inr (inl failed)
answer_of_write true status (inr (inr ended)) = inr (inr (inr (inl ended)))
answer_of_write false status (inr (inr ended)) = inl ended

pub answer_of_refusal : (status : ℕ) → (status ≡ NO_MEMORY) ⊎ (status ≡ SPENT) → IsAnswerStatus status
answer_of_refusal status (inl none) = inr (inr (inl none))
answer_of_refusal status (inr spent) = inr (inr (inr (inr spent)))

pub end_of_answer : (status : ℕ) → IsAnswerStatus status → IsEndStatus status
end_of_answer status (inl done) = inl done
end_of_answer status (inr (inl failed)) = inr (inr (inl failed))
end_of_answer status (inr (inr (inl none))) = inr (inr (inr (inr (inl none))))
end_of_answer status (inr (inr (inr (inl unfinished)))) = inr (inr (inr (inr (inr (inl unfinished)))))
end_of_answer status (inr (inr (inr (inr spent)))) = inr (inr (inr (inr (inr (inr spent)))))

pub end_of_fault : (status : ℕ) → IsFaultStatus status → IsEndStatus status
end_of_fault status (inl failed) = inr (inl failed)
end_of_fault status (inr (inl stopped)) = inr (inr (inr (inl stopped)))
end_of_fault status (inr (inr none)) = inr (inr (inr (inr (inl none))))

-- a world in which nothing has happened

no_slots : (slots : List (Option Message)) → AreKept slots [] → slots ≡ []
no_slots [] kept = refl
no_slots (slot ∷ slots) kept = absurd kept

-- no packet is on its way in it
pub no_mail : (world : World) → IsWorldOf cluster world [] → messages_in world.mail ≡ []
unfolding world_after
no_mail world is = no_slots (messages_in world.mail) is.now.mail

-- where no actor is missing, the others are there
others_of_whole : (world : World) (rest : List Happening) → IsWhole cluster world → AreOthersIn cluster world rest
others_of_whole world [] whole = whole
others_of_whole world (happening ∷ rest) whole = record { front = λ ne. whole.front; members = λ actor within ne. whole.members actor within }

-- nothing was made of the lines
pub none_made : (setting : Setting) (status : ℕ) (lines : List (List ℕ)) → (status ≡ READ_FAULT) ⊎ ((status ≡ TOO_MUCH_INPUT) ⊎ (status ≡ NO_MEMORY)) →
    IsMade setting status lines [] false
unfolding AreTurns
none_made setting status lines unbegun =
    let first : Course = first_course [] [] lines in
    record {
      count = 0;
      last = first;
      turns = refl;
      more = [];
      rest = to_happen cluster setting always first (is_over cluster first);
      run_is = refl;
      happens = refl;
      done = λ done. absurd (unbegun_not status DONE (inl refl) unbegun done);
      write_fault = λ failed. absurd (unbegun_written status unbegun failed);
      unfinished_is = λ is. absurd (let no : false ≡ true = is in cc);
      unfinished_status = λ unfinished. absurd (unbegun_not status UNFINISHED (inr (inl refl)) unbegun unfinished);
      exactly = λ goes all. inr (inr (unbegun_is status unbegun));
      spent = λ spent. absurd (unbegun_not status SPENT (inr (inr refl)) unbegun spent);
    } where
      unbegun_written : (status : ℕ) → IsFaultStatus status → status ≡ WRITE_FAULT → ⊥
      unbegun_written status (inl unread) same = absurd (omega (arith, unread, same))
      unbegun_written status (inr (inl stopped)) same = absurd (omega (arith, stopped, same))
      unbegun_written status (inr (inr none)) same = absurd (omega (arith, none, same))

      unbegun_not : (status other : ℕ) → (other ≡ DONE) ⊎ ((other ≡ UNFINISHED) ⊎ (other ≡ SPENT)) → IsFaultStatus status → status ≡ other → ⊥
      unbegun_not status other (inl a) (inl b) same = absurd (omega (arith, a, b, same))
      unbegun_not status other (inl a) (inr (inl b)) same = absurd (omega (arith, a, b, same))
      unbegun_not status other (inl a) (inr (inr b)) same = absurd (omega (arith, a, b, same))
      unbegun_not status other (inr (inl a)) (inl b) same = absurd (omega (arith, a, b, same))
      unbegun_not status other (inr (inl a)) (inr (inl b)) same = absurd (omega (arith, a, b, same))
      unbegun_not status other (inr (inl a)) (inr (inr b)) same = absurd (omega (arith, a, b, same))
      unbegun_not status other (inr (inr a)) (inl b) same = absurd (omega (arith, a, b, same))
      unbegun_not status other (inr (inr a)) (inr (inl b)) same = absurd (omega (arith, a, b, same))
      unbegun_not status other (inr (inr a)) (inr (inr b)) same = absurd (omega (arith, a, b, same))

      unbegun_is : (status : ℕ) → IsFaultStatus status → (status ≡ READ_FAULT) ⊎ ((status ≡ TOO_MUCH_INPUT) ⊎ (status ≡ NO_MEMORY))
      unbegun_is status is = is

-- how the schedule ended

write_not : (unfinished : Bool) (status : ℕ) → IsWriteStatus unfinished status →
    (status ≡ SPENT → ⊥) × ((status ≡ DONE → unfinished ≡ false) × (status ≡ UNFINISHED → unfinished ≡ true))
write_not unfinished status (inl none) = (
  λ spent. absurd (omega (arith, none, spent)),
  (λ done. absurd (omega (arith, none, done)), λ ended. absurd (omega (arith, none, ended))),
)
write_not unfinished status (inr (inl failed)) = (
  λ spent. absurd (omega (arith, failed, spent)),
  (λ done. absurd (omega (arith, failed, done)), λ ended. absurd (omega (arith, failed, ended))),
)
write_not true status (inr (inr is)) = (λ spent. absurd (omega (arith, is, spent)), (λ done. absurd (omega (arith, is, done)), λ ended. refl))
write_not false status (inr (inr is)) = (λ spent. absurd (omega (arith, is, spent)), (λ done. refl, λ ended. absurd (omega (arith, is, ended))))

write_exactly : (status : ℕ) → IsWriteStatus true status → (status ≡ UNFINISHED) ⊎
    ((status ≡ WRITE_FAULT) ⊎ ((status ≡ READ_FAULT) ⊎ ((status ≡ TOO_MUCH_INPUT) ⊎ (status ≡ NO_MEMORY))))
write_exactly status (inl none) = inr (inr (inr (inr none)))
write_exactly status (inr (inl failed)) = inr (inl failed)
write_exactly status (inr (inr is)) = inl is

module _ {K : Type 0} (written_of flushed_of : K → Option (List ℕ)) (faults_of : K → ℕ) (setting : Setting) (status : ℕ) (lines : List (List ℕ))
    (before after : World) (sink sink' : K) where
  -- the turns of an empty world
  turns_of : (last : Course) (count : ℕ) → messages_in before.mail ≡ [] →
      AreTurns cluster setting always count (first_course [] (messages_in before.mail) lines) last →
      AreTurns cluster setting always count (first_course [] [] lines) last
  turns_of last count none turns = subst (λ (slots : List (Option Message)). AreTurns cluster setting always count (first_course [] slots lines) last) none turns

  answered_quiet : (transcript : List TranscriptEntry) → messages_in before.mail ≡ [] → HasScheduled cluster setting always before after [] lines Quiet →
      ((run : Run) → IsWorldOf cluster after run → transcript ≡ transcript_after cluster run) →
      EndsSink written_of flushed_of faults_of sink sink' status (full_text_with lines transcript false) → IsWriteStatus false status →
      Answered written_of flushed_of faults_of setting status lines after sink sink'
  answered_quiet transcript none h same ends is =
      let run : Run = h.last.run ++ (quiet, h.ends.1.0) ∷ [] in
      record {
        run = run;
        unfinished = false;
        has_made = inl h.ends.1.1;
        whole = λ short spent. h.whole;
        made = record {
          count = h.turned.count;
          last = h.last;
          turns = turns_of h.last h.turned.count none h.turned.turns;
          more = (quiet, h.ends.1.0) ∷ [];
          rest = [];
          run_is = refl;
          happens = ap (to_happen cluster setting always h.last) (sym h.ends.0);
          done = λ done. (h.ends.0, refl);
          write_fault = λ failed. inl (h.ends.0, refl);
          unfinished_is = λ yes'. absurd (let no' : false ≡ true = yes' in cc);
          unfinished_status = λ ended. (write_not false status is).1.1 ended;
          exactly = λ goes all. absurd (let no' : true ≡ false = sym h.ends.0 ∙ goes in cc);
          spent = λ spent. absurd ((write_not false status is).0 spent);
        };
        others = h.whole;
        sink_ends = subst (λ (t : List TranscriptEntry). EndsSink written_of flushed_of faults_of sink sink' status (full_text_with lines t false))
            (same run h.ends.1.1) ends;
      }

  answered_turns : (transcript : List TranscriptEntry) → messages_in before.mail ≡ [] → HasScheduled cluster setting always before after [] lines TurnsMade →
      ((run : Run) → IsWorldOf cluster after run → transcript ≡ transcript_after cluster run) →
      EndsSink written_of flushed_of faults_of sink sink' status (full_text_with lines transcript true) → IsWriteStatus true status →
      Answered written_of flushed_of faults_of setting status lines after sink sink'
  answered_turns transcript none h same ends is =
      record {
        run = h.last.run;
        unfinished = true;
        has_made = inl h.ends.1.1;
        whole = λ short spent. h.whole;
        made = record {
          count = h.turned.count;
          last = h.last;
          turns = turns_of h.last h.turned.count none h.turned.turns;
          more = [];
          rest = to_happen cluster setting always h.last (is_over cluster h.last);
          run_is = sym (append-nil h.last.run);
          happens = refl;
          done = λ done. absurd (let no' : true ≡ false = (write_not true status is).1.0 done in cc);
          write_fault = λ failed. inr refl;
          unfinished_is = λ yes'. (h.ends.0, (h.ends.1.0, refl));
          unfinished_status = λ ended. refl;
          exactly = λ goes all. write_exactly status is;
          spent = λ spent. absurd ((write_not true status is).0 spent);
        };
        others = others_of_whole after (to_happen cluster setting always h.last (is_over cluster h.last)) h.whole;
        sink_ends = subst (λ (t : List TranscriptEntry). EndsSink written_of flushed_of faults_of sink sink' status (full_text_with lines t true))
            (same h.last.run h.ends.1.1) ends;
      }

  -- the schedule came to its end
  pub answered_finish : (transcript : List TranscriptEntry) (finish : Finish) (unfinished : Bool) → IsWorldOf cluster before [] →
      IsScheduled cluster setting always before after [] lines (Ok finish) →
      (unfinished ≡ true → finish ≡ TurnsMade) → (unfinished ≡ false → finish ≡ Quiet) →
      ((run : Run) → IsWorldOf cluster after run → transcript ≡ transcript_after cluster run) →
      EndsSink written_of flushed_of faults_of sink sink' status (full_text_with lines transcript unfinished) → IsWriteStatus unfinished status →
      Answered written_of flushed_of faults_of setting status lines after sink sink'
  answered_finish transcript finish true is h turns done same ends written =
      answered_turns transcript (no_mail before is) (subst (λ (f : Finish). HasScheduled cluster setting always before after [] lines f) (turns refl) h) same
      ends written
  answered_finish transcript finish false is h turns done same ends written =
      answered_quiet transcript (no_mail before is) (subst (λ (f : Finish). HasScheduled cluster setting always before after [] lines f) (done refl) h) same
      ends written

refusal_silent : (status : ℕ) → (status ≡ NO_MEMORY) ⊎ (status ≡ SPENT) → IsSilent status
refusal_silent status (inl none) = inr (inr (inl none))
refusal_silent status (inr spent) = inr (inr (inr spent))

refusal_not : (status other : ℕ) → (other ≡ DONE) ⊎ ((other ≡ UNFINISHED) ⊎ ((other ≡ READ_FAULT) ⊎ (other ≡ TOO_MUCH_INPUT))) →
    (status ≡ NO_MEMORY) ⊎ (status ≡ SPENT) → status ≡ other → ⊥
refusal_not status other (inl a) (inl b) same = absurd (omega (arith, a, b, same))
refusal_not status other (inl a) (inr b) same = absurd (omega (arith, a, b, same))
refusal_not status other (inr (inl a)) (inl b) same = absurd (omega (arith, a, b, same))
refusal_not status other (inr (inl a)) (inr b) same = absurd (omega (arith, a, b, same))
refusal_not status other (inr (inr (inl a))) (inl b) same = absurd (omega (arith, a, b, same))
refusal_not status other (inr (inr (inl a))) (inr b) same = absurd (omega (arith, a, b, same))
refusal_not status other (inr (inr (inr a))) (inl b) same = absurd (omega (arith, a, b, same))
refusal_not status other (inr (inr (inr a))) (inr b) same = absurd (omega (arith, a, b, same))

refusal_written : (status : ℕ) → (status ≡ NO_MEMORY) ⊎ (status ≡ SPENT) → status ≡ WRITE_FAULT → ⊥
refusal_written status (inl none) same = absurd (omega (arith, none, same))
refusal_written status (inr spent) same = absurd (omega (arith, spent, same))

-- an event was refused
pub answered_refusal : {K : Type 0} (written_of flushed_of : K → Option (List ℕ)) (faults_of : K → ℕ) (setting : Setting) (status : ℕ) (lines : List (List ℕ))
    (before after : World) (sink : K) (refused : Refused) →
    IsWorldOf cluster before [] → IsScheduled cluster setting always before after [] lines (Err refused) → (status ≡ SPENT → refused ≡ Spent) →
    (status ≡ NO_MEMORY) ⊎ (status ≡ SPENT) → Answered written_of flushed_of faults_of setting status lines after sink sink
answered_refusal written_of flushed_of faults_of setting status lines before after sink refused is h spent either =
    let run : Run = h.last.run ++ h.more in
    record {
      run = run;
      unfinished = false;
      has_made = inr h.left;
      whole = λ short many. absurd (elim either [ inl none ↦ short none | inr many' ↦ many many' ]);
      made = record {
        count = h.turned.count;
        last = h.last;
        turns = subst (λ (slots : List (Option Message)). AreTurns cluster setting always h.turned.count (first_course [] slots lines) h.last)
            (no_mail before is) h.turned.turns;
        more = h.more;
        rest = h.rest;
        run_is = refl;
        happens = h.happens;
        done = λ done. absurd (refusal_not status DONE (inl refl) either done);
        write_fault = λ failed. absurd (refusal_written status either failed);
        unfinished_is = λ yes'. absurd (let no' : false ≡ true = yes' in cc);
        unfinished_status = λ ended. absurd (refusal_not status UNFINISHED (inr (inl refl)) either ended);
        exactly = λ goes all. let few = h.within goes in absurd (omega (arith, few, all));
        spent = λ many. h.spent (spent many);
      };
      others = h.others;
      sink_ends = sink_silent written_of flushed_of faults_of sink status (full_text_with lines (transcript_after cluster run) false) (refusal_silent status either)
          (λ fault. absurd (elim fault [
            | inl failed ↦ refusal_not status READ_FAULT
                (inr (inr (inl refl))) either failed
            | inr stopped ↦ refusal_not status TOO_MUCH_INPUT (inr (inr (inr refl))) either stopped
          ]));
    }

-- nothing was answered

fault_silent : (status : ℕ) → IsFaultStatus status → IsSilent status
fault_silent status (inl failed) = inl failed
fault_silent status (inr (inl stopped)) = inr (inl stopped)
fault_silent status (inr (inr none)) = inr (inr (inl none))

first_text : full_text (transcript_after cluster []) ≡ []
unfolding world_after
first_text = refl

pub answered_none : {K : Type 0} (written_of flushed_of : K → Option (List ℕ)) (faults_of : K → ℕ) (setting : Setting) (status : ℕ) (lines : List (List ℕ))
    (world : World) (sink : K) →
    IsWorldOf cluster world [] → IsWhole cluster world → IsFaultStatus status → Answered written_of flushed_of faults_of setting status lines world sink sink
answered_none written_of flushed_of faults_of setting status lines world sink is whole fault = record {
  run = [];
  unfinished = false;
  has_made = inl is;
  whole = λ short spent. whole;
  made = none_made setting status lines fault;
  others = others_of_whole world (none_made setting status lines fault).rest whole;
  sink_ends = sink_silent written_of flushed_of faults_of sink status (full_text_with lines (transcript_after cluster []) false) (fault_silent status fault)
      (λ either. append-nil (full_text (transcript_after cluster [])) ∙ first_text);
}

-- how reading ended

answer_not : (status other : ℕ) → (other ≡ READ_FAULT) ⊎ (other ≡ TOO_MUCH_INPUT) → IsAnswerStatus status → status ≡ other → ⊥
answer_not status other (inl a) (inl b) same = absurd (omega (arith, a, b, same))
answer_not status other (inl a) (inr (inl b)) same = absurd (omega (arith, a, b, same))
answer_not status other (inl a) (inr (inr (inl b))) same = absurd (omega (arith, a, b, same))
answer_not status other (inl a) (inr (inr (inr (inl b)))) same = absurd (omega (arith, a, b, same))
answer_not status other (inl a) (inr (inr (inr (inr b)))) same = absurd (omega (arith, a, b, same))
answer_not status other (inr a) (inl b) same = absurd (omega (arith, a, b, same))
answer_not status other (inr a) (inr (inl b)) same = absurd (omega (arith, a, b, same))
answer_not status other (inr a) (inr (inr (inl b))) same = absurd (omega (arith, a, b, same))
answer_not status other (inr a) (inr (inr (inr (inl b)))) same = absurd (omega (arith, a, b, same))
answer_not status other (inr a) (inr (inr (inr (inr b)))) same = absurd (omega (arith, a, b, same))

module _ {S K : Type 0} (left_of : S → Option (List ℕ)) (source_faults : S → ℕ) (written_of flushed_of : K → Option (List ℕ)) (sink_faults : K → ℕ)
    (source source' : S) (sink sink' : K) (setting : Setting) (status : ℕ) where
  -- the whole input was read, and its lines were answered
  pub served_all : {V : Type 0} (view : V → List ℕ) (all : V) (world : World) → ReadsToEnd view (left_of source) (left_of source') (Ok all) →
      IsAtEnd (left_of source') → source_faults source' ≡ source_faults source → source_faults source ≤ source_faults source' →
      (bytes : List ℕ) → bytes ≡ view all → Answered written_of flushed_of sink_faults setting status (texts_in bytes) world sink sink' →
      IsAnswerStatus status → Served left_of source_faults written_of flushed_of sink_faults source source' sink sink' setting status world
  served_all view all world reads end unfaulted counted bytes same answered is = record {
    read = reads.read;
    bytes = reads.bytes;
    too_much = (λ stopped. absurd (answer_not status TOO_MUCH_INPUT (inr refl) is stopped), λ many. absurd (reads.ends.1 many));
    answered = subst (λ (read : List ℕ). Answered written_of flushed_of sink_faults setting status (texts_in read) world sink sink') (same ∙ reads.ends.0) answered;
    nothing_fed = λ fault. absurd (elim fault [
      | inl failed ↦ answer_not status READ_FAULT
          (inl refl) is failed
      | inr stopped ↦ answer_not status TOO_MUCH_INPUT (inr refl) is stopped
    ]);
    source_ends = record {
      end = λ unread many short. end;
      read_fault = λ failed. absurd (answer_not status READ_FAULT (inl refl) is failed);
      unfaulted = λ other. unfaulted;
      counted = counted;
    };
  }

module _ {S K : Type 0} (left_of : S → Option (List ℕ)) (source_faults : S → ℕ) (written_of flushed_of : K → Option (List ℕ)) (sink_faults : K → ℕ)
    (source source' : S) (sink : K) (setting : Setting) (status : ℕ) where
  too_much_by : (fault : InputFault) (read : List ℕ) {V : Type 0} (view : V → List ℕ) → EndsReading view (Err fault) read →
      (status ≡ TOO_MUCH_INPUT) ↔ (fault ≡ TooMuch) → (status ≡ TOO_MUCH_INPUT) ↔ IsTooMuch read
  too_much_by Read read view ends stopped_by = (λ stopped. absurd (let e : Read ≡ TooMuch = stopped_by.0 stopped in cc), λ many. absurd (ends many))
  too_much_by TooMuch read view ends stopped_by = (λ stopped. ends, λ many. stopped_by.1 refl)
  too_much_by NoMemory read view ends stopped_by = (λ stopped. absurd (let e : NoMemory ≡ TooMuch = stopped_by.0 stopped in cc), λ many. absurd (ends many))

  -- reading stopped before the end
  pub served_fault : {V : Type 0} (view : V → List ℕ) (fault : InputFault) (world : World) → ReadsToEnd view (left_of source) (left_of source') (Err fault) →
      IsWorldOf cluster world [] → IsWhole cluster world →
      (fault ≡ Read → source_faults source' ≡ one_more (source_faults source)) → ((fault ≡ Read → ⊥) → source_faults source' ≡ source_faults source) →
      source_faults source ≤ source_faults source' →
      (status ≡ READ_FAULT) ↔ (fault ≡ Read) → (status ≡ TOO_MUCH_INPUT) ↔ (fault ≡ TooMuch) → IsFaultStatus status →
      Served left_of source_faults written_of flushed_of sink_faults source source' sink sink setting status world
  unfolding answered_none
  served_fault view fault world reads is whole read_fault unfaulted counted read_by stopped_by status_is = record {
    read = reads.read;
    bytes = reads.bytes;
    too_much = too_much_by fault reads.read view reads.ends stopped_by;
    answered = answered_none written_of flushed_of sink_faults setting status (texts_in reads.read) world sink is whole status_is;
    nothing_fed = λ either. refl;
    source_ends = record {
      end = λ unread many short. absurd (elim status_is [ inl failed ↦ unread failed | inr (inl stopped) ↦ many stopped | inr (inr none) ↦ short none ]);
      read_fault = λ failed. read_fault (read_by.0 failed);
      unfaulted = λ other. unfaulted (λ is'. other (read_by.1 is'));
      counted = counted;
    };
  }

-- the lines that were answered are these
pub answered_for : {K : Type 0} (written_of flushed_of : K → Option (List ℕ)) (faults_of : K → ℕ) (setting : Setting) (status : ℕ)
    (lines texts : List (List ℕ)) (world : World) (sink sink' : K) → lines ≡ texts →
    Answered written_of flushed_of faults_of setting status lines world sink sink' → Answered written_of flushed_of faults_of setting status texts world sink sink'
answered_for written_of flushed_of faults_of setting status lines texts world sink sink' same answered =
    subst (λ (all : List (List ℕ)). Answered written_of flushed_of faults_of setting status all world sink sink') same answered
