-- What a run that was served has of the guarantee.
use Rattle.std.proofs.Common.{◌≡◌, ◌+◌, ℕ, ◌<◌, ◌==◌, Bool, is_some, inl, inr, List, [], ◌∷◌, ◌++◌, length, get_or, Option, None, IsSome, refl, sym, ap, subst, ◌∙◌, arith}
use Rattle.std.proofs.lemmas.Bool.{and_parts}
use Rattle.std.proofs.lemmas.List.{append-nil}
use Rattle.cl_guarantee.specs.Laws.{RunsAreSerializable, ReplicasAgree, EachHasMembers, MembersHold, QuietMembersAreEqual, StandbysFollow, RunsNameTrueCauses, LinesAreFed, RestAnswersAll, HistoriesGoOn, LogsGoOn, RunsReplayUnbroken, RunsKeepBrokenOut}
use Rattle.cl_members.specs.Members.{feeds_in, history_after, transcript_after}
use Rattle.cl_node.specs.declared.machine.Node.{Node}
use Rattle.cl_roster.specs.Roster.{IsClusterSize}
use Rattle.cl_runs.specs.World.{Happening, IsRun, Run, Shape, quiet}
use Rattle.cl_runs.proofs.Runs.{runs_are_wide}
use Rattle.cl_schedule.specs.Schedule.{AreOthersIn, to_happen}
use Rattle.cl_schedule.specs.declared.setting.Setting.{Setting}
use Rattle.cl_serial.specs.Bytes.{FeedsFirstLines, lines_of}
use Rattle.cl_serial.specs.Serial.{EveryLineAnswered, Serializable}
use Rattle.cl_serial.specs.Transcript.{TranscriptEntry, fed_lines, transcript_of}
use Rattle.cl_system.specs.System.{system}
use Rattle.cl_types.specs.AppendOnlyList.{entries}
use Rattle.cl_types.specs.declared.operations.TxnId.{TxnId}
use Rattle.cl_world.specs.Actors.{is_here}
use Rattle.cl_world.specs.Left.{IsKeptOf}
use Rattle.cl_world.specs.Running.{IsLeftOf, happened}
use Rattle.cl_world.specs.World.{IsWorldOf, IsWhole}
use Rattle.cl_world.specs.declared.kept.Kept.{Kept}
use Rattle.cl_world.specs.declared.world.World.{World}
use Rattle.clustra.specs.Answering.{HasMade, Served}
use Rattle.clustra.specs.Run.{IsMade, always, cluster, full_text_with, texts_in}
use Rattle.clustra.specs.RunEnds.{EndsSink, GoesOn, HasActorsBeside, HasAllActors, IsGuaranteed, Ran}
use Rattle.clustra.specs.declared.ended.TheConstants.{DONE}
use Rattle.clustra.proofs.Feeds.{all_fed, first_feeds}
use Rattle.clustra.proofs.Rests.{first_run, rests_after}

-- the laws of runs
pub record RunLaws : Type 0 where
  pub serializable : RunsAreSerializable
  pub replicas : ReplicasAgree
  pub members : EachHasMembers
  pub follow : StandbysFollow
  pub held : MembersHold
  pub equal : QuietMembersAreEqual
  pub causes : RunsNameTrueCauses
  pub fed : LinesAreFed
  pub rest : RestAnswersAll
  pub histories : HistoriesGoOn
  pub logs : LogsGoOn
  pub unbroken : RunsReplayUnbroken
  pub broken : RunsKeepBrokenOut

-- the program's cluster is a lawful one
pub lawful_size : IsClusterSize cluster.nodes cluster.spares
lawful_size = record { counted = refl; few_spares = omega arith }

-- the run that a world has made is a run
is_run_of : (world : World) (run : Run) → HasMade world run → IsRun (system cluster.nodes) cluster run
is_run_of world run (inl is) = is.is_run
is_run_of world run (inr left) = left.is_run

guaranteed : RunLaws → (run : Run) → IsRun (system cluster.nodes) cluster run → IsGuaranteed cluster run
guaranteed laws run is =
    let wide = runs_are_wide (system cluster.nodes) cluster run is in
    record {
      serializable = laws.serializable cluster run lawful_size wide;
      replicas = laws.replicas cluster run lawful_size wide;
      members = laws.members cluster run lawful_size wide;
      follow = laws.follow cluster run lawful_size wide;
      held = laws.held cluster run lawful_size wide;
      unbroken = laws.unbroken cluster run lawful_size wide;
    }

-- a longer run keeps what the run has decided
goes_on : RunLaws → (run more : Run) → IsRun (system cluster.nodes) cluster (run ++ more) → GoesOn cluster run more
goes_on laws run more is =
    let wide = runs_are_wide (system cluster.nodes) cluster (run ++ more) is in
    record {
      history = laws.histories cluster run more lawful_size wide;
      logs = λ v before after. laws.logs cluster run more v before after lawful_size wide;
      broken = laws.broken cluster run more lawful_size wide;
    }

-- the lines that were fed are the first of those that were read
feeds_first : RunLaws → (setting : Setting) (status : ℕ) (read : List ℕ) (run : Run) (unfinished : Bool) → IsRun (system cluster.nodes) cluster run →
    IsMade setting status (texts_in read) run unfinished → FeedsFirstLines (transcript_after cluster run) read
feeds_first laws setting status read run unfinished is made =
    let first = first_feeds cluster setting always made.count (texts_in read) made.last made.more made.rest made.turns made.happens in
    let fed : fed_lines (transcript_after cluster run) ≡ feeds_in (made.last.run ++ made.more) = laws.fed cluster run lawful_size
    (runs_are_wide (system cluster.nodes) cluster run is) ∙ ap feeds_in made.run_is in
    (first.0, first.1 ∙ ap (λ all. all ++ first.0) (sym fed))

-- what happened in a run that is done
done_quiet : (setting : Setting) (status : ℕ) (lines : List (List ℕ)) (run : Run) (unfinished : Bool) (made : IsMade setting status lines run unfinished) →
    status ≡ DONE → happened made.more ≡ quiet ∷ []
done_quiet setting status lines run unfinished made done =
    let over = made.done done in
    sym (append-nil (happened made.more))
    ∙ ap (λ rest. happened made.more ++ rest) (sym over.1)
    ∙ made.happens
    ∙ ap (to_happen cluster setting always made.last) over.0

-- all of them, where the run is done
feeds_all : RunLaws → (setting : Setting) (status : ℕ) (read : List ℕ) (run : Run) (unfinished : Bool) → IsRun (system cluster.nodes) cluster run →
    IsMade setting status (texts_in read) run unfinished → status ≡ DONE → fed_lines (transcript_after cluster run) ≡ lines_of read
feeds_all laws setting status read run unfinished is made done =
    laws.fed cluster run lawful_size (runs_are_wide (system cluster.nodes) cluster run is)
    ∙ ap feeds_in made.run_is
    ∙ all_fed cluster setting always made.count (texts_in read) made.last made.more made.turns (made.done done).0
    (done_quiet setting status (texts_in read) run unfinished made done)

-- a run that is done has answered every line
answers_all : RunLaws → (setting : Setting) (status : ℕ) (lines : List (List ℕ)) (run : Run) (unfinished : Bool) → IsRun (system cluster.nodes) cluster run →
    IsMade setting status lines run unfinished → status ≡ DONE → EveryLineAnswered (transcript_after cluster run)
answers_all laws setting status lines run unfinished is made done =
    let whole : IsRun (system cluster.nodes) cluster (made.last.run ++ made.more) = subst (λ (all : Run). IsRun (system cluster.nodes) cluster all) made.run_is is in
    let rests = rests_after cluster made.last.run made.more (and_parts (length made.last.left == 0) _ (made.done done).0).1
    (done_quiet setting status lines run unfinished made done) in
    subst (λ (all : Run). EveryLineAnswered (transcript_after cluster all)) (sym made.run_is)
    (laws.rest cluster (made.last.run ++ made.more) lawful_size (runs_are_wide (system cluster.nodes) cluster (made.last.run ++ made.more) whole) rests)

-- what is kept of a whole world has all actors
all_there : (world : World) (kept : Kept) (run : Run) → IsKeptOf cluster kept run → is_some kept.front ≡ is_here world.actors.front →
    kept.nodes.items ≡ world.actors.members.items → IsWhole cluster world → HasAllActors kept
all_there world kept run is front nodes whole = record {
  front = front ∙ whole.front;
  nodes = λ actor within.
      let counted = is.counted in
      let below : actor < cluster.nodes + cluster.spares = omega (arith, counted, within) in
      subst (λ (items : List (Option Node)). IsSome (get_or items actor None)) (sym nodes) (whole.members actor below);
}

-- what is kept of a world has the actors that the world has
others_there : (world : World) (kept : Kept) (run : Run) → IsKeptOf cluster kept run → is_some kept.front ≡ is_here world.actors.front →
    kept.nodes.items ≡ world.actors.members.items → (rest : List Happening) → AreOthersIn cluster world rest → HasActorsBeside kept rest
others_there world kept run is front nodes [] whole = all_there world kept run is front nodes whole
others_there world kept run is front nodes (happening ∷ rest) others = record {
  front = λ ne. front ∙ others.front ne;
  nodes = λ actor within ne.
      let counted = is.counted in
      let below : actor < cluster.nodes + cluster.spares = omega (arith, counted, within) in
      subst (λ (items : List (Option Node)). IsSome (get_or items actor None)) (sym nodes) (others.members actor below ne);
}

-- a run that was served, and what is kept of it
pub ran_of : {S K : Type 0} (left_of : S → Option (List ℕ)) (source_faults : S → ℕ) (written_of flushed_of : K → Option (List ℕ)) (sink_faults : K → ℕ)
    (source source' : S) (sink sink' : K) (setting : Setting) (status : ℕ) (world : World) (kept : Kept) → RunLaws →
    (served : Served left_of source_faults written_of flushed_of sink_faults source source' sink sink' setting status world) →
    IsKeptOf cluster kept served.answered.run →
    is_some kept.front ≡ is_here world.actors.front → kept.nodes.items ≡ world.actors.members.items →
    Ran left_of source_faults written_of flushed_of sink_faults source source' sink sink' setting status kept
ran_of left_of source_faults written_of flushed_of sink_faults source source' sink sink' setting status world kept laws served is kept_front nodes =
    let run : Run = served.answered.run in
    let is_run = is_run_of world run served.answered.has_made in
    let shown : transcript_after cluster run ≡ transcript_of kept.transcript = sym is.transcript in
    let history : history_after cluster run ≡ entries kept.history = sym is.history in
    let explained = (guaranteed laws run is_run).serializable in
    record {
      run = run;
      is_run = is_run;
      left = is;
      there = λ short spent. all_there world kept run is kept_front nodes (served.answered.whole short spent);
      serializable = subst (λ (h : List TxnId). Serializable (transcript_of kept.transcript) h) history
          (subst (λ (t : List TranscriptEntry). Serializable t (history_after cluster run)) shown explained);
      at_each = λ first back split. guaranteed laws first (first_run cluster first back
          (subst (λ (all : Run). IsRun (system cluster.nodes) cluster all) split is_run));
      equal = λ first back split. laws.equal cluster first lawful_size
          (first_run cluster first back (subst (λ (all : Run). IsRun (system cluster.nodes) cluster all) split is_run));
      goes_on = λ first more back split. goes_on laws first more (first_run cluster (first ++ more) back
          (subst (λ (all : Run). IsRun (system cluster.nodes) cluster all) split is_run));
      causes = laws.causes cluster run lawful_size is_run;
      answered = λ done. subst (λ (t : List TranscriptEntry). EveryLineAnswered t) shown
          (answers_all laws setting status (texts_in served.read) run served.answered.unfinished is_run served.answered.made done);
      nothing_fed = served.nothing_fed;
      read = served.read;
      unfinished = served.answered.unfinished;
      reads = record {
        bytes = served.bytes;
        too_much = served.too_much;
        made = served.answered.made;
        first_lines = subst (λ (t : List TranscriptEntry). FeedsFirstLines t served.read) shown
            (feeds_first laws setting status served.read run served.answered.unfinished is_run served.answered.made);
        all_lines = λ done. ap fed_lines (sym shown) ∙ feeds_all laws setting status served.read run served.answered.unfinished is_run served.answered.made done;
      };
      others = others_there world kept run is kept_front nodes served.answered.made.rest served.answered.others;
      source_ends = served.source_ends;
      sink_ends = subst (λ (t : List TranscriptEntry). EndsSink written_of flushed_of sink_faults sink sink' status
          (full_text_with (texts_in served.read) t served.answered.unfinished)) shown served.answered.sink_ends;
    }

-- what is kept of a world is of the run that it has made
pub kept_of : (world : World) (kept : Kept) (run : Run) → HasMade world run →
    ((shape : Shape) (run : Run) → IsLeftOf shape world run → IsKeptOf shape kept run) →
    ((shape : Shape) (run : Run) → IsWorldOf shape world run → IsKeptOf shape kept run) → IsKeptOf cluster kept run
kept_of world kept run (inl is) left made = made cluster run is
kept_of world kept run (inr is) left made = left cluster run is
