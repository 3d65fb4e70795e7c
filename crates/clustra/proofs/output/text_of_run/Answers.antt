-- The sessions that wait are written where the run is unfinished.
use Rattle.std.proofs.Common.{◌∙◌, ap, vec_items}
use Rattle.cl_schedule.specs.Making.{texts_of}
use Rattle.cl_serial.specs.Transcript.{transcript_of}
use Rattle.clustra.proofs.Waiting.{text_answered, text_waiting}
use Rattle.clustra.proofs.output.text_of_run.Goals as goal
use Rattle.clustra.proofs.output.text_of_run.Goals.{then-unfinished+in_ok-append_pending, else-unfinished}

pub returns : goal.returns
returns c =
    elim c.if-unfinished.branch [
      | then-unfinished+in_ok-append_pending w ↦
          text_waiting (texts_of c.args.lines.now) (transcript_of c.args.transcript.now) c.args.unfinished c.in_ok-text.text.items c.if-unfinished.text.items
          c.in_ok-text.ensures w.if-unfinished.true (ap vec_items w.text-is ∙ w.in_ok-append_pending.ensures)
      | else-unfinished w ↦ text_answered (texts_of c.args.lines.now) (transcript_of c.args.transcript.now) c.args.unfinished c.in_ok-text.text.items
          c.if-unfinished.text.items c.in_ok-text.ensures w.if-unfinished.false (ap vec_items w.text-is)
    ]
