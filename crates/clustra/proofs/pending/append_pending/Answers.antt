-- One session more, which waits or not.
use Rattle.std.proofs.Common.{◌≡◌, ◌∙◌, ap, arith, vec_items}
use Rattle.cl_schedule.specs.Making.{texts_of}
use Rattle.cl_serial.specs.Transcript.{transcript_of}
use Rattle.cl_types.specs.declared.limits.TheConstants.{SESSIONS_MAX}
use Rattle.clustra.proofs.Waiting.{next_answered, next_waits, pending_end}
use Rattle.clustra.proofs.pending.append_pending.Goals as goal
use Rattle.clustra.proofs.pending.append_pending.Goals.{then-waits+in_ok-append_line, else-waits}

pub loop-index-preserved : goal.loop-index-preserved
loop-index-preserved c = record {
  sessions_are = c.loop-index.invariant.sessions_are;
  written = elim c.if-waits.branch [
    | then-waits+in_ok-append_line w ↦
        next_waits (texts_of c.args.lines.now) c.args.transcript.now _ _ _ _ c.loop-index.index c.waits.result
        (c.deref.ensures.value ∙ c.loop-index.invariant.sessions_are) c.loop-index.invariant.written c.waits.ensures w.if-waits.true
        (ap vec_items w.text-is ∙ w.in_ok-append_line.ensures)
    | else-waits w ↦
        next_answered (texts_of c.args.lines.now) c.args.transcript.now _ _ _ _ c.loop-index.index c.waits.result
        (c.deref.ensures.value ∙ c.loop-index.invariant.sessions_are) c.loop-index.invariant.written c.waits.ensures w.if-waits.false
        (ap vec_items w.text-is)
  ];
}

pub returns : goal.returns
returns c =
    let all : c.loop-index.index ≡ SESSIONS_MAX = omega (arith, c.loop-index-test.false, c.loop-index.auto.index-end) in
    pending_end (texts_of c.args.lines.now) (transcript_of c.args.transcript.now) _ _ c.loop-index.index all c.loop-index.invariant.written
