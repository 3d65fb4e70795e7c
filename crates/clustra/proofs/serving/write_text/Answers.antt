-- Each way in which writing ends.
use Rattle.std.proofs.Common.{◌∙◌, inl, inr, refl}
use Rattle.clustra.proofs.Written.{sink_failed, sink_short, sink_unflushed, sink_written}
use Rattle.clustra.proofs.serving.write_text.Goals as goal

pub returns-in_default-clause-sink : goal.returns-in_default-clause-sink
returns-in_default-clause-sink g c = sink_short _ _ _ _ _

pub returns-then-is_err-clause-sink : goal.returns-then-is_err-clause-sink
returns-then-is_err-clause-sink g c =
    sink_failed _ _ _ _ _ _ c.deref.result.now c.write_all.result (c.deref.ensures.value ∙ c.in-Ok.ensures) c.if-is_err.ensures.value c.write_all.ensures.part
    c.write_all.ensures.fault c.write_all.ensures.counted

pub returns-then-is_err-2-clause-sink : goal.returns-then-is_err-2-clause-sink
returns-then-is_err-2-clause-sink g c =
    sink_unflushed _ _ _ _ _ c.write_all.new.sink _ c.deref.result.now c.write_all.result c.flush.result
    (c.deref.ensures.value ∙ c.in-Ok.ensures) c.if-is_err.ensures.value c.write_all.ensures.all c.write_all.ensures.unfaulted
    c.if-is_err-2.ensures.value c.flush.ensures.unchanged c.flush.ensures.fault c.write_all.ensures.counted c.flush.ensures.counted

pub returns-then-unfinished-clause-sink : goal.returns-then-unfinished-clause-sink
returns-then-unfinished-clause-sink g c =
    sink_written _ _ _ _ _ c.write_all.new.sink _ c.deref.result.now c.write_all.result c.flush.result _ (inr refl)
    (c.deref.ensures.value ∙ c.in-Ok.ensures) c.if-is_err.ensures.value c.write_all.ensures.all c.write_all.ensures.unfaulted
    c.if-is_err-2.ensures.value c.flush.ensures.unchanged c.flush.ensures.flushed c.flush.ensures.unfaulted

pub returns-clause-sink : goal.returns-clause-sink
returns-clause-sink g c =
    sink_written _ _ _ _ _ c.write_all.new.sink _ c.deref.result.now c.write_all.result c.flush.result _ (inl refl)
    (c.deref.ensures.value ∙ c.in-Ok.ensures) c.if-is_err.ensures.value c.write_all.ensures.all c.write_all.ensures.unfaulted
    c.if-is_err-2.ensures.value c.flush.ensures.unchanged c.flush.ensures.flushed c.flush.ensures.unfaulted
