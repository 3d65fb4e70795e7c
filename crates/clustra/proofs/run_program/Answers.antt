-- What is kept says what was done; nothing was where an allocation failed before the words or the cluster could be had.
use Rattle.std.proofs.Common.{ℕ}
use Rattle.cl_schedule.specs.declared.setting.Setting.{Setting}
use Rattle.cl_world.specs.declared.kept.Kept.{Kept}
use Rattle.clustra.specs.RunEnds.{Ran}
use Rattle.clustra.proofs.Asked.{program_ran, program_status}
use Rattle.clustra.proofs.run_program.Goals as goal

pub returns-in-Ok-clause-ran : goal.returns-in-Ok-clause-ran
returns-in-Ok-clause-ran g c = λ begun.
    program_ran _ _ _ _ _ c.run_words.result.kept _ _
    (λ (code : ℕ) (setting : Setting) (kept : Kept).
    Ran g.S.Source.left g.S.Source.faults g.K.Sink.written g.K.Sink.flushed g.K.Sink.faults c.args.source.now c.run_words.new.source c.args.sink.now
    c.run_words.new.sink setting code kept)
    c.from.ensures begun c.run_words.ensures.untouched c.run_words.ensures.ran

pub returns-in-Ok-clause-status : goal.returns-in-Ok-clause-status
returns-in-Ok-clause-status g c = program_status _ _ c.from.ensures c.run_words.ensures.status
