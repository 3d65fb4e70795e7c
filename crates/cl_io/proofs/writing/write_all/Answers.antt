use Rattle.std.proofs.Common.{◌∙◌, rules}
use Rattle.std.proofs.lemmas.List.{take_rest}
use Rattle.cl_io.proofs.ToldLemmas.{append_known-more}
use Rattle.cl_io.proofs.writing.write_all.Goals as goal

pub loop-done-preserved : goal.loop-done-preserved
loop-done-preserved g c =
    record {
      within = search rules;
      written = append_known-more _ _ _ c.args.piece.now c.loop-done.done _ c.loop-done.invariant.written (rw take_rest at c.in_ok-done.ensures.taken);
      unfaulted = c.in_ok-done.ensures.unfaulted ∙ c.loop-done.invariant.unfaulted;
    }
