use Rattle.clustra.proofs.Waiting.{lines_end}
use Rattle.clustra.proofs.lines.split_lines.Goals as goal

pub returns : goal.returns
returns c = lines_end _ _ _ c.loop-rest-test.ensures c.loop-rest.invariant
