use Rattle.std.proofs.Common.{◌≡◌, ◌≤◌, count_by, take}
use Rattle.cl_serial.specs.Transcript.{transcript_entry}
use Rattle.clustra.specs.Counting.{is_answer_to}
use Rattle.clustra.proofs.pending.count_answers.Given as goal

-- the answers so far
abbrev pub invariant-loop-said : goal.invariant-loop-said
invariant-loop-said l = record {
  counted : l.count ≡ count_by (λ said. is_answer_to l.session (transcript_entry said)) (take l.said-index l.said-items);
  within : l.count ≤ l.said-index;
}
