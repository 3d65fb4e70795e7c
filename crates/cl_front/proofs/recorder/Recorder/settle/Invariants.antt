use Rattle.std.proofs.Common.{◌≡◌, ◌++◌, ◌≤◌, length, map}
use Rattle.cl_serial.specs.Transcript.{transcript_entry, transcript_of}
use Rattle.cl_types.specs.AppendOnlyList.{room}
use Rattle.cl_front.proofs.recorder.Recorder.settle.Given as goal

abbrev pub invariant-loop-said : goal.invariant-loop-said
invariant-loop-said l = record {
  moved : transcript_of l.self-inside.transcript ++ map transcript_entry l.self-inside.aside.items
      ≡ transcript_of l.initial.self-inside.transcript ++ map transcript_entry l.initial.self-inside.aside.items;
  roomy : length l.self-inside.aside.items ≤ room l.self-inside.transcript;
}

abbrev pub decreases-loop-said : goal.decreases-loop-said
decreases-loop-said l = length l.self-inside.aside.items
