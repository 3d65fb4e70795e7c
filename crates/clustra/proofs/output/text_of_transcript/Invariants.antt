use Rattle.std.proofs.Common.{◌≡◌, map, take}
use Rattle.std.specs.List.{flat_map}
use Rattle.cl_serial.specs.Transcript.{transcript_entry, entry_text}
use Rattle.clustra.proofs.output.text_of_transcript.Given as goal

abbrev pub invariant-loop-said : goal.invariant-loop-said
invariant-loop-said l = l.text.items ≡ flat_map entry_text (map transcript_entry (take l.said-index l.said-items))
