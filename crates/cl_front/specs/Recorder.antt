-- The transcript of a front, and what is kept aside.
use Rattle.std.specs.Prelude.{List}
use Rattle.cl_serial.specs.Transcript.{TranscriptEntry}

-- the transcript, and the entries that the last step adds to it once it is settled
pub record RecorderState : Type 0 where
  pub transcript : List TranscriptEntry
  pub aside : List TranscriptEntry
