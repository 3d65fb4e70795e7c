-- What was gathered is what the transcript has.
use Rattle.std.proofs.Common.{◌≡◌, IfOk, subst}
use Rattle.cl_types.specs.AppendOnlyList.{entries}
use Rattle.cl_serial.specs.Transcript.{transcript_of}
use Rattle.cl_serial.specs.Transactions.{commands_in, numbered, commands_of}
use Rattle.cl_serial.specs.Gathering.{commands_at}
use Rattle.cl_serial.specs.Verdict.{Commands, VerdictOn}
use Rattle.cl_serial.proofs.replaying.replay.Goals as goal

pub returns : goal.returns
returns c =
    let same : commands_at c.in_ok-sessions.sessions ≡ commands_of (transcript_of c.args.transcript.now) =
    λ i name. commands_in (numbered (c.in_ok-sessions.ensures name.session i) name.number) in
    subst (λ (commands : Commands). IfOk c.judge.result (λ verdict. VerdictOn commands (entries c.args.history.now) verdict)) same c.judge.ensures
