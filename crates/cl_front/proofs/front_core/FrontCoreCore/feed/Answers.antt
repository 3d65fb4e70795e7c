use Rattle.std.proofs.Common.{Ok, ap, ◌∙◌}
use Rattle.cl_lines.proofs.Readings.{line_of-session}
use Rattle.cl_front.proofs.front_core.FrontCoreCore.feed.Goals as goal

pub offer-requires-clause-session : goal.offer-requires-clause-session
offer-requires-clause-session c = line_of-session c.args.text.now _ _ (c.in-Ok-Client.ensures ∙ ap Ok c.in-Ok-Client.field-0-is)
