use Rattle.std.proofs.Common.{◌≡◌, ◌++◌, ◌∷◌, []}
use Rattle.cl_types.specs.AppendOnlyList.{entries}
use Rattle.cl_roster.proofs.Lawful.{IsLawfulRoster-push}
use Rattle.cl_roster.proofs.roster.Roster.push.Goals as goal

pub invariant_of-self-2 : goal.invariant_of-self-2
invariant_of-self-2 c =
    let kept = c.self.invariant in
    let roster = c.self.inside in
    let longer : entries c.push.new.self ≡ entries roster.entries ++ c.args.entry ∷ [] = c.in_ok-push.ensures.ok in
    record {
      size = kept.size;
      lawful = rw longer (IsLawfulRoster-push roster.nodes roster.spares (entries roster.entries) c.args.entry kept.lawful (rw (← c.self.view_is) at c.requires));
      stands = rw longer (c.note.ensures roster.nodes (entries roster.entries) kept.stands);
    }
