use Rattle.std.proofs.Common.{◌≡◌, ◌<◌, ℕ, List, Option, Some, None, IfSome, sym}
use Rattle.cl_roster.specs.declared.entry.RosterEntry.{RosterEntry}
use Rattle.cl_roster.specs.declared.entry.RosterEntry.TheVariants.{Repaired}
use Rattle.cl_roster.specs.Roles.{roles_after}
use Rattle.cl_roster.specs.Roster.{IsLawfulEntry, spare_of}
use Rattle.cl_roster.proofs.Repairs.{IsLawfulRepair-spare_of}
use Rattle.cl_roster.proofs.roster.Roster.spare_for.Goals as goal

picked : (nodes spares : ℕ) (entries : List RosterEntry) (v : ℕ) (spare : Option ℕ) → v < nodes →
    (roles_after nodes entries v).standby ≡ None → spare ≡ spare_of nodes spares entries v →
    IfSome spare (λ n. IsLawfulEntry nodes spares entries (Repaired v n))
picked nodes spares entries v None below lone e = tt
picked nodes spares entries v (Some n) below lone e = IsLawfulRepair-spare_of nodes spares entries v n below lone (sym e)

pub returns-clause-lawful : goal.returns-clause-lawful
returns-clause-lawful c =
    let roster = c.args.self.now in
    picked roster.nodes roster.spares roster.entries c.args.virtual_node c.lowest_spare.result c.requires.known c.requires.lone c.lowest_spare.ensures
