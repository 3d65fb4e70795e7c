-- The definitions on a worked case: four nodes and two spares, of which node 1 has stopped.
use Rattle.std.proofs.Common.{◌≡◌, List, [], ◌∷◌, Some, None, Err, refl}
use Rattle.cl_types.specs.declared.answers.StopFault.TheVariants.{Unknown, Down, Last}
use Rattle.cl_roster.specs.declared.entry.RosterEntry.{RosterEntry}
use Rattle.cl_roster.specs.declared.entry.RosterEntry.TheVariants.{Stopped}
use Rattle.cl_roster.specs.Roles.{roles_after}
use Rattle.cl_roster.specs.Roster.{stop_verdict, spare_of}

abbrev one_stopped : List RosterEntry
one_stopped = Stopped 1 ∷ []

standby_gone : roles_after 4 one_stopped 0 ≡ record { primary = 0; standby = None }
standby_gone = refl

standby_promoted : roles_after 4 one_stopped 1 ≡ record { primary = 2; standby = None }
standby_promoted = refl

others_same : roles_after 4 one_stopped 3 ≡ record { primary = 3; standby = Some 0 }
others_same = refl

refused_last : stop_verdict 4 2 one_stopped 2 ≡ Err (Last 1)
refused_last = refl

refused_down : stop_verdict 4 2 one_stopped 1 ≡ Err Down
refused_down = refl

refused_unknown : stop_verdict 4 2 one_stopped 6 ≡ Err Unknown
refused_unknown = refl

spare_on_the_other_site : spare_of 4 2 one_stopped 0 ≡ Some 5
spare_on_the_other_site = refl
