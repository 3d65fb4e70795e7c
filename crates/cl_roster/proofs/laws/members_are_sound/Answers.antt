use Rattle.cl_roster.proofs.Effects.{primary_after_stop}
use Rattle.cl_roster.proofs.Members.{AreSoundMembers-lawful}
use Rattle.cl_roster.proofs.Sites.{AreOnTwoSites-crossing}
use Rattle.cl_roster.proofs.laws.members_are_sound.Goals as goal

pub returns : goal.returns
returns c = record { sound = AreSoundMembers-lawful; two_sites = AreOnTwoSites-crossing; left = primary_after_stop }
