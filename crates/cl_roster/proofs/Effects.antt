-- What one entry more makes of the roles of a virtual node.
use Rattle.std.proofs.Common.{◌≡◌, ◌≢◌, ℕ, ◌<◌, ◌==◌, true, false, List, [], ◌∷◌, ◌++◌, Option, Some, None, Ok, refl, sym, ap, ◌∙◌, subst, arith}
use Rattle.std.proofs.lemmas.Bool.{eq-eqb, ne_eqb, cond-true, cond-false, or_left, both_ways, not-true}
use Rattle.std.proofs.lemmas.Bool.Decides.{nat_tests}
use Rattle.cl_roster.specs.declared.entry.RosterEntry.{RosterEntry}
use Rattle.cl_roster.specs.declared.entry.RosterEntry.TheVariants.{Stopped, Repaired}
use Rattle.cl_roster.specs.declared.roles.Roles.{Roles}
use Rattle.cl_roster.specs.Roles.{after_stop, is_member, is_standby, roles_after}
use Rattle.cl_roster.specs.Roster.{is_living, has_stopped, stop_verdict, IsClusterSize, IsLawfulRoster}
use Rattle.cl_roster.specs.Laws.{TakesOut, PutsIn}
use Rattle.cl_roster.proofs.Lawful.{IsLawfulRoster-push}
use Rattle.cl_roster.proofs.Members.{AreSoundMembers-lawful}
use Rattle.cl_roster.proofs.Steps.{roles_after-push, has_stopped-stopped}

out_no_member : (n primary : ℕ) (standby : Option ℕ) →
    let roles : Roles = record { primary = primary; standby = standby } in
    is_member roles n ≡ false → after_stop n roles ≡ roles
out_no_member n primary None apart = grind (arith, nat_tests)
out_no_member n primary (Some s) apart = grind (arith, nat_tests)

out_primary : (n primary : ℕ) (standby : Option ℕ) (m : ℕ) →
    let roles : Roles = record { primary = primary; standby = standby } in
    primary ≡ n → standby ≡ Some m → after_stop n roles ≡ record { primary = m; standby = None }
out_primary n primary None m is paired = cc
out_primary n primary (Some s) m is paired =
    let same : s ≡ m = cc in
    cond-true (primary == n) _ _ (eq-eqb primary n is) ∙ ap (λ k. record { primary = k; standby = None }) same

out_standby : (n primary : ℕ) (standby : Option ℕ) →
    let roles : Roles = record { primary = primary; standby = standby } in
    primary ≢ n → standby ≡ Some n → after_stop n roles ≡ record { primary = primary; standby = None }
out_standby n primary None other paired = cc
out_standby n primary (Some s) other paired =
    let same : s ≡ n = cc in
    cond-false (primary == n) _ _ (ne_eqb primary n other) ∙ cond-true (s == n) _ _ (eq-eqb s n same)

pub TakesOut-after_stop : (n : ℕ) (roles : Roles) → TakesOut n roles (after_stop n roles)
TakesOut-after_stop n roles = record {
  no_member = out_no_member n roles.primary roles.standby;
  primary = out_primary n roles.primary roles.standby;
  standby = out_standby n roles.primary roles.standby;
}

-- what a stop makes of the roles of a virtual node
pub TakesOut-roles_after : (nodes : ℕ) (entries : List RosterEntry) (n v : ℕ) →
    TakesOut n (roles_after nodes entries v) (roles_after nodes (entries ++ Stopped n ∷ []) v)
TakesOut-roles_after nodes entries n v =
    subst (λ (r : Roles). TakesOut n (roles_after nodes entries v) r) (sym (roles_after-push nodes entries (Stopped n) v))
    (TakesOut-after_stop n (roles_after nodes entries v))

-- what a repair makes of the roles of a virtual node
pub PutsIn-roles_after : (nodes : ℕ) (entries : List RosterEntry) (w n v : ℕ) →
    PutsIn w n v (roles_after nodes entries v) (roles_after nodes (entries ++ Repaired w n ∷ []) v)
PutsIn-roles_after nodes entries w n v =
    let old = roles_after nodes entries v in
    let step = roles_after-push nodes entries (Repaired w n) v in
    record {
      repaired = λ same. step ∙ cond-true (w == v) (record { primary = old.primary; standby = Some n }) old (eq-eqb w v (sym same));
      others = λ apart. step ∙ cond-false (w == v) (record { primary = old.primary; standby = Some n }) old (ne_eqb w v (λ e. apart (sym e)));
    }

-- after an admitted stop the primary of each virtual node lives, and is not the node that stopped
pub primary_after_stop : (nodes spares : ℕ) (entries : List RosterEntry) (n v : ℕ) → IsClusterSize nodes spares → v < nodes →
    IsLawfulRoster nodes spares entries → stop_verdict nodes spares entries n ≡ Ok tt →
    let after = entries ++ Stopped n ∷ [] in
    (is_living after (roles_after nodes after v).primary ≡ true) × ((roles_after nodes after v).primary ≢ n)
primary_after_stop nodes spares entries n v size below lawful admitted =
    let after = entries ++ Stopped n ∷ [] in
    let roles = roles_after nodes after v in
    let sound = AreSoundMembers-lawful nodes spares after v size below (IsLawfulRoster-push nodes spares entries (Stopped n) lawful admitted) in
    let lives = sound.living roles.primary (or_left (roles.primary == roles.primary) (is_standby roles.standby roles.primary) (eq-eqb roles.primary roles.primary refl)) in (
      lives,
      λ same.
          both_ways (has_stopped after n)
          (subst (λ (k : ℕ). has_stopped after k ≡ false) same (not-true (has_stopped after roles.primary) lives))
          (has_stopped-stopped entries n),
    )
