-- The two sites of a virtual node's members.
use Rattle.std.proofs.Common.{◌≡◌, ◌≢◌, ℕ, ◌+◌, ◌%◌, ◌<◌, ◌≤◌, ◌==◌, cond, List, [], ◌∷◌, ◌++◌, Option, Some, None, inl, inr, refl, sym, ap, ◌∙◌, subst, arith}
use Rattle.std.proofs.lemmas.Bool.{eqb-true, cond_both, cases_lt}
use Rattle.std.proofs.Math.Nat.{mod-eq_of_lt, mod_self}
use Rattle.cl_types.proofs.PlacementLaws.{node_count-even, node_count-bounds}
use Rattle.cl_roster.specs.declared.entry.RosterEntry.{RosterEntry}
use Rattle.cl_roster.specs.declared.entry.RosterEntry.TheVariants.{Stopped, Repaired}
use Rattle.cl_roster.specs.declared.roles.Roles.{Roles}
use Rattle.cl_roster.specs.Roles.{first_roles, after_stop, after_entry, promoted, is_standby, roles_after}
use Rattle.cl_roster.specs.Roster.{site, IsClusterSize}
use Rattle.cl_roster.specs.Members.{AreOnTwoSites, Crosses, RepairsCrossSites}
use Rattle.cl_roster.proofs.Lawful.{EachFits-prefix}
use Rattle.cl_roster.proofs.Lists.{kept_along}
use Rattle.cl_roster.proofs.Steps.{roles_after-push}

-- one member is on one site
two_sites-alone : (primary : ℕ) → AreOnTwoSites (record { primary = primary; standby = None })
two_sites-alone primary = record { apart = λ n e. cc }

promoted_sites : (primary : ℕ) (standby : Option ℕ) → AreOnTwoSites (promoted primary standby)
promoted_sites primary None = two_sites-alone primary
promoted_sites primary (Some m) = two_sites-alone m

-- a stop leaves no two members on one site
pub AreOnTwoSites-stopped : (n : ℕ) (roles : Roles) → AreOnTwoSites roles → AreOnTwoSites (after_stop n roles)
AreOnTwoSites-stopped n roles apart =
    cond_both (roles.primary == n) (promoted roles.primary roles.standby)
    (cond (is_standby roles.standby n) (record { primary = roles.primary; standby = None }) roles) AreOnTwoSites
    (λ _. promoted_sites roles.primary roles.standby)
    (λ _. cond_both (is_standby roles.standby n) (record { primary = roles.primary; standby = None }) roles AreOnTwoSites
    (λ _. two_sites-alone roles.primary) (λ _. apart))

-- nor does a repair by a node of the other site
pub AreOnTwoSites-repaired : (nodes : ℕ) (entries : List RosterEntry) (v w n : ℕ) →
    site n ≢ site (roles_after nodes entries w).primary → AreOnTwoSites (roles_after nodes entries v) →
    AreOnTwoSites (after_entry v (roles_after nodes entries v) (Repaired w n))
AreOnTwoSites-repaired nodes entries v w n other apart =
    let roles = roles_after nodes entries v in
    cond_both (w == v) (record { primary = roles.primary; standby = Some n }) roles AreOnTwoSites
    (λ same. record {
      apart = λ m e.
          (let is_n : n ≡ m = cc in
          subst (λ (k : ℕ). site k ≢ site roles.primary) is_n
          (subst (λ (u : ℕ). site n ≢ site (roles_after nodes entries u).primary) (eqb-true w v same) other));
    })
    (λ _. apart)

two_sites-push : (nodes : ℕ) (entries : List RosterEntry) (entry : RosterEntry) (v : ℕ) →
    RepairsCrossSites nodes (entries ++ entry ∷ []) → AreOnTwoSites (roles_after nodes entries v) →
    AreOnTwoSites (after_entry v (roles_after nodes entries v) entry)
two_sites-push nodes entries (Stopped n) v crosses apart = AreOnTwoSites-stopped n (roles_after nodes entries v) apart
two_sites-push nodes entries (Repaired w n) v crosses apart =
    AreOnTwoSites-repaired nodes entries v w n (crosses.each entries (Repaired w n) [] refl) apart

two_sites-first : (nodes v : ℕ) → nodes % 2 ≡ 0 → 2 ≤ nodes → v < nodes → AreOnTwoSites (first_roles nodes v)
two_sites-first nodes v even some below = record {
  apart = λ n e. elim (cases_lt (v + 1) nodes) [
    | inl inside ↦
        (let next : (v + 1) % nodes ≡ v + 1 = mod-eq_of_lt inside in
        let is_n : (v + 1) % nodes ≡ n = cc in
        λ same. omega arith)
    | inr past ↦
        (let next : (v + 1) % nodes ≡ 0 = ap (λ k. k % nodes) (omega arith) ∙ mod_self nodes in
        let is_n : (v + 1) % nodes ≡ n = cc in
        λ same. omega arith)
  ];
}

-- where each repair crosses, the members of each virtual node are on two sites
pub AreOnTwoSites-crossing : (nodes spares : ℕ) (entries : List RosterEntry) (v : ℕ) → IsClusterSize nodes spares → v < nodes →
    RepairsCrossSites nodes entries → AreOnTwoSites (roles_after nodes entries v)
AreOnTwoSites-crossing nodes spares entries v size below =
    kept_along (λ (xs : List RosterEntry). RepairsCrossSites nodes xs → AreOnTwoSites (roles_after nodes xs v))
    (λ xs entry keeps crosses.
    subst AreOnTwoSites (sym (roles_after-push nodes xs entry v))
    (two_sites-push nodes xs entry v crosses (keeps (EachFits-prefix (Crosses nodes) xs (entry ∷ []) crosses))))
    [] entries (λ _. two_sites-first nodes v (node_count-even nodes size.counted) (node_count-bounds nodes size.counted).0 below)
