-- The members of a virtual node, entry by entry.
use Rattle.std.proofs.Common.{◌≡◌, ◌≢◌, ℕ, ◌+◌, ◌%◌, ◌<◌, ◌≤◌, ◌==◌, true, false, not, List, [], ◌∷◌, ◌++◌, Option, Some, None, inl, inr, refl, sym, ap, ◌∙◌, subst, arith}
use Rattle.std.proofs.lemmas.Bool.{or_cases, or_left, eqb-true, ne_eqb, cond_both, cases_lt}
use Rattle.std.proofs.lemmas.Bool.Decides.{nat_tests}
use Rattle.std.proofs.Math.Nat.{mod-eq_of_lt, mod_self}
use Rattle.cl_types.proofs.PlacementLaws.{node_count-bounds}
use Rattle.cl_roster.specs.declared.entry.RosterEntry.{RosterEntry}
use Rattle.cl_roster.specs.declared.entry.RosterEntry.TheVariants.{Stopped, Repaired}
use Rattle.cl_roster.specs.declared.roles.Roles.{Roles}
use Rattle.cl_roster.specs.Roles.{first_roles, after_stop, after_entry, is_member, is_only_member, is_standby, roles_after}
use Rattle.cl_roster.specs.Roster.{is_living, has_stopped, IsClusterSize, IsLawfulRepair, IsLawfulEntry, IsLawfulRoster}
use Rattle.cl_roster.specs.Members.{AreSoundMembers}
use Rattle.cl_roster.proofs.Steps.{or-false, has_stopped-push, roles_after-push}
use Rattle.cl_roster.proofs.Verdict.{IsAdmitted-from}
use Rattle.cl_roster.proofs.Lawful.{along}

-- who is a member after a stop was one before, and is not the node that stopped
pub member-after_stop : (n primary : ℕ) (standby : Option ℕ) →
    let roles : Roles = record { primary = primary; standby = standby } in
    is_only_member roles n ≡ false → is_standby standby primary ≡ false →
    (m : ℕ) → is_member (after_stop n roles) m ≡ true → (is_member roles m ≡ true) × (m ≢ n)
member-after_stop n primary None only different m h = grind (arith, nat_tests)
member-after_stop n primary (Some s) only different m h = grind (arith, nat_tests)

-- after a stop the members differ
pub different-after_stop : (n primary : ℕ) (standby : Option ℕ) →
    let roles : Roles = record { primary = primary; standby = standby } in
    is_standby standby primary ≡ false → is_standby (after_stop n roles).standby (after_stop n roles).primary ≡ false
different-after_stop n primary None different = grind (arith, nat_tests)
different-after_stop n primary (Some s) different = grind (arith, nat_tests)

-- a living node lives on after the stop of another
pub is_living-stopped : (entries : List RosterEntry) (n m : ℕ) → m ≢ n → is_living entries m ≡ true →
    is_living (entries ++ Stopped n ∷ []) m ≡ true
is_living-stopped entries n m apart lives =
    let e = has_stopped-push entries (Stopped n) m in grind (arith, nat_tests)

-- a repair stops no node
pub is_living-repaired : (entries : List RosterEntry) (v n m : ℕ) →
    is_living (entries ++ Repaired v n ∷ []) m ≡ is_living entries m
is_living-repaired entries v n m = ap not (has_stopped-push entries (Repaired v n) m ∙ or-false (has_stopped entries m))

sound-stopped : (nodes spares : ℕ) (entries : List RosterEntry) (n : ℕ) (roles : Roles) →
    is_only_member roles n ≡ false → AreSoundMembers nodes spares entries roles →
    AreSoundMembers nodes spares (entries ++ Stopped n ∷ []) (after_stop n roles)
sound-stopped nodes spares entries n roles only sound =
    let was = member-after_stop n roles.primary roles.standby only sound.different in
    record {
      known = λ m h. sound.known m (was m h).0;
      living = λ m h. is_living-stopped entries n m (was m h).1 (sound.living m (was m h).0);
      different = different-after_stop n roles.primary roles.standby sound.different;
    }

same_living : (nodes spares : ℕ) (entries : List RosterEntry) (v n : ℕ) (roles : Roles) →
    AreSoundMembers nodes spares entries roles → AreSoundMembers nodes spares (entries ++ Repaired v n ∷ []) roles
same_living nodes spares entries v n roles sound = record {
  known = sound.known;
  living = λ m h. is_living-repaired entries v n m ∙ sound.living m h;
  different = sound.different;
}

sound-paired : (nodes spares : ℕ) (entries : List RosterEntry) (n : ℕ) (roles : Roles) →
    n < nodes + spares → is_living entries n ≡ true → is_member roles n ≡ false →
    AreSoundMembers nodes spares entries roles →
    AreSoundMembers nodes spares entries (record { primary = roles.primary; standby = Some n })
sound-paired nodes spares entries n roles known lives apart sound = record {
  known = λ m h. elim (or_cases (roles.primary == m) (n == m) h) [
    | inl primary ↦ sound.known m (or_left (roles.primary == m) (is_standby roles.standby m) primary)
    | inr standby ↦ subst (λ (k : ℕ). k < nodes + spares) (eqb-true n m standby) known
  ];
  living = λ m h. elim (or_cases (roles.primary == m) (n == m) h) [
    | inl primary ↦ sound.living m (or_left (roles.primary == m) (is_standby roles.standby m) primary)
    | inr standby ↦ subst (λ (k : ℕ). is_living entries k ≡ true) (eqb-true n m standby) lives
  ];
  different = grind (arith, nat_tests);
}

sound-repaired : (nodes spares : ℕ) (entries : List RosterEntry) (v w n : ℕ) →
    IsLawfulRepair nodes spares entries w n → AreSoundMembers nodes spares entries (roles_after nodes entries v) →
    AreSoundMembers nodes spares (entries ++ Repaired w n ∷ []) (after_entry v (roles_after nodes entries v) (Repaired w n))
sound-repaired nodes spares entries v w n lawful sound =
    let roles = roles_after nodes entries v in
    cond_both (w == v) (record { primary = roles.primary; standby = Some n }) roles
    (λ (r : Roles). AreSoundMembers nodes spares (entries ++ Repaired w n ∷ []) r)
    (λ same. same_living nodes spares entries w n (record { primary = roles.primary; standby = Some n })
    (sound-paired nodes spares entries n roles lawful.node lawful.living
    (subst (λ (u : ℕ). is_member (roles_after nodes entries u) n ≡ false) (eqb-true w v same) lawful.no_member) sound))
    (λ other. same_living nodes spares entries w n roles sound)

-- a lawful entry keeps the members of each virtual node sound
pub AreSoundMembers-push : (nodes spares : ℕ) (entries : List RosterEntry) (entry : RosterEntry) (v : ℕ) → v < nodes →
    IsLawfulEntry nodes spares entries entry → AreSoundMembers nodes spares entries (roles_after nodes entries v) →
    AreSoundMembers nodes spares (entries ++ entry ∷ []) (roles_after nodes (entries ++ entry ∷ []) v)
AreSoundMembers-push nodes spares entries (Stopped n) v below lawful sound =
    subst (λ (r : Roles). AreSoundMembers nodes spares (entries ++ Stopped n ∷ []) r) (sym (roles_after-push nodes entries (Stopped n) v))
    (sound-stopped nodes spares entries n (roles_after nodes entries v) ((IsAdmitted-from nodes spares entries n lawful).not_last v below) sound)
AreSoundMembers-push nodes spares entries (Repaired w n) v below lawful sound =
    subst (λ (r : Roles). AreSoundMembers nodes spares (entries ++ Repaired w n ∷ []) r) (sym (roles_after-push nodes entries (Repaired w n) v))
    (sound-repaired nodes spares entries v w n lawful sound)

-- the next node round the cluster is another one
next_node : (nodes v : ℕ) → 2 ≤ nodes → v < nodes → ((v + 1) % nodes < nodes) × ((v + 1) % nodes ≢ v)
next_node nodes v some below = elim (cases_lt (v + 1) nodes) [
  | inl inside ↦ (let e : (v + 1) % nodes ≡ v + 1 = mod-eq_of_lt inside in (omega arith, λ same. omega arith))
  | inr past ↦ (let e : (v + 1) % nodes ≡ 0 = ap (λ k. k % nodes) (omega arith) ∙ mod_self nodes in (omega arith, λ same. omega arith))
]

sound-first : (nodes spares v : ℕ) → 2 ≤ nodes → v < nodes → AreSoundMembers nodes spares [] (first_roles nodes v)
sound-first nodes spares v some below =
    let next = next_node nodes v some below in
    record {
      known = λ m h. elim (or_cases (v == m) ((v + 1) % nodes == m) h) [
        | inl primary ↦ (let e = eqb-true v m primary in omega arith)
        | inr standby ↦ (let e = eqb-true ((v + 1) % nodes) m standby in omega arith)
      ];
      living = λ m h. refl;
      different = ne_eqb ((v + 1) % nodes) v next.1;
    }

-- the members of each virtual node of a lawful roster are sound
pub AreSoundMembers-lawful : (nodes spares : ℕ) (entries : List RosterEntry) (v : ℕ) → IsClusterSize nodes spares → v < nodes →
    IsLawfulRoster nodes spares entries → AreSoundMembers nodes spares entries (roles_after nodes entries v)
AreSoundMembers-lawful nodes spares entries v size below lawful =
    along nodes spares (λ xs. AreSoundMembers nodes spares xs (roles_after nodes xs v))
    (λ xs entry _ next sound. AreSoundMembers-push nodes spares xs entry v below next sound)
    (sound-first nodes spares v (node_count-bounds nodes size.counted).0 below) entries lawful
