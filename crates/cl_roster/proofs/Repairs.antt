-- Which repair may come next, and the spare that is picked for it.
use Rattle.std.proofs.Common.{◌≡◌, ◌≢◌, ℕ, ◌+◌, ◌<◌, ◌≤◌, ◌==◌, true, false, ◌||◌, ◌&&◌, cond, not, List, [], ◌∷◌, ◌++◌, Option, Some, None, Result, Ok, Err, ◌⊎◌, inl, inr, refl, sym, ap, ◌∙◌, arith, Bool}
use Rattle.std.proofs.lemmas.Bool.{eq-eqb, ne_eqb, cases_lt, cases_Bool, and_parts, and_from, both_ways, not-true, or_from, not_from_false}
use Rattle.std.proofs.lemmas.Bool.Decides.{nat_tests}
use Rattle.cl_types.specs.declared.answers.StopFault.{StopFault}
use Rattle.cl_roster.specs.declared.entry.RosterEntry.{RosterEntry}
use Rattle.cl_roster.specs.declared.entry.RosterEntry.TheVariants.{Stopped, Repaired}
use Rattle.cl_roster.specs.declared.roles.Roles.{Roles}
use Rattle.cl_roster.specs.Roles.{after_stop, is_member, is_only_member, roles_after}
use Rattle.cl_roster.specs.Roster.{site, is_stop_of, has_stopped, is_living, stop_verdict, IsLawfulRepair, IsLawfulEntry, spare_of}
use Rattle.cl_roster.specs.Verdict.{IsSpareFor, SpareMeans}
use Rattle.cl_roster.proofs.Searches.{find-none, find-some}
use Rattle.cl_roster.proofs.Steps.{or-false, roles_after-push, has_stopped-push}
use Rattle.cl_roster.proofs.Verdict.{IsAdmitted-from}

abbrev serves : ℕ → List RosterEntry → ℕ → ℕ → Bool
serves nodes entries v n = is_living entries n && not (site n == site (roles_after nodes entries v).primary)

spare_from : (nodes spares : ℕ) (entries : List RosterEntry) (v n : ℕ) → nodes ≤ n → n < nodes + spares →
    serves nodes entries v n ≡ true → IsSpareFor nodes spares entries v n
spare_from nodes spares entries v n spare known passes =
    let primary = (roles_after nodes entries v).primary in
    let parts = and_parts (is_living entries n) (not (site n == site primary)) passes in
    record {
      spare = spare;
      known = known;
      living = parts.0;
      apart = λ same. both_ways (site n == site primary) (not-true (site n == site primary) parts.1) (eq-eqb (site n) (site primary) same);
    }

serves_from : (nodes spares : ℕ) (entries : List RosterEntry) (v n : ℕ) → IsSpareFor nodes spares entries v n →
    serves nodes entries v n ≡ true
serves_from nodes spares entries v n spare =
    let primary = (roles_after nodes entries v).primary in
    and_from (is_living entries n) (not (site n == site primary)) spare.living
    (not_from_false (site n == site primary) (ne_eqb (site n) (site primary) spare.apart))

means_spare : (nodes spares : ℕ) (entries : List RosterEntry) (v : ℕ) (spare : Option ℕ) →
    spare_of nodes spares entries v ≡ spare → SpareMeans nodes spares entries v spare
means_spare nodes spares entries v None e = λ n is.
    (let none = find-none (serves nodes entries v) nodes spares e in
    both_ways (serves nodes entries v n) (none.fails n is.spare is.known) (serves_from nodes spares entries v n is))
means_spare nodes spares entries v (Some n) e =
    let first = find-some (serves nodes entries v) nodes spares n e in (
      spare_from nodes spares entries v n first.from_start first.in_range first.passes,
      λ m below is.
          both_ways (serves nodes entries v m) (first.first m is.spare below) (serves_from nodes spares entries v m is),
    )

-- the search for a spare finds the lowest, or there is none
pub SpareMeans-spare_of : (nodes spares : ℕ) (entries : List RosterEntry) (v : ℕ) →
    SpareMeans nodes spares entries v (spare_of nodes spares entries v)
SpareMeans-spare_of nodes spares entries v = means_spare nodes spares entries v (spare_of nodes spares entries v) refl

pub IsSpareFor-spare_of : (nodes spares : ℕ) (entries : List RosterEntry) (v n : ℕ) →
    spare_of nodes spares entries v ≡ Some n → IsSpareFor nodes spares entries v n
IsSpareFor-spare_of nodes spares entries v n e = (means_spare nodes spares entries v (Some n) e).0

lone_member : (primary : ℕ) (standby : Option ℕ) (n : ℕ) → standby ≡ None → site n ≢ site primary →
    is_member (record { primary = primary; standby = standby }) n ≡ false
lone_member primary None n lone apart = or_from (primary == n) false (ne_eqb primary n (λ same. apart (ap site (sym same)))) refl
lone_member primary (Some m) n lone apart = cc

-- the spare that is picked for a lone virtual node may become its standby
pub IsLawfulRepair-spare_of : (nodes spares : ℕ) (entries : List RosterEntry) (v n : ℕ) → v < nodes →
    (roles_after nodes entries v).standby ≡ None → spare_of nodes spares entries v ≡ Some n →
    IsLawfulRepair nodes spares entries v n
IsLawfulRepair-spare_of nodes spares entries v n below lone e =
    let picked = IsSpareFor-spare_of nodes spares entries v n e in
    let roles = roles_after nodes entries v in
    record {
      virtual_node = below;
      lone = lone;
      node = picked.known;
      living = picked.living;
      no_member = lone_member roles.primary roles.standby n lone picked.apart;
    }

lone_after_stop : (n primary : ℕ) (standby : Option ℕ) →
    let roles : Roles = record { primary = primary; standby = standby } in
    standby ≡ None → is_only_member roles n ≡ false → after_stop n roles ≡ roles
lone_after_stop n primary None lone only = grind (arith, nat_tests)
lone_after_stop n primary (Some m) lone only = cc

-- an entry that is no repair of it leaves a lone virtual node as it is
pub roles_after-lone : (nodes spares : ℕ) (entries : List RosterEntry) (entry : RosterEntry) (v : ℕ) → v < nodes →
    IsLawfulEntry nodes spares entries entry → (roles_after nodes entries v).standby ≡ None →
    ((m : ℕ) → entry ≢ Repaired v m) → roles_after nodes (entries ++ entry ∷ []) v ≡ roles_after nodes entries v
roles_after-lone nodes spares entries (Stopped m) v below lawful lone other =
    let roles = roles_after nodes entries v in
    roles_after-push nodes entries (Stopped m) v
    ∙ lone_after_stop m roles.primary roles.standby lone ((IsAdmitted-from nodes spares entries m lawful).not_last v below)
roles_after-lone nodes spares entries (Repaired w m) v below lawful lone other =
    let roles = roles_after nodes entries v in
    roles_after-push nodes entries (Repaired w m) v
    ∙ ap (λ b. cond b (record { primary = roles.primary; standby = Some m }) roles) (ne_eqb w v (λ same. other m (ap (λ u. Repaired u m) same)))

-- a repair that may come next may still come after another entry, unless that is the stop of its node or a repair of its virtual node
pub IsLawfulRepair-push : (nodes spares : ℕ) (entries : List RosterEntry) (entry : RosterEntry) (v n : ℕ) →
    IsLawfulEntry nodes spares entries entry → is_stop_of n entry ≡ false → ((m : ℕ) → entry ≢ Repaired v m) →
    IsLawfulRepair nodes spares entries v n → IsLawfulRepair nodes spares (entries ++ entry ∷ []) v n
IsLawfulRepair-push nodes spares entries entry v n lawful lives other repair =
    let same = roles_after-lone nodes spares entries entry v repair.virtual_node lawful repair.lone other in
    record {
      virtual_node = repair.virtual_node;
      lone = ap (λ (r : Roles). r.standby) same ∙ repair.lone;
      node = repair.node;
      living = ap not (has_stopped-push entries entry n ∙ ap (λ b. has_stopped entries n || b) lives ∙ or-false (has_stopped entries n)) ∙ repair.living;
      no_member = ap (λ (r : Roles). is_member r n) same ∙ repair.no_member;
    }

verdict_cases : (verdict : Result (Unit {0}) StopFault) → (verdict ≡ Ok tt) ⊎ (verdict ≢ Ok tt)
verdict_cases (Ok done) = inl refl
verdict_cases (Err fault) = inr (λ e. cc)

lone_cases : (standby : Option ℕ) → (standby ≡ None) ⊎ (standby ≢ None)
lone_cases None = inl refl
lone_cases (Some m) = inr (λ e. cc)

-- a repair may come next, or not
pub IsLawfulRepair-cases : (nodes spares : ℕ) (entries : List RosterEntry) (v n : ℕ) →
    IsLawfulRepair nodes spares entries v n ⊎ ¬ IsLawfulRepair nodes spares entries v n
IsLawfulRepair-cases nodes spares entries v n =
    let roles = roles_after nodes entries v in
    elim (cases_lt v nodes) [
      | inr past ↦ inr (λ lawful. let inside = lawful.virtual_node in omega arith)
      | inl below ↦ elim (lone_cases roles.standby) [
        | inr paired ↦ inr (λ lawful. paired lawful.lone)
        | inl lone ↦ elim (cases_lt n (nodes + spares)) [
          | inr unknown ↦ inr (λ lawful. let inside = lawful.node in omega arith)
          | inl known ↦ elim (cases_Bool (is_living entries n)) [
            | inr down ↦ inr (λ lawful. both_ways (is_living entries n) down lawful.living)
            | inl living ↦ elim (cases_Bool (is_member roles n)) [
              | inl member ↦ inr (λ lawful. both_ways (is_member roles n) lawful.no_member member)
              | inr apart ↦ inl (record { virtual_node = below; lone = lone; node = known; living = living; no_member = apart })
            ]
          ]
        ]
      ]
    ]

-- an entry may come next, or not
pub IsLawfulEntry-cases : (nodes spares : ℕ) (entries : List RosterEntry) (entry : RosterEntry) →
    IsLawfulEntry nodes spares entries entry ⊎ ¬ IsLawfulEntry nodes spares entries entry
IsLawfulEntry-cases nodes spares entries (Stopped n) = verdict_cases (stop_verdict nodes spares entries n)
IsLawfulEntry-cases nodes spares entries (Repaired v n) = IsLawfulRepair-cases nodes spares entries v n
