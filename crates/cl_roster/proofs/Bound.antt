-- A lawful roster is short: each node stops once, and each repair makes good for what a stop took.
use Rattle.std.proofs.Common.{◌≡◌, ℕ, ◌+◌, ◌*◌, ◌<◌, ◌≤◌, ◌==◌, Bool, false, ◌||◌, not, List, [], ◌∷◌, ◌++◌, length, Some, is_none, refl, sym, ap, ◌∙◌, arith}
use Rattle.std.proofs.lemmas.Bool.{eq-eqb, ne_eqb, cond-true, cond-false, not-true, not_from_true, not_from_false}
use Rattle.std.proofs.lemmas.List.{length_push}
use Rattle.cl_types.proofs.PlacementLaws.{node_count-bounds}
use Rattle.cl_roster.specs.declared.entry.RosterEntry.{RosterEntry}
use Rattle.cl_roster.specs.declared.entry.RosterEntry.TheVariants.{Stopped, Repaired}
use Rattle.cl_roster.specs.declared.roles.Roles.{Roles}
use Rattle.cl_roster.specs.Roles.{roles_after}
use Rattle.cl_roster.specs.Roster.{is_living, has_stopped, IsClusterSize, IsLawfulRepair, IsLawfulEntry, IsLawfulRoster}
use Rattle.cl_roster.proofs.Counts.{passing, passing-le, passing-none, passing-same, passing-one_less}
use Rattle.cl_roster.proofs.Lawful.{along}
use Rattle.cl_roster.proofs.Members.{is_living-repaired}
use Rattle.cl_roster.proofs.Steps.{or-false, roles_after-push, has_stopped-push, has_stopped-stopped}
use Rattle.cl_roster.proofs.Verdict.{IsAdmitted-from}

-- how many of the numbers below 16 have not stopped
abbrev living_count : List RosterEntry → ℕ
living_count entries = passing (is_living entries) 0 16

abbrev is_lone : ℕ → List RosterEntry → ℕ → Bool
is_lone nodes entries v = is_none (roles_after nodes entries v).standby

-- how many of the virtual nodes have no standby
abbrev lone_count : ℕ → List RosterEntry → ℕ
lone_count nodes entries = passing (is_lone nodes entries) 0 nodes

-- the entries so far, and those that may still come
pub record Accounts (nodes : ℕ) (entries : List RosterEntry) : Type 0 where
  pub few : length entries + 9 * living_count entries + lone_count nodes entries ≤ 144

living_count-stopped : (entries : List RosterEntry) (n : ℕ) → n < 16 → has_stopped entries n ≡ false →
    living_count (entries ++ Stopped n ∷ []) + 1 ≡ living_count entries
living_count-stopped entries n below lives =
    passing-one_less (is_living entries) (is_living (entries ++ Stopped n ∷ [])) 0 16 n (omega arith) below
    (not_from_false (has_stopped entries n) lives)
    (not_from_true (has_stopped (entries ++ Stopped n ∷ []) n) (has_stopped-stopped entries n))
    (λ k apart. ap not (has_stopped-push entries (Stopped n) k ∙ ap (λ b. has_stopped entries k || b) (ne_eqb n k (λ e. apart (sym e)))
    ∙ or-false (has_stopped entries k)))

living_count-repaired : (entries : List RosterEntry) (w n : ℕ) → living_count (entries ++ Repaired w n ∷ []) ≡ living_count entries
living_count-repaired entries w n =
    passing-same (is_living entries) (is_living (entries ++ Repaired w n ∷ [])) 0 16 (λ k _ _. is_living-repaired entries w n k)

lone_count-repaired : (nodes spares : ℕ) (entries : List RosterEntry) (w n : ℕ) → IsLawfulRepair nodes spares entries w n →
    lone_count nodes (entries ++ Repaired w n ∷ []) + 1 ≡ lone_count nodes entries
lone_count-repaired nodes spares entries w n lawful =
    passing-one_less (is_lone nodes entries) (is_lone nodes (entries ++ Repaired w n ∷ [])) 0 nodes w (omega arith) (let inside = lawful.virtual_node in omega arith)
    (ap is_none lawful.lone)
    (ap (λ (r : Roles). is_none r.standby)
    (roles_after-push nodes entries (Repaired w n) w
    ∙ cond-true (w == w) (record { primary = (roles_after nodes entries w).primary; standby = Some n }) (roles_after nodes entries w) (eq-eqb w w refl)))
    (λ k apart. ap (λ (r : Roles). is_none r.standby)
    (roles_after-push nodes entries (Repaired w n) k
    ∙ cond-false (w == k) (record { primary = (roles_after nodes entries k).primary; standby = Some n }) (roles_after nodes entries k)
    (ne_eqb w k (λ e. apart (sym e)))))

accounts-push : (nodes spares : ℕ) (entries : List RosterEntry) (entry : RosterEntry) → IsClusterSize nodes spares →
    IsLawfulEntry nodes spares entries entry → Accounts nodes entries → Accounts nodes (entries ++ entry ∷ [])
accounts-push nodes spares entries (Stopped n) size lawful accounts =
    let admitted = IsAdmitted-from nodes spares entries n lawful in
    let bounds = node_count-bounds nodes size.counted in
    let one_less = living_count-stopped entries n (omega arith) (not-true (has_stopped entries n) admitted.living) in
    let lone = passing-le (is_lone nodes (entries ++ Stopped n ∷ [])) 0 nodes in
    let longer = length_push entries (Stopped n) in
    record { few = omega arith }
accounts-push nodes spares entries (Repaired w n) size lawful accounts =
    let same = living_count-repaired entries w n in
    let bounds = node_count-bounds nodes size.counted in
    let one_less = lone_count-repaired nodes spares entries w n lawful in
    let longer = length_push entries (Repaired w n) in
    record { few = omega arith }

accounts-first : (nodes : ℕ) → Accounts nodes []
accounts-first nodes =
    let none = passing-none (is_lone nodes []) 0 nodes (λ k. refl) in
    record { few = omega arith }

-- a lawful roster has at most 144 entries
pub length-lawful : (nodes spares : ℕ) (entries : List RosterEntry) → IsClusterSize nodes spares →
    IsLawfulRoster nodes spares entries → length entries ≤ 144
length-lawful nodes spares entries size lawful =
    let bounds = node_count-bounds nodes size.counted in
    let accounts : Accounts nodes entries =
    along nodes spares (Accounts nodes) (λ xs entry _ next before. accounts-push nodes spares xs entry size next before)
    (accounts-first nodes) entries lawful in
    omega arith
