-- What the verdict on a stop means.
use Rattle.std.proofs.Common.{◌≡◌, ℕ, ◌+◌, ◌<◌, nat_le, Bool, true, false, cond, List, Option, Some, None, Result, Ok, Err, refl, ap, ◌∙◌, subst, arith}
use Rattle.std.proofs.lemmas.Bool.{leb-true, leb-false, lt-leb, not-true, not_from_false}
use Rattle.cl_types.specs.declared.answers.StopFault.{StopFault}
use Rattle.cl_types.specs.declared.answers.StopFault.TheVariants.{Unknown, Down}
use Rattle.cl_roster.specs.declared.entry.RosterEntry.{RosterEntry}
use Rattle.cl_roster.specs.Roles.{roles_after, is_only_member}
use Rattle.cl_roster.specs.Roster.{has_stopped, lowest_alone, refused_as_last, stop_verdict}
use Rattle.cl_roster.specs.Verdict.{IsAdmitted, VerdictMeans}
use Rattle.cl_roster.proofs.Searches.{find-none, find-some, find-nowhere}

means_last : (nodes spares : ℕ) (entries : List RosterEntry) (n : ℕ) (last : Option ℕ) →
    n < nodes + spares → has_stopped entries n ≡ false → lowest_alone nodes entries n ≡ last →
    VerdictMeans nodes spares entries n (refused_as_last last)
means_last nodes spares entries n None known lives e =
    let none = find-none (λ v. is_only_member (roles_after nodes entries v) n) 0 nodes e in
    record {
      known = known;
      living = not_from_false (has_stopped entries n) lives;
      not_last = λ v below. none.fails v (omega arith) (omega arith);
    }
means_last nodes spares entries n (Some v) known lives e =
    let first = find-some (λ u. is_only_member (roles_after nodes entries u) n) 0 nodes v e in
    record {
      known = known;
      living = not_from_false (has_stopped entries n) lives;
      virtual_node = (let inside = first.in_range in omega arith);
      only = first.passes;
      lowest = λ u below. first.first u (omega arith) below;
    }

means_by : (nodes spares : ℕ) (entries : List RosterEntry) (n : ℕ) (unknown down : Bool) →
    nat_le (nodes + spares) n ≡ unknown → has_stopped entries n ≡ down →
    VerdictMeans nodes spares entries n
    (cond unknown (Err Unknown) (cond down (Err Down) (refused_as_last (lowest_alone nodes entries n))))
means_by nodes spares entries n true down far stopped = leb-true (nodes + spares) n far
means_by nodes spares entries n false true near stopped = (leb-false (nodes + spares) n near, stopped)
means_by nodes spares entries n false false near lives =
    means_last nodes spares entries n (lowest_alone nodes entries n) (leb-false (nodes + spares) n near) lives refl

-- the verdict on a stop means what it says
pub VerdictMeans-stop_verdict : (nodes spares : ℕ) (entries : List RosterEntry) (n : ℕ) →
    VerdictMeans nodes spares entries n (stop_verdict nodes spares entries n)
VerdictMeans-stop_verdict nodes spares entries n =
    means_by nodes spares entries n (nat_le (nodes + spares) n) (has_stopped entries n) refl refl

-- a stop that passes is admitted
pub IsAdmitted-from : (nodes spares : ℕ) (entries : List RosterEntry) (n : ℕ) →
    stop_verdict nodes spares entries n ≡ Ok tt → IsAdmitted nodes spares entries n
IsAdmitted-from nodes spares entries n e =
    subst (λ (r : Result (Unit {0}) StopFault). VerdictMeans nodes spares entries n r) e (VerdictMeans-stop_verdict nodes spares entries n)

-- an admitted stop passes
pub stop_verdict-admitted : (nodes spares : ℕ) (entries : List RosterEntry) (n : ℕ) →
    IsAdmitted nodes spares entries n → stop_verdict nodes spares entries n ≡ Ok tt
stop_verdict-admitted nodes spares entries n admitted =
    let none = find-nowhere (λ v. is_only_member (roles_after nodes entries v) n) 0 nodes
    (record { fails = λ v low high. admitted.not_last v (omega arith) }) in
    ap (λ b. cond b (Err Unknown) (cond (has_stopped entries n) (Err Down) (refused_as_last (lowest_alone nodes entries n))))
    (lt-leb (nodes + spares) n admitted.known)
    ∙ ap (λ b. cond b (Err Down) (refused_as_last (lowest_alone nodes entries n))) (not-true (has_stopped entries n) admitted.living)
    ∙ ap refused_as_last none
