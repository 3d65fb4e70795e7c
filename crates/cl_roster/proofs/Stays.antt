-- What stays along a roster: a primary until it stops, and a stop for ever.
use Rattle.std.proofs.Common.{◌≡◌, ℕ, ◌<◌, ◌≤◌, ◌==◌, true, false, ◌||◌, length, take, List, [], ◌∷◌, ◌++◌, Option, Some, None, ◌+◌, inl, inr, refl, sym, ap, ◌∙◌, subst, arith, Bool, ◌≢◌}
use Rattle.std.proofs.lemmas.Bool.{false_from_ne_true, both_ways, not-true, or_parts, or_left, cond_both, or_cases, eqb-true, eqb-false, false≢true}
use Rattle.std.proofs.lemmas.Bool.Decides.{nat_tests}
use Rattle.std.proofs.lemmas.List.{take-append-le}
use Rattle.std.proofs.lemmas.List.Folds.{list_any-append}
use Rattle.cl_roster.specs.declared.entry.RosterEntry.{RosterEntry}
use Rattle.cl_roster.specs.declared.entry.RosterEntry.TheVariants.{Stopped, Repaired}
use Rattle.cl_roster.specs.declared.roles.Roles.{Roles}
use Rattle.cl_roster.specs.Roles.{after_stop, is_member, roles_after, after_entry}
use Rattle.cl_roster.specs.Roster.{is_stop_of, has_stopped, IsClusterSize, IsLawfulEntry, IsLawfulRoster}
use Rattle.cl_roster.proofs.Lawful.{along, along_from}
use Rattle.cl_roster.proofs.Lists.{kept_along}
use Rattle.cl_roster.proofs.Members.{AreSoundMembers-lawful}
use Rattle.cl_roster.proofs.Steps.{roles_after-push, has_stopped-push}
use Rattle.cl_roster.proofs.Verdict.{IsAdmitted-from}

-- who has stopped in a longer roster had stopped before, or stops in the rest
pub has_stopped-append : (entries more : List RosterEntry) (n : ℕ) →
    has_stopped (entries ++ more) n ≡ (has_stopped entries n || has_stopped more n)
has_stopped-append entries more n = list_any-append (is_stop_of n) entries more

-- who has stopped has stopped in each longer roster
pub has_stopped_stays : (entries more : List RosterEntry) (n : ℕ) → has_stopped entries n ≡ true → has_stopped (entries ++ more) n ≡ true
has_stopped_stays entries more n stopped =
    has_stopped-append entries more n ∙ or_left (has_stopped entries n) (has_stopped more n) stopped

-- who lives in a longer roster lived before
pub has_stopped_not_yet : (entries more : List RosterEntry) (n : ℕ) → has_stopped (entries ++ more) n ≡ false → has_stopped entries n ≡ false
has_stopped_not_yet entries more n lives =
    (or_parts (has_stopped entries n) (has_stopped more n) (sym (has_stopped-append entries more n) ∙ lives)).0

kept_primary : (n primary : ℕ) (standby : Option ℕ) → (n == primary) ≡ false →
    (after_stop n (record { primary = primary; standby = standby })).primary ≡ primary
kept_primary n primary None other = grind (arith, nat_tests)
kept_primary n primary (Some m) other = grind (arith, nat_tests)

-- an entry that is not the stop of the primary leaves it primary
pub primary-push : (nodes : ℕ) (entries : List RosterEntry) (entry : RosterEntry) (v : ℕ) →
    is_stop_of (roles_after nodes entries v).primary entry ≡ false →
    (roles_after nodes (entries ++ entry ∷ []) v).primary ≡ (roles_after nodes entries v).primary
primary-push nodes entries (Stopped n) v other =
    let roles = roles_after nodes entries v in
    ap (λ (r : Roles). r.primary) (roles_after-push nodes entries (Stopped n) v) ∙ kept_primary n roles.primary roles.standby other
primary-push nodes entries (Repaired w n) v other =
    let roles = roles_after nodes entries v in
    ap (λ (r : Roles). r.primary) (roles_after-push nodes entries (Repaired w n) v)
    ∙ cond_both (w == v) (record { primary = roles.primary; standby = Some n }) roles
    (λ (r : Roles). r.primary ≡ roles.primary) (λ _. refl) (λ _. refl)

-- a primary stays primary until it stops
pub primary_stays : (nodes : ℕ) (entries more : List RosterEntry) (v : ℕ) →
    has_stopped (entries ++ more) (roles_after nodes entries v).primary ≡ false →
    (roles_after nodes (entries ++ more) v).primary ≡ (roles_after nodes entries v).primary
primary_stays nodes entries more v =
    let p = (roles_after nodes entries v).primary in
    kept_along (λ (xs : List RosterEntry). has_stopped xs p ≡ false → (roles_after nodes xs v).primary ≡ p)
    (λ xs entry keeps lives.
    (let parts = or_parts (has_stopped xs p) (is_stop_of p entry) (sym (has_stopped-push xs entry p) ∙ lives) in
    let was = keeps parts.0 in
    primary-push nodes xs entry v (subst (λ (k : ℕ). is_stop_of k entry ≡ false) (sym was) parts.1) ∙ was))
    entries more (λ _. refl)

-- a node that has stopped is no member of any virtual node, from then on
pub stopped_never_returns : (nodes spares : ℕ) (entries more : List RosterEntry) (n v : ℕ) → IsClusterSize nodes spares → v < nodes →
    IsLawfulRoster nodes spares (entries ++ more) → has_stopped entries n ≡ true →
    is_member (roles_after nodes (entries ++ more) v) n ≡ false
stopped_never_returns nodes spares entries more n v size below lawful stopped =
    let sound = AreSoundMembers-lawful nodes spares (entries ++ more) v size below lawful in
    false_from_ne_true (is_member (roles_after nodes (entries ++ more) v) n)
    (λ member. both_ways (has_stopped (entries ++ more) n) (not-true (has_stopped (entries ++ more) n) (sound.living n member))
    (has_stopped_stays entries more n stopped))

-- the roles after the first entries depend on these alone
pub roles_after-take-append : (nodes : ℕ) (noted rest : List RosterEntry) (k v : ℕ) → k ≤ length noted →
    roles_after nodes (take k (noted ++ rest)) v ≡ roles_after nodes (take k noted) v
roles_after-take-append nodes noted rest k v within = ap (λ xs. roles_after nodes xs v) (take-append-le k noted rest within)

known_step : (entries : List RosterEntry) (entry : RosterEntry) (nodes spares n : ℕ) → IsLawfulEntry nodes spares entries entry →
    is_stop_of n entry ≡ true → n < nodes + spares
known_step entries (Stopped m) nodes spares n lawful is =
    subst (λ (k : ℕ). k < nodes + spares) (eqb-true m n is) (IsAdmitted-from nodes spares entries m lawful).known
known_step entries (Repaired v m) nodes spares n lawful is = absurd (false≢true is)

-- only nodes of the cluster stop
pub has_stopped-known : (nodes spares : ℕ) (entries : List RosterEntry) (n : ℕ) → IsLawfulRoster nodes spares entries →
    has_stopped entries n ≡ true → n < nodes + spares
has_stopped-known nodes spares entries n lawful =
    along nodes spares (λ xs. has_stopped xs n ≡ true → n < nodes + spares)
    (λ xs entry _ next known stopped. elim (or_cases (has_stopped xs n) (is_stop_of n entry) (sym (has_stopped-push xs entry n) ∙ stopped)) [
      | inl before ↦ known before
      | inr now ↦ known_step xs entry nodes spares n next now
    ])
    (λ stopped. absurd (false≢true stopped)) entries lawful

member_after_stop : (n primary : ℕ) (standby : Option ℕ) (m : ℕ) →
    let roles : Roles = record { primary = primary; standby = standby } in
    m ≢ n → is_member roles m ≡ true → is_member (after_stop n roles) m ≡ true
member_after_stop n primary None m apart member = grind (arith, nat_tests)
member_after_stop n primary (Some s) m apart member = grind (arith, nat_tests)

member_with_standby : (primary : ℕ) (standby : Option ℕ) (n m : ℕ) → standby ≡ None →
    is_member (record { primary = primary; standby = standby }) m ≡ true →
    is_member (record { primary = primary; standby = Some n }) m ≡ true
member_with_standby primary None n m lone member = or_left (primary == m) (n == m) (is_primary (primary == m) member) where
  is_primary : (b : Bool) → (b || false) ≡ true → b ≡ true
  is_primary true e = refl
  is_primary false e = e
member_with_standby primary (Some s) n m lone member = cc

member_step : (nodes spares : ℕ) (entries : List RosterEntry) (entry : RosterEntry) (v m : ℕ) →
    IsLawfulEntry nodes spares entries entry → is_stop_of m entry ≡ false → is_member (roles_after nodes entries v) m ≡ true →
    is_member (after_entry v (roles_after nodes entries v) entry) m ≡ true
member_step nodes spares entries (Stopped n) v m lawful lives member =
    let roles = roles_after nodes entries v in
    member_after_stop n roles.primary roles.standby m (λ same. eqb-false n m lives (sym same)) member
member_step nodes spares entries (Repaired w n) v m lawful lives member =
    let roles = roles_after nodes entries v in
    cond_both (w == v) (record { primary = roles.primary; standby = Some n }) roles (λ (r : Roles). is_member r m ≡ true)
    (λ same. member_with_standby roles.primary roles.standby n m
    (subst (λ (u : ℕ). (roles_after nodes entries u).standby ≡ None) (eqb-true w v same) lawful.lone) member)
    (λ other. member)

-- a member stays a member until it stops
pub member_stays : (nodes spares : ℕ) (entries more : List RosterEntry) (v m : ℕ) → IsLawfulRoster nodes spares (entries ++ more) →
    is_member (roles_after nodes entries v) m ≡ true → has_stopped (entries ++ more) m ≡ false →
    is_member (roles_after nodes (entries ++ more) v) m ≡ true
member_stays nodes spares entries more v m lawful member =
    along_from nodes spares (λ xs. has_stopped xs m ≡ false → is_member (roles_after nodes xs v) m ≡ true)
    (λ xs entry _ next keeps lives.
    (let parts = or_parts (has_stopped xs m) (is_stop_of m entry) (sym (has_stopped-push xs entry m) ∙ lives) in
    ap (λ (r : Roles). is_member r m) (roles_after-push nodes xs entry v) ∙ member_step nodes spares xs entry v m next parts.1 (keeps parts.0)))
    entries more lawful (λ _. member)
