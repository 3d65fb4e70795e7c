-- What one entry more changes.
use Rattle.std.proofs.Common.{◌≡◌, ℕ, ◌==◌, Bool, true, false, ◌||◌, List, [], ◌∷◌, ◌++◌, refl, ap, ◌∙◌}
use Rattle.std.specs.List.{fold}
use Rattle.std.proofs.lemmas.List.Sums.{fold-append}
use Rattle.std.proofs.lemmas.List.Folds.{list_any-append}
use Rattle.std.proofs.lemmas.Bool.{or_right, eq-eqb}
use Rattle.cl_roster.specs.declared.entry.RosterEntry.{RosterEntry}
use Rattle.cl_roster.specs.declared.entry.RosterEntry.TheVariants.{Stopped}
use Rattle.cl_roster.specs.Roles.{first_roles, after_entry, roles_after}
use Rattle.cl_roster.specs.Roster.{is_stop_of, has_stopped}

pub or-false : (b : Bool) → (b || false) ≡ b
or-false true = refl
or-false false = refl

-- the roles after more entries go on from those before
pub roles_after-append : (nodes : ℕ) (entries more : List RosterEntry) (v : ℕ) →
    roles_after nodes (entries ++ more) v ≡ fold (after_entry v) (roles_after nodes entries v) more
roles_after-append nodes entries more v = fold-append (after_entry v) (first_roles nodes v) entries more

-- the roles after one entry more are one step on
pub roles_after-push : (nodes : ℕ) (entries : List RosterEntry) (entry : RosterEntry) (v : ℕ) →
    roles_after nodes (entries ++ entry ∷ []) v ≡ after_entry v (roles_after nodes entries v) entry
roles_after-push nodes entries entry v = fold-append (after_entry v) (first_roles nodes v) entries (entry ∷ [])

-- a node has stopped after one entry more where it had stopped, or the entry is its stop
pub has_stopped-push : (entries : List RosterEntry) (entry : RosterEntry) (n : ℕ) →
    has_stopped (entries ++ entry ∷ []) n ≡ (has_stopped entries n || is_stop_of n entry)
has_stopped-push entries entry n =
    list_any-append (is_stop_of n) entries (entry ∷ []) ∙ ap (λ b. has_stopped entries n || b) (or-false (is_stop_of n entry))

-- the stop of a node stops it
pub has_stopped-stopped : (entries : List RosterEntry) (n : ℕ) → has_stopped (entries ++ Stopped n ∷ []) n ≡ true
has_stopped-stopped entries n = has_stopped-push entries (Stopped n) n ∙ or_right (has_stopped entries n) (n == n) (eq-eqb n n refl)
