-- Lawful rosters, entry by entry.
use Rattle.std.proofs.Common.{ℕ, List, [], ◌∷◌, ◌++◌, inl, inr, refl, ap, ◌∙◌, subst, length, arith}
use Rattle.std.proofs.lemmas.List.{append_assoc, length-append}
use Rattle.cl_roster.specs.declared.entry.RosterEntry.{RosterEntry}
use Rattle.cl_roster.specs.Roster.{EachFits, IsLawfulEntry, IsLawfulRoster}
use Rattle.cl_roster.proofs.Lists.{split-push, kept_along}

-- in the empty list each entry fits
pub EachFits-none : (Fits : List RosterEntry → RosterEntry → Type 0) → EachFits Fits []
EachFits-none Fits = record {
  each = λ before entry after e. absurd (omega (arith, simp length-append at (ap length e)));
}

-- with one more that fits, each fits
pub EachFits-push : (Fits : List RosterEntry → RosterEntry → Type 0) (entries : List RosterEntry) (entry : RosterEntry) →
    EachFits Fits entries → Fits entries entry → EachFits Fits (entries ++ entry ∷ [])
EachFits-push Fits entries entry fit next = record {
  each = λ before other after e. elim (split-push entries entry before other after e) [
    | inl same ↦ subst (λ (xs : List RosterEntry). Fits xs other) same.0 (subst (λ (y : RosterEntry). Fits entries y) same.1 next)
    | inr split ↦ fit.each before other split.after split.is
  ];
}

-- in each prefix each fits
pub EachFits-prefix : (Fits : List RosterEntry → RosterEntry → Type 0) (entries more : List RosterEntry) →
    EachFits Fits (entries ++ more) → EachFits Fits entries
EachFits-prefix Fits entries more fit = record {
  each = λ before other after e. fit.each before other (after ++ more) (ap (λ xs. xs ++ more) e ∙ append_assoc before (other ∷ after) more);
}

-- the empty roster is lawful
pub IsLawfulRoster-none : (nodes spares : ℕ) → IsLawfulRoster nodes spares []
IsLawfulRoster-none nodes spares = EachFits-none (IsLawfulEntry nodes spares)

-- a lawful roster stays lawful with a lawful entry more
pub IsLawfulRoster-push : (nodes spares : ℕ) (entries : List RosterEntry) (entry : RosterEntry) →
    IsLawfulRoster nodes spares entries → IsLawfulEntry nodes spares entries entry →
    IsLawfulRoster nodes spares (entries ++ entry ∷ [])
IsLawfulRoster-push nodes spares entries entry lawful next = EachFits-push (IsLawfulEntry nodes spares) entries entry lawful next

-- each prefix of a lawful roster is lawful
pub IsLawfulRoster-prefix : (nodes spares : ℕ) (entries more : List RosterEntry) →
    IsLawfulRoster nodes spares (entries ++ more) → IsLawfulRoster nodes spares entries
IsLawfulRoster-prefix nodes spares entries more lawful = EachFits-prefix (IsLawfulEntry nodes spares) entries more lawful

-- the entry after a prefix of a lawful roster is lawful there
pub IsLawfulEntry-next : (nodes spares : ℕ) (entries : List RosterEntry) (entry : RosterEntry) (more : List RosterEntry) →
    IsLawfulRoster nodes spares (entries ++ entry ∷ more) → IsLawfulEntry nodes spares entries entry
IsLawfulEntry-next nodes spares entries entry more lawful = lawful.each entries entry more refl

-- what each lawful entry keeps holds from a lawful roster on, in each longer one
pub along_from : (nodes spares : ℕ) (P : List RosterEntry → Type 0) →
    ((entries : List RosterEntry) (entry : RosterEntry) → IsLawfulRoster nodes spares entries → IsLawfulEntry nodes spares entries entry →
    P entries → P (entries ++ entry ∷ [])) →
    (entries more : List RosterEntry) → IsLawfulRoster nodes spares (entries ++ more) → P entries → P (entries ++ more)
along_from nodes spares P step entries more lawful holds =
    kept_along (λ (xs : List RosterEntry). IsLawfulRoster nodes spares xs → P xs)
    (λ xs entry keeps law.
    (let before = IsLawfulRoster-prefix nodes spares xs (entry ∷ []) law in
    step xs entry before (IsLawfulEntry-next nodes spares xs entry [] law) (keeps before)))
    entries more (λ _. holds) lawful

-- what holds of the empty roster, and is kept by each lawful entry, holds of each lawful roster
pub along : (nodes spares : ℕ) (P : List RosterEntry → Type 0) →
    ((entries : List RosterEntry) (entry : RosterEntry) → IsLawfulRoster nodes spares entries → IsLawfulEntry nodes spares entries entry →
    P entries → P (entries ++ entry ∷ [])) →
    P [] → (entries : List RosterEntry) → IsLawfulRoster nodes spares entries → P entries
along nodes spares P step first entries lawful = along_from nodes spares P step [] entries lawful first
