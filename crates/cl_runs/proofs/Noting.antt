-- What an actor has noted is a beginning of the roster, and who lives by the roster has nowhere been noted as stopped.
use Rattle.std.proofs.Common.{◌≡◌, ℕ, false, List, [], ◌∷◌, ◌++◌, length, Some, refl, ap, sym, ◌∙◌, subst, inl, inr, arith, append_assoc, length-append}
use Rattle.std.specs.List.{slice_get}
use Rattle.std.proofs.lemmas.Bool.{false_from_ne_true}
use Rattle.std.proofs.lemmas.List.{append-nil}
use Rattle.std.proofs.lemmas.Option.{none-some, same_Some}
use Rattle.cl_types.proofs.PlacementLaws.{node_count-bounds}
use Rattle.cl_link.specs.Network.{IsPrefixOf}
use Rattle.cl_roster.specs.declared.entry.RosterEntry.{RosterEntry}
use Rattle.cl_roster.specs.Roster.{IsClusterSize, IsLawfulRoster, has_stopped}
use Rattle.cl_roster.proofs.Stays.{has_stopped_not_yet, has_stopped-known}
use Rattle.cl_steps.specs.declared.actors.TheConstants.{FRONT}
use Rattle.cl_runs.specs.World.{Shape, IsLiving}

pub prefix_same : {X : Type 0} (xs : List X) → IsPrefixOf xs xs
prefix_same xs = ([], append-nil xs)

pub prefix_then : {X : Type 0} (xs ys zs : List X) → IsPrefixOf xs ys → IsPrefixOf ys zs → IsPrefixOf xs zs
prefix_then xs ys zs first then = (first.0 ++ then.0, sym (append_assoc xs first.0 then.0) ∙ (ap (λ front. front ++ then.0) first.1 ∙ then.1))

pub prefix_push : {X : Type 0} (xs : List X) (x : X) → IsPrefixOf xs (xs ++ x ∷ [])
prefix_push xs x = (x ∷ [], refl)

whole_by : {X : Type 0} (xs rest : List X) → length xs ≡ length (xs ++ rest) → xs ≡ xs ++ rest
whole_by xs [] same = sym (append-nil xs)
whole_by xs (x ∷ rest) same = absurd (omega (arith, same, length-append xs (x ∷ rest)))

-- a beginning that is as long is the whole
pub prefix_whole : {X : Type 0} (xs ys : List X) → IsPrefixOf xs ys → length xs ≡ length ys → xs ≡ ys
prefix_whole xs ys begins same = whole_by xs begins.0 (same ∙ ap length (sym begins.1)) ∙ begins.1

next_by : {X : Type 0} (xs rest : List X) (x : X) → slice_get (xs ++ rest) (length xs) ≡ Some x → IsPrefixOf (xs ++ x ∷ []) (xs ++ rest)
next_by [] [] x at = absurd (none-some x at)
next_by [] (y ∷ rest) x at = (rest, ap (λ z. z ∷ rest) (sym (same_Some y x at)))
next_by (y ∷ xs) rest x at = let more : IsPrefixOf (xs ++ x ∷ []) (xs ++ rest) = next_by xs rest x at in (more.0, ap (λ zs. y ∷ zs) more.1)

-- a beginning goes on with what stands behind it
pub prefix_next : {X : Type 0} (xs ys : List X) (x : X) → IsPrefixOf xs ys → slice_get ys (length xs) ≡ Some x → IsPrefixOf (xs ++ x ∷ []) ys
prefix_next xs ys x begins at =
    subst (IsPrefixOf (xs ++ x ∷ [])) begins.1 (next_by xs begins.0 x (subst (λ zs. slice_get zs (length xs) ≡ Some x) (sym begins.1) at))

-- the front is no node, so no lawful roster stops it
pub front_lives : (nodes spares : ℕ) (roster : List RosterEntry) → IsClusterSize nodes spares → IsLawfulRoster nodes spares roster → has_stopped roster FRONT
    ≡ false
front_lives nodes spares roster size lawful = false_from_ne_true (has_stopped roster FRONT)
    (λ stopped. omega (arith, has_stopped-known nodes spares roster FRONT lawful stopped, node_count-bounds nodes size.counted, size.few_spares))

-- who lives has not stopped
pub living_unstopped : (shape : Shape) (roster : List RosterEntry) (actor : ℕ) → IsClusterSize shape.nodes shape.spares →
    IsLawfulRoster shape.nodes shape.spares roster →
    IsLiving shape roster actor → has_stopped roster actor ≡ false
living_unstopped shape roster actor size lawful (inl front) =
    subst (λ n. has_stopped roster n ≡ false) (sym front) (front_lives shape.nodes shape.spares roster size lawful)
living_unstopped shape roster actor size lawful (inr lives) = lives.1

-- and nobody has noted its stop
pub unnoted : (noted roster : List RosterEntry) (n : ℕ) → IsPrefixOf noted roster → has_stopped roster n ≡ false → has_stopped noted n ≡ false
unnoted noted roster n begins lives = has_stopped_not_yet noted begins.0 n (subst (λ entries. has_stopped entries n ≡ false) (sym begins.1) lives)
