use Rattle.std.proofs.Common.{◌≡◌, ℕ, Bool, true, false, not, eqb, Option, Some, None, refl, sym, ap, ◌∙◌}
use Rattle.std.specs.Option.{option_eq}
use Rattle.std.proofs.lemmas.Bool.{eqb-true, eq-eqb, both_ways}
use Rattle.cl_log.specs.declared.known.Known.{Known}
use Rattle.cl_log.specs.Kind.{txn_of}
use Rattle.cl_log.specs.Known.{left_after}
use Rattle.cl_log.specs.Log.{entries}
use Rattle.cl_log.specs.Rest.{rest_to_undo, first_number}
use Rattle.cl_log.specs.Slots.{contents}
use Rattle.cl_log.specs.SlotList.{entries_in}
use Rattle.cl_log.proofs.KnownFacts.{left_past-missing, left_past-behind, left_past-last}
use Rattle.cl_log.proofs.Numbered.{IsNumberedFrom-numbered}
use Rattle.cl_log.proofs.SlotFacts.{content_at-within}
use Rattle.cl_log.proofs.log.Log.uncovered.Goals as goal

same_option : (o : Option ℕ) (n : ℕ) → o ≡ Some n → option_eq eqb o (Some n) ≡ true
same_option None n h = absurd (let e : ◌≡◌ {A = Option ℕ} None (Some n) = h in cc)
same_option (Some m) n h = eq-eqb m n cc

option_same : (o : Option ℕ) (n : ℕ) → option_eq eqb o (Some n) ≡ true → o ≡ Some n
option_same None n h = absurd (let e : false ≡ true = h in cc)
option_same (Some m) n h = ap (λ k. Some k) (eqb-true m n h)

true_from_not : (b : Bool) → not b ≡ false → b ≡ true
true_from_not true h = refl
true_from_not false h = sym h

pub returns-in_err-at-clause-left : goal.returns-in_err-at-clause-left
unfolding entries
returns-in_err-at-clause-left c txn =
    let log = c.args.self.now in
    left_past-missing log.records.first (entries_in log.records) (IsNumberedFrom-numbered log.records.first (contents log.records.slots.items)) c.args.content.now c.in_ok-named.named c.in_ok-named.ensures
    (sym c.in_err-at.ensures) txn
    ∙ ap (λ found. left_after found (first_number (rest_to_undo (entries log) txn)) txn) (sym c.from_residual-in_err-at.ensures)

pub returns-then-ne-clause-left : goal.returns-then-ne-clause-left
unfolding entries
returns-then-ne-clause-left c txn =
    let log = c.args.self.now in
    let undone = c.in_ok-at.field-0.now in
    let left : c.known_of.result.left ≡ first_number (rest_to_undo (entries_in log.records) (txn_of undone)) =
    ap (λ (known : Known). known.left) (c.known_of.ensures ∙ log.is_indexed c.txn-undone.result) ∙ ap (λ t. first_number (rest_to_undo (entries_in log.records) t)) c.txn-undone.ensures in
    left_past-behind log.records.first (entries_in log.records) (IsNumberedFrom-numbered log.records.first (contents log.records.slots.items)) c.args.content.now c.in_ok-named.named c.in_ok-named.ensures
    undone (sym c.in_ok-at.ensures) (λ h. both_ways _ (c.ne.ensures ∙ ap not (same_option c.known_of.result.left c.in_ok-named.named (left ∙ h))) c.if-ne.true) txn

pub left_before-requires : goal.left_before-requires
left_before-requires c =
    let log = c.args.self.now in
    record { kept = content_at-within log.records.first c.in_ok-named.named log.records.slots.items c.in_ok-at.field-0.now (sym c.in_ok-at.ensures) }

pub returns-clause-left : goal.returns-clause-left
unfolding entries
returns-clause-left c txn =
    let log = c.args.self.now in
    let undone = c.in_ok-at.field-0.now in
    let left : c.known_of.result.left ≡ first_number (rest_to_undo (entries_in log.records) (txn_of undone)) =
    ap (λ (known : Known). known.left) (c.known_of.ensures ∙ log.is_indexed c.txn-undone.result) ∙ ap (λ t. first_number (rest_to_undo (entries_in log.records) t)) c.txn-undone.ensures in
    left_past-last log.records.first (entries_in log.records) (IsNumberedFrom-numbered log.records.first (contents log.records.slots.items)) c.args.content.now c.in_ok-named.named c.in_ok-named.ensures
    undone (sym c.in_ok-at.ensures)
    (sym left ∙ option_same c.known_of.result.left c.in_ok-named.named (true_from_not _ (sym c.ne.ensures ∙ c.if-ne.false)))
    c.left_before.result c.left_before.ensures txn
    ∙ ap (λ t. left_after (Some (t, c.left_before.result)) (first_number (rest_to_undo (entries_in log.records) txn)) txn) (sym c.txn-undone.ensures)
