use Rattle.std.proofs.Common.{[], ◌∷◌, ◌++◌, List, map, length, sym, ap, ◌∙◌, subst, arith}
use Rattle.cl_log.specs.declared.slots.Slot.{Slot}
use Rattle.cl_log.specs.declared.records.LogRec.{LogRec}
use Rattle.cl_log.specs.LogEntry.{numbered}
use Rattle.cl_log.specs.Rest.{is_undone}
use Rattle.cl_log.specs.Slots.{contents, listed, previous_after, KnowPrevious, KnowUndone}
use Rattle.cl_log.proofs.SlotFacts.{listed_push, length-contents, know_previous-push, flags_push, undone_push-plain, undone_push-naming, tests_of, with_one, tests_same, above_greatest}
use Rattle.cl_log.proofs.slots.SlotList.push.Goals as goal

-- no record is named
pub invariant_of-self-in_default-clause-knows_previous : goal.invariant_of-self-in_default-clause-knows_previous
invariant_of-self-in_default-clause-knows_previous c =
    let list = c.args.self.now in
    subst (λ (slots : List Slot). KnowPrevious slots (listed list.first slots)) (sym c.push_reserved.ensures.items)
    (know_previous-push list.first list.slots.items c.args.slot list.knows_previous c.requires.previous)

pub invariant_of-self-in_default-clause-knows_undone : goal.invariant_of-self-in_default-clause-knows_undone
invariant_of-self-in_default-clause-knows_undone c =
    let list = c.args.self.now in
    subst (λ (slots : List Slot). KnowUndone slots (listed list.first slots)) (sym c.push_reserved.ensures.items)
    (flags_push list.first list.slots.items c.args.slot list.knows_undone c.requires.undone
    ∙ tests_same _ _ list.first (contents (list.slots.items ++ c.args.slot ∷ [])) (λ number. sym (undone_push-plain list.first list.slots.items c.args.slot c.in_default.ensures number)))

pub invariant_of-self-in_default-clause-knows_greatest : goal.invariant_of-self-in_default-clause-knows_greatest
invariant_of-self-in_default-clause-knows_greatest c number h =
    let list = c.args.self.now in
    ap (λ (slots : List Slot). is_undone (listed list.first slots) number) c.push_reserved.ensures.items
    ∙ undone_push-plain list.first list.slots.items c.args.slot c.in_default.ensures number
    ∙ list.knows_greatest number h

-- a record is named, and marked where it is kept
pub invariant_of-self-clause-has_numbers : goal.invariant_of-self-clause-has_numbers
invariant_of-self-clause-has_numbers c =
    let old = length-contents c.push_reserved.new.self.items in
    let new = length-contents c.mark_undone.new.slots.items in
    let same = ap (λ (cs : List LogRec). length cs) c.mark_undone.ensures.contents in
    let count = c.push_reserved.ensures.len in
    omega (arith, old, new, same, count, c.requires.numbers)

pub invariant_of-self-clause-knows_previous : goal.invariant_of-self-clause-knows_previous
invariant_of-self-clause-knows_previous c =
    let list = c.args.self.now in
    c.mark_undone.ensures.previous
    ∙ ap (map (λ (s : Slot). s.previous)) c.push_reserved.ensures.items
    ∙ know_previous-push list.first list.slots.items c.args.slot list.knows_previous c.requires.previous
    ∙ ap (previous_after []) (sym (ap (numbered list.first) (c.mark_undone.ensures.contents ∙ ap contents c.push_reserved.ensures.items)))

pub invariant_of-self-clause-knows_undone : goal.invariant_of-self-clause-knows_undone
invariant_of-self-clause-knows_undone c =
    let list = c.args.self.now in
    let new = list.slots.items ++ c.args.slot ∷ [] in
    c.mark_undone.ensures.undone (is_undone (listed list.first list.slots.items))
    (rw c.push_reserved.ensures.items (flags_push list.first list.slots.items c.args.slot list.knows_undone c.requires.undone))
    ∙ ap (λ (slots : List Slot). tests_of (with_one (is_undone (listed list.first list.slots.items)) c.in-Some.named) list.first (contents slots)) c.push_reserved.ensures.items
    ∙ tests_same _ _ list.first (contents new) (λ number. sym (undone_push-naming list.first list.slots.items c.args.slot c.in-Some.named c.in-Some.ensures number))
    ∙ ap (λ (cs : List LogRec). tests_of (is_undone (numbered list.first cs)) list.first cs) (sym (c.mark_undone.ensures.contents ∙ ap contents c.push_reserved.ensures.items))

pub invariant_of-self-clause-knows_greatest : goal.invariant_of-self-clause-knows_greatest
invariant_of-self-clause-knows_greatest c number h =
    let list = c.args.self.now in
    ap (λ (cs : List LogRec). is_undone (numbered list.first cs) number) (c.mark_undone.ensures.contents ∙ ap contents c.push_reserved.ensures.items)
    ∙ undone_push-naming list.first list.slots.items c.args.slot c.in-Some.named c.in-Some.ensures number
    ∙ above_greatest (is_undone (listed list.first list.slots.items)) c.in-Some.named list.greatest_named c.max-self.result number list.knows_greatest (omega arith) (omega arith) h

pub returns-in-Some-clause-entries : goal.returns-in-Some-clause-entries
returns-in-Some-clause-entries c =
    let list = c.args.self.now in
    ap (numbered list.first) (c.mark_undone.ensures.contents ∙ ap contents c.push_reserved.ensures.items) ∙ listed_push list.first list.slots.items c.args.slot

pub returns-in_default-clause-entries : goal.returns-in_default-clause-entries
returns-in_default-clause-entries c =
    let list = c.args.self.now in
    ap (listed list.first) c.push_reserved.ensures.items ∙ listed_push list.first list.slots.items c.args.slot
