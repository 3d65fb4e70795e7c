-- What was found in the tree is what the finite map has at the place, and what is left there is what it has after.
use Rattle.std.proofs.Common.{◌≡◌, Option, List, ℕ, ap, ◌∙◌}
use Rattle.std.specs.Option.{option_copied}
use Rattle.std.specs.BTreeMap.{get as found_at, BTreeMap}
use Rattle.std.specs.FinMap.{FinMap, from_entries}
use Rattle.cl_types.specs.declared.operations.Op.{Op}
use Rattle.cl_types.specs.Plain.{plain_reply, plain_value}
use Rattle.cl_types.specs.Places.{Place}
use Rattle.cl_serial.specs.PlainMap.{updated}
use Rattle.cl_serial.specs.PlainMapModel.{place_cmp, place_of, value_at}
use Rattle.cl_serial.proofs.PlainMapLemmas.{same_values, value_at-from_entries, found-value_at}
use Rattle.cl_serial.proofs.plain_map.PlainMap.apply.Goals as goal

-- the place that the code looks up is the place of the arguments
same_place : (table other_table key other_key : List ℕ) → table ≡ other_table → key ≡ other_key → place_of table key ≡ place_of other_table other_key
same_place table other_table key other_key tables keys = λ i. place_of (tables i) (keys i)

-- an operation in the tree is the operation on the finite map
applied : (op : Op) (before after : BTreeMap Place (List ℕ)) (plain : FinMap place_cmp (List ℕ)) → from_entries before.entries ≡ plain → (spot place : Place) → spot ≡ place
    → (found value : Option (List ℕ)) → found ≡ found_at place_cmp before spot → value ≡ plain_value op found
    → ((other : Place) → found_at place_cmp after other ≡ updated (found_at place_cmp before) spot value other)
    → (other : Place) → value_at (from_entries after.entries) other ≡ updated (value_at plain) place (plain_value op (value_at plain place)) other
applied op before after plain view spot place same found value is_found is_value changed other =
    let old : found_at place_cmp before ≡ value_at plain =
    same_values (found_at place_cmp before) (value_at plain) (λ q. found-value_at before.entries plain view q q (λ i. q)) in
    let left : value ≡ plain_value op (value_at plain place) =
    is_value ∙ ap (plain_value op) (is_found ∙ found-value_at before.entries plain view spot place same) in
    value_at-from_entries after.entries other ∙ changed other ∙ (λ i. updated (old i) (same i) (left i) other)

pub returns-clause-reply : goal.returns-clause-reply
returns-clause-reply c =
    c.in_ok-reply.ensures.reply
    ∙ ap (plain_reply c.args.op.now)
    (c.get.ensures.value
    ∙ found-value_at c.self.inside.values.entries c.args.self.now c.self.view_is
    (place_of c.copy.result c.copy-2.result) (place_of c.args.table.now c.args.key.now)
    (same_place _ _ _ _ c.copy.ensures c.copy-2.ensures))

pub returns-clause-ok : goal.returns-clause-ok
returns-clause-ok c =
    applied c.args.op.now c.self.inside.values c.set_or_remove.new.values c.args.self.now c.self.view_is
    (place_of c.copy.result c.copy-2.result) (place_of c.args.table.now c.args.key.now)
    (same_place _ _ _ _ c.copy.ensures c.copy-2.ensures)
    (option_copied c.get.result) c.in_ok-reply.value c.get.ensures.value c.in_ok-reply.ensures.value
    c.in_ok-set_or_remove.ensures.ok
