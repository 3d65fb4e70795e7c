use Rattle.std.proofs.Common.{◌≡◌, ◌<◌, ◌≤◌, ℕ, ◌+◌, length, List, inl, inr, ap, ◌∙◌, sym, subst, get_or, set, get_or-set_same, get_or-set_other, arith}
use Rattle.std.proofs.lemmas.Bool.{cases_eq}
use Rattle.std.proofs.lemmas.List.{length-set, get_or_default}
use Rattle.cl_roster.specs.declared.entry.RosterEntry.{RosterEntry}
use Rattle.cl_roster.specs.declared.roles.Roles.{Roles}
use Rattle.cl_roster.specs.Roles.{after_entry}
use Rattle.cl_roster.proofs.standing.note_roles.Goals as goal

-- one virtual node more is one step on
step : (old now : List Roles) (i : ℕ) (entry : RosterEntry) (new e : Roles) → length old ≡ 8 → length now ≡ 8 → i < 8 →
    ((v : ℕ) (d : Roles) → v < i → get_or now v d ≡ after_entry v (get_or old v d) entry) →
    ((v : ℕ) (d : Roles) → i ≤ v → get_or now v d ≡ get_or old v d) →
    new ≡ after_entry i (get_or now i e) entry →
    (v : ℕ) (d : Roles) → v < i + 1 → get_or (set now i new) v d ≡ after_entry v (get_or old v d) entry
step old now i entry new e old_eight eight below done rest is v d within = elim (cases_eq v i) [
  | inl same ↦
      (let here : i < length now = omega arith in
      let there : i < length old = omega arith in
      let at_i : get_or (set now i new) i d ≡ after_entry i (get_or old i d) entry =
      get_or-set_same now i new d here ∙ is
      ∙ ap (λ r. after_entry i r entry) (rest i e (omega arith) ∙ get_or_default old i e d there) in
      subst (λ (k : ℕ). get_or (set now i new) k d ≡ after_entry k (get_or old k d) entry) (sym same) at_i)
  | inr apart ↦ get_or-set_other now i v new d apart ∙ done v d (omega arith)
]

pub loop-virtual_node-preserved : goal.loop-virtual_node-preserved
loop-virtual_node-preserved c =
    let now = c.loop-virtual_node.roles in
    let i = c.loop-virtual_node.virtual_node in
    let kept = c.loop-virtual_node.invariant in
    record {
      eight = length-set now i c.after.result ∙ kept.eight;
      done = step c.args.roles.now now i c.args.entry c.after.result _ c.told-roles kept.eight c.loop-virtual_node-test.true kept.done kept.rest c.after.ensures;
      rest = λ v d above. get_or-set_other now i v c.after.result d (λ same. omega arith) ∙ kept.rest v d (omega arith);
    }
