-- The primary whose standby stopped is left alone.
use Rattle.std.proofs.Common.{◌≡◌, ◌==◌, true, false, IfOk, sym, ap, ◌∙◌, subst}
use Rattle.std.proofs.lemmas.Bool.{ne_eqb, cond-true, cond-false}
use Rattle.cl_roster.specs.declared.roles.Roles.{Roles}
use Rattle.cl_roster.specs.Roles.{is_standby, roles_after}
use Rattle.cl_roster.specs.View.{RosterView}
use Rattle.cl_vnode.specs.Noting.{left_alone}
use Rattle.cl_vnode.specs.Sending.{HasStepped, primary_of}
use Rattle.cl_vnode.specs.Step.{Stepped}
use Rattle.cl_vnode.proofs.vnode.Vnode.note_stop.Goals as goal

pub returns-then-is_standby : goal.returns-then-is_standby
returns-then-is_standby c state is =
    let here : Roles = roles_after c.args.before.now.nodes c.args.before.now.entries state.v in
    let same : here ≡ c.roles-roles.result =
    sym (c.roles-roles.ensures.now c.len.ensures.count ∙ ap (roles_after c.args.before.now.nodes c.args.before.now.entries) is.v) in
    let other : (here.primary == c.args.node) ≡ false = ap (λ (roles : Roles). roles.primary == c.args.node) same ∙ ne_eqb _ _ c.if-roles-node.false in
    let standby : is_standby here.standby c.args.node ≡ true =
    ap (λ (roles : Roles). is_standby roles.standby c.args.node) same ∙ sym c.is_standby.ensures ∙ c.if-is_standby.true in
    subst (λ (done : Stepped). IfOk c.left_alone.result (λ steps. HasStepped c.left_alone.new.self steps done))
    (ap (λ (roster : RosterView). left_alone (primary_of roster) state) c.with.ensures ∙ sym (cond-true _ _ _ standby) ∙ sym (cond-false _ _ _ other))
    (c.left_alone.ensures state is)
