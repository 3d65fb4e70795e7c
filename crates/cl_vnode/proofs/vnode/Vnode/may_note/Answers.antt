-- The replica has a state, and there are as many nodes.
use Rattle.std.proofs.Common.{◌≡◌, ℕ, ◌<◌, nat_lt, true, ap, sym, ◌∙◌, subst, inl, inr}
use Rattle.std.proofs.lemmas.Bool.{cases_lt, le-ltb, false≢true}
use Rattle.cl_control.specs.State.{ControlState}
use Rattle.cl_vnode.proofs.States.{every_replica_has_state}
use Rattle.cl_vnode.proofs.vnode.Vnode.may_note.Goals as goal

is_below : (a b : ℕ) → nat_lt a b ≡ true → a < b
is_below a b is = elim (cases_lt a b) [ inl below ↦ below | inr above ↦ absurd (false≢true (sym (le-ltb a b above) ∙ is)) ]

pub returns-then-nodes-clause-admitted : goal.returns-then-nodes-clause-admitted
returns-then-nodes-clause-admitted c admitted =
    let state = every_replica_has_state c.args.self.now in
    let below : c.args.self.now.v < c.nodes-then-nodes.result = is_below _ _ admitted in (
      state.0,
      state.1,
      record {
        same_nodes = sym c.nodes.ensures.nodes ∙ c.if-nodes.true ∙ c.nodes-2.ensures ∙ ap (λ (control : ControlState). control.nodes) state.1.control;
        known = subst (λ n. state.0.v < n) c.nodes-then-nodes.ensures.nodes (subst (λ v. v < c.nodes-then-nodes.result) state.1.v below);
      },
    )
