-- Another order of what is on its way leaves each session at its stage.
use Rattle.std.proofs.Common.{◌≡◌, ℕ, ◌%◌, ◌≤◌, List, [], ◌∷◌, length, refl, sym, subst, arith}
use Rattle.cl_exchange.specs.Laws.{ReorderKeepsSound}
use Rattle.cl_exchange.specs.Stage.{SessionView, view_of, is_of_session, Stage, outside, ready, asking, working, telling, IsAt}
use Rattle.cl_exchange.proofs.Delivered.{IsAtSome}
use Rattle.cl_exchange.proofs.Views.{same_parts}
use Rattle.cl_steps.specs.declared.actors.TheConstants.{FRONT}
use Rattle.cl_system.proofs.Reordering.{reordered_filter, reordered_all}
use Rattle.cl_system.specs.Firm.{AreReordered, with_order}
use Rattle.cl_system.specs.Replicas.{Mail, ReplicaWorld}
use Rattle.cl_system.specs.Roles.{IsAddressed}
use Rattle.cl_wire.specs.Message.{Content}

-- no message is one at most
none_few : (contents : List Content) → contents ≡ [] → length contents ≤ 1
none_few contents none = subst (λ list. length list ≤ 1) (sym none) (omega arith)

-- so is one
one_few : (contents : List Content) (content : Content) → contents ≡ content ∷ [] → length contents ≤ 1
one_few contents content one = subst (λ list. length list ≤ 1) (sym one) (omega arith)

-- one message of the session at most is on its way, to its controller and from there
record HasFew (view : SessionView) : Type 0 where
  commands : length view.commands ≤ 1
  outcomes : length view.outcomes ≤ 1

-- so it is at each stage
few_at : (nodes s : ℕ) (view : SessionView) (stage : Stage) → IsAt nodes s view stage → HasFew view
few_at nodes s view outside at = record { commands = none_few view.commands at.1.commands; outcomes = none_few view.outcomes at.1.outcomes }
few_at nodes s view (ready current entry) at = record { commands = none_few view.commands at.commands; outcomes = none_few view.outcomes at.outcomes }
few_at nodes s view (asking current what entries) at = record { commands = one_few view.commands _ at.commands; outcomes = none_few view.outcomes at.outcomes }
few_at nodes s view (working current entry) at = record { commands = none_few view.commands at.commands; outcomes = none_few view.outcomes at.outcomes }
few_at nodes s view (telling current outcome entries) at = record {
  commands = none_few view.commands at.commands;
  outcomes = one_few view.outcomes _ at.outcomes;
}

-- the view of a session is the same after another order
pub reordered_view : (nodes : ℕ) (world : ReplicaWorld) (mail : Mail) (s : ℕ) → IsAtSome nodes world s → AreReordered world.mail mail →
    view_of nodes (with_order world mail) s ≡ view_of nodes world s
reordered_view nodes world mail s at are =
    let few : HasFew (view_of nodes world s) = few_at nodes s (view_of nodes world s) at.0 at.1 in
    same_parts (view_of nodes (with_order world mail) s) (view_of nodes world s) refl
    (reordered_filter world.mail mail are (is_of_session s) FRONT (s % nodes) few.commands) refl
    (reordered_filter world.mail mail are (is_of_session s) (s % nodes) FRONT few.outcomes)

pub reorder_keeps_sound : ReorderKeepsSound
reorder_keeps_sound shape world mail size sound are = record {
  places = record {
    replicas = sound.places.replicas;
    messages = λ from to. reordered_all world.mail mail are (IsAddressed shape.nodes from to) from to (sound.places.messages from to);
  };
  stages = λ s one most.
      let at : IsAtSome shape.nodes world s = sound.stages s one most in
      (at.0, subst (λ view. IsAt shape.nodes s view at.0) (sym (reordered_view shape.nodes world mail s at are)) at.1);
  sessions = sound.sessions;
}
