-- Each command on its way from the front has a number that a packet has room for.
use Rattle.std.proofs.Common.{◌≡◌, ℕ, ◌%◌, ◌≤◌, Bool, true, List, [], ◌∷◌, filter, All, get_or, refl, sym, ◌∙◌, subst, arith}
use Rattle.std.proofs.lemmas.Bool.{cond_both, and_parts, leb-true, eq-eqb, true≢false}
use Rattle.std.proofs.lemmas.List.Elements.{All-nil, All-cons, All-head, All-tail}
use Rattle.cl_control.specs.State.{Entry}
use Rattle.cl_exchange.specs.Laws.{IsSoundWorld}
use Rattle.cl_exchange.specs.Stage.{SessionView, Stage, outside, ready, asking, working, telling, IsAt, HasBeforeCommand, view_of, is_of_session}
use Rattle.cl_fields.specs.Range.{IsCommandNumber}
use Rattle.cl_front.specs.declared.current.Current.{Current}
use Rattle.cl_runs.specs.World.{Shape}
use Rattle.cl_steps.specs.declared.actors.TheConstants.{FRONT}
use Rattle.cl_system.specs.Replicas.{ReplicaWorld}
use Rattle.cl_system.specs.Roles.{IsAddressed}
use Rattle.cl_types.specs.declared.limits.TheConstants.{SESSIONS_MAX, OPERATIONS_MAX}
use Rattle.cl_types.specs.declared.operations.Command.{Command as ClientCommand}
use Rattle.cl_types.specs.declared.operations.Command.TheVariants.{Begin, Work, Commit, Abort}
use Rattle.cl_wire.specs.Message.{Content, Command}

-- the number of a command is in range
abbrev pub IsNumbered : Content → Type 0
IsNumbered (Command v txn number asked) = IsCommandNumber number
IsNumbered content = Unit {0}

before_numbered : (s : ℕ) (view : SessionView) (current : Current) (what : ClientCommand) (entries : List Entry) → current.operations ≤ OPERATIONS_MAX → HasBeforeCommand s view current what entries → IsCommandNumber current.commands
before_numbered s view current Begin entries most before = let on = before.0 in omega (arith, on, most)
before_numbered s view current (Work table key op) entries most before = let on = before.0 in omega (arith, on, most)
before_numbered s view current Commit entries most before = let on = before.0 in omega (arith, on, most)
before_numbered s view current Abort entries most before = let on = before.0 in omega (arith, on, most)

none_numbered : (commands : List Content) → commands ≡ [] → All IsNumbered commands
none_numbered commands none = subst (All IsNumbered) (sym none) (All-nil IsNumbered)

stage_numbered : (nodes s : ℕ) (view : SessionView) (stage : Stage) → IsAt nodes s view stage → All IsNumbered view.commands
stage_numbered nodes s view outside at = none_numbered view.commands at.1.commands
stage_numbered nodes s view (ready current entry) at = none_numbered view.commands at.commands
stage_numbered nodes s view (asking current what entries) at =
    subst (All IsNumbered) (sym at.commands) (All-cons IsNumbered _ [] (before_numbered s view current what entries at.inside.operations at.before) (All-nil IsNumbered))
stage_numbered nodes s view (working current entry) at = none_numbered view.commands at.commands
stage_numbered nodes s view (telling current outcome entries) at = none_numbered view.commands at.commands

-- what holds of each that passes a test
unfiltered : (p : Content → Bool) (Q : Content → Type 0) (xs : List Content) → All Q (filter p xs) → All (λ x. p x ≡ true → Q x) xs
unfiltered p Q [] all = All-nil (λ x. p x ≡ true → Q x)
unfiltered p Q (x ∷ xs) all =
    cond_both (p x) (x ∷ filter p xs) (filter p xs) (λ list. All Q list → All (λ x. p x ≡ true → Q x) (x ∷ xs))
    (λ passes all. All-cons (λ x. p x ≡ true → Q x) x xs (λ is. All-head Q x (filter p xs) all) (unfiltered p Q xs (All-tail Q x (filter p xs) all)))
    (λ fails all. All-cons (λ x. p x ≡ true → Q x) x xs (λ is. absurd (true≢false (sym is ∙ fails))) (unfiltered p Q xs all)) all

numbered_at : (nodes to : ℕ) (content : Content) → IsAddressed nodes FRONT to content →
    ((s : ℕ) → 1 ≤ s → s ≤ SESSIONS_MAX → to ≡ s % nodes → is_of_session s content ≡ true → IsNumbered content) → IsNumbered content
numbered_at nodes to (Command v txn number asked) is of =
    let parts = and_parts _ _ is.session in
    of txn.session (leb-true 1 txn.session parts.0) (leb-true txn.session SESSIONS_MAX parts.1) (is.receiver ∙ is.node) (eq-eqb txn.session txn.session refl)
numbered_at nodes to content is of = tt

-- so it is of each command on its way
pub mail_numbered : (shape : Shape) (world : ReplicaWorld) → IsSoundWorld shape world → (to : ℕ) → All IsNumbered (world.mail FRONT to)
mail_numbered shape world sound to k d within =
    numbered_at shape.nodes to (get_or (world.mail FRONT to) k d) (sound.places.messages FRONT to k d within)
    (λ s low high here of.
    let at = sound.stages s low high in
    let all : All (λ content. is_of_session s content ≡ true → IsNumbered content) (world.mail FRONT (s % shape.nodes))
    = unfiltered (is_of_session s) IsNumbered (world.mail FRONT (s % shape.nodes)) (stage_numbered shape.nodes s (view_of shape.nodes world s) at.0 at.1) in
    subst (λ n. All (λ content. is_of_session s content ≡ true → IsNumbered content) (world.mail FRONT n)) (sym here) all k d within of)
