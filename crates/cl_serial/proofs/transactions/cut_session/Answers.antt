-- The pairs that are left, after one more question.
use Rattle.std.proofs.Common.{◌≡◌, ℕ, List, [], ◌∷◌, fold, IfOk, sym, ap, subst, ◌∙◌}
use Rattle.std.proofs.lemmas.List.{nil_from_length}
use Rattle.std.specs.Vec.Iter.{into_iter_items}
use Rattle.cl_types.specs.declared.operations.Command.{Command}
use Rattle.cl_types.specs.declared.answers.Outcome.{Outcome}
use Rattle.cl_serial.specs.Exchanges.{unanswered, answered, pair_up, in_turn}
use Rattle.cl_serial.specs.Transactions.{Session, session_step}
use Rattle.cl_serial.proofs.transactions.cut_session.Goals as goal

-- what is left takes a session on
abbrev rest_of : Session → List (Command × ℕ) → List (Outcome × ℕ) → Session
rest_of session asked given = fold session_step session (in_turn (pair_up asked given))

rest-answered : (session after : Session) (q : Command × ℕ) (a : Outcome × ℕ) (asked asked' : List (Command × ℕ)) (given given' : List (Outcome × ℕ)) → asked ≡ q ∷ asked' → given ≡ a ∷ given'
    → after ≡ session_step session (answered q a) → rest_of after asked' given' ≡ rest_of session asked given
unfolding pair_up in_turn
rest-answered session after q a asked asked' given given' is_asked is_given step =
    ap (λ s. rest_of s asked' given') step ∙ (λ i. rest_of session (sym is_asked i) (sym is_given i))

rest-unanswered : (session : Session) (q : Command × ℕ) (asked asked' : List (Command × ℕ)) (given : List (Outcome × ℕ)) → asked ≡ q ∷ asked' → given ≡ []
    → session_step session (unanswered q) ≡ rest_of session asked given
unfolding pair_up in_turn
rest-unanswered session q asked asked' given is_asked is_given = λ i. rest_of session (sym is_asked i) (sym is_given i)

rest-none : (session : Session) (asked : List (Command × ℕ)) (given : List (Outcome × ℕ)) → asked ≡ [] → session ≡ rest_of session asked given
unfolding pair_up in_turn
rest-none session asked given is_asked = λ i. rest_of session (sym is_asked i) given

pub loop-question-preserved : goal.loop-question-preserved
loop-question-preserved c =
    rest-answered _ _ c.in-Some.question c.in-Some-next.answer _ _ _ _ c.in-Some.ensures.items c.in-Some-next.ensures.items
    (c.in_ok-session-in-Some-next.ensures ∙ ap (session_step c.loop-question.session) c.answered.ensures)
    ∙ c.loop-question.invariant

pub returns-in-None : goal.returns-in-None
returns-in-None c =
    let P : Session → Type 0 = λ goal_session. IfOk c.after-in-None.result (λ session. session ≡ goal_session) in
    let none : into_iter_items c.loop-question.answers ≡ [] = nil_from_length _ (sym c.loop-question.answers.rest.ok.0 ∙ c.in-None.ensures.cases.0) in
    subst P
    (ap (session_step c.loop-question.session) c.unanswered.ensures
    ∙ rest-unanswered c.loop-question.session c.in-Some.question _ _ _ c.in-Some.ensures.items none
    ∙ c.loop-question.invariant)
    c.after-in-None.ensures

pub returns : goal.returns
returns c =
    let none : into_iter_items c.loop-question.questions ≡ [] = nil_from_length _ (sym c.loop-question.questions.rest.ok.0 ∙ c.in_default.ensures.cases.0) in
    rest-none c.loop-question.session _ (into_iter_items c.loop-question.answers) none ∙ c.loop-question.invariant
