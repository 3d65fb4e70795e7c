-- Commands of a session and their answers in order, each answer fit for its turn: what follows of them, and how they grow.
use Rattle.std.proofs.Common.{◌≡◌, ℕ, zero, suc, ◌<◌, ◌≤◌, List, [], ◌∷◌, ◌++◌, length, map, take, drop, fold, Option, Some, None, IsSome, refl, sym, ◌∙◌, ap, subst, arith}
use Rattle.std.specs.List.{AllByRecursion}
use Rattle.std.specs.Option.{unwrap_or}
use Rattle.cl_serial.specs.Exchanges.{Exchange, unanswered, answered, pair_up, in_turn, outcome_of}
use Rattle.cl_serial.specs.Serial.{StandsAt, FitsTurn}
use Rattle.cl_serial.specs.Transactions.{Session, session_step}
use Rattle.cl_shown.specs.Sessions.{AreLawful}
use Rattle.cl_shown.proofs.Lawful.{AreLawfulBelow, lawful_from, lawful_step}
use Rattle.cl_types.specs.declared.answers.Outcome.{Outcome}
use Rattle.cl_types.specs.declared.operations.Command.{Command}

-- each answer has its command, which stands before it, and fits the turn of the session that starts so
abbrev pub FitAll : Session → List (Command × ℕ) → List (Outcome × ℕ) → Type 0
FitAll start asked [] = Unit {0}
FitAll start [] (answer ∷ given) = ⊥
FitAll start (question ∷ asked) (answer ∷ given) =
    FitsTurn start question.0 answer.0 × (question.1 < answer.1) × FitAll (session_step start (answered question answer)) asked given

-- the positions are rising, from this one on
abbrev pub AreRising : ℕ → List (Command × ℕ) → Type 0
AreRising floor [] = Unit {0}
AreRising floor (question ∷ asked) = (floor ≤ question.1) × AreRising (suc question.1) asked

-- the positions are below this one
abbrev pub AreBelow : {A : Type 0} → ℕ → List (A × ℕ) → Type 0
AreBelow {A} size list = AllByRecursion (λ (one : A × ℕ). one.1 < size) list

-- ---- growth

-- more commands
pub fit_more : (start : Session) (asked : List (Command × ℕ)) (given : List (Outcome × ℕ)) (more : List (Command × ℕ)) → FitAll start asked given →
    FitAll start (asked ++ more) given
fit_more start asked [] more fit = tt
fit_more start [] (answer ∷ given) more fit = absurd fit
fit_more start (question ∷ asked) (answer ∷ given) more fit = (fit.0, fit.1, fit_more (session_step start (answered question answer)) asked given more fit.2)

-- the first command without an answer has one
pub fit_answer : (start : Session) (asked : List (Command × ℕ)) (given : List (Outcome × ℕ)) (answer : Outcome × ℕ) (command : Command) (left : List Command) →
    map (λ (question : Command × ℕ). question.0) (drop (length given) asked) ≡ command ∷ left →
    FitsTurn (fold session_step start (take (length given) (pair_up asked given))) command answer.0 → AreBelow answer.1 asked →
    FitAll start asked given → FitAll start asked (given ++ answer ∷ [])
unfolding pair_up
fit_answer start [] [] answer command left is fits below fit = absurd cc
fit_answer start [] (first ∷ given) answer command left is fits below fit = absurd fit
fit_answer start (question ∷ asked) [] answer command left is fits below fit =
    let same : question.0 ≡ command = cc in
    (subst (λ c. FitsTurn start c answer.0) (sym same) fits, below.0, tt)
fit_answer start (question ∷ asked) (first ∷ given) answer command left is fits below fit =
    (fit.0, fit.1, fit_answer (session_step start (answered question first)) asked given answer command left is fits below.1 fit.2)

-- ---- what follows

pub fit_few : (start : Session) (asked : List (Command × ℕ)) (given : List (Outcome × ℕ)) → FitAll start asked given → length given ≤ length asked
fit_few start asked [] fit = omega arith
fit_few start [] (answer ∷ given) fit = absurd fit
fit_few start (question ∷ asked) (answer ∷ given) fit = omega (arith, fit_few (session_step start (answered question answer)) asked given fit.2)

-- each answer follows its command
pub fit_follow : (start : Session) (asked : List (Command × ℕ)) (given : List (Outcome × ℕ)) → FitAll start asked given →
    (k : ℕ) (outcome : Outcome) (position : ℕ) → StandsAt given k (outcome, position) →
    (command : Command) × (line : ℕ) × StandsAt asked k (command, line) × (line < position)
fit_follow start asked [] fit k outcome position at = absurd (let none : None ≡ Some (outcome, position) = at in cc)
fit_follow start [] (answer ∷ given) fit k outcome position at = absurd fit
fit_follow start (question ∷ asked) (answer ∷ given) fit zero outcome position at =
    let same : answer.1 ≡ position = ap (λ (o : Option (Outcome × ℕ)). (unwrap_or o answer).1) at in
    (question.0, question.1, refl, subst (λ n. question.1 < n) same fit.1)
fit_follow start (question ∷ asked) (answer ∷ given) fit (suc k) outcome position at =
    fit_follow (session_step start (answered question answer)) asked given fit.2 k outcome position at

none_answered : (asked : List (Command × ℕ)) (k : ℕ) (exchange : Exchange) → StandsAt (pair_up asked []) k exchange → outcome_of exchange ≡ None
unfolding pair_up
none_answered [] k exchange at = absurd (let none : None ≡ Some exchange = at in cc)
none_answered (question ∷ asked) zero exchange at =
    let same : unanswered question ≡ exchange = ap (λ (o : Option Exchange). unwrap_or o (unanswered question)) at in
    sym (ap outcome_of same)
none_answered (question ∷ asked) (suc k) exchange at = none_answered asked k exchange at

-- each answer fits the session as the exchanges before it left it
pub fit_turns : (start : Session) (asked : List (Command × ℕ)) (given : List (Outcome × ℕ)) → FitAll start asked given →
    (k : ℕ) (exchange : Exchange) (outcome : Outcome) → StandsAt (pair_up asked given) k exchange →
    outcome_of exchange ≡ Some outcome → FitsTurn (fold session_step start (take k (pair_up asked given))) exchange.command outcome
unfolding pair_up
fit_turns start asked [] fit k exchange outcome at is = absurd (let none : None ≡ Some outcome = sym (none_answered asked k exchange at) ∙ is in cc)
fit_turns start [] (answer ∷ given) fit k exchange outcome at is = absurd fit
fit_turns start (question ∷ asked) (answer ∷ given) fit zero exchange outcome at is =
    let same : answered question answer ≡ exchange = ap (λ (o : Option Exchange). unwrap_or o (answered question answer)) at in
    let outcome_is : answer.0 ≡ outcome = ap (λ (o : Option Outcome). unwrap_or o answer.0) (ap outcome_of same ∙ is) in
    subst (λ c. FitsTurn start c outcome) (ap (λ (e : Exchange). e.command) same) (subst (λ o. FitsTurn start question.0 o) outcome_is fit.0)
fit_turns start (question ∷ asked) (answer ∷ given) fit (suc k) exchange outcome at is =
    fit_turns (session_step start (answered question answer)) asked given fit.2 k exchange outcome at is

-- the transactions of the answered part are lawful
pub fit_lawful : (start : Session) (asked : List (Command × ℕ)) (given : List (Outcome × ℕ)) (size floor : ℕ) → AreLawfulBelow start size floor →
    AreRising floor asked → AreBelow size given → FitAll start asked given →
    AreLawful (fold session_step start (take (length given) (pair_up asked given))) size
unfolding pair_up
fit_lawful start asked [] size floor is rising below fit = lawful_from start size floor is
fit_lawful start [] (answer ∷ given) size floor is rising below fit = absurd fit
fit_lawful start (question ∷ asked) (answer ∷ given) size floor is rising below fit =
    fit_lawful (session_step start (answered question answer)) asked given size (suc question.1)
    (lawful_step start question answer size floor rising.0 fit.1 below.0 fit.0 is) rising.1 below.1 fit.2

-- ---- in turn

-- in turn are the answered ones, and then the first without an answer, if there is one
pub in_turn_are : (asked : List (Command × ℕ)) (given : List (Outcome × ℕ)) → length given ≤ length asked →
    in_turn (pair_up asked given) ≡ take (length given) (pair_up asked given) ++ map unanswered (take 1 (drop (length given) asked))
unfolding pair_up in_turn
in_turn_are [] [] few = refl
in_turn_are [] (answer ∷ given) few = absurd (omega (arith, few))
in_turn_are (question ∷ asked) [] few = refl
in_turn_are (question ∷ asked) (answer ∷ given) few = ap (λ more. answered question answer ∷ more) (in_turn_are asked given (omega (arith, few)))

-- where none is left without an answer, each has one
pub each_answered : (asked : List (Command × ℕ)) (given : List (Outcome × ℕ)) → map (λ (question : Command × ℕ). question.0) (drop (length given) asked) ≡ [] →
    (k : ℕ) (exchange : Exchange) → StandsAt (pair_up asked given) k exchange → IsSome (outcome_of exchange)
unfolding pair_up
each_answered [] given none k exchange at = absurd (let nothing : None ≡ Some exchange = at in cc)
each_answered (question ∷ asked) [] none k exchange at = absurd cc
each_answered (question ∷ asked) (answer ∷ given) none zero exchange at =
    let same : answered question answer ≡ exchange = ap (λ (o : Option Exchange). unwrap_or o (answered question answer)) at in
    subst (λ e. IsSome (outcome_of e)) same refl
each_answered (question ∷ asked) (answer ∷ given) none (suc k) exchange at = each_answered asked given none k exchange at
