-- The written outcome of a difference stands in the transcript, at its place.
use Rattle.std.proofs.Common.{◌≡◌, ℕ, zero, suc, ◌+◌, ◌⊎◌, inl, inr, Bool, true, false, if◌then◌else◌, nat_eq, List, [], ◌∷◌, ◌++◌, fold, length, Option, Some, None, refl, sym, ap, ◌∙◌, subst, arith}
use Rattle.std.specs.Option.{option_to_list}
use Rattle.std.specs.List.{slice_get, flat_map}
use Rattle.std.proofs.lemmas.Bool.{eqb-true}
use Rattle.cl_types.specs.declared.operations.Command.{Command}
use Rattle.cl_types.specs.declared.operations.TxnId.{TxnId}
use Rattle.cl_types.specs.declared.answers.Outcome.{Outcome}
use Rattle.cl_lines.specs.declared.out.Out.{Out}
use Rattle.cl_lines.specs.declared.out.Out.TheVariants.{Answer, BadLine}
use Rattle.cl_serial.specs.Transcript.{TranscriptEntry, fed, written, quiet, gather, answered_in, outcome_in, questions, answers}
use Rattle.cl_serial.specs.Exchanges.{Exchange, unanswered, answered, pair_up, in_turn, after_answer}
use Rattle.cl_serial.specs.Transactions.{Transaction, Session, new_session, session_step, session_state, with_command, is_begin, is_passed_over, is_end, commands_in, numbered, commands_of}
use Rattle.cl_serial.specs.Exchanges.{outcome_of}
use Rattle.cl_serial.specs.Serial.{StandsAt, IsIn}
use Rattle.cl_serial.specs.Verdict.{FirstDifference}
use Rattle.cl_serial.specs.PlainMap.{no_values}
use Rattle.cl_serial.proofs.Places.{IsIn-push, IsIn-nil}

-- ---- lists

in_either : {X : Type 0} (xs ys : List X) (k : ℕ) (x : X) → StandsAt (xs ++ ys) k x → IsIn xs x ⊎ IsIn ys x
in_either [] ys k x h = inr (k, h)
in_either (z ∷ xs) ys zero x h = inl (0, h)
in_either (z ∷ xs) ys (suc k) x h = elim (in_either xs ys k x h) [ inl old ↦ inl (suc old.0, old.1) | inr new ↦ inr new ]

stands_between : {X : Type 0} (xs ys : List X) (x : X) → StandsAt (xs ++ x ∷ ys) (length xs) x
stands_between [] ys x = refl
stands_between (z ∷ xs) ys x = stands_between xs ys x

-- the fact holds of each exchange
abbrev AllHave : (Exchange → Type 0) → List Exchange → Type 0
AllHave P list = (exchange : Exchange) → IsIn list exchange → P exchange

-- of the exchanges in turn
in_turn_after : (P : Exchange → Type 0) (answer : Option (Outcome × ℕ)) (rest : List Exchange) → ((k : ℕ) (exchange : Exchange) → StandsAt rest k exchange → P exchange) → (k : ℕ) (exchange : Exchange) → StandsAt (after_answer answer rest) k exchange → P exchange
in_turn_after P None rest have k exchange h = absurd (IsIn-nil exchange (k, h))
in_turn_after P (Some answer) rest have k exchange h = have k exchange h

in_turn_have : (P : Exchange → Type 0) (list : List Exchange) → AllHave P list → (k : ℕ) (exchange : Exchange) → StandsAt (in_turn list) k exchange → P exchange
unfolding in_turn
in_turn_have P [] have k exchange h = absurd (IsIn-nil exchange (k, h))
in_turn_have P (x ∷ list) have zero exchange h = have exchange (0, h)
in_turn_have P (x ∷ list) have (suc k) exchange h =
    in_turn_after P x.answer (in_turn list) (in_turn_have P list (λ e is_in. have e (suc is_in.0, is_in.1))) k exchange h

-- the answer of an exchange is one of the answers
pair_up_given : (asked : List (Command × ℕ)) (given : List (Outcome × ℕ)) (k : ℕ) (exchange : Exchange) (answer : Outcome × ℕ) → StandsAt (pair_up asked given) k exchange → exchange.answer ≡ Some answer → IsIn given answer
unfolding pair_up
pair_up_given [] given k exchange answer h is = absurd (IsIn-nil exchange (k, h))
pair_up_given (q ∷ asked) [] zero exchange answer h is =
    let same : unanswered q ≡ exchange = cc in
    let none : None ≡ exchange.answer = ap (λ (e : Exchange). e.answer) same in absurd (cc)
pair_up_given (q ∷ asked) [] (suc k) exchange answer h is = pair_up_given asked [] k exchange answer h is
pair_up_given (q ∷ asked) (a ∷ given) zero exchange answer h is =
    let same : answered q a ≡ exchange = cc in
    let some : Some a ≡ exchange.answer = ap (λ (e : Exchange). e.answer) same in (0, some ∙ is)
pair_up_given (q ∷ asked) (a ∷ given) (suc k) exchange answer h is = let rest = pair_up_given asked given k exchange answer h is in (suc rest.0, rest.1)

-- ---- sessions

-- the fact holds of each command of a session
record SessionHas (P : Exchange → Type 0) (session : Session) : Type 0 where
  ended : (transaction : Transaction) → IsIn session.ended transaction → AllHave P transaction.commands
  current : (transaction : Transaction) → session.current ≡ Some transaction → AllHave P transaction.commands

none_has : (P : Exchange → Type 0) → AllHave P []
none_has P exchange h = absurd (IsIn-nil exchange h)

with_command_has : (P : Exchange → Type 0) (current : Transaction) (one : Exchange) → AllHave P current.commands → P one → AllHave P (current.commands ++ one ∷ [])
with_command_has P current one have here exchange is_in =
    elim (IsIn-push current.commands one exchange is_in) [ inl old ↦ have exchange old | inr same ↦ subst P (sym same) here ]

alone_has : (P : Exchange → Type 0) (one other : Transaction) → AllHave P one.commands → Some one ≡ Some other → AllHave P other.commands
alone_has P one other have same = let equal : one ≡ other = cc in subst (λ (t : Transaction). AllHave P t.commands) equal have

outside_has : (P : Exchange → Type 0) (begins : Bool) (ended : List Transaction) (one : Exchange) → ((transaction : Transaction) → IsIn ended transaction → AllHave P transaction.commands)
    → SessionHas P (if begins then record { ended = ended; current = Some (record { begin = one.line; commands = [] }) } else record { ended = ended; current = None })
outside_has P true ended one have = record { ended = have; current = λ transaction same. alone_has P (record { begin = one.line; commands = [] }) transaction (none_has P) same }
outside_has P false ended one have = record { ended = have; current = λ transaction same. absurd (cc) }

inside_has : (P : Exchange → Type 0) (passed ends : Bool) (ended : List Transaction) (now : Transaction) (one : Exchange) → ((transaction : Transaction) → IsIn ended transaction → AllHave P transaction.commands) → AllHave P now.commands → P one
    → SessionHas P (if passed then record { ended = ended; current = Some now } else (if ends then record { ended = ended ++ with_command now one ∷ []; current = None } else record { ended = ended; current = Some (with_command now one) }))
inside_has P true ends ended now one have mine here = record { ended = have; current = λ transaction same. alone_has P now transaction mine same }
inside_has P false true ended now one have mine here = record {
  ended = λ transaction is_in. elim (IsIn-push ended (with_command now one) transaction is_in) [
    | inl old ↦ have transaction old
    | inr same ↦ subst (λ (t : Transaction). AllHave P t.commands) (sym same) (with_command_has P now one mine here)
  ];
  current = λ transaction same. absurd (cc);
}
inside_has P false false ended now one have mine here = record { ended = have; current = λ transaction same. alone_has P (with_command now one) transaction (with_command_has P now one mine here) same }

step_has : (P : Exchange → Type 0) (ended : List Transaction) (current : Option Transaction) (one : Exchange) → SessionHas P (record { ended = ended; current = current }) → P one → SessionHas P (session_step (record { ended = ended; current = current }) one)
unfolding session_step
step_has P ended None one have here = outside_has P (is_begin one.command) ended one have.ended
step_has P ended (Some now) one have here = inside_has P (is_passed_over (outcome_of one)) (is_end (outcome_of one)) ended now one have.ended (have.current now refl) here

after_has : (P : Exchange → Type 0) (list : List Exchange) (session : Session) → SessionHas P session → AllHave P list → SessionHas P (fold session_step session list)
after_has P [] session have all = have
after_has P (x ∷ list) session have all =
    after_has P list (session_step session x) (step_has P session.ended session.current x have (all x (0, refl))) (λ e is_in. all e (suc is_in.0, is_in.1))

commands_have : (P : Exchange → Type 0) (transaction : Option Transaction) → ((one : Transaction) → transaction ≡ Some one → AllHave P one.commands) → AllHave P (commands_in transaction)
commands_have P None have = none_has P
commands_have P (Some one) have = have one refl

all_have : (P : Exchange → Type 0) (ended : List Transaction) (current : Option Transaction) → SessionHas P (record { ended = ended; current = current }) → (transaction : Transaction) → IsIn (ended ++ option_to_list current) transaction → AllHave P transaction.commands
all_have P ended None have transaction is_in =
    elim (in_either ended [] is_in.0 transaction is_in.1) [ inl old ↦ have.ended transaction old | inr none ↦ absurd (IsIn-nil transaction none) ]
all_have P ended (Some now) have transaction is_in =
    elim (IsIn-push ended now transaction is_in) [ inl old ↦ have.ended transaction old | inr same ↦ have.current transaction (ap Some (sym same)) ]

numbered_have : (P : Exchange → Type 0) (list : List Transaction) (number : ℕ) → ((transaction : Transaction) → IsIn list transaction → AllHave P transaction.commands) → AllHave P (commands_in (numbered list number))
numbered_have P list zero have = none_has P
numbered_have P list (suc k) have = commands_have P (slice_get list k) (λ one is. have one (k, is))

-- the answer of a command was answered to its session
command_answered : (transcript : List TranscriptEntry) (name : TxnId) (exchange : Exchange) → IsIn (commands_of transcript name) exchange → (answer : Outcome × ℕ) → exchange.answer ≡ Some answer → IsIn (answers name.session transcript) answer
command_answered transcript name =
    let P : Exchange → Type 0 = λ exchange. (answer : Outcome × ℕ) → exchange.answer ≡ Some answer → IsIn (answers name.session transcript) answer in
    let state = session_state name.session transcript in
    let asked = questions name.session transcript in
    let given = answers name.session transcript in
    let turns : AllHave P (in_turn (pair_up asked given)) = λ exchange is_in.
    in_turn_have P (pair_up asked given) (λ e at answer is. pair_up_given asked given at.0 e answer at.1 is) is_in.0 exchange is_in.1 in
    let none : SessionHas P new_session = record { ended = λ transaction h. absurd (IsIn-nil transaction h); current = λ transaction h. absurd (cc) } in
    numbered_have P (state.ended ++ option_to_list state.current) name.number
    (all_have P state.ended state.current (after_has P (in_turn (pair_up asked given)) new_session none turns))

-- ---- the transcript

answer_in : (session position : ℕ) (out : Out) (k : ℕ) (answer : Outcome × ℕ) → StandsAt (outcome_in session position out) k answer → (answer.1 ≡ position) × (out ≡ Answer session answer.0)
answer_in session position (Answer other outcome) k answer h = by_test (nat_eq other session) refl k h
  where
    by_test : (test : Bool) → nat_eq other session ≡ test → (j : ℕ) → StandsAt (if test then (outcome, position) ∷ [] else []) j answer → (answer.1 ≡ position) × (Answer other outcome ≡ Answer session answer.0)
    by_test true is zero g =
        let pair : (outcome, position) ≡ answer = ap (λ (o : Option (Outcome × ℕ)). elim o [ None ↦ (outcome, position) | Some a ↦ a ]) g in
        (ap (λ (a : Outcome × ℕ). a.1) (sym pair), (λ i. Answer (eqb-true other session is i) (pair i).0))
    by_test true is (suc j) g = absurd (IsIn-nil answer (j, g))
    by_test false is j g = absurd (IsIn-nil answer (j, g))
answer_in session position (BadLine line fault) k answer h = absurd (IsIn-nil answer (k, h))

entry_in : (session position : ℕ) (entry : TranscriptEntry) (k : ℕ) (answer : Outcome × ℕ) → StandsAt (answered_in session position entry) k answer → (answer.1 ≡ position) × (entry ≡ written (Answer session answer.0))
entry_in session position (fed number text) k answer h = absurd (IsIn-nil answer (k, h))
entry_in session position (written out) k answer h = let found = answer_in session position out k answer h in (found.0, ap written found.1)
entry_in session position quiet k answer h = absurd (IsIn-nil answer (k, h))

-- an answer of a session stands in the transcript, at its position
answer_stands : (session position : ℕ) (transcript : List TranscriptEntry) (k : ℕ) (answer : Outcome × ℕ) → StandsAt (gather (answered_in session) position transcript) k answer
    → (i : ℕ) × (answer.1 ≡ position + i) × StandsAt transcript i (written (Answer session answer.0))
unfolding gather
answer_stands session position [] k answer h = absurd (IsIn-nil answer (k, h))
answer_stands session position (entry ∷ transcript) k answer h =
    elim (in_either (answered_in session position entry) (gather (answered_in session) (suc position) transcript) k answer h) [
      | inl here ↦ let found = entry_in session position entry here.0 answer here.1 in (0, omega (arith, found.0), ap Some found.1)
      | inr later ↦ let found = answer_stands session (suc position) transcript later.0 answer later.1 in (suc found.0, omega (arith, found.1), found.2)
    ]

-- a command among those of members is one of a member
member_of : (commands : TxnId → List Exchange) (history : List TxnId) (k : ℕ) (exchange : Exchange) → StandsAt (flat_map commands history) k exchange → (name : TxnId) × IsIn history name × IsIn (commands name) exchange
member_of commands [] k exchange h = absurd (IsIn-nil exchange (k, h))
member_of commands (name ∷ history) k exchange h =
    elim (in_either (commands name) (flat_map commands history) k exchange h) [
      | inl here ↦ (name, (0, refl), here)
      | inr later ↦ let found = member_of commands history later.0 exchange later.1 in (found.0, (suc found.1.0, found.1.1), found.2)
    ]

pub difference_stands : (transcript : List TranscriptEntry) (history : List TxnId) (place : ℕ) (told replayed : Outcome) → FirstDifference no_values (flat_map (commands_of transcript) history) place told replayed
    → (name : TxnId) × IsIn history name × StandsAt transcript place (written (Answer name.session told))
difference_stands transcript history place told replayed d =
    let list = flat_map (commands_of transcript) history in
    let at : StandsAt list (length d.before) d.exchange = subst (λ (l : List Exchange). StandsAt l (length d.before) d.exchange) (sym d.split) (stands_between d.before d.after d.exchange) in
    let found = member_of (commands_of transcript) history (length d.before) d.exchange at in
    let given = command_answered transcript found.0 d.exchange found.2 (told, place) d.answered in
    let stands = answer_stands found.0.session 0 transcript given.0 (told, place) given.1 in
    let same : stands.0 ≡ place = omega (arith, stands.1) in
    (found.0, found.1, subst (λ (i : ℕ). StandsAt transcript i (written (Answer found.0.session told))) same stands.2)
