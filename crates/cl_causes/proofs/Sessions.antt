-- What the transactions of a session have of commands, as the session takes more exchanges.
use Rattle.std.proofs.Common.{◌≡◌, ℕ, zero, suc, ◌+◌, ◌≤◌, Bool, true, false, cond, ◌⊎◌, inl, inr, List, [], ◌∷◌, ◌++◌, length, map, filter, Option, Some, None, refl, sym, ap, ◌∙◌, subst, arith, append_assoc}
use Rattle.std.specs.List.{fold, slice_get}
use Rattle.std.specs.Option.{option_to_list}
use Rattle.std.proofs.lemmas.Bool.{false≢true, cond-true}
use Rattle.std.proofs.lemmas.List.{append-nil, length-append, map-append}
use Rattle.std.proofs.lemmas.List.Elements.{filter-append}
use Rattle.cl_types.specs.declared.operations.Command.{Command}
use Rattle.cl_types.specs.declared.operations.Command.TheVariants.{Begin, Work, Commit, Abort}
use Rattle.cl_types.specs.declared.answers.Outcome.{Outcome}
use Rattle.cl_serial.specs.Exchanges.{Exchange, unanswered, answered, outcome_of}
use Rattle.cl_serial.specs.PlainMap.{operations, operation_by}
use Rattle.cl_serial.specs.Serial.{IsIn, StandsAt}
use Rattle.cl_serial.specs.Transactions.{Transaction, Session, session_step, with_command, commands_in, numbered, is_begin, is_end, is_passed_over}
use Rattle.cl_serial.proofs.Growth.{all_of}
use Rattle.cl_serial.proofs.Places.{IsIn-nil, IsIn-push, StandsAt-push_last}

-- a command with the position of its line
abbrev pub Line : Type 0
Line = Command × ℕ

-- the commands of the transaction of this number
abbrev pub commands_at : Session → ℕ → List Exchange
commands_at session number = commands_in (numbered (all_of session) number)

-- what exchanges asked, without the answers
abbrev pub line_of : Exchange → Line
line_of exchange = (exchange.command, exchange.line)

abbrev pub lines_of : List Exchange → List Line
lines_of commands = map line_of commands

-- ---- lists that begin with a list

pub record Begins {X : Type 0} (whole start : List X) : Type 0 where
  pub rest : List X
  pub is : whole ≡ start ++ rest

pub begins_itself : {X : Type 0} (xs : List X) → Begins xs xs
begins_itself xs = record { rest = []; is = sym (append-nil xs) }

pub begins_twice : {X : Type 0} (xs ys zs : List X) → Begins ys xs → Begins zs ys → Begins zs xs
begins_twice xs ys zs a b = record { rest = a.rest ++ b.rest; is = b.is ∙ (ap (λ list. list ++ b.rest) a.is ∙ append_assoc xs a.rest b.rest) }

pub IsIn-either : {X : Type 0} (xs ys : List X) (x : X) → IsIn (xs ++ ys) x → IsIn xs x ⊎ IsIn ys x
IsIn-either [] ys x h = inr h
IsIn-either (y ∷ xs) ys x (zero, h) = inl (0, h)
IsIn-either (y ∷ xs) ys x (suc i, h) = elim (IsIn-either xs ys x (i, h)) [ inl here ↦ inl (suc here.0, here.1) | inr there ↦ inr there ]

-- ---- one more exchange

-- nothing is added, or the exchange as the last one
pub data Adds (before after : List Exchange) (one : Exchange) : Type 0 where
  nothing_more : after ≡ before → Adds before after one
  one_more : after ≡ before ++ one ∷ [] → Adds before after one

begun_there : (ended : List Transaction) (line k : ℕ) → commands_in (slice_get (ended ++ record { begin = line; commands = [] } ∷ []) k) ≡ commands_in (slice_get ended k)
begun_there [] line zero = refl
begun_there [] line (suc k) = refl
begun_there (x ∷ ended) line zero = refl
begun_there (x ∷ ended) line (suc k) = begun_there ended line k

last_there : (ended : List Transaction) (current : Transaction) (one : Exchange) (k : ℕ) →
    Adds (commands_in (slice_get (ended ++ current ∷ []) k)) (commands_in (slice_get (ended ++ with_command current one ∷ []) k)) one
last_there [] current one zero = one_more refl
last_there [] current one (suc k) = nothing_more refl
last_there (x ∷ ended) current one zero = nothing_more refl
last_there (x ∷ ended) current one (suc k) = last_there ended current one k

last_numbered : (ended : List Transaction) (current : Transaction) (one : Exchange) (n : ℕ) →
    Adds (commands_in (numbered (ended ++ current ∷ []) n)) (commands_in (numbered (ended ++ with_command current one ∷ []) n)) one
last_numbered ended current one zero = nothing_more refl
last_numbered ended current one (suc k) = last_there ended current one k

begun_numbered : (ended : List Transaction) (line n : ℕ) → commands_in (numbered (ended ++ record { begin = line; commands = [] } ∷ []) n) ≡ commands_in (numbered (ended ++ []) n)
begun_numbered ended line zero = refl
begun_numbered ended line (suc k) = begun_there ended line k ∙ ap (λ list. commands_in (slice_get list k)) (sym (append-nil ended))

outside_adds : (begins : Bool) (ended : List Transaction) (one : Exchange) (n : ℕ) →
    Adds (commands_in (numbered (ended ++ []) n)) (commands_at (cond begins (record { ended = ended; current = Some (record { begin = one.line; commands = [] }) }) (record { ended = ended; current = None })) n) one
outside_adds true ended one n = nothing_more (begun_numbered ended one.line n)
outside_adds false ended one n = nothing_more refl

inside_adds : (passes ends : Bool) (ended : List Transaction) (current : Transaction) (one : Exchange) (n : ℕ) →
    Adds (commands_in (numbered (ended ++ current ∷ []) n)) (commands_at (cond passes (record { ended = ended; current = Some current })
    (cond ends (record { ended = ended ++ with_command current one ∷ []; current = None }) (record { ended = ended; current = Some (with_command current one) }))) n) one
inside_adds true ends ended current one n = nothing_more refl
inside_adds false true ended current one n =
    subst (λ list. Adds (commands_in (numbered (ended ++ current ∷ []) n)) (commands_in (numbered list n)) one) (sym (append-nil (ended ++ with_command current one ∷ []))) (last_numbered ended current one n)
inside_adds false false ended current one n = last_numbered ended current one n

step_adds_to : (ended : List Transaction) (current : Option Transaction) (one : Exchange) (n : ℕ) →
    Adds (commands_at (record { ended = ended; current = current }) n) (commands_at (session_step (record { ended = ended; current = current }) one) n) one
unfolding session_step
step_adds_to ended None one n = outside_adds (is_begin one.command) ended one n
step_adds_to ended (Some current) one n = inside_adds (is_passed_over (outcome_of one)) (is_end (outcome_of one)) ended current one n

-- one more exchange adds at most itself to a transaction
pub step_adds : (session : Session) (one : Exchange) (n : ℕ) → Adds (commands_at session n) (commands_at (session_step session one) n) one
step_adds session one n = step_adds_to session.ended session.current one n

adds_begins : (before after : List Exchange) (one : Exchange) → Adds before after one → Begins after before
adds_begins before after one (nothing_more is) = record { rest = []; is = is ∙ sym (append-nil before) }
adds_begins before after one (one_more is) = record { rest = one ∷ []; is = is }

adds_found : (before after : List Exchange) (one e : Exchange) → Adds before after one → IsIn after e → IsIn before e ⊎ (e ≡ one)
adds_found before after one e (nothing_more is) h = inl (subst (λ list. IsIn list e) is h)
adds_found before after one e (one_more is) h = IsIn-push before one e (subst (λ list. IsIn list e) is h)

-- more exchanges leave what a transaction has
pub commands_begin : (list : List Exchange) (session : Session) (n : ℕ) → Begins (commands_at (fold session_step session list) n) (commands_at session n)
commands_begin [] session n = begins_itself (commands_at session n)
commands_begin (one ∷ list) session n =
    begins_twice (commands_at session n) (commands_at (session_step session one) n) (commands_at (fold session_step (session_step session one) list) n)
    (adds_begins _ _ one (step_adds session one n)) (commands_begin list (session_step session one) n)

-- what a transaction has, it had, or it is one of these exchanges
pub commands_found : (list : List Exchange) (session : Session) (n : ℕ) (e : Exchange) → IsIn (commands_at (fold session_step session list) n) e →
    IsIn (commands_at session n) e ⊎ IsIn list e
commands_found [] session n e h = inl h
commands_found (one ∷ list) session n e h = elim (commands_found list (session_step session one) n e h) [
  | inl here ↦ elim (adds_found _ _ one e (step_adds session one n) here) [
    | inl old ↦ inl old
    | inr new ↦ inr (0, ap Some (sym new))
  ]
  | inr there ↦ inr (suc there.0, there.1)
]

-- ---- a command before its answer and after it

replaced_there : (ended : List Transaction) (x y : Transaction) (k : ℕ) → lines_of x.commands ≡ lines_of y.commands →
    lines_of (commands_in (slice_get (ended ++ x ∷ []) k)) ≡ lines_of (commands_in (slice_get (ended ++ y ∷ []) k))
replaced_there [] x y zero same = same
replaced_there [] x y (suc k) same = refl
replaced_there (z ∷ ended) x y zero same = refl
replaced_there (z ∷ ended) x y (suc k) same = replaced_there ended x y k same

replaced : (ended : List Transaction) (x y : Transaction) (n : ℕ) → lines_of x.commands ≡ lines_of y.commands →
    lines_of (commands_in (numbered (ended ++ x ∷ []) n)) ≡ lines_of (commands_in (numbered (ended ++ y ∷ []) n))
replaced ended x y zero same = refl
replaced ended x y (suc k) same = replaced_there ended x y k same

same_lines : (current : Transaction) (one two : Exchange) → line_of one ≡ line_of two → lines_of (with_command current one).commands ≡ lines_of (with_command current two).commands
same_lines current one two same = map-append line_of current.commands (one ∷ []) ∙ (ap (λ line. lines_of current.commands ++ line ∷ []) same ∙ sym (map-append line_of current.commands (two ∷ [])))

inside_same : (passes ends : Bool) (ended : List Transaction) (current : Transaction) (one two : Exchange) (n : ℕ) → passes ≡ false → line_of one ≡ line_of two →
    lines_of (commands_in (numbered (ended ++ with_command current one ∷ []) n)) ≡ lines_of (commands_at (cond passes (record { ended = ended; current = Some current })
    (cond ends (record { ended = ended ++ with_command current two ∷ []; current = None }) (record { ended = ended; current = Some (with_command current two) }))) n)
inside_same true ends ended current one two n stays same = absurd (false≢true (sym stays))
inside_same false true ended current one two n stays same =
    replaced ended (with_command current one) (with_command current two) n (same_lines current one two same)
    ∙ ap (λ list. lines_of (commands_in (numbered list n))) (sym (append-nil (ended ++ with_command current two ∷ [])))
inside_same false false ended current one two n stays same = replaced ended (with_command current one) (with_command current two) n (same_lines current one two same)

step_same_in : (ended : List Transaction) (current : Option Transaction) (question : Line) (answer : Outcome × ℕ) (n : ℕ) → is_passed_over (Some answer.0) ≡ false →
    lines_of (commands_at (session_step (record { ended = ended; current = current }) (unanswered question)) n) ≡ lines_of (commands_at (session_step (record { ended = ended; current = current }) (answered question answer)) n)
unfolding session_step
step_same_in ended None question answer n stays = refl
step_same_in ended (Some current) question answer n stays =
    inside_same (is_passed_over (Some answer.0)) (is_end (Some answer.0)) ended current (unanswered question) (answered question answer) n stays refl

-- an answer that is not passed over leaves the lines of each transaction
pub step_same : (session : Session) (question : Line) (answer : Outcome × ℕ) (n : ℕ) → is_passed_over (Some answer.0) ≡ false →
    lines_of (commands_at (session_step session (unanswered question)) n) ≡ lines_of (commands_at (session_step session (answered question answer)) n)
step_same session question answer n stays = step_same_in session.ended session.current question answer n stays

-- lists of lines that begin with others
pub lines_begin : (before after : List Exchange) → Begins after before → Begins (lines_of after) (lines_of before)
lines_begin before after h = record { rest = lines_of h.rest; is = ap lines_of h.is ∙ map-append line_of before h.rest }

-- ---- ended transactions

outside_ended : (begins : Bool) (ended : List Transaction) (line : ℕ) →
    length ended ≤ length (cond {A = Session} begins (record { ended = ended; current = Some (record { begin = line; commands = [] }) }) (record { ended = ended; current = None })).ended
outside_ended true ended line = omega arith
outside_ended false ended line = omega arith

inside_ended : (passes ends : Bool) (ended : List Transaction) (current after : Transaction) →
    length ended ≤ length (cond {A = Session} passes (record { ended = ended; current = Some current }) (cond {A = Session} ends (record { ended = ended ++ after ∷ []; current = None }) (record { ended = ended; current = Some after }))).ended
inside_ended true ends ended current after = omega arith
inside_ended false true ended current after = omega (arith, length-append ended (after ∷ []))
inside_ended false false ended current after = omega arith

step_ended_in : (ended : List Transaction) (current : Option Transaction) (one : Exchange) → length ended ≤ length (session_step (record { ended = ended; current = current }) one).ended
unfolding session_step
step_ended_in ended None one = outside_ended (is_begin one.command) ended one.line
step_ended_in ended (Some current) one = inside_ended (is_passed_over (outcome_of one)) (is_end (outcome_of one)) ended current (with_command current one)

-- none is lost
pub ended_grow : (list : List Exchange) (session : Session) → length session.ended ≤ length (fold session_step session list).ended
ended_grow [] session = omega arith
ended_grow (one ∷ list) session =
    let here = step_ended_in session.ended session.current one in
    let there = ended_grow list (session_step session one) in
    omega (arith, here, there)

-- no command of the transaction that the session is in has ended it
abbrev pub NoneEnds : Option Transaction → Type 0
NoneEnds None = Unit {0}
NoneEnds (Some transaction) = (e : Exchange) → IsIn transaction.commands e → is_end (outcome_of e) ≡ false

outside_none_ends : (begins : Bool) (ended : List Transaction) (line : ℕ) →
    NoneEnds (cond {A = Session} begins (record { ended = ended; current = Some (record { begin = line; commands = [] }) }) (record { ended = ended; current = None })).current
outside_none_ends true ended line = λ e h. absurd (IsIn-nil e h)
outside_none_ends false ended line = tt

inside_none_ends : (passes ends : Bool) (ended : List Transaction) (current : Transaction) (one : Exchange) → is_end (outcome_of one) ≡ ends → NoneEnds (Some current) →
    NoneEnds (cond {A = Session} passes (record { ended = ended; current = Some current }) (cond {A = Session} ends (record { ended = ended ++ with_command current one ∷ []; current = None }) (record { ended = ended; current = Some (with_command current one) }))).current
inside_none_ends true ends ended current one is h = h
inside_none_ends false true ended current one is h = tt
inside_none_ends false false ended current one is h = λ e there. elim (IsIn-push current.commands one e there) [ inl old ↦ h e old | inr new ↦ ap (λ x. is_end (outcome_of x)) new ∙ is ]

step_none_ends : (ended : List Transaction) (current : Option Transaction) (one : Exchange) → NoneEnds current →
    NoneEnds (session_step (record { ended = ended; current = current }) one).current
unfolding session_step
step_none_ends ended None one h = outside_none_ends (is_begin one.command) ended one.line
step_none_ends ended (Some current) one h = inside_none_ends (is_passed_over (outcome_of one)) (is_end (outcome_of one)) ended current one refl h

pub none_ends : (list : List Exchange) (session : Session) → NoneEnds session.current → NoneEnds (fold session_step session list).current
none_ends [] session h = h
none_ends (one ∷ list) session h = none_ends list (session_step session one) (step_none_ends session.ended session.current one h)

placed_there : (ended : List Transaction) (current : Option Transaction) (k : ℕ) (e : Exchange) → IsIn (commands_in (slice_get (ended ++ option_to_list current) k)) e →
    (suc k ≤ length ended) ⊎ ((transaction : Transaction) × (current ≡ Some transaction) × IsIn transaction.commands e)
placed_there [] None k e h = absurd (IsIn-nil e h)
placed_there [] (Some transaction) zero e h = inr (transaction, refl, h)
placed_there [] (Some transaction) (suc k) e h = absurd (IsIn-nil e h)
placed_there (x ∷ ended) current zero e h = inl (omega arith)
placed_there (x ∷ ended) current (suc k) e h = elim (placed_there ended current k e h) [ inl early ↦ inl (omega (arith, early)) | inr late ↦ inr late ]

-- a transaction with a command that ended it has ended
pub ended_where_ends : (session : Session) (n : ℕ) (e : Exchange) → NoneEnds session.current → IsIn (commands_at session n) e → is_end (outcome_of e) ≡ true → n ≤ length session.ended
ended_where_ends session zero e none h ends = omega arith
ended_where_ends session (suc k) e none h ends = elim (placed_there session.ended session.current k e h) [
  | inl early ↦ early
  | inr late ↦ (let still : NoneEnds (Some late.0) = subst NoneEnds late.1 none in absurd (false≢true (sym (still e late.2) ∙ ends)))
]

-- ---- operations among lines

abbrev pub is_operation : Command → Bool
is_operation Begin = false
is_operation (Work table key op) = true
is_operation Commit = false
is_operation Abort = false

-- the operations, in order
abbrev pub works : List Line → List Line
works lines = filter (λ line. is_operation line.0) lines

works-append : (xs ys : List Line) → works (xs ++ ys) ≡ works xs ++ works ys
works-append xs ys = filter-append (λ (line : Line). is_operation line.0) xs ys

pub works_begin : (before after : List Line) → Begins after before → Begins (works after) (works before)
works_begin before after h = record { rest = works h.rest; is = ap works h.is ∙ works-append before h.rest }

works_with : (command : Command) (line : ℕ) (rest : List Line) (outcome : Option Outcome) (n : ℕ) → length (works rest) ≡ n →
    length (works ((command, line) ∷ rest)) ≡ length (operation_by command outcome) + n
works_with Begin line rest outcome n is = omega (arith, is)
works_with (Work table key op) line rest outcome n is = omega (arith, is)
works_with Commit line rest outcome n is = omega (arith, is)
works_with Abort line rest outcome n is = omega (arith, is)

-- they are as many as the operations
pub works_count : (commands : List Exchange) → length (works (lines_of commands)) ≡ length (operations commands)
works_count [] = refl
works_count (e ∷ commands) =
    works_with e.command e.line (lines_of commands) (outcome_of e) (length (operations commands)) (works_count commands)
    ∙ sym (length-append (operation_by e.command (outcome_of e)) (operations commands))

-- the operation behind others
pub work_last : (commands : List Exchange) (command : Command) (line : ℕ) → is_operation command ≡ true →
    StandsAt (works (lines_of commands ++ (command, line) ∷ [])) (length (operations commands)) (command, line)
work_last commands command line is =
    let last : works (lines_of commands ++ (command, line) ∷ []) ≡ works (lines_of commands) ++ (command, line) ∷ [] =
    works-append (lines_of commands) ((command, line) ∷ []) ∙ ap (λ list. works (lines_of commands) ++ list) (cond-true (is_operation command) ((command, line) ∷ []) [] is) in
    subst (λ list. StandsAt list (length (operations commands)) (command, line)) (sym last)
    (subst (λ n. StandsAt (works (lines_of commands) ++ (command, line) ∷ []) n (command, line)) (works_count commands) (StandsAt-push_last (works (lines_of commands)) (command, line)))

pub works_count_more : (commands : List Exchange) (command : Command) (line : ℕ) → is_operation command ≡ true →
    length (works (lines_of commands ++ (command, line) ∷ [])) ≡ length (operations commands) + 1
works_count_more commands command line is =
    ap length (works-append (lines_of commands) ((command, line) ∷ []) ∙ ap (λ list. works (lines_of commands) ++ list) (cond-true (is_operation command) ((command, line) ∷ []) [] is))
    ∙ (length-append (works (lines_of commands)) ((command, line) ∷ []) ∙ ap (λ n. n + 1) (works_count commands))
