-- What a transaction has of commands stays, whatever the session does next.
use Rattle.std.proofs.Common.{ℕ, zero, suc, Bool, true, false, List, [], ◌∷◌, ◌++◌, Option, Some, None, sym, subst, if◌then◌else◌}
use Rattle.std.specs.Option.{option_to_list}
use Rattle.std.specs.List.{slice_get}
use Rattle.std.proofs.lemmas.List.{append-nil}
use Rattle.cl_serial.specs.Exchanges.{Exchange, outcome_of}
use Rattle.cl_serial.specs.Transactions.{Transaction, Session, session_step, with_command, commands_in, numbered, is_begin, is_end, is_passed_over}
use Rattle.cl_serial.specs.Serial.{IsIn}
use Rattle.cl_serial.proofs.Places.{IsIn-append_left, IsIn-nil}

-- the transactions of a session, the one that it is in last
abbrev pub all_of : Session → List Transaction
all_of session = session.ended ++ option_to_list session.current

-- the second list has each command that the first has, under the same number
abbrev pub KeepsCommands : List Transaction → List Transaction → Type 0
KeepsCommands old new = (number : ℕ) (exchange : Exchange) → IsIn (commands_in (numbered old number)) exchange → IsIn (commands_in (numbered new number)) exchange

kept_at : (front : List Transaction) (more : List Transaction) (k : ℕ) (exchange : Exchange) → IsIn (commands_in (slice_get front k)) exchange → IsIn (commands_in (slice_get (front ++ more) k)) exchange
kept_at [] more k exchange h = absurd (IsIn-nil exchange h)
kept_at (x ∷ front) more zero exchange h = h
kept_at (x ∷ front) more (suc k) exchange h = kept_at front more k exchange h

-- more transactions follow
KeepsCommands-append : (front more : List Transaction) → KeepsCommands front (front ++ more)
KeepsCommands-append front more zero exchange h = absurd (IsIn-nil exchange h)
KeepsCommands-append front more (suc k) exchange h = kept_at front more k exchange h

replaced_at : (front : List Transaction) (current : Transaction) (one : Exchange) (k : ℕ) (exchange : Exchange) → IsIn (commands_in (slice_get (front ++ current ∷ []) k)) exchange →
    IsIn (commands_in (slice_get (front ++ with_command current one ∷ []) k)) exchange
replaced_at [] current one zero exchange h = IsIn-append_left current.commands (one ∷ []) exchange h
replaced_at [] current one (suc k) exchange h = absurd (IsIn-nil exchange h)
replaced_at (x ∷ front) current one zero exchange h = h
replaced_at (x ∷ front) current one (suc k) exchange h = replaced_at front current one k exchange h

-- the last transaction has one more command
KeepsCommands-with_command : (front : List Transaction) (current : Transaction) (one : Exchange) → KeepsCommands (front ++ current ∷ []) (front ++ with_command current one ∷ [])
KeepsCommands-with_command front current one zero exchange h = absurd (IsIn-nil exchange h)
KeepsCommands-with_command front current one (suc k) exchange h = replaced_at front current one k exchange h

-- the same list, but for an empty end
same_but_nil : (old new : List Transaction) → KeepsCommands old new → KeepsCommands old (new ++ [])
same_but_nil old new h = let P : List Transaction → Type 0 = λ list. KeepsCommands old list in subst P (sym (append-nil new)) h

step_outside : (begins : Bool) (ended : List Transaction) (one : Exchange) →
    KeepsCommands (ended ++ []) (all_of (if begins then record { ended = ended; current = Some (record { begin = one.line; commands = [] }) } else record { ended = ended; current = None }))
step_outside true ended one = let P : List Transaction → Type 0 = λ list. KeepsCommands list (ended ++ record { begin = one.line; commands = [] } ∷ []) in
    subst P (sym (append-nil ended)) (KeepsCommands-append ended (record { begin = one.line; commands = [] } ∷ []))
step_outside false ended one = λ number exchange h. h

step_inside : (passes ends : Bool) (ended : List Transaction) (current : Transaction) (one : Exchange) →
    KeepsCommands (ended ++ current ∷ []) (all_of (if passes then record { ended = ended; current = Some current }
    else (if ends then record { ended = ended ++ with_command current one ∷ []; current = None } else record { ended = ended; current = Some (with_command current one) })))
step_inside true ends ended current one = λ number exchange h. h
step_inside false true ended current one = same_but_nil (ended ++ current ∷ []) (ended ++ with_command current one ∷ []) (KeepsCommands-with_command ended current one)
step_inside false false ended current one = KeepsCommands-with_command ended current one

step_of : (ended : List Transaction) (current : Option Transaction) (one : Exchange) → KeepsCommands (ended ++ option_to_list current) (all_of (session_step (record { ended = ended; current = current }) one))
unfolding session_step
step_of ended None one = step_outside (is_begin one.command) ended one
step_of ended (Some current) one = step_inside (is_passed_over (outcome_of one)) (is_end (outcome_of one)) ended current one

-- one more exchange
pub KeepsCommands-step : (session : Session) (one : Exchange) → KeepsCommands (all_of session) (all_of (session_step session one))
KeepsCommands-step session one = step_of session.ended session.current one
