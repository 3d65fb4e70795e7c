-- The grammar of lines: which line the bytes are, or which fault they have first.
use Rattle.std.specs.Prelude.{◌≡◌, ℕ, ℤ, nat_lt, if◌then◌else◌, List, [], ◌∷◌, length, codes, Option, Some, None, Result, Ok, Err}
use Rattle.std.specs.List.{list_any}
use Rattle.std.specs.Option.{option_map}
use Rattle.std.specs.Str.{bytes_eq}
use Rattle.cl_types.specs.declared.limits.TheConstants.{SESSIONS_MAX}
use Rattle.cl_types.specs.declared.operations.Command.{Command}
use Rattle.cl_types.specs.declared.operations.Command.TheVariants.{Begin, Work, Commit, Abort}
use Rattle.cl_types.specs.declared.operations.Op.{Op}
use Rattle.cl_types.specs.declared.operations.Op.TheVariants.{Get, Put, Del, Add}
use Rattle.cl_types.specs.Names.{is_between, is_table_name, is_key, is_value}
use Rattle.cl_types.specs.Decimal.{natural_64, number}
use Rattle.cl_lines.specs.declared.line.TheConstants.{LINE_MAX}
use Rattle.cl_lines.specs.declared.line.Line.{Line}
use Rattle.cl_lines.specs.declared.line.Line.TheVariants.{Client, Operator}
use Rattle.cl_lines.specs.declared.line.LineFault.{LineFault}
use Rattle.cl_lines.specs.declared.line.LineFault.TheVariants.{Length, Words, Session, Table, Key, Value, Number}
use Rattle.cl_lines.specs.declared.line.Order.{Order}
use Rattle.cl_lines.specs.declared.line.Order.TheVariants.{Quiet}
use Rattle.cl_lines.specs.declared.line.Unread.{Unread}
use Rattle.cl_lines.specs.declared.line.Unread.TheVariants.{Fault, NoMemory}
use Rattle.cl_lines.specs.Words.{words, is_empty}

-- the session that a number is: 1 to SESSIONS_MAX
abbrev pub session_numbered : Option ℕ → Result ℕ LineFault
session_numbered None = Err Session
session_numbered (Some n) = if is_between 1 SESSIONS_MAX n then Ok n else Err Session

-- the session that a word names, in canonical decimal
abbrev pub session_of : List ℕ → Result ℕ LineFault
session_of word = session_numbered (natural_64 word)

-- the write of the value that a word is
abbrev pub put_of : List ℕ → Result Op LineFault
put_of word = if is_value word then Ok (Put word) else Err Value

-- the addition of an amount
abbrev pub add_of_number : Option ℤ → Result Op LineFault
add_of_number None = Err Number
add_of_number (Some amount) = Ok (Add amount)

-- the addition of the amount that a word writes, in canonical decimal within signed 64 bits
abbrev pub add_of : List ℕ → Result Op LineFault
add_of word = add_of_number (number word)

-- the command of a verb that stands alone; none where there is no such verb
abbrev pub bare_command : List ℕ → Option (Result Command LineFault)
bare_command verb =
    if bytes_eq verb (codes "BEGIN") then Some (Ok Begin) else
    (if bytes_eq verb (codes "COMMIT") then Some (Ok Commit) else
    (if bytes_eq verb (codes "ABORT") then Some (Ok Abort) else None))

-- the operation of a verb that only a table and a key follow; none where there is no such verb
abbrev pub bare_operation : List ℕ → Option (Result Op LineFault)
bare_operation verb =
    if bytes_eq verb (codes "GET") then Some (Ok Get) else (if bytes_eq verb (codes "DEL") then Some (Ok Del) else None)

-- the operation of a verb that a table, a key and an argument follow; none where there is no such verb
abbrev pub operation_with : List ℕ → List ℕ → Option (Result Op LineFault)
operation_with verb argument =
    if bytes_eq verb (codes "PUT") then Some (put_of argument) else
    (if bytes_eq verb (codes "ADD") then Some (add_of argument) else None)

-- the operation, where it was read, on this table and key
abbrev pub work : List ℕ → List ℕ → Result Op LineFault → Result Command LineFault
work table key (Ok op) = Ok (Work table key op)
work table key (Err fault) = Err fault

-- the operation on the record that two words name, by its table and its key
abbrev pub on_record : List ℕ → List ℕ → Result Op LineFault → Result Command LineFault
on_record table key op =
    if is_table_name table then (if is_key key then work table key op else Err Key) else Err Table

-- the command of the words after the session, or the first fault of its arguments; none where the words have no form
unfoldable pub command_of : List (List ℕ) → Option (Result Command LineFault)
command_of (verb ∷ []) = bare_command verb
command_of (verb ∷ table ∷ key ∷ []) = option_map (on_record table key) (bare_operation verb)
command_of (verb ∷ table ∷ key ∷ argument ∷ []) = option_map (on_record table key) (operation_with verb argument)
command_of _ = None

-- the command in its session: having no form comes first, then a fault of the session, then one of the arguments
abbrev pub in_session : Result ℕ LineFault → Option (Result Command LineFault) → Result Line LineFault
in_session session None = Err Words
in_session (Err fault) (Some command) = Err fault
in_session (Ok session) (Some (Err fault)) = Err fault
in_session (Ok session) (Some (Ok command)) = Ok (Client session command)

-- the line of QUIET with these words after it, where no word may stand
abbrev pub quiet_line : List (List ℕ) → Result Line LineFault
quiet_line [] = Ok (Operator Quiet)
quiet_line (word ∷ others) = Err Words

-- the line of these words: the first one is QUIET, or names the session of a client's line
abbrev pub line_of_words : List (List ℕ) → Result Line LineFault
line_of_words [] = Err Words
line_of_words (first ∷ others) =
    if bytes_eq first (codes "QUIET") then quiet_line others else in_session (session_of first) (command_of others)

-- the line that the bytes are, or their first fault
unfoldable pub line_of : List ℕ → Result Line LineFault
line_of bytes =
    if nat_lt LINE_MAX (length bytes) then Err Length else
    (if list_any is_empty (words bytes) then Err Words else line_of_words (words bytes))

-- the session and the command of a reading that is a client line
abbrev pub client_part : Result Line LineFault → Option (ℕ × Command)
client_part (Ok (Client session command)) = Some (session, command)
client_part (Ok (Operator order)) = None
client_part (Err fault) = None

-- the session and the command of a well-formed client line
abbrev pub client_of : List ℕ → Option (ℕ × Command)
client_of bytes = client_part (line_of bytes)

-- the order of a reading that is an operator's line
abbrev pub order_part : Result Line LineFault → Option Order
order_part (Ok (Client session command)) = None
order_part (Ok (Operator order)) = Some order
order_part (Err fault) = None

-- the order of a well-formed operator's line
abbrev pub order_of : List ℕ → Option Order
order_of bytes = order_part (line_of bytes)

-- the fault of a reading that is one
abbrev pub fault_part : Result Line LineFault → Option LineFault
fault_part (Ok line) = None
fault_part (Err fault) = Some fault

-- the fault of a line that is not well formed
abbrev pub fault_of : List ℕ → Option LineFault
fault_of bytes = fault_part (line_of bytes)

-- a reader answered what this reading is, or gave up for want of memory
abbrev pub ReadsLine : {A : Type 0} → Result A Unread → Result A LineFault → Type 0
ReadsLine (Ok value) reading = reading ≡ Ok value
ReadsLine (Err (Fault fault)) reading = reading ≡ Err fault
ReadsLine (Err NoMemory) reading = Unit {0}
