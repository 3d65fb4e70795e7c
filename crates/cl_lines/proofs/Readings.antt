-- Between a reading and its parts: the client line, the order, the fault.
use Rattle.std.proofs.Common.{◌≡◌, ℕ, ◌≤◌, List, Some, None, Result, Ok, Err, ap}
use Rattle.std.proofs.lemmas.Option.{some_pair_parts}
use Rattle.cl_types.specs.declared.limits.TheConstants.{SESSIONS_MAX}
use Rattle.cl_types.specs.declared.operations.Command.{Command}
use Rattle.cl_lines.specs.declared.line.Line.{Line}
use Rattle.cl_lines.specs.declared.line.Line.TheVariants.{Client, Operator}
use Rattle.cl_lines.specs.declared.line.Order.{Order}
use Rattle.cl_lines.specs.declared.line.LineFault.{LineFault}
use Rattle.cl_lines.specs.Line.{line_of, client_part, client_of, order_part, order_of, fault_part, fault_of}
use Rattle.cl_lines.proofs.Spellings.{spells_from_line}

-- what was read as a client line is one
pub client_of-client : (bytes : List ℕ) (session : ℕ) (command : Command) → line_of bytes ≡ Ok (Client session command) → client_of bytes ≡ Some (session, command)
client_of-client bytes session command e = ap client_part e

-- what has a fault is no client line
pub client_of-fault : (bytes : List ℕ) (fault : LineFault) → line_of bytes ≡ Err fault → client_of bytes ≡ None
client_of-fault bytes fault e = ap client_part e

-- what was read as a client line gives no order
pub order_of-client : (bytes : List ℕ) (session : ℕ) (command : Command) → line_of bytes ≡ Ok (Client session command) → order_of bytes ≡ None
order_of-client bytes session command e = ap order_part e

-- nor does what has a fault
pub order_of-fault : (bytes : List ℕ) (fault : LineFault) → line_of bytes ≡ Err fault → order_of bytes ≡ None
order_of-fault bytes fault e = ap order_part e

-- what was read as an operator's line gives its order
pub order_of-order : (bytes : List ℕ) (order : Order) → line_of bytes ≡ Ok (Operator order) → order_of bytes ≡ Some order
order_of-order bytes order e = ap order_part e

-- and is no client line
pub client_of-order : (bytes : List ℕ) (order : Order) → line_of bytes ≡ Ok (Operator order) → client_of bytes ≡ None
client_of-order bytes order e = ap client_part e

-- what was read as a line has no fault
pub fault_of-line : (bytes : List ℕ) (line : Line) → line_of bytes ≡ Ok line → fault_of bytes ≡ None
fault_of-line bytes line e = ap fault_part e

-- what was read as a fault has it
pub fault_of-fault : (bytes : List ℕ) (fault : LineFault) → line_of bytes ≡ Err fault → fault_of bytes ≡ Some fault
fault_of-fault bytes fault e = ap fault_part e

client_part-Some : (reading : Result Line LineFault) (session : ℕ) (command : Command) → client_part reading ≡ Some (session, command) → reading ≡ Ok (Client session command)
client_part-Some (Ok (Client n c)) session command e =
    let parts : (n ≡ session) × (c ≡ command) = some_pair_parts n session c command e in
    cc
client_part-Some (Ok (Operator order)) session command e = absurd cc
client_part-Some (Err f) session command e = absurd cc

fault_part-Some : (reading : Result Line LineFault) (fault : LineFault) → fault_part reading ≡ Some fault → reading ≡ Err fault
fault_part-Some (Ok line) fault e = absurd cc
fault_part-Some (Err f) fault e = cc

-- a client line is read as it
pub line_of-client : (bytes : List ℕ) (session : ℕ) (command : Command) → client_of bytes ≡ Some (session, command) → line_of bytes ≡ Ok (Client session command)
line_of-client bytes session command e = client_part-Some (line_of bytes) session command e

-- a line with a fault is read as the fault
pub line_of-fault : (bytes : List ℕ) (fault : LineFault) → fault_of bytes ≡ Some fault → line_of bytes ≡ Err fault
line_of-fault bytes fault e = fault_part-Some (line_of bytes) fault e

-- a line that is read is of one of the sessions
pub line_of-session : (bytes : List ℕ) (session : ℕ) (command : Command) → line_of bytes ≡ Ok (Client session command) → (1 ≤ session) × (session ≤ SESSIONS_MAX)
line_of-session bytes session command e =
    let spelled = spells_from_line bytes session command e in
    (spelled.session_from, spelled.session_to)

-- so is a client line
pub client_of-session : (bytes : List ℕ) (session : ℕ) (command : Command) → client_of bytes ≡ Some (session, command) → (1 ≤ session) × (session ≤ SESSIONS_MAX)
client_of-session bytes session command e = line_of-session bytes session command (line_of-client bytes session command e)
