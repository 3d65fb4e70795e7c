-- How the lines of clients and operators are written.
use Rattle.std.specs.Prelude.{ℕ, List, [], ◌∷◌, codes}
use Rattle.std.specs.List.{join_with_byte}
use Rattle.std.specs.Fmt.{decimal, signed_decimal}
use Rattle.cl_types.specs.declared.operations.Command.{Command}
use Rattle.cl_types.specs.declared.operations.Command.TheVariants.{Begin, Work, Commit, Abort}
use Rattle.cl_types.specs.declared.operations.Op.{Op}
use Rattle.cl_types.specs.declared.operations.Op.TheVariants.{Get, Put, Del, Add}
use Rattle.cl_lines.specs.declared.line.Order.{Order}
use Rattle.cl_lines.specs.declared.line.Order.TheVariants.{Quiet}

-- the words of an operation on the record of this table and key
abbrev pub operation_words : List ℕ → List ℕ → Op → List (List ℕ)
operation_words table key Get = codes "GET" ∷ table ∷ key ∷ []
operation_words table key (Put value) = codes "PUT" ∷ table ∷ key ∷ value ∷ []
operation_words table key Del = codes "DEL" ∷ table ∷ key ∷ []
operation_words table key (Add amount) = codes "ADD" ∷ table ∷ key ∷ signed_decimal amount ∷ []

-- the words of a command
abbrev pub command_words : Command → List (List ℕ)
command_words Begin = codes "BEGIN" ∷ []
command_words (Work table key op) = operation_words table key op
command_words Commit = codes "COMMIT" ∷ []
command_words Abort = codes "ABORT" ∷ []

-- the line of a command in a session: the session and the words of the command, with a blank between each two
unfoldable pub spelling : ℕ → Command → List ℕ
spelling session command = join_with_byte 32 (decimal session ∷ command_words command)

-- the line of an order
abbrev pub order_spelling : Order → List ℕ
order_spelling Quiet = codes "QUIET"
