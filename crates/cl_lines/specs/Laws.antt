-- What follows of lines and of what is printed.
use Rattle.std.specs.Prelude.{◌≡◌, ◌≢◌, ℕ, ◌≤◌, true, ◌↔◌, List, [], ◌∷◌, ◌++◌, Ok, All}
use Rattle.cl_types.specs.declared.operations.Command.{Command}
use Rattle.cl_types.specs.declared.operations.Command.TheVariants.{Begin, Work, Commit, Abort}
use Rattle.cl_types.specs.declared.operations.Op.TheVariants.{Get, Put, Del, Add}
use Rattle.cl_types.specs.declared.answers.Reply.TheVariants.{Found}
use Rattle.cl_types.specs.declared.answers.Outcome.TheVariants.{Done}
use Rattle.cl_types.specs.declared.limits.TheConstants.{SESSIONS_MAX}
use Rattle.cl_types.specs.Names.{is_table_name, is_key, is_value}
use Rattle.cl_types.specs.Decimal.{is_signed_64}
use Rattle.cl_lines.specs.declared.line.Line.TheVariants.{Client, Operator}
use Rattle.cl_lines.specs.declared.line.Order.{Order}
use Rattle.cl_lines.specs.declared.out.Out.{Out}
use Rattle.cl_lines.specs.declared.out.Out.TheVariants.{Answer}
use Rattle.cl_lines.specs.Line.{line_of}
use Rattle.cl_lines.specs.Spelling.{spelling, order_spelling}
use Rattle.cl_lines.specs.Out.{text_of}

-- a command that a line can ask: the names of its record, the value that it writes and the amount that it adds are lawful
abbrev pub IsAskable : Command → Type 0
IsAskable Begin = Unit {0}
IsAskable (Work table key Get) = (is_table_name table ≡ true) × (is_key key ≡ true)
IsAskable (Work table key (Put value)) = (is_table_name table ≡ true) × (is_key key ≡ true) × (is_value value ≡ true)
IsAskable (Work table key Del) = (is_table_name table ≡ true) × (is_key key ≡ true)
IsAskable (Work table key (Add amount)) = (is_table_name table ≡ true) × (is_key key ≡ true) × (is_signed_64 amount ≡ true)
IsAskable Commit = Unit {0}
IsAskable Abort = Unit {0}

-- the bytes are the line of this command in this session
pub record Spells (bytes : List ℕ) (session : ℕ) (command : Command) : Type 0 where
  pub session_from : 1 ≤ session
  pub session_to : session ≤ SESSIONS_MAX
  pub askable : IsAskable command
  pub bytes_are : bytes ≡ spelling session command

-- a line is read as a command exactly where it is the spelling of that command
abbrev pub OneSpelling : Type 0
OneSpelling =
    (bytes : List ℕ) (session : ℕ) (command : Command)
    → (line_of bytes ≡ Ok (Client session command)) ↔ Spells bytes session command

-- a line is read as an order exactly where it is the spelling of that order
abbrev pub OneOrderSpelling : Type 0
OneOrderSpelling =
    (bytes : List ℕ) (order : Order) → (line_of bytes ≡ Ok (Operator order)) ↔ (bytes ≡ order_spelling order)

-- one line: bytes other than the newline, and a newline
pub record IsOneLine (text : List ℕ) : Type 0 where
  pub line : List ℕ
  pub text_is : text ≡ line ++ 10 ∷ []
  pub no_newline : All (λ byte. byte ≢ 10) line

-- the value that was found, if there is one, is lawful
abbrev pub ShowsLawfulValue : Out → Type 0
ShowsLawfulValue (Answer session (Done (Found value))) = is_value value ≡ true
ShowsLawfulValue _ = Unit {0}

-- what is printed is one line
abbrev pub PrintsOneLine : Type 0
PrintsOneLine = (out : Out) → ShowsLawfulValue out → IsOneLine (text_of out)
