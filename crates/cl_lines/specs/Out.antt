-- What is printed of each outcome and each fault.
use Rattle.std.specs.Prelude.{ℕ, List, [], ◌∷◌, ◌++◌, codes}
use Rattle.std.specs.Fmt.{decimal, signed_decimal}
use Rattle.cl_types.specs.declared.operations.TxnId.{TxnId}
use Rattle.cl_types.specs.declared.answers.Reply.{Reply}
use Rattle.cl_types.specs.declared.answers.Reply.TheVariants.{Stored, Found, Absent, Sum, NotNumber, OutOfRange}
use Rattle.cl_types.specs.declared.answers.AbortCause.{AbortCause}
use Rattle.cl_types.specs.declared.answers.AbortCause.TheVariants.{Conflict, Node, Client, Memory}
use Rattle.cl_types.specs.declared.answers.Outcome.{Outcome}
use Rattle.cl_types.specs.declared.answers.Outcome.TheVariants.{Done, Begun, Committed, Aborted, NotTxn, InTxn, Full}
use Rattle.cl_lines.specs.declared.line.LineFault.{LineFault}
use Rattle.cl_lines.specs.declared.line.LineFault.TheVariants.{Length, Words, Session, Table, Key, Value, Number}
use Rattle.cl_lines.specs.declared.out.Out.{Out}
use Rattle.cl_lines.specs.declared.out.Out.TheVariants.{Answer, BadLine}

-- a transaction, by its session and its number there
abbrev pub txn_text : TxnId → List ℕ
txn_text txn = decimal txn.session ++ codes "." ++ decimal txn.number

-- the reply to an operation
abbrev pub reply_text : Reply → List ℕ
reply_text Stored = codes "OK"
reply_text (Found value) = codes "VAL " ++ value
reply_text Absent = codes "NONE"
reply_text (Sum sum) = codes "NUM " ++ signed_decimal sum
reply_text NotNumber = codes "ERR NOTNUM"
reply_text OutOfRange = codes "ERR RANGE"

-- why a transaction was aborted
abbrev pub cause_text : AbortCause → List ℕ
cause_text (Conflict holder) = codes "CONFLICT " ++ txn_text holder
cause_text (Node node) = codes "NODE " ++ decimal node
cause_text Client = codes "CLIENT"
cause_text Memory = codes "MEMORY"

-- the outcome of a command
abbrev pub outcome_text : Outcome → List ℕ
outcome_text (Done reply) = reply_text reply
outcome_text Begun = codes "OK"
outcome_text Committed = codes "COMMITTED"
outcome_text (Aborted cause) = codes "ABORTED " ++ cause_text cause
outcome_text NotTxn = codes "ERR NOTXN"
outcome_text InTxn = codes "ERR INTXN"
outcome_text Full = codes "ERR FULL"

-- the word of a fault
abbrev pub fault_text : LineFault → List ℕ
fault_text Length = codes "LENGTH"
fault_text Words = codes "WORDS"
fault_text Session = codes "SESSION"
fault_text Table = codes "TABLE"
fault_text Key = codes "KEY"
fault_text Value = codes "VALUE"
fault_text Number = codes "NUMBER"

-- what is printed, but for the newline
abbrev pub printed : Out → List ℕ
printed (Answer session outcome) = decimal session ++ codes " " ++ outcome_text outcome
printed (BadLine line fault) = codes "* ERR LINE " ++ decimal line ++ codes " " ++ fault_text fault

-- what is printed: one line with its newline
unfoldable pub text_of : Out → List ℕ
text_of out = printed out ++ 10 ∷ []
