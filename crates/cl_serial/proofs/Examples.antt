-- A transcript of two transactions: the history in the order of their commits explains it, and the other order does not.
use Rattle.std.proofs.Common.{◌≡◌, ℕ, List, [], ◌∷◌, Some, codes, refl}
use Rattle.cl_types.specs.declared.operations.Op.TheVariants.{Get, Put}
use Rattle.cl_types.specs.declared.operations.TxnId.{TxnId}
use Rattle.cl_types.specs.declared.answers.Reply.TheVariants.{Stored, Found, Absent}
use Rattle.cl_types.specs.declared.answers.Outcome.{Outcome}
use Rattle.cl_types.specs.declared.answers.Outcome.TheVariants.{Done, Begun, Committed}
use Rattle.cl_types.specs.Decimal.{natural, natural_64, in_unsigned_64}
use Rattle.cl_lines.specs.declared.out.Out.TheVariants.{Answer}
use Rattle.cl_lines.specs.Line.{line_of, command_of}
use Rattle.cl_lines.specs.Words.{words}
use Rattle.cl_serial.specs.Transcript.{TranscriptEntry, fed, written, gather}
use Rattle.cl_serial.specs.Exchanges.{pair_up, in_turn}
use Rattle.cl_serial.specs.Transactions.{session_step}
use Rattle.cl_serial.specs.PlainMap.{no_values, RepliesAgree}
use Rattle.cl_serial.specs.Serial.{operations_of}

-- a line of session 1 and its answer
abbrev exchange : ℕ → List ℕ → Outcome → List TranscriptEntry → List TranscriptEntry
exchange number text outcome rest = fed number text ∷ written (Answer 1 outcome) ∷ rest

-- the first puts x at key a of table t, the second reads it
abbrev two_transactions : List TranscriptEntry
two_transactions =
    exchange 1 (codes "1 BEGIN") Begun
    (exchange 2 (codes "1 PUT t a x") (Done Stored)
    (exchange 3 (codes "1 COMMIT") Committed
    (exchange 4 (codes "1 BEGIN") Begun
    (exchange 5 (codes "1 GET t a") (Done (Found (codes "x")))
    (exchange 6 (codes "1 COMMIT") Committed [])))))

abbrev name : ℕ → TxnId
name number = record { session = 1; number = number }

-- the operations of the two, in the order of their commits, and in the other order
operations-in_order : operations_of two_transactions (name 1 ∷ name 2 ∷ []) ≡
    record { place = (codes "t", codes "a"); op = Put (codes "x"); outcome = Some (Done Stored) }
    ∷ record { place = (codes "t", codes "a"); op = Get; outcome = Some (Done (Found (codes "x"))) } ∷ []
unfolding gather pair_up in_turn session_step line_of command_of words natural_64 natural in_unsigned_64
operations-in_order = refl

-- that order gives the replies of the transcript
pub in_order_agrees : RepliesAgree no_values (operations_of two_transactions (name 1 ∷ name 2 ∷ []))
unfolding gather pair_up in_turn session_step line_of command_of words natural_64 natural in_unsigned_64 RepliesAgree
in_order_agrees = (refl, (refl, tt))

-- the other order does not: the read would find nothing
pub other_order_differs : RepliesAgree no_values (operations_of two_transactions (name 2 ∷ name 1 ∷ [])) → ⊥
unfolding gather pair_up in_turn session_step line_of command_of words natural_64 natural in_unsigned_64 RepliesAgree
other_order_differs h = let first : Some (Done (Found (codes "x"))) ≡ Some (Done Absent) = h.0 in cc
