-- How long spellings are at most.
use Rattle.std.proofs.Common.{◌≡◌, ◌≤◌, ◌++◌, length, refl, arith}
use Rattle.std.proofs.lemmas.List.{length-append}
use Rattle.cl_fields.specs.Spelling.{byte, number_32, number_64, flag_byte, txn_bytes, op_bytes, command_bytes, outcome_bytes, answer_bytes, entry_bytes, item_bytes, list_bytes}
use Rattle.cl_fields.proofs.FieldLengths.{length-number_32, length-number_64, length-txn_bytes, length-op_bytes, length-command_bytes, length-outcome_bytes, length-answer_bytes, length-entry_bytes, length-items, length-txns}
use Rattle.cl_wire.specs.Message.{Content, Message, Bare, Command, Outcome, Ask, Answer, Prepare, Vote, Finish, Inquire, Decision, Log, LogAck, Repair, Records, Names, CopyAck}
use Rattle.cl_wire.specs.Spelling.{header_bytes, content_bytes, spelling}
use Rattle.cl_wire.specs.Range.{IsContent, IsInRange}

length-content_bytes : (content : Content) → IsContent content → length (content_bytes content) ≤ 730
unfolding content_bytes
length-content_bytes Bare fits = omega arith
length-content_bytes (Ask v txn command_number table key op) fits =
    omega (arith, length-append (byte v ++ txn_bytes txn ++ number_32 command_number) (op_bytes table key op), length-append (byte v ++ txn_bytes txn) (number_32 command_number), length-txn_bytes txn, length-number_32 command_number, length-op_bytes table key op fits.3 fits.4 fits.5)
length-content_bytes (Command v txn command_number asked) fits =
    omega (arith, length-append (byte v ++ txn_bytes txn ++ number_32 command_number) (command_bytes asked), length-append (byte v ++ txn_bytes txn) (number_32 command_number), length-append (byte v) (txn_bytes txn), length-txn_bytes txn, length-number_32 command_number, length-command_bytes asked fits.3)
length-content_bytes (Outcome txn command_number outcome) fits =
    omega (arith, length-append (txn_bytes txn ++ number_32 command_number) (outcome_bytes outcome), length-append (txn_bytes txn) (number_32 command_number), length-txn_bytes txn, length-number_32 command_number, length-outcome_bytes outcome fits.2)
length-content_bytes (Answer v txn command_number answer) fits =
    omega (arith, length-append (byte v ++ txn_bytes txn ++ number_32 command_number) (answer_bytes answer), length-append (byte v ++ txn_bytes txn) (number_32 command_number), length-append (byte v) (txn_bytes txn), length-txn_bytes txn, length-number_32 command_number, length-answer_bytes answer fits.3)
length-content_bytes (Prepare v txn) fits =
    omega (arith, length-append (byte v) (txn_bytes txn), length-txn_bytes txn)
length-content_bytes (Vote v txn) fits =
    omega (arith, length-append (byte v) (txn_bytes txn), length-txn_bytes txn)
length-content_bytes (Finish v txn commit) fits =
    omega (arith, length-append (byte v ++ txn_bytes txn) (byte (flag_byte commit)), length-append (byte v) (txn_bytes txn), length-txn_bytes txn)
length-content_bytes (Inquire v txn) fits =
    omega (arith, length-append (byte v) (txn_bytes txn), length-txn_bytes txn)
length-content_bytes (Decision v txn commit) fits =
    omega (arith, length-append (byte v ++ txn_bytes txn) (byte (flag_byte commit)), length-append (byte v) (txn_bytes txn), length-txn_bytes txn)
length-content_bytes (Log v number entry) fits =
    omega (arith, length-append (byte v ++ number_64 number) (entry_bytes entry), length-append (byte v) (number_64 number), length-number_64 number, length-entry_bytes entry fits.2)
length-content_bytes (LogAck v number) fits =
    omega (arith, length-append (byte v) (number_64 number), length-number_64 number)
length-content_bytes (Repair v node) fits =
    omega (arith, length-append (byte v) (byte node))
length-content_bytes (Records v index records) fits =
    omega (arith, length-append (byte v ++ number_32 index) (list_bytes item_bytes records), length-append (byte v) (number_32 index), length-number_32 index, length-items records fits.2)
length-content_bytes (Names v index last low txns) fits =
    omega (arith, length-append (byte v ++ number_32 index ++ byte (flag_byte last) ++ number_64 low) (list_bytes txn_bytes txns), length-append (byte v ++ number_32 index ++ byte (flag_byte last)) (number_64 low), length-append (byte v ++ number_32 index) (byte (flag_byte last)), length-append (byte v) (number_32 index), length-number_32 index, length-number_64 low, length-txns txns fits.3)
length-content_bytes (CopyAck v index) fits =
    omega (arith, length-append (byte v) (number_32 index), length-number_32 index)

length-header_bytes : (m : Message) → length (header_bytes m) ≡ 24
unfolding header_bytes number_32 number_64
length-header_bytes m = refl

pub length-spelling : (m : Message) → IsInRange m → length (spelling m) ≤ 754
unfolding spelling
length-spelling m fits = omega (arith, length-append (header_bytes m) (content_bytes m.content), length-header_bytes m, length-content_bytes m.content fits.content)
