-- How long the spellings of fields are at most.
use Rattle.std.proofs.Common.{◌≡◌, ℕ, ◌*◌, ◌≤◌, List, [], ◌∷◌, ◌++◌, length, Option, Some, None, ℤ, refl, arith}
use Rattle.std.specs.List.{flat_map, AllByRecursion}
use Rattle.std.proofs.lemmas.List.{length-append}
use Rattle.std.proofs.lemmas.List.Elements.{recursion_from_All}
use Rattle.std.proofs.lemmas.List.Concat.{flat_map-cons}
use Rattle.cl_types.specs.declared.operations.TxnId.{TxnId}
use Rattle.cl_types.specs.declared.operations.Op.{Op}
use Rattle.cl_types.specs.declared.operations.Op.TheVariants.{Put, Add}
use Rattle.cl_types.specs.declared.operations.Command.{Command as ClientCommand}
use Rattle.cl_types.specs.declared.operations.Command.TheVariants.{Work}
use Rattle.cl_types.specs.declared.answers.Reply.{Reply}
use Rattle.cl_types.specs.declared.answers.Reply.TheVariants as replies
use Rattle.cl_types.specs.declared.answers.AbortCause.{AbortCause}
use Rattle.cl_types.specs.declared.answers.AbortCause.TheVariants as causes
use Rattle.cl_types.specs.declared.answers.Answer.{Answer as OpAnswer}
use Rattle.cl_types.specs.declared.answers.Answer.TheVariants as answers
use Rattle.cl_types.specs.declared.answers.Outcome.{Outcome as CommandOutcome}
use Rattle.cl_types.specs.declared.answers.Outcome.TheVariants as outcomes
use Rattle.cl_log.specs.declared.records.Form.{Form}
use Rattle.cl_log.specs.declared.records.Form.TheVariants.{Image, Amount}
use Rattle.cl_log.specs.declared.records.LogRec.{LogRec}
use Rattle.cl_log.specs.declared.records.LogRec.TheVariants as entries
use Rattle.cl_store.specs.declared.item.Item.{Item}
use Rattle.cl_fields.specs.Spelling.{byte, number_32, number_64, amount_bytes, flag_byte, mode_byte, txn_bytes, name_bytes, value_bytes, image_bytes, form_bytes, operand_bytes, op_byte, op_bytes, command_bytes, reply_bytes, cause_bytes, outcome_bytes, answer_bytes, entry_bytes, item_bytes, list_bytes}
use Rattle.cl_fields.specs.Range.{IsTxn, IsTable, IsKey, IsValue, IsImage, IsForm, IsOp, IsCommand, IsReply, IsOutcome, IsAnswer, IsEntry, IsItem, AreFew}
use Rattle.cl_fields.proofs.Lengths.{length-table, length-key, length-value}

pub length-number_32 : (n : ℕ) → length (number_32 n) ≡ 4
unfolding number_32
length-number_32 n = refl

pub length-number_64 : (n : ℕ) → length (number_64 n) ≡ 8
unfolding number_64
length-number_64 n = refl

length-amount_bytes : (amount : ℤ) → length (amount_bytes amount) ≡ 8
unfolding amount_bytes
length-amount_bytes amount = length-number_64 _

pub length-txn_bytes : (txn : TxnId) → length (txn_bytes txn) ≡ 9
unfolding txn_bytes
length-txn_bytes txn = omega (arith, length-number_64 txn.number)

length-table_bytes : (name : List ℕ) → IsTable name → length (name_bytes name) ≤ 9
unfolding name_bytes
length-table_bytes name fits = omega (arith, length-table name fits)

length-key_bytes : (name : List ℕ) → IsKey name → length (name_bytes name) ≤ 33
unfolding name_bytes
length-key_bytes name fits = omega (arith, length-key name fits)

length-value_bytes : (value : List ℕ) → IsValue value → length (value_bytes value) ≤ 130
unfolding value_bytes
length-value_bytes value fits = omega (arith, length-value value fits)

length-image_bytes : (image : Option (List ℕ)) → IsImage image → length (image_bytes image) ≤ 131
unfolding image_bytes
length-image_bytes None fits = omega arith
length-image_bytes (Some value) fits = omega (arith, length-value_bytes value fits)

length-form_bytes : (form : Form) → IsForm form → length (form_bytes form) ≤ 132
unfolding form_bytes
length-form_bytes (Image image) fits = omega (arith, length-image_bytes image fits)
length-form_bytes (Amount amount) fits = omega (arith, length-amount_bytes amount)

length-operand_bytes : (op : Op) → IsOp op → length (operand_bytes op) ≤ 130
length-operand_bytes (Put value) fits = length-value_bytes value fits
length-operand_bytes (Add amount) fits = omega (arith, length-amount_bytes amount)
length-operand_bytes other fits = omega arith

pub length-op_bytes : (table key : List ℕ) (op : Op) → IsTable table → IsKey key → IsOp op → length (op_bytes table key op) ≤ 173
unfolding op_bytes
length-op_bytes table key op fits_table fits_key fits_op =
    omega (arith, length-append (byte (op_byte op) ++ name_bytes table ++ name_bytes key) (operand_bytes op), length-append (name_bytes table) (name_bytes key), length-table_bytes table fits_table, length-key_bytes key fits_key, length-operand_bytes op fits_op)

pub length-command_bytes : (command : ClientCommand) → IsCommand command → length (command_bytes command) ≤ 173
unfolding command_bytes
length-command_bytes (Work table key op) fits = length-op_bytes table key op fits.0 fits.1 fits.2
length-command_bytes other fits = omega arith

length-reply_bytes : (reply : Reply) → IsReply reply → length (reply_bytes reply) ≤ 131
unfolding reply_bytes
length-reply_bytes replies.Stored fits = omega arith
length-reply_bytes (replies.Found value) fits = omega (arith, length-value_bytes value fits)
length-reply_bytes replies.Absent fits = omega arith
length-reply_bytes (replies.Sum sum) fits = omega (arith, length-amount_bytes sum)
length-reply_bytes replies.NotNumber fits = omega arith
length-reply_bytes replies.OutOfRange fits = omega arith

length-cause_bytes : (cause : AbortCause) → length (cause_bytes cause) ≤ 10
unfolding cause_bytes
length-cause_bytes (causes.Conflict txn) = omega (arith, length-txn_bytes txn)
length-cause_bytes (causes.Node node) = omega arith
length-cause_bytes causes.Client = omega arith
length-cause_bytes causes.Memory = omega arith

pub length-outcome_bytes : (outcome : CommandOutcome) → IsOutcome outcome → length (outcome_bytes outcome) ≤ 132
unfolding outcome_bytes
length-outcome_bytes (outcomes.Done reply) fits = omega (arith, length-reply_bytes reply fits)
length-outcome_bytes outcomes.Begun fits = omega arith
length-outcome_bytes outcomes.Committed fits = omega arith
length-outcome_bytes (outcomes.Aborted cause) fits = omega (arith, length-cause_bytes cause)
length-outcome_bytes outcomes.NotTxn fits = absurd fits
length-outcome_bytes outcomes.InTxn fits = absurd fits
length-outcome_bytes outcomes.Full fits = absurd fits

pub length-answer_bytes : (answer : OpAnswer) → IsAnswer answer → length (answer_bytes answer) ≤ 132
unfolding answer_bytes
length-answer_bytes (answers.Done reply) fits = omega (arith, length-reply_bytes reply fits)
length-answer_bytes (answers.Refused holder) fits = omega (arith, length-txn_bytes holder)
length-answer_bytes answers.NoMemory fits = omega arith

length-item_bytes : (item : Item) → IsItem item → length (item_bytes item) ≤ 181
unfolding item_bytes
length-item_bytes item fits =
    omega (arith, length-append (name_bytes item.table ++ name_bytes item.key ++ number_64 item.number) (image_bytes item.value), length-append (name_bytes item.table ++ name_bytes item.key) (number_64 item.number), length-append (name_bytes item.table) (name_bytes item.key), length-table_bytes item.table fits.table, length-key_bytes item.key fits.key, length-number_64 item.number, length-image_bytes item.value fits.value)

length-members : {A : Type 0} (spell : A → List ℕ) (Fits : A → Type 0) (most : ℕ) → ((member : A) → Fits member → length (spell member) ≤ most) → (members : List A) → AllByRecursion Fits members → length (flat_map spell members) ≤ length members * most
length-members spell Fits most each [] fits = omega arith
length-members spell Fits most each (first ∷ others) fits =
    rw flat_map-cons (omega (arith, length-append (spell first) (flat_map spell others), each first fits.0, length-members spell Fits most each others fits.1))

pub length-items : (records : List Item) → AreFew IsItem records → length (list_bytes item_bytes records) ≤ 725
unfolding list_bytes
length-items records fits = omega (arith, fits.few, length-members item_bytes IsItem 181 length-item_bytes records (recursion_from_All IsItem records fits.each))

short_txn : (txn : TxnId) → IsTxn txn → length (txn_bytes txn) ≤ 9
short_txn txn fits = omega (arith, length-txn_bytes txn)

pub length-txns : (txns : List TxnId) → AreFew IsTxn txns → length (list_bytes txn_bytes txns) ≤ 37
unfolding list_bytes
length-txns txns fits = omega (arith, fits.few, length-members txn_bytes IsTxn 9 short_txn txns (recursion_from_All IsTxn txns fits.each))

pub length-entry_bytes : (entry : LogRec) → IsEntry entry → length (entry_bytes entry) ≤ 322
unfolding entry_bytes
length-entry_bytes (entries.Touch txn table key mode) fits =
    omega (arith, length-append (byte 1 ++ txn_bytes txn ++ name_bytes table ++ name_bytes key) (byte (mode_byte mode)), length-append (byte 1 ++ txn_bytes txn ++ name_bytes table) (name_bytes key), length-append (byte 1 ++ txn_bytes txn) (name_bytes table), length-append (byte 1) (txn_bytes txn), length-txn_bytes txn, length-table_bytes table fits.1, length-key_bytes key fits.2)
length-entry_bytes (entries.Set txn table key before old new) fits =
    omega (arith, length-append (byte 2 ++ txn_bytes txn ++ name_bytes table ++ name_bytes key ++ number_64 before ++ image_bytes old) (image_bytes new), length-append (byte 2 ++ txn_bytes txn ++ name_bytes table ++ name_bytes key ++ number_64 before) (image_bytes old), length-append (byte 2 ++ txn_bytes txn ++ name_bytes table ++ name_bytes key) (number_64 before), length-append (byte 2 ++ txn_bytes txn ++ name_bytes table) (name_bytes key), length-append (byte 2 ++ txn_bytes txn) (name_bytes table), length-append (byte 2) (txn_bytes txn), length-txn_bytes txn, length-table_bytes table fits.1, length-key_bytes key fits.2, length-number_64 before, length-image_bytes old fits.4, length-image_bytes new fits.5)
length-entry_bytes (entries.Add txn table key before amount) fits =
    omega (arith, length-append (byte 3 ++ txn_bytes txn ++ name_bytes table ++ name_bytes key ++ number_64 before) (amount_bytes amount), length-append (byte 3 ++ txn_bytes txn ++ name_bytes table ++ name_bytes key) (number_64 before), length-append (byte 3 ++ txn_bytes txn ++ name_bytes table) (name_bytes key), length-append (byte 3 ++ txn_bytes txn) (name_bytes table), length-append (byte 3) (txn_bytes txn), length-txn_bytes txn, length-table_bytes table fits.1, length-key_bytes key fits.2, length-number_64 before, length-amount_bytes amount)
length-entry_bytes (entries.Comp txn table key before undone form) fits =
    omega (arith, length-append (byte 4 ++ txn_bytes txn ++ name_bytes table ++ name_bytes key ++ number_64 before ++ number_64 undone) (form_bytes form), length-append (byte 4 ++ txn_bytes txn ++ name_bytes table ++ name_bytes key ++ number_64 before) (number_64 undone), length-append (byte 4 ++ txn_bytes txn ++ name_bytes table ++ name_bytes key) (number_64 before), length-append (byte 4 ++ txn_bytes txn ++ name_bytes table) (name_bytes key), length-append (byte 4 ++ txn_bytes txn) (name_bytes table), length-append (byte 4) (txn_bytes txn), length-txn_bytes txn, length-table_bytes table fits.1, length-key_bytes key fits.2, length-number_64 before, length-number_64 undone, length-form_bytes form fits.5)
length-entry_bytes (entries.Prepared txn) fits =
    omega (arith, length-append (byte 5) (txn_bytes txn), length-txn_bytes txn)
length-entry_bytes (entries.End txn commit) fits =
    omega (arith, length-append (byte 6 ++ txn_bytes txn) (byte (flag_byte commit)), length-append (byte 6) (txn_bytes txn), length-txn_bytes txn)
length-entry_bytes (entries.Decide txn) fits =
    omega (arith, length-append (byte 7) (txn_bytes txn), length-txn_bytes txn)
