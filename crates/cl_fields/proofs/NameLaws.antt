-- Names, values and operations that are read are those that were written, and what was written is read again.
use Rattle.std.proofs.Common.{◌≡◌, ℕ, ◌^◌, ◌<◌, ◌≤◌, Bool, true, false, List, [], ◌++◌, length, Option, Some, None, refl, sym, arith}
use Rattle.std.specs.Int.{w16, to_be_bytes}
use Rattle.std.proofs.lemmas.Bool.{eqb-true}
use Rattle.cl_types.specs.Names.{is_between}
use Rattle.cl_types.specs.declared.operations.Op.{Op}
use Rattle.cl_types.specs.declared.operations.Op.TheVariants.{Get, Put, Del, Add}
use Rattle.cl_types.specs.declared.operations.Command.{Command as ClientCommand}
use Rattle.cl_types.specs.declared.operations.Command.TheVariants.{Begin, Work, Commit, Abort}
use Rattle.cl_log.specs.declared.records.Form.{Form}
use Rattle.cl_log.specs.declared.records.Form.TheVariants.{Image, Amount}
use Rattle.cl_fields.specs.Spelling.{byte, amount_bytes, name_bytes, value_bytes, image_bytes, form_bytes, op_byte, operand_bytes, op_bytes, command_bytes}
use Rattle.cl_fields.specs.Range.{IsTable, IsKey, IsValue, IsImage, IsForm, IsOp, IsCommand}
use Rattle.cl_fields.specs.Reading.{◌>>=◌, done, read_text, read_table, read_key, read_value_length, read_value, read_image, read_form, read_operand, read_work, read_op, read_command}
use Rattle.cl_fields.proofs.Lengths.{length-table, length-key, length-value, value_is_between}
use Rattle.cl_fields.proofs.Readers.{Takes, IsSpelled, Again, takes_bind, takes_done, takes_passed, takes_nothing, takes_if, takes_last, takes_as, again_bind, again_done, again_passed, again_as, again_last}
use Rattle.cl_fields.proofs.Nested.{nest_4}
use Rattle.cl_fields.proofs.NumberLaws.{takes_byte, again_byte, tagged, takes_between, again_between, takes_bytes, again_bytes, wide_16, takes_wide, again_wide, takes_amount, again_amount, flag_bytes, takes_flag, again_flag}

-- ---- names

pub takes_text : Takes read_text (IsSpelled name_bytes (λ text. length text < 256))
unfolding read_text name_bytes
takes_text = takes_bind _ _ _ _ takes_byte (λ count text_1 h1.
    takes_as _ _ _ (takes_bytes count) (λ found text_2 h2. record {
      text = rw (h1.text, h2.text, ← h2.size) refl;
      fits = rw h2.size h1.fits;
    }))

pub again_text : (text : List ℕ) → length text < 256 → Again read_text (name_bytes text) text
unfolding read_text name_bytes
again_text text short = again_bind _ _ (byte (length text)) text _ _ (again_byte (length text)) (again_bytes text (length text) refl)

pub takes_table : Takes read_table (IsSpelled name_bytes IsTable)
unfolding read_table
takes_table = takes_passed _ _ _ _ takes_text (λ name text h passes. record { text = h.text; fits = passes })

pub again_table : (name : List ℕ) → IsTable name → Again read_table (name_bytes name) name
unfolding read_table
again_table name fits = again_passed _ _ _ _ (again_text name (omega (arith, length-table name fits))) fits

pub takes_key : Takes read_key (IsSpelled name_bytes IsKey)
unfolding read_key
takes_key = takes_passed _ _ _ _ takes_text (λ name text h passes. record { text = h.text; fits = passes })

pub again_key : (name : List ℕ) → IsKey name → Again read_key (name_bytes name) name
unfolding read_key
again_key name fits = again_passed _ _ _ _ (again_text name (omega (arith, length-key name fits))) fits

-- ---- values

takes_value_length : Takes read_value_length (IsSpelled (to_be_bytes w16) (λ count. count < 2 ^ 16))
unfolding read_value_length
takes_value_length = takes_passed _ _ _ _ (takes_wide w16 (2 ^ 16) wide_16) (λ count text h passes. h)

pub takes_value : Takes read_value (IsSpelled value_bytes IsValue)
unfolding read_value value_bytes
takes_value = takes_bind _ _ _ _ takes_value_length (λ count text_1 h1.
    takes_passed _ _ _ _ (takes_bytes count) (λ value text_2 h2 passes. record {
      text = rw (h1.text, h2.text, ← h2.size) refl;
      fits = passes;
    }))

again_value_length : (value : List ℕ) → IsValue value → Again read_value_length (to_be_bytes w16 (length value)) (length value)
unfolding read_value_length
again_value_length value fits = again_passed _ _ _ _ (again_wide w16 (2 ^ 16) wide_16 (length value) (omega (arith, length-value value fits))) (value_is_between value fits)

pub again_value : (value : List ℕ) → IsValue value → Again read_value (value_bytes value) value
unfolding read_value value_bytes
again_value value fits =
    again_bind _ _ (to_be_bytes w16 (length value)) value _ _ (again_value_length value fits)
    (again_passed _ _ _ _ (again_bytes value (length value) refl) fits)

-- the text begins with a flag
flagged : (text more spelled : List ℕ) (flag known : Bool) → text ≡ flag_bytes flag → flag ≡ known → more ≡ spelled → text ++ more ≡ flag_bytes known ++ spelled
flagged text more spelled flag known begins is then = rw (begins, is, then) refl

pub takes_image : Takes read_image (IsSpelled image_bytes IsImage)
unfolding read_image image_bytes
takes_image = takes_bind _ _ _ _ takes_flag (λ there text_1 h1.
    takes_if _ _ _ _
    (λ yes. takes_last _ _ _ _ takes_value (λ value text_2 h2. record { text = flagged text_1 text_2 _ there true h1.text yes h2.text; fits = h2.fits }))
    (λ no. takes_done _ _ (record { text = flagged text_1 [] [] there false h1.text no refl; fits = tt })))

pub again_image : (image : Option (List ℕ)) → IsImage image → Again read_image (image_bytes image) image
unfolding read_image image_bytes
again_image None fits = again_last _ _ _ _ _ (again_flag false) (again_done _)
again_image (Some value) fits = again_bind _ _ (byte 1) (value_bytes value) _ _ (again_flag true) (again_last _ _ _ _ _ (again_value value fits) (again_done _))

pub takes_form : Takes read_form (IsSpelled form_bytes IsForm)
unfolding read_form form_bytes
takes_form = takes_bind _ _ _ _ takes_flag (λ is_amount text_1 h1.
    takes_if _ _ _ _
    (λ yes. takes_last _ _ _ _ takes_amount (λ amount text_2 h2. record { text = flagged text_1 text_2 _ is_amount true h1.text yes h2.text; fits = h2.fits }))
    (λ no. takes_last _ _ _ _ takes_image (λ image text_2 h2. record { text = flagged text_1 text_2 _ is_amount false h1.text no h2.text; fits = h2.fits })))

pub again_form : (form : Form) → IsForm form → Again read_form (form_bytes form) form
unfolding read_form form_bytes
again_form (Image image) fits = again_bind _ _ (byte 0) (image_bytes image) _ _ (again_flag false) (again_last _ _ _ _ _ (again_image image fits) (again_done _))
again_form (Amount amount) fits = again_bind _ _ (byte 1) (amount_bytes amount) _ _ (again_flag true) (again_last _ _ _ _ _ (again_amount amount fits) (again_done _))

-- ---- operations

-- the text is what stands after the key of an operation with this byte
pub record IsOperand (b : ℕ) (op : Op) (taken : List ℕ) : Type 0 where
  pub text : taken ≡ operand_bytes op
  pub code : op_byte op ≡ b
  pub fits : IsOp op

pub takes_operand : (b : ℕ) → Takes (read_operand b) (IsOperand b)
unfolding read_operand
takes_operand b =
    takes_if _ _ _ _ (λ is_1. takes_done _ _ (record { text = refl; code = sym (eqb-true b 1 is_1); fits = tt }))
    (λ _. takes_if _ _ _ _ (λ is_2. takes_last _ _ _ _ takes_value (λ value text h. record { text = h.text; code = sym (eqb-true b 2 is_2); fits = h.fits }))
    (λ _. takes_if _ _ _ _ (λ is_3. takes_done _ _ (record { text = refl; code = sym (eqb-true b 3 is_3); fits = tt }))
    (λ _. takes_if _ _ _ _ (λ is_4. takes_last _ _ _ _ takes_amount (λ amount text h. record { text = h.text; code = sym (eqb-true b 4 is_4); fits = h.fits }))
    (λ _. takes_nothing _))))

pub again_operand : (op : Op) → IsOp op → Again (read_operand (op_byte op)) (operand_bytes op) op
unfolding read_operand
again_operand (Put value) fits = again_last _ _ _ _ _ (again_value value fits) (again_done _)
again_operand (Add amount) fits = again_last _ _ _ _ _ (again_amount amount fits) (again_done _)
again_operand other fits = again_done _

-- the text is a table, a key and what stands after it, of an operation with this byte
pub record IsWork (b : ℕ) (work : List ℕ × List ℕ × Op) (taken : List ℕ) : Type 0 where
  pub text : taken ≡ name_bytes work.0 ++ (name_bytes work.1 ++ operand_bytes work.2)
  pub code : op_byte work.2 ≡ b
  pub table : IsTable work.0
  pub key : IsKey work.1
  pub op : IsOp work.2

pub takes_work : (b : ℕ) → Takes (read_work b) (IsWork b)
unfolding read_work
takes_work b = takes_bind _ _ _ _ takes_table (λ table text_1 h1.
    takes_bind _ _ _ _ takes_key (λ key text_2 h2.
    takes_last _ _ _ _ (takes_operand b) (λ op text_3 h3. record {
      text = rw (h1.text, h2.text, h3.text) refl;
      code = h3.code;
      table = h1.fits;
      key = h2.fits;
      op = h3.fits;
    })))

pub again_work : (table key : List ℕ) (op : Op) → IsTable table → IsKey key → IsOp op → Again (read_work (op_byte op)) (name_bytes table ++ (name_bytes key ++ operand_bytes op)) (table, key, op)
unfolding read_work
again_work table key op fits_table fits_key fits_op =
    again_bind _ _ (name_bytes table) (name_bytes key ++ operand_bytes op) _ _ (again_table table fits_table)
    (again_bind _ _ (name_bytes key) (operand_bytes op) _ _ (again_key key fits_key)
    (again_last _ _ _ _ _ (again_operand op fits_op) (again_done _)))

-- the text is an operation on a record
pub record IsOpOn (work : List ℕ × List ℕ × Op) (taken : List ℕ) : Type 0 where
  pub text : taken ≡ op_bytes work.0 work.1 work.2
  pub table : IsTable work.0
  pub key : IsKey work.1
  pub op : IsOp work.2

op_text : (text more : List ℕ) (b : ℕ) (work : List ℕ × List ℕ × Op) → text ≡ byte b → IsWork b work more → text ++ more ≡ op_bytes work.0 work.1 work.2
unfolding op_bytes
op_text text more b work begins behind = rw (begins, behind.text, ← behind.code) (nest_4 (byte (op_byte work.2)) (name_bytes work.0) (name_bytes work.1) (operand_bytes work.2))

pub takes_op : Takes read_op IsOpOn
unfolding read_op
takes_op = takes_bind _ _ _ _ (takes_between 1 4) (λ b text_1 h1.
    takes_as _ _ _ (takes_work b) (λ work text_2 h2. record {
      text = op_text text_1 text_2 b work h1.text h2;
      table = h2.table;
      key = h2.key;
      op = h2.op;
    }))

op_byte-low : (op : Op) → 1 ≤ op_byte op
op_byte-low (Add amount) = omega arith
op_byte-low other = omega arith

op_byte-high : (op : Op) → op_byte op ≤ 4
op_byte-high (Add amount) = omega arith
op_byte-high other = omega arith

pub again_op : (table key : List ℕ) (op : Op) → IsTable table → IsKey key → IsOp op → Again read_op (op_bytes table key op) (table, key, op)
unfolding read_op op_bytes
again_op table key op fits_table fits_key fits_op =
    again_as _ _ _ _ (again_bind _ _ (byte (op_byte op)) _ _ _ (again_between 1 4 (op_byte op) (op_byte-low op) (op_byte-high op)) (again_work table key op fits_table fits_key fits_op)) (nest_4 (byte (op_byte op)) (name_bytes table) (name_bytes key) (operand_bytes op))

pub takes_command : Takes read_command (IsSpelled command_bytes IsCommand)
unfolding read_command command_bytes
takes_command = takes_bind _ _ _ _ takes_byte (λ b text h.
    takes_if _ _ _ _ (λ is_0. takes_done _ _ (record { text = tagged text b 0 [] [] h.text is_0 refl; fits = tt }))
    (λ _. takes_if _ _ _ _ (λ is_5. takes_done _ _ (record { text = tagged text b 5 [] [] h.text is_5 refl; fits = tt }))
    (λ _. takes_if _ _ _ _ (λ is_6. takes_done _ _ (record { text = tagged text b 6 [] [] h.text is_6 refl; fits = tt }))
    (λ _. takes_if (is_between 1 4 b) (read_work b >>= λ work. done (Work work.0 work.1 work.2)) _ _ (λ _. takes_last _ (λ work. Work work.0 work.1 work.2) _ _ (takes_work b) (λ work text_2 h2.
    let fits : IsCommand (Work work.0 work.1 work.2) = (h2.table, h2.key, h2.op) in
    record { text = op_text text text_2 b work h.text h2; fits = fits }))
    (λ _. takes_nothing _)))))

-- a command of the byte of an operation goes on with its table
command_work : (table key : List ℕ) (op : Op) → IsTable table → IsKey key → IsOp op → Again read_command (op_bytes table key op) (Work table key op)
unfolding read_command op_bytes
command_work table key Get fits_table fits_key fits_op = again_as _ _ _ _ (again_bind _ _ (byte 1) _ _ _ (again_byte 1) (again_last _ _ _ _ _ (again_work table key Get fits_table fits_key fits_op) (again_done _))) (nest_4 (byte 1) (name_bytes table) (name_bytes key) (operand_bytes Get))
command_work table key (Put value) fits_table fits_key fits_op = again_as _ _ _ _ (again_bind _ _ (byte 2) _ _ _ (again_byte 2) (again_last _ _ _ _ _ (again_work table key (Put value) fits_table fits_key fits_op) (again_done _))) (nest_4 (byte 2) (name_bytes table) (name_bytes key) (operand_bytes (Put value)))
command_work table key Del fits_table fits_key fits_op = again_as _ _ _ _ (again_bind _ _ (byte 3) _ _ _ (again_byte 3) (again_last _ _ _ _ _ (again_work table key Del fits_table fits_key fits_op) (again_done _))) (nest_4 (byte 3) (name_bytes table) (name_bytes key) (operand_bytes Del))
command_work table key (Add amount) fits_table fits_key fits_op = again_as _ _ _ _ (again_bind _ _ (byte 4) _ _ _ (again_byte 4) (again_last _ _ _ _ _ (again_work table key (Add amount) fits_table fits_key fits_op) (again_done _))) (nest_4 (byte 4) (name_bytes table) (name_bytes key) (operand_bytes (Add amount)))

pub again_command : (command : ClientCommand) → IsCommand command → Again read_command (command_bytes command) command
unfolding read_command command_bytes
again_command Begin fits = again_last _ _ _ _ _ (again_byte 0) (again_done _)
again_command (Work table key op) fits = command_work table key op fits.0 fits.1 fits.2
again_command Commit fits = again_last _ _ _ _ _ (again_byte 5) (again_done _)
again_command Abort fits = again_last _ _ _ _ _ (again_byte 6) (again_done _)
