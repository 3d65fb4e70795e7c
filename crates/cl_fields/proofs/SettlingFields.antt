-- The readers of fields settle: what they answer stays on longer bytes, unless it was Short.
use Rattle.std.proofs.Common.{ℕ, zero, suc, ◌==◌}
use Rattle.std.specs.Int.{Width}
use Rattle.cl_types.specs.declared.operations.Command.TheVariants.{Work}
use Rattle.cl_types.specs.Names.{is_between}
use Rattle.cl_fields.specs.Reading.{Reader, read_between, read_number, read_positive, read_amount, read_flag, read_mode, read_command_number, read_txn, read_text, read_table, read_key, read_value_length, read_value, read_image, read_form, read_operand, read_work, read_op, read_command, read_reply, read_cause, read_outcome, read_answer, read_touch, read_set, read_add, read_comp, read_end, read_entry, read_item, read_members, read_list}
use Rattle.cl_fields.proofs.Settling.{Settles, settles_bind, settles_done, settles_nothing, settles_if, settles_last, settles_passed, settles_byte, settles_bytes}

pub settles_between : {K : Type 0} (low : ℕ) (high : ℕ) → Settles K (read_between low high)
unfolding read_between
settles_between low high = settles_passed _ _ settles_byte

pub settles_number : {K : Type 0} (w : Width) → Settles K (read_number w)
unfolding read_number
settles_number w = settles_last _ _ (settles_bytes _)

pub settles_positive : {K : Type 0} (w : Width) → Settles K (read_positive w)
unfolding read_positive
settles_positive w = settles_passed _ _ (settles_number w)

pub settles_amount : {K : Type 0} → Settles K read_amount
unfolding read_amount
settles_amount = settles_last _ _ (settles_number _)

pub settles_flag : {K : Type 0} → Settles K read_flag
unfolding read_flag
settles_flag = settles_bind _ _ settles_byte (λ b.
    settles_if (b == 0) _ _ (settles_done _) (settles_if (b == 1) _ _ (settles_done _) (settles_nothing)))

pub settles_mode : {K : Type 0} → Settles K read_mode
unfolding read_mode
settles_mode = settles_bind _ _ settles_byte (λ b.
    settles_if (b == 1) _ _ (settles_done _) (settles_if (b == 2) _ _ (settles_done _) (settles_nothing)))

pub settles_command_number : {K : Type 0} → Settles K read_command_number
unfolding read_command_number
settles_command_number = settles_passed _ _ (settles_number _)

pub settles_txn : {K : Type 0} → Settles K read_txn
unfolding read_txn
settles_txn = settles_bind _ _ (settles_between _ _) (λ _.
    settles_last _ _ (settles_positive _))

pub settles_text : {K : Type 0} → Settles K read_text
unfolding read_text
settles_text = settles_bind _ _ settles_byte (λ count. settles_bytes count)

pub settles_table : {K : Type 0} → Settles K read_table
unfolding read_table
settles_table = settles_passed _ _ settles_text

pub settles_key : {K : Type 0} → Settles K read_key
unfolding read_key
settles_key = settles_passed _ _ settles_text

pub settles_value_length : {K : Type 0} → Settles K read_value_length
unfolding read_value_length
settles_value_length = settles_passed _ _ (settles_number _)

pub settles_value : {K : Type 0} → Settles K read_value
unfolding read_value
settles_value = settles_bind _ _ settles_value_length (λ count. settles_passed _ _ (settles_bytes count))

pub settles_image : {K : Type 0} → Settles K read_image
unfolding read_image
settles_image = settles_bind _ _ settles_flag (λ there. settles_if there _ _ (settles_last _ _ settles_value) (settles_done _))

pub settles_form : {K : Type 0} → Settles K read_form
unfolding read_form
settles_form = settles_bind _ _ settles_flag (λ is_amount. settles_if is_amount _ _ (settles_last _ _ settles_amount) (settles_last _ _ settles_image))

pub settles_operand : {K : Type 0} (b : ℕ) → Settles K (read_operand b)
unfolding read_operand
settles_operand b = settles_if (b == 1) _ _ (settles_done _) (settles_if (b == 2) _ _ (settles_last _ _ settles_value) (settles_if (b == 3) _ _ (settles_done _) (settles_if (b == 4) _ _ (settles_last _ _ settles_amount) (settles_nothing))))

pub settles_work : {K : Type 0} (b : ℕ) → Settles K (read_work b)
unfolding read_work
settles_work b = settles_bind _ _ settles_table (λ _.
    settles_bind _ _ settles_key (λ _.
    settles_last _ _ (settles_operand b)))

pub settles_op : {K : Type 0} → Settles K read_op
unfolding read_op
settles_op = settles_bind _ _ (settles_between _ _) (λ b. settles_work b)

pub settles_command : {K : Type 0} → Settles K read_command
unfolding read_command
settles_command = settles_bind _ _ settles_byte (λ b.
    settles_if (b == 0) _ _ (settles_done _) (settles_if (b == 5) _ _ (settles_done _) (settles_if (b == 6) _ _ (settles_done _) (settles_if (is_between 1 4 b) _ _ (settles_last _ (λ work. Work work.0 work.1 work.2) (settles_work b)) (settles_nothing)))))

pub settles_reply : {K : Type 0} → Settles K read_reply
unfolding read_reply
settles_reply = settles_bind _ _ settles_byte (λ b.
    settles_if (b == 0) _ _ (settles_done _) (settles_if (b == 1) _ _ (settles_last _ _ settles_value) (settles_if (b == 2) _ _ (settles_done _) (settles_if (b == 3) _ _ (settles_last _ _ settles_amount) (settles_if (b == 4) _ _ (settles_done _) (settles_if (b == 5) _ _ (settles_done _) (settles_nothing)))))))

pub settles_cause : {K : Type 0} → Settles K read_cause
unfolding read_cause
settles_cause = settles_bind _ _ settles_byte (λ b.
    settles_if (b == 0) _ _ (settles_last _ _ settles_txn) (settles_if (b == 1) _ _ (settles_last _ _ (settles_between _ _)) (settles_if (b == 2) _ _ (settles_done _) (settles_if (b == 3) _ _ (settles_done _) (settles_nothing)))))

pub settles_outcome : {K : Type 0} → Settles K read_outcome
unfolding read_outcome
settles_outcome = settles_bind _ _ settles_byte (λ b.
    settles_if (b == 0) _ _ (settles_last _ _ settles_reply) (settles_if (b == 1) _ _ (settles_done _) (settles_if (b == 2) _ _ (settles_done _) (settles_if (b == 3) _ _ (settles_last _ _ settles_cause) (settles_nothing)))))

pub settles_answer : {K : Type 0} → Settles K read_answer
unfolding read_answer
settles_answer = settles_bind _ _ settles_byte (λ b.
    settles_if (b == 0) _ _ (settles_last _ _ settles_reply) (settles_if (b == 1) _ _ (settles_last _ _ settles_txn) (settles_if (b == 2) _ _ (settles_done _) (settles_nothing))))

pub settles_touch : {K : Type 0} → Settles K read_touch
unfolding read_touch
settles_touch = settles_bind _ _ settles_txn (λ _.
    settles_bind _ _ settles_table (λ _.
    settles_bind _ _ settles_key (λ _.
    settles_last _ _ settles_mode)))

pub settles_set : {K : Type 0} → Settles K read_set
unfolding read_set
settles_set = settles_bind _ _ settles_txn (λ _.
    settles_bind _ _ settles_table (λ _.
    settles_bind _ _ settles_key (λ _.
    settles_bind _ _ (settles_number _) (λ _.
    settles_bind _ _ settles_image (λ _.
    settles_last _ _ settles_image)))))

pub settles_add : {K : Type 0} → Settles K read_add
unfolding read_add
settles_add = settles_bind _ _ settles_txn (λ _.
    settles_bind _ _ settles_table (λ _.
    settles_bind _ _ settles_key (λ _.
    settles_bind _ _ (settles_number _) (λ _.
    settles_last _ _ settles_amount))))

pub settles_comp : {K : Type 0} → Settles K read_comp
unfolding read_comp
settles_comp = settles_bind _ _ settles_txn (λ _.
    settles_bind _ _ settles_table (λ _.
    settles_bind _ _ settles_key (λ _.
    settles_bind _ _ (settles_number _) (λ _.
    settles_bind _ _ (settles_positive _) (λ _.
    settles_last _ _ settles_form)))))

pub settles_end : {K : Type 0} → Settles K read_end
unfolding read_end
settles_end = settles_bind _ _ settles_txn (λ _.
    settles_last _ _ settles_flag)

pub settles_entry : {K : Type 0} → Settles K read_entry
unfolding read_entry
settles_entry = settles_bind _ _ settles_byte (λ b.
    settles_if (b == 1) _ _ settles_touch (settles_if (b == 2) _ _ settles_set (settles_if (b == 3) _ _ settles_add (settles_if (b == 4) _ _ settles_comp (settles_if (b == 5) _ _ (settles_last _ _ settles_txn) (settles_if (b == 6) _ _ settles_end (settles_if (b == 7) _ _ (settles_last _ _ settles_txn) (settles_nothing))))))))

pub settles_item : {K : Type 0} → Settles K read_item
unfolding read_item
settles_item = settles_bind _ _ settles_table (λ _.
    settles_bind _ _ settles_key (λ _.
    settles_bind _ _ (settles_positive _) (λ _.
    settles_last _ _ settles_image)))

pub settles_members : {A K : Type 0} (read_member : Reader A) → Settles K read_member → (count : ℕ) → Settles K (read_members read_member count)
unfolding read_members
settles_members read_member member zero = settles_done _
settles_members read_member member (suc count) = settles_bind _ _ member (λ _. settles_last _ _ (settles_members read_member member count))

pub settles_list : {A K : Type 0} (read_member : Reader A) → Settles K read_member → Settles K (read_list read_member)
unfolding read_list
settles_list read_member member = settles_bind _ _ (settles_between _ _) (λ count. settles_members read_member member count)
