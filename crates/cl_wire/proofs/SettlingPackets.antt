-- The readers of whole packets settle: what they answer stays on longer bytes, unless it was Short.
use Rattle.std.proofs.Common.{Option, Some, None, refl}
use Rattle.cl_wire.specs.declared.kind.Kind.{Kind}
use Rattle.cl_wire.specs.declared.kind.Kind.TheVariants as kinds
use Rattle.cl_wire.specs.Message.{Ask}
use Rattle.cl_wire.specs.PacketReading.{checked_kind, read_kind, read_content, read_seq, read_header, read_message}
use Rattle.cl_fields.proofs.Settling.{Settles, settles_bind, settles_done, settles_last, settles_passed, settles_byte}
use Rattle.cl_fields.proofs.SettlingFields.{settles_between, settles_number, settles_positive, settles_flag, settles_command_number, settles_txn, settles_op, settles_command, settles_outcome, settles_answer, settles_entry, settles_item, settles_list}

settles_checked_kind : (kind : Option Kind) → Settles (Unit {0}) (checked_kind kind)
settles_checked_kind (Some kind) = record { run = λ bytes more. refl; enough = λ bytes. record { missing = 0; ends = λ short. cc } }
settles_checked_kind None = record { run = λ bytes more. (tt, refl); enough = λ bytes. record { missing = 0; ends = λ short. cc } }

settles_kind : Settles (Unit {0}) read_kind
unfolding read_kind
settles_kind = settles_bind _ _ settles_byte (λ b. settles_checked_kind _)

pub settles_seq : {K : Type 0} (kind : Kind) → Settles K (read_seq kind)
unfolding read_seq
settles_seq kind = settles_passed _ _ (settles_number _)

pub settles_content : {K : Type 0} (kind : Kind) → Settles K (read_content kind)
unfolding read_content
settles_content kinds.Bare = settles_done _
settles_content kinds.Command = settles_bind _ _ (settles_between _ _) (λ _.
    settles_bind _ _ settles_txn (λ _.
    settles_bind _ _ settles_command_number (λ _.
    settles_last _ _ settles_command)))
settles_content kinds.Outcome = settles_bind _ _ settles_txn (λ _.
    settles_bind _ _ settles_command_number (λ _.
    settles_last _ _ settles_outcome))
settles_content kinds.Ask = settles_bind _ _ (settles_between _ _) (λ v.
    settles_bind _ _ settles_txn (λ txn.
    settles_bind _ _ settles_command_number (λ command_number.
    settles_last _ (λ work. Ask v txn command_number work.0 work.1 work.2) settles_op)))
settles_content kinds.Answer = settles_bind _ _ (settles_between _ _) (λ _.
    settles_bind _ _ settles_txn (λ _.
    settles_bind _ _ settles_command_number (λ _.
    settles_last _ _ settles_answer)))
settles_content kinds.Prepare = settles_bind _ _ (settles_between _ _) (λ _.
    settles_last _ _ settles_txn)
settles_content kinds.Vote = settles_bind _ _ (settles_between _ _) (λ _.
    settles_last _ _ settles_txn)
settles_content kinds.Finish = settles_bind _ _ (settles_between _ _) (λ _.
    settles_bind _ _ settles_txn (λ _.
    settles_last _ _ settles_flag))
settles_content kinds.Inquire = settles_bind _ _ (settles_between _ _) (λ _.
    settles_last _ _ settles_txn)
settles_content kinds.Decision = settles_bind _ _ (settles_between _ _) (λ _.
    settles_bind _ _ settles_txn (λ _.
    settles_last _ _ settles_flag))
settles_content kinds.Log = settles_bind _ _ (settles_between _ _) (λ _.
    settles_bind _ _ (settles_positive _) (λ _.
    settles_last _ _ settles_entry))
settles_content kinds.LogAck = settles_bind _ _ (settles_between _ _) (λ _.
    settles_last _ _ (settles_positive _))
settles_content kinds.Repair = settles_bind _ _ (settles_between _ _) (λ _.
    settles_last _ _ (settles_between _ _))
settles_content kinds.Records = settles_bind _ _ (settles_between _ _) (λ _.
    settles_bind _ _ (settles_positive _) (λ _.
    settles_last _ _ (settles_list _ settles_item)))
settles_content kinds.Names = settles_bind _ _ (settles_between _ _) (λ _.
    settles_bind _ _ (settles_positive _) (λ _.
    settles_bind _ _ settles_flag (λ _.
    settles_bind _ _ (settles_number _) (λ _.
    settles_last _ _ (settles_list _ settles_txn)))))
settles_content kinds.CopyAck = settles_bind _ _ (settles_between _ _) (λ _.
    settles_last _ _ (settles_positive _))

settles_header : Settles (Unit {0}) read_header
unfolding read_header
settles_header = settles_bind _ _ (settles_between _ _) (λ _.
    settles_bind _ _ settles_kind (λ kind.
    settles_bind _ _ (settles_between _ _) (λ _.
    settles_bind _ _ (settles_between _ _) (λ _.
    settles_bind _ _ (settles_number _) (λ _.
    settles_bind _ _ (settles_seq kind) (λ _.
    settles_last _ _ (settles_number _)))))))

pub settles_message : Settles (Unit {0}) read_message
unfolding read_message
settles_message = settles_bind _ _ settles_header (λ header. settles_last _ _ (settles_content header.kind))
