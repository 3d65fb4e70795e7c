-- Bodies that are read are those that were written, and what was written is read again.
use Rattle.std.proofs.Common.{◌≡◌, ℕ, List, refl, arith}
use Rattle.cl_wire.specs.declared.kind.Kind.{Kind}
use Rattle.cl_wire.specs.declared.kind.Kind.TheVariants as kinds
use Rattle.cl_wire.specs.Message.{Content, kind_of, Bare, Command, Outcome, Ask, Answer, Prepare, Vote, Finish, Inquire, Decision, Log, LogAck, Repair, Records, Names, CopyAck}
use Rattle.cl_fields.specs.Spelling.{byte, number_32, number_64, flag_byte, txn_bytes, op_bytes, command_bytes, outcome_bytes, answer_bytes, entry_bytes, item_bytes, list_bytes}
use Rattle.cl_wire.specs.Spelling.{content_bytes}
use Rattle.cl_wire.specs.Range.{IsContent}
use Rattle.cl_wire.specs.PacketReading.{read_content}
use Rattle.cl_fields.proofs.Readers.{Takes, Again, takes_bind, takes_done, takes_last, again_bind, again_done, again_as, again_last}
use Rattle.cl_fields.proofs.Nested.{nest_3, nest_4, nest_5}
use Rattle.cl_fields.proofs.NumberLaws.{takes_up_to, again_between, takes_64, again_64, takes_number, again_number, takes_index, again_index, takes_command_number, again_command_number, takes_flag, again_flag, takes_txn, again_txn}
use Rattle.cl_fields.proofs.NameLaws.{takes_op, again_op, takes_command, again_command}
use Rattle.cl_fields.proofs.AnswerLaws.{takes_outcome, again_outcome, takes_answer, again_answer}
use Rattle.cl_fields.proofs.EntryLaws.{takes_entry, again_entry}
use Rattle.cl_fields.proofs.ListLaws.{takes_items, again_items, takes_txns, again_txns}

-- the text is the fields of a body of this kind
pub record IsContentOf (kind : Kind) (content : Content) (taken : List ℕ) : Type 0 where
  pub kind_is : kind_of content ≡ kind
  pub text : taken ≡ content_bytes content
  pub fits : IsContent content

pub takes_content : (kind : Kind) → Takes (read_content kind) (IsContentOf kind)
unfolding read_content content_bytes
takes_content kinds.Bare = takes_done _ _ (record { kind_is = refl; text = refl; fits = tt })
takes_content kinds.Command = takes_bind _ _ _ _ (takes_up_to 7) (λ v text_1 h1.
    takes_bind _ _ _ _ takes_txn (λ txn text_2 h2.
    takes_bind _ _ _ _ takes_command_number (λ command_number text_3 h3.
    takes_last _ _ _ _ takes_command (λ asked text_4 h4.
    let fits : IsContent (Command v txn command_number asked) = (h1.fits, h2.fits, h3.fits, h4.fits) in
    record { kind_is = refl; text = rw (h1.text, h2.text, h3.text, h4.text) (nest_4 (byte v) (txn_bytes txn) (number_32 command_number) (command_bytes asked)); fits = fits }))))
takes_content kinds.Outcome = takes_bind _ _ _ _ takes_txn (λ txn text_1 h1.
    takes_bind _ _ _ _ takes_command_number (λ command_number text_2 h2.
    takes_last _ _ _ _ takes_outcome (λ outcome text_3 h3.
    let fits : IsContent (Outcome txn command_number outcome) = (h1.fits, h2.fits, h3.fits) in
    record { kind_is = refl; text = rw (h1.text, h2.text, h3.text) (nest_3 (txn_bytes txn) (number_32 command_number) (outcome_bytes outcome)); fits = fits })))
takes_content kinds.Ask = takes_bind _ _ _ _ (takes_up_to 7) (λ v text_1 h1.
    takes_bind _ _ _ _ takes_txn (λ txn text_2 h2.
    takes_bind _ _ _ _ takes_command_number (λ command_number text_3 h3.
    takes_last _ (λ work. Ask v txn command_number work.0 work.1 work.2) _ _ takes_op (λ work text_4 h4.
    let fits : IsContent (Ask v txn command_number work.0 work.1 work.2) = (h1.fits, h2.fits, h3.fits, h4.table, h4.key, h4.op) in
    record { kind_is = refl; text = rw (h1.text, h2.text, h3.text, h4.text) (nest_4 (byte v) (txn_bytes txn) (number_32 command_number) (op_bytes work.0 work.1 work.2)); fits = fits }))))
takes_content kinds.Answer = takes_bind _ _ _ _ (takes_up_to 7) (λ v text_1 h1.
    takes_bind _ _ _ _ takes_txn (λ txn text_2 h2.
    takes_bind _ _ _ _ takes_command_number (λ command_number text_3 h3.
    takes_last _ _ _ _ takes_answer (λ answer text_4 h4.
    let fits : IsContent (Answer v txn command_number answer) = (h1.fits, h2.fits, h3.fits, h4.fits) in
    record { kind_is = refl; text = rw (h1.text, h2.text, h3.text, h4.text) (nest_4 (byte v) (txn_bytes txn) (number_32 command_number) (answer_bytes answer)); fits = fits }))))
takes_content kinds.Prepare = takes_bind _ _ _ _ (takes_up_to 7) (λ v text_1 h1.
    takes_last _ _ _ _ takes_txn (λ txn text_2 h2.
    let fits : IsContent (Prepare v txn) = (h1.fits, h2.fits) in
    record { kind_is = refl; text = rw (h1.text, h2.text) refl; fits = fits }))
takes_content kinds.Vote = takes_bind _ _ _ _ (takes_up_to 7) (λ v text_1 h1.
    takes_last _ _ _ _ takes_txn (λ txn text_2 h2.
    let fits : IsContent (Vote v txn) = (h1.fits, h2.fits) in
    record { kind_is = refl; text = rw (h1.text, h2.text) refl; fits = fits }))
takes_content kinds.Finish = takes_bind _ _ _ _ (takes_up_to 7) (λ v text_1 h1.
    takes_bind _ _ _ _ takes_txn (λ txn text_2 h2.
    takes_last _ _ _ _ takes_flag (λ commit text_3 h3.
    let fits : IsContent (Finish v txn commit) = (h1.fits, h2.fits) in
    record { kind_is = refl; text = rw (h1.text, h2.text, h3.text) (nest_3 (byte v) (txn_bytes txn) (byte (flag_byte commit))); fits = fits })))
takes_content kinds.Inquire = takes_bind _ _ _ _ (takes_up_to 7) (λ v text_1 h1.
    takes_last _ _ _ _ takes_txn (λ txn text_2 h2.
    let fits : IsContent (Inquire v txn) = (h1.fits, h2.fits) in
    record { kind_is = refl; text = rw (h1.text, h2.text) refl; fits = fits }))
takes_content kinds.Decision = takes_bind _ _ _ _ (takes_up_to 7) (λ v text_1 h1.
    takes_bind _ _ _ _ takes_txn (λ txn text_2 h2.
    takes_last _ _ _ _ takes_flag (λ commit text_3 h3.
    let fits : IsContent (Decision v txn commit) = (h1.fits, h2.fits) in
    record { kind_is = refl; text = rw (h1.text, h2.text, h3.text) (nest_3 (byte v) (txn_bytes txn) (byte (flag_byte commit))); fits = fits })))
takes_content kinds.Log = takes_bind _ _ _ _ (takes_up_to 7) (λ v text_1 h1.
    takes_bind _ _ _ _ takes_number (λ number text_2 h2.
    takes_last _ _ _ _ takes_entry (λ entry text_3 h3.
    let fits : IsContent (Log v number entry) = (h1.fits, h2.fits, h3.fits) in
    record { kind_is = refl; text = rw (h1.text, h2.text, h3.text) (nest_3 (byte v) (number_64 number) (entry_bytes entry)); fits = fits })))
takes_content kinds.LogAck = takes_bind _ _ _ _ (takes_up_to 7) (λ v text_1 h1.
    takes_last _ _ _ _ takes_number (λ number text_2 h2.
    let fits : IsContent (LogAck v number) = (h1.fits, h2.fits) in
    record { kind_is = refl; text = rw (h1.text, h2.text) refl; fits = fits }))
takes_content kinds.Repair = takes_bind _ _ _ _ (takes_up_to 7) (λ v text_1 h1.
    takes_last _ _ _ _ (takes_up_to 15) (λ node text_2 h2.
    let fits : IsContent (Repair v node) = (h1.fits, h2.fits) in
    record { kind_is = refl; text = rw (h1.text, h2.text) refl; fits = fits }))
takes_content kinds.Records = takes_bind _ _ _ _ (takes_up_to 7) (λ v text_1 h1.
    takes_bind _ _ _ _ takes_index (λ index text_2 h2.
    takes_last _ _ _ _ takes_items (λ records text_3 h3.
    let fits : IsContent (Records v index records) = (h1.fits, h2.fits, h3.fits) in
    record { kind_is = refl; text = rw (h1.text, h2.text, h3.text) (nest_3 (byte v) (number_32 index) (list_bytes item_bytes records)); fits = fits })))
takes_content kinds.Names = takes_bind _ _ _ _ (takes_up_to 7) (λ v text_1 h1.
    takes_bind _ _ _ _ takes_index (λ index text_2 h2.
    takes_bind _ _ _ _ takes_flag (λ last text_3 h3.
    takes_bind _ _ _ _ takes_64 (λ low text_4 h4.
    takes_last _ _ _ _ takes_txns (λ txns text_5 h5.
    let fits : IsContent (Names v index last low txns) = (h1.fits, h2.fits, h4.fits, h5.fits) in
    record { kind_is = refl; text = rw (h1.text, h2.text, h3.text, h4.text, h5.text) (nest_5 (byte v) (number_32 index) (byte (flag_byte last)) (number_64 low) (list_bytes txn_bytes txns)); fits = fits })))))
takes_content kinds.CopyAck = takes_bind _ _ _ _ (takes_up_to 7) (λ v text_1 h1.
    takes_last _ _ _ _ takes_index (λ index text_2 h2.
    let fits : IsContent (CopyAck v index) = (h1.fits, h2.fits) in
    record { kind_is = refl; text = rw (h1.text, h2.text) refl; fits = fits }))

pub again_content : (content : Content) → IsContent content → Again (read_content (kind_of content)) (content_bytes content) content
unfolding read_content content_bytes
again_content Bare fits = again_done _
again_content (Command v txn command_number asked) fits = again_as _ _ _ _
    (again_bind _ _ (byte v) _ _ _ (again_between 0 7 v (omega arith) fits.0)
    (again_bind _ _ (txn_bytes txn) _ _ _ (again_txn txn fits.1)
    (again_bind _ _ (number_32 command_number) _ _ _ (again_command_number command_number fits.2)
    (again_last _ _ _ _ _ (again_command asked fits.3) (again_done _)))))
    (nest_4 (byte v) (txn_bytes txn) (number_32 command_number) (command_bytes asked))
again_content (Outcome txn command_number outcome) fits = again_as _ _ _ _
    (again_bind _ _ (txn_bytes txn) _ _ _ (again_txn txn fits.0)
    (again_bind _ _ (number_32 command_number) _ _ _ (again_command_number command_number fits.1)
    (again_last _ _ _ _ _ (again_outcome outcome fits.2) (again_done _))))
    (nest_3 (txn_bytes txn) (number_32 command_number) (outcome_bytes outcome))
again_content (Ask v txn command_number table key op) fits = again_as _ _ _ _
    (again_bind _ _ (byte v) _ _ _ (again_between 0 7 v (omega arith) fits.0)
    (again_bind _ _ (txn_bytes txn) _ _ _ (again_txn txn fits.1)
    (again_bind _ _ (number_32 command_number) _ _ _ (again_command_number command_number fits.2)
    (again_last _ _ _ _ _ (again_op table key op fits.3 fits.4 fits.5) (again_done _)))))
    (nest_4 (byte v) (txn_bytes txn) (number_32 command_number) (op_bytes table key op))
again_content (Answer v txn command_number answer) fits = again_as _ _ _ _
    (again_bind _ _ (byte v) _ _ _ (again_between 0 7 v (omega arith) fits.0)
    (again_bind _ _ (txn_bytes txn) _ _ _ (again_txn txn fits.1)
    (again_bind _ _ (number_32 command_number) _ _ _ (again_command_number command_number fits.2)
    (again_last _ _ _ _ _ (again_answer answer fits.3) (again_done _)))))
    (nest_4 (byte v) (txn_bytes txn) (number_32 command_number) (answer_bytes answer))
again_content (Prepare v txn) fits =
    (again_bind _ _ (byte v) _ _ _ (again_between 0 7 v (omega arith) fits.0)
    (again_last _ _ _ _ _ (again_txn txn fits.1) (again_done _)))
again_content (Vote v txn) fits =
    (again_bind _ _ (byte v) _ _ _ (again_between 0 7 v (omega arith) fits.0)
    (again_last _ _ _ _ _ (again_txn txn fits.1) (again_done _)))
again_content (Finish v txn commit) fits = again_as _ _ _ _
    (again_bind _ _ (byte v) _ _ _ (again_between 0 7 v (omega arith) fits.0)
    (again_bind _ _ (txn_bytes txn) _ _ _ (again_txn txn fits.1)
    (again_last _ _ _ _ _ (again_flag commit) (again_done _))))
    (nest_3 (byte v) (txn_bytes txn) (byte (flag_byte commit)))
again_content (Inquire v txn) fits =
    (again_bind _ _ (byte v) _ _ _ (again_between 0 7 v (omega arith) fits.0)
    (again_last _ _ _ _ _ (again_txn txn fits.1) (again_done _)))
again_content (Decision v txn commit) fits = again_as _ _ _ _
    (again_bind _ _ (byte v) _ _ _ (again_between 0 7 v (omega arith) fits.0)
    (again_bind _ _ (txn_bytes txn) _ _ _ (again_txn txn fits.1)
    (again_last _ _ _ _ _ (again_flag commit) (again_done _))))
    (nest_3 (byte v) (txn_bytes txn) (byte (flag_byte commit)))
again_content (Log v number entry) fits = again_as _ _ _ _
    (again_bind _ _ (byte v) _ _ _ (again_between 0 7 v (omega arith) fits.0)
    (again_bind _ _ (number_64 number) _ _ _ (again_number number fits.1)
    (again_last _ _ _ _ _ (again_entry entry fits.2) (again_done _))))
    (nest_3 (byte v) (number_64 number) (entry_bytes entry))
again_content (LogAck v number) fits =
    (again_bind _ _ (byte v) _ _ _ (again_between 0 7 v (omega arith) fits.0)
    (again_last _ _ _ _ _ (again_number number fits.1) (again_done _)))
again_content (Repair v node) fits =
    (again_bind _ _ (byte v) _ _ _ (again_between 0 7 v (omega arith) fits.0)
    (again_last _ _ _ _ _ (again_between 0 15 node (omega arith) fits.1) (again_done _)))
again_content (Records v index records) fits = again_as _ _ _ _
    (again_bind _ _ (byte v) _ _ _ (again_between 0 7 v (omega arith) fits.0)
    (again_bind _ _ (number_32 index) _ _ _ (again_index index fits.1)
    (again_last _ _ _ _ _ (again_items records fits.2) (again_done _))))
    (nest_3 (byte v) (number_32 index) (list_bytes item_bytes records))
again_content (Names v index last low txns) fits = again_as _ _ _ _
    (again_bind _ _ (byte v) _ _ _ (again_between 0 7 v (omega arith) fits.0)
    (again_bind _ _ (number_32 index) _ _ _ (again_index index fits.1)
    (again_bind _ _ (byte (flag_byte last)) _ _ _ (again_flag last)
    (again_bind _ _ (number_64 low) _ _ _ (again_64 low fits.2)
    (again_last _ _ _ _ _ (again_txns txns fits.3) (again_done _))))))
    (nest_5 (byte v) (number_32 index) (byte (flag_byte last)) (number_64 low) (list_bytes txn_bytes txns))
again_content (CopyAck v index) fits =
    (again_bind _ _ (byte v) _ _ _ (again_between 0 7 v (omega arith) fits.0)
    (again_last _ _ _ _ _ (again_index index fits.1) (again_done _)))
