-- Replies, causes, outcomes and answers that are read are those that were written, and what was written is read again.
use Rattle.std.proofs.Common.{[], refl, arith}
use Rattle.cl_types.specs.declared.answers.Reply.{Reply}
use Rattle.cl_types.specs.declared.answers.Reply.TheVariants as replies
use Rattle.cl_types.specs.declared.answers.AbortCause.{AbortCause}
use Rattle.cl_types.specs.declared.answers.AbortCause.TheVariants as causes
use Rattle.cl_types.specs.declared.answers.Answer.{Answer as OpAnswer}
use Rattle.cl_types.specs.declared.answers.Answer.TheVariants as answers
use Rattle.cl_types.specs.declared.answers.Outcome.{Outcome as CommandOutcome}
use Rattle.cl_types.specs.declared.answers.Outcome.TheVariants as outcomes
use Rattle.cl_fields.specs.Spelling.{byte, amount_bytes, txn_bytes, value_bytes, reply_bytes, cause_bytes, outcome_bytes, answer_bytes}
use Rattle.cl_fields.specs.Range.{IsReply, IsCause, IsOutcome, IsAnswer}
use Rattle.cl_fields.specs.Reading.{read_reply, read_cause, read_outcome, read_answer}
use Rattle.cl_fields.proofs.Readers.{Takes, IsSpelled, Again, takes_bind, takes_done, takes_nothing, takes_if, takes_last, again_bind, again_done, again_last}
use Rattle.cl_fields.proofs.NumberLaws.{takes_byte, again_byte, tagged, takes_up_to, again_between, takes_amount, again_amount, takes_txn, again_txn}
use Rattle.cl_fields.proofs.NameLaws.{takes_value, again_value}

pub takes_reply : Takes read_reply (IsSpelled reply_bytes IsReply)
unfolding read_reply reply_bytes
takes_reply = takes_bind _ _ _ _ takes_byte (λ b text h.
    takes_if _ _ _ _ (λ is_0. takes_done _ _ (record { text = tagged text b 0 [] [] h.text is_0 refl; fits = tt }))
    (λ _. takes_if _ _ _ _ (λ is_1. takes_last _ _ _ _ takes_value (λ found text_2 h2. record { text = tagged text b 1 text_2 _ h.text is_1 h2.text; fits = h2.fits }))
    (λ _. takes_if _ _ _ _ (λ is_2. takes_done _ _ (record { text = tagged text b 2 [] [] h.text is_2 refl; fits = tt }))
    (λ _. takes_if _ _ _ _ (λ is_3. takes_last _ _ _ _ takes_amount (λ found text_2 h2. record { text = tagged text b 3 text_2 _ h.text is_3 h2.text; fits = h2.fits }))
    (λ _. takes_if _ _ _ _ (λ is_4. takes_done _ _ (record { text = tagged text b 4 [] [] h.text is_4 refl; fits = tt }))
    (λ _. takes_if _ _ _ _ (λ is_5. takes_done _ _ (record { text = tagged text b 5 [] [] h.text is_5 refl; fits = tt }))
    (λ _. takes_nothing _)))))))

pub again_reply : (reply : Reply) → IsReply reply → Again read_reply (reply_bytes reply) reply
unfolding read_reply reply_bytes
again_reply replies.Stored fits = again_last _ _ _ _ _ (again_byte 0) (again_done _)
again_reply (replies.Found value) fits = again_bind _ _ (byte 1) (value_bytes value) _ _ (again_byte 1) (again_last _ _ _ _ _ (again_value value fits) (again_done _))
again_reply replies.Absent fits = again_last _ _ _ _ _ (again_byte 2) (again_done _)
again_reply (replies.Sum sum) fits = again_bind _ _ (byte 3) (amount_bytes sum) _ _ (again_byte 3) (again_last _ _ _ _ _ (again_amount sum fits) (again_done _))
again_reply replies.NotNumber fits = again_last _ _ _ _ _ (again_byte 4) (again_done _)
again_reply replies.OutOfRange fits = again_last _ _ _ _ _ (again_byte 5) (again_done _)

pub takes_cause : Takes read_cause (IsSpelled cause_bytes IsCause)
unfolding read_cause cause_bytes
takes_cause = takes_bind _ _ _ _ takes_byte (λ b text h.
    takes_if _ _ _ _ (λ is_0. takes_last _ _ _ _ takes_txn (λ found text_2 h2. record { text = tagged text b 0 text_2 _ h.text is_0 h2.text; fits = h2.fits }))
    (λ _. takes_if _ _ _ _ (λ is_1. takes_last _ _ _ _ (takes_up_to 15) (λ found text_2 h2. record { text = tagged text b 1 text_2 _ h.text is_1 h2.text; fits = h2.fits }))
    (λ _. takes_if _ _ _ _ (λ is_2. takes_done _ _ (record { text = tagged text b 2 [] [] h.text is_2 refl; fits = tt }))
    (λ _. takes_if _ _ _ _ (λ is_3. takes_done _ _ (record { text = tagged text b 3 [] [] h.text is_3 refl; fits = tt }))
    (λ _. takes_nothing _)))))

pub again_cause : (cause : AbortCause) → IsCause cause → Again read_cause (cause_bytes cause) cause
unfolding read_cause cause_bytes
again_cause (causes.Conflict holder) fits = again_bind _ _ (byte 0) (txn_bytes holder) _ _ (again_byte 0) (again_last _ _ _ _ _ (again_txn holder fits) (again_done _))
again_cause (causes.Node node) fits = again_bind _ _ (byte 1) (byte node) _ _ (again_byte 1) (again_last _ _ _ _ _ (again_between 0 15 node (omega arith) fits) (again_done _))
again_cause causes.Client fits = again_last _ _ _ _ _ (again_byte 2) (again_done _)
again_cause causes.Memory fits = again_last _ _ _ _ _ (again_byte 3) (again_done _)

pub takes_outcome : Takes read_outcome (IsSpelled outcome_bytes IsOutcome)
unfolding read_outcome outcome_bytes
takes_outcome = takes_bind _ _ _ _ takes_byte (λ b text h.
    takes_if _ _ _ _ (λ is_0. takes_last _ _ _ _ takes_reply (λ found text_2 h2. record { text = tagged text b 0 text_2 _ h.text is_0 h2.text; fits = h2.fits }))
    (λ _. takes_if _ _ _ _ (λ is_1. takes_done _ _ (record { text = tagged text b 1 [] [] h.text is_1 refl; fits = tt }))
    (λ _. takes_if _ _ _ _ (λ is_2. takes_done _ _ (record { text = tagged text b 2 [] [] h.text is_2 refl; fits = tt }))
    (λ _. takes_if _ _ _ _ (λ is_3. takes_last _ _ _ _ takes_cause (λ found text_2 h2. record { text = tagged text b 3 text_2 _ h.text is_3 h2.text; fits = h2.fits }))
    (λ _. takes_nothing _)))))

pub again_outcome : (outcome : CommandOutcome) → IsOutcome outcome → Again read_outcome (outcome_bytes outcome) outcome
unfolding read_outcome outcome_bytes
again_outcome (outcomes.Done reply) fits = again_bind _ _ (byte 0) (reply_bytes reply) _ _ (again_byte 0) (again_last _ _ _ _ _ (again_reply reply fits) (again_done _))
again_outcome outcomes.Begun fits = again_last _ _ _ _ _ (again_byte 1) (again_done _)
again_outcome outcomes.Committed fits = again_last _ _ _ _ _ (again_byte 2) (again_done _)
again_outcome (outcomes.Aborted cause) fits = again_bind _ _ (byte 3) (cause_bytes cause) _ _ (again_byte 3) (again_last _ _ _ _ _ (again_cause cause fits) (again_done _))
again_outcome outcomes.NotTxn fits = absurd fits
again_outcome outcomes.InTxn fits = absurd fits
again_outcome outcomes.Full fits = absurd fits

pub takes_answer : Takes read_answer (IsSpelled answer_bytes IsAnswer)
unfolding read_answer answer_bytes
takes_answer = takes_bind _ _ _ _ takes_byte (λ b text h.
    takes_if _ _ _ _ (λ is_0. takes_last _ _ _ _ takes_reply (λ found text_2 h2. record { text = tagged text b 0 text_2 _ h.text is_0 h2.text; fits = h2.fits }))
    (λ _. takes_if _ _ _ _ (λ is_1. takes_last _ _ _ _ takes_txn (λ found text_2 h2. record { text = tagged text b 1 text_2 _ h.text is_1 h2.text; fits = h2.fits }))
    (λ _. takes_if _ _ _ _ (λ is_2. takes_done _ _ (record { text = tagged text b 2 [] [] h.text is_2 refl; fits = tt }))
    (λ _. takes_nothing _))))

pub again_answer : (answer : OpAnswer) → IsAnswer answer → Again read_answer (answer_bytes answer) answer
unfolding read_answer answer_bytes
again_answer (answers.Done reply) fits = again_bind _ _ (byte 0) (reply_bytes reply) _ _ (again_byte 0) (again_last _ _ _ _ _ (again_reply reply fits) (again_done _))
again_answer (answers.Refused holder) fits = again_bind _ _ (byte 1) (txn_bytes holder) _ _ (again_byte 1) (again_last _ _ _ _ _ (again_txn holder fits) (again_done _))
again_answer answers.NoMemory fits = again_last _ _ _ _ _ (again_byte 2) (again_done _)
