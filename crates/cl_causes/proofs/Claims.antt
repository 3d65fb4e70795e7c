-- What is said of a transaction that is refused or runs out of memory, and that it stays so in a longer transcript.
use Rattle.std.proofs.Common.{◌≡◌, ◌≢◌, ℕ, zero, suc, ◌-◌, ◌<◌, ◌≤◌, List, [], ◌∷◌, ◌++◌, length, take, Some, refl, sym, ap, ◌∙◌, subst, arith}
use Rattle.std.proofs.lemmas.List.{length-append}
use Rattle.cl_lines.specs.declared.out.Out.TheVariants as out
use Rattle.cl_serial.specs.Causes.{Conflicts}
use Rattle.cl_serial.specs.Exchanges.{Exchange}
use Rattle.cl_serial.specs.Serial.{StandsAt, IsIn, IsOperation}
use Rattle.cl_serial.specs.Transactions.{commands_of}
use Rattle.cl_serial.specs.Transcript.{TranscriptEntry, written, quiet}
use Rattle.cl_serial.proofs.Places.{StandsAt-append_left}
use Rattle.cl_system.specs.Roles.{IsOfSession}
use Rattle.cl_told.specs.Told.{told_session}
use Rattle.cl_types.specs.declared.answers.AbortCause.{AbortCause}
use Rattle.cl_types.specs.declared.answers.AbortCause.TheVariants.{Conflict, Node, Client, Memory}
use Rattle.cl_types.specs.declared.answers.Answer.TheVariants as answer
use Rattle.cl_types.specs.declared.answers.Outcome.TheVariants.{Aborted}
use Rattle.cl_types.specs.declared.operations.Command.TheVariants.{Work, Abort}
use Rattle.cl_types.specs.declared.operations.Op.{Op}
use Rattle.cl_types.specs.declared.operations.TxnId.{TxnId}
use Rattle.cl_types.specs.Places.{Place}
use Rattle.cl_wire.specs.Message.{Content, Ask, Answer, Outcome}
use Rattle.cl_causes.proofs.Sessions.{Line, Begins, lines_of, works, works_begin}

-- the lines of a transaction
abbrev pub lines_in : List TranscriptEntry → TxnId → List Line
lines_in transcript name = lines_of (commands_of transcript name)

-- a transcript has become longer: the lines of each transaction stay, and its answered commands
pub record Grows (old new : List TranscriptEntry) : Type 0 where
  pub more : List TranscriptEntry
  pub is : new ≡ old ++ more
  pub lines : (name : TxnId) → IsOfSession name → Begins (lines_in new name) (lines_in old name)
  pub kept : (name : TxnId) → IsOfSession name → (e : Exchange) (answered : _) → IsIn (commands_of old name) e → e.answer ≡ Some answered → IsIn (commands_of new name) e

-- ---- the claims

-- the operation of this index of the transaction is this one
pub record IsAskedAt (transcript : List TranscriptEntry) (name : TxnId) (index : ℕ) (table key : List ℕ) (op : Op) : Type 0 where
  pub session : IsOfSession name
  pub line : ℕ
  pub stands : StandsAt (works (lines_in transcript name)) index (Work table key op, line)
  pub below : line < length transcript

-- the transaction had ended as the transcript showed at a quiet moment before this position
pub record EndedQuietly (transcript : List TranscriptEntry) (name : TxnId) (position : ℕ) : Type 0 where
  pub at : ℕ
  pub before : at < position
  pub is_quiet : StandsAt transcript at quiet
  pub past : name.number ≤ length (told_session name.session (take at transcript)).ended

-- another transaction was fed an operation on this place before this position that conflicts with this one
pub record AsksBefore (transcript : List TranscriptEntry) (holder : TxnId) (table key : List ℕ) (op : Op) (position : ℕ) : Type 0 where
  pub session : IsOfSession holder
  pub other : Op
  pub line : ℕ
  pub asks : IsIn (lines_in transcript holder) (Work table key other, line)
  pub conflicts : Conflicts op other
  pub earlier : line < position

-- the operation of this index was refused by another transaction
pub record IsRefused (Held : TxnId → TxnId → Place → Op → ℕ → Type 0) (transcript : List TranscriptEntry) (name holder : TxnId) (index : ℕ) : Type 0 where
  pub another : holder ≢ name
  pub table : List ℕ
  pub key : List ℕ
  pub op : Op
  pub asked : IsAskedAt transcript name index table key op
  pub held : Held name holder (table, key) op asked.line
  pub asks : AsksBefore transcript holder table key op (length transcript)
  pub unended : EndedQuietly transcript holder asked.line → ⊥

-- what the one says of locks the other says too
abbrev pub StayHeld : (TxnId → TxnId → Place → Op → ℕ → Type 0) → (TxnId → TxnId → Place → Op → ℕ → Type 0) → Type 0
StayHeld Held Kept = (name holder : TxnId) (place : Place) (op : Op) (line : ℕ) → Held name holder place op line → Kept name holder place op line

-- so it is at each position
abbrev pub StayHeldAt : (TxnId → TxnId → Place → Op → ℕ → ℕ → Type 0) → (TxnId → TxnId → Place → Op → ℕ → ℕ → Type 0) → Type 0
StayHeldAt Held Kept = (name holder : TxnId) (place : Place) (op : Op) (line position : ℕ) → Held name holder place op line position → Kept name holder place op line position

-- a message says what is so
abbrev pub Says : (TxnId → Type 0) → (TxnId → TxnId → Place → Op → ℕ → Type 0) → List TranscriptEntry → Content → Type 0
Says Short Held transcript (Ask v txn number table key op) = IsAskedAt transcript txn (number - 1) table key op
Says Short Held transcript (Answer v txn number (answer.Refused holder)) = IsRefused Held transcript txn holder (number - 1)
Says Short Held transcript (Answer v txn number answer.NoMemory) = Short txn
Says Short Held transcript (Outcome txn number (Aborted (Conflict holder))) = IsRefused Held transcript txn holder (number - 1)
Says Short Held transcript (Outcome txn number (Aborted Memory)) = Short txn
Says Short Held transcript content = Unit {0}

-- a reply names a true cause: the exchange was refused
pub record IsRefusedReply (Held : TxnId → TxnId → Place → Op → ℕ → ℕ → Type 0) (transcript : List TranscriptEntry) (name holder : TxnId) (asked : Exchange) (position : ℕ) : Type 0 where
  pub another : holder ≢ name
  pub table : List ℕ
  pub key : List ℕ
  pub op : Op
  pub operates : asked.command ≡ Work table key op
  pub held : Held name holder (table, key) op asked.line position
  pub within : asked.line ≤ length transcript
  pub asks : AsksBefore transcript holder table key op position
  pub unended : EndedQuietly transcript holder asked.line → ⊥

-- a reply names a true cause
abbrev pub IsCause : (TxnId → ℕ → Type 0) → (TxnId → TxnId → Place → Op → ℕ → ℕ → Type 0) → List TranscriptEntry → TxnId → Exchange → ℕ → AbortCause → Type 0
IsCause Short Held transcript name asked position (Conflict holder) = IsRefusedReply Held transcript name holder asked position
IsCause Short Held transcript name asked position (Node node) = ⊥
IsCause Short Held transcript name asked position Client = asked.command ≡ Abort
IsCause Short Held transcript name asked position Memory = IsOperation asked.command × Short name position

-- a reply of this session has its exchange, and its cause
pub record IsCaused (Short : TxnId → ℕ → Type 0) (Held : TxnId → TxnId → Place → Op → ℕ → ℕ → Type 0) (transcript : List TranscriptEntry) (session position : ℕ) (cause : AbortCause) : Type 0 where
  pub number : ℕ
  pub asked : Exchange
  pub of : IsOfSession (record { session = session; number = number })
  pub is_in : IsIn (commands_of transcript (record { session = session; number = number })) asked
  pub answered : asked.answer ≡ Some (Aborted cause, position)
  pub caused : IsCause Short Held transcript (record { session = session; number = number }) asked position cause

-- each reply of a transcript has
abbrev pub AreCaused : (TxnId → ℕ → Type 0) → (TxnId → TxnId → Place → Op → ℕ → ℕ → Type 0) → List TranscriptEntry → Type 0
AreCaused Short Held transcript = (session position : ℕ) (cause : AbortCause) → StandsAt transcript position (written (out.Answer session (Aborted cause))) → IsCaused Short Held transcript session position cause

-- ---- a longer list

pub StandsAt-before : {X : Type 0} (xs ys : List X) (i : ℕ) (x : X) → i < length xs → StandsAt (xs ++ ys) i x → StandsAt xs i x
StandsAt-before [] ys i x below h = absurd (omega (arith, below))
StandsAt-before (y ∷ xs) ys zero x below h = h
StandsAt-before (y ∷ xs) ys (suc i) x below h = StandsAt-before xs ys i x (omega (arith, below)) h

pub take-before : {X : Type 0} (xs ys : List X) (i : ℕ) → i ≤ length xs → take i (xs ++ ys) ≡ take i xs
take-before xs ys zero below = refl
take-before [] ys (suc i) below = absurd (omega (arith, below))
take-before (x ∷ xs) ys (suc i) below = ap (λ list. x ∷ list) (take-before xs ys i (omega (arith, below)))

begins_at : {X : Type 0} (old new : List X) (i : ℕ) (x : X) → Begins new old → StandsAt old i x → StandsAt new i x
begins_at old new i x begins h = subst (λ list. StandsAt list i x) (sym begins.is) (StandsAt-append_left old begins.rest i x h)

-- ---- the claims stay

module _ (old new : List TranscriptEntry) (grows : Grows old new) where
  pub longer : length old ≤ length new
  longer = let is = ap length grows.is in let sum = length-append old grows.more in omega (arith, is, sum)

  asked_stays : (name : TxnId) (index : ℕ) (table key : List ℕ) (op : Op) → IsAskedAt old name index table key op → IsAskedAt new name index table key op
  asked_stays name index table key op h = record {
    session = h.session;
    line = h.line;
    stands = begins_at _ _ index (Work table key op, h.line) (works_begin _ _ (grows.lines name h.session)) h.stands;
    below = let l = longer in let b = h.below in omega (arith, l, b);
  }

  pub ended_before : (name : TxnId) (position : ℕ) → position ≤ length old → EndedQuietly new name position → EndedQuietly old name position
  ended_before name position within h = record {
    at = h.at;
    before = h.before;
    is_quiet = StandsAt-before old grows.more h.at quiet (let b = h.before in omega (arith, b, within)) (subst (λ list. StandsAt list h.at quiet) grows.is h.is_quiet);
    past = subst (λ list. name.number ≤ length (told_session name.session list).ended)
        (ap (take h.at) grows.is ∙ take-before old grows.more h.at (let b = h.before in omega (arith, b, within))) h.past;
  }

  pub asks_stay : (holder : TxnId) (table key : List ℕ) (op : Op) (position more : ℕ) → position ≤ more → AsksBefore old holder table key op position →
      AsksBefore new holder table key op more
  asks_stay holder table key op position more far h = record {
    session = h.session;
    other = h.other;
    line = h.line;
    asks = (h.asks.0, begins_at _ _ h.asks.0 (Work table key h.other, h.line) (grows.lines holder h.session) h.asks.1);
    conflicts = h.conflicts;
    earlier = let e = h.earlier in omega (arith, e, far);
  }

  refused_stays : (Held Kept : TxnId → TxnId → Place → Op → ℕ → Type 0) → StayHeld Held Kept → (name holder : TxnId) (index : ℕ) → IsRefused Held old name holder index →
      IsRefused Kept new name holder index
  unfolding asked_stays
  refused_stays Held Kept kept name holder index h = record {
    another = h.another;
    table = h.table;
    key = h.key;
    op = h.op;
    asked = asked_stays name index h.table h.key h.op h.asked;
    held = kept name holder (h.table, h.key) h.op h.asked.line h.held;
    asks = asks_stay holder h.table h.key h.op (length old) (length new) longer h.asks;
    unended = λ ended. h.unended (ended_before holder h.asked.line (let b = h.asked.below in omega (arith, b)) ended);
  }

  pub says_stay : (Short More : TxnId → Type 0) → ((name : TxnId) → Short name → More name) → (Held Kept : TxnId → TxnId → Place → Op → ℕ → Type 0) → StayHeld Held Kept →
      (content : Content) → Says Short Held old content → Says More Kept new content
  says_stay Short More short Held Kept kept (Ask v txn number table key op) h = asked_stays txn (number - 1) table key op h
  says_stay Short More short Held Kept kept (Answer v txn number (answer.Refused holder)) h = refused_stays Held Kept kept txn holder (number - 1) h
  says_stay Short More short Held Kept kept (Answer v txn number answer.NoMemory) h = short txn h
  says_stay Short More short Held Kept kept (Answer v txn number (answer.Done reply)) h = tt
  says_stay Short More short Held Kept kept (Outcome txn number (Aborted (Conflict holder))) h = refused_stays Held Kept kept txn holder (number - 1) h
  says_stay Short More short Held Kept kept (Outcome txn number (Aborted Memory)) h = short txn h
  says_stay Short More short Held Kept kept content h = tt

  cause_stays : (Short More : TxnId → ℕ → Type 0) → ((name : TxnId) (position : ℕ) → Short name position → More name position) →
      (Held Kept : TxnId → TxnId → Place → Op → ℕ → ℕ → Type 0) → StayHeldAt Held Kept → (name : TxnId) (asked : Exchange) (position : ℕ) (cause : AbortCause) →
      IsCause Short Held old name asked position cause → IsCause More Kept new name asked position cause
  cause_stays Short More short Held Kept kept name asked position (Conflict holder) h = record {
    another = h.another;
    table = h.table;
    key = h.key;
    op = h.op;
    operates = h.operates;
    held = kept name holder (h.table, h.key) h.op asked.line position h.held;
    within = let l = longer in let w = h.within in omega (arith, l, w);
    asks = asks_stay holder h.table h.key h.op position position (omega arith) h.asks;
    unended = λ ended. h.unended (ended_before holder asked.line h.within ended);
  }
  cause_stays Short More short Held Kept kept name asked position (Node node) h = h
  cause_stays Short More short Held Kept kept name asked position Client h = h
  cause_stays Short More short Held Kept kept name asked position Memory h = (h.0, short name position h.1)

  pub caused_stays : (Short More : TxnId → ℕ → Type 0) → ((name : TxnId) (position : ℕ) → Short name position → More name position) →
      (Held Kept : TxnId → TxnId → Place → Op → ℕ → ℕ → Type 0) → StayHeldAt Held Kept → (session position : ℕ) (cause : AbortCause) →
      IsCaused Short Held old session position cause → IsCaused More Kept new session position cause
  caused_stays Short More short Held Kept kept session position cause h =
      let name : TxnId = record { session = session; number = h.number } in
      record {
        number = h.number;
        asked = h.asked;
        of = h.of;
        is_in = grows.kept name h.of h.asked (Aborted cause, position) h.is_in h.answered;
        answered = h.answered;
        caused = cause_stays Short More short Held Kept kept name h.asked position cause h.caused;
      }
