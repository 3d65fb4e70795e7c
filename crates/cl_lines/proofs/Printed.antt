-- What is printed has one newline, at its end.
use Rattle.std.proofs.Common.{◌≡◌, ◌≢◌, ℕ, zero, suc, ◌+◌, ◌/◌, ◌%◌, Bool, true, false, not, ◌==◌, cond, ltb, List, [], ◌∷◌, ◌++◌, length, codes, All, ℤ, pos, negsuc, refl, arith}
use Rattle.std.specs.Char.{is_ascii_graphic}
use Rattle.std.specs.Fmt.{decimal, signed_decimal, digits, digits_onto, digit_glyph}
use Rattle.std.specs.List.{list_all}
use Rattle.std.proofs.lemmas.List.Elements.{All-nil, All-cons, All-append}
use Rattle.cl_types.specs.declared.answers.Reply.{Reply}
use Rattle.cl_types.specs.declared.answers.Reply.TheVariants.{Stored, Found, Absent, Sum, NotNumber, OutOfRange}
use Rattle.cl_types.specs.declared.answers.AbortCause.{AbortCause}
use Rattle.cl_types.specs.declared.answers.AbortCause.TheVariants.{Conflict, Node, Client, Memory}
use Rattle.cl_types.specs.declared.answers.Outcome.{Outcome}
use Rattle.cl_types.specs.declared.answers.Outcome.TheVariants.{Done, Begun, Committed, Aborted, NotTxn, InTxn, Full}
use Rattle.cl_types.specs.Names.{is_between, is_value}
use Rattle.cl_lines.specs.declared.line.LineFault.{LineFault}
use Rattle.cl_lines.specs.declared.line.LineFault.TheVariants.{Length, Words, Session, Table, Key, Value, Number}
use Rattle.cl_lines.specs.declared.out.Out.{Out}
use Rattle.cl_lines.specs.declared.out.Out.TheVariants.{Answer, BadLine}
use Rattle.cl_lines.specs.Out.{txn_text, reply_text, cause_text, outcome_text, fault_text, printed, text_of}
use Rattle.cl_lines.specs.Laws.{IsOneLine, ShowsLawfulValue}
use Rattle.cl_lines.proofs.Bytes.{both, All-from_list_all, differs}

abbrev HasNoNewline : List ℕ → Type 0
HasNoNewline text = All (λ byte. byte ≢ 10) text

by_test : (test : ℕ → Bool) → test 10 ≡ false → (text : List ℕ) → list_all test text ≡ true → HasNoNewline text
by_test test fails text passed = All-from_list_all test (λ byte. byte ≢ 10) (differs test 10 fails) text passed

plain : (text : List ℕ) → list_all (λ byte. not (byte == 10)) text ≡ true → HasNoNewline text
plain = by_test (λ byte. not (byte == 10)) refl

joined : (front back : List ℕ) → HasNoNewline front → HasNoNewline back → HasNoNewline (front ++ back)
joined front back = All-append (λ byte. byte ≢ 10) front back

glyph_clean : (d : ℕ) → digit_glyph false d ≢ 10
glyph_clean d = by_case (ltb d 10) where
  by_case : (small : Bool) → cond small (48 + d) (87 + d) ≢ 10
  by_case true e = absurd (omega arith)
  by_case false e = absurd (omega arith)

one_of : (first : Bool) (xs ys : List ℕ) → HasNoNewline xs → HasNoNewline ys → HasNoNewline (cond first xs ys)
one_of true xs ys one other = one
one_of false xs ys one other = other

digits_clean : (k n : ℕ) (acc : List ℕ) → HasNoNewline acc → HasNoNewline (digits_onto k 10 false n acc)
digits_clean zero n acc clean = clean
digits_clean (suc k) n acc clean =
    let more : HasNoNewline (digit_glyph false (n % 10) ∷ acc) = All-cons (λ byte. byte ≢ 10) (digit_glyph false (n % 10)) acc (glyph_clean (n % 10)) clean in
    one_of (n / 10 == 0) (digit_glyph false (n % 10) ∷ acc) (digits_onto k 10 false (n / 10) (digit_glyph false (n % 10) ∷ acc)) more
    (digits_clean k (n / 10) (digit_glyph false (n % 10) ∷ acc) more)

-- a number is printed without a newline
pub decimal_clean : (n : ℕ) → HasNoNewline (decimal n)
unfolding digits
decimal_clean n = digits_clean 64 n [] (All-nil (λ byte. byte ≢ 10))

signed_clean : (z : ℤ) → HasNoNewline (signed_decimal z)
signed_clean (pos n) = decimal_clean n
signed_clean (negsuc n) = joined (codes "-") (decimal (suc n)) (plain (codes "-") refl) (decimal_clean (suc n))

value_clean : (value : List ℕ) → is_value value ≡ true → HasNoNewline value
value_clean value lawful =
    by_test is_ascii_graphic refl value (both (is_between 1 128 (length value)) (list_all is_ascii_graphic value) lawful).1

cause_clean : (cause : AbortCause) → HasNoNewline (cause_text cause)
cause_clean (Conflict holder) = joined (codes "CONFLICT ") (txn_text holder) (plain (codes "CONFLICT ") refl)
    (joined (decimal holder.session ++ codes ".") (decimal holder.number)
    (joined (decimal holder.session) (codes ".") (decimal_clean holder.session) (plain (codes ".") refl)) (decimal_clean holder.number))
cause_clean (Node node) = joined (codes "NODE ") (decimal node) (plain (codes "NODE ") refl) (decimal_clean node)
cause_clean Client = plain (codes "CLIENT") refl
cause_clean Memory = plain (codes "MEMORY") refl

reply_clean : (session : ℕ) (reply : Reply) → ShowsLawfulValue (Answer session (Done reply)) → HasNoNewline (reply_text reply)
reply_clean session Stored h = plain (codes "OK") refl
reply_clean session (Found value) h = joined (codes "VAL ") value (plain (codes "VAL ") refl) (value_clean value h)
reply_clean session Absent h = plain (codes "NONE") refl
reply_clean session (Sum sum) h = joined (codes "NUM ") (signed_decimal sum) (plain (codes "NUM ") refl) (signed_clean sum)
reply_clean session NotNumber h = plain (codes "ERR NOTNUM") refl
reply_clean session OutOfRange h = plain (codes "ERR RANGE") refl

outcome_clean : (session : ℕ) (outcome : Outcome) → ShowsLawfulValue (Answer session outcome) → HasNoNewline (outcome_text outcome)
outcome_clean session (Done reply) h = reply_clean session reply h
outcome_clean session Begun h = plain (codes "OK") refl
outcome_clean session Committed h = plain (codes "COMMITTED") refl
outcome_clean session (Aborted cause) h = joined (codes "ABORTED ") (cause_text cause) (plain (codes "ABORTED ") refl) (cause_clean cause)
outcome_clean session NotTxn h = plain (codes "ERR NOTXN") refl
outcome_clean session InTxn h = plain (codes "ERR INTXN") refl
outcome_clean session Full h = plain (codes "ERR FULL") refl

fault_clean : (fault : LineFault) → HasNoNewline (fault_text fault)
fault_clean Length = plain (codes "LENGTH") refl
fault_clean Words = plain (codes "WORDS") refl
fault_clean Session = plain (codes "SESSION") refl
fault_clean Table = plain (codes "TABLE") refl
fault_clean Key = plain (codes "KEY") refl
fault_clean Value = plain (codes "VALUE") refl
fault_clean Number = plain (codes "NUMBER") refl

-- what stands before the newline has none
pub printed_clean : (out : Out) → ShowsLawfulValue out → HasNoNewline (printed out)
printed_clean (Answer session outcome) h = joined (decimal session ++ codes " ") (outcome_text outcome)
    (joined (decimal session) (codes " ") (decimal_clean session) (plain (codes " ") refl)) (outcome_clean session outcome h)
printed_clean (BadLine line fault) h = joined (codes "* ERR LINE " ++ decimal line ++ codes " ") (fault_text fault)
    (joined (codes "* ERR LINE " ++ decimal line) (codes " ")
    (joined (codes "* ERR LINE ") (decimal line) (plain (codes "* ERR LINE ") refl) (decimal_clean line)) (plain (codes " ") refl))
    (fault_clean fault)

-- what is printed is one line
pub one_line : (out : Out) → ShowsLawfulValue out → IsOneLine (text_of out)
unfolding text_of
one_line out h = record { line = printed out; text_is = refl; no_newline = printed_clean out h }
