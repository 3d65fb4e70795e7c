-- The spelling of a line.
use Rattle.std.proofs.Common.{◌≡◌, ℕ, ◌≤◌, ◌&&◌, ◌^◌, inl, inr, Bool, true, false, not, cond, ltb, nat_le, List, [], ◌∷◌, length, codes, All, Option, Some, None, Result, Ok, Err, ℤ, pos, refl, sym, ap, ◌∙◌, arith}
use Rattle.std.specs.List.{list_all, list_any, join_with_byte, AllByRecursion}
use Rattle.std.proofs.lemmas.List.Splits.{slice_split_at, slice_split_none, join_with_byte-slice_split}
use Rattle.cl_types.specs.declared.operations.Command.{Command}
use Rattle.cl_types.specs.declared.operations.Command.TheVariants.{Begin, Work, Commit, Abort}
use Rattle.cl_types.specs.declared.operations.Op.TheVariants.{Get, Put, Del, Add}
use Rattle.std.specs.Char.{is_ascii_lowercase, is_ascii_graphic}
use Rattle.std.specs.Str.{bytes_eq}
use Rattle.std.specs.Fmt.{decimal, signed_decimal}
use Rattle.std.proofs.lemmas.Bool.{cases_Bool, lt-ltb, le-ltb, ne_eqb, le-leb, leb-true}
use Rattle.cl_types.specs.declared.limits.TheConstants.{SESSIONS_MAX}
use Rattle.cl_types.specs.declared.names.TheConstants.{TABLE_NAME_MAX, KEY_MAX}
use Rattle.cl_types.specs.declared.value.TheConstants.{VALUE_MAX}
use Rattle.cl_types.specs.Names.{is_between, is_table_name, is_key, is_key_byte, is_value}
use Rattle.cl_types.specs.Decimal.{natural_64, natural, in_unsigned_64, is_signed_64}
use Rattle.cl_types.proofs.DecimalLaws.{natural_64-decimal, natural_64-text, is_value-signed_decimal}
use Rattle.cl_lines.specs.declared.line.TheConstants.{LINE_MAX}
use Rattle.cl_lines.specs.declared.line.Line.{Line}
use Rattle.cl_lines.specs.declared.line.Line.TheVariants.{Client, Operator}
use Rattle.cl_lines.specs.declared.line.Order.{Order}
use Rattle.cl_lines.specs.declared.line.Order.TheVariants.{Quiet}
use Rattle.cl_lines.specs.declared.line.LineFault.{LineFault}
use Rattle.cl_lines.specs.declared.line.LineFault.TheVariants.{Length, Words, Session}
use Rattle.cl_lines.specs.Line.{session_numbered, session_of, command_of, in_session, quiet_line, line_of_words, line_of}
use Rattle.cl_lines.specs.Words.{words, is_empty}
use Rattle.cl_lines.specs.Spelling.{command_words, spelling, order_spelling}
use Rattle.cl_lines.specs.Laws.{IsAskable, Spells}
use Rattle.cl_lines.proofs.Cuts.{is_blank}
use Rattle.cl_lines.proofs.Forms.{word_is, forms_from_reading, reading_from_askable}
use Rattle.cl_lines.proofs.Lengths.{spelling_within}
use Rattle.cl_lines.proofs.Bytes.{both, All-from_list_all, not_equal}

-- no byte of the word is a blank
abbrev pub HasNoBlank : List ℕ → Type 0
HasNoBlank word = All (λ byte. is_blank byte ≡ false) word

-- a word as a line has it
record IsWord (word : List ℕ) : Type 0 where
  no_blank : HasNoBlank word
  some : is_empty word ≡ false

-- words without blanks, joined by blanks, are cut into the same words
words-join : (first : List ℕ) (others : List (List ℕ)) → AllByRecursion IsWord (first ∷ others) → words (join_with_byte 32 (first ∷ others)) ≡ first ∷ others
unfolding words
words-join first [] clean = slice_split_none is_blank first clean.0.no_blank
words-join first (second ∷ others) clean =
    slice_split_at is_blank first 32 (join_with_byte 32 (second ∷ others)) clean.0.no_blank refl ∙ ap (λ (rest : List (List ℕ)). first ∷ rest) (words-join second others clean.1)

-- the words of a line, joined by blanks, are the line
pub join-words : (line : List ℕ) → join_with_byte 32 (words line) ≡ line
unfolding words
join-words line = join_with_byte-slice_split 32 line

-- none of them is empty
none_empty : (ws : List (List ℕ)) → AllByRecursion IsWord ws → list_any is_empty ws ≡ false
none_empty [] clean = refl
none_empty (word ∷ ws) clean = rw clean.0.some (none_empty ws clean.1)

by_test : (test : ℕ → Bool) → test 32 ≡ false → (word : List ℕ) → list_all test word ≡ true → HasNoBlank word
by_test test fails word passed = All-from_list_all test (λ byte. is_blank byte ≡ false) (not_equal test 32 fails) word passed

plain : (word : List ℕ) → list_all (λ byte. not (is_blank byte)) word ≡ true → is_empty word ≡ false → IsWord word
plain word passed some = record { no_blank = by_test (λ byte. not (is_blank byte)) refl word passed; some = some }

-- a word of 1 byte or more, of which each passes a test that a blank fails
lawful_clean : (test : ℕ → Bool) (most : ℕ) → test 32 ≡ false → (word : List ℕ) → (is_between 1 most (length word) && list_all test word) ≡ true → IsWord word
lawful_clean test most fails word lawful =
    let parts = both (is_between 1 most (length word)) (list_all test word) lawful in
    let some : 1 ≤ length word = leb-true 1 (length word) (both (nat_le 1 (length word)) (nat_le (length word) most) parts.0).0 in
    record { no_blank = by_test test fails word parts.1; some = ne_eqb (length word) 0 (λ none. omega arith) }

table_clean : (table : List ℕ) → is_table_name table ≡ true → IsWord table
table_clean = lawful_clean is_ascii_lowercase TABLE_NAME_MAX refl

key_clean : (key : List ℕ) → is_key key ≡ true → IsWord key
key_clean = lawful_clean is_key_byte KEY_MAX refl

value_clean : (value : List ℕ) → is_value value ≡ true → IsWord value
value_clean = lawful_clean is_ascii_graphic VALUE_MAX refl

-- an amount is written as a value may be
amount_clean : (amount : ℤ) → is_signed_64 amount ≡ true → IsWord (signed_decimal amount)
amount_clean amount lawful = value_clean (signed_decimal amount) (is_value-signed_decimal amount lawful)

-- so is the number of a session
session_clean : (session : ℕ) → session ≤ SESSIONS_MAX → IsWord (decimal session)
session_clean session within = amount_clean (pos session) (lt-ltb session (2 ^ 63) (omega arith))

-- the words of an askable command can stand in a line
words_clean : (command : Command) → IsAskable command → AllByRecursion IsWord (command_words command)
words_clean Begin h = (plain (codes "BEGIN") refl refl, tt)
words_clean (Work table key Get) h = (plain (codes "GET") refl refl, (table_clean table h.0, (key_clean key h.1, tt)))
words_clean (Work table key (Put value)) h =
    (plain (codes "PUT") refl refl, (table_clean table h.0, (key_clean key h.1, (value_clean value h.2, tt))))
words_clean (Work table key Del) h = (plain (codes "DEL") refl refl, (table_clean table h.0, (key_clean key h.1, tt)))
words_clean (Work table key (Add amount)) h =
    (plain (codes "ADD") refl refl, (table_clean table h.0, (key_clean key h.1, (amount_clean amount h.2, tt))))
words_clean Commit h = (plain (codes "COMMIT") refl refl, tt)
words_clean Abort h = (plain (codes "ABORT") refl refl, tt)

-- a reading of words as a client line has its two parts
record Parts (session : Result ℕ LineFault) (asked : Option (Result Command LineFault)) (number : ℕ) (command : Command) : Type 0 where
  session_is : session ≡ Ok number
  command_is : asked ≡ Some (Ok command)

parts_from_line : (session : Result ℕ LineFault) (asked : Option (Result Command LineFault)) (number : ℕ) (command : Command) → in_session session asked ≡ Ok (Client number command) → Parts session asked number command
parts_from_line (Ok n) (Some (Ok c)) number command e = record { session_is = cc; command_is = cc }
parts_from_line (Ok n) (Some (Err f)) number command e = absurd cc
parts_from_line (Err f) (Some c) number command e = absurd cc
parts_from_line session None number command e = absurd cc

-- a line without a fault does not have this one
passes : (b : Bool) (fault : LineFault) (reading : Result Line LineFault) (line : Line) → cond b (Err fault) reading ≡ Ok line → (b ≡ false) × (reading ≡ Ok line)
passes true fault reading line e = absurd cc
passes false fault reading line e = (refl, e)

-- a word that is read as a session is its number
record IsSession (word : List ℕ) (session : ℕ) : Type 0 where
  from : 1 ≤ session
  to : session ≤ SESSIONS_MAX
  word_is : word ≡ decimal session

in_range : (b : Bool) (n session : ℕ) → cond b (Ok n) (Err Session) ≡ Ok session → (b ≡ true) × (n ≡ session)
in_range true n session e = (refl, cc)
in_range false n session e = absurd cc

numbered : (found : Option ℕ) (session : ℕ) → session_numbered found ≡ Ok session → (found ≡ Some session) × (is_between 1 SESSIONS_MAX session ≡ true)
numbered None session e = absurd cc
numbered (Some n) session e =
    let in_them = in_range (is_between 1 SESSIONS_MAX n) n session e in
    (ap (λ (x : ℕ). Some x) in_them.1, ap (λ (x : ℕ). is_between 1 SESSIONS_MAX x) (sym in_them.1) ∙ in_them.0)

session_read : (word : List ℕ) (session : ℕ) → session_of word ≡ Ok session → IsSession word session
session_read word session e =
    let found = numbered (natural_64 word) session e in
    let range = both (nat_le 1 session) (nat_le session SESSIONS_MAX) found.1 in
    record { from = leb-true 1 session range.0; to = leb-true session SESSIONS_MAX range.1; word_is = (natural_64-text word session found.0).0 }

-- the number of a session is read as it
session_written : (session : ℕ) → 1 ≤ session → session ≤ SESSIONS_MAX → session_of (decimal session) ≡ Ok session
session_written session from to =
    rw (natural_64-decimal session (omega arith), le-leb 1 session from, le-leb session SESSIONS_MAX to) refl

-- QUIET is the number of no session
not_quiet : (session : ℕ) → 1 ≤ session → session ≤ SESSIONS_MAX → bytes_eq (decimal session) (codes "QUIET") ≡ false
unfolding natural_64 natural in_unsigned_64
not_quiet session from to = elim (cases_Bool (bytes_eq (decimal session) (codes "QUIET"))) [
  | inl same ↦
      (let read : session_of (codes "QUIET") ≡ Ok session = ap session_of (sym (word_is (decimal session) (codes "QUIET") same)) ∙ session_written session from to in
      absurd cc)
  | inr other ↦ other
]

-- a client line does not begin with QUIET
not_order : (b : Bool) (others : List (List ℕ)) (reading : Result Line LineFault) (session : ℕ) (command : Command) → cond b (quiet_line others) reading ≡ Ok (Client session command) → (b ≡ false) × (reading ≡ Ok (Client session command))
not_order true [] reading session command e = absurd cc
not_order true (word ∷ others) reading session command e = absurd cc
not_order false others reading session command e = (refl, e)

spells_from_words : (bytes : List ℕ) (ws : List (List ℕ)) (session : ℕ) (command : Command) → words bytes ≡ ws → line_of_words ws ≡ Ok (Client session command) → Spells bytes session command
unfolding spelling
spells_from_words bytes [] session command cut e = absurd cc
spells_from_words bytes (first ∷ others) session command cut e =
    let parts = parts_from_line (session_of first) (command_of others) session command (not_order (bytes_eq first (codes "QUIET")) others _ session command e).1 in
    let numbered = session_read first session parts.session_is in
    let forms = forms_from_reading others command parts.command_is in
    let all_words : words bytes ≡ decimal session ∷ command_words command =
    cut ∙ ap (λ (word : List ℕ). word ∷ others) numbered.word_is ∙ ap (λ (rest : List (List ℕ)). decimal session ∷ rest) forms.words_are in
    let spelled : bytes ≡ spelling session command =
    sym (join-words bytes) ∙ ap (λ (ws : List (List ℕ)). join_with_byte 32 ws) all_words in
    record { session_from = numbered.from; session_to = numbered.to; askable = forms.askable; bytes_are = spelled }

-- what is read as a command is its spelling
pub spells_from_line : (bytes : List ℕ) (session : ℕ) (command : Command) → line_of bytes ≡ Ok (Client session command) → Spells bytes session command
unfolding line_of
spells_from_line bytes session command e =
    let fits = passes (ltb LINE_MAX (length bytes)) Length _ (Client session command) e in
    let full = passes (list_any is_empty (words bytes)) Words (line_of_words (words bytes)) (Client session command) fits.1 in
    spells_from_words bytes (words bytes) session command refl full.1

-- the spelling of a command is read as it
pub line_from_spells : (bytes : List ℕ) (session : ℕ) (command : Command) → Spells bytes session command → line_of bytes ≡ Ok (Client session command)
unfolding line_of spelling
line_from_spells bytes session command h =
    let clean : AllByRecursion IsWord (decimal session ∷ command_words command) =
    (session_clean session h.session_to, words_clean command h.askable) in
    let short : ltb LINE_MAX (length bytes) ≡ false =
    ap (λ (line : List ℕ). ltb LINE_MAX (length line)) h.bytes_are ∙ le-ltb _ _ (spelling_within session command h.session_to h.askable) in
    let cut : words bytes ≡ decimal session ∷ command_words command =
    ap words h.bytes_are ∙ words-join (decimal session) (command_words command) clean in
    rw (short, cut, none_empty (decimal session ∷ command_words command) clean, not_quiet session h.session_from h.session_to, reading_from_askable command h.askable, session_written session h.session_from h.session_to) refl

-- ---- the lines of operators

-- an operator's line is of no session
not_client : (session : Result ℕ LineFault) (asked : Option (Result Command LineFault)) (order : Order) → in_session session asked ≡ Ok (Operator order) → ⊥
not_client (Ok n) (Some (Ok c)) order e = absurd cc
not_client (Ok n) (Some (Err f)) order e = absurd cc
not_client (Err f) (Some c) order e = absurd cc
not_client session None order e = absurd cc

-- a reading of words as an order: they are QUIET alone
record IsQuiet (is_quiet : Bool) (others : List (List ℕ)) (order : Order) : Type 0 where
  first : is_quiet ≡ true
  alone : others ≡ []
  order_is : Quiet ≡ order

quiet_read : (b : Bool) (others : List (List ℕ)) (session : Result ℕ LineFault) (asked : Option (Result Command LineFault)) (order : Order) →
    cond b (quiet_line others) (in_session session asked) ≡ Ok (Operator order) → IsQuiet b others order
quiet_read true [] session asked order e = record { first = refl; alone = refl; order_is = cc }
quiet_read true (word ∷ others) session asked order e = absurd cc
quiet_read false others session asked order e = absurd (not_client session asked order e)

order_from_words : (bytes : List ℕ) (ws : List (List ℕ)) (order : Order) → words bytes ≡ ws → line_of_words ws ≡ Ok (Operator order) → bytes ≡ order_spelling order
order_from_words bytes [] order cut e = absurd cc
order_from_words bytes (first ∷ others) order cut e =
    let quiet = quiet_read (bytes_eq first (codes "QUIET")) others (session_of first) (command_of others) order e in
    let all_words : words bytes ≡ codes "QUIET" ∷ [] =
    cut ∙ ap (λ (word : List ℕ). word ∷ others) (word_is first (codes "QUIET") quiet.first) ∙ ap (λ (rest : List (List ℕ)). codes "QUIET" ∷ rest) quiet.alone in
    sym (join-words bytes) ∙ ap (λ (ws : List (List ℕ)). join_with_byte 32 ws) all_words ∙ ap order_spelling quiet.order_is

-- what is read as an order is its spelling
pub order_from_line : (bytes : List ℕ) (order : Order) → line_of bytes ≡ Ok (Operator order) → bytes ≡ order_spelling order
unfolding line_of
order_from_line bytes order e =
    let fits = passes (ltb LINE_MAX (length bytes)) Length _ (Operator order) e in
    let full = passes (list_any is_empty (words bytes)) Words (line_of_words (words bytes)) (Operator order) fits.1 in
    order_from_words bytes (words bytes) order refl full.1

-- the spelling of an order is read as it
read_alone : (order : Order) → line_of (order_spelling order) ≡ Ok (Operator order)
unfolding line_of words
read_alone Quiet = refl

pub line_from_order : (bytes : List ℕ) (order : Order) → bytes ≡ order_spelling order → line_of bytes ≡ Ok (Operator order)
line_from_order bytes order spelled = ap line_of spelled ∙ read_alone order
