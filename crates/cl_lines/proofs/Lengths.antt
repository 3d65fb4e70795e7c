-- The line of each command is short enough to be read.
use Rattle.std.proofs.Common.{◌≡◌, ℕ, ◌+◌, ◌≤◌, true, ◌&&◌, nat_le, Bool, List, [], ◌∷◌, length, arith}
use Rattle.std.specs.Fmt.{decimal, signed_decimal}
use Rattle.std.specs.List.{list_all, join_with_byte}
use Rattle.std.specs.Char.{is_ascii_lowercase, is_ascii_graphic}
use Rattle.std.proofs.lemmas.Bool.{leb-true}
use Rattle.std.proofs.lemmas.Fmt.{length-decimal-le}
use Rattle.std.proofs.lemmas.Grind.{common_steps}
use Rattle.cl_types.specs.declared.limits.TheConstants.{SESSIONS_MAX}
use Rattle.cl_types.specs.declared.names.TheConstants.{TABLE_NAME_MAX, KEY_MAX}
use Rattle.cl_types.specs.declared.value.TheConstants.{VALUE_MAX}
use Rattle.cl_types.specs.declared.operations.Command.{Command}
use Rattle.cl_types.specs.declared.operations.Command.TheVariants.{Begin, Work, Commit, Abort}
use Rattle.cl_types.specs.declared.operations.Op.TheVariants.{Get, Put, Del, Add}
use Rattle.cl_types.specs.Names.{is_between, is_table_name, is_key, is_key_byte, is_value}
use Rattle.cl_types.proofs.DecimalLaws.{is_value-signed_decimal}
use Rattle.cl_lines.specs.declared.line.TheConstants.{LINE_MAX}
use Rattle.cl_lines.specs.Spelling.{command_words, spelling}
use Rattle.cl_lines.specs.Laws.{IsAskable}
use Rattle.cl_lines.proofs.Bytes.{both}

-- the length of words with a blank after each
abbrev total : List (List ℕ) → ℕ
total [] = 0
total (word ∷ ws) = length word + 1 + total ws

join-total : (ws : List (List ℕ)) → length (join_with_byte 32 ws) ≤ total ws
join-total [] = omega arith
join-total (word ∷ []) = omega arith
join-total (word ∷ next ∷ ws) =
    let rest : length (join_with_byte 32 (next ∷ ws)) ≤ total (next ∷ ws) = join-total (next ∷ ws) in
    grind (arith, common_steps)

-- a lawful name or value has at most so many bytes
at_most : (test : ℕ → Bool) (most : ℕ) (word : List ℕ) → (is_between 1 most (length word) && list_all test word) ≡ true → length word ≤ most
at_most test most word lawful =
    let range = (both (is_between 1 most (length word)) (list_all test word) lawful).0 in
    leb-true (length word) most (both (nat_le 1 (length word)) (nat_le (length word) most) range).1

table_within : (table : List ℕ) → is_table_name table ≡ true → length table ≤ TABLE_NAME_MAX
table_within = at_most is_ascii_lowercase TABLE_NAME_MAX

key_within : (key : List ℕ) → is_key key ≡ true → length key ≤ KEY_MAX
key_within = at_most is_key_byte KEY_MAX

value_within : (value : List ℕ) → is_value value ≡ true → length value ≤ VALUE_MAX
value_within = at_most is_ascii_graphic VALUE_MAX

words_within : (session : ℕ) (command : Command) → length (decimal session) ≤ 2 → IsAskable command → total (decimal session ∷ command_words command) ≤ LINE_MAX
words_within session Begin digits h = omega arith
words_within session (Work table key Get) digits h = omega (arith, table_within table h.0, key_within key h.1)
words_within session (Work table key (Put value)) digits h =
    omega (arith, table_within table h.0, key_within key h.1, value_within value h.2)
words_within session (Work table key Del) digits h = omega (arith, table_within table h.0, key_within key h.1)
words_within session (Work table key (Add amount)) digits h =
    omega (arith, table_within table h.0, key_within key h.1, value_within (signed_decimal amount) (is_value-signed_decimal amount h.2))
words_within session Commit digits h = omega arith
words_within session Abort digits h = omega arith

-- the line of an askable command is not too long
pub spelling_within : (session : ℕ) (command : Command) → session ≤ SESSIONS_MAX → IsAskable command → length (spelling session command) ≤ LINE_MAX
unfolding spelling
spelling_within session command within askable =
    let digits : length (decimal session) ≤ 2 = length-decimal-le 2 session (omega arith) (omega arith) (omega arith) in
    omega (arith, join-total (decimal session ∷ command_words command), words_within session command digits askable)
