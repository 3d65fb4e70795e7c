-- Numbers and flags that are read are those that were written, and what was written is read again.
use Rattle.std.proofs.Common.{◌≡◌, ℕ, suc, ◌+◌, ◌^◌, ◌<◌, ◌≤◌, Bool, true, false, IsTrue, ◌==◌, cond, ltb, nat_le, List, [], ◌∷◌, ◌++◌, length, take, drop, Ok, Err, ℤ, FitsSigned, refl, sym, ap, subst, ◌∙◌, inl, inr, rules, arith}
use Rattle.std.specs.Int.{Width, w16, w32, w64, byte_len, from_be_bytes, to_be_bytes, cast_signed, cast_unsigned}
use Rattle.std.proofs.lemmas.Bool.{cases_lt, ltb-false, le-ltb, le-leb, leb-true, eqb-true, and_from}
use Rattle.std.proofs.lemmas.List.{take_at, drop_at, take-append-drop, length-append, length-take, get_or-drop, get_or-take, get_or_past}
use Rattle.std.proofs.lemmas.Nat.{be_bytes_2, be_bytes_4, be_bytes_8, from_be_bytes-to_be_bytes_2, from_be_bytes-to_be_bytes_4, from_be_bytes-to_be_bytes_8}
use Rattle.std.proofs.lemmas.Int.{to_z-of_z, of_z-to_z, ints}
use Rattle.cl_types.specs.declared.operations.Mode.{Mode}
use Rattle.cl_types.specs.declared.operations.Mode.TheVariants.{Shared, Exclusive}
use Rattle.cl_types.specs.declared.operations.TxnId.{TxnId}
use Rattle.cl_fields.specs.declared.undecoded.WireFault.TheVariants as faults
use Rattle.cl_fields.specs.Spelling.{byte, number_32, number_64, amount_bytes, flag_byte, mode_byte, txn_bytes}
use Rattle.cl_fields.specs.Range.{IsCommandNumber, IsIndex, IsNumber, IsTxn, IsAmount}
use Rattle.cl_fields.specs.Reading.{Read, read_byte, read_bytes, read_between, read_number, read_positive, read_amount, read_flag, read_mode, read_command_number, read_txn}
use Rattle.cl_fields.proofs.Lengths.{between_high, between_low}
use Rattle.cl_fields.proofs.Readers.{IsBytes, same_found, Taken, Takes, IsSpelled, Again, takes_bind, takes_done, takes_passed, takes_nothing, takes_if, takes_last, takes_as, again_bind, again_done, again_passed, again_last}

-- ---- bytes

byte_taken : (bytes : List ℕ) (found : ℕ) (rest : List ℕ) → IsBytes bytes → read_byte bytes ≡ Ok (found, rest) → Taken (IsSpelled byte (λ b. b < 256)) bytes found rest
unfolding read_byte
byte_taken [] found rest fits e = absurd cc
byte_taken (b ∷ bytes) found rest fits e =
    let both = same_found (b, bytes) (found, rest) e in
    let same : b ≡ found = ap (λ (p : ℕ × List ℕ). p.0) both in
    let left : bytes ≡ rest = ap (λ (p : ℕ × List ℕ). p.1) both in
    record { text = byte found; parts = rw (same, left) refl; left = subst IsBytes left (λ i. fits (suc i)); holds = record { text = refl; fits = subst (λ (n : ℕ). n < 256) same (fits 0) } }

pub takes_byte : Takes read_byte (IsSpelled byte (λ b. b < 256))
takes_byte = record { run = byte_taken }

pub again_byte : (b : ℕ) → Again read_byte (byte b) b
unfolding read_byte
again_byte b = record { run = λ rest. refl }

-- the text begins with the byte that was tested for
pub tagged : (text : List ℕ) (b n : ℕ) (more spelled : List ℕ) → text ≡ byte b → IsTrue (b == n) → more ≡ spelled → text ++ more ≡ byte n ++ spelled
tagged text b n more spelled begins is then = rw (begins, eqb-true b n is, then) refl

pub takes_between : (low high : ℕ) → Takes (read_between low high) (IsSpelled byte (λ b. (low ≤ b) × (b ≤ high)))
unfolding read_between
takes_between low high = takes_passed _ _ _ _ takes_byte (λ b text h passes. record { text = h.text; fits = (between_low low high b passes, between_high low high b passes) })

pub takes_up_to : (high : ℕ) → Takes (read_between 0 high) (IsSpelled byte (λ b. b ≤ high))
takes_up_to high = takes_as _ _ _ (takes_between 0 high) (λ b text h. record { text = h.text; fits = h.fits.1 })

pub again_between : (low high b : ℕ) → low ≤ b → b ≤ high → Again (read_between low high) (byte b) b
unfolding read_between
again_between low high b above below = again_passed _ _ _ _ (again_byte b) (and_from (nat_le low b) (nat_le b high) (le-leb low b above) (le-leb b high below))

-- ---- so many bytes

IsBytes-drop : (n : ℕ) (bytes : List ℕ) → IsBytes bytes → IsBytes (drop n bytes)
IsBytes-drop n bytes fits i = rw get_or-drop (fits (n + i))

IsBytes-take : (n : ℕ) (bytes : List ℕ) → IsBytes bytes → IsBytes (take n bytes)
IsBytes-take n bytes fits i =
    elim (cases_lt i n) [
      | inl below ↦ rw (get_or-take n bytes i 0 below) (fits i)
      | inr past ↦ rw (get_or_past (take n bytes) i 0 (omega (arith, length-take n bytes))) (omega arith)
    ]

-- so many bytes, as they stand
pub record IsCut (count : ℕ) (found taken : List ℕ) : Type 0 where
  pub text : taken ≡ found
  pub size : length found ≡ count
  pub fits : IsBytes found

guard_ok : {A : Type 0} (short : Bool) (x y : A × List ℕ) → Path (Read A) (cond short (Err faults.Short) (Ok x)) (Ok y) → (short ≡ false) × (x ≡ y)
guard_ok true x y e = absurd cc
guard_ok false x y e = (refl, same_found x y e)

cut : (count : ℕ) (bytes found rest : List ℕ) → IsBytes bytes → read_bytes count bytes ≡ Ok (found, rest) → Taken (IsCut count) bytes found rest
unfolding read_bytes
cut count bytes found rest fits e =
    let found_so = guard_ok (ltb (length bytes) count) (take count bytes, drop count bytes) (found, rest) e in
    let long : count ≤ length bytes = ltb-false _ _ found_so.0 in
    let front : take count bytes ≡ found = ap (λ (p : List ℕ × List ℕ). p.0) found_so.1 in
    let left : drop count bytes ≡ rest = ap (λ (p : List ℕ × List ℕ). p.1) found_so.1 in
    record {
      text = found;
      parts = rw (← front, ← left) (sym (take-append-drop count bytes));
      left = subst IsBytes left (IsBytes-drop count bytes fits);
      holds = record { text = refl; size = rw (← front) (omega (arith, length-take count bytes)); fits = subst IsBytes front (IsBytes-take count bytes fits) };
    }

pub takes_bytes : (count : ℕ) → Takes (read_bytes count) (IsCut count)
takes_bytes count = record { run = cut count }

pub again_bytes : (text : List ℕ) (count : ℕ) → length text ≡ count → Again (read_bytes count) text text
unfolding read_bytes
again_bytes text count size = record {
  run = λ rest.
      let long : ltb (length (text ++ rest)) count ≡ false = le-ltb _ _ (omega (arith, length-append text rest)) in
      rw (long, take_at text rest count size, drop_at text rest count size) refl;
}

-- ---- numbers of a width

-- what is known of a width: so many bytes, and numbers below a limit, go to and fro
pub record IsWide (w : Width) (limit : ℕ) : Type 0 where
  pub size : (n : ℕ) → length (to_be_bytes w n) ≡ byte_len w
  pub back : (text : List ℕ) → length text ≡ byte_len w → IsBytes text → text ≡ to_be_bytes w (from_be_bytes w text)
  pub forth : (n : ℕ) → n < limit → from_be_bytes w (to_be_bytes w n) ≡ n
  pub below : (text : List ℕ) → IsBytes text → from_be_bytes w text < limit

pub wide_16 : IsWide w16 (2 ^ 16)
wide_16 = record {
  size = λ n. refl;
  back = λ text size fits. sym (be_bytes_2 text _ size fits refl);
  forth = λ n below. from_be_bytes-to_be_bytes_2 n below;
  below = λ text fits. omega (arith, fits 0, fits 1);
}

pub wide_32 : IsWide w32 (2 ^ 32)
wide_32 = record {
  size = λ n. refl;
  back = λ text size fits. sym (be_bytes_4 text _ size fits refl);
  forth = λ n below. from_be_bytes-to_be_bytes_4 n below;
  below = λ text fits. omega (arith, fits 0, fits 1, fits 2, fits 3);
}

pub wide_64 : IsWide w64 (2 ^ 64)
wide_64 = record {
  size = λ n. refl;
  back = λ text size fits. sym (be_bytes_8 text _ size fits refl);
  forth = λ n below. from_be_bytes-to_be_bytes_8 n below;
  below = λ text fits. omega (arith, fits 0, fits 1, fits 2, fits 3, fits 4, fits 5, fits 6, fits 7);
}

pub takes_wide : (w : Width) (limit : ℕ) → IsWide w limit → Takes (read_number w) (IsSpelled (to_be_bytes w) (λ n. n < limit))
unfolding read_number
takes_wide w limit wide = takes_last _ _ _ _ (takes_bytes (byte_len w)) (λ found text h. record { text = h.text ∙ wide.back found h.size h.fits; fits = wide.below found h.fits })

pub again_wide : (w : Width) (limit : ℕ) → IsWide w limit → (n : ℕ) → n < limit → Again (read_number w) (to_be_bytes w n) n
unfolding read_number
again_wide w limit wide n below = record {
  run = λ rest. rw ((again_bytes (to_be_bytes w n) (byte_len w) (wide.size n)).run rest, wide.forth n below) refl;
}

pub takes_32 : Takes (read_number w32) (IsSpelled number_32 (λ n. n < 2 ^ 32))
unfolding number_32
takes_32 = takes_wide w32 (2 ^ 32) wide_32

pub again_32 : (n : ℕ) → n < 2 ^ 32 → Again (read_number w32) (number_32 n) n
unfolding number_32
again_32 n below = again_wide w32 (2 ^ 32) wide_32 n below

pub takes_64 : Takes (read_number w64) (IsSpelled number_64 (λ n. n < 2 ^ 64))
unfolding number_64
takes_64 = takes_wide w64 (2 ^ 64) wide_64

pub again_64 : (n : ℕ) → n < 2 ^ 64 → Again (read_number w64) (number_64 n) n
unfolding number_64
again_64 n below = again_wide w64 (2 ^ 64) wide_64 n below

pub takes_index : Takes (read_positive w32) (IsSpelled number_32 IsIndex)
unfolding read_positive
takes_index = takes_passed _ _ _ _ takes_32 (λ n text h passes. record { text = h.text; fits = record { low = leb-true 1 n passes; high = h.fits } })

pub again_index : (n : ℕ) → IsIndex n → Again (read_positive w32) (number_32 n) n
unfolding read_positive
again_index n fits = again_passed _ _ _ _ (again_32 n fits.high) (le-leb 1 n fits.low)

pub takes_number : Takes (read_positive w64) (IsSpelled number_64 IsNumber)
unfolding read_positive
takes_number = takes_passed _ _ _ _ takes_64 (λ n text h passes. record { text = h.text; fits = record { low = leb-true 1 n passes; high = h.fits } })

pub again_number : (n : ℕ) → IsNumber n → Again (read_positive w64) (number_64 n) n
unfolding read_positive
again_number n fits = again_passed _ _ _ _ (again_64 n fits.high) (le-leb 1 n fits.low)

pub takes_command_number : Takes read_command_number (IsSpelled number_32 IsCommandNumber)
unfolding read_command_number
takes_command_number = takes_passed _ _ _ _ takes_32 (λ n text h passes. record { text = h.text; fits = leb-true n 65 passes })

pub again_command_number : (n : ℕ) → IsCommandNumber n → Again read_command_number (number_32 n) n
unfolding read_command_number
again_command_number n fits = again_passed _ _ _ _ (again_32 n (omega arith)) (le-leb n 65 fits)

signed_fits : (n : ℕ) → n < 2 ^ 64 → FitsSigned w64 (cast_signed w64 n)
signed_fits n below = search (rules, arith)

unsigned_fits : (z : ℤ) → FitsSigned w64 z → cast_unsigned w64 z < 2 ^ 64
unsigned_fits z fits = omega (arith, ints)

pub takes_amount : Takes read_amount (IsSpelled amount_bytes IsAmount)
unfolding read_amount amount_bytes
takes_amount = takes_last _ _ _ _ takes_64 (λ bits text h. record { text = rw (of_z-to_z w64 bits h.fits) h.text; fits = signed_fits bits h.fits })

pub again_amount : (amount : ℤ) → IsAmount amount → Again read_amount (amount_bytes amount) amount
unfolding read_amount amount_bytes
again_amount amount fits = record {
  run = λ rest. rw ((again_64 (cast_unsigned w64 amount) (unsigned_fits amount fits)).run rest, to_z-of_z w64 amount fits) refl;
}

-- ---- flags and modes

abbrev pub flag_bytes : Bool → List ℕ
flag_bytes flag = byte (flag_byte flag)

abbrev pub AnyFlag : Bool → Type 0
AnyFlag flag = Unit {0}

pub takes_flag : Takes read_flag (IsSpelled flag_bytes AnyFlag)
unfolding read_flag
takes_flag = takes_bind _ _ _ _ takes_byte (λ b text h.
    takes_if _ _ _ _ (λ is_0. takes_done _ _ (record { text = tagged text b 0 [] [] h.text is_0 refl; fits = tt }))
    (λ _. takes_if _ _ _ _ (λ is_1. takes_done _ _ (record { text = tagged text b 1 [] [] h.text is_1 refl; fits = tt }))
    (λ _. takes_nothing _)))

pub again_flag : (flag : Bool) → Again read_flag (flag_bytes flag) flag
unfolding read_flag
again_flag false = again_last _ _ _ _ _ (again_byte 0) (again_done _)
again_flag true = again_last _ _ _ _ _ (again_byte 1) (again_done _)

abbrev pub mode_bytes : Mode → List ℕ
mode_bytes mode = byte (mode_byte mode)

abbrev pub AnyMode : Mode → Type 0
AnyMode mode = Unit {0}

pub takes_mode : Takes read_mode (IsSpelled mode_bytes AnyMode)
unfolding read_mode
takes_mode = takes_bind _ _ _ _ takes_byte (λ b text h.
    takes_if _ _ _ _ (λ is_1. takes_done _ _ (record { text = tagged text b 1 [] [] h.text is_1 refl; fits = tt }))
    (λ _. takes_if _ _ _ _ (λ is_2. takes_done _ _ (record { text = tagged text b 2 [] [] h.text is_2 refl; fits = tt }))
    (λ _. takes_nothing _)))

pub again_mode : (mode : Mode) → Again read_mode (mode_bytes mode) mode
unfolding read_mode
again_mode Shared = again_last _ _ _ _ _ (again_byte 1) (again_done _)
again_mode Exclusive = again_last _ _ _ _ _ (again_byte 2) (again_done _)

-- ---- transactions

pub takes_txn : Takes read_txn (IsSpelled txn_bytes IsTxn)
unfolding read_txn txn_bytes
takes_txn = takes_bind _ _ _ _ (takes_between 1 64) (λ session text_1 h1.
    takes_last _ _ _ _ takes_number (λ number text_2 h2. record {
      text = rw (h1.text, h2.text) refl;
      fits = record { low = h1.fits.0; high = h1.fits.1; number = h2.fits };
    }))

pub again_txn : (txn : TxnId) → IsTxn txn → Again read_txn (txn_bytes txn) txn
unfolding read_txn txn_bytes
again_txn txn fits =
    again_bind _ _ (byte txn.session) (number_64 txn.number) _ _ (again_between 1 64 txn.session fits.low fits.high)
    (again_last _ _ _ _ _ (again_number txn.number fits.number) (again_done _))
