-- What readers that are composed answer on longer bytes: the same, unless the fault was Short, and with enough bytes it is not Short.
use Rattle.std.proofs.Common.{◌≡◌, ◌≢◌, ℕ, ◌+◌, Bool, true, false, ltb, cond, List, [], ◌∷◌, ◌++◌, length, take, drop, replicate, Ok, Err, refl, sym, ap, ◌∙◌, subst, inl, inr, append_assoc, arith}
use Rattle.std.proofs.lemmas.Bool.{cases_lt, lt-ltb, le-ltb}
use Rattle.std.proofs.lemmas.List.{take-append-le, drop-append-le, length-append, length-replicate, replicate-append-replicate}
use Rattle.cl_fields.specs.declared.undecoded.WireFault.TheVariants as faults
use Rattle.cl_fields.specs.Reading.{Read, Reader, onward, ◌>>=◌, done, checked, out_of_range, read_byte, read_bytes}

-- what was read of the bytes, and of the longer bytes: the same, with more bytes left; Short alone says nothing of them.
-- Kind comes only where it may, and Rest never
abbrev pub Settled : {A : Type 0} → Type 0 → List ℕ → Read A → Read A → Type 0
Settled MayBeKind more (Ok found) longer = longer ≡ Ok (found.0, found.1 ++ more)
Settled MayBeKind more (Err faults.Short) longer = Unit {0}
Settled MayBeKind more (Err faults.Kind) longer = MayBeKind × (longer ≡ Err faults.Kind)
Settled MayBeKind more (Err faults.Field) longer = longer ≡ Err faults.Field
Settled MayBeKind more (Err faults.Rest) longer = ⊥

-- with so many zeros behind the bytes they are not Short
pub record Enough {A : Type 0} (reader : Reader A) (bytes : List ℕ) : Type 0 where
  pub missing : ℕ
  pub ends : reader (bytes ++ replicate missing 0) ≢ Err faults.Short

pub record Settles {A : Type 0} (MayBeKind : Type 0) (reader : Reader A) : Type 0 where
  pub run : (bytes more : List ℕ) → Settled MayBeKind more (reader bytes) (reader (bytes ++ more))
  pub enough : (bytes : List ℕ) → Enough reader bytes

settled_onward : {A B K : Type 0} (next : A → Reader B) (more : List ℕ) (read longer : Read A) → Settled K more read longer → ((found : A) → Settles K (next found)) → Settled K more (onward read next) (onward longer next)
settled_onward {A = A} {K = K} next more (Ok found) longer first second = subst (λ (l : Read A). Settled K more (next found.0 found.1) (onward l next)) (sym first) ((second found.0).run found.1 more)
settled_onward next more (Err faults.Short) longer first second = tt
settled_onward next more (Err faults.Kind) longer first second = (first.0, rw first.1 refl)
settled_onward next more (Err faults.Field) longer first second = rw first refl
settled_onward next more (Err faults.Rest) longer first second = absurd first

enough_onward : {A B K : Type 0} (reader : Reader A) (next : A → Reader B) (bytes : List ℕ) (missing : ℕ) (read : Read A) → reader (bytes ++ replicate missing 0) ≡ read → read ≢ Err faults.Short → Settles K reader → ((found : A) → Settles K (next found)) → Enough (reader >>= next) bytes
enough_onward {K = K} reader next bytes missing (Ok found) is not_short first second =
    let then = (second found.0).enough found.1 in
    let more : List ℕ = replicate then.missing 0 in
    let settled : Settled K more (Ok found) (reader ((bytes ++ replicate missing 0) ++ more)) = subst (λ read. Settled K more read (reader ((bytes ++ replicate missing 0) ++ more))) is (first.run (bytes ++ replicate missing 0) more) in
    let text : bytes ++ replicate (missing + then.missing) 0 ≡ (bytes ++ replicate missing 0) ++ more = ap (λ (tail : List ℕ). bytes ++ tail) (sym (replicate-append-replicate {A = ℕ} missing then.missing 0)) ∙ sym (append_assoc bytes (replicate missing 0) more) in
    let same : (reader >>= next) (bytes ++ replicate (missing + then.missing) 0) ≡ next found.0 (found.1 ++ more) = rw (text, settled) refl in
    record { missing = missing + then.missing; ends = λ short. then.ends (sym same ∙ short) }
enough_onward reader next bytes missing (Err faults.Short) is not_short first second = absurd (not_short refl)
enough_onward reader next bytes missing (Err faults.Kind) is not_short first second =
    let same : (reader >>= next) (bytes ++ replicate missing 0) ≡ Err faults.Kind = rw is refl in
    record { missing = missing; ends = λ short. cc }
enough_onward reader next bytes missing (Err faults.Field) is not_short first second =
    let same : (reader >>= next) (bytes ++ replicate missing 0) ≡ Err faults.Field = rw is refl in
    record { missing = missing; ends = λ short. cc }
enough_onward reader next bytes missing (Err faults.Rest) is not_short first second =
    let same : (reader >>= next) (bytes ++ replicate missing 0) ≡ Err faults.Rest = rw is refl in
    record { missing = missing; ends = λ short. cc }

pub settles_bind : {A B K : Type 0} (reader : Reader A) (next : A → Reader B) → Settles K reader → ((found : A) → Settles K (next found)) → Settles K (reader >>= next)
settles_bind reader next first second = record {
  run = λ bytes more. settled_onward next more (reader bytes) (reader (bytes ++ more)) (first.run bytes more) second;
  enough = λ bytes. enough_onward reader next bytes (first.enough bytes).missing (reader (bytes ++ replicate (first.enough bytes).missing 0)) refl (first.enough bytes).ends first second;
}

pub settles_done : {A K : Type 0} (made : A) → Settles K (done made)
settles_done made = record { run = λ bytes more. refl; enough = λ bytes. record { missing = 0; ends = λ short. cc } }

settled_checked : {A : Type 0} (K : Type 0) (passes : Bool) (made : A) (bytes more : List ℕ) → Settled K more (checked passes made bytes) (checked passes made (bytes ++ more))
settled_checked K true made bytes more = refl
settled_checked K false made bytes more = refl

enough_checked : {A : Type 0} (passes : Bool) (made : A) (bytes : List ℕ) → Enough (checked passes made) bytes
enough_checked true made bytes = record { missing = 0; ends = λ short. cc }
enough_checked false made bytes = record { missing = 0; ends = λ short. cc }

pub settles_checked : {A K : Type 0} (passes : Bool) (made : A) → Settles K (checked passes made)
settles_checked passes made = record { run = settled_checked _ passes made; enough = enough_checked passes made }

pub settles_nothing : {A K : Type 0} → Settles {A = A} K out_of_range
settles_nothing = record { run = λ bytes more. refl; enough = λ bytes. record { missing = 0; ends = λ short. cc } }

pub settles_if : {A K : Type 0} (test : Bool) (one other : Reader A) → Settles K one → Settles K other → Settles K (cond test one other)
settles_if true one other first second = first
settles_if false one other first second = second

-- the last part of what is read
pub settles_last : {A B K : Type 0} (reader : Reader A) (make : A → B) → Settles K reader → Settles K (reader >>= λ found. done (make found))
settles_last reader make first = settles_bind reader (λ found. done (make found)) first (λ found. settles_done (make found))

-- the last part of what is read, if it passes
pub settles_passed : {A K : Type 0} (reader : Reader A) (test : A → Bool) → Settles K reader → Settles K (reader >>= λ found. checked (test found) found)
settles_passed reader test first = settles_bind reader (λ found. checked (test found) found) first (λ found. settles_checked (test found) found)

settled_byte : (K : Type 0) (bytes more : List ℕ) → Settled K more (read_byte bytes) (read_byte (bytes ++ more))
unfolding read_byte
settled_byte K [] more = tt
settled_byte K (b ∷ bytes) more = refl

enough_byte : (bytes : List ℕ) → Enough read_byte bytes
unfolding read_byte
enough_byte [] = record { missing = 1; ends = λ short. cc }
enough_byte (b ∷ bytes) = record { missing = 0; ends = λ short. cc }

pub settles_byte : {K : Type 0} → Settles K read_byte
settles_byte = record { run = settled_byte _; enough = enough_byte }

settled_bytes : (K : Type 0) (count : ℕ) (bytes more : List ℕ) → Settled K more (read_bytes count bytes) (read_bytes count (bytes ++ more))
unfolding read_bytes
settled_bytes K count bytes more =
    elim (cases_lt (length bytes) count) [
      | inl short ↦ rw (lt-ltb _ _ short) tt
      | inr enough ↦
          let long : ltb (length bytes) count ≡ false = le-ltb _ _ enough in
          let still : ltb (length (bytes ++ more)) count ≡ false = le-ltb _ _ (omega (arith, length-append bytes more)) in
          rw (long, still, take-append-le count bytes more enough, drop-append-le count bytes more enough) refl
    ]

enough_bytes : (count : ℕ) (bytes : List ℕ) → Enough (read_bytes count) bytes
unfolding read_bytes
enough_bytes count bytes =
    let text : List ℕ = bytes ++ replicate count 0 in
    let long : ltb (length text) count ≡ false = le-ltb _ _ (omega (arith, length-append bytes (replicate count 0), length-replicate {A = ℕ} count 0)) in
    let found : read_bytes count text ≡ Ok (take count text, drop count text) = rw long refl in
    record { missing = count; ends = λ short. cc }

pub settles_bytes : {K : Type 0} (count : ℕ) → Settles K (read_bytes count)
settles_bytes count = record { run = settled_bytes _ count; enough = enough_bytes count }
