-- Reading members one after the other, as a loop does.
use Rattle.std.proofs.Common.{◌≡◌, ℕ, suc, ◌-◌, ◌+◌, ◌≤◌, ◌<◌, List, [], ◌∷◌, ◌++◌, Ok, Err, refl, sym, ap, ◌∙◌, append_assoc, arith}
use Rattle.std.proofs.lemmas.List.{append-nil}
use Rattle.cl_fields.specs.declared.undecoded.Undecoded.{Undecoded}
use Rattle.cl_fields.specs.declared.undecoded.Undecoded.TheVariants as undecoded
use Rattle.cl_fields.specs.Reading.{Read, Reader, onward, done, Gives, read_members}

-- what was read before, and what is still read
abbrev pub with_front : {A : Type 0} → List A → Read (List A) → Read (List A)
with_front front read = onward read (λ others. done (front ++ others))

regroup : {A : Type 0} (front : List A) (x : A) (read : Read (List A)) → with_front front (onward read (λ others. done (x ∷ others))) ≡ with_front (front ++ x ∷ []) read
regroup {A = A} front x (Ok found) = ap (λ (members : List A). Ok (members, found.1)) (simp append_assoc)
regroup {A = A} front x (Err fault) = refl

pub goes_on : {A : Type 0} (read : Reader A) (front : List A) (count i : ℕ) (bytes : List ℕ) (x : A) (after : List ℕ) (total : Read (List A)) → i < count → read bytes ≡ Ok (x, after)
    → with_front front (read_members read (count - i) bytes) ≡ total → with_front (front ++ x ∷ []) (read_members read (count - (i + 1)) after) ≡ total
unfolding read_members
goes_on {A = A} read front count i bytes x after total lt found so_far =
    let k : count - i ≡ suc (count - (i + 1)) = omega arith in
    let one : with_front front (read_members read (count - i) bytes) ≡ with_front (front ++ x ∷ []) (read_members read (count - (i + 1)) after) = rw (k, found) (regroup front x (read_members read (count - (i + 1)) after)) in
    sym one ∙ so_far

pub fails : {A X : Type 0} (view : X → List A) (error : Undecoded) (read : Reader A) (front : List A) (count i : ℕ) (bytes left last : List ℕ) (total : Read (List A)) → i < count
    → Gives (λ (found : A). found) (Err error) left (read bytes)
    → with_front front (read_members read (count - i) bytes) ≡ total → Gives view (Err error) last total
unfolding read_members
fails view undecoded.NoMemory read front count i bytes left last total lt given so_far = tt
fails view (undecoded.Fault fault) read front count i bytes left last total lt given so_far =
    let k : count - i ≡ suc (count - (i + 1)) = omega arith in
    let one : with_front front (read_members read (count - i) bytes) ≡ Err fault = rw (k, given) refl in
    sym so_far ∙ one

pub is_done : {A : Type 0} (read : Reader A) (front : List A) (count i : ℕ) (bytes : List ℕ) (total : Read (List A)) → count ≤ i → with_front front (read_members read (count - i) bytes) ≡ total → total ≡ Ok (front, bytes)
unfolding read_members
is_done {A = A} read front count i bytes total le so_far =
    let k : count - i ≡ 0 = omega arith in
    let one : with_front front (read_members read (count - i) bytes) ≡ Ok (front, bytes) = rw k (ap (λ (members : List A). Ok (members, bytes)) (append-nil front)) in
    sym so_far ∙ one
