-- Told bytes, over several calls.
use Rattle.std.proofs.Common.{◌≡◌, ℕ, ◌+◌, ◌≤◌, Option, None, Some, List, [], ◌++◌, length, take, drop, refl, ap, sym, ◌∙◌, arith}
use Rattle.std.specs.Prelude.{IfSome}
use Rattle.std.proofs.lemmas.List.{append_assoc, append-nil, length-append, take-append-le}
use Rattle.std.proofs.Math.Seq.{take-add, take-append-add}
use Rattle.std.specs.Io.KnownBytes.{prepend_known, append_known, IsAtEnd}
use Rattle.cl_io.specs.Told.{AppendsPart}

-- no bytes behind
pub append_known-nil : (told : Option (List ℕ)) → append_known told [] ≡ told
append_known-nil None = refl
append_known-nil (Some xs) = ap Some (append-nil xs)

-- one piece in front of another
pub prepend_known-prepend_known : (xs ys : List ℕ) (told : Option (List ℕ)) → prepend_known xs (prepend_known ys told) ≡ prepend_known (xs ++ ys) told
prepend_known-prepend_known xs ys None = refl
prepend_known-prepend_known xs ys (Some zs) = ap Some (sym (append_assoc xs ys zs))

-- one piece behind another
pub append_known-append_known : (told : Option (List ℕ)) (xs ys : List ℕ) → append_known (append_known told xs) ys ≡ append_known told (xs ++ ys)
append_known-append_known None xs ys = refl
append_known-append_known (Some zs) xs ys = ap Some (append_assoc zs xs ys)

-- what was read so far, and what one more read gave
pub prepend_known-more : (start now next : Option (List ℕ)) (xs ys : List ℕ) → start ≡ prepend_known xs now → now ≡ prepend_known ys next → start ≡ prepend_known (xs ++ ys) next
prepend_known-more start now next xs ys so_far more =
    so_far ∙ ap (prepend_known xs) more ∙ prepend_known-prepend_known xs ys next

-- what was read is the front of what a source that tells its bytes had left
pub IfSome-read : (start now : Option (List ℕ)) (xs : List ℕ) → start ≡ prepend_known xs now → IfSome start (λ ys. (rest : List ℕ) × (ys ≡ xs ++ rest))
IfSome-read start None xs e = rw e tt
IfSome-read start (Some rest) xs e = rw e (rest, refl)

-- what was read to the end is all that it had left
pub IfSome-read_to_end : (start now : Option (List ℕ)) (xs : List ℕ) → start ≡ prepend_known xs now → IsAtEnd now → IfSome start (λ ys. ys ≡ xs)
IfSome-read_to_end start None xs e h = rw e tt
IfSome-read_to_end start (Some rest) xs e h = rw (e, h) (append-nil xs)

-- the first i bytes of a piece, and then the first n of its rest
pub append_known-take : (told : Option (List ℕ)) (piece : List ℕ) (i n : ℕ) → append_known (append_known told (take i piece)) (take n (drop i piece)) ≡ append_known told (take (i + n) piece)
append_known-take told piece i n =
    append_known-append_known told (take i piece) (take n (drop i piece)) ∙ ap (append_known told) (sym (take-add i n piece))

-- a piece that is written from its front: its first i bytes, and in one more write n of the rest
pub append_known-more : (start now next : Option (List ℕ)) (piece : List ℕ) (i n : ℕ) → now ≡ append_known start (take i piece) → next ≡ append_known now (take n (drop i piece)) → next ≡ append_known start (take (i + n) piece)
append_known-more start now next piece i n so_far more =
    more ∙ ap (λ told. append_known told (take n (drop i piece))) so_far ∙ append_known-take start piece i n

-- whole pieces, and then a part of the next, are a part of them all
pub AppendsPart-behind : (start now next : Option (List ℕ)) (whole piece : List ℕ) → now ≡ append_known start whole → AppendsPart now next piece → AppendsPart start next (whole ++ piece)
AppendsPart-behind start now next whole piece so_far last =
    record {
      count = length whole + last.count;
      part = simp length-append (omega (arith, last.part));
      appended =
          last.appended
          ∙ ap (λ told. append_known told (take last.count piece)) so_far
          ∙ append_known-append_known start whole (take last.count piece)
          ∙ ap (append_known start) (sym (take-append-add whole piece last.count));
    }

-- a part of a piece is a part of that and more
pub AppendsPart-longer : (start next : Option (List ℕ)) (piece more : List ℕ) → AppendsPart start next piece → AppendsPart start next (piece ++ more)
AppendsPart-longer start next piece more last =
    let within : last.count ≤ length piece = omega (arith, last.part) in
    record {
      count = last.count;
      part = simp length-append (omega (arith, last.part));
      appended = last.appended ∙ ap (append_known start) (sym (take-append-le last.count piece more within));
    }
