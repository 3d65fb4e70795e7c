-- What was read so far, piece by piece.
use Rattle.std.proofs.Common.{◌≡◌, ℕ, ◌+◌, ◌-◌, ◌<◌, ◌≤◌, inl, inr, ◌==◌, not, List, [], ◌++◌, length, get_or, Option, Ok, Err, refl, sym, ◌∙◌, ap, subst, arith}
use Rattle.std.proofs.lemmas.Bool.{cases_lt}
use Rattle.std.proofs.lemmas.List.{length-append, take_at}
use Rattle.std.specs.Io.KnownBytes.{prepend_known}
use Rattle.std.proofs.KnownBytes.{prepend_known-nil}
use Rattle.cl_io.proofs.ToldLemmas.{prepend_known-more}
use Rattle.cl_serial.specs.Bytes.{whole_lines}
use Rattle.cl_serial.proofs.LineLemmas.{newlines, one_if, length-whole_lines_append}
use Rattle.clustra.specs.Input.{IsTooMuch, LastPieceIsTooMuch}
use Rattle.clustra.specs.Reading.{ReadsToEnd, EndsReading, AddsPiece}
use Rattle.clustra.specs.declared.limits.TheConstants.{LINES_MAX, BYTES_MAX, PIECE_MAX}
use Rattle.clustra.specs.declared.input.InputFault.{InputFault}
use Rattle.clustra.specs.declared.input.InputFault.TheVariants.{Read, TooMuch, NoMemory}

pub within : (bytes : List ℕ) → length (whole_lines bytes) ≤ LINES_MAX → length bytes ≤ BYTES_MAX → IsTooMuch bytes → ⊥
within bytes few_lines few_bytes (inl many) = omega (arith, few_lines, many)
within bytes few_lines few_bytes (inr many) = omega (arith, few_bytes, many)

pub few_bytes_of : (bytes : List ℕ) → (IsTooMuch bytes → ⊥) → length bytes ≤ BYTES_MAX
few_bytes_of bytes fits = elim (cases_lt BYTES_MAX (length bytes)) [ inl many ↦ absurd (fits (inr many)) | inr few ↦ few ]

-- how many lines have begun, so many newlines having come before the piece
abbrev pub begun_with : ℕ → List ℕ → ℕ
begun_with count piece = count + newlines piece + one_if (not (get_or piece (length piece - 1) 0 == 10))

pub lines_with : (count : ℕ) (bytes piece : List ℕ) → count ≡ newlines bytes → 0 < length piece → length (whole_lines (bytes ++ piece)) ≡ begun_with count piece
lines_with count bytes piece counted some =
    length-whole_lines_append bytes piece some ∙ ap (λ n. n + newlines piece + one_if (not (get_or piece (length piece - 1) 0 == 10))) (sym counted)

-- these bytes were read, and they are within the limits
pub record ReadSoFar (start now : Option (List ℕ)) (count : ℕ) (bytes : List ℕ) : Type 0 where
  pub taken : start ≡ prepend_known bytes now
  pub counted : count ≡ newlines bytes
  pub fits : IsTooMuch bytes → ⊥

pub ReadSoFar-start : (left : Option (List ℕ)) (bytes : List ℕ) → bytes ≡ [] → ReadSoFar left left 0 bytes
unfolding whole_lines
ReadSoFar-start left bytes none =
    let P : List ℕ → Type 0 = λ list. ReadSoFar left left 0 list in
    subst P (sym none) (record { taken = sym (prepend_known-nil left); counted = refl; fits = within [] (omega arith) (omega arith) })

-- one piece more
pub ReadSoFar-more : (start now next : Option (List ℕ)) (count count' : ℕ) (bytes piece grown : List ℕ) (done : Unit {0}) → ReadSoFar start now count bytes → now ≡ prepend_known piece next →
    AddsPiece bytes piece grown (Ok done) → count' ≡ newlines grown → ReadSoFar start next count' grown
ReadSoFar-more start now next count count' bytes piece grown done h more adds counted = record {
  taken = prepend_known-more start now next bytes piece h.taken more ∙ ap (λ list. prepend_known list next) (sym adds.0);
  counted = counted;
  fits = let P : List ℕ → Type 0 = λ list. IsTooMuch list → ⊥ in subst P (sym adds.0) adds.1;
}

-- a piece that made it too much was the last
LastPieceIsTooMuch-add : (bytes piece : List ℕ) → (IsTooMuch bytes → ⊥) → 0 < length piece → length piece ≤ PIECE_MAX → LastPieceIsTooMuch (bytes ++ piece)
LastPieceIsTooMuch-add bytes piece fits some small =
    let e = length-append bytes piece in
    let P : List ℕ → Type 0 = λ list. IsTooMuch list → ⊥ in
    record {
      before = length bytes;
      some = omega (arith, e, some);
      at_most = omega (arith, e, small);
      within_limits = subst P (sym (take_at bytes piece (length bytes) refl)) fits;
    }

-- the piece could not be added
pub ReadsToEnd-refused : {V : Type 0} (view : V → List ℕ) (start now next : Option (List ℕ)) (count : ℕ) (bytes piece grown : List ℕ) (fault : InputFault) → ReadSoFar start now count bytes → now ≡ prepend_known piece next →
    AddsPiece bytes piece grown (Err fault) → length bytes + length piece ≤ BYTES_MAX + 1 → 0 < length piece → length piece ≤ PIECE_MAX → ReadsToEnd view start next (Err fault)
ReadsToEnd-refused view start now next count bytes piece grown fault h more adds short some small = record {
  read = bytes ++ piece;
  bytes = record {
    taken = prepend_known-more start now next bytes piece h.taken more;
    within = let e = length-append bytes piece in omega (arith, e, short);
    stops = λ many. LastPieceIsTooMuch-add bytes piece h.fits some small;
  };
  ends = by_fault fault adds;
}
  where
    by_fault : (fault : InputFault) → AddsPiece bytes piece grown (Err fault) → EndsReading view (Err fault) (bytes ++ piece)
    by_fault Read adds = absurd adds
    by_fault TooMuch adds = adds
    by_fault NoMemory adds = adds

-- it is not for a read that a piece is not added
pub not_read : (bytes piece grown : List ℕ) (fault : InputFault) (P : Type 0) → AddsPiece bytes piece grown (Err fault) → fault ≡ Read → P
not_read bytes piece grown Read P adds is = absurd adds
not_read bytes piece grown TooMuch P adds is = absurd (cc)
not_read bytes piece grown NoMemory P adds is = absurd (cc)

-- a read that failed
pub ReadsToEnd-fault : {V : Type 0} (view : V → List ℕ) (start now next : Option (List ℕ)) (count : ℕ) (bytes : List ℕ) → ReadSoFar start now count bytes → next ≡ now → ReadsToEnd view start next (Err Read)
ReadsToEnd-fault view start now next count bytes h same = record {
  read = bytes;
  bytes = record {
    taken = h.taken ∙ ap (prepend_known bytes) (sym same);
    within = omega (arith, few_bytes_of bytes h.fits);
    stops = λ many. absurd (h.fits many);
  };
  ends = h.fits;
}

-- the end
pub ReadsToEnd-end : {V : Type 0} (view : V → List ℕ) (start now next : Option (List ℕ)) (count : ℕ) (bytes none : List ℕ) (all : V) → ReadSoFar start now count bytes → now ≡ prepend_known none next → none ≡ [] →
    view all ≡ bytes → ReadsToEnd view start next (Ok all)
ReadsToEnd-end view start now next count bytes none all h more is_none viewed = record {
  read = bytes;
  bytes = record {
    taken = h.taken ∙ ap (prepend_known bytes) (more ∙ ap (λ list. prepend_known list next) is_none ∙ prepend_known-nil next);
    within = omega (arith, few_bytes_of bytes h.fits);
    stops = λ many. absurd (h.fits many);
  };
  ends = (viewed, h.fits);
}

-- nothing was read
pub ReadsToEnd-nothing : {V : Type 0} (view : V → List ℕ) (start : Option (List ℕ)) → ReadsToEnd view start start (Err NoMemory)
unfolding whole_lines
ReadsToEnd-nothing view start = record {
  read = [];
  bytes = record {
    taken = sym (prepend_known-nil start);
    within = omega arith;
    stops = λ many. absurd (within [] (omega arith) (omega arith) many);
  };
  ends = within [] (omega arith) (omega arith);
}
