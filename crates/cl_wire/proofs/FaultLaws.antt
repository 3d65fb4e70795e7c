-- What the faults of a packet mean.
use Rattle.std.proofs.Common.{◌≡◌, ◌≢◌, ℕ, false, List, [], ◌∷◌, ◌++◌, replicate, Some, None, Ok, Err, refl, sym, ap, subst, ◌∙◌, inl, inr, arith}
use Rattle.std.specs.Prelude.{slice_get}
use Rattle.std.specs.Int.{w32, w64}
use Rattle.std.proofs.lemmas.Bool.{cases_Bool}
use Rattle.std.proofs.lemmas.Option.{slice_get_past, slice_get_cases}
use Rattle.cl_types.specs.Names.{is_between}
use Rattle.cl_fields.proofs.Lengths.{between_high, between_low}
use Rattle.std.proofs.lemmas.List.{append-nil}
use Rattle.cl_wire.specs.declared.decoding.Header.{Header}
use Rattle.cl_wire.specs.declared.kind.TheConstants.{KINDS}
use Rattle.cl_wire.specs.declared.kind.Kind.{Kind}
use Rattle.cl_fields.specs.declared.undecoded.WireFault.{WireFault}
use Rattle.cl_fields.specs.declared.undecoded.WireFault.TheVariants as faults
use Rattle.cl_wire.specs.Message.{Message}
use Rattle.cl_wire.specs.Spelling.{version, spelling}
use Rattle.cl_fields.specs.Reading.{Read, Reader, ◌>>=◌, done, read_actor, read_number, read_byte, read_between}
use Rattle.cl_wire.specs.PacketReading.{read_kind, read_seq, read_header, read_content, read_message, alone, read_packet}
use Rattle.cl_wire.specs.Laws.{LongerIsRest, RestIsLonger, NamesNoKind, KindIsSecondByte, FaultStays, BeginningIsShort, ShortEnds, VersionIsFirstByte}
use Rattle.cl_fields.proofs.Readers.{same_found}
use Rattle.cl_fields.proofs.Settling.{Settled, Settles, settles_bind, settles_last}
use Rattle.cl_fields.proofs.SettlingFields.{settles_between, settles_number}
use Rattle.cl_wire.proofs.SettlingPackets.{settles_seq, settles_content, settles_message}
use Rattle.cl_wire.proofs.PacketLaws.{takes_message, again_message}

-- ---- bytes behind a spelling

pub longer_is_rest : LongerIsRest
unfolding read_packet
longer_is_rest m byte more fits = rw ((again_message m fits).run (byte ∷ more)) refl

-- a message, and bytes behind it
record FoundMore (read : Read Message) : Type 0 where
  message : Message
  byte : ℕ
  more : List ℕ
  is : read ≡ Ok (message, byte ∷ more)

found_more : (K : Type 0) (read longer : Read Message) → Settled K [] read longer → alone read ≡ Err faults.Rest → FoundMore read
found_more K (Ok (m, [])) longer settled e = absurd cc
found_more K (Ok (m, byte ∷ more)) longer settled e = record { message = m; byte = byte; more = more; is = refl }
found_more K (Err faults.Rest) longer settled e = absurd settled
found_more K (Err faults.Short) longer settled e = absurd cc
found_more K (Err faults.Kind) longer settled e = absurd cc
found_more K (Err faults.Field) longer settled e = absurd cc

pub rest_is_longer : RestIsLonger
unfolding read_packet
rest_is_longer bytes fits e =
    let found = found_more _ (read_message bytes) (read_message (bytes ++ [])) (settles_message.run bytes []) e in
    let taken = takes_message.run bytes found.message (found.byte ∷ found.more) fits found.is in
    record { message = found.message; byte = found.byte; more = found.more; text = rw (← taken.holds.text) taken.parts; range = taken.holds.fits }

-- ---- what stands behind a fault

fault_kept : (K : Type 0) (more : List ℕ) (read longer : Read Message) (fault : WireFault) → Settled K more read longer → fault ≢ faults.Short → fault ≢ faults.Rest → alone read ≡ Err fault → alone longer ≡ Err fault
fault_kept K more (Ok (m, [])) longer fault settled not_short not_rest e = absurd cc
fault_kept K more (Ok (m, byte ∷ bytes)) longer fault settled not_short not_rest e = absurd (not_rest cc)
fault_kept K more (Err faults.Short) longer fault settled not_short not_rest e = absurd (not_short cc)
fault_kept K more (Err faults.Kind) longer fault settled not_short not_rest e = rw settled.1 e
fault_kept K more (Err faults.Field) longer fault settled not_short not_rest e = rw settled e
fault_kept K more (Err faults.Rest) longer fault settled not_short not_rest e = absurd settled

pub fault_stays : FaultStays
unfolding read_packet
fault_stays bytes more fault not_short not_rest e = fault_kept _ more (read_message bytes) (read_message (bytes ++ more)) fault (settles_message.run bytes more) not_short not_rest e

-- ---- beginnings

nothing_behind : (left rest : List ℕ) → left ++ rest ≡ [] → rest ≡ []
nothing_behind [] rest e = e
nothing_behind (b ∷ left) rest e = absurd cc

cut_short : (K : Type 0) (m : Message) (rest : List ℕ) (read longer : Read Message) → Settled K rest read longer → longer ≡ Ok (m, []) → rest ≢ [] → alone read ≡ Err faults.Short
cut_short K m rest (Ok (found, left)) longer settled whole more =
    let both = same_found (found, left ++ rest) (m, []) (sym settled ∙ whole) in
    absurd (more (nothing_behind left rest (ap (λ (p : Message × List ℕ). p.1) both)))
cut_short K m rest (Err faults.Short) longer settled whole more = refl
cut_short K m rest (Err faults.Kind) longer settled whole more =
    let fault = settled.1 in
    absurd cc
cut_short K m rest (Err faults.Field) longer settled whole more = absurd cc
cut_short K m rest (Err faults.Rest) longer settled whole more = absurd settled

pub beginning_is_short : BeginningIsShort
unfolding read_packet
beginning_is_short m text rest fits e more =
    let whole : read_message (text ++ rest) ≡ Ok (m, []) = ap read_message (sym e ∙ sym (append-nil (spelling m))) ∙ (again_message m fits).run [] in
    cut_short _ m rest (read_message text) (read_message (text ++ rest)) (settles_message.run text rest) whole more

-- ---- Short is not for ever

not_short : (read : Read Message) → read ≢ Err faults.Short → alone read ≢ Err faults.Short
not_short (Ok (m, [])) ends e = cc
not_short (Ok (m, b ∷ bytes)) ends e = cc
not_short (Err faults.Short) ends e = ends refl
not_short (Err faults.Kind) ends e = cc
not_short (Err faults.Field) ends e = cc
not_short (Err faults.Rest) ends e = cc

pub short_ends : ShortEnds
unfolding read_packet
short_ends bytes =
    let enough = settles_message.enough bytes in
    record { missing = enough.missing; ends = not_short (read_message (bytes ++ replicate enough.missing 0)) enough.ends }

-- ---- kinds

-- the fields of a header behind its kind
header_after : Kind → Reader Header
header_after kind = do
  from ← read_actor
  to ← read_actor
  set ← read_number w32
  seq ← read_seq kind
  ack ← read_number w64
  done (record { kind = kind; from = from; to = to; set = set; seq = seq; ack = ack })

-- what is read behind the kind
after_kind : Kind → Reader Message
after_kind kind = do
  header ← header_after kind
  content ← read_content header.kind
  done (record { from = header.from; to = header.to; set = header.set; seq = header.seq; ack = header.ack; content = content })

settles_header_after : (kind : Kind) → Settles ⊥ (header_after kind)
unfolding header_after
settles_header_after kind = settles_bind _ _ (settles_between _ _) (λ _.
    settles_bind _ _ (settles_between _ _) (λ _.
    settles_bind _ _ (settles_number _) (λ _.
    settles_bind _ _ (settles_seq kind) (λ _.
    settles_last _ _ (settles_number _)))))

settles_after_kind : (kind : Kind) → Settles ⊥ (after_kind kind)
unfolding after_kind
settles_after_kind kind = settles_bind _ _ (settles_header_after kind) (λ header. settles_last _ _ (settles_content header.kind))

never_kind : (more : List ℕ) (read longer : Read Message) → Settled ⊥ more read longer → alone read ≡ Err faults.Kind → ⊥
never_kind more (Ok (m, [])) longer settled e = cc
never_kind more (Ok (m, b ∷ bytes)) longer settled e = cc
never_kind more (Err faults.Short) longer settled e = cc
never_kind more (Err faults.Kind) longer settled e = settled.0
never_kind more (Err faults.Field) longer settled e = cc
never_kind more (Err faults.Rest) longer settled e = cc

read_known : (second : ℕ) (more : List ℕ) (kind : Kind) → slice_get KINDS second ≡ Some kind → read_message (version ∷ second ∷ more) ≡ after_kind kind more
unfolding read_message read_header read_between read_kind read_byte after_kind header_after
read_known second more kind e = rw e refl

read_unknown : (second : ℕ) (more : List ℕ) → slice_get KINDS second ≡ None → read_message (version ∷ second ∷ more) ≡ Err faults.Kind
unfolding read_message read_header read_between read_kind read_byte
read_unknown second more e = rw e refl

read_other_version : (first : ℕ) (bytes : List ℕ) → is_between version version first ≡ false → read_message (first ∷ bytes) ≡ Err faults.Field
unfolding read_message read_header read_between read_byte
read_other_version first bytes e = rw e refl

read_version_alone : read_message (version ∷ []) ≡ Err faults.Short
unfolding read_message read_header read_between read_kind read_byte
read_version_alone = refl

read_no_bytes : read_message [] ≡ Err faults.Short
unfolding read_message read_header read_between read_byte
read_no_bytes = refl

-- the second byte, behind the version's
second_is : (second : ℕ) (more : List ℕ) → alone (read_message (version ∷ second ∷ more)) ≡ Err faults.Kind → NamesNoKind (version ∷ second ∷ more)
second_is second more e =
    elim ((slice_get_cases KINDS second).1) [
      | inl there ↦
          let known = read_known second more there.0 there.2 in
          absurd (never_kind [] (after_kind there.0 more) (after_kind there.0 (more ++ [])) ((settles_after_kind there.0).run more []) (rw (← known) e))
      | inr past ↦ record { second = second; more = more; text = refl; above = past.0 }
    ]

behind_version : (bytes : List ℕ) → alone (read_message (version ∷ bytes)) ≡ Err faults.Kind → NamesNoKind (version ∷ bytes)
behind_version [] e =
    let short = read_version_alone in
    absurd cc
behind_version (second ∷ more) e = second_is second more e

kind_is : (bytes : List ℕ) → alone (read_message bytes) ≡ Err faults.Kind → NamesNoKind bytes
kind_is [] e =
    let short = read_no_bytes in
    absurd cc
kind_is (first ∷ bytes) e =
    elim (cases_Bool (is_between version version first)) [
      | inl this ↦
          let same : first ≡ version = omega (arith, between_low version version first this, between_high version version first this) in
          subst (λ (n : ℕ). alone (read_message (n ∷ bytes)) ≡ Err faults.Kind → NamesNoKind (n ∷ bytes)) (sym same) (behind_version bytes) e
      | inr other ↦
          let field = read_other_version first bytes other in
          absurd cc
    ]

kind_there : (bytes : List ℕ) → NamesNoKind bytes → alone (read_message bytes) ≡ Err faults.Kind
kind_there bytes names = rw (names.text, read_unknown names.second names.more (slice_get_past KINDS names.second names.above)) refl

pub kind_is_second_byte : KindIsSecondByte
unfolding read_packet
kind_is_second_byte bytes = (kind_is bytes, kind_there bytes)

pub version_is_first_byte : VersionIsFirstByte
unfolding read_packet
version_is_first_byte first more other =
    elim (cases_Bool (is_between version version first)) [
      | inl this ↦ absurd (other (omega (arith, between_low version version first this, between_high version version first this)))
      | inr not_this ↦ rw (read_other_version first more not_this) refl
    ]
